-- The steps that commands make of a call, one command after the other, with the line of each.
use Rattle.std.proofs.Common.{◌≡◌, ◌≢◌, ℕ, zero, suc, ◌+◌, ◌-◌, ◌<◌, ◌⊎◌, Bool, true, false, not, List, [], ◌∷◌, ◌++◌}
use Rattle.std.proofs.Common.{map, replicate, length, take, Some, inl, inr, refl, ap, sym, subst, ◌∙◌, arith, append_assoc}
use Rattle.std.specs.Prelude.{All}
use Rattle.std.specs.Io.KnownBytes.{Appends}
use Rattle.std.proofs.KnownBytes.{Appends-trans, Appends-nil}
use Rattle.std.proofs.Math.Seq.{take-append_seam}
use Rattle.std.proofs.lemmas.List.{append-nil, length-append}
use Rattle.std.proofs.lemmas.List.Elements.{All-take}
use Rattle.raster.specs.Pages.{PagePixels, IsPage, IsDocument}
use Rattle.stations.specs.CallerFields.{AreCallable}
use Rattle.stations.specs.Laws.{Each}
use Rattle.stations.specs.Layers.{Document, IsFullPage}
use Rattle.line_sim.specs.Entries.{and_entries, entries, entry_of, is_refused}
use Rattle.line_sim.specs.Headline.{IsSafe, IsSafeWorld, RunsAreSafe}
use Rattle.line_sim.specs.Line.{World, Outcome, Done, Nothing, InputLost, Cut, run}
use Rattle.line_sim.specs.PageMachine.{IsBeginning}
use Rattle.line_sim.specs.Polite.{and_on, next_steps, polite_steps}
use Rattle.line_sim.specs.Putting.{Puts}
use Rattle.line_sim.specs.Represents.{Acts, Shows}
use Rattle.line_sim.specs.declared.call.Call.{Call}
use Rattle.line_sim.specs.declared.event.Entry.{Entry}
use Rattle.line_sim.specs.declared.event.Event.{Event}
use Rattle.line_sim.specs.declared.event.Event.TheVariants.{AnswererT2, DeliverToCaller}
use Rattle.line_sim.specs.declared.live.Ending.{Ending}
use Rattle.line_sim.proofs.Transcripts.{run_both, entries_both}
use Rattle.calls.specs.Calls.{EndsAs, HaveRows, LeavesTold, MakeAll, MakesNext, Steps, StopsPolite, TellsCall, TellsCommand}
use Rattle.calls.specs.Calls.{TellsCommands}
use Rattle.calls.specs.Calls.{TellsEvent, TellsNext, TellsSteps, answerer_caps, call_world, caller_wish}
use Rattle.calls.specs.Transcripts.{ending_text, entry_line, entry_lines}
use Rattle.calls.specs.declared.options.CallOptions.{CallOptions}
use Rattle.calls.specs.declared.script.Command.{Command}
use Rattle.calls.specs.declared.script.Command.TheVariants.{Events, Polite}
use Rattle.calls.specs.SentBits.{WritesAfter, WritesLines, Written}
use Rattle.calls.specs.declared.counts.Counts.{Counts}
use Rattle.calls.proofs.EntryLines.{lines_both}
use Rattle.calls.proofs.SentItems.{AreCounted, call_sent, event_sent, no_counts, none_sent, sent_on}

-- ---- steps and then others

pub none_told : (v : Call) (w : World) (first : ℕ) (at : Written) → Shows v w → TellsSteps [] w v first first at at
none_told v w first at shows = record {
  shows = shows;
  each = refl;
  written = Appends-nil at.lines;
  number = omega arith;
  sent = λ to. none_sent to w at;
}

pub told_on : (now new : Call) (w : World) (xs ys : Steps) (first mid next : ℕ) (before at after : Written) →
    TellsSteps xs w now first mid before at → TellsSteps ys (run xs w) new mid next at after →
    TellsSteps (xs ++ ys) w new first next before after
told_on now new w xs ys first mid next before at after one more =
    let some : List Entry = entries xs w in
    let others : List Entry = entries ys (run xs w) in
    let all : entries (xs ++ ys) w ≡ some ++ others = entries_both xs ys w in
    let place : mid ≡ first + length some = one.number ∙ ap (λ n. first + n) (sym one.each) in
    let steps : length (xs ++ ys) ≡ length xs + length ys = length-append xs ys in
    record {
      shows = subst (Shows new) (sym (run_both xs ys w)) more.shows;
      each = ap length all ∙ (length-append some others ∙ (ap (λ n. n + length others) one.each ∙
          (ap (λ n. length xs + n) more.each ∙ sym steps)));
      written = subst (Appends before.lines after.lines) (sym (ap (entry_lines first) all ∙ (lines_both first some others ∙
          ap (λ n. entry_lines first some ++ entry_lines n others) (sym place))))
          (Appends-trans before.lines at.lines after.lines _ _ one.written more.written);
      number = (let a = one.number in let b = more.number in omega (arith, a, b, steps));
      sent = λ to. sent_on to xs ys w before at after (one.sent to) (more.sent to);
    }

-- ---- an event with its line

refused_is : (w : World) (event : Event) (outcome : Outcome) (entry : Entry) → entry_of w event outcome ≡ Some entry →
    is_refused outcome ≡ entry.refused
refused_is w event Done entry e = cc
refused_is w event Nothing entry e = absurd (cc)
refused_is w event InputLost entry e = cc
refused_is w event (Cut made) entry e = cc

pub event_told : (old new : Call) (event : Event) (entry : Entry) (w : World) (first next : ℕ) (counts : Counts)
    (before at after : Written) → Acts old new event entry → Puts old new event entry.refused → Shows old w → AreCounted counts old →
    WritesLines before at (entry_line first entry) → WritesAfter counts new at after → next ≡ first + 1 →
    TellsEvent event w new first next before after entry.refused
event_told old new event entry w first next counts before at after acts puts shows counted line wrote more =
    let did = acts.1 w shows in
    let noted : entries ((event, acts.0) ∷ []) w ≡ entry ∷ [] = ap (λ o. and_entries o []) did.1 in (
      acts.0,
      refused_is w event acts.0 entry did.1,
      record {
        shows = did.0;
        each = ap length noted;
        written = subst (Appends before.lines after.lines) (sym (ap (entry_lines first) noted ∙ append-nil (entry_line first entry)))
            (subst (λ o. Appends before.lines o (entry_line first entry)) (sym wrote.lines) line.lines);
        number = more;
        sent = λ to. event_sent to old new event acts.0 entry.refused w counts before at after (entry_line first entry) puts
            (refused_is w event acts.0 entry did.1) shows counted line wrote;
      },
    )

-- ---- an event again and again

pub none_repeated : (event : Event) (v : Call) (w : World) (first : ℕ) (at : Written) → Shows v w →
    TellsCommand (Events event 0) w v first first at at
none_repeated event v w first at shows = ([], refl, none_told v w first at shows)

firsts_more : (steps : Steps) (step : Event × Outcome) → map (λ x. x.0) (steps ++ step ∷ []) ≡ map (λ x. x.0) steps ++ step.0 ∷ []
firsts_more [] step = refl
firsts_more (first ∷ steps) step = ap (λ l. first.0 ∷ l) (firsts_more steps step)

replicate_more : (event : Event) (count : ℕ) → replicate count event ++ event ∷ [] ≡ replicate (suc count) event
replicate_more event zero = refl
replicate_more event (suc count) = ap (λ l. event ∷ l) (replicate_more event count)

-- one time more, whatever became of it
pub repeated : (event : Event) (count : ℕ) (now new : Call) (w : World) (first mid next : ℕ) (before at after : Written) (refused : Bool) →
    TellsCommand (Events event count) w now first mid before at →
    ((u : World) → Shows now u → TellsEvent event u new mid next at after refused) →
    TellsCommand (Events event (count + 1)) w new first next before after
repeated event count now new w first mid next before at after refused told event_is =
    let xs : Steps = told.0 in
    let one = event_is (run xs w) told.2.shows in
    let ys : Steps = (event, one.0) ∷ [] in
    let e : suc count ≡ count + 1 = omega arith in (
      xs ++ ys,
      firsts_more xs (event, one.0) ∙ (ap (λ l. l ++ event ∷ []) told.1 ∙ (replicate_more event count ∙ ap (λ n. replicate n event) e)),
      told_on now new w xs ys first mid next before at after told.2 one.2,
    )

-- ---- the next delivery

outcome_done : (outcome : Outcome) → is_refused outcome ≡ false → outcome ≡ Done
outcome_done Done e = refl
outcome_done Nothing e = absurd (cc)
outcome_done InputLost e = absurd (cc)
outcome_done (Cut made) e = absurd (cc)

outcome_refused : (outcome : Outcome) → is_refused outcome ≡ true → outcome ≢ Done
outcome_refused outcome e is = (let no : is_refused Done ≡ true = subst (λ o. is_refused o ≡ true) is e in absurd (cc))

some_there : (xs : Steps) (x : Event × Outcome) → xs ++ x ∷ [] ≢ []
some_there [] x e = absurd (cc)
some_there (y ∷ ys) x e = absurd (cc)

-- an event that comes last, after others that were whole
last_next : (coming before : Steps) (event : Event) (w : World) (now new : Call) (first mid next : ℕ) (at here after : Written)
    (refused : Bool) →
    coming ≡ before ++ (event, Done) ∷ [] → TellsSteps before w now first mid at here →
    TellsEvent event (run before w) new mid next here after refused →
    (steps : Steps) × MakesNext coming steps (not refused) × TellsSteps steps w new first next at after
last_next coming before event w now new first mid next at here after false is told one =
    let done : one.0 ≡ Done = outcome_done one.0 one.1 in
    let steps : Steps = before ++ (event, one.0) ∷ [] in (
      steps,
      (λ none. some_there before (event, Done) (sym is ∙ none), ap (λ o. before ++ (event, o) ∷ []) done ∙ sym is),
      told_on now new w before ((event, one.0) ∷ []) first mid next at here after told one.2,
    )
last_next coming before event w now new first mid next at here after true is told one = (
  before ++ (event, one.0) ∷ [],
  inr (record {
    before = before;
    event = event;
    following = [];
    outcome = one.0;
    refused = outcome_refused one.0 one.1;
    polite_is = is;
    steps_are = refl;
  }),
  told_on now new w before ((event, one.0) ∷ []) first mid next at here after told one.2,
)

-- what is under way first
pub item_next : (old new : Call) (event : Event) (w : World) (first next : ℕ) (before after : Written) (refused : Bool) → Shows old w →
    next_steps w w.to_answerer w.to_caller ≡ (event, Done) ∷ [] → TellsEvent event w new first next before after refused →
    TellsNext w new first next before after (not refused)
item_next old new event w first next before after refused shows coming told =
    last_next _ [] event w old new first first next before before after refused coming (none_told old w first before shows) told

-- another group, whose T2 is refused
pub group_stops : (new : Call) (w : World) (first next : ℕ) (before after : Written) (refused : Bool) → refused ≡ true →
    next_steps w w.to_answerer w.to_caller ≡ (AnswererT2, Done) ∷ (DeliverToCaller, Done) ∷ [] →
    TellsEvent AnswererT2 w new first next before after refused → TellsNext w new first next before after false
group_stops new w first next before after refused is coming told = (
  (AnswererT2, told.0) ∷ [],
  inr (record {
    before = [];
    event = AnswererT2;
    following = (DeliverToCaller, Done) ∷ [];
    outcome = told.0;
    refused = outcome_refused told.0 (told.1 ∙ is);
    polite_is = coming;
    steps_are = refl;
  }),
  told.2,
)

-- another group
pub group_next : (now new : Call) (w : World) (first mid next : ℕ) (before at after : Written) (group_refused refused : Bool) →
    group_refused ≡ false → next_steps w w.to_answerer w.to_caller ≡ (AnswererT2, Done) ∷ (DeliverToCaller, Done) ∷ [] →
    TellsEvent AnswererT2 w now first mid before at group_refused →
    ((u : World) → Shows now u → TellsEvent DeliverToCaller u new mid next at after refused) →
    TellsNext w new first next before after (not refused)
group_next now new w first mid next before at after group_refused refused is coming told more =
    let one : TellsSteps ((AnswererT2, Done) ∷ []) w now first mid before at =
    subst (λ o. TellsSteps ((AnswererT2, o) ∷ []) w now first mid before at) (outcome_done told.0 (told.1 ∙ is)) told.2 in
    last_next _ ((AnswererT2, Done) ∷ []) DeliverToCaller w now new first mid next before at after refused coming one
    (more (run ((AnswererT2, Done) ∷ []) w) one.shows)

pub nothing_next : (v : Call) (w : World) (first : ℕ) (at : Written) → Shows v w → next_steps w w.to_answerer w.to_caller ≡ [] →
    TellsNext w v first first at at false
nothing_next v w first at shows coming = ([], inl (coming, refl), none_told v w first at shows)

-- ---- a polite run

-- deliveries of a polite run, so many of them, which were told, and after which the rest of it comes
pub record Along (delivered : ℕ) (w : World) (now : Call) (first next : ℕ) (before at : Written) : Type 0 where
  pub steps : Steps
  pub rest : (more : ℕ) → polite_steps (delivered + more) w ≡ steps ++ polite_steps more (run steps w)
  pub told : TellsSteps steps w now first next before at

pub at_start : (v : Call) (w : World) (first : ℕ) (at : Written) → Shows v w → Along 0 w v first first at at
at_start v w first at shows = record {
  steps = [];
  rest = λ more. (let e : 0 + more ≡ more = omega arith in ap (λ n. polite_steps n w) e);
  told = none_told v w first at shows;
}

some_on : (steps : Steps) (rest : World → Steps) (w : World) → steps ≢ [] → and_on steps rest w ≡ steps ++ rest (run steps w)
some_on [] rest w some = absurd (some refl)
some_on (step ∷ steps) rest w some = refl

pub one_along : (delivered : ℕ) (w : World) (now new : Call) (first mid next : ℕ) (before at after : Written) (whole : Bool) →
    whole ≡ true → Along delivered w now first mid before at →
    ((u : World) → Shows now u → TellsNext u new mid next at after whole) → Along (delivered + 1) w new first next before after
one_along delivered w now new first mid next before at after whole is along more =
    let xs : Steps = along.steps in
    let u : World = run xs w in
    let one : TellsNext u new mid next at after true = subst (TellsNext u new mid next at after) is (more u along.told.shows) in
    let ys : Steps = one.0 in
    let coming : Steps = next_steps u u.to_answerer u.to_caller in
    let some : ys ≢ [] = λ none. one.1.0 (sym one.1.1 ∙ none) in
    record {
      steps = xs ++ ys;
      rest = λ left. (
          let e : delivered + 1 + left ≡ delivered + suc left = omega arith in
          ap (λ n. polite_steps n w) e ∙ (along.rest (suc left) ∙ (ap (λ l. xs ++ and_on l (polite_steps left) u) (sym one.1.1) ∙
          (ap (λ l. xs ++ l) (some_on ys (polite_steps left) u some) ∙ (sym (append_assoc xs ys (polite_steps left (run ys u))) ∙
          ap (λ v. (xs ++ ys) ++ polite_steps left v) (sym (run_both xs ys w)))))));
      told = told_on now new w xs ys first mid next before at after along.told one.2;
    }

pub all_along : (delivered most : ℕ) (w : World) (now : Call) (first next : ℕ) (before at : Written) → delivered ≡ most →
    Along delivered w now first next before at → TellsCommand (Polite most) w now first next before at
all_along delivered most w now first next before at all along =
    let e : delivered + 0 ≡ most = omega (arith, all) in
    (along.steps, inl (sym (ap (λ n. polite_steps n w) (sym e) ∙ (along.rest 0 ∙ append-nil along.steps))), along.told)

none_on : (steps : Steps) (rest : World → Steps) (w : World) → steps ≡ [] → and_on steps rest w ≡ []
none_on [] rest w none = refl
none_on (step ∷ steps) rest w none = absurd (cc)

stopped_on : (before : Steps) (step : Event × Outcome) (following : Steps) (rest : World → Steps) (w : World) (steps : Steps) →
    steps ≡ before ++ step ∷ following →
    and_on steps rest w ≡ before ++ step ∷ (following ++ rest (run steps w))
stopped_on [] step following rest w [] e = absurd (cc)
stopped_on [] step following rest w (x ∷ xs) e = ap (λ l. l ++ rest (run (x ∷ xs) w)) e
stopped_on (first ∷ before) step following rest w [] e = absurd (cc)
stopped_on (first ∷ before) step following rest w (x ∷ xs) e =
    ap (λ l. l ++ rest (run (x ∷ xs) w)) e ∙ append_assoc (first ∷ before) (step ∷ following) (rest (run (x ∷ xs) w))

end_of : (all xs coming ys : Steps) (rest : World → Steps) (u : World) → all ≡ xs ++ and_on coming rest u → MakesNext coming ys false →
    (xs ++ ys ≡ all) ⊎ StopsPolite all (xs ++ ys)
end_of all xs coming ys rest u whole (inl none) =
    inl (ap (λ l. xs ++ l) (none.1 ∙ sym (none_on coming rest u none.0)) ∙ sym whole)
end_of all xs coming ys rest u whole (inr stop) =
    inr (record {
      before = xs ++ stop.before;
      event = stop.event;
      following = stop.following ++ rest (run coming u);
      outcome = stop.outcome;
      refused = stop.refused;
      polite_is = whole ∙ (ap (λ l. xs ++ l) (stopped_on stop.before (stop.event, Done) stop.following rest u coming stop.polite_is) ∙
          sym (append_assoc xs stop.before ((stop.event, Done) ∷ (stop.following ++ rest (run coming u)))));
      steps_are = ap (λ l. xs ++ l) stop.steps_are ∙ sym (append_assoc xs stop.before ((stop.event, stop.outcome) ∷ []));
    })

-- no delivery comes after these, or not all of one
pub ends_along : (delivered most : ℕ) (w : World) (now new : Call) (first mid next : ℕ) (before at after : Written) (whole : Bool) →
    delivered < most → whole ≡ false → Along delivered w now first mid before at →
    ((u : World) → Shows now u → TellsNext u new mid next at after whole) → TellsCommand (Polite most) w new first next before after
ends_along delivered most w now new first mid next before at after whole within is along more =
    let xs : Steps = along.steps in
    let u : World = run xs w in
    let one : TellsNext u new mid next at after false = subst (TellsNext u new mid next at after) is (more u along.told.shows) in
    let left : ℕ = most - (delivered + 1) in
    let e : most ≡ delivered + suc left = omega (arith, within) in
    let all : polite_steps most w ≡ xs ++ and_on (next_steps u u.to_answerer u.to_caller) (polite_steps left) u =
    ap (λ n. polite_steps n w) e ∙ along.rest (suc left) in (
      xs ++ one.0,
      end_of (polite_steps most w) xs (next_steps u u.to_answerer u.to_caller) one.0 (polite_steps left) u all one.1,
      told_on now new w xs one.0 first mid next before at after along.told one.2,
    )

-- ---- commands

pub none_followed : (v : Call) (w : World) (first : ℕ) (at : Written) → Shows v w → TellsCommands [] w v first first at at
none_followed v w first at shows = ([], refl, none_told v w first at shows)

make_both : (commands others : List Command) (w : World) (xs ys : Steps) → MakeAll commands w xs → MakeAll others (run xs w) ys →
    MakeAll (commands ++ others) w (xs ++ ys)
make_both [] others w xs ys none made =
    let last : MakeAll others w ys = subst (λ l. MakeAll others (run l w) ys) none made in
    subst (λ l. MakeAll others w (l ++ ys)) (sym none) last
make_both (first ∷ commands) others w xs ys (front, rest, are, makes_front, makes_rest) made =
    let there : run xs w ≡ run rest (run front w) = ap (λ l. run l w) are ∙ run_both front rest w in (
      front,
      rest ++ ys,
      ap (λ l. l ++ ys) are ∙ append_assoc front rest ys,
      makes_front,
      make_both commands others (run front w) rest ys makes_rest (subst (λ u. MakeAll others u ys) there made),
    )

-- commands, and then others
pub both_followed : (commands others : List Command) (now new : Call) (w : World) (first mid next : ℕ) (before at after : Written) →
    TellsCommands commands w now first mid before at →
    ((u : World) → Shows now u → TellsCommands others u new mid next at after) →
    TellsCommands (commands ++ others) w new first next before after
both_followed commands others now new w first mid next before at after told more =
    let one = more (run told.0 w) told.2.shows in (
      told.0 ++ one.0,
      make_both commands others w told.0 one.0 told.1 one.1,
      told_on now new w told.0 one.0 first mid next before at after told.2 one.2,
    )

-- one command
pub one_followed : (command : Command) (new : Call) (w : World) (first next : ℕ) (before after : Written) →
    TellsCommand command w new first next before after → TellsCommands (command ∷ []) w new first next before after
one_followed command new w first next before after told =
    (told.0, (told.0, [], sym (append-nil told.0), told.1, refl), told.2)

-- ---- a whole call

-- pages of a document are full
pub full_pages : (pages : List PagePixels) → All IsPage pages → All (λ (page : PagePixels). 0 < length page.rows) pages
    → Each IsFullPage pages
full_pages [] valid some = tt
full_pages (page ∷ pages) valid some = (
  record { valid = valid 0 page (omega arith); some = some 0 page (omega arith) },
  full_pages pages (λ k d within. valid (suc k) d (omega arith)) (λ k d within. some (suc k) d (omega arith)),
)

-- what is safe of a world is safe of what it leaves
pub safe_told : (document : Document) (ending : Ending) (w : World) → EndsAs ending w → IsSafeWorld document w →
    IsSafe document ending.pages.items ending.confirmed ending.caller_end ending.answerer_end
safe_told document ending w ends safe = rw (ends.pages, ends.confirmed, ends.caller_end, ends.answerer_end) safe

-- the steps that commands make of a new world, told, and then what they leave
pub tells_call : RunsAreSafe → (options : CallOptions) (document : Document) (commands : List Command) (start end : Call) (ending : Ending)
    (next : ℕ) (before begun at after : Written) → IsDocument document → AreCallable document → Shows start (call_world options document) →
    WritesAfter no_counts start before begun →
    ((w : World) → Shows start w → TellsCommands commands w end 1 next begun at) → ((w : World) → Shows end w → EndsAs ending w) →
    WritesLines at after (ending_text ending) → LeavesTold options document commands before after ending
tells_call runs options document commands start end ending next before begun at after is callable shows begins follows ends line =
    let f = follows (call_world options document) shows in
    let steps : Steps = f.0 in
    let w : World = run steps (call_world options document) in (
      record {
        callable = callable;
        steps = steps;
        made = f.1;
        each = f.2.each;
        ending = ending;
        ends = ends w f.2.shows;
        written = Appends-trans before.lines at.lines after.lines (entry_lines 1 (entries steps (call_world options document)))
            (ending_text ending)
            (subst (λ o. Appends o at.lines (entry_lines 1 (entries steps (call_world options document)))) begins.lines f.2.written)
            line.lines;
        sent = λ to. call_sent to steps (call_world options document) start before begun at after (ending_text ending) shows begins
            (f.2.sent to) line;
        answered = refl;
        safe = safe_told document ending w (ends w f.2.shows)
            (runs document (caller_wish options) (answerer_caps options.modems) steps (full_pages document is.valid is.rows));
      },
      refl,
    )

-- the first pages of a document have rows
pub beginning_rows : (pages document : List PagePixels) → IsBeginning pages document → HaveRows document → HaveRows pages
beginning_rows pages document begins some =
    subst HaveRows (ap (take (length pages)) (sym begins.1) ∙ take-append_seam pages begins.0)
    (All-take (λ (page : PagePixels). 0 < length page.rows) (length pages) document some)

-- so have the pages that a call answers
pub told_rows : (options : CallOptions) (document : Document) (commands : List Command) (before after : Written) (pages : List PagePixels) →
    TellsCall options document commands before after pages → HaveRows document → HaveRows pages
told_rows options document commands before after pages told some =
    subst HaveRows (sym told.answered) (beginning_rows told.ending.pages.items document told.safe.beginning some)

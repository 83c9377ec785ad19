-- Deliveries one after the other.
use Rattle.std.proofs.Common.{◌≡◌, ◌≢◌, ℕ, zero, suc, ◌+◌, ◌-◌, ◌<◌, Bool, true, false, cond, List, [], ◌∷◌, ◌++◌, refl, ap, sym}
use Rattle.std.proofs.Common.{subst, ◌∙◌, arith}
use Rattle.stations.specs.Inputs.{PlainItem}
use Rattle.line_sim.specs.Delivering.{Made, Stopped}
use Rattle.line_sim.specs.Entries.{entries}
use Rattle.line_sim.specs.Line.{World, Outcome, Done, run}
use Rattle.line_sim.specs.Polite.{is_between_groups, next_steps, and_on, polite_steps, is_delivery, count_deliveries}
use Rattle.line_sim.specs.Represents.{Shows, WorldFields, Becomes, BecomesSome}
use Rattle.line_sim.specs.declared.event.Event.{Event}
use Rattle.line_sim.specs.declared.event.Event.TheVariants.{DeliverToAnswerer, DeliverToCaller, AnswererT2}
use Rattle.line_sim.proofs.Lists.{append_nil, append_assoc_lem}
use Rattle.line_sim.proofs.Transcripts.{run_both, entries_both}

abbrev pub Steps : Type 0
Steps = List (Event × Outcome)

-- the next steps by what is under way
to_answerer_next : (w : World) (items others : List PlainItem) → items ≢ [] → next_steps w items others ≡ (DeliverToAnswerer, Done) ∷ []
to_answerer_next w [] others some = absurd (some refl)
to_answerer_next w (item ∷ items) others some = refl

to_caller_next : (w : World) (items others : List PlainItem) → items ≡ [] → others ≢ [] →
    next_steps w items others ≡ (DeliverToCaller, Done) ∷ []
to_caller_next w [] [] none some = absurd (some refl)
to_caller_next w [] (item ∷ others) none some = refl
to_caller_next w (item ∷ items) others none some = absurd (cc)

between_next : (w : World) (items others : List PlainItem) (b : Bool) → items ≡ [] → others ≡ [] → is_between_groups w ≡ b →
    next_steps w items others ≡ cond b ((AnswererT2, Done) ∷ (DeliverToCaller, Done) ∷ []) []
between_next w [] [] b none nothing is = ap (λ x. cond x ((AnswererT2, Done) ∷ (DeliverToCaller, Done) ∷ []) []) is
between_next w (item ∷ items) others b none nothing is = absurd (cc)
between_next w [] (item ∷ others) b none nothing is = absurd (cc)

-- steps and more steps
pub made_both : (old now new : WorldFields) (w : World) (xs ys : Steps) → Made old now w xs → Made now new (run xs w) ys →
    Made old new w (xs ++ ys)
made_both old now new w xs ys first second = (
  subst (Shows new.call) (sym (run_both xs ys w)) second.0,
  second.1 ∙ (ap (λ l. l ++ entries ys (run xs w)) first.1 ∙
      (append_assoc_lem old.entries (entries xs w) (entries ys (run xs w)) ∙ ap (λ l. old.entries ++ l) (sym (entries_both xs ys w)))),
)

pub none_made : (v : WorldFields) (w : World) → Shows v.call w → Made v v w []
none_made v w shows = (shows, sym (append_nil v.entries))

one_stopped : (old new : WorldFields) (event : Event) (rest : Steps) (w : World) → Shows old.call w →
    next_steps w w.to_answerer w.to_caller ≡ (event, Done) ∷ rest → BecomesSome old new event →
    Stopped old new w (next_steps w w.to_answerer w.to_caller)
one_stopped old new event rest w shows next some =
    record { before = []; event = event; following = rest; outcome = some.0; refused = some.1; steps_are = next; made = some.2 w shows }

pub answerer_stops : (old new : WorldFields) → old.call.to_answerer ≢ [] → BecomesSome old new DeliverToAnswerer → (w : World) →
    Shows old.call w → Stopped old new w (next_steps w w.to_answerer w.to_caller)
answerer_stops old new some became w shows =
    one_stopped old new DeliverToAnswerer [] w shows
    (to_answerer_next w w.to_answerer w.to_caller (λ e. some (sym shows.to_answerer ∙ e))) became

pub caller_stops : (old new : WorldFields) → old.call.to_answerer ≡ [] → old.call.to_caller ≢ [] → BecomesSome old new DeliverToCaller →
    (w : World) → Shows old.call w → Stopped old new w (next_steps w w.to_answerer w.to_caller)
caller_stops old new none some became w shows =
    one_stopped old new DeliverToCaller [] w shows
    (to_caller_next w w.to_answerer w.to_caller (shows.to_answerer ∙ none) (λ e. some (sym shows.to_caller ∙ e))) became

between_is : (old : WorldFields) (b : Bool) (w : World) → old.call.to_answerer ≡ [] → old.call.to_caller ≡ [] → b ≡ is_between_groups w →
    Shows old.call w →
    next_steps w w.to_answerer w.to_caller ≡ cond b ((AnswererT2, Done) ∷ (DeliverToCaller, Done) ∷ []) []
between_is old b w none nothing is shows =
    between_next w w.to_answerer w.to_caller b (shows.to_answerer ∙ none) (shows.to_caller ∙ nothing) (sym is)

between_steps : (old : WorldFields) (b : Bool) (w : World) → old.call.to_answerer ≡ [] → old.call.to_caller ≡ [] →
    b ≡ is_between_groups w → b ≡ true → Shows old.call w →
    next_steps w w.to_answerer w.to_caller ≡ (AnswererT2, Done) ∷ (DeliverToCaller, Done) ∷ []
between_steps old b w none nothing is holds shows = between_is old b w none nothing is shows ∙
    ap (λ x. cond x ((AnswererT2, Done) ∷ (DeliverToCaller, Done) ∷ []) []) holds

pub group_stops : (old new : WorldFields) (b : Bool) → old.call.to_answerer ≡ [] → old.call.to_caller ≡ [] →
    ((w : World) → Shows old.call w → b ≡ is_between_groups w) → b ≡ true → BecomesSome old new AnswererT2 → (w : World) →
    Shows old.call w →
    Stopped old new w (next_steps w w.to_answerer w.to_caller)
group_stops old new b none nothing is holds became w shows =
    one_stopped old new AnswererT2 ((DeliverToCaller, Done) ∷ []) w shows
    (between_steps old b w none nothing (is w shows) holds shows) became

pub group_comes_not : (old now new : WorldFields) (b : Bool) → old.call.to_answerer ≡ [] → old.call.to_caller ≡ [] →
    ((w : World) → Shows old.call w → b ≡ is_between_groups w) → b ≡ true → Becomes old now AnswererT2 Done →
    BecomesSome now new DeliverToCaller →
    (w : World) → Shows old.call w → Stopped old new w (next_steps w w.to_answerer w.to_caller)
group_comes_not old now new b none nothing is holds t2 became w shows =
    let first : Made old now w ((AnswererT2, Done) ∷ []) = t2 w shows in
    record {
      before = (AnswererT2, Done) ∷ [];
      event = DeliverToCaller;
      following = [];
      outcome = became.0;
      refused = became.1;
      steps_are = between_steps old b w none nothing (is w shows) holds shows;
      made = made_both old now new w ((AnswererT2, Done) ∷ []) ((DeliverToCaller, became.0) ∷ []) first
          (became.2 (run ((AnswererT2, Done) ∷ []) w) first.0);
    }

pub group_comes : (old now new : WorldFields) (b : Bool) → old.call.to_answerer ≡ [] → old.call.to_caller ≡ [] →
    ((w : World) → Shows old.call w → b ≡ is_between_groups w) → b ≡ true → Becomes old now AnswererT2 Done →
    Becomes now new DeliverToCaller Done →
    (w : World) → Shows old.call w → Made old new w (next_steps w w.to_answerer w.to_caller) ×
    (count_deliveries (next_steps w w.to_answerer w.to_caller) ≡ 1)
group_comes old now new b none nothing is holds t2 comes w shows =
    let first : Made old now w ((AnswererT2, Done) ∷ []) = t2 w shows in
    let next : next_steps w w.to_answerer w.to_caller ≡ (AnswererT2, Done) ∷ (DeliverToCaller, Done) ∷ [] =
    between_steps old b w none nothing (is w shows) holds shows in (
      subst (Made old new w) (sym next)
          (made_both old now new w ((AnswererT2, Done) ∷ []) ((DeliverToCaller, Done) ∷ []) first
          (comes (run ((AnswererT2, Done) ∷ []) w) first.0)),
      ap count_deliveries next,
    )

-- steps that go on
goes_on : (steps : Steps) (rest : World → Steps) (w : World) → count_deliveries steps ≡ 1 →
    and_on steps rest w ≡ steps ++ rest (run steps w)
goes_on [] rest w one = absurd (omega arith)
goes_on (step ∷ steps) rest w one = refl

goes_past : (before : Steps) (step : Event × Outcome) (following : Steps) (rest : World → Steps) (w : World) →
    and_on (before ++ step ∷ following) rest w ≡ (before ++ step ∷ following) ++ rest (run (before ++ step ∷ following) w)
goes_past [] step following rest w = refl
goes_past (first ∷ before) step following rest w = refl

count_step : (b : Bool) (m n : ℕ) → cond b (suc (m + n)) (m + n) ≡ cond b (suc m) m + n
count_step true m n = let e : suc (m + n) ≡ suc m + n = omega arith in e
count_step false m n = refl

count_both : (xs ys : Steps) → count_deliveries (xs ++ ys) ≡ count_deliveries xs + count_deliveries ys
count_both [] ys = let n : ℕ = count_deliveries ys in let e : n ≡ 0 + n = omega arith in e
count_both (step ∷ xs) ys =
    ap (λ n. cond (is_delivery step.0) (suc n) n) (count_both xs ys) ∙
    count_step (is_delivery step.0) (count_deliveries xs) (count_deliveries ys)

-- a polite run on its way: so many deliveries were made, and the rest of the run follows
pub record Along (old now : WorldFields) (w : World) (most delivered : ℕ) : Type 0 where
  pub steps : Steps
  pub rest : polite_steps most w ≡ steps ++ polite_steps (most - delivered) (run steps w)
  pub counted : count_deliveries steps ≡ delivered
  pub made : Made old now w steps

pub at_start : (v : WorldFields) (w : World) (most : ℕ) → Shows v.call w → Along v v w most 0
at_start v w most shows =
    record {
      steps = [];
      rest = let e : most ≡ most - 0 = omega arith in ap (λ n. polite_steps n w) e;
      counted = refl;
      made = none_made v w shows;
    }

pub one_on : (old now new : WorldFields) (w : World) (most delivered : ℕ) → delivered < most → Along old now w most delivered →
    ((v : World) → Shows now.call v → Made now new v (next_steps v v.to_answerer v.to_caller) ×
    (count_deliveries (next_steps v v.to_answerer v.to_caller) ≡ 1)) → Along old new w most (delivered + 1)
one_on old now new w most delivered more along delivers =
    let v : World = run along.steps w in
    let next : Steps = next_steps v v.to_answerer v.to_caller in
    let one = delivers v along.made.0 in
    let left : most - delivered ≡ suc (most - (delivered + 1)) = omega arith in
    record {
      steps = along.steps ++ next;
      rest = along.rest ∙
          (ap (λ n. along.steps ++ polite_steps n v) left ∙
          (ap (λ l. along.steps ++ l) (goes_on next (polite_steps (most - (delivered + 1))) v one.1) ∙
          (sym (append_assoc_lem along.steps next (polite_steps (most - (delivered + 1)) (run next v))) ∙
          ap (λ x. (along.steps ++ next) ++ polite_steps (most - (delivered + 1)) x) (sym (run_both along.steps next w)))));
      counted = count_both along.steps next ∙ (ap (λ n. n + count_deliveries next) along.counted ∙ ap (λ n. delivered + n) one.1);
      made = made_both old now new w along.steps next along.made one.0;
    }

none_left : (k : ℕ) (v : World) → next_steps v v.to_answerer v.to_caller ≡ [] → polite_steps k v ≡ []
none_left zero v none = refl
none_left (suc k) v none = ap (λ l. and_on l (polite_steps k) v) none

ends_at : (old now : WorldFields) (w : World) (most delivered : ℕ) → (along : Along old now w most delivered) →
    polite_steps (most - delivered) (run along.steps w) ≡ [] →
    Made old now w (polite_steps most w) × (delivered ≡ count_deliveries (polite_steps most w))
ends_at old now w most delivered along none =
    let is : polite_steps most w ≡ along.steps = along.rest ∙ (ap (λ l. along.steps ++ l) none ∙ append_nil along.steps) in
    (subst (Made old now w) (sym is) along.made, sym along.counted ∙ ap count_deliveries (sym is))

pub none_on : (old now new : WorldFields) (w : World) (most delivered : ℕ) → Along old now w most delivered →
    ((v : World) → Shows now.call v → (new ≡ now) × (next_steps v v.to_answerer v.to_caller ≡ [])) →
    Made old new w (polite_steps most w) × (delivered ≡ count_deliveries (polite_steps most w))
none_on old now new w most delivered along none =
    let v : World = run along.steps w in
    let h = none v along.made.0 in
    subst (λ x. Made old x w (polite_steps most w) × (delivered ≡ count_deliveries (polite_steps most w))) (sym h.0)
    (ends_at old now w most delivered along (none_left (most - delivered) v h.1))

pub stops_on : (old now new : WorldFields) (w : World) (most delivered : ℕ) → delivered < most → Along old now w most delivered →
    ((v : World) → Shows now.call v → Stopped now new v (next_steps v v.to_answerer v.to_caller)) →
    Stopped old new w (polite_steps most w)
stops_on old now new w most delivered more along stops =
    let v : World = run along.steps w in
    let h = stops v along.made.0 in
    let next : Steps = h.before ++ (h.event, Done) ∷ h.following in
    let tail : Steps = polite_steps (most - (delivered + 1)) (run next v) in
    let left : most - delivered ≡ suc (most - (delivered + 1)) = omega arith in
    let goes : and_on (next_steps v v.to_answerer v.to_caller) (polite_steps (most - (delivered + 1))) v ≡ next ++ tail =
    ap (λ l. and_on l (polite_steps (most - (delivered + 1))) v) h.steps_are ∙
    goes_past h.before (h.event, Done) h.following (polite_steps (most - (delivered + 1))) v in
    record {
      before = along.steps ++ h.before;
      event = h.event;
      following = h.following ++ tail;
      outcome = h.outcome;
      refused = h.refused;
      steps_are = along.rest ∙
          (ap (λ n. along.steps ++ polite_steps n v) left ∙
          (ap (λ l. along.steps ++ l) (goes ∙ append_assoc_lem h.before ((h.event, Done) ∷ h.following) tail) ∙
          sym (append_assoc_lem along.steps h.before ((h.event, Done) ∷ (h.following ++ tail)))));
      made = subst (Made old new w) (sym (append_assoc_lem along.steps h.before ((h.event, h.outcome) ∷ [])))
          (made_both old now new w along.steps (h.before ++ (h.event, h.outcome) ∷ []) along.made h.made);
    }

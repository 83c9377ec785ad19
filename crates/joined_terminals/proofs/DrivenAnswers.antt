-- An answer of the answerer is a list of steps.
use Rattle.std.proofs.Common.{◌≡◌, ◌++◌, ◌∷◌, [], List, Bool, true, false, Some, None, Ok, Err, inl, inr, ◌⊎◌, refl, ap, sym, subst, ◌∙◌}
use Rattle.conversations.proofs.Stored.{none_are_left}
use Rattle.conversations.specs.Answering.{StoresAll, StoresEach, limited_behaviour, pages_of}
use Rattle.conversations.specs.Conversations.{ConversationFields, Gives, LosesFrames, PlainGiven, SendsIfBegun, gives, hung_up_so, refused_so}
use Rattle.conversations.specs.Conversations.{with_pages_taken}
use Rattle.conversations.specs.Conversations.{nothing, stopping, losing, frames, input}
use Rattle.conversations.specs.Refusing.{stop_in}
use Rattle.conversations.specs.Talking.{GivesAll, GivesNext, GivesSome, Withholds}
use Rattle.hdlc.specs.DeframerState.{DeframerState}
use Rattle.raster.specs.Pages.{PagePixels}
use Rattle.signals.specs.declared.signal.Side.{Side}
use Rattle.signals.specs.declared.signal.Side.TheVariants.{Answerer as AnswererSide}
use Rattle.stations.specs.Inputs.{PlainItem}
use Rattle.stations.specs.Limiting.{LimitedFields}
use Rattle.terminals.specs.Sending.{Sends}
use Rattle.terminals.specs.Speaking.{BurstsOf, Speaking, is_silent}
use Rattle.terminals.specs.Stopping.{limited_cut_off}
use Rattle.terminals.specs.declared.fault.HearFault.TheVariants.{FrameLost}
use Rattle.terminals.specs.declared.sending.SentBurst.{SentBurst}
use Rattle.conversations.specs.declared.line.TimedLine.{TimedLine}
use Rattle.joined_terminals.specs.Answered.{AnswererAnswers, AnswererBreaksOff, AnswererHasNoMemory, AnswererIsReady, GivesPart}
use Rattle.joined_terminals.specs.Answered.{LeadsAnswerer, answerer_lends, answerer_steps, bursts_in, each_with, hangs_by, hung_up_if, keeps_by, leaves, part_of}
use Rattle.joined_terminals.specs.Answered.{turn_of, withheld}
use Rattle.joined_terminals.specs.Driven.{Driven, answerer_speaks}
use Rattle.joined_terminals.specs.Joining.{if_clear}
use Rattle.joined_terminals.specs.Kept.{DrivesKept, IsKept}
use Rattle.joined_terminals.specs.Octets.{HearingTakes, IsPiece}
use Rattle.joined_terminals.specs.Steps.{AnswererRefusesLine, AnswererTakesLine, Comes, Does, Drives, Step, TurnsSo, appends, silent_unless}
use Rattle.joined_terminals.specs.Steps.Step.{answerer_gives, answerer_line, answerer_refuses, answerer_watches, page_refused, hung_up, pages_stored}
use Rattle.joined_terminals.proofs.DrivenCallers.{given_next}
use Rattle.std.specs.Prelude.{◌&&◌, map}
use Rattle.std.proofs.lemmas.List.{map-append}

pub drives_both : (some more : List Step) (a b c : Driven) → Drives some a b → Drives more b c → Drives (some ++ more) a c
drives_both [] more a b c p q = subst (λ (x : Driven). Drives more x c) p q
drives_both (step ∷ some) more a b c p q = (p.0, p.1, drives_both some more p.0 b c p.2 q)

pub kept_both : (some more : List Step) (a b c : Driven) → DrivesKept some a b → DrivesKept more b c → DrivesKept (some ++ more) a c
kept_both [] more a b c p q = subst (λ (x : Driven). DrivesKept more x c) p q
kept_both (step ∷ some) more a b c p q = (p.0, p.1, p.2, kept_both some more p.0 b c p.3 q)

-- no burst is left: nothing has changed
pub none_given : {S : Type 0} (side : Side) (lends : BurstsOf S) (begun : Bool) (old new : ConversationFields S) →
    SendsIfBegun {E = Unit {0}} side lends begun old new (Ok None) → new ≡ old
none_given side lends false old new h = h.0
none_given {S} side lends true old new h =
    h.2 ∙
    (ap (λ (f : DeframerState). record old { terminal = record { framing = f; speaking = new.terminal.speaking } }) h.1 ∙
    ap (λ (s : Speaking S). record old { terminal = record { framing = old.terminal.framing; speaking = s } }) h.0.2.1)

-- a burst is given of those that the station has
pub one_given : {S : Type 0} (side : Side) (lends : BurstsOf S) (begun : Bool) (old new : ConversationFields S) (sent : SentBurst) →
    SendsIfBegun {E = Unit {0}} side lends begun old new (Ok (Some sent)) →
    Sends {E = Unit {0}} side lends old.terminal.speaking new.terminal.speaking (Ok (Some sent))
one_given side lends false old new sent h = absurd (cc)
one_given side lends true old new sent h = h.0

-- the steps lead to where the answerer and the store are these
record Goes (steps : List Step) (old : Driven) (answerer : ConversationFields LimitedFields) (stored unkept : List PagePixels) :
    Type 0 where
  last : Driven
  drives : DrivesKept steps old last
  is : last.answerer ≡ answerer
  stored_is : last.stored ≡ stored
  unkept_is : last.unkept ≡ unkept
  caller_is : last.caller ≡ old.caller

goes_by : (step : Step) (old new : Driven) → IsKept step old → Does step old new → new.caller ≡ old.caller →
    Goes (step ∷ []) old new.answerer new.stored new.unkept
goes_by step old new may h e =
    record { last = new; drives = (new, may, h, refl); is = refl; stored_is = refl; unkept_is = refl; caller_is = e }

goes_on : {some more : List Step} {a b : ConversationFields LimitedFields} {s t u v : List PagePixels} (old : Driven) →
    Goes some old a s u → ((d : Driven) → d.answerer ≡ a → d.stored ≡ s → d.unkept ≡ u → Goes more d b t v) → Goes (some ++ more) old b t v
goes_on {some} {more} old one next =
    let two = next one.last one.is one.stored_is one.unkept_is in
    record {
      last = two.last;
      drives = kept_both some more old one.last two.last one.drives two.drives;
      is = two.is;
      stored_is = two.stored_is;
      unkept_is = two.unkept_is;
      caller_is = two.caller_is ∙ one.caller_is;
    }

spoken_goes : (step : Step) (silent : Bool) (old new : Driven) → IsKept step old → Does step old (answerer_speaks silent new) →
    new.caller ≡ old.caller → Goes (step ∷ []) old new.answerer new.stored new.unkept
spoken_goes step true old new may h e = goes_by step old new may h e
spoken_goes step false old new may h e = goes_by step old (answerer_speaks false new) may h e

module _ (law : HearingTakes) where
  pub turns_of : (old : Driven) (heard : ConversationFields LimitedFields) (others : List PlainItem) (given : PlainGiven) (brought : Bool) →
      Gives limited_behaviour old.answerer.terminal given heard.terminal brought →
      (comes : Comes IsPiece old.answerer.terminal.framing old.to_answerer given others) →
      (silent : Bool) ×
      TurnsSo limited_behaviour IsPiece old.answerer.terminal old.to_answerer others given comes heard.terminal silent
  turns_of old heard others nothing brought h comes = (true, refl)
  turns_of old heard others stopping brought h comes = (is_silent (limited_behaviour.stop_says old.answerer.terminal.speaking.station), refl)
  turns_of old heard others losing brought h comes = (true, refl)
  turns_of old heard others (frames octets) brought h comes =
      law.answerer old.answerer.terminal heard.terminal octets comes.0 (Ok tt) h.0 comes.1
  turns_of old heard others (input x) brought h comes = (is_silent h.1.turn, (h.1, refl))

  line_goes : (line : TimedLine) (kept : Bool) (old : Driven) (ready : ConversationFields LimitedFields) (stored : List PagePixels) →
      old.unkept ≡ [] → (h : AnswererIsReady line kept old ready stored) → Goes (answerer_line line ∷ []) old h.heard old.stored []
  line_goes line kept old ready stored none h =
      let given : PlainGiven = gives limited_behaviour old.answerer h.takes.shown line in
      let turns = turns_of old h.heard h.others given h.takes.brought h.takes.given h.comes in
      let takes : AnswererTakesLine line old
      (answerer_speaks turns.0 (record old { answerer = h.heard; to_answerer = h.others })) = record {
        all_kept = none;
        answerer = h.heard;
        takes = h.takes;
        given = record { others = h.others; comes = h.comes; silent = turns.0; turns = turns.1; is = refl };
      } in
      subst (λ u. Goes (answerer_line line ∷ []) old h.heard old.stored u) none
      (spoken_goes (answerer_line line) turns.0 old (record old { answerer = h.heard; to_answerer = h.others }) none takes refl)

  pub lost_turns : (old : Driven) (new : ConversationFields LimitedFields) (others : List PlainItem) (given : PlainGiven) →
      LosesFrames limited_behaviour old.answerer.terminal given new.terminal →
      (comes : Comes IsPiece old.answerer.terminal.framing old.to_answerer given others) →
      (silent : Bool) × TurnsSo limited_behaviour IsPiece old.answerer.terminal old.to_answerer others given comes new.terminal silent
  lost_turns old new others (frames octets) loses comes =
      law.answerer old.answerer.terminal new.terminal octets comes.0 (Err FrameLost) loses comes.1
  lost_turns old new others nothing loses comes = absurd loses
  lost_turns old new others stopping loses comes = absurd loses
  lost_turns old new others losing loses comes = absurd loses
  lost_turns old new others (input x) loses comes = absurd loses

  no_memory : (line : TimedLine) (old : Driven) (new : ConversationFields LimitedFields) → old.unkept ≡ [] →
      AnswererHasNoMemory line old new → Goes (answerer_refuses line ∷ []) old new old.stored old.unkept
  no_memory line old new none h = at h.refuses.given
    where
      given : PlainGiven
      given = gives limited_behaviour old.answerer h.refuses.shown line

      at : (new.terminal ≡ old.answerer.terminal) ⊎ LosesFrames limited_behaviour old.answerer.terminal given new.terminal →
          Goes (answerer_refuses line ∷ []) old new old.stored old.unkept
      at (inl e) =
          let refuses : AnswererRefusesLine line old (record old { answerer = new }) =
          record { answerer = new; refuses = h.refuses; given = inl (e, refl) } in
          spoken_goes (answerer_refuses line) true old (record old { answerer = new }) none refuses refl
      at (inr loses) =
          let turns = lost_turns old new h.others given loses h.comes in
          let refuses : AnswererRefusesLine line old
          (answerer_speaks turns.0 (record old { answerer = new; to_answerer = h.others })) = record {
            answerer = new;
            refuses = h.refuses;
            given = inr
                (loses, record { others = h.others; comes = h.comes; silent = turns.0; turns = turns.1; is = refl });
          } in
          spoken_goes (answerer_refuses line) turns.0 old (record old { answerer = new; to_answerer = h.others }) none refuses refl

watch_goes : (d : Driven) (heard : ConversationFields LimitedFields) (s : List PagePixels) → d.answerer ≡ heard → d.stored ≡ s →
    d.unkept ≡ [] → Goes (answerer_watches ∷ []) d (refused_so limited_behaviour heard) s []
watch_goes d heard s e f none =
    let silent : Bool =
    silent_unless (stop_in d.answerer.watch) (is_silent (limited_behaviour.stop_says d.answerer.terminal.speaking.station)) in
    subst (λ x. Goes (answerer_watches ∷ []) d (refused_so limited_behaviour x) s []) e
    (subst (λ x. Goes (answerer_watches ∷ []) d (refused_so limited_behaviour d.answerer) x []) f
    (subst (λ x. Goes (answerer_watches ∷ []) d (refused_so limited_behaviour d.answerer) d.stored x) none
    (spoken_goes answerer_watches silent d (record d { answerer = refused_so limited_behaviour d.answerer }) none refl refl)))

-- the pages are stored, or one is refused
record Stored (kept : Bool) (d : Driven) (ready : ConversationFields LimitedFields) (stored : List PagePixels) : Type 0 where
  unkept : List PagePixels
  goes : Goes (keeps_by kept ∷ []) d ready stored unkept
  none : kept ≡ true → unkept ≡ []
  left : pages_of ready ≡ []

pages_go : (kept : Bool) (d : Driven) (ready : ConversationFields LimitedFields) (stored : List PagePixels) → d.unkept ≡ [] →
    StoresAll appends leaves d.answerer ready d.stored stored kept → Stored kept d ready stored
pages_go true d ready stored none h =
    record {
      unkept = d.unkept;
      goes = subst (λ x. Goes (pages_stored ∷ []) d x stored d.unkept) (sym h.1)
          (goes_by pages_stored d (record d { answerer = with_pages_taken d.answerer; stored = stored }) none
          (record { all_kept = none; stored = stored; stores = h.0; is = refl }) refl);
      none = λ e. none;
      left = ap pages_of h.1 ∙ (none_are_left d.answerer).0;
    }
pages_go false d ready stored none h =
    record {
      unkept = h.0.1 ∷ h.0.2;
      goes = subst (λ x. Goes (page_refused ∷ []) d x stored (h.0.1 ∷ h.0.2)) (sym h.1)
          (goes_by page_refused d
          (answerer_speaks false
          (record d {
            answerer = hung_up_so limited_cut_off (with_pages_taken d.answerer);
            stored = stored;
            unkept = h.0.1 ∷ h.0.2;
          })) none
          (record {
            all_kept = none;
            front = h.0.0;
            refused = h.0.1;
            rest = h.0.2;
            split = h.0.4;
            stored = stored;
            stores = subst (λ x. StoresEach appends d.stored h.0.0 x) (sym h.0.6) h.0.5;
            is = refl;
          }) refl);
      none = λ e. absurd (cc);
      left = ap pages_of h.1 ∙ (none_are_left d.answerer).1;
    }

burst_goes : (sent : SentBurst) (sends : Bool) (d : Driven) (mid : ConversationFields LimitedFields) → pages_of d.answerer ≡ [] →
    GivesNext AnswererSide answerer_lends d.answerer (Some sent) mid → Goes (answerer_gives sent sends ∷ []) d mid d.stored d.unkept
burst_goes sent sends d mid none h =
    let is = one_given AnswererSide answerer_lends d.answerer.begun d.answerer mid sent h in
    goes_by (answerer_gives sent sends) d
    (record d { answerer = mid; to_caller = d.to_caller ++ if_clear (sends && d.answerer_clear) is.2.0.items }) none
    (record {
      answerer = mid;
      gives = h;
      bursts = is.0;
      lent = is.1;
      burst = is.2.0;
      later = is.2.1;
      next = is.2.2;
      is_sent = is.2.3;
      is = refl;
    }) refl

-- a burst is given, and the next steps go on from there
next_goes : {more : List Step} (sent : SentBurst) (sends : Bool) (d : Driven) (mid new : ConversationFields LimitedFields) →
    pages_of d.answerer ≡ [] → GivesNext AnswererSide answerer_lends d.answerer (Some sent) mid →
    ((x : Driven) → x.answerer ≡ mid → pages_of x.answerer ≡ [] → Goes more x new x.stored x.unkept) →
    Goes (answerer_gives sent sends ∷ more) d new d.stored d.unkept
next_goes {more} sent sends d mid new none h next =
    let after : pages_of mid ≡ [] =
    ap (λ (v : Speaking LimitedFields). v.station.station.pages)
    (given_next AnswererSide answerer_lends d.answerer mid sent d.answerer.begun h).speaking ∙ none in
    goes_on d (burst_goes sent sends d mid none h)
    (λ x e f g. subst (λ s. Goes more x new s d.unkept) f
    (subst (λ u. Goes more x new x.stored u) g (next x e (ap pages_of e ∙ after))))

-- the steps by which bursts are given
abbrev steps_of : List (SentBurst × Bool) → List Step
steps_of given = map (λ (one : SentBurst × Bool). answerer_gives one.0 one.1) given

all_go : (given : List (SentBurst × Bool)) (d : Driven) (new : ConversationFields LimitedFields) → pages_of d.answerer ≡ [] →
    GivesAll AnswererSide answerer_lends d.answerer (bursts_in given) new → Goes (steps_of given) d new d.stored d.unkept
all_go [] d new none h =
    record {
      last = d;
      drives = refl;
      is = sym (none_given AnswererSide answerer_lends d.answerer.begun d.answerer new h);
      stored_is = refl;
      unkept_is = refl;
      caller_is = refl;
    }
all_go (one ∷ given) d new none h =
    next_goes one.0 one.1 d h.0 new none h.1
    (λ x e left. all_go given x new left (subst (λ c. GivesAll AnswererSide answerer_lends c (bursts_in given) new) (sym e) h.2))

some_go : (given : List (SentBurst × Bool)) (d : Driven) (new : ConversationFields LimitedFields) → pages_of d.answerer ≡ [] →
    GivesSome AnswererSide answerer_lends d.answerer (bursts_in given) new → Goes (steps_of given) d new d.stored d.unkept
some_go [] d new none h = record { last = d; drives = refl; is = sym h; stored_is = refl; unkept_is = refl; caller_is = refl }
some_go (one ∷ given) d new none h =
    next_goes one.0 one.1 d h.0 new none h.1
    (λ x e left. some_go given x new left (subst (λ c. GivesSome AnswererSide answerer_lends c (bursts_in given) new) (sym e) h.2))

pub same_bursts : (sends : Bool) (bursts : List SentBurst) → bursts ≡ bursts_in (each_with sends bursts)
same_bursts sends [] = refl
same_bursts sends (burst ∷ bursts) = ap (λ l. burst ∷ l) (same_bursts sends bursts)

-- no page comes or goes where bursts are given
same_pages : (bursts : List SentBurst) (old new : ConversationFields LimitedFields) → GivesAll AnswererSide answerer_lends old bursts new →
    pages_of new ≡ pages_of old
same_pages [] old new h = ap pages_of (none_given AnswererSide answerer_lends old.begun old new h)
same_pages (sent ∷ bursts) old new h =
    same_pages bursts h.0 new h.2 ∙
    ap (λ (v : Speaking LimitedFields). v.station.station.pages) (given_next AnswererSide answerer_lends old h.0 sent old.begun h.1).speaking

withheld_pages : (late : Bool) (old left : ConversationFields LimitedFields) → Withholds AnswererSide answerer_lends old late left →
    pages_of left ≡ pages_of old
withheld_pages false old left h = ap pages_of h
withheld_pages true old left h = same_pages h.0 old left h.1

-- ---- what follows once the answerer is ready

module _ (d : Driven) (ready : ConversationFields LimitedFields) (is : d.answerer ≡ ready) (none : pages_of ready ≡ []) where
  withheld_goes : (late : Bool) (left : ConversationFields LimitedFields) (h : Withholds AnswererSide answerer_lends ready late left) →
      Goes (steps_of (each_with false (withheld AnswererSide answerer_lends ready late left h))) d left d.stored d.unkept
  withheld_goes false left h =
      record { last = d; drives = refl; is = is ∙ sym h; stored_is = refl; unkept_is = refl; caller_is = refl }
  withheld_goes true left h =
      all_go (each_with false h.0) d left (ap pages_of is ∙ none)
      (subst (λ c. GivesAll AnswererSide answerer_lends c (bursts_in (each_with false h.0)) left) (sym is)
      (subst (λ l. GivesAll AnswererSide answerer_lends ready l left) (same_bursts false h.0) h.1))

  bursts_go : (new : ConversationFields LimitedFields) (part : GivesPart LimitedFields AnswererSide answerer_lends ready new)
      (given : List (SentBurst × Bool)) → bursts_in given ≡ part.bursts → Goes (steps_of (part_of part given)) d new d.stored d.unkept
  bursts_go new part given e =
      subst (λ steps. Goes steps d new d.stored d.unkept)
      (sym
      (map-append (λ (one : SentBurst × Bool). answerer_gives one.0 one.1)
      (each_with false (withheld AnswererSide answerer_lends ready part.late part.left part.withholds)) given))
      (goes_on d (withheld_goes part.late part.left part.withholds) (λ x f g h. subst (λ s. Goes (steps_of given) x new s d.unkept) g
      (subst (λ u. Goes (steps_of given) x new x.stored u) h (at part.gives x f))))
    where
      left : pages_of part.left ≡ []
      left = withheld_pages part.late ready part.left part.withholds ∙ none

      at : GivesSome AnswererSide answerer_lends part.left part.bursts new ⊎ GivesAll AnswererSide answerer_lends part.left part.bursts new →
          (x : Driven) → x.answerer ≡ part.left → Goes (steps_of given) x new x.stored x.unkept
      at (inl some) x f =
          some_go given x new (ap pages_of f ∙ left)
          (subst (λ c. GivesSome AnswererSide answerer_lends c (bursts_in given) new) (sym f)
          (subst (λ l. GivesSome AnswererSide answerer_lends part.left l new) (sym e) some))
      at (inr all) x f =
          all_go given x new (ap pages_of f ∙ left)
          (subst (λ c. GivesAll AnswererSide answerer_lends c (bursts_in given) new) (sym f)
          (subst (λ l. GivesAll AnswererSide answerer_lends part.left l new) (sym e) all))

-- once all pages are stored the answerer hangs up, or doesn't
hang_goes : (hangs : Bool) (d : Driven) (mid : ConversationFields LimitedFields) (stored unkept : List PagePixels) →
    d.answerer ≡ mid → d.stored ≡ stored → d.unkept ≡ unkept → (hangs ≡ true → unkept ≡ []) →
    Goes (hangs_by hangs) d (hung_up_if hangs mid) stored unkept
hang_goes false d mid stored unkept e f g none =
    record { last = d; drives = refl; is = e; stored_is = f; unkept_is = g; caller_is = refl }
hang_goes true d mid stored unkept e f g none =
    subst (λ c. Goes (hung_up ∷ []) d (hung_up_so limited_cut_off c) stored unkept) e
    (subst (λ s. Goes (hung_up ∷ []) d (hung_up_so limited_cut_off d.answerer) s unkept) f
    (subst (λ u. Goes (hung_up ∷ []) d (hung_up_so limited_cut_off d.answerer) d.stored u) g
    (goes_by hung_up d (answerer_speaks false (record d { answerer = hung_up_so limited_cut_off d.answerer })) (g ∙ none refl)
    refl refl)))

hung_left : (hangs : Bool) (mid : ConversationFields LimitedFields) → pages_of (hung_up_if hangs mid) ≡ pages_of mid
hung_left true mid = refl
hung_left false mid = refl

-- what all of an answer leads to
all_goes : {first said : List Step} {a mid new : ConversationFields LimitedFields} {s stored : List PagePixels} (kept : Bool) (old : Driven)
    (one : Goes first old a s []) (two : Stored kept one.last mid stored) →
    Goes said two.goes.last new stored two.unkept →
    LeadsAnswerer (first ++ (keeps_by kept ∷ said)) kept old new stored
all_goes {first} {said} kept old one two three = (
  three.last,
  kept_both first (keeps_by kept ∷ said) old one.last three.last one.drives
      (kept_both (keeps_by kept ∷ []) said one.last two.goes.last three.last two.goes.drives three.drives),
  three.is,
  three.stored_is,
  record {
    caller = three.caller_is ∙ (two.goes.caller_is ∙ one.caller_is);
    unkept = λ e. three.unkept_is ∙ two.none e;
  },
)

pub answerer_fails : HearingTakes → (line : TimedLine) (kept : Bool) (old : Driven) (new : ConversationFields LimitedFields)
    (stored : List PagePixels) → old.unkept ≡ [] → (h : AnswererBreaksOff line kept old new stored) (given : List (SentBurst × Bool)) →
    bursts_in given ≡ h.part.bursts → LeadsAnswerer (answerer_steps line kept h.is_ready.hangs (part_of h.part given)) kept old new stored
answerer_fails law line kept old new stored none h given e =
    let r : AnswererIsReady line kept old h.ready stored = h.is_ready in
    let one : Goes (answerer_line line ∷ answerer_watches ∷ []) old (refused_so limited_behaviour r.heard) old.stored [] =
    goes_on old (line_goes law line kept old h.ready stored none r) (λ d e f g. watch_goes d r.heard old.stored e f g) in
    let two : Stored kept one.last r.mid stored = pages_go kept one.last r.mid stored one.unkept_is
    (subst (λ c. StoresAll appends leaves c r.mid one.last.stored stored kept) (sym one.is)
    (subst (λ s. StoresAll appends leaves (refused_so limited_behaviour r.heard) r.mid s stored kept) (sym one.stored_is) r.keeps)) in
    let hung : Goes (hangs_by r.hangs) two.goes.last h.ready stored two.unkept =
    subst (λ c. Goes (hangs_by r.hangs) two.goes.last c stored two.unkept) (sym r.is)
    (hang_goes r.hangs two.goes.last r.mid stored two.unkept two.goes.is two.goes.stored_is two.goes.unkept_is
    (λ e. two.none (r.only e))) in
    let left : pages_of h.ready ≡ [] = ap pages_of r.is ∙ (hung_left r.hangs r.mid ∙ two.left) in
    all_goes kept old one two
    (goes_on two.goes.last hung
    (λ x f g k. subst (λ s. Goes (steps_of (part_of h.part given)) x new s two.unkept) g
    (subst (λ u. Goes (steps_of (part_of h.part given)) x new x.stored u) k (bursts_go x h.ready f left new h.part given e))))

pub answerer_answers : HearingTakes → (line : TimedLine) (kept late : Bool) (old : Driven) (new : ConversationFields LimitedFields)
    (stored : List PagePixels) → old.unkept ≡ [] → (h : AnswererAnswers line kept late old new stored) →
    LeadsAnswerer (answerer_steps line kept h.is_ready.hangs (turn_of h.turn)) kept old new stored
answerer_answers law line kept late old new stored none h =
    answerer_fails law line kept old new stored none
    (record {
      ready = h.ready;
      is_ready = h.is_ready;
      part = record { late = late; left = h.turn.left; withholds = h.turn.withholds; bursts = h.turn.bursts; gives = inr h.turn.gives };
    }) (each_with true h.turn.bursts) (sym (same_bursts true h.turn.bursts))

pub answerer_without_memory : HearingTakes → (line : TimedLine) (old : Driven) (new : ConversationFields LimitedFields) → old.unkept ≡ [] →
    AnswererHasNoMemory line old new → LeadsAnswerer (answerer_refuses line ∷ []) true old new old.stored
answerer_without_memory law line old new none h =
    let all : Goes (answerer_refuses line ∷ []) old new old.stored old.unkept = no_memory law line old new none h in (
      all.last,
      all.drives,
      all.is,
      all.stored_is,
      record { caller = all.caller_is; unkept = λ e. all.unkept_is ∙ none },
    )

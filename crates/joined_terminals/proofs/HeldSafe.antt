-- If no page is confirmed that is still in the answerer, each confirmed page is stored. An MCF is on its way to the caller only while nothing
-- is on its way to the answerer, so no page comes into the answerer meanwhile: the pages stored are all that the call has then.
use Rattle.std.proofs.Common.{◌≡◌, ◌≢◌, ◌≤◌, ◌++◌, ◌∷◌, ◌+◌, ◌⊎◌, inl, inr, ℕ, [], List, Bool, true, false, Option, Some, None}
use Rattle.std.proofs.Common.{length, drop, refl, ap, sym, subst, ◌∙◌, append-nil, arith, length-append}
use Rattle.std.proofs.lemmas.Bool.{false≢true}
use Rattle.std.specs.Prelude.{◌&&◌}
use Rattle.conversations.proofs.Stored.{none_are_left}
use Rattle.conversations.specs.Answering.{limited_behaviour, pages_of}
use Rattle.conversations.specs.Conversations.{ConversationFields, LosesFrames, gives, hung_up_so, refused_so, silenced_so, stopped_for}
use Rattle.conversations.specs.Conversations.{stopped_so}
use Rattle.conversations.specs.Conversations.{with_pages_taken}
use Rattle.conversations.specs.Led.{caller_behaviour}
use Rattle.conversations.specs.Refusing.{stop_in}
use Rattle.conversations.specs.declared.line.TimedLine.{TimedLine}
use Rattle.raster.specs.Pages.{PagePixels}
use Rattle.signals.specs.Signals.{mcf}
use Rattle.signals.specs.declared.params.Caps.{Caps}
use Rattle.signals.specs.declared.signal.Side.TheVariants.{Answerer as AnswererSide, Caller as CallerSide}
use Rattle.stations.specs.AnswererKeeping.{AnswerersKeep}
use Rattle.stations.specs.AnswererStep.{Answerer, answerer_items}
use Rattle.stations.specs.Bursts.{PlainBurst, bursts_of}
use Rattle.stations.specs.CallerFields.{CallerFields, Represents}
use Rattle.stations.specs.CallerStep.{Caller, new_caller, no_caps, no_params}
use Rattle.stations.specs.Inputs.{PlainItem, framed}
use Rattle.stations.specs.Layers.{Document}
use Rattle.stations.specs.Limiting.{LimitedFields}
use Rattle.stations.specs.Stopping.{StoppableCallerFields}
use Rattle.stations.specs.declared.turn.Turn.{Turn}
use Rattle.stations.specs.declared.turn.Turn.TheVariants.{Dis as SendDis, Cfr as SendCfr, Ftt as SendFtt, Mcf, Ppr as SendPpr, Rnr as SendRnr}
use Rattle.stations.specs.declared.turn.Turn.TheVariants.{Dcn, Silent}
use Rattle.terminals.specs.Runs.{TerminalFields}
use Rattle.terminals.specs.Speaking.{Speaking, is_silent}
use Rattle.terminals.specs.Stopping.{limited_cut_off}
use Rattle.terminals.specs.declared.sending.SentBurst.{SentBurst}
use Rattle.conversations.specs.declared.refusing.StopCause.{StopCause}
use Rattle.conversations.specs.declared.refusing.StopCause.TheVariants.{Refused, TooLong, NeverQuiet}
use Rattle.line_sim.proofs.CallerKeeps.{each_drop}
use Rattle.line_sim.proofs.Lists.{each_append}
use Rattle.joined_terminals.specs.Answered.{answerer_lends, caller_lends}
use Rattle.joined_terminals.specs.Driven.{Driven, answerer_speaks, caller_speaks}
use Rattle.joined_terminals.specs.DrivenSafety.{ConversationsAreSafe, IsSafeDriven}
use Rattle.joined_terminals.specs.Held.{DrivesHeld, HeldAreDriven, HeldAreStored, IsHeld}
use Rattle.joined_terminals.specs.Joining.{Joined, if_clear}
use Rattle.joined_terminals.specs.Kept.{DrivesKept, IsKept, IsSafeStore}
use Rattle.joined_terminals.specs.Steps.{AnswererGives, AnswererIsGiven, AnswererRefusesLine, CallerGives, CallerIsGiven}
use Rattle.joined_terminals.specs.Steps.{CallerRefusesLine, Does, Drives, ItemsLose, RefusesPage, Step, StoresPages}
use Rattle.joined_terminals.specs.Steps.{silent_unless}
use Rattle.joined_terminals.specs.Steps.Step.{answerer_gives, answerer_line, answerer_refuses, answerer_watches, caller_gives, caller_line}
use Rattle.joined_terminals.specs.Steps.Step.{caller_refuses, caller_watches, items_lost, page_lost, page_refused, hung_up}
use Rattle.joined_terminals.specs.Steps.Step.{pages_stored}
use Rattle.joined_terminals.proofs.Counting.{CountsLine, NoMcf, counted, front_no, given_counts, left_no, lost_counts, stays_so}
use Rattle.joined_terminals.proofs.Counting.{stopped_counts}
use Rattle.joined_terminals.proofs.DrivenAnswers.{drives_both}
use Rattle.joined_terminals.proofs.DrivenCallers.{given_next}
use Rattle.joined_terminals.proofs.DrivenWays.{each_appended}
use Rattle.joined_terminals.proofs.Gone.{IsGone, gone_for, gone_hung_up, gone_lost, gone_stopped}
use Rattle.joined_terminals.proofs.Hearing.{Hears, given_heard, left_of_none, lost_heard, stopped_pages, stopped_quiet}
use Rattle.joined_terminals.proofs.Left.{reply_taken, said_by}
use Rattle.joined_terminals.proofs.Safe.{whole}

-- ---- bursts that confirm nothing

said_no : (caps : Caps) (turn : Turn) → turn ≢ Mcf → NoMcf (said_by caps turn)
said_no caps SendDis not = (λ e. cc, tt)
said_no caps SendCfr not = (λ e. cc, tt)
said_no caps SendFtt not = (λ e. cc, tt)
said_no caps Mcf not = absurd (not refl)
said_no caps (SendPpr map) not = (λ e. cc, tt)
said_no caps SendRnr not = (λ e. cc, tt)
said_no caps Dcn not = (λ e. cc, tt)
said_no caps _ not = tt

-- a burst of a turn that isn't MCF has none
burst_no : (s : Answerer) (turn : Turn) (taken : ℕ) (bursts : List PlainBurst) (burst : PlainBurst) (later : List PlainBurst) →
    bursts ≡ bursts_of s.params.speed (answerer_items s turn) → drop taken bursts ≡ burst ∷ later → turn ≢ Mcf → NoMcf burst.items
burst_no s turn taken bursts burst later are next not =
    let all : NoMcf (drop taken (said_by s.caps turn)) =
    each_drop (λ item. item ≢ framed mcf) taken (said_by s.caps turn) (said_no s.caps turn not) in
    let split : burst.items ++ drop (taken + 1) (said_by s.caps turn) ≡ drop taken (said_by s.caps turn) =
    reply_taken s turn taken bursts burst later are next true [] in
    front_no burst.items (drop (taken + 1) (said_by s.caps turn)) (subst NoMcf (sym split) all)

clear_no : (clear : Bool) (items : List PlainItem) → NoMcf items → NoMcf (if_clear clear items)
clear_no true items h = h
clear_no false items h = tt

shut_none : (sends clear : Bool) (items : List PlainItem) → clear ≡ false → if_clear (sends && clear) items ≡ []
shut_none true true items e = cc
shut_none true false items e = refl
shut_none false true items e = refl
shut_none false false items e = refl

not_none : (front rest : List PagePixels) (page : PagePixels) → front ++ page ∷ rest ≡ [] → ⊥
not_none [] rest page e = cc
not_none (x ∷ front) rest page e = cc

-- before any step no page is there
pub none_first : (xs ys : List PagePixels) → xs ++ ys ≡ [] → ys ≡ []
none_first [] ys e = e
none_first (x ∷ xs) ys e = cc

-- ---- where the steps stand

-- nothing is on its way to the answerer, and nothing gets onto the line to it until the caller says its next turn
abbrev IsShut : Driven → Type 0
IsShut d = (d.to_answerer ≡ []) × (d.caller_clear ≡ false)

-- so it is, and the pages stored are all that have come
record AllStored (d : Driven) : Type 0 where
  shut : IsShut d
  none_left : pages_of d.answerer ≡ []
  none_refused : d.unkept ≡ []

-- a burst of MCF that gets onto the line is left of the answerer's turn only while it is so
abbrev Saying : Driven → Type 0
Saying d = (d.answerer_clear ≡ false) ⊎ ((d.answerer.terminal.speaking.turn ≢ Mcf) ⊎ IsShut d)

-- steps lead there, and each page that the caller counts confirmed is stored
record Stands (first d : Driven) : Type 0 where
  own : List Step
  led : Drives own first d
  t : Caller
  represents : Represents (counted d.caller.terminal.speaking) t
  stored : (counted d.caller.terminal.speaking).page ≤ length d.stored
  -- no MCF is on its way to the caller, or all pages are stored
  coming : NoMcf d.to_caller ⊎ AllStored d
  saying : Saying d
  -- no page was refused, or the answerer leaves
  leaving : (d.unkept ≡ []) ⊎ IsGone d.answerer.terminal.speaking

module _ (document : Document) (first : Driven) (safe : (steps : List Step) (d : Driven) → Drives steps first d → IsSafeDriven document d) where
  -- where no page is left and none was refused, the pages stored are all that there are
  alone : (d : Driven) → pages_of d.answerer ≡ [] → d.unkept ≡ [] → IsSafeDriven document d →
      (counted d.caller.terminal.speaking).page ≤ length d.stored
  alone d left none real =
      let all : (d.stored ++ d.unkept) ++ pages_of d.answerer ≡ d.stored =
      ap (λ l. (d.stored ++ d.unkept) ++ l) left ∙
      (append-nil (d.stored ++ d.unkept) ∙ (ap (λ l. d.stored ++ l) none ∙ append-nil d.stored)) in
      omega (arith, real.all.confirmed_is_stored, ap length all)

  one_more : (d new : Driven) (s : Stands first d) (step : Step) → Does step d new → Drives (s.own ++ step ∷ []) first new
  one_more d new s step does = drives_both s.own (step ∷ []) first d new s.led (new, does, refl)

  -- ---- steps of the caller and of the line

  abbrev after_caller : Bool → Driven → ConversationFields StoppableCallerFields → List PlainItem → Driven
  after_caller silent d caller others = caller_speaks silent (record d { caller = caller; to_caller = others })

  still_stored : (silent : Bool) (d : Driven) (caller : ConversationFields StoppableCallerFields) (others : List PlainItem) →
      Stands first d → CountsLine d.caller.terminal.speaking caller.terminal.speaking d.to_caller others →
      IsSafeDriven document (after_caller silent d caller others) → (counted caller.terminal.speaking).page ≤ length d.stored
  still_stored silent d caller others s c real = at s.coming
    where
      real_so : (silent : Bool) → AllStored d → IsSafeDriven document (after_caller silent d caller others) →
          (counted caller.terminal.speaking).page ≤ length d.stored
      real_so true all r = alone (after_caller true d caller others) all.none_left all.none_refused r
      real_so false all r = alone (after_caller false d caller others) all.none_left all.none_refused r

      at : NoMcf d.to_caller ⊎ AllStored d → (counted caller.terminal.speaking).page ≤ length d.stored
      at (inl clean) = subst (λ n. n ≤ length d.stored) (sym (c.counts.same clean)) s.stored
      at (inr all) = real_so silent all real

  caller_spoke : (silent : Bool) (d : Driven) (caller : ConversationFields StoppableCallerFields) (others : List PlainItem) →
      Stands first d → CountsLine d.caller.terminal.speaking caller.terminal.speaking d.to_caller others → (own : List Step) →
      Drives own first (after_caller silent d caller others) → Stands first (after_caller silent d caller others)
  caller_spoke true d caller others s c own led =
      record {
        own = own;
        led = led;
        t = c.counts.t;
        represents = c.counts.represents;
        stored = still_stored true d caller others s c (safe own (after_caller true d caller others) led);
        coming = at s.coming;
        saying = s.saying;
        leaving = s.leaving;
      }
    where
      at : NoMcf d.to_caller ⊎ AllStored d → NoMcf others ⊎ AllStored (after_caller true d caller others)
      at (inl clean) = inl (c.none_left clean)
      at (inr all) = inr (record { shut = all.shut; none_left = all.none_left; none_refused = all.none_refused })
  caller_spoke false d caller others s c own led =
      record {
        own = own;
        led = led;
        t = c.counts.t;
        represents = c.counts.represents;
        stored = still_stored false d caller others s c (safe own (after_caller false d caller others) led);
        coming = inl tt;
        saying = inl refl;
        leaving = s.leaving;
      }

  caller_goes : (step : Step) (d new : Driven) → Stands first d → Does step d new → (silent : Bool)
      (caller : ConversationFields StoppableCallerFields) (others : List PlainItem) →
      ((t : Caller) → Represents (counted d.caller.terminal.speaking) t →
      CountsLine d.caller.terminal.speaking caller.terminal.speaking d.to_caller others) →
      new ≡ after_caller silent d caller others → Stands first new
  caller_goes step d new s does silent caller others c e =
      subst (Stands first) (sym e)
      (caller_spoke silent d caller others s (c s.t s.represents) (s.own ++ step ∷ [])
      (subst (λ n. Drives (s.own ++ step ∷ []) first n) e (one_more d new s step does)))

  -- the caller and what is on its way to it stay, but for its clock
  same_caller : (d : Driven) (caller : ConversationFields StoppableCallerFields) → caller.terminal ≡ d.caller.terminal → (t : Caller) →
      Represents (counted d.caller.terminal.speaking) t →
      CountsLine d.caller.terminal.speaking caller.terminal.speaking d.to_caller d.to_caller
  same_caller d caller e t r =
      record {
        counts = stays_so (counted d.caller.terminal.speaking) (counted caller.terminal.speaking) (NoMcf d.to_caller) t r
            (ap (λ (x : TerminalFields StoppableCallerFields). counted x.speaking) e);
        none_left = λ clean. clean;
      }

  caller_refused : (d new : Driven) (line : TimedLine) → Stands first d → CallerRefusesLine line d new → Stands first new
  caller_refused d new line s h = at h.given
    where
      at : ((h.caller.terminal ≡ d.caller.terminal) × (new ≡ record d { caller = h.caller })) ⊎
          (LosesFrames caller_behaviour d.caller.terminal (gives caller_behaviour d.caller h.refuses.shown line) h.caller.terminal ×
          CallerIsGiven (gives caller_behaviour d.caller h.refuses.shown line) d h.caller new) → Stands first new
      at (inl e) = caller_goes (caller_refuses line) d new s h true h.caller d.to_caller (same_caller d h.caller e.0) e.1
      at (inr p) =
          caller_goes (caller_refuses line) d new s h p.1.silent h.caller p.1.others (λ t r. lost_counts d.caller.terminal h.caller.terminal
          d.to_caller p.1.others p.1.silent t r (gives caller_behaviour d.caller h.refuses.shown line) p.0 p.1.comes p.1.turns) p.1.is

  stopped_line : (d : Driven) (t : Caller) → Represents (counted d.caller.terminal.speaking) t →
      CountsLine d.caller.terminal.speaking (stopped_so caller_behaviour d.caller).terminal.speaking d.to_caller d.to_caller
  stopped_line d t r =
      record {
        counts = stays_so (counted d.caller.terminal.speaking)
            (counted (stopped_so caller_behaviour d.caller).terminal.speaking) (NoMcf d.to_caller) t r
            (stopped_counts d.caller.terminal.speaking);
        none_left = λ clean. clean;
      }

  watched : (d : Driven) (why : Option StopCause) (t : Caller) → Represents (counted d.caller.terminal.speaking) t →
      CountsLine d.caller.terminal.speaking (stopped_for caller_behaviour why d.caller).terminal.speaking d.to_caller d.to_caller
  watched d None t r = same_caller d d.caller refl t r
  watched d (Some (Refused why)) t r = stopped_line d t r
  watched d (Some TooLong) t r = stopped_line d t r
  watched d (Some NeverQuiet) t r =
      record {
        counts = stays_so (counted d.caller.terminal.speaking)
            (counted (silenced_so caller_behaviour d.caller).terminal.speaking) (NoMcf d.to_caller) t r refl;
        none_left = λ clean. clean;
      }

  module _ (d new : Driven) (s : Stands first d) (sent : SentBurst) (sends : Bool) (h : CallerGives sent sends d new) where
    abbrev called : Driven
    called = record d { caller = h.caller; to_answerer = d.to_answerer ++ if_clear (sends && d.caller_clear) h.burst.items }

    called_shut : IsShut d → IsShut called
    called_shut shut = (
      ap (λ l. l ++ if_clear (sends && d.caller_clear) h.burst.items) shut.0 ∙ shut_none sends d.caller_clear h.burst.items shut.1,
      shut.1,
    )

    called_coming : NoMcf d.to_caller ⊎ AllStored d → NoMcf d.to_caller ⊎ AllStored called
    called_coming (inl clean) = inl clean
    called_coming (inr all) =
        inr (record { shut = called_shut all.shut; none_left = all.none_left; none_refused = all.none_refused })

    called_saying : Saying d → Saying called
    called_saying (inl e) = inl e
    called_saying (inr (inl not)) = inr (inl not)
    called_saying (inr (inr shut)) = inr (inr (called_shut shut))

    caller_gives_on : Stands first new
    caller_gives_on =
        let is = given_next CallerSide caller_lends d.caller h.caller sent d.caller.begun h.gives in
        let same : counted h.caller.terminal.speaking ≡ counted d.caller.terminal.speaking = ap counted is.speaking in
        let led : Drives (s.own ++ caller_gives sent sends ∷ []) first called =
        subst (λ n. Drives (s.own ++ caller_gives sent sends ∷ []) first n) h.is (one_more d new s (caller_gives sent sends) h) in
        subst (Stands first) (sym h.is)
        (record {
          own = s.own ++ caller_gives sent sends ∷ [];
          led = led;
          t = s.t;
          represents = subst (λ v. Represents v s.t) (sym same) s.represents;
          stored = subst (λ (v : CallerFields). v.page ≤ length d.stored) (sym same) s.stored;
          coming = called_coming s.coming;
          saying = called_saying s.saying;
          leaving = s.leaving;
        })

  module _ (d new : Driven) (s : Stands first d) (h : ItemsLose d new) where
    abbrev fewer : Driven
    fewer = record d { to_answerer = h.to_answerer; to_caller = h.to_caller }

    fewer_shut : IsShut d → IsShut fewer
    fewer_shut shut = (left_of_none h.answerers shut.0, shut.1)

    fewer_coming : NoMcf d.to_caller ⊎ AllStored d → NoMcf h.to_caller ⊎ AllStored fewer
    fewer_coming (inl clean) = inl (left_no h.callers clean)
    fewer_coming (inr all) =
        inr (record { shut = fewer_shut all.shut; none_left = all.none_left; none_refused = all.none_refused })

    fewer_saying : Saying d → Saying fewer
    fewer_saying (inl e) = inl e
    fewer_saying (inr (inl not)) = inr (inl not)
    fewer_saying (inr (inr shut)) = inr (inr (fewer_shut shut))

    loses_on : Stands first new
    loses_on =
        let led : Drives (s.own ++ items_lost ∷ []) first fewer =
        subst (λ n. Drives (s.own ++ items_lost ∷ []) first n) h.is (one_more d new s items_lost h) in
        subst (Stands first) (sym h.is)
        (record {
          own = s.own ++ items_lost ∷ [];
          led = led;
          t = s.t;
          represents = s.represents;
          stored = s.stored;
          coming = fewer_coming s.coming;
          saying = fewer_saying s.saying;
          leaving = s.leaving;
        })

  -- ---- steps of the answerer

  abbrev after_answerer : Bool → Driven → ConversationFields LimitedFields → List PlainItem → Driven
  after_answerer silent d answerer others = answerer_speaks silent (record d { answerer = answerer; to_answerer = others })

  answerer_spoke : (silent : Bool) (d : Driven) (answerer : ConversationFields LimitedFields) (others : List PlainItem) →
      Stands first d → (d.unkept ≡ []) ⊎ IsGone answerer.terminal.speaking →
      Hears d.answerer.terminal.speaking answerer.terminal.speaking d.to_answerer others silent → (own : List Step) → Drives own first (after_answerer silent d answerer others) → Stands first (after_answerer silent d answerer others)
  answerer_spoke true d answerer others s leaves m own led =
      record {
        own = own;
        led = led;
        t = s.t;
        represents = s.represents;
        stored = s.stored;
        coming = coming s.coming;
        saying = saying s.saying;
        leaving = leaves;
      }
    where
      coming : NoMcf d.to_caller ⊎ AllStored d → NoMcf d.to_caller ⊎ AllStored (after_answerer true d answerer others)
      coming (inl clean) = inl clean
      coming (inr all) =
          inr (record {
            shut = (m.none_come all.shut.0, all.shut.1);
            none_left = m.same_pages all.shut.0 ∙ all.none_left;
            none_refused = all.none_refused;
          })

      same_turn : d.answerer.terminal.speaking.turn ≢ Mcf →
          (answerer.terminal.speaking.turn ≡ d.answerer.terminal.speaking.turn) ⊎ (answerer.terminal.speaking.turn ≢ Mcf) →
          answerer.terminal.speaking.turn ≢ Mcf
      same_turn not (inl e) = λ f. not (sym e ∙ f)
      same_turn not (inr now) = now

      saying : Saying d → Saying (after_answerer true d answerer others)
      saying (inl e) = inl e
      saying (inr (inl not)) = inr (inl (same_turn not (m.quiet refl)))
      saying (inr (inr shut)) = inr (inr (m.none_come shut.0, shut.1))
  answerer_spoke false d answerer others s leaves m own led =
      record {
        own = own;
        led = led;
        t = s.t;
        represents = s.represents;
        stored = s.stored;
        coming = coming s.coming;
        saying = inr (inr (refl, refl));
        leaving = leaves;
      }
    where
      coming : NoMcf d.to_caller ⊎ AllStored d → NoMcf d.to_caller ⊎ AllStored (after_answerer false d answerer others)
      coming (inl clean) = inl clean
      coming (inr all) =
          inr (record {
            shut = (refl, refl);
            none_left = m.same_pages all.shut.0 ∙ all.none_left;
            none_refused = all.none_refused;
          })

  answerer_goes : (step : Step) (d new : Driven) → Stands first d → Does step d new → (silent : Bool)
      (answerer : ConversationFields LimitedFields) (others : List PlainItem) → (d.unkept ≡ []) ⊎ IsGone answerer.terminal.speaking →
      Hears d.answerer.terminal.speaking answerer.terminal.speaking d.to_answerer others silent →
      new ≡ after_answerer silent d answerer others → Stands first new
  answerer_goes step d new s does silent answerer others leaves m e =
      subst (Stands first) (sym e)
      (answerer_spoke silent d answerer others s leaves m (s.own ++ step ∷ [])
      (subst (λ n. Drives (s.own ++ step ∷ []) first n) e (one_more d new s step does)))

  same_answerer : (d : Driven) (answerer : ConversationFields LimitedFields) → answerer.terminal ≡ d.answerer.terminal →
      Hears d.answerer.terminal.speaking answerer.terminal.speaking d.to_answerer d.to_answerer true
  same_answerer d answerer e =
      record {
        none_come = λ f. f;
        same_pages = λ f. ap (λ (x : TerminalFields LimitedFields). x.speaking.station.station.pages) e;
        quiet = λ f. inl (ap (λ (x : TerminalFields LimitedFields). x.speaking.turn) e);
      }

  -- a page was refused, and the answerer leaves, or it leaves now
  still_leaving : (d : Driven) (answerer : ConversationFields LimitedFields) → (d.unkept ≡ []) ⊎ IsGone d.answerer.terminal.speaking →
      (IsGone d.answerer.terminal.speaking → IsGone answerer.terminal.speaking) → (d.unkept ≡ []) ⊎ IsGone answerer.terminal.speaking
  still_leaving d answerer (inl none) goes_on = inl none
  still_leaving d answerer (inr gone) goes_on = inr (goes_on gone)

  answerer_refused : (keeps : AnswerersKeep) (d new : Driven) (line : TimedLine) → Stands first d → AnswererRefusesLine line d new →
      Stands first new
  answerer_refused keeps d new line s h = at h.given
    where
      at : ((h.answerer.terminal ≡ d.answerer.terminal) × (new ≡ record d { answerer = h.answerer })) ⊎
          (LosesFrames limited_behaviour d.answerer.terminal (gives limited_behaviour d.answerer h.refuses.shown line) h.answerer.terminal ×
          AnswererIsGiven (gives limited_behaviour d.answerer h.refuses.shown line) d h.answerer new) → Stands first new
      at (inl e) =
          answerer_goes (answerer_refuses line) d new s h true h.answerer d.to_answerer
          (still_leaving d h.answerer s.leaving
          (λ gone. subst (λ (t : TerminalFields LimitedFields). IsGone t.speaking) (sym e.0) gone)) (same_answerer d h.answerer e.0) e.1
      at (inr p) =
          answerer_goes (answerer_refuses line) d new s h p.1.silent h.answerer p.1.others
          (still_leaving d h.answerer s.leaving
          (λ gone. gone_lost d.answerer.terminal h.answerer.terminal d.to_answerer p.1.others p.1.silent
          (gives limited_behaviour d.answerer h.refuses.shown line) p.0 p.1.comes p.1.turns gone))
          (lost_heard keeps d.answerer.terminal h.answerer.terminal d.to_answerer p.1.others p.1.silent
          (gives limited_behaviour d.answerer h.refuses.shown line) p.0 p.1.comes p.1.turns) p.1.is

  -- the call of the answerer is stopped
  stops : (d : Driven) →
      Hears d.answerer.terminal.speaking (stopped_so limited_behaviour d.answerer).terminal.speaking d.to_answerer d.to_answerer
      (is_silent (limited_behaviour.stop_says d.answerer.terminal.speaking.station))
  stops d =
      record {
        none_come = λ e. e;
        same_pages = λ e. stopped_pages d.answerer.terminal.speaking;
        quiet = λ e. inl (stopped_quiet d.answerer.terminal.speaking e);
      }

  stops_for : (d : Driven) (why : Option StopCause) →
      Hears d.answerer.terminal.speaking (stopped_for limited_behaviour why d.answerer).terminal.speaking d.to_answerer d.to_answerer
      (silent_unless why (is_silent (limited_behaviour.stop_says d.answerer.terminal.speaking.station)))
  stops_for d None = same_answerer d d.answerer refl
  stops_for d (Some (Refused why)) = stops d
  stops_for d (Some TooLong) = stops d
  stops_for d (Some NeverQuiet) =
      record { none_come = λ e. e; same_pages = λ e. refl; quiet = λ e. inr (λ f. (let is : Silent ≡ Mcf = f in cc)) }

  -- the answerer hangs up
  hangs_up : (d : Driven) →
      Hears d.answerer.terminal.speaking (hung_up_so limited_cut_off d.answerer).terminal.speaking d.to_answerer d.to_answerer false
  hangs_up d = record { none_come = λ e. e; same_pages = λ e. refl; quiet = λ e. absurd (false≢true e) }

  module _ (d new : Driven) (s : Stands first d) (h : StoresPages d new) where
    abbrev kept_all : Driven
    kept_all = record d { answerer = with_pages_taken d.answerer; stored = h.stored }

    kept_coming : NoMcf d.to_caller ⊎ AllStored d → NoMcf d.to_caller ⊎ AllStored kept_all
    kept_coming (inl clean) = inl clean
    kept_coming (inr all) =
        inr (record { shut = all.shut; none_left = (none_are_left d.answerer).0; none_refused = all.none_refused })

    stores_on : Stands first new
    stores_on =
        let longer : length d.stored ≤ length h.stored = omega
        (arith, ap length (each_appended d.stored (pages_of d.answerer) h.stored h.stores), length-append d.stored (pages_of d.answerer)) in
        let led : Drives (s.own ++ pages_stored ∷ []) first kept_all =
        subst (λ n. Drives (s.own ++ pages_stored ∷ []) first n) h.is (one_more d new s pages_stored h) in
        let stored : (counted d.caller.terminal.speaking).page ≤ length h.stored = omega (arith, s.stored, longer) in
        subst (Stands first) (sym h.is)
        (record {
          own = s.own ++ pages_stored ∷ [];
          led = led;
          t = s.t;
          represents = s.represents;
          stored = stored;
          coming = kept_coming s.coming;
          saying = s.saying;
          leaving = inl h.all_kept;
        })

  module _ (d new : Driven) (s : Stands first d) (h : RefusesPage d new) where
    abbrev refused : Driven
    refused =
        answerer_speaks false
        (record d {
          answerer = hung_up_so limited_cut_off (with_pages_taken d.answerer);
          stored = h.stored;
          unkept = h.refused ∷ h.rest;
        })

    refused_coming : NoMcf d.to_caller ⊎ AllStored d → NoMcf d.to_caller ⊎ AllStored refused
    refused_coming (inl clean) = inl clean
    refused_coming (inr all) = absurd (not_none h.front h.rest h.refused (sym h.split ∙ all.none_left))

    refuses_on : Stands first new
    refuses_on =
        let longer : length d.stored ≤ length h.stored = omega
        (arith, ap length (each_appended d.stored h.front h.stored h.stores), length-append d.stored h.front) in
        let led : Drives (s.own ++ page_refused ∷ []) first refused =
        subst (λ n. Drives (s.own ++ page_refused ∷ []) first n) h.is (one_more d new s page_refused h) in
        let stored : (counted d.caller.terminal.speaking).page ≤ length h.stored = omega (arith, s.stored, longer) in
        subst (Stands first) (sym h.is)
        (record {
          own = s.own ++ page_refused ∷ [];
          led = led;
          t = s.t;
          represents = s.represents;
          stored = stored;
          coming = refused_coming s.coming;
          saying = inr (inr (refl, refl));
          leaving = inr (gone_hung_up (with_pages_taken d.answerer).terminal.speaking);
        })

  -- ---- bursts of the answerer

  module _ (d new : Driven) (s : Stands first d) (sent : SentBurst) (sends : Bool) (h : AnswererGives sent sends d new) where
    abbrev more : List PlainItem
    more = if_clear (sends && d.answerer_clear) h.burst.items

    abbrev given : Driven
    given = record d { answerer = h.answerer; to_caller = d.to_caller ++ more }

    no_more : d.answerer.terminal.speaking.turn ≢ Mcf → NoMcf more
    no_more not =
        let now : Speaking LimitedFields = d.answerer.terminal.speaking in
        clear_no (sends && d.answerer_clear) h.burst.items
        (burst_no now.station.station now.turn now.taken h.bursts h.burst h.later h.lent h.next not)

    -- what goes onto the line has no MCF, or all pages are stored
    confirms : (pages_of d.answerer ≡ []) ⊎ (d.answerer.terminal.speaking.turn ≢ Mcf) → Saying d →
        (d.unkept ≡ []) ⊎ IsGone d.answerer.terminal.speaking → NoMcf more ⊎ AllStored d
    confirms (inr not) saying leaving = inl (no_more not)
    confirms (inl left) (inl e) leaving = inl (subst NoMcf (sym (shut_none sends d.answerer_clear h.burst.items e)) tt)
    confirms (inl left) (inr (inl not)) leaving = inl (no_more not)
    confirms (inl left) (inr (inr shut)) (inl none) = inr (record { shut = shut; none_left = left; none_refused = none })
    confirms (inl left) (inr (inr shut)) (inr gone) = inl (no_more (λ e. gone.0 e))

    same : h.answerer.terminal.speaking ≡ record d.answerer.terminal.speaking { taken = d.answerer.terminal.speaking.taken + 1 }
    same = (given_next AnswererSide answerer_lends d.answerer h.answerer sent d.answerer.begun h.gives).speaking

    same_turn : h.answerer.terminal.speaking.turn ≡ d.answerer.terminal.speaking.turn
    same_turn = ap (λ (v : Speaking LimitedFields). v.turn) same

    all_so : AllStored d → AllStored given
    all_so all = record {
      shut = all.shut;
      none_left = ap (λ (v : Speaking LimitedFields). v.station.station.pages) same ∙ all.none_left;
      none_refused = all.none_refused;
    }

    given_coming : NoMcf d.to_caller ⊎ AllStored d → NoMcf more ⊎ AllStored d → NoMcf (d.to_caller ++ more) ⊎ AllStored given
    given_coming (inl clean) (inl none) = inl (each_append (λ item. item ≢ framed mcf) d.to_caller more clean none)
    given_coming (inl clean) (inr all) = inr (all_so all)
    given_coming (inr all) which = inr (all_so all)

    given_saying : Saying d → Saying given
    given_saying (inl e) = inl e
    given_saying (inr (inl not)) = inr (inl (λ e. not (sym same_turn ∙ e)))
    given_saying (inr (inr shut)) = inr (inr shut)

    given_leaving : (d.unkept ≡ []) ⊎ IsGone d.answerer.terminal.speaking → (d.unkept ≡ []) ⊎ IsGone h.answerer.terminal.speaking
    given_leaving (inl none) = inl none
    given_leaving (inr gone) = inr (subst IsGone (sym same) gone)

    gives_burst : (pages_of d.answerer ≡ []) ⊎ (d.answerer.terminal.speaking.turn ≢ Mcf) → Stands first new
    gives_burst may =
        let led : Drives (s.own ++ answerer_gives sent sends ∷ []) first given =
        subst (λ n. Drives (s.own ++ answerer_gives sent sends ∷ []) first n) h.is (one_more d new s (answerer_gives sent sends) h) in
        subst (Stands first) (sym h.is)
        (record {
          own = s.own ++ answerer_gives sent sends ∷ [];
          led = led;
          t = s.t;
          represents = s.represents;
          stored = s.stored;
          coming = given_coming s.coming (confirms may s.saying s.leaving);
          saying = given_saying s.saying;
          leaving = given_leaving s.leaving;
        })

  -- ---- all steps

  module _ (keeps : AnswerersKeep) where
    goes : (step : Step) (d new : Driven) → Stands first d → IsHeld step d → Does step d new → Stands first new
    goes (caller_line line) d new s may h =
        caller_goes (caller_line line) d new s h h.given.silent h.caller h.given.others (λ t r. given_counts d.caller.terminal
        h.caller.terminal d.to_caller h.given.others h.given.silent t r (gives caller_behaviour d.caller h.takes.shown line)
        h.takes.brought h.takes.given h.given.comes h.given.turns) h.given.is
    goes (answerer_line line) d new s may h =
        answerer_goes (answerer_line line) d new s h h.given.silent h.answerer h.given.others (inl h.all_kept)
        (given_heard keeps d.answerer.terminal h.answerer.terminal d.to_answerer h.given.others h.given.silent
        (gives limited_behaviour d.answerer h.takes.shown line) h.takes.brought h.takes.given h.given.comes h.given.turns) h.given.is
    goes (caller_refuses line) d new s may h = caller_refused d new line s h
    goes (answerer_refuses line) d new s may h = answerer_refused keeps d new line s h
    goes caller_watches d new s may h =
        caller_goes caller_watches d new s h
        (silent_unless (stop_in d.caller.watch) (is_silent (caller_behaviour.stop_says d.caller.terminal.speaking.station)))
        (refused_so caller_behaviour d.caller) d.to_caller (watched d (stop_in d.caller.watch)) h
    goes answerer_watches d new s may h =
        answerer_goes answerer_watches d new s h
        (silent_unless (stop_in d.answerer.watch) (is_silent (limited_behaviour.stop_says d.answerer.terminal.speaking.station)))
        (refused_so limited_behaviour d.answerer) d.to_answerer
        (still_leaving d (refused_so limited_behaviour d.answerer) s.leaving (gone_for d.answerer (stop_in d.answerer.watch)))
        (stops_for d (stop_in d.answerer.watch)) h
    goes pages_stored d new s may h = stores_on d new s h
    goes page_refused d new s may h = refuses_on d new s h
    goes page_lost d new s may h =
        answerer_goes page_lost d new s h (is_silent (limited_behaviour.stop_says d.answerer.terminal.speaking.station))
        (stopped_so limited_behaviour d.answerer) d.to_answerer
        (still_leaving d (stopped_so limited_behaviour d.answerer) s.leaving (gone_stopped d.answerer.terminal.speaking)) (stops d) h
    goes hung_up d new s may h =
        answerer_goes hung_up d new s h false (hung_up_so limited_cut_off d.answerer) d.to_answerer
        (inr (gone_hung_up d.answerer.terminal.speaking)) (hangs_up d) h
    goes (caller_gives sent sends) d new s may h = caller_gives_on d new s sent sends h
    goes (answerer_gives sent sends) d new s may h = gives_burst d new s sent sends h may
    goes items_lost d new s may h = loses_on d new s h

    all_stand : (steps : List Step) (d last : Driven) → Stands first d → DrivesHeld steps d last → Stands first last
    all_stand [] d last s h = subst (Stands first) (sym h) s
    all_stand (step ∷ more) d last s h = all_stand more h.0 last (goes step d h.0 s h.1 h.2) h.3

  safe_store : (last : Driven) → Stands first last → IsSafeStore document last
  safe_store last s =
      let real : IsSafeDriven document last = safe s.own last s.led in
      record {
        driven = real;
        confirmed_is_stored = s.stored;
        stored_once = omega (
          arith,
          real.all.stored_once,
          length-append (last.stored ++ last.unkept) (pages_of last.answerer),
          length-append last.stored last.unkept,
        );
        caller_normal = λ e.
            whole last.stored real.stored.0 document real.stored.1
            (omega (
              arith,
              s.stored,
              (real.all.caller_normal e).1,
              ap length real.stored.1,
              length-append last.stored real.stored.0,
            ));
      }

pub held_are_stored : AnswerersKeep → ConversationsAreSafe → HeldAreStored
held_are_stored keeps all document wish caps limits steps first last full begins drives =
    safe_store document first safe last (all_stand document first safe keeps steps first last start drives)
  where
    safe : (steps : List Step) (d : Driven) → Drives steps first d → IsSafeDriven document d
    safe steps d led = all document wish caps limits steps first d full begins led

    none : first.unkept ≡ []
    none = none_first first.stored first.unkept (ap (λ (j : Joined). j.pages) begins.is)

    turn : first.answerer.terminal.speaking.turn ≡ SendDis
    turn = ap (λ (j : Joined). j.answerer.turn) begins.is

    start : Stands first first
    start = record {
      own = [];
      led = refl;
      t = new_caller document wish no_caps no_params;
      represents = subst (λ v. Represents v (new_caller document wish no_caps no_params))
          (sym (ap (λ (j : Joined). j.caller.station.station) begins.is)) begins.caller;
      stored = alone document first safe first (ap (λ (j : Joined). j.answerer.station.station.pages) begins.is) none
          (safe [] first refl);
      coming = inl (subst NoMcf (sym (ap (λ (j : Joined). j.to_caller) begins.is)) tt);
      saying = inr (inl (λ e. (let is : SendDis ≡ Mcf = sym turn ∙ e in cc)));
      leaving = inl none;
    }

-- ---- the steps of others

kept_is_held : (step : Step) (d : Driven) → IsKept step d → IsHeld step d
kept_is_held (answerer_gives sent sends) d may = inl may
kept_is_held _ d may = tt

kept : (steps : List Step) (old new : Driven) → DrivesKept steps old new → DrivesHeld steps old new
kept [] old new h = h
kept (step ∷ more) old new h = (h.0, kept_is_held step old h.1, h.2, kept more h.0 new h.3)

driven : (steps : List Step) (old new : Driven) → DrivesHeld steps old new → Drives steps old new
driven [] old new h = h
driven (step ∷ more) old new h = (h.0, h.2, driven more h.0 new h.3)

wider : (sent : SentBurst) (sends : Bool) (d : Driven) → pages_of d.answerer ≢ [] → d.answerer.terminal.speaking.turn ≡ SendRnr →
    IsHeld (answerer_gives sent sends) d × (¬ IsKept (answerer_gives sent sends) d)
wider sent sends d has rnr = (inr (λ e. (let is : SendRnr ≡ Mcf = sym rnr ∙ e in cc)), has)

pub held_are_driven : HeldAreDriven
held_are_driven = record { kept = kept; driven = driven; wider = wider }

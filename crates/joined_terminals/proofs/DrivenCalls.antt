-- An answer of the caller is a list of steps.
use Rattle.std.proofs.Common.{◌≡◌, ◌++◌, ◌∷◌, [], List, Bool, true, false, Some, Ok, Err, inl, inr, ◌⊎◌, refl, sym, subst, ◌∙◌}
use Rattle.conversations.specs.Conversations.{ConversationFields, Gives, LosesFrames, PlainGiven, gives, refused_so}
use Rattle.conversations.specs.Conversations.{nothing, stopping, losing, frames, input}
use Rattle.conversations.specs.Led.{caller_behaviour}
use Rattle.conversations.specs.Refusing.{stop_in}
use Rattle.conversations.specs.Talking.{GivesAll, GivesNext, GivesSome, Withholds}
use Rattle.conversations.specs.declared.line.TimedLine.{TimedLine}
use Rattle.signals.specs.declared.signal.Side.TheVariants.{Caller as CallerSide}
use Rattle.stations.specs.Inputs.{PlainItem}
use Rattle.stations.specs.Stopping.{StoppableCallerFields}
use Rattle.terminals.specs.Speaking.{is_silent}
use Rattle.terminals.specs.declared.fault.HearFault.TheVariants.{FrameLost}
use Rattle.terminals.specs.declared.sending.SentBurst.{SentBurst}
use Rattle.joined_terminals.specs.Answered.{AnswererStays, AnswersAreSteps, CallerAnswers, CallerBreaksOff, CallerHasNoMemory, CallerIsReady, GivesPart}
use Rattle.joined_terminals.specs.Answered.{LeadsCaller, bursts_in, caller_lends, caller_steps, each_with, part_of, turn_of, withheld}
use Rattle.joined_terminals.specs.Driven.{Driven, caller_speaks}
use Rattle.joined_terminals.specs.Joining.{if_clear}
use Rattle.joined_terminals.specs.Kept.{DrivesKept, IsKept}
use Rattle.joined_terminals.specs.Octets.{HearingTakes}
use Rattle.joined_terminals.specs.Steps.{CallerRefusesLine, CallerTakesLine, Comes, Does, IsOneAtMost, Step, TurnsSo, silent_unless}
use Rattle.joined_terminals.specs.Steps.Step.{caller_gives, caller_line, caller_refuses, caller_watches}
use Rattle.joined_terminals.proofs.DrivenAnswers.{answerer_answers, answerer_fails, answerer_without_memory, kept_both, none_given}
use Rattle.joined_terminals.proofs.DrivenAnswers.{one_given, same_bursts}
use Rattle.std.specs.Prelude.{◌&&◌, map}
use Rattle.std.proofs.lemmas.List.{map-append}

-- the steps lead to where the caller is this, and the store as it was
record Goes (steps : List Step) (old : Driven) (caller : ConversationFields StoppableCallerFields) : Type 0 where
  last : Driven
  drives : DrivesKept steps old last
  is : last.caller ≡ caller
  stays : AnswererStays old last

-- nothing of the answerer and of the store has changed
same : (old : Driven) → AnswererStays old old
same old = record { answerer = refl; stored = refl; unkept = refl }

goes_by : (step : Step) (old new : Driven) → IsKept step old → Does step old new → AnswererStays old new → Goes (step ∷ []) old new.caller
goes_by step old new may h e = record { last = new; drives = (new, may, h, refl); is = refl; stays = e }

goes_on : {some more : List Step} {a b : ConversationFields StoppableCallerFields} (old : Driven) → Goes some old a →
    ((d : Driven) → d.caller ≡ a → Goes more d b) → Goes (some ++ more) old b
goes_on {some} {more} old one next =
    let two = next one.last one.is in
    record {
      last = two.last;
      drives = kept_both some more old one.last two.last one.drives two.drives;
      is = two.is;
      stays = record {
        answerer = two.stays.answerer ∙ one.stays.answerer;
        stored = two.stays.stored ∙ one.stays.stored;
        unkept = two.stays.unkept ∙ one.stays.unkept;
      };
    }

spoken_goes : (step : Step) (silent : Bool) (old new : Driven) → IsKept step old → Does step old (caller_speaks silent new) →
    AnswererStays old new → Goes (step ∷ []) old new.caller
spoken_goes step true old new may h e = goes_by step old new may h e
spoken_goes step false old new may h e =
    goes_by step old (caller_speaks false new) may h (record { answerer = e.answerer; stored = e.stored; unkept = e.unkept })

module _ (law : HearingTakes) where
  turns_of : (old : Driven) (heard : ConversationFields StoppableCallerFields) (others : List PlainItem) (given : PlainGiven)
      (brought : Bool) → Gives caller_behaviour old.caller.terminal given heard.terminal brought →
      (comes : Comes IsOneAtMost old.caller.terminal.framing old.to_caller given others) →
      (silent : Bool) × TurnsSo caller_behaviour IsOneAtMost old.caller.terminal old.to_caller others given comes heard.terminal silent
  turns_of old heard others nothing brought h comes = (true, refl)
  turns_of old heard others stopping brought h comes = (is_silent (caller_behaviour.stop_says old.caller.terminal.speaking.station), refl)
  turns_of old heard others losing brought h comes = (true, refl)
  turns_of old heard others (frames octets) brought h comes =
      law.caller old.caller.terminal heard.terminal octets comes.0 (Ok tt) h.0 comes.1
  turns_of old heard others (input x) brought h comes = (is_silent h.1.turn, (h.1, refl))

  line_goes : (line : TimedLine) (old : Driven) (ready : ConversationFields StoppableCallerFields) → (h : CallerIsReady line old ready) →
      Goes (caller_line line ∷ []) old h.heard
  line_goes line old ready h =
      let given : PlainGiven = gives caller_behaviour old.caller h.takes.shown line in
      let turns = turns_of old h.heard h.others given h.takes.brought h.takes.given h.comes in
      let takes : CallerTakesLine line old (caller_speaks turns.0 (record old { caller = h.heard; to_caller = h.others })) = record {
        caller = h.heard;
        takes = h.takes;
        given = record { others = h.others; comes = h.comes; silent = turns.0; turns = turns.1; is = refl };
      } in
      spoken_goes (caller_line line) turns.0 old (record old { caller = h.heard; to_caller = h.others }) tt takes
      (record { answerer = refl; stored = refl; unkept = refl })

  lost_turns : (old : Driven) (new : ConversationFields StoppableCallerFields) (others : List PlainItem) (given : PlainGiven) →
      LosesFrames caller_behaviour old.caller.terminal given new.terminal →
      (comes : Comes IsOneAtMost old.caller.terminal.framing old.to_caller given others) →
      (silent : Bool) × TurnsSo caller_behaviour IsOneAtMost old.caller.terminal old.to_caller others given comes new.terminal silent
  lost_turns old new others (frames octets) loses comes =
      law.caller old.caller.terminal new.terminal octets comes.0 (Err FrameLost) loses comes.1
  lost_turns old new others nothing loses comes = absurd loses
  lost_turns old new others stopping loses comes = absurd loses
  lost_turns old new others losing loses comes = absurd loses
  lost_turns old new others (input x) loses comes = absurd loses

  no_memory : (line : TimedLine) (old : Driven) (new : ConversationFields StoppableCallerFields) → CallerHasNoMemory line old new →
      Goes (caller_refuses line ∷ []) old new
  no_memory line old new h = at h.refuses.given
    where
      given : PlainGiven
      given = gives caller_behaviour old.caller h.refuses.shown line

      at : (new.terminal ≡ old.caller.terminal) ⊎ LosesFrames caller_behaviour old.caller.terminal given new.terminal →
          Goes (caller_refuses line ∷ []) old new
      at (inl e) =
          let refuses : CallerRefusesLine line old (record old { caller = new }) =
          record { caller = new; refuses = h.refuses; given = inl (e, refl) } in
          spoken_goes (caller_refuses line) true old (record old { caller = new }) tt refuses
          (record { answerer = refl; stored = refl; unkept = refl })
      at (inr loses) =
          let turns = lost_turns old new h.others given loses h.comes in
          let refuses : CallerRefusesLine line old (caller_speaks turns.0 (record old { caller = new; to_caller = h.others })) = record {
            caller = new;
            refuses = h.refuses;
            given = inr
                (loses, record { others = h.others; comes = h.comes; silent = turns.0; turns = turns.1; is = refl });
          } in
          spoken_goes (caller_refuses line) turns.0 old (record old { caller = new; to_caller = h.others }) tt refuses
          (record { answerer = refl; stored = refl; unkept = refl })

watch_goes : (d : Driven) (heard : ConversationFields StoppableCallerFields) → d.caller ≡ heard →
    Goes (caller_watches ∷ []) d (refused_so caller_behaviour heard)
watch_goes d heard e =
    let silent : Bool =
    silent_unless (stop_in d.caller.watch) (is_silent (caller_behaviour.stop_says d.caller.terminal.speaking.station)) in
    subst (λ x. Goes (caller_watches ∷ []) d (refused_so caller_behaviour x)) e
    (spoken_goes caller_watches silent d (record d { caller = refused_so caller_behaviour d.caller }) tt refl
    (record { answerer = refl; stored = refl; unkept = refl }))

burst_goes : (sent : SentBurst) (sends : Bool) (d : Driven) (mid : ConversationFields StoppableCallerFields) →
    GivesNext CallerSide caller_lends d.caller (Some sent) mid → Goes (caller_gives sent sends ∷ []) d mid
burst_goes sent sends d mid h =
    let is = one_given CallerSide caller_lends d.caller.begun d.caller mid sent h in
    goes_by (caller_gives sent sends) d
    (record d { caller = mid; to_answerer = d.to_answerer ++ if_clear (sends && d.caller_clear) is.2.0.items }) tt
    (record {
      caller = mid;
      gives = h;
      bursts = is.0;
      lent = is.1;
      burst = is.2.0;
      later = is.2.1;
      next = is.2.2;
      is_sent = is.2.3;
      is = refl;
    }) (record { answerer = refl; stored = refl; unkept = refl })

-- the steps by which bursts are given
abbrev steps_of : List (SentBurst × Bool) → List Step
steps_of given = map (λ (one : SentBurst × Bool). caller_gives one.0 one.1) given

all_go : (given : List (SentBurst × Bool)) (d : Driven) (new : ConversationFields StoppableCallerFields) →
    GivesAll CallerSide caller_lends d.caller (bursts_in given) new → Goes (steps_of given) d new
all_go [] d new h =
    record { last = d; drives = refl; is = sym (none_given CallerSide caller_lends d.caller.begun d.caller new h); stays = same d }
all_go (one ∷ given) d new h =
    goes_on d (burst_goes one.0 one.1 d h.0 h.1)
    (λ x e. all_go given x new (subst (λ c. GivesAll CallerSide caller_lends c (bursts_in given) new) (sym e) h.2))

some_go : (given : List (SentBurst × Bool)) (d : Driven) (new : ConversationFields StoppableCallerFields) →
    GivesSome CallerSide caller_lends d.caller (bursts_in given) new → Goes (steps_of given) d new
some_go [] d new h = record { last = d; drives = refl; is = sym h; stays = same d }
some_go (one ∷ given) d new h =
    goes_on d (burst_goes one.0 one.1 d h.0 h.1)
    (λ x e. some_go given x new (subst (λ c. GivesSome CallerSide caller_lends c (bursts_in given) new) (sym e) h.2))

-- ---- what follows once the caller is ready

module _ (d : Driven) (ready : ConversationFields StoppableCallerFields) (is : d.caller ≡ ready) where
  withheld_goes : (late : Bool) (left : ConversationFields StoppableCallerFields) (h : Withholds CallerSide caller_lends ready late left) →
      Goes (steps_of (each_with false (withheld CallerSide caller_lends ready late left h))) d left
  withheld_goes false left h = record { last = d; drives = refl; is = is ∙ sym h; stays = same d }
  withheld_goes true left h =
      all_go (each_with false h.0) d left
      (subst (λ c. GivesAll CallerSide caller_lends c (bursts_in (each_with false h.0)) left) (sym is)
      (subst (λ l. GivesAll CallerSide caller_lends ready l left) (same_bursts false h.0) h.1))

  bursts_go : (new : ConversationFields StoppableCallerFields) (part : GivesPart StoppableCallerFields CallerSide caller_lends ready new)
      (given : List (SentBurst × Bool)) → bursts_in given ≡ part.bursts → Goes (steps_of (part_of part given)) d new
  bursts_go new part given e =
      subst (λ steps. Goes steps d new)
      (sym
      (map-append (λ (one : SentBurst × Bool). caller_gives one.0 one.1)
      (each_with false (withheld CallerSide caller_lends ready part.late part.left part.withholds)) given))
      (goes_on d (withheld_goes part.late part.left part.withholds) (λ x f. at part.gives x f))
    where
      at : GivesSome CallerSide caller_lends part.left part.bursts new ⊎ GivesAll CallerSide caller_lends part.left part.bursts new →
          (x : Driven) → x.caller ≡ part.left → Goes (steps_of given) x new
      at (inl some) x f =
          some_go given x new
          (subst (λ c. GivesSome CallerSide caller_lends c (bursts_in given) new) (sym f)
          (subst (λ l. GivesSome CallerSide caller_lends part.left l new) (sym e) some))
      at (inr all) x f =
          all_go given x new
          (subst (λ c. GivesAll CallerSide caller_lends c (bursts_in given) new) (sym f)
          (subst (λ l. GivesAll CallerSide caller_lends part.left l new) (sym e) all))

caller_fails : HearingTakes → (line : TimedLine) (old : Driven) (new : ConversationFields StoppableCallerFields)
    (h : CallerBreaksOff line old new) (given : List (SentBurst × Bool)) → bursts_in given ≡ h.part.bursts →
    LeadsCaller (caller_steps line (part_of h.part given)) old new
caller_fails law line old new h given e =
    let r : CallerIsReady line old h.ready = h.is_ready in
    let all : Goes (caller_steps line (part_of h.part given)) old new =
    goes_on old (line_goes law line old h.ready r) (λ d f. goes_on d (watch_goes d r.heard f) (λ x g. bursts_go x h.ready (g ∙ sym r.is) new
    h.part given e)) in
    (all.last, all.drives, all.is, all.stays)

caller_answers : HearingTakes → (line : TimedLine) (late : Bool) (old : Driven) (new : ConversationFields StoppableCallerFields)
    (h : CallerAnswers line late old new) → LeadsCaller (caller_steps line (turn_of h.turn)) old new
caller_answers law line late old new h =
    caller_fails law line old new
    (record {
      ready = h.ready;
      is_ready = h.is_ready;
      part = record { late = late; left = h.turn.left; withholds = h.turn.withholds; bursts = h.turn.bursts; gives = inr h.turn.gives };
    }) (each_with true h.turn.bursts) (sym (same_bursts true h.turn.bursts))

caller_without_memory : HearingTakes → (line : TimedLine) (old : Driven) (new : ConversationFields StoppableCallerFields) →
    CallerHasNoMemory line old new → LeadsCaller (caller_refuses line ∷ []) old new
caller_without_memory law line old new h =
    let all : Goes (caller_refuses line ∷ []) old new = no_memory law line old new h in (all.last, all.drives, all.is, all.stays)

pub answers_are_steps : HearingTakes → AnswersAreSteps
answers_are_steps law =
    record {
      caller = caller_answers law;
      answerer = answerer_answers law;
      caller_fails = caller_fails law;
      answerer_fails = answerer_fails law;
      caller_refuses = caller_without_memory law;
      answerer_refuses = answerer_without_memory law;
    }

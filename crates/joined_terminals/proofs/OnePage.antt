-- An answerer that takes one page at a time gives no MCF while a page is left in it, whatever happens.
use Rattle.std.proofs.Common.{◌≡◌, ◌∷◌, [], List, Bool, true, false, inl, inr, ◌⊎◌, sym, subst}
use Rattle.conversations.specs.Answering.{limited_behaviour}
use Rattle.conversations.specs.Conversations.{ConversationFields, LosesFrames, gives, hung_up_so, refused_so, stopped_so, with_pages_taken}
use Rattle.conversations.specs.Led.{caller_behaviour}
use Rattle.conversations.specs.Refusing.{stop_in}
use Rattle.conversations.specs.declared.line.TimedLine.{TimedLine}
use Rattle.signals.specs.declared.signal.Side.TheVariants.{Answerer as AnswererSide}
use Rattle.stations.specs.Inputs.{PlainItem}
use Rattle.stations.specs.Limiting.{LimitedFields}
use Rattle.stations.specs.Stopping.{StoppableCallerFields}
use Rattle.terminals.specs.Runs.{TerminalFields}
use Rattle.terminals.specs.Speaking.{is_silent}
use Rattle.terminals.specs.Stopping.{limited_cut_off}
use Rattle.joined_terminals.specs.Answered.{answerer_lends}
use Rattle.joined_terminals.specs.Driven.{Driven, answerer_speaks, caller_speaks}
use Rattle.joined_terminals.specs.Held.{DrivesHeld, HeldAreStored, IsHeld, OnePageIsStored}
use Rattle.joined_terminals.specs.HeldAnswers.{HoldsOne}
use Rattle.joined_terminals.specs.Steps.{AnswererIsGiven, AnswererRefusesLine, CallerIsGiven, CallerRefusesLine, Does, Drives, Step}
use Rattle.joined_terminals.specs.Steps.{silent_unless}
use Rattle.joined_terminals.specs.Steps.Step.{answerer_gives, answerer_line, answerer_refuses, answerer_watches, caller_gives, caller_line}
use Rattle.joined_terminals.specs.Steps.Step.{caller_refuses, caller_watches, items_lost, page_lost, page_refused, hung_up}
use Rattle.joined_terminals.specs.Steps.Step.{pages_stored}
use Rattle.joined_terminals.proofs.DrivenCallers.{given_next}
use Rattle.joined_terminals.proofs.HeldAnswers.{counted_on, new_holds, watched}
use Rattle.joined_terminals.proofs.HoldsOne.{HoldersKnown, given_holds, hung_up_holds, lost_holds, stopped_holds, taken_holds}

-- the answerer takes one page at a time
abbrev IsWell : Driven → Type 0
IsWell d = HoldsOne d.answerer.terminal.speaking

may_go : (step : Step) (d : Driven) → IsWell d → IsHeld step d
may_go (answerer_gives sent sends) d well = well.silent
may_go _ d well = tt

-- steps of the caller leave the answerer
caller_so : (silent : Bool) (d new : Driven) (caller : ConversationFields StoppableCallerFields) (others : List PlainItem) → IsWell d →
    new ≡ caller_speaks silent (record d { caller = caller; to_caller = others }) → IsWell new
caller_so true d new caller others well e = subst IsWell (sym e) well
caller_so false d new caller others well e = subst IsWell (sym e) well

answerer_so : (silent : Bool) (d new : Driven) (answerer : ConversationFields LimitedFields) (others : List PlainItem) → IsWell d →
    HoldsOne answerer.terminal.speaking → new ≡ answerer_speaks silent (record d { answerer = answerer; to_answerer = others }) → IsWell new
answerer_so true d new answerer others well one e = subst IsWell (sym e) one
answerer_so false d new answerer others well one e = subst IsWell (sym e) one

caller_refused : (d new : Driven) (line : TimedLine) → IsWell d → CallerRefusesLine line d new → IsWell new
caller_refused d new line well h = at h.given
  where
    at : ((h.caller.terminal ≡ d.caller.terminal) × (new ≡ record d { caller = h.caller })) ⊎
        (LosesFrames caller_behaviour d.caller.terminal (gives caller_behaviour d.caller h.refuses.shown line) h.caller.terminal ×
        CallerIsGiven (gives caller_behaviour d.caller h.refuses.shown line) d h.caller new) → IsWell new
    at (inl e) = caller_so true d new h.caller d.to_caller well e.1
    at (inr p) = caller_so p.1.silent d new h.caller p.1.others well p.1.is

module _ (known : HoldersKnown) where
  answerer_refused : (d new : Driven) (line : TimedLine) → IsWell d → AnswererRefusesLine line d new → IsWell new
  answerer_refused d new line well h = at h.given
    where
      at : ((h.answerer.terminal ≡ d.answerer.terminal) × (new ≡ record d { answerer = h.answerer })) ⊎
          (LosesFrames limited_behaviour d.answerer.terminal (gives limited_behaviour d.answerer h.refuses.shown line) h.answerer.terminal ×
          AnswererIsGiven (gives limited_behaviour d.answerer h.refuses.shown line) d h.answerer new) → IsWell new
      at (inl e) =
          answerer_so true d new h.answerer d.to_answerer well
          (subst (λ (t : TerminalFields LimitedFields). HoldsOne t.speaking) (sym e.0) well) e.1
      at (inr p) =
          answerer_so p.1.silent d new h.answerer p.1.others well
          (lost_holds known d.answerer.terminal h.answerer.terminal d.to_answerer p.1.others p.1.silent
          (gives limited_behaviour d.answerer h.refuses.shown line) p.0 p.1.comes p.1.turns well) p.1.is

  pub stays_well : (step : Step) (d new : Driven) → IsWell d → Does step d new → IsWell new
  stays_well (caller_line line) d new well h = caller_so h.given.silent d new h.caller h.given.others well h.given.is
  stays_well (answerer_line line) d new well h =
      answerer_so h.given.silent d new h.answerer h.given.others well
      (given_holds known d.answerer.terminal h.answerer.terminal d.to_answerer h.given.others h.given.silent
      (gives limited_behaviour d.answerer h.takes.shown line) h.takes.brought h.takes.given h.given.comes h.given.turns well) h.given.is
  stays_well (caller_refuses line) d new well h = caller_refused d new line well h
  stays_well (answerer_refuses line) d new well h = answerer_refused d new line well h
  stays_well caller_watches d new well h =
      caller_so (silent_unless (stop_in d.caller.watch) (is_silent (caller_behaviour.stop_says d.caller.terminal.speaking.station)))
      d new (refused_so caller_behaviour d.caller) d.to_caller well h
  stays_well answerer_watches d new well h =
      answerer_so
      (silent_unless (stop_in d.answerer.watch) (is_silent (limited_behaviour.stop_says d.answerer.terminal.speaking.station))) d new
      (refused_so limited_behaviour d.answerer) d.to_answerer well (watched known d.answerer well (stop_in d.answerer.watch)) h
  stays_well pages_stored d new well h =
      subst IsWell (sym h.is) (taken_holds known d.answerer.terminal.speaking well)
  stays_well page_refused d new well h =
      subst IsWell (sym h.is)
      (hung_up_holds known (with_pages_taken d.answerer).terminal.speaking (taken_holds known d.answerer.terminal.speaking well))
  stays_well page_lost d new well h =
      answerer_so (is_silent (limited_behaviour.stop_says d.answerer.terminal.speaking.station)) d new
      (stopped_so limited_behaviour d.answerer) d.to_answerer well (stopped_holds known d.answerer.terminal.speaking well) h
  stays_well hung_up d new well h =
      answerer_so false d new (hung_up_so limited_cut_off d.answerer) d.to_answerer well
      (hung_up_holds known d.answerer.terminal.speaking well) h
  stays_well (caller_gives sent sends) d new well h =
      subst IsWell (sym h.is) well
  stays_well (answerer_gives sent sends) d new well h =
      subst IsWell (sym h.is)
      (subst HoldsOne (sym (given_next AnswererSide answerer_lends d.answerer h.answerer sent d.answerer.begun h.gives).speaking)
      (counted_on d.answerer.terminal.speaking well))
  stays_well items_lost d new well h = subst IsWell (sym h.is) well

  all_held : (steps : List Step) (d last : Driven) → IsWell d → Drives steps d last → DrivesHeld steps d last
  all_held [] d last well h = h
  all_held (step ∷ more) d last well h =
      (h.0, may_go step d well, h.1, all_held more h.0 last (stays_well step d h.0 well h.1) h.2)

pub one_page_is_stored : HeldAreStored → HoldersKnown → OnePageIsStored
one_page_is_stored stored known document wish caps limits steps first last full limit octets begins drives =
    stored document wish caps limits steps first last full begins
    (all_held known steps first last (new_holds document wish caps limits first begins limit octets).1 drives)

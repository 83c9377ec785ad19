-- How a simulated call follows two joined terminals: its stations are theirs, and what is on their line is within what is on its line.
use Rattle.std.proofs.Common.{◌≡◌, Bool, true, false, Some, List, [], ◌++◌, sym}
use Rattle.std.proofs.Common.{subst}
use Rattle.stations.specs.AnswererStep.{Answerer, leaves}
use Rattle.stations.specs.CallerFields.{Represents}
use Rattle.stations.specs.CallerStep.{Caller}
use Rattle.stations.specs.Taken.{with_front}
use Rattle.stations.specs.declared.turn.End.TheVariants.{PeerLeft}
use Rattle.line_sim.specs.Line.{World, Outcome, run}
use Rattle.line_sim.specs.declared.event.Event.{Event}
use Rattle.line_sim.proofs.Transcripts.{run_both}
use Rattle.joined_terminals.specs.Joining.{Joined}
use Rattle.joined_terminals.proofs.Left.{answerer_left, caller_left}
use Rattle.joined_terminals.proofs.Within.{IsWithin}

-- the caller of the simulated call; it may have heard a DCN that the simulated one hasn't
abbrev pub caller_as : Bool → Caller → Caller
caller_as false c = c
caller_as true c = record c { ending = Some PeerLeft }

-- the answerer of the simulated call; it may have heard a DCN that the simulated one hasn't
abbrev pub answerer_as : Bool → Answerer → Answerer
answerer_as false s = s
answerer_as true s = record s { ending = Some (leaves s.accepted) }

-- the caller's side: its fields represent the simulated caller, and what is on its way from it, or still gets onto the line, is within what
-- is on its way in the simulated call
pub record CallerSide (gone : Bool) (j : Joined) (w : World) : Type 0 where
  pub represents : Represents j.caller.station.station (caller_as gone w.caller)
  pub out : IsWithin (j.to_answerer ++ caller_left j.caller_clear j.caller.taken j.caller.turn (caller_as gone w.caller)) w.to_answerer

-- the answerer's side: with the pages taken out it is the simulated answerer
pub record AnswererSide (gone : Bool) (j : Joined) (w : World) : Type 0 where
  pub is : with_front j.pages j.answerer.station.station ≡ answerer_as gone w.answerer
  pub out : IsWithin (j.to_caller ++ answerer_left j.answerer_clear j.answerer.taken j.answerer.turn w.answerer.caps) w.to_caller

pub record Follows (j : Joined) (w : World) : Type 0 where
  pub caller_gone : Bool
  pub answerer_gone : Bool
  pub caller : CallerSide caller_gone j w
  pub answerer : AnswererSide answerer_gone j w

-- events lead the simulated call to where it follows
pub record Reaches (j : Joined) (w : World) : Type 0 where
  pub steps : List (Event × Outcome)
  pub follows : Follows j (run steps w)

-- no event is needed
pub stays : {j : Joined} {w : World} → Follows j w → Reaches j w
stays f = record { steps = []; follows = f }

-- after some events
pub after : (steps : List (Event × Outcome)) (j : Joined) (w : World) → Reaches j (run steps w) → Reaches j w
after steps j w r =
    record { steps = steps ++ r.steps; follows = subst (Follows j) (sym (run_both steps r.steps w)) r.follows }

-- after some events that lead to a world that is known
pub after_known : (steps : List (Event × Outcome)) (j : Joined) (w known : World) → run steps w ≡ known → Reaches j known → Reaches j w
after_known steps j w known e r = after steps j w (subst (Reaches j) (sym e) r)

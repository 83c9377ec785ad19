-- What the code counts of the tries of a call, step by step.
use Rattle.std.specs.Prelude.{◌≡◌, ◌+◌, ◌&&◌, ◌||◌, ◌↔◌, IsTrue, ℕ, Bool, true, false, cond, not, nat_eq, nat_le, nat_lt, List, [], ◌∷◌}
use Rattle.std.specs.Prelude.{length, Option, Some}
use Rattle.line_sim.specs.Fates.{is_sending}
use Rattle.line_sim.specs.Line.{World}
use Rattle.line_sim.specs.Tolerance.{bad_with, now_with}
use Rattle.line_sim.specs.declared.event.Entry.{Entry}
use Rattle.line_sim.specs.declared.event.Event.{Event}
use Rattle.line_sim.specs.declared.event.Event.TheVariants.{DeliverToCaller}
use Rattle.line_sim.specs.declared.event.Kind.{Kind}
use Rattle.line_sim.specs.declared.event.Kind.TheVariants.{Mcf}
use Rattle.calls.specs.BadLines.{Going}
use Rattle.call_tallies.specs.FewTries.{FewTriesGone, tries_gone}
use Rattle.call_tallies.specs.ManyCalls.{is_loss, is_spoiling}
use Rattle.call_tallies.specs.Totals.{one_if}
use Rattle.calls.specs.declared.counts.Counts.{Counts}
use Rattle.calls.specs.declared.losses.BadLine.{BadLine}
use Rattle.call_tallies.specs.declared.tries.Stood.{Stood}
use Rattle.call_tallies.specs.declared.tries.TryCounts.{TryCounts}

-- what became of an item in a step was bad, by the step's entries: it is lost, or the training check was spoiled before it comes
abbrev pub is_bad_in : List Entry → Bool
is_bad_in [] = false
is_bad_in (entry ∷ []) = is_loss entry.event
is_bad_in (first ∷ entry ∷ rest) = is_spoiling first.event

-- a training check was spoiled in a step, by the step's entries
abbrev pub is_check_in : List Entry → Bool
is_check_in [] = false
is_check_in (entry ∷ []) = false
is_check_in (first ∷ entry ∷ rest) = is_spoiling first.event

-- an MCF comes in an event, by the item that the event delivers or loses
abbrev pub is_mcf : Event → Option Kind → Bool
is_mcf DeliverToCaller (Some Mcf) = true
is_mcf _ _ = false

-- an MCF came in a step, by the step's entries
abbrev pub is_mcf_in : List Entry → Bool
is_mcf_in [] = false
is_mcf_in (entry ∷ []) = is_mcf entry.event entry.item
is_mcf_in (first ∷ entry ∷ rest) = false

-- how much is under way in a world, and if its caller is sending a block
abbrev pub stood_in : World → Stood
stood_in w = record {
  counts = record { to_answerer = length w.to_answerer; to_caller = length w.to_caller };
  sends = is_sending w.caller;
}

-- a step stayed in its phase: a block is left by an MCF, and else none is begun
abbrev pub stays : List Entry → Stood → Stood → Bool
stays noted before after = cond before.sends (not (is_mcf_in noted)) (not after.sends)

-- A try began in a step: nothing was under way to the answerer, and something is; or nothing at all was, and something is to the caller.
abbrev pub begins : Counts → Counts → Bool
begins before after =
    nat_eq before.to_answerer 0 && (nat_lt 0 after.to_answerer || (nat_eq before.to_caller 0 && nat_lt 0 after.to_caller))

-- the counts of tries when a step's item has met its fate
abbrev pub met_by : ℕ → List Entry → TryCounts → TryCounts
met_by spare noted t =
    let bad = bad_with (is_bad_in noted) t.now t.bad in
    let checks = t.checks + one_if (is_check_in noted) in
    record {
      bad = bad;
      now = now_with (is_bad_in noted) t.now;
      checks = checks;
      few = t.few && (nat_le bad 2 && nat_le checks spare);
    }

-- the counts of tries before the first try of a phase
abbrev pub first_try : Bool → TryCounts
first_try few = record { bad = 0; now = false; checks = 0; few = few }

-- the counts in a phase that goes on, with or without a new try
abbrev pub goes_on : Bool → TryCounts → TryCounts
goes_on again t = record { bad = t.bad; now = t.now && not again; checks = t.checks; few = t.few }

-- the counts of tries after a step
abbrev pub tried : ℕ → List Entry → Stood → Stood → TryCounts → TryCounts
tried spare noted before after t =
    let met = met_by spare noted t in
    cond (stays noted before after) (goes_on (begins before.counts after.counts) met) (first_try met.few)

-- the counts are those of a call's tries after this number of first steps
pub record Follows (made spare : ℕ) (line : BadLine) (first : Going) (t : TryCounts) : Type 0 where
  pub tries : tries_gone made line first ≡ record { bad = t.bad; now = t.now; checks = t.checks }
  pub few : IsTrue t.few ↔ FewTriesGone made spare line first

use Rattle.joined_terminals.specs.WholeCall.{IsSoFar}
use Rattle.joined_terminals.proofs.whole_call.call_comes.Given as goal

abbrev pub invariant-loop-turn : goal.invariant-loop-turn
invariant-loop-turn l = IsSoFar l.fn.document l.fn.wish l.fn.caps l.fn.limits l.caller l.answerer

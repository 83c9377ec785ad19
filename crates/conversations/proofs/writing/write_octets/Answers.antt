-- What the check asks of `write_octets`.
use Rattle.conversations.proofs.Written.{front_written, still_written}
use Rattle.conversations.proofs.writing.write_octets.Goals as goal
use Rattle.conversations.proofs.writing.write_octets.Goals.{in-Ok, in-Err+else-ne}

pub loop-turn-preserved : goal.loop-turn-preserved
loop-turn-preserved g c =
    elim c.match-write.branch [
      | in-Ok w ↦ rw w.rest-is (front_written _ _ _ _ _ _ c.loop-turn.invariant w.in-Ok.ensures.bytes)
      | in-Err+else-ne w ↦ rw w.rest-is (still_written _ _ _ _ _ c.loop-turn.invariant w.in-Err.ensures.bytes)
    ]

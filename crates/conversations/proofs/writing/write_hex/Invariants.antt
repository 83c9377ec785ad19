-- What holds in the loop of `write_hex`.
use Rattle.std.proofs.Common.{length}
use Rattle.hex.specs.Hex.{encode_upper}
use Rattle.conversations.proofs.Written.{HasWritten}
use Rattle.conversations.proofs.writing.write_hex.Given as goal

abbrev pub invariant-loop-rest : goal.invariant-loop-rest
invariant-loop-rest g l =
    HasWritten (encode_upper l.octets) (encode_upper l.rest) (g.W.Write.contents l.fn.writer) (g.W.Write.contents l.writer)

abbrev pub decreases-loop-rest : goal.decreases-loop-rest
decreases-loop-rest g l = length l.rest

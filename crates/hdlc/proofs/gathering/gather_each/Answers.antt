use Rattle.std.proofs.Common.{◌/◌, ◌%◌, ℕ, subst}
use Rattle.hdlc.specs.Gathers.{Gathers}
use Rattle.hdlc.proofs.GatheringLemmas.{four_joined}
use Rattle.hdlc.proofs.gathering.gather_each.Goals as goal

pub returns-clause-gathers : goal.returns-clause-gathers
returns-clause-gathers c gap old =
    let w : ℕ = c.args.word in
    let one = c.with-one.ensures.gathers c.args.buffer.now gap old in
    let two = c.with-two.ensures.gathers c.args.buffer.now _ one in
    let three = c.with-three.ensures.gathers c.args.buffer.now _ two in
    let four = c.with.ensures.gathers c.args.buffer.now _ three in
    subst (Gathers c.settled.new.buffer c.settled.result) (four_joined gap (w % 256) (w / 256 % 256) (w / 65536 % 256) (w / 16777216))
    (c.settled.ensures.gathers _ four)

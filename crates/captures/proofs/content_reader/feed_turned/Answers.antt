-- What the check asks of `feed_turned`.
use Rattle.std.proofs.Common.{◌++◌, take, subst}
use Rattle.std.proofs.lemmas.List.{take_all}
use Rattle.hdlc.specs.DeframerState.{IsAfter}
use Rattle.raster.specs.Packed.{bits_of}
use Rattle.raster.specs.declared.packed.Order.TheVariants.{MsbFirst}
use Rattle.faults.proofs.FirstElements.{take_next}
use Rattle.captures.proofs.TurnedBits.{none_turned, one_turned}
use Rattle.captures.proofs.content_reader.feed_turned.Goals as goal

pub loop-octet-init : goal.loop-octet-init
loop-octet-init c bits handed after = none_turned c.args.deframer.now c.args.piece.now bits handed after

pub loop-octet-preserved : goal.loop-octet-preserved
loop-octet-preserved c bits handed after =
    one_turned c.feed.new.self c.args.piece.now c.loop-octet.octet-index _ c.turned.result bits handed
    (take_next c.args.piece.now c.loop-octet.octet-index _ c.loop-octet-test.true) c.turned.ensures
    (c.in_ok-feed.ensures.ok (bits ++ bits_of MsbFirst (take c.loop-octet.octet-index c.args.piece.now)) handed
    (c.loop-octet.invariant bits handed after))

pub returns : goal.returns
returns c = record {
  ok = λ bits handed after. subst (λ l. IsAfter c.loop-octet.deframer (bits ++ bits_of MsbFirst l) handed)
      (take_all c.loop-octet.octet-index c.args.piece.now c.loop-octet-test.false) (c.loop-octet.invariant bits handed after);
}

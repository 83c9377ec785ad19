use Rattle.std.proofs.Common.{◌≡◌, ◌++◌, ◌∷◌, [], sym, arith, subst}
use Rattle.std.proofs.lemmas.List.{append-nil}
use Rattle.raster.specs.Packed.{bits_in}
use Rattle.raster.specs.declared.packed.Order.TheVariants.{LsbFirst}
use Rattle.hdlc.specs.Contents.{contents_of}
use Rattle.hdlc.specs.DeframerParts.{PartsAfter}
use Rattle.hdlc.proofs.DeframerPartsLemmas.{grows_twice, piece_none, piece_more}
use Rattle.hdlc.proofs.flag_finder.take_each.Goals as goal

pub loop-place-init : goal.loop-place-init
loop-place-init c = record {
  taken = λ bits handed old. rw (piece_none bits (c.args.octet ∷ [])) old;
  keeps = record { rest = []; is = sym (append-nil c.args.queue.now.items) };
}

pub loop-place-preserved : goal.loop-place-preserved
loop-place-preserved c = record {
  taken = λ bits handed old.
      rw (piece_more bits (c.args.octet ∷ []) c.loop-place.place, ← c.bit_at.ensures)
      (c.in_ok-take_bit.ensures.ok (bits ++ bits_in LsbFirst (c.args.octet ∷ []) c.loop-place.place) handed
      (c.loop-place.invariant.taken bits handed old));
  keeps = grows_twice _ _ _ c.loop-place.invariant.keeps c.take_bit.ensures.keeps;
}

pub returns-clause-ok : goal.returns-clause-ok
returns-clause-ok c bits handed old =
    let whole : c.loop-place.place ≡ 8 = omega arith in
    subst (λ n. PartsAfter c.loop-place.finder c.loop-place.counts (contents_of c.loop-place.queue.items)
    (bits ++ bits_in LsbFirst (c.args.octet ∷ []) n) handed) whole (c.loop-place.invariant.taken bits handed old)

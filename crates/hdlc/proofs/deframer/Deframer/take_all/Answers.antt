use Rattle.std.proofs.Common.{◌≡◌, ◌++◌, ◌≤◌, [], ap, sym, refl, ◌∙◌, arith, length, take, drop, ◌-◌, ℕ, List}
use Rattle.raster.specs.Packed.{bits_of}
use Rattle.raster.specs.declared.packed.Order.TheVariants.{LsbFirst}
use Rattle.hdlc.specs.Contents.{contents_of}
use Rattle.std.proofs.lemmas.List.{append-nil, take_all, length-drop}
use Rattle.hdlc.specs.DeframerParts.{kept_in}
use Rattle.hdlc.proofs.KeptLemmas.{parts_seen, parts_inside}
use Rattle.hdlc.proofs.DeframerPartsLemmas.{grows_twice, grows_cut, state_same}
use Rattle.hdlc.proofs.BitPlaces.{octets-none, octets-more, octets-all}
use Rattle.hdlc.proofs.deframer.Deframer.take_all.Goals as goal

pub returns-in-Err-clause-err : goal.returns-in-Err-clause-err
returns-in-Err-clause-err c =
    let kept : c.truncate.new.self.items ≡ c.self.inside.queue.items =
    c.truncate.ensures.items
    ∙ grows_cut c.self.inside.queue.items _ c.len-before.result
    (grows_twice _ _ _ c.loop-at.invariant.keeps c.take_octets.ensures.keeps) (omega (arith, c.self.inside.queue.ok)) in
    state_same _ _ (ap kept_in c.copy-finder.ensures) refl (ap contents_of kept) ∙ c.self.view_is

pub loop-at-init : goal.loop-at-init
loop-at-init c = record {
  within = omega arith;
  taken = λ bits handed old.
      rw (octets-none bits)
      (parts_inside c.self.inside.finder c.self.inside.counts
      (contents_of c.self.inside.queue.items) bits handed c.args.self.now c.self.view_is old);
  keeps = record { rest = []; is = sym (append-nil c.self.inside.queue.items) };
}

pub returns-clause-ok : goal.returns-clause-ok
returns-clause-ok c bits handed old =
    let past : length c.args.piece.now ≤ c.loop-at.at = omega arith in
    rw (← octets-all bits c.args.piece.now c.loop-at.at past)
    (parts_seen c.loop-at.self-inside.finder c.loop-at.self-inside.counts _ _ handed (c.loop-at.invariant.taken bits handed old))

pub loop-at-preserved : goal.loop-at-preserved
loop-at-preserved c =
    let piece : List ℕ = c.args.piece.now in
    let at : ℕ = c.loop-at.at in
    let rest : take (length piece - at) (drop at piece) ≡ drop at piece = take_all (length piece - at) (drop at piece)
    (rw length-drop (omega
    arith)) in
    record {
      within = omega (arith, c.in-Ok.ensures.most);
      taken = λ bits handed old.
          rw (octets-more bits piece at c.in-Ok.count, ← rest)
          (c.in-Ok.ensures.ok (bits ++ bits_of LsbFirst (take c.loop-at.at c.args.piece.now)) handed
          (c.loop-at.invariant.taken bits handed old));
      keeps = grows_twice _ _ _ c.loop-at.invariant.keeps c.take_octets.ensures.keeps;
    }

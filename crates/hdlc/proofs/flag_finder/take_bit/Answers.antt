use Rattle.std.proofs.Common.{◌≡◌, refl, arith}
use Rattle.hdlc.specs.Contents.{contents_of}
use Rattle.hdlc.specs.OpenGap.{settled}
use Rattle.hdlc.proofs.DeframerPartsLemmas.{parts_wait, parts_flag}
use Rattle.hdlc.proofs.flag_finder.take_bit.Goals as goal

pub returns-then-finder-ne126-clause-ok : goal.returns-then-finder-ne126-clause-ok
returns-then-finder-ne126-clause-ok c bits handed old =
    let isnt : c.shift.new.self.window ≡ 126 → ⊥ = λ e. omega arith in
    parts_wait c.args.finder.now c.shift.new.self _ c.args.counts.now (contents_of c.args.queue.now.items) c.args.bit bits handed old
    (record { begun = c.shift.ensures.begun; held = c.shift.ensures.held; window = c.shift.ensures.window; gap = c.shift.ensures.gap })
    isnt refl c.held_after-finder.ensures refl refl

pub returns-clause-ok : goal.returns-clause-ok
returns-clause-ok c bits handed old =
    parts_flag c.args.finder.now c.shift.new.self _ c.args.counts.now c.close.new.counts (contents_of c.args.queue.now.items)
    (contents_of c.close.new.queue.items) c.args.bit bits handed old
    (record { begun = c.shift.ensures.begun; held = c.shift.ensures.held; window = c.shift.ensures.window; gap = c.shift.ensures.gap })
    (omega arith) refl refl refl c.new-finder.ensures
    (record {
      counted = c.close.ensures.counted (settled bits) (c.shift.ensures.gap bits old.cuts);
      queued = c.in_ok-close.ensures.ok (settled bits) (c.shift.ensures.gap bits old.cuts);
    })

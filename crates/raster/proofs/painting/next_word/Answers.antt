use Rattle.std.proofs.Common.{arith, ◌≡◌, ◌+◌, ◌-◌, ◌*◌, ◌/◌}
use Rattle.raster.proofs.PaintingLemmas.{drawn_black, drawn_white}
use Rattle.raster.proofs.painting.next_word.Goals as goal

pub returns-then-brush-eq0-clause-drawn : goal.returns-then-brush-eq0-clause-drawn
returns-then-brush-eq0-clause-drawn c k =
    let from : c.args.place / 64 * 64 + 64 - 64 ≡ c.args.place / 64 * 64 = omega arith in
    rw from
    (drawn_white c.args.octets.now (c.args.brush.end - 64) c.args.brush.word c.store.new.octets (c.args.place / 64 * 64) k c.store.ensures
    (λ i low. c.requires.clear i (omega arith)) c.if-brush-eq0.true (omega (arith, c.requires.begun, c.requires.aligned, c.requires.past)))

pub returns-clause-drawn : goal.returns-clause-drawn
returns-clause-drawn c k =
    let from : c.args.place / 64 * 64 + 64 - 64 ≡ c.args.place / 64 * 64 = omega arith in
    rw from
    (drawn_black c.args.octets.now (c.args.brush.end - 64) c.args.brush.word c.store.new.octets c.blacken.new.octets
    (c.args.place / 64 * 64) k c.store.ensures
    (record {
      before = λ i h. c.blacken.ensures.before i (omega (arith, c.requires.begun));
      set = λ i low h. c.blacken.ensures.set i (omega (arith, c.requires.begun)) h;
    })
    c.if-brush-eq0.false (omega (arith, c.requires.begun, c.requires.aligned, c.requires.past)))

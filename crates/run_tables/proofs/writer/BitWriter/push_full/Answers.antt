use Rattle.std.proofs.Common.{List, Bool, ap, ◌∙◌, ◌++◌, arith}
use Rattle.raster.specs.Packed.{Bits}
use Rattle.run_tables.specs.Pending.{word_bits}
use Rattle.run_tables.proofs.PendingLemmas.{held_more, held_full, held-same, clear_more, clear_rest}
use Rattle.run_tables.proofs.writer.BitWriter.push_full.Goals as goal

pub invariant_of-self-then-filled-lt64 : goal.invariant_of-self-then-filled-lt64
invariant_of-self-then-filled-lt64 c = record {
  few = c.if-filled-lt64.true;
  within = omega arith;
  most = omega arith;
  whole = omega arith;
  begun = λ e. absurd (omega arith);
  room = omega (arith, c.in_ok-make_room.ensures.room);
  clear = clear_more c.self.inside.word c.self.inside.filled c.args.all c.args.count c.self.invariant.clear c.requires.clear;
}

pub returns-then-filled-lt64-clause-ok : goal.returns-then-filled-lt64-clause-ok
returns-then-filled-lt64-clause-ok c =
    let with_bits : List Bool → Bits = λ bits. record { order = c.self.inside.order; bits = bits } in
    rw (← c.self.view_is)
    (ap with_bits (held_more c.self.inside.order c.make_room.new.octets.items c.self.inside.at c.self.inside.word c.self.inside.filled
    c.args.all c.args.count c.ranges.all.fits c.self.invariant.clear (omega (arith, c.if-filled-lt64.true)) ∙
    ap (λ (bits : List Bool). bits ++ word_bits c.args.count c.args.all)
    (held-same c.self.inside.order c.self.inside.octets.items c.make_room.new.octets.items c.self.inside.at c.self.inside.word
    c.self.inside.filled (c.make_room.ensures.same c.self.inside.order))))

pub invariant_of-self-2 : goal.invariant_of-self-2
invariant_of-self-2 c = record {
  few = omega (arith, c.self.invariant.few, c.requires.few);
  within = omega (arith, c.self.invariant.few, c.requires.few);
  most = omega arith;
  whole = omega arith;
  begun = λ e. absurd (omega arith);
  room = omega (arith, c.in_ok-make_room.ensures.room, c.put_word.ensures.same_length);
  clear = clear_rest c.self.inside.filled c.args.all c.args.count (omega (arith, c.self.invariant.few)) c.requires.clear;
}

pub returns-clause-ok : goal.returns-clause-ok
returns-clause-ok c =
    let with_bits : List Bool → Bits = λ bits. record { order = c.self.inside.order; bits = bits } in
    rw (← c.self.view_is)
    (ap with_bits (held_full c.self.inside.order c.make_room.new.octets.items c.put_word.new.octets.items c.self.inside.at
    c.self.inside.word c.self.inside.filled c.args.all c.args.count c.ranges.all.fits c.self.invariant.clear
    (omega (arith, c.self.invariant.few)) (omega (arith, c.requires.few)) c.if-filled-lt64.false c.put_word.ensures ∙
    ap (λ (bits : List Bool). bits ++ word_bits c.args.count c.args.all)
    (held-same c.self.inside.order c.self.inside.octets.items c.make_room.new.octets.items c.self.inside.at c.self.inside.word
    c.self.inside.filled (c.make_room.ensures.same c.self.inside.order))))

use Rattle.std.proofs.Common.{List, Bool, ap, ◌∙◌, ◌++◌, arith}
use Rattle.raster.specs.Packed.{Bits}
use Rattle.run_tables.specs.Pending.{held}
use Rattle.run_tables.proofs.PendingLemmas.{held_more, clear_more, highest, highest_bits, highest_clear}
use Rattle.run_tables.proofs.writer.BitWriter.push_bits.Goals as goal

pub push_full-requires-clause-clear : goal.push_full-requires-clause-clear
push_full-requires-clause-clear c = highest_clear c.args.value c.args.count c.requires

pub returns-then-filled-self-clause-ok : goal.returns-then-filled-self-clause-ok
returns-then-filled-self-clause-ok c = rw (← highest_bits c.args.value c.args.count c.requires) c.push_full.ensures.ok

pub invariant_of-self : goal.invariant_of-self
invariant_of-self c = record {
  few = omega (arith, c.if-filled-self.false, c.self.invariant.most);
  within = omega (arith, c.if-filled-self.false);
  most = c.self.invariant.most;
  whole = c.self.invariant.whole;
  begun = c.self.invariant.begun;
  room = c.self.invariant.room;
  clear = clear_more c.self.inside.word c.self.inside.filled (highest c.args.value c.args.count) c.args.count c.self.invariant.clear
      (highest_clear c.args.value c.args.count c.requires);
}

pub returns-clause-ok : goal.returns-clause-ok
returns-clause-ok c =
    let with_bits : List Bool → Bits = λ bits. record { order = c.self.inside.order; bits = bits } in
    rw (← c.self.view_is)
    (ap with_bits (held_more c.self.inside.order c.self.inside.octets.items c.self.inside.at c.self.inside.word c.self.inside.filled
    (highest c.args.value c.args.count) c.args.count (omega arith) c.self.invariant.clear
    (omega (arith, c.if-filled-self.false, c.self.invariant.most)) ∙
    ap (λ (bits : List Bool). held c.self.inside.order c.self.inside.octets.items c.self.inside.at c.self.inside.word c.self.inside.filled
    ++ bits) (highest_bits c.args.value c.args.count c.requires)))

use Rattle.std.proofs.Common.{List, Bool, OnErr, Result, Ok, Err, ap, arith, refl, sym, take, ◌+◌, ◌++◌, ◌/◌, ◌≡◌, ◌∙◌, []}
use Rattle.std.proofs.lemmas.List.{append-nil}
use Rattle.raster.specs.Packed.{Bits}
use Rattle.raster.proofs.PackedLemmas.{bits_in-none}
use Rattle.run_tables.specs.Pending.{held}
use Rattle.run_tables.proofs.PendingLemmas.{clear_left, held_moved, held_stored, length-held, length-left}
use Rattle.run_tables.proofs.writer.BitWriter.move_octets.Goals as goal

pub returns-then-self-eq0-clause-ok : goal.returns-then-self-eq0-clause-ok
returns-then-self-eq0-clause-ok c =
    let none : c.self.inside.at ≡ 0 = c.self.invariant.begun c.if-self-eq0.true in
    rw (← c.self.view_is) (record {
      octets = [];
      joined = sym (append-nil c.args.out.now.items);
      order = refl;
      all = ap (λ (bits : List Bool). bits ++
          held c.self.inside.order c.self.inside.octets.items c.self.inside.at c.self.inside.word c.self.inside.filled)
          (sym (bits_in-none c.self.inside.order []));
      few = rw length-held (omega (arith, none, c.self.invariant.within, c.if-self-eq0.true));
    })

on_err : {A E : Type 0} (P : Type 0) (r : Result A E) → P → OnErr r P
on_err P (Ok x) holds = tt
on_err P (Err x) holds = holds

pub returns-in_err-extend_from_slice-clause-kept :
    goal.returns-in_err-extend_from_slice-clause-kept
returns-in_err-extend_from_slice-clause-kept c =
    let with_bits : List Bool → Bits = λ bits. record { order = c.self.inside.order; bits = bits } in
    on_err _ c.from_residual.result
    (ap with_bits (held_stored c.self.inside.order c.self.inside.octets.items c.put_word.new.octets.items c.self.inside.at c.self.inside.word
    c.self.inside.filled c.put_word.ensures) ∙ c.self.view_is)

pub invariant_of-self-2 : goal.invariant_of-self-2
invariant_of-self-2 c = record {
  few = omega arith;
  within = omega (arith, c.self.invariant.whole, c.if-self-eq0.false);
  most = c.self.invariant.most;
  whole = c.self.invariant.whole;
  begun = λ e. refl;
  room = omega (arith, c.self.invariant.room, c.put_word.ensures.same_length);
  clear = clear_left c.self.inside.word c.self.inside.filled c.self.invariant.few c.self.invariant.clear;
}

pub returns-clause-ok : goal.returns-clause-ok
returns-clause-ok c =
    rw (← c.self.view_is) (record {
      octets = take (c.self.inside.at + c.self.inside.filled / 8) c.put_word.new.octets.items;
      joined = rw c.deref.ensures.value at c.in_ok-extend_from_slice.ensures.items;
      order = refl;
      all = held_moved c.self.inside.order c.self.inside.octets.items c.put_word.new.octets.items c.self.inside.at c.self.inside.word
          c.self.inside.filled c.self.invariant.few
          (omega (arith, c.self.invariant.room, c.self.invariant.whole, c.if-self-eq0.false, c.put_word.ensures.same_length))
          c.put_word.ensures;
      few = length-left c.self.inside.order c.put_word.new.octets.items _ c.self.inside.filled;
    })

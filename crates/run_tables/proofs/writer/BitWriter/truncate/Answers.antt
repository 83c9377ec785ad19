use Rattle.std.proofs.Common.{ℕ, List, Bool, ap, sym, ◌∙◌, ◌≤◌, ◌≡◌, ◌*◌, ◌+◌, arith, take, length}
use Rattle.std.proofs.lemmas.List.{take_all}
use Rattle.raster.specs.Packed.{Bits}
use Rattle.run_tables.specs.Pending.{held}
use Rattle.run_tables.proofs.PendingLemmas.{length-held, held_first}
use Rattle.run_tables.proofs.writer.BitWriter.truncate.Goals as goal

pub returns-then-self-eq0 : goal.returns-then-self-eq0
returns-then-self-eq0 c =
    let with_bits : List Bool → Bits = λ bits. record { order = c.self.inside.order; bits = bits } in
    let none : c.self.inside.at ≡ 0 = c.self.invariant.begun c.if-self-eq0.true in
    let all : length (held c.self.inside.order c.self.inside.octets.items c.self.inside.at c.self.inside.word c.self.inside.filled)
    ≤ c.args.bits = rw length-held (omega (arith, none, c.self.invariant.within, c.if-self-eq0.true)) in
    rw (← c.self.view_is) (ap with_bits (sym (take_all c.args.bits _ all)))

pub last_place-at-requires : goal.last_place-at-requires
last_place-at-requires c = omega (arith, c.self.invariant.few, rw (← c.self.view_is, length-held) at c.requires)

pub invariant_of-self : goal.invariant_of-self
invariant_of-self c = record {
  few = c.last_place-at.ensures.few;
  within = omega (arith, c.last_place-at.ensures.few, c.self.invariant.whole, c.if-self-eq0.false);
  most = c.self.invariant.most;
  whole = c.self.invariant.whole;
  begun = λ e. absurd (omega (arith, c.if-self-eq0.false, e));
  room = omega (arith, c.last_place-at.ensures.low, c.self.invariant.room, c.put_word.ensures.same_length);
  clear = c.first_of-self-inside.ensures.clear;
}

pub returns : goal.returns
returns c =
    let with_bits : List Bool → Bits = λ bits. record { order = c.self.inside.order; bits = bits } in
    let fits : c.args.bits ≤ 8 * c.self.inside.at + c.self.inside.filled = rw (← c.self.view_is, length-held) at c.requires in
    let there = rw c.deref.ensures.value at c.word_at-word.ensures in
    rw (← c.self.view_is)
    (ap with_bits (held_first c.self.inside.order c.self.inside.octets.items c.put_word.new.octets.items c.self.inside.at c.self.inside.word
    c.self.inside.filled c.last_place-at.result.0 c.first_of-self-inside.result c.last_place-at.result.1 c.put_word.ensures
    (omega (arith, c.self.invariant.few)) (omega (arith, c.last_place-at.ensures.place, fits))
    (λ k h. c.first_of-self-inside.ensures.same k h ∙ there k (omega (arith, c.last_place-at.ensures.few))) ∙
    ap (λ (n : ℕ). take n (held c.self.inside.order c.self.inside.octets.items c.self.inside.at c.self.inside.word c.self.inside.filled))
    c.last_place-at.ensures.place))

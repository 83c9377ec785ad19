-- Bit writers that grow.
use Rattle.std.proofs.Common.{◌≡◌, ℕ, ◌≤◌, Bool, List, [], ◌++◌, ◌+◌, length, take, ap, sym, ◌∙◌, arith, append_assoc}
use Rattle.std.proofs.lemmas.List.{append-nil, length-append, take_at}
use Rattle.raster.specs.Packed.{Bits}
use Rattle.hdlc.specs.Writing.{Extends}

with_bits : Bits → List Bool → Bits
with_bits w bits = record w { bits = bits }

pub extends_none : (old new : Bits) → new ≡ old → Extends old new
unfolding with_bits
extends_none old new e = record { rest = []; is = e ∙ ap (λ bits. with_bits old bits) (sym (append-nil old.bits)) }

pub extends_twice : (old mid new : Bits) → Extends old mid → Extends mid new → Extends old new
unfolding with_bits
extends_twice old mid new first second = record {
  rest = first.rest ++ second.rest;
  is = second.is ∙ (ap (λ (m : Bits). with_bits m (m.bits ++ second.rest)) first.is
      ∙ ap (λ bits. with_bits old bits) (append_assoc old.bits first.rest second.rest));
}

pub extends_by : (old new : Bits) (rest : List Bool) → new ≡ record old { bits = old.bits ++ rest } → Extends old new
extends_by old new rest e = record { rest = rest; is = e }

pub extends_length : (old new : Bits) (n : ℕ) → Extends old new → n ≡ length old.bits → n ≤ length new.bits
extends_length old new n e h = let size : length new.bits ≡ length old.bits + length e.rest = ap (λ (w : Bits). length w.bits) e.is
    ∙ length-append old.bits e.rest in omega arith

pub extends_cut : (old new last : Bits) (n : ℕ) → Extends old new → n ≡ length old.bits → last ≡ record new { bits = take n new.bits }
    → last ≡ old
unfolding with_bits
extends_cut old new last n e h is =
    is ∙ (ap (λ (w : Bits). with_bits w (take n w.bits)) e.is ∙ ap (λ bits. with_bits old bits) (take_at old.bits e.rest n (sym h)))

pub ruleset steps = (extends_none, extends_by, extends_twice)

use Rattle.std.proofs.Common.{◌≡◌, ◌<◌, ◌+◌, ◌-◌, ◌*◌, ◌/◌, ◌%◌, ◌^◌, ℕ, length, refl, ap, sym, ◌∙◌, arith, nat_eq, false}
use Rattle.std.proofs.lemmas.Bool.{eqb-true, eqb-false}
use Rattle.hdlc.specs.Pending.{window_of}
use Rattle.hdlc.proofs.AssemblingOctets.{bits_kept, octet_kept, octet_past}
use Rattle.hdlc.proofs.PendingLemmas.{moved, few_bits, joined_fits, whole_fits, register_kept, register_past, octet_is}
use Rattle.hdlc.proofs.octet_buffer.OctetBuffer.push_after.Goals as goal

pub returns-then-part-lt8-clause-pending : goal.returns-then-part-lt8-clause-pending
returns-then-part-lt8-clause-pending c =
    let p : ℕ = c.args.pending.part in
    let v : ℕ = c.args.value in
    let b : ℕ = c.args.pending.bits in
    let far = moved p v b c.requires.pending.few (omega arith) c.requires.pending.small in
    let sum : ℕ = (b + c.from.result * 2 ^ p % 2 ^ 32) % 2 ^ 32 in
    let is : sum ≡ b + v * 2 ^ p = ap (λ n. (b + n * 2 ^ p % 2 ^ 32) % 2 ^ 32) c.from.ensures ∙ far.0 in
    let fits : sum < 2 ^ (p + c.args.count) = rw is (joined_fits p c.args.count b v c.requires.pending.fits
    c.requires.fits) in
    record { few = c.if-part-lt8.true; fits = fits; small = few_bits (p + c.args.count) sum c.if-part-lt8.true fits }

pub returns-then-part-lt8-clause-bits : goal.returns-then-part-lt8-clause-bits
returns-then-part-lt8-clause-bits c bits more size value old =
    let p : ℕ = c.args.pending.part in
    let v : ℕ = c.args.value in
    let b : ℕ = c.args.pending.bits in
    let few : p < 8 = c.requires.pending.few in
    let far = moved p v b few (omega arith) c.requires.pending.small in
    let sum : ℕ = (b + c.from.result * 2 ^ p % 2 ^ 32) % 2 ^ 32 in
    let is : sum ≡ b + v * 2 ^ p = ap (λ n. (b + n * 2 ^ p % 2 ^ 32) % 2 ^ 32) c.from.ensures ∙ far.0 in
    bits_kept _ _ bits more v old (omega arith) value (omega arith) (omega arith)
    (ap (λ x. (x * 256 + c.args.pending.last) / 2 ^ (p + c.args.count) % 256) is
    ∙ (register_kept p c.args.count b v c.args.pending.last c.requires.pending.fits (omega arith)
    ∙ ap (λ k. (v * 256 + window_of c.args.pending) / 2 ^ k % 256) (sym size))) refl refl

pub returns-then-is_full-clause-pending : goal.returns-then-is_full-clause-pending
returns-then-is_full-clause-pending c =
    let p : ℕ = c.args.pending.part in
    let v : ℕ = c.args.value in
    let b : ℕ = c.args.pending.bits in
    let far = moved p v b c.requires.pending.few (omega arith) c.requires.pending.small in
    let sum : ℕ = (b + c.from.result * 2 ^ p % 2 ^ 32) % 2 ^ 32 in
    let is : sum ≡ b + v * 2 ^ p = ap (λ n. (b + n * 2 ^ p % 2 ^ 32) % 2 ^ 32) c.from.ensures ∙ far.0 in
    record {
      few = omega arith;
      fits = rw is (whole_fits p c.args.count b v (omega arith) c.requires.pending.fits c.requires.fits);
      small = rw is (omega (arith, far.1));
    }

pub returns-then-is_full-clause-bits : goal.returns-then-is_full-clause-bits
returns-then-is_full-clause-bits c bits more size value old =
    let p : ℕ = c.args.pending.part in
    let v : ℕ = c.args.value in
    let b : ℕ = c.args.pending.bits in
    let few : p < 8 = c.requires.pending.few in
    let far = moved p v b few (omega arith) c.requires.pending.small in
    let sum : ℕ = (b + c.from.result * 2 ^ p % 2 ^ 32) % 2 ^ 32 in
    let is : sum ≡ b + v * 2 ^ p = ap (λ n. (b + n * 2 ^ p % 2 ^ 32) % 2 ^ 32) c.from.ensures ∙ far.0 in
    octet_past _ _ bits more v old (omega arith) value (omega arith) (omega arith)
    (ap (λ x. (x / 256 * 256 + x % 256) / 2 ^ (p + c.args.count - 8) % 256) is
    ∙ (register_past p c.args.count b v c.args.pending.last c.requires.pending.fits (omega arith) (omega arith)
    ∙ ap (λ k. (v * 256 + window_of c.args.pending) / 2 ^ k % 256) (sym size)))
    (eqb-true _ _ (sym c.is_full.ensures.value ∙ c.if-is_full.true)) refl refl

pub returns-clause-pending : goal.returns-clause-pending
returns-clause-pending c =
    let p : ℕ = c.args.pending.part in
    let v : ℕ = c.args.value in
    let b : ℕ = c.args.pending.bits in
    let far = moved p v b c.requires.pending.few (omega arith) c.requires.pending.small in
    let sum : ℕ = (b + c.from.result * 2 ^ p % 2 ^ 32) % 2 ^ 32 in
    let is : sum ≡ b + v * 2 ^ p = ap (λ n. (b + n * 2 ^ p % 2 ^ 32) % 2 ^ 32) c.from.ensures ∙ far.0 in
    record {
      few = omega arith;
      fits = rw is (whole_fits p c.args.count b v (omega arith) c.requires.pending.fits c.requires.fits);
      small = rw is (omega (arith, far.1));
    }

pub returns-clause-bits : goal.returns-clause-bits
returns-clause-bits c bits more size value old =
    let p : ℕ = c.args.pending.part in
    let v : ℕ = c.args.value in
    let b : ℕ = c.args.pending.bits in
    let last : ℕ = c.args.pending.last in
    let few : p < 8 = c.requires.pending.few in
    let far = moved p v b few (omega arith) c.requires.pending.small in
    let sum : ℕ = (b + c.from.result * 2 ^ p % 2 ^ 32) % 2 ^ 32 in
    let is : sum ≡ b + v * 2 ^ p = ap (λ n. (b + n * 2 ^ p % 2 ^ 32) % 2 ^ 32) c.from.ensures ∙ far.0 in
    let full : nat_eq (length c.args.self.now.whole.items) 302 ≡ false = sym c.is_full.ensures.value ∙ c.if-is_full.false in
    let room : length c.args.self.now.whole.items < 302 = omega (arith, eqb-false _ _ full) in
    octet_kept _ _ bits more v (sum % 256) old (omega arith) value (omega arith)
    (ap (λ x. x % 256) is ∙ octet_is p c.args.count b v last c.requires.pending.fits (omega arith) few) (omega arith)
    (ap (λ x. (x / 256 * 256 + x % 256) / 2 ^ (p + c.args.count - 8) % 256) is
    ∙ (register_past p c.args.count b v last c.requires.pending.fits (omega arith) (omega arith)
    ∙ ap (λ k. (v * 256 + window_of c.args.pending) / 2 ^ k % 256) (sym size))) room c.push.ensures.items refl

-- Bits after the whole octets as numbers.
use Rattle.std.proofs.Common.{◌≡◌, ℕ, zero, suc, ◌+◌, ◌-◌, ◌*◌, ◌/◌, ◌%◌, ◌^◌, ◌<◌, ◌≤◌, ap, sym, ◌∙◌, arith}
use Rattle.std.proofs.Math.Nat.{mul_assoc, add-mul-div_right, div-lt_iff_lt-mul}
use Rattle.std.proofs.lemmas.Nat.{shr-shr, pow-add, pow_pos, rows}

-- a number moved up by fewer than eight places
pub moved : (p v b : ℕ) → p < 8 → v < 256 → b < 128
    → ((b + v * 2 ^ p % 2 ^ 32) % 2 ^ 32 ≡ b + v * 2 ^ p) × (b + v * 2 ^ p < 32768)
moved zero v b h few small = (omega arith, omega arith)
moved (suc zero) v b h few small = (omega arith, omega arith)
moved (suc (suc zero)) v b h few small = (omega arith, omega arith)
moved (suc (suc (suc zero))) v b h few small = (omega arith, omega arith)
moved (suc (suc (suc (suc zero)))) v b h few small = (omega arith, omega arith)
moved (suc (suc (suc (suc (suc zero))))) v b h few small = (omega arith, omega arith)
moved (suc (suc (suc (suc (suc (suc zero)))))) v b h few small = (omega arith, omega arith)
moved (suc (suc (suc (suc (suc (suc (suc zero))))))) v b h few small = (omega arith, omega arith)
moved (suc (suc (suc (suc (suc (suc (suc (suc p)))))))) v b h few small = absurd (omega arith)

-- the bits that were there, the register of the last eight of them, and bits more
over : (p v a : ℕ) → (a + 256 * (v * 2 ^ p)) / 2 ^ p ≡ v * 256 + a / 2 ^ p
over p v a =
    let swap : a / 2 ^ p + 256 * v ≡ v * 256 + a / 2 ^ p = omega arith in
    ap (λ n. (a + n) / 2 ^ p) (sym (mul_assoc 256 v (2 ^ p))) ∙ (add-mul-div_right a (256 * v) (pow_pos p) ∙ swap)

-- a register of eight bits is one
pub register : (p b last : ℕ) → b < 2 ^ p → last < 256 → (b * 256 + last) / 2 ^ p < 256
register p b last fits small = (div-lt_iff_lt-mul (pow_pos p)).1 (omega arith)

pub few_bits : (p b : ℕ) → p < 8 → b < 2 ^ p → b < 128
few_bits zero b h fits = omega arith
few_bits (suc zero) b h fits = omega arith
few_bits (suc (suc zero)) b h fits = omega arith
few_bits (suc (suc (suc zero))) b h fits = omega arith
few_bits (suc (suc (suc (suc zero)))) b h fits = omega arith
few_bits (suc (suc (suc (suc (suc zero))))) b h fits = omega arith
few_bits (suc (suc (suc (suc (suc (suc zero)))))) b h fits = omega arith
few_bits (suc (suc (suc (suc (suc (suc (suc zero))))))) b h fits = omega arith
few_bits (suc (suc (suc (suc (suc (suc (suc (suc p)))))))) b h fits = absurd (omega arith)

-- a register taken apart: its newest bits, and those before them, moved up
pub apart : (p w : ℕ) → p < 8 → w < 256 → (w * 2 ^ p % 2 ^ 32 ≡ w * 2 ^ p) × (w * 2 ^ p / 256 < 2 ^ p) × (w * 2 ^ p / 256 < 128)
    × ((w * 2 ^ p / 256 * 256 + w * 2 ^ p % 256) / 2 ^ p % 256 ≡ w)
apart zero w h small = (omega arith, omega arith, omega arith, omega arith)
apart (suc zero) w h small = (omega arith, omega arith, omega arith, omega arith)
apart (suc (suc zero)) w h small = (omega arith, omega arith, omega arith, omega arith)
apart (suc (suc (suc zero))) w h small = (omega arith, omega arith, omega arith, omega arith)
apart (suc (suc (suc (suc zero)))) w h small = (omega arith, omega arith, omega arith, omega arith)
apart (suc (suc (suc (suc (suc zero))))) w h small = (omega arith, omega arith, omega arith, omega arith)
apart (suc (suc (suc (suc (suc (suc zero)))))) w h small = (omega arith, omega arith, omega arith, omega arith)
apart (suc (suc (suc (suc (suc (suc (suc zero))))))) w h small = (omega arith, omega arith, omega arith, omega arith)
apart (suc (suc (suc (suc (suc (suc (suc (suc p)))))))) w h small = absurd (omega arith)

-- bits more fit
placed : (n w h x y : ℕ) → n ≡ w * h → x < w → y < h → x + y * w < n
placed n w h x y e p q = grind (arith, rows)

pub joined_fits : (p c b v : ℕ) → b < 2 ^ p → v < 2 ^ c → b + v * 2 ^ p < 2 ^ (p + c)
joined_fits p c b v fits few = placed (2 ^ (p + c)) (2 ^ p) (2 ^ c) b v (pow-add 2 p c) fits few

-- past an octet
pub whole_fits : (p c b v : ℕ) → 8 ≤ p + c → b < 2 ^ p → v < 2 ^ c → (b + v * 2 ^ p) / 256 < 2 ^ (p + c - 8)
whole_fits p c b v more fits few =
    let sum : p + c ≡ (p + c - 8) + 8 = omega arith in
    let power : 2 ^ (p + c) ≡ 2 ^ (p + c - 8) * 256 = ap (λ k. 2 ^ k) sum ∙ pow-add 2 (p + c - 8) 8 in
    let all : b + v * 2 ^ p < 2 ^ (p + c) = joined_fits p c b v fits few in
    omega arith

module _ (p c b v last : ℕ) (fits : b < 2 ^ p) (small : last < 256) where
  -- all bits, from the register on
  abbrev all : ℕ
  all = b * 256 + last + 256 * (v * 2 ^ p)

  both_is : v * 256 + (b * 256 + last) / 2 ^ p % 256 ≡ all / 2 ^ p
  both_is =
      let low : (b * 256 + last) / 2 ^ p < 256 = register p b last fits small in
      let same : (b * 256 + last) / 2 ^ p % 256 ≡ (b * 256 + last) / 2 ^ p = omega arith in
      ap (λ n. v * 256 + n) same ∙ sym (over p v (b * 256 + last))

  past : all / 256 ≡ b + v * 2 ^ p
  past = omega arith

  -- the register with bits more, where no octet is whole
  pub register_kept : ((b + v * 2 ^ p) * 256 + last) / 2 ^ (p + c) % 256 ≡ (v * 256 + (b * 256 + last) / 2 ^ p % 256) / 2 ^ c % 256
  register_kept =
      let swap : (b + v * 2 ^ p) * 256 + last ≡ all = omega arith in
      ap (λ n. n / 2 ^ (p + c) % 256) swap ∙ (ap (λ n. n % 256) (sym (shr-shr all p c)) ∙ ap (λ n. n / 2 ^ c % 256) (sym both_is))

  -- the same where one is
  pub register_past : 8 ≤ p + c → ((b + v * 2 ^ p) / 256 * 256 + (b + v * 2 ^ p) % 256) / 2 ^ (p + c - 8) % 256
      ≡ (v * 256 + (b * 256 + last) / 2 ^ p % 256) / 2 ^ c % 256
  register_past more =
      let whole : (b + v * 2 ^ p) / 256 * 256 + (b + v * 2 ^ p) % 256 ≡ all / 256 = omega arith in
      let sum : 8 + (p + c - 8) ≡ p + c = omega arith in
      ap (λ n. n / 2 ^ (p + c - 8) % 256) whole ∙ (ap (λ n. n % 256) (shr-shr all 8 (p + c - 8) ∙ (ap (λ k. all / 2 ^ k) sum
      ∙ sym (shr-shr all p c))) ∙ ap (λ n. n / 2 ^ c % 256) (sym both_is))

  -- the octet that is whole
  pub octet_is : p < 8 → (b + v * 2 ^ p) % 256 ≡ (v * 256 + (b * 256 + last) / 2 ^ p % 256) / 2 ^ (8 - p % 8) % 256
  octet_is few =
      let sum : p + (8 - p % 8) ≡ 8 = omega arith in
      ap (λ n. n % 256) (sym past ∙ (ap (λ k. all / 2 ^ k) (sym sum) ∙ (sym (shr-shr all p (8 - p % 8))
      ∙ ap (λ n. n / 2 ^ (8 - p % 8)) (sym both_is))))

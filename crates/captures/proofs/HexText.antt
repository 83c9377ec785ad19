-- What `{:02x}` writes of an octet.
use Rattle.std.proofs.Common.{◌≡◌, ℕ, ◌-◌, ◌<◌, ◌/◌, ◌%◌, ◌^◌, nat_eq, true, false, List, [], ◌∷◌, ap, refl, ◌∙◌, arith, slice_index}
use Rattle.std.specs.Fmt.{digit_glyph, format_spec, padded_integral, radix_digits}
use Rattle.std.proofs.lemmas.Bool.{agree_below_at, eqb-true}
use Rattle.std.proofs.lemmas.Fmt.{hex_byte}
use Rattle.hex.specs.Hex.{encode_lower, encode_with, lower_digits}

-- an octet in hex, filled with zeros to two digits
abbrev pub two_digits : ℕ → List ℕ
two_digits octet = padded_integral (format_spec 32 0 4 2 (2 ^ 64 - 1)) false [] (radix_digits 16 false octet)

glyph : (n : ℕ) → n < 16 → digit_glyph false n ≡ slice_index lower_digits n
glyph n h = eqb-true (digit_glyph false n) (slice_index lower_digits n)
    (agree_below_at (λ n. nat_eq (digit_glyph false n) (slice_index lower_digits n)) (λ n. true) 16 n refl h)

pub octet_text : (octet : ℕ) → octet < 256 → two_digits octet ≡ encode_lower (octet ∷ [])
unfolding encode_with
octet_text octet h = hex_byte false octet h ∙ (ap (λ a. a ∷ digit_glyph false (octet % 16) ∷ []) (glyph (octet / 16) (omega (arith, h)))
    ∙ ap (λ b. slice_index lower_digits (octet / 16) ∷ b ∷ []) (glyph (octet % 16) (omega arith)))

-- Words of a line.
use Rattle.std.proofs.Common.{◌≡◌, ◌<◌, ◌∷◌, [], ℕ, List, Bool, true, false, All, ap, ◌∙◌, arith, refl}
use Rattle.std.specs.Prelude.{None, ◌&&◌, cond, nat_eq, nat_lt}
use Rattle.std.specs.Str.{IsUtf8}
use Rattle.std.proofs.lemmas.Bool.{ltb-true}
use Rattle.std.proofs.lemmas.List.Elements.{All-cons, All-nil}
use Rattle.std.proofs.lemmas.Str.{IsUtf8-from_ascii}
use Rattle.std.proofs.lemmas.Str.Ascii.{IsAscii-from_all}
use Rattle.call_logs.specs.Logs.{are_seen, in_first, pieces, three_of}

-- four pieces are not three
no_three : (one two three : List ℕ) (more : List (List ℕ)) (octet : ℕ) → three_of (one ∷ two ∷ three ∷ in_first octet more) ≡ None
no_three one two three [] octet = refl
no_three one two three (piece ∷ more) octet = refl

no_three_either : (one two three octets : List ℕ) (octet separator : ℕ) (b : Bool)
    → three_of (one ∷ two ∷ three ∷ cond b ([] ∷ pieces separator octets) (in_first octet (pieces separator octets))) ≡ None
no_three_either one two three octets octet separator true = refl
no_three_either one two three octets octet separator false = no_three one two three (pieces separator octets) octet

four_pieces : (separator : ℕ) (one two three octets : List ℕ) → three_of (one ∷ two ∷ three ∷ pieces separator octets) ≡ None
unfolding pieces
four_pieces separator one two three [] = refl
four_pieces separator one two three (octet ∷ octets) = no_three_either one two three octets octet separator (nat_eq octet separator)

pub too_many : (line at rest who digits first more : List ℕ) → pieces 32 line ≡ at ∷ pieces 32 rest → pieces 32 rest ≡ who ∷ pieces 32 digits
    → pieces 32 digits ≡ first ∷ pieces 32 more → three_of (pieces 32 line) ≡ None
too_many line at rest who digits first more one two three =
    ap three_of (one ∙ ap (λ l. at ∷ l) (two ∙ ap (λ l. who ∷ l) three)) ∙ four_pieces 32 at who first more

-- octets that are seen are ASCII
both : (a b : Bool) → (a && b) ≡ true → (a ≡ true) × (b ≡ true)
both true true e = (refl, refl)
both true false e = absurd (cc)
both false b e = absurd (cc)

seen_low : (octet : ℕ) → (nat_lt 32 octet && nat_lt octet 127) ≡ true → octet < 128
seen_low octet seen =
    let low = ltb-true octet 127 (both (nat_lt 32 octet) (nat_lt octet 127) seen).1 in
    omega (arith, low)

all_low : (octets : List ℕ) → are_seen octets ≡ true → All (λ b. b < 128) octets
all_low [] seen = All-nil (λ b. b < 128)
all_low (octet ∷ octets) seen =
    let parts = both (nat_lt 32 octet && nat_lt octet 127) (are_seen octets) seen in
    All-cons (λ b. b < 128) octet octets (seen_low octet parts.0) (all_low octets parts.1)

pub seen_is_utf8 : (octets : List ℕ) → are_seen octets ≡ true → IsUtf8 octets
seen_is_utf8 octets seen = IsUtf8-from_ascii octets (IsAscii-from_all octets (all_low octets seen))

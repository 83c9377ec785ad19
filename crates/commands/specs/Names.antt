-- The names of files as lines have them: on one line, whatever octets they have.
use Rattle.std.specs.Prelude.{ℕ, ◌/◌, ◌%◌, ◌||◌, ◌&&◌, ◌++◌, ◌∷◌, [], Bool, false, List, codes, flat_map, if◌then◌else◌}
use Rattle.std.specs.Prelude.{nat_eq, nat_le, nat_lt, slice_index}

-- an octet in hex after a backslash and an x, as in `\x0a`
abbrev pub hex_escape : ℕ → List ℕ
hex_escape octet = 92 ∷ 120 ∷ slice_index (codes "0123456789abcdef") (octet / 16)
    ∷ slice_index (codes "0123456789abcdef") (octet % 16) ∷ []

-- What an octet of a text shows after the one before it: an octet of a control character (below 20 or 7F, or C2 and then 80 to 9F, hex) its
-- number, a backslash two of them, and any other octet itself. C2 is shown with the octet after it.
abbrev pub as_shown : ℕ → ℕ → List ℕ
as_shown before octet =
    if nat_eq octet 194 then []
    else if nat_eq before 194 && nat_le octet 159 then hex_escape 194 ++ hex_escape octet
    else if nat_eq before 194 then 194 ∷ octet ∷ []
    else if nat_lt octet 32 || nat_eq octet 127 then hex_escape octet
    else if nat_eq octet 92 then 92 ∷ 92 ∷ []
    else octet ∷ []

-- what the octets of a text show, the first after this one
abbrev pub escaped_after : ℕ → List ℕ → List ℕ
escaped_after before [] = []
escaped_after before (octet ∷ octets) = as_shown before octet ++ escaped_after octet octets

-- a name is in place of one that isn't UTF-8: it begins with 0, which no name of a file has
abbrev pub is_untold : List ℕ → Bool
is_untold [] = false
is_untold (first ∷ octets) = nat_eq first 0

-- a file's name as lines have it; one that isn't UTF-8 has its escapes already, after the 0
abbrev pub shown_name : List ℕ → List ℕ
shown_name [] = []
shown_name (first ∷ octets) = if nat_eq first 0 then octets else escaped_after 0 (first ∷ octets)

-- what an octet of a name shows that isn't UTF-8: its number if it is a control character or past ASCII
abbrev pub as_octet : ℕ → List ℕ
as_octet octet = if nat_lt octet 32 || nat_le 127 octet then hex_escape octet
    else if nat_eq octet 92 then 92 ∷ 92 ∷ []
    else octet ∷ []

-- what is in place of a name of these octets, which isn't UTF-8
abbrev pub untold_name : List ℕ → List ℕ
untold_name octets = 0 ∷ flat_map as_octet octets

-- a file's name as records have it: itself, or as lines have it if it isn't UTF-8
abbrev pub record_name : List ℕ → List ℕ
record_name [] = []
record_name (first ∷ octets) = if nat_eq first 0 then octets else first ∷ octets

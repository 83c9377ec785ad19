-- What a gap is: its bits without the stuffed ones, its class, its content (ISO/IEC 13239, transparency and invalid
-- frames; ITU-T T.30, 5.3).
use Rattle.std.specs.Prelude.{ℕ, ◌+◌, ◌-◌, ◌%◌, Bool, false, not, List, length, map, take, drop, get_or, nat_eq, nat_lt, if◌then◌else◌}
use Rattle.std.specs.List.{range_with_len, filter, count_by, suffix_len, list_any}
use Rattle.std.specs.Cmp.Lexicographic.{pointwise}
use Rattle.hdlc.specs.declared.counts.Class.{Class}
use Rattle.hdlc.specs.declared.counts.Class.TheVariants.{Good, Aborted, Ragged, Short, Long, Damaged}
use Rattle.raster.specs.Octets.{octets_of}
use Rattle.hdlc.specs.Fcs.{check_octets}
use Rattle.hdlc.specs.Flags.{gaps}

-- how many 1 bits in a row are directly before a place
abbrev pub ones_before : List Bool → ℕ → ℕ
ones_before gap place = suffix_len (λ bit. bit) (take place gap)

-- the unstuffed bits: those that aren't directly after five 1 bits in a row; a bit there is a stuffed one (ISO/IEC 13239, transparency)
unfoldable pub unstuffed : List Bool → List Bool
unstuffed gap = map (λ place. get_or gap place false) (filter (λ place. nat_lt (ones_before gap place) 5) (range_with_len 0 (length gap)))

-- whether there are six 1 bits in a row
unfoldable pub has_six : List Bool → Bool
has_six gap = list_any (λ place. nat_lt 5 (ones_before gap place)) (range_with_len 0 (length gap + 1))

-- the octets of the unstuffed bits
abbrev pub octets_in : List Bool → List ℕ
octets_in gap = octets_of (unstuffed gap)

-- the content of a frame: its octets before the two of the check sequence
abbrev pub content : List Bool → List ℕ
content gap = take (length (octets_in gap) - 2) (octets_in gap)

-- whether the last two octets are the check sequence of the others
abbrev pub checks : List ℕ → Bool
checks octets = pointwise nat_eq (drop (length octets - 2) octets) (check_octets (take (length octets - 2) octets))

-- The class of a gap is the first that fits: Aborted (six 1 bits in a row), Ragged (no whole number of octets without the stuffed bits),
-- Short (fewer than 5 octets), Long (more than 302), Damaged (the last two octets aren't the check sequence of the others), Good.
abbrev pub class_of : List Bool → Class
class_of gap =
    if has_six gap then Aborted
    else if not (nat_eq (length (unstuffed gap) % 8) 0) then Ragged
    else if nat_lt (length (octets_in gap)) 5 then Short
    else if nat_lt 302 (length (octets_in gap)) then Long
    else if not (checks (octets_in gap)) then Damaged
    else Good

-- a number for each class, so that classes can be compared
abbrev pub number_of : Class → ℕ
number_of Good = 0
number_of Aborted = 1
number_of Ragged = 2
number_of Short = 3
number_of Long = 4
number_of Damaged = 5

-- whether two classes are the same
abbrev pub is_class : Class → Class → Bool
is_class a b = nat_eq (number_of a) (number_of b)

-- the contents of the good gaps, in order
abbrev pub good : List Bool → List (List ℕ)
good bits = map content (filter (λ gap. is_class Good (class_of gap)) (gaps bits))

-- the number of gaps of a class
abbrev pub count_of : Class → List Bool → ℕ
count_of class bits = count_by (λ gap. is_class class (class_of gap)) (gaps bits)

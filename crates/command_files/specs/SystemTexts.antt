-- How a number is found in a text in which the system has numbers of a process.
use Rattle.std.specs.Prelude.{◌+◌, ◌-◌, ◌*◌, ◌^◌, ◌&&◌, ◌||◌, ◌∷◌, [], ℕ, Bool, List, Option, None, Some, if◌then◌else◌, nat_eq, nat_lt, drop, length, min}
use Rattle.std.specs.List.{starts_with}

-- a label stands at the beginning of these octets
abbrev pub stands : List ℕ → List ℕ → Bool
stands label octets = starts_with nat_eq octets label

-- the octets after the first place where a label stands
abbrev pub after_label : List ℕ → List ℕ → Option (List ℕ)
after_label label [] = None
after_label label (first ∷ rest) = if stands label (first ∷ rest) then Some (drop (length label) (first ∷ rest))
    else after_label label rest

-- a space or a tab
abbrev pub is_blank : ℕ → Bool
is_blank octet = nat_eq octet 32 || nat_eq octet 9

-- a digit to a base of at most 10
abbrev pub is_digit : ℕ → ℕ → Bool
is_digit base octet = nat_lt 47 octet && nat_lt (octet - 48) base

-- a number, or 2^64 - 1 if it is larger
abbrev pub capped : ℕ → ℕ
capped number = min number (2 ^ 64 - 1)

-- the number that goes on, after the digits of which a number was made, with those that come first
abbrev pub number_from : ℕ → ℕ → List ℕ → ℕ
number_from base before [] = before
number_from base before (first ∷ rest) = if is_digit base first then number_from base (capped (capped (before * base) + (first - 48))) rest
    else before

-- the number that comes first, after blanks
abbrev pub number_at : ℕ → List ℕ → Option ℕ
number_at base [] = None
number_at base (first ∷ rest) = if is_digit base first then Some (number_from base 0 (first ∷ rest))
    else (if is_blank first then number_at base rest else None)

-- the number after the first place where a label stands
abbrev pub number_after : List ℕ → ℕ → List ℕ → Option ℕ
number_after label base octets = number_in base (after_label label octets) where
  number_in : ℕ → Option (List ℕ) → Option ℕ
  number_in base None = None
  number_in base (Some rest) = number_at base rest

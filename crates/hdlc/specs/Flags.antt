-- Flags and the gaps between them, by places in the whole list of bits (ISO/IEC 13239, flag sequence; ITU-T T.30, 5.3).
use Rattle.std.specs.Prelude.{ℕ, ◌+◌, ◌-◌, Bool, true, false, List, [], ◌∷◌, length, map, take, drop, nat_lt}
use Rattle.std.specs.List.{range_with_len, filter}
use Rattle.run_tables.specs.Texts.{begins}

-- the flag sequence, 01111110 (ISO/IEC 13239)
abbrev pub flag : List Bool
flag = false ∷ true ∷ true ∷ true ∷ true ∷ true ∷ true ∷ false ∷ []

-- there is a flag at a place
abbrev pub flag_at : List Bool → ℕ → Bool
flag_at bits place = begins flag (drop place bits)

-- the places in the whole bit list where a flag begins, in order; the last place that can have one has eight bits left
unfoldable pub flags : List Bool → List ℕ
flags bits = filter (flag_at bits) (range_with_len 0 (length bits - 7))

-- a place with the first of the others, that one with the next, and so on
abbrev pub pairs_from : ℕ → List ℕ → List (ℕ × ℕ)
pairs_from p [] = []
pairs_from p (q ∷ qs) = (p, q) ∷ pairs_from q qs

-- each two places that follow one another
abbrev pub neighbours : List ℕ → List (ℕ × ℕ)
neighbours [] = []
neighbours (p ∷ ps) = pairs_from p ps

-- the bits after the flag at the first place and before the flag at the second: no bits if the two touch or share a 0
abbrev pub between : List Bool → ℕ × ℕ → List Bool
between bits pair = drop (pair.0 + 8) (take pair.1 bits)

-- the bits between two neighbouring flags, in order; fewer than eight bits are fill and no gap, as when the flags touch or share a 0
unfoldable pub gaps : List Bool → List (List Bool)
gaps bits = filter (λ gap. nat_lt 7 (length gap)) (map (between bits) (neighbours (flags bits)))

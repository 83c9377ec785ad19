-- The gap that is open after all bits so far: the last flag's place, the last eight bits, which may belong to the next
-- flag, and the bits between. The clauses of a deframer name this; no definition of a frame does.
use Rattle.std.specs.Prelude.{ℕ, ◌+◌, ◌-◌, Bool, true, List, [], ◌∷◌, length, take, drop, min, Option, Some, None, is_some}
use Rattle.run_tables.specs.Texts.{begins}
use Rattle.hdlc.specs.Flags.{flags, flag}

-- the last eight bits; before the first bit there are eight of a fill
unfoldable pub recent : Bool → List Bool → List Bool
recent fill bits = drop (length bits) (fill ∷ fill ∷ fill ∷ fill ∷ fill ∷ fill ∷ fill ∷ fill ∷ bits)

-- the last of a place and the places after it
abbrev pub last_from : ℕ → List ℕ → ℕ
last_from p [] = p
last_from p (q ∷ qs) = last_from q qs

-- the last place, if there is one
abbrev pub last_of : List ℕ → Option ℕ
last_of [] = None
last_of (p ∷ ps) = Some (last_from p ps)

-- the place of the last flag
abbrev pub last_flag : List Bool → Option ℕ
last_flag bits = last_of (flags bits)

-- the bits after the flag at a place, without the last eight
abbrev pub unclosed_after : List Bool → Option ℕ → List Bool
unclosed_after bits None = []
unclosed_after bits (Some p) = drop (p + 8) (take (length bits - 8) bits)

-- the bits after the last flag, without the last eight, which may belong to the next flag
abbrev pub unclosed : List Bool → List Bool
unclosed bits = unclosed_after bits (last_flag bits)

-- how many bits came after the flag at a place, at most eight
abbrev pub held_after : List Bool → Option ℕ → ℕ
held_after bits None = 0
held_after bits (Some p) = min 8 (length bits - (p + 8))

-- how many bits came after the last flag, at most eight
abbrev pub held : List Bool → ℕ
held bits = held_after bits (last_flag bits)

-- the bits after the flag at a place, without the last seven
abbrev pub settled_after : List Bool → Option ℕ → List Bool
settled_after bits None = []
settled_after bits (Some p) = drop (p + 8) (take (length bits - 7) bits)

-- the bits after the last flag, without the last seven: a gap, if the next bit ends a flag
abbrev pub settled : List Bool → List Bool
settled bits = settled_after bits (last_flag bits)

-- whether a flag has come
abbrev pub begun : List Bool → Bool
begun bits = is_some (last_flag bits)

-- whether the last eight bits are a flag
abbrev pub at_flag : List Bool → Bool
at_flag bits = begins flag (recent true bits)

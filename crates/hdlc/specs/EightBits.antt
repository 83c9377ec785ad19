-- Eight bits that come at once: whether one of them ends a flag, and what they are without the stuffed ones. The clauses of private
-- functions name this.
use Rattle.std.specs.Prelude.{ℕ, zero, suc, ◌≡◌, ◌+◌, ◌*◌, ◌/◌, ◌%◌, ◌^◌, Bool, true, false, not, ◌&&◌, ◌||◌, List, [], ◌∷◌, ◌++◌}
use Rattle.std.specs.Prelude.{bit_and, cond, nat_eq, nat_lt, length, map, min}
use Rattle.std.specs.Int.{bit_at}
use Rattle.std.specs.List.{range_with_len}
use Rattle.raster.specs.Octets.{number}
use Rattle.raster.specs.Packed.{bits_of}
use Rattle.raster.specs.declared.packed.Order.TheVariants.{LsbFirst}

-- whether no flag ends in these bits, which come into a register of the last eight bits
abbrev pub ends_no_flag : ℕ → List Bool → Bool
ends_no_flag window [] = true
ends_no_flag window (b ∷ bits) =
    not (nat_eq (window / 2 + cond b 128 0) 126) && ends_no_flag (window / 2 + cond b 128 0) bits

-- whether no flag ends in these octets, which come after the last eight bits
abbrev pub end_no_flag : ℕ → List ℕ → Bool
end_no_flag window [] = true
end_no_flag window (octet ∷ octets) = ends_no_flag window (bits_of LsbFirst (octet ∷ [])) && end_no_flag octet octets

-- how many 1 bits in a row there are after one bit more, counted up to five
abbrev pub run_after : ℕ → Bool → ℕ
run_after ones b = cond b (min 5 (ones + 1)) 0

-- these bits without the stuffed ones, if they come after `ones` 1 bits in a row
abbrev pub unstuffed_from : ℕ → List Bool → List Bool
unstuffed_from ones [] = []
unstuffed_from ones (b ∷ bits) = cond (nat_lt ones 5) (b ∷ []) [] ++ unstuffed_from (run_after ones b) bits

-- whether one of these bits is the sixth 1 bit in a row, if they come after `ones` 1 bits in a row
abbrev pub six_from : ℕ → List Bool → Bool
six_from ones [] = false
six_from ones (b ∷ bits) = (not (nat_lt ones 5) && b) || six_from (run_after ones b) bits

-- whether none of these bits is a stuffed one, nor the next, if they come after `ones` 1 bits in a row
abbrev pub plain : ℕ → List Bool → Bool
plain ones [] = nat_lt ones 5
plain ones (b ∷ bits) = nat_lt ones 5 && plain (cond b (1 + ones) 0) bits

-- the four octets of a number of 32 bits, the lowest first
abbrev pub four : ℕ → List ℕ
four word = word % 256 ∷ word / 256 % 256 ∷ word / 65536 % 256 ∷ word / 16777216 ∷ []

-- of a number's bits, the places where five 1 bits in a row begin
abbrev pub fives : ℕ → ℕ
fives x = bit_and (bit_and (bit_and x (x / 2)) (bit_and x (x / 2) / 4)) (x / 16)

-- whether of these bits the one at a place is stuffed and no other, nor the bit after them, if they come after `ones` 1 bits in a row
abbrev pub stuffed_alone : ℕ → List Bool → ℕ → Bool
stuffed_alone ones [] place = false
stuffed_alone ones (b ∷ bits) zero = nat_eq ones 5 && (not b && plain 0 bits)
stuffed_alone ones (b ∷ bits) (suc place) = nat_lt ones 5 && stuffed_alone (cond b (1 + ones) 0) bits place

-- the same for the bit whose place's power of two this is
pub record IsStuffedAlone (ones : ℕ) (bits : List Bool) (power : ℕ) : Type 0 where
  pub place : ℕ
  pub is : power ≡ 2 ^ place
  pub alone : stuffed_alone ones bits place ≡ true

-- how many 1 bits in a row there are at the end, if these bits come after `ones` of them
abbrev pub ones_at_end : ℕ → List Bool → ℕ
ones_at_end ones [] = ones
ones_at_end ones (b ∷ bits) = ones_at_end (cond b (1 + ones) 0) bits

-- the eight bits of an octet, by a place of a table whose rows are 256 octets each
abbrev pub bits_at : ℕ → List Bool
bits_at place = map (λ bit. nat_eq (bit_at (place % 256) bit) 1) (range_with_len 0 8)

-- the unstuffed bits of an octet, by the 1 bits in a row before it, none to six, and the octet
abbrev pub unstuffed_at : ℕ → List Bool
unstuffed_at place = unstuffed_from (min 5 (place / 256)) (bits_at place)

-- An entry of the table: the unstuffed bits as a number; from bit 8 on how many 1 bits in a row end the octet, counted up to six; bit 11
-- if one of its bits is the sixth; from bit 12 on the number of unstuffed bits.
abbrev pub unstuffed_entry : ℕ → ℕ
unstuffed_entry place =
    number (unstuffed_at place) + 256 * min 6 (ones_at_end (place / 256) (bits_at place))
    + cond (six_from (min 5 (place / 256)) (bits_at place)) 2048 0 + 4096 * length (unstuffed_at place)

-- all 1,792 entries of the table for taking out stuffed bits: seven rows of 256 octets
abbrev pub unstuffed_entries : List ℕ
unstuffed_entries = map unstuffed_entry (range_with_len 0 1792)

-- From `held` bits after a flag, at most seven, and a register of the last eight bits, these bits lead to `last_held` bits after a flag
-- and to the register `last_window`, with at most seven bits between two flags.
abbrev pub leads_to : ℕ → ℕ → List Bool → ℕ → ℕ → Bool
leads_to held window [] last_held last_window = nat_eq held last_held && nat_eq window last_window
leads_to held window (b ∷ bits) last_held last_window =
    nat_lt held 8
    && leads_to (cond (nat_eq (window / 2 + cond b 128 0) 126) 0 (held + 1)) (window / 2 + cond b 128 0) bits last_held last_window

-- the last eight bits after flags alone, by how many bits came after the last flag, none to seven
abbrev pub repeated : List ℕ
repeated = 0x7E ∷ 0x3F ∷ 0x9F ∷ 0xCF ∷ 0xE7 ∷ 0xF3 ∷ 0xF9 ∷ 0xFC ∷ []

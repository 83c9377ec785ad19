-- What is known of an open gap while octets come four at a time. The clauses of private functions name this.
use Rattle.std.specs.Prelude.{ℕ, ◌≡◌, ◌+◌, ◌*◌, ◌/◌, ◌%◌, ◌^◌, ◌<◌, ◌≤◌, Bool, false, List, ◌++◌, length, take, min, nat_lt}
use Rattle.std.specs.List.{suffix_len}
use Rattle.raster.specs.Octets.{number, octets_of}
use Rattle.hdlc.specs.Gaps.{has_six, unstuffed}
use Rattle.hdlc.specs.OpenGap.{recent}
use Rattle.hdlc.specs.declared.octet_buffer.OctetBuffer.{OctetBuffer}
use Rattle.hdlc.specs.declared.gathering.Gathering.{Gathering}

-- bits of whole octets, the first 302 octets of them, and whether there are more
pub record Keeps (items : List ℕ) (more : Bool) (front : List Bool) : Type 0 where
  pub even : length front % 8 ≡ 0
  pub whole : items ≡ take 302 (octets_of front)
  pub long : more ≡ nat_lt 302 (length (octets_of front))

-- the bits fit in their number of places, and the row is one of the table's seven
pub record IsGathering (g : Gathering) : Type 0 where
  pub fits : g.bits < 2 ^ g.part
  pub whole : g.row % 256 ≡ 0
  pub most : g.row ≤ 1536

-- What is known of a gap: of its unstuffed bits a buffer has the whole octets in front, and the rest is there as a number, with the last
-- eight bits of all; how many 1 bits in a row end the gap, counted up to six; whether there are six 1 bits in a row.
pub record Gathers (a : OctetBuffer) (g : Gathering) (gap : List Bool) : Type 0 where
  pub front : List Bool
  pub back : List Bool
  pub is : unstuffed gap ≡ front ++ back
  pub keeps : Keeps a.whole.items a.long front
  pub part : length back ≡ g.part
  pub bits : number back ≡ g.bits
  pub window : (g.bits * 256 + g.last) / 2 ^ g.part % 256 ≡ number (recent false (unstuffed gap))
  pub row : g.row ≡ min 6 (suffix_len (λ bit. bit) gap) * 256
  pub aborted : g.aborted ≡ has_six gap

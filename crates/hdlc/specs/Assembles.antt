-- What an octet buffer keeps.
use Rattle.std.specs.Prelude.{◌≡◌, ◌%◌, Bool, false, List, length, take, nat_lt}
use Rattle.hdlc.specs.declared.octet_buffer.OctetBuffer.{OctetBuffer}
use Rattle.raster.specs.Octets.{number, octets_of}
use Rattle.hdlc.specs.OpenGap.{recent}

-- what an octet buffer keeps of the bits that it was given
pub record Assembles (a : OctetBuffer) (bits : List Bool) : Type 0 where
  pub part : a.part ≡ length bits % 8
  pub window : a.window ≡ number (recent false bits)
  pub whole : a.whole.items ≡ take 302 (octets_of bits)
  pub long : a.long ≡ nat_lt 302 (length (octets_of bits))

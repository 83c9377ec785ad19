-- The bits after the whole octets, while more come. The clauses of private functions name this.
use Rattle.std.specs.Prelude.{ℕ, ◌+◌, ◌*◌, ◌/◌, ◌%◌, ◌^◌, ◌<◌}
use Rattle.hdlc.specs.declared.octet_buffer.Pending.{Pending}

-- the last eight bits, the newest the most significant
abbrev pub window_of : Pending → ℕ
window_of pending = (pending.bits * 256 + pending.last) / 2 ^ pending.part % 256

-- fewer than eight bits, and their number
pub record IsPending (pending : Pending) : Type 0 where
  pub few : pending.part < 8
  pub fits : pending.bits < 2 ^ pending.part
  pub small : pending.bits < 128

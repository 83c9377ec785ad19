use Rattle.std.proofs.Common.{◌%◌, ℕ, arith}
use Rattle.hdlc.proofs.PendingLemmas.{apart}
use Rattle.hdlc.proofs.octet_buffer.OctetBuffer.pending.Goals as goal

pub returns-clause-pending : goal.returns-clause-pending
returns-clause-pending c =
    let p : ℕ = c.args.self.now.part % 8 in
    let parts = apart p c.args.self.now.window (omega arith) (omega arith) in
    record {
      few = omega (arith, c.from-part.ensures);
      fits = rw (c.from-part.ensures, c.from.ensures, parts.0) parts.1;
      small = rw (c.from-part.ensures, c.from.ensures, parts.0) parts.2;
    }

pub returns-clause-window : goal.returns-clause-window
returns-clause-window c =
    let p : ℕ = c.args.self.now.part % 8 in
    let parts = apart p c.args.self.now.window (omega arith) (omega arith) in
    rw (c.from-part.ensures, c.from.ensures, parts.0) parts.3

use Rattle.std.proofs.Common.{refl}
use Rattle.run_tables.proofs.PendingLemmas.{length-held}
use Rattle.run_tables.proofs.writer.BitWriter.bits.Goals as goal

pub returns : goal.returns
returns c = rw (← c.self.view_is, length-held) refl

-- What the check asks of `flush_waiting`.
use Rattle.std.proofs.KnownBytes.{Keeps-refl}
use Rattle.captures.proofs.frames.flush_waiting.Goals as goal

pub returns-then-is_waiting-clause-same : goal.returns-then-is_waiting-clause-same
returns-then-is_waiting-clause-same g c = Keeps-refl _

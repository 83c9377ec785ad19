-- What the check asks of `tell_file`.
use Rattle.std.proofs.Common.{refl}
use Rattle.std.proofs.KnownBytes.{Appends-kept}
use Rattle.commands.proofs.identify.several.tell_file.Goals as goal

pub returns-clause-told : goal.returns-clause-told
returns-clause-told g c = (
  c.in_ok-lines.lines.items,
  (c.in_ok-said.said, c.in_ok-said.ensures.said, c.in_ok-lines.ensures.told, refl),
  Appends-kept _ _ _ _ (rw c.as_slice.ensures.value at c.in_ok-write_all.ensures.bytes) c.flush.ensures.bytes,
)

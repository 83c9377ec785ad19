-- What the check asks of `not_apart`.
use Rattle.std.proofs.Common.{refl, subst}
use Rattle.command_files.specs.Apart.{AreFirstTwo}
use Rattle.command_files.proofs.files.apart.CommandFiles.not_apart.Goals as goal

pub returns : goal.returns
returns c = (
  c.in_ok-one.one.now,
  c.in_ok-one.other.now,
  subst (λ files. AreFirstTwo c.in_ok-one.one.now c.in_ok-one.other.now files) c.as_slice.ensures.value c.in_ok-one.ensures,
  refl,
  refl,
  c.are_both_printed.ensures,
)

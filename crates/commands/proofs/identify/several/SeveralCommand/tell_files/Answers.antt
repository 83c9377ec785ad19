-- What the check asks of `tell_files`.
use Rattle.std.specs.Prelude.{string_bytes}
use Rattle.commands.proofs.PrintedFiles.{prints_next}
use Rattle.commands.specs.SeveralLines.{IsSaidSo}
use Rattle.commands.proofs.identify.several.SeveralCommand.tell_files.Goals as goal

pub loop-name-preserved : goal.loop-name-preserved
loop-name-preserved g c =
    let one = rw c.as_str.ensures.value at c.in_ok-is_known.ensures.told in
    rw c.both-are_known.ensures
    (prints_next (IsSaidSo c.args.self.now.records) string_bytes c.args.self.now.files.items c.loop-name.name-index _ _ _ _ _ _ _
    (rw c.deref-name-items.ensures.value at c.loop-name-test.true) (rw c.deref-name-items.ensures.value at c.name-item.is)
    c.loop-name.invariant one)

-- What the check asks of `store_pages`.
use Rattle.std.proofs.Common.{◌∙◌, ap, refl}
use Rattle.command_files.specs.Runs.{completeness_of}
use Rattle.commands.proofs.frames.FramesCommand.store_pages.Goals as goal

pub returns-clause-stored : goal.returns-clause-stored
returns-clause-stored c =
    let found = rw c.in_ok-worth.was at c.find_pages-listed.ensures.found in
    let complete = c.of.ensures ∙ ap completeness_of c.both.ensures in (
      found.0,
      (
        found.1,
        (
          _,
          c.find_pages-listed.new.store,
          record { numbers = c.new.ensures; empty = refl; whole = refl },
          found.2,
          complete,
        ),
      ),
    )

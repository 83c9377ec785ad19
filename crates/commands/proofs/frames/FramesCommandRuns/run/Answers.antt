-- What the check asks of `run`.
use Rattle.commands.proofs.Given.{is_given, stores_given}
use Rattle.commands.proofs.frames.FramesCommandRuns.run.Goals as goal

pub returns-in-Some : goal.returns-in-Some
returns-in-Some c =
    stores_given c.args.self.now c.store_pages.result (is_given _ _ _ _ c.as_deref.ensures.cases c.in-Some.is)
    c.store_pages.ensures.stored c.store_pages.ensures.fault

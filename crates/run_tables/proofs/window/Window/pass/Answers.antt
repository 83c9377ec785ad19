use Rattle.run_tables.proofs.QuickRuns.{window_on}
use Rattle.run_tables.proofs.window.Window.pass.Goals as goal

pub returns-clause-window : goal.returns-clause-window
returns-clause-window c = window_on c.args.self.now.reader c.args.self.now.used c.args.self.now.word c.args.count c.requires.window
    c.requires.held

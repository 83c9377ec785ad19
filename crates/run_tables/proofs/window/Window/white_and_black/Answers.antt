use Rattle.std.proofs.Common.{subst}
use Rattle.std.specs.Prelude.{IfSome}
use Rattle.raster.specs.declared.row.Color.TheVariants.{White}
use Rattle.run_tables.specs.CodeReading.{ReadsTwoRuns}
use Rattle.run_tables.specs.declared.fault.CodeFaultKind.{CodeFaultKind}
use Rattle.run_tables.specs.Reading.{Reading}
use Rattle.run_tables.specs.Windows.{passed}
use Rattle.run_tables.proofs.window.Window.white_and_black.Goals as goal

pub returns-in-Some-clause-some : goal.returns-in-Some-clause-some
returns-in-Some-clause-some c past = rw (c.white.ensures.is, c.black.ensures.is) (c.in-Some.ensures.reads past)

pub returns-clause-some : goal.returns-clause-some
returns-clause-some c =
    subst (λ (old : Reading). IfSome c.two_runs.result (λ runs. (past : CodeFaultKind) → ReadsTwoRuns White c.args.room past old
    (passed c.two_runs.new.self.reader c.two_runs.new.self.used) runs.0 runs.1)) c.in_default.ensures.none c.two_runs.ensures.some

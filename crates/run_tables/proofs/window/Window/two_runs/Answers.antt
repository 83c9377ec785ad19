use Rattle.std.proofs.Common.{◌-◌, subst}
use Rattle.std.specs.Prelude.{Ok}
use Rattle.raster.specs.declared.row.Color.{Color}
use Rattle.run_tables.specs.CodeReading.{ReadsRunWithin}
use Rattle.run_tables.specs.Windows.{passed}
use Rattle.run_tables.proofs.window.Window.two_runs.Goals as goal

pub returns-clause-some : goal.returns-clause-some
returns-clause-some c past = record {
  between = passed c.run.new.self.reader c.run.new.self.used;
  one = c.in_ok-first.ensures.some past;
  two = subst (λ (color : Color). ReadsRunWithin color (c.args.room - c.in_ok-first.first) past
      (passed c.run.new.self.reader c.run.new.self.used) (passed c.run-2.new.self.reader c.run-2.new.self.used) (Ok c.in_ok-second.second))
      c.requires.other (c.in_ok-second.ensures.some past);
}

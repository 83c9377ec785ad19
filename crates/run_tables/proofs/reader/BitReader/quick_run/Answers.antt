use Rattle.std.proofs.Common.{◌∙◌, subst, sym}
use Rattle.std.specs.Prelude.{Ok}
use Rattle.run_tables.specs.CodeReading.{ReadsRunWithin}
use Rattle.run_tables.specs.Reading.{Reading}
use Rattle.run_tables.specs.Windows.{passed}
use Rattle.run_tables.proofs.reader.BitReader.quick_run.Goals as goal

pub returns-clause-some : goal.returns-clause-some
returns-clause-some c past =
    let before = c.in_ok-window.ensures.place ∙ c.look_ahead.ensures in
    let window = c.run.new.self in
    subst (λ (old : Reading). ReadsRunWithin c.args.color c.args.room past old c.into_reader.result (Ok c.in_ok-run.run')) before
    (subst (λ (new : Reading). ReadsRunWithin c.args.color c.args.room past
    (passed c.in_ok-window.window.reader c.in_ok-window.window.used) new (Ok c.in_ok-run.run')) (sym c.into_reader.ensures)
    (c.in_ok-run.ensures.some past))

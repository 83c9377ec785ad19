use Rattle.std.proofs.Common.{◌∙◌, ap, arith, subst, sym}
use Rattle.run_tables.specs.CodeReading.{ReadsTwoRuns}
use Rattle.run_tables.specs.Reading.{Reading}
use Rattle.run_tables.specs.Windows.{passed}
use Rattle.run_tables.proofs.QuickRuns.{passed_twice}
use Rattle.run_tables.proofs.reader.BitReader.quick_two_runs_after.Goals as goal
use Rattle.run_tables.proofs.reader.BitReader.quick_two_runs_after.Goals.{in-White+in_ok-runs-in-White, in-Black+in_ok-runs-in-Black}

pub pass-requires-clause-held : goal.pass-requires-clause-held
pass-requires-clause-held c = omega (arith, c.in_ok-window.ensures.begun, c.requires)

pub returns-clause-some : goal.returns-clause-some
returns-clause-some c past =
    let window = c.in_ok-window.window in
    let flag = c.args.flag in
    let before = c.pass.ensures.place ∙ (passed_twice window.reader window.used flag ∙
    ap (λ (r : Reading). passed r flag) (c.in_ok-window.ensures.place ∙ c.look_ahead.ensures)) in
    let runs = c.match-color.runs in
    let read : ReadsTwoRuns c.args.color c.args.room past (passed c.pass.new.self.reader c.pass.new.self.used)
    (passed c.match-color.window.reader c.match-color.window.used) c.match-color.runs.0 c.match-color.runs.1 = elim c.match-color.branch [
      | in-White+in_ok-runs-in-White w ↦ rw (w.in-White.is, w.window-is, w.runs-is) (w.in_ok-runs-in-White.ensures.some past)
      | in-Black+in_ok-runs-in-Black w ↦ rw (w.in-Black.is, w.window-is, w.runs-is) (w.in_ok-runs-in-Black.ensures.some past)
    ] in
    subst (λ (new : Reading). ReadsTwoRuns c.args.color c.args.room past (passed c.args.self.now flag) new runs.0 runs.1)
    (sym c.into_reader.ensures) (subst (λ (old : Reading). ReadsTwoRuns c.args.color c.args.room past old
    (passed c.match-color.window.reader c.match-color.window.used) runs.0 runs.1) before read)

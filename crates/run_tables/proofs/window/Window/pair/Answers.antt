use Rattle.std.proofs.Common.{◌-◌, arith, subst}
use Rattle.std.proofs.lemmas.Bool.{OnTrue_at}
use Rattle.raster.specs.declared.row.Color.TheVariants.{White}
use Rattle.run_tables.specs.CodeReading.{ReadsTwoRuns}
use Rattle.run_tables.specs.Reading.{Reading}
use Rattle.run_tables.specs.ReadTables.{pair_bits, pair_black, pair_white}
use Rattle.run_tables.specs.Windows.{passed}
use Rattle.run_tables.proofs.QuickRuns.{passed_twice, window_left}
use Rattle.run_tables.proofs.window.Window.pair.Goals as goal

pub pass-requires-clause-held : goal.pass-requires-clause-held
pass-requires-clause-held c = omega (
  arith,
  c.in_ok-pair.ensures.few,
  c.bits.ensures.is,
  OnTrue_at c.if-not-held.false c.holds-held.ensures.enough,
)

pub returns-clause-reads : goal.returns-clause-reads
returns-clause-reads c past =
    let held = c.holds-held.new.self in
    let packed = c.in_ok-pair.pair.packed in
    let read = c.in_ok-pair.ensures.reads past (passed held.reader held.used) (57 - held.used) c.holds-held.ensures.window.held
    (omega (arith, OnTrue_at c.if-not-held.false c.holds-held.ensures.enough))
    (window_left held.reader held.used held.word c.holds-held.ensures.window) in
    subst (λ (old : Reading). ReadsTwoRuns White c.args.room past old (passed c.pass.new.self.reader c.pass.new.self.used)
    (pair_white packed) (pair_black packed)) c.holds-held.ensures.place (rw (
      c.pass.ensures.place,
      c.bits.ensures.is,
      passed_twice held.reader held.used (pair_bits packed),
    ) read)

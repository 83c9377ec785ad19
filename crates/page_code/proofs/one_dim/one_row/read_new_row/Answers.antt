use Rattle.std.proofs.Common.{◌≡◌, ◌≤◌, ◌*◌, drop, length, refl, sym, subst}
use Rattle.raster.specs.Packed.{bits_of}
use Rattle.raster.proofs.PackedLemmas.{length-bits_in}
use Rattle.page_code.specs.declared.one_dim.Start.TheVariants.{Row}
use Rattle.page_code.specs.RowReaders.{IsStartWithin}
use Rattle.page_code.proofs.PassedRows.{no_runs, passed_runs, passed_tried}
use Rattle.page_code.proofs.RowReaders.{end_found, next_there, start_refused}
use Rattle.page_code.proofs.one_dim.one_row.read_new_row.Goals as goal
use Rattle.page_code.proofs.one_dim.one_row.read_new_row.Goals.{then-passed, else-passed}

pub returns-after-passed-clause-finds : goal.returns-after-passed-clause-finds
returns-after-passed-clause-finds c =
    let held = bits_of c.args.order c.args.octets.now in
    let size : 8 * length c.args.octets.now ≡ length held = sym (length-bits_in c.args.order c.args.octets.now (8 * length
    c.args.octets.now)) in
    let within = subst (λ n. IsStartWithin c.args.to.now.at n c.args.to.now.rows (Row c.in-Row.place)) size c.in-Row.ensures.within in
    λ before. next_there held c.args.to.now c.read_row_there.new.to c.in-Row.place c.read_row_there.result c.requires.width c.requires.few
    c.in-Row.ensures.finds within c.read_row_there.ensures before

pub returns-in-End-clause-finds : goal.returns-in-End-clause-finds
returns-in-End-clause-finds c =
    let held = bits_of c.args.order c.args.octets.now in
    let size : 8 * length c.args.octets.now ≡ length held = sym (length-bits_in c.args.order c.args.octets.now (8 * length
    c.args.octets.now)) in
    λ before. (
      refl,
      refl,
      subst (λ n. c.in-End.used ≤ n) size c.in-End.ensures.within,
      λ rows bits far on. end_found held c.args.to.now before c.requires.width c.requires.few rows bits far on c.in-End.used
          c.in-End.ensures.finds,
    )

pub returns-in-Refused-clause-finds : goal.returns-in-Refused-clause-finds
returns-in-Refused-clause-finds c =
    let held = bits_of c.args.order c.args.octets.now in
    let size : 8 * length c.args.octets.now ≡ length held = sym (length-bits_in c.args.order c.args.octets.now (8 * length
    c.args.octets.now)) in
    λ before. (
      refl,
      refl,
      subst (λ n. c.in-Refused.fault.place ≤ n) size c.in-Refused.ensures.within,
      λ rows bits far on. start_refused held c.args.to.now before c.requires.width c.requires.few rows bits far on c.in-Refused.fault
          c.in-Refused.ensures.finds,
    )

pub returns-after-passed-clause-passed : goal.returns-after-passed-clause-passed
returns-after-passed-clause-passed c =
    let left = drop c.args.to.now.at (bits_of c.args.order c.args.octets.now) in
    elim c.if-passed.branch [
      | then-passed w ↦ rw w.passed-is (passed_tried c.args.to.now.width c.args.to.now.rows left _ (passed_runs c.args.to.now.width
          c.args.to.now.rows left _ c.start_after.new.passed (no_runs c.args.order c.args.octets.now c.args.to.now c.in-Row.place
          c.in-Row.ensures.finds c.in-Row.ensures.within) c.in-Row.ensures.passed))
      | else-passed w ↦ rw w.passed-is (passed_tried c.args.to.now.width c.args.to.now.rows left c.start_after.new.passed
          c.in-Row.ensures.passed)
    ]

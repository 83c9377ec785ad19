use Rattle.std.proofs.Common.{◌≡◌, ◌∙◌, arith, refl}
use Rattle.std.proofs.lemmas.Bool.{OnTrue_at, OnFalse_at}
use Rattle.run_tables.specs.ReadTables.{unpacked}
use Rattle.run_tables.specs.Reading.{rest_of}
use Rattle.run_tables.proofs.CodePicks.{entry_found, entry_low, entry_none, entry_past, entry_high}
use Rattle.run_tables.proofs.reader.BitReader.find_code.Goals as goal

pub returns-in_default-clause-none : goal.returns-in_default-clause-none
returns-in_default-clause-none c =
    entry_none c.args.color c.args.among (rest_of c.args.self.now) _ _ refl (rw c.next_13.ensures.bits at c.in_default.ensures.none)

pub returns-then-not-fits-clause-none : goal.returns-then-not-fits-clause-none
returns-then-not-fits-clause-none c =
    let is : (c.run-run.result, c.bits-length.result) ≡ unpacked c.in-Some.code.packed = rw (c.run-run.ensures.is, c.bits-length.ensures.is) refl in
    entry_past c.args.color c.args.among (rest_of c.args.self.now) c.run-run.result c.bits-length.result (is ∙ rw c.next_13.ensures.bits at c.in-Some.ensures.some) (OnFalse_at c.if-not-fits.true c.has-fits.ensures.no)

pub returns-in-AllCodes-clause-found : goal.returns-in-AllCodes-clause-found
returns-in-AllCodes-clause-found c =
    let is : (c.run-run.result, c.bits-length.result) ≡ unpacked c.in-Some.code.packed = rw (c.run-run.ensures.is, c.bits-length.ensures.is) refl in
    rw c.in-AllCodes.is ((entry_found c.args.color (rest_of c.args.self.now) c.run-run.result c.bits-length.result (is ∙ rw c.next_13.ensures.bits at c.in-Some.ensures.some) (omega (arith, c.bits-length.ensures.is, c.in-Some.ensures.length)) (OnTrue_at c.if-not-fits.false c.has-fits.ensures.yes)).0)

pub returns-then-run-ge64-clause-none : goal.returns-then-run-ge64-clause-none
returns-then-run-ge64-clause-none c =
    let is : (c.run-run.result, c.bits-length.result) ≡ unpacked c.in-Some.code.packed = rw (c.run-run.ensures.is, c.bits-length.ensures.is) refl in
    rw c.in-TerminatingCodes.is (entry_high c.args.color (rest_of c.args.self.now) c.run-run.result c.bits-length.result (is ∙ rw c.next_13.ensures.bits at c.in-Some.ensures.some) (omega arith))

pub returns-else-run-ge64-clause-found : goal.returns-else-run-ge64-clause-found
returns-else-run-ge64-clause-found c =
    let is : (c.run-run.result, c.bits-length.result) ≡ unpacked c.in-Some.code.packed = rw (c.run-run.ensures.is, c.bits-length.ensures.is) refl in
    rw c.in-TerminatingCodes.is (entry_low c.args.color (rest_of c.args.self.now) c.run-run.result ((entry_found c.args.color (rest_of
    c.args.self.now) c.run-run.result c.bits-length.result (is ∙ rw c.next_13.ensures.bits at c.in-Some.ensures.some) (omega (arith, c.bits-length.ensures.is, c.in-Some.ensures.length)) (OnTrue_at
    c.if-not-fits.false c.has-fits.ensures.yes)).0) (omega arith))

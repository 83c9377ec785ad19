use Rattle.std.proofs.Common.{◌≡◌, ◌<◌, ◌∙◌, Bool, ap, arith, length, nat_lt, refl, true, false}
use Rattle.std.specs.Bool.{OnTrue}
use Rattle.std.proofs.lemmas.Bool.{OnFalse_at, OnTrue_from, ltb-true}
use Rattle.run_tables.specs.declared.reader.Among.TheVariants.{TerminatingCodes}
use Rattle.run_tables.specs.Codes.{code_word}
use Rattle.run_tables.specs.CodeReading.{runs_among}
use Rattle.run_tables.specs.ReadTables.{unpacked}
use Rattle.run_tables.specs.Reading.{rest_of}
use Rattle.run_tables.specs.Texts.{is_cut}
use Rattle.run_tables.proofs.CodePicks.{entry_cut, entry_cut_low}
use Rattle.run_tables.proofs.reader.BitReader.begins_entry.Goals as goal

pub returns-in-AllCodes : goal.returns-in-AllCodes
returns-in-AllCodes c =
    let is : (c.run-run.result, c.bits.result) ≡ unpacked c.in-Some.code.packed = rw (c.run-run.ensures.is, c.bits.ensures.is) refl in
    rw c.in-AllCodes.is (entry_cut c.args.color (rest_of c.args.self.now) c.run-run.result c.bits.result
    (is ∙ rw c.next_13.ensures.bits at c.in-Some.ensures.some) (OnFalse_at c.if-whole.false c.has-whole.ensures.no))

pub returns-in-TerminatingCodes : goal.returns-in-TerminatingCodes
returns-in-TerminatingCodes c =
    let is : (c.run-run.result, c.bits.result) ≡ unpacked c.in-Some.code.packed = rw (c.run-run.ensures.is, c.bits.ensures.is) refl in
    rw c.in-TerminatingCodes.is (OnTrue_from (nat_lt c.run-run.result 64) (is_cut (code_word c.args.color) (runs_among TerminatingCodes)
    (rest_of c.args.self.now) ≡ true) (λ low.
    entry_cut_low c.args.color (rest_of c.args.self.now) c.run-run.result c.bits.result
    (is ∙ rw c.next_13.ensures.bits at c.in-Some.ensures.some) (OnFalse_at c.if-whole.false c.has-whole.ensures.no)
    (ltb-true c.run-run.result 64 low)))

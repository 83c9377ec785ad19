use Rattle.std.proofs.Common.{arith, sym, ◌∙◌}
use Rattle.page_files.proofs.PageEnds.{none_at_start, none_at_zero, none_of_few, eol_split}
use Rattle.page_files.proofs.page_end.eol_before.Goals as goal

pub returns-then-end-eq0 : goal.returns-then-end-eq0
returns-then-end-eq0 c = none_at_start c.args.order c.args.octets.now c.args.end c.if-end-eq0.true

pub returns-then-not-bit_of : goal.returns-then-not-bit_of
returns-then-not-bit_of c = none_at_zero c.args.order c.args.octets.now c.args.end (omega (arith, c.if-end-eq0.false))
    (sym c.bit_of.ensures ∙ c.if-not-bit_of.true)

pub returns-then-zeros_end-start-lt-EOL_ZEROS : goal.returns-then-zeros_end-start-lt-EOL_ZEROS
returns-then-zeros_end-start-lt-EOL_ZEROS c = none_of_few c.args.order c.args.octets.now c.args.end c.without_zeros-start.result
    (omega (arith, c.if-end-eq0.false)) (sym c.bit_of.ensures ∙ c.if-not-bit_of.false) c.without_zeros-start.ensures.zeros
    c.without_zeros-start.ensures.one c.if-zeros_end-start-lt-EOL_ZEROS.true

pub returns : goal.returns
returns c = (
  omega (arith, c.if-zeros_end-start-lt-EOL_ZEROS.false, c.without_zeros-start.ensures.within, c.if-end-eq0.false),
  eol_split c.args.order c.args.octets.now c.args.end c.without_zeros-start.result (omega (arith, c.if-end-eq0.false))
      (sym c.bit_of.ensures ∙ c.if-not-bit_of.false) c.without_zeros-start.ensures.zeros,
  c.without_zeros-start.ensures.one,
)

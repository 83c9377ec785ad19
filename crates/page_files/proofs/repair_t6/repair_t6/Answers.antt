-- What the check asks of `repair_t6`.
use Rattle.std.proofs.Common.{rules, ◌≡◌, List, [], ◌++◌, length, inl, inr, arith, refl, ap, ◌∙◌, ℕ}
use Rattle.raster.specs.declared.row.Color.{Color}
use Rattle.page_files.specs.RepairsT6.{no_eofb_line}
use Rattle.page_files.proofs.RepairsT6.{broken, decoded, ended}
use Rattle.page_files.proofs.repair_t6.repair_t6.Goals as goal
use Rattle.page_files.proofs.repair_t6.repair_t6.Goals.{else-at_end-via-then-at_end+else-rows-gt0, else-at_end-via-else-at_end}

pub returns-in-Ok-clause-given : goal.returns-in-Ok-clause-given
returns-in-Ok-clause-given c = λ image writes. (
  decoded c.args.form c.args.octets.now [] image refl c.in-Ok.page (length c.in-Ok.page.rows) refl writes.0 c.in-Ok.bits
      c.in-Ok.ensures.reads,
  c.new-lines.ensures.items,
)

pub returns-then-rows-gt0-clause-given : goal.returns-then-rows-gt0-clause-given
returns-then-rows-gt0-clause-given c = λ image writes.
    let page = c.in_ok-page.field-0.page in
    let bit = c.in_ok-page.field-0.bit in
    let same : c.len-rows.result ≡ length page.rows =
    c.len-rows.ensures.length ∙ ap (λ (l : List (List Color)). length l) c.rows.ensures.rows in (
      ended c.args.form c.args.octets.now [] image refl c.in_ok-page.field-0.page (length c.in_ok-page.field-0.page.rows) refl writes.0
          c.in-Err.fault (c.in-Err.ensures.refuses (search rules)) (search rules) c.from-fault.result c.from-fault.ensures
          c.in_ok-page.ensures.width c.in_ok-page.ensures.fine c.in_ok-page.ensures.rows c.in_ok-page.field-0.bit c.in_ok-page.ensures.bit
          (omega (arith, c.if-rows-gt0.true, same)) (c.in_ok-page.ensures.ends c.if-at_end.true),
      c.in_ok-tell_no_eofb.ensures.told ∙ (ap (λ (l : List ℕ). l ++ no_eofb_line c.len-rows.result bit) c.new-lines.ensures.items
          ∙ ap (λ (n : ℕ). no_eofb_line n bit) same),
    )

pub returns-clause-given : goal.returns-clause-given
returns-clause-given c = λ image writes.
    let same : c.len-rows.result ≡ length c.in_ok-page.field-0.page.rows =
    c.len-rows.ensures.length ∙ ap (λ (l : List (List Color)). length l) c.rows.ensures.rows in (
      broken c.args.form c.args.octets.now [] image refl c.in_ok-page.field-0.page (length c.in_ok-page.field-0.page.rows) refl writes.0
          c.in-Err.fault (c.in-Err.ensures.refuses (search rules)) (search rules) c.from-fault.result c.from-fault.ensures
          c.in_ok-page.ensures.width c.in_ok-page.ensures.fine c.in_ok-page.ensures.rows c.in_ok-page.field-0.bit c.in_ok-page.ensures.bit
          writes.1 (elim c.else-at_end.branch [
            | else-at_end-via-then-at_end+else-rows-gt0 w ↦ inl (omega (arith, w.if-rows-gt0.false, same))
            | else-at_end-via-else-at_end w ↦ inr (c.in_ok-page.ensures.goes_on w.if-at_end.false)
          ]),
      c.new-lines.ensures.items,
    )

-- What the check asks of `answer_decoded`.
use Rattle.std.proofs.Common.{rules, ◌≡◌, ◌++◌, ◌∙◌, ℕ, List, Ok, ap, length}
use Rattle.raster.specs.declared.row.Color.{Color}
use Rattle.page_files.specs.Answers.{end_text, lines_text, octets_after}
use Rattle.page_files.specs.DecodeRecords.{as_told}
use Rattle.page_files.specs.PageEnds.{lines_end_by_rtc}
use Rattle.page_files.specs.declared.decoding.ReadTo.TheVariants.{End, Lines}
use Rattle.page_files.proofs.answer.answer_decoded.Goals as goal

pub returns-in_ok-has_end-in-End-clause-told : goal.returns-in_ok-has_end-in-End-clause-told
returns-in_ok-has_end-in-End-clause-told c =
    let octets = c.args.octets.now in
    let options = c.args.options in
    let bits = c.in-End.bits in
    let has_end = c.in_ok-has_end-in-End.has_end in
    let rows = length c.args.decoded.page.rows in
    let front = as_told options.records c.args.decoded.lines.items in
    let read_to : c.args.decoded.read_to ≡ End bits = search rules in
    let same : c.len-rows.result ≡ rows = c.len-rows.ensures.length ∙ ap (λ (l : List (List Color)). length l) c.rows.ensures.rows in
    let told = λ (n : ℕ). end_text options.verbose options.records n bits (octets_after octets bits) has_end in
    rw read_to (
      has_end,
      c.in_ok-has_end-in-End.ensures.end,
      c.in_ok-has_end-in-End.ensures.told
          ∙ (ap (λ (l : List ℕ). l ++ told c.len-rows.result) c.in_ok-told.ensures.told ∙ ap (λ (n : ℕ). front ++ told n) same),
      ap Ok c.is_complete.ensures,
    )

pub returns-in_ok-is_complete-in-Lines-clause-told : goal.returns-in_ok-is_complete-in-Lines-clause-told
returns-in_ok-is_complete-in-Lines-clause-told c =
    let octets = c.args.octets.now in
    let options = c.args.options in
    let count = c.in-Lines.repaired in
    let rows = length c.args.decoded.page.rows in
    let has_end = lines_end_by_rtc c.args.form.order octets in
    let front = as_told options.records c.args.decoded.lines.items in
    let read_to : c.args.decoded.read_to ≡ Lines count = search rules in
    let same : c.len-rows.result ≡ rows = c.len-rows.ensures.length ∙ ap (λ (l : List (List Color)). length l) c.rows.ensures.rows in
    let told = λ (n : ℕ). lines_text options.verbose options.records n count has_end in
    rw read_to (
      c.in_ok-is_complete-in-Lines.ensures.told
          ∙ (ap (λ (l : List ℕ). l ++ told c.len-rows.result) c.in_ok-told.ensures.told ∙ ap (λ (n : ℕ). front ++ told n) same),
      ap Ok (rw same at c.in_ok-is_complete-in-Lines.ensures.end),
    )

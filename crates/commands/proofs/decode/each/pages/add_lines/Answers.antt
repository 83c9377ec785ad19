-- What the check asks of `add_lines`.
use Rattle.std.proofs.Common.{rules, ◌++◌, ◌∙◌, ℕ, List, ap, append_assoc, sym}
use Rattle.std.proofs.lemmas.List.{append-nil}
use Rattle.std.specs.Prelude.{codes}
use Rattle.commands.specs.Pages.{with_front}
use Rattle.commands.proofs.PageReports.{front_end, front_more}
use Rattle.commands.proofs.decode.each.pages.add_lines.Goals as goal

pub loop-line-preserved : goal.loop-line-preserved
loop-line-preserved c =
    let front = c.args.front.now in
    let lines = c.loop-line.lines.items in
    let later = with_front front c.in-Some.after.now in
    let shown = front ++ (c.in-Some.line.now ++ codes "\n") in (
      search rules,
      ap (λ (l : List ℕ). l ++ later) c.in_ok-add_line.ensures.told
          ∙ (append_assoc lines shown later
          ∙ (ap (λ (l : List ℕ). lines ++ l)
          (sym (front_more front c.loop-line.rest.now c.in-Some.line c.in-Some.after c.in-Some.ensures.cases))
          ∙ c.loop-line.invariant.1)),
    )

pub returns-clause-told : goal.returns-clause-told
returns-clause-told c =
    let lines = c.loop-line.lines.items in
    sym (append-nil lines) ∙ (ap (λ (l : List ℕ). lines ++ l)
    (sym (front_end c.args.front.now c.loop-line.rest.now (rw c.in_default-split_once.is at c.split_once.ensures.cases))) ∙ c.loop-line.invariant.1)

-- What the check asks of `tell_few`.
use Rattle.std.proofs.Common.{rules, ◌≡◌, ◌∙◌, ◌-◌, [], List, ℕ, ap, cond, subst}
use Rattle.std.specs.Prelude.{nat_le}
use Rattle.std.specs.Io.KnownBytes.{Appends}
use Rattle.page_files.specs.Answers.{few_line, is_mostly_read}
use Rattle.page_files.specs.DecodeRecords.{as_told}
use Rattle.page_files.proofs.answer.tell_few.Goals as goal

pub returns-clause-told : goal.returns-clause-told
returns-clause-told g c =
    let text = cond (is_mostly_read c.args.rows c.args.repaired) [] few_line in
    let read : c.saturating_sub.result ≡ c.args.rows - c.args.repaired = search rules in
    let lines : c.tell_repaired.new.writer.items ≡ text =
    rw c.new-lines.ensures.items at c.in_ok-tell_repaired.ensures.told
    ∙ ap (λ (n : ℕ). cond (nat_le c.args.repaired n) [] few_line) read in
    let told : c.deref.result.now ≡ as_told c.args.records text =
    c.deref.ensures.value ∙ (c.in_ok-told.ensures.told ∙ ap (as_told c.args.records) lines) in
    subst (λ (l : List ℕ). Appends (g.W.Write.contents c.args.writer.now) (g.W.Write.contents c.write_all.new.self) l) told
    c.in_ok-write_all.ensures.bytes

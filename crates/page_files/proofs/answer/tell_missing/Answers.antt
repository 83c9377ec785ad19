-- What the check asks of `tell_missing`.
use Rattle.std.proofs.Common.{◌≡◌, ◌∙◌, [], List, ℕ, ap, cond, subst}
use Rattle.std.specs.Io.KnownBytes.{Appends}
use Rattle.page_files.specs.Answers.{no_rtc_line}
use Rattle.page_files.specs.DecodeRecords.{as_told}
use Rattle.page_files.proofs.answer.tell_missing.Goals as goal

pub returns-clause-told : goal.returns-clause-told
returns-clause-told g c =
    let text = cond c.args.has_end [] (no_rtc_line c.args.rows) in
    let lines : c.tell_no_rtc.new.writer.items ≡ text = rw c.new-lines.ensures.items at c.in_ok-tell_no_rtc.ensures.told in
    let told : c.deref.result.now ≡ as_told c.args.records text =
    c.deref.ensures.value ∙ (c.in_ok-told.ensures.told ∙ ap (as_told c.args.records) lines) in
    subst (λ (l : List ℕ). Appends (g.W.Write.contents c.args.writer.now) (g.W.Write.contents c.write_all.new.self) l) told
    c.in_ok-write_all.ensures.bytes

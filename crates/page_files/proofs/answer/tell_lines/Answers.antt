-- What the check asks of `tell_lines`.
use Rattle.std.proofs.KnownBytes.{Appends-trans}
use Rattle.page_files.proofs.answer.tell_lines.Goals as goal

pub returns-clause-told : goal.returns-clause-told
returns-clause-told g c =
    Appends-trans _ _ _ _ _ c.in_ok-tell_rows.ensures.told
    (Appends-trans _ _ _ _ _ (rw c.lines_end_by_rtc-has_end.ensures at c.in_ok-tell_missing.ensures.told) c.in_ok-is_read.ensures.told)

pub returns-clause-end : goal.returns-clause-end
returns-clause-end g c = rw (c.in_ok-is_read.ensures.few, c.lines_end_by_rtc-has_end.ensures) at c.is_complete.ensures

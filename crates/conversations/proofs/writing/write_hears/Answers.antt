-- What the check asks of `write_hears`.
use Rattle.std.proofs.Common.{List, refl, rules, subst, sym, ℕ}
use Rattle.conversations.proofs.Written.{failed, hears_text, part_of_longer, text_after}
use Rattle.conversations.proofs.writing.write_hears.Goals as goal
use Rattle.conversations.specs.Hearing.{expected_then}
use Rattle.conversations.specs.Writing.{AppendsPart, WritesText, hear_line, then_line}

pub returns-in_err-write_hear : goal.returns-in_err-write_hear
returns-in_err-write_hear g c =
    failed _ _ _ _ c.from_residual.ensures.0
    (subst (AppendsPart _ _)
    (sym (hears_text c.args.wanted c.args.listens c.expected_first.result (expected_then c.args.listens) (search rules)
    c.expected_first.ensures refl))
    (part_of_longer (hear_line c.expected_first.result) (then_line (expected_then c.args.listens)) _ _ c.in_err-write_hear.ensures))

pub returns : goal.returns
returns g c =
    subst (λ (text : List ℕ). WritesText (g.W.Write.contents c.args.writer.now) (g.W.Write.contents c.write_then.new.writer) text
    c.write_then.result)
    (sym (hears_text c.args.wanted c.args.listens c.expected_first.result c.expected_then.result (search rules)
    c.expected_first.ensures c.expected_then.ensures))
    (text_after (hear_line c.expected_first.result) (then_line c.expected_then.result) _ _ _ _ c.in_ok-write_hear.ensures
    c.write_then.ensures)

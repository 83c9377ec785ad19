-- What the check asks of `write_on`.
use Rattle.std.proofs.Common.{◌≡◌, List, None, cond, refl, rules, subst, sym, ℕ}
use Rattle.std.specs.Prelude.{◌&&◌}
use Rattle.conversations.proofs.Written.{failed, on_text, part_of_longer, text_after}
use Rattle.conversations.proofs.writing.write_on.Goals as goal
use Rattle.conversations.specs.Writing.{AppendsPart, WritesText, hear_lines, wait_line}

pub returns-in_err-write_hears : goal.returns-in_err-write_hears
returns-in_err-write_hears g c =
    let wanted : c.if-says.write_hears ≡ (c.args.says.hears && c.args.begun) = search rules in
    let time = cond c.args.says.waits c.args.at None in
    failed _ _ _ _ c.from_residual.ensures.0
    (subst (AppendsPart _ _)
    (sym (on_text c.args.says c.args.begun c.args.listens c.args.at c.if-says.write_hears time wanted refl))
    (part_of_longer (hear_lines c.if-says.write_hears c.args.listens) (wait_line time) _ _ c.in_err-write_hears.ensures))

pub returns : goal.returns
returns g c =
    let wanted : c.if-says.write_hears ≡ (c.args.says.hears && c.args.begun) = search rules in
    let time : c.if-says-2.write_wait ≡ cond c.args.says.waits c.args.at None = search rules in
    subst (λ (text : List ℕ). WritesText (g.W.Write.contents c.args.writer.now) (g.W.Write.contents c.write_wait.new.writer) text
    c.write_wait.result)
    (sym (on_text c.args.says c.args.begun c.args.listens c.args.at c.if-says.write_hears c.if-says-2.write_wait wanted time))
    (text_after (hear_lines c.if-says.write_hears c.args.listens) (wait_line c.if-says-2.write_wait) _ _ _ _
    c.in_ok-write_hears.ensures c.write_wait.ensures)

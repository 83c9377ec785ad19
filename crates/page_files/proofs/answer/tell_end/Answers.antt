-- What the check asks of `tell_end`.
use Rattle.std.proofs.Common.{rules, ◌≡◌, ◌++◌, [], ℕ, cond, subst}
use Rattle.std.specs.Io.KnownBytes.{Appends}
use Rattle.std.proofs.KnownBytes.{Appends-trans}
use Rattle.page_files.specs.Answers.{after_text, octets_after, page_text}
use Rattle.page_files.proofs.answer.tell_end.Goals as goal

pub returns-clause-told : goal.returns-clause-told
returns-clause-told g c =
    let after : c.saturating_sub-after.result ≡ octets_after c.args.octets.now c.args.read.1 = search rules in
    Appends-trans _ _ _ _ _
    (subst (λ (n : ℕ). Appends (g.W.Write.contents c.args.writer.now) (g.W.Write.contents c.tell_counts.new.writer)
    (cond c.args.options.verbose
    (page_text c.args.options.records c.args.read.0 c.args.read.1 ++ after_text c.args.options.records n) [])) after
    c.in_ok-tell_counts.ensures.told)
    c.in_ok-tell_missing.ensures.told

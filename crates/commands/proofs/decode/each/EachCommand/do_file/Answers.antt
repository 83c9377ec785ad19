-- What the check asks of `do_file`.
use Rattle.std.proofs.Common.{◌∙◌, ap, refl}
use Rattle.std.specs.Prelude.{is_some, option_map}
use Rattle.commands.proofs.PrintedFiles.{none_mapped}
use Rattle.commands.proofs.decode.each.EachCommand.do_file.Goals as goal

pub returns-clause-complete : goal.returns-clause-complete
returns-clause-complete g c = (
  c.in_ok-lines.lines.items,
  (
    c.decode_file-report.result,
    option_map (λ text. text.now) c.as_deref.result,
    c.decode_file-report.ensures.report,
    (λ none. none_mapped (λ text. text.now) c.as_deref.result (c.as_deref.ensures.variant ∙ ap is_some (c.in_ok-words.ensures none))),
    c.in_ok-lines.ensures.told,
    refl,
  ),
  rw c.as_slice.ensures.value at c.in_ok-say.ensures.told,
)

-- What the check asks of `tell_order`.
use Rattle.std.specs.Prelude.{option_map}
use Rattle.page_files.specs.declared.no_eols.Alone.{Alone}
use Rattle.page_files.proofs.no_eols.tell_order.Goals as goal

pub returns-clause-told : goal.returns-clause-told
returns-clause-told g c = (
  option_map (λ (alone : Alone). (alone.width, alone.rows)) c.in_ok-first.first,
  c.in_ok-first.ensures.first,
  c.in_ok-tell_first.ensures.told,
)

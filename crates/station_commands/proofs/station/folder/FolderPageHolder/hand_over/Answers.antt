-- What the check asks of `hand_over`.
use Rattle.std.proofs.Common.{refl, inr}
use Rattle.std.proofs.lemmas.Result.{err_from_is_err_and}
use Rattle.faults.specs.declared.fault.ToolFault.TheVariants.{No}
use Rattle.station_commands.specs.declared.station.folder.NoRoom.TheVariants.{Faulty}
use Rattle.station_commands.proofs.station.folder.FolderPageHolder.hand_over.Goals as goal

pub returns-in_err-name-in-Ok-hand_page-clause-err : goal.returns-in_err-name-in-Ok-hand_page-clause-err
returns-in_err-name-in-Ok-hand_page-clause-err c =
    let p = err_from_is_err_and c.from_residual.result c.from_residual.ensures.1 in
    rw p.1 record { why = Faulty (No 9); is_why = inr refl; tally = refl; limits = refl; stopped = refl; rest = refl }

pub returns-in_err-self-in-Ok-hand_page-clause-err : goal.returns-in_err-self-in-Ok-hand_page-clause-err
returns-in_err-self-in-Ok-hand_page-clause-err c =
    let p = err_from_is_err_and c.from_residual-in_err-self-in-Ok-hand_page.result
    c.from_residual-in_err-self-in-Ok-hand_page.ensures.1 in
    rw p.1 record { why = Faulty (No 9); is_why = inr refl; tally = refl; limits = refl; stopped = refl; rest = refl }

pub returns-in-Err-hand_page-clause-err : goal.returns-in-Err-hand_page-clause-err
returns-in-Err-hand_page-clause-err c = record {
  why = Faulty c.in-Err-hand_page.refused.fault;
  is_why = c.in-Err-hand_page.ensures.fault;
  tally = refl;
  limits = refl;
  stopped = refl;
  rest = refl;
}

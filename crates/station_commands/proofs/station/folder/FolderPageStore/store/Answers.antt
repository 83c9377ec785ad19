-- What the check asks of `store`.
use Rattle.std.proofs.Common.{refl}
use Rattle.station_commands.specs.declared.station.folder.NoRoom.TheVariants.{Faulty}
use Rattle.station_commands.proofs.station.folder.FolderPageStore.store.Goals as goal

pub returns-clause-err : goal.returns-clause-err
returns-clause-err c = record {
  why = Faulty c.in-Err-store_page.refused.fault;
  is_why = c.in-Err-store_page.ensures.fault;
  tally = refl;
  limits = refl;
  stopped = refl;
  rest = refl;
}

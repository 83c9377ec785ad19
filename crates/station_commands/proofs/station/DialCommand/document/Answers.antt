-- What the check asks of `document`.
use Rattle.std.proofs.lemmas.Result.{err_from_is_err_and}
use Rattle.station_commands.proofs.FromLemmas.{none_from}
use Rattle.station_commands.proofs.station.DialCommand.document.Goals as goal

pub returns-in_err-document : goal.returns-in_err-document
returns-in_err-document c =
    let p = err_from_is_err_and c.from_residual.result c.from_residual.ensures.1 in
    rw (p.1, p.2) (none_from c.args.self.now.options.fine c.args.self.now.from _ c.in_err-document.ensures.fault)

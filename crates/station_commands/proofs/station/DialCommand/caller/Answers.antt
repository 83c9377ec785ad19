-- What the check asks of `caller`.
use Rattle.std.proofs.Common.{inr, refl}
use Rattle.station_commands.proofs.station.DialCommand.caller.Goals as goal

pub returns-in-Err-WidthNotCallable : goal.returns-in-Err-WidthNotCallable
returns-in-Err-WidthNotCallable c = record {
  caller = tt;
  fault = inr (c.in_ok-document.document, c.in_ok-document.ensures, c.in-Err-WidthNotCallable.ensures, refl);
}

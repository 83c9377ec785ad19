-- What the check asks of `calls_by_hand`.
use Rattle.std.proofs.Common.{refl}
use Rattle.station_commands.proofs.laws.calls_by_hand.Goals as goal

pub returns : goal.returns
returns c = record {
  late = record {
    in_time = refl;
    late = refl;
    off = refl;
    unread = refl;
    none = refl;
    first = refl;
    earlier = refl;
    later = refl;
  };
  whole = record {
    whole = refl;
    more = refl;
    missing = refl;
    other = refl;
    none = refl;
    unasked = refl;
    busy = refl;
    repeated = refl;
  };
}

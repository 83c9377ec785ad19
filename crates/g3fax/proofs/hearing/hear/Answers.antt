-- What the check asks of `hear`.
use Rattle.std.proofs.Common.{◌≢◌, rules}
use Rattle.g3fax.specs.Statuses.{no_memory}
use Rattle.g3fax.proofs.hearing.hear.Goals as goal

pub returns : goal.returns
returns g c =
    let other : c.hear_octets-status.result ≢ no_memory = search rules in
    record {
      heard = λ some. record {
        heard = c.hear_octets-status.new.timed;
        hears = c.hear_octets-status.ensures;
        stops = c.stop_reused.ensures;
      };
      kept = λ none. absurd (other none);
      only = c.hear_octets-status.ensures.only;
    }

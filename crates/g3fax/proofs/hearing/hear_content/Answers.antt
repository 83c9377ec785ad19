-- What the check asks of `hear_content`.
use Rattle.std.proofs.Common.{◌≡◌, ◌≤◌, arith, inl, length, refl, rules}
use Rattle.g3fax.specs.Frames.{longest_content}
use Rattle.g3fax.specs.Statuses.{ok}
use Rattle.g3fax.proofs.hearing.hear_content.Goals as goal

pub returns : goal.returns
returns g c =
    let is : c.take_content-status.result ≡ ok = search rules in
    let enough : 3 ≤ length c.args.content.now = search rules in
    let fits : length c.args.content.now ≤ longest_content = search rules in
    record {
      done = λ done. record {
        heard = c.take_content-status.new.timed;
        hears = c.take_content-status.ensures.done is;
        stops = c.stop_reused.ensures;
      };
      kept = λ other. absurd (other refl);
      short = λ few. absurd (omega (arith, few, enough));
      long = λ many. absurd (omega (arith, many, fits));
      only = λ a b. inl refl;
    }

-- What the check asks of `read_in_two`: all octets begin with the first ones.
use Rattle.std.proofs.Common.{drop, take, sym}
use Rattle.std.proofs.lemmas.List.{take-append-drop}
use Rattle.uses.proofs.pages.read_in_two.Goals as goal

pub finish-requires : goal.finish-requires
finish-requires c = record {
  octets = take c.args.first c.args.coded.now;
  more = drop c.args.first c.args.coded.now;
  stands = c.in_ok-read_on.ensures.ok;
  begins = sym (take-append-drop c.args.first c.args.coded.now);
}

use Rattle.std.proofs.Common.{[], drop, take, refl, sym}
use Rattle.std.proofs.lemmas.List.{take-append-drop}
use Rattle.page_tests.proofs.page_reader.in_two.Goals as goal

pub read_on-requires : goal.read_on-requires
read_on-requires c = record {
  octets = [];
  more = take c.args.cut c.args.octets.now;
  stands = c.new-reader.ensures.stands;
  begins = refl;
}

pub finish-requires : goal.finish-requires
finish-requires c = record {
  octets = take c.args.cut c.args.octets.now;
  more = drop c.args.cut c.args.octets.now;
  stands = c.in_ok-read_on.ensures.ok;
  begins = sym (take-append-drop c.args.cut c.args.octets.now);
}

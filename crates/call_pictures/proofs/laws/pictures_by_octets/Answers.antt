use Rattle.std.proofs.Common.{refl}
use Rattle.std.specs.Fmt.{digits}
use Rattle.call_pictures.proofs.laws.pictures_by_octets.Goals as goal

pub returns-clause-words : goal.returns-clause-words
unfolding digits
returns-clause-words c = record {
  lost = refl;
  lost_back = refl;
  spoiled = refl;
  nothing = refl;
  nothing_back = refl;
  none_to_lose = refl;
  none_to_lose_back = refl;
  no_check = refl;
  time_out = refl;
  caller_t5 = refl;
  t1 = refl;
  t2 = refl;
  busy = refl;
  ready = refl;
  joint = refl;
  refused = refl;
  caller_side = refl;
  caller_side_lost = refl;
  answerer_side = refl;
  frames = refl;
  times = refl;
  numbers = refl;
  one_number = refl;
  rounds = refl;
  came = refl;
  once = refl;
  one_round = refl;
  granted = refl;
  no_joint = refl;
}

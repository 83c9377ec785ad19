-- What the check asks of `say_octets`.
use Rattle.std.proofs.Common.{refl, rules}
use Rattle.commands.proofs.identify.several.say_octets.Goals as goal

pub returns-clause-said : goal.returns-clause-said
returns-clause-said c = record {
  finds = c.in_ok-found.ensures.found;
  unread = c.in_ok-unread.ensures.unread;
  text = c.in_ok-text.ensures.text;
  known = search rules;
  fault = refl;
  words = refl;
}

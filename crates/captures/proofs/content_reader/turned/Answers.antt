-- What the check asks of `turned`.
use Rattle.std.proofs.Common.{refl}
use Rattle.captures.proofs.TurnedBits.{turned_octet}
use Rattle.captures.proofs.content_reader.turned.Goals as goal

pub returns : goal.returns
returns c =
    turned_octet c.args.octet c.word_at-word.result _ c.word_octets.result c.word_at-word.ensures c.word_octets.ensures refl

-- What the check asks of `write_content`.
use Rattle.std.proofs.Common.{◌∷◌, []}
use Rattle.hex.specs.Hex.{encode_upper}
use Rattle.conversations.proofs.Written.{failed, part_of_longer, text_after}
use Rattle.conversations.proofs.writing.write_content.Goals as goal

pub returns-in_err-write_octets : goal.returns-in_err-write_octets
returns-in_err-write_octets g c =
    failed _ _ _ _ c.from_residual.ensures.0
    (part_of_longer (32 ∷ []) (encode_upper c.args.content.now) _ _ c.in_err-write_octets.ensures)

pub returns : goal.returns
returns g c = text_after (32 ∷ []) (encode_upper c.args.content.now) _ _ _ _ c.in_ok-write_octets.ensures c.write_hex.ensures

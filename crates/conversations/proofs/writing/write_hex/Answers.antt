-- What the check asks of `write_hex`.
use Rattle.std.proofs.Common.{◌∙◌, rules, subst}
use Rattle.std.specs.Io.KnownBytes.{Appends}
use Rattle.conversations.proofs.Written.{all_of_it, failed, hex_cut, hex_none, part_next, piece_written}
use Rattle.conversations.proofs.writing.write_hex.Goals as goal
use Rattle.conversations.specs.Writing.{AppendsPart}

pub loop-rest-preserved : goal.loop-rest-preserved
loop-rest-preserved g c =
    piece_written _ _ _ _ _ _ _ c.loop-rest.invariant
    (hex_cut c.loop-rest.rest.now c.split_at.result.0.now c.split_at.result.1.now (search rules))
    (subst (Appends _ _) (c.as_bytes.ensures.value ∙ c.in_ok-digits.ensures) c.in_ok-write_octets.ensures)

pub returns-in_err-write_octets : goal.returns-in_err-write_octets
returns-in_err-write_octets g c =
    failed _ _ _ _ c.from_residual-in_err-write_octets.ensures.0
    (part_next _ _ _ _ _ _ _ c.loop-rest.invariant
    (hex_cut c.loop-rest.rest.now c.split_at.result.0.now c.split_at.result.1.now (search rules))
    (subst (AppendsPart _ _) (c.as_bytes.ensures.value ∙ c.in_ok-digits.ensures) c.in_err-write_octets.ensures))

pub returns : goal.returns
returns g c = all_of_it _ _ _ _ c.loop-rest.invariant (hex_none c.loop-rest.rest.now (search rules))

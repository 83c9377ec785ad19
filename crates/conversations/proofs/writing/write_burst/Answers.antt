-- What the check asks of `write_burst`.
use Rattle.std.proofs.Common.{◌++◌, ◌∷◌, [], List, refl, rules, subst, sym, ℕ}
use Rattle.hex.specs.Hex.{encode_upper}
use Rattle.conversations.proofs.Written.{burst_text, failed, part_after, part_of_longer, text_after}
use Rattle.conversations.proofs.writing.write_burst.Goals as goal
use Rattle.conversations.specs.Writing.{AppendsPart, WritesText}

pub returns-in_err-write_words : goal.returns-in_err-write_words
returns-in_err-write_words g c =
    failed _ _ _ _ c.from_residual.ensures.0
    (subst (AppendsPart _ _)
    (sym (burst_text c.args.burst.now c.name-channel.result.now c.name-kind.result.now c.format-bits.result.now
    c.args.burst.now.octets.items (search rules) (search rules) (search rules) refl))
    (part_of_longer _ (encode_upper c.args.burst.now.octets.items ++ 10 ∷ []) _ _ c.in_err-write_words.ensures))

pub returns-in_err-write_hex : goal.returns-in_err-write_hex
returns-in_err-write_hex g c =
    failed _ _ _ _ c.from_residual-in_err-write_hex.ensures.0
    (subst (AppendsPart _ _)
    (sym (burst_text c.args.burst.now c.name-channel.result.now c.name-kind.result.now c.format-bits.result.now c.deref.result.now
    (search rules) (search rules) (search rules) c.deref.ensures.value))
    (part_after _ _ _ _ _ c.in_ok-write_words.ensures (part_of_longer _ (10 ∷ []) _ _ c.in_err-write_hex.ensures)))

pub returns : goal.returns
returns g c =
    subst (λ (text : List ℕ). WritesText (g.W.Write.contents c.args.writer.now) (g.W.Write.contents c.write_octets.new.writer) text
    c.write_octets.result)
    (sym (burst_text c.args.burst.now c.name-channel.result.now c.name-kind.result.now c.format-bits.result.now c.deref.result.now
    (search rules) (search rules) (search rules) c.deref.ensures.value))
    (text_after _ _ _ _ _ _ c.in_ok-write_words.ensures (text_after _ _ _ _ _ _ c.in_ok-write_hex.ensures c.write_octets.ensures))

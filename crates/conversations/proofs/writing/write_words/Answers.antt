-- What the check asks of `write_words`.
use Rattle.std.proofs.Common.{List, ℕ, subst}
use Rattle.std.specs.Borrow.{Bor}
use Rattle.std.specs.Io.KnownBytes.{Appends}
use Rattle.conversations.proofs.Written.{failed, flat_from, part_next, piece_written}
use Rattle.conversations.proofs.writing.write_words.Goals as goal
use Rattle.conversations.specs.Writing.{AppendsPart}

pub loop-word-preserved : goal.loop-word-preserved
loop-word-preserved g c =
    piece_written _ _ _ _ _ _ _ c.loop-word.invariant
    (flat_from (λ (word : Bor (List ℕ)). word.now) c.args.words.now c.loop-word.word-index _ c.loop-word-test.true)
    (subst (Appends _ _) c.as_bytes.ensures.value c.in_ok-write_octets.ensures)

pub returns-in_err-write_octets : goal.returns-in_err-write_octets
returns-in_err-write_octets g c =
    failed _ _ _ _ c.from_residual.ensures.0
    (part_next _ _ _ _ _ _ _ c.loop-word.invariant
    (flat_from (λ (word : Bor (List ℕ)). word.now) c.args.words.now c.loop-word.word-index _ c.loop-word-test.true)
    (subst (AppendsPart _ _) c.as_bytes.ensures.value c.in_err-write_octets.ensures))

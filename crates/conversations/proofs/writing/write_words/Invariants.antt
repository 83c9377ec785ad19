-- What holds in the loop of `write_words`.
use Rattle.std.proofs.Common.{drop, flat_map}
use Rattle.conversations.proofs.Written.{HasWritten}
use Rattle.conversations.proofs.writing.write_words.Given as goal

abbrev pub invariant-loop-word : goal.invariant-loop-word
invariant-loop-word g l =
    HasWritten (flat_map (λ word. word.now) l.fn.words) (flat_map (λ word. word.now) (drop l.word-index l.words))
    (g.W.Write.contents l.fn.writer) (g.W.Write.contents l.writer)

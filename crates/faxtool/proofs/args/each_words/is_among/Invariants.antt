-- What holds in the loop of `is_among`.
use Rattle.std.proofs.Common.{◌≡◌, drop, map}
use Rattle.faxtool.specs.Jobs.{has_standard}
use Rattle.faxtool.proofs.args.each_words.is_among.Given as goal

abbrev pub invariant-loop-text : goal.invariant-loop-text
invariant-loop-text l = has_standard (map (λ text. text.now) (drop l.text-index l.texts)) ≡ has_standard (map (λ text. text.now) l.texts)

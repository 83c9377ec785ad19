-- What holds in the loop of `add_texts`.
use Rattle.std.proofs.Common.{◌≡◌, ◌++◌, map, take}
use Rattle.std.specs.Prelude.{string_bytes}
use Rattle.faxtool.proofs.args.each_words.add_texts.Given as goal

abbrev pub invariant-loop-text : goal.invariant-loop-text
invariant-loop-text l =
    map string_bytes l.names.items ≡ map string_bytes l.initial.names.items ++ map (λ text. text.now) (take l.text-index l.texts)

use Rattle.std.proofs.Common.{arith, sym, ap, ◌∙◌, ◌≡◌, ◌+◌, ◌-◌, ◌*◌}
use Rattle.std.proofs.lemmas.Bool.{eqb-true}
use Rattle.raster.specs.Packed.{bit_in}
use Rattle.raster.specs.Words.{bit_of_word}
use Rattle.raster.specs.declared.packed.Order.TheVariants.{MsbFirst}
use Rattle.raster.proofs.words.eight_are.Goals as goal

pub returns : goal.returns
returns c is k low h =
    let same : c.whole_word.result ≡ c.word_alike.result = eqb-true c.whole_word.result c.word_alike.result is in
    let back : k ≡ 8 * c.args.at + (k - 8 * c.args.at) = omega arith in
    ap (bit_in MsbFirst c.args.octets.now) back ∙
    (sym (c.whole_word.ensures (k - 8 * c.args.at) (omega arith)) ∙
    (ap (λ word. bit_of_word word (k - 8 * c.args.at)) same ∙ c.word_alike.ensures (k - 8 * c.args.at) (omega arith)))

use Rattle.std.proofs.Common.{arith, ◌*◌, ◌/◌, ◌+◌, ◌-◌, ◌%◌}
use Rattle.raster.proofs.FirstLemmas.{word_first, first_or_end, first_end, first_after}
use Rattle.raster.proofs.words.first_other.Goals as goal

pub returns-then-place-lt64 : goal.returns-then-place-lt64
returns-then-place-lt64 c =
    first_or_end c.args.octets.now c.args.from (c.args.from - c.args.from % 8 + 64) c.args.end (c.args.from - c.args.from % 8 +
    c.first_in_word-place.result) c.min.result c.args.bit
    (word_first c.args.octets.now c.args.from c.octet_word-word.result c.first_in_word-place.result c.args.bit c.octet_word-word.ensures
    c.first_in_word-place.ensures)
    (omega arith) c.requires.order c.min.ensures

pub returns-then-base-end : goal.returns-then-base-end
returns-then-base-end c =
    let first = word_first c.args.octets.now c.args.from c.octet_word-word.result c.first_in_word-place.result c.args.bit
    c.octet_word-word.ensures c.first_in_word-place.ensures in
    first_end c.args.octets.now c.args.from (c.args.from - c.args.from % 8 + c.first_in_word-place.result) c.args.end c.args.bit
    first.before c.requires.order (omega arith)

pub returns : goal.returns
returns c =
    let first = word_first c.args.octets.now c.args.from c.octet_word-word.result c.first_in_word-place.result c.args.bit
    c.octet_word-word.ensures c.first_in_word-place.ensures in
    first_after c.args.octets.now c.args.from (8 * (c.args.from / 8 + 8)) c.args.end _ c.args.bit (omega arith)
    (λ k low h. first.before k low (omega arith))
    c.first_other_after.ensures

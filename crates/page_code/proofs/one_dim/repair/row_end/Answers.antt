-- What the check asks of `row_end`.
use Rattle.std.proofs.Common.{◌≡◌, ◌≤◌, Bool, List, ℕ, arith, length, drop, subst}
use Rattle.raster.specs.Packed.{bits_of}
use Rattle.raster.specs.Words.{number_bits}
use Rattle.run_tables.specs.Reading.{Reading, rest_of}
use Rattle.run_tables.specs.Texts.{begins}
use Rattle.page_code.proofs.OneDimension.LineEnds.{HasWhite, row_ends_as, row_goes_on, row_is_white, white_within}
use Rattle.page_code.proofs.OneDimension.SeesEol.{bits_left}
use Rattle.page_code.proofs.one_dim.repair.row_end.Goals as goal
use Rattle.page_code.proofs.one_dim.repair.row_end.Goals.{else-has_white-via-then-has_white+else-ends_in_black}
use Rattle.page_code.proofs.one_dim.repair.row_end.Goals.{else-has_white-via-else-has_white}

-- what `starts_with` tells of the bits at a place
has_white : (bits : List Bool) (place : ℕ) (reader : Reading) (there : Bool) → reader ≡ record { bits = bits; place = place }
    → there ≡ begins (number_bits 8 53) (rest_of reader) → HasWhite (drop place bits) there
has_white bits place reader there is tells = subst (λ (r : Reading). there ≡ begins (number_bits 8 53) (rest_of r)) is tells

pub line_end-requires-then-ends_in_black : goal.line_end-requires-then-ends_in_black
line_end-requires-then-ends_in_black c =
    let bits = bits_of c.args.order c.args.octets.now in
    let has = has_white bits c.args.place c.at.result c.starts_with-has_white.result c.at.ensures c.starts_with-has_white.ensures in
    let most : 8 ≤ length (drop c.args.place bits) = white_within c.args.row.now bits c.args.place c.starts_with-has_white.result has
    c.if-has_white.true in
    omega (arith, most, bits_left c.args.order c.args.octets.now c.args.place, c.requires)

pub returns-then-ends_in_black : goal.returns-then-ends_in_black
returns-then-ends_in_black c =
    let bits = bits_of c.args.order c.args.octets.now in
    let has = has_white bits c.args.place c.at.result c.starts_with-has_white.result c.at.ensures c.starts_with-has_white.ensures in
    row_ends_as c.args.row.now bits c.args.place c.starts_with-has_white.result c.line_end-then-ends_in_black.result has c.if-has_white.true
    (c.ends_in_black.ensures.black c.if-ends_in_black.true) c.in_default.ensures c.line_end-then-ends_in_black.ensures

pub returns-else-has_white : goal.returns-else-has_white
returns-else-has_white c =
    let bits = bits_of c.args.order c.args.octets.now in
    let has = has_white bits c.args.place c.at.result c.starts_with-has_white.result c.at.ensures c.starts_with-has_white.ensures in
    elim c.else-has_white.branch [
      | else-has_white-via-then-has_white+else-ends_in_black w ↦ row_is_white c.args.row.now bits c.args.place
          (w.ends_in_black.ensures.other w.if-ends_in_black.false) c.in_default.ensures
      | else-has_white-via-else-has_white w ↦ row_goes_on c.args.row.now bits c.args.place c.starts_with-has_white.result has
          w.if-has_white.false c.in_default.ensures
    ]

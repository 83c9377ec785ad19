use Rattle.std.proofs.Common.{◌≡◌, ◌-◌, ◌/◌, ◌^◌, arith, nat_eq, true}
use Rattle.std.proofs.lemmas.Bool.{OnTrue_at, OnTrue_from, eqb-true}
use Rattle.run_tables.specs.Numbers.{number_text}
use Rattle.run_tables.specs.Reading.{rest_of}
use Rattle.run_tables.specs.Texts.{begins}
use Rattle.run_tables.proofs.NumberLemmas.{begins_text}
use Rattle.page_code.proofs.one_dim.white_rows.WhiteRow.is_next.Goals as goal

pub returns-then-has_57 : goal.returns-then-has_57
returns-then-has_57 c =
    let bits = c.args.self.bits in
    OnTrue_from (nat_eq (c.peek_57.result / 2 ^ (64 - bits)) c.args.self.number)
    (begins (number_text bits c.args.self.number) (rest_of c.args.reader.now) ≡ true)
    (λ same. begins_text bits (64 - bits) 57 (rest_of c.args.reader.now) c.peek_57.result c.args.self.number
    (omega (arith, c.requires.few)) c.requires.few c.peek_57.ensures
    (omega (arith, c.requires.few, OnTrue_at c.if-has_57.true c.has_57.ensures.yes))
    (eqb-true (c.peek_57.result / 2 ^ (64 - bits)) c.args.self.number same))

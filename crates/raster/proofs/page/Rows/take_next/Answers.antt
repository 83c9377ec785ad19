use Rattle.std.proofs.Common.{◌∙◌, ◌∷◌, sym, ap, length, arith}
use Rattle.std.proofs.lemmas.List.Elements.{All-head, All-tail}
use Rattle.std.specs.Prelude.{All}
use Rattle.raster.specs.Stored.{IsStored, stored_rows}
use Rattle.raster.proofs.StoredLemmas.{stored_rows-cons, stored_rows-empty}
use Rattle.raster.proofs.page.Rows.take_next.Goals as goal

pub row_of-requires-clause-stored : goal.row_of-requires-clause-stored
row_of-requires-clause-stored c =
    let all : All (IsStored c.self.inside.width c.self.inside.octets.now) (c.in-Some.first.now ∷ c.in-Some.others.now) =
    rw (rw c.in-Some.is at c.split_first.ensures.cases).0 at c.self.invariant.each in
    All-head (IsStored c.self.inside.width c.self.inside.octets.now) c.in-Some.first.now c.in-Some.others.now all

pub invariant_of-self : goal.invariant_of-self
invariant_of-self c =
    let all : All (IsStored c.self.inside.width c.self.inside.octets.now) (c.in-Some.first.now ∷ c.in-Some.others.now) =
    rw (rw c.in-Some.is at c.split_first.ensures.cases).0 at c.self.invariant.each in
    record {
      wide = c.self.invariant.wide;
      few = omega (arith, ap length (rw c.in-Some.is at c.split_first.ensures.cases).0, c.self.invariant.few);
      each = All-tail (IsStored c.self.inside.width c.self.inside.octets.now) c.in-Some.first.now c.in-Some.others.now all;
    }

pub returns : goal.returns
returns c =
    sym c.self.view_is ∙
    (ap (stored_rows c.self.inside.width c.self.inside.octets.now) (rw c.in-Some.is at c.split_first.ensures.cases).0 ∙
    (stored_rows-cons c.self.inside.width c.self.inside.octets.now c.in-Some.first.now c.in-Some.others.now ∙
    ap (λ row. row ∷ stored_rows c.self.inside.width c.self.inside.octets.now c.in-Some.others.now) (sym c.row_of.ensures)))

pub returns-in_default : goal.returns-in_default
returns-in_default c =
    let none = stored_rows-empty c.self.inside.width c.self.inside.octets.now c.self.inside.places.now (rw c.in_default.is at c.split_first.ensures.cases) in
    rw (← c.self.view_is) (none, none)

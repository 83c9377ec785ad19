use Rattle.std.proofs.Common.{◌≡◌, ◌∙◌, ◌++◌, List, ℕ, ap, arith, drop, length, map, take}
use Rattle.raster.proofs.PaintingLemmas.{written_back}
use Rattle.raster.specs.Words.{turned_octet}
use Rattle.page_code.proofs.TurnedOctets.{as_many, rest_is, turned_further}
use Rattle.page_code.proofs.turned.turned_on.Goals as goal

pub returns : goal.returns
returns c =
    let grown : c.deref_mut.result.now ≡ c.args.kept.items ++ drop c.len-from.result c.args.octets.now =
    c.deref_mut.ensures.value ∙ (c.in_ok-extend_from_slice.ensures.items ∙
    ap (λ (xs : List ℕ). c.args.kept.items ++ xs) (rest_is c.args.octets.now c.len-from.result)) in
    let turned : c.turn_from.new.octets ≡ map turned_octet c.args.octets.now =
    c.turn_from.ensures.turned ∙ (ap (λ (xs : List ℕ). take c.len-from.result xs ++ map turned_octet (drop c.len-from.result xs)) grown ∙
    turned_further c.args.kept.items c.args.octets.now c.len-from.result c.requires (omega (arith, c.args.kept.ok, c.len-from.ensures))) in
    let long : length c.turn_from.new.octets ≡ length c.deref_mut.result.now =
    ap (λ (xs : List ℕ). length xs) c.turn_from.ensures.turned ∙ as_many c.deref_mut.result.now c.len-from.result in
    written_back c.turn_from.new.octets c.extend_from_slice.new.self.items c.extend_from_slice.new.self.len
    (omega (arith, long, c.deref_mut.ensures.len))
    (omega (arith, ap (λ (xs : List ℕ). length xs) c.deref_mut.ensures.value, c.deref_mut.ensures.len)) ∙ turned

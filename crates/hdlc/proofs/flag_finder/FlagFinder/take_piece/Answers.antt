use Rattle.std.proofs.Common.{◌≡◌, ◌++◌, ◌∷◌, [], ℕ, List, get_or, refl, sym, ◌∙◌, subst, arith}
use Rattle.std.proofs.lemmas.List.{take_all}
use Rattle.raster.specs.Packed.{bits_of}
use Rattle.raster.specs.declared.packed.Order.TheVariants.{LsbFirst}
use Rattle.hdlc.specs.DeframerParts.{PartsAfter}
use Rattle.hdlc.proofs.QuietRuns.{take_next}
use Rattle.hdlc.proofs.BitPlaces.{octets-all}
use Rattle.hdlc.proofs.flag_finder.FlagFinder.take_piece.Goals as goal

pub returns-then-repeated_front-piece-clause-taken : goal.returns-then-repeated_front-piece-clause-taken
returns-then-repeated_front-piece-clause-taken c e counts queue bits handed old =
    rw (← octets-all bits c.args.piece.now c.repeated_front.result (omega arith))
    (c.repeated_front.ensures.same counts queue bits handed old)

pub returns-then-piece-eq1-clause-taken : goal.returns-then-piece-eq1-clause-taken
returns-then-piece-eq1-clause-taken c e counts queue bits handed old =
    let piece : List ℕ = c.args.piece.now in
    let all : get_or piece 0 0 ∷ [] ≡ piece = sym (take_next piece 0 1 0 (omega arith) refl) ∙ take_all 1 piece (omega arith) in
    subst (λ os. PartsAfter c.take_octet.new.self counts queue (bits ++ bits_of LsbFirst os) handed) all
    (c.take_octet.ensures.taken e counts queue bits handed old)

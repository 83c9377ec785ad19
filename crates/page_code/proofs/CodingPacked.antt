-- The octets of a code, where the least significant bit comes first.
use Rattle.std.proofs.Common.{◌≡◌, ◌<◌, ◌+◌, ◌++◌, ◌∙◌, ℕ, suc, Bool, List, [], ◌∷◌, ap, arith, get_or, length, subst}
use Rattle.std.proofs.lemmas.List.{get_or-append-add, length-append}
use Rattle.std.specs.Prelude.{Result, Ok, Err, OnOk}
use Rattle.raster.specs.declared.packed.Order.{Order}
use Rattle.raster.specs.declared.packed.Order.TheVariants.{LsbFirst}
use Rattle.raster.specs.Octets.{AreOctets, packed}
use Rattle.raster.proofs.OctetLemmas.{packed_is}
use Rattle.page_code.specs.PageCodes.{AppendsCode}

small_octets : (xs : List ℕ) → ((k : ℕ) → k < length xs → get_or xs k 0 < 256) → AreOctets xs
small_octets [] small = tt
small_octets (x ∷ xs) small = (small 0 (omega arith), small_octets xs (λ k less. small (suc k) (omega (arith, less))))

-- octets appended are the packed code, since no others hold it so
appends_packed : (code : List Bool) (old new : List ℕ) → ((k : ℕ) → k < length new → get_or new k 0 < 256)
    → AppendsCode LsbFirst code old new → new ≡ old ++ packed code
appends_packed code old new small (octets, is, fills) =
    let size : length new ≡ length old + length octets = ap length is ∙ length-append old octets in
    let tail : (k : ℕ) → k < length octets → get_or octets k 0 < 256 =
    λ k less. subst (λ n. n < 256) (ap (λ (l : List ℕ). get_or l (length old + k) 0) is
    ∙ get_or-append-add old octets k 0) (small (length old + k) (omega (arith, size, less))) in
    is ∙ ap (λ (l : List ℕ). old ++ l) (packed_is code octets fills (small_octets octets tail))

-- the same of what `encode` answers
pub encoded_packed : {T E : Type 0} (result : Result T E) (order : Order) (code : List Bool) (old new : List ℕ)
    → ((k : ℕ) → k < length new → get_or new k 0 < 256) → OnOk result (AppendsCode order code old new)
    → OnOk result (order ≡ LsbFirst → new ≡ old ++ packed code)
encoded_packed (Ok done) order code old new small appends =
    λ is. appends_packed code old new small (subst (λ (o : Order). AppendsCode o code old new) is appends)
encoded_packed (Err refused) order code old new small appends = tt

-- Whether a burst is left, and what `next_burst` of a terminal gives.
use Rattle.std.proofs.Common.{◌≡◌, ◌≢◌, List, [], ◌∷◌, Bool, true, false, None, Ok, refl}
use Rattle.std.specs.declared.alloc.AllocError.{AllocError}
use Rattle.signals.specs.declared.signal.Side.{Side}
use Rattle.terminals.specs.Sending.{HasBurst, Sends}
use Rattle.terminals.specs.Speaking.{BurstsOf, Speaking}

none_of : {A : Type 0} (xs : List A) → (xs ≢ [] → ⊥) → xs ≡ []
none_of [] h = refl
none_of (x ∷ xs) h = absurd (h (λ e. cc))

pub sends_none : {S : Type 0} (side : Side) (lends : BurstsOf S) (now : Speaking S) (has : Bool) → HasBurst lends now has → has ≡ false →
    Sends {E = AllocError} side lends now now (Ok None)
sends_none side lends now true h e = absurd cc
sends_none side lends now false h e = (h.0, h.1, ((λ few. none_of _ (λ some. let e : false ≡ true = h.2.1 (few, some) in absurd cc)), refl))

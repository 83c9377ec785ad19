-- The texts of numbers, one after the other.
use Rattle.std.proofs.Common.{◌≡◌, ◌+◌, ℕ, Bool, List, Option, add-one, ap, ◌∙◌, subst, sym, false, refl}
use Rattle.std.specs.Prelude.{◌||◌}
use Rattle.std.specs.Io.KnownBytes.{Appends}
use Rattle.std.proofs.KnownBytes.{Appends-trans, Appends-nil}
use Rattle.captures.specs.Below.{some_below, texts_below}

pub none_below : (holds : ℕ → Bool) → false ≡ some_below holds 0
unfolding some_below
none_below holds = refl

pub one_below : (holds : ℕ → Bool) (n : ℕ) → some_below holds (n + 1) ≡ (holds n || some_below holds n)
unfolding some_below
one_below holds n = ap (some_below holds) (add-one n)

pub no_texts : (text : ℕ → List ℕ) (held : Option (List ℕ)) → Appends held held (texts_below text 0)
unfolding texts_below
no_texts text held = Appends-nil held

pub one_text : (text : ℕ → List ℕ) (n : ℕ) (before now new : Option (List ℕ)) → Appends before now (texts_below text n)
    → Appends now new (text n) → Appends before new (texts_below text (n + 1))
unfolding texts_below
one_text text n before now new texts more =
    subst (λ k. Appends before new (texts_below text k)) (sym (add-one n))
    (Appends-trans before now new (texts_below text n) (text n) texts more)

-- one number more, of which something may hold
pub some_more : (holds : ℕ → Bool) (n : ℕ) (some more : Bool) → some ≡ some_below holds n → more ≡ (holds n || some)
    → more ≡ some_below holds (n + 1)
some_more holds n some more was is = is ∙ (ap (λ b. holds n || b) was ∙ sym (one_below holds n))

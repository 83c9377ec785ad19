-- What is written of frames, one after the other.
use Rattle.std.proofs.Common.{◌≡◌, ◌<◌, ◌≤◌, ◌+◌, ◌++◌, ◌∷◌, [], ℕ, List, Option, true, false, arith, drop, get_or, length, map, min, refl, subst, sym, ◌∙◌}
use Rattle.std.specs.Prelude.{nat_le}
use Rattle.std.proofs.KnownBytes.{Appends-nil, Appends-trans}
use Rattle.std.proofs.lemmas.Bool.{leb-false, leb-true}
use Rattle.std.proofs.lemmas.List.{at_drop_all, at_drop_more}
use Rattle.std.specs.Io.KnownBytes.{Appends}
use Rattle.captures.specs.declared.frames.ListForm.{ListForm}
use Rattle.referee.specs.declared.rule.Rule.{Rule}
use Rattle.call_logs.specs.Reports.{all_found, found_in}
use Rattle.call_logs.specs.Told.{PlainTold}

-- once what is left is written, all is
abbrev pub AllLeft : {T : Type 0} → (T → PlainTold) → ListForm → List T → List (Option Rule) → ℕ → Option (List ℕ) → Option (List ℕ) → Type 0
AllLeft plain form told found at start now =
    (after : Option (List ℕ)) → Appends now after (all_found form (map plain (drop at told)) (drop at found))
    → Appends start after (all_found form (map plain told) found)

pub none_done : {T : Type 0} (plain : T → PlainTold) (form : ListForm) (told : List T) (found : List (Option Rule)) (start : Option (List ℕ))
    → AllLeft plain form told found 0 start start
none_done plain form told found start = λ after left. left

next : {T : Type 0} (plain : T → PlainTold) (form : ListForm) (told : List T) (found : List (Option Rule)) (at : ℕ) (d : T) (e : Option Rule)
    → at < length told → at < length found
    → all_found form (map plain (drop at told)) (drop at found)
    ≡ found_in form (plain (get_or told at d)) (get_or found at e) ++ all_found form (map plain (drop (at + 1) told)) (drop (at + 1) found)
next plain form told found at d e one other =
    at_drop_more (λ xs. all_found form (map plain xs) (drop at found)) told at d one
    ∙ at_drop_more (λ ys. all_found form (map plain (get_or told at d ∷ drop (at + 1) told)) ys) found at e other

pub one_done : {T : Type 0} (plain : T → PlainTold) (form : ListForm) (told : List T) (found : List (Option Rule)) (at : ℕ) (d : T)
    (e : Option Rule) (start now new : Option (List ℕ)) → at < min (length told) (length found)
    → AllLeft plain form told found at start now
    → Appends now new (found_in form (plain (get_or told at d)) (get_or found at e))
    → AllLeft plain form told found (at + 1) start new
one_done plain form told found at d e start now new within before wrote =
    λ after left. before after (subst (Appends now after) (sym (next plain form told found at d e (omega (arith, within)) (omega (arith, within))))
    (Appends-trans now new after (found_in form (plain (get_or told at d)) (get_or found at e))
    (all_found form (map plain (drop (at + 1) told)) (drop (at + 1) found)) wrote left))

no_rules : (form : ListForm) (told : List PlainTold) → all_found form told [] ≡ []
no_rules form [] = refl
no_rules form (first ∷ more) = refl

nothing : {T : Type 0} (plain : T → PlainTold) (form : ListForm) (told : List T) (found : List (Option Rule)) (at : ℕ)
    → min (length told) (length found) ≤ at → all_found form (map plain (drop at told)) (drop at found) ≡ []
nothing plain form told found at past = go (nat_le (length told) at) refl
  where
    go : (b : _) → nat_le (length told) at ≡ b → all_found form (map plain (drop at told)) (drop at found) ≡ []
    go true e = at_drop_all (λ xs. all_found form (map plain xs) (drop at found)) told at (leb-true (length told) at e)
    go false e = at_drop_all (λ ys. all_found form (map plain (drop at told)) ys) found at (omega (arith, past, leb-false (length told) at e))
        ∙ no_rules form (map plain (drop at told))

pub all_done : {T : Type 0} (plain : T → PlainTold) (form : ListForm) (told : List T) (found : List (Option Rule)) (at : ℕ)
    (start now : Option (List ℕ)) → min (length told) (length found) ≤ at → AllLeft plain form told found at start now
    → Appends start now (all_found form (map plain told) found)
all_done plain form told found at start now past before =
    before now (subst (Appends now now) (sym (nothing plain form told found at past)) (Appends-nil now))

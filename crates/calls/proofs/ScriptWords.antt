-- Words and counts of a script's lines.
use Rattle.std.proofs.Common.{◌≡◌, ◌≢◌, ◌<◌, ◌+◌, ◌&&◌, ℕ, Bool, true, false, not, nat_eq, List, [], ◌∷◌, ◌++◌, Option, Some, Bor}
use Rattle.std.proofs.Common.{length, get_or, suc, zero, codes, refl, ap, sym, ◌∙◌, subst, arith, inl, inr, length-append}
use Rattle.std.proofs.lemmas.List.{get_or_at}
use Rattle.std.proofs.lemmas.Bool.Decides.{nat_tests}
use Rattle.std.proofs.lemmas.Str.Pattern.{IsSplitOnceResult, split_after, split_parts}
use Rattle.line_sim.specs.declared.event.Event.{Event}
use Rattle.line_sim.specs.declared.event.Event.TheVariants.{DeliverToAnswerer, DeliverToCaller, LoseToAnswerer, LoseToCaller, Spoil}
use Rattle.line_sim.specs.declared.event.Event.TheVariants.{CallerTimeout, CallerT5, AnswererT1, AnswererT2, Busy}
use Rattle.calls.specs.declared.script.Command.{Command}
use Rattle.calls.specs.declared.script.Command.TheVariants.{Events, Polite}
use Rattle.calls.specs.Scripts.{IsCount, Says, word_of}

-- no octet is the given one
abbrev pub lacks : ℕ → List ℕ → Bool
lacks octet [] = true
lacks octet (x ∷ xs) = not (nat_eq x octet) && lacks octet xs

pub lacks_at : (octet : ℕ) (xs : List ℕ) → lacks octet xs ≡ true → (i : ℕ) → i < length xs → get_or xs i 0 ≢ octet
lacks_at octet [] h i l = absurd (omega (arith, l))
lacks_at octet (x ∷ xs) h zero l = grind (arith, nat_tests)
lacks_at octet (x ∷ xs) h (suc i) l = lacks_at octet xs (grind (arith, nat_tests)) i (omega (arith, l))

pub word_solid : (event : Event) → lacks 32 (word_of event) ≡ true
word_solid DeliverToAnswerer = refl
word_solid DeliverToCaller = refl
word_solid LoseToAnswerer = refl
word_solid LoseToCaller = refl
word_solid Spoil = refl
word_solid CallerTimeout = refl
word_solid CallerT5 = refl
word_solid AnswererT1 = refl
word_solid AnswererT2 = refl
word_solid (Busy true) = refl
word_solid (Busy false) = refl

-- a line that is cut at its first space, and whose digits are no count, says no command
module _ (line : List ℕ) (r : Option (Bor (List ℕ) × Bor (List ℕ))) (split : IsSplitOnceResult 32 line r) (x : Bor (List ℕ)
    × Bor (List ℕ)) (is : r ≡ Some x) where
  solid : (word : List ℕ) → lacks 32 word ≡ true → line ≡ word → ⊥
  solid word h same =
      let parts = rw is at (split_parts 32 line r split (omega arith)) in
      let there : get_or line (length x.0.now) 0 ≡ 32 = ap (λ l. get_or l (length x.0.now) 0) parts.0
      ∙ get_or_at x.0.now 32 x.1.now 0 (length x.0.now) refl in
      let size : length line ≡ length x.0.now + suc (length x.1.now) = ap length parts.0 ∙ length-append x.0.now (32 ∷ x.1.now) in
      lacks_at 32 line (subst (λ w. lacks 32 w ≡ true) (sym same) h) (length x.0.now) (omega (arith, size)) there

  counted : (word digits : List ℕ) → lacks 32 word ≡ true → line ≡ word ++ 32 ∷ digits → ((n : ℕ) → IsCount x.1.now n → ⊥) → (n : ℕ)
      → IsCount digits n → ⊥
  counted word digits h e none n count =
      let parts = rw is at (split_after 32 line word digits r split (omega arith) e (lacks_at 32 word h)) in
      none n (subst (λ d. IsCount d n) (sym parts.1) count)

  pub no_count : ((n : ℕ) → IsCount x.1.now n → ⊥) → (command : Command) → Says line command → ⊥
  no_count none (Events event count) (inl (same, one)) = solid (word_of event) (word_solid event) same
  no_count none (Events event count) (inr (digits, e, is_count)) = counted (word_of event) digits (word_solid event) e none count is_count
  no_count none (Polite most) (digits, e, is_count) = counted (codes "polite") digits refl e none most is_count

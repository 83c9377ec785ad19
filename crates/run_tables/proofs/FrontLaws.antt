-- What reading item by item gives, from one premise: looking finds exactly the items that may come.
use Rattle.std.proofs.Common.{ℕ, zero, suc, ◌≡◌, ◌+◌, ◌<◌, ◌≤◌, inl, inr, Bool, List, [], ◌∷◌, ◌++◌, length, drop, refl, ap, sym, ◌∙◌}
use Rattle.std.proofs.Common.{arith, length-append, append_assoc, add-zero}
use Rattle.std.specs.Prelude.{Result, Ok, Err}
use Rattle.std.proofs.lemmas.List.{drop_at, append_cancel_left}
use Rattle.run_tables.specs.Fronts.{Look, spell, Walk, act, read_from, Finds, Answers, Halts, Nested}
use Rattle.run_tables.specs.Fronts.Look.{go, stop, refuse}

module _ {State Item Answer Kind : Type 0} (word : Item → List Bool) (Step : State → Item → State → Type 0) (look : State → List Bool
    → Look State Item Answer Kind) (spent : Kind) (finds : Finds word Step look) where
  -- one item is read
  pub one_read : (fuel : ℕ) (s m : State) (i : Item) (place : ℕ) (z : List Bool) → Step s i m
      → read_from word look spent (suc fuel) s place (word i ++ z) ≡ read_from word look spent fuel m (place + length (word i)) z
  one_read fuel s m i place z step =
      ap (λ (l : Look State Item Answer Kind). act l place (λ (i' : Item) (t : State). read_from word look spent fuel t (place + length
      (word i')) (drop (length (word i')) (word i ++ z)))) (finds.complete s i m z step) ∙
      ap (read_from word look spent fuel m (place + length (word i))) (drop_at (word i) z (length (word i)) refl)

  -- where items lead, reading goes on
  pub arrives : (items : List Item) (fuel : ℕ) (s t : State) (place : ℕ) (y : List Bool) → Walk Step s items t
      → length (spell word items ++ y) < fuel
      → (left : ℕ) × (length y < left)
      × (read_from word look spent fuel s place (spell word items ++ y) ≡ read_from word look spent left t (place + length (spell word
      items)) y)
  arrives [] fuel s t place y walk enough = (fuel, enough, rw (walk, add-zero) refl)
  arrives (i ∷ is) zero s t place y walk enough = absurd (omega arith)
  arrives (i ∷ is) (suc fuel) s t place y walk enough =
      let rest : List Bool = spell word is ++ y in
      let more : 0 < length (word i) = finds.positive s i walk.0 walk.1 in
      let regroup : (word i ++ spell word is) ++ y ≡ word i ++ rest = append_assoc (word i) (spell word is) y in
      let less : length rest < fuel = omega (arith, enough, ap length regroup, length-append (word i) rest) in
      let later = arrives is fuel walk.0 t (place + length (word i)) y walk.2 less in
      let places : place + length (word i) + length (spell word is) ≡ place + length (word i ++ spell word is) = omega (
        arith,
        length-append
            (word i) (spell word is),
      ) in (
        later.0,
        later.1,
        ap (read_from word look spent (suc fuel) s place) regroup ∙ (one_read fuel s walk.0 i place rest walk.1 ∙
            (later.2 ∙ ap (λ p. read_from word look spent later.0 t p y) places)),
      )

  -- reading ends after whole items
  pub halts : (fuel : ℕ) (s : State) (place : ℕ) (x : List Bool) → length x < fuel
      → Halts word Step look s place x (read_from word look spent fuel s place x)
  halts zero s place x enough = absurd (omega arith)
  halts (suc fuel) s place x enough = seen (look s x) refl (λ t p z less. halts fuel t p z less)
    where
      seen : (l : Look State Item Answer Kind) → look s x ≡ l → ((t : State) (p : ℕ) (z : List Bool) → length z < fuel
          → Halts word Step look t p z (read_from word look spent fuel t p z))
          → Halts word Step look s place x (act l place (λ i t. read_from word look spent fuel t (place + length (word i)) (drop (length
          (word i)) x)))
      seen (go i t) is again =
          let found = finds.sound s x i t is in
          let z : List Bool = found.1.0 in
          let split : x ≡ word i ++ z = found.1.1 in
          let more : 0 < length (word i) = finds.positive s i t found.0 in
          let after : drop (length (word i)) x ≡ z = ap (drop (length (word i))) split ∙ drop_at (word i) z (length (word i)) refl in
          let less : length (drop (length (word i)) x) < fuel = omega (arith, ap length split, length-append (word i) z, ap length after) in
          let later = again t (place + length (word i)) (drop (length (word i)) x) less in
          let places : place + length (word i) + length (spell word later.items) ≡ place + length (word i ++ spell word later.items) = omega
          (arith, length-append (word i) (spell word later.items)) in
          record {
            items = i ∷ later.items;
            end = later.end;
            rest = later.rest;
            walk = (t, found.0, later.walk);
            spelled = split ∙ (ap (λ w. word i ++ w) (sym after ∙ later.spelled) ∙
                sym (append_assoc (word i) (spell word later.items) later.rest));
            answers = rw places at later.answers;
          }
      seen (stop b n) is again = record { items = []; end = s; rest = x; walk = refl; spelled = refl; answers = rw (is, add-zero) refl }
      seen (refuse k) is again = record { items = []; end = s; rest = x; walk = refl; spelled = refl; answers = rw (is, add-zero) refl }

  -- where items lead to an end, reading gives its answer
  pub answers_there : (items : List Item) (fuel : ℕ) (s t : State) (place : ℕ) (y : List Bool) (a : Answer) (n : ℕ)
      → Walk Step s items t → length (spell word items ++ y) < fuel → look t y ≡ stop a n
      → read_from word look spent fuel s place (spell word items ++ y) ≡ Ok (a, place + length (spell word items) + n)
  answers_there items fuel s t place y a n walk enough is =
      let there = arrives items fuel s t place y walk enough in
      there.2 ∙ last there.0 there.1
    where
      last : (left : ℕ) → length y < left
          → read_from word look spent left t (place + length (spell word items)) y ≡ Ok (a, place + length (spell word items) + n)
      last zero less = absurd (omega arith)
      last (suc left) less = rw is refl

  -- no front is longer than the place of a refusal
  pub longest : (items : List Item) (fuel : ℕ) (s t : State) (place p : ℕ) (y : List Bool) (k : Kind) → Walk Step s items t
      → length (spell word items ++ y) < fuel → read_from word look spent fuel s place (spell word items ++ y) ≡ Err (p, k)
      → place + length (spell word items) ≤ p
  longest items fuel s t place p y k walk enough e =
      let there = arrives items fuel s t place y walk enough in
      let stands = halts there.0 t (place + length (spell word items)) y there.1 in
      after (look stands.end stands.rest) (place + length (spell word items)) (length (spell word stands.items)) (rw (sym there.2 ∙
      e) at stands.answers)
    where
      after : (l : Look State Item Answer Kind) (q n : ℕ) → Answers l (q + n) (Err (p, k)) → q ≤ p
      after (go i t) q n h = absurd h
      after (stop a m) q n h = absurd (cc h)
      after (refuse j) q n h = let pair : ◌≡◌ {A = ℕ × Kind} (p, k) (q + n, j) = cc in let same : p ≡ q + n = ap (λ (r : ℕ
          × Kind). r.0) pair in omega arith

  -- of two fronts of the same bits one begins the other
  pub nested : (a b : List Item) (s t t' : State) (y z : List Bool) → Walk Step s a t → Walk Step s b t'
      → spell word a ++ y ≡ spell word b ++ z → Nested a b
  nested [] b s t t' y z walk walk' e = inl (b, refl)
  nested (i ∷ is) [] s t t' y z walk walk' e = inr (i ∷ is, refl)
  nested (i ∷ is) (j ∷ js) s t t' y z walk walk' e =
      let e' : word i ++ (spell word is ++ y) ≡ word j ++ (spell word js ++ z) = sym (append_assoc (word i) (spell word is) y) ∙ (e ∙
      append_assoc (word j) (spell word js) z) in
      let same : go i walk.0 ≡ go j walk'.0 = sym (finds.complete s i walk.0 (spell word is ++ y) walk.1) ∙ (ap (look s) e' ∙
      finds.complete s j walk'.0 (spell word js ++ z) walk'.1) in
      let item : i ≡ j = cc same in
      let state : walk.0 ≡ walk'.0 = cc same in
      let rest : spell word is ++ y ≡ spell word js ++ z = append_cancel_left (word j) (spell word is ++ y) (spell word js ++ z) (rw item at
      e') in
      elim (nested is js walk'.0 t t' y z (rw state at walk.2) walk'.2 rest) [
        | inl c ↦ inl (c.0, rw item (ap (λ l. j ∷ l) c.1))
        | inr c ↦ inr (c.0, rw item (ap (λ l. j ∷ l) c.1))
      ]

  answers_act : (l : Look State Item Answer Kind) (place : ℕ) (r : Result (Answer × ℕ) (ℕ × Kind)) (next : Item → State
      → Result (Answer × ℕ) (ℕ × Kind)) → Answers l place r → act l place next ≡ r
  answers_act (go i t) place r next h = absurd h
  answers_act (stop a n) place r next h = sym h
  answers_act (refuse k) place r next h = sym h

  -- enough fuel is enough
  pub fuels : (f g : ℕ) (s : State) (place : ℕ) (x : List Bool) → length x < f → length x < g
      → read_from word look spent f s place x ≡ read_from word look spent g s place x
  fuels f g s place x a b =
      let h = halts f s place x a in
      let less : length (spell word h.items ++ h.rest) < g = omega (arith, ap length h.spelled) in
      let there = arrives h.items g s h.end place h.rest h.walk less in
      sym (ap (read_from word look spent g s place) h.spelled ∙ (there.2 ∙
      last there.0 (omega (arith, there.1)) h.end h.rest (place + length (spell word h.items)) (read_from word look spent f s place x)
      h.answers))
    where
      last : (left : ℕ) → 0 < left → (t : State) (z : List Bool) (p : ℕ) (r : Result (Answer × ℕ) (ℕ × Kind)) → Answers (look t z) p r
          → read_from word look spent left t p z ≡ r
      last zero less t z p r h = absurd (omega arith)
      last (suc left) less t z p r h = answers_act (look t z) p r (λ i t'. read_from word look spent left t' (p + length (word i)) (drop
          (length (word i)) z)) h

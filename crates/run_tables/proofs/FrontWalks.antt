-- Walks along items, and reading with as much fuel as the bits need.
use Rattle.std.proofs.Common.{ℕ, zero, suc, ◌≡◌, ◌+◌, ◌<◌, ◌≤◌, Bool, List, [], ◌∷◌, ◌++◌, length, drop, refl, ap, sym, ◌∙◌, arith}
use Rattle.std.proofs.Common.{length-append, append_assoc}
use Rattle.std.specs.Prelude.{Ok, Err}
use Rattle.std.proofs.lemmas.List.{append-nil}
use Rattle.run_tables.specs.Fronts.{Look, spell, Walk, IsFront, act, read_from, Finds, Answers, Nested}
use Rattle.run_tables.specs.Fronts.Look.{go, stop, refuse}
use Rattle.run_tables.specs.Longest.{IsLongest}
use Rattle.run_tables.specs.RowFronts.{moved}
use Rattle.run_tables.proofs.FrontLaws.{one_read, arrives, halts, longest, nested, fuels}

-- items that lead from a state to another, by their code words
pub record Way {State Item : Type 0} (word : Item → List Bool) (Step : State → Item → State
    → Type 0) (s t : State) (bits : List Bool) : Type 0 where
  pub items : List Item
  pub walk : Walk Step s items t
  pub spelled : spell word items ≡ bits

module _ {State Item : Type 0} (word : Item → List Bool) (Step : State → Item → State → Type 0) where
  pub walk_on : (a b : List Item) (s m t : State) → Walk Step s a m → Walk Step m b t → Walk Step s (a ++ b) t
  walk_on [] b s m t one two = rw one two
  walk_on (i ∷ a) b s m t one two = (one.0, one.1, walk_on a b one.0 m t one.2 two)

  pub spell-append : (a b : List Item) → spell word (a ++ b) ≡ spell word a ++ spell word b
  spell-append [] b = refl
  spell-append (i ∷ a) b = ap (λ l. word i ++ l) (spell-append a b) ∙ sym (append_assoc (word i) (spell word a) (spell word b))

  pub way_none : (s : State) → Way word Step s s []
  way_none s = record { items = []; walk = refl; spelled = refl }

  pub way_on : (s m t : State) (a b : List Bool) → Way word Step s m a → Way word Step m t b → Way word Step s t (a ++ b)
  way_on s m t a b one two = record {
    items = one.items ++ two.items;
    walk = walk_on one.items two.items s m t one.walk two.walk;
    spelled = spell-append one.items two.items ∙ (ap (λ l. l ++ spell word two.items) one.spelled ∙ ap (λ l. a ++ l) two.spelled);
  }

  pub way_by : (s t : State) (i : Item) → Step s i t → Way word Step s t (word i)
  way_by s t i step = record { items = i ∷ []; walk = (t, step, refl); spelled = append-nil (word i) }

-- what a reading that stops says of the end
pub stops : {State Item Answer Kind : Type 0} (l : Look State Item Answer Kind) (place used : ℕ) (a : Answer)
    → Answers l place (Ok (a, used)) → (n : ℕ) × (l ≡ stop a n) × (used ≡ place + n)
stops (go i t) place used a h = absurd h
stops {Answer} (stop b n) place used a h =
    let pair : ◌≡◌ {A = Answer × ℕ} (a, used) (b, place + n) = cc in
    (n, ap (λ (p : Answer × ℕ). stop p.0 n) (sym pair), ap (λ (p : Answer × ℕ). p.1) pair)
stops (refuse k) place used a h = absurd (cc h)

pub refuses : {State Item Answer Kind : Type 0} (l : Look State Item Answer Kind) (place p : ℕ) (k : Kind)
    → Answers l place (Err (p, k)) → (l ≡ refuse k) × (p ≡ place)
refuses (go i t) place p k h = absurd h
refuses (stop a n) place p k h = absurd (cc h)
refuses {Kind} (refuse j) place p k h =
    let pair : ◌≡◌ {A = ℕ × Kind} (p, k) (place, j) = cc in
    (ap (λ (q : ℕ × Kind). refuse q.1) (sym pair), ap (λ (q : ℕ × Kind). q.0) pair)

module _ {State Item Answer Kind : Type 0} (word : Item → List Bool) (Step : State → Item → State → Type 0) (look : State → List Bool
    → Look State Item Answer Kind) (spent : Kind) (finds : Finds word Step look) where
  -- one item is read
  pub read_go : (s t : State) (i : Item) (place : ℕ) (rest : List Bool) → Step s i t
      → read_from word look spent (suc (length (word i ++ rest))) s place (word i ++ rest) ≡ read_from word look spent (suc (length rest)) t
      (place + length (word i)) rest
  read_go s t i place rest step =
      let more : 0 < length (word i) = finds.positive s i t step in
      let less : length rest < length (word i ++ rest) = omega (arith, length-append (word i) rest) in
      one_read word Step look spent finds (length (word i ++ rest)) s t i place rest step ∙
      fuels word Step look spent finds (length (word i ++ rest)) (suc (length rest)) t (place + length (word i)) rest less (omega arith)

  -- items are read
  pub read_walk : (items : List Item) (s t : State) (place : ℕ) (rest : List Bool) → Walk Step s items t
      → read_from word look spent (suc (length (spell word items ++ rest))) s place (spell word items ++ rest) ≡ read_from word look spent
      (suc (length rest)) t (place + length (spell word items)) rest
  read_walk items s t place rest walk =
      let there = arrives word Step look spent finds items (suc (length (spell word items ++ rest))) s t place rest walk (omega arith) in
      there.2 ∙ fuels word Step look spent finds there.0 (suc (length rest)) t (place + length (spell word items)) rest there.1 (omega
      arith)

  -- where reading refuses, the longest front ends
  pub refused_at : (s : State) (x : List Bool) (place : ℕ) (kind : Kind)
      → read_from word look spent (suc (length x)) s 0 x ≡ Err (place, kind) → IsLongest word Step look s x place kind
  refused_at s x place kind e =
      let h = halts word Step look spent finds (suc (length x)) s 0 x (omega arith) in
      let answer = refuses (look h.end h.rest) (0 + length (spell word h.items)) place kind (rw e at h.answers) in
      record {
        items = h.items;
        front = record { end = h.end; rest = h.rest; walk = h.walk; spelled = h.spelled };
        place_is = omega (arith, answer.1);
        kind_is = answer.0;
        longest = λ others front.
            let less : length (spell word others ++ front.rest) < suc (length x) = omega (arith, ap length front.spelled) in
            let here : 0 + length (spell word others) ≤ place = longest word Step look spent finds others (suc (length x)) s front.end 0
            place front.rest kind front.walk less (ap (λ z. read_from word look spent (suc (length x)) s 0 z) (sym front.spelled) ∙
            e) in
            omega arith;
      }

  -- of two fronts one begins the other
  pub fronts_nested : (s : State) (x : List Bool) (a b : List Item) → IsFront word Step s x a → IsFront word Step s x b → Nested a b
  fronts_nested s x a b one two = nested word Step look spent finds a b s one.end two.end one.rest two.rest one.walk two.walk (sym
      one.spelled ∙ two.spelled)

module _ {State Item Answer Kind : Type 0} (word : Item → List Bool) (look : State → List Bool
    → Look State Item Answer Kind) (spent : Kind) where
  -- what is seen decides
  pub read_seen : (s : State) (place : ℕ) (x : List Bool) (l : Look State Item Answer Kind) → look s x ≡ l
      → read_from word look spent (suc (length x)) s place x ≡ act l place (λ (i : Item) (t : State). read_from word look spent (length x) t
      (place + length (word i)) (drop (length (word i)) x))
  read_seen s place x l e = ap (λ (l : Look State Item Answer Kind). act l place (λ (i : Item) (t : State). read_from word look spent
      (length x) t (place + length (word i)) (drop (length (word i)) x))) e

  -- states that see the same read the same
  pub read_same : (s t : State) (place : ℕ) (x : List Bool) → look s x ≡ look t x
      → read_from word look spent (suc (length x)) s place x ≡ read_from word look spent (suc (length x)) t place x
  read_same s t place x e = read_seen s place x (look t x) e

  -- reading from a place further on
  pub read_moved : (fuel : ℕ) (s : State) (far place : ℕ) (x : List Bool)
      → read_from word look spent fuel s (far + place) x ≡ moved far (read_from word look spent fuel s place x)
  read_moved zero s far place x = refl
  read_moved (suc fuel) s far place x = seen (look s x) (λ t p z. read_moved fuel t far p z)
    where
      seen : (l : Look State Item Answer Kind) → ((t : State) (p : ℕ) (z : List Bool)
          → read_from word look spent fuel t (far + p) z ≡ moved far (read_from word look spent fuel t p z))
          → act l (far + place) (λ (i : Item) (t : State). read_from word look spent fuel t (far + place + length (word i)) (drop (length
          (word i)) x)) ≡ moved far (act l place (λ (i : Item) (t : State). read_from word look spent fuel t (place + length (word i)) (drop
          (length (word i)) x)))
      seen (go i t) again =
          let same : far + place + length (word i) ≡ far + (place + length (word i)) = omega arith in
          ap (λ p. read_from word look spent fuel t p (drop (length (word i)) x)) same ∙
          again t (place + length (word i)) (drop (length (word i)) x)
      seen (stop a n) again =
          let same : far + place + n ≡ far + (place + n) = omega arith in
          ap (λ (p : ℕ). Ok (a, p)) same
      seen (refuse k) again = refl

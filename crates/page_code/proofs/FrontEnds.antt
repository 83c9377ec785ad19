-- Where fronts of bits end, from one premise: looking finds exactly the items that may come.
use Rattle.std.proofs.Common.{ℕ, ◌≡◌, ◌+◌, ◌≤◌, List, [], ◌∷◌, ◌++◌, Bool, length, drop, inl, inr, refl, ap, sym, ◌∙◌, subst, arith}
use Rattle.std.proofs.Common.{length-append, append_assoc}
use Rattle.std.proofs.lemmas.List.{append_cancel_left, drop_at, drop-drop}
use Rattle.run_tables.specs.Fronts.{Look, spell, Walk, Finds}
use Rattle.run_tables.specs.Fronts.Look.{go}
use Rattle.run_tables.proofs.FrontLaws.{nested}
use Rattle.run_tables.proofs.FrontWalks.{walk_on, spell-append}
use Rattle.page_code.specs.RowsSoFar.{LeadsTo}

module _ {State Item Answer Kind : Type 0} (word : Item → List Bool) (Step : State → Item → State → Type 0) (look : State → List Bool
    → Look State Item Answer Kind) (spent : Kind) (finds : Finds word Step look) where
  -- an item leads to one state alone
  one_step : (s t u : State) (i : Item) → Step s i t → Step s i u → t ≡ u
  one_step s t u i one two =
      let same : go i t ≡ go i u = sym (finds.complete s i t [] one) ∙ finds.complete s i u [] two in
      cc

  -- a walk goes on from where its beginning leads
  pub walk_rest : (a c : List Item) (s m t : State) → Walk Step s (a ++ c) t → Walk Step s a m → Walk Step m c t
  walk_rest [] c s m t whole front = subst (λ (u : State). Walk Step u c t) front whole
  walk_rest (i ∷ a) c s m t whole front =
      let same : whole.0 ≡ front.0 = one_step s whole.0 front.0 i whole.1 front.1 in
      walk_rest a c front.0 m t (subst (λ (u : State). Walk Step u (a ++ c) t) same whole.2) front.2

  -- where no item goes on, every other front goes on to there
  pub goes_on : (items others : List Item) (s t u : State) (rest more : List Bool) → Walk Step s items t
      → ((i : Item) (v : State) → look t rest ≡ go i v → ⊥) → Walk Step s others u
      → spell word items ++ rest ≡ spell word others ++ more → (c : List Item) × Walk Step u c t
  goes_on items others s t u rest more walk stuck walk' e = elim (nested word Step look spent finds others items s u t more rest walk' walk
      (sym
      e)) [
        | inl c ↦ (c.0, walk_rest others c.0 s u t (rw (← c.1) walk) walk')
        | inr c ↦ beyond c.0 c.1
      ]
    where
      beyond : (c : List Item) → others ≡ items ++ c → (d : List Item) × Walk Step u d t
      beyond [] is = ([], let there : Walk Step t [] u = walk_rest items [] s t u (rw (← is) walk') walk in sym there)
      beyond (i ∷ c) is =
          let there : Walk Step t (i ∷ c) u = walk_rest items (i ∷ c) s t u (rw (← is) walk') walk in
          let words : spell word others ≡ spell word items ++ spell word (i ∷ c) = ap (spell word) is ∙ spell-append word Step items (i ∷ c)
          in
          let split : spell word items ++ rest ≡ spell word items ++ (spell word (i ∷ c) ++ more) = e ∙ (ap (λ l. l ++ more) words ∙
          append_assoc (spell word items) (spell word (i ∷ c)) more) in
          let left : rest ≡ word i ++ (spell word c ++ more) = append_cancel_left (spell word items) rest (spell word (i ∷ c) ++ more) split
          ∙ append_assoc (word i) (spell word c) more in
          absurd (stuck i there.0 (ap (look t) left ∙ finds.complete t i there.0 (spell word c ++ more) there.1))

module _ {State Item : Type 0} (word : Item → List Bool) (Step : State → Item → State → Type 0) (from to : State) (bits : List
    Bool) (place : ℕ) (leads : LeadsTo word Step from to bits place) where
  pub leads_within : place ≤ length bits
  leads_within = omega (
    arith,
    leads.place_is,
    ap length leads.spelled,
    length-append (spell word leads.items) leads.rest,
  )

  pub leads_rest : drop place bits ≡ leads.rest
  leads_rest = ap (λ n. drop n bits) leads.place_is ∙ (ap (drop (length (spell word leads.items))) leads.spelled ∙
      drop_at (spell word leads.items) leads.rest (length (spell word leads.items)) refl)

  -- more items lead on
  pub leads_on : (t : State) (items : List Item) (rest : List Bool) (after : ℕ) → Walk Step to items t
      → drop place bits ≡ spell word items ++ rest → after ≡ place + length (spell word items) → LeadsTo word Step from t bits after
  leads_on t items rest after walk split is = record {
    items = leads.items ++ items;
    rest = rest;
    walk = walk_on word Step leads.items items from to t leads.walk walk;
    spelled = leads.spelled ∙ (ap (λ l. spell word leads.items ++ l) (sym leads_rest ∙ split) ∙
        (sym (append_assoc (spell word leads.items) (spell word items) rest) ∙
        ap (λ l. l ++ rest) (sym (spell-append word Step leads.items items))));
    place_is = omega (
      arith,
      is,
      leads.place_is,
      ap length (spell-append word Step leads.items items),
      length-append (spell word leads.items) (spell word items),
    );
  }

-- the same bits with more after them
pub leads_more : {State Item : Type 0} (word : Item → List Bool) (Step : State → Item → State → Type 0) (from to : State) (bits more : List
    Bool) (place : ℕ) → LeadsTo word Step from to bits place → LeadsTo word Step from to (bits ++ more) place
leads_more word Step from to bits more place leads = record {
  items = leads.items;
  rest = leads.rest ++ more;
  walk = leads.walk;
  spelled = ap (λ l. l ++ more) leads.spelled ∙ append_assoc (spell word leads.items) leads.rest more;
  place_is = leads.place_is;
}

-- after more bits
pub drop_on : (bits front rest : List Bool) (place after : ℕ) → drop place bits ≡ front ++ rest → after ≡ place + length front
    → drop after bits ≡ rest
drop_on bits front rest place after split is = ap (λ n. drop n bits) is ∙ (sym (drop-drop (length front) place bits) ∙
    (ap (drop (length front)) split ∙ drop_at front rest (length front) refl))

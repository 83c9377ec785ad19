-- The gaps, their contents and counts, one bit more.
use Rattle.std.proofs.Common.{◌≡◌, ℕ, ◌+◌, ◌-◌, ◌<◌, ◌≤◌, Bool, true, false, ◌&&◌, ◌||◌, List, [], ◌∷◌, ◌++◌, length, take, drop, map, cond}
use Rattle.std.proofs.Common.{get_or, min, refl, ap, sym, ◌∙◌, arith, inl, inr, Option, Some, None, nat_eq, nat_lt}
use Rattle.std.specs.Prelude.{is_some}
use Rattle.std.specs.List.{filter, count_by}
use Rattle.std.proofs.lemmas.List.{drop-append-le, take-append-le, length-append, append-nil, append_assoc, drop_all, length-take-le}
use Rattle.std.proofs.lemmas.List.{take_more, get_or-drop, map-append}
use Rattle.std.proofs.lemmas.List.Elements.{filter-append}
use Rattle.std.proofs.lemmas.List.Sums.{sum_by-append}
use Rattle.std.proofs.lemmas.Bool.{cases_lt, ne_eqb, eq-eqb, false≢true}
use Rattle.hdlc.specs.Flags.{flags, neighbours, between, gaps}
use Rattle.hdlc.specs.Laws.{GoodContentsStay}
use Rattle.hdlc.specs.Gaps.{good, count_of, class_of, is_class, content}
use Rattle.hdlc.specs.declared.counts.Class.{Class}
use Rattle.hdlc.specs.declared.counts.Class.TheVariants.{Good}
use Rattle.hdlc.specs.OpenGap.{recent, last_of, last_flag, unclosed, unclosed_after, settled, settled_after, held, held_after, begun}
use Rattle.hdlc.specs.OpenGap.{at_flag}
use Rattle.hdlc.proofs.Flags.{flags-more, recent_long, recent_short, last_flag_within, neighbours-push, last_of-push, between-same, closing}

pub last_flag-more : (bits : List Bool) (b : Bool) → last_flag (bits ++ b ∷ []) ≡ cond (at_flag (bits ++ b ∷ [])) (Some (length bits - 7))
    (last_flag bits)
last_flag-more bits b = ap last_of (flags-more bits b) ∙ go (at_flag (bits ++ b ∷ []))
  where
    go : (f : Bool) → last_of (flags bits ++ cond f ((length bits - 7) ∷ []) []) ≡ cond f (Some (length bits - 7)) (last_flag bits)
    go true = last_of-push (flags bits) (length bits - 7)
    go false = ap last_of (append-nil (flags bits))

pub begun-more : (bits : List Bool) (b : Bool) → begun (bits ++ b ∷ []) ≡ (at_flag (bits ++ b ∷ []) || begun bits)
begun-more bits b = ap is_some (last_flag-more bits b) ∙ go (at_flag (bits ++ b ∷ []))
  where
    go : (f : Bool) → is_some (cond f (Some (length bits - 7)) (last_flag bits)) ≡ (f || begun bits)
    go true = refl
    go false = refl

-- what a register of eight bits lets go joins the gap
pub settled_is : (bits : List Bool) → settled bits ≡ unclosed bits ++ cond (nat_eq (held bits) 8) (get_or (recent true bits) 0 true ∷ []) []
settled_is bits = go (last_flag bits) refl
  where
    some : (p : ℕ) → p + 8 ≤ length bits → drop (p + 8) (take (length bits - 7) bits) ≡ drop (p + 8) (take (length bits - 8) bits) ++ cond
        (nat_eq (min 8 (length bits - (p + 8))) 8) (get_or (recent true bits) 0 true ∷ []) []
    some p within = elim (cases_lt (length bits) (p + 16)) [
      | inl early ↦
          let le7 : length bits - 7 ≤ length bits = omega arith in
          let le8 : length bits - 8 ≤ length bits = omega arith in
          let one : length (take (length bits - 7) bits) ≤ p + 8 = rw length-take-le (omega arith) in
          let two : length (take (length bits - 8) bits) ≤ p + 8 = rw length-take-le (omega arith) in
          let few : nat_eq (min 8 (length bits - (p + 8))) 8 ≡ false = ne_eqb _ _ (λ e. omega arith) in
          rw (few, drop_all (p + 8) (take (length bits - 7) bits) one, drop_all (p + 8) (take (length bits - 8) bits) two) refl
      | inr late ↦
          let next : length bits - 7 ≡ length bits - 8 + 1 = omega arith in
          let at : length bits - 8 < length bits = omega arith in
          let size : length (take (length bits - 8) bits) ≡ length bits - 8 = length-take-le (length bits - 8) bits (omega arith) in
          let room : p + 8 ≤ length (take (length bits - 8) bits) = omega arith in
          let full : nat_eq (min 8 (length bits - (p + 8))) 8 ≡ true = eq-eqb _ _ (omega arith) in
          let plain : length bits - 8 + 0 ≡ length bits - 8 = omega arith in
          let oldest : get_or (recent true bits) 0 true ≡ get_or bits (length bits - 8) true =
          ap (λ r. get_or r 0 true) (recent_long true bits (omega arith))
          ∙ (get_or-drop (length bits - 8) bits 0 true ∙ ap (λ k. get_or bits k true) plain) in
          rw (full, oldest, next, take_more bits (length bits - 8) true at)
          (drop-append-le (p + 8) (take (length bits - 8) bits) (get_or bits (length bits - 8) true ∷ []) room)
    ]

    go : (o : Option ℕ) → last_flag bits ≡ o → settled_after bits o ≡ unclosed_after bits o ++ cond (nat_eq (held_after bits o) 8)
        (get_or (recent true bits) 0 true ∷ []) []
    go None e = refl
    go (Some p) e = some p (last_flag_within bits p e)

pub unclosed-more : (bits : List Bool) (b : Bool) → unclosed (bits ++ b ∷ []) ≡ cond (at_flag (bits ++ b ∷ [])) [] (settled bits)
unclosed-more bits b = ap (unclosed_after (bits ++ b ∷ [])) (last_flag-more bits b) ∙ go (at_flag (bits ++ b ∷ []))
  where
    size : length (bits ++ b ∷ []) ≡ length bits + 1
    size = length-append bits (b ∷ [])

    less : length (bits ++ b ∷ []) - 8 ≡ length bits - 7
    less = let e : length (bits ++ b ∷ []) ≡ length bits + 1 = size in omega arith

    same : take (length (bits ++ b ∷ []) - 8) (bits ++ b ∷ []) ≡ take (length bits - 7) bits
    same = ap (λ n. take n (bits ++ b ∷ [])) less ∙ take-append-le (length bits - 7) bits (b ∷ []) (omega arith)

    kept : (o : Option ℕ) → unclosed_after (bits ++ b ∷ []) o ≡ settled_after bits o
    kept None = refl
    kept (Some p) = ap (drop (p + 8)) same

    go : (f : Bool) → unclosed_after (bits ++ b ∷ []) (cond f (Some (length bits - 7)) (last_flag bits)) ≡ cond f [] (settled bits)
    go true =
        let le7 : length bits - 7 ≤ length bits = omega arith in
        let few : length (take (length bits - 7) bits) ≤ length bits - 7 + 8 = rw length-take-le (omega arith) in
        ap (drop (length bits - 7 + 8)) same ∙ drop_all (length bits - 7 + 8) (take (length bits - 7) bits) few
    go false = kept (last_flag bits)

pub at_flag_long : (bits : List Bool) → at_flag bits ≡ true → 8 ≤ length bits
at_flag_long bits e = elim (cases_lt (length bits) 8) [
  | inl short ↦ absurd (false≢true (sym (recent_short bits short) ∙ e))
  | inr long ↦ long
]

pub held-more : (bits : List Bool) (b : Bool)
    → held (bits ++ b ∷ []) ≡ cond (at_flag (bits ++ b ∷ [])) 0 (cond (begun bits) (min 8 (held bits + 1)) 0)
held-more bits b = ap (held_after (bits ++ b ∷ [])) (last_flag-more bits b) ∙ go (at_flag (bits ++ b ∷ [])) refl
  where
    size : length (bits ++ b ∷ []) ≡ length bits + 1
    size = length-append bits (b ∷ [])

    kept : (o : Option ℕ) → last_flag bits ≡ o → held_after (bits ++ b ∷ []) o ≡ cond (is_some o) (min 8 (held_after bits o + 1)) 0
    kept None e = refl
    kept (Some p) e =
        let within : p + 8 ≤ length bits = last_flag_within bits p e in
        rw size (let m : min 8 (length bits + 1 - (p + 8)) ≡ min 8 (min 8 (length bits - (p + 8)) + 1) = omega arith in m)

    go : (f : Bool) → at_flag (bits ++ b ∷ []) ≡ f → held_after (bits ++ b ∷ []) (cond f (Some (length bits - 7)) (last_flag bits))
        ≡ cond f 0 (cond (begun bits) (min 8 (held bits + 1)) 0)
    go true e =
        let long : 8 ≤ length (bits ++ b ∷ []) = at_flag_long (bits ++ b ∷ []) e in
        let is : length (bits ++ b ∷ []) ≡ length bits + 1 = size in
        omega arith
    go false e = kept (last_flag bits) refl

-- one bit more: a gap more where it ends a flag and the gap has eight bits or more
pub gaps-more : (bits : List Bool) (b : Bool)
    → gaps (bits ++ b ∷ []) ≡ gaps bits ++ cond (at_flag (bits ++ b ∷ []) && nat_lt 7 (length (settled bits))) (settled bits ∷ []) []
unfolding gaps
gaps-more bits b = ap (λ ps. filter counted (map (between (bits ++ b ∷ [])) (neighbours ps))) (flags-more bits b)
    ∙ go (at_flag (bits ++ b ∷ []))
  where
    counted : List Bool → Bool
    counted gap = nat_lt 7 (length gap)

    end : ℕ
    end = length bits - 7

    old : List (List Bool)
    old = map (between bits) (neighbours (flags bits))

    new : (o : Option ℕ) → filter counted (map (between (bits ++ b ∷ [])) (closing o end)) ≡ cond (nat_lt 7 (length (settled_after bits o)))
        (settled_after bits o ∷ []) []
    new None = refl
    new (Some p) =
        let same : take end (bits ++ b ∷ []) ≡ take end bits = take-append-le end bits (b ∷ []) (omega arith) in
        ap (λ g. filter counted (drop (p + 8) g ∷ [])) same

    go : (f : Bool) → filter counted (map (between (bits ++ b ∷ [])) (neighbours (flags bits ++ cond f (end ∷ []) []))) ≡ filter counted old
        ++ cond (f && nat_lt 7 (length (settled bits))) (settled bits ∷ []) []
    go true =
        ap (λ ps. filter counted (map (between (bits ++ b ∷ [])) ps)) (neighbours-push (flags bits) end) ∙
        (ap (filter counted) (map-append (between (bits ++ b ∷ [])) (neighbours (flags bits)) (closing (last_flag bits) end)) ∙
        (ap (λ gs. filter counted (gs ++ map (between (bits ++ b ∷ [])) (closing (last_flag bits) end))) (between-same bits (b ∷ [])) ∙
        (filter-append counted old (map (between (bits ++ b ∷ [])) (closing (last_flag bits) end)) ∙
        ap (λ gs. filter counted old ++ gs) (new (last_flag bits)))))
    go false =
        ap (λ ps. filter counted (map (between (bits ++ b ∷ [])) (neighbours ps))) (append-nil (flags bits)) ∙
        (ap (filter counted) (between-same bits (b ∷ [])) ∙ sym (append-nil (filter counted old)))

-- a gap is counted with one bit more
abbrev pub closes : List Bool → Bool → Bool
closes bits b = at_flag (bits ++ b ∷ []) && nat_lt 7 (length (settled bits))

pub good-more : (bits : List Bool) (b : Bool)
    → good (bits ++ b ∷ []) ≡ good bits ++ cond (closes bits b && is_class Good (class_of (settled bits))) (content (settled bits) ∷ []) []
good-more bits b = ap (λ gs. map content (filter fine gs)) (gaps-more bits b) ∙ go (closes bits b)
  where
    fine : List Bool → Bool
    fine gap = is_class Good (class_of gap)

    one : (f : Bool) → map content (cond f (settled bits ∷ []) []) ≡ cond f (content (settled bits) ∷ []) []
    one true = refl
    one false = refl

    go : (f : Bool) → map content (filter fine (gaps bits ++ cond f (settled bits ∷ []) [])) ≡ good bits ++ cond (f && fine (settled bits))
        (content (settled bits) ∷ []) []
    go true =
        ap (map content) (filter-append fine (gaps bits) (settled bits ∷ [])) ∙
        (map-append content (filter fine (gaps bits)) (cond (fine (settled bits)) (settled bits ∷ []) []) ∙
        ap (λ gs. good bits ++ gs) (one (fine (settled bits))))
    go false = ap (λ gs. map content (filter fine gs)) (append-nil (gaps bits)) ∙ sym (append-nil (good bits))

pub good_stays : GoodContentsStay
good_stays bits [] = ([], ap good (append-nil bits) ∙ sym (append-nil (good bits)))
good_stays bits (b ∷ more) =
    let rest = good_stays (bits ++ b ∷ []) more in (
      _,
      ap good (sym (append_assoc bits (b ∷ []) more))
          ∙ (rest.1 ∙ (ap (λ xs. xs ++ rest.0) (good-more bits b) ∙ append_assoc (good bits) _ rest.0)),
    )

pub count-more : (class : Class) (bits : List Bool) (b : Bool) → count_of class (bits ++ b ∷ []) ≡ count_of class bits + cond
    (closes bits b && is_class class (class_of (settled bits))) 1 0
count-more class bits b = ap (count_by fits) (gaps-more bits b)
    ∙ (sum_by-append (λ gap. cond (fits gap) 1 0) (gaps bits) (cond (closes bits b) (settled bits ∷ []) [])
    ∙ ap (λ n. count_of class bits + n) (go (closes bits b)))
  where
    fits : List Bool → Bool
    fits gap = is_class class (class_of gap)

    go : (f : Bool) → count_by fits (cond f (settled bits ∷ []) []) ≡ cond (f && fits (settled bits)) 1 0
    go true = omega arith
    go false = refl

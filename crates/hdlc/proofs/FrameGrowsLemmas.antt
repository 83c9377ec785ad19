-- After a flag all else is forgotten; frames after idle bits.
use Rattle.std.proofs.Common.{◌≡◌, ℕ, zero, suc, ◌+◌, ◌-◌, ◌≤◌, Bool, true, false, ◌&&◌, ◌||◌, List, [], ◌∷◌, ◌++◌, length, drop, map, cond}
use Rattle.std.proofs.Common.{min, get_or, refl, ap, sym, ◌∙◌, arith, inl, inr, nat_eq, nat_lt, append_assoc, replicate}
use Rattle.std.specs.List.{filter}
use Rattle.std.proofs.lemmas.List.{append-nil, length-append, map-append, drop_at}
use Rattle.std.proofs.lemmas.List.Elements.{filter-append}
use Rattle.hdlc.specs.declared.counts.Class.TheVariants.{Good}
use Rattle.run_tables.specs.Texts.{begins}
use Rattle.hdlc.specs.Flags.{flag, flags, gaps}
use Rattle.hdlc.specs.Gaps.{good, class_of, is_class, content}
use Rattle.hdlc.specs.Frames.{IsFrame, EndsIdle, IsReady}
use Rattle.hdlc.specs.Laws.{FrameGrows}
use Rattle.hdlc.specs.OpenGap.{recent, begun, held, unclosed, settled, at_flag}
use Rattle.hdlc.proofs.Flags.{recent-more, recent_long}
use Rattle.hdlc.proofs.Gaps.{settled_is, unclosed-more, held-more, begun-more, gaps-more}

-- bits after which the same is kept
record SameState (a b : List Bool) : Type 0 where
  recent : recent true a ≡ recent true b
  begun : begun a ≡ begun b
  held : held a ≡ held b
  unclosed : unclosed a ≡ unclosed b

settled_same : (a b : List Bool) → SameState a b → settled a ≡ settled b
settled_same a b s =
    settled_is a ∙ (ap (λ u. u ++ cond (nat_eq (held a) 8) (get_or (recent true a) 0 true ∷ []) []) s.unclosed ∙
    (ap (λ n. unclosed b ++ cond (nat_eq n 8) (get_or (recent true a) 0 true ∷ []) []) s.held ∙
    (ap (λ r. unclosed b ++ cond (nat_eq (held b) 8) (get_or r 0 true ∷ []) []) s.recent ∙ sym (settled_is b))))

recent_same : (a b : List Bool) (x : Bool) → SameState a b → recent true (a ++ x ∷ []) ≡ recent true (b ++ x ∷ [])
recent_same a b x s = recent-more true a x ∙ (ap (λ r. drop 1 r ++ x ∷ []) s.recent ∙ sym (recent-more true b x))

flag_same : (a b : List Bool) (x : Bool) → SameState a b → at_flag (a ++ x ∷ []) ≡ at_flag (b ++ x ∷ [])
flag_same a b x s = ap (begins flag) (recent_same a b x s)

same_more : (a b : List Bool) (x : Bool) → SameState a b → SameState (a ++ x ∷ []) (b ++ x ∷ [])
same_more a b x s = record {
  recent = recent_same a b x s;
  begun = begun-more a x
      ∙ (ap (λ f. f || begun a) (flag_same a b x s) ∙ (ap (λ y. at_flag (b ++ x ∷ []) || y) s.begun ∙ sym (begun-more b x)));
  held =
      held-more a x ∙ (ap (λ f. cond f 0 (cond (begun a) (min 8 (held a + 1)) 0)) (flag_same a b x s) ∙
      (ap (λ y. cond (at_flag (b ++ x ∷ [])) 0 (cond y (min 8 (held a + 1)) 0)) s.begun ∙
      (ap (λ n. cond (at_flag (b ++ x ∷ [])) 0 (cond (begun b) (min 8 (n + 1)) 0)) s.held ∙ sym (held-more b x))));
  unclosed =
      unclosed-more a x
      ∙ (ap (λ f. cond f [] (settled a)) (flag_same a b x s) ∙ (ap (λ g. cond (at_flag (b ++ x ∷ [])) [] g) (settled_same a b s)
      ∙ sym (unclosed-more b x)));
}

-- more bits add the same gaps after both
joined : (ys a b : List Bool) → SameState a b → (more : List (List Bool)) × (gaps (a ++ ys) ≡ gaps a ++ more)
    × (gaps (b ++ ys) ≡ gaps b ++ more)
joined [] a b s = ([], ap gaps (append-nil a) ∙ sym (append-nil (gaps a)), ap gaps (append-nil b) ∙ sym (append-nil (gaps b)))
joined (y ∷ ys) a b s =
    let rest : (more : List (List Bool)) × (gaps ((a ++ y ∷ []) ++ ys) ≡ gaps (a ++ y ∷ []) ++ more)
    × (gaps ((b ++ y ∷ []) ++ ys) ≡ gaps (b ++ y ∷ []) ++ more) = joined ys (a ++ y ∷ []) (b ++ y ∷ []) (same_more a b y s) in
    let one : List (List Bool) = cond (at_flag (b ++ y ∷ []) && nat_lt 7 (length (settled b))) (settled b ∷ []) [] in
    let here : gaps (a ++ y ∷ []) ≡ gaps a ++ one =
    gaps-more a y ∙ (ap (λ f. gaps a ++ cond (f && nat_lt 7 (length (settled a))) (settled a ∷ []) []) (flag_same a b y s) ∙
    ap (λ g. gaps a ++ cond (at_flag (b ++ y ∷ []) && nat_lt 7 (length g)) (g ∷ []) []) (settled_same a b s)) in (
      one ++ rest.0,
      ap gaps (sym (append_assoc a (y ∷ []) ys)) ∙ (rest.1 ∙ (ap (λ g. g ++ rest.0) here ∙ append_assoc (gaps a) one rest.0)),
      ap gaps (sym (append_assoc b (y ∷ []) ys)) ∙ (rest.2 ∙ (ap (λ g. g ++ rest.0) (gaps-more b y) ∙ append_assoc (gaps b) one rest.0)),
    )

abbrev opening : List Bool
opening = false ∷ true ∷ true ∷ true ∷ true ∷ true ∷ true ∷ []

pub recent_flag : (xs : List Bool) → recent true (xs ++ flag) ≡ flag
recent_flag xs =
    let size : length (xs ++ flag) ≡ length xs + 8 = length-append xs flag in
    let at : length (xs ++ flag) - 8 ≡ length xs = omega arith in
    recent_long true (xs ++ flag) (omega arith) ∙ (ap (λ n. drop n (xs ++ flag)) at ∙ drop_at xs flag (length xs) refl)

ends_in_zero : (xs : List Bool) → (xs ++ opening) ++ false ∷ [] ≡ xs ++ flag
ends_in_zero xs = append_assoc xs opening (false ∷ [])

-- after a flag all else is forgotten
after_flag : (xs : List Bool) → (begun (xs ++ flag) ≡ true) × (held (xs ++ flag) ≡ 0) × (unclosed (xs ++ flag) ≡ [])
after_flag xs = (
  ap begun (sym (ends_in_zero xs)) ∙ (begun-more (xs ++ opening) false ∙ (rw yes_ refl)),
  ap held (sym (ends_in_zero xs)) ∙ (held-more (xs ++ opening) false ∙ (rw yes_ refl)),
  ap unclosed (sym (ends_in_zero xs)) ∙ (unclosed-more (xs ++ opening) false ∙ (rw yes_ refl)),
)
  where
    yes_ : at_flag ((xs ++ opening) ++ false ∷ []) ≡ true
    yes_ = ap at_flag (ends_in_zero xs) ∙ ap (begins flag) (recent_flag xs)

same_after_flag : (xs ys : List Bool) → SameState (xs ++ flag) (ys ++ flag)
same_after_flag xs ys =
    let a = after_flag xs in
    let b = after_flag ys in
    record { recent = recent_flag xs ∙ sym (recent_flag ys); begun = a.0 ∙ sym b.0; held = a.1 ∙ sym b.1; unclosed = a.2 ∙ sym b.2 }

gaps_flag : gaps flag ≡ []
unfolding gaps flags
gaps_flag = refl

-- the gaps before a flag and those after it
pub gaps_split : (xs ys : List Bool) → gaps ((xs ++ flag) ++ ys) ≡ gaps (xs ++ flag) ++ gaps (flag ++ ys)
gaps_split xs ys =
    let both = joined ys (xs ++ flag) flag (same_after_flag xs []) in
    both.1 ∙ ap (λ g. gaps (xs ++ flag) ++ g) (sym (both.2 ∙ ap (λ g. g ++ both.0) gaps_flag))

-- a flag, few 0 bits and a flag have no gap, nor has a flag with few 0 bits
idle : (n : ℕ) → n ≤ 7 → (gaps (flag ++ replicate n false) ≡ []) × (gaps ((flag ++ replicate n false) ++ flag) ≡ [])
unfolding gaps flags
idle zero h = (refl, refl)
idle (suc zero) h = (refl, refl)
idle (suc (suc zero)) h = (refl, refl)
idle (suc (suc (suc zero))) h = (refl, refl)
idle (suc (suc (suc (suc zero)))) h = (refl, refl)
idle (suc (suc (suc (suc (suc zero))))) h = (refl, refl)
idle (suc (suc (suc (suc (suc (suc zero)))))) h = (refl, refl)
idle (suc (suc (suc (suc (suc (suc (suc zero))))))) h = (refl, refl)
idle (suc (suc (suc (suc (suc (suc (suc (suc n)))))))) h = absurd (omega arith)

-- 0 bits after a flag add nothing
frame_idle : (front : List Bool) (n : ℕ) → n ≤ 7 → gaps ((front ++ flag) ++ replicate n false) ≡ gaps (front ++ flag)
frame_idle front n h = gaps_split front (replicate n false)
    ∙ (ap (λ g. gaps (front ++ flag) ++ g) (idle n h).0 ∙ append-nil (gaps (front ++ flag)))

gaps_frame_idle : (content : List ℕ) (frame : List Bool) (n : ℕ) → IsFrame content frame → n ≤ 7
    → gaps (frame ++ replicate n false) ≡ gaps frame
gaps_frame_idle content frame n f h = ap (λ x. gaps (x ++ replicate n false)) f.is ∙ (frame_idle (flag ++ f.body) n h ∙ ap gaps (sym f.is))

two_flags : (f pad tail : List Bool) → f ++ (pad ++ (f ++ tail)) ≡ ((f ++ pad) ++ f) ++ tail
two_flags f pad tail = simp append_assoc

gaps_none : gaps [] ≡ []
unfolding gaps flags
gaps_none = refl

gaps_after_idle : (bits : List Bool) (content : List ℕ) (frame : List Bool) (n : ℕ) → EndsIdle bits → IsFrame content frame → n ≤ 7
    → gaps (bits ++ (frame ++ replicate n false)) ≡ gaps bits ++ gaps frame
gaps_after_idle bits content frame n idle_ f h =
    let pad : List Bool = replicate idle_.zeros false in
    let tail : List Bool = (f.body ++ flag) ++ replicate n false in
    let split_frame : frame ++ replicate n false ≡ flag ++ tail = ap (λ x. x ++ replicate n false) f.is ∙ simp append_assoc in
    let whole : bits ++ (frame ++ replicate n false) ≡ (idle_.front ++ flag) ++ (pad ++ (flag ++ tail)) =
    ap (λ x. x ++ (frame ++ replicate n false)) idle_.is
    ∙ (ap (λ x. (idle_.front ++ flag ++ pad) ++ x) split_frame ∙ simp append_assoc) in
    let inner : flag ++ (pad ++ (flag ++ tail)) ≡ ((flag ++ pad) ++ flag) ++ tail = two_flags flag pad tail in
    let quiet : gaps (flag ++ (pad ++ (flag ++ tail))) ≡ gaps frame =
    ap gaps inner
    ∙ (gaps_split (flag ++ pad) tail ∙ (ap (λ g. g ++ gaps (flag ++ tail)) (idle idle_.zeros idle_.few).1
    ∙ (ap gaps (sym split_frame) ∙ gaps_frame_idle content frame n f h))) in
    let before : gaps bits ≡ gaps (idle_.front ++ flag) = ap gaps idle_.is ∙ frame_idle idle_.front idle_.zeros idle_.few in
    ap gaps whole
    ∙ (gaps_split idle_.front (pad ++ (flag ++ tail))
    ∙ (ap (λ g. gaps (idle_.front ++ flag) ++ g) quiet ∙ ap (λ g. g ++ gaps frame) (sym before)))

gaps_after : (bits : List Bool) (content : List ℕ) (frame : List Bool) (n : ℕ) → IsReady bits → IsFrame content frame → n ≤ 7
    → gaps (bits ++ (frame ++ replicate n false)) ≡ gaps bits ++ gaps frame
gaps_after bits content frame n (inl none) f h =
    ap (λ x. gaps (x ++ (frame ++ replicate n false))) none
    ∙ (gaps_frame_idle content frame n f h ∙ (sym (ap (λ g. g ++ gaps frame) gaps_none) ∙ ap (λ x. gaps x ++ gaps frame) (sym none)))
gaps_after bits content frame n (inr idle_) f h = gaps_after_idle bits content frame n idle_ f h

-- good contents follow the gaps
good_after : (whole bits frame : List Bool) → gaps whole ≡ gaps bits ++ gaps frame → good whole ≡ good bits ++ good frame
good_after whole bits frame e =
    ap (λ gs. map content (filter fine gs)) e ∙
    (ap (map content) (filter-append fine (gaps bits) (gaps frame))
    ∙ map-append content (filter fine (gaps bits)) (filter fine (gaps frame)))
  where
    fine : List Bool → Bool
    fine gap = is_class Good (class_of gap)

ends_idle : (bits : List Bool) (content : List ℕ) (frame : List Bool) (n : ℕ) → IsFrame content frame → n ≤ 7
    → EndsIdle (bits ++ (frame ++ replicate n false))
ends_idle bits content frame n f h = record {
  front = bits ++ (flag ++ f.body);
  zeros = n;
  few = h;
  is = ap (λ x. bits ++ (x ++ replicate n false)) f.is ∙ simp append_assoc;
}

pub frame_grows : FrameGrows
frame_grows bits content frame n ready f h =
    let grown : gaps (bits ++ (frame ++ replicate n false)) ≡ gaps bits ++ gaps frame = gaps_after bits content frame n ready f h in (
      inr (ends_idle bits content frame n f h),
      grown,
      good_after (bits ++ (frame ++ replicate n false)) bits frame grown ∙ ap (λ contents. good bits ++ contents) f.holds,
    )

-- A burst by V.21, as it is sent, says the contents of its frames.
use Rattle.std.proofs.Common.{◌≡◌, ◌∙◌, ◌≤◌, ℕ, zero, suc, Bool, false, List, [], ◌∷◌, ◌++◌, ap, arith, refl, sym, subst, inl, inr}
use Rattle.std.proofs.Common.{append_assoc, map, replicate}
use Rattle.std.specs.List.{filter}
use Rattle.std.proofs.lemmas.List.{append-nil}
use Rattle.hdlc.specs.Flags.{flag, flags, gaps}
use Rattle.hdlc.specs.Frames.{IsReady}
use Rattle.hdlc.specs.Gaps.{class_of, content as content_of_gap, good, is_class}
use Rattle.hdlc.specs.declared.counts.Class.TheVariants.{Good}
use Rattle.hdlc.proofs.FrameGrowsLemmas.{frame_grows, gaps_split}
use Rattle.raster.specs.Packed.{bits_of}
use Rattle.raster.specs.declared.packed.Order.TheVariants.{LsbFirst}
use Rattle.signals.specs.Writing.{content_of}
use Rattle.signals.specs.declared.signal.Side.{Side}
use Rattle.stations.specs.Bursts.{items_of}
use Rattle.stations.specs.Inputs.{PlainItem, checked, framed}
use Rattle.stations.specs.Lending.{has_no_frame}
use Rattle.stations.specs.declared.carrier.Carrier.TheVariants.{V21}
use Rattle.terminals.specs.Hearing.{contents}
use Rattle.terminals.specs.Sending.{AreBits, AreBitsOf, idle}
use Rattle.terminals.specs.Timing.{flags_after, flags_before}
use Rattle.conversations.specs.FrameLineLaws.{SaysItem, SaysItems, SaysItsFrames}

-- ---- flags

good_same : (a b : List Bool) → gaps a ≡ gaps b → good a ≡ good b
good_same a b e = ap (λ gs. map content_of_gap (filter (λ gap. is_class Good (class_of gap)) gs)) e

-- a flag, few 0 bits and a flag have no gap, nor has a flag with few 0 bits
few_zeros : (n : ℕ) → n ≤ 7 → (gaps (flag ++ replicate n false) ≡ []) × (gaps ((flag ++ replicate n false) ++ flag) ≡ [])
unfolding gaps flags
few_zeros zero h = (refl, refl)
few_zeros (suc zero) h = (refl, refl)
few_zeros (suc (suc zero)) h = (refl, refl)
few_zeros (suc (suc (suc zero))) h = (refl, refl)
few_zeros (suc (suc (suc (suc zero)))) h = (refl, refl)
few_zeros (suc (suc (suc (suc (suc zero))))) h = (refl, refl)
few_zeros (suc (suc (suc (suc (suc (suc zero)))))) h = (refl, refl)
few_zeros (suc (suc (suc (suc (suc (suc (suc zero))))))) h = (refl, refl)
few_zeros (suc (suc (suc (suc (suc (suc (suc (suc n)))))))) h = absurd (omega arith)

no_gaps : (gaps [] ≡ []) × (gaps flag ≡ [])
unfolding gaps flags
no_gaps = (refl, refl)

-- 0 bits after a flag add nothing
zeros_add : (front : List Bool) (n : ℕ) → n ≤ 7 → gaps ((front ++ flag) ++ replicate n false) ≡ gaps (front ++ flag)
zeros_add front n h =
    gaps_split front (replicate n false) ∙
    (ap (λ g. gaps (front ++ flag) ++ g) (few_zeros n h).0 ∙ append-nil (gaps (front ++ flag)))

-- nor does a flag after bits that a frame may follow
flag_adds : (x : List Bool) → IsReady x → gaps (x ++ flag) ≡ gaps x
flag_adds x (inl none) =
    ap (λ l. gaps (l ++ flag)) none ∙ (no_gaps.1 ∙ (sym no_gaps.0 ∙ ap gaps (sym none)))
flag_adds x (inr h) =
    let pad : List Bool = replicate h.zeros false in
    let whole : x ++ flag ≡ (h.front ++ flag) ++ (pad ++ flag) = ap (λ l. l ++ flag) h.is ∙ simp append_assoc in
    let inner : gaps (flag ++ (pad ++ flag)) ≡ [] =
    ap gaps (sym (append_assoc flag pad flag)) ∙ (few_zeros h.zeros h.few).1 in
    let before : gaps x ≡ gaps (h.front ++ flag) = ap gaps h.is ∙ zeros_add h.front h.zeros h.few in
    ap gaps whole ∙
    (gaps_split h.front (pad ++ flag) ∙
    (ap (λ g. gaps (h.front ++ flag) ++ g) inner ∙ (append-nil (gaps (h.front ++ flag)) ∙ sym before)))

-- bits after others, which a frame may follow then too, and add contents
record Adds (x bits : List Bool) (list : List (List ℕ)) : Type 0 where
  ready : IsReady (x ++ bits)
  good_are : good (x ++ bits) ≡ good x ++ list

ready_flag : (x : List Bool) → IsReady (x ++ flag)
ready_flag x = inr (record { front = x; zeros = 0; few = omega arith; is = sym (append-nil (x ++ flag)) })

nothing_adds : (x : List Bool) → IsReady x → Adds x [] []
nothing_adds x ready = record {
  ready = subst IsReady (sym (append-nil x)) ready;
  good_are = ap good (append-nil x) ∙ sym (append-nil (good x));
}

-- one after the other
both_add : (x one other : List Bool) (list more : List (List ℕ)) → Adds x one list → Adds (x ++ one) other more →
    Adds x (one ++ other) (list ++ more)
both_add x one other list more h k = record {
  ready = subst IsReady (append_assoc x one other) k.ready;
  good_are =
      ap good (sym (append_assoc x one other)) ∙
      (k.good_are ∙ (ap (λ l. l ++ more) h.good_are ∙ append_assoc (good x) list more));
}

flags_add : (n : ℕ) (x : List Bool) → IsReady x → Adds x (idle n) []
flags_add zero x ready = nothing_adds x ready
flags_add (suc n) x ready =
    both_add x flag (idle n) [] []
    (record { ready = ready_flag x; good_are = good_same (x ++ flag) x (flag_adds x ready) ∙ sym (append-nil (good x)) })
    (flags_add n (x ++ flag) (ready_flag x))

-- ---- items

item_adds : (side : Side) (item : PlainItem) (following : List PlainItem) (bits x : List Bool) (list : List (List ℕ)) → IsReady x →
    AreBitsOf side item following bits → SaysItem side item following list → Adds x bits list
item_adds side (checked octets) following bits x list ready are says = absurd says
item_adds side (framed signal) following bits x list ready (inl frame) (inl says) =
    let grown = frame_grows x (content_of signal side (has_no_frame following)) bits 0 ready frame.frame (omega arith) in
    let plain : x ++ (bits ++ []) ≡ x ++ bits = ap (λ l. x ++ l) (append-nil bits) in
    record {
      ready = subst IsReady plain grown.0;
      good_are = ap good (sym plain) ∙ (grown.2 ∙ ap (λ l. good x ++ l) (sym says.1));
    }
item_adds side (framed signal) following bits x list ready (inl frame) (inr says) = absurd (says.0 frame.writable)
item_adds side (framed signal) following bits x list ready (inr none) (inl says) = absurd (none.0 says.0)
item_adds side (framed signal) following bits x list ready (inr none) (inr says) =
    subst (λ l. Adds x bits l) (sym says.1) (subst (λ b. Adds x b []) (sym none.1) (nothing_adds x ready))

items_add : (side : Side) (items later : List PlainItem) (bits x : List Bool) (list : List (List ℕ)) → IsReady x →
    AreBits side items later bits → SaysItems side items later list → Adds x bits list
items_add side [] later bits x list ready are says =
    subst (λ l. Adds x bits l) (sym says) (subst (λ b. Adds x b []) (sym are) (nothing_adds x ready))
items_add side (item ∷ items) later bits x list ready (front, rest, first, others, is) (head, tail, says, more, all) =
    let one = item_adds side item (items ++ later) front x head ready first says in
    subst (λ l. Adds x bits l) (sym all) (subst (λ b. Adds x b (head ++ tail)) (sym is)
    (both_add x front rest head tail one (items_add side items later rest (x ++ front) tail one.ready others more)))

-- ---- a burst

none_good : good [] ≡ []
none_good = ap (λ gs. map content_of_gap (filter (λ gap. is_class Good (class_of gap)) gs)) no_gaps.0

pub says_its_frames : SaysItsFrames
unfolding contents
says_its_frames side plain later burst is v21 list says =
    let carrier : plain.carrier ≡ V21 = sym is.carrier ∙ v21 in
    let first = flags_add (flags_before plain.carrier) [] (inl refl) in
    let items =
    items_add side plain.items (items_of later) is.bits (idle (flags_before plain.carrier)) list first.ready is.are says in
    let front : List Bool = idle (flags_before plain.carrier) ++ is.bits in
    let flag_more : gaps (front ++ flag) ≡ gaps front = flag_adds front items.ready in
    let flag_last : gaps ((front ++ flag) ++ flag) ≡ gaps (front ++ flag) = flag_adds (front ++ flag) (ready_flag front) in
    let all : bits_of LsbFirst burst.octets.items ≡ ((front ++ flag) ++ flag) ++ replicate is.octets.fill false =
    is.octets.filled ∙
    ap (λ l. l ++ replicate is.octets.fill false)
    (ap (λ c. idle (flags_before plain.carrier) ++ (is.bits ++ idle (flags_after c))) carrier ∙ simp append_assoc) in
    let little : is.octets.fill ≤ 7 = let below = is.octets.few in omega (arith, below) in
    let quiet : gaps (((front ++ flag) ++ flag) ++ replicate is.octets.fill false) ≡ gaps front =
    zeros_add (front ++ flag) is.octets.fill little ∙ (flag_last ∙ flag_more) in
    ap good all ∙
    (good_same (((front ++ flag) ++ flag) ++ replicate is.octets.fill false) front quiet ∙
    (items.good_are ∙ ap (λ l. l ++ list) (first.good_are ∙ ap (λ l. l ++ []) none_good)))

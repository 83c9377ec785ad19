-- One bit more in a flag finder, with its counts and queue.
use Rattle.std.proofs.Common.{◌≡◌, ℕ, zero, suc, ◌+◌, ◌-◌, ◌/◌, ◌%◌, ◌^◌, ◌<◌, ◌≤◌, Bool, true, false, ◌&&◌, List, [], ◌∷◌, ◌++◌, length}
use Rattle.std.proofs.Common.{take, drop, cond, min, refl, ap, sym, ◌∙◌, arith, nat_eq, nat_lt, append_assoc, Option, Some, None, slice_get}
use Rattle.std.specs.Prelude.{Vec, IfSome, IfNone}
use Rattle.std.specs.Option.{option_to_list, option_map}
use Rattle.std.specs.Vec.{vec_items}
use Rattle.std.specs.Borrow.{Bor}
use Rattle.std.specs.declared.alloc.Global.{Global}
use Rattle.std.proofs.lemmas.List.{append-nil, drop-append-le, length-append, map-append, take_at, drop-drop}
use Rattle.std.proofs.lemmas.Bool.{ne_eqb, eq-eqb, false≢true}
use Rattle.hdlc.specs.declared.counts.Class.{Class}
use Rattle.hdlc.specs.declared.counts.Class.TheVariants.{Good, Aborted, Ragged, Short, Long, Damaged}
use Rattle.hdlc.specs.declared.counts.Counts.{Counts}
use Rattle.hdlc.specs.declared.flag_finder.FlagFinder.{FlagFinder}
use Rattle.raster.specs.Packed.{bits_in, bit_in}
use Rattle.raster.specs.declared.packed.Order.TheVariants.{LsbFirst}
use Rattle.raster.proofs.PackedLemmas.{bits_in-none}
use Rattle.raster.specs.Octets.{number}
use Rattle.hdlc.specs.Flags.{flags, gaps}
use Rattle.hdlc.specs.Gaps.{good, count_of, class_of, is_class, content}
use Rattle.hdlc.specs.Contents.{contents_of}
use Rattle.hdlc.specs.OpenGap.{begun, held, recent, unclosed, settled, at_flag, last_flag, held_after}
use Rattle.hdlc.specs.Collects.{Collects}
use Rattle.hdlc.specs.DeframerState.{DeframerState, IsAfter}
use Rattle.hdlc.specs.Kept.{Kept}
use Rattle.hdlc.specs.DeframerParts.{Cuts, PartsAfter, Grows, count_in}
use Rattle.hdlc.proofs.BitPlaces.{bits_in-next}
use Rattle.hdlc.proofs.UnstuffedLemmas.{number-recent, at_flag_is, oldest_is}
use Rattle.hdlc.proofs.Gaps.{settled_is, unclosed-more, held-more, begun-more, good-more, count-more}

pub cuts_none : (finder : FlagFinder) → finder.begun ≡ false → finder.held ≡ 0 → finder.window ≡ 255 → Collects finder.gap [] → Cuts finder []
unfolding flags recent
cuts_none finder begun held window gap = record { begun = begun; held = held; window = window; gap = gap }

-- what leaves a full register joins the gap
pub settled_full : (finder : FlagFinder) (bits : List Bool) → Cuts finder bits → finder.held ≡ 8
    → settled bits ≡ unclosed bits ++ nat_eq (finder.window % 2) 1 ∷ []
settled_full finder bits cuts full =
    let e : nat_eq (held bits) 8 ≡ true = eq-eqb (held bits) 8 (sym cuts.held ∙ full) in
    settled_is bits ∙ (rw (e, oldest_is bits, cuts.window) refl)

pub settled_early : (finder : FlagFinder) (bits : List Bool) → Cuts finder bits → (finder.held ≡ 8 → ⊥) → settled bits ≡ unclosed bits
settled_early finder bits cuts early =
    let e : nat_eq (held bits) 8 ≡ false = ne_eqb (held bits) 8 (λ h. early (cuts.held ∙ h)) in
    settled_is bits ∙ (rw e (append-nil (unclosed bits)))

-- a bit came into the register
pub record Shifted (finder : FlagFinder) (b : Bool) (mid : FlagFinder) : Type 0 where
  pub begun : mid.begun ≡ finder.begun
  pub held : mid.held ≡ finder.held
  pub window : mid.window ≡ finder.window / 2 + cond b 128 0
  pub gap : (bits : List Bool) → Cuts finder bits → Collects mid.gap (settled bits)

window_more : (finder mid : FlagFinder) (b : Bool) (bits : List Bool) → Cuts finder bits → Shifted finder b mid
    → mid.window ≡ number (recent true (bits ++ b ∷ []))
window_more finder mid b bits cuts shifted = shifted.window ∙ (ap (λ n. n / 2 + cond b 128 0) cuts.window ∙ sym (number-recent true bits b))

held_small : (bits : List Bool) → held bits ≤ 8
held_small bits = go (last_flag bits)
  where
    go : (o : Option ℕ) → held_after bits o ≤ 8
    go None = omega arith
    go (Some p) = omega arith

held_le : (bits : List Bool) (finder : FlagFinder) → Cuts finder bits → finder.held ≤ 8
held_le bits finder cuts = rw cuts.held (held_small bits)

counts_more : (class : Class) (old n d new m : ℕ) → old ≡ min (2 ^ 64 - 1) n → (old ≤ 2 ^ 64 - 1 → new ≡ min (2 ^ 64 - 1) (old + d))
    → m ≡ n + d → new ≡ min (2 ^ 64 - 1) m
counts_more class old n d new m e f g = let h : new ≡ min (2 ^ 64 - 1) (old + d) = f (omega arith) in omega arith

-- no flag ends with the bit
pub parts_wait : (finder mid new : FlagFinder) (counts : Counts) (queue : List (List ℕ)) (b : Bool) (bits : List Bool) (handed : ℕ)
    → PartsAfter finder counts queue bits handed → Shifted finder b mid → (mid.window ≡ 126 → ⊥) → new.begun ≡ mid.begun
    → (mid.held ≤ 8 → new.held ≡ cond mid.begun (min 8 (mid.held + 1)) 0) → new.window ≡ mid.window → new.gap ≡ mid.gap
    → PartsAfter new counts queue (bits ++ b ∷ []) handed
parts_wait finder mid new counts queue b bits handed old shifted isnt new_begun new_held new_window new_gap =
    let cuts : Cuts finder bits = old.cuts in
    let window : mid.window ≡ number (recent true (bits ++ b ∷ [])) = window_more finder mid b bits cuts shifted in
    let no : at_flag (bits ++ b ∷ []) ≡ false =
    at_flag_is (bits ++ b ∷ []) ∙ ne_eqb (number (recent true (bits ++ b ∷ []))) 126 (λ e. isnt (window ∙ e)) in
    let le : mid.held ≤ 8 = rw shifted.held (held_le bits finder cuts) in
    let good_same : good (bits ++ b ∷ []) ≡ good bits = good-more bits b ∙ (rw no (append-nil (good bits))) in
    record {
      cuts = record {
        begun = new_begun ∙ (shifted.begun ∙ (cuts.begun ∙ sym (begun-more bits b ∙ (rw no refl))));
        held = new_held le ∙ (ap (λ n. cond mid.begun (min 8 (n + 1)) 0) (shifted.held ∙ cuts.held)
            ∙ (ap (λ x. cond x (min 8 (held bits + 1)) 0) (shifted.begun ∙ cuts.begun) ∙ sym (held-more bits b ∙ (rw no refl))));
        window = new_window ∙ window;
        gap = rw (unclosed-more bits b, no, new_gap) (shifted.gap bits cuts);
      };
      counted = λ class. old.counted class ∙ ap (min (2 ^ 64 - 1)) (sym (count-more class bits b ∙ (rw no (omega arith))));
      within = rw good_same old.within;
      queued = old.queued ∙ ap (drop handed) (sym good_same);
    }

-- what a gap that ends adds to the counts and to the queue
pub record Closes (gap : List Bool) (counts new_counts : Counts) (queue new_queue : List (List ℕ)) : Type 0 where
  pub counted : (class : Class) → count_in counts class ≤ 2 ^ 64 - 1
      → count_in new_counts class ≡ min (2 ^ 64 - 1)
      (count_in counts class + cond (nat_lt 7 (length gap) && is_class class (class_of gap)) 1 0)
  pub queued : new_queue ≡ queue ++ cond (nat_lt 7 (length gap) && is_class Good (class_of gap)) (content gap ∷ []) []

-- a flag ends with the bit
pub parts_flag : (finder mid new : FlagFinder) (counts new_counts : Counts) (queue new_queue : List (List ℕ)) (b : Bool) (bits : List Bool)
    (handed : ℕ) → PartsAfter finder counts queue bits handed → Shifted finder b mid → mid.window ≡ 126 → new.begun ≡ true → new.held ≡ 0
    → new.window ≡ mid.window → Collects new.gap [] → Closes (settled bits) counts new_counts queue new_queue
    → PartsAfter new new_counts new_queue (bits ++ b ∷ []) handed
parts_flag finder mid new counts new_counts queue new_queue b bits handed old shifted is new_begun new_held new_window new_gap closes_ =
    let cuts : Cuts finder bits = old.cuts in
    let window : mid.window ≡ number (recent true (bits ++ b ∷ [])) = window_more finder mid b bits cuts shifted in
    let yes_ : at_flag (bits ++ b ∷ []) ≡ true =
    at_flag_is (bits ++ b ∷ []) ∙ eq-eqb (number (recent true (bits ++ b ∷ []))) 126 (sym window ∙ is) in
    let added : List (List ℕ) =
    cond (nat_lt 7 (length (settled bits)) && is_class Good (class_of (settled bits))) (content (settled bits) ∷ []) [] in
    let good_more : good (bits ++ b ∷ []) ≡ good bits ++ added = good-more bits b ∙ (rw yes_ refl) in
    let size : length (good bits ++ added) ≡ length (good bits) + length added = length-append (good bits) added in
    let within : handed ≤ length (good bits) = old.within in
    record {
      cuts = record {
        begun = new_begun ∙ sym (begun-more bits b ∙ (rw yes_ refl));
        held = new_held ∙ sym (held-more bits b ∙ (rw yes_ refl));
        window = new_window ∙ window;
        gap = rw (unclosed-more bits b, yes_) new_gap;
      };
      counted =
          λ class. counts_more class (count_in counts class) (count_of class bits)
          (cond (nat_lt 7 (length (settled bits)) && is_class class (class_of (settled bits))) 1 0) _ _ (old.counted class)
          (closes_.counted class) (count-more class bits b ∙ (rw yes_ refl));
      within = rw good_more (omega arith);
      queued = closes_.queued
          ∙ (ap (λ q. q ++ added) old.queued ∙ (sym (drop-append-le handed (good bits) added within) ∙ ap (drop handed) (sym good_more)));
    }

pub good_only : (class : Class) → is_class Good class ≡ true → class ≡ Good
good_only Good e = refl
good_only Aborted e = absurd (false≢true e)
good_only Ragged e = absurd (false≢true e)
good_only Short e = absurd (false≢true e)
good_only Long e = absurd (false≢true e)
good_only Damaged e = absurd (false≢true e)

pub good_closes : (gap : List Bool) (queue new : List (List ℕ)) (octets : List ℕ) (long fine : Bool) → long ≡ true → fine ≡ true
    → new ≡ queue ++ octets ∷ [] → octets ≡ content gap → new ≡ queue ++ cond (long && fine) (content gap ∷ []) []
good_closes gap queue new octets long fine l f e o = rw (l, f) (e ∙ ap (λ xs. queue ++ xs ∷ []) o)

pub contents_push : (frames : List (Vec ℕ Global)) (frame : Vec ℕ Global)
    → contents_of (frames ++ frame ∷ []) ≡ contents_of frames ++ frame.items ∷ []
contents_push frames frame = map-append (λ f. f.items) frames (frame ∷ [])

pub grows_twice : {A : Type 0} (old mid new : List A) → Grows old mid → Grows mid new → Grows old new
grows_twice old mid new first second =
    record {
      rest = first.rest ++ second.rest;
      is =
          second.is ∙ (ap (λ xs. xs ++ second.rest) first.is ∙ append_assoc old first.rest second.rest);
    }

pub grows_cut : {A : Type 0} (old new : List A) (n : ℕ) → Grows old new → n ≡ length old → take n new ≡ old
grows_cut old new n grows size = ap (take n) grows.is ∙ take_at old grows.rest n (sym size)

-- the bits of a piece up to one place more
pub piece_more : (bits : List Bool) (octets : List ℕ) (place : ℕ) → bits ++ bits_in LsbFirst octets (place + 1)
    ≡ (bits ++ bits_in LsbFirst octets place) ++ bit_in LsbFirst octets place ∷ []
piece_more bits octets place = ap (λ xs. bits ++ xs) (bits_in-next octets place)
    ∙ sym (append_assoc bits (bits_in LsbFirst octets place) (bit_in LsbFirst octets place ∷ []))

pub piece_none : (bits : List Bool) (octets : List ℕ) → bits ++ bits_in LsbFirst octets 0 ≡ bits
piece_none bits octets = rw (bits_in-none LsbFirst octets) (append-nil bits)

pub parts_none : (finder : FlagFinder) (counts : Counts) (queue : List (List ℕ)) → Cuts finder []
    → ((class : Class) → count_in counts class ≡ 0) → queue ≡ [] → PartsAfter finder counts queue [] 0
unfolding flags gaps
parts_none finder counts queue cuts zeros none = record { cuts = cuts; counted = zeros; within = omega arith; queued = none }

-- the next content, and what is left of them
pub next_content : (state : DeframerState) (bits : List Bool) (handed : ℕ) → IsAfter state bits handed
    → slice_get state.queue 0 ≡ slice_get (good bits) handed
next_content state bits handed old = ap (λ q. slice_get q 0) old.queued ∙ go (good bits) handed
  where
    go : (contents : List (List ℕ)) (n : ℕ) → slice_get (drop n contents) 0 ≡ slice_get contents n
    go [] zero = refl
    go [] (suc n) = refl
    go (x ∷ xs) zero = refl
    go (x ∷ xs) (suc n) = go xs n

pub next_stands : (state : DeframerState) (bits : List Bool) (handed : ℕ) → IsAfter state bits handed → handed < length (good bits)
    → IsAfter (record state { queue = drop 1 state.queue }) bits (handed + 1)
next_stands state bits handed old more = record {
  kept = old.kept;
  counted = old.counted;
  within = omega arith;
  queued = ap (drop 1) old.queued ∙ drop-drop 1 handed (good bits);
}

pub state_same : (a b : DeframerState) → a.kept ≡ b.kept → a.counts ≡ b.counts → a.queue ≡ b.queue → a ≡ b
state_same a b kept counts queue =
    let one : Kept → DeframerState = λ x. record { kept = x; counts = a.counts; queue = a.queue } in
    let two : Counts → DeframerState = λ x. record { kept = b.kept; counts = x; queue = a.queue } in
    let three : List (List ℕ) → DeframerState = λ x. record { kept = b.kept; counts = b.counts; queue = x } in
    ap one kept ∙ (ap two counts ∙ ap three queue)

pub contents_drop : (frames rest : List (Vec ℕ Global)) → rest ≡ drop 1 frames → contents_of rest ≡ drop 1 (contents_of frames)
contents_drop [] rest e = ap contents_of e
contents_drop (x ∷ xs) rest e = ap contents_of e

pub content_if : (lent : Option (Bor (List ℕ))) (x y : Option (List ℕ)) → IfSome lent (λ content. x ≡ Some content.now) → x ≡ y
    → IfSome lent (λ content. y ≡ Some content.now)
content_if None x y h e = tt
content_if (Some b) x y h e = sym e ∙ h

pub lent_some : (items rest : List (Vec ℕ Global)) (popped : Option (Vec ℕ Global)) (lent : Option (Bor (List ℕ))) (front : Option (List ℕ))
    → items ≡ option_to_list popped ++ rest → option_map (λ y. y.now) lent ≡ option_map vec_items popped
    → slice_get (contents_of items) 0 ≡ front → IfSome lent (λ content. front ≡ Some content.now)
lent_some items rest popped None front e f g = tt
lent_some items rest None (Some b) front e f g = cc
lent_some items rest (Some x) (Some b) front e f g =
    let is : b.now ≡ x.items = cc in
    sym g ∙ (ap (λ xs. slice_get (contents_of xs) 0) e ∙ ap Some (sym is))

pub lent_none : (items rest : List (Vec ℕ Global)) (popped : Option (Vec ℕ Global)) (lent : Option (Bor (List ℕ))) (front : Option (List ℕ))
    → items ≡ option_to_list popped ++ rest → rest ≡ drop 1 items → option_map (λ y. y.now) lent ≡ option_map vec_items popped
    → slice_get (contents_of items) 0 ≡ front → IfNone lent (front ≡ None)
lent_none items rest popped (Some b) front e r f g = tt
lent_none items rest (Some x) None front e r f g = cc
lent_none [] rest None None front e r f g = sym g
lent_none (x ∷ xs) rest None None front e r f g = absurd (omega (arith, ap length e, ap length r))

past_end : {A : Type 0} (xs : List A) (n : ℕ) → slice_get xs n ≡ None → length xs ≤ n
past_end [] n e = omega arith
past_end (x ∷ xs) zero e = cc
past_end (x ∷ xs) (suc n) e = let rest : length xs ≤ n = past_end xs n e in omega arith

-- where nothing waits, all good contents were handed out
pub nothing_waits : (state : DeframerState) (bits : List Bool) (handed : ℕ) (lent : Option (Bor (List ℕ))) → IsAfter state bits handed
    → IfNone lent (slice_get state.queue 0 ≡ None) → IfNone lent (handed ≡ length (good bits))
nothing_waits state bits handed (Some b) old h = tt
nothing_waits state bits handed None old h =
    let past : length (good bits) ≤ handed = past_end (good bits) handed (sym (next_content state bits handed old) ∙ h) in
    let within : handed ≤ length (good bits) = old.within in
    omega arith

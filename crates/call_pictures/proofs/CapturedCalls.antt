-- The frames of a capture while its contents come, and the order in which frames are drawn.
use Rattle.std.proofs.Common.{◌≡◌, ◌+◌, ℕ, List, [], ◌∷◌, ◌++◌, None, Some, map, refl, ap, sym, ◌∙◌, subst, arith}
use Rattle.std.proofs.lemmas.List.{append-nil, append_assoc, map-append}
use Rattle.std.proofs.lemmas.List.Elements.{filter_map-append}
use Rattle.std.proofs.lemmas.List.Sums.{sum_by-append}
use Rattle.std.proofs.Math.Bool.{cond}
use Rattle.std.specs.Option.{is_none}
use Rattle.raster.specs.Packed.{bits_of}
use Rattle.raster.specs.declared.packed.Order.{Order}
use Rattle.hdlc.specs.Gaps.{good}
use Rattle.line_sim.specs.declared.event.Entry.{Entry}
use Rattle.signals.specs.declared.signal.Side.TheVariants.{Caller, Answerer}
use Rattle.call_pictures.specs.declared.captured_call.Before.{Before}
use Rattle.call_pictures.specs.declared.captured_call.Before.TheVariants.{Nothing}
use Rattle.call_pictures.specs.declared.captured_call.CapturedFrame.{CapturedFrame}
use Rattle.call_pictures.specs.declared.captured_call.LineFrame.{LineFrame}
use Rattle.call_pictures.specs.CapturedCalls.{AreInOrder, IsDrawnOf, before_after, content_frame, drawn_of, frames_of, left_after, next_frame}
use Rattle.call_pictures.specs.CapturedCalls.{others_of}

-- ---- contents

-- the kinds of more contents
frames_both : (xs ys : List (List ℕ)) → frames_of (xs ++ ys) ≡ frames_of xs ++ frames_of ys
frames_both xs ys = filter_map-append content_frame xs ys

-- the others of more contents
others_both : (xs ys : List (List ℕ)) → others_of (xs ++ ys) ≡ others_of xs + others_of ys
others_both xs ys = sum_by-append (λ content. cond (is_none (content_frame content)) 1 0) xs ys

-- what was taken, and what is taken of what is still to come of a line, is what is taken of all
pub record TakesLeft (order : Order) (known : List CapturedFrame) (others : ℕ) (line : List ℕ) (coming : List (List ℕ)) : Type 0 where
  pub frames : known ++ frames_of coming ≡ frames_of (good (bits_of order line))
  pub count : others + others_of coming ≡ others_of (good (bits_of order line))

pub all_to_take : (order : Order) (known : List CapturedFrame) (line : List ℕ) → known ≡ []
    → TakesLeft order known 0 line (good (bits_of order line))
all_to_take order known line none = record {
  frames = ap (λ (l : List CapturedFrame). l ++ frames_of (good (bits_of order line))) none;
  count = omega arith;
}

-- one content more
pub one_taken : (order : Order) (known new : List CapturedFrame) (others more : ℕ) (line content : List ℕ) (later : List (List ℕ))
    → new ≡ known ++ frames_of (content ∷ []) → more ≡ others + others_of (content ∷ [])
    → TakesLeft order known others line (content ∷ later) → TakesLeft order new more line later
one_taken order known new others more line content later is count old = record {
  frames = ap (λ (l : List CapturedFrame). l ++ frames_of later) is
      ∙ (append_assoc known (frames_of (content ∷ [])) (frames_of later)
      ∙ (ap (λ (l : List CapturedFrame). known ++ l) (sym (frames_both (content ∷ []) later)) ∙ old.frames));
  count =
      let both : others_of (content ∷ later) ≡ others_of (content ∷ []) + others_of later = others_both (content ∷ []) later in
      let was = old.count in
      omega (arith, both, was, count);
}

-- no content is left
pub all_taken : (order : Order) (known : List CapturedFrame) (others : ℕ) (line : List ℕ) → TakesLeft order known others line []
    → (known ≡ frames_of (good (bits_of order line))) × (others ≡ others_of (good (bits_of order line)))
all_taken order known others line left =
    let none : others_of [] ≡ 0 = refl in
    let was = left.count in
    (sym (append-nil known) ∙ left.frames, omega (arith, none, was))

-- ---- the order

-- Frames are drawn: with those that are left, in their order, they are those of both captures.
pub record DrawnSo (caller answerer commands answers : List CapturedFrame) (before : Before) (entries : List Entry) : Type 0 where
  pub drawn : List LineFrame
  pub each : entries ≡ map drawn_of drawn
  pub left : (rest : List LineFrame) → AreInOrder before commands answers rest → AreInOrder Nothing caller answerer (drawn ++ rest)

pub none_drawn : (caller answerer : List CapturedFrame) (entries : List Entry) → entries ≡ []
    → DrawnSo caller answerer caller answerer Nothing entries
none_drawn caller answerer entries empty = record { drawn = []; each = empty; left = λ rest order. order }

-- one frame more
pub one_drawn : (caller answerer commands answers commands_left answers_left : List CapturedFrame) (before then : Before) (frame : LineFrame)
    (entries new : List Entry) → DrawnSo caller answerer commands answers before entries
    → next_frame before commands answers ≡ Some frame
    → new ≡ entries ++ drawn_of frame ∷ [] → then ≡ before_after frame → commands_left ≡ left_after Caller frame.from commands
    → answers_left ≡ left_after Answerer frame.from answers → DrawnSo caller answerer commands_left answers_left then new
one_drawn caller answerer commands answers commands_left answers_left before then frame entries new was next one is of_c of_a = record {
  drawn = was.drawn ++ frame ∷ [];
  each = one ∙ (ap (λ l. l ++ drawn_of frame ∷ []) was.each ∙ sym (map-append drawn_of was.drawn (frame ∷ [])));
  left = λ rest order.
      subst (AreInOrder Nothing caller answerer) (sym (append_assoc was.drawn (frame ∷ []) rest))
      (was.left (frame ∷ rest) (
        next,
        subst (λ b. AreInOrder b (left_after Caller frame.from commands) (left_after Answerer frame.from answers) rest) is
            (subst (λ l. AreInOrder then l (left_after Answerer frame.from answers) rest) of_c
            (subst (λ l. AreInOrder then commands_left l rest) of_a order)),
      ));
}

-- no frame is left
pub all_drawn : (caller answerer commands answers : List CapturedFrame) (before : Before) (entries : List Entry)
    → DrawnSo caller answerer commands answers before entries → next_frame before commands answers ≡ None
    → IsDrawnOf caller answerer entries
all_drawn caller answerer commands answers before entries was none = record {
  frames = was.drawn;
  order = subst (AreInOrder Nothing caller answerer) (append-nil was.drawn) (was.left [] none);
  each = was.each;
}

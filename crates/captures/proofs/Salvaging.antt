-- What is given on while the contents of a line come, where the rows before gaps are too.
use Rattle.std.proofs.Common.{◌≡◌, ℕ, List, [], ◌∷◌, None, subst, refl, ap, sym, ◌∙◌}
use Rattle.raster.specs.Packed.{bits_of}
use Rattle.raster.specs.declared.packed.Order.{Order}
use Rattle.hdlc.specs.Gaps.{good}
use Rattle.signals.specs.Reading.{read_content}
use Rattle.captures.specs.Captured.{Capture, empty_capture, hears_all, hears_read}
use Rattle.captures.specs.Found.{FoundStep}
use Rattle.captures.specs.Fronts.{FrontStep, Salvages, SalvagesAll, SalvagesEach, SalvagesEnd}

-- What is still to be heard of a line: with it all of it is heard, and what it gives is taken.
pub record SalvageLeft {S : Type 0} (takes : FoundStep S) (fronts : FrontStep S) (order : Order) (before now : S) (s : Capture)
    (line : List ℕ) (coming : List (List ℕ)) : Type 0 where
  pub same : (hears_all coming s).then ≡ (hears_all (good (bits_of order line)) (empty_capture None)).then
  pub left : (after : S) → SalvagesEach takes fronts coming s now after
      → SalvagesEach takes fronts (good (bits_of order line)) (empty_capture None) before after

pub all_to_salvage : {S : Type 0} (takes : FoundStep S) (fronts : FrontStep S) (order : Order) (before : S) (s : Capture) (line : List ℕ)
    → s ≡ empty_capture None → SalvageLeft takes fronts order before before s line (good (bits_of order line))
all_to_salvage takes fronts order before s line is = record {
  same = ap (λ (c : Capture). (hears_all (good (bits_of order line)) c).then) is;
  left = λ after each. subst (λ (c : Capture). SalvagesEach takes fronts (good (bits_of order line)) c before after) is each;
}

heard_with_one : (s : Capture) (content : List ℕ) (later : List (List ℕ))
    → (hears_all (content ∷ later) s).then ≡ (hears_all later (hears_read (read_content content) s).then).then
unfolding hears_all
heard_with_one s content later = refl

-- one content more
pub content_salvaged : {S : Type 0} (takes : FoundStep S) (fronts : FrontStep S) (order : Order) (before now new : S) (s next : Capture)
    (line content : List ℕ) (later : List (List ℕ)) → next ≡ (hears_read (read_content content) s).then
    → Salvages takes fronts (read_content content) s now new → SalvageLeft takes fronts order before now s line (content ∷ later)
    → SalvageLeft takes fronts order before new next line later
content_salvaged takes fronts order before now new s next line content later is salvages old = record {
  same = ap (λ (c : Capture). (hears_all later c).then) is ∙ (sym (heard_with_one s content later) ∙ old.same);
  left = λ after each. old.left after
      (new, salvages, subst (λ (c : Capture). SalvagesEach takes fronts later c new after) is each);
}

nothing_heard : (s : Capture) → (hears_all [] s).then ≡ s
unfolding hears_all
nothing_heard s = refl

-- no content is left
pub all_salvaged : {S : Type 0} (takes : FoundStep S) (fronts : FrontStep S) (order : Order) (before now after : S) (s : Capture)
    (line : List ℕ) → SalvagesEnd takes fronts s now after → SalvageLeft takes fronts order before now s line []
    → SalvagesAll takes fronts (good (bits_of order line)) before after
all_salvaged takes fronts order before now after s line ends old = record {
  mid = now;
  each = old.left now refl;
  ends = subst (λ (c : Capture). SalvagesEnd takes fronts c now after) (sym (nothing_heard s) ∙ old.same) ends;
}

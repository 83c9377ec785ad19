-- What is found in whole sequences of signals.
use Rattle.std.proofs.Common.{◌≡◌, ◌≢◌, ◌<◌, ◌≤◌, ◌+◌, ◌⊎◌, ℕ, Bool, true, false, cond, not, List, [], ◌∷◌, ◌++◌, ◌%◌, length, map}
use Rattle.std.proofs.Common.{refl}
use Rattle.std.proofs.Common.{ap, sym, ◌∙◌, subst, arith, inl, inr}
use Rattle.std.proofs.lemmas.Bool.{le-leb}
use Rattle.std.proofs.lemmas.Bool.Decides.{Decides-below_and, nat_tests}
use Rattle.std.proofs.lemmas.Slice.Eq.{bytes_eq-Decides}
use Rattle.std.proofs.lemmas.List.{append-nil}
use Rattle.std.specs.Bool.{Decides, beq}
use Rattle.std.specs.Prelude.{Option, None, Some, bytes_eq, nat_eq, nat_le, slice_set, ◌&&◌}
use Rattle.std.specs.List.{range_with_len}
use Rattle.partial_page.proofs.StoreLemmas.{is_kept}
use Rattle.partial_page.specs.Frames.{frame_size}
use Rattle.partial_page.specs.Store.{frame_of, joined_frames, no_frames}
use Rattle.signals.specs.Signals.{PlainSignal, dcn, dcs, fcd, pps}
use Rattle.signals.specs.declared.params.Params.{Params}
use Rattle.signals.specs.declared.signal.PageEnd.{PageEnd}
use Rattle.signals.specs.declared.signal.PageEnd.TheVariants.{Null, Mps, Eom, Eop}
use Rattle.partial_page.specs.Assembling.{all_there}
use Rattle.partial_page.specs.Assembling.{within_frame_size}
use Rattle.partial_page.specs.Assembling.{IsTooLong}
use Rattle.signals.specs.declared.mark.Mark.{Mark}
use Rattle.signals.specs.declared.mark.Pps.{Pps}
use Rattle.captures.specs.Captured.{agreed_after, are_same_below, has_used_number, is_again, is_resend, is_same_frame, renumbers, turns_number}
use Rattle.captures.specs.Captured.{Capture, Step, agreed, at_dcs, at_end, empty_capture, finds_none, gathers, gives_up, hears, hears_block, hears_fcd}
use Rattle.captures.specs.Captured.{hears_again, hears_pps, is_waiting, judges, judges_by, last_of, left_open, missing_before, overlaid, page_in, refuses}
use Rattle.captures.specs.Captured.{pages_before, takes_block, turns_from, turns_page, turns_to, ◌>>>◌}
use Rattle.captures.specs.CapturesMean.{BlocksEnd, CapturesMean, FramesAreKept, IsAfterBlock, IsAwaited, OthersChangeNothing, ResendsAreTheSame}
use Rattle.captures.specs.CapturesMean.{after_first, found_in, hears_signals, mark_of}
use Rattle.captures.proofs.LastFrames.{turned_number, turned_page, turned_to, turns}
use Rattle.captures.specs.declared.captured.Captured.{Captured}
use Rattle.captures.specs.declared.captured.Captured.TheVariants.{MissingPage, MissingFrame, MissingBlocks, Unfinished, BlockBeforeDcs}
use Rattle.captures.specs.declared.captured.Captured.TheVariants.{BlockAfterEnd, MissingAfter, UsedNumber}

-- ---- sequences

-- the data of an FCD have at most 64 octets
abbrev IsShort : PlainSignal → Type 0
IsShort (fcd number octets) = length octets ≤ 64
IsShort signal = Unit {0}

abbrev AreShort : List PlainSignal → Type 0
AreShort [] = Unit {0}
AreShort (signal ∷ signals) = IsShort signal × AreShort signals

within : (params : Params) (octets : List ℕ) → length octets ≤ 64 → within_frame_size params octets ≡ true
unfolding within_frame_size
within params octets short = at params.small
  where
    at : (small : Bool) → nat_le (length octets) (frame_size small) ≡ true
    at true = le-leb (length octets) 64 short
    at false = le-leb (length octets) 256 (omega (arith, short))

-- the data of an FCD are kept, however long they are
abbrev keeps : Option Params → ℕ → List ℕ → Capture → Step
keeps None number octets s = finds_none (record s { begun = true })
keeps (Some params) number octets s = finds_none (record s { coming = slice_set s.coming number (Some octets); begun = true })

abbrev keeps_all : PlainSignal → Capture → Step
keeps_all (fcd number octets) s = keeps s.params number octets s
keeps_all signal s = hears signal s

abbrev all_kept : List PlainSignal → Capture → Step
all_kept [] s = finds_none s
all_kept (signal ∷ signals) s = keeps_all signal s >>> all_kept signals

one_kept : (signal : PlainSignal) (s : Capture) → IsShort signal → hears signal s ≡ keeps_all signal s
unfolding hears
one_kept (fcd number octets) s short = at s.ended s.params
  where
    kept : Capture
    kept = record s { coming = slice_set s.coming number (Some octets); begun = true }

    at : (ended : Option PageEnd) (params : Option Params) → hears_fcd ended params number octets s ≡ keeps params number octets s
    at None None = refl
    at (Some ended) None = refl
    at None (Some params) = ap (λ (b : Bool). finds_none (cond b kept s)) (within params octets short)
    at (Some ended) (Some params) = ap (λ (b : Bool). finds_none (cond b kept (record s { begun = true }))) (within params octets short)
one_kept signal s short = refl

kept_each : (signals : List PlainSignal) (s : Capture) → AreShort signals → hears_signals signals s ≡ all_kept signals s
kept_each [] s short = refl
kept_each (signal ∷ signals) s (first, rest) =
    ap (λ (step : Step). step >>> hears_signals signals) (one_kept signal s first)
    ∙ ap (λ (step : Step). record { then = step.then; found = (keeps_all signal s).found ++ step.found })
    (kept_each signals (keeps_all signal s).then rest)

abbrev found_so : List PlainSignal → List Captured
found_so signals = (all_kept signals (empty_capture None)).found ++ at_end (all_kept signals (empty_capture None)).then

found_is : (signals : List PlainSignal) → AreShort signals → found_in signals ≡ found_so signals
found_is signals short = ap (λ (step : Step). step.found ++ at_end step.then) (kept_each signals (empty_capture None) short)

joined : (a b : List ℕ) → a ++ (b ++ []) ≡ a ++ b
joined a b = ap (λ (octets : List ℕ). a ++ octets) (append-nil b)

after_all : (f : List ℕ → List Captured) (a : List ℕ) → f (a ++ []) ≡ f a
after_all f a = ap f (append-nil a)

after_both : (f : List ℕ → List ℕ → List Captured) (a b : List ℕ) → f (a ++ []) (b ++ []) ≡ f a b
after_both f a b = ap (λ (octets : List ℕ). f octets (b ++ [])) (append-nil a) ∙ ap (f a) (append-nil b)

two_parts : (a b : List ℕ) → (a ++ []) ++ (b ++ []) ≡ a ++ b
two_parts a b = ap (λ (octets : List ℕ). octets ++ (b ++ [])) (append-nil a) ∙ joined a b

-- data are equal to themselves, and other data aren't
same_octets : (a : List ℕ) → bytes_eq a a ≡ true
same_octets a = (bytes_eq-Decides a a).1 refl

other_octets : (a b : List ℕ) → a ≢ b → bytes_eq a b ≡ false
other_octets a b other = at (bytes_eq a b) refl
  where
    at : (same : Bool) → bytes_eq a b ≡ same → same ≡ false
    at true e = absurd (other ((bytes_eq-Decides a b).0 e))
    at false e = refl

-- what signals leave
abbrev left_by : List PlainSignal → Capture
left_by signals = (all_kept signals (empty_capture None)).then

sent_again : (ends : PageEnd) (mark : Mark) (last : ℕ) (s : Capture) → is_again mark s ≡ true
    → hears_pps ends mark last s ≡ finds_none (hears_again ends s)
sent_again ends mark last s again = ap (λ (b : Bool). cond b (finds_none (hears_again ends s)) (hears_block ends mark last s)) again

sent_anew : (ends : PageEnd) (mark : Mark) (last : ℕ) (s : Capture) → is_again mark s ≡ false
    → hears_pps ends mark last s ≡ hears_block ends mark last s
sent_anew ends mark last s again = ap (λ (b : Bool). cond b (finds_none (hears_again ends s)) (hears_block ends mark last s)) again

-- after one frame with these data was taken, one with those comes
comes_after : (had coming : List ℕ) (same : Bool) → bytes_eq had coming ≡ same
    → is_resend (slice_set no_frames 0 (Some had)) (slice_set no_frames 0 (Some coming)) ≡ same
unfolding is_resend no_frames
comes_after had coming true e = ap (λ (b : Bool). b && true) e
comes_after had coming false e = ap (λ (b : Bool). b && true) e

-- a first page with these octets, and what a last step finds
abbrev page_and : Params → List ℕ → Step → List Captured
page_and params x step = (page_in params (mark_of 0 0) (x ++ []) ∷ (step.found ++ [])) ++ at_end step.then

-- what a step finds, and a last block after it
abbrev goes_on : List ℕ → Step → List Captured
goes_on b step = (step.found ++ (all_kept (fcd 0 b ∷ pps Eop 0 1 0 ∷ []) step.then).found)
    ++ at_end (all_kept (fcd 0 b ∷ pps Eop 0 1 0 ∷ []) step.then).then

of_one_size : (a : List ℕ) (small : Bool)
    → is_resend (cond (beq small small) (slice_set no_frames 0 (Some a)) no_frames) (slice_set no_frames 0 (Some a)) ≡ true
of_one_size a true = comes_after a a true (same_octets a)
of_one_size a false = comes_after a a true (same_octets a)

of_any_size : (a b : List ℕ) → a ≢ b → (same : Bool)
    → is_resend (cond same (slice_set no_frames 0 (Some a)) no_frames) (slice_set no_frames 0 (Some b)) ≡ false
unfolding is_resend no_frames
of_any_size a b other true = comes_after a b false (other_octets a b other)
of_any_size a b other false = refl

again_mps : (params : Params) (a : List ℕ) → length a ≤ 64
    → found_in (dcs params ∷ fcd 0 a ∷ pps Mps 0 0 0 ∷ fcd 0 a ∷ pps Mps 0 0 0 ∷ []) ≡ page_in params (mark_of 0 0) a ∷ after_first Mps
unfolding hears hears_block judges takes_block gives_up left_open at_end at_dcs overlaid no_frames joined_frames all_there pages_before
    is_again is_resend
again_mps params a la = found_is (dcs params ∷ fcd 0 a ∷ pps Mps 0 0 0 ∷ fcd 0 a ∷ pps Mps 0 0 0 ∷ []) (tt, (la, (tt, (la, (tt, tt)))))
    ∙ (ap (page_and params a) (sent_again Mps (mark_of 0 0) 0 (left_by (dcs params ∷ fcd 0 a ∷ pps Mps 0 0 0 ∷ fcd 0 a ∷ []))
    (comes_after a a true (same_octets a)))
    ∙ after_all (λ x. page_in params (mark_of 0 0) x ∷ after_first Mps) a)

again_eom : (params : Params) (a : List ℕ) → length a ≤ 64
    → found_in (dcs params ∷ fcd 0 a ∷ pps Eom 0 0 0 ∷ fcd 0 a ∷ pps Eom 0 0 0 ∷ []) ≡ page_in params (mark_of 0 0) a ∷ after_first Eom
unfolding hears hears_block judges takes_block gives_up left_open at_end at_dcs overlaid no_frames joined_frames all_there pages_before
    is_again is_resend
again_eom params a la = found_is (dcs params ∷ fcd 0 a ∷ pps Eom 0 0 0 ∷ fcd 0 a ∷ pps Eom 0 0 0 ∷ []) (tt, (la, (tt, (la, (tt, tt)))))
    ∙ (ap (page_and params a) (sent_again Eom (mark_of 0 0) 0 (left_by (dcs params ∷ fcd 0 a ∷ pps Eom 0 0 0 ∷ fcd 0 a ∷ []))
    (comes_after a a true (same_octets a)))
    ∙ after_all (λ x. page_in params (mark_of 0 0) x ∷ after_first Eom) a)

again_eop : (params : Params) (a : List ℕ) → length a ≤ 64
    → found_in (dcs params ∷ fcd 0 a ∷ pps Eop 0 0 0 ∷ fcd 0 a ∷ pps Eop 0 0 0 ∷ []) ≡ page_in params (mark_of 0 0) a ∷ after_first Eop
unfolding hears hears_block judges takes_block gives_up left_open at_end at_dcs overlaid no_frames joined_frames all_there pages_before
    is_again is_resend
again_eop params a la = found_is (dcs params ∷ fcd 0 a ∷ pps Eop 0 0 0 ∷ fcd 0 a ∷ pps Eop 0 0 0 ∷ []) (tt, (la, (tt, (la, (tt, tt)))))
    ∙ (ap (page_and params a) (sent_again Eop (mark_of 0 0) 0 (left_by (dcs params ∷ fcd 0 a ∷ pps Eop 0 0 0 ∷ fcd 0 a ∷ []))
    (comes_after a a true (same_octets a)))
    ∙ after_all (λ x. page_in params (mark_of 0 0) x ∷ after_first Eop) a)

page_again_is : (params next : Params) (a b : List ℕ) → length a ≤ 64 → length b ≤ 64 → (ends : PageEnd) → ends ≢ Null
    → found_in (dcs params ∷ fcd 0 a ∷ pps ends 0 0 0 ∷ fcd 0 a ∷ pps ends 0 0 0 ∷ []) ≡ page_in params (mark_of 0 0) a ∷ after_first ends
page_again_is params next a b la lb Null other = absurd (other refl)
page_again_is params next a b la lb Mps other = again_mps params a la
page_again_is params next a b la lb Eom other = again_eom params a la
page_again_is params next a b la lb Eop other = again_eop params a la

block_again_is : (params next : Params) (a b : List ℕ) → length a ≤ 64 → length b ≤ 64 → found_in (dcs params ∷ fcd 0 a ∷ pps Null 0 0 0 ∷ fcd 0 a ∷ pps Null 0 0 0 ∷ fcd 0 b ∷ pps Eop 0 1 0 ∷ []) ≡
    page_in params (mark_of 0 1) (a ++ b) ∷ []
unfolding hears hears_block judges takes_block gives_up left_open at_end at_dcs overlaid no_frames joined_frames all_there pages_before
    is_again is_resend
block_again_is params next a b la lb = found_is (dcs params ∷ fcd 0 a ∷ pps Null 0 0 0 ∷ fcd 0 a ∷ pps Null 0 0 0 ∷ fcd 0 b ∷ pps Eop 0 1 0 ∷ [])
    (tt, (la, (tt, (la, (tt, (lb, (tt, tt)))))))
    ∙ (ap (goes_on b) (sent_again Null (mark_of 0 0) 0 (left_by (dcs params ∷ fcd 0 a ∷ pps Null 0 0 0 ∷ fcd 0 a ∷ []))
    (comes_after a a true (same_octets a)))
    ∙ ap (λ (octets : List ℕ). page_in params (mark_of 0 1) octets ∷ []) (two_parts a b))

dcs_in_page_again_is : (params next : Params) (a b : List ℕ) → length a ≤ 64 → length b ≤ 64 → found_in (dcs params ∷ fcd 0 a ∷ pps Mps 0 0 0 ∷ dcs params ∷ fcd 0 a ∷ pps Eop 0 0 0 ∷ []) ≡
    page_in params (mark_of 0 0) a ∷ []
unfolding hears hears_block judges takes_block gives_up left_open at_end at_dcs overlaid no_frames joined_frames all_there pages_before
    is_again is_resend
dcs_in_page_again_is params next a b la lb = found_is (dcs params ∷ fcd 0 a ∷ pps Mps 0 0 0 ∷ dcs params ∷ fcd 0 a ∷ pps Eop 0 0 0 ∷ [])
    (tt, (la, (tt, (tt, (la, (tt, tt))))))
    ∙ (ap (page_and params a) (sent_again Eop (mark_of 0 0) 0
    (left_by (dcs params ∷ fcd 0 a ∷ pps Mps 0 0 0 ∷ dcs params ∷ fcd 0 a ∷ [])) (of_one_size a params.small))
    ∙ after_all (λ x. page_in params (mark_of 0 0) x ∷ []) a)

same_page_number_is : (params next : Params) (a b : List ℕ) → length a ≤ 64 → length b ≤ 64 → a ≢ b → found_in (dcs params ∷ fcd 0 a ∷ pps Mps 0 0 0 ∷ fcd 0 b ∷ pps Eop 0 0 0 ∷ []) ≡
    page_in params (mark_of 0 0) a ∷ UsedNumber (mark_of 0 0) Mps ∷ page_in params (mark_of 0 0) b ∷ []
unfolding hears hears_block judges takes_block gives_up left_open at_end at_dcs overlaid no_frames joined_frames all_there pages_before
    is_again is_resend
same_page_number_is params next a b la lb other = found_is (dcs params ∷ fcd 0 a ∷ pps Mps 0 0 0 ∷ fcd 0 b ∷ pps Eop 0 0 0 ∷ [])
    (tt, (la, (tt, (lb, (tt, tt)))))
    ∙ (ap (page_and params a) (sent_anew Eop (mark_of 0 0) 0 (left_by (dcs params ∷ fcd 0 a ∷ pps Mps 0 0 0 ∷ fcd 0 b ∷ []))
    (comes_after a b false (other_octets a b other)))
    ∙ after_both (λ x y. page_in params (mark_of 0 0) x ∷ UsedNumber (mark_of 0 0) Mps ∷ page_in params (mark_of 0 0) y ∷ []) a b)

same_number_after_dcs_is : (params next : Params) (a b : List ℕ) → length a ≤ 64 → length b ≤ 64 → a ≢ b → found_in (dcs params ∷ fcd 0 a ∷ pps Eom 0 0 0 ∷ dcs next ∷ fcd 0 b ∷ pps Eop 0 0 0 ∷ []) ≡
    page_in params (mark_of 0 0) a ∷ UsedNumber (mark_of 0 0) Eom ∷ page_in next (mark_of 0 0) b ∷ []
unfolding hears hears_block judges takes_block gives_up left_open at_end at_dcs overlaid no_frames joined_frames all_there pages_before
    is_again is_resend
same_number_after_dcs_is params next a b la lb other = found_is (dcs params ∷ fcd 0 a ∷ pps Eom 0 0 0 ∷ dcs next ∷ fcd 0 b ∷ pps Eop 0 0 0 ∷ [])
    (tt, (la, (tt, (tt, (lb, (tt, tt))))))
    ∙ (ap (page_and params a) (sent_anew Eop (mark_of 0 0) 0
    (left_by (dcs params ∷ fcd 0 a ∷ pps Eom 0 0 0 ∷ dcs next ∷ fcd 0 b ∷ [])) (of_any_size a b other (beq params.small next.small)))
    ∙ after_both (λ x y. page_in params (mark_of 0 0) x ∷ UsedNumber (mark_of 0 0) Eom ∷ page_in next (mark_of 0 0) y ∷ []) a b)

same_block_number_is : (params next : Params) (a b : List ℕ) → length a ≤ 64 → length b ≤ 64 → a ≢ b → found_in (dcs params ∷ fcd 0 a ∷ pps Null 0 0 0 ∷ fcd 0 b ∷ pps Eop 0 0 0 ∷ []) ≡
    UsedNumber (mark_of 0 0) Null ∷ page_in params (mark_of 0 0) (a ++ b) ∷ []
unfolding hears hears_block judges takes_block gives_up left_open at_end at_dcs overlaid no_frames joined_frames all_there pages_before
    is_again is_resend
same_block_number_is params next a b la lb other = found_is (dcs params ∷ fcd 0 a ∷ pps Null 0 0 0 ∷ fcd 0 b ∷ pps Eop 0 0 0 ∷ [])
    (tt, (la, (tt, (lb, (tt, tt)))))
    ∙ (ap (λ (step : Step). (step.found ++ []) ++ at_end step.then)
    (sent_anew Eop (mark_of 0 0) 0 (left_by (dcs params ∷ fcd 0 a ∷ pps Null 0 0 0 ∷ fcd 0 b ∷ []))
    (comes_after a b false (other_octets a b other)))
    ∙ ap (λ (octets : List ℕ). UsedNumber (mark_of 0 0) Null ∷ page_in params (mark_of 0 0) octets ∷ []) (two_parts a b))

same_number_after_eop_is : (params next : Params) (a b : List ℕ) → length a ≤ 64 → length b ≤ 64 → a ≢ b → found_in (dcs params ∷ fcd 0 a ∷ pps Eop 0 0 0 ∷ fcd 0 b ∷ pps Eop 0 0 0 ∷ []) ≡
    page_in params (mark_of 0 0) a ∷ BlockAfterEnd (mark_of 0 0) Eop ∷ []
unfolding hears hears_block judges takes_block gives_up left_open at_end at_dcs overlaid no_frames joined_frames all_there pages_before
    is_again is_resend
same_number_after_eop_is params next a b la lb other = found_is (dcs params ∷ fcd 0 a ∷ pps Eop 0 0 0 ∷ fcd 0 b ∷ pps Eop 0 0 0 ∷ [])
    (tt, (la, (tt, (lb, (tt, tt)))))
    ∙ (ap (page_and params a) (sent_anew Eop (mark_of 0 0) 0 (left_by (dcs params ∷ fcd 0 a ∷ pps Eop 0 0 0 ∷ fcd 0 b ∷ []))
    (comes_after a b false (other_octets a b other)))
    ∙ after_all (λ x. page_in params (mark_of 0 0) x ∷ BlockAfterEnd (mark_of 0 0) Eop ∷ []) a)

pub captures_mean : CapturesMean
unfolding hears hears_block judges takes_block gives_up left_open at_end at_dcs overlaid no_frames joined_frames all_there pages_before
    is_again is_resend
captures_mean params next a b la lb = record {
  one_block = one;
  two_blocks = two;
  two_pages = found_is (dcs params ∷ fcd 0 a ∷ pps Mps 0 0 0 ∷ fcd 0 b ∷ pps Eop 1 0 0 ∷ []) (tt, (la, (tt, (lb, (tt, tt)))))
      ∙ pages params a b;
  two_groups = found_is (dcs params ∷ fcd 0 a ∷ pps Eom 0 0 0 ∷ dcs next ∷ fcd 0 b ∷ pps Eop 1 0 0 ∷ []) (
    tt,
    (
      la,
      (
        tt,
        (
          tt,
          (
            lb,
            (
              tt,
              tt,
            ),
          ),
        ),
      ),
    ),
  ) ∙ pages next a b;
  page_again = page_again_is params next a b la lb;
  block_again = block_again_is params next a b la lb;
  frame_again = found_is (dcs params ∷ fcd 1 b ∷ pps Eop 0 0 1 ∷ fcd 0 a ∷ pps Eop 0 0 1 ∷ []) (tt, (lb, (tt, (la, (tt, tt)))))
      ∙ ap (λ (octets : List ℕ). page_in params (mark_of 0 0) octets ∷ []) (joined a b);
  smaller_last = found_is (dcs params ∷ fcd 1 b ∷ pps Eop 0 0 1 ∷ fcd 0 a ∷ pps Eop 0 0 0 ∷ []) (tt, (lb, (tt, (la, (tt, tt)))))
      ∙ ap (λ (octets : List ℕ). page_in params (mark_of 0 0) octets ∷ []) (joined a b);
  later_frame = found_is (dcs params ∷ fcd 0 a ∷ fcd 0 b ∷ pps Eop 0 0 0 ∷ []) (tt, (la, (lb, (tt, tt))))
      ∙ ap (λ (octets : List ℕ). page_in params (mark_of 0 0) octets ∷ []) (append-nil b);
  later_block = found_is (dcs params ∷ fcd 0 a ∷ pps Eop 0 0 1 ∷ fcd 0 b ∷ fcd 1 a ∷ pps Eop 0 0 1 ∷ []) (
    tt,
    (
      la,
      (
        tt,
        (
          lb,
          (
            la,
            (
              tt,
              tt,
            ),
          ),
        ),
      ),
    ),
  ) ∙ ap (λ (octets : List ℕ). page_in params (mark_of 0 0) octets ∷ []) (joined b a);
  never_came = never;
  page_after = found_is (dcs params ∷ fcd 1 b ∷ pps Mps 0 0 1 ∷ fcd 0 a ∷ pps Eop 1 0 0 ∷ []) (tt, (lb, (tt, (la, (tt, tt)))))
      ∙ ap (λ (octets : List ℕ). MissingFrame (mark_of 0 0) 0 ∷ page_in params (mark_of 1 0) octets ∷ []) (append-nil a);
  block_after = found_is (dcs params ∷ fcd 1 b ∷ pps Null 0 0 1 ∷ fcd 0 a ∷ pps Eop 0 1 0 ∷ []) (tt, (lb, (tt, (la, (tt, tt)))));
  no_block = found_is (dcs params ∷ fcd 0 a ∷ pps Mps 0 1 0 ∷ fcd 0 b ∷ pps Eop 1 0 0 ∷ []) (tt, (la, (tt, (lb, (tt, tt)))))
      ∙ ap (λ (octets : List ℕ). MissingBlocks (mark_of 0 1) ∷ page_in params (mark_of 1 0) octets ∷ []) (append-nil b);
  no_end = found_is (dcs params ∷ fcd 0 a ∷ []) (tt, (la, tt));
  dcs_in_block = found_is (dcs params ∷ fcd 0 a ∷ dcs next ∷ fcd 0 b ∷ pps Eop 0 0 0 ∷ []) (tt, (la, (tt, (lb, (tt, tt)))))
      ∙ ap (λ (octets : List ℕ). Unfinished ∷ page_in next (mark_of 0 0) octets ∷ []) (append-nil b);
  dcs_in_page = found_is (dcs params ∷ fcd 0 a ∷ pps Null 0 0 0 ∷ dcs next ∷ fcd 0 b ∷ pps Eop 0 0 0 ∷ [])
      (tt, (la, (tt, (tt, (lb, (tt, tt))))))
      ∙ ap (λ (octets : List ℕ). Unfinished ∷ page_in next (mark_of 0 0) octets ∷ []) (append-nil b);
  dcs_in_resend = found_is (dcs params ∷ fcd 0 a ∷ pps Eop 0 0 1 ∷ dcs next ∷ fcd 1 b ∷ pps Eop 0 0 1 ∷ []) (
    tt,
    (
      la,
      (
        tt,
        (
          tt,
          (
            lb,
            (
              tt,
              tt,
            ),
          ),
        ),
      ),
    ),
  );
  no_dcs = unread;
  lost_dcs = found_is (dcs params ∷ fcd 0 a ∷ pps Eom 0 0 0 ∷ fcd 0 b ∷ pps Mps 1 0 0 ∷ fcd 0 a ∷ pps Eop 2 0 0 ∷ [])
      (tt, (la, (tt, (lb, (tt, (la, (tt, tt)))))))
      ∙ after_all (λ x. page_in params (mark_of 0 0) x ∷ BlockAfterEnd (mark_of 1 0) Eom ∷ BlockAfterEnd (mark_of 2 0) Eom ∷ []) a;
  lost_dcs_of_call = found_is (dcs params ∷ fcd 0 a ∷ pps Eop 0 0 0 ∷ fcd 0 b ∷ pps Eop 0 1 0 ∷ []) (tt, (la, (tt, (lb, (tt, tt)))))
      ∙ after_all (λ x. page_in params (mark_of 0 0) x ∷ MissingBlocks (mark_of 0 1) ∷ BlockAfterEnd (mark_of 0 1) Eop ∷ []) a;
  lost_dcs_and_frame = found_is (dcs params ∷ fcd 1 b ∷ pps Eom 0 0 1 ∷ fcd 0 a ∷ pps Eop 1 0 0 ∷ []) (tt, (lb, (tt, (la, (tt, tt)))));
  lost_dcs_and_pps = found_is (dcs params ∷ fcd 0 a ∷ pps Eom 0 0 0 ∷ fcd 0 b ∷ []) (tt, (la, (tt, (lb, tt))))
      ∙ after_all (λ x. page_in params (mark_of 0 0) x ∷ Unfinished ∷ []) a;
  lost_dcs_after_dcn = found_is (dcs params ∷ fcd 0 a ∷ pps Mps 0 0 0 ∷ dcn ∷ fcd 0 b ∷ pps Eop 0 0 0 ∷ [])
      (tt, (la, (tt, (tt, (lb, (tt, tt))))))
      ∙ after_all (λ x. page_in params (mark_of 0 0) x ∷ MissingAfter 1 Mps ∷ BlockBeforeDcs (mark_of 0 0) ∷ []) a;
  no_page = found_is (dcs params ∷ fcd 0 a ∷ pps Mps 0 0 0 ∷ fcd 0 b ∷ pps Eop 2 0 0 ∷ []) (tt, (la, (tt, (lb, (tt, tt)))))
      ∙ after_both (λ x y. page_in params (mark_of 0 0) x ∷ MissingPage 1 ∷ page_in params (mark_of 2 0) y ∷ []) a b;
  no_page_end = found_is (dcs params ∷ fcd 0 a ∷ pps Null 0 0 0 ∷ fcd 0 b ∷ pps Eop 1 0 0 ∷ []) (tt, (la, (tt, (lb, (tt, tt)))))
      ∙ after_all (λ x. MissingPage 0 ∷ page_in params (mark_of 1 0) x ∷ []) b;
  no_first_page = found_is (dcs params ∷ fcd 0 a ∷ pps Eop 2 0 0 ∷ []) (tt, (la, (tt, tt)))
      ∙ after_all (λ x. MissingPage 0 ∷ MissingPage 1 ∷ page_in params (mark_of 2 0) x ∷ []) a;
  page_255 = found_is (dcs params ∷ fcd 0 a ∷ pps Mps 255 0 0 ∷ fcd 0 b ∷ pps Eop 0 0 0 ∷ []) (tt, (la, (tt, (lb, (tt, tt)))))
      ∙ after_both (λ x y. map (λ number. MissingPage number) (range_with_len 0 255) ++ page_in params (mark_of 255 0) x
      ∷ page_in params (mark_of 0 0) y ∷ []) a b;
  no_page_255 = far;
  next_call = found_is (dcs params ∷ fcd 0 a ∷ pps Mps 0 0 0 ∷ dcn ∷ dcs next ∷ fcd 0 b ∷ pps Eop 1 0 0 ∷ [])
      (tt, (la, (tt, (tt, (tt, (lb, (tt, tt)))))))
      ∙ after_both (λ x y. page_in params (mark_of 0 0) x ∷ MissingAfter 1 Mps ∷ MissingPage 0 ∷ page_in next (mark_of 1 0) y ∷ []) a b;
  call_after_eop = found_is (dcs params ∷ fcd 0 a ∷ pps Eop 0 0 0 ∷ dcs next ∷ fcd 0 b ∷ pps Eop 1 0 0 ∷ [])
      (tt, (la, (tt, (tt, (lb, (tt, tt))))))
      ∙ after_both (λ x y. page_in params (mark_of 0 0) x ∷ MissingPage 0 ∷ page_in next (mark_of 1 0) y ∷ []) a b;
  lost_dcn = found_is (dcs params ∷ fcd 0 a ∷ pps Mps 0 0 0 ∷ fcd 0 b ∷ pps Mps 1 0 0 ∷ dcs next ∷ fcd 0 b ∷ pps Eop 0 0 0 ∷ [])
      (tt, (la, (tt, (lb, (tt, (tt, (lb, (tt, tt))))))))
      ∙ after_both (λ x y. page_in params (mark_of 0 0) x ∷ page_in params (mark_of 1 0) y ∷ MissingAfter 2 Mps
      ∷ page_in next (mark_of 0 0) y ∷ []) a b;
  lost_in_page = found_is (dcs params ∷ fcd 0 a ∷ pps Mps 0 0 0 ∷ fcd 0 a ∷ pps Null 1 0 0 ∷ fcd 0 b ∷ pps Eop 0 0 0 ∷ [])
      (tt, (la, (tt, (la, (tt, (lb, (tt, tt)))))))
      ∙ after_both (λ x y. page_in params (mark_of 0 0) x ∷ Unfinished ∷ page_in params (mark_of 0 0) y ∷ []) a b;
  after_dcs = following;
  two_dcs = found_is (dcs params ∷ fcd 0 a ∷ pps Mps 0 0 0 ∷ dcs next ∷ fcd 0 b ∷ pps Eop 1 0 0 ∷ [])
      (tt, (la, (tt, (tt, (lb, (tt, tt)))))) ∙ pages next a b;
  end_again = found_is (dcs params ∷ fcd 0 a ∷ pps Mps 0 0 0 ∷ pps Eop 0 0 0 ∷ []) (tt, (la, (tt, (tt, tt))))
      ∙ after_all (λ x. page_in params (mark_of 0 0) x ∷ []) a;
  goes_on_again = found_is (dcs params ∷ fcd 0 a ∷ pps Eop 0 0 0 ∷ pps Mps 0 0 0 ∷ fcd 0 b ∷ pps Eop 1 0 0 ∷ [])
      (tt, (la, (tt, (tt, (lb, (tt, tt)))))) ∙ pages params a b;
  dcs_in_page_again = dcs_in_page_again_is params next a b la lb;
  same_page_number = same_page_number_is params next a b la lb;
  same_number_after_dcs = same_number_after_dcs_is params next a b la lb;
  same_block_number = same_block_number_is params next a b la lb;
  same_number_after_eop = same_number_after_eop_is params next a b la lb;
  dcn_in_page = found_is (dcs params ∷ fcd 0 a ∷ dcn ∷ []) (tt, (la, (tt, tt)));
}
  where
    pages : (then : Params) (a b : List ℕ) → page_in params (mark_of 0 0) (a ++ []) ∷ page_in then (mark_of 1 0) (b ++ []) ∷ []
        ≡ page_in params (mark_of 0 0) a ∷ page_in then (mark_of 1 0) b ∷ []
    pages then a b = ap (λ (octets : List ℕ). page_in params (mark_of 0 0) octets ∷ page_in then (mark_of 1 0) (b ++ []) ∷ [])
        (append-nil a)
        ∙ ap (λ (octets : List ℕ). page_in params (mark_of 0 0) a ∷ page_in then (mark_of 1 0) octets ∷ []) (append-nil b)

    -- the pages of `no_page_255`, whatever their octets are
    far_pages : List ℕ → List ℕ → List ℕ → List Captured
    far_pages x y z = map (λ number. MissingPage number) (range_with_len 0 127) ++ page_in params (mark_of 127 0) x
        ∷ map (λ number. MissingPage number) (range_with_len 128 126) ++ page_in params (mark_of 254 0) y
        ∷ MissingPage 255 ∷ MissingPage 0 ∷ page_in params (mark_of 1 0) z ∷ []

    far : found_in (dcs params ∷ fcd 0 a ∷ pps Mps 127 0 0 ∷ fcd 0 b ∷ pps Mps 254 0 0 ∷ fcd 0 a ∷ pps Eop 1 0 0 ∷ []) ≡ far_pages a b a
    far = found_is (dcs params ∷ fcd 0 a ∷ pps Mps 127 0 0 ∷ fcd 0 b ∷ pps Mps 254 0 0 ∷ fcd 0 a ∷ pps Eop 1 0 0 ∷ [])
        (tt, (la, (tt, (lb, (tt, (la, (tt, tt)))))))
        ∙ (after_both (λ x y. far_pages x y (a ++ [])) a b ∙ after_all (far_pages a b) a)

    -- a first page with these octets, and what is missing after its end
    first : PageEnd → List ℕ → List Captured
    first ends x = page_in params (mark_of 0 0) x ∷ after_first ends

    one : (ends : PageEnd) → ends ≢ Null
        → found_in (dcs params ∷ fcd 0 a ∷ pps ends 0 0 0 ∷ []) ≡ page_in params (mark_of 0 0) a ∷ after_first ends
    one Null other = absurd (other refl)
    one Mps other = found_is (dcs params ∷ fcd 0 a ∷ pps Mps 0 0 0 ∷ []) (tt, (la, (tt, tt))) ∙ after_all (first Mps) a
    one Eom other = found_is (dcs params ∷ fcd 0 a ∷ pps Eom 0 0 0 ∷ []) (tt, (la, (tt, tt))) ∙ after_all (first Eom) a
    one Eop other = found_is (dcs params ∷ fcd 0 a ∷ pps Eop 0 0 0 ∷ []) (tt, (la, (tt, tt))) ∙ after_all (first Eop) a

    two : (ends : PageEnd) → ends ≢ Null → found_in (dcs params ∷ fcd 0 a ∷ pps Null 0 0 0 ∷ fcd 0 b ∷ pps ends 0 1 0 ∷ [])
        ≡ page_in params (mark_of 0 1) (a ++ b) ∷ after_first ends
    two Null other = absurd (other refl)
    two Mps other = found_is (dcs params ∷ fcd 0 a ∷ pps Null 0 0 0 ∷ fcd 0 b ∷ pps Mps 0 1 0 ∷ []) (tt, (la, (tt, (lb, (tt, tt)))))
        ∙ ap (λ (octets : List ℕ). page_in params (mark_of 0 1) octets ∷ after_first Mps) (two_parts a b)
    two Eom other = found_is (dcs params ∷ fcd 0 a ∷ pps Null 0 0 0 ∷ fcd 0 b ∷ pps Eom 0 1 0 ∷ []) (tt, (la, (tt, (lb, (tt, tt)))))
        ∙ ap (λ (octets : List ℕ). page_in params (mark_of 0 1) octets ∷ after_first Eom) (two_parts a b)
    two Eop other = found_is (dcs params ∷ fcd 0 a ∷ pps Null 0 0 0 ∷ fcd 0 b ∷ pps Eop 0 1 0 ∷ []) (tt, (la, (tt, (lb, (tt, tt)))))
        ∙ ap (λ (octets : List ℕ). page_in params (mark_of 0 1) octets ∷ after_first Eop) (two_parts a b)

    following : (ends : PageEnd) → ends ≡ Mps ⊎ ends ≡ Eom
        → found_in (dcs params ∷ fcd 0 a ∷ pps ends 0 0 0 ∷ dcs next ∷ []) ≡ page_in params (mark_of 0 0) a ∷ after_first ends
    following Null which = elim which [ inl e ↦ cc | inr e ↦ cc ]
    following Mps which = found_is (dcs params ∷ fcd 0 a ∷ pps Mps 0 0 0 ∷ dcs next ∷ []) (tt, (la, (tt, (tt, tt)))) ∙ after_all (first Mps) a
    following Eom which = found_is (dcs params ∷ fcd 0 a ∷ pps Eom 0 0 0 ∷ dcs next ∷ []) (tt, (la, (tt, (tt, tt)))) ∙ after_all (first Eom) a
    following Eop which = elim which [ inl e ↦ cc | inr e ↦ cc ]

    never : (ends : PageEnd) → found_in (dcs params ∷ fcd 1 b ∷ pps ends 0 0 1 ∷ []) ≡ MissingFrame (mark_of 0 0) 0 ∷ after_first ends
    never Null = found_is (dcs params ∷ fcd 1 b ∷ pps Null 0 0 1 ∷ []) (tt, (lb, (tt, tt)))
    never Mps = found_is (dcs params ∷ fcd 1 b ∷ pps Mps 0 0 1 ∷ []) (tt, (lb, (tt, tt)))
    never Eom = found_is (dcs params ∷ fcd 1 b ∷ pps Eom 0 0 1 ∷ []) (tt, (lb, (tt, tt)))
    never Eop = found_is (dcs params ∷ fcd 1 b ∷ pps Eop 0 0 1 ∷ []) (tt, (lb, (tt, tt)))

    unread : (ends : PageEnd) → found_in (fcd 0 a ∷ pps ends 0 0 0 ∷ []) ≡ BlockBeforeDcs (mark_of 0 0) ∷ after_first ends
    unread Null = found_is (fcd 0 a ∷ pps Null 0 0 0 ∷ []) (la, (tt, tt))
    unread Mps = found_is (fcd 0 a ∷ pps Mps 0 0 0 ∷ []) (la, (tt, tt))
    unread Eom = found_is (fcd 0 a ∷ pps Eom 0 0 0 ∷ []) (la, (tt, tt))
    unread Eop = found_is (fcd 0 a ∷ pps Eop 0 0 0 ∷ []) (la, (tt, tt))

-- ---- every state

pub others_change_nothing : OthersChangeNothing
unfolding hears
others_change_nothing (dcs params) s none = absurd none
others_change_nothing (fcd number octets) s none = absurd none
others_change_nothing (pps ends page block last) s none = absurd none
others_change_nothing dcn s none = absurd none
others_change_nothing signal s other = refl

too_long : (params : Params) (octets : List ℕ) → IsTooLong params octets → within_frame_size params octets ≡ false
unfolding within_frame_size
too_long params octets long = at params.small refl long
  where
    at : (small : Bool) → params.small ≡ small → IsTooLong params octets → nat_le (length octets) (frame_size small) ≡ false
    at true is (inl (same, more)) = grind (arith, nat_tests)
    at true is (inr (same, more)) = let e : true ≡ false = sym is ∙ same in cc
    at false is (inl (same, more)) = let e : false ≡ true = sym is ∙ same in cc
    at false is (inr (same, more)) = grind (arith, nat_tests)

not_too_long : (params : Params) (octets : List ℕ) → (IsTooLong params octets → ⊥) → within_frame_size params octets ≡ true
unfolding within_frame_size
not_too_long params octets short = at params.small refl
  where
    least : (most : ℕ) → (most < length octets → ⊥) → length octets ≤ most
    least most none = omega (arith, none)

    at : (small : Bool) → params.small ≡ small → nat_le (length octets) (frame_size small) ≡ true
    at true is = le-leb (length octets) 64 (least 64 (λ more. short (inl (is, more))))
    at false is = le-leb (length octets) 256 (least 256 (λ more. short (inr (is, more))))

pub frames_are_kept : FramesAreKept
unfolding hears
frames_are_kept params number octets s is some = (
  λ short. (
    slice_set s.coming number (Some octets),
    is_kept s.coming number octets some,
    heard
        ∙ by true (not_too_long params octets short),
  ),
  λ long. heard ∙ by false (too_long params octets long),
)
  where
    kept : Capture
    kept = record s { coming = slice_set s.coming number (Some octets); begun = true }

    heard : hears_fcd s.ended s.params number octets s ≡ hears_fcd None (Some params) number octets s
    heard = at s.ended is
      where
        at : (ended : Option PageEnd) → agreed_after ended s.params ≡ Some params
            → hears_fcd ended s.params number octets s ≡ hears_fcd None (Some params) number octets s
        at None same = ap (λ (p : Option Params). hears_fcd None p number octets s) same
        at (Some ended) same = let e : None ≡ Some params = same in cc

    by : (b : Bool) → within_frame_size params octets ≡ b → hears_fcd None (Some params) number octets s ≡ finds_none (cond b kept s)
    by b e = ap (λ (b : Bool). finds_none (cond b kept s)) e

either : {A : Type 0} (P : A → Type 0) (b : Bool) (x y : A) → P x → P y → P (cond b x y)
either P true x y f g = f
either P false x y f g = g

-- a PPS of a block leaves it waiting, or takes it
abbrev Leaves : PageEnd → Mark → ℕ → Option Pps → Step → Type 0
Leaves ends mark last before step = (step.then.coming ≡ no_frames) × (step.then.begun ≡ false)
    × (IsAwaited ends mark last before step.then.waiting
    ⊎ ((step.then.waiting ≡ None) × (step.then.taken ≡ Some mark) × IsAfterBlock ends mark step.then))

next_is : (n : ℕ) → n < 255 → (n + 1) % 256 ≡ n + 1
next_is n less = omega (arith, less)

judged : (params : Params) (ends : PageEnd) (mark : Mark) (last counts : ℕ) (before : Option Pps) (s : Capture)
    → IsAwaited ends mark last before (Some (record { mark = mark; ends = ends; last = counts }))
    → Leaves ends mark last before (judges params ends mark counts (gathers s))
unfolding judges takes_block
judged params ends mark last counts before s awaited = either (Leaves ends mark last before) (all_there (gathers s).kept counts)
    (takes_block params ends mark (joined_frames (gathers s).kept (counts + 1)) (gathers s))
    (finds_none (record (gathers s) { waiting = Some (record { mark = mark; ends = ends; last = counts }) }))
    (taken ends) (refl, refl, inl awaited)
  where
    taken : (ends : PageEnd)
        → Leaves ends mark last before (takes_block params ends mark (joined_frames (gathers s).kept (counts + 1)) (gathers s))
    taken Null = (refl, refl, inr (refl, refl, (refl, (λ less. next_is mark.block less), (λ e. ap (λ (n : ℕ). (n + 1) % 256) e))))
    taken Mps = (refl, refl, inr (refl, refl, (refl, refl, refl, refl)))
    taken Eom = (refl, refl, inr (refl, refl, (refl, refl, refl, refl)))
    taken Eop = (refl, refl, inr (refl, refl, (refl, refl, refl, refl)))

-- the last frame that counts is one or the other
counts_new : (before : Option Pps) (last : ℕ) → last ≤ last_of before last
counts_new None last = omega arith
counts_new (Some waiting) last = omega arith

-- a block that no DCS went before isn't read
refused : (ends : PageEnd) (mark : Mark) (last : ℕ) (before : Option Pps) (s : Capture) → Leaves ends mark last before (refuses ends mark s)
refused Null mark last before s = (refl, refl, inr (refl, refl, (refl, (λ less. next_is mark.block less), (λ e. ap (λ (n : ℕ). (n + 1) % 256) e))))
refused Mps mark last before s = (refl, refl, inr (refl, refl, (refl, refl, refl, refl)))
refused Eom mark last before s = (refl, refl, inr (refl, refl, (refl, refl, refl, refl)))
refused Eop mark last before s = (refl, refl, inr (refl, refl, (refl, refl, refl, refl)))

judged_by : (params : Option Params) (ends : PageEnd) (mark : Mark) (last counts : ℕ) (before : Option Pps) (s : Capture)
    → IsAwaited ends mark last before (Some (record { mark = mark; ends = ends; last = counts }))
    → Leaves ends mark last before (judges_by params ends mark counts s)
judged_by None ends mark last counts before s awaited = refused ends mark last before s
judged_by (Some params) ends mark last counts before s awaited = judged params ends mark last counts before s awaited

-- what waits for frames of a block goes on waiting as it comes again
still_waits : (mark : Mark) (s : Capture) → is_waiting s.waiting mark ≡ true → (turns mark s).then.waiting ≡ s.waiting
still_waits mark s same =
    ap (λ (b : Bool). (cond b (finds_none s) (gives_up s s.waiting) >>> turns_number mark >>> turns_page mark >>> turns_to mark).then.waiting)
    same
    ∙ (turned_to mark (turns_page mark (turns_number mark s).then).then
    ∙ (turned_page mark (turns_number mark s).then ∙ turned_number mark s))

pub blocks_end : BlocksEnd
unfolding hears hears_block
blocks_end ends mark last s new =
    subst (Leaves ends mark last s.waiting) (sym heard)
    (judged_by (agreed turned) ends mark last (last_of turned.waiting last) s.waiting turned awaited)
  where
    turned : Capture
    turned = (turns mark s).then

    awaited : IsAwaited ends mark last s.waiting (Some (record { mark = mark; ends = ends; last = last_of turned.waiting last }))
    awaited = record {
      counts = last_of turned.waiting last;
      waits = refl;
      new = counts_new turned.waiting last;
      old = λ waiting e same.
          let waits : turned.waiting ≡ Some waiting = still_waits mark s same ∙ e in
          subst (λ (w : Option Pps). waiting.last ≤ last_of w last) (sym waits) (omega arith);
    }

    heard : hears_pps ends mark last s ≡ hears_block ends mark last s
    heard = sent_anew ends mark last s new

-- ---- frames that are sent again

same_frame : (had coming : Option (List ℕ)) → Decides (is_same_frame had coming) ((octets : List ℕ) → coming ≡ Some octets → had ≡ Some octets)
same_frame had None = (λ e octets is. let no : None ≡ Some octets = is in cc, λ each. refl)
same_frame None (Some octets) = (λ e. cc, λ each. let no : None ≡ Some octets = each octets refl in cc)
same_frame (Some had) (Some octets) = (
  λ e later is. ap (λ (x : List ℕ). Some x) ((bytes_eq-Decides had octets).0 e) ∙ is,
  λ each. (bytes_eq-Decides had octets).1 (of_some (each octets refl)),
)
  where
    of_some : Some had ≡ Some octets → had ≡ octets
    of_some e = cc

pub resends_are_the_same : ResendsAreTheSame
unfolding is_resend
resends_are_the_same had coming =
    Decides-below_and (λ n. is_same_frame (frame_of had n) (frame_of coming n))
    (λ n. (octets : List ℕ) → frame_of coming n ≡ Some octets → frame_of had n ≡ Some octets) (are_same_below had coming)
    (λ n. same_frame (frame_of had n) (frame_of coming n)) refl (λ n. refl) 256

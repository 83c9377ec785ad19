-- What holds of an answerer and of what was said, and that a frame of a caller that keeps the rules keeps it.
use Rattle.std.proofs.Common.{◌≡◌, ◌⊎◌, ℕ, ◌<◌, Bool, true, false, cond, ◌&&◌, ◌||◌, List, [], ◌∷◌, refl, sym, ap, subst, inl, inr, ◌∙◌, length}
use Rattle.std.specs.Prelude.{Some, None, unwrap_or, not, nat_le}
use Rattle.std.specs.List.{find}
use Rattle.signals.specs.Signals.{PlainSignal, dis, dcs, cfr, ftt, fcd, rcp, pps, ppr, mcf, rnr, rr, dcn, other}
use Rattle.signals.specs.Marks.{same_mark}
use Rattle.signals.specs.declared.mark.Mark.{Mark}
use Rattle.signals.specs.declared.signal.PageEnd.{PageEnd}
use Rattle.signals.specs.declared.signal.Side.TheVariants.{Caller as CallerSide, Answerer as AnswererSide}
use Rattle.partial_page.specs.Store.{no_frames}
use Rattle.stations.specs.AnswererStep.{Answerer}
use Rattle.stations.specs.AnswererStep.{is_repeated}
use Rattle.stations.specs.declared.turn.AnswererState.TheVariants.{Message}
use Rattle.referee.proofs.Numbers.{here}
use Rattle.referee.specs.Frames.{asked, holds, some_frame}
use Rattle.referee.specs.History.{PlainSaid, look, is_fcd}
use Rattle.referee.specs.Questions.{tell, is_err, is_ctr}
use Rattle.referee.specs.Rules.{breaks, is_clean, rules as all_rules}
use Rattle.referee.specs.declared.rule.Rule.{Rule}
use Rattle.referee.specs.declared.rule.Rule.TheVariants as rule
use Rattle.referee.specs.declared.frame_test.FrameTest.TheVariants.{NeverSent}
use Rattle.referee.specs.declared.question.Question.TheVariants.{Sent, MayHave, SurelyHas, Below, Reaches, OtherMark, GoesOn, Begins, IsBusy}
use Rattle.referee.specs.declared.question.Question.TheVariants.{HasEnded}
use Rattle.judged_calls.proofs.BlockViews.{clash, none_some, View, view, empty, with_pps, last_mark, same_marks}
use Rattle.judged_calls.proofs.BlockViews.{Fits, fits_empty, fcd_fits, pps_fits}
use Rattle.judged_calls.specs.AnyCaller.{by_caller, MaySay}
use Rattle.judged_calls.proofs.FramesCome.{same_number}
use Rattle.judged_calls.proofs.NoneBroken.{none_found}

pub some_is : {A : Type 0} (x y : A) → Some x ≡ Some y → x ≡ y
some_is x y e = cc

pub same_self : (m : Mark) → same_mark m m ≡ true
same_self m = rw (same_number m.page, same_number m.block) refl

-- ---- what is kept

-- an FCD may come now
abbrev pub can_burst : List PlainSaid → Bool
can_burst before = asked GoesOn before || asked Begins before

-- the block under way is the one that was accepted last
abbrev pub IsAcceptedBlock : Answerer → View → Type 0
IsAcceptedBlock s v = (m : Mark) × (v.mark ≡ Some m) × (is_repeated s.accepted m ≡ true)

-- what holds of an answerer and of what was said
pub record Stands (s : Answerer) (before : List PlainSaid) : Type 0 where
  pub fits : Fits s (view false before)
  -- an FCD that comes now is of the block under way, or of a new one
  pub opens : can_burst before ≡ true → (view true before ≡ view false before) ⊎ ((view true before ≡ empty) × (s.asked ≡ None))
  pub alike : (view true before ≡ view false before) ⊎ IsAcceptedBlock s (view false before)
  pub busy : asked IsBusy before ≡ true → IsAcceptedBlock s (view false before)
  pub runs : s.ending ≡ None → asked (HasEnded AnswererSide) before ≡ false
  pub quiet : (s.state ≡ Message → ⊥) → (s.frames ≡ no_frames) × (s.asked ≡ None)
  pub places : length s.frames ≡ 256
  pub clean : is_clean before ≡ true

-- ---- rules that are kept

pub clean_more : (said : PlainSaid) (before : List PlainSaid) → ((r : Rule) → breaks r said before ≡ false) → is_clean before ≡ true →
    is_clean (said ∷ before) ≡ true
clean_more said before h clean = rw (none_found (λ r. breaks r said before) all_rules h, clean) refl

-- where none is found, the tests of the elements hold of none
abbrev Fail : {A : Type 0} → (A → Bool) → List A → Type 0
Fail test [] = Unit {0}
Fail test (x ∷ xs) = (test x ≡ false) × Fail test xs

all_fail : {A : Type 0} (test : A → Bool) (xs : List A) → find test xs ≡ None → Fail test xs
all_fail test [] e = tt
all_fail test (x ∷ xs) e = at (test x) refl e (λ found. all_fail test xs found)
  where
    at : (b : Bool) → test x ≡ b → cond b (Some x) (find test xs) ≡ None → (find test xs ≡ None → Fail test xs) → Fail test (x ∷ xs)
    at true is found rest = none_some x (sym found)
    at false is found rest = (is, rest found)

module _ (signal : PlainSignal) (before : List PlainSaid) (may : MaySay signal before) where
  abbrev kept : Fail (λ r. breaks r (record { by = CallerSide; signal = signal }) before) all_rules
  kept = all_fail (λ r. breaks r (record { by = CallerSide; signal = signal }) before) all_rules may.right

  own : breaks rule.WrongSide (record { by = CallerSide; signal = signal }) before ≡ false
  own = kept.0

  let_burst : breaks rule.NoBurst (record { by = CallerSide; signal = signal }) before ≡ false
  let_burst = kept.1.1.1.1.0

  all_sent : breaks rule.Uncounted (record { by = CallerSide; signal = signal }) before ≡ false
  all_sent = kept.1.1.1.1.1.1.1.1.1.1.0

  pub repeated : breaks rule.NotRepeated (record { by = CallerSide; signal = signal }) before ≡ false
  repeated = kept.1.1.1.1.1.1.1.1.1.1.1.1.1.0

  pub not_busy : breaks rule.NotBusy (record { by = CallerSide; signal = signal }) before ≡ false
  not_busy = kept.1.1.1.1.1.1.1.1.1.1.1.1.1.1.1.1.1.1.1.1.1.0

  clean_call : is_clean before ≡ true → is_clean (record { by = CallerSide; signal = signal } ∷ before) ≡ true
  clean_call clean = rw (may.right, clean) refl

-- ---- the caller says a frame

-- whether the answerer has said DCN is the same for any block
pub ended_same : (before : List PlainSaid) (b c : Bool) → look (tell (HasEnded AnswererSide)) b before ≡ look (tell (HasEnded AnswererSide)) c before
ended_same [] b c = refl
ended_same (said ∷ before) b c =
    ap (unwrap_or (tell (HasEnded AnswererSide) false said)) (ended_same before (b || is_fcd said.signal) (c || is_fcd said.signal))

pub not_so : (b : Bool) → not b ≡ false → b ≡ true
not_so true e = refl
not_so false e = clash e

or_of : (a b : Bool) → (not a && not b) ≡ false → (a || b) ≡ true
or_of true b e = refl
or_of false true e = refl
or_of false false e = clash e

pub none_of : (a b : Bool) → (a || b) ≡ false → (a ≡ false) × (b ≡ false)
none_of true b e = clash e
none_of false b e = (refl, e)

-- a PPS counts frames that were sent
were_sent : (last : ℕ) (before : List PlainSaid) → some_frame (NeverSent last) before ≡ false → (n : ℕ) → n < 256 → nat_le n last ≡ true →
    asked (Sent n) before ≡ true
were_sent last before none n within low = at (asked (Sent n) before) refl
  where
    at : (b : Bool) → asked (Sent n) before ≡ b → b ≡ true
    at true is = refl
    at false is =
        clash (sym (here (λ k. holds (NeverSent last) k before) n within (rw (low, is) refl)) ∙ none)

module _ (s : Answerer) (before : List PlainSaid) (h : Stands s before) where
  -- a frame of a caller that tells nothing of a block, and lets no burst begin
  plain_calls : (signal : PlainSignal) → MaySay signal before → view false (by_caller signal before) ≡ view false before →
      view true (by_caller signal before) ≡ view true before → can_burst (by_caller signal before) ≡ false →
      asked IsBusy (by_caller signal before) ≡ asked IsBusy before →
      asked (HasEnded AnswererSide) (by_caller signal before) ≡ asked (HasEnded AnswererSide) before → Stands s (by_caller signal before)
  plain_calls signal may here there none busy ended = record {
    fits = subst (Fits s) (sym here) h.fits;
    opens = λ e. clash (sym e ∙ none);
    alike = alike_then h.alike;
    busy = λ e. subst (IsAcceptedBlock s) (sym here) (h.busy (sym busy ∙ e));
    runs = λ e. ended ∙ h.runs e;
    quiet = h.quiet;
    places = h.places;
    clean = clean_call signal before may h.clean;
  }
    where
      alike_then : (view true before ≡ view false before) ⊎ IsAcceptedBlock s (view false before) →
          (view true (by_caller signal before) ≡ view false (by_caller signal before)) ⊎ IsAcceptedBlock s (view false (by_caller signal before))
      alike_then (inl e) = inl (there ∙ (e ∙ sym here))
      alike_then (inr a) = inr (subst (IsAcceptedBlock s) (sym here) a)

  -- the view of an FCD's block
  opened : can_burst before ≡ true → Fits s (view true before)
  opened can = at (h.opens can)
    where
      at : (view true before ≡ view false before) ⊎ ((view true before ≡ empty) × (s.asked ≡ None)) → Fits s (view true before)
      at (inl e) = subst (Fits s) (sym e) h.fits
      at (inr e) = subst (Fits s) (sym e.0) (fits_empty s e.1)

  fcd_called : (number : ℕ) (octets : List ℕ) → MaySay (fcd number octets) before → Stands s (by_caller (fcd number octets) before)
  fcd_called number octets may = record {
    fits = fcd_fits s number (view true before)
        (opened (or_of (asked GoesOn before) (asked Begins before) (let_burst (fcd number octets) before may)));
    opens = λ e. inl refl;
    alike = inl refl;
    busy = λ e. clash (sym e);
    runs = λ e. ended_same before true false ∙ h.runs e;
    quiet = h.quiet;
    places = h.places;
    clean = clean_call (fcd number octets) before may h.clean;
  }

  pps_called : (ends : PageEnd) (page block last : ℕ) → MaySay (pps ends page block last) before →
      Stands s (by_caller (pps ends page block last) before)
  pps_called ends page block last may = record {
    fits = pps_fits s mark last (view false before) same
        (were_sent last before (all_sent (pps ends page block last) before may)) h.fits;
    opens = λ e. clash (sym e);
    alike = alike_then h.alike;
    busy = λ e. clash (sym e);
    runs = h.runs;
    quiet = h.quiet;
    places = h.places;
    clean = clean_call (pps ends page block last) before may h.clean;
  }
    where
      mark : Mark
      mark = record { page = page; block = block }

      same : (m : Mark) → last_mark false before ≡ Some m → m ≡ mark
      same m there =
          same_marks ends page block before false m there
          (none_of (asked (OtherMark ends page block) before) _ (repeated (pps ends page block last) before may)).0

      alike_then : (view true before ≡ view false before) ⊎ IsAcceptedBlock s (view false before) →
          (with_pps mark last (view true before) ≡ with_pps mark last (view false before)) ⊎
          IsAcceptedBlock s (with_pps mark last (view false before))
      alike_then (inl e) = inl (ap (with_pps mark last) e)
      alike_then (inr a) = inr (mark, refl, subst (λ m. is_repeated s.accepted m ≡ true) (same a.0 a.1) a.2)

  -- a signal that isn't read, and is no ERR
  other_view : (begun e : Bool) → e ≡ false → (view begun before) ≡ (record {
    sent = λ n. unwrap_or (cond e (Some false) None) (look (tell (Sent n)) begun before);
    may = λ n. unwrap_or (cond e (Some false) None) (look (tell (MayHave n)) begun before);
    sure = λ n. unwrap_or (cond e (Some false) None) (look (tell (SurelyHas n)) begun before);
    below = λ n. unwrap_or (cond e (Some false) None) (look (tell (Below n)) begun before);
    reaches = λ n. unwrap_or (cond e (Some false) None) (look (tell (Reaches n)) begun before);
    mark = cond e None (last_mark begun before);
  })
  other_view begun false is = refl
  other_view begun true is = clash is

  other_called : (octet : ℕ) → MaySay (other octet) before → Stands s (by_caller (other octet) before)
  other_called octet may =
      plain_calls (other octet) may refl (sym (other_view true (is_err octet) (none_of (is_err octet) (is_ctr octet) (own (other octet) before may)).0))
      (rw (own (other octet) before may) refl) refl refl

  pub caller_says : (signal : PlainSignal) → MaySay signal before → Stands s (by_caller signal before)
  caller_says (dcs params) may = plain_calls (dcs params) may refl refl refl refl refl
  caller_says (fcd number octets) may = fcd_called number octets may
  caller_says rcp may = plain_calls rcp may refl refl refl refl refl
  caller_says (pps ends page block last) may = pps_called ends page block last may
  caller_says rr may = plain_calls rr may refl refl refl refl refl
  caller_says dcn may = plain_calls dcn may refl refl refl refl refl
  caller_says (other octet) may = other_called octet may
  caller_says (dis caps) may = clash (own (dis caps) before may)
  caller_says cfr may = clash (own cfr before may)
  caller_says ftt may = clash (own ftt before may)
  caller_says (ppr marks) may = clash (own (ppr marks) before may)
  caller_says mcf may = clash (own mcf before may)
  caller_says rnr may = clash (own rnr before may)

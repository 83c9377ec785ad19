-- An answerer that follows its table is never the first to break a rule.
use Rattle.std.proofs.Common.{◌≡◌, ◌⊎◌, ℕ, ◌≤◌, ◌<◌, Bool, true, false, cond, ◌&&◌, ◌||◌, List, [], ◌∷◌, ◌++◌, refl, sym, ap, subst, inl, inr, ◌∙◌, arith, rules, length}
use Rattle.std.specs.Prelude.{Option, Some, None, not, nat_lt, is_some, slice_set, max}
use Rattle.signals.specs.Signals.{PlainSignal, dis, dcs, cfr, ftt, fcd, pps, ppr, mcf, rnr, rr, dcn}
use Rattle.signals.specs.Agreement.{allowed}
use Rattle.signals.specs.Marks.{same_mark}
use Rattle.signals.specs.declared.mark.Mark.{Mark}
use Rattle.signals.specs.declared.params.Caps.{Caps}
use Rattle.signals.specs.declared.params.Params.{Params}
use Rattle.signals.specs.declared.signal.PageEnd.{PageEnd}
use Rattle.signals.specs.declared.signal.PageEnd.TheVariants.{Null, Mps, Eom, Eop}
use Rattle.signals.specs.declared.signal.Side.TheVariants.{Answerer as AnswererSide}
use Rattle.partial_page.specs.Assembling.{Asked, all_there, last_counted, ppr_map, within_frame_size}
use Rattle.partial_page.specs.Store.{bit_of, has_frame, no_frames}
use Rattle.raster.specs.Pages.{PagePixels}
use Rattle.stations.proofs.PprMaps.{bit_in_map}
use Rattle.stations.specs.Inputs.{AnswererInput, t1, t2, is_busy, listens, trains}
use Rattle.stations.specs.Layers.{within_page_limit, page_read, is_good_training}
use Rattle.stations.specs.AnswererStep.{Answerer, AnswererAnswer, answerer_step, answerer_items, unless_answerer_ended, answerer_table, confirms, stores}
use Rattle.stations.specs.AnswererStep.{takes_block, is_repeated, is_clear, answers_pps, accepts, new_answerer, leaves}
use Rattle.stations.specs.declared.turn.AnswererState.{AnswererState}
use Rattle.stations.specs.declared.turn.AnswererState.TheVariants.{PhaseB, WaitTraining as InTraining, Message}
use Rattle.stations.specs.declared.turn.End.{End}
use Rattle.stations.specs.declared.turn.End.TheVariants.{NoAnswer, BadPage}
use Rattle.stations.specs.declared.turn.Turn.TheVariants as turn
use Rattle.referee.proofs.Numbers.{here, nowhere}
use Rattle.referee.specs.Frames.{asked, holds, some_frame, some_number}
use Rattle.referee.specs.History.{PlainSaid}
use Rattle.referee.specs.Rules.{breaks, is_clean}
use Rattle.referee.specs.declared.rule.Rule.{Rule}
use Rattle.referee.specs.declared.rule.Rule.TheVariants as rule
use Rattle.referee.specs.declared.frame_test.FrameTest.TheVariants.{NeverCame, ToldAsCome, AskedAgain, IsAskedFor, BeyondUnmarked}
use Rattle.referee.specs.declared.question.Question.TheVariants.{MayHave, SurelyHas, Below, Reaches, IsBusy, IsAsked}
use Rattle.referee.specs.declared.question.Question.TheVariants.{IsTraining, HasEnded}
use Rattle.judged_calls.proofs.BlockViews.{clash, none_some, View, view, empty, with_ppr, or_so, last_mark}
use Rattle.judged_calls.proofs.BlockViews.{Fits, fits_empty, mcf_fits, ppr_fits, fits_less, fits_kept, fits_accepted}
use Rattle.judged_calls.specs.AnyCaller.{Move, misses, meets, by_caller, called, moved, answered, talk, MaySay, IsFair, AreFair, AnswerersAreNotFirst, AreSaidFairly}
use Rattle.judged_calls.specs.SaidCalls.{and_said}
use Rattle.judged_calls.proofs.AsksAgain.{put_stays}
use Rattle.judged_calls.proofs.Bools.{or_true}
use Rattle.judged_calls.proofs.FramesThere.{no_frame, no_places, has_within, put_more, put_places, there_has, there_gap, leb_of, leb_so, ltb_none}
use Rattle.line_sim.proofs.Lists.{either}
use Rattle.judged_calls.proofs.CallerSays.{some_is, same_self, IsAcceptedBlock, Stands, clean_more, not_so, none_of, repeated, not_busy, caller_says}

-- ---- the answerer says a frame

abbrev pub by_answerer : PlainSignal → List PlainSaid → List PlainSaid
by_answerer signal before = record { by = AnswererSide; signal = signal } ∷ before

-- these tell nothing of a block
module _ (s : Answerer) (said : List PlainSaid) (h : Stands s said) (runs : asked (HasEnded AnswererSide) said ≡ false) where
  dis_said : (caps : Caps) → Stands s (by_answerer (dis caps) said)
  dis_said caps = record {
    fits = h.fits;
    opens = h.opens;
    alike = h.alike;
    busy = h.busy;
    runs = h.runs;
    quiet = h.quiet;
    places = h.places;
    clean = clean_more (record { by = AnswererSide; signal = dis caps }) said kept_rules h.clean;
  }
    where
      kept_rules : (r : Rule) → breaks r (record { by = AnswererSide; signal = dis caps }) said ≡ false
      kept_rules rule.Ended = runs
      kept_rules r = refl

  ftt_said : asked IsTraining said ≡ true → Stands s (by_answerer ftt said)
  ftt_said trained = record {
    fits = h.fits;
    opens = h.opens;
    alike = h.alike;
    busy = h.busy;
    runs = h.runs;
    quiet = h.quiet;
    places = h.places;
    clean = clean_more (record { by = AnswererSide; signal = ftt }) said kept_rules h.clean;
  }
    where
      kept_rules : (r : Rule) → breaks r (record { by = AnswererSide; signal = ftt }) said ≡ false
      kept_rules rule.Ended = runs
      kept_rules rule.NotTrained = ap not trained
      kept_rules r = refl

  dcn_said : (s.ending ≡ None → ⊥) → Stands s (by_answerer dcn said)
  dcn_said ended = record {
    fits = h.fits;
    opens = h.opens;
    alike = h.alike;
    busy = h.busy;
    runs = λ e. absurd (ended e);
    quiet = h.quiet;
    places = h.places;
    clean = clean_more (record { by = AnswererSide; signal = dcn }) said kept_rules h.clean;
  }
    where
      kept_rules : (r : Rule) → breaks r (record { by = AnswererSide; signal = dcn }) said ≡ false
      kept_rules rule.Ended = runs
      kept_rules r = refl

  rnr_said : asked IsAsked said ≡ true → IsAcceptedBlock s (view false said) → Stands s (by_answerer rnr said)
  rnr_said command accepted = record {
    fits = h.fits;
    opens = h.opens;
    alike = h.alike;
    busy = λ e. accepted;
    runs = h.runs;
    quiet = h.quiet;
    places = h.places;
    clean = clean_more (record { by = AnswererSide; signal = rnr }) said kept_rules h.clean;
  }
    where
      kept_rules : (r : Rule) → breaks r (record { by = AnswererSide; signal = rnr }) said ≡ false
      kept_rules rule.Ended = runs
      kept_rules rule.NoCommand = ap not command
      kept_rules r = refl

  -- a block begins
  cfr_said : asked IsTraining said ≡ true → s.asked ≡ None → Stands (record s { state = Message }) (by_answerer cfr said)
  cfr_said trained none = record {
    fits = fits_empty (record s { state = Message }) none;
    opens = λ e. inl refl;
    alike = inl refl;
    busy = λ e. clash (sym e);
    runs = h.runs;
    quiet = λ out. absurd (out refl);
    places = h.places;
    clean = clean_more (record { by = AnswererSide; signal = cfr }) said kept_rules h.clean;
  }
    where
      kept_rules : (r : Rule) → breaks r (record { by = AnswererSide; signal = cfr }) said ≡ false
      kept_rules rule.Ended = runs
      kept_rules rule.NotTrained = ap not trained
      kept_rules r = refl

  -- no frame of the block is known not to have come
  none_missing : (m : Mark) → last_mark false said ≡ Some m → is_repeated s.accepted m ≡ true → some_frame NeverCame said ≡ false
  none_missing m there repeated = nowhere (λ n. holds NeverCame n said) (λ n within. at n within (asked (Reaches n) said) (asked (Below n) said) refl refl)
    where
      at : (n : ℕ) → n < 256 → (r b : Bool) → asked (Reaches n) said ≡ r → asked (Below n) said ≡ b → holds NeverCame n said ≡ false
      at n within false b reaches below = rw reaches refl
      at n within true true reaches below = rw (reaches, below) refl
      at n within true false reaches below = rw (reaches, below, h.fits.whole m there repeated n within reaches below) refl

  -- the last accepted block is confirmed
  mcf_said : asked IsAsked said ≡ true → IsAcceptedBlock s (view false said) → s.asked ≡ None → Stands s (by_answerer mcf said)
  mcf_said command accepted none = record {
    fits = mcf_fits s accepted.0 (view false said) accepted.1 accepted.2 none h.fits;
    opens = λ e. inr (refl, none);
    alike = inr accepted;
    busy = h.busy;
    runs = h.runs;
    quiet = h.quiet;
    places = h.places;
    clean = clean_more (record { by = AnswererSide; signal = mcf }) said kept_rules h.clean;
  }
    where
      kept_rules : (r : Rule) → breaks r (record { by = AnswererSide; signal = mcf }) said ≡ false
      kept_rules rule.Ended = runs
      kept_rules rule.NoCommand = ap not command
      kept_rules rule.NotWhole = none_missing accepted.0 accepted.1 accepted.2
      kept_rules r = refl

-- ---- a block is judged

-- a PPS of a block that isn't accepted, which came just now
module _ (s : Answerer) (before : List PlainSaid) (ends : PageEnd) (page number last : ℕ) (few : last < 256)
    (h : Stands s (by_caller (pps ends page number last) before)) (message : s.state ≡ Message) (running : s.ending ≡ None)
    (new : is_repeated s.accepted (record { page = page; block = number }) ≡ false) where
  abbrev mark : Mark
  mark = record { page = page; block = number }

  abbrev said : List PlainSaid
  said = by_caller (pps ends page number last) before

  abbrev counted : ℕ
  counted = last_counted s.asked mark last

  -- up to the last frame that counts each number is counted
  counts : (k : Option Asked) → s.asked ≡ k → ((n : ℕ) → n ≤ last_counted k mark last → asked (Reaches n) said ≡ true) ×
      (last_counted k mark last < 256) × (last ≤ last_counted k mark last)
  counts None is = (reached, few, omega arith)
    where
      reached : (n : ℕ) → n ≤ last → asked (Reaches n) said ≡ true
      reached n low = rw (leb_so n last low) refl
  counts (Some k) is = at (same_mark k.mark mark)
    where
      known : (last_mark false said ≡ Some k.mark) × ((n : ℕ) → n ≤ k.last → asked (Reaches n) said ≡ true) ×
          (is_repeated s.accepted k.mark ≡ false) × (k.last < 256)
      known = h.fits.asked k is

      reached : (n : ℕ) → n ≤ last → asked (Reaches n) said ≡ true
      reached n low = rw (leb_so n last low) refl

      greater : (n a b : ℕ) → n ≤ max a b → (n ≤ a) ⊎ (n ≤ b)
      greater n a b low = search rules

      max_few : (a b : ℕ) → a < 256 → b < 256 → (max a b < 256) × (b ≤ max a b)
      max_few a b x y = (omega (arith, x, y), omega arith)

      either_of : (n : ℕ) → (n ≤ k.last) ⊎ (n ≤ last) → asked (Reaches n) said ≡ true
      either_of n (inl low) = known.1 n low
      either_of n (inr low) = reached n low

      at : (b : Bool) → ((n : ℕ) → n ≤ cond b (max k.last last) last → asked (Reaches n) said ≡ true) ×
          (cond b (max k.last last) last < 256) × (last ≤ cond b (max k.last last) last)
      at false = (reached, few, omega arith)
      at true = let m = max_few k.last last known.3 few in (λ n low. either_of n (greater n k.last last low), m.0, m.1)

  reached : (n : ℕ) → n ≤ counted → asked (Reaches n) said ≡ true
  reached = (counts s.asked refl).0

  -- a number that no PPS is below is at most the last one of this PPS
  low_of : (n : ℕ) → asked (Below n) said ≡ false → n ≤ last
  low_of n none = at (nat_lt last n) refl none
    where
      at : (b : Bool) → nat_lt last n ≡ b → or_so b (asked (Below n) before) ≡ false → n ≤ last
      at true is e = clash e
      at false is e = leb_of n last is

  is_counted : (n : ℕ) → asked (Below n) said ≡ false → n ≤ counted
  is_counted n none = let low = low_of n none in let more = (counts s.asked refl).2 in omega (arith, low, more)

  -- a frame of the block that is there may have come
  has_come : (n : ℕ) → n < 256 → has_frame s.frames n ≡ true → asked (Reaches n) said ≡ true → asked (Below n) said ≡ false →
      asked (MayHave n) said ≡ true
  has_come n within has reaches below = h.fits.came n has (h.fits.counted n within reaches) below

  abbrev marks : List ℕ
  marks = ppr_map s.frames counted

  abbrev remembers : Asked
  remembers = record { mark = mark; last = counted }

  bit_is : (n : ℕ) → n < 256 → bit_of marks n ≡ (nat_lt counted n || not (has_frame s.frames n))
  bit_is n within = bit_in_map s.frames counted n within

  told : (n : ℕ) → has_frame s.frames n ≡ true → asked (Below n) said ≡ false → bit_of marks n ≡ false
  told n has below =
      bit_is n (subst (λ k. n < k) h.places (has_within s.frames n has)) ∙ rw (ltb_none n counted (is_counted n below), has) refl

  has_told : (n : ℕ) → n < 256 → bit_of marks n ≡ false → has_frame s.frames n ≡ true
  has_told n within bit = not_so (has_frame s.frames n) (none_of (nat_lt counted n) (not (has_frame s.frames n)) (sym (bit_is n within) ∙ bit)).1

  low_told : (n : ℕ) → n < 256 → bit_of marks n ≡ false → n ≤ counted
  low_told n within bit = leb_of n counted (none_of (nat_lt counted n) (not (has_frame s.frames n)) (sym (bit_is n within) ∙ bit)).0

  not_come : some_frame (ToldAsCome marks) said ≡ false
  not_come = nowhere (λ n. holds (ToldAsCome marks) n said)
      (λ n within. at n within (bit_of marks n) (asked (Reaches n) said) (asked (Below n) said) refl refl refl)
    where
      at : (n : ℕ) → n < 256 → (m r b : Bool) → bit_of marks n ≡ m → asked (Reaches n) said ≡ r → asked (Below n) said ≡ b →
          holds (ToldAsCome marks) n said ≡ false
      at n within true r b bit reaches below = rw bit refl
      at n within false false b bit reaches below = rw (bit, reaches) refl
      at n within false true true bit reaches below = rw (bit, reaches, below) refl
      at n within false true false bit reaches below =
          rw (bit, reaches, below, has_come n within (has_told n within bit) reaches below) refl

  asks_again : some_frame (AskedAgain marks) said ≡ false
  asks_again = nowhere (λ n. holds (AskedAgain marks) n said)
      (λ n within. at n within (bit_of marks n) (asked (Reaches n) said) (asked (Below n) said) (asked (SurelyHas n) said) refl refl refl refl)
    where
      at : (n : ℕ) → n < 256 → (m r b u : Bool) → bit_of marks n ≡ m → asked (Reaches n) said ≡ r → asked (Below n) said ≡ b →
          asked (SurelyHas n) said ≡ u → holds (AskedAgain marks) n said ≡ false
      at n within false r b u bit reaches below sure = rw bit refl
      at n within true false b u bit reaches below sure = rw (bit, reaches) refl
      at n within true true true u bit reaches below sure = rw (bit, reaches, below) refl
      at n within true true false false bit reaches below sure = rw (bit, reaches, below, sure) refl
      at n within true true false true bit reaches below sure =
          clash (sym bit ∙ told n (h.fits.sure message mark refl new n within sure) below)

  bad_map : some_frame (BeyondUnmarked marks) said ≡ false
  bad_map = nowhere (λ n. holds (BeyondUnmarked marks) n said) (λ n within. at n within (bit_of marks n) refl)
    where
      at : (n : ℕ) → n < 256 → (m : Bool) → bit_of marks n ≡ m → holds (BeyondUnmarked marks) n said ≡ false
      at n within true bit = rw bit refl
      at n within false bit = rw (bit, reached n (low_told n within bit)) refl

  asks_some : all_there s.frames counted ≡ false → some_frame (IsAskedFor marks) said ≡ true
  asks_some lacks =
      let g = there_gap s.frames counted lacks in
      let within : g.0 < 256 = let most = (counts s.asked refl).1 in let low = g.1 in omega (arith, most, low) in
      let bit : bit_of marks g.0 ≡ true = bit_is g.0 within ∙ (ap (λ b. nat_lt counted g.0 || not b) g.2 ∙ or_true (nat_lt counted g.0)) in
      here (λ n. holds (IsAskedFor marks) n said) g.0 within (rw (bit, reached g.0 g.1) refl)

  ppr_said : all_there s.frames counted ≡ false → Stands (record s { asked = Some remembers }) (by_answerer (ppr marks) said)
  ppr_said lacks = record {
    fits = ppr_fits s remembers marks (view false said) refl new reached (counts s.asked refl).1 told has_told h.fits;
    opens = λ e. inl (same h.alike);
    alike = inl (same h.alike);
    busy = λ e. clash (sym e);
    runs = h.runs;
    quiet = λ out. absurd (out message);
    places = h.places;
    clean = clean_more (record { by = AnswererSide; signal = ppr marks }) said kept_rules h.clean;
  }
    where
      same : (view true said ≡ view false said) ⊎ IsAcceptedBlock s (view false said) →
          with_ppr marks (view true said) ≡ with_ppr marks (view false said)
      same (inl e) = ap (with_ppr marks) e
      same (inr a) = clash (sym a.2 ∙ subst (λ m. is_repeated s.accepted m ≡ false) (some_is mark a.0 a.1) new)

      kept_rules : (r : Rule) → breaks r (record { by = AnswererSide; signal = ppr marks }) said ≡ false
      kept_rules rule.Ended = h.runs running
      kept_rules rule.NotCome = not_come
      kept_rules rule.AsksAgain = asks_again
      kept_rules rule.AsksNothing = rw (asks_some lacks) refl
      kept_rules rule.BadMap = bad_map
      kept_rules r = refl

  -- the block is accepted
  module _ (next : Answerer) (accepted : next.accepted ≡ Some (record { mark = mark; ends = ends })) (none : next.asked ≡ None)
      (clear : next.frames ≡ no_frames) (still : next.ending ≡ None) (all : all_there s.frames counted ≡ true) where
    again : is_repeated next.accepted mark ≡ true
    again = subst (λ a. is_repeated a mark ≡ true) (sym accepted) (same_self mark)

    accepted_stands : Stands next said
    accepted_stands = record {
      fits = fits_accepted s next mark (view false said) refl again none (λ n has. no_frame n (subst (λ f. has_frame f n ≡ true) clear has))
          (λ n within reaches below. has_come n within (there_has s.frames counted n all (is_counted n below)) reaches below) h.fits;
      opens = λ e. clash (sym e);
      alike = inr (mark, refl, again);
      busy = λ e. clash (sym e);
      runs = λ e. h.runs running;
      quiet = λ out. (clear, none);
      places = ap length clear ∙ no_places;
      clean = h.clean;
    }

    confirmed : (busy : Bool) → Stands next (and_said AnswererSide (answerer_items next (cond busy turn.Rnr turn.Mcf)) said)
    confirmed true = rnr_said next said accepted_stands (h.runs running) refl (mark, refl, again)
    confirmed false = mcf_said next said accepted_stands (h.runs running) refl (mark, refl, again) none

-- what the step leaves, and what is said then
abbrev pub Leaves : List PlainSaid → AnswererAnswer → Type 0
Leaves said a = Stands a.next (and_said AnswererSide (answerer_items a.next a.turn) said)

-- no frames are asked for while the block under way is the accepted one
none_asked : (s : Answerer) (v : View) → Fits s v → IsAcceptedBlock s v → s.asked ≡ None
none_asked s v h accepted = at s.asked refl
  where
    at : (k : Option Asked) → s.asked ≡ k → k ≡ None
    at None is = refl
    at (Some k) is =
        let known = h.asked k is in
        clash (sym accepted.2 ∙ subst (λ m. is_repeated s.accepted m ≡ false) (some_is k.mark accepted.0 (sym known.0 ∙ accepted.1)) known.2)

-- ---- the answerer's table

not_training : InTraining ≡ Message → ⊥
not_training e = cc

not_phase_b : PhaseB ≡ Message → ⊥
not_phase_b e = cc

module _ (s : Answerer) (said : List PlainSaid) (h : Stands s said) where
  -- what changes tells nothing of a block, and no more is there
  less_stands : (next : Answerer) → next.accepted ≡ s.accepted → ((n : ℕ) → has_frame next.frames n ≡ true → has_frame s.frames n ≡ true) →
      ((k : Asked) → next.asked ≡ Some k → s.asked ≡ Some k) →
      (next.state ≡ Message → (s.state ≡ Message) × ((n : ℕ) → has_frame s.frames n ≡ true → has_frame next.frames n ≡ true)) →
      (next.ending ≡ None → s.ending ≡ None) → ((next.state ≡ Message → ⊥) → (next.frames ≡ no_frames) × (next.asked ≡ None)) →
      length next.frames ≡ 256 → Stands next said
  less_stands next accepted fewer asked_less stays runs quiet places = record {
    fits = fits_less s next (view false said) accepted fewer asked_less stays h.fits;
    opens = λ e. open_then (h.opens e);
    alike = alike_then h.alike;
    busy = λ e. same (h.busy e);
    runs = λ e. h.runs (runs e);
    quiet = quiet;
    places = places;
    clean = h.clean;
  }
    where
      same : IsAcceptedBlock s (view false said) → IsAcceptedBlock next (view false said)
      same a = (a.0, a.1, subst (λ o. is_repeated o a.0 ≡ true) (sym accepted) a.2)

      alike_then : (view true said ≡ view false said) ⊎ IsAcceptedBlock s (view false said) →
          (view true said ≡ view false said) ⊎ IsAcceptedBlock next (view false said)
      alike_then (inl e) = inl e
      alike_then (inr a) = inr (same a)

      none_then : s.asked ≡ None → (k : Option Asked) → next.asked ≡ k → k ≡ None
      none_then none None is = refl
      none_then none (Some k) is = none_some k (sym none ∙ asked_less k is)

      open_then : (view true said ≡ view false said) ⊎ ((view true said ≡ empty) × (s.asked ≡ None)) →
          (view true said ≡ view false said) ⊎ ((view true said ≡ empty) × (next.asked ≡ None))
      open_then (inl e) = inl e
      open_then (inr e) = inr (e.0, none_then e.1 next.asked refl)

  -- the call ends
  ends_so : (why : End) → Leaves said (record { next = record s { ending = Some why }; turn = turn.Silent })
  ends_so why =
      less_stands (record s { ending = Some why }) refl (λ n has. has) (λ k is. is) (λ message. (message, λ n has. has))
      (λ e. none_some why (sym e)) h.quiet h.places

  bad_so : s.ending ≡ None → Leaves said (record { next = record s { ending = Some BadPage }; turn = turn.Dcn })
  bad_so running = dcn_said (record s { ending = Some BadPage }) said (ends_so BadPage) (h.runs running) (λ e. none_some BadPage (sym e))

  confirm_so : s.ending ≡ None → asked IsAsked said ≡ true → IsAcceptedBlock s (view false said) →
      Leaves said (record { next = s; turn = confirms s })
  confirm_so running command accepted =
      either (λ t. Stands s (and_said AnswererSide (answerer_items s t) said)) s.busy turn.Rnr turn.Mcf
      (λ e. rnr_said s said h (h.runs running) command accepted)
      (λ e. mcf_said s said h (h.runs running) command accepted (none_asked s (view false said) h.fits accepted))

  repeated_so : s.ending ≡ None → asked IsAsked said ≡ true → (mark : Mark) → last_mark false said ≡ Some mark →
      Leaves said (cond (is_repeated s.accepted mark) (record { next = s; turn = confirms s }) (record { next = s; turn = turn.Silent }))
  repeated_so running command mark there =
      either (Leaves said) (is_repeated s.accepted mark) _ _ (λ e. confirm_so running command (mark, there, e)) (λ e. h)

  rr_so : s.ending ≡ None → asked IsAsked said ≡ true → asked IsBusy said ≡ true →
      Leaves said (cond (is_some s.accepted && is_clear s.frames) (record { next = s; turn = confirms s }) (record { next = s; turn = turn.Silent }))
  rr_so running command busy =
      either (Leaves said) (is_some s.accepted && is_clear s.frames) _ _ (λ e. confirm_so running command (h.busy busy)) (λ e. h)

  -- a DCS in phase B, and past it
  first_dcs_so : (params : Params) → s.state ≡ PhaseB →
      Leaves said (cond (allowed s.caps params) (record { next = record s { state = InTraining; params = params; ready = false }; turn = turn.Silent })
      (record { next = s; turn = turn.Silent }))
  first_dcs_so params state =
      either (Leaves said) (allowed s.caps params) _ _
      (λ e. less_stands (record s { state = InTraining; params = params; ready = false }) refl (λ n has. has) (λ k is. is)
      (λ message. absurd (not_training message)) (λ k. k)
      (λ out. h.quiet (λ message. not_phase_b (sym state ∙ message))) h.places)
      (λ e. h)

  later_dcs_so : (params : Params) →
      Leaves said (cond (allowed s.caps params)
      (record { next = record s { state = InTraining; params = params; frames = no_frames; ready = false; asked = None }; turn = turn.Silent })
      (record { next = s; turn = turn.Silent }))
  later_dcs_so params =
      either (Leaves said) (allowed s.caps params) _ _
      (λ e. less_stands (record s { state = InTraining; params = params; frames = no_frames; ready = false; asked = None }) refl
      (λ n has. absurd (no_frame n has)) (λ k is. none_some k is) (λ message. absurd (not_training message)) (λ k. k) (λ out. (refl, refl))
      no_places)
      (λ e. h)

  -- T2, outside the message
  waited_so : s.ending ≡ None → (s.state ≡ Message → ⊥) → Leaves said (record { next = record s { state = PhaseB }; turn = turn.Dis })
  waited_so running out =
      dis_said (record s { state = PhaseB }) said (back_stands out) (h.runs running) s.caps
    where
      back_stands : (s.state ≡ Message → ⊥) → Stands (record s { state = PhaseB }) said
      back_stands out =
          less_stands (record s { state = PhaseB }) refl (λ n has. has) (λ k is. is) (λ message. absurd (not_phase_b message)) (λ k. k)
          (λ still. h.quiet out) h.places

  -- a training check
  trained_so : s.ending ≡ None → s.state ≡ InTraining → asked IsTraining said ≡ true → (octets : List ℕ) →
      Leaves said (cond (is_good_training octets s.params) (record { next = record s { state = Message }; turn = turn.Cfr })
      (record { next = record s { state = PhaseB }; turn = turn.Ftt }))
  trained_so running state training octets =
      let quiet = h.quiet (λ message. not_training (sym state ∙ message)) in
      either (Leaves said) (is_good_training octets s.params) _ _
      (λ e. cfr_said s said h (h.runs running) training quiet.1)
      (λ e. ftt_said (record s { state = PhaseB }) said
      (less_stands (record s { state = PhaseB }) refl (λ n has. has) (λ k is. is) (λ message. absurd (not_phase_b message)) (λ k. k)
      (λ still. quiet) h.places) (h.runs running) training)

  busy_so : (busy : Bool) → Leaves said (record { next = record s { busy = busy }; turn = turn.Silent })
  busy_so busy =
      less_stands (record s { busy = busy }) refl (λ n has. has) (λ k is. is) (λ message. (message, λ n has. has)) (λ k. k) h.quiet h.places

-- an FCD
keeps_so : (s : Answerer) (number : ℕ) (octets : List ℕ) (before : List PlainSaid) → Stands s (by_caller (fcd number octets) before) →
    s.state ≡ Message →
    Leaves (by_caller (fcd number octets) before) (cond (within_frame_size s.params octets)
    (record { next = record s { frames = slice_set s.frames number (Some octets); ready = true }; turn = turn.Silent })
    (record { next = s; turn = turn.Silent }))
keeps_so s number octets before h message =
    either (Leaves (by_caller (fcd number octets) before)) (within_frame_size s.params octets) _ _ (λ e. kept_stands) (λ e. h)
  where
    next : Answerer
    next = record s { frames = slice_set s.frames number (Some octets); ready = true }

    kept_stands : Stands next (by_caller (fcd number octets) before)
    kept_stands = record {
      fits = fits_kept s next number (view true before) refl refl message (put_more s.frames number octets) (put_stays s.frames number octets) h.fits;
      opens = h.opens;
      alike = h.alike;
      busy = λ e. clash (sym e);
      runs = h.runs;
      quiet = λ out. absurd (out message);
      places = put_places s.frames number octets ∙ h.places;
      clean = h.clean;
    }

-- a PPS in the message
module _ (s : Answerer) (before : List PlainSaid) (ends : PageEnd) (page number last : ℕ) (few : last < 256)
    (h : Stands s (by_caller (pps ends page number last) before)) (message : s.state ≡ Message) (running : s.ending ≡ None) where
  abbrev pps_said : List PlainSaid
  pps_said = by_caller (pps ends page number last) before

  abbrev its_mark : Mark
  its_mark = record { page = page; block = number }

  abbrev all_counted : ℕ
  all_counted = last_counted s.asked its_mark last

  accepts_so : is_repeated s.accepted its_mark ≡ false → all_there s.frames all_counted ≡ true → (octets : List ℕ) (pages : List PagePixels) →
      Leaves pps_said (accepts s ends its_mark octets pages)
  accepts_so new all octets pages =
      confirmed s before ends page number last few h message running new (accepts s ends its_mark octets pages).next refl refl refl running all s.busy

  stores_so : is_repeated s.accepted its_mark ≡ false → all_there s.frames all_counted ≡ true → (page_then : Option PagePixels) →
      Leaves pps_said (stores s ends its_mark page_then)
  stores_so new all None = bad_so s pps_said h running
  stores_so new all (Some pixels) = accepts_so new all [] (s.pages ++ pixels ∷ [])

takes_so : (s : Answerer) (before : List PlainSaid) (ends : PageEnd) (page number last : ℕ) (few : last < 256)
    (h : Stands s (by_caller (pps ends page number last) before)) (message : s.state ≡ Message) (running : s.ending ≡ None) →
    is_repeated s.accepted (record { page = page; block = number }) ≡ false →
    all_there s.frames (last_counted s.asked (record { page = page; block = number }) last) ≡ true → (octets : List ℕ) →
    Leaves (by_caller (pps ends page number last) before) (takes_block s ends (record { page = page; block = number }) octets)
takes_so s before Null page number last few h message running new all octets =
    either (Leaves (by_caller (pps Null page number last) before)) (within_page_limit octets) _ _
    (λ e. accepts_so s before Null page number last few h message running new all octets s.pages)
    (λ e. bad_so s (by_caller (pps Null page number last) before) h running)
takes_so s before Mps page number last few h message running new all octets =
    stores_so s before Mps page number last few h message running new all (page_read s.params octets)
takes_so s before Eom page number last few h message running new all octets =
    stores_so s before Eom page number last few h message running new all (page_read s.params octets)
takes_so s before Eop page number last few h message running new all octets =
    stores_so s before Eop page number last few h message running new all (page_read s.params octets)

pps_so : (s : Answerer) (before : List PlainSaid) (ends : PageEnd) (page number last : ℕ) → last < 256 →
    Stands s (by_caller (pps ends page number last) before) → s.state ≡ Message → s.ending ≡ None →
    Leaves (by_caller (pps ends page number last) before) (answers_pps s ends (record { page = page; block = number }) last)
pps_so s before ends page number last few h message running =
    let mark : Mark = record { page = page; block = number } in
    let said = by_caller (pps ends page number last) before in
    either (Leaves said) (is_repeated s.accepted mark) _ _
    (λ e. confirm_so s said h running refl (mark, refl, e))
    (λ new. either (Leaves said) (all_there s.frames (last_counted s.asked mark last)) _ _
    (λ all. takes_so s before ends page number last few h message running new all _)
    (λ lacks. ppr_said s before ends page number last few h message running new lacks))

-- what is known of an input
abbrev pub Known : AnswererInput → List PlainSaid → Type 0
Known (listens (pps ends page block last)) before = last < 256
Known (listens rr) before = asked IsBusy before ≡ true
Known (trains octets) before = asked IsTraining before ≡ true
Known _ before = Unit {0}

module _ (s : Answerer) (before : List PlainSaid) (running : s.ending ≡ None) where
  table_so : (state : AnswererState) (input : AnswererInput) → s.state ≡ state → Known input before → Stands s (called (meets input) before) →
      Leaves (called (meets input) before) (answerer_table state input s)
  table_so PhaseB (listens (dcs params)) is known h = first_dcs_so s _ h params is
  table_so PhaseB t2 is known h = waited_so s before h running (λ message. not_phase_b (sym is ∙ message))
  table_so InTraining t2 is known h = waited_so s before h running (λ message. not_training (sym is ∙ message))
  table_so InTraining (trains octets) is known h = trained_so s before h running is known octets
  table_so InTraining (listens (dcs params)) is known h = later_dcs_so s _ h params
  table_so Message (listens (dcs params)) is known h = later_dcs_so s _ h params
  table_so Message (listens (fcd number octets)) is known h = keeps_so s number octets before h is
  table_so Message (listens (pps ends page block last)) is known h = pps_so s before ends page block last known h is running
  table_so Message (listens rr) is known h = rr_so s _ h running refl known
  table_so PhaseB (listens (pps ends page block last)) is known h = repeated_so s _ h running refl (record { page = page; block = block }) refl
  table_so InTraining (listens (pps ends page block last)) is known h = repeated_so s _ h running refl (record { page = page; block = block }) refl
  table_so PhaseB (listens rr) is known h = rr_so s _ h running refl known
  table_so InTraining (listens rr) is known h = rr_so s _ h running refl known
  table_so PhaseB t1 is known h = ends_so s _ h NoAnswer
  table_so InTraining t1 is known h = ends_so s _ h NoAnswer
  table_so Message t1 is known h = ends_so s _ h NoAnswer
  table_so PhaseB (listens dcn) is known h = ends_so s _ h (leaves s.accepted)
  table_so InTraining (listens dcn) is known h = ends_so s _ h (leaves s.accepted)
  table_so Message (listens dcn) is known h = ends_so s _ h (leaves s.accepted)
  table_so PhaseB (is_busy busy) is known h = busy_so s _ h busy
  table_so InTraining (is_busy busy) is known h = busy_so s _ h busy
  table_so Message (is_busy busy) is known h = busy_so s _ h busy
  table_so PhaseB input is known h = h
  table_so InTraining input is known h = h
  table_so Message input is known h = h

step_so : (s : Answerer) (input : AnswererInput) (before : List PlainSaid) → Known input before → Stands s (called (meets input) before) →
    Leaves (called (meets input) before) (answerer_step s input)
step_so s input before known h = at s.ending refl
  where
    at : (e : Option End) → s.ending ≡ e → Leaves (called (meets input) before) (unless_answerer_ended e input s)
    at (Some why) is = h
    at None is = table_so s before is s.state input refl known h

-- ---- a whole call

known_so : (signal : PlainSignal) (before : List PlainSaid) → MaySay signal before → Known (listens signal) before
known_so (pps ends page block last) before may = may.octets
known_so rr before may = not_so (asked IsBusy before) (not_busy rr before may)
known_so signal before may = tt

move_so : (s : Answerer) (move : Move) (before : List PlainSaid) → IsFair move before → Stands s before →
    Stands (moved move s) (answered move s (called move before))
move_so s (misses signal) before fair h = caller_says s before h signal fair
move_so s (meets (listens signal)) before fair h =
    step_so s (listens signal) before (known_so signal before fair) (caller_says s before h signal fair)
move_so s (meets (trains octets)) before fair h = step_so s (trains octets) before fair h
move_so s (meets t2) before fair h = step_so s t2 before tt h
move_so s (meets t1) before fair h = step_so s t1 before tt h
move_so s (meets (is_busy busy)) before fair h = step_so s (is_busy busy) before tt h

talk_so : (moves : List Move) (s : Answerer) (before : List PlainSaid) → AreFair moves s before → Stands s before →
    is_clean (talk moves s before) ≡ true
talk_so [] s before fair h = h.clean
talk_so (move ∷ moves) s before fair h =
    talk_so moves (moved move s) (answered move s (called move before)) fair.1 (move_so s move before fair.0 h)

new_stands : (caps : Caps) (params : Params) → Stands (new_answerer caps params) (by_answerer (dis caps) [])
new_stands caps params = record {
  fits = fits_empty (new_answerer caps params) refl;
  opens = λ e. clash (sym e);
  alike = inl refl;
  busy = λ e. clash (sym e);
  runs = λ e. refl;
  quiet = λ out. (refl, refl);
  places = no_places;
  clean = refl;
}

pub are_not_first : AnswerersAreNotFirst
are_not_first caps params moves fair = talk_so moves (new_answerer caps params) (by_answerer (dis caps) []) fair (new_stands caps params)

pub said_fairly : AreSaidFairly
unfolding some_number
said_fairly = record {
  command = record { right = refl; octets = tt };
  first = record { right = refl; octets = tt };
  end_of_burst = record { right = refl; octets = tt };
  counts = record { right = refl; octets = omega arith };
  again = record { right = refl; octets = tt };
  ready = record { right = refl; octets = tt };
  leaves = record { right = refl; octets = tt };
}

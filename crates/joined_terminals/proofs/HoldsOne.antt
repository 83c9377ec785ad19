-- An answerer that takes one page at a time goes on so, whatever it takes.
use Rattle.std.proofs.Common.{◌≡◌, ◌≢◌, ◌⊎◌, inl, inr, ℕ, ◌<◌, Bool, true, false, cond, Option, Some, None, List, [], ◌∷◌, ◌++◌}
use Rattle.std.proofs.Common.{arith, refl, ap, sym, subst, ◌∙◌}
use Rattle.std.proofs.lemmas.Bool.{false≢true}
use Rattle.std.proofs.lemmas.Bool.Decides.{nat_tests}
use Rattle.std.specs.Prelude.{◌&&◌, ◌||◌, nat_le}
use Rattle.conversations.proofs.Led.{spoken_by}
use Rattle.conversations.specs.Answering.{limited_behaviour}
use Rattle.conversations.specs.Conversations.{Gives, LosesFrames, PlainGiven}
use Rattle.conversations.specs.Conversations.{nothing, stopping, losing, frames, input}
use Rattle.conversations.specs.Holding.{HeldIsNotConfirmed, IsBusyIfFull}
use Rattle.raster.specs.Pages.{PagePixels}
use Rattle.stations.specs.AnswererKeeping.{AnswerersKeep, TakesBlock}
use Rattle.stations.specs.AnswererStep.{Answerer, AnswererAnswer, answerer_silent, answerer_step, unless_answerer_ended}
use Rattle.stations.specs.Inputs.{AnswererInput, PlainItem}
use Rattle.stations.specs.LimitedServing.{LimitedServes}
use Rattle.stations.specs.Limiting.{IsWithin, LimitedFields, busy_while, filled, freed, is_full, is_kept_out, limited_step, not_ready}
use Rattle.stations.specs.Stopping.{stop_turn}
use Rattle.stations.specs.Taken.{given as put}
use Rattle.stations.specs.TurnsMean.{AnswerersAlwaysAnswer}
use Rattle.stations.specs.declared.limiting.Limits.{Limits}
use Rattle.stations.specs.declared.stopping.Cut.{Cut}
use Rattle.stations.specs.declared.stopping.Cut.TheVariants.{Stop}
use Rattle.stations.specs.declared.turn.End.{End}
use Rattle.stations.specs.declared.turn.Turn.{Turn}
use Rattle.stations.specs.declared.turn.Turn.TheVariants.{Silent, Mcf}
use Rattle.terminals.specs.Hearing.{PlainInput, heard_of}
use Rattle.terminals.specs.Runs.{TerminalFields}
use Rattle.terminals.specs.Speaking.{Speaking, Takes, is_silent, spoken}
use Rattle.terminals.specs.Stations.{answerer_takes}
use Rattle.terminals.specs.Stopping.{LimitedStepsUnlessCut, hung_up, limited_answers, limited_cut_off, limited_stop_says, silenced, stopped}
use Rattle.terminals.specs.Stopping.{with_pages_taken as without_its_pages}
use Rattle.joined_terminals.specs.HeldAnswers.{HoldsOne}
use Rattle.joined_terminals.specs.Joining.{AnswererMakes}
use Rattle.joined_terminals.specs.Octets.{IsPiece, TakesSo}
use Rattle.joined_terminals.specs.Steps.{Comes, TurnsSo}

-- what is known of the stations below
pub record HoldersKnown : Type 0 where
  pub held : HeldIsNotConfirmed
  pub serves : LimitedServes
  pub keeps : AnswerersKeep
  pub always : AnswerersAlwaysAnswer

-- ---- one page at most

pub one_at_most : HeldIsNotConfirmed → (limits : Limits) (pages : List PagePixels) → limits.pages ≡ 1 → IsWithin limits pages →
    (pages ≡ []) ⊎ ((page : PagePixels) × (pages ≡ page ∷ []))
one_at_most held limits pages limit (inl e) = inl e
one_at_most held limits pages limit (inr h) = inr (h.1, at h.0 h.2 h.3)
  where
    at : (front : List PagePixels) → pages ≡ front ++ h.1 ∷ [] → is_full limits front ≡ false → pages ≡ h.1 ∷ []
    at [] e few = e
    at (page ∷ front) e few = absurd (false≢true (sym few ∙ held.one limits page front limit))

-- ---- where a page comes something is said

-- no page comes, or something is said
abbrev IsLoud : Answerer → AnswererAnswer → Type 0
IsLoud s answer = (answer.next.pages ≡ s.pages) ⊎ (answer.turn ≢ Silent)

loud_step : AnswerersKeep → AnswerersAlwaysAnswer → (s : Answerer) (got : AnswererInput) → IsLoud s (answerer_step s got)
loud_step keeps always s got = at s.ending refl
  where
    by : s.ending ≡ None →
        (((answerer_step s got).next.accepted ≡ s.accepted) × ((answerer_step s got).next.octets ≡ s.octets) ×
        ((answerer_step s got).next.pages ≡ s.pages)) ⊎ TakesBlock s got (answerer_step s got).next → IsLoud s (answerer_step s got)
    by runs (inl same) = inl same.2
    by runs (inr takes) =
        inr (subst (λ i. (answerer_step s i).turn ≢ Silent) (sym takes.meets.heard)
        ((always s runs).block takes.ends takes.mark.page takes.mark.block takes.meets.last takes.meets.in_message))

    at : (ending : Option End) → s.ending ≡ ending → IsLoud s (answerer_step s got)
    at (Some why) e = inl (ap (λ o. (unless_answerer_ended o got s).next.pages) e)
    at None e = by e (keeps s got).block

loud_rnr : (turn : Turn) → turn ≢ Silent → not_ready turn ≢ Silent
loud_rnr Mcf loud = λ e. cc
loud_rnr turn loud = loud

loud_filled : (s : Answerer) (before after : Bool) (answer : AnswererAnswer) → IsLoud s answer → IsLoud s (filled before after answer)
loud_filled s true true answer h = h
loud_filled s true false answer h = h
loud_filled s false false answer h = h
loud_filled s false true answer (inl same) = inl same
loud_filled s false true answer (inr loud) = inr (loud_rnr answer.turn loud)

-- what holds of two answers holds of either
pub either : (P : AnswererAnswer → Type 0) (b : Bool) (x y : AnswererAnswer) → P x → P y → P (cond b x y)
either P true x y f g = f
either P false x y f g = g

loud_limited : AnswerersKeep → AnswerersAlwaysAnswer → (limits : Limits) (s : Answerer) (got : AnswererInput) →
    IsLoud s (limited_step limits s got)
loud_limited keeps always limits s got = at (is_full limits s.pages)
  where
    at : (full : Bool) →
        IsLoud s
        (cond (full && is_kept_out s got) (answerer_silent s)
        (filled full (is_full limits (answerer_step s (busy_while full got)).next.pages) (answerer_step s (busy_while full got))))
    at full =
        either (IsLoud s) (full && is_kept_out s got) (answerer_silent s) _ (inl refl)
        (loud_filled s full (is_full limits (answerer_step s (busy_while full got)).next.pages) (answerer_step s (busy_while full got))
        (loud_step keeps always s (busy_while full got)))

-- ---- a step

-- what is said after a turn that isn't MCF: that turn, or if it is silence the one before
said_after : (old : Speaking LimitedFields) (station : LimitedFields) (turn : Turn) → turn ≢ Mcf →
    (old.turn ≢ Mcf) ⊎ (turn ≢ Silent) → (spoken old station turn).turn ≢ Mcf
said_after old station Silent not (inl before) = before
said_after old station Silent not (inr loud) = absurd (loud refl)
said_after old station turn not which = not

-- the station after a turn is the one that was left
spoken_holds : (old : Speaking LimitedFields) (station : LimitedFields) (turn : Turn) → station.limits.pages ≡ 1 →
    is_full station.limits [] ≡ false → IsWithin station.limits station.station.pages → IsBusyIfFull station.limits station.station →
    (station.station.pages ≡ []) ⊎ ((spoken old station turn).turn ≢ Mcf) → HoldsOne (spoken old station turn)
spoken_holds old station turn limit room within busy silent =
    let is : station ≡ (spoken old station turn).station = sym (spoken_by old station turn) in
    record {
      limit = subst (λ (v : LimitedFields). v.limits.pages ≡ 1) is limit;
      room = subst (λ (v : LimitedFields). is_full v.limits [] ≡ false) is room;
      within = subst (λ (v : LimitedFields). IsWithin v.limits v.station.pages) is within;
      busy = subst (λ (v : LimitedFields). IsBusyIfFull v.limits v.station) is busy;
      silent = subst (λ (v : LimitedFields). (v.station.pages ≡ []) ⊎ ((spoken old station turn).turn ≢ Mcf)) is silent;
    }

module _ (known : HoldersKnown) where
  -- a step of the table with limits
  module _ (old : Speaking LimitedFields) (one : HoldsOne old) (x : AnswererInput) where
    abbrev limits : Limits
    limits = old.station.limits

    abbrev answer : AnswererAnswer
    answer = limited_step limits old.station.station x

    still_within : IsWithin limits answer.next.pages
    still_within = (known.serves limits old.station.told (put x ∷ []) old.station.station).within one.within

    still_silent : (station : LimitedFields) →
        (answer.next.pages ≡ []) ⊎ ((page : PagePixels) × (answer.next.pages ≡ page ∷ [])) → IsLoud old.station.station answer →
        (answer.next.pages ≡ []) ⊎ ((spoken old station answer.turn).turn ≢ Mcf)
    still_silent station (inl none) loud = inl none
    still_silent station (inr has) loud = at loud one.silent
      where
        full : is_full limits answer.next.pages ≡ true
        full = ap (is_full limits) has.1 ∙ known.held.one limits has.0 [] one.limit

        unsaid : answer.turn ≢ Mcf
        unsaid = known.held.silent limits old.station.station x one.busy full

        at : IsLoud old.station.station answer → (old.station.station.pages ≡ []) ⊎ (old.turn ≢ Mcf) →
            (answer.next.pages ≡ []) ⊎ ((spoken old station answer.turn).turn ≢ Mcf)
        at (inr says) before = inr (said_after old station answer.turn unsaid (inr says))
        at (inl same) (inl none) = inl (same ∙ none)
        at (inl same) (inr before) = inr (said_after old station answer.turn unsaid (inl before))

    table_holds : (station : LimitedFields) → station.station ≡ answer.next → station.limits ≡ limits →
        HoldsOne (spoken old station answer.turn)
    table_holds station is same =
        spoken_holds old station answer.turn (ap (λ (l : Limits). l.pages) same ∙ one.limit)
        (ap (λ l. is_full l []) same ∙ one.room)
        (subst (λ l. IsWithin l station.station.pages) (sym same)
        (subst (λ (s : Answerer). IsWithin limits s.pages) (sym is) still_within))
        (subst (λ l. IsBusyIfFull l station.station) (sym same)
        (subst (λ s. IsBusyIfFull limits s) (sym is) (known.held.busy limits old.station.station x one.busy)))
        (subst (λ (s : Answerer). (s.pages ≡ []) ⊎ ((spoken old station answer.turn).turn ≢ Mcf)) (sym is)
        (still_silent station (one_at_most known.held limits answer.next.pages one.limit still_within)
        (loud_limited known.keeps known.always limits old.station.station x)))

  -- nothing is taken, or the call was cut off
  quiet_holds : (old : Speaking LimitedFields) → HoldsOne old → (station : LimitedFields) (turn : Turn) →
      station.station ≡ old.station.station → station.limits ≡ old.station.limits → turn ≡ Silent → HoldsOne (spoken old station turn)
  quiet_holds old one station turn is same silent =
      spoken_holds old station turn (ap (λ (l : Limits). l.pages) same ∙ one.limit) (ap (λ l. is_full l []) same ∙ one.room)
      (subst (λ l. IsWithin l station.station.pages) (sym same)
      (subst (λ (s : Answerer). IsWithin old.station.limits s.pages) (sym is) one.within))
      (subst (λ l. IsBusyIfFull l station.station) (sym same)
      (subst (λ s. IsBusyIfFull old.station.limits s) (sym is) one.busy))
      (subst (λ (s : Answerer). (s.pages ≡ []) ⊎ ((spoken old station turn).turn ≢ Mcf)) (sym is) (at one.silent))
    where
      at : (old.station.station.pages ≡ []) ⊎ (old.turn ≢ Mcf) →
          (old.station.station.pages ≡ []) ⊎ ((spoken old station turn).turn ≢ Mcf)
      at (inl none) = inl none
      at (inr not) =
          inr (said_after old station turn (λ e. (let is : Silent ≡ Mcf = sym silent ∙ e in cc)) (inl not))

  steps_hold : (old : Speaking LimitedFields) → HoldsOne old → (cut : Option Cut) (x : PlainInput) (station : LimitedFields) (turn : Turn) →
      LimitedStepsUnlessCut cut old.station x station turn → HoldsOne (spoken old station turn)
  steps_hold old one (Some why) x station turn h =
      quiet_holds old one station turn (ap (λ (v : LimitedFields). v.station) h.0) (ap (λ (v : LimitedFields). v.limits) h.0) h.1
  steps_hold old one None x station turn h = at (answerer_takes x) h.0.0 h.0.1
    where
      at : (taken : Option AnswererInput) → station.station ≡ (limited_answers old.station.limits old.station.station taken).next →
          turn ≡ (limited_answers old.station.limits old.station.station taken).turn → HoldsOne (spoken old station turn)
      at None is says = quiet_holds old one station turn is h.1 says
      at (Some got) is says = subst (λ t. HoldsOne (spoken old station t)) (sym says) (table_holds old one got station is h.1)

  pub takes_hold : (old : Speaking LimitedFields) (x : PlainInput) (new : Speaking LimitedFields) →
      Takes LimitedFields AnswererMakes old x new → HoldsOne old → HoldsOne new
  takes_hold old x new h one =
      subst HoldsOne (sym h.is) (steps_hold old one old.station.cut x h.station h.turn h.steps_so)

  all_hold : (old : Speaking LimitedFields) (inputs : List PlainInput) (new : Speaking LimitedFields) (silent : Bool) →
      TakesSo AnswererMakes old inputs new silent → HoldsOne old → HoldsOne new
  all_hold old [] new silent h one = subst HoldsOne (sym h.0) one
  all_hold old (x ∷ inputs) new silent h one = all_hold h.0 inputs new h.1 h.3 (at h.2)
    where
      at : ((takes : Takes LimitedFields AnswererMakes old x h.0) × (silent ≡ (is_silent takes.turn && h.1))) ⊎
          ((h.0 ≡ old) × (silent ≡ h.1)) → HoldsOne h.0
      at (inl p) = takes_hold old x h.0 p.0 one
      at (inr p) = subst HoldsOne (sym p.0) one

  -- ---- calls that are stopped, and pages that are taken

  stop_no : (ending : Option End) (cut : Option Cut) → stop_turn ending cut ≢ Mcf
  stop_no (Some why) cut = λ e. cc
  stop_no None (Some before) = λ e. cc
  stop_no None None = λ e. cc

  pub stopped_holds : (old : Speaking LimitedFields) → HoldsOne old → HoldsOne (stopped limited_cut_off limited_stop_says old)
  stopped_holds old one =
      spoken_holds old (limited_cut_off Stop old.station) (limited_stop_says old.station) one.limit one.room one.within one.busy
      (at one.silent)
    where
      at : (old.station.station.pages ≡ []) ⊎ (old.turn ≢ Mcf) → (old.station.station.pages ≡ []) ⊎
          ((spoken old (limited_cut_off Stop old.station) (limited_stop_says old.station)).turn ≢ Mcf)
      at (inl none) = inl none
      at (inr not) =
          inr (said_after old (limited_cut_off Stop old.station) (limited_stop_says old.station)
          (stop_no old.station.station.ending old.station.cut) (inl not))

  pub silenced_holds : (old : Speaking LimitedFields) → HoldsOne old → HoldsOne (silenced limited_cut_off old)
  silenced_holds old one =
      record { limit = one.limit; room = one.room; within = one.within; busy = one.busy; silent = inr (λ e. cc) }

  pub hung_up_holds : (old : Speaking LimitedFields) → HoldsOne old → HoldsOne (hung_up limited_cut_off old)
  hung_up_holds old one =
      record { limit = one.limit; room = one.room; within = one.within; busy = one.busy; silent = inr (λ e. cc) }

  freed_none : (ending : Option End) (told : Bool) (s : Answerer) → (freed ending told s).pages ≡ []
  freed_none None told s = refl
  freed_none (Some why) told s = refl

  pub taken_holds : (old : Speaking LimitedFields) → HoldsOne old → HoldsOne (without_its_pages old)
  taken_holds old one =
      let v : LimitedFields = old.station in
      let none : (freed v.station.ending v.told v.station).pages ≡ [] = freed_none v.station.ending v.told v.station in
      record {
        limit = one.limit;
        room = one.room;
        within = inl none;
        busy = λ full. absurd (false≢true (sym one.room ∙ (ap (is_full v.limits) (sym none) ∙ full)));
        silent = inl none;
      }

  pub given_holds : (old new : TerminalFields LimitedFields) (items others : List PlainItem) (silent : Bool) (given : PlainGiven)
      (brought : Bool) → Gives limited_behaviour old given new brought → (comes : Comes IsPiece old.framing items given others) →
      TurnsSo limited_behaviour IsPiece old items others given comes new silent → HoldsOne old.speaking → HoldsOne new.speaking
  given_holds old new items others silent nothing brought gives comes turns one =
      subst (λ (t : TerminalFields LimitedFields). HoldsOne t.speaking) (sym gives.0) one
  given_holds old new items others silent stopping brought gives comes turns one =
      subst HoldsOne (sym gives.1) (stopped_holds old.speaking one)
  given_holds old new items others silent losing brought gives comes turns one =
      subst HoldsOne (sym gives.1) (silenced_holds old.speaking one)
  given_holds old new items others silent (frames octets) brought gives comes turns one =
      all_hold old.speaking (heard_of comes.0 octets) new.speaking silent turns one
  given_holds old new items others silent (input x) brought gives comes turns one =
      takes_hold old.speaking x new.speaking turns.0 one

  pub lost_holds : (old new : TerminalFields LimitedFields) (items others : List PlainItem) (silent : Bool) (given : PlainGiven) →
      LosesFrames limited_behaviour old given new → (comes : Comes IsPiece old.framing items given others) →
      TurnsSo limited_behaviour IsPiece old items others given comes new silent → HoldsOne old.speaking → HoldsOne new.speaking
  lost_holds old new items others silent (frames octets) loses comes turns one =
      all_hold old.speaking (heard_of comes.0 octets) new.speaking silent turns one
  lost_holds old new items others silent nothing loses comes turns one = absurd loses
  lost_holds old new items others silent stopping loses comes turns one = absurd loses
  lost_holds old new items others silent losing loses comes turns one = absurd loses
  lost_holds old new items others silent (input x) loses comes turns one = absurd loses

-- ---- a new answerer

none_before_one : (most few : Bool) → most ≡ false → few ≡ false → (most || few) ≡ false
none_before_one false false e f = refl
none_before_one true few e f = e
none_before_one false true e f = f

none_is_few : (n : ℕ) → 0 < n → nat_le n 0 ≡ false
none_is_few n h = grind (arith, nat_tests, h)

pub new_has_room : (limits : Limits) → limits.pages ≡ 1 → 0 < limits.octets → is_full limits [] ≡ false
unfolding is_full
new_has_room limits one octets =
    none_before_one (nat_le limits.pages 0) (nat_le limits.octets 0)
    (ap (λ n. nat_le n 0) one) (none_is_few limits.octets octets)

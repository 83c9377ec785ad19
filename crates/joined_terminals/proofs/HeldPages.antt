-- The page of an answerer that takes one page at a time stays there while others are to keep it.
use Rattle.std.proofs.Common.{◌≡◌, ◌⊎◌, ◌+◌, inl, inr, ℕ, Bool, true, false, cond, Option, Some, None, List, [], ◌∷◌, ◌++◌}
use Rattle.std.proofs.Common.{refl, ap, sym, subst, ◌∙◌}
use Rattle.std.specs.Prelude.{◌&&◌, Ok}
use Rattle.conversations.proofs.Led.{spoken_by}
use Rattle.conversations.specs.Answering.{StoresEach, limited_behaviour, pages_of}
use Rattle.conversations.specs.Conversations.{ConversationFields, Gives, LosesFrames, PlainGiven, gives, hung_up_so, refused_so, stopped_for}
use Rattle.conversations.specs.Conversations.{nothing, stopping, losing, frames, input, stopped_so}
use Rattle.conversations.specs.Led.{caller_behaviour}
use Rattle.conversations.specs.Refusing.{stop_in}
use Rattle.conversations.specs.Talking.{GivesAll, Withholds}
use Rattle.conversations.specs.declared.line.TimedLine.{TimedLine}
use Rattle.conversations.specs.declared.refusing.StopCause.{StopCause}
use Rattle.conversations.specs.declared.refusing.StopCause.TheVariants.{Refused, TooLong, NeverQuiet}
use Rattle.partial_page.specs.Store.{joined_frames}
use Rattle.raster.specs.Pages.{PagePixels}
use Rattle.signals.specs.declared.signal.Side.TheVariants.{Answerer as AnswererSide}
use Rattle.stations.specs.AnswererStep.{Answerer, AnswererAnswer, answerer_silent, answerer_step}
use Rattle.stations.specs.Inputs.{AnswererInput, PlainItem}
use Rattle.stations.specs.Layers.{IsPageOf}
use Rattle.stations.specs.Limiting.{IsWithin, LimitedFields, busy_while, filled, is_full, is_kept_out, limited_step}
use Rattle.stations.specs.Runs.{StepsStoreOpen}
use Rattle.stations.specs.Stopping.{StoppableCallerFields}
use Rattle.stations.specs.Taken.{given as put}
use Rattle.stations.specs.declared.limiting.Limits.{Limits}
use Rattle.stations.specs.declared.stopping.Cut.{Cut}
use Rattle.stations.specs.declared.turn.Turn.{Turn}
use Rattle.terminals.specs.Hearing.{PlainInput, heard_of}
use Rattle.terminals.specs.Runs.{TerminalFields}
use Rattle.terminals.specs.Speaking.{Speaking, Takes, is_silent, spoken}
use Rattle.terminals.specs.Stations.{answerer_takes}
use Rattle.terminals.specs.Stopping.{LimitedStepsUnlessCut, limited_answers, limited_cut_off}
use Rattle.terminals.specs.declared.sending.SentBurst.{SentBurst}
use Rattle.joined_terminals.specs.Answered.{GivesTurn, answerer_lends}
use Rattle.joined_terminals.specs.Driven.{Driven, answerer_speaks, caller_speaks}
use Rattle.joined_terminals.specs.HeldAnswers.{HolderIsReady, HoldsOne}
use Rattle.joined_terminals.specs.HeldPages.{HasPage, HeldPageStays}
use Rattle.joined_terminals.specs.Joining.{AnswererMakes}
use Rattle.joined_terminals.specs.Octets.{HearingTakes, IsPiece, TakesSo}
use Rattle.joined_terminals.specs.Steps.{AnswererIsGiven, AnswererRefusesLine, CallerIsGiven, CallerRefusesLine, Comes, Does, RefusesPage, Step}
use Rattle.joined_terminals.specs.Steps.{StoresPages, TurnsSo, appends, silent_unless}
use Rattle.joined_terminals.specs.Steps.Step.{answerer_gives, answerer_line, answerer_refuses, answerer_watches, caller_gives, caller_line}
use Rattle.joined_terminals.specs.Steps.Step.{caller_refuses, caller_watches, items_lost, page_lost, page_refused, hung_up, pages_stored}
use Rattle.joined_terminals.proofs.DrivenAnswers.{none_given, turns_of}
use Rattle.joined_terminals.proofs.DrivenCallers.{given_next}
use Rattle.joined_terminals.proofs.HeldAnswers.{watched}
use Rattle.joined_terminals.proofs.Hearing.{stopped_pages}
use Rattle.joined_terminals.proofs.HoldsOne.{HoldersKnown, either, given_holds, one_at_most, takes_hold}
use Rattle.joined_terminals.proofs.OnePage.{stays_well}

-- ---- a step of the table

-- no page comes, or one
abbrev IsOneMore : Answerer → AnswererAnswer → Type 0
IsOneMore s answer = (answer.next.pages ≡ s.pages) ⊎ ((page : PagePixels) × (answer.next.pages ≡ s.pages ++ page ∷ []))

one_of : StepsStoreOpen → (s : Answerer) (got : AnswererInput) → IsOneMore s (answerer_step s got)
one_of law s got = at (law s got)
  where
    at : ((answerer_step s got).next.pages ≡ s.pages) ⊎
        ((page : PagePixels) × (last : ℕ) × IsPageOf s.params (s.octets ++ joined_frames s.frames (last + 1)) page ×
        ((answerer_step s got).next.pages ≡ s.pages ++ page ∷ [])) → IsOneMore s (answerer_step s got)
    at (inl same) = inl same
    at (inr more) = inr (more.0, more.3)

one_filled : (s : Answerer) (before after : Bool) (answer : AnswererAnswer) → IsOneMore s answer → IsOneMore s (filled before after answer)
one_filled s true true answer h = h
one_filled s true false answer h = h
one_filled s false false answer h = h
one_filled s false true answer h = h

one_limited : StepsStoreOpen → (limits : Limits) (s : Answerer) (got : AnswererInput) → IsOneMore s (limited_step limits s got)
one_limited law limits s got = at (is_full limits s.pages)
  where
    at : (full : Bool) →
        IsOneMore s
        (cond (full && is_kept_out s got) (answerer_silent s)
        (filled full (is_full limits (answerer_step s (busy_while full got)).next.pages) (answerer_step s (busy_while full got))))
    at full =
        either (IsOneMore s) (full && is_kept_out s got) (answerer_silent s) _ (inl refl)
        (one_filled s full (is_full limits (answerer_step s (busy_while full got)).next.pages) (answerer_step s (busy_while full got))
        (one_of law s (busy_while full got)))

-- ---- a terminal

-- it takes one page at a time, and has this one
record Keeps (page : PagePixels) (now : Speaking LimitedFields) : Type 0 where
  one : HoldsOne now
  pages : now.station.station.pages ≡ page ∷ []

module _ (law : StepsStoreOpen) (known : HoldersKnown) (page : PagePixels) where
  -- the pages after a step
  abbrev after : Speaking LimitedFields → AnswererInput → List PagePixels
  after old x = (limited_step old.station.limits old.station.station x).next.pages

  two : (old : Speaking LimitedFields) → Keeps page old → (x : AnswererInput) (more : PagePixels) →
      after old x ≡ old.station.station.pages ++ more ∷ [] → after old x ≡ page ∷ more ∷ []
  two old k x more e = e ∙ ap (λ (l : List PagePixels). l ++ more ∷ []) k.pages

  -- no second page comes
  no_more : (old : Speaking LimitedFields) → Keeps page old → (x : AnswererInput) → after old x ≡ page ∷ []
  no_more old k x =
      at (one_limited law old.station.limits old.station.station x)
      (one_at_most known.held old.station.limits (after old x) k.one.limit
      ((known.serves old.station.limits old.station.told (put x ∷ []) old.station.station).within k.one.within))
    where
      at : (after old x ≡ old.station.station.pages) ⊎ ((more : PagePixels) × (after old x ≡ old.station.station.pages ++ more ∷ [])) →
          (after old x ≡ []) ⊎ ((one : PagePixels) × (after old x ≡ one ∷ [])) → after old x ≡ page ∷ []
      at (inl same) most = same ∙ k.pages
      at (inr more) (inl none) =
          let no : page ∷ more.0 ∷ [] ≡ [] = sym (two old k x more.0 more.1) ∙ none in absurd (cc)
      at (inr more) (inr has) =
          let no : page ∷ more.0 ∷ [] ≡ has.0 ∷ [] = sym (two old k x more.0 more.1) ∙ has.1 in absurd (cc)

  steps_keep : (old : Speaking LimitedFields) → Keeps page old → (cut : Option Cut) (x : PlainInput) (station : LimitedFields) (turn : Turn) →
      LimitedStepsUnlessCut cut old.station x station turn → station.station.pages ≡ page ∷ []
  steps_keep old k (Some why) x station turn h = ap (λ (v : LimitedFields). v.station.pages) h.0 ∙ k.pages
  steps_keep old k None x station turn h = at (answerer_takes x) h.0.0
    where
      at : (taken : Option AnswererInput) → station.station ≡ (limited_answers old.station.limits old.station.station taken).next →
          station.station.pages ≡ page ∷ []
      at None is = ap (λ (s : Answerer). s.pages) is ∙ k.pages
      at (Some got) is = ap (λ (s : Answerer). s.pages) is ∙ no_more old k got

  takes_keep : (old : Speaking LimitedFields) (x : PlainInput) (new : Speaking LimitedFields) →
      Takes LimitedFields AnswererMakes old x new → Keeps page old → Keeps page new
  takes_keep old x new h k =
      record {
        one = takes_hold known old x new h k.one;
        pages =
            ap (λ (s : Speaking LimitedFields). s.station.station.pages) h.is ∙
            (ap (λ (v : LimitedFields). v.station.pages) (spoken_by old h.station h.turn) ∙
            steps_keep old k old.station.cut x h.station h.turn h.steps_so);
      }

  all_keep : (old : Speaking LimitedFields) (inputs : List PlainInput) (new : Speaking LimitedFields) (silent : Bool) →
      TakesSo AnswererMakes old inputs new silent → Keeps page old → Keeps page new
  all_keep old [] new silent h k = subst (Keeps page) (sym h.0) k
  all_keep old (x ∷ inputs) new silent h k = all_keep h.0 inputs new h.1 h.3 (at h.2)
    where
      at : ((takes : Takes LimitedFields AnswererMakes old x h.0) × (silent ≡ (is_silent takes.turn && h.1))) ⊎
          ((h.0 ≡ old) × (silent ≡ h.1)) → Keeps page h.0
      at (inl p) = takes_keep old x h.0 p.0 k
      at (inr p) = subst (Keeps page) (sym p.0) k

  given_keeps : (old new : TerminalFields LimitedFields) (items others : List PlainItem) (silent : Bool) (given : PlainGiven)
      (brought : Bool) → Gives limited_behaviour old given new brought → (comes : Comes IsPiece old.framing items given others) →
      TurnsSo limited_behaviour IsPiece old items others given comes new silent → Keeps page old.speaking →
      new.speaking.station.station.pages ≡ page ∷ []
  given_keeps old new items others silent nothing brought gives comes turns k =
      ap (λ (t : TerminalFields LimitedFields). t.speaking.station.station.pages) gives.0 ∙ k.pages
  given_keeps old new items others silent stopping brought gives comes turns k =
      ap (λ (s : Speaking LimitedFields). s.station.station.pages) gives.1 ∙ (stopped_pages old.speaking ∙ k.pages)
  given_keeps old new items others silent losing brought gives comes turns k =
      ap (λ (s : Speaking LimitedFields). s.station.station.pages) gives.1 ∙ k.pages
  given_keeps old new items others silent (frames octets) brought gives comes turns k =
      (all_keep old.speaking (heard_of comes.0 octets) new.speaking silent turns k).pages
  given_keeps old new items others silent (input x) brought gives comes turns k =
      (takes_keep old.speaking x new.speaking turns.0 k).pages

  lost_keeps : (old new : TerminalFields LimitedFields) (items others : List PlainItem) (silent : Bool) (given : PlainGiven) →
      LosesFrames limited_behaviour old given new → (comes : Comes IsPiece old.framing items given others) →
      TurnsSo limited_behaviour IsPiece old items others given comes new silent → Keeps page old.speaking →
      new.speaking.station.station.pages ≡ page ∷ []
  lost_keeps old new items others silent (frames octets) loses comes turns k =
      (all_keep old.speaking (heard_of comes.0 octets) new.speaking silent turns k).pages
  lost_keeps old new items others silent nothing loses comes turns k = absurd loses
  lost_keeps old new items others silent stopping loses comes turns k = absurd loses
  lost_keeps old new items others silent losing loses comes turns k = absurd loses
  lost_keeps old new items others silent (input x) loses comes turns k = absurd loses

-- ---- a conversation

-- a call that is stopped for a reason, if there is one, keeps its pages
watched_pages : (c : ConversationFields LimitedFields) (why : Option StopCause) → pages_of (stopped_for limited_behaviour why c) ≡ pages_of c
watched_pages c None = refl
watched_pages c (Some (Refused why)) = stopped_pages c.terminal.speaking
watched_pages c (Some TooLong) = stopped_pages c.terminal.speaking
watched_pages c (Some NeverQuiet) = refl

all_same : (bursts : List SentBurst) (old new : ConversationFields LimitedFields) → GivesAll AnswererSide answerer_lends old bursts new →
    pages_of new ≡ pages_of old
all_same [] old new h = ap pages_of (none_given AnswererSide answerer_lends old.begun old new h)
all_same (burst ∷ bursts) old new h =
    all_same bursts h.0 new h.2 ∙
    ap (λ (s : Speaking LimitedFields). s.station.station.pages) (given_next AnswererSide answerer_lends old h.0 burst old.begun h.1).speaking

withheld_same : (late : Bool) (ready left : ConversationFields LimitedFields) → Withholds AnswererSide answerer_lends ready late left →
    pages_of left ≡ pages_of ready
withheld_same false ready left h = ap pages_of h
withheld_same true ready left h = all_same h.0 ready left h.1

turn_same : (late : Bool) (ready new : ConversationFields LimitedFields) → GivesTurn LimitedFields AnswererSide answerer_lends late ready new →
    pages_of new ≡ pages_of ready
turn_same late ready new h = all_same h.bursts h.left new h.gives ∙ withheld_same late ready h.left h.withholds

-- ---- two conversations

longer : (xs : List PagePixels) (y : PagePixels) → xs ++ y ∷ [] ≡ xs → ⊥
longer [] y e = cc
longer (x ∷ xs) y e = longer xs y (cc)

-- where a list of one page is split at a page, that one is it
split_one : (page refused : PagePixels) (front rest : List PagePixels) → page ∷ [] ≡ front ++ refused ∷ rest → refused ∷ rest ≡ page ∷ []
split_one page refused [] rest e = sym e
split_one page refused (x ∷ []) rest e = absurd (cc)
split_one page refused (x ∷ y ∷ front) rest e = absurd (cc)

module _ (page : PagePixels) where
  caller_has : (silent : Bool) (d new : Driven) (caller : ConversationFields StoppableCallerFields) (others : List PlainItem) →
      HasPage page d → new ≡ caller_speaks silent (record d { caller = caller; to_caller = others }) → HasPage page new
  caller_has true d new caller others has e = subst (HasPage page) (sym e) has
  caller_has false d new caller others has e = subst (HasPage page) (sym e) has

  caller_refused : (d new : Driven) (line : TimedLine) → HasPage page d → CallerRefusesLine line d new → HasPage page new
  caller_refused d new line has h = at h.given
    where
      at : ((h.caller.terminal ≡ d.caller.terminal) × (new ≡ record d { caller = h.caller })) ⊎
          (LosesFrames caller_behaviour d.caller.terminal (gives caller_behaviour d.caller h.refuses.shown line) h.caller.terminal ×
          CallerIsGiven (gives caller_behaviour d.caller h.refuses.shown line) d h.caller new) → HasPage page new
      at (inl e) = caller_has true d new h.caller d.to_caller has e.1
      at (inr p) = caller_has p.1.silent d new h.caller p.1.others has p.1.is

  -- the answerer's pages stay, and none is refused
  answerer_has : (silent : Bool) (d new : Driven) (answerer : ConversationFields LimitedFields) (others : List PlainItem) →
      HasPage page d → (pages_of d.answerer ≡ page ∷ [] → pages_of answerer ≡ page ∷ []) →
      new ≡ answerer_speaks silent (record d { answerer = answerer; to_answerer = others }) → HasPage page new
  answerer_has true d new answerer others (inl p) same e = subst (HasPage page) (sym e) (inl (same p.0, p.1))
  answerer_has false d new answerer others (inl p) same e = subst (HasPage page) (sym e) (inl (same p.0, p.1))
  answerer_has true d new answerer others (inr p) same e = subst (HasPage page) (sym e) (inr p)
  answerer_has false d new answerer others (inr p) same e = subst (HasPage page) (sym e) (inr p)

  -- a page is stored, or was refused: then nothing is stored
  stored_has : (d new : Driven) → new.stored ≡ d.stored → HasPage page d → StoresPages d new → HasPage page new
  stored_has d new same (inr refused) h = let no : [] ≡ page ∷ [] = sym h.all_kept ∙ refused in absurd (cc)
  stored_has d new same (inl has) h = absurd (longer d.stored page (sym (at (pages_of d.answerer) has.0 h.stores) ∙ grown))
    where
      grown : h.stored ≡ d.stored
      grown = sym (ap (λ (x : Driven). x.stored) h.is) ∙ same

      at : (pages : List PagePixels) → pages ≡ page ∷ [] → StoresEach appends d.stored pages h.stored → h.stored ≡ d.stored ++ page ∷ []
      at pages e stores = by (subst (λ l. StoresEach appends d.stored l h.stored) e stores)
        where
          by : StoresEach appends d.stored (page ∷ []) h.stored → h.stored ≡ d.stored ++ page ∷ []
          by s = s.2 ∙ s.1

  refused_has : (d new : Driven) → HasPage page d → RefusesPage d new → HasPage page new
  refused_has d new (inr refused) h = let no : [] ≡ page ∷ [] = sym h.all_kept ∙ refused in absurd (cc)
  refused_has d new (inl has) h =
      inr (ap (λ (x : Driven). x.unkept) h.is ∙ split_one page h.refused h.front h.rest (sym has.0 ∙ h.split))

  module _ (law : StepsStoreOpen) (known : HoldersKnown) where
    answerer_refused : (d new : Driven) (line : TimedLine) → HoldsOne d.answerer.terminal.speaking → HasPage page d →
        AnswererRefusesLine line d new → HasPage page new
    answerer_refused d new line one has h = at h.given
      where
        at : ((h.answerer.terminal ≡ d.answerer.terminal) × (new ≡ record d { answerer = h.answerer })) ⊎
            (LosesFrames limited_behaviour d.answerer.terminal (gives limited_behaviour d.answerer h.refuses.shown line) h.answerer.terminal ×
            AnswererIsGiven (gives limited_behaviour d.answerer h.refuses.shown line) d h.answerer new) → HasPage page new
        at (inl e) =
            answerer_has true d new h.answerer d.to_answerer has
            (λ p. ap (λ (t : TerminalFields LimitedFields). t.speaking.station.station.pages) e.0 ∙ p) e.1
        at (inr p) =
            answerer_has p.1.silent d new h.answerer p.1.others has
            (λ e. lost_keeps law known page d.answerer.terminal h.answerer.terminal d.to_answerer p.1.others p.1.silent
            (gives limited_behaviour d.answerer h.refuses.shown line) p.0 p.1.comes p.1.turns (record { one = one; pages = e })) p.1.is

    stays : (step : Step) (d new : Driven) → HoldsOne d.answerer.terminal.speaking → Does step d new → new.stored ≡ d.stored →
        HasPage page d → HasPage page new
    stays (caller_line line) d new one h same has = caller_has h.given.silent d new h.caller h.given.others has h.given.is
    stays (answerer_line line) d new one h same has =
        answerer_has h.given.silent d new h.answerer h.given.others has
        (λ e. given_keeps law known page d.answerer.terminal h.answerer.terminal d.to_answerer h.given.others h.given.silent
        (gives limited_behaviour d.answerer h.takes.shown line) h.takes.brought h.takes.given h.given.comes h.given.turns
        (record { one = one; pages = e })) h.given.is
    stays (caller_refuses line) d new one h same has = caller_refused d new line has h
    stays (answerer_refuses line) d new one h same has = answerer_refused d new line one has h
    stays caller_watches d new one h same has =
        caller_has (silent_unless (stop_in d.caller.watch) (is_silent (caller_behaviour.stop_says d.caller.terminal.speaking.station)))
        d new (refused_so caller_behaviour d.caller) d.to_caller has h
    stays answerer_watches d new one h same has =
        answerer_has
        (silent_unless (stop_in d.answerer.watch) (is_silent (limited_behaviour.stop_says d.answerer.terminal.speaking.station))) d new
        (refused_so limited_behaviour d.answerer) d.to_answerer has (λ e. watched_pages d.answerer (stop_in d.answerer.watch) ∙ e) h
    stays pages_stored d new one h same has = stored_has d new same has h
    stays page_refused d new one h same has = refused_has d new has h
    stays page_lost d new one h same has =
        answerer_has (is_silent (limited_behaviour.stop_says d.answerer.terminal.speaking.station)) d new
        (stopped_so limited_behaviour d.answerer) d.to_answerer has (λ e. stopped_pages d.answerer.terminal.speaking ∙ e) h
    stays hung_up d new one h same has =
        answerer_has false d new (hung_up_so limited_cut_off d.answerer) d.to_answerer has (λ e. e) h
    stays (caller_gives sent sends) d new one h same has = subst (HasPage page) (sym h.is) has
    stays (answerer_gives sent sends) d new one h same has = subst (HasPage page) (sym h.is) (at has)
      where
        pages : pages_of h.answerer ≡ pages_of d.answerer
        pages =
            ap (λ (s : Speaking LimitedFields). s.station.station.pages)
            (given_next AnswererSide answerer_lends d.answerer h.answerer sent d.answerer.begun h.gives).speaking

        at : HasPage page d → ((pages_of h.answerer ≡ page ∷ []) × (d.unkept ≡ [])) ⊎ (d.unkept ≡ page ∷ [])
        at (inl p) = inl (pages ∙ p.0, p.1)
        at (inr p) = inr p
    stays items_lost d new one h same has = subst (HasPage page) (sym h.is) has

-- ---- a line that is taken

module _ (law : HearingTakes) (steps : StepsStoreOpen) (known : HoldersKnown) (line : TimedLine) (kept : Bool) (old : Driven)
    (ready : ConversationFields LimitedFields) (stored : List PagePixels) (one : HoldsOne old.answerer.terminal.speaking)
    (h : HolderIsReady line kept old ready stored) where
  abbrev its : PlainGiven
  its = gives limited_behaviour old.answerer h.takes.shown line

  turns : (silent : Bool) × TurnsSo limited_behaviour IsPiece old.answerer.terminal old.to_answerer h.others its h.comes h.heard.terminal silent
  turns = turns_of law old h.heard h.others its h.takes.brought h.takes.given h.comes

  line_heard : HoldsOne (refused_so limited_behaviour h.heard).terminal.speaking
  line_heard =
      watched known h.heard
      (given_holds known old.answerer.terminal h.heard.terminal old.to_answerer h.others turns.0 its h.takes.brought h.takes.given h.comes
      turns.1 one) (stop_in h.heard.watch)

  line_leaves : (page : PagePixels) → pages_of old.answerer ≡ page ∷ [] → pages_of (refused_so limited_behaviour h.heard) ≡ page ∷ []
  line_leaves page e =
      watched_pages h.heard (stop_in h.heard.watch) ∙
      given_keeps steps known page old.answerer.terminal h.heard.terminal old.to_answerer h.others turns.0 its h.takes.brought h.takes.given
      h.comes turns.1 (record { one = one; pages = e })

pub held_page_stays : HearingTakes → StepsStoreOpen → HoldersKnown → HeldPageStays
held_page_stays law steps known =
    record {
      one = λ step old new one does. stays_well known step old new one does;
      stays = λ page step old new one does same has. stays page steps known step old new one does same has;
      most = λ d one. one_at_most known.held d.answerer.terminal.speaking.station.limits (pages_of d.answerer) one.limit one.within;
      heard = λ line kept old ready stored one h. line_heard law steps known line kept old ready stored one h;
      there = λ page line kept old ready stored one e h. line_leaves law steps known line kept old ready stored one h page e;
      given = turn_same;
    }

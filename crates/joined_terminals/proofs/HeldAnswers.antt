-- An answer of an answerer whose pages are held is a list of steps by which no page is confirmed that is still in it.
use Rattle.std.proofs.Common.{◌≡◌, ◌++◌, ◌∷◌, ◌+◌, ◌<◌, [], ℕ, List, Bool, true, false, Option, Some, None, inl, inr, ◌⊎◌, refl}
use Rattle.std.proofs.Common.{ap, sym, subst, ◌∙◌}
use Rattle.std.specs.Prelude.{◌&&◌, map}
use Rattle.std.proofs.lemmas.Bool.{false≢true}
use Rattle.std.proofs.lemmas.List.{map-append}
use Rattle.conversations.specs.Answering.{StoresEach, limited_behaviour, pages_of}
use Rattle.conversations.specs.Conversations.{ConversationFields, LosesFrames, PlainGiven, gives, hung_up_so, refused_so, stopped_for, stopped_so}
use Rattle.conversations.specs.Conversations.{with_pages_taken}
use Rattle.conversations.specs.Holding.{CountsFirst, HandsNext, HoldsPages}
use Rattle.conversations.specs.Refusing.{stop_in}
use Rattle.conversations.specs.Talking.{GivesAll, GivesNext, GivesSome, Withholds}
use Rattle.conversations.specs.declared.line.Fate.TheVariants.{Kept, Lost}
use Rattle.conversations.specs.declared.line.Said.{Said}
use Rattle.conversations.specs.declared.line.Said.TheVariants.{Quiet, Busy, Received, NotReady, Ready, Missed, Told, Stop, End}
use Rattle.conversations.specs.declared.line.TimedLine.{TimedLine}
use Rattle.raster.specs.Pages.{PagePixels}
use Rattle.signals.specs.declared.params.Caps.{Caps}
use Rattle.signals.specs.declared.params.Wish.{Wish}
use Rattle.signals.specs.declared.signal.Side.TheVariants.{Answerer as AnswererSide}
use Rattle.stations.specs.Layers.{Document}
use Rattle.stations.specs.Limiting.{LimitedFields, is_full}
use Rattle.stations.specs.declared.limiting.Limits.{Limits}
use Rattle.terminals.specs.Runs.{TerminalFields}
use Rattle.terminals.specs.Speaking.{Speaking, is_silent}
use Rattle.terminals.specs.Stopping.{limited_cut_off}
use Rattle.terminals.specs.declared.sending.SentBurst.{SentBurst}
use Rattle.conversations.specs.declared.refusing.StopCause.{StopCause}
use Rattle.conversations.specs.declared.refusing.StopCause.TheVariants.{Refused, TooLong, NeverQuiet}
use Rattle.joined_terminals.specs.Answered.{AnswererHasNoMemory, GivesPart, answerer_lends, bursts_in, each_with, hangs_by, hung_up_if, leaves, part_of, turn_of, withheld}
use Rattle.joined_terminals.specs.Driven.{Driven, answerer_speaks, joined}
use Rattle.joined_terminals.specs.Held.{DrivesHeld, IsHeld}
use Rattle.joined_terminals.specs.HeldAnswers.{HeldAnswersAreSteps, HolderAnswers, HolderBreaksOff, HolderIsReady, HoldsOne, LeadsHolder}
use Rattle.joined_terminals.specs.HeldAnswers.{hands_by, holder_steps, holds_by}
use Rattle.joined_terminals.specs.Joining.{Begins, Joined, if_clear}
use Rattle.joined_terminals.specs.Octets.{HearingTakes}
use Rattle.joined_terminals.specs.Steps.{AnswererRefusesLine, AnswererTakesLine, Does, Step, appends, silent_unless}
use Rattle.joined_terminals.specs.Steps.Step.{answerer_gives, answerer_line, answerer_refuses, answerer_watches, page_lost, hung_up}
use Rattle.joined_terminals.specs.Steps.Step.{pages_stored}
use Rattle.joined_terminals.proofs.DrivenAnswers.{lost_turns, none_given, one_given, same_bursts, turns_of}
use Rattle.joined_terminals.proofs.DrivenCallers.{given_next}
use Rattle.joined_terminals.proofs.HeldSafe.{none_first}
use Rattle.joined_terminals.proofs.HoldsOne.{HoldersKnown, given_holds, hung_up_holds, lost_holds, new_has_room, one_at_most, silenced_holds}
use Rattle.joined_terminals.proofs.HoldsOne.{stopped_holds}
use Rattle.joined_terminals.proofs.HoldsOne.{taken_holds}

held_both : (some more : List Step) (a b c : Driven) → DrivesHeld some a b → DrivesHeld more b c → DrivesHeld (some ++ more) a c
held_both [] more a b c p q = subst (λ (x : Driven). DrivesHeld more x c) p q
held_both (step ∷ some) more a b c p q = (p.0, p.1, p.2, held_both some more p.0 b c p.3 q)

-- the steps lead to where the answerer and the store are these, and it still takes one page at a time
record Goes (steps : List Step) (old : Driven) (answerer : ConversationFields LimitedFields) (stored : List PagePixels) : Type 0 where
  last : Driven
  drives : DrivesHeld steps old last
  is : last.answerer ≡ answerer
  stored_is : last.stored ≡ stored
  unkept_is : last.unkept ≡ []
  caller_is : last.caller ≡ old.caller
  one : HoldsOne answerer.terminal.speaking

stays_by : (d : Driven) (answerer : ConversationFields LimitedFields) (stored : List PagePixels) → d.answerer ≡ answerer → d.stored ≡ stored →
    d.unkept ≡ [] → HoldsOne answerer.terminal.speaking → Goes [] d answerer stored
stays_by d answerer stored is stored_is none one =
    record {
      last = d;
      drives = refl;
      is = is;
      stored_is = stored_is;
      unkept_is = none;
      caller_is = refl;
      one = one;
    }

goes_by : (step : Step) (old new : Driven) → IsHeld step old → Does step old new → new.caller ≡ old.caller → new.unkept ≡ [] →
    HoldsOne new.answerer.terminal.speaking → Goes (step ∷ []) old new.answerer new.stored
goes_by step old new may h e none one =
    record {
      last = new;
      drives = (new, may, h, refl);
      is = refl;
      stored_is = refl;
      unkept_is = none;
      caller_is = e;
      one = one;
    }

goes_on : {some more : List Step} {a b : ConversationFields LimitedFields} {s t : List PagePixels} (old : Driven) →
    Goes some old a s → ((d : Driven) → d.answerer ≡ a → d.stored ≡ s → d.unkept ≡ [] → Goes more d b t) → Goes (some ++ more) old b t
goes_on {some} {more} old first next =
    let two = next first.last first.is first.stored_is first.unkept_is in
    record {
      last = two.last;
      drives = held_both some more old first.last two.last first.drives two.drives;
      is = two.is;
      stored_is = two.stored_is;
      unkept_is = two.unkept_is;
      caller_is = two.caller_is ∙ first.caller_is;
      one = two.one;
    }

spoken_goes : (step : Step) (silent : Bool) (old new : Driven) → IsHeld step old → Does step old (answerer_speaks silent new) →
    new.caller ≡ old.caller → new.unkept ≡ [] → HoldsOne new.answerer.terminal.speaking → Goes (step ∷ []) old new.answerer new.stored
spoken_goes step true old new may h e none one = goes_by step old new may h e none one
spoken_goes step false old new may h e none one = goes_by step old (answerer_speaks false new) may h e none one

-- a conversation whose call is stopped for a reason, if there is one
pub watched : HoldersKnown → (c : ConversationFields LimitedFields) → HoldsOne c.terminal.speaking → (why : Option StopCause) →
    HoldsOne (stopped_for limited_behaviour why c).terminal.speaking
watched known c one None = one
watched known c one (Some (Refused why)) = stopped_holds known c.terminal.speaking one
watched known c one (Some TooLong) = stopped_holds known c.terminal.speaking one
watched known c one (Some NeverQuiet) = silenced_holds known c.terminal.speaking one

module _ (law : HearingTakes) (known : HoldersKnown) where
  line_goes : (line : TimedLine) (kept : Bool) (old : Driven) (ready : ConversationFields LimitedFields) (stored : List PagePixels) →
      old.unkept ≡ [] → HoldsOne old.answerer.terminal.speaking → (h : HolderIsReady line kept old ready stored) →
      Goes (answerer_line line ∷ []) old h.heard old.stored
  line_goes line kept old ready stored none one h =
      let given : PlainGiven = gives limited_behaviour old.answerer h.takes.shown line in
      let turns = turns_of law old h.heard h.others given h.takes.brought h.takes.given h.comes in
      let takes : AnswererTakesLine line old
      (answerer_speaks turns.0 (record old { answerer = h.heard; to_answerer = h.others })) = record {
        all_kept = none;
        answerer = h.heard;
        takes = h.takes;
        given = record { others = h.others; comes = h.comes; silent = turns.0; turns = turns.1; is = refl };
      } in
      spoken_goes (answerer_line line) turns.0 old (record old { answerer = h.heard; to_answerer = h.others }) tt takes refl none
      (given_holds known old.answerer.terminal h.heard.terminal old.to_answerer h.others turns.0 given h.takes.brought h.takes.given h.comes
      turns.1 one)

  refuses_goes : (line : TimedLine) (old : Driven) (new : ConversationFields LimitedFields) → old.unkept ≡ [] →
      HoldsOne old.answerer.terminal.speaking → AnswererHasNoMemory line old new → Goes (answerer_refuses line ∷ []) old new old.stored
  refuses_goes line old new none one h = at h.refuses.given
    where
      given : PlainGiven
      given = gives limited_behaviour old.answerer h.refuses.shown line

      at : (new.terminal ≡ old.answerer.terminal) ⊎ LosesFrames limited_behaviour old.answerer.terminal given new.terminal →
          Goes (answerer_refuses line ∷ []) old new old.stored
      at (inl e) =
          let refuses : AnswererRefusesLine line old (record old { answerer = new }) =
          record { answerer = new; refuses = h.refuses; given = inl (e, refl) } in
          spoken_goes (answerer_refuses line) true old (record old { answerer = new }) tt refuses refl none
          (subst (λ (t : TerminalFields LimitedFields). HoldsOne t.speaking) (sym e) one)
      at (inr loses) =
          let turns = lost_turns law old new h.others given loses h.comes in
          let refuses : AnswererRefusesLine line old
          (answerer_speaks turns.0 (record old { answerer = new; to_answerer = h.others })) = record {
            answerer = new;
            refuses = h.refuses;
            given = inr
                (loses, record { others = h.others; comes = h.comes; silent = turns.0; turns = turns.1; is = refl });
          } in
          spoken_goes (answerer_refuses line) turns.0 old (record old { answerer = new; to_answerer = h.others }) tt refuses refl none
          (lost_holds known old.answerer.terminal new.terminal old.to_answerer h.others turns.0 given loses h.comes turns.1 one)

  watch_goes : (d : Driven) (heard : ConversationFields LimitedFields) (s : List PagePixels) → d.answerer ≡ heard → d.stored ≡ s →
      d.unkept ≡ [] → HoldsOne heard.terminal.speaking → Goes (answerer_watches ∷ []) d (refused_so limited_behaviour heard) s
  watch_goes d heard s e f none one =
      let silent : Bool =
      silent_unless (stop_in d.answerer.watch) (is_silent (limited_behaviour.stop_says d.answerer.terminal.speaking.station)) in
      let here : HoldsOne d.answerer.terminal.speaking =
      subst (λ (c : ConversationFields LimitedFields). HoldsOne c.terminal.speaking) (sym e) one in
      subst (λ x. Goes (answerer_watches ∷ []) d (refused_so limited_behaviour x) s) e
      (subst (λ x. Goes (answerer_watches ∷ []) d (refused_so limited_behaviour d.answerer) x) f
      (spoken_goes answerer_watches silent d (record d { answerer = refused_so limited_behaviour d.answerer }) tt refl refl none
      (watched known d.answerer here (stop_in d.answerer.watch))))

  -- ---- what is done of the page

  -- an answerer of one page at most stores the first one, which is each
  each_of : (pages : List PagePixels) (before after : List PagePixels) →
      (pages ≡ []) ⊎ ((page : PagePixels) × (pages ≡ page ∷ [])) → CountsFirst appends pages before after →
      StoresEach appends before pages after
  each_of [] before after one h = h
  each_of (page ∷ []) before after one h = (after, h, refl)
  each_of (page ∷ next ∷ pages) before after (inl e) h = let no : ⊥ = cc in absurd no
  each_of (page ∷ next ∷ pages) before after (inr e) h = let is : page ∷ next ∷ pages ≡ e.0 ∷ [] = e.1 in let no : ⊥ = cc in absurd no

  held_stays : (kept : Bool) (d : Driven) (ready : ConversationFields LimitedFields) (stored : List PagePixels) → d.unkept ≡ [] →
      HoldsOne d.answerer.terminal.speaking → ready ≡ d.answerer → stored ≡ d.stored → kept ≡ true → Goes (hands_by kept) d ready stored
  held_stays kept d ready stored none one is same all =
      subst (λ k. Goes (hands_by k) d ready stored) (sym all)
      (stays_by d ready stored (sym is) (sym same) none
      (subst (λ (c : ConversationFields LimitedFields). HoldsOne c.terminal.speaking) (sym is) one))

  hands_go : (kept : Bool) (held : Option (List ℕ)) (pages : List PagePixels) (d : Driven) (ready : ConversationFields LimitedFields)
      (stored : List PagePixels) → d.unkept ≡ [] → HoldsOne d.answerer.terminal.speaking →
      HandsNext leaves leaves held pages d.answerer ready d.stored stored kept → Goes (hands_by kept) d ready stored
  hands_go kept (Some name) pages d ready stored none one h = held_stays kept d ready stored none one h.0 h.1 h.2
  hands_go kept None [] d ready stored none one h = held_stays kept d ready stored none one h.0 h.1 h.2
  hands_go true None (page ∷ pages) d ready stored none one h = held_stays true d ready stored none one h.1 h.0 refl
  hands_go false None (page ∷ pages) d ready stored none one h =
      subst (λ x. Goes (hung_up ∷ []) d x stored) (sym h.1)
      (subst (λ x. Goes (hung_up ∷ []) d (hung_up_so limited_cut_off d.answerer) x) (sym h.0)
      (goes_by hung_up d (answerer_speaks false (record d { answerer = hung_up_so limited_cut_off d.answerer })) tt refl refl none
      (hung_up_holds known d.answerer.terminal.speaking one)))

  holds_go : (said : Said) (kept : Bool) (held : Option (List ℕ)) (d : Driven) (ready : ConversationFields LimitedFields)
      (stored : List PagePixels) → d.unkept ≡ [] → HoldsOne d.answerer.terminal.speaking →
      HoldsPages leaves leaves appends held said d.answerer ready d.stored stored kept → Goes (holds_by said kept) d ready stored
  holds_go (Told Kept file) kept held d ready stored none one h =
      let now : Speaking LimitedFields = d.answerer.terminal.speaking in
      let most = one_at_most known.held now.station.limits now.station.station.pages one.limit one.within in
      subst (λ x. Goes (pages_stored ∷ []) d x stored) (sym h.1)
      (goes_by pages_stored d (record d { answerer = with_pages_taken d.answerer; stored = stored }) tt
      (record { all_kept = none; stored = stored; stores = each_of (pages_of d.answerer) d.stored stored most h.0; is = refl }) refl none
      (taken_holds known d.answerer.terminal.speaking one))
  holds_go (Told Lost file) kept held d ready stored none one h =
      let silent : Bool = is_silent (limited_behaviour.stop_says d.answerer.terminal.speaking.station) in
      subst (λ x. Goes (page_lost ∷ []) d x stored) (sym h.1)
      (subst (λ x. Goes (page_lost ∷ []) d (stopped_so limited_behaviour d.answerer) x) (sym h.0)
      (spoken_goes page_lost silent d (record d { answerer = stopped_so limited_behaviour d.answerer }) tt refl refl none
      (stopped_holds known d.answerer.terminal.speaking one)))
  holds_go Quiet kept held d ready stored none one h = hands_go kept held (pages_of d.answerer) d ready stored none one h
  holds_go Busy kept held d ready stored none one h = hands_go kept held (pages_of d.answerer) d ready stored none one h
  holds_go (Received channel kind bits octets) kept held d ready stored none one h =
      hands_go kept held (pages_of d.answerer) d ready stored none one h
  holds_go NotReady kept held d ready stored none one h = hands_go kept held (pages_of d.answerer) d ready stored none one h
  holds_go Ready kept held d ready stored none one h = hands_go kept held (pages_of d.answerer) d ready stored none one h
  holds_go Missed kept held d ready stored none one h = hands_go kept held (pages_of d.answerer) d ready stored none one h
  holds_go Stop kept held d ready stored none one h = hands_go kept held (pages_of d.answerer) d ready stored none one h
  holds_go End kept held d ready stored none one h = hands_go kept held (pages_of d.answerer) d ready stored none one h

-- ---- bursts

pub counted_on : (old : Speaking LimitedFields) → HoldsOne old → HoldsOne (record old { taken = old.taken + 1 })
counted_on old one =
    record { limit = one.limit; room = one.room; within = one.within; busy = one.busy; silent = one.silent }

burst_goes : (sent : SentBurst) (sends : Bool) (d : Driven) (mid : ConversationFields LimitedFields) → d.unkept ≡ [] →
    HoldsOne d.answerer.terminal.speaking → GivesNext AnswererSide answerer_lends d.answerer (Some sent) mid →
    Goes (answerer_gives sent sends ∷ []) d mid d.stored
burst_goes sent sends d mid none one h =
    let is = one_given AnswererSide answerer_lends d.answerer.begun d.answerer mid sent h in
    goes_by (answerer_gives sent sends) d
    (record d { answerer = mid; to_caller = d.to_caller ++ if_clear (sends && d.answerer_clear) is.2.0.items }) one.silent
    (record {
      answerer = mid;
      gives = h;
      bursts = is.0;
      lent = is.1;
      burst = is.2.0;
      later = is.2.1;
      next = is.2.2;
      is_sent = is.2.3;
      is = refl;
    }) refl none
    (subst HoldsOne (sym (given_next AnswererSide answerer_lends d.answerer mid sent d.answerer.begun h).speaking)
    (counted_on d.answerer.terminal.speaking one))

-- the steps by which bursts are given
abbrev steps_of : List (SentBurst × Bool) → List Step
steps_of given = map (λ (one : SentBurst × Bool). answerer_gives one.0 one.1) given

-- a burst is given, and the next steps go on from there
next_goes : {more : List Step} (sent : SentBurst) (sends : Bool) (d : Driven) (mid new : ConversationFields LimitedFields) → d.unkept ≡ [] →
    HoldsOne d.answerer.terminal.speaking → GivesNext AnswererSide answerer_lends d.answerer (Some sent) mid →
    ((x : Driven) → x.answerer ≡ mid → x.unkept ≡ [] → HoldsOne x.answerer.terminal.speaking → Goes more x new x.stored) →
    Goes (answerer_gives sent sends ∷ more) d new d.stored
next_goes {more} sent sends d mid new none one h next =
    let first : Goes (answerer_gives sent sends ∷ []) d mid d.stored = burst_goes sent sends d mid none one h in
    goes_on d first
    (λ x e f n. subst (λ s. Goes more x new s) f
    (next x e n (subst (λ (c : ConversationFields LimitedFields). HoldsOne c.terminal.speaking) (sym e) first.one)))

all_go : (given : List (SentBurst × Bool)) (d : Driven) (new : ConversationFields LimitedFields) → d.unkept ≡ [] →
    HoldsOne d.answerer.terminal.speaking → GivesAll AnswererSide answerer_lends d.answerer (bursts_in given) new →
    Goes (steps_of given) d new d.stored
all_go [] d new none one h =
    let same : new ≡ d.answerer = none_given AnswererSide answerer_lends d.answerer.begun d.answerer new h in
    stays_by d new d.stored (sym same) refl none
    (subst (λ (c : ConversationFields LimitedFields). HoldsOne c.terminal.speaking) (sym same) one)
all_go (burst ∷ given) d new none one h =
    next_goes burst.0 burst.1 d h.0 new none one h.1
    (λ x e n holds. all_go given x new n holds (subst (λ c. GivesAll AnswererSide answerer_lends c (bursts_in given) new) (sym e) h.2))

some_go : (given : List (SentBurst × Bool)) (d : Driven) (new : ConversationFields LimitedFields) → d.unkept ≡ [] →
    HoldsOne d.answerer.terminal.speaking → GivesSome AnswererSide answerer_lends d.answerer (bursts_in given) new →
    Goes (steps_of given) d new d.stored
some_go [] d new none one h =
    stays_by d new d.stored (sym h) refl none
    (subst (λ (c : ConversationFields LimitedFields). HoldsOne c.terminal.speaking) (sym h) one)
some_go (burst ∷ given) d new none one h =
    next_goes burst.0 burst.1 d h.0 new none one h.1
    (λ x e n holds. some_go given x new n holds (subst (λ c. GivesSome AnswererSide answerer_lends c (bursts_in given) new) (sym e) h.2))

-- ---- what follows once the answerer is ready

module _ (d : Driven) (ready : ConversationFields LimitedFields) (is : d.answerer ≡ ready) (none : d.unkept ≡ [])
    (one : HoldsOne ready.terminal.speaking) where
  withheld_goes : (late : Bool) (left : ConversationFields LimitedFields) (h : Withholds AnswererSide answerer_lends ready late left) →
      Goes (steps_of (each_with false (withheld AnswererSide answerer_lends ready late left h))) d left d.stored
  withheld_goes false left h =
      stays_by d left d.stored (is ∙ sym h) refl none
      (subst (λ (c : ConversationFields LimitedFields). HoldsOne c.terminal.speaking) (sym h) one)
  withheld_goes true left h =
      all_go (each_with false h.0) d left none
      (subst (λ (c : ConversationFields LimitedFields). HoldsOne c.terminal.speaking) (sym is) one)
      (subst (λ c. GivesAll AnswererSide answerer_lends c (bursts_in (each_with false h.0)) left) (sym is)
      (subst (λ l. GivesAll AnswererSide answerer_lends ready l left) (same_bursts false h.0) h.1))

  bursts_go : (new : ConversationFields LimitedFields) (part : GivesPart LimitedFields AnswererSide answerer_lends ready new)
      (given : List (SentBurst × Bool)) → bursts_in given ≡ part.bursts → Goes (steps_of (part_of part given)) d new d.stored
  bursts_go new part given e =
      subst (λ steps. Goes steps d new d.stored)
      (sym
      (map-append (λ (one : SentBurst × Bool). answerer_gives one.0 one.1)
      (each_with false (withheld AnswererSide answerer_lends ready part.late part.left part.withholds)) given))
      (goes_on d (withheld_goes part.late part.left part.withholds) (λ x f g n. subst (λ s. Goes (steps_of given) x new s) g
      (at part.gives x f n)))
    where
      holds : (x : Driven) → x.answerer ≡ part.left → HoldsOne x.answerer.terminal.speaking
      holds x f =
          subst (λ (c : ConversationFields LimitedFields). HoldsOne c.terminal.speaking) (sym f)
          (withheld_goes part.late part.left part.withholds).one

      at : GivesSome AnswererSide answerer_lends part.left part.bursts new ⊎ GivesAll AnswererSide answerer_lends part.left part.bursts new →
          (x : Driven) → x.answerer ≡ part.left → x.unkept ≡ [] → Goes (steps_of given) x new x.stored
      at (inl some) x f n =
          some_go given x new n (holds x f)
          (subst (λ c. GivesSome AnswererSide answerer_lends c (bursts_in given) new) (sym f)
          (subst (λ l. GivesSome AnswererSide answerer_lends part.left l new) (sym e) some))
      at (inr all) x f n =
          all_go given x new n (holds x f)
          (subst (λ c. GivesAll AnswererSide answerer_lends c (bursts_in given) new) (sym f)
          (subst (λ l. GivesAll AnswererSide answerer_lends part.left l new) (sym e) all))

-- what all the steps lead to
leads : {steps : List Step} {old : Driven} {new : ConversationFields LimitedFields} {stored : List PagePixels} → Goes steps old new stored →
    LeadsHolder steps old new stored
leads all = (
  all.last,
  all.drives,
  all.is,
  all.stored_is,
  record {
    caller = all.caller_is;
    unkept = all.unkept_is;
    holds_one = subst (λ (c : ConversationFields LimitedFields). HoldsOne c.terminal.speaking) (sym all.is) all.one;
  },
)

-- after that the answerer hangs up, or doesn't
hang_goes : HoldersKnown → (hangs : Bool) (d : Driven) (mid : ConversationFields LimitedFields) (stored : List PagePixels) →
    d.answerer ≡ mid → d.stored ≡ stored → d.unkept ≡ [] → HoldsOne mid.terminal.speaking →
    Goes (hangs_by hangs) d (hung_up_if hangs mid) stored
hang_goes known false d mid stored e f none one = stays_by d mid stored e f none one
hang_goes known true d mid stored e f none one =
    subst (λ c. Goes (hung_up ∷ []) d (hung_up_so limited_cut_off c) stored) e
    (subst (λ s. Goes (hung_up ∷ []) d (hung_up_so limited_cut_off d.answerer) s) f
    (goes_by hung_up d (answerer_speaks false (record d { answerer = hung_up_so limited_cut_off d.answerer })) tt refl refl none
    (hung_up_holds known d.answerer.terminal.speaking
    (subst (λ (c : ConversationFields LimitedFields). HoldsOne c.terminal.speaking) (sym e) one))))

module _ (law : HearingTakes) (known : HoldersKnown) where
  -- once the answerer has heard the line and the call was stopped if it is to be
  kept_goes : (line : TimedLine) (kept : Bool) (old : Driven) (new : ConversationFields LimitedFields) (stored : List PagePixels)
      (h : HolderBreaksOff line kept old new stored) (given : List (SentBurst × Bool)) → bursts_in given ≡ h.part.bursts →
      HoldsOne (refused_so limited_behaviour h.is_ready.heard).terminal.speaking → (x : Driven) →
      x.answerer ≡ refused_so limited_behaviour h.is_ready.heard → x.stored ≡ old.stored → x.unkept ≡ [] →
      Goes (holds_by line.said kept ++ (hangs_by h.is_ready.hangs ++ steps_of (part_of h.part given))) x new stored
  kept_goes line kept old new stored h given e one x is same none =
      let r : HolderIsReady line kept old h.ready stored = h.is_ready in
      let here : HoldsOne x.answerer.terminal.speaking =
      subst (λ (c : ConversationFields LimitedFields). HoldsOne c.terminal.speaking) (sym is) one in
      let holds : HoldsPages leaves leaves appends r.held line.said x.answerer r.mid x.stored stored kept =
      subst (λ c. HoldsPages leaves leaves appends r.held line.said c r.mid x.stored stored kept) (sym is)
      (subst (λ s. HoldsPages leaves leaves appends r.held line.said (refused_so limited_behaviour r.heard) r.mid s stored kept) (sym same)
      r.holds) in
      let page : Goes (holds_by line.said kept) x r.mid stored = holds_go law known line.said kept r.held x r.mid stored none here holds in
      goes_on x page (λ y f g n.
      let hung : Goes (hangs_by r.hangs) y h.ready stored = subst (λ c. Goes (hangs_by r.hangs) y c stored) (sym r.is)
      (hang_goes known r.hangs y r.mid stored f g n page.one) in
      goes_on y hung (λ z k l m. subst (λ s. Goes (steps_of (part_of h.part given)) z new s) l
      (bursts_go z h.ready k m hung.one new h.part given e)))

  fails : (line : TimedLine) (kept : Bool) (old : Driven) (new : ConversationFields LimitedFields) (stored : List PagePixels) →
      old.unkept ≡ [] → HoldsOne old.answerer.terminal.speaking → (h : HolderBreaksOff line kept old new stored)
      (given : List (SentBurst × Bool)) → bursts_in given ≡ h.part.bursts →
      LeadsHolder (holder_steps line kept h.is_ready.hangs (part_of h.part given)) old new stored
  fails line kept old new stored none one h given e =
      let r : HolderIsReady line kept old h.ready stored = h.is_ready in
      let first : Goes (answerer_line line ∷ []) old r.heard old.stored = line_goes law known line kept old h.ready stored none one r in
      let stopped : HoldsOne (refused_so limited_behaviour r.heard).terminal.speaking =
      watched known r.heard first.one (stop_in r.heard.watch) in
      let all : Goes (holder_steps line kept h.is_ready.hangs (part_of h.part given)) old new stored =
      goes_on old first (λ d is same n. goes_on d (watch_goes law known d r.heard old.stored is same n first.one)
      (λ x f g m. kept_goes line kept old new stored h given e stopped x f g m)) in
      leads all

  answers : (line : TimedLine) (kept late : Bool) (old : Driven) (new : ConversationFields LimitedFields) (stored : List PagePixels) →
      old.unkept ≡ [] → HoldsOne old.answerer.terminal.speaking → (h : HolderAnswers line kept late old new stored) →
      LeadsHolder (holder_steps line kept h.is_ready.hangs (turn_of h.turn)) old new stored
  answers line kept late old new stored none one h =
      fails line kept old new stored none one
      (record {
        ready = h.ready;
        is_ready = h.is_ready;
        part = record { late = late; left = h.turn.left; withholds = h.turn.withholds; bursts = h.turn.bursts; gives = inr h.turn.gives };
      }) (each_with true h.turn.bursts) (sym (same_bursts true h.turn.bursts))

  without_memory : (line : TimedLine) (old : Driven) (new : ConversationFields LimitedFields) → old.unkept ≡ [] →
      HoldsOne old.answerer.terminal.speaking → AnswererHasNoMemory line old new → LeadsHolder (answerer_refuses line ∷ []) old new old.stored
  without_memory line old new none one h = leads (refuses_goes law known line old new none one h)

-- a new answerer
pub new_holds : (document : Document) (wish : Wish) (caps : Caps) (limits : Limits) (first : Driven) →
    Begins document wish caps limits (joined first) → limits.pages ≡ 1 → 0 < limits.octets →
    (first.unkept ≡ []) × HoldsOne first.answerer.terminal.speaking
new_holds document wish caps limits first begins limit octets =
    let room : is_full limits [] ≡ false = new_has_room limits limit octets in (
      none_first first.stored first.unkept (ap (λ (j : Joined). j.pages) begins.is),
      subst HoldsOne (sym (ap (λ (j : Joined). j.answerer) begins.is))
          (record {
            limit = limit;
            room = room;
            within = inl refl;
            busy = λ full. absurd (false≢true (sym room ∙ full));
            silent = inl refl;
          }),
    )

pub held_answers_are_steps : HearingTakes → HoldersKnown → HeldAnswersAreSteps
held_answers_are_steps law known =
    record {
      begins = new_holds;
      answerer = answers law known;
      answerer_fails = fails law known;
      answerer_refuses = without_memory law known;
    }

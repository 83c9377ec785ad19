-- A driven call with few bad tries goes through.
use Rattle.std.proofs.Common.{◌≡◌, ◌≢◌, ℕ, zero, suc, ◌≤◌, ◌<◌, Bool, true, false, cond, List, [], ◌∷◌, length, Option, Some, None, map}
use Rattle.std.proofs.Common.{refl, sym, ap, subst, ◌∙◌, arith}
use Rattle.std.specs.Prelude.{◌&&◌, not, nat_lt}
use Rattle.std.proofs.lemmas.Bool.{ltb-false}
use Rattle.signals.specs.Agreement.{LoweredIsAllowed}
use Rattle.signals.specs.Signals.{dis, dcs, cfr, ftt, ppr, mcf, dcn}
use Rattle.signals.specs.declared.params.Caps.{Caps}
use Rattle.signals.specs.declared.params.Wish.{Wish}
use Rattle.stations.specs.Layers.{Document}
use Rattle.stations.specs.Laws.{SpeedsHold}
use Rattle.stations.specs.Inputs.{AnswererInput, CallerInput, hears, timeout, t5, listens, trains, t1, PlainItem, framed, checked}
use Rattle.stations.specs.CallerStep.{Caller, CallerAnswer, caller_items, unless_caller_ended, pps_of, caller_step}
use Rattle.stations.specs.AnswererStep.{Answerer, AnswererAnswer, answerer_step, answerer_items, answerer_table, answerer_ends, leaves, unless_answerer_ended}
use Rattle.stations.specs.declared.turn.CallerState.{CallerState}
use Rattle.stations.specs.declared.turn.CallerState.TheVariants.{WaitDis, WaitCfr, WaitBlock, WaitReady}
use Rattle.stations.specs.declared.turn.AnswererState.{AnswererState}
use Rattle.stations.specs.declared.turn.AnswererState.TheVariants.{PhaseB, WaitTraining, Message}
use Rattle.stations.specs.declared.turn.End.{End}
use Rattle.stations.specs.declared.turn.End.TheVariants.{Normal, NoAnswer, NoReply, Unreadable, Training as BadTraining}
use Rattle.stations.specs.declared.turn.Turn.{Turn}
use Rattle.stations.specs.declared.turn.Turn.TheVariants.{Silent}
use Rattle.line_sim.specs.Line.{answerer_acts, World, caller_sends, answerer_sends, caller_acts, comes_to_answerer, delivers_to_answerer, delivers_to_caller}
use Rattle.line_sim.specs.Line.{happens}
use Rattle.line_sim.specs.Line.Outcome.{Done}
use Rattle.line_sim.specs.declared.event.Event.TheVariants.{Spoil, LoseToCaller, AnswererT2}
use Rattle.line_sim.specs.LineFacts.{LineFacts, Phase, due}
use Rattle.line_sim.specs.Headline.{Promised}
use Rattle.line_sim.specs.Driving.{Fate, Patience, Driven, first_fate, meets_answerer, meets_caller, is_rnr_item, dis_kept}
use Rattle.line_sim.specs.Driving.{dis_is_due, caller_waits, somebody_waits, comes_back, drives, is_over, is_over_at, drive, new_driven}
use Rattle.line_sim.specs.Driving.{DrivenCallsEnd, DrivenCallsAreSafe}
use Rattle.line_sim.specs.Driving.Fate.{comes, lost, spoiled}
use Rattle.line_sim.specs.Tolerance.{Tries, no_tries, bad_with, checks_with, meets, noted, negotiates, is_same_phase, tries_after, BadTriesAreFew, CanGoThrough}
use Rattle.line_sim.specs.Tolerance.{tries_of, Costs, EndsWell, CallersEndWell, DrivenCallsEndFor, AnswerersEndWell}
use Rattle.line_sim.specs.Tolerance.{DrivenCallsBear}
use Rattle.line_sim.proofs.Lists.{either}
use Rattle.line_sim.proofs.Groups.{no_groups, pages_in}
use Rattle.line_sim.proofs.LineKeeps.{new_world_facts, run_keeps}
use Rattle.line_sim.proofs.DrivenRuns.{step_leads}
use Rattle.line_sim.proofs.Bearing.{Runs, InBlock, InTraining, InWait, Stage, Bears, ended, done, leaving, left, missed, goes, counts_stay, costs_more}
use Rattle.line_sim.proofs.BlockAnswers.{answers_at}
use Rattle.line_sim.proofs.BlockPhase.{world, calls_at, CallBears, gives_up, block_lost, answer_lost, block_came, ppr_came, block_timeout, mcf_came}
use Rattle.line_sim.proofs.Training.{dcs_lost, check_lost, training_answer_lost, dcs_came, check_came, check_spoiled, cfr_came, ftt_came, training_timeout}
use Rattle.line_sim.proofs.DisPhase.{dis_lost, t2_due, dis_came}

-- an ended caller stays
answerer_leaves : (turn : Turn) (w : World) (next : Answerer) (items : List PlainItem) → (answerer_sends turn w next items).caller ≡ w.caller
answerer_leaves Silent w next items = refl
answerer_leaves _ w next items = refl

came_leaves : (w : World) (item : PlainItem) → (comes_to_answerer w Done item).caller ≡ w.caller
came_leaves w (framed signal) =
    let answer = answerer_step w.answerer (listens signal) in
    answerer_leaves answer.turn w answer.next (answerer_items answer.next answer.turn)
came_leaves w (checked octets) =
    let answer = answerer_step w.answerer (trains octets) in
    answerer_leaves answer.turn w answer.next (answerer_items answer.next answer.turn)

delivered_leaves : (w : World) (items : List PlainItem) → (delivers_to_answerer w Done items).caller ≡ w.caller
delivered_leaves w [] = refl
delivered_leaves w (item ∷ items) = came_leaves (record w { to_answerer = items }) item

meets_leaves : (fate : Fate) (item : PlainItem) (w : World) → (meets_answerer fate item w).caller ≡ w.caller
meets_leaves comes item w = delivered_leaves w w.to_answerer
meets_leaves lost item w = refl
meets_leaves spoiled (framed signal) w = refl
meets_leaves spoiled (checked octets) w = delivered_leaves (happens w Spoil Done) (happens w Spoil Done).to_answerer

ended_acts :
    (w : World) (input : CallerInput) (why : End) → w.caller.ending ≡ Some why → (caller_acts w Done input).caller ≡ w.caller
ended_acts w input why e =
    subst
    (λ (answer : CallerAnswer). (caller_sends answer.turn w answer.next (caller_items answer.next answer.turn)).caller ≡ w.caller)
    (sym (ap (λ ending. unless_caller_ended ending input w.caller) e)) refl

ended_hears :
    (w : World) (items : List PlainItem) (why : End) → w.caller.ending ≡ Some why → (delivers_to_caller w Done items).caller ≡ w.caller
ended_hears w [] why e = refl
ended_hears w (framed signal ∷ items) why e = ended_acts (record w { to_caller = items }) (hears signal) why e
ended_hears w (checked octets ∷ items) why e = refl

ended_back : (fate : Fate) (w : World) (why : End) → w.caller.ending ≡ Some why → (meets_caller fate w).caller ≡ w.caller
ended_back comes w why e = ended_hears w w.to_caller why e
ended_back lost w why e = refl
ended_back spoiled w why e = refl

ended_stays :
    (p : Patience) (xs ys : List PlainItem) (d : Driven) (why : End) → d.world.caller.ending ≡ Some why →
    (drives p xs ys d).world.caller ≡ d.world.caller
ended_stays p (item ∷ items) ys d why e = meets_leaves (first_fate d.fates) item d.world
ended_stays p [] (item ∷ items) d why e = by (is_rnr_item item && not (nat_lt d.rnrs p.busy))
  where
    by : (many : Bool) → (comes_back many item d).world.caller ≡ d.world.caller
    by true = ended_acts (happens d.world LoseToCaller Done) t5 why e
    by false = ended_back (first_fate d.fates) d.world why e
ended_stays p [] [] d why e =
    subst (λ ending. (somebody_waits p ending d.world.answerer.ending d).world.caller ≡ d.world.caller) (sym e) (by d.world.answerer.ending)
  where
    by : (ending : Option End) → (somebody_waits p (Some why) ending d).world.caller ≡ d.world.caller
    by None =
        let answer = answerer_step d.world.answerer t1 in
        answerer_leaves answer.turn d.world answer.next (answerer_items answer.next answer.turn)
    by (Some other) = refl

-- an ended answerer stays too
ended_answerer :
    (w : World) (input : AnswererInput) (why : End) → w.answerer.ending ≡ Some why → (answerer_acts w Done input).answerer ≡ w.answerer
ended_answerer w input why e =
    subst
    (λ (answer : AnswererAnswer).
    (answerer_sends answer.turn w answer.next (answerer_items answer.next answer.turn)).answerer ≡ w.answerer)
    (sym (ap (λ ending. unless_answerer_ended ending input w.answerer) e)) refl

delivered_answerer :
    (w : World) (items : List PlainItem) (why : End) → w.answerer.ending ≡ Some why →
    (delivers_to_answerer w Done items).answerer ≡ w.answerer
delivered_answerer w [] why e = refl
delivered_answerer w (framed signal ∷ items) why e = ended_answerer (record w { to_answerer = items }) (listens signal) why e
delivered_answerer w (checked octets ∷ items) why e = ended_answerer (record w { to_answerer = items }) (trains octets) why e

meets_answerer_stays :
    (fate : Fate) (item : PlainItem) (w : World) (why : End) → w.answerer.ending ≡ Some why →
    (meets_answerer fate item w).answerer ≡ w.answerer
meets_answerer_stays comes item w why e = delivered_answerer w w.to_answerer why e
meets_answerer_stays lost item w why e = refl
meets_answerer_stays spoiled (framed signal) w why e = refl
meets_answerer_stays spoiled (checked octets) w why e =
    delivered_answerer (happens w Spoil Done) (happens w Spoil Done).to_answerer why e

caller_leaves : (turn : Turn) (w : World) (next : Caller) (items : List PlainItem) → (caller_sends turn w next items).answerer ≡ w.answerer
caller_leaves Silent w next items = refl
caller_leaves _ w next items = refl

caller_acted : (w : World) (input : CallerInput) → (caller_acts w Done input).answerer ≡ w.answerer
caller_acted w input =
    let answer = caller_step w.caller input in
    caller_leaves answer.turn w answer.next (caller_items answer.next answer.turn)

caller_heard : (w : World) (items : List PlainItem) → (delivers_to_caller w Done items).answerer ≡ w.answerer
caller_heard w [] = refl
caller_heard w (framed signal ∷ items) = caller_acted (record w { to_caller = items }) (hears signal)
caller_heard w (checked octets ∷ items) = refl

back_leaves : (fate : Fate) (w : World) → (meets_caller fate w).answerer ≡ w.answerer
back_leaves comes w = caller_heard w w.to_caller
back_leaves lost w = refl
back_leaves spoiled w = refl

answerer_stays :
    (p : Patience) (xs ys : List PlainItem) (d : Driven) (why other : End) → d.world.caller.ending ≡ Some why →
    d.world.answerer.ending ≡ Some other → (drives p xs ys d).world.answerer ≡ d.world.answerer
answerer_stays p (item ∷ items) ys d why other e h = meets_answerer_stays (first_fate d.fates) item d.world other h
answerer_stays p [] (item ∷ items) d why other e h = by (is_rnr_item item && not (nat_lt d.rnrs p.busy))
  where
    by : (many : Bool) → (comes_back many item d).world.answerer ≡ d.world.answerer
    by true = caller_acted (happens d.world LoseToCaller Done) t5
    by false = back_leaves (first_fate d.fates) d.world
answerer_stays p [] [] d why other e h =
    subst (λ ending. (somebody_waits p ending d.world.answerer.ending d).world.answerer ≡ d.world.answerer) (sym e)
    (subst (λ ending. (somebody_waits p (Some why) ending d).world.answerer ≡ d.world.answerer) (sym h) refl)

-- what becomes of an item takes no count away
meets_more : (fate : Fate) (item : PlainItem) (t : Tries) → (t.bad ≤ (meets fate item t).bad) × (t.checks ≤ (meets fate item t).checks)
meets_more comes item t = (omega arith, omega arith)
meets_more lost item t = (by t.now, omega arith)
  where
    by : (now : Bool) → t.bad ≤ bad_with true now t.bad
    by true = omega arith
    by false = omega arith
meets_more spoiled item t = (by t.now, spoils item)
  where
    by : (now : Bool) → t.bad ≤ bad_with true now t.bad
    by true = omega arith
    by false = omega arith

    spoils : (item : PlainItem) → t.checks ≤ checks_with spoiled item t.checks
    spoils (framed signal) = omega arith
    spoils (checked octets) = omega arith

noted_more :
    (p : Patience) (xs ys : List PlainItem) (d : Driven) (t : Tries) →
    (t.bad ≤ (noted p xs ys d t).bad) × (t.checks ≤ (noted p xs ys d t).checks)
noted_more p (item ∷ items) ys d t = meets_more (first_fate d.fates) item t
noted_more p [] (item ∷ items) d t =
    either (λ (u : Tries). (t.bad ≤ u.bad) × (t.checks ≤ u.checks)) (is_rnr_item item && not (nat_lt d.rnrs p.busy)) _ _
    (λ h. (omega arith, omega arith)) (λ h. meets_more (first_fate d.fates) item t)
noted_more p [] [] d t = (omega arith, omega arith)

-- nothing is due but the caller's time-out
not_due :
    (state : CallerState) (other : AnswererState) (ending : Option End) (few : Bool) → state ≢ WaitDis → dis_is_due state other ending few ≡ false
not_due WaitDis other ending few h = absurd (h refl)
not_due WaitCfr other ending few h = refl
not_due WaitBlock other ending few h = refl
not_due WaitReady other ending few h = refl

-- a driven call by its parts
abbrev driven : Caller → Answerer → List PlainItem → List PlainItem → ℕ → ℕ → List Fate → Driven
driven c s xs ys calls rnrs fates = record { world = world c s xs ys; dis = calls; rnrs = rnrs; fates = fates }

module _ (laws : Promised) (speeds_law : SpeedsHold) (may_law : LoweredIsAllowed) (document : Document) (wish : Wish) (caps : Caps) (p : Patience)
    (checks : ℕ) (call : CanGoThrough document wish caps checks) where
  -- what a step leads to
  abbrev Steps : Tries → Driven → Driven → Type 0
  Steps t old after = Bears caps wish document checks p.calls after.dis (tries_after old.world after.world t) after.world

  -- what a world with a bad or good item leads to
  abbrev Leads : ℕ → Tries → World → World → Type 0
  Leads calls t old after = Bears caps wish document checks p.calls calls (tries_after old after t) after

  block_spoiled :
      (calls : ℕ) (t : Tries) (c : Caller) (s : Answerer) (item : PlainItem) (items : List PlainItem) → c.state ≡ WaitBlock →
      Runs caps wish document c s → InBlock c s t (item ∷ items) [] →
      Leads calls (meets spoiled item t) (world c s (item ∷ items) []) (meets_answerer spoiled item (world c s (item ∷ items) []))
  block_spoiled calls t c s (framed signal) items is runs b =
      block_lost caps wish document checks p.calls calls t c s (framed signal) items spoiled is runs b refl
  block_spoiled calls t c s (checked octets) [] is runs b = (let no : checked octets ≡ pps_of b.block = b.line.0 in cc)
  block_spoiled calls t c s (checked octets) (next ∷ items) is runs b = absurd b.line.0.0

  block_step :
      (c : Caller) (s : Answerer) (calls rnrs : ℕ) (fates : List Fate) (t : Tries) → c.state ≡ WaitBlock → Runs caps wish document c s →
      (xs ys : List PlainItem) → InBlock c s t xs ys → LineFacts (world c s xs ys) →
      LineFacts (drives p xs ys (driven c s xs ys calls rnrs fates)).world →
      Steps (noted p xs ys (driven c s xs ys calls rnrs fates) t) (driven c s xs ys calls rnrs fates) (drives p xs ys (driven c s xs ys calls rnrs fates))
  block_step c s calls rnrs fates t is runs (item ∷ items) [] b f after = by (first_fate fates) after
    where
      by : (fate : Fate) → LineFacts (meets_answerer fate item (world c s (item ∷ items) [])) →
          Leads (dis_kept c.state calls) (meets fate item t) (world c s (item ∷ items) [])
          (meets_answerer fate item (world c s (item ∷ items) []))
      by comes line = block_came caps wish document checks p.calls (dis_kept c.state calls) t c s item items is runs b f line
      by lost line = block_lost caps wish document checks p.calls (dis_kept c.state calls) t c s item items lost is runs b refl
      by spoiled line = block_spoiled (dis_kept c.state calls) t c s item items is runs b
  block_step c s calls rnrs fates t is runs (item ∷ items) (other ∷ others) b f after = absurd b.line
  block_step c s calls rnrs fates t is runs [] (framed mcf ∷ []) b f after = by (first_fate fates) after
    where
      by : (fate : Fate) → LineFacts (meets_caller fate (world c s [] (framed mcf ∷ []))) →
          Leads (dis_kept c.state calls) (meets fate (framed mcf) t) (world c s [] (framed mcf ∷ []))
          (meets_caller fate (world c s [] (framed mcf ∷ [])))
      by comes line =
          mcf_came caps wish document checks p.calls (dis_kept c.state calls) t c s is runs b (ap (λ state. dis_kept state calls) is) f line
      by lost line = answer_lost caps wish document checks p.calls (dis_kept c.state calls) t c s (framed mcf) lost is runs b refl
      by spoiled line = answer_lost caps wish document checks p.calls (dis_kept c.state calls) t c s (framed mcf) spoiled is runs b refl
  block_step c s calls rnrs fates t is runs [] (framed (ppr map) ∷ []) b f after = by (first_fate fates)
    where
      by : (fate : Fate) →
          Leads (dis_kept c.state calls) (meets fate (framed (ppr map)) t) (world c s [] (framed (ppr map) ∷ []))
          (meets_caller fate (world c s [] (framed (ppr map) ∷ [])))
      by comes = ppr_came caps wish document checks p.calls (dis_kept c.state calls) t c s map is runs b
      by lost = answer_lost caps wish document checks p.calls (dis_kept c.state calls) t c s (framed (ppr map)) lost is runs b refl
      by spoiled = answer_lost caps wish document checks p.calls (dis_kept c.state calls) t c s (framed (ppr map)) spoiled is runs b refl
  block_step c s calls rnrs fates t is runs [] [] b f after =
      let d = driven c s [] [] calls rnrs fates in
      subst (λ ending. Steps t d (somebody_waits p ending s.ending d)) (sym runs.runs)
      (subst (λ due. Steps t d (caller_waits due d))
      (sym (not_due c.state s.state s.ending (nat_lt calls p.calls) (λ e. (let no : WaitBlock ≡ WaitDis = sym is ∙ e in cc))))
      (block_timeout caps wish document checks p.calls (dis_kept c.state calls) t c s is runs b))
  block_step c s calls rnrs fates t is runs [] ys b f after = absurd b.line

  training_step :
      (c : Caller) (s : Answerer) (calls rnrs : ℕ) (fates : List Fate) (t : Tries) → c.state ≡ WaitCfr → Runs caps wish document c s →
      (xs ys : List PlainItem) → InTraining caps checks c s t xs ys → LineFacts (world c s xs ys) →
      Steps (noted p xs ys (driven c s xs ys calls rnrs fates) t) (driven c s xs ys calls rnrs fates) (drives p xs ys (driven c s xs ys calls rnrs fates))
  training_step c s calls rnrs fates t is runs (framed (dcs params) ∷ checked octets ∷ []) [] b f = by (first_fate fates)
    where
      by : (fate : Fate) →
          Leads (dis_kept c.state calls) (meets fate (framed (dcs params)) t) (world c s (framed (dcs params) ∷ checked octets ∷ []) [])
          (meets_answerer fate (framed (dcs params)) (world c s (framed (dcs params) ∷ checked octets ∷ []) []))
      by comes = dcs_came caps wish document checks p.calls (dis_kept c.state calls) t c s params octets is runs b
      by lost = dcs_lost caps wish document checks p.calls (dis_kept c.state calls) t c s params octets lost is runs b refl
      by spoiled = dcs_lost caps wish document checks p.calls (dis_kept c.state calls) t c s params octets spoiled is runs b refl
  training_step c s calls rnrs fates t is runs (checked octets ∷ []) [] b f = by (first_fate fates)
    where
      by : (fate : Fate) →
          Leads (dis_kept c.state calls) (meets fate (checked octets) t) (world c s (checked octets ∷ []) [])
          (meets_answerer fate (checked octets) (world c s (checked octets ∷ []) []))
      by comes = check_came caps wish document checks p.calls laws (dis_kept c.state calls) t c s octets is runs b f
      by lost = check_lost caps wish document checks p.calls (dis_kept c.state calls) t c s octets lost is runs b refl
      by spoiled =
          check_spoiled caps wish document checks p.calls (dis_kept c.state calls) t c s octets (map (λ octet. 255) octets) is runs b
  training_step c s calls rnrs fates t is runs [] (framed cfr ∷ []) b f = by (first_fate fates)
    where
      by : (fate : Fate) →
          Leads (dis_kept c.state calls) (meets fate (framed cfr) t) (world c s [] (framed cfr ∷ []))
          (meets_caller fate (world c s [] (framed cfr ∷ [])))
      by comes = cfr_came caps wish document checks p.calls (dis_kept c.state calls) t c s is runs b f
      by lost = training_answer_lost caps wish document checks p.calls (dis_kept c.state calls) t c s (framed cfr) lost is runs b refl
      by spoiled = training_answer_lost caps wish document checks p.calls (dis_kept c.state calls) t c s (framed cfr) spoiled is runs b refl
  training_step c s calls rnrs fates t is runs [] (framed ftt ∷ []) b f = by (first_fate fates)
    where
      by : (fate : Fate) →
          Leads (dis_kept c.state calls) (meets fate (framed ftt) t) (world c s [] (framed ftt ∷ []))
          (meets_caller fate (world c s [] (framed ftt ∷ [])))
      by comes = ftt_came caps wish document checks p.calls speeds_law may_law (dis_kept c.state calls) t c s is runs b f
      by lost = training_answer_lost caps wish document checks p.calls (dis_kept c.state calls) t c s (framed ftt) lost is runs b refl
      by spoiled = training_answer_lost caps wish document checks p.calls (dis_kept c.state calls) t c s (framed ftt) spoiled is runs b refl
  training_step c s calls rnrs fates t is runs [] [] b f =
      let d = driven c s [] [] calls rnrs fates in
      subst (λ ending. Steps t d (somebody_waits p ending s.ending d)) (sym runs.runs)
      (subst (λ due. Steps t d (caller_waits due d))
      (sym (not_due c.state s.state s.ending (nat_lt calls p.calls) (λ e. (let no : WaitCfr ≡ WaitDis = sym is ∙ e in cc))))
      (training_timeout caps wish document checks p.calls (dis_kept c.state calls) t c s is runs b))
  training_step c s calls rnrs fates t is runs xs ys b f = absurd b.line

  dis_step :
      (c : Caller) (s : Answerer) (calls rnrs : ℕ) (fates : List Fate) (t : Tries) → c.state ≡ WaitDis → Runs caps wish document c s →
      (xs ys : List PlainItem) → InWait caps calls c t xs ys → LineFacts (world c s xs ys) →
      Steps (noted p xs ys (driven c s xs ys calls rnrs fates) t) (driven c s xs ys calls rnrs fates) (drives p xs ys (driven c s xs ys calls rnrs fates))
  dis_step c s calls rnrs fates t is runs [] (framed (dis others) ∷ []) b f = by (first_fate fates)
    where
      by : (fate : Fate) →
          Leads (dis_kept c.state calls) (meets fate (framed (dis others)) t) (world c s [] (framed (dis others) ∷ []))
          (meets_caller fate (world c s [] (framed (dis others) ∷ [])))
      by comes =
          dis_came caps wish document checks p.calls laws call.agreed call.speeds (dis_kept c.state calls) t c s others is runs
          (subst (λ n. InWait caps n c t [] (framed (dis others) ∷ [])) (sym (ap (λ state. dis_kept state calls) is)) b) f
      by lost =
          dis_lost caps wish document checks p.calls (dis_kept c.state calls) t c s others lost is runs
          (subst (λ n. InWait caps n c t [] (framed (dis others) ∷ [])) (sym (ap (λ state. dis_kept state calls) is)) b) refl
      by spoiled =
          dis_lost caps wish document checks p.calls (dis_kept c.state calls) t c s others spoiled is runs
          (subst (λ n. InWait caps n c t [] (framed (dis others) ∷ [])) (sym (ap (λ state. dis_kept state calls) is)) b) refl
  dis_step c s calls rnrs fates t is runs [] [] b f =
      let d = driven c s [] [] calls rnrs fates in
      let phase = subst (λ state. Phase state c f.accepted s) is f.stations.phase in
      subst (λ ending. Steps t d (somebody_waits p ending s.ending d)) (sym runs.runs)
      (subst (λ due. Steps t d (caller_waits due d))
      (sym (is_due c.state s.state s.ending (nat_lt calls p.calls) is phase.0 runs.other)) (by (nat_lt calls p.calls) refl))
    where
      is_due :
          (state : CallerState) (other : AnswererState) (ending : Option End) (few : Bool) → state ≡ WaitDis → other ≡ PhaseB → ending ≡ None →
          dis_is_due state other ending few ≡ few
      is_due state other ending few e h g = rw (e, h, g) refl

      by : (few : Bool) → nat_lt calls p.calls ≡ few →
          Steps t (driven c s [] [] calls rnrs fates) (caller_waits few (driven c s [] [] calls rnrs fates))
      by true e =
          subst (λ n. Leads n t (world c s [] []) (happens (world c s [] []) AnswererT2 Done))
          (sym (ap (λ state. dis_kept state (suc calls)) is)) (t2_due caps wish document checks p.calls calls t c s is runs b f)
      by false e =
          let sent : calls ≤ t.bad = b.line in
          let past = ltb-false calls p.calls e in
          subst (CallBears caps wish document checks p.calls (dis_kept c.state calls) t (world c s [] []) (world c s [] []))
          (sym (calls_at c timeout WaitDis runs.runs is))
          (gives_up caps wish document checks p.calls (dis_kept c.state calls) t c s (world c s [] []) NoAnswer refl (λ e. cc) (omega arith))
  dis_step c s calls rnrs fates t is runs xs ys b f = absurd b.line

  -- the DCN is under way
  closing_step :
      (c : Caller) (s : Answerer) (calls rnrs : ℕ) (fates : List Fate) (t : Tries) → c.ending ≡ Some Normal → t.now ≡ false →
      s.ending ≡ None → leaves s.accepted ≡ Normal → (fate : Fate) →
      Leads (dis_kept c.state calls) (meets fate (framed dcn) t) (world c s (framed dcn ∷ []) [])
      (meets_answerer fate (framed dcn) (world c s (framed dcn ∷ []) []))
  closing_step c s calls rnrs fates t e good runs leaves_so comes =
      subst
      (λ (answer : AnswererAnswer). Leads (dis_kept c.state calls) t (world c s (framed dcn ∷ []) [])
      (answerer_sends answer.turn (world c s [] []) answer.next (answerer_items answer.next answer.turn)))
      (sym (answers_at s (listens dcn) s.state runs refl ∙ at s.state)) (done e (left (ap Some leaves_so)))
    where
      at : (state : AnswererState) → answerer_table state (listens dcn) s ≡ answerer_ends s (leaves s.accepted)
      at PhaseB = refl
      at WaitTraining = refl
      at Message = refl
  closing_step c s calls rnrs fates t e good runs leaves_so lost =
      let old = world c s (framed dcn ∷ []) [] in
      let new = world c s [] [] in
      let u = meets lost (framed dcn) t in
      let counts = counts_stay old new u refl refl in
      let bad = counts.0 in
      let one : u.bad ≡ suc t.bad = ap (λ now. bad_with true now t.bad) good in
      done e (missed (omega arith))
  closing_step c s calls rnrs fates t e good runs leaves_so spoiled =
      let old = world c s (framed dcn ∷ []) [] in
      let new = world c s [] [] in
      let u = meets spoiled (framed dcn) t in
      let counts = counts_stay old new u refl refl in
      let bad = counts.0 in
      let one : u.bad ≡ suc t.bad = ap (λ now. bad_with true now t.bad) good in
      done e (missed (omega arith))

  closes :
      (c : Caller) (s : Answerer) (calls rnrs : ℕ) (fates : List Fate) (t : Tries) (xs ys : List PlainItem) → c.ending ≡ Some Normal →
      t.now ≡ false → xs ≡ framed dcn ∷ [] → ys ≡ [] → s.ending ≡ None → leaves s.accepted ≡ Normal →
      Steps (noted p xs ys (driven c s xs ys calls rnrs fates) t) (driven c s xs ys calls rnrs fates)
      (drives p xs ys (driven c s xs ys calls rnrs fates))
  closes c s calls rnrs fates t xs ys e good one none runs leaves_so =
      subst
      (λ xs. Steps (noted p xs ys (driven c s xs ys calls rnrs fates) t) (driven c s xs ys calls rnrs fates)
      (drives p xs ys (driven c s xs ys calls rnrs fates)))
      (sym one)
      (subst
      (λ ys. Steps (noted p (framed dcn ∷ []) ys (driven c s (framed dcn ∷ []) ys calls rnrs fates) t)
      (driven c s (framed dcn ∷ []) ys calls rnrs fates)
      (drives p (framed dcn ∷ []) ys (driven c s (framed dcn ∷ []) ys calls rnrs fates)))
      (sym none) (closing_step c s calls rnrs fates t e good runs leaves_so (first_fate fates)))

  -- an ended caller's counts
  counts_more :
      (d : Driven) (t : Tries) (why : End) → d.world.caller.ending ≡ Some why →
      (t.bad ≤ (tries_after d.world (drives p d.world.to_answerer d.world.to_caller d).world
      (noted p d.world.to_answerer d.world.to_caller d t)).bad) ×
      (t.checks ≤ (tries_after d.world (drives p d.world.to_answerer d.world.to_caller d).world
      (noted p d.world.to_answerer d.world.to_caller d t)).checks)
  counts_more d t why e =
      let next = drives p d.world.to_answerer d.world.to_caller d in
      let u = noted p d.world.to_answerer d.world.to_caller d t in
      let same : next.world.caller ≡ d.world.caller = ended_stays p d.world.to_answerer d.world.to_caller d why e in
      let more = noted_more p d.world.to_answerer d.world.to_caller d t in
      let counts =
      counts_stay d.world next.world u (ap (λ (c : Caller). c.place) same) (ap (λ (c : Caller). negotiates c.state) same) in
      let one = more.0 in
      let two = more.1 in
      let bad = counts.0 in
      let spoils = counts.1 in
      (omega arith, omega arith)

  -- one step of a driven call
  step :
      (d : Driven) (t : Tries) → LineFacts d.world → LineFacts (drives p d.world.to_answerer d.world.to_caller d).world →
      Bears caps wish document checks p.calls d.dis t d.world →
      Steps (noted p d.world.to_answerer d.world.to_caller d t) d (drives p d.world.to_answerer d.world.to_caller d)
  step d t f after (ended why e other cost) =
      let next = drives p d.world.to_answerer d.world.to_caller d in
      let u = noted p d.world.to_answerer d.world.to_caller d t in
      let same : next.world.caller ≡ d.world.caller = ended_stays p d.world.to_answerer d.world.to_caller d why e in
      let more = counts_more d t why e in
      ended why (ap (λ (c : Caller). c.ending) same ∙ e) other
      (costs_more p.calls checks t (tries_after d.world next.world u) why more.0 more.1 cost)
  step d t f after (done e (leaving good one none runs leaves_so)) =
      closes d.world.caller d.world.answerer d.dis d.rnrs d.fates t d.world.to_answerer d.world.to_caller e good one none runs leaves_so
  step d t f after (done e (left h)) =
      let same = ended_stays p d.world.to_answerer d.world.to_caller d Normal e in
      let still = answerer_stays p d.world.to_answerer d.world.to_caller d Normal Normal e h in
      done (ap (λ (c : Caller). c.ending) same ∙ e) (left (ap (λ (s : Answerer). s.ending) still ∙ h))
  step d t f after (done e (missed h)) =
      let same = ended_stays p d.world.to_answerer d.world.to_caller d Normal e in
      let more = counts_more d t Normal e in
      let bad = more.0 in
      done (ap (λ (c : Caller). c.ending) same ∙ e) (missed (omega arith))
  step d t f after (goes runs stage) = at d.world.caller.state refl stage
    where
      at : (state : CallerState) → d.world.caller.state ≡ state →
          Stage state caps checks d.dis d.world.caller d.world.answerer t d.world.to_answerer d.world.to_caller →
          Steps (noted p d.world.to_answerer d.world.to_caller d t) d (drives p d.world.to_answerer d.world.to_caller d)
      at WaitDis is b = dis_step d.world.caller d.world.answerer d.dis d.rnrs d.fates t is runs d.world.to_answerer d.world.to_caller b f
      at WaitCfr is b =
          training_step d.world.caller d.world.answerer d.dis d.rnrs d.fates t is runs d.world.to_answerer d.world.to_caller b f
      at WaitBlock is b =
          block_step d.world.caller d.world.answerer d.dis d.rnrs d.fates t is runs d.world.to_answerer d.world.to_caller b f after
      at WaitReady is b = absurd b

  -- a whole driven call
  bears_all :
      (most : ℕ) (d : Driven) (t : Tries) → LineFacts d.world → Bears caps wish document checks p.calls d.dis t d.world →
      Bears caps wish document checks p.calls (drive most p d).dis (tries_of most p t d) (drive most p d).world
  bears_all zero d t f b = b
  bears_all (suc most) d t f b =
      let next = drives p d.world.to_answerer d.world.to_caller d in
      let led = step_leads p d.world.to_answerer d.world.to_caller d in
      let line : LineFacts next.world = subst LineFacts led.leads (run_keeps laws led.steps d.world f) in
      by (is_over d) (bears_all most next _ line (step d t f line b))
    where
      by :
          (over : Bool) →
          Bears caps wish document checks p.calls (drive most p (drives p d.world.to_answerer d.world.to_caller d)).dis
          (tries_of most p
          (tries_after d.world (drives p d.world.to_answerer d.world.to_caller d).world (noted p d.world.to_answerer d.world.to_caller d t))
          (drives p d.world.to_answerer d.world.to_caller d))
          (drive most p (drives p d.world.to_answerer d.world.to_caller d)).world →
          Bears caps wish document checks p.calls (cond over d (drive most p (drives p d.world.to_answerer d.world.to_caller d))).dis
          (cond over t
          (tries_of most p
          (tries_after d.world (drives p d.world.to_answerer d.world.to_caller d).world (noted p d.world.to_answerer d.world.to_caller d t))
          (drives p d.world.to_answerer d.world.to_caller d)))
          (cond over d (drive most p (drives p d.world.to_answerer d.world.to_caller d))).world
      by true later = b
      by false later = later

  begins : (fates : List Fate) → Bears caps wish document checks p.calls 1 no_tries (new_driven document wish caps fates).world
  begins fates =
      let none : due [] document ≡ 0 = ap pages_in (no_groups 0 document) in
      goes
      (record { runs = refl; other = refl; idle = refl; caps_are = refl; wish_is = refl; document_is = refl; short = tt })
      (record { page_due = subst (λ n. n < length document) (sym none) call.some; unspoiled = refl; line = (refl, refl, omega arith) })

  calls_bear :
      (fates : List Fate) (most : ℕ) →
      Bears caps wish document checks p.calls (drive most p (new_driven document wish caps fates)).dis
      (tries_of most p no_tries (new_driven document wish caps fates)) (drive most p (new_driven document wish caps fates)).world
  calls_bear fates most =
      bears_all most (new_driven document wish caps fates) no_tries (new_world_facts document wish caps call.full) (begins fates)

-- where few tries are bad, few were at the end
few_left : (old new : World) (t : Tries) (checks : ℕ) → (t.bad ≤ 2) × (t.checks ≤ checks) →
    ((tries_after old new t).bad ≤ 2) × ((tries_after old new t).checks ≤ checks)
few_left old new t checks h =
    either (λ (u : Tries). (u.bad ≤ 2) × (u.checks ≤ checks)) (is_same_phase old.caller new.caller) _ no_tries (λ e. h)
    (λ e. (omega arith, omega arith))

few_at_end :
    (most checks : ℕ) (p : Patience) (t : Tries) (d : Driven) → (t.bad ≤ 2) × (t.checks ≤ checks) → BadTriesAreFew most checks p t d →
    ((tries_of most p t d).bad ≤ 2) × ((tries_of most p t d).checks ≤ checks)
few_at_end zero checks p t d h few = h
few_at_end (suc most) checks p t d h few =
    let next = drives p d.world.to_answerer d.world.to_caller d in
    let met = noted p d.world.to_answerer d.world.to_caller d t in
    let later = few_at_end most checks p (tries_after d.world next.world met) next (few_left d.world next.world met checks (few.0, few.1)) few.2 in
    either (λ (u : Tries). (u.bad ≤ 2) × (u.checks ≤ checks)) (is_over d) _ _ (λ e. h) (λ e. later)

-- no other end costs so little
cheap :
    (calls checks : ℕ) (t : Tries) (why : End) → 3 ≤ calls → (t.bad ≤ 2) × (t.checks ≤ checks) → Costs calls checks t why →
    EndsWell (Some why)
cheap calls checks t Normal patient few cost = tt
cheap calls checks t NoAnswer patient few cost = (let bad = few.0 in absurd (omega arith))
cheap calls checks t NoReply patient few cost = (let bad = few.0 in absurd (omega arith))
cheap calls checks t Unreadable patient few cost = (let bad = few.0 in absurd (omega arith))
cheap calls checks t BadTraining patient few cost = (let spoils = few.1 in absurd (omega arith))
cheap calls checks t _ patient few cost = absurd cost

pub callers_end_well : Promised → SpeedsHold → LoweredIsAllowed → CallersEndWell
callers_end_well laws speeds may document wish caps p checks fates most can few =
    at (calls_bear laws speeds may document wish caps p checks can.call fates most)
    (few_at_end most checks p no_tries (new_driven document wish caps fates) (omega arith, omega arith) few)
  where
    at :
        Bears caps wish document checks p.calls (drive most p (new_driven document wish caps fates)).dis
        (tries_of most p no_tries (new_driven document wish caps fates)) (drive most p (new_driven document wish caps fates)).world →
        ((tries_of most p no_tries (new_driven document wish caps fates)).bad ≤ 2) ×
        ((tries_of most p no_tries (new_driven document wish caps fates)).checks ≤ checks) →
        EndsWell (drive most p (new_driven document wish caps fates)).world.caller.ending
    at (done e closing) few = subst EndsWell (sym e) tt
    at (ended why e other cost) few =
        subst EndsWell (sym e)
        (cheap p.calls checks (tries_of most p no_tries (new_driven document wish caps fates)) why can.patient few cost)
    at (goes runs stage) few = subst EndsWell (sym runs.runs) tt

has_ended : (xs ys : List PlainItem) (one other : Option End) → is_over_at xs ys one other ≡ true → (why : End) × (one ≡ Some why)
has_ended [] [] (Some why) (Some other) e = (why, refl)
has_ended [] [] (Some why) None e = cc
has_ended [] [] None other e = cc
has_ended [] (y ∷ ys) one other e = cc
has_ended (x ∷ xs) ys one other e = cc

-- a driven call's caller ends, for a reason that has cost its tries
pub driven_calls_end_for : Promised → SpeedsHold → LoweredIsAllowed → DrivenCallsEnd → DrivenCallsEndFor
driven_calls_end_for laws speeds may ends document wish caps p checks fates most call patient enough =
    let end = ends document wish caps p fates most patient in
    let bounded = end.bounded in
    at (drive most p (new_driven document wish caps fates)) (end.over (omega arith))
    (calls_bear laws speeds may document wish caps p checks call fates most)
  where
    at :
        (d : Driven) → is_over d ≡ true →
        Bears caps wish document checks p.calls d.dis (tries_of most p no_tries (new_driven document wish caps fates)) d.world →
        (why : End) × (d.world.caller.ending ≡ Some why) ×
        Costs p.calls checks (tries_of most p no_tries (new_driven document wish caps fates)) why
    at d over (done e closing) = (Normal, e, tt)
    at d over (ended why e other cost) = (why, e, cost)
    at d over (goes runs stage) =
        let has = has_ended d.world.to_answerer d.world.to_caller d.world.caller.ending d.world.answerer.ending over in
        let no : None ≡ Some has.0 = sym runs.runs ∙ has.1 in
        cc

-- where the last try is good, the answerer ends normally too
pub answerers_end_well : Promised → SpeedsHold → LoweredIsAllowed → DrivenCallsEnd → AnswerersEndWell
answerers_end_well laws speeds may ends document wish caps p checks fates most call patient enough normal good =
    let end = ends document wish caps p fates most patient in
    let bounded = end.bounded in
    at (drive most p (new_driven document wish caps fates)) (end.over (omega arith)) normal
    (calls_bear laws speeds may document wish caps p checks call fates most)
  where
    some : (xs ys : List PlainItem) (one other : Option End) → is_over_at xs ys one other ≡ true → xs ≡ framed dcn ∷ [] → ⊥
    some [] ys one other over e = cc
    some (x ∷ xs) ys one other over e = cc

    at :
        (d : Driven) → is_over d ≡ true → d.world.caller.ending ≡ Some Normal →
        Bears caps wish document checks p.calls d.dis (tries_of most p no_tries (new_driven document wish caps fates)) d.world →
        d.world.answerer.ending ≡ Some Normal
    at d over h (done e (leaving now one none runs leaves_so)) =
        absurd (some d.world.to_answerer d.world.to_caller d.world.caller.ending d.world.answerer.ending over one)
    at d over h (done e (left is)) = is
    at d over h (done e (missed bad)) = absurd (omega arith)
    at d over h (ended why e other cost) = (let same : why ≡ Normal = cc in absurd (other same))
    at d over h (goes runs stage) = (let no : None ≡ Some Normal = sym runs.runs ∙ h in cc)

-- a caller that has ended, and well, has ended normally
is_normal : (ending : Option End) → EndsWell ending → (why : End) → ending ≡ Some why → ending ≡ Some Normal
is_normal None h why e = cc
is_normal (Some Normal) h why e = refl
is_normal (Some _) h why e = absurd h

pub driven_calls_bear : Promised → SpeedsHold → LoweredIsAllowed → DrivenCallsEnd → DrivenCallsAreSafe → DrivenCallsBear
driven_calls_bear laws speeds may ends safe document wish caps p checks fates most can enough few =
    let d = drive most p (new_driven document wish caps fates) in
    let patient = can.patient in
    let end = ends document wish caps p fates most (omega arith) in
    let bounded = end.bounded in
    let over = end.over (omega arith) in
    let why = has_ended d.world.to_answerer d.world.to_caller d.world.caller.ending d.world.answerer.ending over in
    let normal =
    is_normal d.world.caller.ending (callers_end_well laws speeds may document wish caps p checks fates most can few) why.0 why.1 in
    let all = (safe document wish caps p fates most can.call.full).caller_normal normal in
    record { caller_end = normal; confirmed_all = all.1; stored_all = all.0 }

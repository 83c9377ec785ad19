-- What fates make of the fields of a driven call.
use Rattle.std.proofs.Common.{◌≡◌, ◌≢◌, ◌↔◌, ℕ, zero, suc, ◌+◌, ◌≤◌, ◌<◌, Bool, true, false, cond, Option, Some}
use Rattle.std.proofs.Common.{None, List, [], ◌∷◌, ◌++◌, map}
use Rattle.std.proofs.Common.{drop, refl, ap, sym, subst, ◌∙◌, arith}
use Rattle.std.specs.Prelude.{nat_lt, ◌&&◌, not, is_some, IsTrue, slice_index_or, length}
use Rattle.signals.specs.Signals.{PlainSignal, rnr}
use Rattle.stations.specs.Inputs.{PlainItem, framed, checked}
use Rattle.stations.specs.declared.turn.AnswererState.{AnswererState}
use Rattle.stations.specs.declared.turn.AnswererState.TheVariants.{PhaseB, WaitTraining, Message}
use Rattle.stations.specs.declared.turn.CallerState.{CallerState}
use Rattle.stations.specs.declared.turn.CallerState.TheVariants.{WaitDis, WaitCfr, WaitBlock, WaitReady}
use Rattle.stations.specs.declared.turn.End.{End}
use Rattle.line_sim.specs.Driving.{Driven, Fate, Patience, caller_waits, comes_back, dis_is_due, dis_kept, drive}
use Rattle.line_sim.specs.Driving.{drives, events_back, events_there, events_waiting, first_fate, is_over, kept, meets_caller, rnrs_with}
use Rattle.line_sim.specs.Driving.{is_over_at, is_rnr_item, later_fates, somebody_waits, step_events, steps_made}
use Rattle.line_sim.specs.Driving.Fate.{comes, lost, spoiled}
use Rattle.line_sim.specs.Entries.{and_entries, entry_of, head_kind, is_refused, kind_of, signal_kind}
use Rattle.line_sim.specs.Fates.{ActsIf, Broken, ComesNext, DrivenFields, Follows, MakesStep, MayAct, SetsBusy, ShowsDriven, act_to_answerer}
use Rattle.line_sim.specs.Fates.{act_to_caller, act_waiting, before_act, dis_with, is_fate_due, is_one_too_many, is_sending, next_of, plain_fate}
use Rattle.line_sim.specs.Fates.{rnrs_after}
use Rattle.line_sim.specs.Line.{World, Outcome, Done, Nothing, InputLost, Cut, happens, run}
use Rattle.line_sim.specs.Report.{all_done}
use Rattle.line_sim.specs.Represents.{Acts, Shows}
use Rattle.line_sim.specs.declared.call.Call.{Call}
use Rattle.line_sim.specs.declared.drive.Act.{Act}
use Rattle.line_sim.specs.declared.drive.Fate.{Fate as CallFate}
use Rattle.line_sim.specs.declared.drive.Fate.TheVariants.{Comes, Lost, Spoiled}
use Rattle.line_sim.specs.declared.drive.Step.{Step}
use Rattle.line_sim.specs.declared.event.Entry.{Entry}
use Rattle.line_sim.specs.declared.event.Event.{Event}
use Rattle.line_sim.specs.declared.event.Event.TheVariants.{AnswererT1, AnswererT2, Busy, CallerT5, CallerTimeout, LoseToCaller}
use Rattle.line_sim.specs.declared.event.Kind.{Kind}
use Rattle.line_sim.specs.declared.event.Kind.TheVariants.{Rnr, Training}
use Rattle.line_sim.proofs.CallerDrives.{kept_same}
use Rattle.line_sim.proofs.DrivenRuns.{events_lead}
use Rattle.line_sim.proofs.Items.{no_check}
use Rattle.line_sim.proofs.Places.{back_rnrs, kept_at, met_rnrs, t1_place, t2_place, t5_place, timeout_place}
use Rattle.line_sim.proofs.Reaching.{entry_refused}

-- what is first under way to the answerer meets its fate
came :
    (p : Patience) (item : PlainItem) (items others : List PlainItem) (d : Driven) → first_fate d.fates ≡ comes →
    Follows p (item ∷ items) others d (act_to_answerer Comes false)
came p item items others d is =
    record {
      goes_on = refl;
      events = ap (λ f. events_there f item) (sym is);
      dis = refl;
      rnrs = met_rnrs (first_fate d.fates) item d.world d.rnrs;
    }

lost_there :
    (p : Patience) (item : PlainItem) (items others : List PlainItem) (d : Driven) → first_fate d.fates ≡ lost →
    Follows p (item ∷ items) others d (act_to_answerer Lost false)
lost_there p item items others d is =
    record {
      goes_on = refl;
      events = ap (λ f. events_there f item) (sym is);
      dis = refl;
      rnrs = met_rnrs (first_fate d.fates) item d.world d.rnrs;
    }

check_spoiled :
    (p : Patience) (octets : List ℕ) (items others : List PlainItem) (d : Driven) → first_fate d.fates ≡ spoiled →
    Follows p (checked octets ∷ items) others d (act_to_answerer Spoiled true)
check_spoiled p octets items others d is =
    record {
      goes_on = refl;
      events = ap (λ f. events_there f (checked octets)) (sym is);
      dis = refl;
      rnrs = met_rnrs (first_fate d.fates) (checked octets) d.world d.rnrs;
    }

frame_spoiled :
    (p : Patience) (item : PlainItem) (items others : List PlainItem) (d : Driven) → (head_kind (item ∷ items) ≢ Some Training) →
    first_fate d.fates ≡ spoiled → Follows p (item ∷ items) others d (act_to_answerer Spoiled false)
frame_spoiled p (checked octets) items others d differs is = absurd (differs refl)
frame_spoiled p (framed signal) items others d differs is =
    record {
      goes_on = refl;
      events = ap (λ f. events_there f (framed signal)) (sym is);
      dis = refl;
      rnrs = met_rnrs (first_fate d.fates) (framed signal) d.world d.rnrs;
    }

no_check_framed : (signal : PlainSignal) → signal_kind signal ≢ Some Training
no_check_framed signal e = no_check signal Training e refl

pub meets_there :
    (p : Patience) (items others : List PlainItem) (d : Driven) (fate : CallFate) (check : Bool) → items ≢ [] →
    (IsTrue check ↔ (head_kind items ≡ Some Training)) → first_fate d.fates ≡ plain_fate fate →
    Follows p items others d (act_to_answerer fate check)
meets_there p [] others d fate check some kind is = absurd (some refl)
meets_there p (item ∷ items) others d Comes check some kind is = came p item items others d is
meets_there p (item ∷ items) others d Lost check some kind is = lost_there p item items others d is
meets_there p (checked octets ∷ items) others d Spoiled true some kind is = check_spoiled p octets items others d is
meets_there p (framed signal ∷ items) others d Spoiled true some kind is = absurd (no_check_framed signal (kind.0 refl))
meets_there p (item ∷ items) others d Spoiled false some kind is =
    frame_spoiled p item items others d (λ e. (let fails : false ≡ true = kind.1 e in cc)) is

-- what is first under way to the caller meets its fate, or is an RNR too many
back_follows :
    (p : Patience) (item : PlainItem) (items : List PlainItem) (d : Driven) (act : Act) (many : Bool) →
    (is_rnr_item item && not (nat_lt d.rnrs p.busy)) ≡ many →
    before_act act.before ++ act.event ∷ [] ≡ cond many (LoseToCaller ∷ CallerT5 ∷ []) (events_back (first_fate d.fates)) →
    (comes_back many item d).dis ≡ dis_kept d.world.caller.state (dis_with act.event d.dis) →
    (comes_back many item d).rnrs ≡ rnrs_after act.event (kind_of item) (is_sending d.world.caller) d.rnrs →
    Follows p [] (item ∷ items) d act
back_follows p item items d act many is events dis rnrs =
    record {
      goes_on = refl;
      events = events ∙ sym (ap (λ b. cond b (LoseToCaller ∷ CallerT5 ∷ []) (events_back (first_fate d.fates))) is);
      dis = ap (λ b. (comes_back b item d).dis) is ∙ dis;
      rnrs = ap (λ b. (comes_back b item d).rnrs) is ∙ rnrs;
    }

pub meets_back :
    (p : Patience) (items others : List PlainItem) (d : Driven) (fate : CallFate) (many : Bool) → items ≡ [] → others ≢ [] →
    d.world.to_caller ≡ others → is_one_too_many (nat_lt d.rnrs p.busy) others ≡ many → first_fate d.fates ≡ plain_fate fate →
    Follows p items others d (act_to_caller many fate)
meets_back p (item ∷ items) others d fate many none some there is_many is = absurd (cc)
meets_back p [] [] d fate many none some there is_many is = absurd (some refl)
meets_back p [] (item ∷ others) d fate true none some there is_many is =
    back_follows p item others d (act_to_caller true fate) true is_many refl refl
    (kept_at d.world.caller.place (happens (happens d.world LoseToCaller Done) CallerT5 Done).caller.place d.rnrs
    (t5_place (happens d.world LoseToCaller Done)))
meets_back p [] (item ∷ others) d Comes false none some there is_many is =
    back_follows p item others d (act_to_caller false Comes) false is_many (ap events_back (sym is)) refl
    (ap (λ f. kept d.world.caller.place (meets_caller f d.world).caller.place (rnrs_with f item d.rnrs)) is ∙
    back_rnrs d.world item others d.rnrs there)
meets_back p [] (item ∷ others) d Lost false none some there is_many is =
    back_follows p item others d (act_to_caller false Lost) false is_many (ap events_back (sym is)) refl
    (ap (λ f. kept d.world.caller.place (meets_caller f d.world).caller.place (rnrs_with f item d.rnrs)) is ∙
    kept_same d.world.caller.place d.rnrs)
meets_back p [] (item ∷ others) d Spoiled false none some there is_many is =
    back_follows p item others d (act_to_caller false Spoiled) false is_many (ap events_back (sym is)) refl
    (ap (λ f. kept d.world.caller.place (meets_caller f d.world).caller.place (rnrs_with f item d.rnrs)) is ∙
    kept_same d.world.caller.place d.rnrs)

-- nothing is under way, and a wait is over, or the call is
waits_follow : (p : Patience) (one other : Option End) (due : Bool) (d : Driven) → d.world.caller.ending ≡ one →
    d.world.answerer.ending ≡ other → dis_is_due d.world.caller.state d.world.answerer.state other (nat_lt d.dis p.calls) ≡ due →
    ComesNext p [] [] d (act_waiting one other due)
waits_follow p None other due d one_is other_is due_is = at due due_is
  where
    goes : drives p [] [] d ≡ caller_waits (dis_is_due d.world.caller.state d.world.answerer.state other (nat_lt d.dis p.calls)) d
    goes =
        ap (λ e. somebody_waits p e d.world.answerer.ending d) one_is ∙
        ap (λ e. caller_waits (dis_is_due d.world.caller.state d.world.answerer.state e (nat_lt d.dis p.calls)) d) other_is

    on : is_over_at [] [] d.world.caller.ending d.world.answerer.ending ≡ false
    on = ap (λ e. is_over_at [] [] e d.world.answerer.ending) one_is

    few : Bool
    few = nat_lt d.dis p.calls

    made : step_events p [] [] d ≡ events_waiting None other (dis_is_due d.world.caller.state d.world.answerer.state other few)
    made =
        ap (λ e. events_waiting e d.world.answerer.ending
        (dis_is_due d.world.caller.state d.world.answerer.state d.world.answerer.ending few)) one_is ∙
        ap (λ e. events_waiting None e (dis_is_due d.world.caller.state d.world.answerer.state e few)) other_is

    at : (b : Bool) → dis_is_due d.world.caller.state d.world.answerer.state other (nat_lt d.dis p.calls) ≡ b →
        ComesNext p [] [] d (act_waiting None other b)
    at true is =
        let next : drives p [] [] d ≡ caller_waits true d = goes ∙ ap (λ b. caller_waits b d) is in
        record {
          goes_on = on;
          events = sym (made ∙ ap (events_waiting None other) is);
          dis = ap (λ (n : Driven). n.dis) next;
          rnrs = ap (λ (n : Driven). n.rnrs) next ∙
              kept_at d.world.caller.place (happens d.world AnswererT2 Done).caller.place d.rnrs (t2_place d.world);
        }
    at false is =
        let next : drives p [] [] d ≡ caller_waits false d = goes ∙ ap (λ b. caller_waits b d) is in
        record {
          goes_on = on;
          events = sym (made ∙ ap (events_waiting None other) is);
          dis = ap (λ (n : Driven). n.dis) next;
          rnrs = ap (λ (n : Driven). n.rnrs) next ∙
              kept_at d.world.caller.place (happens d.world CallerTimeout Done).caller.place d.rnrs (timeout_place d.world);
        }
waits_follow p (Some why) None due d one_is other_is due_is =
    let next : drives p [] [] d ≡ somebody_waits p (Some why) None d =
    ap (λ e. somebody_waits p e d.world.answerer.ending d) one_is ∙ ap (λ e. somebody_waits p (Some why) e d) other_is in
    record {
      goes_on = ap (λ e. is_over_at [] [] e d.world.answerer.ending) one_is ∙ ap (λ e. is_over_at [] [] (Some why) e) other_is;
      events = sym (ap (λ e. events_waiting e d.world.answerer.ending
          (dis_is_due d.world.caller.state d.world.answerer.state d.world.answerer.ending (nat_lt d.dis p.calls))) one_is ∙
          ap (λ e. events_waiting (Some why) e (dis_is_due d.world.caller.state d.world.answerer.state e (nat_lt d.dis p.calls))) other_is);
      dis = ap (λ (n : Driven). n.dis) next;
      rnrs = ap (λ (n : Driven). n.rnrs) next ∙
          kept_at d.world.caller.place (happens d.world AnswererT1 Done).caller.place d.rnrs (t1_place d.world);
    }
waits_follow p (Some why) (Some other) due d one_is other_is due_is =
    ap (λ e. is_over_at [] [] e d.world.answerer.ending) one_is ∙ ap (λ e. is_over_at [] [] (Some why) e) other_is

pub waits_next :
    (p : Patience) (items others : List PlainItem) (d : Driven) (few : Bool) (act : Option Act) → items ≡ [] → others ≡ [] →
    nat_lt d.dis p.calls ≡ few →
    act ≡ act_waiting d.world.caller.ending d.world.answerer.ending
    (dis_is_due d.world.caller.state d.world.answerer.state d.world.answerer.ending few) → ComesNext p items others d act
waits_next p (item ∷ items) others d few act none nothing is made = absurd (cc)
waits_next p [] (item ∷ others) d few act none nothing is made = absurd (cc)
waits_next p [] [] d few act none nothing is made =
    subst (ComesNext p [] [] d) (sym made)
    (waits_follow p d.world.caller.ending d.world.answerer.ending
    (dis_is_due d.world.caller.state d.world.answerer.state d.world.answerer.ending few) d refl refl
    (ap (λ b. dis_is_due d.world.caller.state d.world.answerer.state d.world.answerer.ending b) is))

-- what may be: no station hears of what comes before, T2 is due where few DIS were sent, and an RNR comes where few came
pub may_there : (few_dis few_rnrs : Bool) (kind : Option Kind) (fate : CallFate) (check : Bool) →
    MayAct few_dis few_rnrs kind (Some (act_to_answerer fate check))
may_there few_dis few_rnrs kind Comes check = record { before = tt; dis = λ e. cc; rnrs = λ e k. cc }
may_there few_dis few_rnrs kind Lost check = record { before = tt; dis = λ e. cc; rnrs = λ e k. cc }
may_there few_dis few_rnrs kind Spoiled true = record { before = tt; dis = λ e. cc; rnrs = λ e k. cc }
may_there few_dis few_rnrs kind Spoiled false = record { before = tt; dis = λ e. cc; rnrs = λ e k. cc }

-- an item is an RNR by its kind
rnr_kind : (item : PlainItem) → kind_of item ≡ Some Rnr → is_rnr_item item ≡ true
rnr_kind (checked octets) e = absurd (cc e)
rnr_kind (framed rnr) e = refl
rnr_kind (framed _) e = absurd (cc e)

few_come : (few : Bool) (others : List PlainItem) → is_one_too_many few others ≡ false → head_kind others ≡ Some Rnr → few ≡ true
few_come true others one kind = refl
few_come false [] one kind = absurd (cc kind)
few_come false (item ∷ others) one kind =
    absurd (let yes : (is_rnr_item item && true) ≡ true = ap (λ b. b && true) (rnr_kind item kind) in
    let no : true ≡ false = sym yes ∙ one in cc)

pub may_back : (few_dis few_rnrs : Bool) (others : List PlainItem) (fate : CallFate) (many : Bool) →
    is_one_too_many few_rnrs others ≡ many → MayAct few_dis few_rnrs (head_kind others) (Some (act_to_caller many fate))
may_back few_dis few_rnrs others fate true is = record { before = tt; dis = λ e. cc; rnrs = λ e k. cc }
may_back few_dis few_rnrs others Comes false is = record { before = tt; dis = λ e. cc; rnrs = λ e k. few_come few_rnrs others is k }
may_back few_dis few_rnrs others Lost false is = record { before = tt; dis = λ e. cc; rnrs = λ e k. cc }
may_back few_dis few_rnrs others Spoiled false is = record { before = tt; dis = λ e. cc; rnrs = λ e k. cc }

-- the answerer's T2 is due by the stations' own tests
none_is : {A : Type 0} (o : Option A) → is_some o ≡ false → o ≡ None
none_is None e = refl
none_is (Some x) e = absurd (cc)

pub dis_due :
    (w : World) (waits phase few : Bool) → is_some w.answerer.ending ≡ false → (IsTrue waits ↔ (w.caller.state ≡ WaitDis)) → waits ≡ true →
    (IsTrue phase ↔ (w.answerer.state ≡ PhaseB)) → phase ≡ true →
    few ≡ dis_is_due w.caller.state w.answerer.state w.answerer.ending few
dis_due w waits phase few going waiting is in_phase at =
    sym (ap (λ s. dis_is_due s w.answerer.state w.answerer.ending few) (waiting.0 is) ∙
    (ap (λ s. dis_is_due WaitDis s w.answerer.ending few) (in_phase.0 at) ∙
    ap (λ e. dis_is_due WaitDis PhaseB e few) (none_is w.answerer.ending going)))

pub not_due_ended : (state : CallerState) (other : AnswererState) (ending : Option End) (few : Bool) → is_some ending ≡ true →
    false ≡ dis_is_due state other ending few
not_due_ended WaitDis PhaseB None few e = absurd (cc)
not_due_ended WaitDis PhaseB (Some why) few e = refl
not_due_ended WaitDis WaitTraining ending few e = refl
not_due_ended WaitDis Message ending few e = refl
not_due_ended WaitCfr other ending few e = refl
not_due_ended WaitBlock other ending few e = refl
not_due_ended WaitReady other ending few e = refl

pub not_due_waiting : (state : CallerState) (other : AnswererState) (ending : Option End) (few : Bool) → state ≢ WaitDis →
    false ≡ dis_is_due state other ending few
not_due_waiting WaitDis other ending few e = absurd (e refl)
not_due_waiting WaitCfr other ending few e = refl
not_due_waiting WaitBlock other ending few e = refl
not_due_waiting WaitReady other ending few e = refl

pub not_due_phase : (state : CallerState) (other : AnswererState) (ending : Option End) (few : Bool) → other ≢ PhaseB →
    false ≡ dis_is_due state other ending few
not_due_phase WaitDis PhaseB ending few e = absurd (e refl)
not_due_phase WaitDis WaitTraining ending few e = refl
not_due_phase WaitDis Message ending few e = refl
not_due_phase WaitCfr other ending few e = refl
not_due_phase WaitBlock other ending few e = refl
not_due_phase WaitReady other ending few e = refl

-- DIS count while the caller waits for one
dis_counted : (state : CallerState) (waits : Bool) (dis : ℕ) → (IsTrue waits ↔ (state ≡ WaitDis)) → dis_kept state dis ≡ cond waits dis 0
dis_counted WaitDis true dis h = refl
dis_counted WaitDis false dis h = absurd (let fails : false ≡ true = h.1 refl in cc)
dis_counted WaitCfr true dis h = absurd (let fails : WaitCfr ≡ WaitDis = h.0 refl in cc)
dis_counted WaitCfr false dis h = refl
dis_counted WaitBlock true dis h = absurd (let fails : WaitBlock ≡ WaitDis = h.0 refl in cc)
dis_counted WaitBlock false dis h = refl
dis_counted WaitReady true dis h = absurd (let fails : WaitReady ≡ WaitDis = h.0 refl in cc)
dis_counted WaitReady false dis h = refl

-- an event whose entry has no mark was done, and one that is marked wasn't
not_refused : (o : Outcome) → is_refused o ≡ false → o ≡ Done
not_refused Done e = refl
not_refused Nothing e = absurd (cc)
not_refused InputLost e = absurd (cc)
not_refused (Cut made) e = absurd (cc)

was_done : (old new : Call) (event : Event) (entry : Entry) (w : World) (acts : Acts old new event entry) → Shows old w →
    entry.refused ≡ false → acts.0 ≡ Done
was_done old new event entry w acts shows unmarked =
    not_refused acts.0 (entry_refused w event acts.0 entry (acts.1 w shows).1 ∙ unmarked)

was_not : (old new : Call) (event : Event) (entry : Entry) (w : World) (acts : Acts old new event entry) → Shows old w →
    entry.refused ≡ true → acts.0 ≢ Done
was_not old new event entry w acts shows marked done =
    let yes : is_refused acts.0 ≡ true = entry_refused w event acts.0 entry (acts.1 w shows).1 ∙ marked in
    let no : is_refused acts.0 ≡ false = ap is_refused done in
    cc

-- the DIS after a step
dis_shown :
    (p : Patience) (old : DrivenFields) (event : Event) (waits : Bool) (dis : ℕ) (d : Driven) → ShowsDriven old p d →
    (IsTrue waits ↔ (d.world.caller.state ≡ WaitDis)) → dis ≡ cond waits (dis_with event old.dis) 0 →
    (next_of p d).dis ≡ dis_kept d.world.caller.state (dis_with event d.dis) → (next_of p d).dis ≡ dis
dis_shown p old event waits dis d shows waiting dis_is next =
    next ∙ (dis_counted d.world.caller.state waits (dis_with event d.dis) waiting ∙
    (ap (λ n. cond waits (dis_with event n) 0) shows.dis ∙ sym dis_is))

-- the RNRs after a step
rnrs_shown :
    (p : Patience) (old : DrivenFields) (event : Event) (kind : Option Kind) (sending : Bool) (rnrs : ℕ) (d : Driven) → ShowsDriven old p d →
    sending ≡ is_sending d.world.caller → kind ≡ head_kind old.live.to_caller → rnrs ≡ rnrs_after event kind sending old.rnrs →
    (next_of p d).rnrs ≡ rnrs_after event (head_kind d.world.to_caller) (is_sending d.world.caller) d.rnrs → (next_of p d).rnrs ≡ rnrs
rnrs_shown p old event kind sending rnrs d shows sends kinds rnrs_is next =
    let there : head_kind d.world.to_caller ≡ kind = ap head_kind shows.world.to_caller ∙ sym kinds in
    next ∙ (ap (λ k. rnrs_after event k (is_sending d.world.caller) d.rnrs) there ∙
    (ap (λ b. rnrs_after event kind b d.rnrs) (sym sends) ∙ (ap (λ n. rnrs_after event kind sending n) shows.rnrs ∙ sym rnrs_is)))

-- so its events lead to the next step's world
follows_leads : (p : Patience) (d : Driven) (act : Act) → Follows p d.world.to_answerer d.world.to_caller d act →
    run (all_done (before_act act.before ++ act.event ∷ [])) d.world ≡ (next_of p d).world
follows_leads p d act follows =
    ap (λ events. run (all_done events) d.world) follows.events ∙ events_lead p d.world.to_answerer d.world.to_caller d

-- what the code has counted after an act
pub record IsCounted (old : DrivenFields) (event : Event) (d : Driven) (dis rnrs : ℕ) : Type 0 where
  pub waits : Bool
  pub sending : Bool
  pub kind : Option Kind
  pub waiting : IsTrue waits ↔ (d.world.caller.state ≡ WaitDis)
  pub sends : sending ≡ is_sending d.world.caller
  pub kinds : kind ≡ head_kind old.live.to_caller
  pub dis_is : dis ≡ cond waits (dis_with event old.dis) 0
  pub rnrs_is : rnrs ≡ rnrs_after event kind sending old.rnrs

-- the fields after an act that was done show the next step
next_shown : (p : Patience) (old : DrivenFields) (new : Call) (act : Act) (dis rnrs : ℕ) (d : Driven) → ShowsDriven old p d →
    Follows p d.world.to_answerer d.world.to_caller d act → IsCounted old act.event d dis rnrs → Shows new (next_of p d).world →
    ShowsDriven (record { live = new; patience = old.patience; dis = dis; rnrs = rnrs }) p (next_of p d)
next_shown p old new act dis rnrs d shows follows counted there = record {
  world = there;
  dis = dis_shown p old act.event counted.waits dis d shows counted.waiting counted.dis_is follows.dis;
  rnrs = rnrs_shown p old act.event counted.kind counted.sending rnrs d shows counted.sends counted.kinds counted.rnrs_is follows.rnrs;
  patience = shows.patience;
}

-- an act was made
pub act_made :
    (before : Option Event) (p : Patience) (old : DrivenFields) (middle new : Call) (event : Event) (first : Option Entry) (entry : Entry)
    (dis rnrs : ℕ) (d : Driven) → ShowsDriven old p d →
    Follows p d.world.to_answerer d.world.to_caller d (record { before = before; event = event }) →
    ActsIf before old.live middle first → Acts middle new event entry → IsCounted old event d dis rnrs →
    MakesStep p (record { live = new; patience = old.patience; dis = dis; rnrs = rnrs }) d (record { before = first; entry = entry })
act_made (Some early) p old middle new event None entry dis rnrs d shows follows did acts counted = absurd did
act_made None p old middle new event (Some first) entry dis rnrs d shows follows did acts counted = absurd did
act_made None p old middle new event None entry dis rnrs d shows follows did acts counted =
    let w : World = d.world in
    let leads = follows_leads p d (record { before = None; event = event }) follows in
    let stands : Shows middle w = subst (λ v. Shows v w) (sym did) shows.world in
    let made = acts.1 w stands in
    record {
      goes_on = follows.goes_on;
      before = [];
      event = event;
      events = follows.events;
      leads = leads;
      outcome = acts.0;
      shows = made.0;
      noted = ap (λ e. and_entries e []) (sym made.1);
      done = λ unmarked. (
        was_done middle new event entry w acts stands unmarked,
        next_shown p old new (record { before = None; event = event }) dis rnrs d shows follows counted
            (subst (Shows new) leads
            (subst (λ o. Shows new (happens w event o)) (was_done middle new event entry w acts stands unmarked) made.0)),
      );
      marked = λ mark. was_not middle new event entry w acts stands mark;
    }
act_made (Some early) p old middle new event (Some first) entry dis rnrs d shows follows did acts counted =
    let w : World = d.world in
    let leads = follows_leads p d (record { before = Some early; event = event }) follows in
    let done : did.0.0 ≡ Done = was_done old.live middle early first w did.0 shows.world did.1 in
    let begun = did.0.1 w shows.world in
    let after : World = happens w early Done in
    let stands : Shows middle after = subst (λ o. Shows middle (happens w early o)) done begun.0 in
    let said : entry_of w early Done ≡ Some first = subst (λ o. entry_of w early o ≡ Some first) done begun.1 in
    let made = acts.1 after stands in
    record {
      goes_on = follows.goes_on;
      before = early ∷ [];
      event = event;
      events = follows.events;
      leads = leads;
      outcome = acts.0;
      shows = made.0;
      noted =
          ap (λ e. and_entries e (entry ∷ [])) (sym said) ∙
          ap (λ e. and_entries (entry_of w early Done) (and_entries e [])) (sym made.1);
      done = λ unmarked. (
        was_done middle new event entry after acts stands unmarked,
        next_shown p old new (record { before = Some early; event = event }) dis rnrs d shows follows counted
            (subst (Shows new) leads
            (subst (λ o. Shows new (happens after event o)) (was_done middle new event entry after acts stands unmarked) made.0)),
      );
      marked = λ mark. was_not middle new event entry after acts stands mark;
    }

-- the answerer was set busy or ready
pub was_set : (p : Patience) (busy : Bool) (old : DrivenFields) (new : Call) (entry : Entry) (d : Driven) → ShowsDriven old p d →
    Acts old.live new (Busy busy) entry →
    SetsBusy p busy (record { live = new; patience = old.patience; dis = old.dis; rnrs = old.rnrs }) d entry
was_set p busy old new entry d shows acts =
    let w : World = d.world in
    let made = acts.1 w shows.world in
    record {
      outcome = acts.0;
      shows = made.0;
      noted = ap (λ e. and_entries e []) (sym made.1);
      done = λ unmarked. (
        was_done old.live new (Busy busy) entry w acts shows.world unmarked,
        record {
          world = subst (λ o. Shows new (happens w (Busy busy) o)) (was_done old.live new (Busy busy) entry w acts shows.world unmarked)
              made.0;
          dis = shows.dis;
          rnrs = shows.rnrs;
          patience = shows.patience;
        },
      );
      marked = λ mark. was_not old.live new (Busy busy) entry w acts shows.world mark;
    }

-- the fate at a place of a list
pub fate_read : (fates : List CallFate) (at : ℕ) (fate : CallFate) → at < length fates → fate ≡ slice_index_or fates at fate →
    plain_fate fate ≡ first_fate (drop at (map plain_fate fates))
fate_read [] at fate within is = absurd (omega arith)
fate_read (first ∷ fates) zero fate within is = ap plain_fate is
fate_read (first ∷ fates) (suc at) fate within is = fate_read fates at fate (omega arith) is

-- few DIS were sent, as the numbers say
pub few_dis_same : (p : Patience) (old : DrivenFields) (d : Driven) → ShowsDriven old p d →
    nat_lt d.dis p.calls ≡ nat_lt old.dis old.patience.calls
few_dis_same p old d shows =
    ap (λ n. nat_lt n p.calls) shows.dis ∙ ap (λ (q : Patience). nat_lt old.dis q.calls) shows.patience

-- and few RNRs came
pub few_rnrs_same : (p : Patience) (old : DrivenFields) (d : Driven) → ShowsDriven old p d →
    nat_lt d.rnrs p.busy ≡ nat_lt old.rnrs old.patience.busy
few_rnrs_same p old d shows =
    ap (λ n. nat_lt n p.busy) shows.rnrs ∙ ap (λ (q : Patience). nat_lt old.rnrs q.busy) shows.patience

-- a call that is over stays so
over_stays : (n : ℕ) (p : Patience) (d : Driven) → is_over d ≡ true → drive n p d ≡ d
over_stays zero p d over = refl
over_stays (suc n) p d over = ap (λ b. cond b d (drive n p (next_of p d))) over

over_made : (n : ℕ) (p : Patience) (d : Driven) → is_over d ≡ true → steps_made n p d ≡ 0
over_made zero p d over = refl
over_made (suc n) p d over = ap (λ b. cond b 0 (suc (steps_made n p (next_of p d)))) over

-- one step more
drive_more : (n : ℕ) (p : Patience) (d : Driven) → is_over (drive n p d) ≡ false → drive (suc n) p d ≡ next_of p (drive n p d)
drive_more zero p d on = ap (λ b. cond b d (next_of p d)) on
drive_more (suc n) p d on = at (λ e. drive_more n p (next_of p d) e) (is_over d) refl
  where
    at : (is_over (drive n p (next_of p d)) ≡ false → drive (suc n) p (next_of p d) ≡ next_of p (drive n p (next_of p d))) →
        (b : Bool) → is_over d ≡ b → drive (suc (suc n)) p d ≡ next_of p (drive (suc n) p d)
    at later true over =
        absurd (let ended : is_over (drive (suc n) p d) ≡ true = ap is_over (over_stays (suc n) p d over) ∙ over in
        let no : true ≡ false = sym ended ∙ on in cc)
    at later false goes =
        let one : drive (suc n) p d ≡ drive n p (next_of p d) = ap (λ b. cond b d (drive n p (next_of p d))) goes in
        let two : drive (suc (suc n)) p d ≡ drive (suc n) p (next_of p d) =
        ap (λ b. cond b d (drive (suc n) p (next_of p d))) goes in
        two ∙ (later (ap is_over (sym one) ∙ on) ∙ ap (next_of p) (sym one))

made_more : (n : ℕ) (p : Patience) (d : Driven) → is_over (drive n p d) ≡ false → steps_made (suc n) p d ≡ suc (steps_made n p d)
made_more zero p d on = ap (λ b. cond b 0 (suc 0)) on
made_more (suc n) p d on = at (λ e. made_more n p (next_of p d) e) (is_over d) refl
  where
    at : (is_over (drive n p (next_of p d)) ≡ false → steps_made (suc n) p (next_of p d) ≡ suc (steps_made n p (next_of p d))) →
        (b : Bool) → is_over d ≡ b → steps_made (suc (suc n)) p d ≡ suc (steps_made (suc n) p d)
    at later true over =
        absurd (let ended : is_over (drive (suc n) p d) ≡ true = ap is_over (over_stays (suc n) p d over) ∙ over in
        let no : true ≡ false = sym ended ∙ on in cc)
    at later false goes =
        let one : drive (suc n) p d ≡ drive n p (next_of p d) = ap (λ b. cond b d (drive n p (next_of p d))) goes in
        let made : steps_made (suc n) p d ≡ suc (steps_made n p (next_of p d)) =
        ap (λ b. cond b 0 (suc (steps_made n p (next_of p d)))) goes in
        let two : steps_made (suc (suc n)) p d ≡ suc (steps_made (suc n) p (next_of p d)) =
        ap (λ b. cond b 0 (suc (steps_made (suc n) p (next_of p d)))) goes in
        two ∙ ap suc (later (ap is_over (sym one) ∙ on) ∙ sym made)

-- a drive that is over after some steps is the same with more
drive_ends : (n : ℕ) (most : ℕ) (p : Patience) (d : Driven) → n ≤ most → is_over (drive n p d) ≡ true →
    (drive most p d ≡ drive n p d) × (steps_made most p d ≡ steps_made n p d)
drive_ends zero most p d few over = (over_stays most p d over, over_made most p d over)
drive_ends (suc n) zero p d few over = absurd (omega arith)
drive_ends (suc n) (suc most) p d few over = at (λ e. drive_ends n most p (next_of p d) (omega arith) e) (is_over d) refl
  where
    at : (is_over (drive n p (next_of p d)) ≡ true →
        (drive most p (next_of p d) ≡ drive n p (next_of p d)) × (steps_made most p (next_of p d) ≡ steps_made n p (next_of p d))) →
        (b : Bool) → is_over d ≡ b →
        (drive (suc most) p d ≡ drive (suc n) p d) × (steps_made (suc most) p d ≡ steps_made (suc n) p d)
    at later true ended = (
      over_stays (suc most) p d ended ∙ sym (over_stays (suc n) p d ended),
      over_made (suc most) p d ended ∙ sym (over_made (suc n) p d ended),
    )
    at later false goes =
        let one : drive (suc n) p d ≡ drive n p (next_of p d) = ap (λ b. cond b d (drive n p (next_of p d))) goes in
        let rest = later (ap is_over (sym one) ∙ over) in (
          ap (λ b. cond b d (drive most p (next_of p d))) goes ∙ (rest.0 ∙ sym one),
          ap (λ b. cond b 0 (suc (steps_made most p (next_of p d)))) goes ∙
              (ap suc rest.1 ∙ sym (ap (λ b. cond b 0 (suc (steps_made n p (next_of p d)))) goes)),
        )

-- whether a fate is due is said by the fields
pub due_shown : (p : Patience) (old : DrivenFields) (d : Driven) (due : Bool) → ShowsDriven old p d →
    due ≡ is_fate_due (nat_lt old.rnrs old.patience.busy) old.live.to_answerer old.live.to_caller →
    is_fate_due (nat_lt d.rnrs p.busy) d.world.to_answerer d.world.to_caller ≡ due
due_shown p old d due shows due_is =
    ap (λ b. is_fate_due b d.world.to_answerer d.world.to_caller) (few_rnrs_same p old d shows) ∙
    (ap (λ xs. is_fate_due (nat_lt old.rnrs old.patience.busy) xs d.world.to_caller) shows.world.to_answerer ∙
    (ap (λ ys. is_fate_due (nat_lt old.rnrs old.patience.busy) old.live.to_answerer ys) shows.world.to_caller ∙ sym due_is))

-- the fates that are left after a step
pub fates_after : (p : Patience) (items others : List PlainItem) (d : Driven) →
    (drives p items others d).fates ≡ cond (is_fate_due (nat_lt d.rnrs p.busy) items others) (later_fates d.fates) d.fates
fates_after p (item ∷ items) others d = refl
fates_after p [] (item ∷ others) d = back (is_rnr_item item && not (nat_lt d.rnrs p.busy))
  where
    back : (many : Bool) → (comes_back many item d).fates ≡ cond (not many) (later_fates d.fates) d.fates
    back true = refl
    back false = refl
fates_after p [] [] d = at d.world.caller.ending d.world.answerer.ending
  where
    waits : (b : Bool) → (caller_waits b d).fates ≡ d.fates
    waits true = refl
    waits false = refl

    at : (one other : Option End) → (somebody_waits p one other d).fates ≡ d.fates
    at None other = waits (dis_is_due d.world.caller.state d.world.answerer.state other (nat_lt d.dis p.calls))
    at (Some why) None = refl
    at (Some why) (Some other) = refl

-- the same by what the fields say
pub fates_left : (p : Patience) (old : DrivenFields) (d : Driven) (due : Bool) → ShowsDriven old p d →
    due ≡ is_fate_due (nat_lt old.rnrs old.patience.busy) old.live.to_answerer old.live.to_caller →
    (next_of p d).fates ≡ cond due (later_fates d.fates) d.fates
fates_left p old d due shows due_is =
    fates_after p d.world.to_answerer d.world.to_caller d ∙ ap (λ b. cond b (later_fates d.fates) d.fates) (due_shown p old d due shows due_is)

later_dropped : (at : ℕ) (fates : List Fate) → later_fates (drop at fates) ≡ drop (suc at) fates
later_dropped zero [] = refl
later_dropped zero (fate ∷ fates) = refl
later_dropped (suc at) [] = refl
later_dropped (suc at) (fate ∷ fates) = later_dropped at fates

-- a driven call on its way: this number of steps was made, and the fates from a place on are left
pub record Along (p : Patience) (now : DrivenFields) (fates : List Fate) (d : Driven) (made at : ℕ) : Type 0 where
  pub shows : ShowsDriven now p (drive made p d)
  pub counted : steps_made made p d ≡ made
  pub left : (drive made p d).fates ≡ drop at fates

pub along_first : (p : Patience) (v : DrivenFields) (fates : List Fate) (d : Driven) → ShowsDriven v p d → d.fates ≡ fates →
    Along p v fates d 0 0
along_first p v fates d shows is = record { shows = shows; counted = refl; left = is }

past_place : (due : Bool) (at : ℕ) (fates : List Fate) →
    cond due (later_fates (drop at fates)) (drop at fates) ≡ drop (cond due (at + 1) at) fates
past_place true at fates = later_dropped at fates ∙ (let e : suc at ≡ at + 1 = omega arith in ap (λ n. drop n fates) e)
past_place false at fates = refl

pub past_near : (due : Bool) (at made place : ℕ) → place ≡ cond due (at + 1) at → at ≤ made → place ≤ made + 1
past_near true at made place is near = omega arith
past_near false at made place is near = omega arith

pub along_more :
    (p : Patience) (now new : DrivenFields) (fates : List Fate) (d : Driven) (made at place : ℕ) (due : Bool) (step : Step) →
    Along p now fates d made at → MakesStep p new (drive made p d) step → step.entry.refused ≡ false →
    due ≡ is_fate_due (nat_lt now.rnrs now.patience.busy) now.live.to_answerer now.live.to_caller → place ≡ cond due (at + 1) at →
    Along p new fates d (made + 1) place
along_more p now new fates d made at place due step along makes unmarked due_is place_is =
    let e : Driven = drive made p d in
    let more : drive (suc made) p d ≡ next_of p e = drive_more made p d makes.goes_on in
    let one : suc made ≡ made + 1 = omega arith in
    let shown : ShowsDriven new p (drive (suc made) p d) = subst (ShowsDriven new p) (sym more) (makes.done unmarked).1 in
    let counted : steps_made (suc made) p d ≡ suc made = made_more made p d makes.goes_on ∙ ap suc along.counted in
    let left : (next_of p e).fates ≡ drop place fates =
    fates_left p now e due along.shows due_is ∙
    (ap (λ l. cond due (later_fates l) l) along.left ∙ (past_place due at fates ∙ ap (λ n. drop n fates) (sym place_is))) in
    record {
      shows = subst (λ n. ShowsDriven new p (drive n p d)) one shown;
      counted = subst (λ n. steps_made n p d ≡ n) one counted;
      left = subst (λ n. (drive n p d).fates ≡ drop place fates) one (ap (λ (n : Driven). n.fates) more ∙ left);
    }

-- all steps were made
pub along_all :
    (p : Patience) (now : DrivenFields) (fates : List Fate) (d : Driven) (made at most : ℕ) → Along p now fates d made at →
    made ≤ most → most ≤ made → ShowsDriven now p (drive most p d) × (made ≡ steps_made most p d)
along_all p now fates d made at most along few enough =
    let same : made ≡ most = omega arith in (
      subst (λ n. ShowsDriven now p (drive n p d)) same along.shows,
      sym along.counted ∙ ap (λ n. steps_made n p d) same,
    )

-- the call is over
pub along_over :
    (p : Patience) (now new : DrivenFields) (fates : List Fate) (d : Driven) (made at most : ℕ) → Along p now fates d made at →
    made < most → (is_over (drive made p d) ≡ true) × (new ≡ now) →
    ShowsDriven new p (drive most p d) × (made ≡ steps_made most p d)
along_over p now new fates d made at most along few over =
    let ends = drive_ends made most p d (omega arith) over.0 in (
      subst (λ v. ShowsDriven v p (drive most p d)) (sym over.1) (subst (ShowsDriven now p) (sym ends.0) along.shows),
      sym (ends.1 ∙ along.counted),
    )

-- a growth was refused
pub along_broken :
    (p : Patience) (now new : DrivenFields) (fates : List Fate) (d : Driven) (made at most : ℕ) (step : Step) →
    Along p now fates d made at → made < most → MakesStep p new (drive made p d) step → step.entry.refused ≡ true →
    Broken p new d most
along_broken p now new fates d made at most step along few makes marked =
    record {
      made = made;
      few = few;
      goes_on = makes.goes_on;
      before = makes.before;
      event = makes.event;
      events = makes.events;
      leads = makes.leads;
      outcome = makes.outcome;
      refused = makes.marked marked;
      shows = makes.shows;
    }

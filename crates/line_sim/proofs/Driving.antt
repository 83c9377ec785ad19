-- Each step of a driven call takes of what it has left.
use Rattle.std.proofs.Common.{◌≡◌, ℕ, zero, suc, ◌+◌, ◌≤◌, ◌<◌, inl, inr, Bool, true, false, cond, Option, Some, None, List, [], ◌∷◌}
use Rattle.std.proofs.Common.{refl, arith, ◌++◌, length, subst, sym, ap, length-append}
use Rattle.std.specs.Prelude.{nat_lt, ◌⊎◌, ◌&&◌, not, map}
use Rattle.std.proofs.lemmas.Bool.{ltb-true}
use Rattle.signals.specs.Agreement.{allowed}
use Rattle.signals.specs.Signals.{PlainSignal, dcs, fcd, pps, rnr, rr}
use Rattle.partial_page.specs.Assembling.{within_frame_size}
use Rattle.stations.specs.Laws.{SpeedsHold}
use Rattle.stations.specs.Inputs.{CallerInput, hears, timeout, t5, AnswererInput, listens, trains, t2, t1, PlainItem, framed, checked}
use Rattle.stations.specs.CallerStep.{Caller, CallerAnswer, caller_step, caller_items}
use Rattle.stations.specs.AnswererStep.{Answerer, AnswererAnswer, answerer_step, answerer_table, unless_answerer_ended}
use Rattle.stations.specs.AnswererStep.{answerer_ends, answerer_items}
use Rattle.stations.specs.declared.turn.CallerState.{CallerState}
use Rattle.stations.specs.declared.turn.CallerState.TheVariants.{WaitDis, WaitCfr, WaitBlock, WaitReady}
use Rattle.stations.specs.declared.turn.AnswererState.{AnswererState}
use Rattle.stations.specs.declared.turn.AnswererState.TheVariants.{PhaseB, WaitTraining, Message}
use Rattle.stations.specs.declared.turn.End.{End}
use Rattle.stations.specs.declared.turn.End.TheVariants.{NoAnswer}
use Rattle.stations.specs.declared.turn.Turn.{Turn}
use Rattle.stations.specs.declared.turn.Turn.TheVariants.{Silent, Dis as SendDis, Cfr as SendCfr, Ftt as SendFtt, Mcf as SendMcf}
use Rattle.stations.specs.declared.turn.Turn.TheVariants.{Ppr as SendPpr, Rnr as SendRnr, Dcn as SendDcn}
use Rattle.stations.specs.Lasting.{goes_on_by}
use Rattle.line_sim.specs.Line.{World, caller_sends, answerer_sends, caller_acts, answerer_acts, comes_to_answerer}
use Rattle.line_sim.specs.Line.{delivers_to_caller, happens, after_first}
use Rattle.line_sim.specs.Line.Outcome.{Done}
use Rattle.line_sim.specs.declared.event.Event.TheVariants.{LoseToCaller}
use Rattle.line_sim.specs.declared.event.Event.TheVariants.{AnswererT1}
use Rattle.line_sim.specs.Driving.{Patience, paid, kept, dis_kept, Driven, Fate, first_fate, later_fates, meets_answerer, meets_caller}
use Rattle.line_sim.specs.Driving.{rnrs_with, is_rnr_item, goes_to, dis_is_due, caller_waits, somebody_waits, comes_back, drives, is_over, is_over_at}
use Rattle.line_sim.specs.Driving.Fate.{comes, lost, spoiled}
use Rattle.stations.specs.Sizes.{AreShort, IsPlaced, StepsArePlaced}
use Rattle.line_sim.proofs.CallerDrives.{asks, weight, part, Takes, MayCome, rnrs_after, fee_of, caller_takes, kept_same, asks_most, silent_takes}

either : {A : Type 0} (P : A → Type 0) (b : Bool) (x y : A) → (b ≡ true → P x) → (b ≡ false → P y) → P (cond b x y)
either P true x y f g = f refl
either P false x y f g = g refl

asks_joined : (items more : List PlainItem) → asks (items ++ more) ≤ asks items + asks more
asks_joined [] more = omega arith
asks_joined (checked octets ∷ items) more = omega arith
asks_joined (framed (pps ends page block last) ∷ items) more = omega arith
asks_joined (framed rr ∷ items) more = omega arith
asks_joined (framed _ ∷ items) more = asks_joined items more

-- more items never ask less
asks_more : (item : PlainItem) (items : List PlainItem) → asks items ≤ asks (item ∷ items)
asks_more (checked octets) items = asks_most items
asks_more (framed (pps ends page block last)) items = asks_most items
asks_more (framed rr) items = asks_most items
asks_more (framed _) items = omega arith

-- the first item asks with the others
asks_first : (signal : PlainSignal) (items : List PlainItem) → asks (framed signal ∷ []) ≤ asks (framed signal ∷ items)
asks_first (pps ends page block last) items = omega arith
asks_first rr items = omega arith
asks_first _ items = omega arith

-- the answerer's turn has one item at most
one_item : (s : Answerer) (turn : Turn) → length (answerer_items s turn) ≤ 1
one_item s SendDis = omega arith
one_item s SendCfr = omega arith
one_item s SendFtt = omega arith
one_item s SendMcf = omega arith
one_item s (SendPpr map) = omega arith
one_item s SendRnr = omega arith
one_item s SendDcn = omega arith
one_item s _ = omega arith

-- it answers nothing but a training check, a PPS and an RR
quiet :
    (state : AnswererState) (signal : PlainSignal) (s : Answerer) → asks (framed signal ∷ []) ≡ 0 →
    (answerer_table state (listens signal) s).turn ≡ Silent
quiet PhaseB (dcs params) s h = either (λ (a : AnswererAnswer). a.turn ≡ Silent) (allowed s.caps params) _ _ (λ e. refl) (λ e. refl)
quiet WaitTraining (dcs params) s h = either (λ (a : AnswererAnswer). a.turn ≡ Silent) (allowed s.caps params) _ _ (λ e. refl) (λ e. refl)
quiet Message (dcs params) s h = either (λ (a : AnswererAnswer). a.turn ≡ Silent) (allowed s.caps params) _ _ (λ e. refl) (λ e. refl)
quiet Message (fcd number octets) s h =
    either (λ (a : AnswererAnswer). a.turn ≡ Silent) (within_frame_size s.params octets) _ _ (λ e. refl) (λ e. refl)
quiet _ (pps ends page block last) s h = absurd (cc h)
quiet _ rr s h = absurd (cc h)
quiet _ signal s h = refl

quiet_step :
    (signal : PlainSignal) (s : Answerer) → asks (framed signal ∷ []) ≡ 0 → (answerer_step s (listens signal)).turn ≡ Silent
quiet_step signal s h = at s.ending
  where
    at : (ending : Option End) → (unless_answerer_ended ending (listens signal) s).turn ≡ Silent
    at None = quiet s.state signal s h
    at (Some why) = refl

-- an ended answerer stays so
runs_less : (s : Answerer) (input : AnswererInput) → goes_on_by (answerer_step s input).next.ending ≤ goes_on_by s.ending
runs_less s input = at s.ending refl
  where
    most : (ending : Option End) → goes_on_by ending ≤ 1
    most None = omega arith
    most (Some why) = omega arith

    at : (ending : Option End) → s.ending ≡ ending → goes_on_by (unless_answerer_ended ending input s).next.ending ≤ goes_on_by s.ending
    at None is = let one : goes_on_by s.ending ≡ 1 = ap goes_on_by is in let few = most (answerer_table s.state input s).next.ending in omega arith
    at (Some why) is = omega arith

-- what the answerer's step makes of the line: no more than so much, and what was under way to the caller
pub record LineTakes (most : ℕ) (w after : World) : Type 0 where
  pub same : after.caller ≡ w.caller
  pub less :
      weight after.to_answerer + length after.to_caller + goes_on_by after.answerer.ending ≤
      most + length w.to_caller + goes_on_by w.answerer.ending

answerer_sent :
    (w : World) (next : Answerer) (turn : Turn) (items : List PlainItem) (most : ℕ) → length items ≤ 1 →
    goes_on_by next.ending ≤ goes_on_by w.answerer.ending → (turn ≡ Silent) ⊎ (1 ≤ most) → weight w.to_answerer ≤ most →
    LineTakes most w (answerer_sends turn w next items)
answerer_sent w next Silent items most few runs asked enough = record { same = refl; less = omega arith }
answerer_sent w next turn items most few runs (inl e) enough = absurd (cc e)
answerer_sent w next turn items most few runs (inr asked) enough =
    let joined = length-append w.to_caller items in record { same = refl; less = omega arith }

-- the answerer has an input that may be answered, or answers nothing
answerer_acted :
    (w : World) (input : AnswererInput) (most : ℕ) → ((answerer_step w.answerer input).turn ≡ Silent) ⊎ (1 ≤ most) →
    weight w.to_answerer ≤ most → LineTakes most w (answerer_acts w Done input)
answerer_acted w input most asked enough =
    let answer = answerer_step w.answerer input in
    answerer_sent w answer.next answer.turn (answerer_items answer.next answer.turn) most (one_item answer.next answer.turn)
    (runs_less w.answerer input) asked enough

-- nothing or something is asked
zero_or_more : (n : ℕ) → (n ≡ 0) ⊎ (1 ≤ n)
zero_or_more zero = inl refl
zero_or_more (suc n) = inr (omega arith)

-- an item comes to the answerer
item_came :
    (w : World) (item : PlainItem) (items : List PlainItem) →
    LineTakes (length items + asks (item ∷ items)) (record w { to_answerer = items })
    (comes_to_answerer (record w { to_answerer = items }) Done item)
item_came w (checked octets) items =
    let few = asks_most items in
    answerer_acted (record w { to_answerer = items }) (trains octets) (length items + 1) (inr (omega arith)) (omega arith)
item_came w (framed signal) items = at (zero_or_more (asks (framed signal ∷ [])))
  where
    at :
        (asks (framed signal ∷ []) ≡ 0) ⊎ (1 ≤ asks (framed signal ∷ [])) →
        LineTakes (length items + asks (framed signal ∷ items)) (record w { to_answerer = items })
        (comes_to_answerer (record w { to_answerer = items }) Done (framed signal))
    at (inl none) =
        answerer_acted (record w { to_answerer = items }) (listens signal) (length items + asks (framed signal ∷ items))
        (inl (quiet_step signal w.answerer none)) (let more = asks_more (framed signal) items in omega arith)
    at (inr some) =
        answerer_acted (record w { to_answerer = items }) (listens signal) (length items + asks (framed signal ∷ items))
        (inr (let more = asks_first signal items in omega arith)) (let more = asks_more (framed signal) items in omega arith)

-- what is under way to the answerer meets its fate: one step less
pub record Met (most : ℕ) (w after : World) : Type 0 where
  pub same : after.caller ≡ w.caller
  pub less :
      suc (weight after.to_answerer + length after.to_caller + goes_on_by after.answerer.ending) ≤
      most + length w.to_caller + goes_on_by w.answerer.ending

met :
    (w : World) (fate : Fate) (item : PlainItem) (items : List PlainItem) → w.to_answerer ≡ item ∷ items →
    Met (weight (item ∷ items)) w (meets_answerer fate item w)
met w comes item items e =
    let came = item_came w item items in
    rw e (record { same = came.same; less = (let h = came.less in omega arith) })
met w lost item items e = let more = asks_more item items in rw e (record { same = refl; less = omega arith })
met w spoiled (framed signal) items e =
    let more = asks_more (framed signal) items in rw e (record { same = refl; less = omega arith })
met w spoiled (checked octets) items e =
    let came = item_came w (checked (map (λ octet. 255) octets)) items in
    rw e (record { same = came.same; less = (let h = came.less in omega arith) })

-- the caller has answered
pub record Sent (w : World) (next : Caller) (items : List PlainItem) (after : World) : Type 0 where
  pub caller_is : after.caller ≡ next
  pub same : after.answerer ≡ w.answerer
  pub less : weight after.to_answerer + length after.to_caller ≤ weight w.to_answerer + weight items + length w.to_caller

caller_sent : (w : World) (next : Caller) (turn : Turn) (items : List PlainItem) → Sent w next items (caller_sends turn w next items)
caller_sent w next Silent items = record { caller_is = refl; same = refl; less = omega arith }
caller_sent w next turn items =
    let longer = length-append w.to_answerer items in
    let asked = asks_joined w.to_answerer items in
    record { caller_is = refl; same = refl; less = omega arith }

-- what a driven call has left
abbrev pub potential : Patience → Driven → ℕ
potential p d =
    weight d.world.to_answerer + length d.world.to_caller + goes_on_by d.world.answerer.ending + part p d.dis d.rnrs d.world.caller

-- a step takes one of it, or more; groups and blocks are paid for as they begin
pub record Drives (p : Patience) (d after : Driven) : Type 0 where
  pub placed : IsPlaced after.world.caller
  pub document : after.world.caller.document ≡ d.world.caller.document
  pub less : suc (potential p after) + paid p d.world.caller ≤ potential p d + paid p after.world.caller

-- the caller has an input
caller_drives :
    SpeedsHold → StepsArePlaced → ((c : Caller) → AreShort c) → (p : Patience) (d : Driven) (items : List PlainItem) (input : CallerInput)
    (fates : List Fate) → IsPlaced d.world.caller → MayCome p d.rnrs input →
    (fee_of input ≡ 0) ⊎ (d.world.caller.ending ≡ None) → length items + 1 ≤ length d.world.to_caller + fee_of input →
    Drives p d (goes_to d (caller_acts (record d.world { to_caller = items }) Done input) d.dis (rnrs_after input d.rnrs) fates)
caller_drives speeds law short p d items input fates placed may free shorter =
    let c = d.world.caller in
    let w : World = record d.world { to_caller = items } in
    let answer = caller_step c input in
    let takes = caller_takes speeds p d.dis d.rnrs input c placed.group (short c) may free in
    let line = caller_sent w answer.next answer.turn (caller_items answer.next answer.turn) in
    goes (caller_sends answer.turn w answer.next (caller_items answer.next answer.turn)) answer line takes (law c input placed).0 (law c input placed).1
  where
    goes :
        (after : World) (answer : CallerAnswer) →
        Sent (record d.world { to_caller = items }) answer.next (caller_items answer.next answer.turn) after →
        Takes p d.dis d.rnrs (rnrs_after input d.rnrs) (fee_of input) d.world.caller answer →
        IsPlaced answer.next → answer.next.document ≡ d.world.caller.document →
        Drives p d (goes_to d after d.dis (rnrs_after input d.rnrs) fates)
    goes after answer line takes next kept =
        let is = line.caller_is in
        let same = line.same in
        let few = line.less in
        let less = takes.less in
        record { placed = rw is next; document = rw is kept; less = rw (is, same) (omega arith) }

-- the line or the answerer, and the caller stays
line_drives :
    (p : Patience) (d : Driven) (after : World) (fates : List Fate) → IsPlaced d.world.caller →
    after.caller ≡ d.world.caller →
    suc (weight after.to_answerer + length after.to_caller + goes_on_by after.answerer.ending) ≤
    weight d.world.to_answerer + length d.world.to_caller + goes_on_by d.world.answerer.ending →
    Drives p d (goes_to d after d.dis d.rnrs fates)
line_drives p d after fates placed same less =
    let still = (silent_takes p d.dis d.rnrs d.world.caller).less in
    record { placed = rw same placed; document = rw same refl; less = rw same (omega arith) }

-- an RNR that comes isn't one too many
may_come :
    (p : Patience) (rnrs : ℕ) (signal : PlainSignal) → (is_rnr_item (framed signal) && not (nat_lt rnrs p.busy)) ≡ false →
    MayCome p rnrs (hears signal)
may_come p rnrs rnr h = go (nat_lt rnrs p.busy) refl h
  where
    go : (b : Bool) → nat_lt rnrs p.busy ≡ b → not b ≡ false → rnrs < p.busy
    go true is h = ltb-true rnrs p.busy is
    go false is h = absurd (cc h)
may_come p rnrs _ h = tt

-- something is first under way to the caller
back_drives :
    SpeedsHold → StepsArePlaced → ((c : Caller) → AreShort c) → (p : Patience) (d : Driven) (item : PlainItem) (items : List PlainItem) →
    IsPlaced d.world.caller → d.world.to_caller ≡ item ∷ items →
    (many : Bool) → (is_rnr_item item && not (nat_lt d.rnrs p.busy)) ≡ many → Drives p d (comes_back many item d)
back_drives speeds law short p d item items placed e true is =
    let longer : length d.world.to_caller ≡ suc (length items) = ap length e in
    let left : length (after_first d.world.to_caller) ≡ length items = ap (λ list. length (after_first list)) e in
    caller_drives speeds law short p d (after_first d.world.to_caller) t5 d.fates placed tt (inl refl) (omega arith)
back_drives speeds law short p d item items placed e false is = at (first_fate d.fates)
  where
    gone : (rnrs : ℕ) → rnrs ≡ d.rnrs → Drives p d (goes_to d (happens d.world LoseToCaller Done) d.dis rnrs (later_fates d.fates))
    gone rnrs same =
        let longer : length d.world.to_caller ≡ suc (length items) = ap length e in
        let left : length (after_first d.world.to_caller) ≡ length items = ap (λ list. length (after_first list)) e in
        subst (λ n. Drives p d (goes_to d (happens d.world LoseToCaller Done) d.dis n (later_fates d.fates))) (sym same)
        (line_drives p d (happens d.world LoseToCaller Done) (later_fates d.fates) placed refl (omega arith))

    came :
        (item : PlainItem) → (is_rnr_item item && not (nat_lt d.rnrs p.busy)) ≡ false → length d.world.to_caller ≡ suc (length items) →
        Drives p d (goes_to d (delivers_to_caller d.world Done (item ∷ items)) d.dis (rnrs_with comes item d.rnrs) (later_fates d.fates))
    came (framed signal) is longer =
        caller_drives speeds law short p d items (hears signal) (later_fates d.fates) placed (may_come p d.rnrs signal is) (inl refl)
        (omega arith)
    came (checked octets) is longer =
        line_drives p d (record d.world { to_caller = items }) (later_fates d.fates) placed refl (omega arith)

    at :
        (fate : Fate) →
        Drives p d (goes_to d (meets_caller fate d.world) d.dis (rnrs_with fate item d.rnrs) (later_fates d.fates))
    at comes =
        subst
        (λ list. Drives p d (goes_to d (delivers_to_caller d.world Done list) d.dis (rnrs_with comes item d.rnrs) (later_fates d.fates)))
        (sym e) (came item is (ap length e))
    at lost = gone d.rnrs refl
    at spoiled = gone d.rnrs refl

-- the answerer's DIS is due
due_facts :
    (calling : CallerState) (state : AnswererState) (ending : Option End) (few : Bool) → dis_is_due calling state ending few ≡ true →
    (calling ≡ WaitDis) × (few ≡ true)
due_facts WaitDis PhaseB None few h = (refl, h)
due_facts WaitDis PhaseB (Some why) few h = absurd (cc h)
due_facts WaitDis WaitTraining ending few h = absurd (cc h)
due_facts WaitDis Message ending few h = absurd (cc h)
due_facts WaitCfr state ending few h = absurd (cc h)
due_facts WaitBlock state ending few h = absurd (cc h)
due_facts WaitReady state ending few h = absurd (cc h)

part_less :
    (p : Patience) (calls rnrs : ℕ) (c : Caller) → c.state ≡ WaitDis → c.ending ≡ None → calls < p.calls →
    2 + part p (dis_kept c.state (suc calls)) rnrs c ≤ part p calls rnrs c
part_less p calls rnrs c e runs few = rw (e, runs) (omega arith)

-- the caller runs, and nothing is under way
waits_drive :
    SpeedsHold → StepsArePlaced → ((c : Caller) → AreShort c) → (p : Patience) (d : Driven) →
    IsPlaced d.world.caller → d.world.to_answerer ≡ [] → d.world.caller.ending ≡ None →
    (due : Bool) → dis_is_due d.world.caller.state d.world.answerer.state d.world.answerer.ending (nat_lt d.dis p.calls) ≡ due →
    Drives p d (caller_waits due d)
waits_drive speeds law short p d placed e runs false is =
    caller_drives speeds law short p d d.world.to_caller timeout d.fates placed tt (inr runs) (omega arith)
waits_drive speeds law short p d placed e runs true is =
    let facts =
    due_facts d.world.caller.state d.world.answerer.state d.world.answerer.ending (nat_lt d.dis p.calls) is in
    let none : weight d.world.to_answerer ≡ 0 = ap weight e in
    let acted = answerer_acted d.world t2 1 (inr (omega arith)) (omega arith) in
    let same = acted.same in
    let line = acted.less in
    let less = part_less p d.dis d.rnrs d.world.caller facts.0 runs (ltb-true d.dis p.calls facts.1) in
    record {
      placed = rw same placed;
      document = rw same refl;
      less = rw (same, kept_same d.world.caller.place d.rnrs) (omega arith);
    }

-- T1 ends an answerer that runs
t1_ends : (s : Answerer) → s.ending ≡ None → answerer_step s t1 ≡ answerer_ends s NoAnswer
t1_ends s runs = rw (ap (λ ending. unless_answerer_ended ending t1 s) runs) (at s.state)
  where
    at : (state : AnswererState) → answerer_table state t1 s ≡ answerer_ends s NoAnswer
    at PhaseB = refl
    at WaitTraining = refl
    at Message = refl

t1_drives :
    (p : Patience) (d : Driven) → IsPlaced d.world.caller → d.world.answerer.ending ≡ None →
    Drives p d (goes_to d (happens d.world AnswererT1 Done) d.dis d.rnrs d.fates)
t1_drives p d placed runs =
    let s = d.world.answerer in
    let one : goes_on_by d.world.answerer.ending ≡ 1 = ap goes_on_by runs in
    subst
    (λ (answer : AnswererAnswer).
    Drives p d
    (goes_to d (answerer_sends answer.turn d.world answer.next (answerer_items answer.next answer.turn)) d.dis d.rnrs d.fates))
    (sym (t1_ends s runs))
    (line_drives p d (record d.world { answerer = record s { ending = Some NoAnswer } }) d.fates placed refl (omega arith))

-- one step of a driven call
pub step_drives :
    SpeedsHold → StepsArePlaced → ((c : Caller) → AreShort c) → (p : Patience) (d : Driven) →
    IsPlaced d.world.caller → is_over d ≡ false →
    Drives p d (drives p d.world.to_answerer d.world.to_caller d)
step_drives speeds law short p d placed over = at d.world.to_answerer d.world.to_caller refl refl over
  where
    nothing :
        (caller_end answerer_end : Option End) → d.world.to_answerer ≡ [] → d.world.caller.ending ≡ caller_end →
        d.world.answerer.ending ≡ answerer_end → is_over_at [] [] caller_end answerer_end ≡ false →
        Drives p d (somebody_waits p caller_end answerer_end d)
    nothing None answerer_end e runs is over =
        let due = dis_is_due d.world.caller.state d.world.answerer.state answerer_end (nat_lt d.dis p.calls) in
        waits_drive speeds law short p d placed e runs due
        (ap (λ ending. dis_is_due d.world.caller.state d.world.answerer.state ending (nat_lt d.dis p.calls)) is)
    nothing (Some why) None e ended runs over = t1_drives p d placed runs
    nothing (Some why) (Some other) e ended is over = absurd (cc over)

    at :
        (to_answerer to_caller : List PlainItem) → d.world.to_answerer ≡ to_answerer → d.world.to_caller ≡ to_caller →
        is_over_at to_answerer to_caller d.world.caller.ending d.world.answerer.ending ≡ false →
        Drives p d (drives p to_answerer to_caller d)
    at (item ∷ items) others e ec over =
        let m = met d.world (first_fate d.fates) item items e in
        let less = m.less in
        let weighs : weight d.world.to_answerer ≡ weight (item ∷ items) = ap weight e in
        line_drives p d (meets_answerer (first_fate d.fates) item d.world) (later_fates d.fates) placed m.same (omega arith)
    at [] (item ∷ items) e ec over =
        back_drives speeds law short p d item items placed ec (is_rnr_item item && not (nat_lt d.rnrs p.busy)) refl
    at [] [] e ec over = nothing d.world.caller.ending d.world.answerer.ending e refl refl over

-- What the caller transmits in a run, counted over its entries.
use Rattle.std.proofs.Common.{◌≡◌, ◌≢◌, ℕ, suc, ◌+◌, ◌*◌, ◌≤◌, Bool, true, false, cond, List, [], ◌∷◌, ◌++◌, length, Option, Some, None}
use Rattle.std.proofs.Common.{refl, sym, ap, subst, ◌∙◌, arith}
use Rattle.std.specs.Prelude.{◌&&◌}
use Rattle.stations.specs.Inputs.{CallerInput, hears, timeout, t5, AnswererInput, listens, trains, t2, t1, is_busy, PlainItem, framed}
use Rattle.signals.specs.declared.params.Caps.{Caps}
use Rattle.signals.specs.declared.params.Wish.{Wish}
use Rattle.stations.specs.Inputs.{checked}
use Rattle.stations.specs.Layers.{Document}
use Rattle.stations.specs.Left.{dcs_left, pps_left, rr_left, is_block_turn, StepsSpend}
use Rattle.stations.specs.CallerStep.{Caller, caller_step, caller_items}
use Rattle.stations.specs.AnswererStep.{Answerer, answerer_step, answerer_items}
use Rattle.stations.specs.declared.turn.CallerState.{CallerState}
use Rattle.stations.specs.declared.turn.CallerState.TheVariants.{WaitDis, WaitCfr, WaitBlock, WaitReady}
use Rattle.stations.specs.declared.turn.Turn.{Turn}
use Rattle.stations.specs.declared.turn.Turn.TheVariants.{Silent}
use Rattle.line_sim.specs.declared.event.Entry.{Entry}
use Rattle.line_sim.specs.declared.event.Event.{Event}
use Rattle.line_sim.specs.declared.event.Event.TheVariants.{DeliverToAnswerer, DeliverToCaller, LoseToAnswerer, LoseToCaller, Spoil}
use Rattle.line_sim.specs.declared.event.Event.TheVariants.{CallerTimeout, CallerT5, AnswererT1, AnswererT2, Busy}
use Rattle.line_sim.specs.declared.event.Fields.TheVariants as field
use Rattle.line_sim.specs.declared.event.Kind.{Kind}
use Rattle.line_sim.specs.declared.event.Kind.TheVariants.{Training as TrainingCheck}
use Rattle.line_sim.specs.Line.{World, Outcome, sent, caller_sends, answerer_sends, caller_acts, answerer_acts, comes_to_answerer}
use Rattle.line_sim.specs.Line.{delivers_to_answerer, delivers_to_caller, answerer_timer, happens, new_world, run}
use Rattle.line_sim.specs.Line.Outcome.{Done, Nothing, InputLost, Cut}
use Rattle.line_sim.specs.Entries.{signal_kind, item_of, head_kind, heard, unless_lost, station_says, event_says, is_refused, entry_of}
use Rattle.line_sim.specs.Entries.{and_entries, entries}
use Rattle.line_sim.specs.Counted.{count, is_callers, is_delivery_to_caller, is_training, is_dcn, is_rr, shows_dcs, RunsAreCounted}
use Rattle.line_sim.specs.Counted.{DcsBetweenGroups, shows_group_end}
use Rattle.line_sim.proofs.CallerCounts.{IsBegunIn, step_adds, refilled, Fee, no_refill, dcs_credit, dcs_fee, few_left, group_refill}
use Rattle.line_sim.proofs.Lists.{append_assoc_lem}
use Rattle.line_sim.proofs.Transcripts.{entries_split}
use Rattle.line_sim.proofs.CallerCounts.{told_fee, calls_left, no_credit, dcn_fee, rr_refill, rr_fee, block_refill, block_fee}

-- a station's answer leaves the other one
caller_after : (turn : Turn) (w : World) (next : Caller) (items : List PlainItem) → (caller_sends turn w next items).caller ≡ next
caller_after Silent w next items = refl
caller_after _ w next items = refl

caller_stays : (turn : Turn) (w : World) (next : Answerer) (items : List PlainItem) → (answerer_sends turn w next items).caller ≡ w.caller
caller_stays Silent w next items = refl
caller_stays _ w next items = refl

answerer_acts_apart : (w : World) (outcome : Outcome) (input : AnswererInput) → (answerer_acts w outcome input).caller ≡ w.caller
answerer_acts_apart w outcome input =
    let answer = answerer_step w.answerer input in
    caller_stays answer.turn w answer.next (sent outcome (answerer_items answer.next answer.turn))

caller_acts_so :
    (w : World) (outcome : Outcome) (input : CallerInput) → (caller_acts w outcome input).caller ≡ (caller_step w.caller input).next
caller_acts_so w outcome input =
    let answer = caller_step w.caller input in
    caller_after answer.turn w answer.next (sent outcome (caller_items answer.next answer.turn))

item_apart : (w : World) (outcome : Outcome) (item : PlainItem) → (comes_to_answerer w outcome item).caller ≡ w.caller
item_apart w outcome (framed signal) = answerer_acts_apart w outcome (listens signal)
item_apart w outcome (checked octets) = answerer_acts_apart w outcome (trains octets)

delivery_apart : (w : World) (outcome : Outcome) (items : List PlainItem) → (delivers_to_answerer w outcome items).caller ≡ w.caller
delivery_apart w outcome [] = refl
delivery_apart w InputLost (item ∷ items) = refl
delivery_apart w Done (item ∷ items) = item_apart (record w { to_answerer = items }) Done item
delivery_apart w Nothing (item ∷ items) = item_apart (record w { to_answerer = items }) Nothing item
delivery_apart w (Cut made) (item ∷ items) = item_apart (record w { to_answerer = items }) (Cut made) item

timer_apart : (w : World) (outcome : Outcome) (input : AnswererInput) → (answerer_timer w outcome input).caller ≡ w.caller
timer_apart w InputLost input = refl
timer_apart w Done input = answerer_acts_apart w Done input
timer_apart w Nothing input = answerer_acts_apart w Nothing input
timer_apart w (Cut made) input = answerer_acts_apart w (Cut made) input

-- counts of one entry and others
count_and :
    (test : Entry → Bool) (entry : Option Entry) (rest : List Entry) →
    count test (and_entries entry rest) ≡ count test (and_entries entry []) + count test rest
count_and test None rest = omega arith
count_and test (Some entry) rest = go (test entry)
  where
    go : (b : Bool) → cond b (suc (count test rest)) (count test rest) ≡ cond b (suc 0) 0 + count test rest
    go true = omega arith
    go false = omega arith

-- an event's entry is paid for
abbrev Pays : (Turn → Bool) → (Option Kind → Turn → Bool) → (Caller → ℕ) → (Caller → ℕ) → (ℕ → ℕ) → Caller → Caller → Option Entry → Type 0
Pays t r left credit more c next entry =
    IsBegunIn next.state next.present ×
    (count (λ (e : Entry). is_callers e.event && t e.turn) (and_entries entry []) + (left next + credit c) ≤ (left c + credit next) + more
    (count (λ (e : Entry). is_delivery_to_caller e.event && r e.item e.turn) (and_entries entry [])))

-- what an information field says counts for nothing here
module _ (t : Turn → Bool) (r : Option Kind → Turn → Bool) (left credit : Caller → ℕ) (more : ℕ → ℕ) (quiet : t Silent ≡ false)
    (adds : (m n : ℕ) → more (m + n) ≡ more m + more n)
    (fee : (c : Caller) (input : CallerInput) → IsBegunIn c.state c.present → Fee t r left credit more c input) where
  -- the caller takes no step
  rests :
      (c next : Caller) (event : Event) (item : Option Kind) (turn : Turn) (fcds : ℕ) (refused : Bool) → next ≡ c →
      IsBegunIn c.state c.present → (is_callers event && t turn) ≡ false →
      Pays t r left credit more c next (Some (record { event = event; item = item; fields = field.Nothing; turn = turn; fcds = fcds; refused = refused }))
  rests c next event item turn fcds refused e b none =
      subst (λ (x : Caller). Pays t r left credit more c x
      (Some (record { event = event; item = item; fields = field.Nothing; turn = turn; fcds = fcds; refused = refused }))) (sym e)
      (b, rw none (omega arith))

  -- the caller takes a step
  steps_so :
      (c next : Caller) (input : CallerInput) (event : Event) (item : Option Kind) (fcds : ℕ) (refused : Bool) →
      next ≡ (caller_step c input).next → IsBegunIn c.state c.present →
      is_callers event ≡ true → (is_delivery_to_caller event && r item (caller_step c input).turn) ≡
      refilled r input (caller_step c input).turn →
      Pays t r left credit more c next (Some (record {
        event = event;
        item = item;
        fields = field.Nothing;
        turn = (caller_step c input).turn;
        fcds = fcds;
        refused = refused;
      }))
  steps_so c next input event item fcds refused e b own refill =
      let turn = (caller_step c input).turn in
      let test : (is_callers event && t turn) ≡ t turn = ap (λ x. x && t turn) own in
      subst (λ (x : Caller). Pays t r left credit more c x
      (Some (record { event = event; item = item; fields = field.Nothing; turn = turn; fcds = fcds; refused = refused }))) (sym e)
      ((step_adds c input b).begun, rw (test, refill) (fee c input b))

  nothing_pays : (c : Caller) → IsBegunIn c.state c.present → Pays t r left credit more c c None
  nothing_pays c b = (b, omega arith)

  delivery_pays :
      (w : World) (outcome : Outcome) (items : List PlainItem) (fcds : ℕ) → outcome ≢ Nothing → IsBegunIn w.caller.state w.caller.present →
      Pays t r left credit more w.caller (delivers_to_caller w outcome items).caller
      (Some (record {
        event = DeliverToCaller;
        item = head_kind items;
        fields = field.Nothing;
        turn = (station_says w (unless_lost outcome (heard items)) (unless_lost outcome None)).turn;
        fcds = fcds;
        refused =
            is_refused outcome;
      }))
  delivery_pays w Done [] fcds some b = rests w.caller w.caller DeliverToCaller None Silent fcds (is_refused Done) refl b quiet
  delivery_pays w Done (framed signal ∷ items) fcds some b =
      steps_so w.caller (caller_acts (record w { to_caller = items }) Done (hears signal)).caller (hears signal) DeliverToCaller
      (signal_kind signal) fcds (is_refused Done) (caller_acts_so (record w { to_caller = items }) Done (hears signal)) b refl refl
  delivery_pays w Done (checked octets ∷ items) fcds some b =
      rests w.caller w.caller DeliverToCaller (Some TrainingCheck) Silent fcds (is_refused Done) refl b quiet
  delivery_pays w (Cut made) [] fcds some b = rests w.caller w.caller DeliverToCaller None Silent fcds (is_refused (Cut made)) refl b quiet
  delivery_pays w (Cut made) (framed signal ∷ items) fcds some b =
      steps_so w.caller (caller_acts (record w { to_caller = items }) (Cut made) (hears signal)).caller (hears signal) DeliverToCaller
      (signal_kind signal) fcds (is_refused (Cut made))
      (caller_acts_so (record w { to_caller = items }) (Cut made) (hears signal)) b refl refl
  delivery_pays w (Cut made) (checked octets ∷ items) fcds some b =
      rests w.caller w.caller DeliverToCaller (Some TrainingCheck) Silent fcds (is_refused (Cut made)) refl b quiet
  delivery_pays w InputLost [] fcds some b = rests w.caller w.caller DeliverToCaller None Silent fcds true refl b quiet
  delivery_pays w InputLost (framed signal ∷ items) fcds some b =
      rests w.caller w.caller DeliverToCaller (signal_kind signal) Silent fcds true refl b quiet
  delivery_pays w InputLost (checked octets ∷ items) fcds some b =
      rests w.caller w.caller DeliverToCaller (Some TrainingCheck) Silent fcds true refl b quiet
  delivery_pays w Nothing items fcds some b = absurd (some refl)

  event_pays :
      (w : World) (event : Event) (outcome : Outcome) → IsBegunIn w.caller.state w.caller.present →
      Pays t r left credit more w.caller (happens w event outcome).caller (entry_of w event outcome)
  event_pays w DeliverToCaller Done b = delivery_pays w Done w.to_caller (event_says w DeliverToCaller Done).fcds (λ e. cc) b
  event_pays w CallerTimeout Done b = steps_so w.caller (caller_acts w Done timeout).caller timeout CallerTimeout None
      (event_says w CallerTimeout Done).fcds (is_refused Done) (caller_acts_so w Done timeout) b refl refl
  event_pays w CallerT5 Done b = steps_so w.caller (caller_acts w Done t5).caller t5 CallerT5 None (event_says w CallerT5 Done).fcds
      (is_refused Done) (caller_acts_so w Done t5) b refl refl
  event_pays w DeliverToAnswerer Done b = rests w.caller (delivers_to_answerer w Done w.to_answerer).caller DeliverToAnswerer
      (head_kind w.to_answerer) (event_says w DeliverToAnswerer Done).turn (event_says w DeliverToAnswerer Done).fcds (is_refused Done)
      (delivery_apart w Done w.to_answerer) b refl
  event_pays w LoseToAnswerer Done b = rests w.caller w.caller LoseToAnswerer (item_of w LoseToAnswerer)
      (event_says w LoseToAnswerer Done).turn (event_says w LoseToAnswerer Done).fcds (is_refused Done) refl b refl
  event_pays w LoseToCaller Done b = rests w.caller w.caller LoseToCaller (item_of w LoseToCaller) (event_says w LoseToCaller Done).turn
      (event_says w LoseToCaller Done).fcds (is_refused Done) refl b refl
  event_pays w Spoil Done b = rests w.caller w.caller Spoil (item_of w Spoil) (event_says w Spoil Done).turn (event_says w Spoil Done).fcds
      (is_refused Done) refl b refl
  event_pays w AnswererT1 Done b = rests w.caller (answerer_timer w Done t1).caller AnswererT1 None (event_says w AnswererT1 Done).turn
      (event_says w AnswererT1 Done).fcds (is_refused Done) (timer_apart w Done t1) b refl
  event_pays w AnswererT2 Done b = rests w.caller (answerer_timer w Done t2).caller AnswererT2 None (event_says w AnswererT2 Done).turn
      (event_says w AnswererT2 Done).fcds (is_refused Done) (timer_apart w Done t2) b refl
  event_pays w (Busy busy) Done b = rests w.caller (answerer_timer w Done (is_busy busy)).caller (Busy busy) None
      (event_says w (Busy busy) Done).turn (event_says w (Busy busy) Done).fcds (is_refused Done) (timer_apart w Done (is_busy busy)) b refl
  event_pays w DeliverToCaller InputLost b = delivery_pays w InputLost w.to_caller (event_says w DeliverToCaller InputLost).fcds (λ e. cc) b
  event_pays w CallerTimeout InputLost b = rests w.caller w.caller CallerTimeout None Silent 0 true refl b quiet
  event_pays w CallerT5 InputLost b = rests w.caller w.caller CallerT5 None Silent 0 true refl b quiet
  event_pays w DeliverToAnswerer InputLost b =
      rests w.caller (delivers_to_answerer w InputLost w.to_answerer).caller DeliverToAnswerer (head_kind w.to_answerer)
      (event_says w DeliverToAnswerer InputLost).turn (event_says w DeliverToAnswerer InputLost).fcds (is_refused InputLost)
      (delivery_apart w InputLost w.to_answerer) b refl
  event_pays w LoseToAnswerer InputLost b =
      rests w.caller w.caller LoseToAnswerer (item_of w LoseToAnswerer) (event_says w LoseToAnswerer InputLost).turn
      (event_says w LoseToAnswerer InputLost).fcds (is_refused InputLost) refl b refl
  event_pays w LoseToCaller InputLost b = rests w.caller w.caller LoseToCaller (item_of w LoseToCaller)
      (event_says w LoseToCaller InputLost).turn (event_says w LoseToCaller InputLost).fcds (is_refused InputLost) refl b refl
  event_pays w Spoil InputLost b = rests w.caller w.caller Spoil (item_of w Spoil) (event_says w Spoil InputLost).turn
      (event_says w Spoil InputLost).fcds (is_refused InputLost) refl b refl
  event_pays w AnswererT1 InputLost b = rests w.caller (answerer_timer w InputLost t1).caller AnswererT1 None
      (event_says w AnswererT1 InputLost).turn (event_says w AnswererT1 InputLost).fcds (is_refused InputLost)
      (timer_apart w InputLost t1) b refl
  event_pays w AnswererT2 InputLost b = rests w.caller (answerer_timer w InputLost t2).caller AnswererT2 None
      (event_says w AnswererT2 InputLost).turn (event_says w AnswererT2 InputLost).fcds (is_refused InputLost)
      (timer_apart w InputLost t2) b refl
  event_pays w (Busy busy) InputLost b = rests w.caller (answerer_timer w InputLost (is_busy busy)).caller (Busy busy) None
      (event_says w (Busy busy) InputLost).turn (event_says w (Busy busy) InputLost).fcds (is_refused InputLost)
      (timer_apart w InputLost (is_busy busy)) b refl
  event_pays w DeliverToCaller (Cut made) b =
      delivery_pays w (Cut made) w.to_caller (event_says w DeliverToCaller (Cut made)).fcds (λ e. cc) b
  event_pays w CallerTimeout (Cut made) b =
      steps_so w.caller (caller_acts w (Cut made) timeout).caller timeout CallerTimeout None (event_says w CallerTimeout (Cut made)).fcds
      (is_refused (Cut made)) (caller_acts_so w (Cut made) timeout) b refl refl
  event_pays w CallerT5 (Cut made) b = steps_so w.caller (caller_acts w (Cut made) t5).caller t5 CallerT5 None
      (event_says w CallerT5 (Cut made)).fcds (is_refused (Cut made)) (caller_acts_so w (Cut made) t5) b refl refl
  event_pays w DeliverToAnswerer (Cut made) b =
      rests w.caller (delivers_to_answerer w (Cut made) w.to_answerer).caller DeliverToAnswerer (head_kind w.to_answerer)
      (event_says w DeliverToAnswerer (Cut made)).turn (event_says w DeliverToAnswerer (Cut made)).fcds (is_refused (Cut made))
      (delivery_apart w (Cut made) w.to_answerer) b refl
  event_pays w LoseToAnswerer (Cut made) b =
      rests w.caller w.caller LoseToAnswerer (item_of w LoseToAnswerer) (event_says w LoseToAnswerer (Cut made)).turn
      (event_says w LoseToAnswerer (Cut made)).fcds (is_refused (Cut made)) refl b refl
  event_pays w LoseToCaller (Cut made) b = rests w.caller w.caller LoseToCaller (item_of w LoseToCaller)
      (event_says w LoseToCaller (Cut made)).turn (event_says w LoseToCaller (Cut made)).fcds (is_refused (Cut made)) refl b refl
  event_pays w Spoil (Cut made) b = rests w.caller w.caller Spoil (item_of w Spoil) (event_says w Spoil (Cut made)).turn
      (event_says w Spoil (Cut made)).fcds (is_refused (Cut made)) refl b refl
  event_pays w AnswererT1 (Cut made) b = rests w.caller (answerer_timer w (Cut made) t1).caller AnswererT1 None
      (event_says w AnswererT1 (Cut made)).turn (event_says w AnswererT1 (Cut made)).fcds (is_refused (Cut made))
      (timer_apart w (Cut made) t1) b refl
  event_pays w AnswererT2 (Cut made) b = rests w.caller (answerer_timer w (Cut made) t2).caller AnswererT2 None
      (event_says w AnswererT2 (Cut made)).turn (event_says w AnswererT2 (Cut made)).fcds (is_refused (Cut made))
      (timer_apart w (Cut made) t2) b refl
  event_pays w (Busy busy) (Cut made) b = rests w.caller (answerer_timer w (Cut made) (is_busy busy)).caller (Busy busy) None
      (event_says w (Busy busy) (Cut made)).turn (event_says w (Busy busy) (Cut made)).fcds (is_refused (Cut made))
      (timer_apart w (Cut made) (is_busy busy)) b refl
  event_pays w event Nothing b = nothing_pays w.caller b

  pub begun_run :
      (steps : List (Event × Outcome)) (w : World) → IsBegunIn w.caller.state w.caller.present →
      IsBegunIn (run steps w).caller.state (run steps w).caller.present
  begun_run [] w b = b
  begun_run (step ∷ steps) w b = begun_run steps (happens w step.0 step.1) (event_pays w step.0 step.1 b).0

  -- over a whole run
  pub sums : (steps : List (Event × Outcome)) (w : World) → IsBegunIn w.caller.state w.caller.present →
      count (λ (e : Entry). is_callers e.event && t e.turn) (entries steps w) + (left (run steps w).caller + credit w.caller)
      ≤ (left w.caller + credit (run steps w).caller) + more
      (count (λ (e : Entry). is_delivery_to_caller e.event && r e.item e.turn) (entries steps w))
  sums [] w b = omega arith
  sums (step ∷ steps) w b =
      let first = event_pays w step.0 step.1 b in
      let after = happens w step.0 step.1 in
      let later = sums steps after first.0 in
      let entry = entry_of w step.0 step.1 in
      let turns = count_and (λ (e : Entry). is_callers e.event && t e.turn) entry (entries steps after) in
      let refill = ap more (count_and (λ (e : Entry). is_delivery_to_caller e.event && r e.item e.turn) entry (entries steps after)) ∙
      adds _ _ in
      let paid = first.1 in
      omega (arith, paid, later, turns, refill)

-- the turns DCS of a run
dcs_sums : StepsSpend → (steps : List (Event × Outcome)) (w : World) → IsBegunIn w.caller.state w.caller.present →
    count shows_dcs (entries steps w) + (dcs_left (run steps w).caller + dcs_credit w.caller) ≤
    (dcs_left w.caller + dcs_credit (run steps w).caller) + 0
dcs_sums law steps w b = sums is_training no_refill dcs_left dcs_credit (λ n. 0) refl (λ m n. refl) (dcs_fee law) steps w b

run_begun :
    StepsSpend → (steps : List (Event × Outcome)) (w : World) → IsBegunIn w.caller.state w.caller.present →
    IsBegunIn (run steps w).caller.state (run steps w).caller.present
run_begun law steps w b = begun_run is_training no_refill dcs_left dcs_credit (λ n. 0) refl (λ m n. refl) (dcs_fee law) steps w b

-- the groups begun pay for them
groups_pay :
    (state : CallerState) (c : Caller) (turns : ℕ) → c.state ≡ state → IsBegunIn state c.present →
    turns + (dcs_left c + 0) ≤ (18 + 18 * length c.finished) + 0 → turns ≤ 18 * (length c.finished + length c.present)
groups_pay WaitDis c turns e b h = (let now : dcs_left c ≡ 18 = rw e refl in let none : length c.present ≡ 0 = ap (λ ps. length ps) b in
    omega (arith, h, now, none))
groups_pay WaitCfr c turns e b h = omega (arith, h, b)
groups_pay WaitBlock c turns e b h = omega (arith, h, b)
groups_pay WaitReady c turns e b h = omega (arith, h, b)

-- at most 18 are left at any time of a run
few_in_delivery :
    StepsSpend → (w : World) (outcome : Outcome) (items : List PlainItem) → dcs_left w.caller ≤ 18 →
    dcs_left (delivers_to_caller w outcome items).caller ≤ 18
few_in_delivery law w outcome [] h = h
few_in_delivery law w InputLost (item ∷ items) h = h
few_in_delivery law w Done (framed signal ∷ items) h =
    subst (λ (c : Caller). dcs_left c ≤ 18) (sym (caller_acts_so (record w { to_caller = items }) Done (hears signal)))
    (few_left law w.caller (hears signal) h)
few_in_delivery law w Done (checked octets ∷ items) h = h
few_in_delivery law w Nothing (framed signal ∷ items) h =
    subst (λ (c : Caller). dcs_left c ≤ 18) (sym (caller_acts_so (record w { to_caller = items }) Nothing (hears signal)))
    (few_left law w.caller (hears signal) h)
few_in_delivery law w Nothing (checked octets ∷ items) h = h
few_in_delivery law w (Cut made) (framed signal ∷ items) h =
    subst (λ (c : Caller). dcs_left c ≤ 18) (sym (caller_acts_so (record w { to_caller = items }) (Cut made) (hears signal)))
    (few_left law w.caller (hears signal) h)
few_in_delivery law w (Cut made) (checked octets ∷ items) h = h

few_in_event :
    StepsSpend → (w : World) (event : Event) (outcome : Outcome) → dcs_left w.caller ≤ 18 → dcs_left (happens w event outcome).caller ≤ 18
few_in_event law w DeliverToCaller Done h = few_in_delivery law w Done w.to_caller h
few_in_event law w CallerTimeout Done h =
    subst (λ (c : Caller). dcs_left c ≤ 18) (sym (caller_acts_so w Done timeout)) (few_left law w.caller timeout h)
few_in_event law w CallerT5 Done h = subst (λ (c : Caller). dcs_left c ≤ 18) (sym (caller_acts_so w Done t5)) (few_left law w.caller t5 h)
few_in_event law w DeliverToAnswerer Done h = subst (λ (c : Caller). dcs_left c ≤ 18) (sym (delivery_apart w Done w.to_answerer)) h
few_in_event law w LoseToAnswerer Done h = h
few_in_event law w LoseToCaller Done h = h
few_in_event law w Spoil Done h = h
few_in_event law w AnswererT1 Done h = subst (λ (c : Caller). dcs_left c ≤ 18) (sym (timer_apart w Done t1)) h
few_in_event law w AnswererT2 Done h = subst (λ (c : Caller). dcs_left c ≤ 18) (sym (timer_apart w Done t2)) h
few_in_event law w (Busy busy) Done h = subst (λ (c : Caller). dcs_left c ≤ 18) (sym (timer_apart w Done (is_busy busy))) h
few_in_event law w DeliverToCaller InputLost h = few_in_delivery law w InputLost w.to_caller h
few_in_event law w CallerTimeout InputLost h = h
few_in_event law w CallerT5 InputLost h = h
few_in_event law w DeliverToAnswerer InputLost h =
    subst (λ (c : Caller). dcs_left c ≤ 18) (sym (delivery_apart w InputLost w.to_answerer)) h
few_in_event law w LoseToAnswerer InputLost h = h
few_in_event law w LoseToCaller InputLost h = h
few_in_event law w Spoil InputLost h = h
few_in_event law w AnswererT1 InputLost h = subst (λ (c : Caller). dcs_left c ≤ 18) (sym (timer_apart w InputLost t1)) h
few_in_event law w AnswererT2 InputLost h = subst (λ (c : Caller). dcs_left c ≤ 18) (sym (timer_apart w InputLost t2)) h
few_in_event law w (Busy busy) InputLost h = subst (λ (c : Caller). dcs_left c ≤ 18) (sym (timer_apart w InputLost (is_busy busy))) h
few_in_event law w DeliverToCaller (Cut made) h = few_in_delivery law w (Cut made) w.to_caller h
few_in_event law w CallerTimeout (Cut made) h =
    subst (λ (c : Caller). dcs_left c ≤ 18) (sym (caller_acts_so w (Cut made) timeout)) (few_left law w.caller timeout h)
few_in_event law w CallerT5 (Cut made) h =
    subst (λ (c : Caller). dcs_left c ≤ 18) (sym (caller_acts_so w (Cut made) t5)) (few_left law w.caller t5 h)
few_in_event law w DeliverToAnswerer (Cut made) h =
    subst (λ (c : Caller). dcs_left c ≤ 18) (sym (delivery_apart w (Cut made) w.to_answerer)) h
few_in_event law w LoseToAnswerer (Cut made) h = h
few_in_event law w LoseToCaller (Cut made) h = h
few_in_event law w Spoil (Cut made) h = h
few_in_event law w AnswererT1 (Cut made) h = subst (λ (c : Caller). dcs_left c ≤ 18) (sym (timer_apart w (Cut made) t1)) h
few_in_event law w AnswererT2 (Cut made) h = subst (λ (c : Caller). dcs_left c ≤ 18) (sym (timer_apart w (Cut made) t2)) h
few_in_event law w (Busy busy) (Cut made) h = subst (λ (c : Caller). dcs_left c ≤ 18) (sym (timer_apart w (Cut made) (is_busy busy))) h
few_in_event law w event Nothing h = h

few_in_run : StepsSpend → (steps : List (Event × Outcome)) (w : World) → dcs_left w.caller ≤ 18 → dcs_left (run steps w).caller ≤ 18
few_in_run law [] w h = h
few_in_run law (step ∷ steps) w h = few_in_run law steps (happens w step.0 step.1) (few_in_event law w step.0 step.1 h)

pub dcs_between_groups : StepsSpend → DcsBetweenGroups
dcs_between_groups law document wish caps before steps same =
    let first = new_world document wish caps in
    let w = run before first in
    let few = few_in_run law before first (omega arith) in
    let turns = dcs_sums law steps w (run_begun law before first refl) in
    omega (arith, few, turns, same)

-- any part of a transcript is the entries of some steps of the run
parts_are_counted :
    StepsSpend → (document : Document) (wish : Wish) (caps : Caps) (steps : List (Event × Outcome)) (before part after : List Entry) →
    entries steps (new_world document wish caps) ≡ before ++ part ++ after → count shows_dcs part ≤ 18 * suc (count shows_group_end part)
parts_are_counted law document wish caps steps before part after e =
    let start = new_world document wish caps in
    let one = entries_split steps start before (part ++ after) (e ∙ append_assoc_lem before part after) in
    let w = run one.first start in
    let two = entries_split one.second w part after one.rest_is in
    let few = few_in_run law one.first start (omega arith) in
    let told = sums is_training group_refill dcs_left no_credit (λ n. 18 * n) refl (λ m n. omega arith) (told_fee law) two.first w
    (run_begun law one.first start refl) in
    subst (λ es. count shows_dcs es ≤ 18 * suc (count shows_group_end es)) two.first_is (omega (arith, few, told))

pub runs_are_counted : StepsSpend → RunsAreCounted
runs_are_counted law document wish caps steps =
    let first = new_world document wish caps in
    let w = run steps first in
    let dcn = sums is_dcn no_refill calls_left no_credit (λ n. 0) refl (λ m n. refl) (λ c input b. dcn_fee law c input) steps first refl in
    let told = sums is_training group_refill dcs_left no_credit (λ n. 18 * n) refl (λ m n. omega arith) (told_fee law) steps first refl in
    let rr = sums is_rr rr_refill rr_left no_credit (λ n. 3 * n) refl (λ m n. omega arith) (rr_fee law) steps first refl in
    let blocks = sums is_block_turn block_refill pps_left no_credit (λ n. 12 * n) refl (λ m n. omega arith)
    (block_fee law) steps first refl in
    record {
      dcs = groups_pay w.caller.state w.caller _ refl (run_begun law steps first refl) (dcs_sums law steps first refl);
      dcs_told = omega (arith, told);
      dcs_part = parts_are_counted law document wish caps steps;
      dcn = omega (arith, dcn);
      rr = omega (arith, rr);
      blocks = omega (arith, blocks);
    }

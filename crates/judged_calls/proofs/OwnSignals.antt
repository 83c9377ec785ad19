-- Each station says its own signals alone.
use Rattle.std.proofs.Common.{◌≡◌, ℕ, zero, suc, Bool, true, false, cond, List, [], ◌∷◌, ◌++◌, take, refl}
use Rattle.std.specs.Prelude.{Option, Some, None}
use Rattle.signals.specs.Signals.{dis, fcd, rcp}
use Rattle.signals.specs.declared.params.Params.{Params}
use Rattle.signals.specs.declared.signal.Side.{Side}
use Rattle.signals.specs.declared.signal.Side.TheVariants.{Caller as CallerSide, Answerer as AnswererSide}
use Rattle.partial_page.specs.Store.{bit_of}
use Rattle.stations.specs.Blocks.{Block}
use Rattle.stations.specs.Inputs.{CallerInput, AnswererInput, PlainItem, framed, checked}
use Rattle.stations.specs.Laws.{Each}
use Rattle.stations.specs.CallerStep.{Caller, caller_step, caller_items, training_items, fcds, pps_of, burst_of, pps_items, present_block}
use Rattle.stations.specs.AnswererStep.{Answerer, answerer_step, answerer_items}
use Rattle.stations.specs.declared.turn.CallerState.{CallerState}
use Rattle.stations.specs.declared.turn.CallerState.TheVariants.{WaitDis, WaitCfr, WaitBlock, WaitReady}
use Rattle.stations.specs.declared.turn.Turn.{Turn}
use Rattle.stations.specs.declared.turn.Turn.TheVariants as turn
use Rattle.line_sim.specs.Entries.{input_to_caller, input_to_answerer}
use Rattle.line_sim.specs.Line.{World, Outcome, Done, Nothing, InputLost, Cut, sent, happens, new_world}
use Rattle.line_sim.specs.declared.event.Event.{Event}
use Rattle.referee.specs.History.{PlainSaid}
use Rattle.referee.specs.Rules.{is_wrong_side}
use Rattle.referee.specs.declared.rule.Rule.TheVariants.{WrongSide}
use Rattle.judged_calls.specs.SaidCalls.{and_said, speaks, event_speaks, said_in, Keeps, RuleIsKept}

-- an item says a signal of its station
abbrev pub Own : Side → PlainItem → Type 0
Own side (framed signal) = is_wrong_side side signal ≡ false
Own side (checked octets) = Unit {0}

pub each_append : {A : Type 0} (P : A → Type 0) (xs ys : List A) → Each P xs → Each P ys → Each P (xs ++ ys)
each_append P [] ys h k = k
each_append P (x ∷ xs) ys h k = (h.0, each_append P xs ys h.1 k)

pub each_take : {A : Type 0} (P : A → Type 0) (n : ℕ) (xs : List A) → Each P xs → Each P (take n xs)
each_take P zero xs h = tt
each_take P (suc n) [] h = tt
each_take P (suc n) (x ∷ xs) h = (h.0, each_take P n xs h.1)

-- what is said after what was said before
keeps_more : (side : Side) (items : List PlainItem) (before : List PlainSaid) → Each (Own side) items → Keeps WrongSide before →
    Keeps WrongSide (and_said side items before)
keeps_more side [] before own h = h
keeps_more side (framed signal ∷ items) before own h = keeps_more side items (record { by = side; signal = signal } ∷ before) own.1 (own.0, h)
keeps_more side (checked octets ∷ items) before own h = keeps_more side items before own.1 h

-- the items of the caller's turns
training_own : (state : CallerState) (params : Params) → Each (Own CallerSide) (training_items state params)
training_own WaitDis params = tt
training_own WaitCfr params = (refl, (tt, tt))
training_own WaitBlock params = (refl, (tt, tt))
training_own WaitReady params = (refl, (tt, tt))

fcds_own : (marks : List ℕ) (number : ℕ) (frames : List (List ℕ)) → Each (Own CallerSide) (fcds marks number frames)
fcds_own marks number [] = tt
fcds_own marks number (octets ∷ frames) = at (bit_of marks number) (fcds_own marks (suc number) frames)
  where
    at : (b : Bool) → Each (Own CallerSide) (fcds marks (suc number) frames) →
        Each (Own CallerSide) (cond b (framed (fcd number octets) ∷ fcds marks (suc number) frames) (fcds marks (suc number) frames))
    at true h = (refl, h)
    at false h = h

burst_own : (marks : List ℕ) (block : Option Block) → Each (Own CallerSide) (burst_of marks block)
burst_own marks None = tt
burst_own marks (Some block) =
    each_append (Own CallerSide) (fcds marks 0 block.frames) (framed rcp ∷ framed rcp ∷ framed rcp ∷ pps_of block ∷ [])
    (fcds_own marks 0 block.frames) (refl, (refl, (refl, (refl, tt))))

pps_own : (block : Option Block) → Each (Own CallerSide) (pps_items block)
pps_own None = tt
pps_own (Some block) = (refl, tt)

caller_own : (c : Caller) (t : Turn) → Each (Own CallerSide) (caller_items c t)
caller_own c turn.Silent = tt
caller_own c turn.Dis = tt
caller_own c turn.Training = training_own c.state c.params
caller_own c turn.Cfr = tt
caller_own c turn.Ftt = tt
caller_own c (turn.Burst marks) = burst_own marks (present_block c)
caller_own c turn.Pps = pps_own (present_block c)
caller_own c turn.Mcf = tt
caller_own c (turn.Ppr marks) = tt
caller_own c turn.Rnr = tt
caller_own c turn.Rr = (refl, tt)
caller_own c turn.Dcn = (refl, tt)

-- the items of the answerer's turns
answerer_own : (s : Answerer) (t : Turn) → Each (Own AnswererSide) (answerer_items s t)
answerer_own s turn.Silent = tt
answerer_own s turn.Dis = (refl, tt)
answerer_own s turn.Training = tt
answerer_own s turn.Cfr = (refl, tt)
answerer_own s turn.Ftt = (refl, tt)
answerer_own s (turn.Burst marks) = tt
answerer_own s turn.Pps = tt
answerer_own s turn.Mcf = (refl, tt)
answerer_own s (turn.Ppr marks) = (refl, tt)
answerer_own s turn.Rnr = (refl, tt)
answerer_own s turn.Rr = tt
answerer_own s turn.Dcn = (refl, tt)

-- the first of them, if the turn was cut
pub sent_each : (P : PlainItem → Type 0) (outcome : Outcome) (items : List PlainItem) → Each P items → Each P (sent outcome items)
sent_each P Done items h = h
sent_each P Nothing items h = h
sent_each P InputLost items h = h
sent_each P (Cut made) items h = each_take P made items h

-- what is said to an input, to an event, and in a run
speaks_keeps : (w : World) (outcome : Outcome) (heard : Option CallerInput) (listened : Option AnswererInput) (before : List PlainSaid) →
    Keeps WrongSide before → Keeps WrongSide (speaks w outcome heard listened before)
speaks_keeps w outcome (Some input) listened before h =
    let answer = caller_step w.caller input in
    keeps_more CallerSide _ before (sent_each (Own CallerSide) outcome _ (caller_own answer.next answer.turn)) h
speaks_keeps w outcome None (Some input) before h =
    let answer = answerer_step w.answerer input in
    keeps_more AnswererSide _ before (sent_each (Own AnswererSide) outcome _ (answerer_own answer.next answer.turn)) h
speaks_keeps w outcome None None before h = h

event_keeps : (w : World) (event : Event) (outcome : Outcome) (before : List PlainSaid) → Keeps WrongSide before →
    Keeps WrongSide (event_speaks w event outcome before)
event_keeps w event Done before h = speaks_keeps w Done (input_to_caller w event) (input_to_answerer w event) before h
event_keeps w event Nothing before h = h
event_keeps w event InputLost before h = h
event_keeps w event (Cut made) before h = speaks_keeps w (Cut made) (input_to_caller w event) (input_to_answerer w event) before h

run_keeps : (steps : List (Event × Outcome)) (w : World) (before : List PlainSaid) → Keeps WrongSide before →
    Keeps WrongSide (said_in steps w before)
run_keeps [] w before h = h
run_keeps (step ∷ steps) w before h =
    run_keeps steps (happens w step.0 step.1) (event_speaks w step.0 step.1 before) (event_keeps w step.0 step.1 before h)

-- the law
pub own_signals : RuleIsKept WrongSide
own_signals document wish caps steps =
    run_keeps steps (new_world document wish caps) (record { by = AnswererSide; signal = dis caps } ∷ []) (refl, tt)

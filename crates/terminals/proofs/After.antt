-- Where each station stands after signals that it heard.
use Rattle.std.proofs.Common.{◌≡◌, ◌≢◌, ◌↔◌, ◌<◌, ◌≤◌, ℕ, Bool, true, false, List, [], ◌∷◌, drop, refl, ap, ◌∙◌, subst, sym, arith}
use Rattle.std.proofs.lemmas.Bool.{ltb-false, ltb-true}
use Rattle.std.specs.Prelude.{◌&&◌, not, nat_lt, slice_get, Option, Some, None, cond, IsTrue}
use Rattle.signals.specs.Signals.{PlainSignal, cfr, dcn, mcf}
use Rattle.signals.specs.declared.signal.PageEnd.TheVariants.{Mps}
use Rattle.stations.specs.AnswererStep.{Answerer, answerer_items}
use Rattle.stations.specs.Blocks.{Block}
use Rattle.stations.specs.Bursts.{PlainBurst, TurnsCut, bursts_of}
use Rattle.stations.specs.CallerFields.{CallerFields, Represents}
use Rattle.stations.specs.CallerStep.{Caller, CallerAnswer, all_frames, blocks_of, burst_of, caller_items, caller_table, first_burst, goes_on}
use Rattle.stations.specs.CallerStep.{present_in, unless_caller_ended}
use Rattle.stations.specs.Inputs.{AnswererInput, hears}
use Rattle.stations.specs.Laws.{Each}
use Rattle.stations.specs.Runs.{answerer_after}
use Rattle.stations.specs.declared.turn.CallerState.TheVariants.{WaitBlock, WaitCfr}
use Rattle.stations.specs.declared.turn.Turn.{Turn}
use Rattle.stations.specs.declared.turn.Turn.TheVariants.{Burst}
use Rattle.terminals.specs.Hearing.{PlainInput, busy, check, over, said}
use Rattle.terminals.specs.Runs.{HearsOne, TakesAll, TakesUnless, is_dcn, is_passed}
use Rattle.terminals.specs.Speaking.{BurstsOf, Speaking, StepOf, Takes, is_silent, spoken}
use Rattle.terminals.specs.Stations.{AnswererLends, AnswererSteps, CallerLends, CallerSteps, answerer_answers, answerer_given, answerer_takes}
use Rattle.terminals.specs.Stations.{caller_given}
use Rattle.terminals.specs.StationsAfter.{Speaks, answerer_heard, caller_heard, is_burst, is_left, unless_left}
use Rattle.terminals.specs.StationsAfter.{AnswererIsAfter, CallerIsAfter, WhatFollowsIsPassed}

-- ---- whether a burst is left

burst_there : (bursts : List PlainBurst) → is_burst bursts ≡ true → bursts ≢ []
burst_there [] e = absurd (cc)
burst_there (burst ∷ bursts) e = λ none. cc

none_there : (bursts : List PlainBurst) → is_burst bursts ≡ false → bursts ≡ []
none_there [] e = refl
none_there (burst ∷ bursts) e = absurd (cc)

left_at : (taken : ℕ) (below : Bool) (bursts : List PlainBurst) (there is : Bool) → nat_lt taken 255 ≡ below → is_burst bursts ≡ there →
    (IsTrue is ↔ ((taken < 255) × (bursts ≢ []))) → is ≡ (below && there)
left_at taken true bursts true true b t h = refl
left_at taken true bursts true false b t h = let now : false ≡ true = h.1 (ltb-true taken 255 b, burst_there bursts t) in absurd (cc)
left_at taken true bursts false true b t h = absurd ((h.0 refl).1 (none_there bursts t))
left_at taken true bursts false false b t h = refl
left_at taken false bursts there true b t h =
    let few : taken < 255 = (h.0 refl).0 in let many : 255 ≤ taken = ltb-false taken 255 b in absurd (omega (arith, few, many))
left_at taken false bursts there false b t h = refl

pub left_is : (taken : ℕ) (bursts : List PlainBurst) (is : Bool) → (IsTrue is ↔ ((taken < 255) × (drop taken bursts ≢ []))) →
    is ≡ is_left taken bursts
left_is taken bursts is h = left_at taken (nat_lt taken 255) (drop taken bursts) (is_burst (drop taken bursts)) is refl refl h

-- ---- one signal

either : {S : Type 0} (silent : Bool) (one other : Speaking S) (station : S) → one.station ≡ station → other.station ≡ station →
    (cond silent one other).station ≡ station
either true one other station p q = p
either false one other station p q = q

pub spoken_station : {S : Type 0} (old : Speaking S) (station : S) (turn : Turn) → (spoken old station turn).station ≡ station
spoken_station old station turn =
    either (is_silent turn) (record { station = station; turn = old.turn; taken = old.taken })
    (record { station = station; turn = turn; taken = 0 }) station refl refl

pub taken_station : {S : Type 0} (steps : StepOf S) (old : Speaking S) (input : PlainInput) (new : Speaking S)
    (h : Takes S steps old input new) → new.station ≡ h.station
taken_station steps old input new h = ap (λ s. s.station) h.is ∙ spoken_station old h.station h.turn

-- a fact of a station that is left as it was, and is kept by what is taken, is kept by a signal
by_sending : {S : Type 0} (P : Speaking S → Type 0) (steps : StepOf S) (old mid : Speaking S) (input : PlainInput) (sending : Bool) →
    TakesUnless sending steps old input mid → P old → (Takes S steps old input mid → P mid) → P mid
by_sending P steps old mid input true h p f = subst P (sym h) p
by_sending P steps old mid input false h p f = f h

pub heard_keeps : {S : Type 0} (P : Speaking S → Type 0) (steps : StepOf S) (lends : BurstsOf S) (old mid : Speaking S) (input : PlainInput) →
    HearsOne S steps lends old input mid → P old → (Takes S steps old input mid → P mid) → P mid
heard_keeps P steps lends old mid input h p f = by_sending P steps old mid input (is_passed h.sending input) h.takes p f

-- a signal does what the bursts say: it is passed over or taken
pub taken_or_passed : {S : Type 0} (R : Speaking S → Type 0) (steps : StepOf S) (old mid : Speaking S) (input : PlainInput)
    (sending left : Bool) → sending ≡ left → TakesUnless sending steps old input mid → (left ≡ true → mid ≡ old → R mid) →
    (left ≡ false → Takes S steps old input mid → R mid) → R mid
taken_or_passed R steps old mid input true true e h passed taken = passed refl h
taken_or_passed R steps old mid input true false e h passed taken = absurd (cc)
taken_or_passed R steps old mid input false true e h passed taken = absurd (cc)
taken_or_passed R steps old mid input false false e h passed taken = taken refl h

-- ---- an answerer

answerer_left : (old mid : Speaking Answerer) (input : PlainInput) (h : HearsOne Answerer AnswererSteps AnswererLends old input mid) →
    h.sending ≡ is_left old.taken (bursts_of old.station.params.speed (answerer_items old.station old.turn))
answerer_left old mid input h =
    left_is old.taken h.has_burst.0 h.sending h.has_burst.2 ∙ ap (is_left old.taken) h.has_burst.1

answerer_one : (old mid : Speaking Answerer) (input : PlainInput) → HearsOne Answerer AnswererSteps AnswererLends old input mid →
    mid ≡
    unless_left input (bursts_of old.station.params.speed (answerer_items old.station old.turn)) old (answerer_given old.station input).next
    (answerer_given old.station input).turn
answerer_one old mid input h =
    let left = is_passed (is_left old.taken (bursts_of old.station.params.speed (answerer_items old.station old.turn))) input in
    taken_or_passed
    (λ m. m ≡ cond left old (spoken old (answerer_given old.station input).next (answerer_given old.station input).turn)) AnswererSteps old mid
    input (is_passed h.sending input) left (ap (λ b. is_passed b input) (answerer_left old mid input h)) h.takes
    (λ is same. same ∙ sym (ap (λ b. cond b old (spoken old (answerer_given old.station input).next (answerer_given old.station input).turn)) is))
    (λ is takes.
    takes.is ∙ (ap (λ s. spoken old s takes.turn) takes.steps_so.0 ∙
    (ap (λ t. spoken old (answerer_given old.station input).next t) takes.steps_so.1 ∙
    sym (ap (λ b. cond b old (spoken old (answerer_given old.station input).next (answerer_given old.station input).turn)) is))))

pub answerer_is_after : AnswererIsAfter
answerer_is_after old new [] h = h
answerer_is_after old new (input ∷ inputs) h =
    answerer_is_after h.0 new inputs h.2 ∙ ap (answerer_heard inputs) (answerer_one old h.0 input h.1)

-- what an answerer has taken of signals, whichever they were
abbrev pub AnswererTook : Answerer → Answerer → Type 0
AnswererTook old new = (took : List AnswererInput) × (new ≡ answerer_after took old)

took_more : (old mid new : Answerer) → AnswererTook old mid → AnswererTook mid new → AnswererTook old new
took_more old mid new (some, is) (more, so) = at some more old mid new is so
  where
    at : (some more : List AnswererInput) (old mid new : Answerer) → mid ≡ answerer_after some old → new ≡ answerer_after more mid →
        AnswererTook old new
    at [] more old mid new is so = (more, so ∙ ap (answerer_after more) is)
    at (x ∷ some) more old mid new is so =
        let rest = at some more (answerer_after (x ∷ []) old) mid new is so in (x ∷ rest.0, rest.1)

took_one : (old new : Answerer) (taken : Option AnswererInput) → new ≡ (answerer_answers old taken).next → AnswererTook old new
took_one old new None is = ([], is)
took_one old new (Some input) is = (input ∷ [], is)

pub answerer_took : (old new : Speaking Answerer) (inputs : List PlainInput) → TakesAll AnswererSteps AnswererLends old inputs new →
    AnswererTook old.station new.station
answerer_took old new [] h = ([], ap (λ (s : Speaking Answerer). s.station) h)
answerer_took old new (input ∷ inputs) h =
    took_more old.station h.0.station new.station
    (heard_keeps (λ (s : Speaking Answerer). AnswererTook old.station s.station) AnswererSteps AnswererLends old h.0 input h.1 ([], refl)
    (λ takes. took_one old.station h.0.station (answerer_takes input)
    (taken_station AnswererSteps old input h.0 takes ∙ takes.steps_so.0)))
    (answerer_took h.0 new inputs h.2)

-- ---- a caller

speaks_so : (v w : CallerFields) (c d : Caller) (silent : Bool) (turn : Turn) (old : Speaking CallerFields) (s : Speaking Caller) →
    Represents w d → old.turn ≡ s.turn → old.taken ≡ s.taken →
    Speaks
    (cond silent (record { station = w; turn = old.turn; taken = old.taken }) (record { station = w; turn = turn; taken = 0 }))
    (cond silent (record { station = d; turn = s.turn; taken = s.taken }) (record { station = d; turn = turn; taken = 0 }))
speaks_so v w c d true turn old s r t k = record { station = r; turn = t; taken = k }
speaks_so v w c d false turn old s r t k = record { station = r; turn = refl; taken = refl }

caller_left : (old mid : Speaking CallerFields) (s : Speaking Caller) (input : PlainInput) → Speaks old s →
    (h : HearsOne CallerFields CallerSteps CallerLends old input mid) →
    h.sending ≡ is_left s.taken (bursts_of s.station.params.speed (caller_items s.station s.turn))
caller_left old mid s input same h =
    left_is old.taken h.has_burst.0 h.sending h.has_burst.2 ∙
    (ap (is_left old.taken) (h.has_burst.1 s.station same.station) ∙
    (ap (λ k. is_left k (bursts_of s.station.params.speed (caller_items s.station old.turn))) same.taken ∙
    ap (λ t. is_left s.taken (bursts_of s.station.params.speed (caller_items s.station t))) same.turn))

pub caller_one : (old mid : Speaking CallerFields) (s : Speaking Caller) (input : PlainInput) → Speaks old s →
    HearsOne CallerFields CallerSteps CallerLends old input mid →
    Speaks mid
    (unless_left input (bursts_of s.station.params.speed (caller_items s.station s.turn)) s (caller_given s.station input).next
    (caller_given s.station input).turn)
caller_one old mid s input same h =
    let left = is_passed (is_left s.taken (bursts_of s.station.params.speed (caller_items s.station s.turn))) input in
    let next = spoken s (caller_given s.station input).next (caller_given s.station input).turn in
    taken_or_passed (λ m. Speaks m (cond left s next)) CallerSteps old mid input (is_passed h.sending input) left
    (ap (λ b. is_passed b input) (caller_left old mid s input same h)) h.takes
    (λ is passed. subst (λ b. Speaks mid (cond b s next)) (sym is) (subst (λ m. Speaks m s) (sym passed) same))
    (λ is takes.
    let so = takes.steps_so s.station same.station in
    subst (λ b. Speaks mid (cond b s next)) (sym is)
    (subst (λ m. Speaks m next) (sym takes.is)
    (subst (λ t. Speaks (spoken old takes.station t) next) (sym so.1)
    (speaks_so old.station takes.station s.station (caller_given s.station input).next (is_silent (caller_given s.station input).turn)
    (caller_given s.station input).turn old s so.0 same.turn same.taken))))

callers_after : (old new : Speaking CallerFields) (inputs : List PlainInput) (s : Speaking Caller) →
    TakesAll CallerSteps CallerLends old inputs new → Speaks old s → Speaks new (caller_heard inputs s)
callers_after old new [] s h same = subst (λ v. Speaks v s) (sym h) same
callers_after old new (input ∷ inputs) s h same =
    callers_after h.0 new inputs
    (unless_left input (bursts_of s.station.params.speed (caller_items s.station s.turn)) s (caller_given s.station input).next
    (caller_given s.station input).turn)
    h.2 (caller_one old h.0 s input same h.1)

pub caller_is_after : CallerIsAfter
caller_is_after old new inputs c h r =
    callers_after old new inputs (record { station = c; turn = old.turn; taken = old.taken }) h
    (record { station = r; turn = refl; taken = refl })

-- ---- what follows a turn

-- a signal that isn't DCN is passed over by a station that is sending
no_dcn : (signal : PlainSignal) → said signal ≢ said dcn → is_dcn signal ≡ false
no_dcn dcn isnt = absurd (isnt refl)
no_dcn _ isnt = refl

passes : (input : PlainInput) → input ≢ said dcn → is_passed true input ≡ true
passes (said signal) isnt = ap not (no_dcn signal isnt)
passes (check octets) isnt = refl
passes (over wait) isnt = refl
passes (busy is) isnt = refl

passed_one : {S : Type 0} (steps : StepOf S) (old mid : Speaking S) (input : PlainInput) (sending left : Bool) → sending ≡ left → left ≡ true →
    input ≢ said dcn → TakesUnless (is_passed sending input) steps old input mid → mid ≡ old
passed_one steps old mid input sending left e is isnt h =
    subst (λ b. TakesUnless b steps old input mid) (ap (λ b. is_passed b input) (e ∙ is) ∙ passes input isnt) h

answerer_passes : (old new : Speaking Answerer) (inputs : List PlainInput) →
    is_left old.taken (bursts_of old.station.params.speed (answerer_items old.station old.turn)) ≡ true →
    Each (λ x. x ≢ said dcn) inputs → TakesAll AnswererSteps AnswererLends old inputs new → new ≡ old
answerer_passes old new [] left isnt h = h
answerer_passes old new (input ∷ inputs) left isnt h =
    let first : h.0 ≡ old =
    passed_one AnswererSteps old h.0 input h.1.sending
    (is_left old.taken (bursts_of old.station.params.speed (answerer_items old.station old.turn))) (answerer_left old h.0 input h.1) left isnt.0
    h.1.takes in
    answerer_passes old new inputs left isnt.1 (subst (λ m. TakesAll AnswererSteps AnswererLends m inputs new) first h.2)

caller_passes : (old new : Speaking CallerFields) (inputs : List PlainInput) (c : Caller) → Represents old.station c →
    is_left old.taken (bursts_of c.params.speed (caller_items c old.turn)) ≡ true → Each (λ x. x ≢ said dcn) inputs →
    TakesAll CallerSteps CallerLends old inputs new → new ≡ old
caller_passes old new [] c r left isnt h = h
caller_passes old new (input ∷ inputs) c r left isnt h =
    let s : Speaking Caller = record { station = c; turn = old.turn; taken = old.taken } in
    let first : h.0 ≡ old =
    passed_one CallerSteps old h.0 input h.1.sending (is_left old.taken (bursts_of c.params.speed (caller_items c old.turn)))
    (caller_left old h.0 s input (record { station = r; turn = refl; taken = refl }) h.1) left isnt.0 h.1.takes in
    caller_passes old new inputs c r left isnt.1 (subst (λ m. TakesAll CallerSteps CallerLends m inputs new) first h.2)

-- a caller that awaits CFR and hears it sends the present block
cfr_taken : (c : Caller) (block : Block) → c.ending ≡ None → c.state ≡ WaitCfr → slice_get (blocks_of c) c.place ≡ Some block →
    caller_given c (said cfr) ≡ first_burst c
cfr_taken c block e s b =
    ap (λ (x : Option _). unless_caller_ended x (hears cfr) c) e ∙
    (ap (λ x. caller_table x (hears cfr) c) s ∙ ap (goes_on c Mps) b)

block_left : TurnsCut → (c : Caller) (block : Block) → c.ending ≡ None → slice_get (blocks_of c) c.place ≡ Some block →
    is_left 0 (bursts_of (first_burst c).next.params.speed (caller_items (first_burst c).next (Burst all_frames))) ≡ true
block_left cuts c block e b =
    ap (λ (x : Option _). is_left 0 (bursts_of c.params.speed (burst_of all_frames (present_in WaitBlock x (slice_get (blocks_of c) c.place))))) e ∙
    (ap (λ x. is_left 0 (bursts_of c.params.speed (burst_of all_frames x))) b ∙ ap (is_left 0) (cuts.block c.params.speed all_frames block))

cfr_doubled : TurnsCut → (old new : Speaking CallerFields) (c : Caller) (block : Block) → Represents old.station c →
    is_left old.taken (bursts_of c.params.speed (caller_items c old.turn)) ≡ false → c.ending ≡ None → c.state ≡ WaitCfr →
    slice_get (blocks_of c) c.place ≡ Some block →
    TakesAll CallerSteps CallerLends old (said cfr ∷ said mcf ∷ said mcf ∷ []) new →
    Represents new.station (record c { state = WaitBlock; try = 1; pprs = 0 })
cfr_doubled cuts old new c block r none e w b h =
    let s : Speaking Caller = record { station = c; turn = old.turn; taken = old.taken } in
    let after : Speaking Caller = record { station = (first_burst c).next; turn = Burst all_frames; taken = 0 } in
    let step : unless_left (said cfr) (bursts_of c.params.speed (caller_items c old.turn)) s (caller_given c (said cfr)).next
    (caller_given c (said cfr)).turn ≡ after =
    ap (λ x. cond (is_passed x (said cfr)) s (spoken s (caller_given c (said cfr)).next (caller_given c (said cfr)).turn)) none ∙
    ap (λ (a : CallerAnswer). spoken s a.next a.turn) (cfr_taken c block e w b) in
    let first : Speaks h.0 after =
    subst (λ x. Speaks h.0 x) step (caller_one old h.0 s (said cfr) (record { station = r; turn = refl; taken = refl }) h.1) in
    let left : is_left h.0.taken (bursts_of (first_burst c).next.params.speed (caller_items (first_burst c).next h.0.turn)) ≡ true =
    ap (λ k. is_left k (bursts_of c.params.speed (caller_items (first_burst c).next h.0.turn))) first.taken ∙
    (ap (λ t. is_left 0 (bursts_of c.params.speed (caller_items (first_burst c).next t))) first.turn ∙ block_left cuts c block e b) in
    let rest : new ≡ h.0 = caller_passes h.0 new (said mcf ∷ said mcf ∷ []) (first_burst c).next first.station left
    ((λ e. cc), ((λ e. cc), tt)) h.2 in
    subst (λ (v : Speaking CallerFields). Represents v.station (first_burst c).next) (sym rest) first.station

pub what_follows_is_passed : TurnsCut → WhatFollowsIsPassed
what_follows_is_passed cuts = record {
  caller = caller_passes;
  answerer = answerer_passes;
  doubled = cfr_doubled cuts;
}

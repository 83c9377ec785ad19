-- In which steps a caller stays in its phase.
use Rattle.std.proofs.Common.{◌≡◌, ℕ, suc, Bool, true, false, cond, List, Option, Some, None, refl, ap, sym, ◌∙◌, arith}
use Rattle.std.specs.Prelude.{◌&&◌, is_some, nat_eq, nat_lt, not, slice_get}
use Rattle.std.specs.Bool.{beq}
use Rattle.std.proofs.lemmas.Bool.{eq-eqb, ne_eqb}
use Rattle.signals.specs.Signals.{dis, dcs, cfr, ftt, fcd, rcp, pps, ppr, mcf, rnr, rr, dcn, other}
use Rattle.signals.specs.declared.params.Caps.{Caps}
use Rattle.signals.specs.declared.params.Params.{Params}
use Rattle.signals.specs.declared.signal.PageEnd.{PageEnd}
use Rattle.signals.specs.declared.signal.PageEnd.TheVariants.{Null, Mps, Eom, Eop}
use Rattle.stations.specs.Blocks.{Block}
use Rattle.stations.specs.CallerStep.{Caller, answers_dis, answers_ftt, answers_mcf, answers_ppr, blocks_of, caller_step, goes_on}
use Rattle.stations.specs.CallerStep.{caller_gives_up, confirmed, goes_on_or_waits, tries_again}
use Rattle.stations.specs.Inputs.{CallerInput, hears, timeout, t5}
use Rattle.stations.specs.Layers.{agreed_for, lowered}
use Rattle.stations.specs.declared.turn.CallerState.{CallerState}
use Rattle.stations.specs.declared.turn.CallerState.TheVariants.{WaitDis, WaitCfr, WaitBlock, WaitReady}
use Rattle.stations.specs.declared.turn.End.{End}
use Rattle.stations.specs.declared.turn.End.TheVariants.{NoReply, Unreadable}
use Rattle.stations.specs.declared.turn.Turn.{Turn}
use Rattle.stations.specs.declared.turn.Turn.TheVariants.{Burst, Training as SendTraining, Pps as SendPps, Rr as SendRr}
use Rattle.line_sim.specs.Entries.{signal_kind}
use Rattle.line_sim.specs.Fates.{is_sending}
use Rattle.line_sim.specs.Tolerance.{is_same_phase, negotiates}
use Rattle.line_sim.specs.declared.event.Event.TheVariants.{DeliverToCaller}
use Rattle.call_tallies.specs.TriesCounted.{is_mcf}

-- a caller stays in its phase by whether it sends a block, and whether an MCF comes
abbrev pub SameBy : Caller → Caller → Bool → Type 0
SameBy c next came = is_same_phase c next ≡ cond (is_sending c) (not came) (not (is_sending next))

-- an input is an MCF
abbrev pub is_mcf_input : CallerInput → Bool
is_mcf_input (hears signal) = is_mcf DeliverToCaller (signal_kind signal)
is_mcf_input timeout = false
is_mcf_input t5 = false

still : (place : ℕ) (b : Bool) → (nat_eq place place && beq b b) ≡ true
still place true = ap (λ x. x && true) (eq-eqb place place refl)
still place false = ap (λ x. x && true) (eq-eqb place place refl)

-- it is in the same phase, and sends a block before and after or neither
either_way : (place : ℕ) (b sends : Bool) → (nat_eq place place && beq b b) ≡ cond sends true (not sends)
either_way place b true = still place b
either_way place b false = still place b

-- or sends none any more
no_more : (place : ℕ) (b sends : Bool) → (nat_eq place place && beq b b) ≡ cond sends true true
no_more place b true = still place b
no_more place b false = still place b

pub same_silent : (c : Caller) → SameBy c c false
same_silent c = either_way c.place (negotiates c.state) (is_sending c)

-- a caller in a state, which has ended or runs
abbrev caller_in : Caller → CallerState → Option End → Caller
caller_in c state ending = record c { state = state; ending = ending }

-- one that has ended
ended_phase : (c : Caller) (state : CallerState) (why : End) (came : Bool) →
    SameBy (caller_in c state (Some why)) (caller_in c state (Some why)) came
ended_phase c WaitDis why came = still c.place true
ended_phase c WaitCfr why came = still c.place true
ended_phase c WaitBlock why came = still c.place false
ended_phase c WaitReady why came = still c.place false

-- one that waits for a DIS
dis_phase : (c : Caller) (answer : Option Params) (came : Bool) (caps : Caps) →
    SameBy (caller_in c WaitDis None) (answers_dis (caller_in c WaitDis None) caps answer).next came
dis_phase c None came caps = still c.place true
dis_phase c (Some params) came caps = still c.place true

waits_dis : (c : Caller) (input : CallerInput) →
    SameBy (caller_in c WaitDis None) (caller_step (caller_in c WaitDis None) input).next (is_mcf_input input)
waits_dis c (hears (dis caps)) =
    let at : Caller = caller_in c WaitDis None in
    dis_phase c (agreed_for caps at.wish (slice_get at.document (confirmed at))) false caps
waits_dis c (hears (dcs params)) = still c.place true
waits_dis c (hears cfr) = still c.place true
waits_dis c (hears ftt) = still c.place true
waits_dis c (hears (fcd number octets)) = still c.place true
waits_dis c (hears rcp) = still c.place true
waits_dis c (hears (pps ends page block last)) = still c.place true
waits_dis c (hears (ppr map)) = still c.place true
waits_dis c (hears mcf) = still c.place true
waits_dis c (hears rnr) = still c.place true
waits_dis c (hears rr) = still c.place true
waits_dis c (hears dcn) = still c.place true
waits_dis c (hears (other octet)) = still c.place true
waits_dis c timeout = still c.place true
waits_dis c t5 = still c.place true

-- one that waits for a CFR
cfr_phase : (c : Caller) (next : Option Block) → slice_get (blocks_of c) c.place ≡ next →
    SameBy (caller_in c WaitCfr None) (goes_on (caller_in c WaitCfr None) Mps next).next false
cfr_phase c None is = still c.place true
cfr_phase c (Some block) is =
    ap (λ x. x && false) (eq-eqb c.place c.place refl) ∙ ap (λ o. not (is_some o)) (sym is)

ftt_phase : (c : Caller) (lower : Option Params) →
    SameBy (caller_in c WaitCfr None) (answers_ftt (caller_in c WaitCfr None) lower).next false
ftt_phase c None = still c.place true
ftt_phase c (Some params) = still c.place true

cfr_again : (c : Caller) (turn : Turn) → SameBy (caller_in c WaitCfr None) (tries_again (caller_in c WaitCfr None) turn).next false
cfr_again c turn = at (nat_lt c.try 3)
  where
    at : (b : Bool) → SameBy (caller_in c WaitCfr None)
        (cond b
        (record { next = record (caller_in c WaitCfr None) { try = suc c.try }; turn = turn })
        (caller_gives_up (caller_in c WaitCfr None) NoReply)).next false
    at true = still c.place true
    at false = still c.place true

waits_cfr : (c : Caller) (input : CallerInput) →
    SameBy (caller_in c WaitCfr None) (caller_step (caller_in c WaitCfr None) input).next (is_mcf_input input)
waits_cfr c (hears (dis caps)) = cfr_again c SendTraining
waits_cfr c (hears (dcs params)) = still c.place true
waits_cfr c (hears cfr) = cfr_phase c (slice_get (blocks_of c) c.place) refl
waits_cfr c (hears ftt) = ftt_phase c (lowered c.caps c.wish c.params)
waits_cfr c (hears (fcd number octets)) = still c.place true
waits_cfr c (hears rcp) = still c.place true
waits_cfr c (hears (pps ends page block last)) = still c.place true
waits_cfr c (hears (ppr map)) = still c.place true
waits_cfr c (hears mcf) = still c.place true
waits_cfr c (hears rnr) = still c.place true
waits_cfr c (hears rr) = still c.place true
waits_cfr c (hears dcn) = still c.place true
waits_cfr c (hears (other octet)) = still c.place true
waits_cfr c timeout = cfr_again c SendTraining
waits_cfr c t5 = still c.place true

-- one that waits for the answer to a block; the next place is that of the next block
next_place : (c : Caller) (ends : PageEnd) (next : Option Block) → (goes_on_or_waits c ends next).next.place ≡ c.place
next_place c Eom next = refl
next_place c Null None = refl
next_place c Null (Some block) = refl
next_place c Mps None = refl
next_place c Mps (Some block) = refl
next_place c Eop None = refl
next_place c Eop (Some block) = refl

next_differs : (c : Caller) (next : Caller) → next.place ≡ suc c.place → is_same_phase c next ≡ false
next_differs c next is =
    ap (λ n. nat_eq c.place n && beq (negotiates c.state) (negotiates next.state)) is ∙
    ap (λ b. b && beq (negotiates c.state) (negotiates next.state)) (ne_eqb c.place (suc c.place) (λ e. (let no = e in omega arith)))

mcf_phase : (c : Caller) (block : Option Block) → is_sending c ≡ is_some block → SameBy c (answers_mcf c block).next true
mcf_phase c None is =
    still c.place (negotiates c.state) ∙ sym (ap (λ b. cond b false (not b)) is)
mcf_phase c (Some block) is =
    let next : Caller = (answers_mcf c (Some block)).next in
    next_differs c next (next_place (record c { place = suc c.place }) block.ends (slice_get (blocks_of c) (suc c.place))) ∙
    sym (ap (λ b. cond b false (not (is_sending next))) is)

ppr_phase : (c : Caller) (state : CallerState) (map : List ℕ) → negotiates state ≡ false →
    is_sending (caller_in c state None) ≡ is_some (slice_get (blocks_of c) c.place) →
    SameBy (caller_in c state None) (answers_ppr (caller_in c state None) map).next false
ppr_phase c state map block is = at (nat_lt c.pprs 3)
  where
    sends : Bool
    sends = is_some (slice_get (blocks_of c) c.place)

    same : (nat_eq c.place c.place && beq (negotiates state) false) ≡ true
    same = ap (λ b. nat_eq c.place c.place && beq b false) block ∙ still c.place false

    all : (sends : Bool) → true ≡ cond sends true (not sends)
    all true = refl
    all false = refl

    given : (state : CallerState) → negotiates state ≡ false →
        SameBy (caller_in c state None) (caller_in c state (Some Unreadable)) false
    given WaitDis e = absurd (cc)
    given WaitCfr e = absurd (cc)
    given WaitBlock e = no_more c.place false sends
    given WaitReady e = no_more c.place false sends

    at : (b : Bool) → SameBy (caller_in c state None)
        (cond b
        (record { next = record (caller_in c state None) { state = WaitBlock; try = 1; pprs = suc c.pprs }; turn = Burst map })
        (caller_gives_up (caller_in c state None) Unreadable)).next false
    at true = same ∙ (all sends ∙ sym (ap (λ b. cond b true (not sends)) is))
    at false = given state block

block_again : (c : Caller) (turn : Turn) → SameBy (caller_in c WaitBlock None) (tries_again (caller_in c WaitBlock None) turn).next false
block_again c turn = at (nat_lt c.try 3)
  where
    at : (b : Bool) → SameBy (caller_in c WaitBlock None)
        (cond b
        (record { next = record (caller_in c WaitBlock None) { try = suc c.try }; turn = turn })
        (caller_gives_up (caller_in c WaitBlock None) NoReply)).next false
    at true = either_way c.place false (is_some (slice_get (blocks_of c) c.place))
    at false = no_more c.place false (is_some (slice_get (blocks_of c) c.place))

ready_again : (c : Caller) (turn : Turn) → SameBy (caller_in c WaitReady None) (tries_again (caller_in c WaitReady None) turn).next false
ready_again c turn = at (nat_lt c.try 3)
  where
    at : (b : Bool) → SameBy (caller_in c WaitReady None)
        (cond b
        (record { next = record (caller_in c WaitReady None) { try = suc c.try }; turn = turn })
        (caller_gives_up (caller_in c WaitReady None) NoReply)).next false
    at true = either_way c.place false (is_some (slice_get (blocks_of c) c.place))
    at false = no_more c.place false (is_some (slice_get (blocks_of c) c.place))

waits_block : (c : Caller) (input : CallerInput) →
    SameBy (caller_in c WaitBlock None) (caller_step (caller_in c WaitBlock None) input).next (is_mcf_input input)
waits_block c input = at input
  where
    same : SameBy (caller_in c WaitBlock None) (caller_in c WaitBlock None) false
    same = same_silent (caller_in c WaitBlock None)

    at : (input : CallerInput) →
        SameBy (caller_in c WaitBlock None) (caller_step (caller_in c WaitBlock None) input).next (is_mcf_input input)
    at (hears (dis caps)) = same
    at (hears (dcs params)) = same
    at (hears cfr) = same
    at (hears ftt) = same
    at (hears (fcd number octets)) = same
    at (hears rcp) = same
    at (hears (pps ends page block last)) = same
    at (hears (ppr map)) = ppr_phase c WaitBlock map refl refl
    at (hears mcf) = mcf_phase (caller_in c WaitBlock None) (slice_get (blocks_of c) c.place) refl
    at (hears rnr) = either_way c.place false (is_some (slice_get (blocks_of c) c.place))
    at (hears rr) = same
    at (hears dcn) = no_more c.place false (is_some (slice_get (blocks_of c) c.place))
    at (hears (other octet)) = same
    at timeout = block_again c SendPps
    at t5 = same

waits_ready : (c : Caller) (input : CallerInput) →
    SameBy (caller_in c WaitReady None) (caller_step (caller_in c WaitReady None) input).next (is_mcf_input input)
waits_ready c input = at input
  where
    same : SameBy (caller_in c WaitReady None) (caller_in c WaitReady None) false
    same = same_silent (caller_in c WaitReady None)

    at : (input : CallerInput) →
        SameBy (caller_in c WaitReady None) (caller_step (caller_in c WaitReady None) input).next (is_mcf_input input)
    at (hears (dis caps)) = same
    at (hears (dcs params)) = same
    at (hears cfr) = same
    at (hears ftt) = same
    at (hears (fcd number octets)) = same
    at (hears rcp) = same
    at (hears (pps ends page block last)) = same
    at (hears (ppr map)) = ppr_phase c WaitReady map refl refl
    at (hears mcf) = mcf_phase (caller_in c WaitReady None) (slice_get (blocks_of c) c.place) refl
    at (hears rnr) = either_way c.place false (is_some (slice_get (blocks_of c) c.place))
    at (hears rr) = same
    at (hears dcn) = no_more c.place false (is_some (slice_get (blocks_of c) c.place))
    at (hears (other octet)) = same
    at timeout = ready_again c SendRr
    at t5 = no_more c.place false (is_some (slice_get (blocks_of c) c.place))

phase_in : (c : Caller) (state : CallerState) (ending : Option End) (input : CallerInput) →
    SameBy (caller_in c state ending) (caller_step (caller_in c state ending) input).next (is_mcf_input input)
phase_in c state (Some why) input = ended_phase c state why (is_mcf_input input)
phase_in c WaitDis None input = waits_dis c input
phase_in c WaitCfr None input = waits_cfr c input
phase_in c WaitBlock None input = waits_block c input
phase_in c WaitReady None input = waits_ready c input

-- each step of any caller
pub caller_phase : (c : Caller) (input : CallerInput) → SameBy c (caller_step c input).next (is_mcf_input input)
caller_phase c input = phase_in c c.state c.ending input

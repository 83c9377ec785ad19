-- What single frames tell of the block under way, of the burst under way and of each station's last frame. `begun` says that an FCD of the
-- block came after the frame. `None`: the frame tells nothing, and an earlier one may.
use Rattle.std.specs.Prelude.{ℕ, ◌+◌, ◌%◌, Bool, true, false, not, cond, ◌&&◌, ◌||◌, List, Option, Some, None, nat_eq, nat_le, nat_lt}
use Rattle.std.specs.Str.{bytes_eq}
use Rattle.partial_page.specs.Store.{bit_of}
use Rattle.signals.specs.Agreement.{allowed}
use Rattle.signals.specs.Signals.{PlainSignal, dis, dcs, cfr, fcd, rcp, pps, ppr, mcf, rnr, rr, dcn, other}
use Rattle.signals.specs.declared.params.Params.{Params}
use Rattle.signals.specs.declared.signal.PageEnd.{PageEnd}
use Rattle.signals.specs.declared.signal.PageEnd.TheVariants.{Null, Mps, Eom, Eop}
use Rattle.signals.specs.declared.signal.Side.{Side}
use Rattle.signals.specs.declared.signal.Side.TheVariants.{Caller, Answerer}
use Rattle.referee.specs.History.{PlainSaid, is_fcd}
use Rattle.referee.specs.declared.question.Question.{Question}
use Rattle.referee.specs.declared.question.Question.TheVariants.{Sent, MayHave, SurelyHas, Below, Reaches, OtherData, Unasked, Left}
use Rattle.referee.specs.declared.question.Question.TheVariants.{Counted, OtherMark, OtherLast, AnyPps, Follows, IsBusy, GoesOn, InBurst}
use Rattle.referee.specs.declared.question.Question.TheVariants.{NotBelow, Begins, IsAsked, IsTraining, Offered, Small, HasEnded}

-- ---- signals that aren't read, by their octets, with the bit X or without

-- ERR, the answer to EOR: the block is given up
abbrev pub is_err : ℕ → Bool
is_err octet = nat_eq octet 28 || nat_eq octet 29

-- CTR, the answer to CTC: the speed is changed
abbrev pub is_ctr : ℕ → Bool
is_ctr octet = nat_eq octet 196 || nat_eq octet 197

-- EOR: the caller gives the block up
abbrev pub is_eor : ℕ → Bool
is_eor octet = nat_eq octet 206 || nat_eq octet 207

-- a DCS that asks for something else than is known here, as a page without error correction
abbrev pub is_other_dcs : ℕ → Bool
is_other_dcs octet = nat_eq octet 130 || nat_eq octet 131

-- ---- the block under way

-- the block under way begins after a CFR, and after an MCF or ERR that comes before its first FCD
abbrev pub begins_block : Bool → PlainSignal → Bool
begins_block begun cfr = true
begins_block begun mcf = begun
begins_block begun (other octet) = begun && is_err octet
begins_block begun _ = false

-- nothing earlier is of the block
abbrev pub unless_begins : Bool → PlainSignal → Option Bool
unless_begins begun signal = cond (begins_block begun signal) (Some false) None

-- a frame of the block was sent
abbrev pub sent_by : ℕ → Bool → PlainSignal → Option Bool
sent_by n begun (fcd number octets) = cond (nat_eq number n) (Some true) None
sent_by n begun signal = unless_begins begun signal

-- The answerer may have a frame of the block: it was sent since it was known to be missing.
abbrev pub may_have_by : ℕ → Bool → PlainSignal → Option Bool
may_have_by n begun (fcd number octets) = cond (nat_eq number n) (Some true) None
may_have_by n begun (ppr marks) = Some (not (bit_of marks n))
may_have_by n begun mcf = Some (not begun)
may_have_by n begun signal = unless_begins begun signal

-- the answerer has said that it has a frame of the block, by an MCF or by a PPR that didn't ask for it
abbrev pub surely_has_by : ℕ → Bool → PlainSignal → Option Bool
surely_has_by n begun (ppr marks) = Some (not (bit_of marks n))
surely_has_by n begun mcf = Some (not begun)
surely_has_by n begun signal = unless_begins begun signal

-- a PPS of the block counts fewer frames: a number is above its last one
abbrev pub below_by : ℕ → Bool → PlainSignal → Option Bool
below_by n begun (pps ends page block last) = cond (nat_lt last n) (Some true) None
below_by n begun signal = unless_begins begun signal

-- a PPS of the block counts a frame: a number is at most its last one
abbrev pub reaches_by : ℕ → Bool → PlainSignal → Option Bool
reaches_by n begun (pps ends page block last) = cond (nat_le n last) (Some true) None
reaches_by n begun signal = unless_begins begun signal

-- a frame of the block was sent with other data
abbrev pub other_data_by : ℕ → List ℕ → Bool → PlainSignal → Option Bool
other_data_by n octets_then begun (fcd number octets) = cond (nat_eq number n && not (bytes_eq octets octets_then)) (Some true) None
other_data_by n octets_then begun signal = unless_begins begun signal

-- ---- the burst under way, which goes back to the answer that lets it begin; CTC, CTR and what is not read may stand between

-- what is between the frames of a burst and the answer before it
abbrev pub past_burst : PlainSignal → Option Bool
past_burst (fcd number octets) = None
past_burst rcp = None
past_burst (dis caps) = None
past_burst (other octet) = cond (is_err octet) (Some false) None
past_burst _ = Some false

-- the burst answers a PPR that doesn't ask for a frame
abbrev pub unasked_by : ℕ → Bool → PlainSignal → Option Bool
unasked_by n begun (ppr marks) = Some (not (bit_of marks n))
unasked_by n begun signal = past_burst signal

-- the burst answers a PPR that asks for a frame, and doesn't have it
abbrev pub left_by : ℕ → Bool → PlainSignal → Option Bool
left_by n begun (fcd number octets) = cond (nat_eq number n) (Some false) None
left_by n begun (ppr marks) = Some (bit_of marks n)
left_by n begun signal = past_burst signal

-- ---- the PPSs before

-- the same end
abbrev pub same_end : PageEnd → PageEnd → Bool
same_end Null Null = true
same_end Mps Mps = true
same_end Eom Eom = true
same_end Eop Eop = true
same_end _ _ = false

-- the counts of page and block that come after a block: the next block of its page; or the first one of the next page, whose count may
-- begin anew with a group
abbrev pub follows : PageEnd → ℕ → ℕ → ℕ → ℕ → Bool
follows Null page block p b = nat_eq p page && nat_eq b ((block + 1) % 256)
follows Eom page block p b = (nat_eq p ((page + 1) % 256) && nat_eq b 0) || (nat_eq p 0 && nat_eq b 0)
follows _ page block p b = nat_eq p ((page + 1) % 256) && nat_eq b 0

-- the block has had a PPS
abbrev pub counted_by : Bool → PlainSignal → Option Bool
counted_by begun (pps ends page block last) = Some true
counted_by begun signal = unless_begins begun signal

-- the last PPS of the block has another end or another count of page or block
abbrev pub other_mark_by : PageEnd → ℕ → ℕ → Bool → PlainSignal → Option Bool
other_mark_by e p b begun (pps ends page block last) = Some (not (same_end ends e && (nat_eq page p && nat_eq block b)))
other_mark_by e p b begun signal = unless_begins begun signal

-- no FCD came since the last PPS, and it has another last frame
abbrev pub other_last_by : ℕ → PlainSignal → Option Bool
other_last_by n (pps ends page block last) = Some (not (nat_eq last n))
other_last_by n (fcd number octets) = Some false
other_last_by n cfr = Some false
other_last_by n _ = None

-- a PPS was sent, in whatever group
abbrev pub any_pps_by : PlainSignal → Option Bool
any_pps_by (pps ends page block last) = Some true
any_pps_by _ = None

-- counts of page and block come after those of the last PPS
abbrev pub follows_by : ℕ → ℕ → PlainSignal → Option Bool
follows_by p b (pps ends page block last) = Some (follows ends page block p b)
follows_by p b _ = None

-- The answerer has said that it is busy since the last PPS and the last FCD. A caller that bursts has heard another answer.
abbrev pub busy_by : PlainSignal → Option Bool
busy_by rnr = Some true
busy_by (pps ends page block last) = Some false
busy_by (fcd number octets) = Some false
busy_by cfr = Some false
busy_by _ = None

-- ---- each station's last frame

-- a frame of the caller tells it
abbrev pub of_caller : Side → Option Bool → Option Bool
of_caller Caller told = told
of_caller Answerer told = None

-- a DCN is passed over: the command before it may still be answered, since an answer may cross it
abbrev pub unless_dcn : PlainSignal → Bool → Option Bool
unless_dcn dcn told = None
unless_dcn _ told = Some told

-- an FCD or an RCP
abbrev pub is_burst : PlainSignal → Bool
is_burst (fcd number octets) = true
is_burst rcp = true
is_burst _ = false

-- an FCD whose number is not below another
abbrev pub is_not_below : ℕ → PlainSignal → Bool
is_not_below n (fcd number octets) = nat_le n number
is_not_below n _ = false

-- what lets a burst begin: CFR, PPR and MCF, and ERR and CTR
abbrev pub lets_begin : PlainSignal → Bool
lets_begin cfr = true
lets_begin (ppr marks) = true
lets_begin mcf = true
lets_begin (other octet) = is_err octet || is_ctr octet
lets_begin _ = false

-- what MCF, PPR and RNR answer: PPS and RR, and EOR
abbrev pub asks_for_answer : PlainSignal → Bool
asks_for_answer (pps ends page block last) = true
asks_for_answer rr = true
asks_for_answer (other octet) = is_eor octet
asks_for_answer _ = false

-- a DCS, which a training check follows
abbrev pub is_dcs : PlainSignal → Bool
is_dcs (dcs params) = true
is_dcs (other octet) = is_other_dcs octet
is_dcs _ = false

-- DCN
-- a signal is DCN
abbrev pub is_dcn : PlainSignal → Bool
is_dcn dcn = true
is_dcn _ = false

-- the same station
abbrev pub same_side : Side → Side → Bool
same_side Caller Caller = true
same_side Answerer Answerer = true
same_side _ _ = false

-- a DIS offers what a DCS asks for
abbrev pub offered_by : Params → PlainSignal → Option Bool
offered_by params (dis caps) = cond (allowed caps params) (Some true) None
offered_by params _ = None

-- the last DCS says that frames are small
abbrev pub small_by : PlainSignal → Option Bool
small_by (dcs params) = Some params.small
small_by _ = None

-- ---- all questions

-- what a frame that was said before tells of a question
abbrev pub tell : Question → Bool → PlainSaid → Option Bool
tell (Sent n) begun said = sent_by n begun said.signal
tell (MayHave n) begun said = may_have_by n begun said.signal
tell (SurelyHas n) begun said = surely_has_by n begun said.signal
tell (Below n) begun said = below_by n begun said.signal
tell (Reaches n) begun said = reaches_by n begun said.signal
tell (OtherData n octets) begun said = other_data_by n octets.now begun said.signal
tell (Unasked n) begun said = unasked_by n begun said.signal
tell (Left n) begun said = left_by n begun said.signal
tell Counted begun said = counted_by begun said.signal
tell (OtherMark ends page block) begun said = other_mark_by ends page block begun said.signal
tell (OtherLast n) begun said = other_last_by n said.signal
tell AnyPps begun said = any_pps_by said.signal
tell (Follows page block) begun said = follows_by page block said.signal
tell IsBusy begun said = busy_by said.signal
tell GoesOn begun said = of_caller said.by (Some (is_fcd said.signal))
tell InBurst begun said = of_caller said.by (Some (is_burst said.signal))
tell (NotBelow n) begun said = of_caller said.by (Some (is_not_below n said.signal))
tell Begins begun said = cond (lets_begin said.signal) (Some true) (of_caller said.by (Some false))
tell IsAsked begun said = of_caller said.by (unless_dcn said.signal (asks_for_answer said.signal))
tell IsTraining begun said = of_caller said.by (unless_dcn said.signal (is_dcs said.signal))
tell (Offered params) begun said = offered_by params said.signal
tell Small begun said = small_by said.signal
tell (HasEnded side) begun said = cond (same_side said.by side && is_dcn said.signal) (Some true) None

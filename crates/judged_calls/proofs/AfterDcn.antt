-- A station that has said DCN says nothing more.
use Rattle.std.proofs.Common.{◌≡◌, ℕ, zero, suc, Bool, true, false, cond, ◌&&◌, ◌||◌, List, [], ◌∷◌, refl, ap, ◌∙◌}
use Rattle.std.specs.Prelude.{Option, Some, None, unwrap_or}
use Rattle.signals.specs.Signals.{dis, cfr, ftt, fcd, rcp, ppr, mcf, rnr, rr, dcn}
use Rattle.signals.specs.declared.params.Params.{Params}
use Rattle.signals.specs.declared.signal.Side.{Side}
use Rattle.signals.specs.declared.signal.Side.TheVariants.{Caller as CallerSide, Answerer as AnswererSide}
use Rattle.partial_page.specs.Store.{bit_of}
use Rattle.stations.specs.Blocks.{Block}
use Rattle.stations.specs.Inputs.{CallerInput, AnswererInput, PlainItem, framed, checked}
use Rattle.stations.specs.Laws.{Each}
use Rattle.stations.specs.CallerStep.{Caller, caller_step, caller_items, training_items, fcds, pps_of, burst_of, pps_items, present_block}
use Rattle.stations.specs.CallerStep.{unless_caller_ended}
use Rattle.stations.specs.AnswererStep.{Answerer, answerer_step, answerer_items, unless_answerer_ended}
use Rattle.stations.specs.TurnsMean.{CallersTurnsMean, AnswerersTurnsMean, CallerSends, AnswererSends}
use Rattle.stations.specs.declared.turn.CallerState.{CallerState}
use Rattle.stations.specs.declared.turn.CallerState.TheVariants.{WaitDis, WaitCfr, WaitBlock, WaitReady}
use Rattle.stations.specs.declared.turn.End.{End}
use Rattle.stations.specs.declared.turn.Turn.{Turn}
use Rattle.stations.specs.declared.turn.Turn.TheVariants as turn
use Rattle.line_sim.specs.Line.{World, Outcome, Done, Nothing, InputLost, Cut, sent, new_world, caller_sends, answerer_sends}
use Rattle.line_sim.specs.Line.{caller_acts, answerer_acts}
use Rattle.referee.specs.History.{PlainSaid, look, is_fcd}
use Rattle.referee.specs.Questions.{tell, is_dcn, same_side}
use Rattle.referee.specs.declared.question.Question.TheVariants.{HasEnded}
use Rattle.referee.specs.declared.rule.Rule.TheVariants.{Ended}
use Rattle.judged_calls.proofs.Events.{PartsKeep, run_keeps, Any, all_any, NoFact}
use Rattle.judged_calls.proofs.OwnSignals.{each_append, sent_each}
use Rattle.judged_calls.specs.SaidCalls.{and_said, caller_speaks, answerer_speaks, Keeps, RuleIsKept}

-- whether a station has said DCN, and whether an FCD came since says nothing of it
abbrev pub ended_said : Side → Bool → List PlainSaid → Bool
ended_said side begun before = look (tell (HasEnded side)) begun before

begun_any : (side : Side) (a b : Bool) (before : List PlainSaid) → ended_said side a before ≡ ended_said side b before
begun_any side a b [] = refl
begun_any side a b (said ∷ before) =
    at (same_side said.by side && is_dcn said.signal) (begun_any side (a || is_fcd said.signal) (b || is_fcd said.signal) before)
  where
    at : (c : Bool) → ended_said side (a || is_fcd said.signal) before ≡ ended_said side (b || is_fcd said.signal) before →
        unwrap_or (cond c (Some true) None) (ended_said side (a || is_fcd said.signal) before) ≡
        unwrap_or (cond c (Some true) None) (ended_said side (b || is_fcd said.signal) before)
    at true h = refl
    at false h = h

-- one frame more
one_more : (side : Side) (said : PlainSaid) (before : List PlainSaid) → (same_side said.by side && is_dcn said.signal) ≡ false →
    ended_said side false before ≡ false → ended_said side false (said ∷ before) ≡ false
one_more side said before plain h = rw plain (begun_any side (is_fcd said.signal) false before ∙ h)

-- an item is no DCN
abbrev pub NoDcn : PlainItem → Type 0
NoDcn (framed signal) = is_dcn signal ≡ false
NoDcn (checked octets) = Unit {0}

and_no : (a b : Bool) → b ≡ false → (a && b) ≡ false
and_no true b h = h
and_no false b h = refl

-- what a station has said, and nothing after its DCN
pub record Quiet (caller_ending answerer_ending : Option End) (before : List PlainSaid) : Type 0 where
  pub caller : caller_ending ≡ None → ended_said CallerSide false before ≡ false
  pub answerer : answerer_ending ≡ None → ended_said AnswererSide false before ≡ false
  pub keeps : Keeps Ended before

-- a station that has said no DCN says items without one
no_dcn_keeps : (side : Side) (items : List PlainItem) (before : List PlainSaid) → Each NoDcn items → ended_said side false before ≡ false →
    Keeps Ended before → (ended_said side false (and_said side items before) ≡ false) × Keeps Ended (and_said side items before)
no_dcn_keeps side [] before plain h keeps = (h, keeps)
no_dcn_keeps side (framed signal ∷ items) before plain h keeps =
    no_dcn_keeps side items (record { by = side; signal = signal } ∷ before) plain.1
    (one_more side (record { by = side; signal = signal }) before (and_no (same_side side side) (is_dcn signal) plain.0) h) (h, keeps)
no_dcn_keeps side (checked octets ∷ items) before plain h keeps = no_dcn_keeps side items before plain.1 h keeps

-- what one station says leaves what the other one has said
abbrev pub other_side : Side → Side
other_side CallerSide = AnswererSide
other_side AnswererSide = CallerSide

not_other : (side : Side) (b : Bool) → (same_side side (other_side side) && b) ≡ false
not_other CallerSide b = refl
not_other AnswererSide b = refl

other_kept : (side : Side) (items : List PlainItem) (before : List PlainSaid) → ended_said (other_side side) false before ≡ false →
    ended_said (other_side side) false (and_said side items before) ≡ false
other_kept side [] before h = h
other_kept side (framed signal ∷ items) before h =
    other_kept side items (record { by = side; signal = signal } ∷ before)
    (one_more (other_side side) (record { by = side; signal = signal }) before (not_other side (is_dcn signal)) h)
other_kept side (checked octets ∷ items) before h = other_kept side items before h

-- a DCN alone
dcn_keeps : (side : Side) (outcome : Outcome) (before : List PlainSaid) → ended_said side false before ≡ false → Keeps Ended before →
    Keeps Ended (and_said side (sent outcome (framed dcn ∷ [])) before)
dcn_keeps side Done before h keeps = (h, keeps)
dcn_keeps side Nothing before h keeps = (h, keeps)
dcn_keeps side InputLost before h keeps = (h, keeps)
dcn_keeps side (Cut zero) before h keeps = keeps
dcn_keeps side (Cut (suc zero)) before h keeps = (h, keeps)
dcn_keeps side (Cut (suc (suc made))) before h keeps = (h, keeps)

-- ---- the items of a turn without DCN

training_no : (state : CallerState) (params : Params) → Each NoDcn (training_items state params)
training_no WaitDis params = tt
training_no WaitCfr params = (refl, (tt, tt))
training_no WaitBlock params = (refl, (tt, tt))
training_no WaitReady params = (refl, (tt, tt))

fcds_no : (marks : List ℕ) (number : ℕ) (frames : List (List ℕ)) → Each NoDcn (fcds marks number frames)
fcds_no marks number [] = tt
fcds_no marks number (octets ∷ frames) = at (bit_of marks number) (fcds_no marks (suc number) frames)
  where
    at : (b : Bool) → Each NoDcn (fcds marks (suc number) frames) →
        Each NoDcn (cond b (framed (fcd number octets) ∷ fcds marks (suc number) frames) (fcds marks (suc number) frames))
    at true h = (refl, h)
    at false h = h

burst_no : (marks : List ℕ) (block : Option Block) → Each NoDcn (burst_of marks block)
burst_no marks None = tt
burst_no marks (Some block) =
    each_append NoDcn (fcds marks 0 block.frames) (framed rcp ∷ framed rcp ∷ framed rcp ∷ pps_of block ∷ [])
    (fcds_no marks 0 block.frames) (refl, (refl, (refl, (refl, tt))))

pps_no : (block : Option Block) → Each NoDcn (pps_items block)
pps_no None = tt
pps_no (Some block) = (refl, tt)

-- what holds after a station has spoken: it has said no DCN, or has ended
abbrev pub Spoken : Side → Option End → List PlainSaid → Type 0
Spoken side ending after = (ending ≡ None → ended_said side false after ≡ false) × Keeps Ended after

plain_turn : (side : Side) (outcome : Outcome) (ending : Option End) (items : List PlainItem) (before : List PlainSaid) → Each NoDcn items →
    ended_said side false before ≡ false → Keeps Ended before → Spoken side ending (and_said side (sent outcome items) before)
plain_turn side outcome ending items before plain h keeps =
    let both = no_dcn_keeps side (sent outcome items) before (sent_each NoDcn outcome items plain) h keeps in ((λ is. both.0), both.1)

-- the caller speaks while it runs
caller_turn : (c next : Caller) (input : CallerInput) (t : Turn) (outcome : Outcome) (before : List PlainSaid) → CallerSends c input next t →
    ended_said CallerSide false before ≡ false → Keeps Ended before →
    Spoken CallerSide next.ending (and_said CallerSide (sent outcome (caller_items next t)) before)
caller_turn c next input turn.Dcn outcome before means h keeps =
    ((λ is. absurd (ended_some means.1 is)), dcn_keeps CallerSide outcome before h keeps)
  where
    ended_some : {e : Option End} {why : End} → e ≡ Some why → e ≡ None → ⊥
    ended_some is none = cc
caller_turn c next input turn.Silent outcome before means h keeps = plain_turn CallerSide outcome next.ending [] before tt h keeps
caller_turn c next input turn.Training outcome before means h keeps =
    plain_turn CallerSide outcome next.ending _ before (training_no next.state next.params) h keeps
caller_turn c next input (turn.Burst marks) outcome before means h keeps =
    plain_turn CallerSide outcome next.ending _ before (burst_no marks (present_block next)) h keeps
caller_turn c next input turn.Pps outcome before means h keeps =
    plain_turn CallerSide outcome next.ending _ before (pps_no (present_block next)) h keeps
caller_turn c next input turn.Rr outcome before means h keeps =
    plain_turn CallerSide outcome next.ending (framed rr ∷ []) before (refl, tt) h keeps
caller_turn c next input turn.Dis outcome before means h keeps = absurd means
caller_turn c next input turn.Cfr outcome before means h keeps = absurd means
caller_turn c next input turn.Ftt outcome before means h keeps = absurd means
caller_turn c next input turn.Mcf outcome before means h keeps = absurd means
caller_turn c next input (turn.Ppr marks) outcome before means h keeps = absurd means
caller_turn c next input turn.Rnr outcome before means h keeps = absurd means

-- the answerer speaks while it runs
answerer_turn : (s next : Answerer) (t : Turn) (outcome : Outcome) (before : List PlainSaid) → AnswererSends s next t →
    ended_said AnswererSide false before ≡ false → Keeps Ended before →
    Spoken AnswererSide next.ending (and_said AnswererSide (sent outcome (answerer_items next t)) before)
answerer_turn s next turn.Dcn outcome before means h keeps =
    ((λ is. absurd (ended_some means is)), dcn_keeps AnswererSide outcome before h keeps)
  where
    ended_some : {e : Option End} {why : End} → e ≡ Some why → e ≡ None → ⊥
    ended_some is none = cc
answerer_turn s next turn.Silent outcome before means h keeps = plain_turn AnswererSide outcome next.ending [] before tt h keeps
answerer_turn s next turn.Dis outcome before means h keeps =
    plain_turn AnswererSide outcome next.ending (framed (dis next.caps) ∷ []) before (refl, tt) h keeps
answerer_turn s next turn.Cfr outcome before means h keeps = plain_turn AnswererSide outcome next.ending (framed cfr ∷ []) before (refl, tt) h keeps
answerer_turn s next turn.Ftt outcome before means h keeps = plain_turn AnswererSide outcome next.ending (framed ftt ∷ []) before (refl, tt) h keeps
answerer_turn s next turn.Mcf outcome before means h keeps = plain_turn AnswererSide outcome next.ending (framed mcf ∷ []) before (refl, tt) h keeps
answerer_turn s next (turn.Ppr marks) outcome before means h keeps =
    plain_turn AnswererSide outcome next.ending (framed (ppr marks) ∷ []) before (refl, tt) h keeps
answerer_turn s next turn.Rnr outcome before means h keeps = plain_turn AnswererSide outcome next.ending (framed rnr ∷ []) before (refl, tt) h keeps
answerer_turn s next turn.Training outcome before means h keeps = absurd means
answerer_turn s next (turn.Burst marks) outcome before means h keeps = absurd means
answerer_turn s next turn.Pps outcome before means h keeps = absurd means
answerer_turn s next turn.Rr outcome before means h keeps = absurd means

-- ---- one step

pub sent_none : (outcome : Outcome) → sent outcome [] ≡ []
sent_none Done = refl
sent_none Nothing = refl
sent_none InputLost = refl
sent_none (Cut zero) = refl
sent_none (Cut (suc made)) = refl

caller_quiet : CallersTurnsMean → (c : Caller) (others : Option End) (outcome : Outcome) (input : CallerInput) (before : List PlainSaid) →
    Quiet c.ending others before → Quiet (caller_step c input).next.ending others (caller_speaks c outcome input before)
caller_quiet means c others outcome input before h = at c.ending refl
  where
    at : (e : Option End) → c.ending ≡ e → Quiet (caller_step c input).next.ending others (caller_speaks c outcome input before)
    at None is =
        let spoken = caller_turn c (caller_step c input).next input (caller_step c input).turn outcome before (means c input is) (h.caller is) h.keeps in
        record {
          caller = spoken.0;
          answerer = λ none. other_kept CallerSide (sent outcome (caller_items (caller_step c input).next (caller_step c input).turn)) before (h.answerer none);
          keeps = spoken.1;
        }
    at (Some why) is =
        let still : caller_step c input ≡ record { next = c; turn = turn.Silent } = ap (λ e. unless_caller_ended e input c) is in
        let kept : Quiet c.ending others (and_said CallerSide (sent outcome []) before) = rw (sent_none outcome) h in
        rw still kept

answerer_quiet : AnswerersTurnsMean → (s : Answerer) (others : Option End) (outcome : Outcome) (input : AnswererInput) (before : List PlainSaid) →
    Quiet others s.ending before → Quiet others (answerer_step s input).next.ending (answerer_speaks s outcome input before)
answerer_quiet means s others outcome input before h = at s.ending refl
  where
    at : (e : Option End) → s.ending ≡ e → Quiet others (answerer_step s input).next.ending (answerer_speaks s outcome input before)
    at None is =
        let spoken = answerer_turn s (answerer_step s input).next (answerer_step s input).turn outcome before (means s input is) (h.answerer is) h.keeps in
        record {
          caller = λ none. other_kept AnswererSide (sent outcome (answerer_items (answerer_step s input).next (answerer_step s input).turn)) before (h.caller none);
          answerer = spoken.0;
          keeps = spoken.1;
        }
    at (Some why) is =
        let still : answerer_step s input ≡ record { next = s; turn = turn.Silent } = ap (λ e. unless_answerer_ended e input s) is in
        let kept : Quiet others s.ending (and_said AnswererSide (sent outcome []) before) = rw (sent_none outcome) h in
        rw still kept

-- ---- one event

pub caller_sends_are : (t : Turn) (w : World) (next : Caller) (items : List PlainItem) →
    ((caller_sends t w next items).caller ≡ next) × ((caller_sends t w next items).answerer ≡ w.answerer)
caller_sends_are turn.Silent w next items = (refl, refl)
caller_sends_are turn.Dis w next items = (refl, refl)
caller_sends_are turn.Training w next items = (refl, refl)
caller_sends_are turn.Cfr w next items = (refl, refl)
caller_sends_are turn.Ftt w next items = (refl, refl)
caller_sends_are (turn.Burst marks) w next items = (refl, refl)
caller_sends_are turn.Pps w next items = (refl, refl)
caller_sends_are turn.Mcf w next items = (refl, refl)
caller_sends_are (turn.Ppr marks) w next items = (refl, refl)
caller_sends_are turn.Rnr w next items = (refl, refl)
caller_sends_are turn.Rr w next items = (refl, refl)
caller_sends_are turn.Dcn w next items = (refl, refl)

pub answerer_sends_are : (t : Turn) (w : World) (next : Answerer) (items : List PlainItem) →
    ((answerer_sends t w next items).caller ≡ w.caller) × ((answerer_sends t w next items).answerer ≡ next)
answerer_sends_are turn.Silent w next items = (refl, refl)
answerer_sends_are turn.Dis w next items = (refl, refl)
answerer_sends_are turn.Training w next items = (refl, refl)
answerer_sends_are turn.Cfr w next items = (refl, refl)
answerer_sends_are turn.Ftt w next items = (refl, refl)
answerer_sends_are (turn.Burst marks) w next items = (refl, refl)
answerer_sends_are turn.Pps w next items = (refl, refl)
answerer_sends_are turn.Mcf w next items = (refl, refl)
answerer_sends_are (turn.Ppr marks) w next items = (refl, refl)
answerer_sends_are turn.Rnr w next items = (refl, refl)
answerer_sends_are turn.Rr w next items = (refl, refl)
answerer_sends_are turn.Dcn w next items = (refl, refl)

abbrev pub QuietWorld : World → List PlainSaid → Type 0
QuietWorld w before = Quiet w.caller.ending w.answerer.ending before

-- what both stations promise of their turns
abbrev pub Means : Type 0
Means = CallersTurnsMean × AnswerersTurnsMean

caller_event : Means → (w : World) (outcome : Outcome) (input : CallerInput) (before : List PlainSaid) → QuietWorld w before →
    QuietWorld (caller_acts w outcome input) (caller_speaks w.caller outcome input before)
caller_event means w outcome input before h =
    let answer = caller_step w.caller input in
    let are = caller_sends_are answer.turn w answer.next (sent outcome (caller_items answer.next answer.turn)) in
    rw (are.0, are.1) (caller_quiet means.0 w.caller w.answerer.ending outcome input before h)

answerer_event : Means → (w : World) (outcome : Outcome) (input : AnswererInput) (before : List PlainSaid) → QuietWorld w before →
    QuietWorld (answerer_acts w outcome input) (answerer_speaks w.answerer outcome input before)
answerer_event means w outcome input before h =
    let answer = answerer_step w.answerer input in
    let are = answerer_sends_are answer.turn w answer.next (sent outcome (answerer_items answer.next answer.turn)) in
    rw (are.0, are.1) (answerer_quiet means.1 w.answerer w.caller.ending outcome input before h)

quiet_parts : Means → PartsKeep QuietWorld NoFact Any
quiet_parts means = record {
  caller = λ w rest outcome input before fine f after is h. caller_event means (record w { to_caller = rest }) outcome input before h;
  answerer = λ w rest outcome input before fine f after is h. answerer_event means (record w { to_answerer = rest }) outcome input before h;
  lost_to_caller = λ w item rest before is h. h;
  lost_to_answerer = λ w item rest before is h. h;
  spoil = λ w before h. h;
}

-- the law
pub silent_after_dcn : Means → RuleIsKept Ended
silent_after_dcn means document wish caps steps =
    (run_keeps QuietWorld NoFact Any (quiet_parts means) steps (new_world document wish caps)
    (record { by = AnswererSide; signal = dis caps } ∷ []) (all_any steps) (λ more. tt)
    (record { caller = λ none. refl; answerer = λ none. refl; keeps = (refl, tt) })).keeps

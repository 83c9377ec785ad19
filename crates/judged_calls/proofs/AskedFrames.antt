-- A burst that answers a PPR has no frame that isn't asked for: rule NotAskedFor.
use Rattle.std.proofs.Common.{◌≡◌, ℕ, suc, Bool, true, false, ◌||◌, List, [], ◌∷◌, refl, sym, ap, subst, ◌∙◌}
use Rattle.std.specs.Prelude.{Option, Some, None, not}
use Rattle.signals.specs.Signals.{PlainSignal, dis, dcs, cfr, ftt, fcd, rcp, pps, ppr, mcf, rnr, rr, dcn, other}
use Rattle.signals.specs.declared.params.Params.{Params}
use Rattle.signals.specs.declared.signal.Side.TheVariants.{Caller as CallerSide, Answerer as AnswererSide}
use Rattle.partial_page.specs.Store.{bit_of}
use Rattle.stations.specs.AnswererStep.{Answerer, answerer_step, answerer_items}
use Rattle.stations.specs.Blocks.{Block}
use Rattle.stations.specs.CallerStep.{Caller, caller_step, caller_items, training_items, fcds, pps_of, burst_of, pps_items, present_block}
use Rattle.stations.specs.Inputs.{CallerInput, PlainItem, framed, checked, hears}
use Rattle.stations.specs.Laws.{Each}
use Rattle.stations.specs.declared.turn.CallerState.{CallerState}
use Rattle.stations.specs.declared.turn.CallerState.TheVariants.{WaitDis, WaitCfr, WaitBlock, WaitReady}
use Rattle.stations.specs.declared.turn.Turn.{Turn}
use Rattle.stations.specs.declared.turn.Turn.TheVariants as turn
use Rattle.line_sim.proofs.Lists.{either}
use Rattle.line_sim.specs.Headline.{LineHolds}
use Rattle.line_sim.specs.Line.{World, Outcome, sent, new_world}
use Rattle.line_sim.specs.LineFacts.{LineFacts}
use Rattle.referee.specs.History.{PlainSaid, look}
use Rattle.referee.specs.Questions.{tell}
use Rattle.referee.specs.declared.question.Question.TheVariants.{Unasked}
use Rattle.referee.specs.declared.rule.Rule.TheVariants.{NotAskedFor}
use Rattle.judged_calls.proofs.Events.{PartsKeep, Any, all_any, run_keeps, caller_takes}
use Rattle.judged_calls.proofs.Latest.{says, Latest, LetsBurst, BurstFits, Heard, step_bursts, latest_answered, latest_called}
use Rattle.judged_calls.proofs.OwnSignals.{each_append, sent_each}
use Rattle.judged_calls.proofs.PprsAsk.{OfCaller}
use Rattle.judged_calls.specs.SaidCalls.{and_said, Keeps, RuleIsKeptOfPages}

-- ---- a burst

-- the frames that are marked may be sent
abbrev pub Allows : List ℕ → List PlainSaid → Type 0
Allows marks before = (n : ℕ) → bit_of marks n ≡ true → (begun : Bool) → look (tell (Unasked n)) begun before ≡ false

-- an item of the caller, and a marked frame if it is one
abbrev pub IsMarked : List ℕ → PlainItem → Type 0
IsMarked marks (framed (fcd number octets)) = bit_of marks number ≡ true
IsMarked marks item = OfCaller item

marked_keeps : (marks : List ℕ) (signal : PlainSignal) (before : List PlainSaid) → IsMarked marks (framed signal) →
    Allows marks before × Keeps NotAskedFor before →
    Allows marks (record { by = CallerSide; signal = signal } ∷ before) × Keeps NotAskedFor (record { by = CallerSide; signal = signal } ∷ before)
marked_keeps marks (fcd number octets) before is h = (λ n bit begun. h.0 n bit (begun || true), (h.0 number is false, h.1))
marked_keeps marks (dcs params) before is h = (λ n bit begun. refl, (refl, h.1))
marked_keeps marks rcp before is h = (λ n bit begun. h.0 n bit (begun || false), (refl, h.1))
marked_keeps marks (pps ends page block last) before is h = (λ n bit begun. refl, (refl, h.1))
marked_keeps marks rr before is h = (λ n bit begun. refl, (refl, h.1))
marked_keeps marks dcn before is h = (λ n bit begun. refl, (refl, h.1))
marked_keeps marks signal before is h = absurd is

fcds_marked : (marks : List ℕ) (number : ℕ) (frames : List (List ℕ)) → Each (IsMarked marks) (fcds marks number frames)
fcds_marked marks number [] = tt
fcds_marked marks number (octets ∷ frames) =
    either (Each (IsMarked marks)) (bit_of marks number) _ _ (λ bit. (bit, fcds_marked marks (suc number) frames))
    (λ bit. fcds_marked marks (suc number) frames)

burst_marked : (marks : List ℕ) (block : Option Block) → Each (IsMarked marks) (burst_of marks block)
burst_marked marks None = tt
burst_marked marks (Some block) =
    each_append (IsMarked marks) (fcds marks 0 block.frames) (framed rcp ∷ framed rcp ∷ framed rcp ∷ pps_of block ∷ [])
    (fcds_marked marks 0 block.frames) (tt, (tt, (tt, (tt, tt))))

-- ---- another turn

-- an item of the caller that is no frame of a block
abbrev pub NoFrame : PlainItem → Type 0
NoFrame (framed (fcd number octets)) = ⊥
NoFrame item = OfCaller item

plain_keeps : (signal : PlainSignal) (before : List PlainSaid) → NoFrame (framed signal) → Keeps NotAskedFor before →
    Keeps NotAskedFor (record { by = CallerSide; signal = signal } ∷ before)
plain_keeps (dcs params) before is h = (refl, h)
plain_keeps rcp before is h = (refl, h)
plain_keeps (pps ends page block last) before is h = (refl, h)
plain_keeps rr before is h = (refl, h)
plain_keeps dcn before is h = (refl, h)
plain_keeps signal before is h = absurd is

training_plain : (state : CallerState) (params : Params) → Each NoFrame (training_items state params)
training_plain WaitDis params = tt
training_plain WaitCfr params = (tt, (tt, tt))
training_plain WaitBlock params = (tt, (tt, tt))
training_plain WaitReady params = (tt, (tt, tt))

pps_plain : (block : Option Block) → Each NoFrame (pps_items block)
pps_plain None = tt
pps_plain (Some block) = (tt, tt)

allowed_by : (input : CallerInput) (marks : List ℕ) (before : List PlainSaid) → LetsBurst input marks → Heard before input → Allows marks before
allowed_by (hears (ppr others)) marks before lets h n bit begun =
    h.unasked n begun ∙ ap not (subst (λ m. bit_of m n ≡ true) (sym lets) bit)
allowed_by (hears cfr) marks before lets h n bit begun = h.unasked n begun
allowed_by (hears mcf) marks before lets h n bit begun = h.unasked n begun
allowed_by input marks before lets h n bit begun = absurd lets

turn_keeps : (t : Turn) (next : Caller) (input : CallerInput) (outcome : Outcome) (before : List PlainSaid) → BurstFits input t →
    Heard before input → Keeps NotAskedFor before → Keeps NotAskedFor (and_said CallerSide (sent outcome (caller_items next t)) before)
turn_keeps (turn.Burst marks) next input outcome before fits heard h =
    (says CallerSide (λ said. Allows marks said × Keeps NotAskedFor said) (IsMarked marks) (marked_keeps marks) _ before
    (sent_each (IsMarked marks) outcome _ (burst_marked marks (present_block next))) (allowed_by input marks before fits heard, h)).1
turn_keeps turn.Training next input outcome before fits heard h =
    says CallerSide (Keeps NotAskedFor) NoFrame plain_keeps _ before (sent_each NoFrame outcome _ (training_plain next.state next.params)) h
turn_keeps turn.Pps next input outcome before fits heard h =
    says CallerSide (Keeps NotAskedFor) NoFrame plain_keeps _ before (sent_each NoFrame outcome _ (pps_plain (present_block next))) h
turn_keeps turn.Rr next input outcome before fits heard h =
    says CallerSide (Keeps NotAskedFor) NoFrame plain_keeps (sent outcome (framed rr ∷ [])) before
    (sent_each NoFrame outcome (framed rr ∷ []) (tt, tt)) h
turn_keeps turn.Dcn next input outcome before fits heard h =
    says CallerSide (Keeps NotAskedFor) NoFrame plain_keeps (sent outcome (framed dcn ∷ [])) before
    (sent_each NoFrame outcome (framed dcn ∷ []) (tt, tt)) h
turn_keeps t next input outcome before fits heard h =
    says CallerSide (Keeps NotAskedFor) NoFrame plain_keeps (sent outcome []) before (sent_each NoFrame outcome [] tt) h

-- ---- an answer

-- an item of the answerer
abbrev pub OfAnswerer : PlainItem → Type 0
OfAnswerer (framed (dcs params)) = ⊥
OfAnswerer (framed (fcd number octets)) = ⊥
OfAnswerer (framed rcp) = ⊥
OfAnswerer (framed (pps ends page block last)) = ⊥
OfAnswerer (framed rr) = ⊥
OfAnswerer (framed (other octet)) = ⊥
OfAnswerer (checked octets) = ⊥
OfAnswerer _ = Unit {0}

pub answerer_is : (s : Answerer) (t : Turn) → Each OfAnswerer (answerer_items s t)
answerer_is s turn.Dis = (tt, tt)
answerer_is s turn.Cfr = (tt, tt)
answerer_is s turn.Ftt = (tt, tt)
answerer_is s turn.Mcf = (tt, tt)
answerer_is s (turn.Ppr marks) = (tt, tt)
answerer_is s turn.Rnr = (tt, tt)
answerer_is s turn.Dcn = (tt, tt)
answerer_is s t = tt

answer_keeps : (signal : PlainSignal) (before : List PlainSaid) → OfAnswerer (framed signal) → Keeps NotAskedFor before →
    Keeps NotAskedFor (record { by = AnswererSide; signal = signal } ∷ before)
answer_keeps (dis caps) before is h = (refl, h)
answer_keeps cfr before is h = (refl, h)
answer_keeps ftt before is h = (refl, h)
answer_keeps mcf before is h = (refl, h)
answer_keeps (ppr marks) before is h = (refl, h)
answer_keeps rnr before is h = (refl, h)
answer_keeps dcn before is h = (refl, h)
answer_keeps signal before is h = absurd is

-- ---- a world and what was said in it

pub record Asked (w : World) (before : List PlainSaid) : Type 0 where
  pub latest : Each (Latest before) w.to_caller
  pub keeps : Keeps NotAskedFor before

parts_keep : PartsKeep Asked LineFacts Any
parts_keep = record {
  caller = λ w rest outcome input before fine f after is h.
      let answer = caller_step w.caller input in
      let taken = caller_takes (Latest before) input w.to_caller rest is h.latest in
      record {
        latest = latest_called answer.turn (record w { to_caller = rest }) answer.next outcome before taken.1;
        keeps = turn_keeps answer.turn answer.next input outcome before (step_bursts w.caller input) taken.0 h.keeps;
      };
  answerer = λ w rest outcome input before fine f after is h.
      let answer = answerer_step w.answerer input in
      record {
        latest = latest_answered answer.turn (record w { to_answerer = rest }) answer.next outcome before after.only_dis h.latest;
        keeps = says AnswererSide (Keeps NotAskedFor) OfAnswerer answer_keeps _ before
            (sent_each OfAnswerer outcome _ (answerer_is answer.next answer.turn)) h.keeps;
      };
  lost_to_caller = λ w item rest before is h. record { latest = (subst (Each (Latest before)) is h.latest).1; keeps = h.keeps };
  lost_to_answerer = λ w item rest before is h. record { latest = h.latest; keeps = h.keeps };
  spoil = λ w before h. record { latest = h.latest; keeps = h.keeps };
}

-- the law
pub sends_what_is_asked : LineHolds → RuleIsKeptOfPages NotAskedFor
sends_what_is_asked holds_facts document wish caps steps full =
    (run_keeps Asked LineFacts Any parts_keep steps (new_world document wish caps) (record { by = AnswererSide; signal = dis caps } ∷ [])
    (all_any steps) (λ more. holds_facts document wish caps more full) (record { latest = (tt, tt); keeps = (refl, tt) })).keeps

-- A burst begins only once CFR, PPR or MCF lets it, and its numbers rise: rules NoBurst and OutOfOrder.
use Rattle.std.proofs.Common.{◌≡◌, ℕ, zero, suc, ◌≤◌, Bool, true, false, cond, ◌&&◌, ◌||◌, List, [], ◌∷◌, ◌++◌, take, refl, ap, subst, ◌∙◌, ◌⊎◌, inl, inr, arith, rules}
use Rattle.std.specs.Prelude.{Option, Some, None, unwrap_or, not, nat_le}
use Rattle.signals.specs.Signals.{PlainSignal, dis, dcs, cfr, ftt, fcd, rcp, pps, ppr, mcf, rnr, rr, dcn, other}
use Rattle.signals.specs.declared.params.Caps.{Caps}
use Rattle.signals.specs.declared.params.Params.{Params}
use Rattle.signals.specs.declared.params.Wish.{Wish}
use Rattle.signals.specs.declared.signal.Side.{Side}
use Rattle.signals.specs.declared.signal.Side.TheVariants.{Caller as CallerSide, Answerer as AnswererSide}
use Rattle.partial_page.specs.Store.{bit_of}
use Rattle.stations.specs.Blocks.{Block}
use Rattle.stations.specs.Inputs.{CallerInput, AnswererInput, PlainItem, framed, checked, timeout, t5, hears}
use Rattle.stations.specs.Laws.{Each}
use Rattle.stations.specs.Layers.{Document, IsFullPage}
use Rattle.stations.specs.CallerStep.{Caller, caller_step, caller_items, unless_caller_ended, training_items, fcds}
use Rattle.stations.specs.CallerStep.{all_frames, pps_of, burst_of, pps_items, present_block}
use Rattle.stations.specs.AnswererStep.{Answerer, answerer_step, answerer_items}
use Rattle.stations.specs.TurnsMean.{CallersTurnsMean, CallerSends}
use Rattle.stations.specs.declared.turn.CallerState.{CallerState}
use Rattle.stations.specs.declared.turn.CallerState.TheVariants.{WaitDis, WaitCfr, WaitBlock, WaitReady}
use Rattle.stations.specs.declared.turn.End.{End}
use Rattle.stations.specs.declared.turn.Turn.{Turn}
use Rattle.stations.specs.declared.turn.Turn.TheVariants as turn
use Rattle.line_sim.specs.Headline.{LineHolds}
use Rattle.line_sim.specs.Line.{World, Outcome, Done, Nothing, InputLost, Cut, sent, new_world, caller_sends, answerer_sends}
use Rattle.line_sim.specs.Line.{caller_acts, answerer_acts}
use Rattle.line_sim.specs.LineFacts.{LineFacts}
use Rattle.line_sim.specs.declared.event.Event.{Event}
use Rattle.referee.specs.History.{PlainSaid, look, is_fcd}
use Rattle.referee.specs.Questions.{tell, of_caller, unless_dcn, is_dcs, asks_for_answer, is_not_below}
use Rattle.referee.specs.Rules.{is_no_burst, is_out_of_order}
use Rattle.referee.specs.Frames.{asked}
use Rattle.referee.specs.declared.question.Question.{Question}
use Rattle.referee.specs.declared.question.Question.TheVariants.{IsAsked, IsTraining, Begins, GoesOn, NotBelow}
use Rattle.referee.specs.declared.rule.Rule.TheVariants.{NoBurst, OutOfOrder}
use Rattle.judged_calls.proofs.Answered.{Yes, TellsYes, yes_later, never, Answers, Answered, Commanded, Given, step_so, given_input, answered_parts, answered_first}
use Rattle.judged_calls.proofs.OwnSignals.{each_append, each_take, sent_each}
use Rattle.judged_calls.proofs.AfterDcn.{sent_none}
use Rattle.judged_calls.proofs.Events.{KnownToCaller, caller_takes, answerer_takes, each_rest, PartsKeep, run_keeps, Any, all_any}
use Rattle.judged_calls.proofs.Bools.{and_false}
use Rattle.judged_calls.specs.SaidCalls.{and_said, caller_speaks, answerer_speaks, call_said, Keeps, RuleIsKeptOfPages}

-- ---- the caller's last frame is its command

-- what was said answers a question by no, whether or not an FCD came since
abbrev pub No : Question → List PlainSaid → Type 0
No question before = (begun : Bool) → look (tell question) begun before ≡ false

-- after a DCS, and perhaps DCN, no FCD is the caller's last frame
dcs_last : (n : ℕ) (before : List PlainSaid) (a b : Bool) → look (tell IsTraining) a before ≡ true → look (tell (NotBelow n)) b before ≡ false
dcs_last n [] a b h = absurd (never h)
dcs_last n (said ∷ before) a b h = at said.by said.signal (dcs_last n before) h
  where
    at : (side : Side) (signal : PlainSignal) →
        ((c d : Bool) → look (tell IsTraining) c before ≡ true → look (tell (NotBelow n)) d before ≡ false) →
        unwrap_or (of_caller side (unless_dcn signal (is_dcs signal))) (look (tell IsTraining) (a || is_fcd signal) before) ≡ true →
        unwrap_or (of_caller side (Some (is_not_below n signal))) (look (tell (NotBelow n)) (b || is_fcd signal) before) ≡ false
    at AnswererSide signal ih k = ih (a || is_fcd signal) (b || is_fcd signal) k
    at CallerSide (dis caps) ih k = refl
    at CallerSide (dcs params) ih k = refl
    at CallerSide cfr ih k = refl
    at CallerSide ftt ih k = refl
    at CallerSide (fcd number octets) ih k = absurd (never k)
    at CallerSide rcp ih k = refl
    at CallerSide (pps ends page block last) ih k = refl
    at CallerSide (ppr marks) ih k = refl
    at CallerSide mcf ih k = refl
    at CallerSide rnr ih k = refl
    at CallerSide rr ih k = refl
    at CallerSide dcn ih k = refl
    at CallerSide (other octet) ih k = refl

-- after a PPS or an RR, and perhaps DCN, no FCD is the caller's last frame
command_last : (n : ℕ) (before : List PlainSaid) (a b : Bool) → look (tell IsAsked) a before ≡ true → look (tell (NotBelow n)) b before ≡ false
command_last n [] a b h = absurd (never h)
command_last n (said ∷ before) a b h = at said.by said.signal (command_last n before) h
  where
    at : (side : Side) (signal : PlainSignal) →
        ((c d : Bool) → look (tell IsAsked) c before ≡ true → look (tell (NotBelow n)) d before ≡ false) →
        unwrap_or (of_caller side (unless_dcn signal (asks_for_answer signal))) (look (tell IsAsked) (a || is_fcd signal) before) ≡ true →
        unwrap_or (of_caller side (Some (is_not_below n signal))) (look (tell (NotBelow n)) (b || is_fcd signal) before) ≡ false
    at AnswererSide signal ih k = ih (a || is_fcd signal) (b || is_fcd signal) k
    at CallerSide (dis caps) ih k = refl
    at CallerSide (dcs params) ih k = refl
    at CallerSide cfr ih k = refl
    at CallerSide ftt ih k = refl
    at CallerSide (fcd number octets) ih k = absurd (never k)
    at CallerSide rcp ih k = refl
    at CallerSide (pps ends page block last) ih k = refl
    at CallerSide (ppr marks) ih k = refl
    at CallerSide mcf ih k = refl
    at CallerSide rnr ih k = refl
    at CallerSide rr ih k = refl
    at CallerSide dcn ih k = refl
    at CallerSide (other octet) ih k = refl

-- ---- what is under way to the caller

-- a burst may begin: an answer lets it, and the caller's last frame is no FCD
abbrev pub Lets : List PlainSaid → Type 0
Lets before = Yes Begins before × ((n : ℕ) → No (NotBelow n) before)

-- an answer under way lets a burst begin
abbrev pub Begun : List PlainSaid → PlainItem → Type 0
Begun before (framed cfr) = Lets before
Begun before (framed (ppr marks)) = Lets before
Begun before (framed mcf) = Lets before
Begun before _ = Unit {0}

-- a burst may begin as before after a frame of the answerer that tells nothing of it, or lets it begin
lets_later : (items : List PlainItem) (before : List PlainSaid) → Each (TellsYes AnswererSide Begins) items → Lets before → Lets (and_said AnswererSide items before)
lets_later items before own h = (yes_later AnswererSide Begins items before own h.0, λ n. no_later n items before (h.1 n))
  where
    no_later : (n : ℕ) (xs : List PlainItem) (earlier : List PlainSaid) → No (NotBelow n) earlier → No (NotBelow n) (and_said AnswererSide xs earlier)
    no_later n [] earlier k = k
    no_later n (framed signal ∷ xs) earlier k = no_later n xs (record { by = AnswererSide; signal = signal } ∷ earlier) (λ begun. k (begun || is_fcd signal))
    no_later n (checked octets ∷ xs) earlier k = no_later n xs earlier k

begun_later : (items xs : List PlainItem) (before : List PlainSaid) → Each (TellsYes AnswererSide Begins) items → Each (Begun before) xs →
    Each (Begun (and_said AnswererSide items before)) xs
begun_later items [] before own h = tt
begun_later items (framed (dis caps) ∷ xs) before own h = (tt, begun_later items xs before own h.1)
begun_later items (framed (dcs params) ∷ xs) before own h = (tt, begun_later items xs before own h.1)
begun_later items (framed cfr ∷ xs) before own h = (lets_later items before own h.0, begun_later items xs before own h.1)
begun_later items (framed ftt ∷ xs) before own h = (tt, begun_later items xs before own h.1)
begun_later items (framed (fcd number octets) ∷ xs) before own h = (tt, begun_later items xs before own h.1)
begun_later items (framed rcp ∷ xs) before own h = (tt, begun_later items xs before own h.1)
begun_later items (framed (pps ends page block last) ∷ xs) before own h = (tt, begun_later items xs before own h.1)
begun_later items (framed (ppr marks) ∷ xs) before own h = (lets_later items before own h.0, begun_later items xs before own h.1)
begun_later items (framed mcf ∷ xs) before own h = (lets_later items before own h.0, begun_later items xs before own h.1)
begun_later items (framed rnr ∷ xs) before own h = (tt, begun_later items xs before own h.1)
begun_later items (framed rr ∷ xs) before own h = (tt, begun_later items xs before own h.1)
begun_later items (framed dcn ∷ xs) before own h = (tt, begun_later items xs before own h.1)
begun_later items (framed (other octet) ∷ xs) before own h = (tt, begun_later items xs before own h.1)
begun_later items (checked octets ∷ xs) before own h = (tt, begun_later items xs before own h.1)

-- ---- what the caller says

-- both rules hold of all that was said
abbrev pub Both : List PlainSaid → Type 0
Both before = Keeps NoBurst before × Keeps OutOfOrder before

-- an item is no FCD
abbrev pub NoFcd : PlainItem → Type 0
NoFcd (framed signal) = (before : List PlainSaid) → (is_no_burst signal before ≡ false) × (is_out_of_order signal before ≡ false)
NoFcd (checked octets) = Unit {0}

plain_keeps : (items : List PlainItem) (before : List PlainSaid) → Each NoFcd items → Both before → Both (and_said CallerSide items before)
plain_keeps [] before plain h = h
plain_keeps (framed signal ∷ items) before plain h =
    let is = plain.0 before in
    plain_keeps items (record { by = CallerSide; signal = signal } ∷ before) plain.1 ((is.0, h.0), (is.1, h.1))
plain_keeps (checked octets ∷ items) before plain h = plain_keeps items before plain.1 h

-- the numbers of FCDs rise from one on, and after another item none comes
abbrev pub Rises : ℕ → List PlainItem → Type 0
Rises low [] = Unit {0}
Rises low (framed (fcd number octets) ∷ items) = (low ≤ number) × Rises (suc number) items
Rises low (item ∷ items) = Each NoFcd (item ∷ items)

-- the next FCD of a burst may have a number, or a higher one
pub record Next (low : ℕ) (before : List PlainSaid) : Type 0 where
  pub lets : Yes Begins before ⊎ Yes GoesOn before
  pub above : (n : ℕ) → low ≤ n → No (NotBelow n) before

lets_burst : (before : List PlainSaid) → Yes Begins before ⊎ Yes GoesOn before → (not (asked GoesOn before) && not (asked Begins before)) ≡ false
lets_burst before (inl begins) = ap (λ b. not (asked GoesOn before) && not b) (begins false) ∙ and_false (not (asked GoesOn before))
lets_burst before (inr goes_on) = ap (λ b. not b && not (asked Begins before)) (goes_on false)

not_below : (m n : ℕ) → suc n ≤ m → nat_le m n ≡ false
not_below m n h = search rules

after_fcd : (number : ℕ) (octets : List ℕ) (before : List PlainSaid) → Next (suc number) (record { by = CallerSide; signal = fcd number octets } ∷ before)
after_fcd number octets before = record { lets = inr (λ begun. refl); above = λ n up begun. not_below n number up }

burst_keeps : (low : ℕ) (items : List PlainItem) (before : List PlainSaid) → Rises low items → Next low before → Both before →
    Both (and_said CallerSide items before)
burst_keeps low [] before rise next h = h
burst_keeps low (framed (fcd number octets) ∷ items) before rise next h =
    burst_keeps (suc number) items (record { by = CallerSide; signal = fcd number octets } ∷ before) rise.1 (after_fcd number octets before)
    ((lets_burst before next.lets, h.0), (next.above number rise.0 false, h.1))
burst_keeps low (framed (dis caps) ∷ items) before rise next h = plain_keeps (framed (dis caps) ∷ items) before rise h
burst_keeps low (framed (dcs params) ∷ items) before rise next h = plain_keeps (framed (dcs params) ∷ items) before rise h
burst_keeps low (framed cfr ∷ items) before rise next h = plain_keeps (framed cfr ∷ items) before rise h
burst_keeps low (framed ftt ∷ items) before rise next h = plain_keeps (framed ftt ∷ items) before rise h
burst_keeps low (framed rcp ∷ items) before rise next h = plain_keeps (framed rcp ∷ items) before rise h
burst_keeps low (framed (pps ends page block last) ∷ items) before rise next h = plain_keeps (framed (pps ends page block last) ∷ items) before rise h
burst_keeps low (framed (ppr marks) ∷ items) before rise next h = plain_keeps (framed (ppr marks) ∷ items) before rise h
burst_keeps low (framed mcf ∷ items) before rise next h = plain_keeps (framed mcf ∷ items) before rise h
burst_keeps low (framed rnr ∷ items) before rise next h = plain_keeps (framed rnr ∷ items) before rise h
burst_keeps low (framed rr ∷ items) before rise next h = plain_keeps (framed rr ∷ items) before rise h
burst_keeps low (framed dcn ∷ items) before rise next h = plain_keeps (framed dcn ∷ items) before rise h
burst_keeps low (framed (other octet) ∷ items) before rise next h = plain_keeps (framed (other octet) ∷ items) before rise h
burst_keeps low (checked octets ∷ items) before rise next h = plain_keeps (checked octets ∷ items) before rise h

-- the first items of a burst rise too
cut_rises : (made low : ℕ) (items : List PlainItem) → Rises low items → Rises low (take made items)
cut_rises zero low items h = tt
cut_rises (suc made) low [] h = tt
cut_rises (suc made) low (framed (fcd number octets) ∷ items) h = (h.0, cut_rises made (suc number) items h.1)
cut_rises (suc made) low (framed (dis caps) ∷ items) h = (h.0, each_take NoFcd made items h.1)
cut_rises (suc made) low (framed (dcs params) ∷ items) h = (h.0, each_take NoFcd made items h.1)
cut_rises (suc made) low (framed cfr ∷ items) h = (h.0, each_take NoFcd made items h.1)
cut_rises (suc made) low (framed ftt ∷ items) h = (h.0, each_take NoFcd made items h.1)
cut_rises (suc made) low (framed rcp ∷ items) h = (h.0, each_take NoFcd made items h.1)
cut_rises (suc made) low (framed (pps ends page block last) ∷ items) h = (h.0, each_take NoFcd made items h.1)
cut_rises (suc made) low (framed (ppr marks) ∷ items) h = (h.0, each_take NoFcd made items h.1)
cut_rises (suc made) low (framed mcf ∷ items) h = (h.0, each_take NoFcd made items h.1)
cut_rises (suc made) low (framed rnr ∷ items) h = (h.0, each_take NoFcd made items h.1)
cut_rises (suc made) low (framed rr ∷ items) h = (h.0, each_take NoFcd made items h.1)
cut_rises (suc made) low (framed dcn ∷ items) h = (h.0, each_take NoFcd made items h.1)
cut_rises (suc made) low (framed (other octet) ∷ items) h = (h.0, each_take NoFcd made items h.1)
cut_rises (suc made) low (checked octets ∷ items) h = (h.0, each_take NoFcd made items h.1)

sent_rises : (outcome : Outcome) (items : List PlainItem) → Rises 0 items → Rises 0 (sent outcome items)
sent_rises Done items h = h
sent_rises Nothing items h = h
sent_rises InputLost items h = h
sent_rises (Cut made) items h = cut_rises made 0 items h

fcds_rise : (marks : List ℕ) (low number : ℕ) (frames : List (List ℕ)) (items : List PlainItem) → low ≤ number → ((n : ℕ) → Rises n items) →
    Rises low (fcds marks number frames ++ items)
fcds_rise marks low number [] items up rest = rest low
fcds_rise marks low number (octets ∷ frames) items up rest =
    at (bit_of marks number) (fcds_rise marks (suc number) (suc number) frames items (omega arith) rest)
    (fcds_rise marks low (suc number) frames items (omega (arith, up)) rest)
  where
    at : (b : Bool) → Rises (suc number) (fcds marks (suc number) frames ++ items) → Rises low (fcds marks (suc number) frames ++ items) →
        Rises low (cond b (framed (fcd number octets) ∷ fcds marks (suc number) frames) (fcds marks (suc number) frames) ++ items)
    at true with_it without = (up, with_it)
    at false with_it without = without

burst_rises : (marks : List ℕ) (block : Option Block) → Rises 0 (burst_of marks block)
burst_rises marks None = tt
burst_rises marks (Some block) =
    fcds_rise marks 0 0 block.frames (framed rcp ∷ framed rcp ∷ framed rcp ∷ pps_of block ∷ []) (omega arith)
    (λ n. ((λ b. (refl, refl)), ((λ b. (refl, refl)), ((λ b. (refl, refl)), ((λ b. (refl, refl)), tt)))))

training_plain : (state : CallerState) (params : Params) → Each NoFcd (training_items state params)
training_plain WaitDis params = tt
training_plain WaitCfr params = ((λ b. (refl, refl)), (tt, tt))
training_plain WaitBlock params = ((λ b. (refl, refl)), (tt, tt))
training_plain WaitReady params = ((λ b. (refl, refl)), (tt, tt))

pps_plain : (block : Option Block) → Each NoFcd (pps_items block)
pps_plain None = tt
pps_plain (Some block) = ((λ b. (refl, refl)), tt)

sent_plain : (outcome : Outcome) (items : List PlainItem) (before : List PlainSaid) → Each NoFcd items → Both before →
    Both (and_said CallerSide (sent outcome items) before)
sent_plain outcome items before own h = plain_keeps (sent outcome items) before (sent_each NoFcd outcome items own) h

-- what holds of a world and what was said in it
pub record Bursting (w : World) (before : List PlainSaid) : Type 0 where
  pub begun : Each (Begun before) w.to_caller
  pub both : Both before

silent_begun : (outcome : Outcome) (w : World) (before : List PlainSaid) → Each (Begun before) w.to_caller →
    Each (Begun (and_said CallerSide (sent outcome []) before)) w.to_caller
silent_begun outcome w before h = rw (sent_none outcome) h

turn_bursting : (t : Turn) (w : World) (next : Caller) (outcome : Outcome) (before : List PlainSaid) →
    ((marks : List ℕ) → t ≡ turn.Burst marks → Lets before) → Bursting w before →
    Bursting (caller_sends t w next (sent outcome (caller_items next t))) (and_said CallerSide (sent outcome (caller_items next t)) before)
turn_bursting turn.Silent w next outcome before burst h = record { begun = silent_begun outcome w before h.begun; both = sent_plain outcome (caller_items next turn.Silent) before (tt) h.both }
turn_bursting turn.Dis w next outcome before burst h = record { begun = tt; both = sent_plain outcome (caller_items next turn.Dis) before (tt) h.both }
turn_bursting turn.Training w next outcome before burst h = record { begun = tt; both = sent_plain outcome (caller_items next turn.Training) before (training_plain next.state next.params) h.both }
turn_bursting turn.Cfr w next outcome before burst h = record { begun = tt; both = sent_plain outcome (caller_items next turn.Cfr) before (tt) h.both }
turn_bursting turn.Ftt w next outcome before burst h = record { begun = tt; both = sent_plain outcome (caller_items next turn.Ftt) before (tt) h.both }
turn_bursting (turn.Burst marks) w next outcome before burst h =
    let first = burst marks refl in
    record {
      begun = tt;
      both = burst_keeps 0 (sent outcome (burst_of marks (present_block next))) before
          (sent_rises outcome (burst_of marks (present_block next)) (burst_rises marks (present_block next)))
          (record { lets = inl first.0; above = λ n up. first.1 n }) h.both;
    }
turn_bursting turn.Pps w next outcome before burst h = record { begun = tt; both = sent_plain outcome (caller_items next turn.Pps) before (pps_plain (present_block next)) h.both }
turn_bursting turn.Mcf w next outcome before burst h = record { begun = tt; both = sent_plain outcome (caller_items next turn.Mcf) before (tt) h.both }
turn_bursting (turn.Ppr marks) w next outcome before burst h = record { begun = tt; both = sent_plain outcome (caller_items next (turn.Ppr marks)) before (tt) h.both }
turn_bursting turn.Rnr w next outcome before burst h = record { begun = tt; both = sent_plain outcome (caller_items next turn.Rnr) before (tt) h.both }
turn_bursting turn.Rr w next outcome before burst h = record { begun = tt; both = sent_plain outcome (caller_items next turn.Rr) before (((λ b. (refl, refl)), tt)) h.both }
turn_bursting turn.Dcn w next outcome before burst h = record { begun = tt; both = sent_plain outcome (caller_items next turn.Dcn) before (((λ b. (refl, refl)), tt)) h.both }

-- an answer that is heard lets a burst begin
abbrev pub GivenBegun : CallerInput → List PlainSaid → Type 0
GivenBegun (hears cfr) before = Lets before
GivenBegun (hears (ppr marks)) before = Lets before
GivenBegun (hears mcf) before = Lets before
GivenBegun _ before = Unit {0}

burst_by : CallersTurnsMean → (c : Caller) (input : CallerInput) (before : List PlainSaid) (marks : List ℕ) → GivenBegun input before →
    (caller_step c input).turn ≡ turn.Burst marks → Lets before
burst_by means c input before marks given is = at c.ending refl
  where
    by : ((input ≡ hears (ppr marks)) ⊎ ((input ≡ hears cfr) ⊎ (input ≡ hears mcf))) → Lets before
    by (inl e) = subst (λ i. GivenBegun i before) e given
    by (inr (inl e)) = subst (λ i. GivenBegun i before) e given
    by (inr (inr e)) = subst (λ i. GivenBegun i before) e given

    sends : CallerSends c input (caller_step c input).next (turn.Burst marks) → Lets before
    sends means_so = of means_so.3
      where
        of : ((input ≡ hears (ppr marks)) × ((caller_step c input).next.pprs ≡ suc c.pprs)) ⊎
            (((input ≡ hears cfr) ⊎ (input ≡ hears mcf)) × (marks ≡ all_frames) × ((caller_step c input).next.pprs ≡ 0)) → Lets before
        of (inl a) = by (inl a.0)
        of (inr b) = by (inr b.0)

    at : (e : Option End) → c.ending ≡ e → Lets before
    at None none = sends (subst (CallerSends c input (caller_step c input).next) is (means c input none))
    at (Some why) some =
        let silent : (caller_step c input).turn ≡ turn.Silent = ap (λ e. (unless_caller_ended e input c).turn) some in
        absurd (other silent is)
      where
        other : {t : Turn} → t ≡ turn.Silent → t ≡ turn.Burst marks → ⊥
        other a b = cc

caller_bursting : CallersTurnsMean → (w : World) (outcome : Outcome) (input : CallerInput) (before : List PlainSaid) → GivenBegun input before →
    Bursting w before → Bursting (caller_acts w outcome input) (caller_speaks w.caller outcome input before)
caller_bursting means w outcome input before given h =
    let answer = caller_step w.caller input in
    turn_bursting answer.turn w answer.next outcome before (λ marks is. burst_by means w.caller input before marks given is) h

-- ---- a turn of the answerer

-- a frame of the answerer, or nothing
module _ (signal : PlainSignal) (w : World) (next : Answerer) (before : List PlainSaid)
    (own : TellsYes AnswererSide Begins (framed signal)) (no_fcd : NoFcd (framed signal))
    (new : Begun (record { by = AnswererSide; signal = signal } ∷ before) (framed signal)) (h : Bursting w before) where
  whole : Bursting (record { caller = w.caller; answerer = next; to_answerer = []; to_caller = w.to_caller ++ framed signal ∷ [] })
      (record { by = AnswererSide; signal = signal } ∷ before)
  whole = record {
    begun = each_append (Begun (record { by = AnswererSide; signal = signal } ∷ before)) w.to_caller (framed signal ∷ [])
        (begun_later (framed signal ∷ []) w.to_caller before (own, tt) h.begun) (new, tt);
    both = (((no_fcd before).0, h.both.0), ((no_fcd before).1, h.both.1));
  }

  none : Bursting (record { caller = w.caller; answerer = next; to_answerer = []; to_caller = w.to_caller ++ [] }) before
  none = record { begun = each_append (Begun before) w.to_caller [] h.begun tt; both = h.both }

  said : (outcome : Outcome) →
      Bursting (record { caller = w.caller; answerer = next; to_answerer = []; to_caller = w.to_caller ++ sent outcome (framed signal ∷ []) })
      (and_said AnswererSide (sent outcome (framed signal ∷ [])) before)
  said Done = whole
  said Nothing = whole
  said InputLost = whole
  said (Cut zero) = none
  said (Cut (suc zero)) = whole
  said (Cut (suc (suc made))) = whole

silent_bursting : (w : World) (next : Answerer) (outcome : Outcome) (before : List PlainSaid) → Bursting w before →
    Bursting (record w { answerer = next }) (and_said AnswererSide (sent outcome []) before)
silent_bursting w next outcome before h = rw (sent_none outcome) (record { begun = h.begun; both = h.both })

cleared_bursting : (w : World) (next : Answerer) (outcome : Outcome) (before : List PlainSaid) → Bursting w before →
    Bursting (record { caller = w.caller; answerer = next; to_answerer = []; to_caller = w.to_caller ++ sent outcome [] })
    (and_said AnswererSide (sent outcome []) before)
cleared_bursting w next outcome before h =
    rw (sent_none outcome) (record { begun = each_append (Begun before) w.to_caller [] h.begun tt; both = h.both })

answer_bursting : (t : Turn) (w : World) (next : Answerer) (outcome : Outcome) (before : List PlainSaid) → Answers before t → Bursting w before →
    Bursting (answerer_sends t w next (sent outcome (answerer_items next t))) (and_said AnswererSide (sent outcome (answerer_items next t)) before)
answer_bursting turn.Silent w next outcome before so h = silent_bursting w next outcome before h
answer_bursting turn.Dis w next outcome before so h =
    said (dis next.caps) w next before (λ begun. inl refl) (λ b. (refl, refl)) tt h outcome
answer_bursting turn.Training w next outcome before so h = cleared_bursting w next outcome before h
answer_bursting turn.Cfr w next outcome before so h =
    said cfr w next before (λ begun. inr refl) (λ b. (refl, refl)) ((λ begun. refl), λ n begun. dcs_last n before false (begun || false) (so false)) h outcome
answer_bursting turn.Ftt w next outcome before so h =
    said ftt w next before (λ begun. inl refl) (λ b. (refl, refl)) tt h outcome
answer_bursting (turn.Burst marks) w next outcome before so h = cleared_bursting w next outcome before h
answer_bursting turn.Pps w next outcome before so h = cleared_bursting w next outcome before h
answer_bursting turn.Mcf w next outcome before so h =
    said mcf w next before (λ begun. inr refl) (λ b. (refl, refl)) ((λ begun. refl), λ n begun. command_last n before false (begun || false) (so false)) h outcome
answer_bursting (turn.Ppr marks) w next outcome before so h =
    said (ppr marks) w next before (λ begun. inr refl) (λ b. (refl, refl)) ((λ begun. refl), λ n begun. command_last n before false (begun || false) (so false)) h outcome
answer_bursting turn.Rnr w next outcome before so h =
    said rnr w next before (λ begun. inl refl) (λ b. (refl, refl)) tt h outcome
answer_bursting turn.Rr w next outcome before so h = cleared_bursting w next outcome before h
answer_bursting turn.Dcn w next outcome before so h =
    said dcn w next before (λ begun. inl refl) (λ b. (refl, refl)) tt h outcome

answerer_bursting : (w : World) (outcome : Outcome) (input : AnswererInput) (before : List PlainSaid) → Given input before → Bursting w before →
    Bursting (answerer_acts w outcome input) (answerer_speaks w.answerer outcome input before)
answerer_bursting w outcome input before given h =
    answer_bursting (answerer_step w.answerer input).turn w (answerer_step w.answerer input).next outcome before
    (step_so before w.answerer input given) h

-- ---- one event

given_begun : (signal : PlainSignal) (before : List PlainSaid) → Begun before (framed signal) → GivenBegun (hears signal) before
given_begun (dis caps) before h = tt
given_begun (dcs params) before h = tt
given_begun cfr before h = h
given_begun ftt before h = tt
given_begun (fcd number octets) before h = tt
given_begun rcp before h = tt
given_begun (pps ends page block last) before h = tt
given_begun (ppr marks) before h = h
given_begun mcf before h = h
given_begun rnr before h = tt
given_begun rr before h = tt
given_begun dcn before h = tt
given_begun (other octet) before h = tt

given_heard : (input : CallerInput) (before : List PlainSaid) → KnownToCaller (Begun before) input → GivenBegun input before
given_heard (hears signal) before h = given_begun signal before h
given_heard timeout before h = tt
given_heard t5 before h = tt

-- what holds of a world and what was said in it, beside what `Answered` says
abbrev pub LetSo : World → List PlainSaid → Type 0
LetSo w before = Answered w before × Bursting w before

let_parts : CallersTurnsMean → PartsKeep LetSo LineFacts Any
let_parts means = record {
  caller = λ w rest outcome input before fine f after is h.
      let taken = caller_takes (Begun before) input w.to_caller rest is h.1.begun in (
        answered_parts.caller w rest outcome input before fine f after is h.0,
        caller_bursting means (record w { to_caller = rest }) outcome input before (given_heard input before taken.0)
            (record { begun = taken.1; both = h.1.both }),
      );
  answerer = λ w rest outcome input before fine f after is h.
      let known = (answerer_takes (Commanded before) input w.to_answerer rest is h.0.commanded).0 in (
        answered_parts.answerer w rest outcome input before fine f after is h.0,
        answerer_bursting (record w { to_answerer = rest }) outcome input before (given_input input before known)
            (record { begun = h.1.begun; both = h.1.both }),
      );
  lost_to_caller = λ w item rest before is h. (
    answered_parts.lost_to_caller w item rest before is h.0,
    record { begun = each_rest (Begun before) item w.to_caller rest is h.1.begun; both = h.1.both },
  );
  lost_to_answerer = λ w item rest before is h. (
    answered_parts.lost_to_answerer w item rest before is h.0,
    record { begun = h.1.begun; both = h.1.both },
  );
  spoil = λ w before h. (answered_parts.spoil w before h.0, record { begun = h.1.begun; both = h.1.both });
}

-- the laws
pub bursts_are_let : CallersTurnsMean → LineHolds → RuleIsKeptOfPages NoBurst × RuleIsKeptOfPages OutOfOrder
bursts_are_let means holds_facts =
    ((λ document wish caps steps full. (let_so document wish caps steps full).0), λ document wish caps steps full. (let_so document wish caps steps full).1)
  where
    let_so : (document : Document) (wish : Wish) (caps : Caps) (steps : List (Event × Outcome)) → Each IsFullPage document →
        Both (call_said document wish caps steps)
    let_so document wish caps steps full =
        (run_keeps LetSo LineFacts Any (let_parts means) steps (new_world document wish caps)
        (record { by = AnswererSide; signal = dis caps } ∷ []) (all_any steps) (λ more. holds_facts document wish caps more full)
        (answered_first document wish caps, record { begun = (tt, tt); both = ((refl, tt), (refl, tt)) })).1.both

-- CFR and FTT answer a DCS, and MCF, PPR and RNR a PPS or an RR: rules NotTrained and NoCommand.
use Rattle.std.proofs.Common.{◌≡◌, ℕ, zero, suc, Bool, true, false, cond, ◌&&◌, ◌||◌, List, [], ◌∷◌, ◌++◌, take, refl, sym, ap, subst, ◌∙◌, ◌⊎◌, inl, inr}
use Rattle.std.specs.Prelude.{Option, Some, None, not, is_some, nat_lt}
use Rattle.signals.specs.Signals.{PlainSignal, dis, dcs, cfr, ftt, fcd, rcp, pps, ppr, mcf, rnr, rr, dcn, other}
use Rattle.signals.specs.Agreement.{allowed}
use Rattle.signals.specs.declared.mark.Mark.{Mark}
use Rattle.signals.specs.declared.params.Caps.{Caps}
use Rattle.signals.specs.declared.params.Params.{Params}
use Rattle.signals.specs.declared.params.Wish.{Wish}
use Rattle.signals.specs.declared.signal.PageEnd.{PageEnd}
use Rattle.signals.specs.declared.signal.PageEnd.TheVariants.{Null, Mps, Eom, Eop}
use Rattle.signals.specs.declared.signal.Side.{Side}
use Rattle.signals.specs.declared.signal.Side.TheVariants.{Caller as CallerSide, Answerer as AnswererSide}
use Rattle.partial_page.specs.Assembling.{all_there, last_counted, within_frame_size}
use Rattle.partial_page.specs.Store.{bit_of}
use Rattle.raster.specs.Pages.{PagePixels}
use Rattle.stations.specs.Blocks.{Block}
use Rattle.stations.specs.CallerFields.{IsSending}
use Rattle.stations.specs.Inputs.{CallerInput, AnswererInput, PlainItem, framed, checked, timeout, t5, t1, t2, is_busy, hears, listens, trains}
use Rattle.stations.specs.Laws.{Each}
use Rattle.stations.specs.Layers.{Document, IsFullPage, within_page_limit, page_read, is_good_training}
use Rattle.stations.specs.CallerStep.{Caller, CallerAnswer, caller_step, caller_items, caller_table, unless_caller_ended, training_items, fcds}
use Rattle.stations.specs.CallerStep.{pps_of, burst_of, pps_items, present_block, tries_again}
use Rattle.stations.specs.AnswererStep.{Answerer, AnswererAnswer, answerer_step, answerer_items, unless_answerer_ended, answerer_table, confirms}
use Rattle.stations.specs.AnswererStep.{stores, takes_block, is_repeated, is_clear, answers_pps, judges_block}
use Rattle.stations.specs.declared.turn.AnswererState.{AnswererState}
use Rattle.stations.specs.declared.turn.AnswererState.TheVariants.{PhaseB, WaitTraining as InTraining, Message}
use Rattle.stations.specs.declared.turn.CallerState.{CallerState}
use Rattle.stations.specs.declared.turn.CallerState.TheVariants.{WaitDis, WaitCfr, WaitBlock, WaitReady}
use Rattle.stations.specs.declared.turn.End.{End}
use Rattle.stations.specs.declared.turn.Turn.{Turn}
use Rattle.stations.specs.declared.turn.Turn.TheVariants as turn
use Rattle.line_sim.proofs.Lists.{either}
use Rattle.line_sim.specs.Headline.{LineHolds}
use Rattle.line_sim.specs.Line.{World, Outcome, Done, Nothing, InputLost, Cut, sent, new_world, caller_sends, answerer_sends}
use Rattle.line_sim.specs.Line.{caller_acts, answerer_acts, spoiled}
use Rattle.line_sim.specs.LineFacts.{LineFacts, MayReachAnswerer}
use Rattle.line_sim.specs.declared.event.Event.{Event}
use Rattle.referee.specs.History.{PlainSaid, look, is_fcd}
use Rattle.referee.specs.Questions.{tell, is_dcs}
use Rattle.referee.specs.Rules.{is_not_trained, has_no_command}
use Rattle.referee.specs.declared.question.Question.{Question}
use Rattle.referee.specs.declared.question.Question.TheVariants.{IsAsked, IsTraining}
use Rattle.referee.specs.declared.rule.Rule.TheVariants.{NotTrained, NoCommand}
use Rattle.judged_calls.proofs.PprsAsk.{OfCaller, caller_is}
use Rattle.judged_calls.proofs.Events.{ToCaller, KnownToAnswerer, answerer_takes, each_rest, PartsKeep, run_keeps, Any, all_any}
use Rattle.judged_calls.proofs.OwnSignals.{each_append, sent_each}
use Rattle.judged_calls.proofs.AfterDcn.{sent_none}
use Rattle.judged_calls.specs.SaidCalls.{and_said, caller_speaks, answerer_speaks, call_said, Keeps, RuleIsKeptOfPages}

-- ---- a question that stays answered

-- what was said answers a question by yes, whether or not an FCD came since
abbrev pub Yes : Question → List PlainSaid → Type 0
Yes question before = (begun : Bool) → look (tell question) begun before ≡ true

-- a frame of a station tells nothing of a question, or yes
abbrev pub TellsYes : Side → Question → PlainItem → Type 0
TellsYes side question (framed signal) =
    (begun : Bool) → (tell question begun (record { by = side; signal = signal }) ≡ None) ⊎
    (tell question begun (record { by = side; signal = signal }) ≡ Some true)
TellsYes side question (checked octets) = Unit {0}

yes_stays : (side : Side) (question : Question) (signal : PlainSignal) (before : List PlainSaid) → TellsYes side question (framed signal) →
    Yes question before → Yes question (record { by = side; signal = signal } ∷ before)
yes_stays side question signal before tells h begun = at (tells begun)
  where
    at : (tell question begun (record { by = side; signal = signal }) ≡ None) ⊎
        (tell question begun (record { by = side; signal = signal }) ≡ Some true) →
        look (tell question) begun (record { by = side; signal = signal } ∷ before) ≡ true
    at (inl e) = rw e (h (begun || is_fcd signal))
    at (inr e) = rw e refl

pub yes_later : (side : Side) (question : Question) (items : List PlainItem) (before : List PlainSaid) → Each (TellsYes side question) items →
    Yes question before → Yes question (and_said side items before)
yes_later side question [] before own h = h
yes_later side question (framed signal ∷ items) before own h =
    yes_later side question items (record { by = side; signal = signal } ∷ before) own.1 (yes_stays side question signal before own.0 h)
yes_later side question (checked octets ∷ items) before own h = yes_later side question items before own.1 h

-- ---- what is under way to the answerer

-- the caller's last command is the one under way: a training check follows a DCS
abbrev pub Commanded : List PlainSaid → PlainItem → Type 0
Commanded before (checked octets) = Yes IsTraining before
Commanded before (framed (pps ends page block last)) = Yes IsAsked before
Commanded before (framed rr) = Yes IsAsked before
Commanded before _ = Unit {0}

-- the items of a turn end with its command, and a training check comes after a DCS
abbrev pub EndsSo : Bool → List PlainItem → Type 0
EndsSo trained [] = Unit {0}
EndsSo trained (framed (pps ends page block last) ∷ items) = items ≡ []
EndsSo trained (framed rr ∷ items) = items ≡ []
EndsSo trained (checked octets ∷ items) = (trained ≡ true) × (items ≡ [])
EndsSo trained (framed signal ∷ items) = EndsSo (is_dcs signal) items

training_ends : (state : CallerState) (params : Params) → EndsSo false (training_items state params)
training_ends WaitDis params = tt
training_ends WaitCfr params = (refl, refl)
training_ends WaitBlock params = (refl, refl)
training_ends WaitReady params = (refl, refl)

fcds_end : (marks : List ℕ) (number : ℕ) (frames : List (List ℕ)) (items : List PlainItem) → EndsSo false items →
    EndsSo false (fcds marks number frames ++ items)
fcds_end marks number [] items h = h
fcds_end marks number (octets ∷ frames) items h = at (bit_of marks number) (fcds_end marks (suc number) frames items h)
  where
    at : (b : Bool) → EndsSo false (fcds marks (suc number) frames ++ items) →
        EndsSo false (cond b (framed (fcd number octets) ∷ fcds marks (suc number) frames) (fcds marks (suc number) frames) ++ items)
    at true k = k
    at false k = k

burst_ends : (marks : List ℕ) (block : Option Block) → EndsSo false (burst_of marks block)
burst_ends marks None = tt
burst_ends marks (Some block) = fcds_end marks 0 block.frames (framed rcp ∷ framed rcp ∷ framed rcp ∷ pps_of block ∷ []) refl

pps_end : (block : Option Block) → EndsSo false (pps_items block)
pps_end None = tt
pps_end (Some block) = refl

turn_ends : (c : Caller) (t : Turn) → EndsSo false (caller_items c t)
turn_ends c turn.Silent = tt
turn_ends c turn.Dis = tt
turn_ends c turn.Training = training_ends c.state c.params
turn_ends c turn.Cfr = tt
turn_ends c turn.Ftt = tt
turn_ends c (turn.Burst marks) = burst_ends marks (present_block c)
turn_ends c turn.Pps = pps_end (present_block c)
turn_ends c turn.Mcf = tt
turn_ends c (turn.Ppr marks) = tt
turn_ends c turn.Rnr = tt
turn_ends c turn.Rr = refl
turn_ends c turn.Dcn = tt

take_none : (made : ℕ) (items : List PlainItem) → items ≡ [] → take made items ≡ []
take_none zero items e = refl
take_none (suc made) [] e = refl
take_none (suc made) (item ∷ items) e = absurd (cc)

-- the first items of such a turn end so too
cut_ends : (made : ℕ) (trained : Bool) (items : List PlainItem) → EndsSo trained items → EndsSo trained (take made items)
cut_ends zero trained items h = tt
cut_ends (suc made) trained [] h = tt
cut_ends (suc made) trained (checked octets ∷ items) h = (h.0, take_none made items h.1)
cut_ends (suc made) trained (framed (dis caps) ∷ items) h = cut_ends made false items h
cut_ends (suc made) trained (framed (dcs params) ∷ items) h = cut_ends made true items h
cut_ends (suc made) trained (framed cfr ∷ items) h = cut_ends made false items h
cut_ends (suc made) trained (framed ftt ∷ items) h = cut_ends made false items h
cut_ends (suc made) trained (framed (fcd number octets) ∷ items) h = cut_ends made false items h
cut_ends (suc made) trained (framed rcp ∷ items) h = cut_ends made false items h
cut_ends (suc made) trained (framed (pps ends page block last) ∷ items) h = take_none made items h
cut_ends (suc made) trained (framed (ppr marks) ∷ items) h = cut_ends made false items h
cut_ends (suc made) trained (framed mcf ∷ items) h = cut_ends made false items h
cut_ends (suc made) trained (framed rnr ∷ items) h = cut_ends made false items h
cut_ends (suc made) trained (framed rr ∷ items) h = take_none made items h
cut_ends (suc made) trained (framed dcn ∷ items) h = cut_ends made false items h
cut_ends (suc made) trained (framed (other octet) ∷ items) h = cut_ends made (is_dcs (other octet)) items h

sent_ends : (outcome : Outcome) (items : List PlainItem) → EndsSo false items → EndsSo false (sent outcome items)
sent_ends Done items h = h
sent_ends Nothing items h = h
sent_ends InputLost items h = h
sent_ends (Cut made) items h = cut_ends made false items h

pub never : false ≡ true → ⊥
never e = cc

pub no_more : {item : PlainItem} {items : List PlainItem} → item ∷ items ≡ [] → ⊥
no_more e = cc

-- what a turn says is under way with its command last
new_commanded : (trained : Bool) (items : List PlainItem) (before : List PlainSaid) → Each OfCaller items → (trained ≡ true → Yes IsTraining before) →
    EndsSo trained items → Each (Commanded (and_said CallerSide items before)) items
new_commanded trained [] before own h ends = tt
new_commanded trained (checked octets ∷ []) before own h ends = (h ends.0, tt)
new_commanded trained (checked octets ∷ item ∷ items) before own h ends = absurd (no_more ends.1)
new_commanded trained (framed (pps ends_with page block last) ∷ []) before own h ends = ((λ begun. refl), tt)
new_commanded trained (framed (pps ends_with page block last) ∷ item ∷ items) before own h ends = absurd (no_more ends)
new_commanded trained (framed rr ∷ []) before own h ends = ((λ begun. refl), tt)
new_commanded trained (framed rr ∷ item ∷ items) before own h ends = absurd (no_more ends)
new_commanded trained (framed (dcs params) ∷ items) before own h ends =
    (tt, new_commanded true items (record { by = CallerSide; signal = dcs params } ∷ before) own.1 (λ e begun. refl) ends)
new_commanded trained (framed (dis caps) ∷ items) before own h ends = absurd own.0
new_commanded trained (framed cfr ∷ items) before own h ends = absurd own.0
new_commanded trained (framed ftt ∷ items) before own h ends = absurd own.0
new_commanded trained (framed (fcd number octets) ∷ items) before own h ends =
    (tt, new_commanded false items (record { by = CallerSide; signal = fcd number octets } ∷ before) own.1 (λ e. absurd (never e)) ends)
new_commanded trained (framed rcp ∷ items) before own h ends =
    (tt, new_commanded false items (record { by = CallerSide; signal = rcp } ∷ before) own.1 (λ e. absurd (never e)) ends)
new_commanded trained (framed (ppr marks) ∷ items) before own h ends = absurd own.0
new_commanded trained (framed mcf ∷ items) before own h ends = absurd own.0
new_commanded trained (framed rnr ∷ items) before own h ends = absurd own.0
new_commanded trained (framed dcn ∷ items) before own h ends =
    (tt, new_commanded false items (record { by = CallerSide; signal = dcn } ∷ before) own.1 (λ e. absurd (never e)) ends)
new_commanded trained (framed (other octet) ∷ items) before own h ends = absurd own.0

-- ---- what the caller says while a command is under way

training_repeats : (state : CallerState) (params : Params) → Each (TellsYes CallerSide IsTraining) (training_items state params)
training_repeats WaitDis params = tt
training_repeats WaitCfr params = ((λ begun. inr refl), (tt, tt))
training_repeats WaitBlock params = ((λ begun. inr refl), (tt, tt))
training_repeats WaitReady params = ((λ begun. inr refl), (tt, tt))

pps_repeats : (block : Option Block) → Each (TellsYes CallerSide IsAsked) (pps_items block)
pps_repeats None = tt
pps_repeats (Some block) = ((λ begun. inr refl), tt)

-- the items of an answer tell nothing else of a question
abbrev pub Repeats : Question → CallerAnswer → Type 0
Repeats question answer = Each (TellsYes CallerSide question) (caller_items answer.next answer.turn)

-- once more, or DCN, which is passed over
again_training : (c : Caller) → Repeats IsTraining (tries_again c turn.Training)
again_training c =
    either (Repeats IsTraining) (nat_lt c.try 3) _ _ (λ h. training_repeats c.state c.params) (λ h. ((λ begun. inl refl), tt))

again_pps : (c : Caller) → Repeats IsAsked (tries_again c turn.Pps)
again_pps c =
    either (Repeats IsAsked) (nat_lt c.try 3) _ _ (λ h. pps_repeats (present_block (record c { try = suc c.try }))) (λ h. ((λ begun. inl refl), tt))

again_rr : (c : Caller) → Repeats IsAsked (tries_again c turn.Rr)
again_rr c = either (Repeats IsAsked) (nat_lt c.try 3) _ _ (λ h. ((λ begun. inr refl), tt)) (λ h. ((λ begun. inl refl), tt))

-- the end of a wait
abbrev pub IsTimer : CallerInput → Type 0
IsTimer (hears signal) = ⊥
IsTimer timeout = Unit {0}
IsTimer t5 = Unit {0}

-- a caller that waits for CFR repeats DCS and training check at the end of a wait, or gives up
training_again : (c : Caller) (input : CallerInput) → IsTimer input → c.state ≡ WaitCfr → Repeats IsTraining (caller_step c input)
training_again c input timer is = at c.ending
  where
    row : (i : CallerInput) → IsTimer i → Repeats IsTraining (caller_table WaitCfr i c)
    row (hears signal) timer_i = absurd timer_i
    row timeout timer_i = again_training c
    row t5 timer_i = tt

    at : (e : Option End) → Repeats IsTraining (unless_caller_ended e input c)
    at (Some why) = tt
    at None = subst (λ state. Repeats IsTraining (caller_table state input c)) (sym is) (row input timer)

-- a caller that waits for the answer to a block repeats PPS or RR at the end of a wait, or gives up
command_again : (c : Caller) (input : CallerInput) → IsTimer input → IsSending c.state → Repeats IsAsked (caller_step c input)
command_again c input timer sends = at c.ending
  where
    row : (state : CallerState) (i : CallerInput) → IsSending state → IsTimer i → Repeats IsAsked (caller_table state i c)
    row WaitDis i sending timer_i = absurd sending
    row WaitCfr i sending timer_i = absurd sending
    row WaitBlock (hears signal) sending timer_i = absurd timer_i
    row WaitBlock timeout sending timer_i = again_pps c
    row WaitBlock t5 sending timer_i = tt
    row WaitReady (hears signal) sending timer_i = absurd timer_i
    row WaitReady timeout sending timer_i = again_rr c
    row WaitReady t5 sending timer_i = ((λ begun. inl refl), tt)

    at : (e : Option End) → Repeats IsAsked (unless_caller_ended e input c)
    at (Some why) = tt
    at None = row c.state input sends timer

module _ (c : Caller) (accepted : ℕ) (input : CallerInput) (timer : IsTimer input) (outcome : Outcome) (before : List PlainSaid) where
  -- an item under way stays the command that was said last
  item_again : (item : PlainItem) → MayReachAnswerer c accepted item → Commanded before item → Commanded (caller_speaks c outcome input before) item
  item_again (checked octets) may h = yes_later CallerSide IsTraining _ before (sent_each (TellsYes CallerSide IsTraining) outcome _ (training_again c input timer may)) h
  item_again (framed (dis caps)) may h = tt
  item_again (framed (dcs params)) may h = tt
  item_again (framed cfr) may h = tt
  item_again (framed ftt) may h = tt
  item_again (framed (fcd number octets)) may h = tt
  item_again (framed rcp) may h = tt
  item_again (framed (pps ends page block last)) may h = yes_later CallerSide IsAsked _ before (sent_each (TellsYes CallerSide IsAsked) outcome _ (command_again c input timer may.0)) h
  item_again (framed (ppr marks)) may h = tt
  item_again (framed mcf) may h = tt
  item_again (framed rnr) may h = tt
  item_again (framed rr) may h = yes_later CallerSide IsAsked _ before (sent_each (TellsYes CallerSide IsAsked) outcome _ (command_again c input timer may.0)) h
  item_again (framed dcn) may h = tt
  item_again (framed (other octet)) may h = tt

  items_again : (items : List PlainItem) → Each (MayReachAnswerer c accepted) items → Each (Commanded before) items →
      Each (Commanded (caller_speaks c outcome input before)) items
  items_again [] may h = tt
  items_again (item ∷ items) may h = (item_again item may.0 h.0, items_again items may.1 h.1)

-- ---- a turn of the caller

-- both rules hold of all that was said
abbrev pub Both : List PlainSaid → Type 0
Both before = Keeps NotTrained before × Keeps NoCommand before

both_signal : (signal : PlainSignal) (before : List PlainSaid) → OfCaller (framed signal) → Both before →
    Both (record { by = CallerSide; signal = signal } ∷ before)
both_signal (dis caps) before own h = absurd own
both_signal (dcs params) before own h = ((refl, h.0), (refl, h.1))
both_signal cfr before own h = absurd own
both_signal ftt before own h = absurd own
both_signal (fcd number octets) before own h = ((refl, h.0), (refl, h.1))
both_signal rcp before own h = ((refl, h.0), (refl, h.1))
both_signal (pps ends page block last) before own h = ((refl, h.0), (refl, h.1))
both_signal (ppr marks) before own h = absurd own
both_signal mcf before own h = absurd own
both_signal rnr before own h = absurd own
both_signal rr before own h = ((refl, h.0), (refl, h.1))
both_signal dcn before own h = ((refl, h.0), (refl, h.1))
both_signal (other octet) before own h = absurd own

both_items : (items : List PlainItem) (before : List PlainSaid) → Each OfCaller items → Both before → Both (and_said CallerSide items before)
both_items [] before own h = h
both_items (framed signal ∷ items) before own h =
    both_items items (record { by = CallerSide; signal = signal } ∷ before) own.1 (both_signal signal before own.0 h)
both_items (checked octets ∷ items) before own h = both_items items before own.1 h

-- what is under way to the answerer after a turn of the caller
each_sent : (P : PlainItem → Type 0) (t : Turn) (w : World) (next : Caller) (items : List PlainItem) → Each P w.to_answerer → Each P items →
    Each P (caller_sends t w next items).to_answerer
each_sent P turn.Silent w next items old new = old
each_sent P turn.Dis w next items old new = each_append P w.to_answerer items old new
each_sent P turn.Training w next items old new = each_append P w.to_answerer items old new
each_sent P turn.Cfr w next items old new = each_append P w.to_answerer items old new
each_sent P turn.Ftt w next items old new = each_append P w.to_answerer items old new
each_sent P (turn.Burst marks) w next items old new = each_append P w.to_answerer items old new
each_sent P turn.Pps w next items old new = each_append P w.to_answerer items old new
each_sent P turn.Mcf w next items old new = each_append P w.to_answerer items old new
each_sent P (turn.Ppr marks) w next items old new = each_append P w.to_answerer items old new
each_sent P turn.Rnr w next items old new = each_append P w.to_answerer items old new
each_sent P turn.Rr w next items old new = each_append P w.to_answerer items old new
each_sent P turn.Dcn w next items old new = each_append P w.to_answerer items old new

-- what holds of a world and what was said in it
pub record Answered (w : World) (before : List PlainSaid) : Type 0 where
  pub commanded : Each (Commanded before) w.to_answerer
  pub both : Both before

caller_answered : (w : World) (outcome : Outcome) (input : CallerInput) (before : List PlainSaid) →
    Each (Commanded (caller_speaks w.caller outcome input before)) w.to_answerer → Both before →
    Answered (caller_acts w outcome input) (caller_speaks w.caller outcome input before)
caller_answered w outcome input before old both =
    let answer = caller_step w.caller input in
    let items = sent outcome (caller_items answer.next answer.turn) in
    let own : Each OfCaller items = sent_each OfCaller outcome _ (caller_is answer.next answer.turn) in
    let ends : EndsSo false items = sent_ends outcome (caller_items answer.next answer.turn) (turn_ends answer.next answer.turn) in
    record {
      commanded = each_sent (Commanded (and_said CallerSide items before)) answer.turn w answer.next items old
          (new_commanded false items before own (λ e. absurd (never e)) ends);
      both = both_items items before own both;
    }

-- the end of a wait of the caller
timer_answered : (w : World) (f : LineFacts w) (outcome : Outcome) (input : CallerInput) (before : List PlainSaid) → IsTimer input →
    Answered w before → Answered (caller_acts w outcome input) (caller_speaks w.caller outcome input before)
timer_answered w f outcome input before timer h =
    caller_answered w outcome input before
    (items_again w.caller f.accepted input timer outcome before w.to_answerer f.to_answerer h.commanded) h.both

-- the caller hears a frame, and so nothing is under way to the answerer
hears_answered : (w : World) (outcome : Outcome) (input : CallerInput) (before : List PlainSaid) → w.to_answerer ≡ [] → Both before →
    Answered (caller_acts w outcome input) (caller_speaks w.caller outcome input before)
hears_answered w outcome input before none both = caller_answered w outcome input before (each_none w.to_answerer none) both
  where
    each_none : (items : List PlainItem) → items ≡ [] → Each (Commanded (caller_speaks w.caller outcome input before)) items
    each_none [] e = tt
    each_none (item ∷ items) e = absurd (no_more e)

-- ---- a turn of the answerer

-- what is given to the answerer: its command was said last
abbrev pub Given : AnswererInput → List PlainSaid → Type 0
Given (trains octets) before = Yes IsTraining before
Given (listens (pps ends page block last)) before = Yes IsAsked before
Given (listens rr) before = Yes IsAsked before
Given _ before = Unit {0}

-- a turn answers the caller's last command
abbrev pub Answers : List PlainSaid → Turn → Type 0
Answers before turn.Cfr = Yes IsTraining before
Answers before turn.Ftt = Yes IsTraining before
Answers before turn.Mcf = Yes IsAsked before
Answers before (turn.Ppr marks) = Yes IsAsked before
Answers before turn.Rnr = Yes IsAsked before
Answers before _ = Unit {0}

module _ (before : List PlainSaid) (s : Answerer) where
  -- one of two answers
  one_of : (b : Bool) (x y : AnswererAnswer) → Answers before x.turn → Answers before y.turn → Answers before (cond b x y).turn
  one_of true x y h k = h
  one_of false x y h k = k

  confirms_so : Yes IsAsked before → Answers before (confirms s)
  confirms_so given = either (Answers before) s.busy turn.Rnr turn.Mcf (λ h. given) (λ h. given)

  stores_so : (ends : PageEnd) (mark : Mark) (page : Option PagePixels) → Yes IsAsked before → Answers before (stores s ends mark page).turn
  stores_so ends mark None given = tt
  stores_so ends mark (Some page) given = confirms_so given

  takes_so : (ends : PageEnd) (mark : Mark) (octets : List ℕ) → Yes IsAsked before → Answers before (takes_block s ends mark octets).turn
  takes_so Null mark octets given = either (λ (a : AnswererAnswer). Answers before a.turn) (within_page_limit octets) _ _ (λ h. confirms_so given) (λ h. tt)
  takes_so Mps mark octets given = stores_so Mps mark (page_read s.params octets) given
  takes_so Eom mark octets given = stores_so Eom mark (page_read s.params octets) given
  takes_so Eop mark octets given = stores_so Eop mark (page_read s.params octets) given

  pps_so : (ends : PageEnd) (mark : Mark) (last : ℕ) → Yes IsAsked before → Answers before (answers_pps s ends mark last).turn
  pps_so ends mark last given =
      one_of (is_repeated s.accepted mark) (record { next = s; turn = confirms s }) (judges_block s ends mark (last_counted s.asked mark last))
      (confirms_so given)
      (either (λ (a : AnswererAnswer). Answers before a.turn) (all_there s.frames (last_counted s.asked mark last)) _ _
      (λ h. takes_so ends mark _ given) (λ h. given))

  table_so : (state : AnswererState) (input : AnswererInput) → Given input before → Answers before (answerer_table state input s).turn
  table_so PhaseB (listens (dis caps)) given = tt
  table_so PhaseB (listens (dcs params)) given = either (λ (a : AnswererAnswer). Answers before a.turn) (allowed s.caps params) _ _ (λ h. tt) (λ h. tt)
  table_so PhaseB (listens cfr) given = tt
  table_so PhaseB (listens ftt) given = tt
  table_so PhaseB (listens (fcd number octets)) given = tt
  table_so PhaseB (listens rcp) given = tt
  table_so PhaseB (listens (pps ends page block last)) given = either (λ (a : AnswererAnswer). Answers before a.turn) (is_repeated s.accepted (record { page = page; block = block })) _ _ (λ h. confirms_so given) (λ h. tt)
  table_so PhaseB (listens (ppr marks)) given = tt
  table_so PhaseB (listens mcf) given = tt
  table_so PhaseB (listens rnr) given = tt
  table_so PhaseB (listens rr) given = either (λ (a : AnswererAnswer). Answers before a.turn) (is_some s.accepted && is_clear s.frames) _ _ (λ h. confirms_so given) (λ h. tt)
  table_so PhaseB (listens dcn) given = tt
  table_so PhaseB (listens (other octet)) given = tt
  table_so PhaseB (trains octets) given = tt
  table_so PhaseB t2 given = tt
  table_so PhaseB t1 given = tt
  table_so PhaseB (is_busy busy) given = tt
  table_so InTraining (listens (dis caps)) given = tt
  table_so InTraining (listens (dcs params)) given = either (λ (a : AnswererAnswer). Answers before a.turn) (allowed s.caps params) _ _ (λ h. tt) (λ h. tt)
  table_so InTraining (listens cfr) given = tt
  table_so InTraining (listens ftt) given = tt
  table_so InTraining (listens (fcd number octets)) given = tt
  table_so InTraining (listens rcp) given = tt
  table_so InTraining (listens (pps ends page block last)) given = either (λ (a : AnswererAnswer). Answers before a.turn) (is_repeated s.accepted (record { page = page; block = block })) _ _ (λ h. confirms_so given) (λ h. tt)
  table_so InTraining (listens (ppr marks)) given = tt
  table_so InTraining (listens mcf) given = tt
  table_so InTraining (listens rnr) given = tt
  table_so InTraining (listens rr) given = either (λ (a : AnswererAnswer). Answers before a.turn) (is_some s.accepted && is_clear s.frames) _ _ (λ h. confirms_so given) (λ h. tt)
  table_so InTraining (listens dcn) given = tt
  table_so InTraining (listens (other octet)) given = tt
  table_so InTraining (trains octets) given = either (λ (a : AnswererAnswer). Answers before a.turn) (is_good_training octets s.params) _ _ (λ h. given) (λ h. given)
  table_so InTraining t2 given = tt
  table_so InTraining t1 given = tt
  table_so InTraining (is_busy busy) given = tt
  table_so Message (listens (dis caps)) given = tt
  table_so Message (listens (dcs params)) given = either (λ (a : AnswererAnswer). Answers before a.turn) (allowed s.caps params) _ _ (λ h. tt) (λ h. tt)
  table_so Message (listens cfr) given = tt
  table_so Message (listens ftt) given = tt
  table_so Message (listens (fcd number octets)) given = either (λ (a : AnswererAnswer). Answers before a.turn) (within_frame_size s.params octets) _ _ (λ h. tt) (λ h. tt)
  table_so Message (listens rcp) given = tt
  table_so Message (listens (pps ends page block last)) given = pps_so ends (record { page = page; block = block }) last given
  table_so Message (listens (ppr marks)) given = tt
  table_so Message (listens mcf) given = tt
  table_so Message (listens rnr) given = tt
  table_so Message (listens rr) given = either (λ (a : AnswererAnswer). Answers before a.turn) (is_some s.accepted && is_clear s.frames) _ _ (λ h. confirms_so given) (λ h. tt)
  table_so Message (listens dcn) given = tt
  table_so Message (listens (other octet)) given = tt
  table_so Message (trains octets) given = tt
  table_so Message t2 given = tt
  table_so Message t1 given = tt
  table_so Message (is_busy busy) given = tt

  pub step_so : (input : AnswererInput) → Given input before → Answers before (answerer_step s input).turn
  step_so input given = at s.ending
    where
      at : (e : Option End) → Answers before (unless_answerer_ended e input s).turn
      at None = table_so s.state input given
      at (Some why) = tt

-- a frame of the answerer alone, or nothing
one_said : (signal : PlainSignal) (outcome : Outcome) (before : List PlainSaid) → is_not_trained signal before ≡ false →
    has_no_command signal before ≡ false → Both before → Both (and_said AnswererSide (sent outcome (framed signal ∷ [])) before)
one_said signal Done before a b h = ((a, h.0), (b, h.1))
one_said signal Nothing before a b h = ((a, h.0), (b, h.1))
one_said signal InputLost before a b h = ((a, h.0), (b, h.1))
one_said signal (Cut zero) before a b h = h
one_said signal (Cut (suc zero)) before a b h = ((a, h.0), (b, h.1))
one_said signal (Cut (suc (suc made))) before a b h = ((a, h.0), (b, h.1))

none_said : (outcome : Outcome) (before : List PlainSaid) → Both before → Both (and_said AnswererSide (sent outcome []) before)
none_said outcome before h = rw (sent_none outcome) h

silent_commanded : (outcome : Outcome) (w : World) (before : List PlainSaid) → Each (Commanded before) w.to_answerer →
    Each (Commanded (and_said AnswererSide (sent outcome []) before)) w.to_answerer
silent_commanded outcome w before h = rw (sent_none outcome) h

turn_answered : (t : Turn) (w : World) (next : Answerer) (outcome : Outcome) (before : List PlainSaid) → Answers before t → Answered w before →
    Answered (answerer_sends t w next (sent outcome (answerer_items next t))) (and_said AnswererSide (sent outcome (answerer_items next t)) before)
turn_answered turn.Silent w next outcome before so h =
    record { commanded = silent_commanded outcome w before h.commanded; both = none_said outcome before h.both }
turn_answered turn.Dis w next outcome before so h = record { commanded = tt; both = one_said (dis next.caps) outcome before refl refl h.both }
turn_answered turn.Training w next outcome before so h = record { commanded = tt; both = none_said outcome before h.both }
turn_answered turn.Cfr w next outcome before so h = record { commanded = tt; both = one_said cfr outcome before (ap not (so false)) refl h.both }
turn_answered turn.Ftt w next outcome before so h = record { commanded = tt; both = one_said ftt outcome before (ap not (so false)) refl h.both }
turn_answered (turn.Burst marks) w next outcome before so h = record { commanded = tt; both = none_said outcome before h.both }
turn_answered turn.Pps w next outcome before so h = record { commanded = tt; both = none_said outcome before h.both }
turn_answered turn.Mcf w next outcome before so h = record { commanded = tt; both = one_said mcf outcome before refl (ap not (so false)) h.both }
turn_answered (turn.Ppr marks) w next outcome before so h =
    record { commanded = tt; both = one_said (ppr marks) outcome before refl (ap not (so false)) h.both }
turn_answered turn.Rnr w next outcome before so h = record { commanded = tt; both = one_said rnr outcome before refl (ap not (so false)) h.both }
turn_answered turn.Rr w next outcome before so h = record { commanded = tt; both = none_said outcome before h.both }
turn_answered turn.Dcn w next outcome before so h = record { commanded = tt; both = one_said dcn outcome before refl refl h.both }

answerer_answered : (w : World) (outcome : Outcome) (input : AnswererInput) (before : List PlainSaid) → Given input before → Answered w before →
    Answered (answerer_acts w outcome input) (answerer_speaks w.answerer outcome input before)
answerer_answered w outcome input before given h =
    turn_answered (answerer_step w.answerer input).turn w (answerer_step w.answerer input).next outcome before
    (step_so before w.answerer input given) h

-- ---- one event

given_item : (signal : PlainSignal) (before : List PlainSaid) → Commanded before (framed signal) → Given (listens signal) before
given_item (dis caps) before h = tt
given_item (dcs params) before h = tt
given_item cfr before h = tt
given_item ftt before h = tt
given_item (fcd number octets) before h = tt
given_item rcp before h = tt
given_item (pps ends page block last) before h = h
given_item (ppr marks) before h = tt
given_item mcf before h = tt
given_item rnr before h = tt
given_item rr before h = h
given_item dcn before h = tt
given_item (other octet) before h = tt

pub given_input : (input : AnswererInput) (before : List PlainSaid) → KnownToAnswerer (Commanded before) input → Given input before
given_input (listens signal) before h = given_item signal before h
given_input (trains octets) before h = h
given_input t1 before h = tt
given_input t2 before h = tt
given_input (is_busy busy) before h = tt

-- a frame comes to the caller while nothing is under way to the answerer
caller_part : (w : World) (rest : List PlainItem) (outcome : Outcome) (input : CallerInput) (before : List PlainSaid) → LineFacts w →
    ToCaller input w.to_caller rest → Answered w before →
    Answered (caller_acts (record w { to_caller = rest }) outcome input) (caller_speaks w.caller outcome input before)
caller_part w rest outcome (hears signal) before f is h =
    hears_answered (record w { to_caller = rest }) outcome (hears signal) before (none f.one_way) h.both
  where
    none : (w.to_answerer ≡ []) ⊎ (w.to_caller ≡ []) → w.to_answerer ≡ []
    none (inl empty) = empty
    none (inr empty) = absurd (no_more (sym is ∙ empty))
caller_part w rest outcome timeout before f is h =
    subst (λ items. Answered (caller_acts (record w { to_caller = items }) outcome timeout) (caller_speaks w.caller outcome timeout before)) is
    (timer_answered w f outcome timeout before tt h)
caller_part w rest outcome t5 before f is h =
    subst (λ items. Answered (caller_acts (record w { to_caller = items }) outcome t5) (caller_speaks w.caller outcome t5 before)) is
    (timer_answered w f outcome t5 before tt h)

spoiled_commanded : (before : List PlainSaid) (items : List PlainItem) → Each (Commanded before) items → Each (Commanded before) (spoiled items)
spoiled_commanded before [] h = tt
spoiled_commanded before (framed signal ∷ items) h = h
spoiled_commanded before (checked octets ∷ items) h = h

pub answered_parts : PartsKeep Answered LineFacts Any
answered_parts = record {
  caller = λ w rest outcome input before fine f after is h. caller_part w rest outcome input before f is h;
  answerer = λ w rest outcome input before fine f after is h.
      let taken = answerer_takes (Commanded before) input w.to_answerer rest is h.commanded in
      answerer_answered (record w { to_answerer = rest }) outcome input before (given_input input before taken.0)
      (record { commanded = taken.1; both = h.both });
  lost_to_caller = λ w item rest before is h. record { commanded = h.commanded; both = h.both };
  lost_to_answerer = λ w item rest before is h.
      record { commanded = each_rest (Commanded before) item w.to_answerer rest is h.commanded; both = h.both };
  spoil = λ w before h. record { commanded = spoiled_commanded before w.to_answerer h.commanded; both = h.both };
}

pub answered_first : (document : Document) (wish : Wish) (caps : Caps) →
    Answered (new_world document wish caps) (record { by = AnswererSide; signal = dis caps } ∷ [])
answered_first document wish caps = record { commanded = tt; both = ((refl, tt), (refl, tt)) }

-- the laws
pub answers_commands : LineHolds → RuleIsKeptOfPages NotTrained × RuleIsKeptOfPages NoCommand
answers_commands holds_facts =
    ((λ document wish caps steps full. (answered document wish caps steps full).0), λ document wish caps steps full. (answered document wish caps steps full).1)
  where
    answered : (document : Document) (wish : Wish) (caps : Caps) (steps : List (Event × Outcome)) → Each IsFullPage document →
        Both (call_said document wish caps steps)
    answered document wish caps steps full =
        (run_keeps Answered LineFacts Any answered_parts steps (new_world document wish caps)
        (record { by = AnswererSide; signal = dis caps } ∷ []) (all_any steps) (λ more. holds_facts document wish caps more full)
        (answered_first document wish caps)).both

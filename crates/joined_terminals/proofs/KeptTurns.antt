-- What is left of the turn that a terminal keeps, after its station has taken signals: as much as before if each turn was silence.
use Rattle.std.proofs.Common.{◌≡◌, ◌⊎◌, inl, inr, ℕ, zero, suc, Bool, true, false, cond, Option, Some, None, List, [], ◌∷◌, refl, ap}
use Rattle.std.proofs.Common.{sym, subst, ◌∙◌}
use Rattle.std.specs.Prelude.{◌≢◌, ◌&&◌, drop}
use Rattle.raster.specs.Pages.{PagePixels}
use Rattle.signals.specs.Agreement.{allowed}
use Rattle.signals.specs.Signals.{dcs, fcd, pps, rr}
use Rattle.signals.specs.declared.mark.Mark.{Mark}
use Rattle.signals.specs.declared.params.Params.{Params}
use Rattle.signals.specs.declared.params.Speed.{Speed}
use Rattle.signals.specs.declared.signal.PageEnd.{PageEnd}
use Rattle.signals.specs.declared.signal.PageEnd.TheVariants.{Null, Mps, Eom, Eop}
use Rattle.partial_page.specs.Assembling.{all_there, last_counted, within_frame_size}
use Rattle.stations.specs.AnswererStep.{Answerer, AnswererAnswer, answerer_items, answerer_silent, answerer_step, answerer_table, answers_pps}
use Rattle.stations.specs.AnswererStep.{is_repeated, judges_block, stores, takes_block, unless_answerer_ended}
use Rattle.stations.specs.Bursts.{PlainBurst, bursts_of}
use Rattle.stations.specs.CallerFields.{Represents}
use Rattle.stations.specs.CallerStep.{Caller, caller_items}
use Rattle.stations.specs.Inputs.{AnswererInput, CallerInput, listens, trains, t2}
use Rattle.stations.specs.Layers.{is_good_training, page_read, within_page_limit}
use Rattle.stations.specs.Limiting.{LimitedFields, busy_answer, busy_while, filled, is_full, is_kept_out, limited_step, not_ready}
use Rattle.stations.specs.Stopping.{StoppableCallerFields}
use Rattle.stations.specs.Waits.{caller_wait, unless_over}
use Rattle.stations.specs.declared.limiting.Limits.{Limits}
use Rattle.stations.specs.declared.stopping.Cut.{Cut}
use Rattle.stations.specs.declared.turn.AnswererState.{AnswererState}
use Rattle.stations.specs.declared.turn.AnswererState.TheVariants.{PhaseB, WaitTraining, Message}
use Rattle.stations.specs.declared.turn.End.{End}
use Rattle.stations.specs.declared.turn.Turn.{Turn}
use Rattle.stations.specs.declared.turn.Turn.TheVariants.{Silent, Dis as SendDis, Cfr as SendCfr, Ftt as SendFtt, Mcf as SendMcf}
use Rattle.stations.specs.declared.turn.Turn.TheVariants.{Ppr as SendPpr, Rnr as SendRnr, Dcn as SendDcn}
use Rattle.terminals.specs.Hearing.{PlainInput}
use Rattle.terminals.specs.Speaking.{Speaking, Takes, is_silent, spoken}
use Rattle.terminals.specs.Stations.{answerer_takes, caller_answers, caller_given, caller_takes}
use Rattle.terminals.specs.Stopping.{CallerStepsUnlessCut, LimitedStepsUnlessCut, limited_answers}
use Rattle.terminals.specs.Writable.{HasWholeMap, MapsAreWhole}
use Rattle.line_sim.proofs.Lists.{drop_nil}
use Rattle.joined_terminals.specs.Joining.{AnswererMakes, CallerMakes}
use Rattle.joined_terminals.specs.Octets.{TakesSo}
use Rattle.joined_terminals.specs.WholeCall.{AnswererHasNone, CallerHasNone}
use Rattle.joined_terminals.proofs.HoldsOne.{either}
use Rattle.joined_terminals.proofs.Silent.{LeavesTurn, same_leaves, silent_leaves}

-- ---- an answerer's step is silent, or its turn has a burst

-- a turn that has a burst, whatever the answerer is
abbrev pub IsReply : Turn → Type 0
IsReply turn = (s : Answerer) → bursts_of s.params.speed (answerer_items s turn) ≢ []

abbrev pub IsSilentOrReply : Turn → Type 0
IsSilentOrReply turn = (turn ≡ Silent) ⊎ IsReply turn

dis_replies : IsReply SendDis
unfolding bursts_of
dis_replies s e = cc

cfr_replies : IsReply SendCfr
unfolding bursts_of
cfr_replies s e = cc

ftt_replies : IsReply SendFtt
unfolding bursts_of
ftt_replies s e = cc

mcf_replies : IsReply SendMcf
unfolding bursts_of
mcf_replies s e = cc

rnr_replies : IsReply SendRnr
unfolding bursts_of
rnr_replies s e = cc

dcn_replies : IsReply SendDcn
unfolding bursts_of
dcn_replies s e = cc

ppr_replies : (map : List ℕ) → IsReply (SendPpr map)
unfolding bursts_of
ppr_replies map s e = cc

abbrev Answers : AnswererAnswer → Type 0
Answers answer = IsSilentOrReply answer.turn

confirms_so : (busy : Bool) → IsSilentOrReply (cond busy SendRnr SendMcf)
confirms_so true = inr rnr_replies
confirms_so false = inr mcf_replies

stores_so : (s : Answerer) (ends : PageEnd) (mark : Mark) (page : Option PagePixels) → Answers (stores s ends mark page)
stores_so s ends mark None = inr dcn_replies
stores_so s ends mark (Some page) = confirms_so s.busy

takes_so : (s : Answerer) (ends : PageEnd) (mark : Mark) (octets : List ℕ) → Answers (takes_block s ends mark octets)
takes_so s Null mark octets = either Answers (within_page_limit octets) _ _ (confirms_so s.busy) (inr dcn_replies)
takes_so s Mps mark octets = stores_so s Mps mark (page_read s.params octets)
takes_so s Eom mark octets = stores_so s Eom mark (page_read s.params octets)
takes_so s Eop mark octets = stores_so s Eop mark (page_read s.params octets)

judges_so : (s : Answerer) (ends : PageEnd) (mark : Mark) (last : ℕ) → Answers (judges_block s ends mark last)
judges_so s ends mark last =
    either Answers (all_there s.frames last) _ _ (takes_so s ends mark _) (inr (ppr_replies _))

pps_so : (s : Answerer) (ends : PageEnd) (mark : Mark) (last : ℕ) → Answers (answers_pps s ends mark last)
pps_so s ends mark last =
    either Answers (is_repeated s.accepted mark) _ _ (confirms_so s.busy) (judges_so s ends mark (last_counted s.asked mark last))

silent_so : (b : Bool) (x y : Answerer) →
    Answers (cond b (record { next = x; turn = Silent }) (record { next = y; turn = Silent }))
silent_so b x y = either Answers b _ _ (inl refl) (inl refl)

confirmed_so : (b : Bool) (s : Answerer) →
    Answers (cond b (record { next = s; turn = cond s.busy SendRnr SendMcf }) (answerer_silent s))
confirmed_so b s = either Answers b _ _ (confirms_so s.busy) (inl refl)

table_so : (state : AnswererState) (input : AnswererInput) (s : Answerer) → Answers (answerer_table state input s)
table_so PhaseB (listens (dcs params)) s = silent_so (allowed s.caps params) _ _
table_so PhaseB t2 s = inr dis_replies
table_so WaitTraining t2 s = inr dis_replies
table_so WaitTraining (trains octets) s =
    either Answers (is_good_training octets s.params) _ _ (inr cfr_replies) (inr ftt_replies)
table_so WaitTraining (listens (dcs params)) s = silent_so (allowed s.caps params) _ _
table_so Message (listens (dcs params)) s = silent_so (allowed s.caps params) _ _
table_so Message (listens (fcd number octets)) s = silent_so (within_frame_size s.params octets) _ _
table_so Message (listens (pps ends page block last)) s = pps_so s ends _ last
table_so Message (listens rr) s = confirmed_so _ s
table_so PhaseB (listens (pps ends page block last)) s = confirmed_so _ s
table_so WaitTraining (listens (pps ends page block last)) s = confirmed_so _ s
table_so PhaseB (listens rr) s = confirmed_so _ s
table_so WaitTraining (listens rr) s = confirmed_so _ s
table_so _ _ s = inl refl

step_so : (s : Answerer) (input : AnswererInput) → Answers (answerer_step s input)
step_so s input = at s.ending
  where
    at : (ending : Option End) → Answers (unless_answerer_ended ending input s)
    at (Some why) = inl refl
    at None = table_so s.state input s

not_ready_so : (turn : Turn) → IsSilentOrReply turn → IsSilentOrReply (not_ready turn)
not_ready_so SendMcf h = inr rnr_replies
not_ready_so _ h = h

filled_so : (before after : Bool) (answer : AnswererAnswer) → Answers answer → Answers (filled before after answer)
filled_so before after answer h = either Answers _ (busy_answer answer) answer (not_ready_so answer.turn h) h

limited_so : (limits : Limits) (s : Answerer) (input : AnswererInput) → Answers (limited_step limits s input)
limited_so limits s input =
    let full : Bool = is_full limits s.pages in
    let answer : AnswererAnswer = answerer_step s (busy_while full input) in
    either Answers (full && is_kept_out s input) (answerer_silent s) (filled full (is_full limits answer.next.pages) answer) (inl refl)
    (filled_so full (is_full limits answer.next.pages) answer (step_so s (busy_while full input)))

given_so : (limits : Limits) (s : Answerer) (input : Option AnswererInput) → Answers (limited_answers limits s input)
given_so limits s None = inl refl
given_so limits s (Some input) = limited_so limits s input

pub turn_so : (cut : Option Cut) (old : LimitedFields) (input : PlainInput) (new : LimitedFields) (turn : Turn) →
    LimitedStepsUnlessCut cut old input new turn → IsSilentOrReply turn
turn_so None old input new turn h = subst IsSilentOrReply (sym h.0.1) (given_so old.limits old.station (answerer_takes input))
turn_so (Some why) old input new turn h = inl h.1

-- ---- what is left of an answerer's turn

-- nothing is left of the turn that is kept
abbrev pub HasNone : Speaking LimitedFields → Type 0
HasNone now = AnswererHasNone now.station.station now.turn now.taken

one_alike : (b c : PlainBurst) (taken : ℕ) → drop taken (b ∷ []) ≡ [] → drop taken (c ∷ []) ≡ []
one_alike b c zero e = absurd (cc)
one_alike b c (suc n) e = e

-- how many bursts a turn has doesn't depend on the answerer
none_alike : (s r : Answerer) (turn : Turn) (taken : ℕ) → AnswererHasNone s turn taken → AnswererHasNone r turn taken
unfolding bursts_of
none_alike s r SendDis taken e = one_alike _ _ taken e
none_alike s r SendCfr taken e = one_alike _ _ taken e
none_alike s r SendFtt taken e = one_alike _ _ taken e
none_alike s r SendMcf taken e = one_alike _ _ taken e
none_alike s r (SendPpr map) taken e = one_alike _ _ taken e
none_alike s r SendRnr taken e = one_alike _ _ taken e
none_alike s r SendDcn taken e = one_alike _ _ taken e
none_alike s r _ taken e = e

-- after silence as much is left as before; after another turn all of it
abbrev pub Kept : Bool → Speaking LimitedFields → Speaking LimitedFields → Type 0
Kept true old new = (HasNone old → HasNone new) × (HasNone new → HasNone old) × (new.taken ≡ old.taken)
Kept false old new = (¬ HasNone new) × (new.taken ≡ 0)

abbrev KeptWhole : Bool → Speaking LimitedFields → Speaking LimitedFields → Type 0
KeptWhole silent old new = HasWholeMap new.turn × Kept silent old new

spoke : (old : Speaking LimitedFields) (station : LimitedFields) (turn : Turn) → IsSilentOrReply turn → HasWholeMap turn → HasWholeMap old.turn →
    KeptWhole (is_silent turn) old (spoken old station turn)
spoke old station Silent h map before = (
  before,
  (
    none_alike old.station.station station.station old.turn old.taken,
    none_alike station.station old.station.station old.turn old.taken,
    refl,
  ),
)
spoke old station turn (inl e) map before = absurd (cc)
spoke old station turn (inr reply) map before = (map, (λ none. reply station.station none, refl))

-- one input that is taken
pub one_kept : MapsAreWhole → (input : PlainInput) (old new : Speaking LimitedFields) (takes : Takes LimitedFields AnswererMakes old input new) →
    HasWholeMap old.turn → KeptWhole (is_silent takes.turn) old new
one_kept maps input old new takes before =
    subst (λ (n : Speaking LimitedFields). KeptWhole (is_silent takes.turn) old n) (sym takes.is)
    (spoke old takes.station takes.turn (turn_so old.station.cut old.station input takes.station takes.turn takes.steps_so)
    (maps.limited old.station takes.station input takes.turn takes.steps_so) before)

join : (a b : Bool) (old mid new : Speaking LimitedFields) → Kept a old mid → Kept b mid new → Kept (a && b) old new
join true true old mid new h k = (λ none. k.0 (h.0 none), λ none. h.1 (k.1 none), k.2 ∙ h.2)
join true false old mid new h k = k
join false true old mid new h k = (λ none. h.0 (k.1 none), k.2 ∙ h.1)
join false false old mid new h k = k

took : MapsAreWhole → (input : PlainInput) (inputs : List PlainInput) (old mid new : Speaking LimitedFields) (silent later : Bool) →
    ((takes : Takes LimitedFields AnswererMakes old input mid) × (silent ≡ (is_silent takes.turn && later))) ⊎ ((mid ≡ old) × (silent ≡ later)) →
    TakesSo AnswererMakes mid inputs new later →
    ((m : Speaking LimitedFields) → TakesSo AnswererMakes m inputs new later → HasWholeMap m.turn → KeptWhole later m new) →
    HasWholeMap old.turn → KeptWhole silent old new
took maps input inputs old mid new silent later (inl t) more again before =
    let one = one_kept maps input old mid t.0 before in
    let rest = again mid more one.0 in
    subst (λ b. KeptWhole b old new) (sym t.1) (rest.0, join (is_silent t.0.turn) later old mid new one.1 rest.1)
took maps input inputs old mid new silent later (inr t) more again before =
    subst (λ b. KeptWhole b old new) (sym t.1)
    (again old (subst (λ (m : Speaking LimitedFields). TakesSo AnswererMakes m inputs new later) t.0 more) before)

pub takes_kept : MapsAreWhole → (inputs : List PlainInput) (old new : Speaking LimitedFields) (silent : Bool) →
    TakesSo AnswererMakes old inputs new silent → HasWholeMap old.turn → KeptWhole silent old new
takes_kept maps [] old new silent h before =
    subst (λ b. KeptWhole b old new) (sym h.1)
    (subst (λ (n : Speaking LimitedFields). KeptWhole true old n) (sym h.0) (before, (λ none. none, λ none. none, refl)))
takes_kept maps (input ∷ inputs) old new silent h before =
    took maps input inputs old h.0 new silent h.1 h.2 h.3 (λ m. takes_kept maps inputs m new h.1) before

-- ---- what is left of a caller's turn

none_of_none : (speed : Speed) (taken : ℕ) → drop taken (bursts_of speed []) ≡ []
unfolding bursts_of
none_of_none speed taken = drop_nil {A = PlainBurst} taken [] refl

leaves_none : (c next : Caller) → LeavesTurn c next → (turn : Turn) (taken : ℕ) → CallerHasNone c turn taken → CallerHasNone next turn taken
leaves_none c next l turn taken none = at (l.items turn)
  where
    at : (caller_items next turn ≡ caller_items c turn) ⊎ (caller_items next turn ≡ []) → CallerHasNone next turn taken
    at (inl e) =
        ap (λ items. drop taken (bursts_of next.params.speed items)) e ∙
        (ap (λ (p : Params). drop taken (bursts_of p.speed (caller_items c turn))) l.params ∙ none)
    at (inr e) =
        ap (λ items. drop taken (bursts_of next.params.speed items)) e ∙ none_of_none next.params.speed taken

given_leaves : (t : Caller) (input : PlainInput) → (caller_given t input).turn ≡ Silent → LeavesTurn t (caller_given t input).next
given_leaves t input = at (caller_takes (unless_over t.ending (Some (caller_wait t.state))) input)
  where
    at : (taken : Option CallerInput) → (caller_answers t taken).turn ≡ Silent → LeavesTurn t (caller_answers t taken).next
    at None e = same_leaves t
    at (Some given) e = silent_leaves t given e

-- a caller that is represented after signals; if each turn was silence, no more is left of the kept one than before
pub record CallerKept (silent : Bool) (t : Caller) (old new : Speaking StoppableCallerFields) : Type 0 where
  pub next : Caller
  pub represents : Represents new.station.station next
  pub none : silent ≡ true → CallerHasNone t old.turn old.taken → CallerHasNone next new.turn new.taken

silent_is : (turn : Turn) → is_silent turn ≡ true → turn ≡ Silent
silent_is Silent e = refl
silent_is _ e = absurd (cc)

caller_spoke : (old : Speaking StoppableCallerFields) (station : StoppableCallerFields) (turn : Turn) (t next : Caller) →
    Represents station.station next → (turn ≡ Silent → LeavesTurn t next) → CallerKept (is_silent turn) t old (spoken old station turn)
caller_spoke old station Silent t next r leaves =
    record { next = next; represents = r; none = λ e. leaves_none t next (leaves refl) old.turn old.taken }
caller_spoke old station turn t next r leaves = record { next = next; represents = r; none = λ e. absurd (cc) }

caller_one : (input : PlainInput) (old new : Speaking StoppableCallerFields) (t : Caller)
    (takes : Takes StoppableCallerFields CallerMakes old input new) → Represents old.station.station t → CallerKept (is_silent takes.turn) t old new
caller_one input old new t takes r =
    subst (λ (n : Speaking StoppableCallerFields). CallerKept (is_silent takes.turn) t old n) (sym takes.is)
    (at old.station.cut takes.steps_so)
  where
    at : (cut : Option Cut) → CallerStepsUnlessCut cut old.station input takes.station takes.turn →
        CallerKept (is_silent takes.turn) t old (spoken old takes.station takes.turn)
    at None h =
        let steps = h.0 t r in
        caller_spoke old takes.station takes.turn t (caller_given t input).next steps.0
        (λ e. given_leaves t input (sym steps.1 ∙ e))
    at (Some why) h =
        caller_spoke old takes.station takes.turn t t (subst (λ (s : StoppableCallerFields). Represents s.station t) (sym h.0) r)
        (λ e. same_leaves t)

and_true : (a b : Bool) → (a && b) ≡ true → (a ≡ true) × (b ≡ true)
and_true true true e = (refl, refl)
and_true true false e = absurd (cc)
and_true false b e = absurd (cc)

caller_took : (input : PlainInput) (inputs : List PlainInput) (old mid new : Speaking StoppableCallerFields) (silent later : Bool) (t : Caller) →
    ((takes : Takes StoppableCallerFields CallerMakes old input mid) × (silent ≡ (is_silent takes.turn && later))) ⊎
    ((mid ≡ old) × (silent ≡ later)) →
    TakesSo CallerMakes mid inputs new later →
    ((m : Speaking StoppableCallerFields) (u : Caller) → TakesSo CallerMakes m inputs new later → Represents m.station.station u →
    CallerKept later u m new) →
    Represents old.station.station t → CallerKept silent t old new
caller_took input inputs old mid new silent later t (inl takes) more again r =
    let one = caller_one input old mid t takes.0 r in
    let rest = again mid one.next more one.represents in
    record {
      next = rest.next;
      represents = rest.represents;
      none = λ e none.
          let both = and_true (is_silent takes.0.turn) later (sym takes.1 ∙ e) in
          rest.none both.1 (one.none both.0 none);
    }
caller_took input inputs old mid new silent later t (inr same) more again r =
    subst (λ b. CallerKept b t old new) (sym same.1)
    (again old t (subst (λ (m : Speaking StoppableCallerFields). TakesSo CallerMakes m inputs new later) same.0 more) r)

pub caller_kept : (inputs : List PlainInput) (old new : Speaking StoppableCallerFields) (silent : Bool) (t : Caller) →
    TakesSo CallerMakes old inputs new silent → Represents old.station.station t → CallerKept silent t old new
caller_kept [] old new silent t h r =
    subst (λ (n : Speaking StoppableCallerFields). CallerKept silent t old n) (sym h.0)
    (record { next = t; represents = r; none = λ e none. none })
caller_kept (input ∷ inputs) old new silent t h r =
    caller_took input inputs old h.0 new silent h.1 t h.2 h.3 (λ m u. caller_kept inputs m new h.1 u) r

-- An answerer says RNR to a PPS or an RR alone.
use Rattle.std.proofs.Common.{◌≡◌, ◌≢◌, ℕ, Bool, true, false, cond, List, Option, Some, None, refl}
use Rattle.signals.specs.Agreement.{allowed}
use Rattle.signals.specs.Signals.{PlainSignal, dis, dcs, cfr, ftt, fcd, rcp, pps, ppr, mcf, rnr, rr, dcn, other}
use Rattle.stations.specs.AnswererStep.{Answerer, AnswererAnswer, answerer_table, unless_answerer_ended}
use Rattle.stations.specs.Inputs.{listens, trains}
use Rattle.stations.specs.Layers.{is_good_training}
use Rattle.partial_page.specs.Assembling.{within_frame_size}
use Rattle.stations.specs.declared.turn.AnswererState.{AnswererState}
use Rattle.stations.specs.declared.turn.AnswererState.TheVariants.{PhaseB, WaitTraining, Message}
use Rattle.stations.specs.declared.turn.End.{End}
use Rattle.stations.specs.declared.turn.Turn.TheVariants.{Rnr as SendRnr}
use Rattle.line_sim.specs.Entries.{signal_kind}
use Rattle.line_sim.specs.Fates.{AsksByKind, RnrIsAsked, asks_ready}
use Rattle.line_sim.specs.declared.event.Kind.{Kind}
use Rattle.line_sim.specs.declared.event.Kind.TheVariants.{Dis, Dcs, Training, Cfr, Ftt, Fcd, Rcp, Pps, Mcf, Ppr, Rnr, Rr, Dcn}

another : (kind : Kind) → kind ≢ Pps → kind ≢ Rr → asks_ready (Some kind) ≡ false
another Dis not_pps not_rr = refl
another Dcs not_pps not_rr = refl
another Training not_pps not_rr = refl
another Cfr not_pps not_rr = refl
another Ftt not_pps not_rr = refl
another (Fcd number) not_pps not_rr = refl
another Rcp not_pps not_rr = refl
another Pps not_pps not_rr = absurd (not_pps refl)
another Mcf not_pps not_rr = refl
another Ppr not_pps not_rr = refl
another Rnr not_pps not_rr = refl
another Rr not_pps not_rr = absurd (not_rr refl)
another Dcn not_pps not_rr = refl

pub asks_by_kind : AsksByKind
asks_by_kind = record { pps = refl; rr = refl; others = another; none = refl }

-- of two answers neither says RNR, so the one that is chosen doesn't
neither : (which : Bool) (one two : AnswererAnswer) → one.turn ≢ SendRnr → two.turn ≢ SendRnr → (cond which one two).turn ≢ SendRnr
neither true one two not_one not_other = not_one
neither false one two not_one not_other = not_other

asked_in : (state : AnswererState) (s : Answerer) (signal : PlainSignal) →
    (answerer_table state (listens signal) s).turn ≡ SendRnr → asks_ready (signal_kind signal) ≡ true
asked_in state s (pps ends page block last) says = refl
asked_in state s rr says = refl
asked_in PhaseB s (dis caps) says = cc
asked_in PhaseB s (dcs params) says = absurd (neither (allowed s.caps params) _ _ (λ e. cc) (λ e. cc) says)
asked_in PhaseB s cfr says = cc
asked_in PhaseB s ftt says = cc
asked_in PhaseB s (fcd number octets) says = cc
asked_in PhaseB s rcp says = cc
asked_in PhaseB s (ppr map) says = cc
asked_in PhaseB s mcf says = cc
asked_in PhaseB s rnr says = cc
asked_in PhaseB s dcn says = cc
asked_in PhaseB s (other octet) says = cc
asked_in WaitTraining s (dis caps) says = cc
asked_in WaitTraining s (dcs params) says = absurd (neither (allowed s.caps params) _ _ (λ e. cc) (λ e. cc) says)
asked_in WaitTraining s cfr says = cc
asked_in WaitTraining s ftt says = cc
asked_in WaitTraining s (fcd number octets) says = cc
asked_in WaitTraining s rcp says = cc
asked_in WaitTraining s (ppr map) says = cc
asked_in WaitTraining s mcf says = cc
asked_in WaitTraining s rnr says = cc
asked_in WaitTraining s dcn says = cc
asked_in WaitTraining s (other octet) says = cc
asked_in Message s (dis caps) says = cc
asked_in Message s (dcs params) says = absurd (neither (allowed s.caps params) _ _ (λ e. cc) (λ e. cc) says)
asked_in Message s cfr says = cc
asked_in Message s ftt says = cc
asked_in Message s (fcd number octets) says = absurd (neither (within_frame_size s.params octets) _ _ (λ e. cc) (λ e. cc) says)
asked_in Message s rcp says = cc
asked_in Message s (ppr map) says = cc
asked_in Message s mcf says = cc
asked_in Message s rnr says = cc
asked_in Message s dcn says = cc
asked_in Message s (other octet) says = cc

asked : (ending : Option End) (s : Answerer) (signal : PlainSignal) →
    (unless_answerer_ended ending (listens signal) s).turn ≡ SendRnr → asks_ready (signal_kind signal) ≡ true
asked None s signal says = asked_in s.state s signal says
asked (Some why) s signal says = cc

checked_in : (state : AnswererState) (s : Answerer) (octets : List ℕ) → (answerer_table state (trains octets) s).turn ≢ SendRnr
checked_in PhaseB s octets says = cc
checked_in WaitTraining s octets says = neither (is_good_training octets s.params) _ _ (λ e. cc) (λ e. cc) says
checked_in Message s octets says = cc

checked : (ending : Option End) (s : Answerer) (octets : List ℕ) → (unless_answerer_ended ending (trains octets) s).turn ≢ SendRnr
checked None s octets says = checked_in s.state s octets says
checked (Some why) s octets says = cc

pub rnr_is_asked : RnrIsAsked
rnr_is_asked s = record { signal = asked s.ending s; check = checked s.ending s }

-- In every world that events lead to the stations are in step.
use Rattle.std.proofs.Common.{List, [], ◌∷◌, ◌++◌, refl, subst}
use Rattle.signals.specs.Signals.{PlainSignal, mcf}
use Rattle.stations.specs.Inputs.{PlainItem, framed}
use Rattle.stations.specs.Laws.{Each}
use Rattle.stations.specs.CallerFields.{IsSending}
use Rattle.stations.specs.CallerStep.{blocks_of}
use Rattle.line_sim.specs.Line.{World, new_world, run}
use Rattle.line_sim.specs.LineFacts.{InGroup, IsDis, OnlyDisAfterFirst, LineFacts}
use Rattle.line_sim.specs.InStep.{IsUnderWay, InStep}
use Rattle.line_sim.specs.Headline.{Promised, StationsInStep}
use Rattle.line_sim.proofs.CallerKeeps.{phase_sending}
use Rattle.line_sim.proofs.LineKeeps.{new_world_facts, run_keeps}
use Rattle.line_sim.proofs.WholeRuns.{beginning}

-- what holds of each item holds of one that is among them
each_at : (P : PlainItem → Type 0) (before after : List PlainItem) (item : PlainItem) → Each P (before ++ item ∷ after) → P item
each_at P [] after item h = h.0
each_at P (first ∷ before) after item h = each_at P before after item h.1

under_way :
    (P : PlainItem → Type 0) (signal : PlainSignal) (items : List PlainItem) → Each P items → IsUnderWay signal items → P (framed signal)
under_way P signal items h at = each_at P at.0 at.1 (framed signal) (subst (Each P) at.2 h)

-- an MCF is no DIS, so it is the first item
after_mcf : (before after : List PlainItem) → OnlyDisAfterFirst (before ++ framed mcf ∷ after) → Each IsDis after
after_mcf [] after h = h
after_mcf (first ∷ before) after h = absurd (each_at IsDis before after (framed mcf) h)

pub in_step : (w : World) → LineFacts w → InStep w
in_step w f =
    let place = w.caller.place in
    let group :
    IsSending w.caller.state → InGroup _ place w.caller.params (blocks_of w.caller) f.accepted w.answerer.state w.answerer.params =
    λ sending. phase_sending w.caller.state w.caller f.accepted w.answerer sending f.stations.phase in
    record {
      one_way = f.one_way;
      accepted = f.accepted;
      near = f.stations.near;
      last = f.stations.last;
      confirmed = λ at. under_way _ _ w.to_caller f.to_caller at;
      busy = λ at. under_way _ _ w.to_caller f.to_caller at;
      asking = λ at. (under_way _ _ w.to_answerer f.to_answerer at).1;
      missing = λ map at. (under_way _ _ w.to_caller f.to_caller at).0;
      sent = λ number octets at. (under_way _ _ w.to_answerer f.to_answerer at).1;
      trained = λ at. under_way _ _ w.to_caller f.to_caller at;
      stays = λ at. under_way _ _ w.to_caller f.to_caller at;
      only_dis = λ before after is. after_mcf before after (subst OnlyDisAfterFirst is f.only_dis);
      same_params = λ sending. (group sending).same;
      message = λ sending same. (group sending).ready same;
      phase = λ sending more. (group sending).past more;
      open_frames = f.stations.open_frames;
      none_open = f.stations.cleared;
      octets = f.stations.octets;
      pages = beginning w w.caller.document refl f;
    }

pub stations_in_step : Promised → StationsInStep
stations_in_step laws document wish caps steps full =
    in_step (run steps (new_world document wish caps))
    (run_keeps laws steps (new_world document wish caps) (new_world_facts document wish caps full))

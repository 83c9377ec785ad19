use Rattle.std.proofs.Common.{refl}
use Rattle.terminals.specs.Hearing.{plain_input}
use Rattle.terminals.proofs.CutOff.{caller_stepped}
use Rattle.stations.specs.Inputs.{caller_input}
use Rattle.terminals.proofs.stopping.StoppableCallerStation.take.Goals as goal

pub returns-in-Some : goal.returns-in-Some
returns-in-Some c =
    caller_stepped c.args.self.now c.step.new.self (plain_input c.args.input) (caller_input c.in-Some.taken) c.waits.result c.step.result
    c.args.self.now.cut refl (rw c.station.ensures at c.waits.ensures) c.in-Some.ensures c.step.ensures

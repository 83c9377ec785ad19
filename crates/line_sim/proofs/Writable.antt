-- What travels can be written.
use Rattle.std.proofs.Common.{◌≡◌, ℕ, zero, suc, List, [], ◌∷◌, ◌++◌, Option, Some, None, refl, subst}
use Rattle.std.specs.Prelude.{slice_get}
use Rattle.signals.specs.Signals.{dis, dcs, cfr, ftt, fcd, rcp, pps, ppr, mcf, rnr, rr, dcn}
use Rattle.stations.specs.Blocks.{Block}
use Rattle.stations.specs.Inputs.{PlainItem, framed, checked}
use Rattle.stations.specs.Laws.{Each}
use Rattle.stations.specs.CallerStep.{Caller, blocks_of}
use Rattle.stations.specs.AnswererStep.{Answerer}
use Rattle.stations.specs.declared.turn.AnswererState.{AnswererState}
use Rattle.line_sim.specs.Line.{World, new_world, run}
use Rattle.line_sim.specs.LineFacts.{frame_at, StationFacts, MayReachAnswerer, MayReachCaller, LineFacts}
use Rattle.line_sim.proofs.Lists.{each_map}
use Rattle.stations.proofs.Progress.{block_fits}
use Rattle.signals.specs.Writing.{IsWritable}
use Rattle.stations.specs.Laws.{IsSendableFrame}
use Rattle.line_sim.specs.Headline.{Promised, CanBeWritten, LinesCanBeWritten}
use Rattle.line_sim.proofs.LineKeeps.{new_world_facts, run_keeps}

each_at : {A : Type 0} (P : A → Type 0) (xs : List A) (n : ℕ) (x : A) → Each P xs → slice_get xs n ≡ Some x → P x
each_at P [] n x h e = cc
each_at P (y ∷ xs) zero x h e = (let same : y ≡ x = cc in subst P same h.0)
each_at P (y ∷ xs) (suc n) x h e = each_at P xs n x h.1 e

frame_fits :
    (c : Caller) (s : Answerer) (a : ℕ) (at : Option Block) (number : ℕ) (octets : List ℕ) → StationFacts c s a →
    slice_get (blocks_of c) c.place ≡ at → frame_at at number ≡ Some octets → IsWritable (fcd number octets)
frame_fits c s a None number octets f is there = cc
frame_fits c s a (Some block) number octets f is there =
    let fits = block_fits (c.finished ++ c.present) c.document f.call.readable c.place block is in
    let frame = each_at (IsSendableFrame block.params) block.frames number octets fits.sendable.1 there in
    (frame.some, frame.few)

to_answerer : (c : Caller) (s : Answerer) (a : ℕ) → StationFacts c s a → (item : PlainItem) → MayReachAnswerer c a item → CanBeWritten item
to_answerer c s a f (checked octets) h = tt
to_answerer c s a f (framed (dcs params)) h = tt
to_answerer c s a f (framed (fcd number octets)) h = frame_fits c s a (slice_get (blocks_of c) c.place) number octets f refl h.2
to_answerer c s a f (framed rcp) h = tt
to_answerer c s a f (framed (pps ends page block last)) h = tt
to_answerer c s a f (framed rr) h = tt
to_answerer c s a f (framed dcn) h = tt
to_answerer c s a f (framed _) h = absurd h

to_caller : (place a : ℕ) (state : AnswererState) (item : PlainItem) → MayReachCaller place state a item → CanBeWritten item
to_caller place a state (checked octets) h = absurd h
to_caller place a state (framed (dis caps)) h = tt
to_caller place a state (framed cfr) h = tt
to_caller place a state (framed ftt) h = tt
to_caller place a state (framed mcf) h = tt
to_caller place a state (framed rnr) h = tt
to_caller place a state (framed (ppr map)) h = h.1
to_caller place a state (framed _) h = absurd h

pub line_can_be_written : (w : World) → LineFacts w → Each CanBeWritten w.to_answerer × Each CanBeWritten w.to_caller
line_can_be_written w f = (
  each_map _ _ w.to_answerer (to_answerer w.caller w.answerer f.accepted f.stations) f.to_answerer,
  each_map _ _ w.to_caller (to_caller w.caller.place f.accepted w.answerer.state) f.to_caller,
)

pub lines_can_be_written : Promised → LinesCanBeWritten
lines_can_be_written laws document wish caps steps full =
    line_can_be_written (run steps (new_world document wish caps))
    (run_keeps laws steps (new_world document wish caps) (new_world_facts document wish caps full))

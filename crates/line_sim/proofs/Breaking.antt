-- The smallest losses that break a call.
use Rattle.std.proofs.Common.{ℕ, List, [], ◌∷◌, Option, refl, ap}
use Rattle.signals.specs.declared.params.Caps.{Caps}
use Rattle.signals.specs.declared.params.Params.{Params}
use Rattle.signals.specs.declared.params.Wish.{Wish}
use Rattle.signals.specs.Agreement.{lower_speed}
use Rattle.stations.specs.CallerStep.{answers_dis, caller_items}
use Rattle.stations.specs.Layers.{Document, agreed_for, is_good_training, training, lowered}
use Rattle.stations.specs.declared.turn.End.{End}
use Rattle.line_sim.specs.Breaking.{LostDisBreak, LostDcsBreak, SpoiledCheckBreaks}
use Rattle.line_sim.specs.Driving.{comes, lost, Fate, drive, goes_to, new_driven}
use Rattle.line_sim.specs.Line.{caller_sends, new_world}

pub lost_dis : LostDisBreak
lost_dis document wish caps busy = refl

-- how a call goes on, for a number of steps by fates, once its first DIS has come and such parameters, if any, were agreed
abbrev end_by : Document → Wish → Caps → ℕ → List Fate → ℕ → Option Params → Option End
end_by document wish caps busy fates steps agreed =
    let w = record (new_world document wish caps) { to_caller = [] } in
    let answer = answers_dis w.caller caps agreed in
    (drive steps (record { calls = 3; busy = busy })
    (goes_to (new_driven document wish caps (comes ∷ fates))
    (caller_sends answer.turn w answer.next (caller_items answer.next answer.turn)) 1 0 fates)).world.caller.ending

pub lost_dcs : LostDcsBreak
lost_dcs page pages wish caps params agreed busy =
    ap (end_by (page ∷ pages) wish caps busy (lost ∷ comes ∷ lost ∷ comes ∷ lost ∷ []) 9) agreed

pub spoiled_check : SpoiledCheckBreaks
unfolding agreed_for is_good_training training lowered lower_speed
spoiled_check rows pages busy = refl

-- The smallest losses that break a call, each of a kind.
use Rattle.std.specs.Prelude.{ℕ, ◌≡◌, true, false, List, [], ◌∷◌, Some}
use Rattle.raster.specs.declared.coding.Coding.TheVariants.{T6}
use Rattle.raster.specs.Pages.{PagePixels}
use Rattle.raster.specs.declared.row.Color.{Color}
use Rattle.signals.specs.declared.params.Caps.{Caps}
use Rattle.signals.specs.declared.params.Modems.TheVariants.{Fallback}
use Rattle.signals.specs.declared.params.PageWidth.TheVariants.{W2432}
use Rattle.signals.specs.declared.params.Params.{Params}
use Rattle.signals.specs.declared.params.Wish.{Wish}
use Rattle.stations.specs.Layers.{Document, agreed_for}
use Rattle.stations.specs.declared.turn.End.{End}
use Rattle.stations.specs.declared.turn.End.TheVariants.{NoAnswer, NoReply, Training}
use Rattle.line_sim.specs.Driving.{Fate, comes, lost, spoiled, drive, new_driven}

-- after a number of steps by these fates, the caller of a driven call with at most three DIS in a wait has ended for this reason
abbrev pub EndsFor : Document → Wish → Caps → List Fate → ℕ → End → Type 0
EndsFor document wish caps fates steps why =
    (busy : ℕ) → (drive steps (record { calls = 3; busy = busy }) (new_driven document wish caps fates)).world.caller.ending ≡ Some why

-- The fewest losses that break a call before its first page: three lost DIS, if three are sent in a wait, end it with NoAnswer.
abbrev pub LostDisBreak : Type 0
LostDisBreak = (document : Document) (wish : Wish) (caps : Caps) → EndsFor document wish caps (lost ∷ lost ∷ lost ∷ []) 6 NoAnswer

-- a DIS comes, and the DCS is lost three times: the training check alone gets no reply, and the call ends with NoReply
abbrev pub LostDcsBreak : Type 0
LostDcsBreak =
    (page : PagePixels) (pages : Document) (wish : Wish) (caps : Caps) (params : Params) → agreed_for caps wish (Some page) ≡ Some params →
    EndsFor (page ∷ pages) wish caps (comes ∷ lost ∷ comes ∷ lost ∷ comes ∷ lost ∷ []) 10 NoReply

-- a caller that has one speed, 2,400 bit/s
abbrev pub slow_wish : Wish
slow_wish = record { modems = Fallback; coding = T6; small = false }

-- an answerer that has the same speed alone
abbrev pub slow_caps : Caps
slow_caps = record { receiver = true; modems = Fallback; fine = true; widest = W2432; t6 = true; ecm = true }

-- one spoiled training check ends a call with Training if both stations have only one common speed
abbrev pub SpoiledCheckBreaks : Type 0
SpoiledCheckBreaks =
    (rows : List (List Color)) (pages : Document) →
    EndsFor (record { width = 1728; fine = false; rows = rows } ∷ pages) slow_wish slow_caps (comes ∷ comes ∷ spoiled ∷ []) 4 Training

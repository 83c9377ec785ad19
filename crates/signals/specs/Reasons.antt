-- Why two stations have no way to send pages (ITU-T T.30, 5.3.6.2).
use Rattle.std.specs.Prelude.{ℕ, ◌≡◌, ◌<◌, ◌≤◌, ◌⊎◌, Bool, true, false}
use Rattle.signals.specs.Agreement.{pixels_of, supports_speed}
use Rattle.signals.specs.declared.params.Caps.{Caps}
use Rattle.signals.specs.declared.params.PageWidth.{PageWidth}
use Rattle.signals.specs.declared.params.Speed.{Speed}
use Rattle.signals.specs.declared.params.Wish.{Wish}
use Rattle.signals.specs.declared.reason.Reason.{Reason}
use Rattle.signals.specs.declared.reason.Reason.TheVariants.{NoReceiver, NoErrorCorrection, TooWide, NoFineLines, NoCommonSpeed}

-- what each reason says of the answerer, the caller's wish and the pages
abbrev pub IsReason : Caps → Wish → PageWidth → Bool → Reason → Type 0
IsReason caps wish width fine NoReceiver = caps.receiver ≡ false
IsReason caps wish width fine NoErrorCorrection = caps.ecm ≡ false
IsReason caps wish width fine TooWide = pixels_of caps.widest < pixels_of width
IsReason caps wish width fine NoFineLines = (fine ≡ true) × (caps.fine ≡ false)
IsReason caps wish width fine NoCommonSpeed =
    (speed : Speed) → (supports_speed wish.modems speed ≡ false) ⊎ (supports_speed caps.modems speed ≡ false)

-- the order of the five reasons: the first one that holds is given
abbrev pub reason_place : Reason → ℕ
reason_place NoReceiver = 0
reason_place NoErrorCorrection = 1
reason_place TooWide = 2
reason_place NoFineLines = 3
reason_place NoCommonSpeed = 4

-- the reason holds, and none of those before it does
pub record IsFirstReason (caps : Caps) (wish : Wish) (width : PageWidth) (fine : Bool) (reason : Reason) : Type 0 where
  pub is : IsReason caps wish width fine reason
  pub first : (other : Reason) → reason_place other < reason_place reason → IsReason caps wish width fine other → ⊥

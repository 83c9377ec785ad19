-- What two stations agree on and which speed comes next, said by the standard's table of speeds and by what each side offers.
use Rattle.std.specs.Prelude.{ℕ, ◌≡◌, ◌≤◌, ◌<◌, ◌↔◌, ◌⊎◌, Bool, true, false, List, [], ◌∷◌, Option, Some, None, Result, Ok, Err, Contains}
use Rattle.std.specs.Prelude.{codes}
use Rattle.raster.specs.declared.coding.Coding.TheVariants.{T6}
use Rattle.signals.specs.Agreement.{pixels_of, supports_speed, lower_speed, agreed, allowed}
use Rattle.signals.specs.Sending.{speed_text, width_text}
use Rattle.signals.specs.Training.{bits_a_second, training_octets}
use Rattle.signals.specs.declared.agreement.NotCompatible.{NotCompatible}
use Rattle.signals.specs.declared.params.Caps.{Caps}
use Rattle.signals.specs.declared.params.Modems.{Modems}
use Rattle.signals.specs.declared.params.Modems.TheVariants.{Fallback, V27, V29, V27V29, V17}
use Rattle.signals.specs.declared.params.PageWidth.{PageWidth}
use Rattle.signals.specs.declared.params.Params.{Params}
use Rattle.signals.specs.declared.params.Speed.{Speed}
use Rattle.signals.specs.declared.params.Speed.TheVariants.{V27At2400, V27At4800, V29At7200, V29At9600, V17At7200, V17At9600, V17At12000}
use Rattle.signals.specs.declared.params.Speed.TheVariants.{V17At14400}
use Rattle.signals.specs.declared.params.Wish.{Wish}

-- the recommendations by which pages are sent
pub data Modulation : Type 0 where
  v27ter v29 v17 : Modulation

-- the recommendation of each speed
abbrev pub modulation : Speed → Modulation
modulation V27At2400 = v27ter
modulation V27At4800 = v27ter
modulation V29At7200 = v29
modulation V29At9600 = v29
modulation V17At7200 = v17
modulation V17At9600 = v17
modulation V17At12000 = v17
modulation V17At14400 = v17

-- a row of the standard's table of speeds: bits 11 to 14 of a DCS, the recommendation, the bits a second, and the octets of a training
-- check of 1.5 s
pub record SpeedRow : Type 0 where
  pub text : List ℕ
  pub by : Modulation
  pub rate : ℕ
  pub octets : ℕ

-- the standard's table of speeds (ITU-T T.30, table 2)
abbrev pub speed_table : List SpeedRow
speed_table =
    record { text = codes "0000"; by = v27ter; rate = 2400; octets = 450 }
    ∷ record { text = codes "0100"; by = v27ter; rate = 4800; octets = 900 }
    ∷ record { text = codes "1000"; by = v29; rate = 9600; octets = 1800 }
    ∷ record { text = codes "1100"; by = v29; rate = 7200; octets = 1350 }
    ∷ record { text = codes "0001"; by = v17; rate = 14400; octets = 2700 }
    ∷ record { text = codes "0101"; by = v17; rate = 12000; octets = 2250 }
    ∷ record { text = codes "1001"; by = v17; rate = 9600; octets = 1800 }
    ∷ record { text = codes "1101"; by = v17; rate = 7200; octets = 1350 }
    ∷ []

-- law: each speed has its row of the standard's table: its bits in a DCS, its recommendation, its bits a second and the octets of its
-- training check (T.30, table 2)
abbrev pub SpeedsHaveRows : Type 0
SpeedsHaveRows =
    (speed : Speed) →
    Contains speed_table
    (record { text = speed_text speed; by = modulation speed; rate = bits_a_second speed; octets = training_octets speed })

-- the standard's table of widths: bits 17 and 18 of a DCS, and pixels
abbrev pub width_table : List (List ℕ × ℕ)
width_table = (codes "00", 1728) ∷ (codes "01", 2432) ∷ (codes "10", 2048) ∷ []

-- law: each width has its row of the standard's table: its bits in a DCS and its pixels
abbrev pub WidthsHaveRows : Type 0
WidthsHaveRows = (width : PageWidth) → Contains width_table (width_text width, pixels_of width)

-- the recommendations that modems have, but for the fallback, which is V.27 ter at its lower speed alone
abbrev pub modulations_of : Modems → List Modulation
modulations_of Fallback = []
modulations_of V27 = v27ter ∷ []
modulations_of V29 = v29 ∷ []
modulations_of V27V29 = v27ter ∷ v29 ∷ []
modulations_of V17 = v27ter ∷ v29 ∷ v17 ∷ []

-- modems have a speed: each speed of each recommendation that they have, and V.27 ter at 2,400 bits a second in the fallback
abbrev pub HasSpeed : Modems → Speed → Type 0
HasSpeed Fallback speed = (modulation speed ≡ v27ter) × (bits_a_second speed ≡ 2400)
HasSpeed modems speed = Contains (modulations_of modems) (modulation speed)

-- law: modems support exactly the speeds of the recommendations that they have
abbrev pub ModemsHaveSpeeds : Type 0
ModemsHaveSpeeds = (modems : Modems) (speed : Speed) → (supports_speed modems speed ≡ true) ↔ HasSpeed modems speed

-- two stations try a speed: both have it, and it isn't one of V.29 if both have V.17
pub record IsTried (ours theirs : Modems) (speed : Speed) : Type 0 where
  pub ours_has : HasSpeed ours speed
  pub theirs_has : HasSpeed theirs speed
  pub v17_for_v29 : modulation speed ≡ v29 → Contains (modulations_of ours) v17 → Contains (modulations_of theirs) v17 → ⊥

-- no speed that two stations try is faster than this one
pub record IsFastest (ours theirs : Modems) (speed : Speed) : Type 0 where
  pub tried : IsTried ours theirs speed
  pub fastest : (other : Speed) → IsTried ours theirs other → bits_a_second other ≤ bits_a_second speed

-- what two stations agree on for pages of a width, fine or not: what the answerer must offer, and what the parameters then are
pub record Agrees (caps : Caps) (wish : Wish) (width : PageWidth) (fine : Bool) (params : Params) : Type 0 where
  pub receives : caps.receiver ≡ true
  pub corrects_errors : caps.ecm ≡ true
  pub takes_width : pixels_of width ≤ pixels_of caps.widest
  pub takes_lines : fine ≡ true → caps.fine ≡ true
  pub has_width : params.width ≡ width
  pub has_lines : params.fine ≡ fine
  pub t6 : (params.coding ≡ T6) ↔ ((wish.coding ≡ T6) × (caps.t6 ≡ true))
  pub frames : params.small ≡ wish.small
  pub speed : IsFastest wish.modems caps.modems params.speed

-- two stations have nothing to agree on: the answerer lacks what the pages need, or no speed is tried
abbrev pub Differ : Caps → Wish → PageWidth → Bool → Type 0
Differ caps wish width fine =
    (caps.receiver ≡ false) ⊎ (caps.ecm ≡ false) ⊎ (pixels_of caps.widest < pixels_of width) ⊎ ((fine ≡ true) × (caps.fine ≡ false)) ⊎
    ((speed : Speed) → ¬ IsTried wish.modems caps.modems speed)

-- an outcome of agreement is the right one, parameters or a refusal
abbrev pub IsAgreement : Caps → Wish → PageWidth → Bool → Result Params NotCompatible → Type 0
IsAgreement caps wish width fine (Ok params) = Agrees caps wish width fine params
IsAgreement caps wish width fine (Err refused) = Differ caps wish width fine

-- law: two stations agree exactly if the answerer has a receiver and error correction, takes the width and the lines, and a speed is
-- common. The speed agreed is the fastest common one (V.17 in place of V.29 if both have it); T.6 is used exactly if it is wished for and
-- offered
abbrev pub AgreesExactly : Type 0
AgreesExactly =
    (caps : Caps) (wish : Wish) (width : PageWidth) (fine : Bool) → IsAgreement caps wish width fine (agreed caps wish width fine)

-- a station offers what parameters ask for
pub record Offers (caps : Caps) (params : Params) : Type 0 where
  pub speed : HasSpeed caps.modems params.speed
  pub width : pixels_of params.width ≤ pixels_of caps.widest
  pub lines : params.fine ≡ true → caps.fine ≡ true
  pub t6 : params.coding ≡ T6 → caps.t6 ≡ true

-- law: a station allows exactly the parameters whose speed, width, lines and code it offers
abbrev pub AllowsExactly : Type 0
AllowsExactly = (caps : Caps) (params : Params) → (allowed caps params ≡ true) ↔ Offers caps params

-- a speed is the next below another: both are tried, it is slower, and no other speed that is tried lies between the two
pub record IsNextBelow (ours theirs : Modems) (speed next : Speed) : Type 0 where
  pub from : IsTried ours theirs speed
  pub tried : IsTried ours theirs next
  pub slower : bits_a_second next < bits_a_second speed
  pub nearest : (other : Speed) → IsTried ours theirs other → bits_a_second other < bits_a_second speed →
      bits_a_second other ≤ bits_a_second next

-- this is the right speed after a failed training check; there is none only below the slowest that is tried, or below one that isn't tried
abbrev pub IsLower : Modems → Modems → Speed → Option Speed → Type 0
IsLower ours theirs speed (Some next) = IsNextBelow ours theirs speed next
IsLower ours theirs speed None =
    IsTried ours theirs speed → (other : Speed) → IsTried ours theirs other → bits_a_second speed ≤ bits_a_second other

-- law: the speed after a failed training check is the next slower common one; there is none only below the slowest
abbrev pub LowerIsSlower : Type 0
LowerIsSlower = (caps : Caps) (wish : Wish) (speed : Speed) → IsLower wish.modems caps.modems speed (lower_speed caps wish speed)

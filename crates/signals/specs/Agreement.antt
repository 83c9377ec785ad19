-- What two stations agree on.
use Rattle.std.specs.Prelude.{ℕ, ◌≡◌, ◌≤◌, ◌↔◌, Bool, true, false, not, cond, ◌&&◌, ◌||◌, List, [], ◌∷◌, Option, Some, None, Result, Ok}
use Rattle.std.specs.Prelude.{Err, nat_eq, nat_le, ◌+◌, length, IfOk}
use Rattle.std.specs.List.{filter}
use Rattle.raster.specs.declared.coding.Coding.{Coding}
use Rattle.raster.specs.declared.coding.Coding.TheVariants.{OneDim, T6}
use Rattle.signals.specs.declared.agreement.NotCompatible.{NotCompatible}
use Rattle.signals.specs.declared.params.Caps.{Caps}
use Rattle.signals.specs.declared.params.Modems.{Modems}
use Rattle.signals.specs.declared.params.Modems.TheVariants.{Fallback, V27, V29, V27V29, V17}
use Rattle.signals.specs.declared.params.PageWidth.{PageWidth}
use Rattle.signals.specs.declared.params.PageWidth.TheVariants.{W1728, W2048, W2432}
use Rattle.signals.specs.declared.params.Params.{Params}
use Rattle.signals.specs.declared.params.Speed.{Speed}
use Rattle.signals.specs.declared.params.Speed.TheVariants.{V27At2400, V27At4800, V29At7200, V29At9600, V17At7200, V17At9600, V17At12000}
use Rattle.signals.specs.declared.params.Speed.TheVariants.{V17At14400}
use Rattle.signals.specs.declared.params.Wish.{Wish}

-- a speed's place among the eight; no two speeds have the same place
abbrev pub place_of_speed : Speed → ℕ
place_of_speed V27At2400 = 0
place_of_speed V27At4800 = 1
place_of_speed V29At7200 = 2
place_of_speed V29At9600 = 3
place_of_speed V17At7200 = 4
place_of_speed V17At9600 = 5
place_of_speed V17At12000 = 6
place_of_speed V17At14400 = 7

-- the pixels of a row of each width: 1,728, 2,048 or 2,432
abbrev pub pixels_of : PageWidth → ℕ
pixels_of W1728 = 1728
pixels_of W2048 = 2048
pixels_of W2432 = 2432

-- the width whose rows have 1,728, 2,048 or 2,432 pixels; None for any other number
abbrev pub width_of_pixels : ℕ → Option PageWidth
width_of_pixels pixels =
    cond (nat_eq pixels 1728) (Some W1728)
    (cond (nat_eq pixels 2048) (Some W2048)
    (cond (nat_eq pixels 2432) (Some W2432) None))

-- law: a number of pixels leads to a width exactly if the width has that many pixels
abbrev pub WidthsHavePixels : Type 0
WidthsHavePixels = (pixels : ℕ) (width : PageWidth) → (width_of_pixels pixels ≡ Some width) ↔ (pixels_of width ≡ pixels)

-- the speeds of each kind of modem, in bits a second: V.27 ter 2,400 and 4,800, V.29 7,200 and 9,600, V.17 all eight speeds, the fallback
-- 2,400 alone (T.30, 5.3.6.2)
abbrev pub supports_speed : Modems → Speed → Bool
supports_speed Fallback V27At2400 = true
supports_speed Fallback _ = false
supports_speed V27 V27At2400 = true
supports_speed V27 V27At4800 = true
supports_speed V27 _ = false
supports_speed V29 V29At7200 = true
supports_speed V29 V29At9600 = true
supports_speed V29 _ = false
supports_speed V27V29 V27At2400 = true
supports_speed V27V29 V27At4800 = true
supports_speed V27V29 V29At7200 = true
supports_speed V27V29 V29At9600 = true
supports_speed V27V29 _ = false
supports_speed V17 _ = true

-- the speeds in the order in which they are tried if both stations have V.17; it takes the place of V.29
abbrev pub v17_order : List Speed
v17_order = V17At14400 ∷ V17At12000 ∷ V17At9600 ∷ V17At7200 ∷ V27At4800 ∷ V27At2400 ∷ []

-- the speeds in the order in which they are tried if a station has no V.17
abbrev pub other_order : List Speed
other_order = V29At9600 ∷ V29At7200 ∷ V27At4800 ∷ V27At2400 ∷ []

-- the order in which two stations try their speeds
abbrev pub speed_order : Modems → Modems → List Speed
speed_order V17 V17 = v17_order
speed_order _ _ = other_order

-- both stations have the speed
abbrev pub common_speed : Modems → Modems → Speed → Bool
common_speed ours theirs speed = supports_speed ours speed && supports_speed theirs speed

-- the speeds that both stations have, in the order in which they are tried
abbrev pub tried_speeds : Modems → Modems → List Speed
tried_speeds ours theirs = filter (common_speed ours theirs) (speed_order ours theirs)

-- the first speed of a list, if there is one
abbrev pub first_of : List Speed → Option Speed
first_of [] = None
first_of (speed ∷ _) = Some speed

-- the part of a list after a speed; empty if the speed isn't in the list
abbrev pub after_speed : Speed → List Speed → List Speed
after_speed speed [] = []
after_speed speed (x ∷ xs) = cond (nat_eq (place_of_speed x) (place_of_speed speed)) xs (after_speed speed xs)

-- the next lower speed that both stations try; None after the last one, and after a speed that they don't try
unfoldable pub lower_speed : Caps → Wish → Speed → Option Speed
lower_speed caps wish speed = first_of (after_speed speed (tried_speeds wish.modems caps.modems))

-- T.6 if the caller wishes it and the answerer offers it, else one-dimensional T.4
abbrev pub wished_coding : Coding → Bool → Coding
wished_coding T6 true = T6
wished_coding _ _ = OneDim

-- the code that is agreed for the pages
abbrev pub agreed_coding : Caps → Wish → Coding
agreed_coding caps wish = wished_coding wish.coding caps.t6

-- a station receives with error correction, takes pages of this width, and takes fine lines if the pages have them
abbrev pub takes_pages : Caps → PageWidth → Bool → Bool
takes_pages caps width fine = caps.receiver && caps.ecm && nat_le (pixels_of width) (pixels_of caps.widest) && (not fine || caps.fine)

-- the parameters at the first speed of a list; NotCompatible if the list is empty
abbrev pub at_first : Option Speed → Caps → Wish → PageWidth → Bool → Result Params NotCompatible
at_first None caps wish width fine = Err (record {})
at_first (Some speed) caps wish width fine =
    Ok (record { speed = speed; fine = fine; width = width; coding = agreed_coding caps wish; small = wish.small })

-- the parameters that a caller and a station agree on for pages of a width, fine or not; NotCompatible if the station takes no such pages
-- or no speed is common (T.30, 5.3.6.2)
abbrev pub agreed : Caps → Wish → PageWidth → Bool → Result Params NotCompatible
agreed caps wish width fine =
    cond (takes_pages caps width fine) (at_first (first_of (tried_speeds wish.modems caps.modems)) caps wish width fine) (Err (record {}))

-- a station reads the code; each station reads one-dimensional T.4
abbrev pub offers_coding : Caps → Coding → Bool
offers_coding caps OneDim = true
offers_coding caps T6 = caps.t6

-- a station takes pages that are sent so: it has the speed, the width, the lines and the code
abbrev pub allowed : Caps → Params → Bool
allowed caps params = supports_speed caps.modems params.speed && nat_le (pixels_of params.width) (pixels_of caps.widest)
    && (not params.fine || caps.fine) && offers_coding caps params.coding

-- law: what is agreed with a station's capabilities is allowed by them
abbrev pub AgreedIsAllowed : Type 0
AgreedIsAllowed =
    (caps : Caps) (wish : Wish) (width : PageWidth) (fine : Bool)
    → IfOk (agreed caps wish width fine) (λ params. allowed caps params ≡ true)

-- law: what is agreed for pages has their width and their lines
abbrev pub AgreedFits : Type 0
AgreedFits =
    (caps : Caps) (wish : Wish) (width : PageWidth) (fine : Bool) →
    IfOk (agreed caps wish width fine) (λ params. (params.width ≡ width) × (params.fine ≡ fine))

-- law: parameters that a station allows are allowed at the next lower speed too
abbrev pub LoweredIsAllowed : Type 0
LoweredIsAllowed =
    (caps : Caps) (wish : Wish) (params : Params) (next : Speed) →
    allowed caps params ≡ true → lower_speed caps wish params.speed ≡ Some next →
    allowed caps (record params { speed = next }) ≡ true

-- how many of the speeds that two stations try come after a speed
abbrev pub speeds_below : Modems → Modems → Speed → ℕ
speeds_below ours theirs speed = length (after_speed speed (tried_speeds ours theirs))

-- law: at most five of the speeds tried are below the one that is agreed
abbrev pub BeginsAtMostFiveAbove : Type 0
BeginsAtMostFiveAbove = (caps : Caps) (wish : Wish) (width : PageWidth) (fine : Bool)
    → IfOk (agreed caps wish width fine) (λ params. speeds_below wish.modems caps.modems params.speed ≤ 5)

-- law: each next lower speed has one speed less below it
abbrev pub GoesDownByOne : Type 0
GoesDownByOne = (caps : Caps) (wish : Wish) (speed next : Speed) → lower_speed caps wish speed ≡ Some next
    → speeds_below wish.modems caps.modems next + 1 ≡ speeds_below wish.modems caps.modems speed

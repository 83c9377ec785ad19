-- Tests of each value of the enums.
use Rattle.std.proofs.Common.{◌≡◌, Bool, true, false, ◌&&◌}
use Rattle.std.proofs.lemmas.Bool.{and_parts}
use Rattle.raster.specs.declared.coding.Coding.{Coding}
use Rattle.raster.specs.declared.coding.Coding.TheVariants.{OneDim, T6}
use Rattle.signals.specs.declared.params.Modems.{Modems}
use Rattle.signals.specs.declared.params.Modems.TheVariants.{Fallback, V27, V29, V27V29, V17}
use Rattle.signals.specs.declared.params.PageWidth.{PageWidth}
use Rattle.signals.specs.declared.params.PageWidth.TheVariants.{W1728, W2048, W2432}
use Rattle.signals.specs.declared.params.Speed.{Speed}
use Rattle.signals.specs.declared.params.Speed.TheVariants.{V27At2400, V27At4800, V29At7200, V29At9600, V17At7200, V17At9600, V17At12000}
use Rattle.signals.specs.declared.params.Speed.TheVariants.{V17At14400}

-- a test holds of each speed
abbrev pub all_speeds : (Speed → Bool) → Bool
all_speeds f =
    f V27At2400 && (f V27At4800 && (f V29At7200 && (f V29At9600 && (f V17At7200 && (f V17At9600 && (f V17At12000 && f V17At14400))))))

pub each_speed : (f : Speed → Bool) → all_speeds f ≡ true → (speed : Speed) → f speed ≡ true
each_speed f e speed =
    let a = and_parts _ _ e in
    let b = and_parts _ _ a.1 in
    let c = and_parts _ _ b.1 in
    let d = and_parts _ _ c.1 in
    let g = and_parts _ _ d.1 in
    let h = and_parts _ _ g.1 in
    let i = and_parts _ _ h.1 in
    elim speed as (λ s. f s ≡ true) [
      | V27At2400 ↦ a.0
      | V27At4800 ↦ b.0
      | V29At7200 ↦ c.0
      | V29At9600 ↦ d.0
      | V17At7200 ↦ g.0
      | V17At9600 ↦ h.0
      | V17At12000 ↦ i.0
      | V17At14400 ↦ i.1
    ]

-- a test holds of each station's modems
abbrev pub all_modems : (Modems → Bool) → Bool
all_modems f = f Fallback && (f V27 && (f V29 && (f V27V29 && f V17)))

pub each_modems : (f : Modems → Bool) → all_modems f ≡ true → (modems : Modems) → f modems ≡ true
each_modems f e modems =
    let a = and_parts _ _ e in
    let b = and_parts _ _ a.1 in
    let c = and_parts _ _ b.1 in
    let d = and_parts _ _ c.1 in
    elim modems as (λ m. f m ≡ true) [ Fallback ↦ a.0 | V27 ↦ b.0 | V29 ↦ c.0 | V27V29 ↦ d.0 | V17 ↦ d.1 ]

-- a test holds of each width
abbrev pub all_widths : (PageWidth → Bool) → Bool
all_widths f = f W1728 && (f W2048 && f W2432)

pub each_width : (f : PageWidth → Bool) → all_widths f ≡ true → (width : PageWidth) → f width ≡ true
each_width f e width =
    let a = and_parts _ _ e in
    let b = and_parts _ _ a.1 in
    elim width as (λ w. f w ≡ true) [ W1728 ↦ a.0 | W2048 ↦ b.0 | W2432 ↦ b.1 ]

-- a test holds of both codes
abbrev pub all_codings : (Coding → Bool) → Bool
all_codings f = f OneDim && f T6

pub each_coding : (f : Coding → Bool) → all_codings f ≡ true → (coding : Coding) → f coding ≡ true
each_coding f e coding = let a = and_parts _ _ e in elim coding as (λ c. f c ≡ true) [ OneDim ↦ a.0 | T6 ↦ a.1 ]

-- a test holds of both bits
abbrev pub all_bits : (Bool → Bool) → Bool
all_bits f = f true && f false

pub each_bit : (f : Bool → Bool) → all_bits f ≡ true → (bit : Bool) → f bit ≡ true
each_bit f e bit = let a = and_parts _ _ e in elim bit as (λ b. f b ≡ true) [ true ↦ a.0 | false ↦ a.1 ]

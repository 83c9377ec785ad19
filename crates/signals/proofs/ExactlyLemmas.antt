-- What two stations agree on, exactly; and the speeds below.
use Rattle.std.proofs.Common.{◌≡◌, ℕ, zero, suc, ◌<◌, Bool, true, false, cond, not, ◌&&◌, ◌||◌, nat_le, nat_lt, List, [], ◌∷◌, length}
use Rattle.std.proofs.Common.{get_or, Option}
use Rattle.std.proofs.Common.{Some, None, Err, Contains, refl, inl, inr, arith}
use Rattle.std.proofs.lemmas.Bool.{and_parts, and_cases, and_from, leb-true, leb-false, ltb-true, le-leb, lt-ltb}
use Rattle.raster.specs.declared.coding.Coding.{Coding}
use Rattle.raster.specs.declared.coding.Coding.TheVariants.{OneDim, T6}
use Rattle.signals.proofs.EachValue.{all_speeds, each_speed, all_modems, each_modems}
use Rattle.signals.specs.Agreement.{pixels_of, supports_speed, common_speed, tried_speeds, first_of, after_speed, lower_speed}
use Rattle.signals.specs.Agreement.{wished_coding}
use Rattle.signals.specs.Agreement.{takes_pages, at_first, offers_coding, allowed}
use Rattle.signals.specs.Exactly.{Modulation, v27ter, v29, v17, modulation, modulations_of, SpeedsHaveRows, WidthsHaveRows, HasSpeed}
use Rattle.signals.specs.Exactly.{ModemsHaveSpeeds, IsTried, IsFastest, Differ, IsAgreement, AgreesExactly, Offers, AllowsExactly}
use Rattle.signals.specs.Exactly.{IsLower, LowerIsSlower}
use Rattle.signals.specs.Training.{bits_a_second}
use Rattle.signals.specs.declared.params.Caps.{Caps}
use Rattle.signals.specs.declared.params.Modems.{Modems}
use Rattle.signals.specs.declared.params.Modems.TheVariants.{Fallback, V27, V29, V27V29, V17}
use Rattle.signals.specs.declared.params.PageWidth.TheVariants.{W1728, W2048, W2432}
use Rattle.signals.specs.declared.params.Speed.{Speed}
use Rattle.signals.specs.declared.params.Speed.TheVariants.{V27At2400, V27At4800, V29At7200, V29At9600, V17At7200, V17At9600, V17At12000}
use Rattle.signals.specs.declared.params.Speed.TheVariants.{V17At14400}

pub speeds-have-rows : SpeedsHaveRows
speeds-have-rows V27At2400 = (0, omega arith, refl)
speeds-have-rows V27At4800 = (1, omega arith, refl)
speeds-have-rows V29At7200 = (3, omega arith, refl)
speeds-have-rows V29At9600 = (2, omega arith, refl)
speeds-have-rows V17At7200 = (7, omega arith, refl)
speeds-have-rows V17At9600 = (6, omega arith, refl)
speeds-have-rows V17At12000 = (5, omega arith, refl)
speeds-have-rows V17At14400 = (4, omega arith, refl)

pub widths-have-rows : WidthsHaveRows
widths-have-rows W1728 = (0, omega arith, refl)
widths-have-rows W2048 = (2, omega arith, refl)
widths-have-rows W2432 = (1, omega arith, refl)

-- recommendations are the same
abbrev pub same : Modulation → Modulation → Bool
same v27ter v27ter = true
same v29 v29 = true
same v17 v17 = true
same _ _ = false

-- a list has a recommendation
abbrev pub has : List Modulation → Modulation → Bool
has [] m = false
has (x ∷ xs) m = same x m || has xs m

same-refl : (m : Modulation) → same m m ≡ true
same-refl v27ter = refl
same-refl v29 = refl
same-refl v17 = refl

or-right : (a b : Bool) → b ≡ true → a || b ≡ true
or-right true b e = refl
or-right false b e = e

-- what a list contains, its test finds
found-at : (xs : List Modulation) (m : Modulation) (k : ℕ) → k < length xs → get_or xs k m ≡ m → has xs m ≡ true
found-at [] m k within e = absurd (omega (arith, within))
found-at (x ∷ xs) m zero within e = rw (e, same-refl m) refl
found-at (x ∷ xs) m (suc k) within e = or-right (same x m) (has xs m) (found-at xs m k (omega (arith, within)) e)

found : (xs : List Modulation) (m : Modulation) → Contains xs m → has xs m ≡ true
found xs m c = found-at xs m c.0 c.1 c.2

pub modems-have : (modems : Modems) (speed : Speed) → supports_speed modems speed ≡ true → HasSpeed modems speed
modems-have Fallback V27At2400 e = (refl, refl)
modems-have Fallback V27At4800 e = cc
modems-have Fallback V29At7200 e = cc
modems-have Fallback V29At9600 e = cc
modems-have Fallback V17At7200 e = cc
modems-have Fallback V17At9600 e = cc
modems-have Fallback V17At12000 e = cc
modems-have Fallback V17At14400 e = cc
modems-have V27 V27At2400 e = (0, omega arith, refl)
modems-have V27 V27At4800 e = (0, omega arith, refl)
modems-have V27 V29At7200 e = cc
modems-have V27 V29At9600 e = cc
modems-have V27 V17At7200 e = cc
modems-have V27 V17At9600 e = cc
modems-have V27 V17At12000 e = cc
modems-have V27 V17At14400 e = cc
modems-have V29 V27At2400 e = cc
modems-have V29 V27At4800 e = cc
modems-have V29 V29At7200 e = (0, omega arith, refl)
modems-have V29 V29At9600 e = (0, omega arith, refl)
modems-have V29 V17At7200 e = cc
modems-have V29 V17At9600 e = cc
modems-have V29 V17At12000 e = cc
modems-have V29 V17At14400 e = cc
modems-have V27V29 V27At2400 e = (0, omega arith, refl)
modems-have V27V29 V27At4800 e = (0, omega arith, refl)
modems-have V27V29 V29At7200 e = (1, omega arith, refl)
modems-have V27V29 V29At9600 e = (1, omega arith, refl)
modems-have V27V29 V17At7200 e = cc
modems-have V27V29 V17At9600 e = cc
modems-have V27V29 V17At12000 e = cc
modems-have V27V29 V17At14400 e = cc
modems-have V17 V27At2400 e = (0, omega arith, refl)
modems-have V17 V27At4800 e = (0, omega arith, refl)
modems-have V17 V29At7200 e = (1, omega arith, refl)
modems-have V17 V29At9600 e = (1, omega arith, refl)
modems-have V17 V17At7200 e = (2, omega arith, refl)
modems-have V17 V17At9600 e = (2, omega arith, refl)
modems-have V17 V17At12000 e = (2, omega arith, refl)
modems-have V17 V17At14400 e = (2, omega arith, refl)

pub have-modems : (modems : Modems) (speed : Speed) → HasSpeed modems speed → supports_speed modems speed ≡ true
have-modems Fallback V27At2400 h = refl
have-modems Fallback V27At4800 h = absurd (omega (arith, h.1))
have-modems Fallback V29At7200 h = let e : v29 ≡ v27ter = h.0 in cc
have-modems Fallback V29At9600 h = let e : v29 ≡ v27ter = h.0 in cc
have-modems Fallback V17At7200 h = let e : v17 ≡ v27ter = h.0 in cc
have-modems Fallback V17At9600 h = let e : v17 ≡ v27ter = h.0 in cc
have-modems Fallback V17At12000 h = let e : v17 ≡ v27ter = h.0 in cc
have-modems Fallback V17At14400 h = let e : v17 ≡ v27ter = h.0 in cc
have-modems V27 V27At2400 h = refl
have-modems V27 V27At4800 h = refl
have-modems V27 V29At7200 h = let e : false ≡ true = found (modulations_of V27) v29 h in cc
have-modems V27 V29At9600 h = let e : false ≡ true = found (modulations_of V27) v29 h in cc
have-modems V27 V17At7200 h = let e : false ≡ true = found (modulations_of V27) v17 h in cc
have-modems V27 V17At9600 h = let e : false ≡ true = found (modulations_of V27) v17 h in cc
have-modems V27 V17At12000 h = let e : false ≡ true = found (modulations_of V27) v17 h in cc
have-modems V27 V17At14400 h = let e : false ≡ true = found (modulations_of V27) v17 h in cc
have-modems V29 V27At2400 h = let e : false ≡ true = found (modulations_of V29) v27ter h in cc
have-modems V29 V27At4800 h = let e : false ≡ true = found (modulations_of V29) v27ter h in cc
have-modems V29 V29At7200 h = refl
have-modems V29 V29At9600 h = refl
have-modems V29 V17At7200 h = let e : false ≡ true = found (modulations_of V29) v17 h in cc
have-modems V29 V17At9600 h = let e : false ≡ true = found (modulations_of V29) v17 h in cc
have-modems V29 V17At12000 h = let e : false ≡ true = found (modulations_of V29) v17 h in cc
have-modems V29 V17At14400 h = let e : false ≡ true = found (modulations_of V29) v17 h in cc
have-modems V27V29 V27At2400 h = refl
have-modems V27V29 V27At4800 h = refl
have-modems V27V29 V29At7200 h = refl
have-modems V27V29 V29At9600 h = refl
have-modems V27V29 V17At7200 h = let e : false ≡ true = found (modulations_of V27V29) v17 h in cc
have-modems V27V29 V17At9600 h = let e : false ≡ true = found (modulations_of V27V29) v17 h in cc
have-modems V27V29 V17At12000 h = let e : false ≡ true = found (modulations_of V27V29) v17 h in cc
have-modems V27V29 V17At14400 h = let e : false ≡ true = found (modulations_of V27V29) v17 h in cc
have-modems V17 V27At2400 h = refl
have-modems V17 V27At4800 h = refl
have-modems V17 V29At7200 h = refl
have-modems V17 V29At9600 h = refl
have-modems V17 V17At7200 h = refl
have-modems V17 V17At9600 h = refl
have-modems V17 V17At12000 h = refl
have-modems V17 V17At14400 h = refl

pub modems-have-speeds : ModemsHaveSpeeds
modems-have-speeds modems speed = (λ e. modems-have modems speed e, λ h. have-modems modems speed h)

-- the modems have V.17
abbrev pub is_v17 : Modems → Bool
is_v17 modems = has (modulations_of modems) v17

v17-is : (modems : Modems) → is_v17 modems ≡ true → Contains (modulations_of modems) v17
v17-is Fallback e = cc
v17-is V27 e = cc
v17-is V29 e = cc
v17-is V27V29 e = cc
v17-is V17 e = (2, omega arith, refl)

-- the test of a speed that two stations try
abbrev pub is_tried : Modems → Modems → Speed → Bool
is_tried ours theirs speed = common_speed ours theirs speed && not (same (modulation speed) v29 && (is_v17 ours && is_v17 theirs))

absurd-both : (a : Bool) → a ≡ true → not a ≡ true → ⊥
absurd-both true e f = cc
absurd-both false e f = cc

not-both : (a b c : Bool) → (a ≡ true → b ≡ true → c ≡ true → ⊥) → not (a && (b && c)) ≡ true
not-both false b c f = refl
not-both true false c f = refl
not-both true true false f = refl
not-both true true true f = absurd (f refl refl refl)

same-is : (m n : Modulation) → same m n ≡ true → m ≡ n
same-is v27ter v27ter e = refl
same-is v29 v29 e = refl
same-is v17 v17 e = refl
same-is v27ter v29 e = cc
same-is v27ter v17 e = cc
same-is v29 v27ter e = cc
same-is v29 v17 e = cc
same-is v17 v27ter e = cc
same-is v17 v29 e = cc

tried : (ours theirs : Modems) (speed : Speed) → is_tried ours theirs speed ≡ true → IsTried ours theirs speed
tried ours theirs speed e =
    let parts = and_parts (common_speed ours theirs speed) (not (same (modulation speed) v29 && (is_v17 ours && is_v17 theirs))) e in
    let both = and_parts (supports_speed ours speed) (supports_speed theirs speed) parts.0 in
    record {
      ours_has = modems-have ours speed both.0;
      theirs_has = modems-have theirs speed both.1;
      v17_for_v29 = λ is a b.
          absurd-both (same (modulation speed) v29 && (is_v17 ours && is_v17 theirs))
          (and_from (same (modulation speed) v29) (is_v17 ours && is_v17 theirs) (rw is refl)
          (and_from (is_v17 ours) (is_v17 theirs) (found (modulations_of ours) v17 a) (found (modulations_of theirs) v17 b)))
          parts.1;
    }

is-tried : (ours theirs : Modems) (speed : Speed) → IsTried ours theirs speed → is_tried ours theirs speed ≡ true
is-tried ours theirs speed h =
    and_from (common_speed ours theirs speed) (not (same (modulation speed) v29 && (is_v17 ours && is_v17 theirs)))
    (and_from (supports_speed ours speed) (supports_speed theirs speed) (have-modems ours speed h.ours_has)
    (have-modems theirs speed h.theirs_has))
    (not-both (same (modulation speed) v29) (is_v17 ours) (is_v17 theirs)
    (λ is a b. h.v17_for_v29 (same-is (modulation speed) v29 is) (v17-is ours a) (v17-is theirs b)))

-- the test of the first speed tried
abbrev pub is_first : Modems → Modems → Option Speed → Bool
is_first ours theirs None = all_speeds (λ other. not (is_tried ours theirs other))
is_first ours theirs (Some speed) =
    is_tried ours theirs speed
    && all_speeds (λ other. not (is_tried ours theirs other) || nat_le (bits_a_second other) (bits_a_second speed))

-- the test of the speed below one
abbrev pub is_below : Modems → Modems → Speed → Option Speed → Bool
is_below ours theirs speed None =
    not (is_tried ours theirs speed)
    || all_speeds (λ other. not (is_tried ours theirs other) || nat_le (bits_a_second speed) (bits_a_second other))
is_below ours theirs speed (Some next) =
    is_tried ours theirs speed
    && (is_tried ours theirs next
    && (nat_lt (bits_a_second next) (bits_a_second speed)
    && all_speeds (λ other. not (is_tried ours theirs other && nat_lt (bits_a_second other) (bits_a_second speed))
    || nat_le (bits_a_second other) (bits_a_second next))))

firsts : (ours theirs : Modems) → is_first ours theirs (first_of (tried_speeds ours theirs)) ≡ true
firsts ours theirs =
    each_modems (λ b. is_first ours b (first_of (tried_speeds ours b)))
    (each_modems (λ a. all_modems (λ b. is_first a b (first_of (tried_speeds a b)))) refl ours) theirs

belows : (ours theirs : Modems) (speed : Speed) → is_below ours theirs speed (first_of (after_speed speed (tried_speeds ours theirs))) ≡
    true
belows ours theirs speed =
    each_speed (λ s. is_below ours theirs s (first_of (after_speed s (tried_speeds ours theirs))))
    (each_modems (λ b. all_speeds (λ s. is_below ours b s (first_of (after_speed s (tried_speeds ours b)))))
    (each_modems (λ a. all_modems (λ b. all_speeds (λ s. is_below a b s (first_of (after_speed s (tried_speeds a b)))))) refl ours) theirs)
    speed

passes : (a b : Bool) → not a || b ≡ true → a ≡ true → b ≡ true
passes true true e f = refl
passes true false e f = cc
passes false b e f = cc

none-is : (a : Bool) → not a ≡ true → a ≡ true → ⊥
none-is true e f = cc
none-is false e f = cc

fastest : (ours theirs : Modems) (speed : Speed) → is_first ours theirs (Some speed) ≡ true → IsFastest ours theirs speed
fastest ours theirs speed e =
    let all = all_speeds (λ other. not (is_tried ours theirs other) || nat_le (bits_a_second other) (bits_a_second speed)) in
    let parts = and_parts (is_tried ours theirs speed) all e in
    record {
      tried = tried ours theirs speed parts.0;
      fastest = λ other h.
          leb-true (bits_a_second other) (bits_a_second speed)
          (passes (is_tried ours theirs other) (nat_le (bits_a_second other) (bits_a_second speed))
          (each_speed (λ other. not (is_tried ours theirs other) || nat_le (bits_a_second other) (bits_a_second speed)) parts.1 other)
          (is-tried ours theirs other h));
    }

none-tried : (ours theirs : Modems) → is_first ours theirs None ≡ true → (speed : Speed) → ¬ IsTried ours theirs speed
none-tried ours theirs e speed h =
    none-is (is_tried ours theirs speed) (each_speed (λ other. not (is_tried ours theirs other)) e speed) (is-tried ours theirs speed h)

below : (ours theirs : Modems) (speed : Speed) (next : Option Speed) → is_below ours theirs speed next ≡ true →
    IsLower ours theirs speed next
below ours theirs speed None e = λ h other o.
    leb-true (bits_a_second speed) (bits_a_second other)
    (passes (is_tried ours theirs other) (nat_le (bits_a_second speed) (bits_a_second other))
    (each_speed (λ other. not (is_tried ours theirs other) || nat_le (bits_a_second speed) (bits_a_second other))
    (passes (is_tried ours theirs speed)
    (all_speeds (λ other. not (is_tried ours theirs other) || nat_le (bits_a_second speed) (bits_a_second other))) e
    (is-tried ours theirs speed h))
    other)
    (is-tried ours theirs other o))
below ours theirs speed (Some next) e =
    let test : Speed → Bool =
    λ other. not (is_tried ours theirs other && nat_lt (bits_a_second other) (bits_a_second speed))
    || nat_le (bits_a_second other) (bits_a_second next) in
    let a = and_parts (is_tried ours theirs speed)
    (is_tried ours theirs next && (nat_lt (bits_a_second next) (bits_a_second speed) && all_speeds test)) e in
    let b = and_parts (is_tried ours theirs next) (nat_lt (bits_a_second next) (bits_a_second speed) && all_speeds test) a.1 in
    let d = and_parts (nat_lt (bits_a_second next) (bits_a_second speed)) (all_speeds test) b.1 in
    record {
      from = tried ours theirs speed a.0;
      tried = tried ours theirs next b.0;
      slower = ltb-true (bits_a_second next) (bits_a_second speed) d.0;
      nearest = λ other o less.
          leb-true (bits_a_second other) (bits_a_second next)
          (passes (is_tried ours theirs other && nat_lt (bits_a_second other) (bits_a_second speed))
          (nat_le (bits_a_second other) (bits_a_second next)) (each_speed test d.1 other)
          (and_from (is_tried ours theirs other) (nat_lt (bits_a_second other) (bits_a_second speed)) (is-tried ours theirs other o)
          (lt-ltb (bits_a_second other) (bits_a_second speed) less)));
    }

pub lower-is-slower : LowerIsSlower
unfolding lower_speed
lower-is-slower caps wish speed =
    below wish.modems caps.modems speed (first_of (after_speed speed (tried_speeds wish.modems caps.modems)))
    (belows wish.modems caps.modems speed)

-- the code agreed on
coded : (wished : Coding) (t6 : Bool) → (wished_coding wished t6 ≡ T6 → (wished ≡ T6) × (t6 ≡ true)) ×
    ((wished ≡ T6) × (t6 ≡ true) → wished_coding wished t6 ≡ T6)
coded OneDim true = (λ e. cc, λ h. let e : OneDim ≡ T6 = h.0 in cc)
coded OneDim false = (λ e. cc, λ h. let e : OneDim ≡ T6 = h.0 in cc)
coded T6 true = (λ e. (refl, refl), λ h. refl)
coded T6 false = (λ e. cc, λ h. let e : false ≡ true = h.1 in cc)

lines : (fine offered : Bool) → not fine || offered ≡ true → fine ≡ true → offered ≡ true
lines fine offered e f = passes fine offered e f

lacks-lines : (fine offered : Bool) → not fine || offered ≡ false → (fine ≡ true) × (offered ≡ false)
lacks-lines true true e = cc
lacks-lines true false e = (refl, refl)
lacks-lines false offered e = cc

pub agrees-exactly : AgreesExactly
agrees-exactly caps wish width fine =
    decided (takes_pages caps width fine) (first_of (tried_speeds wish.modems caps.modems)) refl (firsts wish.modems caps.modems)
  where
    lacks : takes_pages caps width fine ≡ false → Differ caps wish width fine
    lacks e =
        elim (and_cases ((caps.receiver && caps.ecm) && nat_le (pixels_of width) (pixels_of caps.widest)) (not fine || caps.fine) e) [
          | inr l ↦ inr (inr (inr (inl (lacks-lines fine caps.fine l))))
          | inl a ↦
              elim (and_cases (caps.receiver && caps.ecm) (nat_le (pixels_of width) (pixels_of caps.widest)) a) [
                | inr w ↦ inr (inr (inl (omega (arith, leb-false (pixels_of width) (pixels_of caps.widest) w))))
                | inl b ↦
                    elim (and_cases caps.receiver caps.ecm b) [ inl r ↦ inl r | inr c ↦ inr (inl c) ]
              ]
        ]

    decided : (takes : Bool) (first : Option Speed) → takes_pages caps width fine ≡ takes → is_first wish.modems caps.modems first ≡ true →
        IsAgreement caps wish width fine (cond takes (at_first first caps wish width fine) (Err (record {})))
    decided false first e f = lacks e
    decided true None e f = inr (inr (inr (inr (none-tried wish.modems caps.modems f))))
    decided true (Some speed) e f =
        let a = and_parts ((caps.receiver && caps.ecm) && nat_le (pixels_of width) (pixels_of caps.widest)) (not fine || caps.fine) e in
        let b = and_parts (caps.receiver && caps.ecm) (nat_le (pixels_of width) (pixels_of caps.widest)) a.0 in
        let d = and_parts caps.receiver caps.ecm b.0 in
        record {
          receives = d.0;
          corrects_errors = d.1;
          takes_width = leb-true (pixels_of width) (pixels_of caps.widest) b.1;
          takes_lines = lines fine caps.fine a.1;
          has_width = refl;
          has_lines = refl;
          t6 = coded wish.coding caps.t6;
          frames = refl;
          speed = fastest wish.modems caps.modems speed f;
        }

offered : (caps : Caps) (coding : Coding) → offers_coding caps coding ≡ true → coding ≡ T6 → caps.t6 ≡ true
offered caps OneDim e f = cc
offered caps T6 e f = e

offers : (caps : Caps) (coding : Coding) → (coding ≡ T6 → caps.t6 ≡ true) → offers_coding caps coding ≡ true
offers caps OneDim f = refl
offers caps T6 f = f refl

has-lines : (fine offered : Bool) → (fine ≡ true → offered ≡ true) → not fine || offered ≡ true
has-lines true offered f = f refl
has-lines false offered f = refl

pub allows-exactly : AllowsExactly
allows-exactly caps params = (λ e. asks e, λ h. gives h)
  where
    asks : allowed caps params ≡ true → Offers caps params
    asks e =
        let has_speed = supports_speed caps.modems params.speed in
        let is_narrow = nat_le (pixels_of params.width) (pixels_of caps.widest) in
        let a = and_parts ((has_speed && is_narrow) && (not params.fine || caps.fine)) (offers_coding caps params.coding) e in
        let b = and_parts (has_speed && is_narrow) (not params.fine || caps.fine) a.0 in
        let d = and_parts has_speed is_narrow b.0 in
        record {
          speed = modems-have caps.modems params.speed d.0;
          width = leb-true (pixels_of params.width) (pixels_of caps.widest) d.1;
          lines = lines params.fine caps.fine b.1;
          t6 = offered caps params.coding a.1;
        }

    gives : Offers caps params → allowed caps params ≡ true
    gives h =
        let has_speed = supports_speed caps.modems params.speed in
        let is_narrow = nat_le (pixels_of params.width) (pixels_of caps.widest) in
        and_from ((has_speed && is_narrow) && (not params.fine || caps.fine)) (offers_coding caps params.coding)
        (and_from (has_speed && is_narrow) (not params.fine || caps.fine)
        (and_from has_speed is_narrow (have-modems caps.modems params.speed h.speed)
        (le-leb (pixels_of params.width) (pixels_of caps.widest) h.width))
        (has-lines params.fine caps.fine h.lines))
        (offers caps params.coding h.t6)

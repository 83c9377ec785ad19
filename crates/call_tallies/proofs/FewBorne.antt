-- A call over a bad line with few bad tries in each phase is a driven call with few.
use Rattle.std.proofs.Common.{◌≡◌, ◌↔◌, ℕ, zero, suc, ◌≤◌, Bool, true, false, cond, List, [], ◌∷◌, Option, Some, None, refl, ap}
use Rattle.std.proofs.Common.{sym, subst, ◌∙◌}
use Rattle.std.specs.Prelude.{◌&&◌, nat_lt, not, Err}
use Rattle.std.proofs.lemmas.Bool.{leb-true}
use Rattle.raster.specs.declared.coding.Coding.{Coding}
use Rattle.rand_pcg.specs.Pcg.{pcg32}
use Rattle.raster.specs.Pages.{PagePixels}
use Rattle.signals.specs.Agreement.{agreed, at_first, first_of, speeds_below, takes_pages, tried_speeds, width_of_pixels}
use Rattle.signals.specs.declared.params.Caps.{Caps}
use Rattle.signals.specs.declared.params.Modems.{Modems}
use Rattle.signals.specs.declared.params.Modems.TheVariants.{Fallback, V27, V29, V27V29, V17}
use Rattle.signals.specs.declared.params.PageWidth.{PageWidth}
use Rattle.signals.specs.declared.params.Params.{Params}
use Rattle.signals.specs.declared.params.Wish.{Wish}
use Rattle.stations.specs.Inputs.{PlainItem}
use Rattle.stations.specs.Layers.{agreed_at, agreed_for, if_agreed, speeds_left}
use Rattle.stations.specs.declared.turn.End.{End}
use Rattle.stations.specs.declared.turn.End.TheVariants.{Normal, NoAnswer, NotCompatible, Training as BadTraining, NoReply, Unreadable}
use Rattle.stations.specs.declared.turn.End.TheVariants.{StillBusy, PeerLeft, BadPage, PageTooLong}
use Rattle.line_sim.specs.Driving.{Driven, DrivenCallsAreSafe, Fate, Patience, caller_waits, comes_back, dis_is_due, drive, drives}
use Rattle.line_sim.specs.Driving.{first_fate, is_over}
use Rattle.line_sim.specs.Driving.{is_over_at, is_rnr_item, new_driven, somebody_waits}
use Rattle.line_sim.specs.Fates.{is_fate_due, next_of}
use Rattle.line_sim.specs.BusyCalls.{sets}
use Rattle.line_sim.specs.Headline.{IsSafeWorld}
use Rattle.line_sim.specs.Line.{World}
use Rattle.line_sim.specs.Tolerance.{BadTriesAreFew, CallersEndWell, CanBear, EndsWell, Tries, meets, no_tries, noted, tries_after}
use Rattle.calls.specs.BadLines.{Going, bad_call, drawn_if, fated, going, gone, next_going, patience_of, set_in}
use Rattle.calls.specs.Calls.{answerer_caps, caller_wish}
use Rattle.call_tallies.specs.FewTries.{FewTriesAreBorne, FewTriesAreDriven, FewTriesGone, fates_drawn, met_in, slower_speeds, tries_gone}
use Rattle.calls.specs.Losses.{fate_of, is_busy_word}
use Rattle.calls.specs.declared.losses.BadLine.{BadLine}
use Rattle.calls.specs.declared.options.CallOptions.{CallOptions}
use Rattle.calls.proofs.BadCallsEnd.{over_steps}
use Rattle.calls.proofs.DrivenSteps.{none_set}

-- ---- fates that are left change no step

-- a driven call with other fates to come
abbrev with_fates : Driven → List Fate → Driven
with_fates d fates = record { world = d.world; dis = d.dis; rnrs = d.rnrs; fates = fates }

-- the fate of a step, where one is due, and others after it
abbrev fate_before : Bool → Fate → List Fate → List Fate
fate_before due fate more = cond due (fate ∷ more) more

drives_same : (p : Patience) (items others : List PlainItem) (d : Driven) (fate : Fate) (more : List Fate) →
    let due = is_fate_due (nat_lt d.rnrs p.busy) items others in
    drives p items others (with_fates d (fate_before due fate more)) ≡
    with_fates (drives p items others (with_fates d (fate_before due fate []))) more
drives_same p (item ∷ items) others d fate more = refl
drives_same p [] (item ∷ others) d fate more = at (is_rnr_item item && not (nat_lt d.rnrs p.busy))
  where
    at : (many : Bool) →
        comes_back many item (with_fates d (fate_before (not many) fate more)) ≡
        with_fates (comes_back many item (with_fates d (fate_before (not many) fate []))) more
    at true = refl
    at false = refl
drives_same p [] [] d fate more = at d.world.caller.ending d.world.answerer.ending
  where
    waits : (due : Bool) → caller_waits due (with_fates d more) ≡ with_fates (caller_waits due (with_fates d [])) more
    waits true = refl
    waits false = refl

    at : (one other : Option End) →
        somebody_waits p one other (with_fates d more) ≡ with_fates (somebody_waits p one other (with_fates d [])) more
    at None other = waits (dis_is_due d.world.caller.state d.world.answerer.state other (nat_lt d.dis p.calls))
    at (Some why) None = refl
    at (Some why) (Some other) = refl

noted_same : (p : Patience) (items others : List PlainItem) (d : Driven) (fate : Fate) (more : List Fate) (t : Tries) →
    let due = is_fate_due (nat_lt d.rnrs p.busy) items others in
    noted p items others (with_fates d (fate_before due fate more)) t ≡ noted p items others (with_fates d (fate_before due fate [])) t
noted_same p (item ∷ items) others d fate more t = refl
noted_same p [] (item ∷ others) d fate more t = at (is_rnr_item item && not (nat_lt d.rnrs p.busy))
  where
    at : (many : Bool) →
        cond many t (meets (first_fate (fate_before (not many) fate more)) item t) ≡
        cond many t (meets (first_fate (fate_before (not many) fate [])) item t)
    at true = refl
    at false = refl
noted_same p [] [] d fate more t = refl

-- ---- an answerer that is never set

quiet : (line : BadLine) (g : Going) → line.busy ≡ 0 → set_in line g ≡ g
quiet line g none = ap (λ b. at b) (none_set line g.call none)
  where
    at : Bool → Going
    at b = record { call = sets (cond b (Some (is_busy_word line (pcg32 g.generator).0)) None) g.call; generator = drawn_if b g.generator }

-- ---- the first step first

gone_next : (made : ℕ) (line : BadLine) (g : Going) → gone (suc made) line g ≡ gone made line (next_going line g)
gone_next zero line g = refl
gone_next (suc made) line g = ap (next_going line) (gone_next made line g)

-- the tries after a step
abbrev tries_next : BadLine → Going → Tries → Tries
tries_next line g t = tries_after (set_in line g).call.world (next_going line g).call.world (met_in line g t)

-- the tries after some steps, from some on
abbrev tries_from : Tries → ℕ → BadLine → Going → Tries
tries_from t zero line g = t
tries_from t (suc made) line g = tries_next line (gone made line g) (tries_from t made line g)

-- and whether they were few
abbrev FewFrom : Tries → ℕ → ℕ → BadLine → Going → Type 0
FewFrom t zero checks line g = Unit {0}
FewFrom t (suc made) checks line g =
    let met = met_in line (gone made line g) (tries_from t made line g) in
    FewFrom t made checks line g × (met.bad ≤ 2) × (met.checks ≤ checks)

from_none : (made : ℕ) (line : BadLine) (g : Going) → tries_from no_tries made line g ≡ tries_gone made line g
from_none zero line g = refl
from_none (suc made) line g = ap (tries_next line (gone made line g)) (from_none made line g)

few_none : (made checks : ℕ) (line : BadLine) (g : Going) → FewFrom no_tries made checks line g ↔ FewTriesGone made checks line g
few_none zero checks line g = (λ h. h, λ h. h)
few_none (suc made) checks line g =
    let at : Going = gone made line g in
    let before = few_none made checks line g in
    let same = ap (λ t. met_in line at t) (from_none made line g) in (
      λ h. (before.0 h.0, subst (λ (t : Tries). t.bad ≤ 2) same h.1, subst (λ (t : Tries). t.checks ≤ checks) same h.2),
      λ h. (before.1 h.0, subst (λ (t : Tries). t.bad ≤ 2) (sym same) h.1, subst (λ (t : Tries). t.checks ≤ checks) (sym same) h.2),
    )

from_next : (t : Tries) (made : ℕ) (line : BadLine) (g : Going) →
    tries_from t (suc made) line g ≡ tries_from (tries_next line g t) made line (next_going line g)
from_next t zero line g = refl
from_next t (suc made) line g =
    ap (λ h. tries_next line h (tries_from t (suc made) line g)) (gone_next made line g) ∙
    ap (λ u. tries_next line (gone made line (next_going line g)) u) (from_next t made line g)

-- few were bad in the first step, and in those after it
abbrev FewFirst : Tries → ℕ → ℕ → BadLine → Going → Type 0
FewFirst t made checks line g =
    ((met_in line g t).bad ≤ 2) × ((met_in line g t).checks ≤ checks) × FewFrom (tries_next line g t) made checks line (next_going line g)

few_next : (t : Tries) (made checks : ℕ) (line : BadLine) (g : Going) →
    FewFrom t (suc made) checks line g ↔ FewFirst t made checks line g
few_next t zero checks line g = (λ h. (h.1, h.2, tt), λ h. (tt, h.0, h.1))
few_next t (suc made) checks line g =
    let before = few_next t made checks line g in
    let same : met_in line (gone (suc made) line g) (tries_from t (suc made) line g) ≡
    met_in line (gone made line (next_going line g)) (tries_from (tries_next line g t) made line (next_going line g)) =
    ap (λ h. met_in line h (tries_from t (suc made) line g)) (gone_next made line g) ∙
    ap (λ u. met_in line (gone made line (next_going line g)) u) (from_next t made line g) in (
      λ h. (let b = before.0 h.0 in
          (b.0, b.1, (b.2, subst (λ (u : Tries). u.bad ≤ 2) same h.1, subst (λ (u : Tries). u.checks ≤ checks) same h.2))),
      λ h. (
        before.1 (h.0, h.1, h.2.0),
        subst (λ (u : Tries). u.bad ≤ 2) (sym same) h.2.1,
        subst (λ (u : Tries). u.checks ≤ checks) (sym same) h.2.2,
      ),
    )

-- ---- the driven call of the fates that are drawn

-- the driven call that a call over a bad line is, with the fates that its next steps draw
abbrev drawing : ℕ → BadLine → Going → Driven
drawing made line g = with_fates g.call (fates_drawn made line g)

-- its first step
step_drawn : (made : ℕ) (line : BadLine) (g : Going) → line.busy ≡ 0 →
    next_of (patience_of line) (drawing (suc made) line g) ≡ drawing made line (next_going line g)
step_drawn made line g none =
    let p : Patience = patience_of line in
    let rest : List Fate = fates_drawn made line (next_going line g) in
    drives_same p g.call.world.to_answerer g.call.world.to_caller g.call (fate_of line (pcg32 g.generator).0) rest ∙
    ap (λ h. with_fates (next_of p (fated line h)) rest) (sym (quiet line g none))

met_drawn : (made : ℕ) (line : BadLine) (g : Going) (t : Tries) → line.busy ≡ 0 →
    noted (patience_of line) g.call.world.to_answerer g.call.world.to_caller (drawing (suc made) line g) t ≡ met_in line g t
met_drawn made line g t none =
    noted_same (patience_of line) g.call.world.to_answerer g.call.world.to_caller g.call (fate_of line (pcg32 g.generator).0)
    (fates_drawn made line (next_going line g)) t ∙ ap (λ h. noted (patience_of line) h.call.world.to_answerer h.call.world.to_caller
    (fated line h) t) (sym (quiet line g none))

-- few are bad in a step that met its fate so, and in those after it
abbrev FewThen : ℕ → ℕ → Patience → Tries → World → Driven → Type 0
FewThen made checks p met old next =
    (met.bad ≤ 2) × (met.checks ≤ checks) × BadTriesAreFew made checks p (tries_after old next.world met) next

then_same : (made checks : ℕ) (p : Patience) (met other : Tries) (old world : World) (next later : Driven) → met ≡ other → old ≡ world →
    next ≡ later → FewThen made checks p met old next → FewThen made checks p other world later
then_same made checks p met other old world next later m w n h =
    subst (λ d. FewThen made checks p other world d) n
    (subst (λ v. FewThen made checks p other v next) w (subst (λ t. FewThen made checks p t old next) m h))

few_drawn : (line : BadLine) → line.busy ≡ 0 → (made checks : ℕ) (g : Going) (t : Tries) →
    BadTriesAreFew made checks (patience_of line) t (drawing made line g) ↔ FewFrom t made checks line g
few_drawn line none zero checks g t = (λ h. tt, λ h. tt)
few_drawn line none (suc made) checks g t =
    let p : Patience = patience_of line in
    let later = few_drawn line none made checks (next_going line g) (tries_next line g t) in
    let steps = few_next t made checks line g in
    let m = met_drawn made line g t none in
    let w = ap (λ (h : Going). h.call.world) (sym (quiet line g none)) in
    let n = step_drawn made line g none in (
      λ h. (let after = then_same made checks p _ _ _ _ _ _ m w n h in steps.1 (after.0, after.1, later.0 after.2)),
      λ h. (let after = steps.0 h in
          then_same made checks p _ _ _ _ _ _ (sym m) (sym w) (sym n) (after.0, after.1, later.1 after.2)),
    )

pub few_tries_driven : FewTriesAreDriven
few_tries_driven line document wish caps generator made checks none =
    let first : Going = going document wish caps generator in
    let here = few_none made checks line first in
    let there = few_drawn line none made checks first no_tries in
    (λ h. there.1 (here.1 h), λ h. here.0 (there.0 h))

-- ---- what it leads to

over_world : (line : BadLine) → line.busy ≡ 0 → (made : ℕ) (g : Going) → is_over g.call ≡ true →
    (gone made line g).call.world ≡ g.call.world
over_world line none zero g over = refl
over_world line none (suc made) g over =
    let h : Going = gone made line g in
    let before : h.call.world ≡ g.call.world = over_world line none made g over in
    let still : is_over h.call ≡ true =
    ap (λ w. is_over_at w.to_answerer w.to_caller w.caller.ending w.answerer.ending) before ∙ over in
    ap (λ (k : Going). (next_of (patience_of line) (fated line k)).world) (quiet line h none) ∙
    (ap (λ (d : Driven). d.world) (over_steps (patience_of line) (fated line h) still) ∙ before)

drive_gone : (line : BadLine) → line.busy ≡ 0 → (made : ℕ) (g : Going) →
    (drive made (patience_of line) (drawing made line g)).world ≡ (gone made line g).call.world
drive_gone line none zero g = refl
drive_gone line none (suc made) g = at (is_over g.call) refl (drive_gone line none made (next_going line g))
  where
    p : Patience
    p = patience_of line

    d : Driven
    d = drawing (suc made) line g

    at : (b : Bool) → is_over g.call ≡ b →
        (drive made (patience_of line) (drawing made line (next_going line g))).world ≡ (gone made line (next_going line g)).call.world →
        (drive (suc made) p d).world ≡ (gone (suc made) line g).call.world
    at true over later = ap (λ b. (cond b d (drive made p (next_of p d))).world) over ∙ sym (over_world line none (suc made) g over)
    at false goes later =
        ap (λ b. (cond b d (drive made p (next_of p d))).world) goes ∙
        (ap (λ e. (drive made p e).world) (step_drawn made line g none) ∙
        (later ∙ ap (λ (h : Going). h.call.world) (sym (gone_next made line g))))

-- ---- common speeds

some_is : {A : Type 0} (x y : A) → ◌≡◌ {A = Option A} (Some x) (Some y) → x ≡ y
some_is {A = A} x y e = ap (λ o. of o) e
  where
    of : Option A → A
    of None = x
    of (Some z) = z

spare_at : (modems : Modems) (coding : Coding) (small : Bool) (width : PageWidth) (fine takes : Bool) (params : Params) →
    if_agreed (cond takes (at_first (first_of (tried_speeds modems modems)) (answerer_caps modems)
    (record { modems = modems; coding = coding; small = small }) width fine) (Err (record {}))) ≡ Some params →
    slower_speeds modems ≤ speeds_below modems modems params.speed
spare_at modems coding small width fine false params e = absurd (cc)
spare_at Fallback coding small width fine true params e =
    subst (λ (q : Params). slower_speeds Fallback ≤ speeds_below Fallback Fallback q.speed) (some_is _ params e) (leb-true _ _ refl)
spare_at V27 coding small width fine true params e =
    subst (λ (q : Params). slower_speeds V27 ≤ speeds_below V27 V27 q.speed) (some_is _ params e) (leb-true _ _ refl)
spare_at V29 coding small width fine true params e =
    subst (λ (q : Params). slower_speeds V29 ≤ speeds_below V29 V29 q.speed) (some_is _ params e) (leb-true _ _ refl)
spare_at V27V29 coding small width fine true params e =
    subst (λ (q : Params). slower_speeds V27V29 ≤ speeds_below V27V29 V27V29 q.speed) (some_is _ params e) (leb-true _ _ refl)
spare_at V17 coding small width fine true params e =
    subst (λ (q : Params). slower_speeds V17 ≤ speeds_below V17 V17 q.speed) (some_is _ params e) (leb-true _ _ refl)

spare_left : (options : CallOptions) (page : PagePixels) (params : Params) →
    agreed_for (answerer_caps options.modems) (caller_wish options) (Some page) ≡ Some params →
    slower_speeds options.modems ≤ speeds_left (answerer_caps options.modems) (caller_wish options) params
unfolding agreed_for speeds_left
spare_left options page params = at (width_of_pixels page.width)
  where
    at : (width : Option PageWidth) →
        agreed_at (answerer_caps options.modems) (caller_wish options) width page.fine ≡ Some params →
        slower_speeds options.modems ≤ speeds_below options.modems options.modems params.speed
    at None e = absurd (cc)
    at (Some width) e =
        spare_at options.modems options.coding options.small width page.fine
        (takes_pages (answerer_caps options.modems) width page.fine) params e

-- ---- it is borne

ends_normally : (items others : List PlainItem) (one other : Option End) → is_over_at items others one other ≡ true → EndsWell one →
    one ≡ Some Normal
ends_normally [] [] (Some Normal) (Some other) over well = refl
ends_normally [] [] (Some NoAnswer) (Some other) over well = absurd well
ends_normally [] [] (Some NotCompatible) (Some other) over well = absurd well
ends_normally [] [] (Some BadTraining) (Some other) over well = absurd well
ends_normally [] [] (Some NoReply) (Some other) over well = absurd well
ends_normally [] [] (Some Unreadable) (Some other) over well = absurd well
ends_normally [] [] (Some StillBusy) (Some other) over well = absurd well
ends_normally [] [] (Some PeerLeft) (Some other) over well = absurd well
ends_normally [] [] (Some BadPage) (Some other) over well = absurd well
ends_normally [] [] (Some PageTooLong) (Some other) over well = absurd well
ends_normally [] [] (Some why) None over well = absurd (cc)
ends_normally [] [] None other over well = absurd (cc)
ends_normally [] (item ∷ others) one other over well = absurd (cc)
ends_normally (item ∷ items) others one other over well = absurd (cc)

pub few_tries_borne : DrivenCallsAreSafe → CallersEndWell → FewTriesAreBorne
few_tries_borne safe well options line number document made some full agreed few over =
    let caps : Caps = answerer_caps options.modems in
    let wish : Wish = caller_wish options in
    let p : Patience = patience_of line in
    let first : Going = bad_call options line number document in
    let fates : List Fate = fates_drawn made line first in
    let last : World = (gone made line first).call.world in
    let same : (drive made p (new_driven document wish caps fates)).world ≡ last = drive_gone line few.ready made first in
    let can : CanBear document wish caps p (slower_speeds options.modems) =
    record { patient = few.patient; call = record { some = some; full = full; agreed = agreed; speeds = spare_left options } } in
    let bad : BadTriesAreFew made (slower_speeds options.modems) p no_tries (new_driven document wish caps fates) =
    (few_tries_driven line document wish caps first.generator made (slower_speeds options.modems) few.ready).0 few.few in
    let ends : EndsWell last.caller.ending =
    subst (λ w. EndsWell w.caller.ending) same (well document wish caps p (slower_speeds options.modems) fates made can bad) in
    let normal : last.caller.ending ≡ Some Normal =
    ends_normally last.to_answerer last.to_caller last.caller.ending last.answerer.ending over ends in
    let kept : IsSafeWorld document last = subst (IsSafeWorld document) same (safe document wish caps p fates made full) in
    let all = kept.caller_normal normal in
    record { caller_end = normal; confirmed_all = all.1; stored_all = all.0 }

-- Which losses a driven call bears: in each phase of it at most two tries are bad.
use Rattle.std.specs.Prelude.{◌≡◌, ℕ, zero, suc, ◌≤◌, ◌<◌, Bool, true, false, cond, ◌&&◌, not, nat_eq, nat_lt, List, [], ◌∷◌, length, Option, Some, None}
use Rattle.std.specs.Bool.{beq}
use Rattle.raster.specs.Pages.{PagePixels}
use Rattle.signals.specs.declared.params.Caps.{Caps}
use Rattle.signals.specs.declared.params.Params.{Params}
use Rattle.signals.specs.declared.params.Wish.{Wish}
use Rattle.stations.specs.Layers.{Document, IsFullPage, agreed_for, speeds_left}
use Rattle.stations.specs.Laws.{Each}
use Rattle.stations.specs.Inputs.{PlainItem, checked}
use Rattle.stations.specs.CallerStep.{Caller, confirmed}
use Rattle.stations.specs.declared.turn.CallerState.{CallerState}
use Rattle.stations.specs.declared.turn.CallerState.TheVariants.{WaitDis, WaitCfr, WaitBlock, WaitReady}
use Rattle.stations.specs.declared.turn.End.{End}
use Rattle.stations.specs.declared.turn.End.TheVariants.{Normal, NoAnswer, NoReply, Unreadable, Training as BadTraining}
use Rattle.line_sim.specs.Line.{World}
use Rattle.line_sim.specs.Polite.{IsAgreedOn}
use Rattle.line_sim.specs.Driving.{Fate, Patience, Driven, first_fate, is_rnr_item, drives, is_over, drive, new_driven, most_steps}
use Rattle.line_sim.specs.Driving.Fate.{comes, lost, spoiled}

-- How many tries of the present phase were bad, whether the present one is, and how many training checks of the phase were spoiled. A phase
-- is the negotiation of a group, or a block. A try is one transmission of the caller, or one DIS, with its answer; it is bad if any item of
-- it is lost or spoiled.
pub record Tries : Type 0 where
  pub bad : ℕ
  pub now : Bool
  pub checks : ℕ

-- the count at the beginning of a phase
abbrev pub no_tries : Tries
no_tries = record { bad = 0; now = false; checks = 0 }

-- a fate makes a try bad: the item is lost or spoiled
abbrev pub is_bad : Fate → Bool
is_bad comes = false
is_bad lost = true
is_bad spoiled = true

-- a try is counted bad once, however many of its items are
abbrev pub bad_with : Bool → Bool → ℕ → ℕ
bad_with true false bad = suc bad
bad_with _ _ bad = bad

-- once bad a try stays bad
abbrev pub now_with : Bool → Bool → Bool
now_with true now = true
now_with false now = now

-- one more training check is spoiled, if it is one
abbrev pub checks_with : Fate → PlainItem → ℕ → ℕ
checks_with spoiled (checked octets) checks = suc checks
checks_with _ _ checks = checks

-- the tries with what becomes of an item
abbrev pub meets : Fate → PlainItem → Tries → Tries
meets fate item t =
    record {
      bad = bad_with (is_bad fate) t.now t.bad;
      now = now_with (is_bad fate) t.now;
      checks = checks_with fate item t.checks;
    }

-- the tries with what becomes of what is first under way, if anything is; an RNR too many is lost by no fate
abbrev pub noted : Patience → List PlainItem → List PlainItem → Driven → Tries → Tries
noted p (item ∷ items) others d t = meets (first_fate d.fates) item t
noted p [] (item ∷ items) d t =
    cond (is_rnr_item item && not (nat_lt d.rnrs p.busy)) t (meets (first_fate d.fates) item t)
noted p [] [] d t = t

-- a try begins in a step: nothing was under way to the answerer, and the caller transmits; or nothing at all was, and a DIS is sent
abbrev pub begins_try : List PlainItem → List PlainItem → List PlainItem → List PlainItem → Bool
begins_try [] others (item ∷ items) more = true
begins_try [] [] [] (item ∷ items) = true
begins_try _ _ _ _ = false

-- the caller is in a group's negotiation; in other states it is in a block
abbrev pub negotiates : CallerState → Bool
negotiates WaitDis = true
negotiates WaitCfr = true
negotiates WaitBlock = false
negotiates WaitReady = false

-- a step stays in a phase: in one block, or in one group's negotiation
abbrev pub is_same_phase : Caller → Caller → Bool
is_same_phase old new = nat_eq old.place new.place && beq (negotiates old.state) (negotiates new.state)

-- the tries after a step
abbrev pub tries_after : World → World → Tries → Tries
tries_after old new t =
    cond (is_same_phase old.caller new.caller)
    (record {
      bad = t.bad;
      now = t.now && not (begins_try old.to_answerer old.to_caller new.to_answerer new.to_caller);
      checks = t.checks;
    })
    no_tries

-- in a number of steps of a driven call no phase has more than two bad tries, and no group more than `checks` spoiled checks
abbrev pub BadTriesAreFew : ℕ → ℕ → Patience → Tries → Driven → Type 0
BadTriesAreFew zero checks p t d = Unit {0}
BadTriesAreFew (suc most) checks p t d =
    let met = noted p d.world.to_answerer d.world.to_caller d t in
    let next = drives p d.world.to_answerer d.world.to_caller d in
    (met.bad ≤ 2) × (met.checks ≤ checks) × BadTriesAreFew most checks p (tries_after d.world next.world met) next

-- a document has pages, both stations agree on each and its code fits a call, and at least `checks` common speeds are below the first
pub record CanGoThrough (document : Document) (wish : Wish) (caps : Caps) (checks : ℕ) : Type 0 where
  pub some : 0 < length document
  pub full : Each IsFullPage document
  pub agreed : Each (IsAgreedOn caps wish) document
  pub speeds :
      (page : PagePixels) (params : Params) → agreed_for caps wish (Some page) ≡ Some params → checks ≤ speeds_left caps wish params

-- what a call needs to bear losses: it can go through, with `checks` lower common speeds, and at least three DIS are sent in a wait
pub record CanBear (document : Document) (wish : Wish) (caps : Caps) (p : Patience) (checks : ℕ) : Type 0 where
  pub patient : 3 ≤ p.calls
  pub call : CanGoThrough document wish caps checks

-- the tries that a driven call has come to
abbrev pub tries_of : ℕ → Patience → Tries → Driven → Tries
tries_of zero p t d = t
tries_of (suc most) p t d =
    let next = drives p d.world.to_answerer d.world.to_caller d in
    cond (is_over d) t (tries_of most p (tries_after d.world next.world (noted p d.world.to_answerer d.world.to_caller d t)) next)

-- what an end has cost, in bad tries or spoiled checks of the last phase, if at most `most` DIS are sent in a wait
abbrev pub Costs : ℕ → ℕ → Tries → End → Type 0
Costs most checks t Normal = Unit {0}
Costs most checks t NoAnswer = most ≤ t.bad
Costs most checks t NoReply = 3 ≤ t.bad
Costs most checks t Unreadable = 4 ≤ t.bad
Costs most checks t BadTraining = checks < t.checks
Costs most checks t _ = ⊥

-- The law: if both stations agree on each page and its code fits a call, the caller of a driven call ends with Normal, NoAnswer, NoReply,
-- Unreadable or Training, and each of the last four has cost as many bad tries of one phase as its reason asks: `calls` for NoAnswer, 3 for
-- NoReply, 4 for Unreadable; for Training more spoiled checks of a group than it has lower common speeds.
abbrev pub DrivenCallsEndFor : Type 0
DrivenCallsEndFor =
    (document : Document) (wish : Wish) (caps : Caps) (p : Patience) (checks : ℕ) (fates : List Fate) (most : ℕ) →
    CanGoThrough document wish caps checks → 1 ≤ p.calls → most_steps p document < most →
    let first = new_driven document wish caps fates in
    (why : End) × ((drive most p first).world.caller.ending ≡ Some why) × Costs p.calls checks (tries_of most p no_tries first) why

-- The law: if the caller has ended normally and no item of its last try, the DCN, was lost, the answerer has ended normally too.
abbrev pub AnswerersEndWell : Type 0
AnswerersEndWell =
    (document : Document) (wish : Wish) (caps : Caps) (p : Patience) (checks : ℕ) (fates : List Fate) (most : ℕ) →
    CanGoThrough document wish caps checks → 1 ≤ p.calls → most_steps p document < most →
    let first = new_driven document wish caps fates in
    (drive most p first).world.caller.ending ≡ Some Normal → (tries_of most p no_tries first).bad ≡ 0 →
    (drive most p first).world.answerer.ending ≡ Some Normal

-- a caller has ended normally, or hasn't ended
abbrev pub EndsWell : Option End → Type 0
EndsWell None = Unit {0}
EndsWell (Some Normal) = Unit {0}
EndsWell (Some _) = ⊥

-- The law: a caller ends in no other way than normally if at most two tries of each phase are bad, no group has more spoiled training
-- checks than lower common speeds, at least three DIS are sent in a wait, and both stations agree on each page, whose code fits a call.
abbrev pub CallersEndWell : Type 0
CallersEndWell =
    (document : Document) (wish : Wish) (caps : Caps) (p : Patience) (checks : ℕ) (fates : List Fate) (most : ℕ) →
    CanBear document wish caps p checks → BadTriesAreFew most checks p no_tries (new_driven document wish caps fates) →
    EndsWell (drive most p (new_driven document wish caps fates)).world.caller.ending

-- the caller has ended normally, and all pages are stored and confirmed
pub record IsBorne (document : Document) (w : World) : Type 0 where
  pub caller_end : w.caller.ending ≡ Some Normal
  pub confirmed_all : confirmed w.caller ≡ length document
  pub stored_all : w.answerer.pages ≡ document

-- The law: a driven call that can bear losses, and whose phases have few bad tries, ends normally with all pages stored and confirmed,
-- after more steps than its document bounds.
abbrev pub DrivenCallsBear : Type 0
DrivenCallsBear =
    (document : Document) (wish : Wish) (caps : Caps) (p : Patience) (checks : ℕ) (fates : List Fate) (most : ℕ) →
    CanBear document wish caps p checks → most_steps p document < most →
    BadTriesAreFew most checks p no_tries (new_driven document wish caps fates) →
    IsBorne document (drive most p (new_driven document wish caps fates)).world

-- how many fates of a list are bad
abbrev pub bad_fates : List Fate → ℕ
bad_fates [] = 0
bad_fates (comes ∷ fates) = bad_fates fates
bad_fates (lost ∷ fates) = suc (bad_fates fates)
bad_fates (spoiled ∷ fates) = suc (bad_fates fates)

-- how many fates of a list spoil
abbrev pub spoiling_fates : List Fate → ℕ
spoiling_fates [] = 0
spoiling_fates (comes ∷ fates) = spoiling_fates fates
spoiling_fates (lost ∷ fates) = spoiling_fates fates
spoiling_fates (spoiled ∷ fates) = suc (spoiling_fates fates)

-- The law: so a driven call bears any two losses, wherever they are. A spoiled training check counts as one, and needs a lower common
-- speed.
abbrev pub AnyTwoLossesAreBorne : Type 0
AnyTwoLossesAreBorne =
    (document : Document) (wish : Wish) (caps : Caps) (p : Patience) (fates : List Fate) (most : ℕ) →
    CanBear document wish caps p (spoiling_fates fates) → bad_fates fates ≤ 2 → most_steps p document < most →
    IsBorne document (drive most p (new_driven document wish caps fates)).world

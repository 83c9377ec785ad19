-- Which calls over a bad line have few bad tries in each phase, as `line_sim` counts them: those that `line_sim::laws::calls_bear` is of.
use Rattle.std.specs.Prelude.{◌≡◌, ◌≤◌, ◌<◌, ◌-◌, ◌↔◌, ℕ, zero, suc, true, cond, List, [], ◌∷◌, length}
use Rattle.rand_pcg.specs.Lcg.{Lcg}
use Rattle.rand_pcg.specs.Pcg.{pcg32}
use Rattle.signals.specs.Agreement.{tried_speeds}
use Rattle.signals.specs.declared.params.Caps.{Caps}
use Rattle.signals.specs.declared.params.Modems.{Modems}
use Rattle.signals.specs.declared.params.Wish.{Wish}
use Rattle.stations.specs.Laws.{Each}
use Rattle.stations.specs.Layers.{Document, IsFullPage}
use Rattle.line_sim.specs.Driving.{Fate, is_over, new_driven}
use Rattle.line_sim.specs.Polite.{IsAgreedOn}
use Rattle.line_sim.specs.Tolerance.{BadTriesAreFew, IsBorne, Tries, no_tries, noted, tries_after}
use Rattle.calls.specs.BadLines.{Going, bad_call, fated, going, gone, is_due, next_going, patience_of, set_in}
use Rattle.calls.specs.Calls.{answerer_caps, caller_wish}
use Rattle.calls.specs.Losses.{fate_of}
use Rattle.calls.specs.declared.losses.BadLine.{BadLine}
use Rattle.calls.specs.declared.options.CallOptions.{CallOptions}

-- how many speeds two stations with the same modems have below their first one
abbrev pub slower_speeds : Modems → ℕ
slower_speeds modems = length (tried_speeds modems modems) - 1

-- the tries of a call over a bad line when what is first under way in its next step has met its fate
abbrev pub met_in : BadLine → Going → Tries → Tries
met_in line g t =
    let d = fated line (set_in line g) in noted (patience_of line) d.world.to_answerer d.world.to_caller d t

-- the tries of a call after this number of first steps, counted as `noted` and `tries_after` of `line_sim` do
abbrev pub tries_gone : ℕ → BadLine → Going → Tries
tries_gone zero line first = no_tries
tries_gone (suc made) line first =
    tries_after (set_in line (gone made line first)).call.world (gone (suc made) line first).call.world
    (met_in line (gone made line first) (tries_gone made line first))

-- in this number of first steps no phase has more than two bad tries, and no group more than `checks` spoiled checks
abbrev pub FewTriesGone : ℕ → ℕ → BadLine → Going → Type 0
FewTriesGone zero checks line first = Unit {0}
FewTriesGone (suc made) checks line first =
    let met = met_in line (gone made line first) (tries_gone made line first) in
    FewTriesGone made checks line first × (met.bad ≤ 2) × (met.checks ≤ checks)

-- the fates that this number of first steps draws, if the answerer is never set
abbrev pub fates_drawn : ℕ → BadLine → Going → List Fate
fates_drawn zero line g = []
fates_drawn (suc made) line g =
    let rest = fates_drawn made line (next_going line g) in
    cond (is_due line g.call) (fate_of line (pcg32 g.generator).0 ∷ rest) rest

-- The call of this number, of a document, has few bad tries: at most two in each phase, and in a group no more spoiled training checks than
-- common speeds are below the first one. At least three DIS come in a wait, and the answerer is never busy. Such calls are those of
-- `line_sim::laws::calls_bear`.
pub record HasFewTries (options : CallOptions) (line : BadLine) (number : ℕ) (document : Document) (made : ℕ) : Type 0 where
  pub patient : 3 ≤ line.calls
  pub ready : line.busy ≡ 0
  pub few : FewTriesGone made (slower_speeds options.modems) line (bad_call options line number document)

-- ---- the laws

-- The law: if the answerer is never busy, a call over a bad line has few bad tries exactly if the driven call of the fates that it draws
-- has, by the definition with which `line_sim::laws::calls_bear` says what a call bears.
abbrev pub FewTriesAreDriven : Type 0
FewTriesAreDriven =
    (line : BadLine) (document : Document) (wish : Wish) (caps : Caps) (generator : Lcg) (made checks : ℕ) → line.busy ≡ 0 →
    let first = going document wish caps generator in
    FewTriesGone made checks line first ↔
    BadTriesAreFew made checks (patience_of line) no_tries (new_driven document wish caps (fates_drawn made line first))

-- The law: if both stations agree on each page and its code fits a call, a call with few bad tries in each phase ends normally for the
-- caller once it is over, with all pages stored and confirmed.
abbrev pub FewTriesAreBorne : Type 0
FewTriesAreBorne =
    (options : CallOptions) (line : BadLine) (number : ℕ) (document : Document) (made : ℕ) → 0 < length document →
    Each IsFullPage document → Each (IsAgreedOn (answerer_caps options.modems) (caller_wish options)) document →
    HasFewTries options line number document made →
    let last = (gone made line (bad_call options line number document)).call in
    is_over last ≡ true → IsBorne document last.world

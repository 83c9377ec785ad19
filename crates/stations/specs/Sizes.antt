-- How many groups and blocks a call can have.
use Rattle.std.specs.Prelude.{◌≡◌, ℕ, suc, ◌*◌, ◌≤◌, true, List, [], ◌∷◌, length, Option, Some, None, slice_get}
use Rattle.raster.specs.Pages.{PagePixels}
use Rattle.signals.specs.declared.params.Params.{Params}
use Rattle.stations.specs.Layers.{Document, code_blocks, code_within_limit}
use Rattle.stations.specs.Blocks.{Block, call_blocks}
use Rattle.stations.specs.Inputs.{CallerInput}
use Rattle.signals.specs.declared.params.Caps.{Caps}
use Rattle.signals.specs.declared.params.Wish.{Wish}
use Rattle.stations.specs.Runs.{caller_after}
use Rattle.stations.specs.CallerStep.{Caller, blocks_of, caller_step, new_caller}
use Rattle.stations.specs.Lasting.{HasGroup, groups_in, blocks_in}
use Rattle.stations.specs.declared.turn.CallerState.{CallerState}
use Rattle.stations.specs.declared.turn.CallerState.TheVariants.{WaitDis, WaitCfr, WaitBlock, WaitReady}

-- each block has at most 256 frames
abbrev pub AllShort : List (List (List ℕ)) → Type 0
AllShort [] = Unit {0}
AllShort (frames ∷ blocks) = (length frames ≤ 256) × AllShort blocks

-- law: a page's code is cut into blocks of at most 256 frames, and into at most 512 of them if a call can carry it
pub record BlocksAreFew : Type 0 where
  pub short : (params : Params) (page : PagePixels) → AllShort (code_blocks params page)
  pub few : (params : Params) (page : PagePixels) → code_within_limit params page ≡ true → length (code_blocks params page) ≤ 512

-- a block that is there has at most 256 frames
abbrev pub IsShort : Option Block → Type 0
IsShort None = Unit {0}
IsShort (Some block) = length block.frames ≤ 256

-- each block of a caller has at most 256 frames
abbrev pub AreShort : Caller → Type 0
AreShort c = (k : ℕ) → IsShort (slice_get (blocks_of c) k)

-- a caller's place is within its blocks: before a group, within those of the groups that are through
abbrev pub PlaceFits : CallerState → Caller → Type 0
PlaceFits WaitDis c = c.place ≤ length (call_blocks c.finished 0 c.document)
PlaceFits WaitCfr c = c.place ≤ length (call_blocks c.finished 0 c.document)
PlaceFits WaitBlock c = c.place ≤ length (blocks_of c)
PlaceFits WaitReady c = c.place ≤ length (blocks_of c)

-- what holds of every caller: its place is within its blocks, and each group that is through had a block
pub record IsPlaced (c : Caller) : Type 0 where
  pub group : HasGroup c.state c.present
  pub place : PlaceFits c.state c
  -- each group that is through had a block
  pub groups : length c.finished ≤ c.place

-- law: each step of a caller keeps this, and keeps the document
abbrev pub StepsArePlaced : Type 0
StepsArePlaced =
    (c : Caller) (input : CallerInput) → IsPlaced c →
    IsPlaced (caller_step c input).next × ((caller_step c input).next.document ≡ c.document)

-- such a caller has begun at most 512 blocks for each page of its document, and at most one group more than that number
abbrev pub PlacedAreFew : Type 0
PlacedAreFew =
    (c : Caller) → IsPlaced c → (blocks_in c.state c ≤ 512 * length c.document) × (groups_in c.state c ≤ suc (512 * length c.document)) ×
    (length c.finished ≤ 512 * length c.document)

-- law: after any inputs a caller has begun at most 512 blocks for each page of its document, and at most one group more than that number
abbrev pub CallersAreFew : Type 0
CallersAreFew =
    (document : Document) (wish : Wish) (caps : Caps) (params : Params) (inputs : List CallerInput) →
    let c = caller_after inputs (new_caller document wish caps params) in
    (blocks_in c.state c ≤ 512 * length document) × (groups_in c.state c ≤ suc (512 * length document))

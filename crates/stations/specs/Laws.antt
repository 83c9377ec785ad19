-- What the layers below promise of a page whose code a call can carry, of agreements, and of signals that are written.
use Rattle.std.specs.Prelude.{◌≡◌, ◌↔◌, ◌≢◌, ℕ, suc, ◌≤◌, true, List, [], ◌∷◌, ◌++◌, length, Option, Some, Ok, Bool}
use Rattle.raster.specs.Pages.{PagePixels}
use Rattle.signals.specs.Agreement.{allowed}
use Rattle.signals.specs.Reading.{read_content}
use Rattle.signals.specs.Signals.{PlainSignal}
use Rattle.signals.specs.Writing.{IsWritable, content_of}
use Rattle.signals.specs.declared.params.Caps.{Caps}
use Rattle.signals.specs.declared.params.Params.{Params}
use Rattle.signals.specs.declared.params.Wish.{Wish}
use Rattle.signals.specs.declared.signal.Side.{Side}
use Rattle.stations.specs.Layers.{IsPageOf, IsFullPage, Fits, in_one_group, agreed_for, lowered, code_blocks, code_within_limit}
use Rattle.stations.specs.Layers.{within_page_limit, page_read, training, is_good_training, speeds_left}
use Rattle.partial_page.specs.Assembling.{within_frame_size}
use Rattle.stations.specs.Blocks.{joined, groups_after}

-- each item of a list is such an item
abbrev pub Each : {A : Type 0} → (A → Type 0) → List A → Type 0
Each P [] = Unit {0}
Each P (x ∷ xs) = P x × Each P xs

-- the octets of blocks, one after the other
abbrev pub joined_all : List (List (List ℕ)) → List ℕ
joined_all [] = []
joined_all (frames ∷ blocks) = joined frames ++ joined_all blocks

-- a frame can be sent: it has 1 to 256 octets, and no more than agreed
pub record IsSendableFrame (params : Params) (octets : List ℕ) : Type 0 where
  pub some : 1 ≤ length octets
  pub few : length octets ≤ 256
  pub agreed : within_frame_size params octets ≡ true

-- a block has 1 to 256 frames that can be sent
abbrev pub IsSendable : Params → List (List ℕ) → Type 0
IsSendable params frames = (frames ≢ []) × Each (IsSendableFrame params) frames × (length frames ≤ 256)

-- a page is readable: its code is cut into blocks that can be sent, which joined again read as the page
pub record IsReadable (params : Params) (page : PagePixels) : Type 0 where
  -- its code is cut into one block or more
  pub some : code_blocks params page ≢ []
  pub sendable : Each (IsSendable params) (code_blocks params page)
  -- joined again, the code reads as the page
  pub read : page_read params (joined_all (code_blocks params page)) ≡ Some page
  -- each beginning of it is within the limit of a page
  pub fronts : (front rest : List ℕ) → front ++ rest ≡ joined_all (code_blocks params page) → within_page_limit front ≡ true

-- law of the layers below: a whole page whose code is within the limit is readable, under parameters that fit it
abbrev pub LayersHold : Type 0
LayersHold =
    (params : Params) (page : PagePixels) → IsFullPage page → Fits params page → code_within_limit params page ≡ true →
    IsReadable params page

-- law of the layers below: octets read as a page exactly if it is theirs by the grammar of its code
abbrev pub ReadsByGrammar : Type 0
ReadsByGrammar =
    (params : Params) (octets : List ℕ) (page : PagePixels) → (page_read params octets ≡ Some page) ↔ IsPageOf params octets page

-- each page of a group that is begun is readable, if its code is within the limit; the layer above holds this, by LayersHold
abbrev pub AreReadable : List Params → List PagePixels → Type 0
AreReadable groups [] = Unit {0}
AreReadable [] (page ∷ pages) = Unit {0}
AreReadable (params ∷ groups) (page ∷ pages) =
    (code_within_limit params page ≡ true → IsReadable params page) × AreReadable (groups_after page pages (params ∷ groups)) pages

-- law of the layers below: what is agreed is allowed and fits the page, at each lower speed too; and a training check as it is sent is good
pub record SignalsHold : Type 0 where
  pub agreed_allowed :
      (caps : Caps) (wish : Wish) (page : PagePixels) (params : Params) →
      agreed_for caps wish (Some page) ≡ Some params → allowed caps params ≡ true
  pub agreed_fits :
      (caps : Caps) (wish : Wish) (page : PagePixels) (params : Params) →
      agreed_for caps wish (Some page) ≡ Some params → Fits params page
  pub lowered_fits :
      (caps : Caps) (wish : Wish) (page : PagePixels) (params next : Params) →
      lowered caps wish params ≡ Some next → Fits params page → Fits next page
  pub alike_fits : (params : Params) (page next : PagePixels) → in_one_group page next ≡ true → Fits params page → Fits params next
  pub good : (params : Params) → is_good_training (training params) params ≡ true

-- law of the layers below: at most five speeds are tried below the first, and each next one has one speed less below it
pub record SpeedsHold : Type 0 where
  pub first :
      (caps : Caps) (wish : Wish) (page : Option PagePixels) (params : Params) →
      agreed_for caps wish page ≡ Some params → speeds_left caps wish params ≤ 5
  pub next :
      (caps : Caps) (wish : Wish) (params lower : Params) →
      lowered caps wish params ≡ Some lower → suc (speeds_left caps wish lower) ≡ speeds_left caps wish params

-- law of the layers below: a signal that a station sends is read as the signal, whichever station sends it
abbrev pub SignalsArrive : Type 0
SignalsArrive =
    (signal : PlainSignal) (side : Side) (last : Bool) → IsWritable signal → read_content (content_of signal side last) ≡ Ok signal

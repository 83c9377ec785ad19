-- The caller's fields, and the tuples of the caller's table that they represent.
use Rattle.std.specs.Borrow.{Bor}
use Rattle.std.specs.Prelude.{ℕ, ◌≡◌, ◌≢◌, ◌⊎◌, ◌<◌, ◌≤◌, slice_index_or, All, IsSome, ◌+◌, suc, cond, nat_lt, List, [], ◌∷◌, ◌++◌, length}
use Rattle.std.specs.Prelude.{drop, Option, Some, None, Result, Ok, Err}
use Rattle.raster.specs.Pages.{PagePixels}
use Rattle.signals.specs.declared.params.Caps.{Caps}
use Rattle.signals.specs.declared.params.Params.{Params}
use Rattle.signals.specs.declared.params.Wish.{Wish}
use Rattle.signals.specs.declared.signal.PageEnd.{PageEnd}
use Rattle.signals.specs.declared.signal.PageEnd.TheVariants.{Null, Mps, Eop}
use Rattle.signals.specs.Signals.{cfr, mcf}
use Rattle.stations.specs.Inputs.{CallerInput, hears}
use Rattle.stations.specs.Layers.{Document, code_blocks}
use Rattle.signals.specs.Agreement.{width_of_pixels}
use Rattle.stations.specs.Blocks.{Block, page_blocks, end_before, groups_after, call_blocks, pages_before}
use Rattle.stations.specs.CallerStep.{Caller, CallerAnswer, blocks_of, present_block, new_caller, no_caps, no_params}
use Rattle.stations.specs.declared.fault.CallerFault.{CallerFault}
use Rattle.stations.specs.declared.turn.CallerState.{CallerState}
use Rattle.stations.specs.declared.turn.CallerState.TheVariants.{WaitDis, WaitCfr, WaitBlock, WaitReady}
use Rattle.stations.specs.declared.turn.End.{End}
use Rattle.stations.specs.declared.turn.Turn.{Turn}

-- the caller's fields: those of the tuple, but in place of the tuple's place in the list of all blocks a page's number, a block's place in
-- the page, and the page's blocks once its code is made
pub record CallerFields : Type 0 where
  pub document : Document
  pub wish : Wish
  pub caps : Caps
  pub params : Params
  pub state : CallerState
  pub page : ℕ
  pub block : ℕ
  pub encoded : Option (List (List (List ℕ)))
  pub try : ℕ
  pub pprs : ℕ
  pub ending : Option End

-- at a page that begins a group: whatever groups follow, their blocks come after the blocks so far
pub record AtGroup (v : CallerFields) (t : Caller) : Type 0 where
  pub front : List Block
  pub place : t.place ≡ length front
  pub pages : pages_before front (length front) ≡ v.page
  pub ahead :
      (more : List Params) →
      call_blocks (t.finished ++ more) 0 t.document ≡ front ++ call_blocks more v.page (drop v.page t.document)

-- inside a group, at a block of a page: whatever groups follow, after the blocks so far come those of the page from this block on, and then
-- those of the pages after it
pub record AtBlock (v : CallerFields) (t : Caller) : Type 0 where
  pub front : List Block
  pub place : t.place ≡ length front
  pub pages : pages_before front (length front) ≡ v.page
  pub page : PagePixels
  pub following : List PagePixels
  pub page_is : drop v.page v.document ≡ page ∷ following
  pub encoded : v.encoded ≡ Some (code_blocks v.params page)
  pub within : v.block < length (code_blocks v.params page)
  pub present : t.present ≡ v.params ∷ []
  pub ahead :
      (more : List Params) →
      call_blocks (t.finished ++ v.params ∷ more) 0 t.document ≡
      front ++
      (page_blocks v.params v.page (end_before page following) v.block (drop v.block (code_blocks v.params page)) ++
      call_blocks (groups_after page following (v.params ∷ more)) (suc v.page) following)

-- the caller is sending a page: it is past CFR
abbrev pub IsSending : CallerState → Type 0
IsSending WaitDis = ⊥
IsSending WaitCfr = ⊥
IsSending WaitBlock = Unit {0}
IsSending WaitReady = Unit {0}

-- the fields are at the tuple's place in the call's list; in WaitCfr and from there on the present group has the fields' parameters
abbrev pub HasPlace : CallerState → CallerFields → Caller → Type 0
HasPlace WaitDis v t = (t.present ≡ []) × AtGroup v t
HasPlace WaitCfr v t = (t.present ≡ v.params ∷ []) × AtGroup v t
HasPlace WaitBlock v t = AtBlock v t
HasPlace WaitReady v t = AtBlock v t

-- the fields represent a tuple: what is still ahead is the same, whatever groups may follow, so that no step has to look at the whole
-- document; of an ended caller's place only the number of its confirmed pages is kept
pub record Represents (v : CallerFields) (t : Caller) : Type 0 where
  pub document : t.document ≡ v.document
  pub wish : t.wish ≡ v.wish
  pub caps : t.caps ≡ v.caps
  pub params : t.params ≡ v.params
  pub state : t.state ≡ v.state
  pub try : t.try ≡ v.try
  pub pprs : t.pprs ≡ v.pprs
  pub ending : t.ending ≡ v.ending
  pub confirms : pages_before (blocks_of t) t.place ≡ v.page
  pub place : v.ending ≡ None → HasPlace v.state v t

-- whichever tuple the fields represent, they represent the answer's tuple afterwards, and the turn is the answer's
abbrev pub Answers : CallerFields → CallerFields → Turn → (Caller → CallerAnswer) → Type 0
Answers old new turn answer = (t : Caller) → Represents old t → Represents new (answer t).next × (turn ≡ (answer t).turn)

-- whichever tuple the fields represent, they represent the answer's tuple afterwards, and the turn is the answer's; or memory was refused,
-- and nothing has changed
abbrev pub AnswersOrRefuses : {E : Type 0} → CallerFields → CallerFields → Result Turn E → (Caller → CallerAnswer) → Type 0
AnswersOrRefuses old new (Ok turn) answer = Answers old new turn answer
AnswersOrRefuses old new (Err refused) answer = new ≡ old

-- the place of the block after one of a page's blocks, if there is one
abbrev pub next_in_page : Option (List (List (List ℕ))) → ℕ → Option ℕ
next_in_page None block = None
next_in_page (Some blocks) block = cond (nat_lt (block + 1) (length blocks)) (Some (block + 1)) None

-- how the first of some pages ends
abbrev pub end_of_first : List PagePixels → PageEnd
end_of_first [] = Eop
end_of_first (page ∷ following) = end_before page following

-- each page has a width that a call can have
abbrev pub AreCallable : Document → Type 0
AreCallable document = All (λ (page : PagePixels). IsSome (width_of_pixels page.width)) document

-- no page starts after an MCF, since another block of the page does, or the document or the group is through
abbrev pub NoPageStarts : CallerFields → Type 0
NoPageStarts v = (next_in_page v.encoded v.block ≢ None) ⊎ (end_of_first (drop v.page v.document) ≢ Mps)

-- an input that takes no memory: no page starts after it
abbrev pub CallerTakesNoMemory : CallerState → CallerInput → CallerFields → Type 0
CallerTakesNoMemory WaitCfr (hears cfr) v = ⊥
CallerTakesNoMemory WaitBlock (hears mcf) v = NoPageStarts v
CallerTakesNoMemory WaitReady (hears mcf) v = NoPageStarts v
CallerTakesNoMemory _ _ v = Unit {0}

-- the end that a block's PPS carries: its page's, of the page's last block
abbrev pub end_by : Option ℕ → PageEnd → PageEnd
end_by None ends = ends
end_by (Some next) ends = Null

-- the end that the PPS of the present block carries, by the fields
abbrev pub end_of_fields : CallerFields → PageEnd
end_of_fields v = end_by (next_in_page v.encoded v.block) (end_of_first (drop v.page v.document))

-- the present block, by the fields
abbrev pub block_of_fields : CallerFields → List (List (List ℕ)) → Block
block_of_fields v blocks =
    record {
      page = v.page;
      place = v.block;
      ends = end_of_fields v;
      params = v.params;
      frames = slice_index_or blocks v.block [];
    }

-- the page's blocks are there with the present one among them; None if there are too few
abbrev pub HasBlock : CallerFields → Option (Bor (List (List (List ℕ)))) → Type 0
HasBlock v None = (blocks : List (List (List ℕ))) → v.encoded ≡ Some blocks → length blocks ≤ v.block
HasBlock v (Some blocks) = (v.encoded ≡ Some blocks.now) × (v.block < length blocks.now)

-- the block that a caller is sending is the fields' block among these; None if it is sending no page
abbrev pub GivesPresent : CallerFields → Option (Bor (List (List (List ℕ)))) → Type 0
GivesPresent v None = (t : Caller) → Represents v t → present_block t ≡ None
GivesPresent v (Some blocks) =
    (v.block < length blocks.now) ×
    ((t : Caller) → Represents v t → present_block t ≡ Some (block_of_fields v blocks.now))

-- the fields of a new caller represent its tuple; there is no caller exactly if a page has a width that no call can have
abbrev pub NewCaller : Document → Wish → Result CallerFields CallerFault → Type 0
NewCaller document wish (Ok caller) = AreCallable document × Represents caller (new_caller document wish no_caps no_params)
NewCaller document wish (Err fault) = ¬ AreCallable document

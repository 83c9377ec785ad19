-- The call blocks of a document, their marks, and how far a number of them leads (ITU-T T.30, Annex A).
use Rattle.std.specs.Prelude.{ℕ, zero, suc, pred, ◌%◌, Bool, true, false, cond, List, [], ◌∷◌, ◌++◌, length, slice_get, Option, Some, None}
use Rattle.raster.specs.Pages.{PagePixels}
use Rattle.signals.specs.declared.params.Params.{Params}
use Rattle.signals.specs.declared.signal.PageEnd.{PageEnd}
use Rattle.signals.specs.declared.signal.PageEnd.TheVariants.{Null, Mps, Eom, Eop}
use Rattle.signals.specs.declared.mark.Mark.{Mark}
use Rattle.stations.specs.Layers.{in_one_group, code_blocks, code_within_limit}

-- a block of a call: the number of its page, its place in the page, the end that its PPS carries, the parameters of its group,
-- and the data of its frames
pub record Block : Type 0 where
  pub page : ℕ
  pub place : ℕ
  pub ends : PageEnd
  pub params : Params
  pub frames : List (List ℕ)

-- the mark of a block: the number of its page and its place in the page, both modulo 256 (T.30, A.4.3)
abbrev pub mark_of : Block → Mark
mark_of block = record { page = block.page % 256; block = block.place % 256 }

-- the number of a block's last frame
abbrev pub last_frame_of : Block → ℕ
last_frame_of block = pred (length block.frames)

-- the octets of frames, one after the other
abbrev pub joined : List (List ℕ) → List ℕ
joined [] = []
joined (frame ∷ frames) = frame ++ joined frames

-- the blocks of one page from a place on; the last one carries the page's end
abbrev pub page_blocks : Params → ℕ → PageEnd → ℕ → List (List (List ℕ)) → List Block
page_blocks params page ends place [] = []
page_blocks params page ends place (frames ∷ []) =
    record { page = page; place = place; ends = ends; params = params; frames = frames } ∷ []
page_blocks params page ends place (frames ∷ next ∷ more) =
    record { page = page; place = place; ends = Null; params = params; frames = frames } ∷
    page_blocks params page ends (suc place) (next ∷ more)

-- how a page ends that these pages follow
abbrev pub end_before : PagePixels → List PagePixels → PageEnd
end_before page [] = Eop
end_before page (next ∷ pages) = cond (in_one_group page next) Mps Eom

-- the parameters of the groups after the first
abbrev pub groups_after_first : List Params → List Params
groups_after_first [] = []
groups_after_first (params ∷ groups) = groups

-- the parameters of the groups from the next page on
abbrev pub groups_after : PagePixels → List PagePixels → List Params → List Params
groups_after page [] groups = groups
groups_after page (next ∷ pages) groups = cond (in_one_group page next) groups (groups_after_first groups)

-- the blocks of a call in one list, with unbounded numbers: of pages, the first of which has this number, under a list of parameters, one
-- for each group begun; the list stops before a page whose code is too long, and before a group that isn't begun (T.30, Annex A)
abbrev pub call_blocks : List Params → ℕ → List PagePixels → List Block
call_blocks groups number [] = []
call_blocks [] number (page ∷ pages) = []
call_blocks (params ∷ groups) number (page ∷ pages) =
    cond (code_within_limit params page)
    (page_blocks params number (end_before page pages) 0 (code_blocks params page) ++
    call_blocks (groups_after page pages (params ∷ groups)) (suc number) pages)
    []

-- a block with this end is its page's last
abbrev pub is_page_end : PageEnd → Bool
is_page_end Null = false
is_page_end Mps = true
is_page_end Eom = true
is_page_end Eop = true

-- the number of whole pages after a block with this end, from that before it
abbrev pub pages_after : PageEnd → ℕ → ℕ
pages_after ends pages = cond (is_page_end ends) (suc pages) pages

-- the place in its page of the block after a block with this end
abbrev pub place_after : PageEnd → ℕ → ℕ
place_after ends place = cond (is_page_end ends) 0 (suc place)

-- the octets of the open page after a block with this end, from those up to the block's own
abbrev pub open_after : PageEnd → List ℕ → List ℕ
open_after ends octets = cond (is_page_end ends) [] octets

-- the number of whole pages after a block that may not be there
abbrev pub pages_past : Option Block → ℕ → ℕ
pages_past None pages = pages
pages_past (Some block) pages = pages_after block.ends pages

-- the octets of the open page after a block that may not be there
abbrev pub open_past : Option Block → List ℕ → List ℕ
open_past None octets = octets
open_past (Some block) octets = open_after block.ends (octets ++ joined block.frames)

-- how many pages end before place k of the list
abbrev pub pages_before : List Block → ℕ → ℕ
pages_before blocks zero = 0
pages_before blocks (suc k) = pages_past (slice_get blocks k) (pages_before blocks k)

-- the octets of the page that is open after the first k blocks of the list
abbrev pub open_before : List Block → ℕ → List ℕ
open_before blocks zero = []
open_before blocks (suc k) = open_past (slice_get blocks k) (open_before blocks k)

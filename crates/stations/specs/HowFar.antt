-- How far a station is with its call.
use Rattle.std.specs.Prelude.{ℕ, suc, ◌+◌, [], ◌∷◌, length, Option, Some, None, slice_get}
use Rattle.std.specs.Option.{option_map}
use Rattle.raster.specs.Pages.{PagePixels}
use Rattle.signals.specs.declared.params.Params.{Params}
use Rattle.stations.specs.AnswererStep.{Answerer}
use Rattle.partial_page.specs.Assembling.{Frames}
use Rattle.stations.specs.Blocks.{Block}
use Rattle.stations.specs.CallerStep.{Caller, confirmed, present_block}
use Rattle.stations.specs.Layers.{code_blocks}
use Rattle.stations.specs.declared.howfar.AnswererProgress.{AnswererProgress}
use Rattle.stations.specs.declared.howfar.BlockProgress.{BlockProgress}
use Rattle.stations.specs.declared.howfar.CallerProgress.{CallerProgress}
use Rattle.stations.specs.declared.mark.Accepted.{Accepted}

-- how many blocks a page's code has
abbrev pub blocks_due : Params → Option PagePixels → ℕ
blocks_due params None = 0
blocks_due params (Some page) = length (code_blocks params page)

-- how far a caller is with its present block: its place in the page, from 1, how many blocks the page's code has, and how many PPRs asked
-- for frames of it
abbrev pub block_progress : Caller → Option Block → Option BlockProgress
block_progress t None = None
block_progress t (Some block) =
    Some
    (record {
      number = block.place + 1;
      blocks = blocks_due t.params (slice_get t.document (confirmed t));
      resends = t.pprs;
    })

-- how far a caller is, by its tuple: the pages confirmed of those of the document, its present block, and the tries of the last command
abbrev pub caller_progress : Caller → CallerProgress
caller_progress t =
    record {
      confirmed = confirmed t;
      pages = length t.document;
      block = block_progress t (present_block t);
      tries = t.try;
    }

-- how many frames are open: 0 to 256
abbrev pub open_count : Frames → ℕ
open_count [] = 0
open_count (None ∷ frames) = open_count frames
open_count (Some octets ∷ frames) = suc (open_count frames)

-- how far an answerer is, by its tuple: the pages stored, the last accepted mark, the octets of the open page, and how many frames are open
abbrev pub answerer_progress : Answerer → AnswererProgress
answerer_progress s =
    record {
      pages = length s.pages;
      accepted = option_map (λ (accepted : Accepted). accepted.mark) s.accepted;
      octets = length s.octets;
      frames = open_count s.frames;
    }

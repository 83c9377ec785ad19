-- Laws of what a station tells of itself, by rows worked by hand: whom it talks to, how far it is, what was refused, what limits keep out.
use Rattle.std.specs.Prelude.{ℕ, ◌≡◌, ◌≢◌, Bool, true, false, List, [], ◌∷◌, Option, Some, None}
use Rattle.raster.specs.Pages.{PagePixels}
use Rattle.raster.specs.declared.row.Color.TheVariants.{White}
use Rattle.signals.specs.Signals.{dcn, dcs, fcd, pps, rr}
use Rattle.signals.specs.declared.params.Caps.{Caps}
use Rattle.signals.specs.declared.params.Params.{Params}
use Rattle.signals.specs.declared.signal.PageEnd.{PageEnd}
use Rattle.signals.specs.declared.signal.PageEnd.TheVariants.{Eop}
use Rattle.stations.specs.AnswererStep.{Answerer}
use Rattle.stations.specs.BadPages.{refused_octets}
use Rattle.stations.specs.Blocks.{Block}
use Rattle.stations.specs.CallerStep.{Caller}
use Rattle.stations.specs.HowFar.{answerer_progress, block_progress, blocks_due, caller_progress, open_count}
use Rattle.stations.specs.Inputs.{is_busy, listens, t1, t2, trains}
use Rattle.stations.specs.Limiting.{is_full, is_kept_out}
use Rattle.stations.specs.Listening.{answerer_params, answerer_peer, caller_params, caller_peer}
use Rattle.stations.specs.Stopping.{call_end, stop_turn}
use Rattle.stations.specs.declared.howfar.BlockProgress.{BlockProgress}
use Rattle.stations.specs.declared.mark.Accepted.{Accepted}
use Rattle.stations.specs.declared.stopping.Cut.{Cut}
use Rattle.stations.specs.declared.turn.AnswererState.{AnswererState}
use Rattle.stations.specs.declared.turn.AnswererState.TheVariants.{PhaseB}
use Rattle.stations.specs.declared.turn.CallerState.{CallerState}
use Rattle.stations.specs.declared.turn.CallerState.TheVariants.{WaitDis}
use Rattle.stations.specs.declared.turn.End.{End}
use Rattle.stations.specs.declared.turn.Turn.TheVariants.{Silent, Dcn}

-- The law: a caller has parameters in each state but that in which it waits for a DIS, and it knows the answerer then too, once a page is
-- confirmed.
pub record CallersKnow (params : Params) (caps : Caps) : Type 0 where
  pub between : caller_params WaitDis params ≡ None
  pub in_group : (state : CallerState) → state ≢ WaitDis → caller_params state params ≡ Some params
  pub nobody : caller_peer WaitDis 0 caps ≡ None
  pub one_page : caller_peer WaitDis 1 caps ≡ Some caps
  pub somebody : (state : CallerState) (pages : ℕ) → state ≢ WaitDis → caller_peer state pages caps ≡ Some caps

-- the same, whatever they agreed on
abbrev pub CallersKnowAlways : Type 0
CallersKnowAlways = (params : Params) (caps : Caps) → CallersKnow params caps

-- The law: an answerer has parameters in each state but phase B, and it knows the caller's last DCS then too, once a block is accepted.
pub record AnswerersKnow (params : Params) : Type 0 where
  pub phase_b : answerer_params PhaseB params ≡ None
  pub in_group : (state : AnswererState) → state ≢ PhaseB → answerer_params state params ≡ Some params
  pub nobody : answerer_peer PhaseB None params ≡ None
  pub accepted : (accepted : Accepted) → answerer_peer PhaseB (Some accepted) params ≡ Some params
  pub somebody : (state : AnswererState) (accepted : Option Accepted) → state ≢ PhaseB → answerer_peer state accepted params ≡ Some params

-- the same, whatever they agreed on
abbrev pub AnswerersKnowAlways : Type 0
AnswerersKnowAlways = (params : Params) → AnswerersKnow params

-- The law: a stop says DCN in a call that goes on, and nothing in one that has ended in any way.
abbrev pub StopsAreSaid : Type 0
StopsAreSaid =
    (ending : Option End) (cut : Option Cut) → (call_end ending cut ≡ None → stop_turn ending cut ≡ Dcn) ×
    (call_end ending cut ≢ None → stop_turn ending cut ≡ Silent)

-- a page of three white rows of 9 pixels, which have two octets each
abbrev pub three_rows : PagePixels
three_rows =
    let row = White ∷ White ∷ White ∷ White ∷ White ∷ White ∷ White ∷ White ∷ White ∷ [] in
    record { width = 9; fine = false; rows = row ∷ row ∷ row ∷ [] }

-- The law: an answerer is full once its pages are as many as the limit, or have as many octets.
pub record FullByRows : Type 0 where
  pub none : is_full (record { pages = 1; octets = 6 }) [] ≡ false
  pub one_of_two : is_full (record { pages = 2; octets = 100 }) (three_rows ∷ []) ≡ false
  pub two_of_two : is_full (record { pages = 2; octets = 100 }) (three_rows ∷ three_rows ∷ []) ≡ true
  pub octets : is_full (record { pages = 9; octets = 12 }) (three_rows ∷ three_rows ∷ []) ≡ true
  pub few_octets : is_full (record { pages = 9; octets = 13 }) (three_rows ∷ three_rows ∷ []) ≡ false

-- an answerer that accepted block 1 of page 4 last
abbrev pub has_accepted : Answerer → Answerer
has_accepted s = record s { accepted = Some (record { mark = record { page = 4; block = 1 }; ends = Eop }) }

-- The law: a full answerer doesn't hear an FCD, nor a PPS of another block than the one that it accepted last; all else it hears.
pub record KeptOutByRows (s : Answerer) : Type 0 where
  pub frame : (number : ℕ) (octets : List ℕ) → is_kept_out s (listens (fcd number octets)) ≡ true
  pub same : (ends : PageEnd) (last : ℕ) → is_kept_out (has_accepted s) (listens (pps ends 4 1 last)) ≡ false
  pub next_block : (ends : PageEnd) (last : ℕ) → is_kept_out (has_accepted s) (listens (pps ends 4 2 last)) ≡ true
  pub next_page : (ends : PageEnd) (last : ℕ) → is_kept_out (has_accepted s) (listens (pps ends 5 1 last)) ≡ true
  pub first : (ends : PageEnd) (page block last : ℕ) → is_kept_out (record s { accepted = None }) (listens (pps ends page block last)) ≡ true
  pub new_dcs : (params : Params) → is_kept_out s (listens (dcs params)) ≡ false
  pub asks : is_kept_out s (listens rr) ≡ false
  pub leaves : is_kept_out s (listens dcn) ≡ false
  pub checks : (octets : List ℕ) → is_kept_out s (trains octets) ≡ false
  pub waits : (is_kept_out s t1 ≡ false) × (is_kept_out s t2 ≡ false)
  pub told : (is : Bool) → is_kept_out s (is_busy is) ≡ false

-- the same, of each answerer
abbrev pub KeptOutByRowsAlways : Type 0
KeptOutByRowsAlways = (s : Answerer) → KeptOutByRows s

-- a caller that sent its last command twice, after one PPR
abbrev pub has_tried : Caller → Caller
has_tried t = record t { try = 2; pprs = 1 }

-- an answerer with two pages, three octets of the open one, and one open frame
abbrev pub has_pages : Answerer → Answerer
has_pages s =
    record s { pages = three_rows ∷ three_rows ∷ []; octets = 0x01 ∷ 0x02 ∷ 0x03 ∷ []; frames = None ∷ Some (0x04 ∷ 0x05 ∷ []) ∷ [] }

-- The law: open frames are counted wherever they are, and a block's number is one more than its place. Tries are of the last command, and
-- resends are PPRs. Of a refused page the octets are those of the open page, then those of the frames up to the first that isn't there.
pub record ProgressByRows : Type 0 where
  pub there : open_count (Some (0x01 ∷ []) ∷ None ∷ Some [] ∷ []) ≡ 2
  pub closed : open_count (None ∷ None ∷ []) ≡ 0
  pub number : (t : Caller) (block : Block) (told : BlockProgress) → block.place ≡ 2 → block_progress t (Some block) ≡ Some told →
      told.number ≡ 3
  pub tries : (t : Caller) → (caller_progress (has_tried t)).tries ≡ 2
  pub resends : (t : Caller) (block : Block) (told : BlockProgress) → block_progress (has_tried t) (Some block) ≡ Some told →
      told.resends ≡ 1
  pub of_pages : (t : Caller) → (caller_progress (record t { document = three_rows ∷ three_rows ∷ [] })).pages ≡ 2
  pub answerer : (s : Answerer) → answerer_progress (has_pages (record s { accepted = None })) ≡
      record { pages = 2; accepted = None; octets = 3; frames = 1 }
  pub accepted : (s : Answerer) → (answerer_progress (has_accepted s)).accepted ≡ Some (record { page = 4; block = 1 })
  pub no_block : (t : Caller) → block_progress t None ≡ None
  pub no_page : (params : Params) → blocks_due params None ≡ 0
  pub refused : refused_octets (0x09 ∷ []) (Some (0x01 ∷ 0x02 ∷ []) ∷ Some (0x03 ∷ []) ∷ None ∷ Some (0x04 ∷ []) ∷ []) ≡
      0x09 ∷ 0x01 ∷ 0x02 ∷ 0x03 ∷ []
  pub first_missing : refused_octets (0x09 ∷ []) (None ∷ Some (0x01 ∷ []) ∷ []) ≡ 0x09 ∷ []

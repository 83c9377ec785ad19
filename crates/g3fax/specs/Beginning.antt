-- What calls answer that make terminals.
use Rattle.std.specs.Prelude.{ℕ, ◌≡◌, ◌≢◌, ◌<◌, ◌⊎◌, ◌^◌, ◌-◌, [], Bool, true, false, List, IfSome, Ok, nat_eq, if◌then◌else◌}
use Rattle.std.specs.declared.option.Option.{Option}
use Rattle.std.specs.declared.option.Option.TheVariants.{None, Some}
use Rattle.hdlc.specs.DeframerState.{IsAfter}
use Rattle.raster.specs.Pages.{PagePixels}
use Rattle.raster.specs.declared.coding.Coding.{Coding}
use Rattle.signals.specs.Agreement.{width_of_pixels}
use Rattle.signals.specs.declared.params.Caps.{Caps}
use Rattle.signals.specs.declared.params.Modems.{Modems}
use Rattle.signals.specs.declared.params.Modems.TheVariants.{V27, V27V29, V17}
use Rattle.signals.specs.declared.params.PageWidth.{PageWidth}
use Rattle.signals.specs.declared.params.Wish.{Wish}
use Rattle.stations.specs.AnswererStep.{new_answerer}
use Rattle.stations.specs.CallerFields.{AreCallable, NewCaller}
use Rattle.stations.specs.CallerStep.{no_params}
use Rattle.stations.specs.Limiting.{LimitedFields}
use Rattle.stations.specs.Stopping.{StoppableCallerFields}
use Rattle.stations.specs.declared.turn.Turn.{Turn}
use Rattle.stations.specs.declared.turn.Turn.TheVariants.{Dis, Silent}
use Rattle.terminals.specs.Timed.{TimedFields, new_timed}
use Rattle.terminals.specs.Watching.{nothing_watched}
use Rattle.terminals.specs.declared.watching.Watched.{Watched}
use Rattle.g3fax.specs.Answering.{AnsweringFields, no_tally}
use Rattle.g3fax.specs.Codes.{coding_of}
use Rattle.g3fax.specs.Documents.{pages_of}
use Rattle.g3fax.specs.Handles.{Fills, HasAnswerer, HasCaller, HasDocument, OfDocument}
use Rattle.g3fax.specs.Pages.{is_set}
use Rattle.g3fax.specs.Statuses.{ok, no_memory, not_callable, full_handle, bad_choice, nothing_there}
use Rattle.g3fax.specs.Ticking.{limit_of, of_t30}
use Rattle.g3fax.specs.declared.beginning.G3Caps.{G3Caps}
use Rattle.g3fax.specs.declared.beginning.G3Wish.{G3Wish}
use Rattle.g3fax.specs.declared.handle.Kept.{Kept}

-- the modems by the number of the fastest one: 1 is V.27 ter alone, 2 V.27 ter and V.29, 3 these and V.17
abbrev pub modems_of : ℕ → Option Modems
modems_of number =
    if nat_eq number 1 then Some V27 else (if nat_eq number 2 then Some V27V29 else (if nat_eq number 3 then Some V17 else None))

-- the sizes of a frame's data: 256 octets, or 64
abbrev pub small_of : ℕ → Option Bool
small_of octets = if nat_eq octets 256 then Some false else (if nat_eq octets 64 then Some true else None)

-- what an answerer can do, with these modems and pages no wider than this
abbrev pub caps_with : G3Caps → Option Modems → Option PageWidth → Option Caps
caps_with caps None widest = None
caps_with caps (Some modems) None = None
caps_with caps (Some modems) (Some widest) =
    Some
    (record {
      receiver = true;
      modems = modems;
      fine = is_set caps.fine;
      widest = widest;
      t6 = is_set caps.t6;
      ecm = true;
    })

-- what an answerer can do, by numbers; none if the number of the modems or of the width is unknown
abbrev pub caps_of : G3Caps → Option Caps
caps_of caps = caps_with caps (modems_of caps.modems) (width_of_pixels caps.widest)

-- what a caller wishes, with these modems, this code and frames of this size
abbrev pub wish_with : Option Modems → Option Coding → Option Bool → Option Wish
wish_with None coding small = None
wish_with (Some modems) None small = None
wish_with (Some modems) (Some coding) None = None
wish_with (Some modems) (Some coding) (Some small) = Some (record { modems = modems; coding = coding; small = small })

-- What a caller wishes, by numbers: its modems, the code, and the octets of data in a frame, 256 or 64. None if one of these numbers is
-- unknown.
abbrev pub wish_of : G3Wish → Option Wish
wish_of wish = wish_with (modems_of wish.modems) (coding_of wish.coding) (small_of wish.frame)

-- a new terminal of a station, at 0 ms: it has heard nothing, its call has no limit, and this turn is to be sent
pub record IsNewTimed (S : Type 0) (station : S) (turn : Turn) (watched : Option Watched) (timed : TimedFields S) : Type 0 where
  pub framing : IsAfter timed.terminal.framing [] 0
  pub speaking : timed.terminal.speaking ≡ record { station = station; turn = turn; taken = 0 }
  pub rest : timed ≡ new_timed timed.terminal watched of_t30 (limit_of 0)

-- an answerer with limits that has heard nothing, by what it can do and how many pages it stores before it is busy
abbrev pub new_limited : Caps → ℕ → LimitedFields
new_limited caps limit = record {
  station = new_answerer caps no_params;
  limits = record { pages = limit; octets = 2 ^ 64 - 1 };
  told = false;
  said = Dis;
  cut = None;
}

-- a new answerer's terminal: DIS is to be sent, and what its caller says will be seen
pub record IsNewAnswerer (caps : Caps) (limit : ℕ) (answering : AnsweringFields) : Type 0 where
  pub is_new : IsNewTimed LimitedFields (new_limited caps limit) Dis (Some (nothing_watched caps)) answering.timed
  pub waiting : answering.waiting ≡ []
  pub stores : answering.limit ≡ limit
  pub tally : answering.tally ≡ no_tally

-- An empty handle is filled with the terminal of a new answerer, which sends DIS first. 104 exactly if the number of the modems or of the
-- width is unknown, or the limit of pages is 0; else 0, or 9.
pub record MakesAnswerer (caps : G3Caps) (old : Option Kept) (status : ℕ) (new : Option Kept) : Type 0 where
  pub fills : Fills (HasAnswerer (λ answering. IfSome (caps_of caps) (λ given. IsNewAnswerer given caps.limit answering))) old status new
  pub no_caps : old ≡ None → caps_of caps ≡ None → status ≡ bad_choice
  pub no_limit : old ≡ None → caps.limit ≡ 0 → status ≡ bad_choice
  pub only : old ≡ None → caps_of caps ≢ None → 0 < caps.limit → (status ≡ ok) ⊎ (status ≡ no_memory)

-- a new caller's terminal: its station waits for DIS, and nothing is to be sent
pub record IsNewCaller (document : List PagePixels) (wish : Wish) (timed : TimedFields StoppableCallerFields) : Type 0 where
  pub is_new : IsNewTimed StoppableCallerFields timed.terminal.speaking.station Silent None timed
  pub station : NewCaller document wish (Ok timed.terminal.speaking.station.station)
  pub cut : timed.terminal.speaking.station.cut ≡ None

-- the status for a document to be sent: 106 without a page, 26 if a call can't have the width of a page, else 0
abbrev pub AnswersDocument : Option (List PagePixels) → ℕ → Type 0
AnswersDocument None status = status ≡ nothing_there
AnswersDocument (Some pages) status =
    (AreCallable pages × (status ≡ ok)) ⊎ ((¬ AreCallable pages) × (status ≡ not_callable))

-- the status for a caller of a document: the document's, or 9 in place of 0
abbrev pub AnswersCaller : Option (List PagePixels) → ℕ → Type 0
AnswersCaller document status = AnswersDocument document status ⊎ (AnswersDocument document ok × (status ≡ no_memory))

-- The document of a handle moves into the terminal of a new caller, which fills an empty handle. 102 if that isn't empty; 104 if the number
-- of the modems, the code or the frame's size is unknown; 100 and 101 for the document's handle; 106 if it has no page, 26 if a call can't
-- have the width of a page; else 0, or 9. By any status above 0 both stay.
pub record MakesCaller (wish : G3Wish) (old : Option Kept) (document left : Option Kept) (status : ℕ) (new : Option Kept) : Type 0 where
  pub done : status ≡ ok → (old ≡ None) × (left ≡ None) × HasDocument (λ pages. HasCaller (λ timed.
      IfSome (wish_of wish) (λ given. IsNewCaller (pages_of pages) given timed)) new) document
  pub kept : status ≢ ok → (new ≡ old) × (left ≡ document)
  pub full : old ≢ None → status ≡ full_handle
  pub no_wish : old ≡ None → wish_of wish ≡ None → status ≡ bad_choice
  pub answers : old ≡ None → wish_of wish ≢ None → OfDocument (λ pages. AnswersCaller pages status) document status

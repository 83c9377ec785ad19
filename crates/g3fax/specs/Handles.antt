-- What a handle has, and what a call answers of it.
use Rattle.std.specs.Prelude.{ℕ, ◌≡◌, ◌≢◌, ◌<◌, ◌≤◌, ◌++◌, List, length, drop}
use Rattle.std.specs.Vec.{vec_ptr}
use Rattle.std.specs.declared.option.Option.{Option}
use Rattle.std.specs.declared.option.Option.TheVariants.{None, Some}
use denote.RawPtr.{Ptr}
use Rattle.raster.specs.Pages.{PagePixels}
use Rattle.hdlc.specs.DeframerState.{DeframerState}
use Rattle.stations.specs.Limiting.{LimitedFields}
use Rattle.stations.specs.Stopping.{StoppableCallerFields}
use Rattle.terminals.specs.Timed.{TimedFields}
use Rattle.page_code.specs.RowCoders.{RowCoding}
use Rattle.page_code.specs.RowReaders.{RowReading}
use Rattle.g3fax.specs.Answering.{AnsweringFields}
use Rattle.g3fax.specs.Stations.{Behaviour, answerers, callers}
use Rattle.g3fax.specs.Statuses.{ok, empty_handle, other_handle, full_handle, no_room}
use Rattle.g3fax.specs.declared.handle.Kept.{Kept}
use Rattle.g3fax.specs.declared.handle.Kept.TheVariants.{Octets, Page, Deframer, Document, Caller, Answerer, RowCoder, RowReader}

-- a handle of octets for which this holds
abbrev pub HasOctets : (List ℕ → Type 0) → Option Kept → Type 0
HasOctets Holds None = ⊥
HasOctets Holds (Some (Octets octets)) = Holds octets.items
HasOctets Holds (Some (Page page)) = ⊥
HasOctets Holds (Some (Deframer state)) = ⊥
HasOctets Holds (Some (Document pages)) = ⊥
HasOctets Holds (Some (Caller terminal)) = ⊥
HasOctets Holds (Some (Answerer answering)) = ⊥
HasOctets Holds (Some (RowCoder coder)) = ⊥
HasOctets Holds (Some (RowReader reader)) = ⊥

-- a handle of a page for which this holds
abbrev pub HasPage : (PagePixels → Type 0) → Option Kept → Type 0
HasPage Holds None = ⊥
HasPage Holds (Some (Octets octets)) = ⊥
HasPage Holds (Some (Page page)) = Holds page
HasPage Holds (Some (Deframer state)) = ⊥
HasPage Holds (Some (Document pages)) = ⊥
HasPage Holds (Some (Caller terminal)) = ⊥
HasPage Holds (Some (Answerer answering)) = ⊥
HasPage Holds (Some (RowCoder coder)) = ⊥
HasPage Holds (Some (RowReader reader)) = ⊥

-- a handle of a deframer for which this holds
abbrev pub HasDeframer : (DeframerState → Type 0) → Option Kept → Type 0
HasDeframer Holds None = ⊥
HasDeframer Holds (Some (Octets octets)) = ⊥
HasDeframer Holds (Some (Page page)) = ⊥
HasDeframer Holds (Some (Deframer state)) = Holds state.value
HasDeframer Holds (Some (Document pages)) = ⊥
HasDeframer Holds (Some (Caller terminal)) = ⊥
HasDeframer Holds (Some (Answerer answering)) = ⊥
HasDeframer Holds (Some (RowCoder coder)) = ⊥
HasDeframer Holds (Some (RowReader reader)) = ⊥

-- a handle of a document for which this holds
abbrev pub HasDocument : (Option (List PagePixels) → Type 0) → Option Kept → Type 0
HasDocument Holds None = ⊥
HasDocument Holds (Some (Octets octets)) = ⊥
HasDocument Holds (Some (Page page)) = ⊥
HasDocument Holds (Some (Deframer state)) = ⊥
HasDocument Holds (Some (Document pages)) = Holds pages
HasDocument Holds (Some (Caller terminal)) = ⊥
HasDocument Holds (Some (Answerer answering)) = ⊥
HasDocument Holds (Some (RowCoder coder)) = ⊥
HasDocument Holds (Some (RowReader reader)) = ⊥

-- a handle of a caller's terminal for which this holds
abbrev pub HasCaller : (TimedFields StoppableCallerFields → Type 0) → Option Kept → Type 0
HasCaller Holds None = ⊥
HasCaller Holds (Some (Octets octets)) = ⊥
HasCaller Holds (Some (Page page)) = ⊥
HasCaller Holds (Some (Deframer state)) = ⊥
HasCaller Holds (Some (Document pages)) = ⊥
HasCaller Holds (Some (Caller calling)) = Holds calling.value
HasCaller Holds (Some (Answerer answering)) = ⊥
HasCaller Holds (Some (RowCoder coder)) = ⊥
HasCaller Holds (Some (RowReader reader)) = ⊥

-- a handle of an answerer's terminal for which this holds
abbrev pub HasAnswerer : (AnsweringFields → Type 0) → Option Kept → Type 0
HasAnswerer Holds None = ⊥
HasAnswerer Holds (Some (Octets octets)) = ⊥
HasAnswerer Holds (Some (Page page)) = ⊥
HasAnswerer Holds (Some (Deframer state)) = ⊥
HasAnswerer Holds (Some (Document pages)) = ⊥
HasAnswerer Holds (Some (Caller terminal)) = ⊥
HasAnswerer Holds (Some (Answerer answering)) = Holds answering.value
HasAnswerer Holds (Some (RowCoder coder)) = ⊥
HasAnswerer Holds (Some (RowReader reader)) = ⊥

-- a handle of a coder of rows for which this holds
abbrev pub HasRowCoder : (RowCoding → Type 0) → Option Kept → Type 0
HasRowCoder Holds None = ⊥
HasRowCoder Holds (Some (Octets octets)) = ⊥
HasRowCoder Holds (Some (Page page)) = ⊥
HasRowCoder Holds (Some (Deframer state)) = ⊥
HasRowCoder Holds (Some (Document pages)) = ⊥
HasRowCoder Holds (Some (Caller terminal)) = ⊥
HasRowCoder Holds (Some (Answerer answering)) = ⊥
HasRowCoder Holds (Some (RowCoder coder)) = Holds coder.value
HasRowCoder Holds (Some (RowReader reader)) = ⊥

-- a handle of a reader of rows for which this holds
abbrev pub HasRowReader : (RowReading → Type 0) → Option Kept → Type 0
HasRowReader Holds None = ⊥
HasRowReader Holds (Some (Octets octets)) = ⊥
HasRowReader Holds (Some (Page page)) = ⊥
HasRowReader Holds (Some (Deframer state)) = ⊥
HasRowReader Holds (Some (Document pages)) = ⊥
HasRowReader Holds (Some (Caller terminal)) = ⊥
HasRowReader Holds (Some (Answerer answering)) = ⊥
HasRowReader Holds (Some (RowCoder coder)) = ⊥
HasRowReader Holds (Some (RowReader reader)) = Holds reader.value

-- the status for a handle that should have octets: `Answers` if it has, 100 if it is empty, 101 if it has something else
abbrev pub OfOctets : (List ℕ → Type 0) → Option Kept → ℕ → Type 0
OfOctets Answers None status = status ≡ empty_handle
OfOctets Answers (Some (Octets octets)) status = Answers octets.items
OfOctets Answers (Some (Page page)) status = status ≡ other_handle
OfOctets Answers (Some (Deframer state)) status = status ≡ other_handle
OfOctets Answers (Some (Document pages)) status = status ≡ other_handle
OfOctets Answers (Some (Caller terminal)) status = status ≡ other_handle
OfOctets Answers (Some (Answerer answering)) status = status ≡ other_handle
OfOctets Answers (Some (RowCoder coder)) status = status ≡ other_handle
OfOctets Answers (Some (RowReader reader)) status = status ≡ other_handle

-- the same of the address of the octets and of these
abbrev pub OfOctetsAt : (Ptr → List ℕ → Type 0) → Option Kept → ℕ → Type 0
OfOctetsAt Answers None status = status ≡ empty_handle
OfOctetsAt Answers (Some (Octets octets)) status = Answers (vec_ptr octets) octets.items
OfOctetsAt Answers (Some (Page page)) status = status ≡ other_handle
OfOctetsAt Answers (Some (Deframer state)) status = status ≡ other_handle
OfOctetsAt Answers (Some (Document pages)) status = status ≡ other_handle
OfOctetsAt Answers (Some (Caller terminal)) status = status ≡ other_handle
OfOctetsAt Answers (Some (Answerer answering)) status = status ≡ other_handle
OfOctetsAt Answers (Some (RowCoder coder)) status = status ≡ other_handle
OfOctetsAt Answers (Some (RowReader reader)) status = status ≡ other_handle

-- the status for a handle that should have a page: `Answers` if it has, 100 if it is empty, 101 if it has something else
abbrev pub OfPage : (PagePixels → Type 0) → Option Kept → ℕ → Type 0
OfPage Answers None status = status ≡ empty_handle
OfPage Answers (Some (Octets octets)) status = status ≡ other_handle
OfPage Answers (Some (Page page)) status = Answers page
OfPage Answers (Some (Deframer state)) status = status ≡ other_handle
OfPage Answers (Some (Document pages)) status = status ≡ other_handle
OfPage Answers (Some (Caller terminal)) status = status ≡ other_handle
OfPage Answers (Some (Answerer answering)) status = status ≡ other_handle
OfPage Answers (Some (RowCoder coder)) status = status ≡ other_handle
OfPage Answers (Some (RowReader reader)) status = status ≡ other_handle

-- the status for a handle that should have a deframer: `Answers` if it has, 100 if it is empty, 101 if it has something else
abbrev pub OfDeframer : (DeframerState → Type 0) → Option Kept → ℕ → Type 0
OfDeframer Answers None status = status ≡ empty_handle
OfDeframer Answers (Some (Octets octets)) status = status ≡ other_handle
OfDeframer Answers (Some (Page page)) status = status ≡ other_handle
OfDeframer Answers (Some (Deframer state)) status = Answers state.value
OfDeframer Answers (Some (Document pages)) status = status ≡ other_handle
OfDeframer Answers (Some (Caller terminal)) status = status ≡ other_handle
OfDeframer Answers (Some (Answerer answering)) status = status ≡ other_handle
OfDeframer Answers (Some (RowCoder coder)) status = status ≡ other_handle
OfDeframer Answers (Some (RowReader reader)) status = status ≡ other_handle

-- the status for a handle that should have a document: `Answers` if it has, 100 if it is empty, 101 if it has something else
abbrev pub OfDocument : (Option (List PagePixels) → Type 0) → Option Kept → ℕ → Type 0
OfDocument Answers None status = status ≡ empty_handle
OfDocument Answers (Some (Octets octets)) status = status ≡ other_handle
OfDocument Answers (Some (Page page)) status = status ≡ other_handle
OfDocument Answers (Some (Deframer state)) status = status ≡ other_handle
OfDocument Answers (Some (Document pages)) status = Answers pages
OfDocument Answers (Some (Caller terminal)) status = status ≡ other_handle
OfDocument Answers (Some (Answerer answering)) status = status ≡ other_handle
OfDocument Answers (Some (RowCoder coder)) status = status ≡ other_handle
OfDocument Answers (Some (RowReader reader)) status = status ≡ other_handle

-- what happens to the page in a handle; an empty handle is 100, another kind is 101, and the handle stays
abbrev pub OnPage : (PagePixels → PagePixels → Type 0) → Option Kept → Option Kept → ℕ → Type 0
OnPage Makes None new status = (status ≡ empty_handle) × (new ≡ None)
OnPage Makes (Some (Octets octets)) new status = (status ≡ other_handle) × (new ≡ Some (Octets octets))
OnPage Makes (Some (Page old)) None status = ⊥
OnPage Makes (Some (Page old)) (Some (Octets octets)) status = ⊥
OnPage Makes (Some (Page old)) (Some (Page new)) status = Makes old new
OnPage Makes (Some (Page old)) (Some (Deframer state)) status = ⊥
OnPage Makes (Some (Page old)) (Some (Document pages)) status = ⊥
OnPage Makes (Some (Page old)) (Some (Caller terminal)) status = ⊥
OnPage Makes (Some (Page old)) (Some (Answerer answering)) status = ⊥
OnPage Makes (Some (Page old)) (Some (RowCoder coder)) status = ⊥
OnPage Makes (Some (Page old)) (Some (RowReader reader)) status = ⊥
OnPage Makes (Some (Deframer state)) new status = (status ≡ other_handle) × (new ≡ Some (Deframer state))
OnPage Makes (Some (Document pages)) new status = (status ≡ other_handle) × (new ≡ Some (Document pages))
OnPage Makes (Some (Caller terminal)) new status = (status ≡ other_handle) × (new ≡ Some (Caller terminal))
OnPage Makes (Some (Answerer answering)) new status = (status ≡ other_handle) × (new ≡ Some (Answerer answering))
OnPage Makes (Some (RowCoder coder)) new status = (status ≡ other_handle) × (new ≡ Some (RowCoder coder))
OnPage Makes (Some (RowReader reader)) new status = (status ≡ other_handle) × (new ≡ Some (RowReader reader))

-- what happens to the deframer in a handle; an empty handle is 100, another kind is 101, and the handle stays
abbrev pub OnDeframer : (DeframerState → DeframerState → Type 0) → Option Kept → Option Kept → ℕ → Type 0
OnDeframer Makes None new status = (status ≡ empty_handle) × (new ≡ None)
OnDeframer Makes (Some (Octets octets)) new status = (status ≡ other_handle) × (new ≡ Some (Octets octets))
OnDeframer Makes (Some (Page page)) new status = (status ≡ other_handle) × (new ≡ Some (Page page))
OnDeframer Makes (Some (Deframer old)) None status = ⊥
OnDeframer Makes (Some (Deframer old)) (Some (Octets octets)) status = ⊥
OnDeframer Makes (Some (Deframer old)) (Some (Page page)) status = ⊥
OnDeframer Makes (Some (Deframer old)) (Some (Deframer new)) status = Makes old.value new.value
OnDeframer Makes (Some (Deframer old)) (Some (Document pages)) status = ⊥
OnDeframer Makes (Some (Deframer old)) (Some (Caller terminal)) status = ⊥
OnDeframer Makes (Some (Deframer old)) (Some (Answerer answering)) status = ⊥
OnDeframer Makes (Some (Deframer old)) (Some (RowCoder coder)) status = ⊥
OnDeframer Makes (Some (Deframer old)) (Some (RowReader reader)) status = ⊥
OnDeframer Makes (Some (Document pages)) new status = (status ≡ other_handle) × (new ≡ Some (Document pages))
OnDeframer Makes (Some (Caller terminal)) new status = (status ≡ other_handle) × (new ≡ Some (Caller terminal))
OnDeframer Makes (Some (Answerer answering)) new status = (status ≡ other_handle) × (new ≡ Some (Answerer answering))
OnDeframer Makes (Some (RowCoder coder)) new status = (status ≡ other_handle) × (new ≡ Some (RowCoder coder))
OnDeframer Makes (Some (RowReader reader)) new status = (status ≡ other_handle) × (new ≡ Some (RowReader reader))

-- what happens to the document in a handle; an empty handle is 100, another kind is 101, and the handle stays
abbrev pub OnDocument :
    (Option (List PagePixels) → Option (List PagePixels) → Type 0) → Option Kept → Option Kept → ℕ → Type 0
OnDocument Makes None new status = (status ≡ empty_handle) × (new ≡ None)
OnDocument Makes (Some (Octets octets)) new status = (status ≡ other_handle) × (new ≡ Some (Octets octets))
OnDocument Makes (Some (Page page)) new status = (status ≡ other_handle) × (new ≡ Some (Page page))
OnDocument Makes (Some (Deframer state)) new status = (status ≡ other_handle) × (new ≡ Some (Deframer state))
OnDocument Makes (Some (Document old)) None status = ⊥
OnDocument Makes (Some (Document old)) (Some (Octets octets)) status = ⊥
OnDocument Makes (Some (Document old)) (Some (Page page)) status = ⊥
OnDocument Makes (Some (Document old)) (Some (Deframer state)) status = ⊥
OnDocument Makes (Some (Document old)) (Some (Document new)) status = Makes old new
OnDocument Makes (Some (Document old)) (Some (Caller terminal)) status = ⊥
OnDocument Makes (Some (Document old)) (Some (Answerer answering)) status = ⊥
OnDocument Makes (Some (Document old)) (Some (RowCoder coder)) status = ⊥
OnDocument Makes (Some (Document old)) (Some (RowReader reader)) status = ⊥
OnDocument Makes (Some (Caller terminal)) new status = (status ≡ other_handle) × (new ≡ Some (Caller terminal))
OnDocument Makes (Some (Answerer answering)) new status = (status ≡ other_handle) × (new ≡ Some (Answerer answering))
OnDocument Makes (Some (RowCoder coder)) new status = (status ≡ other_handle) × (new ≡ Some (RowCoder coder))
OnDocument Makes (Some (RowReader reader)) new status = (status ≡ other_handle) × (new ≡ Some (RowReader reader))

-- what happens to the answerer in a handle; an empty handle is 100, another kind is 101, and the handle stays
abbrev pub OnAnswerer : (AnsweringFields → AnsweringFields → Type 0) → Option Kept → Option Kept → ℕ → Type 0
OnAnswerer Makes None new status = (status ≡ empty_handle) × (new ≡ None)
OnAnswerer Makes (Some (Octets octets)) new status = (status ≡ other_handle) × (new ≡ Some (Octets octets))
OnAnswerer Makes (Some (Page page)) new status = (status ≡ other_handle) × (new ≡ Some (Page page))
OnAnswerer Makes (Some (Deframer state)) new status = (status ≡ other_handle) × (new ≡ Some (Deframer state))
OnAnswerer Makes (Some (Document pages)) new status = (status ≡ other_handle) × (new ≡ Some (Document pages))
OnAnswerer Makes (Some (Caller terminal)) new status = (status ≡ other_handle) × (new ≡ Some (Caller terminal))
OnAnswerer Makes (Some (Answerer old)) None status = ⊥
OnAnswerer Makes (Some (Answerer old)) (Some (Octets octets)) status = ⊥
OnAnswerer Makes (Some (Answerer old)) (Some (Page page)) status = ⊥
OnAnswerer Makes (Some (Answerer old)) (Some (Deframer state)) status = ⊥
OnAnswerer Makes (Some (Answerer old)) (Some (Document pages)) status = ⊥
OnAnswerer Makes (Some (Answerer old)) (Some (Caller terminal)) status = ⊥
OnAnswerer Makes (Some (Answerer old)) (Some (Answerer new)) status = Makes old.value new.value
OnAnswerer Makes (Some (Answerer old)) (Some (RowCoder coder)) status = ⊥
OnAnswerer Makes (Some (Answerer old)) (Some (RowReader reader)) status = ⊥
OnAnswerer Makes (Some (RowCoder coder)) new status = (status ≡ other_handle) × (new ≡ Some (RowCoder coder))
OnAnswerer Makes (Some (RowReader reader)) new status = (status ≡ other_handle) × (new ≡ Some (RowReader reader))

-- what happens to the row coder in a handle; an empty handle is 100, another kind is 101, and the handle stays
abbrev pub OnRowCoder : (RowCoding → RowCoding → Type 0) → Option Kept → Option Kept → ℕ → Type 0
OnRowCoder Makes None new status = (status ≡ empty_handle) × (new ≡ None)
OnRowCoder Makes (Some (Octets octets)) new status = (status ≡ other_handle) × (new ≡ Some (Octets octets))
OnRowCoder Makes (Some (Page page)) new status = (status ≡ other_handle) × (new ≡ Some (Page page))
OnRowCoder Makes (Some (Deframer state)) new status = (status ≡ other_handle) × (new ≡ Some (Deframer state))
OnRowCoder Makes (Some (Document pages)) new status = (status ≡ other_handle) × (new ≡ Some (Document pages))
OnRowCoder Makes (Some (Caller terminal)) new status = (status ≡ other_handle) × (new ≡ Some (Caller terminal))
OnRowCoder Makes (Some (Answerer answering)) new status = (status ≡ other_handle) × (new ≡ Some (Answerer answering))
OnRowCoder Makes (Some (RowCoder old)) None status = ⊥
OnRowCoder Makes (Some (RowCoder old)) (Some (Octets octets)) status = ⊥
OnRowCoder Makes (Some (RowCoder old)) (Some (Page page)) status = ⊥
OnRowCoder Makes (Some (RowCoder old)) (Some (Deframer state)) status = ⊥
OnRowCoder Makes (Some (RowCoder old)) (Some (Document pages)) status = ⊥
OnRowCoder Makes (Some (RowCoder old)) (Some (Caller terminal)) status = ⊥
OnRowCoder Makes (Some (RowCoder old)) (Some (Answerer answering)) status = ⊥
OnRowCoder Makes (Some (RowCoder old)) (Some (RowCoder new)) status = Makes old.value new.value
OnRowCoder Makes (Some (RowCoder old)) (Some (RowReader reader)) status = ⊥
OnRowCoder Makes (Some (RowReader reader)) new status = (status ≡ other_handle) × (new ≡ Some (RowReader reader))

-- what happens to the row reader in a handle; an empty handle is 100, another kind is 101, and the handle stays
abbrev pub OnRowReader : (RowReading → RowReading → Type 0) → Option Kept → Option Kept → ℕ → Type 0
OnRowReader Makes None new status = (status ≡ empty_handle) × (new ≡ None)
OnRowReader Makes (Some (Octets octets)) new status = (status ≡ other_handle) × (new ≡ Some (Octets octets))
OnRowReader Makes (Some (Page page)) new status = (status ≡ other_handle) × (new ≡ Some (Page page))
OnRowReader Makes (Some (Deframer state)) new status = (status ≡ other_handle) × (new ≡ Some (Deframer state))
OnRowReader Makes (Some (Document pages)) new status = (status ≡ other_handle) × (new ≡ Some (Document pages))
OnRowReader Makes (Some (Caller terminal)) new status = (status ≡ other_handle) × (new ≡ Some (Caller terminal))
OnRowReader Makes (Some (Answerer answering)) new status = (status ≡ other_handle) × (new ≡ Some (Answerer answering))
OnRowReader Makes (Some (RowCoder coder)) new status = (status ≡ other_handle) × (new ≡ Some (RowCoder coder))
OnRowReader Makes (Some (RowReader old)) None status = ⊥
OnRowReader Makes (Some (RowReader old)) (Some (Octets octets)) status = ⊥
OnRowReader Makes (Some (RowReader old)) (Some (Page page)) status = ⊥
OnRowReader Makes (Some (RowReader old)) (Some (Deframer state)) status = ⊥
OnRowReader Makes (Some (RowReader old)) (Some (Document pages)) status = ⊥
OnRowReader Makes (Some (RowReader old)) (Some (Caller terminal)) status = ⊥
OnRowReader Makes (Some (RowReader old)) (Some (Answerer answering)) status = ⊥
OnRowReader Makes (Some (RowReader old)) (Some (RowCoder coder)) status = ⊥
OnRowReader Makes (Some (RowReader old)) (Some (RowReader new)) status = Makes old.value new.value

-- the status for a handle that should have a terminal: the first relation for a caller's, the second for an answerer's; 100 if it is empty,
-- 101 if it has something else
abbrev pub OfTerminal : (TimedFields StoppableCallerFields → Type 0) → (AnsweringFields → Type 0) → Option Kept → ℕ → Type 0
OfTerminal Calls Answers None status = status ≡ empty_handle
OfTerminal Calls Answers (Some (Octets octets)) status = status ≡ other_handle
OfTerminal Calls Answers (Some (Page page)) status = status ≡ other_handle
OfTerminal Calls Answers (Some (Deframer state)) status = status ≡ other_handle
OfTerminal Calls Answers (Some (Document pages)) status = status ≡ other_handle
OfTerminal Calls Answers (Some (Caller calling)) status = Calls calling.value
OfTerminal Calls Answers (Some (Answerer answering)) status = Answers answering.value
OfTerminal Calls Answers (Some (RowCoder coder)) status = status ≡ other_handle
OfTerminal Calls Answers (Some (RowReader reader)) status = status ≡ other_handle

-- What happens to the terminal in a handle: the first relation for a caller's, the second for an answerer's. An empty handle is 100, another
-- kind is 101, and the handle stays.
abbrev pub OnStation :
    (TimedFields StoppableCallerFields → TimedFields StoppableCallerFields → Type 0) → (AnsweringFields → AnsweringFields → Type 0) → Option Kept → Option Kept → ℕ → Type 0
OnStation Calls Answers None new status = (status ≡ empty_handle) × (new ≡ None)
OnStation Calls Answers (Some (Octets octets)) new status = (status ≡ other_handle) × (new ≡ Some (Octets octets))
OnStation Calls Answers (Some (Page page)) new status = (status ≡ other_handle) × (new ≡ Some (Page page))
OnStation Calls Answers (Some (Deframer state)) new status = (status ≡ other_handle) × (new ≡ Some (Deframer state))
OnStation Calls Answers (Some (Document pages)) new status = (status ≡ other_handle) × (new ≡ Some (Document pages))
OnStation Calls Answers (Some (Caller old)) None status = ⊥
OnStation Calls Answers (Some (Caller old)) (Some (Octets octets)) status = ⊥
OnStation Calls Answers (Some (Caller old)) (Some (Page page)) status = ⊥
OnStation Calls Answers (Some (Caller old)) (Some (Deframer state)) status = ⊥
OnStation Calls Answers (Some (Caller old)) (Some (Document pages)) status = ⊥
OnStation Calls Answers (Some (Caller old)) (Some (Caller new)) status = Calls old.value new.value
OnStation Calls Answers (Some (Caller old)) (Some (Answerer answering)) status = ⊥
OnStation Calls Answers (Some (Caller old)) (Some (RowCoder coder)) status = ⊥
OnStation Calls Answers (Some (Caller old)) (Some (RowReader reader)) status = ⊥
OnStation Calls Answers (Some (Answerer old)) None status = ⊥
OnStation Calls Answers (Some (Answerer old)) (Some (Octets octets)) status = ⊥
OnStation Calls Answers (Some (Answerer old)) (Some (Page page)) status = ⊥
OnStation Calls Answers (Some (Answerer old)) (Some (Deframer state)) status = ⊥
OnStation Calls Answers (Some (Answerer old)) (Some (Document pages)) status = ⊥
OnStation Calls Answers (Some (Answerer old)) (Some (Caller terminal)) status = ⊥
OnStation Calls Answers (Some (Answerer old)) (Some (Answerer new)) status = Answers old.value new.value
OnStation Calls Answers (Some (Answerer old)) (Some (RowCoder coder)) status = ⊥
OnStation Calls Answers (Some (Answerer old)) (Some (RowReader reader)) status = ⊥
OnStation Calls Answers (Some (RowCoder coder)) new status = (status ≡ other_handle) × (new ≡ Some (RowCoder coder))
OnStation Calls Answers (Some (RowReader reader)) new status = (status ≡ other_handle) × (new ≡ Some (RowReader reader))

-- the status for a handle that should have a terminal, by one relation for both stations; 100 if it is empty, 101 if it has something else
abbrev pub OfBoth : ((S : Type 0) → Behaviour S → TimedFields S → Type 0) → Option Kept → ℕ → Type 0
OfBoth Answers old status =
    OfTerminal (Answers StoppableCallerFields callers) (λ answering. Answers LimitedFields answerers answering.timed) old status

-- What happens to the terminal in a handle, by one relation for both stations; all else of an answerer stays. An empty handle is 100, another
-- kind is 101, and the handle stays.
abbrev pub OnBoth : ((S : Type 0) → Behaviour S → TimedFields S → TimedFields S → Type 0) → Option Kept → Option Kept → ℕ → Type 0
OnBoth Makes old new status =
    OnStation (Makes StoppableCallerFields callers)
    (λ before after. Makes LimitedFields answerers before.timed after.timed × (after ≡ record before { timed = after.timed })) old new status

-- an empty handle is filled with something of this kind, status 0; a full one is 102; by any status above 0 it stays
pub record Fills (Holds : Option Kept → Type 0) (old : Option Kept) (status : ℕ) (new : Option Kept) : Type 0 where
  pub done : status ≡ ok → (old ≡ None) × Holds new
  pub kept : status ≢ ok → new ≡ old
  pub full : old ≢ None → status ≡ full_handle

-- Octets are copied to the beginning of a buffer, and what is after them there stays. If the buffer is too small, it stays and the status
-- is 103. Their number is told in both cases.
pub record Copies (octets old new : List ℕ) (count status : ℕ) : Type 0 where
  pub counted : count ≡ length octets
  pub done : length octets ≤ length old → (status ≡ ok) × (new ≡ octets ++ drop (length octets) old)
  pub refused : length old < length octets → (status ≡ no_room) × (new ≡ old)

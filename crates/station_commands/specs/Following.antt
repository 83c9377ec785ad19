-- What the follower of a station notes of a line that comes, and of each frame that is heard or said, and how it judges an answer.
use Rattle.std.specs.Prelude.{ℕ, ◌≡◌, Bool, List, Option, None, Result}
use Rattle.conversations.specs.Talking.{Following, following}
use Rattle.signals.specs.Signals.{PlainSignal}
use Rattle.signals.specs.declared.fault.SignalFault.{SignalFault}
use Rattle.station_commands.specs.CallNotes.{no_notes, noted_heard, noted_said}
use Rattle.station_commands.specs.Lateness.{IsMet, first_after, is_late}
use Rattle.station_commands.specs.declared.station.lateness.Lateness.{Lateness}
use Rattle.station_commands.specs.declared.station.lateness.Met.{Met}
use Rattle.station_commands.specs.declared.station.notes.Noted.{Noted}

-- a follower of a station, but for what it writes: what is noted of the call, how late an answer may come, and how many lines are lost
pub record NotesFields : Type 0 where
  pub noted : Noted
  pub lateness : Lateness
  pub lost : ℕ

-- a frame that the station heard is noted
abbrev pub notes_heard : NotesFields → List ℕ → Result PlainSignal SignalFault → NotesFields
notes_heard old content said = record old { noted = noted_heard old.noted content said }

-- a frame that it said is noted
abbrev pub notes_said : NotesFields → List ℕ → PlainSignal → NotesFields
notes_said old content signal = record old { noted = noted_said old.noted signal }

-- a line of a time comes, and it is noted when, if the clock could be read
pub record MeetsLine (old : NotesFields) (at : ℕ) (new : NotesFields) : Type 0 where
  pub met : Option Met
  pub is_met : IsMet at met
  pub first : new ≡ record old { lateness = record old.lateness { first = first_after old.lateness.first met } }

-- the answer to the line of a time comes too late, or doesn't, by the clock
pub record JudgesAnswer (old : NotesFields) (at : ℕ) (late : Bool) (new : NotesFields) : Type 0 where
  pub met : Option Met
  pub is_met : IsMet at met
  pub late_is : late ≡ is_late old.lateness.most old.lateness.first met
  pub stays : new ≡ old

-- the follower of a station, as its conversation knows it
abbrev pub station_follower : Following NotesFields
station_follower = following notes_heard notes_said (λ old at new. MeetsLine old at new) (λ old at late new. JudgesAnswer old at late new)

-- what is noted of a call that hasn't begun, whose answers may be so late: nothing was heard or said
pub record IsNewFollower (most : Option ℕ) (notes : NotesFields) : Type 0 where
  pub noted : notes.noted ≡ no_notes
  pub most_is : notes.lateness.most ≡ most
  pub first : notes.lateness.first ≡ None

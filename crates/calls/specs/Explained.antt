-- The lines of a call with what its signals say, in words.
use Rattle.std.specs.Prelude.{ℕ, ◌++◌, [], List, Option, None, Some}
use Rattle.signals.specs.Signals.{PlainSignal, dis, dcs, pps, ppr}
use Rattle.line_sim.specs.declared.event.Entry.{Entry}
use Rattle.line_sim.specs.declared.event.Fields.{Fields}
use Rattle.line_sim.specs.declared.event.Fields.TheVariants as field
use Rattle.captures.specs.SignalWords.{words_of}
use Rattle.captures.specs.declared.frames.ListForm.{ListForm}
use Rattle.captures.specs.declared.frames.ListForm.TheVariants.{Plain}
use Rattle.calls.specs.SentBits.{Written}
use Rattle.calls.specs.Transcripts.{entry_line}

-- the signal of an information field, if there is one
abbrev pub signal_said : Fields → Option PlainSignal
signal_said field.Nothing = None
signal_said (field.Dis caps) = Some (dis caps)
signal_said (field.Dcs params) = Some (dcs params)
signal_said (field.Pps ends page block last) = Some (pps ends page block last)
signal_said (field.Ppr map) = Some (ppr map)

-- the line of what a signal says, as `frames` lists it, without the bits that aren't read
abbrev pub words_said : Option PlainSignal → List ℕ
words_said None = []
words_said (Some signal) = words_of [] signal

-- the line of what an information field says
abbrev pub fields_line : Fields → List ℕ
fields_line fields = words_said (signal_said fields)

-- the line of an event, and after it that of what was delivered or lost
abbrev pub explained_line : ℕ → Entry → List ℕ
explained_line number entry = entry_line number entry ++ fields_line entry.fields

-- what a writer has whose lines have a form: its lines, which are known only in the plain form, and the octets, which always are
abbrev pub in_form : ListForm → Written → Written
in_form Plain written = written
in_form _ written = record written { lines = None }

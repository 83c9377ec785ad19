-- The lines of frames as JSON, one object a line, as the command that lists frames writes them for programs.
use Rattle.std.specs.Prelude.{ℕ, suc, zero, ◌++◌, ◌∷◌, [], List, Option, Result, Ok, Err, codes, cond}
use Rattle.std.specs.Prelude.{length, map, take, unwrap_or}
use Rattle.hdlc.specs.declared.counts.Counts.{Counts}
use Rattle.hex.specs.Hex.{encode_lower}
use Rattle.raster.specs.declared.coding.Coding.TheVariants.{OneDim, T6}
use Rattle.serde_json.specs.Data.{Data, array, boolean, member, no_members, object}
use Rattle.serde_json.specs.View.{items_of}
use Rattle.signals.specs.Agreement.{pixels_of}
use Rattle.signals.specs.Faults.{number_of}
use Rattle.signals.specs.Reading.{read_content}
use Rattle.signals.specs.Signals.{PlainSignal, dis, dcs, cfr, ftt, fcd, rcp, pps, ppr, mcf, rnr, rr, dcn, other}
use Rattle.signals.specs.declared.params.Caps.{Caps}
use Rattle.signals.specs.declared.params.Params.{Params}
use Rattle.signals.specs.declared.fault.SignalFault.{SignalFault}
use Rattle.signals.specs.declared.signal.PageEnd.{PageEnd}
use Rattle.faults.specs.RecordLines.{count, words}
use Rattle.captures.specs.SignalWords.{is_in_map}
use Rattle.captures.specs.Names.{carrier_name, code_name}
use Rattle.captures.specs.OtherWords.{other_name}
use Rattle.captures.specs.Texts.{lines_text, modems_text, page_end_text}

-- the record of a signal that has no fields: its name as `signal`
abbrev pub named : List ℕ → Data
named name = object (member (codes "signal") (words name) no_members)

-- the record of a DIS: what a station can do
abbrev pub dis_record : Caps → Data
dis_record caps = object (member (codes "code") (words (cond caps.t6 (code_name T6) (code_name OneDim)))
    (member (codes "error_correction") (boolean caps.ecm)
    (member (codes "lines") (words (lines_text caps.fine))
    (member (codes "modems") (words (modems_text caps.modems))
    (member (codes "receiver") (boolean caps.receiver)
    (member (codes "signal") (words (codes "DIS"))
    (member (codes "width") (count (pixels_of caps.widest)) no_members)))))))

-- the record of a DCS: how pages are sent
abbrev pub dcs_record : Params → Data
dcs_record params = object (member (codes "code") (words (code_name params.coding))
    (member (codes "frame_octets") (count (cond params.small 64 256))
    (member (codes "lines") (words (lines_text params.fine))
    (member (codes "signal") (words (codes "DCS"))
    (member (codes "speed") (words (carrier_name params.speed))
    (member (codes "width") (count (pixels_of params.width)) no_members))))))

-- the number of an FCD's frame, and how many octets of data it has
abbrev pub fcd_record : ℕ → List ℕ → Data
fcd_record frame octets = object (member (codes "data_octets") (count (length octets))
    (member (codes "frame") (count frame)
    (member (codes "signal") (words (codes "FCD")) no_members)))

-- what a PPS says, with its page, block and last frame from 0
abbrev pub pps_record : PageEnd → ℕ → ℕ → ℕ → Data
pps_record ends page block last = object (member (codes "block") (count block)
    (member (codes "ends") (words (page_end_text ends))
    (member (codes "last") (count last)
    (member (codes "page") (count page)
    (member (codes "signal") (words (codes "PPS")) no_members)))))

-- the numbers below a count that are marked in a map, in rising order
unfoldable pub marked_below : List ℕ → ℕ → List ℕ
marked_below marks zero = []
marked_below marks (suc n) = marked_below marks n ++ cond (is_in_map marks n) (n ∷ []) []

-- the frames that a PPR asks for
abbrev pub ppr_record : List ℕ → Data
ppr_record marks = object (member (codes "frames") (array (items_of (map count (marked_below marks 256))))
    (member (codes "signal") (words (codes "PPR")) no_members))

-- another signal, by its facsimile control field in hex, and its name, if it has one
abbrev pub record_by_name : ℕ → List ℕ → Data
record_by_name octet [] = object (member (codes "control_field") (words (encode_lower (octet ∷ [])))
    (member (codes "signal") (words (codes "other")) no_members))
record_by_name octet name = object (member (codes "control_field") (words (encode_lower (octet ∷ [])))
    (member (codes "name") (words name)
    (member (codes "signal") (words (codes "other")) no_members)))

-- another signal, by its facsimile control field
abbrev pub other_record : ℕ → Data
other_record octet = record_by_name octet (other_name octet)

-- the record of what a signal says: its name as `signal`, and its fields, if it has any
abbrev pub signal_record : PlainSignal → Data
signal_record (dis caps) = dis_record caps
signal_record (dcs params) = dcs_record params
signal_record cfr = named (codes "CFR")
signal_record ftt = named (codes "FTT")
signal_record (fcd frame octets) = fcd_record frame octets
signal_record rcp = named (codes "RCP")
signal_record (pps ends page block last) = pps_record ends page block last
signal_record (ppr map) = ppr_record map
signal_record mcf = named (codes "MCF")
signal_record rnr = named (codes "RNR")
signal_record rr = named (codes "RR")
signal_record dcn = named (codes "DCN")
signal_record (other octet) = other_record octet

-- what was read of a content: a signal, or the number of the fault for which it is refused
abbrev pub says_record : Result PlainSignal SignalFault → Data
says_record (Ok signal) = signal_record signal
says_record (Err fault) = object (member (codes "fault") (count (number_of fault)) no_members)

-- the first octets of a content, or all of it
abbrev pub shown_front : Option ℕ → List ℕ → List ℕ
shown_front most content = take (unwrap_or most (length content)) content

-- the record of a good frame: its content in hex, of which at most as many octets are shown as are asked for, its number, how many octets
-- it has, and what it says
abbrev pub frame_record : Option ℕ → ℕ → List ℕ → Data
frame_record most frame content = object (member (codes "content") (words (encode_lower (shown_front most content)))
    (member (codes "number") (count frame)
    (member (codes "octets") (count (length content))
    (member (codes "says") (says_record (read_content content)) no_members))))

-- the record of how many gaps there were of each class
abbrev pub counts_record : Counts → Data
counts_record gaps = object (member (codes "aborted") (count gaps.aborted)
    (member (codes "damaged") (count gaps.damaged)
    (member (codes "good") (count gaps.good)
    (member (codes "long") (count gaps.long)
    (member (codes "ragged") (count gaps.ragged)
    (member (codes "short") (count gaps.short) no_members))))))

-- What the command that runs a call prints of it.
use Rattle.std.specs.Prelude.{ℕ, ◌≡◌, ◌+◌, ◌++◌, ◌∷◌, [], Bool, true, false, List, Option, Some, None, codes, length}
use Rattle.std.specs.Fmt.{decimal}
use Rattle.stations.specs.declared.turn.End.{End}
use Rattle.stations.specs.declared.turn.End.TheVariants as end
use Rattle.stations.specs.declared.turn.Turn.{Turn}
use Rattle.stations.specs.declared.turn.Turn.TheVariants as turn
use Rattle.line_sim.specs.declared.event.Entry.{Entry}
use Rattle.line_sim.specs.declared.event.Event.TheVariants.{DeliverToAnswerer, DeliverToCaller, CallerT5}
use Rattle.line_sim.specs.declared.event.Fields.TheVariants as field
use Rattle.line_sim.specs.declared.event.Kind.{Kind}
use Rattle.line_sim.specs.declared.event.Kind.TheVariants as kind
use Rattle.line_sim.specs.declared.live.Ending.{Ending}
use Rattle.captures.specs.Frames.{line}
use Rattle.calls.specs.Scripts.{word_of}

-- the word of the item that was delivered or lost, `-` if there is none; an FCD with the number of its frame
abbrev pub item_text : Option Kind → List ℕ
item_text None = codes "-"
item_text (Some kind.Dis) = codes "DIS"
item_text (Some kind.Dcs) = codes "DCS"
item_text (Some kind.Training) = codes "TRAINING"
item_text (Some kind.Cfr) = codes "CFR"
item_text (Some kind.Ftt) = codes "FTT"
item_text (Some (kind.Fcd number)) = codes "FCD:" ++ decimal number
item_text (Some kind.Rcp) = codes "RCP"
item_text (Some kind.Pps) = codes "PPS"
item_text (Some kind.Mcf) = codes "MCF"
item_text (Some kind.Ppr) = codes "PPR"
item_text (Some kind.Rnr) = codes "RNR"
item_text (Some kind.Rr) = codes "RR"
item_text (Some kind.Dcn) = codes "DCN"

-- the word of the turn that was transmitted, `-` if there is none: DCS goes with its training check; a burst with the number of its FCDs
abbrev pub turn_text : Turn → ℕ → List ℕ
turn_text turn.Silent fcds = codes "-"
turn_text turn.Dis fcds = codes "DIS"
turn_text turn.Training fcds = codes "DCS"
turn_text turn.Cfr fcds = codes "CFR"
turn_text turn.Ftt fcds = codes "FTT"
turn_text (turn.Burst map) fcds = codes "BURST:" ++ decimal fcds
turn_text turn.Pps fcds = codes "PPS"
turn_text turn.Mcf fcds = codes "MCF"
turn_text (turn.Ppr map) fcds = codes "PPR"
turn_text turn.Rnr fcds = codes "RNR"
turn_text turn.Rr fcds = codes "RR"
turn_text turn.Dcn fcds = codes "DCN"

-- the word of why a call ended for a station, or `running`
abbrev pub end_text : Option End → List ℕ
end_text None = codes "running"
end_text (Some end.Normal) = codes "normal"
end_text (Some end.NoAnswer) = codes "no-answer"
end_text (Some end.NotCompatible) = codes "not-compatible"
end_text (Some end.Training) = codes "training"
end_text (Some end.NoReply) = codes "no-reply"
end_text (Some end.Unreadable) = codes "unreadable"
end_text (Some end.StillBusy) = codes "still-busy"
end_text (Some end.PeerLeft) = codes "peer-left"
end_text (Some end.BadPage) = codes "bad-page"
end_text (Some end.PageTooLong) = codes "page-too-long"

-- a growth was refused in the event
abbrev pub refusal_words : Bool → List (List ℕ)
refusal_words true = codes "!" ∷ []
refusal_words false = []

-- the line of an event: its number, counted from 1, its word, the item that it delivered or lost, the turn of the station that it acted on,
-- and ` !` if a growth was refused
abbrev pub entry_line : ℕ → Entry → List ℕ
entry_line number entry = line (decimal number ∷ word_of entry.event ∷ item_text entry.item ∷ turn_text entry.turn entry.fcds
    ∷ refusal_words entry.refused)

-- the lines of events, numbered from the first one's number
abbrev pub entry_lines : ℕ → List Entry → List ℕ
entry_lines first [] = []
entry_lines first (entry ∷ entries) = entry_line first entry ++ entry_lines (first + 1) entries

-- how the call ended for the caller, and how many pages it counts as confirmed
abbrev pub caller_line : Option End → ℕ → List ℕ
caller_line ending confirmed = line (codes "caller" ∷ end_text ending ∷ codes "confirmed" ∷ decimal confirmed ∷ [])

-- how the call ended for the answerer, and how many pages it has stored
abbrev pub answerer_line : Option End → ℕ → List ℕ
answerer_line ending pages = line (codes "answerer" ∷ end_text ending ∷ codes "pages" ∷ decimal pages ∷ [])

-- what a call leaves, a line for each station: how the call ended for it, and how many pages it has confirmed or stored
abbrev pub ending_text : Ending → List ℕ
ending_text ending = caller_line ending.caller_end ending.confirmed ++ answerer_line ending.answerer_end (length ending.pages.items)

-- the text of a call: a line for each entry, numbered from 1, and what the call leaves
abbrev pub call_text : List Entry → Ending → List ℕ
call_text noted ending = entry_lines 1 noted ++ ending_text ending

-- The law: the lines of three events, written out (a burst, an FCD that came when memory was refused, a PPS answered by PPR), and the words
-- of the three ends that no call of a script has.
pub record ArePrintedLines : Type 0 where
  pub burst : (map : List ℕ)
      → entry_line 0 (record { event = DeliverToCaller; item = Some kind.Cfr; fields = field.Nothing; turn = turn.Burst map; fcds = 256; refused = false })
      ≡ codes "0 to-caller CFR BURST:256\n"
  pub refused_frame :
      entry_line 1 (record { event = DeliverToAnswerer; item = Some (kind.Fcd 255); fields = field.Nothing; turn = turn.Silent; fcds = 0; refused = true })
      ≡ codes "1 to-answerer FCD:255 - !\n"
  pub refused_input : (map : List ℕ)
      → entry_line 2 (record { event = CallerT5; item = None; fields = field.Nothing; turn = turn.Ppr map; fcds = 0; refused = true })
      ≡ codes "2 caller-t5 - PPR !\n"
  pub not_compatible : end_text (Some end.NotCompatible) ≡ codes "not-compatible"
  pub bad_page : end_text (Some end.BadPage) ≡ codes "bad-page"
  pub page_too_long : end_text (Some end.PageTooLong) ≡ codes "page-too-long"

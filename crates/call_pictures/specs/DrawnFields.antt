-- What a picture of a call says of the fields of its signals: how a DCS sets that pages are sent, and what ends with the block of a PPS.
use Rattle.std.specs.Prelude.{ℕ, ◌++◌, [], Bool, List, codes, cond}
use Rattle.std.specs.Fmt.{decimal}
use Rattle.page_code.specs.declared.Coding.{Coding}
use Rattle.page_code.specs.declared.Coding.TheVariants.{OneDim, T6}
use Rattle.signals.specs.Agreement.{pixels_of}
use Rattle.signals.specs.declared.params.Params.{Params}
use Rattle.signals.specs.declared.params.Speed.{Speed}
use Rattle.signals.specs.declared.params.Speed.TheVariants.{V27At2400, V27At4800, V29At7200, V29At9600, V17At7200, V17At9600}
use Rattle.signals.specs.declared.params.Speed.TheVariants.{V17At12000, V17At14400}
use Rattle.signals.specs.declared.signal.PageEnd.{PageEnd}
use Rattle.signals.specs.declared.signal.PageEnd.TheVariants.{Null, Mps, Eom, Eop}
use Rattle.line_sim.specs.declared.event.Entry.{Entry}
use Rattle.line_sim.specs.declared.event.Fields.{Fields}
use Rattle.line_sim.specs.declared.event.Fields.TheVariants as field

-- what is drawn of fields: all of a DCS, and what ends with the block of a PPS, so that blocks of one page are drawn alike
abbrev pub drawn_fields : Fields → Fields
drawn_fields (field.Dcs params) = field.Dcs params
drawn_fields (field.Pps ends page block last) = field.Pps ends 0 0 0
drawn_fields _ = field.Nothing

-- an event as it is drawn, with only the fields that are drawn
abbrev pub drawn_entry : Entry → Entry
drawn_entry entry = record entry { fields = drawn_fields entry.fields }

-- the name of the modulation and the speed of a page
abbrev pub speed_name : Speed → List ℕ
speed_name V27At2400 = codes " V.27 ter 2400"
speed_name V27At4800 = codes " V.27 ter 4800"
speed_name V29At7200 = codes " V.29 7200"
speed_name V29At9600 = codes " V.29 9600"
speed_name V17At7200 = codes " V.17 7200"
speed_name V17At9600 = codes " V.17 9600"
speed_name V17At12000 = codes " V.17 12000"
speed_name V17At14400 = codes " V.17 14400"

-- the name of a page's code
abbrev pub code_name : Coding → List ℕ
code_name OneDim = codes " T.4 "
code_name T6 = codes " T.6 "

-- the word ` fine` if the lines of a page are fine ones
abbrev pub fine_name : Bool → List ℕ
fine_name fine = cond fine (codes " fine") []

-- what ends with the block of a PPS, as T.30 names it: PPS-EOP and others
abbrev pub end_name : PageEnd → List ℕ
end_name Null = codes "-NULL"
end_name Mps = codes "-MPS"
end_name Eom = codes "-EOM"
end_name Eop = codes "-EOP"

-- what a picture writes of fields after the name of their signal
abbrev pub fields_text : Fields → List ℕ
fields_text (field.Dcs params) = speed_name params.speed ++ (code_name params.coding ++ (decimal (pixels_of params.width) ++
    fine_name params.fine))
fields_text (field.Pps ends page block last) = end_name ends
fields_text _ = []

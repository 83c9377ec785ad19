-- The facsimile control fields and their octets.
use Rattle.std.specs.Prelude.{ℕ, ◌+◌, ◌||◌, Bool, List, [], ◌∷◌, Option, nat_eq}
use Rattle.std.specs.List.{find}
use Rattle.signals.specs.declared.control.Control.{Control}
use Rattle.signals.specs.declared.control.Control.TheVariants.{Dis, Dcs, Cfr, Ftt, Fcd, Rcp, Pps, Ppr, Mcf, Rnr, Rr, Dcn}
use Rattle.signals.specs.declared.signal.Side.{Side}
use Rattle.signals.specs.declared.signal.Side.TheVariants.{Caller, Answerer}

-- the first bit X of a facsimile control field: 1 from the caller, 0 from the answerer
abbrev pub x_of : Side → ℕ
x_of Caller = 1
x_of Answerer = 0

-- the octet that a station sends for a facsimile control field, with its own bit for the X of the standard's text
abbrev pub octet_of : Control → Side → ℕ
octet_of Dis side = 0x80
octet_of Dcs side = 0x82 + x_of side
octet_of Cfr side = 0x84 + x_of side
octet_of Ftt side = 0x44 + x_of side
octet_of Fcd side = 0x06
octet_of Rcp side = 0x86
octet_of Pps side = 0xBE + x_of side
octet_of Ppr side = 0xBC + x_of side
octet_of Mcf side = 0x8C + x_of side
octet_of Rnr side = 0xEC + x_of side
octet_of Rr side = 0x6E + x_of side
octet_of Dcn side = 0xFA + x_of side

-- all twelve facsimile control fields
abbrev pub controls : List Control
controls = Dis ∷ Dcs ∷ Cfr ∷ Ftt ∷ Fcd ∷ Rcp ∷ Pps ∷ Ppr ∷ Mcf ∷ Rnr ∷ Rr ∷ Dcn ∷ []

-- an octet is the one that either station sends for a facsimile control field
abbrev pub is_octet : ℕ → Control → Bool
is_octet octet control = nat_eq octet (octet_of control Caller) || nat_eq octet (octet_of control Answerer)

-- the facsimile control field that an octet is, from either station; None for other octets
unfoldable pub control_of : ℕ → Option Control
control_of octet = find (is_octet octet) controls

-- What contents say, as a relation.
use Rattle.std.specs.Prelude.{ℕ, ◌≡◌, ◌≤◌, ◌<◌, ◌+◌, ◌/◌, ◌%◌, ◌⊎◌, ◌↔◌, Bool, true, ◌&&◌, ◌||◌, List, [], ◌∷◌, Option, Some, None, Ok}
use Rattle.std.specs.Prelude.{length, drop, take, slice_index, nat_eq, codes}
use Rattle.signals.specs.Controls.{control_of}
use Rattle.signals.specs.Reading.{page_end_of, caps_of, params_of, read_content}
use Rattle.signals.specs.Signals.{PlainSignal, dis, dcs, cfr, ftt, fcd, rcp, pps, ppr, mcf, rnr, rr, dcn, other}
use Rattle.signals.specs.declared.control.Control.{Control}
use Rattle.signals.specs.declared.control.Control.TheVariants.{Dis, Dcs, Cfr, Ftt, Fcd, Rcp, Pps, Ppr, Mcf, Rnr, Rr, Dcn}

-- the texts of the twelve facsimile control fields in order of sending; an X is the bit by which the stations differ (T.30, 5.3.6.1 and
-- A.4)
abbrev pub control_text : Control → List ℕ
control_text Dis = codes "00000001"
control_text Dcs = codes "X1000001"
control_text Cfr = codes "X0100001"
control_text Ftt = codes "X0100010"
control_text Fcd = codes "01100000"
control_text Rcp = codes "01100001"
control_text Pps = codes "X1111101"
control_text Ppr = codes "X0111101"
control_text Mcf = codes "X0110001"
control_text Rnr = codes "X0110111"
control_text Rr = codes "X1110110"
control_text Dcn = codes "X1011111"

-- an octet's bits, the least significant first, are those of a text; an X takes either bit
abbrev pub has_text : List ℕ → ℕ → Bool
has_text [] octet = true
has_text (letter ∷ letters) octet = (nat_eq letter 88 || nat_eq letter (48 + octet % 2)) && has_text letters (octet / 2)

-- law: an octet is read as a facsimile control field exactly if its bits are those of the field's text (T.30, 5.3.6.1)
abbrev pub ControlsHaveTexts : Type 0
ControlsHaveTexts = (octet : ℕ) (control : Control) → octet < 256 → (control_of octet ≡ Some control)
    ↔ (has_text (control_text control) octet ≡ true)

-- a DCS with parameters outside what is known, or a PPS with an unknown second field
abbrev pub IsOutside : Option Control → List ℕ → Type 0
IsOutside None fields = Unit {0}
IsOutside (Some Dcs) fields = (3 ≤ length fields) × (params_of fields ≡ None)
IsOutside (Some Pps) fields = (4 ≤ length fields) × (page_end_of (slice_index fields 0) ≡ None)
IsOutside (Some _) fields = ⊥

-- the facsimile control field that an octet is, if it is one, and the information field after it say a signal
abbrev pub FieldsSay : Option Control → ℕ → List ℕ → PlainSignal → Type 0
FieldsSay control octet fields (dis caps) = (control ≡ Some Dis) × (3 ≤ length fields) × (caps_of fields ≡ caps)
FieldsSay control octet fields (dcs params) = (control ≡ Some Dcs) × (3 ≤ length fields) × (params_of fields ≡ Some params)
FieldsSay control octet fields cfr = control ≡ Some Cfr
FieldsSay control octet fields ftt = control ≡ Some Ftt
FieldsSay control octet fields (fcd number octets) = (control ≡ Some Fcd) × (2 ≤ length fields) × (slice_index fields 0 ≡ number)
    × (drop 1 fields ≡ octets)
FieldsSay control octet fields rcp = control ≡ Some Rcp
FieldsSay control octet fields (pps ends page block last) =
    (control ≡ Some Pps) × (4 ≤ length fields) × (page_end_of (slice_index fields 0) ≡ Some ends) × (slice_index fields 1 ≡ page)
    × (slice_index fields 2 ≡ block) × (slice_index fields 3 ≡ last)
FieldsSay control octet fields (ppr map) = (control ≡ Some Ppr) × (32 ≤ length fields) × (take 32 fields ≡ map)
FieldsSay control octet fields mcf = control ≡ Some Mcf
FieldsSay control octet fields rnr = control ≡ Some Rnr
FieldsSay control octet fields rr = control ≡ Some Rr
FieldsSay control octet fields dcn = control ≡ Some Dcn
FieldsSay control octet fields (other at) = (octet ≡ at) × IsOutside control fields

-- a content says a signal: FF, then 03 or 13, its facsimile control field, and an information field that is long enough and says its
-- values; any other octet in the third place says `other`
pub record Says (content : List ℕ) (signal : PlainSignal) : Type 0 where
  pub long : 3 ≤ length content
  pub address : slice_index content 0 ≡ 0xFF
  pub control : (slice_index content 1 ≡ 0x03) ⊎ (slice_index content 1 ≡ 0x13)
  pub fields : FieldsSay (control_of (slice_index content 2)) (slice_index content 2) (drop 3 content) signal

-- law: a content is read as a signal exactly if it says the signal
abbrev pub ReadsWhatIsSaid : Type 0
ReadsWhatIsSaid = (content : List ℕ) (signal : PlainSignal) → (read_content content ≡ Ok signal) ↔ Says content signal

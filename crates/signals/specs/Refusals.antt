-- Which contents are refused, and with which fault, by their octets; and the octets of each signal that a station sends.
use Rattle.std.specs.Prelude.{ℕ, ◌≡◌, ◌≢◌, ◌<◌, ◌⊎◌, ◌↔◌, Bool, true, false, cond, List, [], ◌∷◌, length, Some, Err}
use Rattle.raster.specs.declared.coding.Coding.TheVariants.{T6}
use Rattle.signals.specs.BitNumbers.{least_octets}
use Rattle.signals.specs.Controls.{control_of}
use Rattle.signals.specs.Reading.{read_content}
use Rattle.signals.specs.Signals.{dis, dcs, cfr, ftt, fcd, rcp, pps, ppr, mcf, rnr, rr, dcn}
use Rattle.signals.specs.Writing.{content_of}
use Rattle.signals.specs.declared.control.Control.{Control}
use Rattle.signals.specs.declared.fault.SignalFault.{SignalFault}
use Rattle.signals.specs.declared.fault.SignalFault.TheVariants.{BadAddress, BadControl, ShortField}
use Rattle.signals.specs.declared.params.Modems.TheVariants.{V17}
use Rattle.signals.specs.declared.params.PageWidth.TheVariants.{W1728, W2432}
use Rattle.signals.specs.declared.params.Speed.TheVariants.{V17At14400}
use Rattle.signals.specs.declared.signal.PageEnd.TheVariants.{Null, Mps, Eom, Eop}
use Rattle.signals.specs.declared.signal.Side.TheVariants.{Caller, Answerer}

-- an octet is a control field: 03, or 13 in the last frame of a transmission
abbrev pub IsControlField : ℕ → Type 0
IsControlField octet = (octet ≡ 0x03) ⊎ (octet ≡ 0x13)

-- a content is refused with a fault: each octet before the one at fault is right
abbrev pub IsRefused : List ℕ → SignalFault → Type 0
IsRefused content BadAddress = (address : ℕ) × (rest : List ℕ) × (content ≡ address ∷ rest) × (address ≢ 0xFF)
IsRefused content BadControl =
    (octet : ℕ) × (rest : List ℕ) × (content ≡ 0xFF ∷ octet ∷ rest) × (octet ≢ 0x03) × (octet ≢ 0x13)
IsRefused content ShortField =
    (content ≡ []) ⊎ (content ≡ 0xFF ∷ []) ⊎ ((octet : ℕ) × (content ≡ 0xFF ∷ octet ∷ []) × IsControlField octet) ⊎
    ((octet : ℕ) × (name : ℕ) × (fields : List ℕ) × (control : Control) × (content ≡ 0xFF ∷ octet ∷ name ∷ fields) × IsControlField octet ×
    (control_of name ≡ Some control) × (length fields < least_octets control))

-- law: a content is refused exactly if its first octet isn't FF, its second is neither 03 nor 13, or octets are missing, among the first
-- three or in the information field; the first of these faults in the order of the octets is given
abbrev pub RefusesExactly : Type 0
RefusesExactly = (content : List ℕ) (fault : SignalFault) → (read_content content ≡ Err fault) ↔ IsRefused content fault

-- law: what contents of 0, 1 and 2 octets are read as, written out
pub record ShortOnes : Type 0 where
  pub none : read_content [] ≡ Err ShortField
  pub address : read_content (0xFF ∷ []) ≡ Err ShortField
  pub other_address : read_content (0xFE ∷ []) ≡ Err BadAddress
  pub control : read_content (0xFF ∷ 0x03 ∷ []) ≡ Err ShortField
  pub last_control : read_content (0xFF ∷ 0x13 ∷ []) ≡ Err ShortField
  pub other_control : read_content (0xFF ∷ 0x12 ∷ []) ≡ Err BadControl
  pub both : read_content (0xFE ∷ 0x12 ∷ []) ≡ Err BadAddress

-- the control field: 13 in the last frame of a transmission, 03 in every other
abbrev pub control_field : Bool → ℕ
control_field last = cond last 0x13 0x03

-- law: the octets of each signal that a caller and an answerer send, written out
pub record SendsOctets : Type 0 where
  -- the caller's
  pub caller_fcd : (last : Bool) (number : ℕ) (octets : List ℕ) →
      content_of (fcd number octets) Caller last ≡ 0xFF ∷ control_field last ∷ 0x06 ∷ number ∷ octets
  pub caller_rcp : (last : Bool) → content_of rcp Caller last ≡ 0xFF ∷ control_field last ∷ 0x86 ∷ []
  pub pps_null : (last : Bool) (page block frame : ℕ) → content_of (pps Null page block frame) Caller last ≡
      0xFF ∷ control_field last ∷ 0xBF ∷ 0x00 ∷ page ∷ block ∷ frame ∷ []
  pub pps_mps : (last : Bool) (page block frame : ℕ) → content_of (pps Mps page block frame) Caller last ≡
      0xFF ∷ control_field last ∷ 0xBF ∷ 0x4F ∷ page ∷ block ∷ frame ∷ []
  pub pps_eom : (last : Bool) (page block frame : ℕ) → content_of (pps Eom page block frame) Caller last ≡
      0xFF ∷ control_field last ∷ 0xBF ∷ 0x8F ∷ page ∷ block ∷ frame ∷ []
  pub pps_eop : (last : Bool) (page block frame : ℕ) → content_of (pps Eop page block frame) Caller last ≡
      0xFF ∷ control_field last ∷ 0xBF ∷ 0x2F ∷ page ∷ block ∷ frame ∷ []
  pub caller_rr : (last : Bool) → content_of rr Caller last ≡ 0xFF ∷ control_field last ∷ 0x6F ∷ []
  pub caller_dcn : (last : Bool) → content_of dcn Caller last ≡ 0xFF ∷ control_field last ∷ 0xFB ∷ []
  pub caller_dcs :
      content_of (dcs (record { speed = V17At14400; fine = false; width = W1728; coding = T6; small = false })) Caller true ≡
      0xFF ∷ 0x13 ∷ 0x83 ∷ 0x00 ∷ 0x22 ∷ 0xF8 ∷ 0x44 ∷ []
  -- the answerer's
  pub answerer_dis :
      content_of (dis (record { receiver = true; modems = V17; fine = true; widest = W2432; t6 = true; ecm = true })) Answerer true ≡
      0xFF ∷ 0x13 ∷ 0x80 ∷ 0x00 ∷ 0x6E ∷ 0xFA ∷ 0x44 ∷ []
  pub answerer_cfr : (last : Bool) → content_of cfr Answerer last ≡ 0xFF ∷ control_field last ∷ 0x84 ∷ []
  pub answerer_ftt : (last : Bool) → content_of ftt Answerer last ≡ 0xFF ∷ control_field last ∷ 0x44 ∷ []
  pub answerer_mcf : (last : Bool) → content_of mcf Answerer last ≡ 0xFF ∷ control_field last ∷ 0x8C ∷ []
  pub answerer_ppr : (last : Bool) (map : List ℕ) → content_of (ppr map) Answerer last ≡ 0xFF ∷ control_field last ∷ 0xBC ∷ map
  pub answerer_rnr : (last : Bool) → content_of rnr Answerer last ≡ 0xFF ∷ control_field last ∷ 0xEC ∷ []
  pub answerer_dcn : (last : Bool) → content_of dcn Answerer last ≡ 0xFF ∷ control_field last ∷ 0xFA ∷ []

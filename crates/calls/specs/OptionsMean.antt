-- What the options of a call reach, said by what its stations agree on and by the octets of the DIS.
use Rattle.std.specs.Prelude.{ℕ, ◌≡◌, ◌*◌, Bool, true, List, [], ◌∷◌, Result, Ok, Err}
use Rattle.std.specs.List.{AllByRecursion}
use Rattle.raster.specs.Pages.{PagePixels}
use Rattle.signals.specs.Agreement.{agreed}
use Rattle.signals.specs.Signals.{dis}
use Rattle.signals.specs.Training.{bits_a_second}
use Rattle.signals.specs.Writing.{content_of}
use Rattle.signals.specs.declared.agreement.NotCompatible.{NotCompatible}
use Rattle.signals.specs.declared.params.Modems.{Modems}
use Rattle.signals.specs.declared.params.Modems.TheVariants.{Fallback, V27, V29, V27V29, V17}
use Rattle.signals.specs.declared.params.PageWidth.{PageWidth}
use Rattle.signals.specs.declared.params.Params.{Params}
use Rattle.signals.specs.declared.signal.Side.TheVariants.{Answerer}
use Rattle.stations.specs.Inputs.{framed}
use Rattle.stations.specs.Layers.{Document}
use Rattle.line_sim.specs.Line.{World}
use Rattle.calls.specs.BadLines.{patience_of}
use Rattle.calls.specs.Calls.{RunsCall, call_world}
use Rattle.calls.specs.SentBits.{Written}
use Rattle.calls.specs.declared.losses.BadLine.{BadLine}
use Rattle.calls.specs.declared.options.CallOptions.{CallOptions}

-- the speed in bit/s of the first training check between two stations with these modems
abbrev pub fastest : Modems → ℕ
fastest Fallback = 2400
fastest V27 = 4800
fastest V29 = 9600
fastest V27V29 = 9600
fastest V17 = 14400

-- bits 9 to 16 of the DIS of a receiver with these modems that takes fine lines (ITU-T T.30, table 2), of which bit 9 is the least
-- significant: bit 10 and bit 15 are 1, and bits 11 to 14 are 0000, 0100, 1000, 1100 and 1101
abbrev pub second_octet : Modems → ℕ
second_octet Fallback = 0x42
second_octet V27 = 0x4A
second_octet V29 = 0x46
second_octet V27V29 = 0x4E
second_octet V17 = 0x6E

-- pages are sent as the options say
pub record AreAsked (options : CallOptions) (width : PageWidth) (fine : Bool) (params : Params) : Type 0 where
  pub code : params.coding ≡ options.coding
  pub frames : params.small ≡ options.small
  pub wide : params.width ≡ width
  pub lines : params.fine ≡ fine
  pub speed : bits_a_second params.speed ≡ fastest options.modems

-- something is agreed on, and it is what the options say
abbrev pub IsAsAsked : CallOptions → PageWidth → Bool → Result Params NotCompatible → Type 0
IsAsAsked options width fine (Ok params) = AreAsked options width fine params
IsAsAsked options width fine (Err refused) = ⊥

-- a call starts so: nothing is under way but the answerer's DIS, which is one of these octets; the caller has the document, and for pages
-- of each width, fine or not, the two agree on what the options say
pub record StartsSo (options : CallOptions) (document : Document) (w : World) : Type 0 where
  pub to_answerer : w.to_answerer ≡ []
  pub to_caller : w.to_caller ≡ framed (dis w.answerer.caps) ∷ []
  pub octets : content_of (dis w.answerer.caps) Answerer true ≡
      0xFF ∷ 0x13 ∷ 0x80 ∷ 0x00 ∷ second_octet options.modems ∷ 0xFA ∷ 0x44 ∷ []
  pub document_is : w.caller.document ≡ document
  pub agrees : (width : PageWidth) (fine : Bool) → IsAsAsked options width fine (agreed w.answerer.caps w.caller.wish width fine)

-- The law: what each option of a call does to what is under way at the start, the DIS in octets, and to what the stations agree on.
abbrev pub OptionsMean : Type 0
OptionsMean = (options : CallOptions) (document : Document) → StartsSo options document (call_world options document)

-- The law: each page read for a call has the lines, fine or not, that the options say.
abbrev pub LinesAreAsked : Type 0
LinesAreAsked = (options : CallOptions) (script images : List ℕ) (before after : Written) (pages : List PagePixels)
    → (run : RunsCall options script images before after pages) → AllByRecursion (λ page. page.fine ≡ options.fine) run.document

-- The law: a call over a bad line sends as many DIS in one wait as its option says, and bears as many RNRs as exchanges of RNR and RR, some
-- 3 s each, fit into T5, 60 s (T.30, table of timers).
pub record PatienceIsT5 : Type 0 where
  pub calls : (line : BadLine) → (patience_of line).calls ≡ line.calls
  pub busy : (line : BadLine) → 3 * (patience_of line).busy ≡ 60

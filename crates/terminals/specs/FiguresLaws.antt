-- Laws of what a call came to: by the octets of frames, and that frames of pages change nothing.
use Rattle.std.specs.Prelude.{ℕ, ◌≡◌, ◌++◌, Bool, false, cond, List, [], ◌∷◌, replicate, Some, None, Result, Ok, Err}
use Rattle.signals.specs.Reading.{read_content}
use Rattle.signals.specs.Signals.{PlainSignal}
use Rattle.signals.specs.declared.fault.SignalFault.{SignalFault}
use Rattle.signals.specs.declared.params.Speed.TheVariants.{V17At14400, V17At9600, V27At2400}
use Rattle.terminals.specs.Figures.{figures_heard, figures_said, is_of_page, no_figures}
use Rattle.terminals.specs.Watching.{saw_all}
use Rattle.terminals.specs.declared.figures.Figures.{Figures}

-- ---- frames by their octets

-- the figures once this content was heard
abbrev pub hears : List ℕ → Figures → Figures
hears content f = figures_heard f content (read_content content)

-- the figures once a content that reads so was said; a station says no other
abbrev pub says_read : List ℕ → Result PlainSignal SignalFault → Figures → Figures
says_read content (Ok signal) f = figures_said f content signal
says_read content (Err fault) f = f

-- the figures once this content was said
abbrev pub says : List ℕ → Figures → Figures
says content f = says_read content (read_content content) f

-- the figures after frames in order
abbrev pub figures_from : Figures → List (Figures → Figures) → Figures
figures_from f [] = f
figures_from f (frame ∷ frames) = figures_from (frame f) frames

-- those of a call
abbrev pub figures_of : List (Figures → Figures) → Figures
figures_of frames = figures_from no_figures frames

-- how many blocks, PPRs, frames that these ask for, retries and failed checks
abbrev pub counts_of : List (Figures → Figures) → List ℕ
counts_of frames =
    (figures_of frames).blocks ∷ (figures_of frames).requests ∷ (figures_of frames).resent ∷ (figures_of frames).retries
    ∷ (figures_of frames).failed_checks ∷ []

-- a frame without an information field, by its control field
abbrev pub plain_octets : ℕ → List ℕ
plain_octets control = 0xFF ∷ 0x13 ∷ control ∷ []

-- a DIS of V.17 with error correction
abbrev pub dis_octets : List ℕ
dis_octets = 0xFF ∷ 0x13 ∷ 0x80 ∷ 0x00 ∷ 0x2E ∷ 0x80 ∷ 0x44 ∷ []

-- a DCS with error correction, T.6 and this octet of bits 9 to 16
abbrev pub dcs_octets : ℕ → List ℕ
dcs_octets speed = 0xFF ∷ 0x13 ∷ 0x83 ∷ 0x00 ∷ speed ∷ 0x80 ∷ 0x44 ∷ []

-- a PPS-EOP of a page, a block and a last frame
abbrev pub pps_octets : ℕ → ℕ → ℕ → List ℕ
pps_octets page block last = 0xFF ∷ 0x13 ∷ 0xBF ∷ 0x2F ∷ page ∷ block ∷ last ∷ []

-- a PPR that asks for these of the frames 0 to 7, and for all others
abbrev pub ppr_octets : ℕ → List ℕ
ppr_octets first = 0xFF ∷ 0x13 ∷ 0xBC ∷ first ∷ replicate 31 0xFF

-- a frame with 20 signs, the last sign of which comes first: these, and then spaces
abbrev pub named_octets : ℕ → List ℕ → ℕ → List ℕ
named_octets control signs spaces = 0xFF ∷ 0x03 ∷ control ∷ (signs ++ replicate spaces 0x20)

-- an FCD of frame 0 with one octet
abbrev pub fcd_octets : List ℕ
fcd_octets = 0xFF ∷ 0x03 ∷ 0x06 ∷ 0x00 ∷ 0x5A ∷ []

-- an RCP, which ends a block
abbrev pub rcp_octets : List ℕ
rcp_octets = plain_octets 0x86

-- an answerer's call: a check that fails, a block of 4 frames of which 3 are asked for, whose PPS comes once more after its MCF, and one block
abbrev pub answered : List (Figures → Figures)
answered =
    says dis_octets ∷ hears (named_octets 0x43 (0x34 ∷ 0x33 ∷ 0x32 ∷ 0x31 ∷ 0x2B ∷ []) 15) ∷ hears (dcs_octets 0x22)
    ∷ says (plain_octets 0x44) ∷ hears (dcs_octets 0x26) ∷ says (plain_octets 0x84) ∷ hears fcd_octets ∷ hears rcp_octets
    ∷ hears (pps_octets 0 0 3) ∷ says (ppr_octets 0x2D) ∷ hears (pps_octets 0 0 3) ∷ says (plain_octets 0x8C)
    ∷ hears (pps_octets 0 0 3) ∷ says (plain_octets 0x8C) ∷ hears (pps_octets 0 1 9) ∷ says (plain_octets 0x8C)
    ∷ hears (plain_octets 0xFB) ∷ []

-- a caller's call: a DCS and a PPS that nothing answers, of a block of 12 frames of which 8 are asked for, and an RR that nothing answers
abbrev pub called : List (Figures → Figures)
called =
    hears dis_octets ∷ says (dcs_octets 0x26) ∷ says (dcs_octets 0x26) ∷ hears (plain_octets 0x84) ∷ says fcd_octets
    ∷ says (pps_octets 0 0 11) ∷ says (pps_octets 0 0 11) ∷ hears (ppr_octets 0xF0) ∷ says (pps_octets 0 0 11)
    ∷ hears (plain_octets 0xEC) ∷ says (plain_octets 0x6F) ∷ says (plain_octets 0x6F) ∷ hears (plain_octets 0x8C)
    ∷ says (plain_octets 0xFB) ∷ []

-- The law: what calls come to, by the octets of their frames.
pub record FiguresByOctets : Type 0 where
  pub answerer : counts_of answered ≡ 2 ∷ 1 ∷ 3 ∷ 0 ∷ 1 ∷ []
  pub answerers_first : (figures_of answered).first_speed ≡ Some V17At14400
  pub answerers_last : (figures_of answered).last_speed ≡ Some V17At9600
  pub answerers_name : (figures_of answered).name ≡ Some ((0x34 ∷ 0x33 ∷ 0x32 ∷ 0x31 ∷ 0x2B ∷ []) ++ replicate 15 0x20)
  pub caller : counts_of called ≡ 1 ∷ 1 ∷ 8 ∷ 3 ∷ 0 ∷ []
  -- a command that is said once more is a retry if nothing was heard between, whoever it was for; FCD and RCP count as nothing
  pub heard_between :
      counts_of (says dis_octets ∷ hears (0xFE ∷ 0x13 ∷ 0x8C ∷ []) ∷ says dis_octets ∷ hears (plain_octets 0xCF) ∷ says dis_octets ∷ [])
      ≡ 0 ∷ 0 ∷ 0 ∷ 0 ∷ 0 ∷ []
  pub nothing_between :
      counts_of (says dis_octets ∷ says (plain_octets 0x8C) ∷ says dis_octets ∷ hears fcd_octets ∷ hears rcp_octets ∷ says dis_octets ∷ [])
      ≡ 0 ∷ 0 ∷ 0 ∷ 2 ∷ 0 ∷ []
  pub heard_commands : counts_of (hears dis_octets ∷ hears dis_octets ∷ hears (plain_octets 0x6F) ∷ hears (plain_octets 0x6F) ∷ [])
      ≡ 0 ∷ 0 ∷ 0 ∷ 0 ∷ 0 ∷ []
  -- without a PPS no MCF confirms a block, and a PPR asks for none; a block is confirmed once
  pub before_blocks : counts_of (hears (plain_octets 0x8C) ∷ hears (ppr_octets 0xFF) ∷ []) ≡ 0 ∷ 1 ∷ 0 ∷ 0 ∷ 0 ∷ []
  pub one_block : counts_of (says (pps_octets 0 0 0) ∷ hears (plain_octets 0x8C) ∷ hears (plain_octets 0x8C) ∷ [])
      ≡ 1 ∷ 0 ∷ 0 ∷ 0 ∷ 0 ∷ []
  -- numbers that come again, and the next block of a page, are other blocks; two PPSs of other blocks with one MCF are one
  pub four_blocks :
      counts_of (hears (pps_octets 0 0 0) ∷ says (plain_octets 0x8C) ∷ hears (pps_octets 1 0 0) ∷ says (plain_octets 0x8C)
      ∷ hears (pps_octets 0 0 0) ∷ says (plain_octets 0x8C) ∷ hears (pps_octets 0 1 0) ∷ hears (pps_octets 0 2 0)
      ∷ says (plain_octets 0x8C) ∷ []) ≡ 4 ∷ 0 ∷ 0 ∷ 0 ∷ 0 ∷ []
  -- a PPR of all 256 frames, and of those that a block of 10 frames has
  pub all_frames : counts_of (hears (pps_octets 0 0 255) ∷ says (ppr_octets 0xFF) ∷ []) ≡ 0 ∷ 1 ∷ 256 ∷ 0 ∷ 0 ∷ []
  pub few_frames : counts_of (hears (pps_octets 0 0 9) ∷ says (ppr_octets 0xFE) ∷ says (ppr_octets 0x00) ∷ []) ≡ 0 ∷ 2 ∷ 11 ∷ 0 ∷ 0 ∷ []
  -- CSI, and TSI with either first bit, name a station; NSF, spaces, 19 signs, another address and what is said don't
  pub csi : (figures_of (hears (named_octets 0x40 (0x31 ∷ []) 19) ∷ [])).name ≡ Some (0x31 ∷ replicate 19 0x20)
  pub tsi : (figures_of (hears (named_octets 0x42 (0x31 ∷ []) 19) ∷ [])).name ≡ Some (0x31 ∷ replicate 19 0x20)
  pub kept :
      (figures_of (hears (named_octets 0x40 (0x31 ∷ []) 19) ∷ hears (named_octets 0x20 (0x32 ∷ []) 19) ∷ hears (named_octets 0x40 [] 20)
      ∷ hears (named_octets 0x40 (0x33 ∷ []) 18) ∷ hears (0xFE ∷ 0x03 ∷ 0x40 ∷ 0x34 ∷ replicate 19 0x20)
      ∷ says (named_octets 0x40 (0x35 ∷ []) 19) ∷ [])).name ≡ Some (0x31 ∷ replicate 19 0x20)
  -- a DCS without error correction has no speed; one that is said has
  pub speed : (figures_of (hears (0xFF ∷ 0x13 ∷ 0x83 ∷ 0x00 ∷ 0x22 ∷ 0x00 ∷ []) ∷ says (dcs_octets 0x02) ∷ [])).first_speed ≡ Some V27At2400
  -- a frame that isn't ours is the last one that was heard, through frames of pages, until another one is
  pub left_out : (figures_of (hears (plain_octets 0xCF) ∷ hears fcd_octets ∷ says dis_octets ∷ [])).unread ≡ Some 0xCF
  pub then_another : (figures_of (hears (plain_octets 0xCF) ∷ hears (plain_octets 0xFB) ∷ [])).unread ≡ None
  pub then_none : (figures_of (hears (plain_octets 0xCF) ∷ hears (0xFE ∷ 0x13 ∷ 0x8C ∷ []) ∷ [])).unread ≡ None

-- ---- frames of pages

-- a content that reads so is a frame of a page
abbrev pub is_page_read : Result PlainSignal SignalFault → Bool
is_page_read (Ok signal) = is_of_page signal
is_page_read (Err fault) = false

-- the contents that are no frames of pages
abbrev pub without_pages : List (List ℕ) → List (List ℕ)
without_pages [] = []
without_pages (content ∷ contents) = cond (is_page_read (read_content content)) (without_pages contents) (content ∷ without_pages contents)

-- The law: frames of pages change nothing, so what was heard counts as what was heard by V.21 where these alone went by another carrier.
abbrev pub PagesCountAsNothing : Type 0
PagesCountAsNothing = (f : Figures) (contents : List (List ℕ)) → saw_all figures_heard f contents ≡ saw_all figures_heard f (without_pages contents)

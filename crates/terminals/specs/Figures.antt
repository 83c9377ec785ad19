-- What a call came to, counted from the frames that its station heard and said.
use Rattle.std.specs.Prelude.{◌&&◌, ◌||◌, ◌+◌, ◌-◌, ◌^◌, ◌∷◌, [], ℕ, zero, suc, Bool, true, false, List, Option, Some, None, Result, Ok, Err}
use Rattle.std.specs.Prelude.{cond, drop, length, min, nat_eq, not, unwrap_or}
use Rattle.raster.specs.Packed.{bit_in}
use Rattle.raster.specs.declared.packed.Order.TheVariants.{LsbFirst}
use Rattle.signals.specs.Marks.{same_mark}
use Rattle.signals.specs.Signals.{PlainSignal, cfr, dcn, dcs, dis, fcd, ftt, mcf, other, ppr, pps, rcp, rnr, rr}
use Rattle.signals.specs.declared.fault.SignalFault.{SignalFault}
use Rattle.signals.specs.declared.mark.Mark.{Mark}
use Rattle.signals.specs.declared.mark.Pps.{Pps}
use Rattle.signals.specs.declared.params.Speed.{Speed}
use Rattle.terminals.specs.declared.figures.Figures.{Figures}

-- the figures of a call that hasn't begun
abbrev pub no_figures : Figures
no_figures = record {
  blocks = 0;
  requests = 0;
  resent = 0;
  retries = 0;
  failed_checks = 0;
  first_speed = None;
  last_speed = None;
  name = None;
  unread = None;
  pps = None;
  is_open = false;
  is_unanswered = false;
}

-- one more, unless the count is at its greatest value
abbrev pub more : ℕ → ℕ
more count = min (count + 1) (2 ^ 64 - 1)

-- ---- single signals

-- a signal that a station says again if nothing answers it
abbrev pub is_command : PlainSignal → Bool
is_command (dis caps) = true
is_command (dcs params) = true
is_command (pps ends page block last) = true
is_command rr = true
is_command signal = false

-- a frame of a page, which goes by the page's carrier: FCD and RCP (T.30, A.3)
abbrev pub is_of_page : PlainSignal → Bool
is_of_page (fcd number octets) = true
is_of_page rcp = true
is_of_page signal = false

-- the control field of CSI, or of TSI with either first bit: how a station names itself (T.30, 5.3.6.2)
abbrev pub is_name : ℕ → Bool
is_name octet = nat_eq octet 64 || (nat_eq octet 66 || nat_eq octet 67)

-- the control field of a signal that isn't ours
abbrev pub unread_of : PlainSignal → Option ℕ
unread_of (other octet) = Some octet
unread_of signal = None

-- all octets are spaces
abbrev pub is_blank : List ℕ → Bool
is_blank [] = true
is_blank (octet ∷ octets) = nat_eq octet 32 && is_blank octets

-- what the other station calls itself once a content with this control field, if it is no signal of ours, and this information field was heard
abbrev pub name_after : Option (List ℕ) → Option ℕ → List ℕ → Option (List ℕ)
name_after before None fields = before
name_after before (Some octet) fields =
    cond ((is_name octet && nat_eq (length fields) 20) && not (is_blank fields)) (Some fields) before

-- a PPS with this mark begins another block than the last PPS
abbrev pub begins_block : Option Pps → Mark → Bool
begins_block None mark = true
begins_block (Some last) mark = not (same_mark last.mark mark)

-- how many of the frames before a number the map of a PPR asks for
abbrev pub asked_below : List ℕ → ℕ → ℕ
asked_below map zero = 0
asked_below map (suc n) = asked_below map n + cond (bit_in LsbFirst map n) 1 0

-- how many of the frames of the last PPS's block; none before the first PPS
abbrev pub asked_of : Option Pps → List ℕ → ℕ
asked_of None map = 0
asked_of (Some last) map = asked_below map (last.last + 1)

-- ---- what each signal adds, whoever says it

-- a DCS of this speed
abbrev pub with_speed : Figures → Speed → Figures
with_speed f speed = record f { first_speed = Some (unwrap_or f.first_speed speed); last_speed = Some speed }

-- a PPS: one that has the mark of the last one asks about the same block
abbrev pub with_pps : Figures → Pps → Figures
with_pps f asked = record f { pps = Some asked; is_open = f.is_open || begins_block f.pps asked.mark }

-- a PPR with this map
abbrev pub with_request : Figures → List ℕ → Figures
with_request f map = record f { requests = more f.requests; resent = min (f.resent + asked_of f.pps map) (2 ^ 64 - 1) }

-- an MCF: the first one after its PPS confirms a block
abbrev pub with_confirmed : Figures → Figures
with_confirmed f = cond f.is_open (record f { blocks = more f.blocks; is_open = false }) f

-- what any signal adds
abbrev pub counted : Figures → PlainSignal → Figures
counted f (dis caps) = f
counted f (dcs params) = with_speed f params.speed
counted f cfr = f
counted f ftt = record f { failed_checks = more f.failed_checks }
counted f (fcd number octets) = f
counted f rcp = f
counted f (pps ends page block last) = with_pps f (record { ends = ends; mark = record { page = page; block = block }; last = last })
counted f (ppr map) = with_request f map
counted f mcf = with_confirmed f
counted f rnr = f
counted f rr = f
counted f dcn = f
counted f (other octet) = f

-- ---- who says it

-- the figures once a signal was heard with this information field, but for what it adds, whoever says it
abbrev pub hearing : Figures → List ℕ → PlainSignal → Figures
hearing f fields signal = record f { name = name_after f.name (unread_of signal) fields; unread = unread_of signal; is_unanswered = false }

-- the figures once a content that reads so was heard, with this information field: a frame of a page changes nothing
abbrev pub heard_as : Figures → List ℕ → Result PlainSignal SignalFault → Figures
heard_as f fields (Err fault) = record f { unread = None; is_unanswered = false }
heard_as f fields (Ok signal) = cond (is_of_page signal) f (counted (hearing f fields signal) signal)

-- the figures once a content was heard, by what it says
abbrev pub figures_heard : Figures → List ℕ → Result PlainSignal SignalFault → Figures
figures_heard f content said = heard_as f (drop 3 content) said

-- the figures once a signal was said, as far as it asks for an answer: a retry, if no frame was heard since the last command
abbrev pub commanding : Figures → PlainSignal → Figures
commanding f signal = cond (is_command signal)
    (record f { retries = cond f.is_unanswered (more f.retries) f.retries; is_unanswered = true }) f

-- the figures once a signal was said
abbrev pub said_as : Figures → PlainSignal → Figures
said_as f signal = counted (commanding f signal) signal

-- the figures once a content was said, by its signal
abbrev pub figures_said : Figures → List ℕ → PlainSignal → Figures
figures_said f content signal = said_as f signal

-- What is counted of calls over a bad line, and the lines and the table that it is printed in, by rows that were worked by hand.
use Rattle.std.specs.Prelude.{◌≡◌, ◌*◌, ◌∷◌, [], ℕ, Bool, List, None, Some, true, false, map, codes}
use Rattle.call_tallies.specs.LineTimes.{after_item, longer_wait, new_clock, octet_after, seconds_in, waited_in}
use Rattle.call_tallies.specs.ManyCalls.{all_ends, borne_in, few_row, frames_again, is_delivery, is_loss, is_mild, is_spoiling}
use Rattle.call_tallies.specs.ManyCalls.{mild_in, mild_row, one_line, place_of, row_of, sum_row, through_in}
use Rattle.call_tallies.specs.Seconds.{IsShare, counted_seconds, seconds_row}
use Rattle.call_tallies.specs.declared.line_time.Clock.{Clock}
use Rattle.call_tallies.specs.declared.line_time.Clocks.{Clocks}
use Rattle.call_tallies.specs.declared.many_calls.CallCounts.{CallCounts}
use Rattle.call_tallies.specs.declared.many_calls.OneCall.{OneCall}
use Rattle.line_sim.specs.declared.event.Event.TheVariants as event
use Rattle.line_sim.specs.declared.event.Form.TheVariants.{Check, Control, Page}
use Rattle.line_sim.specs.declared.event.Kind.TheVariants.{Mcf, Ppr}
use Rattle.stations.specs.declared.turn.End.{End}
use Rattle.stations.specs.declared.turn.End.TheVariants.{NoAnswer, NoReply, Normal}

-- ---- how long a call has the line

-- a clock at which an octet of a page's frame lasts so many ticks, after such a frame or after something else
abbrev clock_at : ℕ → Bool → Clock
clock_at octet page = record { octet = octet; page = page; ticks = 0 }

-- the clocks of the two directions, each with so many ticks
abbrev both_ran : ℕ → ℕ → Clocks
both_ran forth back = record { to_answerer = record (clock_at 0 false) { ticks = forth }; to_caller = record (clock_at 0 false) { ticks = back } }

-- The law: how long items last, in ticks of an eighteenth of a millisecond.
pub record ItemsLast : Type 0 where
  -- 20 octets at 300 bit/s: 75 ms, 1,000 ms of flags and 160 / 300 s, 1,608 ms and a third in all
  pub control : after_item Control 20 new_clock ≡ record { octet = 0; page = false; ticks = 28950 }
  -- a check of 2,700 octets: 75 ms and 1.5 s; at 14,400 bit/s an octet lasts 10 / 18 ms
  pub check : after_item Check 2700 new_clock ≡ record { octet = 10; page = false; ticks = 28350 }
  -- the first frame of a burst, of 264 octets at 14,400 bit/s: 75 ms, 200 ms of flags and 146 ms and two thirds
  pub first : after_item Page 264 (clock_at 10 false) ≡ record { octet = 10; page = true; ticks = 7590 }
  -- a frame after it has no flags of its own
  pub next : after_item Page 264 (clock_at 10 true) ≡ record { octet = 10; page = true; ticks = 2640 }

-- The law: how long an octet lasts after a training check of 1.5 s, by the octets that the check has at each speed: eight bits of it.
pub record OctetsLast : Type 0 where
  pub at_2400 : 2400 * octet_after Check 450 0 ≡ 8 * 18000
  pub at_4800 : 4800 * octet_after Check 900 0 ≡ 8 * 18000
  pub at_7200 : 7200 * octet_after Check 1350 0 ≡ 8 * 18000
  pub at_9600 : 9600 * octet_after Check 1800 0 ≡ 8 * 18000
  pub at_12000 : 12000 * octet_after Check 2250 0 ≡ 8 * 18000
  pub at_14400 : 14400 * octet_after Check 2700 0 ≡ 8 * 18000

-- The law: the waits that are over, in milliseconds, and whole seconds of a call.
pub record WaitsLast : Type 0 where
  pub t4 : waited_in event.CallerTimeout ≡ 3000
  pub caller_t5 : waited_in event.CallerT5 ≡ 60000
  pub t1 : waited_in event.AnswererT1 ≡ 35000
  pub t2 : waited_in event.AnswererT2 ≡ 7000
  pub others : map waited_in (event.DeliverToAnswerer ∷ event.DeliverToCaller ∷ event.LoseToAnswerer ∷ event.LoseToCaller ∷ event.Spoil
      ∷ event.Busy true ∷ event.Busy false ∷ []) ≡ 0 ∷ 0 ∷ 0 ∷ 0 ∷ 0 ∷ 0 ∷ 0 ∷ []
  -- a wait for a DIS is T1, 35 s, of which T4, 3 s, is counted
  pub no_dis : longer_wait (Some NoAnswer) ≡ 32000
  pub answered : longer_wait (Some Normal) ≡ 0
  pub goes_on : longer_wait None ≡ 0
  -- a second has 18,000 ticks, of both directions and the waits
  pub none : seconds_in (both_ran 10000 7999) 0 None ≡ 0
  pub one : seconds_in (both_ran 10000 8000) 0 (Some Normal) ≡ 1
  pub waited : seconds_in (both_ran 18000 0) 3000 (Some NoAnswer) ≡ 36

-- ---- what is counted

-- what was counted of a call that lost so many items and whose checks were spoiled so often
abbrev losing : ℕ → ℕ → CallCounts
losing lost spoiled = record { deliveries = 40; lost = lost; spoiled = spoiled; again = 7; waited = 0 }

-- call 3, which ended so for the caller, lost so many items and had the line for so many seconds
abbrev ending : End → ℕ → ℕ → OneCall
ending why lost seconds = record {
  number = 3;
  caller_end = Some why;
  confirmed = 1;
  answerer_end = Some Normal;
  pages = 2;
  counts = losing lost 1;
  seconds = seconds;
  few = true;
}

-- The law: which events are counted as what, and what a call with at most two losses is.
pub record EventsAreCounted : Type 0 where
  pub deliveries : map is_delivery (event.DeliverToAnswerer ∷ event.DeliverToCaller ∷ event.LoseToAnswerer ∷ event.LoseToCaller ∷ event.Spoil
      ∷ event.CallerTimeout ∷ []) ≡ true ∷ true ∷ false ∷ false ∷ false ∷ false ∷ []
  pub losses : map is_loss (event.DeliverToAnswerer ∷ event.DeliverToCaller ∷ event.LoseToAnswerer ∷ event.LoseToCaller ∷ event.Spoil
      ∷ event.CallerTimeout ∷ []) ≡ false ∷ false ∷ true ∷ true ∷ false ∷ false ∷ []
  pub spoilings : map is_spoiling (event.DeliverToAnswerer ∷ event.LoseToAnswerer ∷ event.Spoil ∷ []) ≡ false ∷ false ∷ true ∷ []
  pub again : frames_again (Some Ppr) 7 ≡ 7
  pub sent_once : frames_again (Some Mcf) 7 ≡ 0
  pub first : frames_again None 7 ≡ 0
  pub two_lost : is_mild (losing 2 0) ≡ true
  pub one_of_each : is_mild (losing 1 1) ≡ true
  pub three : is_mild (losing 2 1) ≡ false
  pub mild : mild_in (ending NoReply 1 9) ≡ 1
  pub borne : borne_in (ending Normal 1 9) ≡ 1
  pub not_borne : borne_in (ending NoReply 1 9) ≡ 0
  pub not_mild : borne_in (ending Normal 2 9) ≡ 0
  pub through : through_in (ending Normal 9 9) ≡ 1
  pub not_through : through_in (ending NoReply 9 9) ≡ 0
  -- each end is counted at its place in the table, and a call that goes on at none of them
  pub places : map (λ why. place_of (Some why)) all_ends ≡ 0 ∷ 1 ∷ 2 ∷ 3 ∷ 4 ∷ 5 ∷ 6 ∷ 7 ∷ 8 ∷ 9 ∷ []
  pub on : place_of None ≡ 10

-- The law: a share of calls has one number of seconds; the shares of three calls of 10, 20 and 30 s; and a call of more than a day counts as
-- one of a day.
pub record SharesMean : Type 0 where
  pub one : (share : ℕ) (calls : List OneCall) (a b : ℕ) → IsShare share calls a → IsShare share calls b → a ≡ b
  pub day : counted_seconds (ending Normal 0 90000) ≡ 86400
  pub less : counted_seconds (ending Normal 0 86399) ≡ 86399

-- ---- what is printed

-- The law: the lines of calls and of their table, by octets.
pub record LinesByOctets : Type 0 where
  pub call : one_line (ending NoReply 2 9)
      ≡ codes "call 3 caller no-reply confirmed 1 answerer normal pages 2 deliveries 40 lost 2 spoiled 1 again 7\n"
  pub ended : row_of Normal 5 ≡ codes "caller normal 5\n"
  pub none : row_of Normal 0 ≡ []
  -- calls 20
  pub sum : sum_row (codes "calls") 20 ≡ codes "calls 20\n"
  pub mild : mild_row 3 2 ≡ codes "at-most-two-bad 3 normal 2\n"
  pub few : few_row 4 1 ≡ codes "few-bad-tries 4 normal 1\n"
  pub seconds : seconds_row (record { median = 24; most = 31; greatest = 40 }) ≡ codes "seconds median 24 95% 31 greatest 40\n"

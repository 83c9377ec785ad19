-- How often the caller transmits what, counted in the transcript of a run.
use Rattle.std.specs.Prelude.{◌≡◌, ℕ, suc, ◌+◌, ◌*◌, ◌≤◌, Bool, true, false, cond, ◌&&◌, List, [], ◌∷◌, ◌++◌, length, Option, Some}
use Rattle.signals.specs.declared.params.Caps.{Caps}
use Rattle.signals.specs.declared.params.Wish.{Wish}
use Rattle.stations.specs.Layers.{Document}
use Rattle.stations.specs.Left.{is_block_turn}
use Rattle.stations.specs.declared.turn.Turn.{Turn}
use Rattle.stations.specs.declared.turn.Turn.TheVariants.{Silent, Training as SendTraining, Burst, Rr as SendRr, Dcn as SendDcn}
use Rattle.line_sim.specs.Line.{World, Outcome, run, new_world}
use Rattle.line_sim.specs.Entries.{entries}
use Rattle.line_sim.specs.declared.event.Entry.{Entry}
use Rattle.line_sim.specs.declared.event.Event.{Event}
use Rattle.line_sim.specs.declared.event.Event.TheVariants.{DeliverToCaller, CallerTimeout, CallerT5}
use Rattle.line_sim.specs.declared.event.Kind.{Kind}
use Rattle.line_sim.specs.declared.event.Kind.TheVariants.{Cfr, Mcf, Rnr}

-- how many entries pass a test
abbrev pub count : (Entry → Bool) → List Entry → ℕ
count test [] = 0
count test (entry ∷ rest) = cond (test entry) (suc (count test rest)) (count test rest)

-- the events whose turn is the caller's
abbrev pub is_callers : Event → Bool
is_callers DeliverToCaller = true
is_callers CallerTimeout = true
is_callers CallerT5 = true
is_callers _ = false

-- something comes to the caller
abbrev pub is_delivery_to_caller : Event → Bool
is_delivery_to_caller DeliverToCaller = true
is_delivery_to_caller _ = false

-- a turn DCS with a training check
abbrev pub is_training : Turn → Bool
is_training SendTraining = true
is_training _ = false

-- a turn DCN
abbrev pub is_dcn : Turn → Bool
is_dcn SendDcn = true
is_dcn _ = false

-- a turn RR
abbrev pub is_rr : Turn → Bool
is_rr SendRr = true
is_rr _ = false

-- a turn that sends marked frames of a block
abbrev pub is_burst : Turn → Bool
is_burst (Burst map) = true
is_burst _ = false

-- nothing is sent
abbrev pub is_silent : Turn → Bool
is_silent Silent = true
is_silent _ = false

-- the item is an MCF
abbrev pub is_mcf : Option Kind → Bool
is_mcf (Some Mcf) = true
is_mcf _ = false

-- the item is an RNR
abbrev pub is_rnr : Option Kind → Bool
is_rnr (Some Rnr) = true
is_rnr _ = false

-- a CFR or an MCF
abbrev pub is_cfr_or_mcf : Option Kind → Bool
is_cfr_or_mcf (Some Cfr) = true
is_cfr_or_mcf (Some Mcf) = true
is_cfr_or_mcf _ = false

-- the caller transmits DCS with a training check
abbrev pub shows_dcs : Entry → Bool
shows_dcs entry = is_callers entry.event && is_training entry.turn

-- the caller transmits DCN
abbrev pub shows_dcn : Entry → Bool
shows_dcn entry = is_callers entry.event && is_dcn entry.turn

-- the caller transmits RR
abbrev pub shows_rr : Entry → Bool
shows_rr entry = is_callers entry.event && is_rr entry.turn

-- the caller transmits a burst or a PPS alone
abbrev pub shows_block : Entry → Bool
shows_block entry = is_callers entry.event && is_block_turn entry.turn

-- an RNR comes to the caller, which answers RR
abbrev pub shows_rnr : Entry → Bool
shows_rnr entry = is_delivery_to_caller entry.event && (is_rnr entry.item && is_rr entry.turn)

-- a CFR or an MCF comes to the caller, which answers a burst: a block goes out for the first time
abbrev pub shows_first_burst : Entry → Bool
shows_first_burst entry = is_delivery_to_caller entry.event && (is_cfr_or_mcf entry.item && is_burst entry.turn)

-- an MCF comes to the caller, which answers in silence: so does one that ends a group
abbrev pub shows_group_end : Entry → Bool
shows_group_end entry = is_delivery_to_caller entry.event && (is_mcf entry.item && is_silent entry.turn)

-- the groups that are through; after each of them the caller waits for a DIS again
abbrev pub groups_through : World → ℕ
groups_through w = length w.caller.finished

-- the groups that the caller has begun
abbrev pub groups_begun : World → ℕ
groups_begun w = length w.caller.finished + length w.caller.present

-- how often the caller transmits what, counted in the transcript of a run in which it has begun `groups` groups
pub record IsCounted (groups : ℕ) (transcript : List Entry) : Type 0 where
  -- at most 18 DCS for each group begun
  pub dcs : count shows_dcs transcript ≤ 18 * groups
  -- at most 18 DCS before the first MCF that is answered in silence, and after each
  pub dcs_told : count shows_dcs transcript ≤ 18 * suc (count shows_group_end transcript)
  -- any part of it has as few: between one entry into the wait for a DIS and the next the caller transmits at most 18 DCS
  pub dcs_part :
      (before part after : List Entry) → transcript ≡ before ++ part ++ after →
      count shows_dcs part ≤ 18 * suc (count shows_group_end part)
  -- at most one DCN
  pub dcn : count shows_dcn transcript ≤ 1
  -- at most 3 RR for each RNR that is answered so
  pub rr : count shows_rr transcript ≤ 3 * count shows_rnr transcript
  -- at most 12 PPS and bursts for each first burst
  pub blocks : count shows_block transcript ≤ 12 * count shows_first_burst transcript

-- The law: the counts of `IsCounted` hold of the transcript of every run.
abbrev pub RunsAreCounted : Type 0
RunsAreCounted =
    (document : Document) (wish : Wish) (caps : Caps) (steps : List (Event × Outcome)) →
    IsCounted (groups_begun (run steps (new_world document wish caps))) (entries steps (new_world document wish caps))

-- The law: between one entry into the wait for a DIS and the next the caller transmits at most 18 DCS: any steps in which no group gets
-- through have no more.
abbrev pub DcsBetweenGroups : Type 0
DcsBetweenGroups =
    (document : Document) (wish : Wish) (caps : Caps) (before steps : List (Event × Outcome)) →
    let w = run before (new_world document wish caps) in
    groups_through (run steps w) ≡ groups_through w → count shows_dcs (entries steps w) ≤ 18

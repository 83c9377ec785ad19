-- What an answerer's turn puts on the line, by the frame.
use Rattle.std.specs.Prelude.{◌≡◌, ◌≤◌, ◌↔◌, Contains, length}
use Rattle.signals.specs.Signals.{PlainSignal, dis, cfr, ftt, ppr, mcf, rnr, dcn}
use Rattle.stations.specs.AnswererStep.{Answerer, answerer_items}
use Rattle.stations.specs.Inputs.{PlainItem, framed, checked}
use Rattle.stations.specs.declared.turn.Turn.{Turn}
use Rattle.stations.specs.declared.turn.Turn.TheVariants.{Dis as SendDis, Cfr as SendCfr, Ftt as SendFtt, Mcf as SendMcf}
use Rattle.stations.specs.declared.turn.Turn.TheVariants.{Ppr as SendPpr, Rnr as SendRnr, Dcn as SendDcn}

-- the one turn that sends a signal: a DIS says the answerer's own capabilities, a PPR the turn's own map; no other signal is an answerer's
abbrev pub IsSentBy : Answerer → PlainSignal → Turn → Type 0
IsSentBy s (dis caps) turn = (turn ≡ SendDis) × (caps ≡ s.caps)
IsSentBy s cfr turn = turn ≡ SendCfr
IsSentBy s ftt turn = turn ≡ SendFtt
IsSentBy s mcf turn = turn ≡ SendMcf
IsSentBy s (ppr map) turn = turn ≡ SendPpr map
IsSentBy s rnr turn = turn ≡ SendRnr
IsSentBy s dcn turn = turn ≡ SendDcn
IsSentBy s _ turn = ⊥

-- the one turn that sends an item: that of its signal; an answerer sends no training check
abbrev pub IsItemOf : Answerer → PlainItem → Turn → Type 0
IsItemOf s (framed signal) turn = IsSentBy s signal turn
IsItemOf s (checked octets) turn = ⊥

-- a turn has one item at most, and an item is in it exactly if the turn is the one that sends it
pub record AnswererShows (s : Answerer) (turn : Turn) : Type 0 where
  pub one : length (answerer_items s turn) ≤ 1
  pub shown : (item : PlainItem) → Contains (answerer_items s turn) item ↔ IsItemOf s item turn

-- law: each turn of any answerer has one item at most, and each frame is in the one turn that sends it: a DIS with the answerer's own
-- capabilities, a PPR with the turn's own map; no other frame and no training check is sent
abbrev pub AnswerersShow : Type 0
AnswerersShow = (s : Answerer) (turn : Turn) → AnswererShows s turn

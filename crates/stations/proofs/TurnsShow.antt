-- What an answerer's turn puts on the line.
use Rattle.std.proofs.Common.{◌≡◌, ◌≤◌, ◌<◌, ℕ, zero, suc, List, [], ◌∷◌, Contains, length, refl, sym, subst, arith}
use Rattle.std.specs.Prelude.{slice_index_or}
use Rattle.signals.specs.Signals.{dis, cfr, ftt, ppr, mcf, rnr, dcn}
use Rattle.stations.specs.AnswererStep.{Answerer, answerer_items}
use Rattle.stations.specs.Inputs.{PlainItem, framed, checked}
use Rattle.stations.specs.TurnsShow.{IsItemOf, AnswerersShow}
use Rattle.stations.specs.declared.turn.Turn.{Turn}
use Rattle.stations.specs.declared.turn.Turn.TheVariants.{Dis as SendDis, Cfr as SendCfr, Ftt as SendFtt, Mcf as SendMcf}
use Rattle.stations.specs.declared.turn.Turn.TheVariants.{Ppr as SendPpr, Rnr as SendRnr, Dcn as SendDcn}

one_place : (x y : PlainItem) (k : ℕ) → k < 1 → slice_index_or (x ∷ []) k y ≡ y → x ≡ y
one_place x y zero l e = e
one_place x y (suc k) l e = absurd (omega arith)

-- what a list of one item contains is the item
only : (x y : PlainItem) → Contains (x ∷ []) y → x ≡ y
only x y n = one_place x y n.0 n.1 n.2

abbrev no_items : List PlainItem
no_items = []

none_there : (y : PlainItem) → Contains no_items y → ⊥
none_there y n = let h : n.0 < 0 = n.1 in omega (arith, h)

-- an item of a turn is sent by it
sent : (s : Answerer) (turn : Turn) (item : PlainItem) → Contains (answerer_items s turn) item → IsItemOf s item turn
sent s SendDis item n = subst (λ i. IsItemOf s i SendDis) (only (framed (dis s.caps)) item n) (refl, refl)
sent s SendCfr item n = subst (λ i. IsItemOf s i SendCfr) (only (framed cfr) item n) refl
sent s SendFtt item n = subst (λ i. IsItemOf s i SendFtt) (only (framed ftt) item n) refl
sent s SendMcf item n = subst (λ i. IsItemOf s i SendMcf) (only (framed mcf) item n) refl
sent s (SendPpr map) item n = subst (λ i. IsItemOf s i (SendPpr map)) (only (framed (ppr map)) item n) refl
sent s SendRnr item n = subst (λ i. IsItemOf s i SendRnr) (only (framed rnr) item n) refl
sent s SendDcn item n = subst (λ i. IsItemOf s i SendDcn) (only (framed dcn) item n) refl
sent s _ item n = absurd (none_there item n)

-- where a turn is another, its items have the item of that one
shows : (s : Answerer) (turn other : Turn) (item : PlainItem) → turn ≡ other → answerer_items s other ≡ item ∷ [] →
    Contains (answerer_items s turn) item
shows s turn other item e is = subst (λ t. Contains (answerer_items s t) item) (sym e)
    (subst (λ items. Contains items item) (sym is) (0, omega arith, refl))

there : (s : Answerer) (turn : Turn) (item : PlainItem) → IsItemOf s item turn → Contains (answerer_items s turn) item
there s turn (framed (dis caps)) h = shows s turn SendDis (framed (dis caps)) h.0 (rw h.1 refl)
there s turn (framed cfr) h = shows s turn SendCfr (framed cfr) h refl
there s turn (framed ftt) h = shows s turn SendFtt (framed ftt) h refl
there s turn (framed mcf) h = shows s turn SendMcf (framed mcf) h refl
there s turn (framed (ppr map)) h = shows s turn (SendPpr map) (framed (ppr map)) h refl
there s turn (framed rnr) h = shows s turn SendRnr (framed rnr) h refl
there s turn (framed dcn) h = shows s turn SendDcn (framed dcn) h refl
there s turn (framed _) h = absurd h
there s turn (checked octets) h = absurd h

at_most_one : (s : Answerer) (turn : Turn) → length (answerer_items s turn) ≤ 1
at_most_one s SendDis = omega arith
at_most_one s SendCfr = omega arith
at_most_one s SendFtt = omega arith
at_most_one s SendMcf = omega arith
at_most_one s (SendPpr map) = omega arith
at_most_one s SendRnr = omega arith
at_most_one s SendDcn = omega arith
at_most_one s _ = omega arith

pub answerers_show : AnswerersShow
answerers_show s turn =
    record { one = at_most_one s turn; shown = λ item. (sent s turn item, there s turn item) }

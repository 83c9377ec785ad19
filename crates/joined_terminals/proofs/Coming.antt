-- What is sent comes.
use Rattle.std.proofs.Common.{◌≡◌, ◌≤◌, ◌++◌, ◌∷◌, ◌∙◌, inl, inr, ℕ, suc, zero, List, [], map, length, ap, refl, sym, subst, arith}
use Rattle.std.specs.Prelude.{◌≢◌, drop}
use Rattle.hdlc.specs.DeframerState.{DeframerState, IsAfter}
use Rattle.hdlc.specs.Flags as Flags
use Rattle.raster.specs.Packed as Packed
use Rattle.signals.specs.Signals.{PlainSignal}
use Rattle.signals.specs.declared.params.Speed.{Speed}
use Rattle.signals.specs.declared.signal.Side.TheVariants.{Caller as CallerSide, Answerer as AnswererSide}
use Rattle.stations.specs.AnswererStep.{Answerer, answerer_items}
use Rattle.stations.specs.Bursts.{PlainBurst, TurnsCut, bursts_of}
use Rattle.stations.specs.CallerFields.{CallerFields, Represents}
use Rattle.stations.specs.CallerStep.{Caller}
use Rattle.stations.specs.Inputs.{PlainItem, framed}
use Rattle.stations.specs.Laws.{Each}
use Rattle.stations.specs.declared.carrier.Carrier.{Carrier}
use Rattle.stations.specs.declared.carrier.Carrier.TheVariants.{Training, V21}
use Rattle.stations.specs.declared.turn.Turn.{Turn}
use Rattle.terminals.specs.Hearing.{CutsChangeNothing, HasHeard, PlainInput, contents, heard_of, said}
use Rattle.terminals.specs.Sending.{IsSent}
use Rattle.terminals.specs.Stations.{AnswererLends, CallerLends}
use Rattle.terminals.specs.Writable.{AnswerersSendWhole, CallersSendWhole, HasWholeMap}
use Rattle.terminals.specs.declared.sending.SentBurst.{SentBurst}
use Rattle.joined_terminals.specs.Coming.{CutPiecesCome, SentBurstsCome}
use Rattle.joined_terminals.specs.Happening.{AreLeft}
use Rattle.joined_terminals.specs.Happening.AreLeft.{none, kept, lost}
use Rattle.joined_terminals.specs.Octets.{BurstsAreHeard, BurstsArePieces, IsFramed, IsPiece, IsPieceOrCheck, NoneOpen, PieceComes, said_of}
use Rattle.joined_terminals.specs.Steps.{IsOneAtMost}

-- what holds of each holds of the first after some
pub at_drop : {A : Type 0} (P : A → Type 0) (n : ℕ) (xs : List A) (x : A) (rest : List A) → Each P xs → drop n xs ≡ x ∷ rest → P x
at_drop P zero [] x rest h e = absurd (cc)
at_drop P zero (y ∷ ys) x rest h e = subst P (cc) h.0
at_drop P (suc n) [] x rest h e = absurd (cc)
at_drop P (suc n) (y ∷ ys) x rest h e = at_drop P n ys x rest h.1 e

all_left : (items : List PlainItem) → AreLeft items items
all_left [] = none
all_left (item ∷ items) = kept (all_left items)

said_all : (signals : List PlainSignal) → said_of (map framed signals) ≡ map said signals
said_all [] = refl
said_all (signal ∷ signals) = ap (λ l. said signal ∷ l) (said_all signals)

all_framed : (signals : List PlainSignal) → Each IsFramed (map framed signals)
all_framed [] = tt
all_framed (signal ∷ signals) = (tt, all_framed signals)

-- octets bring the frames of the first items
piece : (items others : List PlainItem) (heard : List PlainInput) (signals : List PlainSignal) → IsPiece signals →
    items ≡ map framed signals → heard ≡ said_of items →
    (comes : PieceComes (items ++ others) heard others) × (comes.signals ≡ signals)
piece items others heard signals is are h = (
  record {
    signals = signals;
    piece = is;
    front = items;
    first = refl;
    left = subst (λ l. AreLeft (map framed signals) l) (sym are) (all_left (map framed signals));
    are = h ∙ (ap said_of are ∙ said_all signals);
  },
  refl,
)

no_training : (carrier : Carrier) → carrier ≡ V21 → (speed : Speed) → carrier ≢ Training speed
no_training carrier e speed f = absurd (cc)

one_only : (signal : PlainSignal) → IsOneAtMost (signal ∷ [])
one_only signal first next more e = absurd (cc)

starts : NoneOpen []
unfolding contents Packed.bits_in Flags.gaps Flags.flags
starts = refl

module _ (heard : BurstsAreHeard) (pieces : BurstsArePieces) where
  caller_comes : CallersSendWhole → (t : Caller) → (v : CallerFields) (turn : Turn) (bursts later : List PlainBurst) (taken : ℕ)
      (burst : PlainBurst) (sent : SentBurst) (before : List ℕ) (others : List PlainItem) → Represents v t → CallerLends v turn bursts →
      drop taken bursts ≡ burst ∷ later → IsSent CallerSide burst later sent → ((speed : Speed) → burst.carrier ≢ Training speed) →
      Each IsFramed burst.items → NoneOpen before →
      PieceComes (burst.items ++ others) (heard_of before sent.octets.items) others × NoneOpen (before ++ sent.octets.items)
  caller_comes whole t v turn bursts later taken burst sent before others may lent next is not frames quiet =
      let h = heard CallerSide burst later sent is before not frames (whole v t turn bursts may lent taken burst later sent next is) quiet in (
        at (at_drop IsPieceOrCheck taken bursts burst later
            (subst (λ l. Each IsPieceOrCheck l) (sym (lent t may)) (pieces.caller t turn)) next) h.0,
        h.1,
      )
    where
      at : IsPieceOrCheck burst → heard_of before sent.octets.items ≡ said_of burst.items →
          PieceComes (burst.items ++ others) (heard_of before sent.octets.items) others
      at (inl signals) e = (piece burst.items others (heard_of before sent.octets.items) signals.0 signals.2 signals.1 e).0
      at (inr octets) e = absurd (subst (λ l. Each IsFramed l) octets.1 frames).0

  answerer_comes : AnswerersSendWhole → TurnsCut → (s : Answerer) (turn : Turn) (bursts later : List PlainBurst) (taken : ℕ)
      (burst : PlainBurst) (sent : SentBurst) (before : List ℕ) (others : List PlainItem) → HasWholeMap turn → AnswererLends s turn bursts →
      drop taken bursts ≡ burst ∷ later → IsSent AnswererSide burst later sent → NoneOpen before →
      (comes : PieceComes (burst.items ++ others) (heard_of before sent.octets.items) others) × IsOneAtMost comes.signals ×
      (burst.items ≡ map framed comes.signals) × NoneOpen (before ++ sent.octets.items)
  answerer_comes whole cut s turn bursts later taken burst sent before others map_is lent next is quiet =
      let all : List PlainBurst = bursts_of s.params.speed (answerer_items s turn) in
      let next_all : drop taken all ≡ burst ∷ later = ap (λ l. drop taken l) (sym lent) ∙ next in
      let one = at_drop (λ (b : PlainBurst). (signal : PlainSignal) × (b.items ≡ framed signal ∷ [])) taken all burst later
      (pieces.answerer s turn) next_all in
      let carrier : burst.carrier ≡ V21 = at_drop (λ (b : PlainBurst). b.carrier ≡ V21) taken all burst later (cut.answers s turn) next_all in
      let h = heard AnswererSide burst later sent is before (no_training burst.carrier carrier)
      (subst (λ l. Each IsFramed l) (sym one.1) (tt, tt)) (whole s turn bursts map_is lent taken burst later sent next is) quiet in
      let p = piece burst.items others (heard_of before sent.octets.items) (one.0 ∷ []) tt one.1 h.0 in
      (p.0, subst IsOneAtMost (sym p.1) (one_only one.0), one.1 ∙ ap (λ l. map framed l) (sym p.1), h.1)

pub sent_bursts_come : BurstsAreHeard → BurstsArePieces → CallersSendWhole → AnswerersSendWhole → TurnsCut → SentBurstsCome
sent_bursts_come heard pieces callers answerers cut = record {
  begins = starts;
  caller = λ v t turn bursts later taken burst sent before others.
      caller_comes heard pieces callers t v turn bursts later taken burst sent before others;
  answerer = λ s turn bursts later taken burst sent before others.
      answerer_comes heard pieces answerers cut s turn bursts later taken burst sent before others;
}

-- ---- a burst that is cut

none_left : (items : List PlainItem) → AreLeft [] items
none_left [] = none
none_left (item ∷ items) = lost (none_left items)

left_of_left : {some more all : List PlainItem} → AreLeft some more → AreLeft more all → AreLeft some all
left_of_left {some} {more} {all} h none = h
left_of_left {some} {more} {all} h (lost k) = lost (left_of_left h k)
left_of_left {some} {more} {all} (kept h) (kept k) = kept (left_of_left h k)
left_of_left {some} {more} {all} (lost h) (kept k) = lost (left_of_left h k)

-- the first of some signals
record IsFront (heard : List PlainInput) (signals : List PlainSignal) : Type 0 where
  pub some : List PlainSignal
  pub are : heard ≡ map said some
  pub left : AreLeft (map framed some) (map framed signals)
  pub piece : IsPiece signals → IsPiece some

left_short : {some all : List PlainItem} → AreLeft some all → length some ≤ length all
left_short {some} {all} none = omega arith
left_short {some} {all} (kept h) = omega (arith, left_short h)
left_short {some} {all} (lost h) = omega (arith, left_short h)

nothing_left : (item : PlainItem) (some : List PlainItem) → AreLeft (item ∷ some) [] → ⊥
nothing_left item some h = omega (arith, left_short h)

front_more : (signal : PlainSignal) (heard : List PlainInput) (signals : List PlainSignal) → IsFront heard signals →
    IsFront (said signal ∷ heard) (signal ∷ signals)
front_more signal heard signals f = record {
  some = signal ∷ f.some;
  are = ap (λ l. said signal ∷ l) f.are;
  left = kept f.left;
  piece = at f.some signals f.left f.piece;
}
  where
    at : (some signals : List PlainSignal) → AreLeft (map framed some) (map framed signals) → (IsPiece signals → IsPiece some) →
        IsPiece (signal ∷ signals) → IsPiece (signal ∷ some)
    at [] signals l p is = tt
    at (x ∷ some) [] l p is = absurd (nothing_left (framed x) (map framed some) l)
    at (x ∷ some) (y ∷ signals) l p is = (is.0, p is.1)

front_of : (front rest : List PlainInput) (signals : List PlainSignal) → front ++ rest ≡ map said signals → IsFront front signals
front_of [] rest signals e = record { some = []; are = refl; left = none_left (map framed signals); piece = λ is. tt }
front_of (x ∷ front) rest [] e = absurd (cc)
front_of (x ∷ front) rest (signal ∷ signals) e =
    let same : x ≡ said signal = cc in
    let more : front ++ rest ≡ map said signals = cc in
    subst (λ i. IsFront (i ∷ front) (signal ∷ signals)) (sym same) (front_more signal front signals (front_of front rest signals more))

pub cut_pieces_come : CutsChangeNothing → CutPiecesCome
cut_pieces_come cuts items others before front rest comes =
    let f = front_of (heard_of before front) (heard_of (before ++ front) rest) comes.signals (sym (cuts before front rest) ∙ comes.are) in
    record {
      signals = f.some;
      piece = f.piece comes.piece;
      front = comes.front;
      first = comes.first;
      left = left_of_left f.left comes.left;
      are = f.are;
    }

-- a new terminal has heard nothing
pub silent_so : (framing : DeframerState) → IsAfter framing [] 0 → HasHeard framing []
unfolding contents Packed.bits_in Flags.gaps Flags.flags
silent_so framing h = h

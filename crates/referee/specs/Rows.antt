-- Laws of the rules, by calls worked by hand: a whole call in which no rule is broken, and for each rule a frame that breaks it first.
use Rattle.std.specs.Prelude.{ℕ, ◌≡◌, true, false, List, [], ◌∷◌, Some, None, map}
use Rattle.std.specs.List.{range_with_len}
use Rattle.raster.specs.declared.coding.Coding.TheVariants.{T6}
use Rattle.signals.specs.Signals.{PlainSignal, dis, dcs, cfr, ftt, fcd, rcp, pps, ppr, mcf, rnr, rr, dcn, other}
use Rattle.signals.specs.declared.params.Caps.{Caps}
use Rattle.signals.specs.declared.params.Modems.TheVariants.{V27, V17}
use Rattle.signals.specs.declared.params.PageWidth.TheVariants.{W1728}
use Rattle.signals.specs.declared.params.Params.{Params}
use Rattle.signals.specs.declared.params.Speed.TheVariants.{V17At14400}
use Rattle.signals.specs.declared.signal.PageEnd.TheVariants.{Mps, Eom, Eop}
use Rattle.signals.specs.declared.signal.Side.TheVariants.{Caller, Answerer}
use Rattle.referee.specs.History.{PlainSaid}
use Rattle.referee.specs.Rules.{broken, is_clean}
use Rattle.referee.specs.declared.rule.Rule.TheVariants.{WrongSide, Ended, NotOffered, NotTrained, NoBurst, BadLength, OutOfOrder, NotAskedFor}
use Rattle.referee.specs.declared.rule.Rule.TheVariants.{NewData, RcpCount, Uncounted, WrongCount, NotSentAgain, NotRepeated, WrongCounts}
use Rattle.referee.specs.declared.rule.Rule.TheVariants.{NoCommand, NotWhole, NotCome, AsksAgain, AsksNothing, BadMap, NotBusy}

-- the caller says it
abbrev pub calls : PlainSignal → PlainSaid
calls signal = record { by = Caller; signal = signal }

-- the answerer says it
abbrev pub answers : PlainSignal → PlainSaid
answers signal = record { by = Answerer; signal = signal }

-- what an answerer with V.17 offers
abbrev pub fast : Caps
fast = record { receiver = true; modems = V17; fine = true; widest = W1728; t6 = true; ecm = true }

-- what an answerer with V.27 ter alone offers
abbrev pub slow : Caps
slow = record { receiver = true; modems = V27; fine = true; widest = W1728; t6 = true; ecm = true }

-- standard pages by V.17 at 14,400 bit/s, in frames of 256 octets
abbrev pub wide : Params
wide = record { speed = V17At14400; fine = false; width = W1728; coding = T6; small = false }

-- the same in frames of 64 octets
abbrev pub narrow : Params
narrow = record { speed = V17At14400; fine = false; width = W1728; coding = T6; small = true }

-- a call up to its first CFR, the latest frame first
abbrev pub trained : List PlainSaid
trained = answers cfr ∷ calls (dcs wide) ∷ answers (dis fast) ∷ []

-- the end of a burst
abbrev pub ended_burst : List PlainSaid → List PlainSaid
ended_burst before = calls rcp ∷ calls rcp ∷ calls rcp ∷ before

-- the frames 0 and 1 of a block, and their burst's end
abbrev pub two_frames : List PlainSaid
two_frames = ended_burst (calls (fcd 1 (0x22 ∷ [])) ∷ calls (fcd 0 (0x11 ∷ [])) ∷ trained)

-- the same, and the PPS that counts both
abbrev pub whole_block : List PlainSaid
whole_block = calls (pps Eop 0 0 1) ∷ two_frames

-- a PPR whose first octet is this; all numbers from 8 on are beyond the block
abbrev pub asks : ℕ → PlainSignal
asks first = ppr (first ∷ map (λ place. 0xFF) (range_with_len 0 31))

-- the frame 1 was lost: PPR asks for it
abbrev pub lacks_one : List PlainSaid
lacks_one = answers (asks 0xFE) ∷ whole_block

-- and it is sent again
abbrev pub sent_again : List PlainSaid
sent_again = calls (pps Eop 0 0 1) ∷ ended_burst (calls (fcd 1 (0x22 ∷ [])) ∷ lacks_one)

-- The law: no rule is broken in a call with a lost frame, a busy answerer, a repeated PPS and a repeated MCF, nor in one of two pages.
pub record NoneIsBroken : Type 0 where
  pub resent : is_clean (calls dcn ∷ answers mcf ∷ sent_again) ≡ true
  pub busy : is_clean (calls dcn ∷ answers mcf ∷ calls rr ∷ answers rnr ∷ whole_block) ≡ true
  pub repeated : is_clean (answers mcf ∷ calls (pps Eop 0 0 1) ∷ answers mcf ∷ whole_block) ≡ true
  pub two_pages : is_clean (answers mcf ∷ calls (pps Eop 1 0 0) ∷ ended_burst (calls (fcd 0 (0x33 ∷ [])) ∷ answers mcf ∷
      calls (pps Mps 0 0 1) ∷ two_frames)) ≡ true
  pub two_groups : is_clean (calls (dcs wide) ∷ answers (dis fast) ∷ answers mcf ∷ calls (pps Eom 0 0 1) ∷ two_frames) ≡ true

-- The law: what the stations say before a page, and after its end, breaks these.
pub record BrokenBeforePages : Type 0 where
  pub wrong_side : broken (calls mcf) [] ≡ Some WrongSide
  pub wrong_answer : broken (calls (other 0x1C)) [] ≡ Some WrongSide
  pub ended : broken (calls (dcs wide)) (calls dcn ∷ trained) ≡ Some Ended
  pub other_ended : broken (answers mcf) (calls dcn ∷ whole_block) ≡ None
  pub not_offered : broken (calls (dcs wide)) (answers (dis slow) ∷ []) ≡ Some NotOffered
  pub offered_once : broken (calls (dcs wide)) (answers (dis slow) ∷ answers (dis fast) ∷ []) ≡ None
  pub not_trained : broken (answers cfr) (answers (dis fast) ∷ []) ≡ Some NotTrained
  pub trained_again : broken (answers ftt) (answers cfr ∷ calls (dcs wide) ∷ answers (dis fast) ∷ []) ≡ None

-- The law: what a caller says of a block breaks these.
pub record BrokenByCallers : Type 0 where
  pub no_burst : broken (calls (fcd 0 (0x11 ∷ []))) (calls (dcs wide) ∷ answers (dis fast) ∷ []) ≡ Some NoBurst
  pub empty : broken (calls (fcd 0 [])) trained ≡ Some BadLength
  pub long : broken (calls (fcd 0 (map (λ place. 0) (range_with_len 0 65)))) (answers cfr ∷ calls (dcs narrow) ∷ answers (dis fast) ∷ []) ≡
      Some BadLength
  pub not_long : broken (calls (fcd 0 (map (λ place. 0) (range_with_len 0 65)))) trained ≡ None
  pub out_of_order : broken (calls (fcd 0 (0x11 ∷ []))) (calls (fcd 1 (0x22 ∷ [])) ∷ trained) ≡ Some OutOfOrder
  pub not_asked_for : broken (calls (fcd 0 (0x11 ∷ []))) lacks_one ≡ Some NotAskedFor
  pub new_data : broken (calls (fcd 1 (0x33 ∷ []))) lacks_one ≡ Some NewData
  pub two_rcps : broken (calls (pps Eop 0 0 0)) (calls rcp ∷ calls rcp ∷ calls (fcd 0 (0x11 ∷ [])) ∷ trained) ≡ Some RcpCount
  pub four_rcps : broken (calls rcp) two_frames ≡ Some RcpCount
  pub uncounted : broken (calls (pps Eop 0 0 2)) two_frames ≡ Some Uncounted
  pub wrong_count : broken (calls (pps Eop 0 0 0)) two_frames ≡ Some WrongCount
  pub not_sent_again : broken (calls (pps Eop 0 0 1)) (ended_burst (calls (fcd 1 (0x22 ∷ [])) ∷ answers (asks 0xFF) ∷ whole_block)) ≡
      Some NotSentAgain
  pub not_repeated : broken (calls (pps Mps 0 0 1)) whole_block ≡ Some NotRepeated
  pub wrong_counts : broken (calls (pps Eop 1 0 1)) two_frames ≡ Some WrongCounts
  pub not_busy : broken (calls rr) whole_block ≡ Some NotBusy
  pub not_busy_now : broken (calls rr) (calls (fcd 0 (0x33 ∷ [])) ∷ answers mcf ∷ calls rr ∷ answers rnr ∷ whole_block) ≡ Some NotBusy

-- The law: what an answerer says to a block breaks these.
pub record BrokenByAnswerers : Type 0 where
  pub no_command : broken (answers mcf) two_frames ≡ Some NoCommand
  pub not_whole : broken (answers mcf) (calls (pps Eop 0 0 1) ∷ lacks_one) ≡ Some NotWhole
  pub whole : broken (answers mcf) sent_again ≡ None
  pub not_come : broken (answers (asks 0xFC)) (calls (pps Eop 0 0 1) ∷ lacks_one) ≡ Some NotCome
  pub asks_again : broken (answers (asks 0xFF)) sent_again ≡ Some AsksAgain
  pub asks_nothing : broken (answers (asks 0xFC)) whole_block ≡ Some AsksNothing
  pub bad_map : broken (answers (asks 0x02)) whole_block ≡ Some BadMap

-- Items that are sent one after the other.
use Rattle.std.proofs.Common.{◌≡◌, ℕ, zero, suc, ◌+◌, ◌≤◌, List, [], ◌∷◌, ◌++◌, take, drop, min, refl, ap, sym, ◌∙◌, arith, append_assoc}
use Rattle.stations.specs.Inputs.{PlainItem, framed, checked}
use Rattle.stations.specs.Lending.{TellsLast, plain_item}
use Rattle.stations.specs.declared.lending.Item.{Item}
use Rattle.stations.specs.declared.lending.Item.TheVariants.{Frame, Training as Check}
use Rattle.stations.specs.Laws.{Each}
use Rattle.line_sim.specs.Entries.{count_fcds}
use Rattle.line_sim.specs.Headline.{CanBeWritten}
use Rattle.line_sim.specs.Octets.{AreFinal, TellsFinal}

-- of all items so many were made, and those that are left can be written and are told to be final where they are
pub record HasSent (start now all left : List PlainItem) : Type 0 where
  pub made : ℕ
  pub now_is : now ≡ start ++ take made all
  pub left_is : left ≡ drop made all
  pub can : Each CanBeWritten left
  pub final : AreFinal left

take_more : (k : ℕ) (all left : List PlainItem) (item : PlainItem) → item ∷ left ≡ drop k all →
    (take (suc k) all ≡ take k all ++ item ∷ []) × (left ≡ drop (suc k) all)
take_more zero [] left item e = absurd (cc)
take_more zero (x ∷ all) left item e = (cc, cc)
take_more (suc k) [] left item e = absurd (cc)
take_more (suc k) (x ∷ all) left item e =
    let h = take_more k all left item e in
    (ap (λ ys. x ∷ ys) h.0, h.1)

final_after : (item : PlainItem) (left : List PlainItem) → AreFinal (item ∷ left) → AreFinal left
final_after (framed signal) left h = h.1
final_after (checked octets) left h = h

-- the station's list tells of the first item that it is final where it is
pub first_final : (item : Item) (left : List PlainItem) → AreFinal (plain_item item ∷ left) → TellsLast item left → TellsFinal item
first_final (Frame signal last) left h tells = tells ∙ h.0
first_final (Check count) left h tells = tt

pub one_sent : (start now all left : List PlainItem) (item : PlainItem) → HasSent start now all (item ∷ left) →
    HasSent start (now ++ item ∷ []) all left
one_sent start now all left item h =
    let more = take_more h.made all left item h.left_is in
    record {
      made = suc h.made;
      now_is = ap (λ l. l ++ item ∷ []) h.now_is ∙ (append_assoc start (take h.made all) (item ∷ []) ∙ ap (λ l. start ++ l) (sym more.0));
      left_is = more.1;
      can = h.can.1;
      final = final_after item left h.final;
    }

-- nothing is left: all were made
all_made : (k : ℕ) (all : List PlainItem) → [] ≡ drop k all → take k all ≡ all
all_made zero all e = e
all_made (suc k) [] e = refl
all_made (suc k) (x ∷ all) e = ap (λ ys. x ∷ ys) (all_made k all e)

pub all_sent : (start now all : List PlainItem) → HasSent start now all [] → now ≡ start ++ all
all_sent start now all h = h.now_is ∙ ap (λ l. start ++ l) (all_made h.made all h.left_is)

pub cut : (start now all left : List PlainItem) → HasSent start now all left → (made : ℕ) × (now ≡ start ++ take made all)
cut start now all left h = (h.made, h.now_is)

-- the count is whole where no item is left
pub all_counted : (count all : ℕ) (left : List PlainItem) → left ≡ [] → count ≤ 65535 →
    min 65535 (count + count_fcds left) ≡ min 65535 all → count ≡ min 65535 all
all_counted count all [] none few e = let h : count ≡ min 65535 (count + 0) = omega arith in h ∙ e
all_counted count all (item ∷ left) none few e = absurd (cc)

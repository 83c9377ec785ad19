-- The texts of rows and rounds, one after the other.
use Rattle.std.proofs.Common.{◌≡◌, ℕ, ◌+◌, ◌<◌, List, [], ◌++◌, drop, get_or, length, Option, refl, ap, sym, subst, ◌∙◌}
use Rattle.std.proofs.Common.{append_assoc, arith}
use Rattle.std.proofs.lemmas.List.{at_drop_more}
use Rattle.std.proofs.KnownBytes.{Appends-nil, Appends-trans}
use Rattle.std.specs.Io.KnownBytes.{Appends}
use Rattle.call_pictures.specs.Ladders.{Drawn, entries_of_rounds}
use Rattle.call_pictures.specs.Pictures.{IsPicture, items_in, picture_text, round_height, round_items, round_text, rounds_text, row_text}
use Rattle.call_pictures.specs.Pictures.{rows_text}
use Rattle.call_pictures.specs.declared.ladder.Feet.{Feet}
use Rattle.call_pictures.specs.declared.ladder.Round.{Round}
use Rattle.call_pictures.specs.declared.ladder.Row.{Row}

-- what was written, and then the rows that are left, are the text of all rows; and so it is with the numbers
pub record RowsLeft (before after : Option (List ℕ)) (y number at next : ℕ) (rows left : List Row) : Type 0 where
  pub text : List ℕ
  pub wrote : Appends before after text
  pub all : text ++ rows_text at next left ≡ rows_text y number rows
  pub numbers : next + items_in left ≡ number + items_in rows

pub no_row_yet : (w : Option (List ℕ)) (y number : ℕ) (rows : List Row) → RowsLeft w w y number y number rows rows
no_row_yet w y number rows = record { text = []; wrote = Appends-nil w; all = refl; numbers = refl }

pub one_row : (before mid after : Option (List ℕ)) (y number at next later more : ℕ) (rows xs : List Row) (i : ℕ) (d : Row) →
    RowsLeft before mid y number at next rows (drop i xs) → i < length xs → Appends mid after (row_text at next (get_or xs i d)) →
    later ≡ at + 26 → more ≡ next + (get_or xs i d).times → RowsLeft before after y number later more rows (drop (i + 1) xs)
one_row before mid after y number at next later more rows xs i d left within wrote below after_it = record {
  text = left.text ++ row_text at next (get_or xs i d);
  wrote = Appends-trans before mid after left.text (row_text at next (get_or xs i d)) left.wrote wrote;
  all =
      rw (below, after_it)
      (append_assoc left.text (row_text at next (get_or xs i d)) _
      ∙ ap (λ l. left.text ++ l) (sym (at_drop_more (rows_text at next) xs i d within)) ∙ left.all);
  numbers =
      let step : items_in (drop i xs) ≡ (get_or xs i d).times + items_in (drop (i + 1) xs) = at_drop_more items_in xs i d within in
      omega (arith, step, after_it, left.numbers);
}

-- the same of rounds
pub record RoundsLeft (before after : Option (List ℕ)) (at next : ℕ) (rounds left : List Round) : Type 0 where
  pub text : List ℕ
  pub wrote : Appends before after text
  pub all : text ++ rounds_text at next left ≡ rounds_text 72 1 rounds

one_round_at : (before mid after : Option (List ℕ)) (at next later more : ℕ) (rounds xs : List Round) (i : ℕ) (d : Round) →
    RoundsLeft before mid at next rounds (drop i xs) → i < length xs → Appends mid after (round_text at next (get_or xs i d)) →
    later ≡ at + round_height (get_or xs i d) → more ≡ next + round_items (get_or xs i d) →
    RoundsLeft before after later more rounds (drop (i + 1) xs)
one_round_at before mid after at next later more rounds xs i d left within wrote below after_it = record {
  text = left.text ++ round_text at next (get_or xs i d);
  wrote = Appends-trans before mid after left.text (round_text at next (get_or xs i d)) left.wrote wrote;
  all =
      rw (below, after_it)
      (append_assoc left.text (round_text at next (get_or xs i d)) _
      ∙ ap (λ l. left.text ++ l) (sym (at_drop_more (rounds_text at next) xs i d within)) ∙ left.all);
}

pub one_round : (before mid after : Option (List ℕ)) (at next later more : ℕ) (rounds xs : List Round) (i : ℕ) (item : Round) (height : ℕ) →
    RoundsLeft before mid at next rounds (drop i xs) → i < length xs → item ≡ get_or xs i item →
    Appends mid after (round_text at next item) → height ≡ round_height item → later ≡ at + height → more ≡ next + round_items item →
    RoundsLeft before after later more rounds (drop (i + 1) xs)
one_round before mid after at next later more rounds xs i item height left within is wrote high below after_it =
    one_round_at before mid after at next later more rounds xs i item left within
    (subst (λ r. Appends mid after (round_text at next r)) is wrote)
    (below ∙ ap (λ h. at + h) high ∙ ap (λ r. at + round_height r) is)
    (after_it ∙ ap (λ r. next + round_items r) is)

-- the picture of a call's rounds is one of the call
pub is_picture : (drawn : Drawn) (before after : Option (List ℕ)) (rounds lent : List Round) (feet : Option Feet) → lent ≡ rounds →
    entries_of_rounds rounds ≡ drawn.entries → feet ≡ drawn.feet → Appends before after (picture_text lent feet) →
    IsPicture drawn before after
is_picture drawn before after rounds lent feet same all left wrote = record {
  rounds = lent;
  all = ap entries_of_rounds same ∙ all;
  written = subst (λ f. Appends before after (picture_text lent f)) left wrote;
}

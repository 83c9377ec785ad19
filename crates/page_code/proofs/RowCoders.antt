-- A page that is coded row by row.
use Rattle.std.proofs.Common.{◌≡◌, ◌+◌, ◌++◌, ◌∙◌, ℕ, Bool, false, List, [], ◌∷◌, ap, sym, refl, subst}
use Rattle.std.proofs.Common.{append_assoc, length, replicate}
use Rattle.std.proofs.lemmas.List.{append-nil, length-append, length-replicate}
use Rattle.std.proofs.lemmas.List.Elements.{All-append, All-cons, All-head, All-nil, All-tail}
use Rattle.std.proofs.lemmas.Bool.{false≢true}
use Rattle.std.specs.Prelude.{All, Err, Ok, OnOk, Result, is_err}
use Rattle.raster.specs.Packed.{Bits, FillsOctets, bits_of}
use Rattle.raster.specs.declared.packed.Order.{Order}
use Rattle.raster.specs.declared.row.Color.{Color}
use Rattle.raster.specs.declared.row.Color.TheVariants.{White}
use Rattle.raster.proofs.OctetBits.{bits_of-join}
use Rattle.raster.proofs.PackedLemmas.{bits_in-none}
use Rattle.run_tables.specs.Written.{Appends, KeepsBits, MovesOctets}
use Rattle.page_code.specs.Codings.{code_of}
use Rattle.raster.specs.declared.coding.Coding.{Coding}
use Rattle.raster.specs.declared.coding.Coding.TheVariants.{OneDim, T6}
use Rattle.page_code.specs.OneDimension.Pages.{eol_word, row_words, rows_words}
use Rattle.page_code.specs.OneDimension.Repairs.{last_of}
use Rattle.page_code.specs.RowCoders.{CodesOneMore, CodesRows, EndsPage, HandsOut, HoldsBefore, RowCoding, end_of, row_of, rows_of}
use Rattle.page_code.specs.TwoDimensions.Code.{page_code, row_code, rows_code}
use Rattle.page_code.specs.TwoDimensions.Positions.{white_line}
use Rattle.page_code.proofs.OneDimension.RowsWords.{rows_words-append}

-- ---- the code of rows, and of one row more

last_of-append : (before : List Color) (rows : List (List Color)) (row : List Color) → last_of before (rows ++ row ∷ []) ≡ row
last_of-append before [] row = refl
last_of-append before (r ∷ rows) row = last_of-append r rows row

length-last_of : (n : ℕ) (before : List Color) (rows : List (List Color)) → length before ≡ n → All (λ row. length row ≡ n) rows
    → length (last_of before rows) ≡ n
length-last_of n before [] even wide = even
length-last_of n before (r ∷ rows) even wide =
    length-last_of n r rows (All-head (λ (row : List Color). length row ≡ n) r rows wide)
    (All-tail (λ (row : List Color). length row ≡ n) r rows wide)

rows_code-more : (white : List Color) (rows : List (List Color)) (row : List Color)
    → rows_code white (rows ++ row ∷ []) ≡ rows_code white rows ++ row_code (last_of white rows) row
rows_code-more white [] row = append-nil (row_code white row)
rows_code-more white (r ∷ rows) row =
    ap (λ (l : List Bool). row_code white r ++ l) (rows_code-more r rows row) ∙
    sym (append_assoc (row_code white r) (rows_code r rows) (row_code (last_of r rows) row))

rows_of-more : (coding : Coding) (width : ℕ) (rows : List (List Color)) (row : List Color)
    → rows_of coding width (rows ++ row ∷ []) ≡ rows_of coding width rows ++ row_of coding (last_of (white_line width) rows) row
rows_of-more OneDim width rows row =
    rows_words-append rows (row ∷ []) ∙ ap (λ (l : List Bool). rows_words rows ++ (eol_word 11 ++ l)) (append-nil (row_words row))
rows_of-more T6 width rows row = rows_code-more (white_line width) rows row

rows_of-none : (coding : Coding) (width : ℕ) → [] ≡ rows_of coding width []
rows_of-none OneDim width = refl
rows_of-none T6 width = refl

code_of-end : (coding : Coding) (width : ℕ) (rows : List (List Color)) → code_of coding width rows ≡ rows_of coding width rows ++ end_of
    coding
unfolding code_of page_code
code_of-end OneDim width rows = refl
code_of-end T6 width rows = refl

-- ---- what the coder stands for

module _ (coding : Coding) (width : ℕ) where
  abbrev pub coder : ℕ → List ℕ → Bits → RowCoding
  coder count held pending = record { coding = coding; width = width; count = count; before = held; pending = pending }

  -- no rows
  pub stands_empty : (held : List ℕ) (pending : Bits) → HoldsBefore coding (white_line width) held → pending.bits ≡ []
      → CodesRows (coder 0 held pending) [] []
  stands_empty held pending holds none = record {
    counted = refl;
    wide = All-nil (λ (row : List Color). length row ≡ width);
    held = holds;
    coded = ap (λ (l : List Bool). l ++ pending.bits) (bits_in-none pending.order []) ∙ (none ∙ rows_of-none coding width);
  }

  -- one row more
  pub one_more : (count : ℕ) (held held' : List ℕ) (old new : Bits) (row : List Color) → length row ≡ width → KeepsBits old new
      → ((before : List Color) → HoldsBefore coding before held → length before ≡ length row → Appends (row_of coding before row) old new)
      → HoldsBefore coding row held' → CodesOneMore (coder count held old) row (coder (count + 1) held' new)
  one_more count held held' old new row wide keeps code holds =
      let order : new.order ≡ old.order = ap (λ (w : Bits). w.order) keeps.1 in
      record {
        same = record { coding = refl; order = order; width = refl };
        one_more = λ rows octets stands.
            let before : List Color = last_of (white_line width) rows in
            let even : length before ≡ width = length-last_of width (white_line width) rows (length-replicate width White) stands.wide in
            let wrote : new ≡ record old { bits = old.bits ++ row_of coding before row } =
            code before stands.held (even ∙ sym wide) in
            record {
              counted = ap (λ (n : ℕ). n + 1) stands.counted ∙ sym (length-append rows (row ∷ []));
              wide = All-append (λ (r : List Color). length r ≡ width) rows (row ∷ []) stands.wide
                  (All-cons (λ (r : List Color). length r ≡ width) row [] wide (All-nil (λ (r : List Color). length r ≡ width)));
              held = subst (λ (r : List Color). HoldsBefore coding r held') (sym (last_of-append (white_line width) rows row)) holds;
              coded = ap (λ (w : Bits). bits_of w.order octets ++ w.bits) wrote ∙
                  (sym (append_assoc (bits_of old.order octets) old.bits (row_of coding before row)) ∙
                  (ap (λ (l : List Bool). l ++ row_of coding before row) stands.coded ∙ sym (rows_of-more coding width rows row)));
            };
      }

  -- octets that are handed out
  pub handed_out : (count : ℕ) (held : List ℕ) (old new : Bits) (before after : List ℕ) → MovesOctets before after old new
      → HandsOut (coder count held old) before after (coder count held new)
  handed_out count held old new before after moves = record {
    octets = moves.octets;
    joined = moves.joined;
    few = moves.few;
    same = record { coding = refl; order = moves.order; width = refl };
    stands = λ rows first stands. record {
      counted = stands.counted;
      wide = stands.wide;
      held = stands.held;
      coded = ap (λ (order : Order). bits_of order (first ++ moves.octets) ++ new.bits) moves.order ∙
          (ap (λ (l : List Bool). l ++ new.bits) (bits_of-join old.order first moves.octets) ∙
          (append_assoc (bits_of old.order first) (bits_of old.order moves.octets) new.bits ∙
          (ap (λ (l : List Bool). bits_of old.order first ++ l) (sym moves.all) ∙ stands.coded)));
    };
  }

  -- the page's end
  pub page_ends : (count : ℕ) (held : List ℕ) (old new : Bits) (before octets : List ℕ) → Appends (end_of coding) old new
      → FillsOctets new.order new.bits octets → EndsPage (coder count held old) before (before ++ octets)
  page_ends count held old new before octets ends fills = record {
    octets = octets;
    joined = refl;
    page = λ rows first stands.
        let filled = subst (λ (w : Bits). FillsOctets w.order w.bits octets) ends fills in
        let zeros : List Bool = replicate filled.fill false in
        let code : List Bool = rows_of coding width rows in
        record {
          fill = filled.fill;
          few = filled.few;
          filled = bits_of-join old.order first octets ∙
              (ap (λ (l : List Bool). bits_of old.order first ++ l) (filled.filled ∙ append_assoc old.bits (end_of coding) zeros) ∙
              (sym (append_assoc (bits_of old.order first) old.bits (end_of coding ++ zeros)) ∙
              (ap (λ (l : List Bool). l ++ (end_of coding ++ zeros)) stands.coded ∙
              (sym (append_assoc code (end_of coding) zeros) ∙
              ap (λ (l : List Bool). l ++ zeros) (sym (code_of-end coding width rows))))));
        };
  }

-- ---- an answer that isn't refused

pub when_done : {A E : Type 0} (P : Type 0) (r : Result A E) → is_err r ≡ false → OnOk r P → P
when_done P (Ok x) done holds = holds
when_done P (Err x) done holds = absurd (false≢true (sym done))

pub on_ok : {A E : Type 0} (P : Type 0) (r : Result A E) → P → OnOk r P
on_ok P (Ok x) holds = holds
on_ok P (Err x) holds = tt

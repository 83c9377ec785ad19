-- What a page is read as, whole stores, and the map of missing frames.
use Rattle.std.proofs.Common.{◌≡◌, ◌≢◌, ℕ, ◌≤◌, ◌<◌, ◌↔◌, ◌++◌, Bool, true, false, List, [], ◌∷◌, length, map, replicate, Some}
use Rattle.std.proofs.lemmas.List.{map-append}
use Rattle.std.proofs.Common.{None, Result, Ok, Err, refl, ap, sym, subst, cond, ◌∙◌, arith, nat_le}
use Rattle.std.specs.List.{list_all}
use Rattle.std.proofs.lemmas.Bool.{leb-true, le-leb, lt-leb}
use Rattle.raster.specs.Pages.{PagePixels}
use Rattle.raster.specs.Packed.{bits_of}
use Rattle.raster.specs.Pixels.{IsWidth}
use Rattle.raster.specs.Words.{turned_octet}
use Rattle.raster.specs.declared.packed.Order.TheVariants.{LsbFirst}
use Rattle.raster.specs.declared.row.Color.{Color}
use Rattle.run_tables.specs.declared.fault.CodeFaultKind.{CodeFaultKind}
use Rattle.partial_page.specs.Store.{no_frames}
use Rattle.signals.specs.Agreement.{pixels_of}
use Rattle.signals.specs.declared.params.PageWidth.{PageWidth}
use Rattle.signals.specs.declared.params.PageWidth.TheVariants.{W1728, W2048, W2432}
use Rattle.signals.specs.declared.params.Params.{Params}
use Rattle.page_code.specs.Codings.{read_rows, ReadsIn, ReadsExactly}
use Rattle.stations.specs.Laws.{ReadsByGrammar}
use Rattle.stations.specs.Layers.{IsPageOf, within_page_limit, page_of, page_read}
use Rattle.stations.specs.OpenPage.{AppendsTurned}
use Rattle.std.specs.Prelude.{IsTrue, not, is_some}
use Rattle.signals.specs.declared.signal.PageEnd.{PageEnd}
use Rattle.signals.specs.declared.signal.PageEnd.TheVariants.{Null, Mps, Eom, Eop}
use Rattle.signals.specs.declared.mark.Mark.{Mark}
use Rattle.stations.specs.AnswererStep.{Answerer, takes_block, stores, is_clear}
use Rattle.partial_page.specs.Assembling.{Frames}

pub width_callable : (width : PageWidth) → IsWidth (pixels_of width)
width_callable W1728 = (omega arith, omega arith)
width_callable W2048 = (omega arith, omega arith)
width_callable W2432 = (omega arith, omega arith)

pub over_limit : (octets : List ℕ) → 8388608 < length octets → within_page_limit octets ≡ false
unfolding within_page_limit
over_limit octets long = lt-leb (length octets) 8388608 long

pub within_limit : (octets : List ℕ) → length octets ≤ 8388608 → within_page_limit octets ≡ true
unfolding within_page_limit
within_limit octets few = le-leb (length octets) 8388608 few

-- octets that were appended turned, each turned once more
pub turned_after : (old new octets : List ℕ) → AppendsTurned old new octets
    → map turned_octet new ≡ map turned_octet old ++ octets
turned_after old new octets is =
    ap (map turned_octet) is.turned ∙ (map-append turned_octet old (map turned_octet octets) ∙
    ap (λ (xs : List ℕ). map turned_octet old ++ xs) is.back)

pub too_long : (params : Params) (octets : List ℕ) → 8388608 < length octets → None ≡ page_read params octets
unfolding page_read
too_long params octets long = rw (over_limit octets long) refl

-- a page whose rows the octets read as
pub page_is_read :
    (params : Params) (octets : List ℕ) (page : PagePixels) (used : ℕ) → length octets ≤ 8388608 →
    page.width ≡ pixels_of params.width → page.fine ≡ params.fine →
    read_rows params.coding (pixels_of params.width) (bits_of LsbFirst octets) ≡ Ok (page.rows, used) → Some page ≡ page_read params octets
unfolding page_read within_page_limit
page_is_read params octets page used few width fine reads =
    let same : page ≡ record { width = pixels_of params.width; fine = params.fine; rows = page.rows } = rw (← width, ← fine) refl in
    rw (le-leb (length octets) 8388608 few, reads) (ap Some same)

-- octets that are refused
pub none_is_read :
    (params : Params) (octets : List ℕ) (fault : ℕ × CodeFaultKind) → length octets ≤ 8388608 →
    read_rows params.coding (pixels_of params.width) (bits_of LsbFirst octets) ≡ Err fault → None ≡ page_read params octets
unfolding page_read within_page_limit
none_is_read params octets fault few refuses = rw (le-leb (length octets) 8388608 few, refuses) refl

-- the page that octets read as is theirs by the grammar
page_by_grammar :
    ReadsExactly → (params : Params) (octets : List ℕ) (page : PagePixels) → page_read params octets ≡ Some page →
    IsPageOf params octets page
unfolding page_read within_page_limit
page_by_grammar exact params octets page h = at (nat_le (length octets) 8388608) refl h
  where
    read_so : nat_le (length octets) 8388608 ≡ true → (r : Result (List (List Color) × ℕ) (ℕ × CodeFaultKind)) →
        read_rows params.coding (pixels_of params.width) (bits_of LsbFirst octets) ≡ r → page_of params r ≡ Some page →
        IsPageOf params octets page
    read_so few (Ok (rows, used)) e h =
        let is : record { width = pixels_of params.width; fine = params.fine; rows = rows } ≡ page = cc in
        let all : ReadsIn params.coding (pixels_of params.width) (bits_of LsbFirst octets) rows used =
        (exact params.coding (pixels_of params.width) (bits_of LsbFirst octets) rows used (width_callable params.width)).0 e in
        record {
          few = leb-true (length octets) 8388608 few;
          used = used;
          reads = record {
            width_is = ap (λ (p : PagePixels). p.width) (sym is);
            fine_is = ap (λ (p : PagePixels). p.fine) (sym is);
            reads = subst (λ (p : PagePixels). ReadsIn params.coding (pixels_of params.width) (bits_of LsbFirst octets) p.rows used) is all;
          };
        }
    read_so few (Err fault) e h = cc

    at : (b : Bool) → nat_le (length octets) 8388608 ≡ b →
        cond b (page_of params (read_rows params.coding (pixels_of params.width) (bits_of LsbFirst octets))) None ≡ Some page →
        IsPageOf params octets page
    at true few h = read_so few (read_rows params.coding (pixels_of params.width) (bits_of LsbFirst octets)) refl h
    at false few h = cc

pub reads_by_grammar : ReadsExactly → ReadsByGrammar
reads_by_grammar exact params octets page = (
  page_by_grammar exact params octets page,
  λ h. sym (page_is_read params octets page h.used h.few h.reads.width_is h.reads.fine_is
      ((exact params.coding (pixels_of params.width) (bits_of LsbFirst octets) page.rows h.used
      (width_callable params.width)).1 h.reads.reads)),
)

pub takes_page :
    (s : Answerer) (ends : PageEnd) (mark : Mark) (octets : List ℕ) → ends ≢ Null →
    takes_block s ends mark octets ≡ stores s ends mark (page_read s.params octets)
takes_page s Null mark octets h = absurd (h refl)
takes_page s Mps mark octets h = refl
takes_page s Eom mark octets h = refl
takes_page s Eop mark octets h = refl

-- where no place has a frame, the list is of so many places with none
all_none : (frames : Frames) → list_all (λ frame. not (is_some frame)) frames ≡ true → frames ≡ replicate (length frames) None
all_none [] e = refl
all_none (None ∷ frames) e = ap (λ rest. None ∷ rest) (all_none frames e)
all_none (Some kept ∷ frames) e = absurd (cc e)

-- a store of 256 places is clear exactly if it is that of no frame
pub clear_tells : (frames : Frames) (result : Bool) → length frames ≡ 256 → IsTrue result ↔ (frames ≡ no_frames) → result ≡ is_clear frames
unfolding is_clear no_frames
clear_tells frames true size tells = rw (tells.0 refl) refl
clear_tells frames false size tells = at (is_clear frames) refl
  where
    at : (clear : Bool) → is_clear frames ≡ clear → false ≡ clear
    at false e = refl
    at true e = tells.1 (all_none frames e ∙ ap (λ n. replicate n None) size)

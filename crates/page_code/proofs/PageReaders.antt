-- A reader of a page that comes in pieces: what it keeps holds when octets follow, and what it answers at the end.
use Rattle.std.proofs.Common.{ℕ, ◌≡◌, ◌≢◌, ◌≤◌, ◌<◌, Bool, List, [], ◌++◌, length, inl, inr, refl, ap, sym, ◌∙◌, subst, arith, append_assoc}
use Rattle.std.specs.Prelude.{Result, IfOk, IfErr}
use Rattle.std.proofs.lemmas.Bool.{cases_eq}
use Rattle.raster.specs.declared.packed.Order.{Order}
use Rattle.raster.specs.declared.row.Color.{Color}
use Rattle.raster.specs.Packed.{bits_of}
use Rattle.raster.specs.Pages.{PagePixels}
use Rattle.raster.specs.Pixels.{IsWidth}
use Rattle.raster.proofs.OctetBits.{bits_of-join}
use Rattle.raster.proofs.PackedLemmas.{bits_in-none}
use Rattle.run_tables.specs.declared.fault.CodeFault.{CodeFault}
use Rattle.run_tables.specs.declared.fault.CodeFaultKind.TheVariants.{NoMemory}
use Rattle.raster.specs.declared.coding.Coding.{Coding}
use Rattle.page_code.specs.declared.page.Progress.{Progress}
use Rattle.page_code.specs.Codings.{IsLongestIn, ReadsIn, read_rows}
use Rattle.page_code.specs.PageCodes.{GivesPage, GivesRows, IsOnlyAnswer, ReadsPage, RefusesPage}
use Rattle.raster.specs.declared.coding.Coding.TheVariants.{OneDim, T6}
use Rattle.page_code.specs.RowsSoFar.{AreRowsSoFar, AreWholeRows, BeginWith, IsFurther, IsReadTo, RowsStay, after_rows, between_rows}
use Rattle.page_code.specs.PageReaders.{PageReading, StandsFor, GoesOnTo, IsLike, IsPassed, StandsAsBefore}
use Rattle.page_code.specs.OneDimension.Fronts.{item_word, Step}
use Rattle.page_code.specs.OneDimension.Fronts.PageState.{first}
use Rattle.page_code.specs.TwoDimensions.Fronts.{page_item_word, PageStep, page_begin}
use Rattle.page_code.proofs.CodingLaws.{reads_exactly, refuses_no_page, refuses_at_longest}
use Rattle.page_code.specs.declared.one_dim.open_row.OpenRow.{OpenRow}
use Rattle.page_code.specs.declared.one_dim.open_row.OpenRow.TheVariants.{Zeros}
use Rattle.page_code.proofs.FrontEnds.{leads_more, leads_within}
use Rattle.page_code.proofs.OneDimension.OpenRows.{open_on}
use Rattle.page_code.proofs.OneDimension.OpenRows as open_rows
use Rattle.page_code.proofs.GivesPage.{gives_only, gives_reads, gives_refuses, gives_rows}
use Rattle.page_code.specs.TurnedCodes.{AreTurned, IsTurnedCode}
use Rattle.page_code.proofs.TurnedOctets.{are_turned, turned_of_more}
use Rattle.page_code.proofs.OneDimension.RowsOn as one_dim
use Rattle.page_code.proofs.TwoDimensions.RowsOn as t6

-- rows that begin bits begin them with more after them
begin_more : (coding : Coding) (width : ℕ) (bits more : List Bool) (rows : List (List Color)) → BeginWith coding width bits rows
    → BeginWith coding width (bits ++ more) rows
unfolding BeginWith
begin_more OneDim width bits more rows begins = (
  begins.0,
  begins.1,
  begins.2 ++ more,
  begins.3,
  begins.4,
  ap (λ l. l ++ more) begins.5 ∙ (append_assoc begins.0 (begins.1 ++ begins.2) more ∙
      ap (λ l. begins.0 ++ l) (append_assoc begins.1 begins.2 more)),
)
begin_more T6 width bits more rows begins = (
  begins.0,
  begins.1 ++ more,
  begins.2,
  ap (λ l. l ++ more) begins.3 ∙ append_assoc begins.0 begins.1 more,
)

pub rows_stay : RowsStay
rows_stay coding width bits more count later now after = elim (cases_eq count 0) [
  | inl none ↦ omega arith
  | inr some ↦
      let there = now.there (omega arith) in
      let fits : length there.0 ≤ 20000 = omega (arith, there.1, now.few) in
      omega (arith, there.1, after.no_more there.0 fits (begin_more coding width bits more there.0 there.2))
]

-- rows that were read are read of more bits
pub read_more : (coding : Coding) (width : ℕ) (bits more : List Bool) (rows : List (List Color)) (place : ℕ)
    → IsReadTo coding width bits rows place → IsReadTo coding width (bits ++ more) rows place
unfolding IsReadTo
read_more OneDim width bits more rows place read = leads_more item_word (Step width) first (after_rows rows) bits more place read
read_more T6 width bits more rows place read = leads_more page_item_word (PageStep width) (page_begin width) (between_rows width rows) bits
    more place read

pub read_none : (coding : Coding) (width : ℕ) (bits : List Bool) → IsReadTo coding width bits [] 0
read_none OneDim width bits = one_dim.read_none width bits
read_none T6 width bits = t6.read_none width bits

rows_none : (coding : Coding) (width : ℕ) → IsWidth width → AreRowsSoFar coding width [] 0
rows_none OneDim width wide = one_dim.rows_none width wide
rows_none T6 width wide = t6.rows_none width wide

-- what was passed comes in more bits
passed_more : (coding : Coding) (width : ℕ) (bits more : List Bool) (rows : List (List Color)) (place : ℕ) (row : OpenRow)
    → IsReadTo coding width bits rows place → IsPassed coding width bits rows place row
    → IsPassed coding width (bits ++ more) rows place row
unfolding IsReadTo
passed_more OneDim width bits more rows place row read passed = open_on width bits more rows place row (leads_within item_word (Step width)
    first (after_rows rows) bits place read) passed
passed_more T6 width bits more rows place row read passed = passed

nothing_passed : (coding : Coding) (width : ℕ) (bits : List Bool) (rows : List (List Color)) (place : ℕ)
    → IsPassed coding width bits rows place (Zeros 0)
nothing_passed OneDim width bits rows place = open_rows.nothing_passed width bits rows place
nothing_passed T6 width bits rows place = refl

-- what is kept of the octets so far is kept of all
pub goes_on_to : (reader : PageReading) (all : List ℕ) → GoesOnTo reader all
    → IsReadTo reader.coding reader.page.width (bits_of reader.order all) reader.page.rows reader.place
goes_on_to reader all on =
    let bits = bits_of reader.order on.octets in
    let more = bits_of reader.order on.more in
    let joined : bits_of reader.order all ≡ bits ++ more = ap (bits_of reader.order) on.begins ∙ bits_of-join reader.order on.octets on.more
    in
    subst (λ b. IsReadTo reader.coding reader.page.width b reader.page.rows reader.place) (sym joined) (read_more reader.coding
    reader.page.width bits more reader.page.rows reader.place on.stands.kept)

-- what was passed of the octets so far comes in all
pub passed_of_all : (reader : PageReading) (all : List ℕ) → GoesOnTo reader all
    → IsPassed reader.coding reader.page.width (bits_of reader.order all) reader.page.rows reader.place reader.passed
passed_of_all reader all on =
    let bits = bits_of reader.order on.octets in
    let more = bits_of reader.order on.more in
    let joined : bits_of reader.order all ≡ bits ++ more = ap (bits_of reader.order) on.begins ∙ bits_of-join reader.order on.octets on.more
    in
    subst (λ b. IsPassed reader.coding reader.page.width b reader.page.rows reader.place reader.passed) (sym joined) (passed_more
    reader.coding reader.page.width bits more reader.page.rows reader.place reader.passed on.stands.kept on.stands.passed)

-- what is kept turned of the octets so far is kept of all
pub keeps_of_all : (reader : PageReading) (all : List ℕ) → GoesOnTo reader all → AreTurned reader.turned all
keeps_of_all reader all on = rw on.begins (turned_of_more reader.turned on.octets on.more on.stands.turned)

-- a reader of no rows stands for no octets
pub stands_for_none : (reader : PageReading) → IsWidth reader.page.width → reader.page.rows ≡ [] → reader.place ≡ 0 → reader.count ≡ 0
    → reader.turned ≡ [] → reader.passed ≡ Zeros 0 → StandsFor reader []
stands_for_none reader wide rows place count turned passed =
    let none : bits_of reader.order [] ≡ [] = bits_in-none reader.order [] in
    record {
      kept = rw (rows, place) (read_none reader.coding reader.page.width (bits_of reader.order []));
      passed = rw passed (nothing_passed reader.coding reader.page.width (bits_of reader.order []) reader.page.rows reader.place);
      counted = rw (count, none) (rows_none reader.coding reader.page.width wide);
      turned = rw turned refl;
    }

-- a reader that forgot its rows, and not how many there are, stands for what it stood for
pub stands_again : (old new : PageReading) → IsLike old new → new.page.rows ≡ [] → new.place ≡ 0 → new.count ≡ old.count
    → new.turned ≡ [] → new.passed ≡ Zeros 0 → StandsAsBefore old new
stands_again old new like rows place count turned passed = (
  like,
  λ octets stands. record {
    kept = rw (rows, place) (read_none new.coding new.page.width (bits_of new.order octets));
    passed = rw passed (nothing_passed new.coding new.page.width (bits_of new.order octets) new.page.rows new.place);
    counted = rw (like.coding, like.order, like.width, count) stands.counted;
    turned = rw turned refl;
  },
)

-- The reader's calls

-- a reader as clauses see it
abbrev pub reading_of : Coding → Order → Progress → OpenRow → ℕ → List ℕ → PageReading
reading_of coding order progress passed count turned = record {
  coding = coding;
  order = order;
  page = progress.page;
  place = progress.place;
  passed = passed;
  count = count;
  turned = turned;
}

-- a new reader
pub begins : (coding : Coding) (order : Order) (width : ℕ) (fine : Bool) (progress : Progress) (turned : List ℕ) → IsWidth width
    → progress ≡ record { page = record { width = width; fine = fine; rows = [] }; place = 0 } → turned ≡ []
    → StandsFor (reading_of coding order progress (Zeros 0) 0 turned) []
begins coding order width fine progress turned wide is none = rw none (subst (λ (p : Progress). StandsFor
    (reading_of coding order p (Zeros 0) 0 []) []) (sym is) (stands_for_none (reading_of coding order (record {
      page = record {
        width =
            width;
        fine = fine;
        rows = [];
      };
      place = 0;
    }) (Zeros 0) 0 []) wide refl refl refl refl refl))

module _ (coding : Coding) (order : Order) (old : Progress) (passed : OpenRow) (count : ℕ) (kept : List ℕ) (now : PageReading)
    (view : reading_of coding order old passed count kept ≡ now) where
  pub reads_from : (all : List ℕ) → GoesOnTo now all → IsReadTo coding old.page.width (bits_of order all) old.page.rows old.place
  reads_from all on = goes_on_to (reading_of coding order old passed count kept) all (subst (λ (r : PageReading). GoesOnTo r all) (sym
      view) on)

  pub keeps_from : (all : List ℕ) → GoesOnTo now all → AreTurned kept all
  keeps_from all on = keeps_of_all (reading_of coding order old passed count kept) all (subst (λ (r : PageReading). GoesOnTo r all) (sym
      view) on)

  pub passed_from : (all : List ℕ) → GoesOnTo now all
      → IsPassed coding old.page.width (bits_of order all) old.page.rows old.place passed
  passed_from all on = passed_of_all (reading_of coding order old passed count kept) all (subst (λ (r : PageReading). GoesOnTo r all) (sym
      view) on)

  pub is_like : (new : Progress) (row : OpenRow) (n : ℕ) (turned : List ℕ) → new.page.width ≡ old.page.width
      → new.page.fine ≡ old.page.fine → IsLike now (reading_of coding order new row n turned)
  is_like new row n turned width fine = record {
    coding = ap (λ (r : PageReading). r.coding) view;
    order = ap (λ (r : PageReading). r.order) view;
    width = width ∙ ap (λ (r : PageReading). r.page.width) view;
    fine = fine ∙ ap (λ (r : PageReading). r.page.fine) view;
  }

  pub read_further : (all : List ℕ) (new : Progress) (n : ℕ) (turned : List ℕ) → IsFurther coding (bits_of order all) old new
      → AreRowsSoFar coding new.page.width (bits_of order all) (length new.page.rows) → n ≡ length new.page.rows
      → IsTurnedCode order all turned → StandsFor (reading_of coding order new (Zeros 0) n turned) all
  read_further all new n turned further counted is code = record {
    kept = further.read;
    passed = nothing_passed coding new.page.width (bits_of order all) new.page.rows new.place;
    counted = rw is counted;
    turned = are_turned order all turned code;
  }

  -- a reader that passed on in the next row
  pub passed_on : (all : List ℕ) → GoesOnTo now all → (row : OpenRow) (n : ℕ)
      → IsPassed coding old.page.width (bits_of order all) old.page.rows old.place row
      → AreRowsSoFar coding old.page.width (bits_of order all) (length old.page.rows) → n ≡ length old.page.rows
      → StandsFor (reading_of coding order old row n kept) all
  passed_on all on row n goes_on counted is = record {
    kept = reads_from all on;
    passed = goes_on;
    counted = rw is counted;
    turned = keeps_from all on;
  }

  -- a reader that has no rows again
  module _ (fresh : Progress) (width : ℕ) (fine : Bool) (turned : List ℕ) (none : turned ≡ [])
      (is : fresh ≡ record { page = record { width = width; fine = fine; rows = [] }; place = 0 })
      (width_is : width ≡ old.page.width) (fine_is : fine ≡ old.page.fine) where
    pub fresh_like : (n : ℕ) → IsLike now (reading_of coding order fresh (Zeros 0) n turned)
    fresh_like n = is_like fresh (Zeros 0) n turned (ap (λ (p : Progress). p.page.width) is ∙ width_is) (ap (λ (p : Progress).
        p.page.fine) is ∙ fine_is)

    pub stands_still : StandsAsBefore now (reading_of coding order fresh (Zeros 0) count turned)
    stands_still = stands_again now (reading_of coding order fresh (Zeros 0) count turned) (fresh_like count) (ap (λ (p : Progress).
        p.page.rows) is) (ap (λ
        (p : Progress). p.place) is) (ap (λ (r : PageReading). r.count) view) none refl

    pub stands_empty : IsWidth old.page.width → StandsFor (reading_of coding order fresh (Zeros 0) 0 turned) []
    stands_empty wide = begins coding order width fine fresh turned (rw width_is wide) is none

  -- what is answered at the end
  pub gives_now : (all : List ℕ) (result : Result (PagePixels × ℕ) CodeFault)
      → GivesPage (read_rows coding old.page.width (bits_of order all)) old.page.width old.page.fine result
      → GivesPage (read_rows now.coding now.page.width (bits_of now.order all)) now.page.width now.page.fine result
  gives_now all result gives = subst (λ (r : PageReading). GivesPage (read_rows r.coding r.page.width (bits_of r.order all)) r.page.width
      r.page.fine result) view gives

  pub wide_now : IsWidth old.page.width → IsWidth now.page.width
  wide_now wide = subst (λ (r : PageReading). IsWidth r.page.width) view wide

module _ (coding : Coding) (width : ℕ) (fine : Bool) (bits : List Bool) (result : Result (PagePixels × ℕ) CodeFault) (wide : IsWidth width)
    (gives : GivesPage (read_rows coding width bits) width fine result) where
  pub finish_reads : IfOk result (λ read. ReadsPage (ReadsIn coding) width fine bits read.0 read.1)
  finish_reads = gives_reads (ReadsIn coding) (IsLongestIn coding) (read_rows coding) (reads_exactly coding) (refuses_no_page coding)
      (refuses_at_longest coding) width fine bits result wide gives

  pub finish_only : IsOnlyAnswer (ReadsIn coding) width bits result
  finish_only = gives_only (ReadsIn coding) (IsLongestIn coding) (read_rows coding) (reads_exactly coding) (refuses_no_page coding)
      (refuses_at_longest coding) width fine bits result wide gives

  pub finish_refuses : IfErr result (λ fault. fault.kind ≢ NoMemory → RefusesPage (ReadsIn coding) (IsLongestIn coding) width bits fault)
  finish_refuses = gives_refuses (ReadsIn coding) (IsLongestIn coding) (read_rows coding) (reads_exactly coding) (refuses_no_page coding)
      (refuses_at_longest coding) width fine bits result wide gives

  pub finish_gives : GivesRows (read_rows coding width bits) result
  finish_gives = gives_rows (read_rows coding width bits) width fine result gives

-- rows that were read begin the bits
begin_read : (coding : Coding) (width : ℕ) (bits : List Bool) (rows : List (List Color)) (place : ℕ) → IsWidth width → 0 < length rows
    → IsReadTo coding width bits rows place → BeginWith coding width bits rows
unfolding IsReadTo
begin_read OneDim width bits rows place wide some read = one_dim.spelled_rows width bits rows place wide some read
begin_read T6 width bits rows place wide some read = t6.spelled_rows width bits rows place some read

-- rows that were read, of which the bits spell no more, are all whole rows
pub salvaged : (coding : Coding) (width : ℕ) (bits : List Bool) (old new : Progress) → IsWidth width → old.page.width ≡ width
    → IsFurther coding bits old new × AreRowsSoFar coding new.page.width bits (length new.page.rows)
    → AreWholeRows coding width bits new.page.rows
salvaged coding width bits old new wide same read =
    let is : new.page.width ≡ width = read.0.width ∙ same in
    record {
      all = subst (λ w. AreRowsSoFar coding w bits (length new.page.rows)) is read.1;
      begins = λ some. begin_read coding width bits new.page.rows new.place wide some (subst (λ w. IsReadTo coding w bits new.page.rows
          new.place) is read.0.read);
    }

-- The laws of repaired pages.
use Rattle.std.proofs.Common.{ℕ, ◌≡◌, ◌+◌, ◌<◌, ◌≤◌, Bool, List, [], ◌∷◌, ◌++◌, length, drop, None, inl, inr, refl, ap, sym, ◌∙◌}
use Rattle.std.proofs.Common.{subst, arith, append_assoc}
use Rattle.std.specs.Prelude.{◌⊎◌, ◌≢◌, Result, Ok}
use Rattle.raster.specs.declared.row.Color.{Color}
use Rattle.raster.specs.declared.row.Color.TheVariants.{White}
use Rattle.raster.specs.Pixels.{IsWidth}
use Rattle.run_tables.specs.Faults.{BegunAt}
use Rattle.run_tables.specs.declared.fault.CodeFault.{CodeFault}
use Rattle.run_tables.specs.declared.fault.CodeFaultKind.{CodeFaultKind}
use Rattle.run_tables.specs.declared.fault.CodeFaultKind.TheVariants.{NoMemory}
use Rattle.run_tables.specs.Fronts.{Walk, spell}
use Rattle.run_tables.specs.RowFronts.{RunItem, RowState, row_begin}
use Rattle.run_tables.specs.RowFronts.{item_word as code_bits, Step as RowStep}
use Rattle.run_tables.specs.RowFronts.RowState.{inside, whole}
use Rattle.run_tables.specs.RowLaws.{IsLongestFront, ReadsAsRow}
use Rattle.run_tables.specs.RunWords.{SpellsRow}
use Rattle.run_tables.proofs.RowReadings.{reads_rows_exactly}
use Rattle.run_tables.proofs.RowWays.{row_way}
use Rattle.std.proofs.lemmas.List.{drop-drop}
use Rattle.page_code.specs.declared.one_dim.repair.RepairedRow.{RepairedRow}
use Rattle.page_code.specs.PageCodes.{RefusesPage}
use Rattle.page_code.specs.OneDimension.Fronts.{CodeBegins}
use Rattle.page_code.specs.OneDimension.Laws.{IsLongestFront as IsLongestPage}
use Rattle.page_code.specs.OneDimension.Pages.{AreEols, IsEnd, IsLead, ReadsAs, SpellsLater, eol_word, eol_words}
use Rattle.page_code.specs.OneDimension.Repairs.{EndsLine, EndsPage, EndsRow, HasMoreLines, HasNoRow, IsFirstLine, IsLine, IsReadFor}
use Rattle.page_code.specs.OneDimension.Repairs.{IsRepair, Line}
use Rattle.page_code.specs.OneDimension.Repairs.{OneRepair, RepairsNothing, repaired_in, rows_given, white_row}
use Rattle.page_code.specs.OneDimension.Repairs.Line.{spelled, broken}
use Rattle.page_code.proofs.FrontEnds.{drop_on}
use Rattle.page_code.proofs.OneDimension.Look.{code_stands}
use Rattle.page_code.proofs.OneDimension.LineEnds.{code_no_end, one_end, one_row_end, one_skip}
use Rattle.page_code.proofs.OneDimension.Repairs.{all_repaired, length-given}
use Rattle.page_code.proofs.OneDimension.ZerosBefore.{length-eol}

-- where a row is spelled, a code begins
row_begins : (width : ℕ) (row : List Color) (front rest : List Bool) → IsWidth width → length row ≡ width → SpellsRow row front
    → CodeBegins (front ++ rest)
row_begins width row front rest wide full spells =
    let way = row_way width row front (omega (arith, wide.0)) wide.1 full spells in
    from way.items way.walk way.spelled
  where
    from : (codes : List RunItem) → Walk (RowStep width) row_begin codes (whole row) → spell code_bits codes ≡ front
        → CodeBegins (front ++ rest)
    from [] walk is = let same : ◌≡◌ {A = RowState} (inside [] White None) (whole row) = walk in cc
    from (code ∷ codes) walk is =
        let split : code_bits code ++ (spell code_bits codes ++ rest) ≡ front ++ rest =
        sym (append_assoc (code_bits code) (spell code_bits codes) rest) ∙ ap (λ (l : List Bool). l ++ rest) is in
        subst CodeBegins split (code_stands White code (spell code_bits codes ++ rest) walk.1.stands)

pub read_begins : (width : ℕ) (x : List Bool) (row : List Color) (used : ℕ) → IsWidth width → ReadsAsRow width x row used → CodeBegins x
read_begins width x row used wide reads = subst CodeBegins (sym reads.split) (row_begins width row reads.front reads.rest wide reads.wide
    reads.spells)

-- A page that can be read

-- a row and the end of its line
line_there : (width : ℕ) (bits : List Bool) (place : ℕ) (row : List Color) (front rest : List Bool) (more : ℕ) → SpellsRow row front
    → length row ≡ width → drop place bits ≡ front ++ rest → EndsLine rest more
    → IsLine width bits place (spelled row) (place + length front + more)
line_there width bits place row front rest more spells wide split ends =
    let rest_is : drop (place + length front) bits ≡ rest = drop_on bits front rest place (place + length front) split refl in (
      length front,
      more,
      record {
        front = front;
        rest = rest;
        spells = spells;
        wide = wide;
        split = split;
        used_is = refl;
      },
      inl (subst (λ (l : List Bool). EndsLine l more) (sym rest_is) ends),
      refl,
    )

-- lines that are read from a place to the page's end
abbrev AreLines : ℕ → List Bool → ℕ → List (List Color) → Type 0
AreLines width bits place rows =
    (lines : List Line) × (end : ℕ) × Walk (IsLine width bits) place lines end × EndsPage (drop end bits)
    × ((before : List Color) → rows_given before lines ≡ rows) × ((number : ℕ) → repaired_in number lines ≡ [])

last_line : (width : ℕ) (bits : List Bool) (place : ℕ) (row : List Color) (front rest : List Bool) (more : ℕ) (left : List Bool)
    → SpellsRow row front → length row ≡ width → drop place bits ≡ front ++ rest → EndsLine rest more
    → drop (place + length front + more) bits ≡ left → EndsPage left → AreLines width bits place (row ∷ [])
last_line width bits place row front rest more left spells wide split ends left_is ends_page =
    let end : ℕ = place + length front + more in (
      spelled row ∷ [],
      end,
      (end, line_there width bits place row front rest more spells wide split ends, refl),
      subst EndsPage (sym left_is) ends_page,
      λ before. refl,
      λ number. refl,
    )

-- the bits after an EOL after a row
after_line : (bits : List Bool) (place : ℕ) (front rest : List Bool) (count : ℕ) (left : List Bool) → drop place bits ≡ front ++ rest
    → rest ≡ eol_word count ++ left → drop (place + length front + (count + 1)) bits ≡ left
after_line bits place front rest count left split eol =
    let rest_is : drop (place + length front) bits ≡ rest = drop_on bits front rest place (place + length front) split refl in
    drop_on bits (eol_word count) left (place + length front) (place + length front + (count + 1)) (rest_is ∙ eol) (omega (
      arith,
      length-eol count,
    ))

end_lines : (width : ℕ) (bits : List Bool) (place : ℕ) (row : List Color) (front rest : List Bool) (last : ℕ) → SpellsRow row front
    → length row ≡ width → drop place bits ≡ front ++ rest → IsEnd rest last → AreLines width bits place (row ∷ [])
end_lines width bits place row front rest last spells wide split (inl bare) =
    last_line width bits place row front rest 0 rest spells wide split (inl (bare.0, refl)) (drop_on bits front rest place (place + length
    front + 0) split (omega arith)) (inl bare.0)
end_lines width bits place row front rest last spells wide split (inr (inl one)) =
    last_line width bits place row front rest (one.0 + 1) one.1 spells wide split (inr (inl (one.0, one.1, one.2, one.3, refl))) (after_line
    bits place front rest one.0 one.1 split one.3) (inl one.4)
end_lines width bits place row front rest last spells wide split (inr (inr end)) = two end.0 end.2 end.3
  where
    two : (eols : List ℕ) → AreEols 6 rest eols end.1 → 2 ≤ length eols → AreLines width bits place (row ∷ [])
    two [] are some = absurd (omega arith)
    two (a ∷ []) are some = absurd (omega arith)
    two (a ∷ b ∷ eols) are some =
        let left : List Bool = eol_word b ++ (eol_words eols ++ end.1) in
        let eol : rest ≡ eol_word a ++ left = are.split ∙ (append_assoc (eol_word a) (eol_word b ++ eol_words eols) end.1 ∙
        ap (λ (l : List Bool). eol_word a ++ l) (append_assoc (eol_word b) (eol_words eols) end.1)) in
        last_line width bits place row front rest (a + 1) left spells wide split (inr (inl (a, left, are.long.0, eol, refl))) (after_line
        bits place front rest a left split eol) (inr (b, eol_words eols ++ end.1, are.long.1.0, refl))

later_lines : (width : ℕ) (bits : List Bool) (later : List (List Color)) (place : ℕ) (row : List Color) (front after rest : List Bool)
    (last : ℕ) → SpellsRow row front → length row ≡ width → SpellsLater width later after → drop place bits ≡ front ++ (after ++ rest)
    → IsEnd rest last → AreLines width bits place (row ∷ later)
later_lines width bits [] place row front after rest last spells wide each split ends =
    let here : drop place bits ≡ front ++ rest = split ∙ ap (λ (l : List Bool). front ++ (l ++ rest)) each in
    end_lines width bits place row front rest last spells wide here ends
later_lines width bits (next ∷ later) place row front after rest last spells wide each split ends =
    let count : ℕ = each.0 in
    let left : List Bool = each.1 ++ (each.2 ++ rest) in
    let eol : after ++ rest ≡ eol_word count ++ left = ap (λ (l : List Bool). l ++ rest) each.7 ∙
    (append_assoc (eol_word count) (each.1 ++ each.2) rest ∙
    ap (λ (l : List Bool). eol_word count ++ l) (append_assoc each.1 each.2 rest)) in
    let place_next : ℕ = place + length front + (count + 1) in
    let more = later_lines width bits later place_next next each.1 each.2 rest last each.4 each.5 each.6 (after_line bits place front (after
    ++ rest) count left split eol) ends in (
      spelled row ∷ more.0,
      more.1,
      (
        place_next,
        line_there width bits place row front (after ++ rest) (count + 1) spells wide split (inr (inl (count, left, each.3, eol, refl))),
        more.2,
      ),
      more.3,
      λ before. ap (λ (rows : List (List Color)). row ∷ rows) (more.4 row),
      λ number. more.5 (number + 1),
    )

pub repairs_nothing : RepairsNothing
repairs_nothing width bits rows used wide reads = begun reads.lead reads.leads reads.split
  where
    words : reads.bits ++ reads.rest ≡ reads.rows.front ++ (reads.rows.after ++ reads.rest)
    words = ap (λ (l : List Bool). l ++ reads.rest) reads.rows.split ∙ append_assoc reads.rows.front reads.rows.after reads.rest

    from : (start : ℕ) → IsFirstLine bits start → drop start bits ≡ reads.bits ++ reads.rest → IsRepair width bits rows []
    from start first here =
        let lines = later_lines width bits reads.rows.later start reads.rows.row reads.rows.front reads.rows.after reads.rest reads.last
        reads.rows.spells reads.rows.wide reads.rows.each (here ∙ words) reads.ends in
        record {
          place = lines.1;
          given_to = record {
            start = start;
            lines = lines.0;
            first = first;
            walk = lines.2;
            rows_are = reads.rows.rows_are ∙ sym (lines.4 (white_row width));
            repaired_are = sym (lines.5 1);
          };
          ends = lines.3;
          few = reads.few;
        }

    begun : (lead : List Bool) → IsLead lead → bits ≡ lead ++ (reads.bits ++ reads.rest) → IsRepair width bits rows []
    begun lead (inl none) split =
        let here : bits ≡ reads.bits ++ reads.rest = split ∙ ap (λ (l : List Bool). l ++ (reads.bits ++ reads.rest)) none in
        let code : CodeBegins bits = subst CodeBegins (sym (here ∙ words)) (row_begins width reads.rows.row reads.rows.front
        (reads.rows.after ++ reads.rest) wide reads.rows.wide reads.rows.spells) in
        from 0 (inr (λ eol. code_no_end bits code (inr eol), refl)) here
    begun lead (inr eol) split =
        let here : bits ≡ eol_word eol.0 ++ (reads.bits ++ reads.rest) = split ∙
        ap (λ (l : List Bool). l ++ (reads.bits ++ reads.rest)) eol.2 in
        from (eol.0 + 1) (inl (eol.0, reads.bits ++ reads.rest, eol.1, here, refl)) (drop_on bits (eol_word eol.0) (reads.bits ++
        reads.rest)
        0 (eol.0 + 1) here (omega (arith, length-eol eol.0)))

-- Bits give one page

pair_left : {A B : Type 0} (a c : A) (b d : B) → ◌≡◌ {A = A × B} (a, b) (c, d) → a ≡ c
pair_left a c b d e = ap (λ (p : _ × _). p.0) e

pair_right : {A B : Type 0} (a c : A) (b d : B) → ◌≡◌ {A = A × B} (a, b) (c, d) → b ≡ d
pair_right a c b d e = ap (λ (p : _ × _). p.1) e

one_row : (width : ℕ) (x : List Bool) (row other : List Color) (used more : ℕ) → IsWidth width → ReadsAsRow width x row used
    → ReadsAsRow width x other more → (row ≡ other) × (used ≡ more)
one_row width x row other used more wide one two =
    let both : ◌≡◌ {A = Result (List Color × ℕ) (ℕ × CodeFaultKind)} (Ok (row, used)) (Ok (other, more)) = sym ((reads_rows_exactly width x
    row used wide).1 one) ∙ (reads_rows_exactly width x other more wide).1 two in
    let pair : ◌≡◌ {A = List Color × ℕ} (row, used) (other, more) = cc in
    (pair_left row other used more pair, pair_right row other used more pair)

one_front_length : (width : ℕ) (x : List Bool) (a b : ℕ) (kind other : CodeFaultKind) → IsLongestFront width x a kind
    → IsLongestFront width x b other → a ≡ b
one_front_length width x a b kind other one two = omega (
  arith,
  one.place_is,
  two.place_is,
  one.longest two.items two.front,
  two.longest one.items one.front,
)

one_count : (width : ℕ) (x : List Bool) (a b : ℕ) → IsWidth width → IsReadFor width x a → IsReadFor width x b → a ≡ b
one_count width x a b wide (inl one) (inl two) = one_front_length width x a b one.0 two.0 one.1 two.1
one_count width x a b wide (inl one) (inr two) = absurd (one.2 two.0 b two.1)
one_count width x a b wide (inr one) (inl two) = absurd (two.2 one.0 a one.1)
one_count width x a b wide (inr one) (inr two) = (one_row width x one.0 two.0 a b wide one.1 two.1).1

-- a line that is read isn't broken
read_unbroken : (width : ℕ) (bits : List Bool) (place next other bit : ℕ) (row : List Color) → IsWidth width
    → IsLine width bits place (spelled row) next → IsLine width bits place (broken bit) other → ⊥
read_unbroken width bits place next other bit row wide one two = seen two.3
  where
    seen : IsReadFor width (drop place bits) two.0 → ⊥
    seen (inl none) = none.2 row one.0 one.2
    seen (inr no_end) =
        let same : one.0 ≡ two.0 = (one_row width (drop place bits) row no_end.0 one.0 two.0 wide one.2 no_end.1).1 in
        let count : drop (place + one.0) bits ≡ drop two.0 (drop place bits) = ap (λ (n : ℕ). drop (place + n) bits) same ∙ sym (drop-drop
        two.0 place bits) in
        let row_is : row ≡ no_end.0 = (one_row width (drop place bits) row no_end.0 one.0 two.0 wide one.2 no_end.1).0 in
        no_end.2 one.1 (subst (λ (r : List Color). EndsRow r (drop two.0 (drop place bits)) one.1) row_is
        (subst (λ (l : List Bool). EndsRow row l one.1) count one.3))

one_line : (width : ℕ) (bits : List Bool) (place next other : ℕ) (line line_too : Line) → IsWidth width
    → IsLine width bits place line next → IsLine width bits place line_too other → (line ≡ line_too) × (next ≡ other)
one_line width bits place next other (spelled row) (spelled row_too) wide one two =
    let same = one_row width (drop place bits) row row_too one.0 two.0 wide one.2 two.2 in
    let there : EndsRow row_too (drop (place + one.0) bits) two.1 = subst (λ (n : ℕ). EndsRow row_too (drop (place + n) bits) two.1) (sym
    same.1) two.3 in
    let ends : EndsRow row (drop (place + one.0) bits) two.1 = subst (λ (r : List Color). EndsRow r (drop (place + one.0) bits) two.1) (sym
    same.0) there in
    let more = one_row_end row (drop (place + one.0) bits) one.1 two.1 one.3 ends in
    (ap spelled same.0, omega (arith, same.1, more, one.4, two.4))
one_line width bits place next other (spelled row) (broken bit) wide one two =
    absurd (read_unbroken width bits place next other bit row wide one two)
one_line width bits place next other (broken bit) (spelled row) wide one two =
    absurd (read_unbroken width bits place other next bit row wide two one)
one_line width bits place next other (broken bit) (broken bit_too) wide one two =
    let count = one_count width (drop place bits) one.0 two.0 wide one.3 two.3 in
    let more = one_skip (drop place bits) one.1 two.1 one.4 two.4 in
    let bits_are : bit ≡ bit_too = omega (arith, count, one.5, two.5) in
    (ap broken bits_are, omega (arith, more, one.6, two.6))

line_begins : (width : ℕ) (bits : List Bool) (place next : ℕ) (line : Line) → IsWidth width → IsLine width bits place line next
    → ¬ EndsPage (drop place bits)
line_begins width bits place next (spelled row) wide there = code_no_end (drop place bits) (read_begins width (drop place bits) row there.0
    wide there.2)
line_begins width bits place next (broken bit) wide there = there.2

same_lines : (width : ℕ) (bits : List Bool) (lines others : List Line) (place end end_too : ℕ) → IsWidth width
    → Walk (IsLine width bits) place lines end → Walk (IsLine width bits) place others end_too → EndsPage (drop end bits)
    → EndsPage (drop end_too bits) → lines ≡ others
same_lines width bits [] [] place end end_too wide one two ends ends_too = refl
same_lines width bits [] (line ∷ others) place end end_too wide one two ends ends_too =
    absurd (line_begins width bits place two.0 line wide two.1 (subst (λ (n : ℕ). EndsPage (drop n bits)) (sym one) ends))
same_lines width bits (line ∷ lines) [] place end end_too wide one two ends ends_too =
    absurd (line_begins width bits place one.0 line wide one.1 (subst (λ (n : ℕ). EndsPage (drop n bits)) (sym two) ends_too))
same_lines width bits (line ∷ lines) (line_too ∷ others) place end end_too wide one two ends ends_too =
    let same = one_line width bits place one.0 two.0 line line_too wide one.1 two.1 in
    let later : Walk (IsLine width bits) one.0 others end_too = subst (λ (n : ℕ). Walk (IsLine width bits) n others end_too) (sym same.1)
    two.2 in
    ap (λ (l : Line). l ∷ lines) same.0 ∙ ap (λ (ls : List Line). line_too ∷ ls) (same_lines width bits lines others one.0 end end_too wide
    one.2 later ends ends_too)

one_first : (bits : List Bool) (a b : ℕ) → IsFirstLine bits a → IsFirstLine bits b → a ≡ b
one_first bits a b (inl one) (inl two) = one_end bits a b (inr (inl one)) (inr (inl two))
one_first bits a b (inl one) (inr two) = absurd (two.0 (one.0, one.1, one.2, one.3))
one_first bits a b (inr one) (inl two) = absurd (one.0 (two.0, two.1, two.2, two.3))
one_first bits a b (inr one) (inr two) = one.1 ∙ sym two.1

pub one_repair : OneRepair
one_repair width bits rows others repaired repaired_too wide one two =
    let first = one_first bits one.given_to.start two.given_to.start one.given_to.first two.given_to.first in
    let walk : Walk (IsLine width bits) one.given_to.start two.given_to.lines two.place = subst (λ (n : ℕ). Walk (IsLine width bits) n
    two.given_to.lines two.place) (sym first) two.given_to.walk in
    let lines = same_lines width bits one.given_to.lines two.given_to.lines one.given_to.start one.place two.place wide one.given_to.walk
    walk one.ends two.ends in (
      one.given_to.rows_are ∙ (ap (rows_given (white_row width)) lines ∙ sym two.given_to.rows_are),
      one.given_to.repaired_are ∙ (ap (repaired_in 1) lines ∙ sym two.given_to.repaired_are),
    )

-- A page that can be read is given as it is

-- a walk that ends where no line begins has all lines
no_further : (width : ℕ) (bits : List Bool) (lines others : List Line) (place end end_too : ℕ) → IsWidth width
    → Walk (IsLine width bits) place lines end → Walk (IsLine width bits) place others end_too → EndsPage (drop end bits)
    → ¬ EndsPage (drop end_too bits) → length lines ≤ length others → ⊥
no_further width bits [] [] place end end_too wide one two ends begins few =
    begins (subst (λ (n : ℕ). EndsPage (drop n bits)) (sym one ∙ two) ends)
no_further width bits [] (line ∷ others) place end end_too wide one two ends begins few =
    line_begins width bits place two.0 line wide two.1 (subst (λ (n : ℕ). EndsPage (drop n bits)) (sym one) ends)
no_further width bits (line ∷ lines) [] place end end_too wide one two ends begins few = omega (arith, few)
no_further width bits (line ∷ lines) (line_too ∷ others) place end end_too wide one two ends begins few =
    let same = one_line width bits place one.0 two.0 line line_too wide one.1 two.1 in
    let later : Walk (IsLine width bits) one.0 others end_too = subst (λ (n : ℕ). Walk (IsLine width bits) n others end_too) (sym same.1)
    two.2 in
    no_further width bits lines others one.0 end end_too wide one.2 later ends begins (omega (arith, few))

no_more_lines : (width : ℕ) (bits : List Bool) (rows : List (List Color)) (repaired : List RepairedRow) (fault : CodeFault) → IsWidth width
    → IsRepair width bits rows repaired → HasMoreLines width bits fault → ⊥
no_more_lines width bits rows repaired fault wide is more =
    let first = one_first bits is.given_to.start more.given_to.start is.given_to.first more.given_to.first in
    let walk : Walk (IsLine width bits) is.given_to.start more.given_to.lines fault.place = subst (λ (n : ℕ). Walk (IsLine width bits) n
    more.given_to.lines fault.place) (sym first) more.given_to.walk in
    no_further width bits is.given_to.lines more.given_to.lines is.given_to.start is.place fault.place wide is.given_to.walk walk is.ends
    more.begins (omega (
      arith,
      is.few,
      more.full,
      ap length is.given_to.rows_are,
      ap length more.given_to.rows_are,
      length-given (white_row width) is.given_to.lines,
      length-given (white_row width) more.given_to.lines,
    ))

module _ (width : ℕ) (bits : List Bool) (wide : IsWidth width) where
  pub whole_ok : (given : List (List Color)) (repaired : List RepairedRow) (rows : List (List Color)) (used : ℕ)
      → IsRepair width bits given repaired → ReadsAs width bits rows used → (given ≡ rows) × (repaired ≡ [])
  whole_ok given repaired rows used is reads = one_repair width bits given rows repaired [] wide is (repairs_nothing width bits rows used
      wide reads)

  pub whole_err : (fault : CodeFault) (rows : List (List Color)) (used : ℕ) → (fault.kind ≡ NoMemory) ⊎ HasMoreLines width bits fault
      → ReadsAs width bits rows used → fault.kind ≡ NoMemory
  whole_err fault rows used (inl memory) reads = memory
  whole_err fault rows used (inr more) reads =
      absurd (no_more_lines width bits rows [] fault wide (repairs_nothing width bits rows used wide reads) more)

  -- a fault as the whole call answers it
  pub begun : (fault answer : CodeFault) → BegunAt 0 fault answer → (fault.kind ≡ NoMemory) ⊎ HasMoreLines width bits fault
      → (answer.kind ≡ NoMemory) ⊎ HasMoreLines width bits answer
  begun fault answer (inl memory) is = inl (ap (λ (f : CodeFault). f.kind) memory.1)
  begun fault answer (inr same) (inl memory) = absurd (same.0 memory)
  begun fault answer (inr same) (inr more) = inr (subst (λ (f : CodeFault). HasMoreLines width bits f) (sym same.1) more)

  pub refused : (fault : CodeFault) → (fault.kind ≡ NoMemory) ⊎ HasMoreLines width bits fault → fault.kind ≢ NoMemory
      → HasNoRow width bits fault ⊎ HasMoreLines width bits fault
  refused fault (inl memory) other = absurd (other memory)
  refused fault (inr more) other = inr more

  -- where all rows are repaired, the page can't be read
  pub reads_no_page : (given : List (List Color)) (repaired : List RepairedRow) (rows : List (List Color)) (used : ℕ)
      → IsRepair width bits given repaired → ¬ (length repaired < length given) → ReadsAs width bits rows used → ⊥
  reads_no_page given repaired rows used is all reads =
      let same = whole_ok given repaired rows used is reads in
      let some : 0 < length rows = omega (arith, ap length reads.rows.rows_are) in
      all (omega (arith, some, ap length same.0, ap length same.1))

  pub no_row : (given : List (List Color)) (repaired : List RepairedRow) (fault : CodeFault) → IsRepair width bits given repaired
      → ¬ (length repaired < length given) → RefusesPage ReadsAs IsLongestPage width bits fault → HasNoRow width bits fault
  no_row given repaired fault is all refuses = record {
    rows = given;
    repaired = repaired;
    gives = is;
    all = all_repaired width bits given repaired is all;
    refuses = refuses;
  }

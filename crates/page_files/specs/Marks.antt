-- The mark that ends a page's code: RTC (ITU-T T.4, 4.1.4) or EOFB (ITU-T T.6, 2.4.1.1). It is looked for in a page that can't be read to its
-- end, so that the page after it is found.
use Rattle.std.specs.Prelude.{ℕ, zero, suc, ◌+◌, List, [], ◌∷◌, Option, Some, None, cond, if◌then◌else◌, nat_le}
use Rattle.page_code.specs.declared.Coding.{Coding}
use Rattle.page_code.specs.declared.Coding.TheVariants.{OneDim, T6}
use Rattle.page_files.specs.PageEnds.{begin_eols, gaps}
use Rattle.page_files.specs.declared.options.PageForm.{PageForm}
use Rattle.raster.specs.Packed.{bits_of}

-- how many EOLs the mark has: RTC six, EOFB two
abbrev pub mark_eols : Coding → ℕ
mark_eols OneDim = 6
mark_eols T6 = 2

-- How many EOLs that follow one another show it. A row of T.4 has one EOL before it; in rows of T.6 there is none.
abbrev pub shown_by : Coding → ℕ
shown_by OneDim = 2
shown_by T6 = 1

-- the bit after so many EOLs that follow one another from a bit on, if these gaps are the 0 bits before each 1 from there on
abbrev pub eols_end : ℕ → ℕ → List ℕ → Option ℕ
eols_end zero from all = Some from
eols_end (suc more) from [] = None
eols_end (suc more) from (gap ∷ later) = cond (nat_le 11 gap) (eols_end more (from + (gap + 1)) later) None

-- The bit after the mark, if these are the gaps from a bit on. The first EOLs that show a mark have to be its own: if the mark is damaged,
-- that of a later page isn't taken for it.
abbrev pub mark_end : Coding → ℕ → List ℕ → Option ℕ
mark_end coding from [] = None
mark_end coding from (gap ∷ later) = if begin_eols (shown_by coding) (gap ∷ later)
    then eols_end (mark_eols coding) from (gap ∷ later)
    else mark_end coding (from + (gap + 1)) later

-- the bit after the mark of the page that octets begin with
abbrev pub end_of_mark : PageForm → List ℕ → Option ℕ
end_of_mark form octets = mark_end form.coding 0 (gaps 0 (bits_of form.order octets))

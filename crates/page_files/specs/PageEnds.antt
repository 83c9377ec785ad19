-- How the code of a page ends.
use Rattle.std.specs.Prelude.{ℕ, zero, suc, ◌≡◌, ◌≤◌, ◌<◌, ◌-◌, ◌+◌, ◌&&◌, Bool, true, false, List, [], ◌∷◌, ◌++◌, length, replicate, take}
use Rattle.std.specs.Prelude.{Option, Some, None, IsTrue, ◌↔◌, not, if◌then◌else◌, nat_le}
use Rattle.std.specs.List.{AllByRecursion}
use Rattle.raster.specs.declared.packed.Order.{Order}
use Rattle.raster.specs.Packed.{bit_in, bits_in, bits_of}
use Rattle.page_code.specs.OneDimension.Pages.{eol_word, eol_words}
use Rattle.page_code.specs.declared.Coding.{Coding}
use Rattle.page_code.specs.declared.Coding.TheVariants.{OneDim, T6}
use Rattle.page_files.specs.declared.decoding.ReadTo.{ReadTo}
use Rattle.page_files.specs.declared.decoding.ReadTo.TheVariants as to
use Rattle.page_files.specs.declared.options.PageForm.{PageForm}

-- The bits end with RTC: six EOLs with nothing between them, each of eleven 0 bits or more and a 1 (ITU-T T.4, 4.1.2 to 4.1.4), and
-- after them nothing but fill.
pub record EndsByRtc (x : List Bool) : Type 0 where
  pub front : List Bool
  pub eols : List ℕ
  pub fill : ℕ
  pub six : length eols ≡ 6
  pub long : AllByRecursion (λ count. 11 ≤ count) eols
  pub split : x ≡ front ++ (eol_words eols ++ replicate fill false)

-- the first `end` bits end with an EOL that begins at `start`, fill included; or they end with no EOL
abbrev pub FindsEol : Order → List ℕ → ℕ → Option ℕ → Type 0
FindsEol order octets end (Some start) =
    (start + 12 ≤ end) × (bits_in order octets end ≡ bits_in order octets start ++ eol_word (end - 1 - start))
    × (0 < start → bit_in order octets (start - 1) ≡ true)
FindsEol order octets end None = (front : List Bool) (count : ℕ) → 11 ≤ count → bits_in order octets end ≡ front ++ eol_word count → ⊥

-- The code of a page, the first bits of the octets, has its end: in T.4 RTC; in T.6 always, since a page without EOFB is refused.
abbrev pub HasItsEnd : Coding → Order → List ℕ → ℕ → Type 0
HasItsEnd OneDim order octets bits = EndsByRtc (take bits (bits_of order octets))
HasItsEnd T6 order octets bits = Unit {0}

-- ---- where the lines of a page end that is read line by line

-- how many 0 bits come before each 1 of the bits, the first after so many already
unfoldable pub gaps : ℕ → List Bool → List ℕ
gaps before [] = []
gaps before (true ∷ x) = before ∷ gaps 0 x
gaps before (false ∷ x) = gaps (suc before) x

-- this number of EOLs come first: eleven 0 bits or more before each of the first 1 bits (ITU-T T.4, 4.1.2)
abbrev pub begin_eols : ℕ → List ℕ → Bool
begin_eols zero all = true
begin_eols (suc more) [] = false
begin_eols (suc more) (gap ∷ later) = nat_le 11 gap && begin_eols more later

-- the first EOL that another one follows at once is the first of six, RTC (ITU-T T.4, 4.1.4); no line begins with an EOL
abbrev pub first_eols_are_rtc : List ℕ → Bool
first_eols_are_rtc [] = false
first_eols_are_rtc (gap ∷ later) =
    if begin_eols 2 (gap ∷ later) then begin_eols 6 (gap ∷ later) else first_eols_are_rtc later

-- the lines of a page of T.4 end with RTC
abbrev pub lines_end_by_rtc : Order → List ℕ → Bool
lines_end_by_rtc order octets = first_eols_are_rtc (gaps 0 (bits_of order octets))

-- ---- a page that was decoded

-- the code of a page that was read so far lacks its end, RTC or EOFB; that isn't known of one that is refused
abbrev pub LacksEnd : PageForm → List ℕ → ReadTo → Bool → Type 0
LacksEnd form octets (to.End bits) lacks =
    (has_end : Bool) × (IsTrue has_end ↔ HasItsEnd form.coding form.order octets bits) × (lacks ≡ not has_end)
LacksEnd form octets (to.NoEnd bit) lacks = lacks ≡ true
LacksEnd form octets (to.Lines repaired) lacks = lacks ≡ not (lines_end_by_rtc form.order octets)
LacksEnd form octets (to.Fault refused) lacks = lacks ≡ false

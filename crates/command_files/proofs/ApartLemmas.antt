-- Files that are apart, one after the other; and files that come after others.
use Rattle.std.proofs.Common.{◌≡◌, ◌<◌, ◌≤◌, ◌+◌, ◌-◌, ◌++◌, ◌∷◌, ◌∙◌, ℕ, [], List, ap, arith, drop, false, length, map, refl, slice_index_or}
use Rattle.std.proofs.Common.{subst, sym, take}
use Rattle.std.specs.Prelude.{Err, Ok, OnOk, Result, flat_map}
use Rattle.std.proofs.lemmas.List.{append-nil, append_assoc, flat_map_more, map-append, take_all, take_more}
use Rattle.command_files.specs.Apart.{AddsFiles, AreApart, AreApartBefore, IsApartFrom, NamedFile, are_one, named}
use Rattle.command_files.specs.declared.files.apart.CommandFile.{CommandFile}

-- what is left begins with its first item
pub left_split : {A : Type 0} (left : List A) (item default : A) → 1 ≤ length left → item ≡ slice_index_or left 0 default
    → left ≡ item ∷ take (length left - 1) (drop 1 left)
left_split [] item default some is = absurd (omega (arith, some))
left_split (first ∷ left) item default some is =
    ap (λ one. one ∷ left) (sym is) ∙ ap (λ rest. item ∷ rest) (sym (take_all (length (first ∷ left) - 1) left (omega arith)))

-- the first item of what is left joins those before it
pub one_passed : {A : Type 0} (all before left : List A) (item default : A) → all ≡ before ++ left → 1 ≤ length left
    → item ≡ slice_index_or left 0 default → all ≡ (before ++ item ∷ []) ++ take (length left - 1) (drop 1 left)
one_passed all before left item default split some is =
    split ∙ (ap (λ l. before ++ l) (left_split left item default some is)
    ∙ sym (append_assoc before (item ∷ []) (take (length left - 1) (drop 1 left))))

-- the first item of what is left, with those before it and those after it
pub found_there : {A : Type 0} (all before left : List A) (item default : A) → all ≡ before ++ left → 1 ≤ length left
    → item ≡ slice_index_or left 0 default → all ≡ before ++ item ∷ take (length left - 1) (drop 1 left)
found_there all before left item default split some is = split ∙ ap (λ l. before ++ l) (left_split left item default some is)

-- one more file is apart
pub apart_more : (file other : CommandFile) (before : List CommandFile) → IsApartFrom file before → are_one file other ≡ false
    → IsApartFrom file (before ++ other ∷ [])
apart_more file other [] all one = (one, tt)
apart_more file other (first ∷ before) all one = (all.0, apart_more file other before all.1 one)

-- the next file is apart from those after it, and so joins those that come first
pub before_more : (file : CommandFile) (before left : List CommandFile) → AreApartBefore before (file ∷ left) → IsApartFrom file left
    → AreApartBefore (before ++ file ∷ []) left
before_more file [] left all one = (one, tt)
before_more file (first ∷ before) left all one =
    (subst (IsApartFrom first) (sym (append_assoc before (file ∷ []) left)) all.0, before_more file before left all.1 one)

-- no file is left, so all come first
pub before_all : (files before left : List CommandFile) → files ≡ before ++ left → length left < 1 → AreApartBefore before left
    → AreApart files
before_all files [] [] split none all = subst AreApart (sym split) tt
before_all files (file ∷ before) [] split none all = subst AreApart (sym split)
    (all.0, before_all (before ++ []) before [] refl none all.1)
before_all files before (file ∷ left) split none all = absurd (omega (arith, none))

-- no file more
pub adds_none : (old : List CommandFile) → AddsFiles [] old old
adds_none old = ([], refl, sym (append-nil old))

-- files, and then others
pub adds_more : (first second : List NamedFile) (old mid new : List CommandFile) → AddsFiles first old mid → AddsFiles second mid new
    → AddsFiles (first ++ second) old new
adds_more first second old mid new (one, is_one, to_mid) (other, is_other, to_new) = (
  one ++ other,
  map-append named one other ∙ (ap (λ l. l ++ map named other) is_one ∙ ap (λ l. first ++ l) is_other),
  to_new ∙ (ap (λ l. l ++ other) to_mid ∙ append_assoc old one other),
)

-- files, and then others, unless memory is refused for them
pub adds_on : {E : Type 0} (result : Result (Unit {0}) E) (first second : List NamedFile) (old mid new : List CommandFile)
    → AddsFiles first old mid → OnOk result (AddsFiles second mid new) → OnOk result (AddsFiles (first ++ second) old new)
adds_on (Ok done) first second old mid new one other = adds_more first second old mid new one other
adds_on (Err refused) first second old mid new one other = tt

-- the files of one more item
pub adds_item : {A : Type 0} (files_of : A → List NamedFile) (items : List A) (at : ℕ) (default : A) (old mid new : List CommandFile)
    → at < length items → AddsFiles (flat_map files_of (take at items)) old mid
    → AddsFiles (files_of (slice_index_or items at default)) mid new → AddsFiles (flat_map files_of (take (at + 1) items)) old new
adds_item files_of items at default old mid new within before one =
    let more : flat_map files_of (take (at + 1) items) ≡ flat_map files_of (take at items) ++ files_of (slice_index_or items at default) =
    ap (flat_map files_of) (take_more items at default within)
    ∙ sym (flat_map_more files_of [] (take at items) (slice_index_or items at default)) in
    subst (λ l. AddsFiles l old new) (sym more) (adds_more _ _ old mid new before one)

-- the files of all items
pub adds_items : {A : Type 0} (files_of : A → List NamedFile) (items : List A) (at : ℕ) (old new : List CommandFile)
    → length items ≤ at → AddsFiles (flat_map files_of (take at items)) old new → AddsFiles (flat_map files_of items) old new
adds_items files_of items at old new all before = subst (λ l. AddsFiles (flat_map files_of l) old new) (take_all at items all) before

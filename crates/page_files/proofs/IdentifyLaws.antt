-- What `decode --each` does beside what `identify` says.
use Rattle.std.proofs.Common.{ℕ, ◌≡◌, ◌∙◌, Bool, true, false, List, [], ◌∷◌, ◌++◌, Some, None, ap, append_assoc, inr, refl, subst}
use Rattle.std.specs.Prelude.{Option, cond, find}
use Rattle.page_files.specs.Found.{IsAgreedBy, best_of, found_by, or_way}
use Rattle.page_files.specs.Identified.{fits_one, format_line, identity_of, lines_of, tried_line, tried_widths}
use Rattle.page_files.specs.IdentifyLaws.{FindsWhatIsSaid, FirstLineIsBest}
use Rattle.page_files.specs.declared.identify.Fit.{Fit}
use Rattle.page_files.specs.declared.identify.Fit.TheVariants.{Whole, NoEofb, Early, Mended}
use Rattle.page_files.specs.declared.identify.Identity.{Identity}
use Rattle.page_files.specs.declared.identify.Tried.{Tried}

module _ (fit : Fit) (octets : List ℕ) where
  -- no way fits, and no line is written
  no_lines : (tried : List Tried) → find (fits_one fit octets) tried ≡ None → lines_of fit octets tried ≡ []
  no_lines [] none = refl
  no_lines (one ∷ more) none = with_fit (fits_one fit octets one) refl (no_lines more)
    where
      with_fit : (b : Bool) → fits_one fit octets one ≡ b → (find (fits_one fit octets) more ≡ None → lines_of fit octets more ≡ [])
          → lines_of fit octets (one ∷ more) ≡ []
      with_fit true is later = cc
      with_fit false is later =
          let none_more : find (fits_one fit octets) more ≡ None = rw is at none in
          ap (λ (b : Bool). cond b (tried_line octets one) [] ++ lines_of fit octets more) is ∙ later none_more

  -- the first line is that of the first way that fits
  first_line : (tried : List Tried) (first : Tried) → find (fits_one fit octets) tried ≡ Some first
      → (rest : List ℕ) × (lines_of fit octets tried ≡ tried_line octets first ++ rest)
  first_line [] first none = cc
  first_line (one ∷ more) first found = with_fit (fits_one fit octets one) refl (first_line more first)
    where
      with_fit : (b : Bool) → fits_one fit octets one ≡ b
          → (find (fits_one fit octets) more ≡ Some first
          → (rest : List ℕ) × (lines_of fit octets more ≡ tried_line octets first ++ rest))
          → (rest : List ℕ) × (lines_of fit octets (one ∷ more) ≡ tried_line octets first ++ rest)
      with_fit true is later =
          let same : one ≡ first = cc in (
            lines_of fit octets more,
            ap (λ (b : Bool). cond b (tried_line octets one) [] ++ lines_of fit octets more) is
                ∙ ap (λ (t : Tried). tried_line octets t ++ lines_of fit octets more) same,
          )
      with_fit false is later =
          let found_more : find (fits_one fit octets) more ≡ Some first = rw is at found in
          let line = later found_more in (
            line.0,
            ap (λ (b : Bool). cond b (tried_line octets one) [] ++ lines_of fit octets more) is ∙ line.1,
          )

  -- the first line of those of this fit and of others
  first_of : (tried : List Tried) (other : Option Tried) (others : List ℕ) (one : Tried)
      → or_way (find (fits_one fit octets) tried) other ≡ Some one
      → (other ≡ Some one → (rest : List ℕ) × (others ≡ tried_line octets one ++ rest))
      → (rest : List ℕ) × (lines_of fit octets tried ++ others ≡ tried_line octets one ++ rest)
  first_of tried other others one is later = with_found (find (fits_one fit octets) tried) refl
    where
      with_found : (found : Option Tried) → find (fits_one fit octets) tried ≡ found
          → (rest : List ℕ) × (lines_of fit octets tried ++ others ≡ tried_line octets one ++ rest)
      with_found (Some first) e =
          let best : or_way (Some first) other ≡ Some one = rw e at is in
          let same : first ≡ one = cc in
          let line = first_line tried first e in (
            line.0 ++ others,
            ap (λ (l : List ℕ). l ++ others) line.1 ∙ (append_assoc (tried_line octets first) line.0 others
                ∙ ap (λ (t : Tried). tried_line octets t ++ (line.0 ++ others)) same),
          )
      with_found None e =
          let found = later (rw e at is) in
          (found.0, ap (λ (l : List ℕ). l ++ others) (no_lines tried e) ∙ found.1)

pub first_line_is_best : FirstLineIsBest
first_line_is_best octets tried one no_format best =
    let pages = first_of Whole octets tried _ (lines_of NoEofb octets tried ++ (lines_of Early octets tried ++ lines_of Mended octets tried))
    one best (λ two. first_of NoEofb octets tried _ (lines_of Early octets tried ++ lines_of Mended octets tried) one two
    (λ three. first_of Early octets tried _ (lines_of Mended octets tried) one three (λ four. first_line Mended octets tried one four))) in (
      pages.0,
      ap (λ (name : Option (List ℕ)). format_line name ++ (lines_of Whole octets tried ++ (lines_of NoEofb octets tried
          ++ (lines_of Early octets tried ++ lines_of Mended octets tried)))) no_format ∙ pages.1,
    )

pub finds_what_is_said : FindsWhatIsSaid
finds_what_is_said octets before after identity said two agreed damaged no_format are_two is_agreed is = inr (
  no_format,
  record {
    tried = said.tried;
    own = said.own;
    are_tried = said.are_tried;
    two = two;
    are_two = are_two;
    agreed = agreed;
    is_agreed = subst (λ (i : Identity). IsAgreedBy i tried_widths octets agreed) same is_agreed;
    damaged = damaged;
    is_damaged = is;
    found_is = ap (λ (i : Identity). found_by i (best_of octets said.tried) damaged) same;
  },
)
  where
    same : identity ≡ identity_of None octets said.tried
    same = said.identity_is ∙ ap (λ (name : Option (List ℕ)). identity_of name octets said.tried) no_format

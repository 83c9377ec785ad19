-- What is known of the pages in a store.
use Rattle.std.specs.Prelude.{ℕ, ◌≤◌, ◌≡◌, ◌++◌, ◌∷◌, [], List, length}
use Rattle.conversations.specs.Answering.{StoreStep}
use Rattle.raster.specs.Pages.{PagePixels}

-- what is known of the pages in a store: how many there are at least, or which they are
pub data Stock : Type 0 where
  at_least : ℕ → Stock
  exactly : List PagePixels → Stock

-- pages of which this is known
abbrev pub IsStock : Stock → List PagePixels → Type 0
IsStock (at_least count) pages = count ≤ length pages
IsStock (exactly each) pages = pages ≡ each

-- what is known of a store stays true: a page that is stored comes after those before, and one that is refused isn't among them
pub record IsStore (P : Type 0) (stores refuses : StoreStep P) (stock : P → Stock) : Type 0 where
  pub stored : (old : P) (page : PagePixels) (new : P) → stores old page new →
      (pages : List PagePixels) → IsStock (stock old) pages → IsStock (stock new) (pages ++ page ∷ [])
  pub refused : (old : P) (page : PagePixels) (new : P) → refuses old page new →
      (pages : List PagePixels) → IsStock (stock old) pages → IsStock (stock new) pages

-- what is known of the pages that count as stored of a holder stays true: one that is handed over or refused isn't among them, and one that
-- is counted comes after those before
pub record IsHolder (P : Type 0) (hands refuses counts : StoreStep P) (stock : P → Stock) : Type 0 where
  pub handed : (old : P) (page : PagePixels) (new : P) → hands old page new →
      (pages : List PagePixels) → IsStock (stock old) pages → IsStock (stock new) pages
  pub refused : (old : P) (page : PagePixels) (new : P) → refuses old page new →
      (pages : List PagePixels) → IsStock (stock old) pages → IsStock (stock new) pages
  pub counted : (old : P) (page : PagePixels) (new : P) → counts old page new →
      (pages : List PagePixels) → IsStock (stock old) pages → IsStock (stock new) (pages ++ page ∷ [])

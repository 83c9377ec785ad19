-- The way that reads the most rows, with one way more.
use Rattle.std.proofs.Common.{ℕ, ◌+◌, ◌<◌, ◌≤◌, List, [], ◌∷◌, ◌++◌, Some, None, All, length, subst, take, get_or, sym, refl, ap, ◌∙◌}
use Rattle.std.proofs.Common.{append_assoc, arith}
use Rattle.std.specs.Prelude.{Option}
use Rattle.std.proofs.lemmas.List.{take_more}
use Rattle.std.proofs.lemmas.List.Elements.{All-push}
use Rattle.page_code.specs.declared.Coding.{Coding}
use Rattle.page_files.specs.Found.{HasBegun, IsMost, NoneHasBegun, ReadsMost}
use Rattle.page_files.specs.declared.found.SaidWidths.{SaidWidths}
use Rattle.page_files.specs.declared.identify.Tried.{Tried}

module _ (coding : Coding) (said : SaidWidths) (octets : List ℕ) (tried : List Tried) (one : Tried) where
  -- it doesn't begin with a row
  pub still_none : NoneHasBegun coding said octets tried → ¬ HasBegun coding said octets one → NoneHasBegun coding said octets (tried ++ one ∷ [])
  still_none none not_begun = All-push (λ (other : Tried). ¬ HasBegun coding said octets other) tried one none not_begun

  -- it reads no more rows
  pub still_most : (most : Tried) → ReadsMost coding said octets tried most → (HasBegun coding said octets one → one.rows ≤ most.rows)
      → ReadsMost coding said octets (tried ++ one ∷ []) most
  still_most most is few = record {
    before = is.before;
    after = is.after ++ one ∷ [];
    among = ap (λ (l : List Tried). l ++ one ∷ []) is.among ∙ append_assoc is.before (most ∷ is.after) (one ∷ []);
    begun = is.begun;
    most = All-push (λ (other : Tried). HasBegun coding said octets other → other.rows ≤ most.rows) tried one is.most few;
    first = is.first;
  }

  -- it reads more rows than all before it
  new_most : HasBegun coding said octets one → All (λ other. HasBegun coding said octets other → other.rows < one.rows) tried
      → ReadsMost coding said octets (tried ++ one ∷ []) one
  new_most begun more = record {
    before = tried;
    after = [];
    among = refl;
    begun = begun;
    most = All-push (λ (other : Tried). HasBegun coding said octets other → other.rows ≤ one.rows) tried one
        (λ k d within has. omega (arith, more k d within has)) (λ has. omega arith);
    first = more;
  }

  pub now_most : (most : Tried) → ReadsMost coding said octets tried most → HasBegun coding said octets one → most.rows < one.rows
      → ReadsMost coding said octets (tried ++ one ∷ []) one
  now_most most is begun more = new_most begun (λ k d within has. omega (arith, is.most k d within has, more))

  pub first_most : NoneHasBegun coding said octets tried → HasBegun coding said octets one → ReadsMost coding said octets (tried ++ one ∷ []) one
  first_most none begun = new_most begun (λ k d within has. absurd (none k d within has))

-- the one so far stays
pub stays : (coding : Coding) (said : SaidWidths) (octets : List ℕ) (tried : List Tried) (one : Tried) (most : Option Tried) → ¬ HasBegun coding said octets one
    → IsMost coding said octets tried most → IsMost coding said octets (tried ++ one ∷ []) most
stays coding said octets tried one None not_begun is = still_none coding said octets tried one is not_begun
stays coding said octets tried one (Some most) not_begun is = still_most coding said octets tried one most is (λ has. absurd (not_begun has))

-- in the loop over all ways
pub most_more : (coding : Coding) (said : SaidWidths) (octets : List ℕ) (tried : List Tried) (index : ℕ) (default : Tried) (before after : Option Tried)
    → index < length tried → IsMost coding said octets (take index tried) before
    → ((ways : List Tried) → IsMost coding said octets ways before → IsMost coding said octets (ways ++ get_or tried index default ∷ []) after)
    → IsMost coding said octets (take (index + 1) tried) after
most_more coding said octets tried index default before after within is step =
    subst (λ (l : List Tried). IsMost coding said octets l after) (sym (take_more tried index default within)) (step (take index tried) is)

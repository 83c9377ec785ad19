-- What is printed of files, and then of others.
use Rattle.std.proofs.Common.{◌≡◌, ◌∙◌, ◌<◌, ◌≤◌, ◌+◌, ◌++◌, ◌∷◌, ℕ, Bool, true, false, List, [], Option, ap, append_assoc, length, map, refl}
use Rattle.std.proofs.Common.{slice_index_or, subst, sym, take}
use Rattle.std.proofs.KnownBytes.{Appends-nil, Appends-trans}
use Rattle.std.proofs.lemmas.List.{append-nil, map-append, take_all, take_more}
use Rattle.std.specs.Prelude.{◌&&◌, Err, IfOk, None, Ok, Result, Some, is_some, option_map}
use Rattle.commands.specs.Printed.{ArePrinted, PrintsAll, PrintsMore, PrintsOne}

and_same : (a b c : Bool) → ((a && b) && c) ≡ (a && (b && c))
and_same true b c = refl
and_same false b c = refl

and_true : (a : Bool) → a ≡ (a && true)
and_true true = refl
and_true false = refl

printed_then : (IsOf : List ℕ → List ℕ → Bool → Type 0) (names others : List (List ℕ)) (text more : List ℕ) (all rest : Bool)
    → ArePrinted IsOf names text all → ArePrinted IsOf others more rest → ArePrinted IsOf (names ++ others) (text ++ more) (all && rest)
printed_then IsOf [] others text more all rest one two =
    subst (λ (t : List ℕ). ArePrinted IsOf others (t ++ more) (all && rest)) (sym one.0)
    (subst (λ (b : Bool). ArePrinted IsOf others more (b && rest)) (sym one.1) two)
printed_then IsOf (name ∷ names) others text more all rest one two = (
  one.0,
  one.1 ++ more,
  one.2,
  one.3 && rest,
  one.4,
  printed_then IsOf names others one.1 more one.3 rest one.5 two,
  ap (λ t. t ++ more) one.6 ∙ append_assoc one.0 one.1 more,
  ap (λ b. b && rest) one.7 ∙ and_same one.2 one.3 rest,
)

-- the files, and then others
pub prints_then : (IsOf : List ℕ → List ℕ → Bool → Type 0) (names others : List (List ℕ)) (a b c : Option (List ℕ)) (all rest : Bool)
    → PrintsAll IsOf names a b all → PrintsAll IsOf others b c rest → PrintsAll IsOf (names ++ others) a c (all && rest)
prints_then IsOf names others a b c all rest one two = (
  one.0 ++ two.0,
  printed_then IsOf names others one.0 two.0 all rest one.1 two.1,
  Appends-trans a b c one.0 two.0 one.2 two.2,
)

-- no file
pub prints_none : (IsOf : List ℕ → List ℕ → Bool → Type 0) (a : Option (List ℕ)) → PrintsAll IsOf [] a a true
prints_none IsOf a = ([], (refl, refl), Appends-nil a)

prints_one : (IsOf : List ℕ → List ℕ → Bool → Type 0) (name : List ℕ) (a b : Option (List ℕ)) (is : Bool) → PrintsOne IsOf name a b is
    → PrintsAll IsOf (name ∷ []) a b is
prints_one IsOf name a b is one =
    (one.0, (one.0, [], is, true, one.1, (refl, refl), sym (append-nil one.0), and_true is), one.2)

-- the next one of the files of a list
pub prints_next : {A : Type 0} (IsOf : List ℕ → List ℕ → Bool → Type 0) (name_of : A → List ℕ) (items : List A) (at : ℕ) (item default : A)
    (a b c : Option (List ℕ)) (all is : Bool) → at < length items → item ≡ slice_index_or items at default
    → PrintsAll IsOf (map name_of (take at items)) a b all → PrintsOne IsOf (name_of item) b c is
    → PrintsAll IsOf (map name_of (take (at + 1) items)) a c (all && is)
prints_next IsOf name_of items at item default a b c all is within here before one =
    let more : map name_of (take (at + 1) items) ≡ map name_of (take at items) ++ name_of item ∷ [] =
    ap (map name_of) (take_more items at default within ∙ ap (λ i. take at items ++ i ∷ []) (sym here))
    ∙ map-append name_of (take at items) (item ∷ []) in
    subst (λ names. PrintsAll IsOf names a c (all && is)) (sym more)
    (prints_then IsOf (map name_of (take at items)) (name_of item ∷ []) a b c all is before (prints_one IsOf (name_of item) b c is one))

-- all the files of a list
pub prints_all : {A : Type 0} (IsOf : List ℕ → List ℕ → Bool → Type 0) (name_of : A → List ℕ) (items : List A) (at : ℕ)
    (a b : Option (List ℕ)) (all : Bool) → length items ≤ at → PrintsAll IsOf (map name_of (take at items)) a b all
    → PrintsAll IsOf (map name_of items) a b all
prints_all IsOf name_of items at a b all within before = subst (λ l. PrintsAll IsOf (map name_of l) a b all) (take_all at items within) before

-- no file more
pub more_none : (IsOf : List ℕ → List ℕ → Bool → Type 0) (IsNone : Type 0) (done : Bool) (a : Option (List ℕ))
    → PrintsMore IsOf IsNone done a a done
more_none IsOf IsNone done a = ([], true, prints_none IsOf a, (λ _. refl), and_true done)

-- one file more
pub more_one : (IsOf : List ℕ → List ℕ → Bool → Type 0) (name : List ℕ) (done : Bool) (a b : Option (List ℕ)) (is : Bool)
    → PrintsOne IsOf name a b is → PrintsMore IsOf ⊥ done a b (done && is)
more_one IsOf name done a b is one = (name ∷ [], is, prints_one IsOf name a b is one, (λ none. absurd none), refl)

-- more files, and then more
pub more_then : (IsOf : List ℕ → List ℕ → Bool → Type 0) (done mid all : Bool) (a b c : Option (List ℕ)) → PrintsMore IsOf ⊥ done a b mid
    → PrintsMore IsOf ⊥ mid b c all → PrintsMore IsOf ⊥ done a c all
more_then IsOf done mid all a b c one two = (
  one.0 ++ two.0,
  one.1 && two.1,
  prints_then IsOf one.0 two.0 a b c one.1 two.1 one.2 two.2,
  (λ none. absurd none),
  two.4 ∙ ap (λ d. d && two.1) one.4 ∙ and_same done one.1 two.1,
)

-- all the files of a list, and then those that another one names
pub all_listed : {E : Type 0} (IsOf : List ℕ → List ℕ → Bool → Type 0) (IsNone : Type 0) (result : Result Bool E) (names : List (List ℕ))
    (a b c : Option (List ℕ)) (done : Bool) → PrintsAll IsOf names a b done → IfOk result (PrintsMore IsOf IsNone done b c)
    → IfOk result (λ all. (listed : List (List ℕ)) × PrintsAll IsOf (names ++ listed) a c all × (IsNone → listed ≡ []))
all_listed IsOf IsNone (Ok all) names a b c done one two = (
  two.0,
  subst (λ d. PrintsAll IsOf (names ++ two.0) a c d) (sym two.4) (prints_then IsOf names two.0 a b c done two.1 one two.2),
  two.3,
)
all_listed IsOf IsNone (Err fault) names a b c done one two = tt

-- nothing is made of nothing
pub none_mapped : {A B : Type 0} (f : A → B) (some : Option A) → is_some some ≡ false → option_map f some ≡ None
none_mapped f None none = refl
none_mapped f (Some x) none = absurd (cc)

-- Looking at a run code finds exactly the code that may be there, whatever automaton the code is an item of.
use Rattle.std.proofs.Common.{ltb, [], ◌∷◌, ℕ, ◌≡◌, ◌+◌, ◌<◌, Bool, true, false, List, ◌++◌}
use Rattle.std.proofs.Common.{map, length, drop, replicate, Some, None, refl, ap, sym}
use Rattle.std.proofs.Common.{◌∙◌, arith, cond, nat_eq}
use Rattle.std.specs.Prelude.{Option, Contains, Result, Ok, Err}
use Rattle.std.specs.List.{list_all, range_with_len}
use Rattle.std.specs.Option.{option_map}
use Rattle.std.proofs.lemmas.Bool.{ltb-true}
use Rattle.std.proofs.lemmas.List.FromFn.{get_or-map-range_with_len, length-map-range_with_len}
use Rattle.raster.specs.declared.row.Color.{Color}
use Rattle.raster.specs.declared.row.Color.TheVariants.{White, Black}
use Rattle.raster.specs.Pixels.{other}
use Rattle.run_tables.specs.declared.fault.CodeFaultKind.{CodeFaultKind}
use Rattle.run_tables.specs.declared.fault.CodeFaultKind.TheVariants.{BadCode, Truncated, RunTooLong}
use Rattle.run_tables.specs.Codes.{code_word, run_at}
use Rattle.run_tables.specs.CodeReading.{first_runs}
use Rattle.run_tables.specs.Texts.{begins, apart, pick, is_cut}
use Rattle.run_tables.specs.Fronts.Look.{go, stop, refuse}
use Rattle.run_tables.specs.RowFronts.{RunItem, run_of, item_word, run_items, allowed, amount, after_code, CodeStep, judged, found_code}
use Rattle.run_tables.specs.RowFronts.{codes_after, look_code, RowState}
use Rattle.run_tables.specs.RowFronts.RunItem.{run_item}
use Rattle.run_tables.specs.RowFronts.RowState.{inside, whole}
use Rattle.run_tables.proofs.BeginsLemmas.{all_test, pick_found, pick_sound}

codes_apart : (color : Color) → apart (map item_word (run_items color 104)) ≡ true
unfolding code_word run_items
codes_apart White = refl
codes_apart Black = refl

low_codes_apart : (color : Color) → apart (map item_word (run_items color 64)) ≡ true
unfolding code_word run_items
low_codes_apart White = refl
low_codes_apart Black = refl

pub allowed_apart : (color : Color) (makeup : Option ℕ) → apart (map item_word (allowed color makeup)) ≡ true
allowed_apart color None = codes_apart color
allowed_apart color (Some n) = low_codes_apart color

-- a code has a bit
abbrev has_bit : RunItem → Bool
has_bit code = ltb 0 (length (item_word code))

codes_have_bits : (color : Color) → list_all has_bit (run_items color 104) ≡ true
unfolding code_word run_items
codes_have_bits White = refl
codes_have_bits Black = refl

low_codes_have_bits : (color : Color) → list_all has_bit (run_items color 64) ≡ true
unfolding code_word run_items
low_codes_have_bits White = refl
low_codes_have_bits Black = refl

allowed_has_bits : (color : Color) (makeup : Option ℕ) → list_all has_bit (allowed color makeup) ≡ true
allowed_has_bits color None = codes_have_bits color
allowed_has_bits color (Some n) = low_codes_have_bits color

pub code_positive : (color : Color) (makeup : Option ℕ) (code : RunItem) → Contains (allowed color makeup) code
    → 0 < length (item_word code)
code_positive color makeup code stands = ltb-true 0 (length (item_word code)) (all_test has_bit (allowed color makeup) code
    (allowed_has_bits color makeup) stands)

-- which codes are in the list
pub listed : (color : Color) (count : ℕ) (code : RunItem) → Contains (run_items color count) code
    → (k : ℕ) × (k < count) × (code ≡ run_item color (run_at k))
unfolding run_items
listed color count code c =
    let within : c.0 < count = omega (arith, c.1, length-map-range_with_len (λ k. run_item color (run_at k)) 0 count) in
    (c.0, within, sym c.2 ∙ get_or-map-range_with_len (λ k. run_item color (run_at k)) 0 count c.0 c.0 code within (omega arith))

pub listed_at : (color : Color) (count k : ℕ) → k < count → Contains (run_items color count) (run_item color (run_at k))
unfolding run_items
listed_at color count k h = (
  k,
  omega (arith, length-map-range_with_len (λ k. run_item color (run_at k)) 0 count),
  get_or-map-range_with_len
      (λ k. run_item color (run_at k)) 0 count k k (run_item color (run_at k)) h (omega arith),
)

-- of the color
pub item_color : (color : Color) (count : ℕ) (other : Color) (run : ℕ) → Contains (run_items color count) (run_item other run)
    → other ≡ color
item_color color count other run c =
    let at = listed color count (run_item other run) c in
    let same : run_item other run ≡ run_item color (run_at at.0) = at.2 in
    cc

-- the same by their runs
pub item_run : (color : Color) (count run : ℕ) → Contains (run_items color count) (run_item color run) → Contains (first_runs count) run
unfolding first_runs
item_run color count run c =
    let at = listed color count (run_item color run) c in
    let same : run ≡ run_at at.0 = ap run_of at.2 in
    rw same (
      at.0,
      omega (arith, at.1, length-map-range_with_len run_at 0 count),
      get_or-map-range_with_len run_at 0 count at.0 at.0 (run_at at.0) at.1 (omega arith),
    )

pub run_item_at : (color : Color) (count run : ℕ) → Contains (first_runs count) run → Contains (run_items color count) (run_item color run)
unfolding first_runs
run_item_at color count run c =
    let within : c.0 < count = omega (arith, c.1, length-map-range_with_len run_at 0 count) in
    let same : run ≡ run_at c.0 = sym c.2 ∙ get_or-map-range_with_len run_at 0 count c.0 c.0 run within (omega arith) in
    rw same (listed_at color count c.0 within)

-- picking a code among items is picking its run among runs
pick_codes : (color : Color) (places : List ℕ) (x : List Bool)
    → pick item_word (map (λ place. run_item color (run_at place)) places) x ≡ option_map (run_item color) (pick (code_word color) (map
    run_at places) x)
pick_codes color [] x = refl
pick_codes color (k ∷ places) x = seen (begins (code_word color (run_at k)) x) (pick_codes color places x)
  where
    seen : (b : Bool) → pick item_word (map (λ place. run_item color (run_at place)) places) x ≡ option_map (run_item color) (pick
        (code_word color) (map run_at places) x)
        → cond b (Some (run_item color (run_at k))) (pick item_word (map (λ place. run_item color (run_at place)) places) x) ≡ option_map
        (run_item color) (cond b (Some (run_at k)) (pick (code_word color) (map run_at places) x))
    seen true later = refl
    seen false later = later

cut_codes : (color : Color) (places : List ℕ) (x : List Bool)
    → is_cut item_word (map (λ place. run_item color (run_at place)) places) x ≡ is_cut (code_word color) (map run_at places) x
cut_codes color [] x = refl
cut_codes color (k ∷ places) x = rw (cut_codes color places x) refl

pub pick_items : (color : Color) (count : ℕ) (x : List Bool)
    → pick item_word (run_items color count) x ≡ option_map (run_item color) (pick (code_word color) (first_runs count) x)
unfolding run_items first_runs
pick_items color count x = pick_codes color (range_with_len 0 count) x

pub cut_items : (color : Color) (count : ℕ) (x : List Bool)
    → is_cut item_word (run_items color count) x ≡ is_cut (code_word color) (first_runs count) x
unfolding run_items first_runs
cut_items color count x = cut_codes color (range_with_len 0 count) x

module _ {State Item Answer : Type 0} (item : RunItem → Item) (full : List Color → State) (next : List Color → Color → Option ℕ
    → State) (width : ℕ) (pixels : List Color) (color : Color) (makeup : Option ℕ) where
  pub code_complete : (code : RunItem) (t : State) (rest : List Bool) → CodeStep full next width pixels color makeup code t
      → look_code {Answer = Answer} item full next width pixels color makeup (item_word code ++ rest) ≡ go (item code) t
  unfolding look_code
  code_complete code t rest step =
      ap (found_code {Answer = Answer} item full next width pixels color makeup (item_word code ++ rest)) (pick_found item_word (allowed
      color makeup) code rest (allowed_apart color makeup) step.stands) ∙ ap (judged {Answer = Answer} (item code)) step.leads

  led : (j i : Item) (t : State) (r : Result State CodeFaultKind) → judged {Answer = Answer} j r ≡ go i t → (j ≡ i) × (r ≡ Ok t)
  led j i t (Ok u) e = (cc, cc)
  led j i t (Err k) e = cc

  found_sound : (x : List Bool) (i : Item) (t : State) (o : Option RunItem) → pick item_word (allowed color makeup) x ≡ o
      → found_code {Answer = Answer} item full next width pixels color makeup x o ≡ go i t
      → (code : RunItem) × (item code ≡ i) × CodeStep full next width pixels color makeup code t × ((rest : List Bool)
      × (x ≡ item_word code ++ rest))
  found_sound x i t None p e = cc
  found_sound x i t (Some code) p e =
      let lead = led (item code) i t (after_code full next width pixels color makeup (run_of code)) e in
      let there = pick_sound item_word (allowed color makeup) code x p in
      (code, lead.0, record { stands = there.0; leads = lead.1 }, (drop (length (item_word code)) x, there.1))

  pub code_sound : (x : List Bool) (i : Item) (t : State)
      → look_code {Answer = Answer} item full next width pixels color makeup x ≡ go i t
      → (code : RunItem) × (item code ≡ i) × CodeStep full next width pixels color makeup code t × ((rest : List Bool)
      × (x ≡ item_word code ++ rest))
  unfolding look_code
  code_sound x i t e = found_sound x i t (pick item_word (allowed color makeup) x) refl e

  judged_goes : (j : Item) (r : Result State CodeFaultKind) (a : Answer) (n : ℕ) → judged j r ≡ stop a n → ⊥
  judged_goes j (Ok t) a n e = cc
  judged_goes j (Err k) a n e = cc

  found_goes : (x : List Bool) (o : Option RunItem) (a : Answer) (n : ℕ)
      → found_code item full next width pixels color makeup x o ≡ stop a n → ⊥
  found_goes x None a n e = cc
  found_goes x (Some code) a n e = judged_goes (item code) (after_code full next width pixels color makeup (run_of code)) a n e

  -- a code is no end
  pub code_goes : (x : List Bool) (a : Answer) (n : ℕ) → look_code item full next width pixels color makeup x ≡ stop a n → ⊥
  unfolding look_code
  code_goes x a n e = found_goes x (pick item_word (allowed color makeup) x) a n e

-- why no code is there, by cutting
abbrev pub kind_by_cut : Color → ℕ → List Bool → CodeFaultKind
kind_by_cut color count x = cond (is_cut (code_word color) (first_runs count) x) Truncated BadCode

module _ {State Item Answer : Type 0} (item : RunItem → Item) (full : List Color → State) (next : List Color → Color → Option ℕ
    → State) (width : ℕ) (pixels : List Color) (color : Color) (makeup : Option ℕ) where
  -- what is seen where this run was picked, or none
  pub sees_picked : (x : List Bool) (o : Option ℕ) → pick (code_word color) (first_runs (codes_after makeup)) x ≡ o
      → look_code {Answer = Answer} item full next width pixels color makeup x ≡ found_code item full next width pixels color makeup x
      (option_map (run_item color) o)
  unfolding look_code
  sees_picked x o e =
      ap (found_code {Answer = Answer} item full next width pixels color makeup x) (pick_items color (codes_after makeup) x ∙
      ap (option_map (run_item color)) e)

  -- what is seen where no code is
  pub sees_none : (x : List Bool) → pick (code_word color) (first_runs (codes_after makeup)) x ≡ None
      → look_code {Answer = Answer} item full next width pixels color makeup x ≡ refuse (kind_by_cut color (codes_after makeup) x)
  sees_none x none = sees_picked x None none ∙
      ap (λ (b : Bool). refuse (cond b Truncated BadCode)) (cut_items color (codes_after makeup) x)

-- the same, of a row inside an automaton of more than a row
abbrev pub put_ok : {S : Type 0} → (RowState → S) → Result RowState CodeFaultKind → Result S CodeFaultKind
put_ok f (Ok t) = Ok (f t)
put_ok f (Err k) = Err k

module _ {S : Type 0} (f : RowState → S) (width : ℕ) (pixels : List Color) (color : Color) (makeup : Option ℕ) where
  put_seen : (a b c : Bool) (k : CodeFaultKind) (p : List Color) (d : Color) (q : List Color) (e : Color) (high : Option ℕ)
      → cond a (Err k) (cond b (Ok (cond c (f (whole p)) (f (inside p d None)))) (Ok (f (inside q e high)))) ≡ put_ok f (cond a (Err k)
      (cond b (Ok (cond c (whole p) (inside p d None))) (Ok (inside q e high))))
  put_seen true b c k p d q e high = refl
  put_seen false true true k p d q e high = refl
  put_seen false true false k p d q e high = refl
  put_seen false false c k p d q e high = refl

  pub after_put : (run : ℕ) → after_code (λ p. f (whole p)) (λ p d high. f (inside p d high)) width pixels color makeup run ≡ put_ok f
      (after_code whole inside width pixels color makeup run)
  unfolding after_code
  after_put run = put_seen (ltb width (length pixels + (amount makeup + run))) (ltb run 64) (nat_eq (length (pixels ++ replicate (amount
      makeup + run) color)) width) RunTooLong (pixels ++ replicate (amount makeup + run) color) (other color) pixels color (Some run)

  pub step_put : (code : RunItem) (t : RowState) → CodeStep whole inside width pixels color makeup code t
      → CodeStep (λ p. f (whole p)) (λ p d high. f (inside p d high)) width pixels color makeup code (f t)
  step_put code t step = record { stands = step.stands; leads = after_put (run_of code) ∙ ap (put_ok f) step.leads }

  put_from : (r : Result RowState CodeFaultKind) (u : S) → put_ok f r ≡ Ok u → (t : RowState) × (r ≡ Ok t) × (f t ≡ u)
  put_from (Ok t) u e = (t, refl, cc)
  put_from (Err k) u e = cc

  pub step_from_put : (code : RunItem) (u : S)
      → CodeStep (λ p. f (whole p)) (λ p d high. f (inside p d high)) width pixels color makeup code u
      → (t : RowState) × CodeStep whole inside width pixels color makeup code t × (f t ≡ u)
  step_from_put code u step =
      let there = put_from (after_code whole inside width pixels color makeup (run_of code)) u (sym (after_put (run_of code)) ∙
      step.leads) in
      (there.0, record { stands = step.stands; leads = there.1 }, there.2)

  judged_put : {Item Answer Row : Type 0} (item : RunItem
      → Item) (code : RunItem) (r : Result RowState CodeFaultKind) (r' : Result S CodeFaultKind) (k : CodeFaultKind) → r' ≡ put_ok f r
      → judged {Answer = Row} code r ≡ refuse k → judged {Answer = Answer} (item code) r' ≡ refuse k
  judged_put item code (Ok t) r' k is e = cc
  judged_put {Answer} item code (Err j) r' k is e =
      let same : j ≡ k = cc in
      ap (judged {Answer = Answer} (item code)) is ∙ ap (λ (l : CodeFaultKind). refuse l) same

  found_put : {Item Answer Row : Type 0} (item : RunItem → Item) (x : List Bool) (k : CodeFaultKind) (o : Option RunItem)
      → found_code {Answer = Row} (λ code. code) whole inside width pixels color makeup x o ≡ refuse k
      → found_code {Answer = Answer} item (λ p. f (whole p)) (λ p d high. f (inside p d high)) width pixels color makeup x o ≡ refuse k
  found_put item x k None e = let same : cond (is_cut item_word (allowed color makeup) x) Truncated BadCode ≡ k = cc in ap (λ (l :
      CodeFaultKind). refuse l) same
  found_put {Row} item x k (Some code) e = judged_put {Row = Row} item code (after_code whole inside width pixels color makeup (run_of
      code)) (after_code (λ p. f (whole p)) (λ p d high. f (inside p d high)) width pixels color makeup (run_of code)) k (after_put (run_of
      code)) e

  -- what is refused in a row is refused around it
  pub refuse_put : {Item Answer Row : Type 0} (item : RunItem → Item) (x : List Bool) (k : CodeFaultKind)
      → look_code {Answer = Row} (λ code. code) whole inside width pixels color makeup x ≡ refuse k
      → look_code {Answer = Answer} item (λ p. f (whole p)) (λ p d high. f (inside p d high)) width pixels color makeup x ≡ refuse k
  unfolding look_code
  refuse_put {Row} item x k e = found_put {Row = Row} item x k (pick item_word (allowed color makeup) x) e

-- The tables by which codes are read hold what is picked of the code table.
use Rattle.std.proofs.Common.{ℕ, ◌≡◌, ◌+◌, ◌-◌, ◌*◌, ◌/◌, ◌%◌, ◌^◌, ◌<◌, ◌≤◌, Bool, true, false, List, [], ◌∷◌, ◌++◌, map, length, replicate, get_or}
use Rattle.std.proofs.Common.{Some, None, refl, ap, sym, ◌∙◌, ◌≢◌, arith, cond, inl, inr, ltb, subst, suc, zero}
use mathlib.Core.Bool.{beq}
use Rattle.std.specs.Prelude.{Option}
use Rattle.std.specs.List.{range_with_len, list_all}
use Rattle.std.proofs.lemmas.Bool.{cases_lt, ltb-true, and_parts, and_from, false≢true}
use Rattle.std.proofs.lemmas.List.FromFn.{get_or-map-range_with_len, get_or-range_with_len, length-range_with_len}
use Rattle.std.proofs.lemmas.List.FromFn.{length-map-range_with_len}
use Rattle.std.proofs.lemmas.List.{get_or_append_left, get_or-append-add, get_or-map, length-append, length-map}
use Rattle.raster.specs.declared.row.Color.{Color}
use Rattle.raster.specs.declared.row.Color.TheVariants.{White, Black}
use Rattle.run_tables.specs.declared.reader.Among.TheVariants.{AllCodes}
use Rattle.run_tables.specs.Codes.{codes_of, code_word, run_at}
use Rattle.run_tables.specs.CodeReading.{first_runs}
use Rattle.run_tables.specs.Numbers.{number_text}
use Rattle.run_tables.specs.ReadTables.{entry_of, entries, held_entries, short_bits, long_zeros, packed, unpacked, entry_picked, entry_for}
use Rattle.run_tables.specs.Texts.{begins, pick}
use Rattle.run_tables.proofs.BeginsLemmas.{list_all_at, pick_begins}
use Rattle.run_tables.proofs.CodeReads.{pick_stands}
use Rattle.run_tables.proofs.NumberLemmas.{number_split, number_zeros}
use Rattle.run_tables.proofs.QuickRuns.{entry_small}
use Rattle.run_tables.proofs.TableLemmas.{listed, table_is}

-- the first code of a list of places is the one that is picked
entry_places : (color : Color) (places : List ℕ) (bits : List Bool) → entry_of (map (λ place. listed color place) places) bits ≡
    entry_picked color (pick (code_word color) (map run_at places) bits)
unfolding entry_of
entry_places color [] bits = refl
entry_places color (place ∷ places) bits =
    at (begins (code_word color (run_at place)) bits) _ _ (entry_places color places bits)
  where
    at : (b : Bool) (rest : ℕ × ℕ) (picked : Option ℕ) → rest ≡ entry_picked color picked → cond b (
      run_at place,
      length (code_word color
          (run_at place)),
    ) rest ≡ entry_picked color (cond b (Some (run_at place)) picked)
    at true rest picked e = refl
    at false rest picked e = e

pub entry_is : (color : Color) (bits : List Bool) → entry_of (codes_of color) bits ≡ entry_for color bits
unfolding first_runs
entry_is color bits = ap (λ (codes : List (ℕ × List Bool)). entry_of codes bits) (table_is color) ∙ entry_places color (range_with_len 0
    104) bits

begins_more_bits : (word bits more : List Bool) → begins word bits ≡ true → begins word (bits ++ more) ≡ true
begins_more_bits [] bits more e = refl
begins_more_bits (w ∷ word) [] more e = absurd (false≢true e)
begins_more_bits (w ∷ word) (b ∷ bits) more e =
    let parts = and_parts (beq b w) (begins word bits) e in
    and_from (beq b w) (begins word (bits ++ more)) parts.0 (begins_more_bits word bits more parts.1)

-- what is found stays found where bits follow
pub entry_more : (color : Color) (bits more : List Bool) → 0 < (entry_for color bits).1 → entry_for color (bits ++ more) ≡ entry_for
    color bits
entry_more color bits more h = at (pick (code_word color) (first_runs 104) bits) refl h
  where
    at : (picked : Option ℕ) → pick (code_word color) (first_runs 104) bits ≡ picked → 0 < (entry_picked color picked).1
        → entry_for color (bits ++ more) ≡ entry_picked color picked
    at None e h = absurd (omega arith)
    at (Some run) e h =
        let found = pick_begins (code_word color) (first_runs 104) run bits e in
        ap (entry_picked color) (pick_stands color AllCodes (bits ++ more) run (
          found.0,
          begins_more_bits (code_word color run) bits
              more found.1,
        ))

-- each short text but those of 0 bits begins with a code word
short_test : (color : Color) → list_all (λ key. ltb 0 (entry_of (codes_of color) (number_text (short_bits color) key)).1)
    (range_with_len 4 (2
    ^ short_bits color - 4)) ≡ true
unfolding entry_of number_text
short_test White = refl
short_test Black = refl

short_found : (color : Color) (key : ℕ) → 4 ≤ key → key < 2 ^ short_bits color → 0 < (entry_for color (number_text (short_bits color)
    key)).1
short_found color key l h =
    let within : key - 4 < length (range_with_len 4 (2 ^ short_bits color - 4)) = rw length-range_with_len (omega arith) in
    let is : get_or (range_with_len 4 (2 ^ short_bits color - 4)) (key - 4) 0 ≡ key = get_or-range_with_len 4 (2 ^ short_bits color - 4)
    (key -
    4) 0 (omega arith) ∙ omega arith in
    let test = list_all_at (λ key. ltb 0 (entry_of (codes_of color) (number_text (short_bits color) key)).1) (range_with_len 4 (2 ^
    short_bits
    color - 4)) (key - 4) 0 (short_test color) within in
    rw (← entry_is color (number_text (short_bits color) key)) (ltb-true 0 _ (rw is at test))

-- and those begin with none
short_none : (color : Color) (key : ℕ) → key < 4 → (entry_of (codes_of color) (number_text (short_bits color) key)).1 ≡ 0
unfolding entry_of number_text
short_none White zero h = refl
short_none White (suc zero) h = refl
short_none White (suc (suc zero)) h = refl
short_none White (suc (suc (suc zero))) h = refl
short_none Black zero h = refl
short_none Black (suc zero) h = refl
short_none Black (suc (suc zero)) h = refl
short_none Black (suc (suc (suc zero))) h = refl
short_none color (suc (suc (suc (suc key)))) h = absurd (omega arith)

-- the short table's entry of the first bits is that of all of them
pub short_entry : (color : Color) (held : List (ℕ × ℕ)) (rest next key : ℕ) (d : ℕ × ℕ) → held ≡ entries (codes_of color) 0 (short_bits
    color)
    → short_bits color + rest ≡ 13 → next / 2 ^ rest ≡ key → 4 ≤ key → key < 2 ^ short_bits color
    → get_or held key d ≡ entry_for color (number_text 13 next)
unfolding entries
short_entry color held rest next key d e sum is l h =
    let f : ℕ → ℕ × ℕ = λ key. entry_of (codes_of color) (number_text (short_bits color) key) in
    let split : number_text 13 next ≡ number_text (short_bits color) key ++ number_text rest next = ap (λ n. number_text n next) (sym
    sum) ∙
    (number_split (short_bits color) rest next ∙ ap (λ k. number_text (short_bits color) k ++ number_text rest next) is) in
    ap (λ (es : List (ℕ × ℕ)). get_or es key d) e ∙ (get_or-map-range_with_len f 0 (2 ^ short_bits color) key key d h (omega arith) ∙
    (entry_is color (number_text (short_bits color) key) ∙ (sym (entry_more color (number_text (short_bits color) key) (number_text
    rest next) (short_found color key l h)) ∙ ap (entry_for color) (sym split))))

-- the long table's entry, where the first bits are 0
pub long_entry : (color : Color) (held : List (ℕ × ℕ)) (next : ℕ) (d : ℕ × ℕ) → held ≡ entries (codes_of color) (long_zeros color) (13 -
    long_zeros color)
    → next < 2 ^ (13 - long_zeros color) → long_zeros color + (13 - long_zeros color) ≡ 13 → get_or held next d ≡ entry_for color
    (number_text 13 next)
unfolding entries
long_entry color held next d e h sum =
    let f : ℕ → ℕ × ℕ = λ key. entry_of (codes_of color) (replicate (long_zeros color) false ++ number_text (13 - long_zeros color) key)
    in
    let split : number_text 13 next ≡ replicate (long_zeros color) false ++ number_text (13 - long_zeros color) next = ap (λ n.
    number_text n next) (sym sum) ∙ number_zeros (long_zeros color) (13 - long_zeros color) next h in
    ap (λ (es : List (ℕ × ℕ)). get_or es next d) e ∙ (get_or-map-range_with_len f 0 (2 ^ (13 - long_zeros color)) next next d h (omega
    arith) ∙ (entry_is color _ ∙ ap (entry_for color) (sym split)))

pub held_short : (color : Color) (held : List (ℕ × ℕ)) → held ≡ entries (codes_of color) 0 (short_bits color) → length held ≡ 2 ^
    short_bits color
unfolding entries
held_short color held e = ap length e ∙ length-map-range_with_len (λ key. entry_of (codes_of color) (number_text (short_bits color)
    key)) 0 (2 ^ short_bits color)

pub held_long : (color : Color) (held : List (ℕ × ℕ)) → held ≡ entries (codes_of color) (long_zeros color) (13 - long_zeros color) →
    length held ≡ 2 ^ (13 - long_zeros color)
unfolding entries
held_long color held e = ap length e ∙ length-map-range_with_len (λ key. entry_of (codes_of color) (replicate (long_zeros color) false
    ++ number_text (13 - long_zeros color) key)) 0 (2 ^ (13 - long_zeros color))

-- ---- both tables, one after the other

pub held_both : (color : Color) (held : List (ℕ × ℕ)) → held ≡ held_entries color
    → length held ≡ 2 ^ (13 - long_zeros color) + 2 ^ short_bits color
held_both color held e =
    let long : List (ℕ × ℕ) = entries (codes_of color) (long_zeros color) (13 - long_zeros color) in
    let short : List (ℕ × ℕ) = entries (codes_of color) 0 (short_bits color) in
    rw (e, length-append, held_long color long refl, held_short color short refl) refl

pub long_held : (color : Color) (held : List (ℕ × ℕ)) (next : ℕ) (d : ℕ × ℕ) → held ≡ held_entries color
    → next < 2 ^ (13 - long_zeros color) → long_zeros color + (13 - long_zeros color) ≡ 13
    → get_or held next d ≡ entry_for color (number_text 13 next)
long_held color held next d e h sum =
    let long : List (ℕ × ℕ) = entries (codes_of color) (long_zeros color) (13 - long_zeros color) in
    let short : List (ℕ × ℕ) = entries (codes_of color) 0 (short_bits color) in
    rw e (get_or_append_left long short d next (rw (held_long color long refl) h) ∙ long_entry color long next d refl h sum)

pub short_held : (color : Color) (held : List (ℕ × ℕ)) (rest next key place : ℕ) (d : ℕ × ℕ) → held ≡ held_entries color
    → short_bits color + rest ≡ 13 → next / 2 ^ rest ≡ key → 4 ≤ key → key < 2 ^ short_bits color
    → place ≡ 2 ^ (13 - long_zeros color) + key
    → get_or held place d ≡ entry_for color (number_text 13 next)
short_held color held rest next key place d e sum is l h there =
    let long : List (ℕ × ℕ) = entries (codes_of color) (long_zeros color) (13 - long_zeros color) in
    let short : List (ℕ × ℕ) = entries (codes_of color) 0 (short_bits color) in
    let at : place ≡ length long + key = there ∙ ap (λ n. n + key) (sym (held_long color long refl)) in
    rw (e, at) (get_or-append-add long short key d ∙ short_entry color short rest next key d refl sum is l h)

-- an entry of the short table is 0 and 0 where all bits but the last two are 0, and nowhere else
pub short_zero : (color : Color) (held : List (ℕ × ℕ)) (key place : ℕ) (d : ℕ × ℕ) → held ≡ held_entries color
    → key < 2 ^ short_bits color → place ≡ 2 ^ (13 - long_zeros color) + key
    → ((get_or held place d).1 ≡ 0 → key < 4) × ((get_or held place d).1 ≢ 0 → 4 ≤ key)
unfolding entries
short_zero color held key place d e h there =
    let long : List (ℕ × ℕ) = entries (codes_of color) (long_zeros color) (13 - long_zeros color) in
    let short : List (ℕ × ℕ) = entries (codes_of color) 0 (short_bits color) in
    let f : ℕ → ℕ × ℕ = λ key. entry_of (codes_of color) (number_text (short_bits color) key) in
    let at : place ≡ length long + key = there ∙ ap (λ n. n + key) (sym (held_long color long refl)) in
    let is : get_or held place d ≡ f key = ap (λ (es : List (ℕ × ℕ)). get_or es place d) e ∙ (ap (λ n. get_or (long ++ short) n d) at ∙
    (get_or-append-add long short key d ∙ get_or-map-range_with_len f 0 (2 ^ short_bits color) key key d h (omega arith))) in
    let length_is : (get_or held place d).1 ≡ (f key).1 = ap (λ (entry : ℕ × ℕ). entry.1) is in
    elim (cases_lt key 4) [
      | inl few ↦ (λ zero. few, λ some. absurd (some (length_is ∙ short_none color key few)))
      | inr many ↦ (
        λ zero. absurd (omega (
          arith,
          zero,
          length_is,
          subst (λ (entry : ℕ × ℕ). 0 < entry.1) (sym (entry_is color (number_text (short_bits color) key))) (short_found color key many h),
        )),
        λ some. many,
      )
    ]

pub long_places : (color : Color) → long_zeros color + (13 - long_zeros color) ≡ 13
long_places White = refl
long_places Black = refl

-- ---- an entry as one number

pub unpacked_is : (entry : ℕ × ℕ) → entry.0 < 65536 → unpacked (packed entry) ≡ entry
unfolding packed
unpacked_is (run, bits) small =
    let low : (run + bits * 65536) % 65536 ≡ run = omega (arith, small) in
    let high : (run + bits * 65536) / 65536 ≡ bits = omega (arith, small) in
    rw (low, high) refl

pub length_packed : (color : Color) (held : List ℕ) → held ≡ map packed (held_entries color)
    → length held ≡ 2 ^ (13 - long_zeros color) + 2 ^ short_bits color
length_packed color held e = ap length e ∙ (length-map (held_entries color) packed ∙ held_both color _ refl)

pub packed_at : (color : Color) (held : List ℕ) (place : ℕ) → held ≡ map packed (held_entries color) → place < length held
    → get_or held place 0 ≡ packed (get_or (held_entries color) place (0, 0))
packed_at color held place e within =
    let inside : place < length (held_entries color) = rw (e, length-map (held_entries color) packed) at within in
    ap (λ (es : List ℕ). get_or es place 0) e ∙ get_or-map packed (held_entries color) place (0, 0) 0 inside

short_pair : (color : Color) (key place : ℕ) → key < 2 ^ short_bits color → place ≡ 2 ^ (13 - long_zeros color) + key
    → get_or (held_entries color) place (0, 0) ≡ entry_for color (number_text (short_bits color) key)
unfolding entries
short_pair color key place h there =
    let long : List (ℕ × ℕ) = entries (codes_of color) (long_zeros color) (13 - long_zeros color) in
    let short : List (ℕ × ℕ) = entries (codes_of color) 0 (short_bits color) in
    let f : ℕ → ℕ × ℕ = λ key. entry_of (codes_of color) (number_text (short_bits color) key) in
    let at : place ≡ length long + key = there ∙ ap (λ n. n + key) (sym (held_long color long refl)) in
    ap (λ n. get_or (long ++ short) n (0, 0)) at ∙ (get_or-append-add long short key (0, 0) ∙
    (get_or-map-range_with_len f 0 (2 ^ short_bits color) key key (0, 0) h (omega arith) ∙ entry_is color _))

-- where an entry of the short table has no length, all bits but the last two are 0; any other is the entry of the bits
pub short_packed : (color : Color) (held : List ℕ) (rest next key place : ℕ) → held ≡ map packed (held_entries color)
    → short_bits color + rest ≡ 13 → next / 2 ^ rest ≡ key → key < 2 ^ short_bits color → place ≡ 2 ^ (13 - long_zeros color) + key
    → ((unpacked (get_or held place 0)).1 ≡ 0 → key < 4)
    × ((unpacked (get_or held place 0)).1 ≢ 0 → unpacked (get_or held place 0) ≡ entry_for color (number_text 13 next))
short_packed color held rest next key place e sum is h there =
    let within : place < length held = rw (length_packed color held e, there) (omega (arith, h)) in
    let pair : ℕ × ℕ = get_or (held_entries color) place (0, 0) in
    let small = entry_small color (number_text (short_bits color) key) pair (short_pair color key place h there) in
    let same : unpacked (get_or held place 0) ≡ pair = ap unpacked (packed_at color held place e within) ∙ unpacked_is pair (omega (arith, small)) in
    let seen = short_zero color (held_entries color) key place (0, 0) refl h there in (
      λ zero. seen.0 (ap (λ (e : ℕ × ℕ). e.1) (sym same) ∙ zero),
      λ some. same ∙ short_held color (held_entries color) rest next key place (0, 0) refl sum is
          (seen.1 (λ zero. some (ap (λ (e : ℕ × ℕ). e.1) same ∙ zero))) h there,
    )

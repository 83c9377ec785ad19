-- A white run and the black one after it, told from the next bits by one entry.
use Rattle.run_tables.proofs.BeginsLemmas.{list_all_at}
use Rattle.run_tables.specs.WriteTables.{is_short, packed_text, pair_words}
use Rattle.std.specs.List.{list_all}
use Rattle.std.proofs.Common.{ℕ, ◌≡◌, ◌≢◌, ◌+◌, ◌-◌, ◌*◌, ◌/◌, ◌%◌, ◌^◌, ◌<◌, ◌≤◌, Bool, true, false, List, [], ◌∷◌, ◌++◌, length, drop, map, Some, None}
use Rattle.std.proofs.Common.{refl, ap, sym, ◌∙◌, inl, arith, ltb, subst, suc, zero, ◌&&◌}
use Rattle.std.specs.Prelude.{Option, Ok, if◌then◌else◌, slice_index_or}
use Rattle.std.proofs.lemmas.Bool.{and_parts, ltb-true}
use Rattle.std.proofs.lemmas.List.{drop-append-le, length-drop, get_or-map, length-map}
use Rattle.std.proofs.lemmas.List.FromFn.{get_or-map-range_with_len, length-map-range_with_len}
use Rattle.raster.specs.declared.row.Color.{Color}
use Rattle.raster.specs.declared.row.Color.TheVariants.{White, Black}
use Rattle.run_tables.specs.declared.fault.CodeFaultKind.{CodeFaultKind}
use Rattle.run_tables.specs.declared.reader.Among.TheVariants.{AllCodes}
use Rattle.run_tables.specs.Codes.{code_word, codes_of}
use Rattle.run_tables.specs.CodeReading.{first_runs, runs_among, ReadsRunWithin, ReadsTwoRuns}
use Rattle.run_tables.specs.Numbers.{AreFirst, first_bits, number_text}
use Rattle.run_tables.specs.ReadTables.{entry_for, entry_of, entry_picked, pair_black, pair_bits, pair_of, pair_packed, pair_white, pairs}
use Rattle.run_tables.specs.Reading.{Reading, after, rest_of}
use Rattle.run_tables.specs.Texts.{pick}
use Rattle.run_tables.specs.Windows.{passed}
use Rattle.run_tables.proofs.CodeReads.{stands_pick}
use Rattle.run_tables.proofs.NumberLemmas.{begins_within, front_first}
use Rattle.run_tables.proofs.ReadTableLemmas.{entry_is, entry_more}
use Rattle.run_tables.proofs.RunReads.{rest_after}

-- the first bits and the others
first_split : (count : ℕ) (x : List Bool) → count ≤ length x → x ≡ first_bits count x ++ drop count x
unfolding first_bits
first_split zero x h = refl
first_split (suc count) [] h = absurd (omega (arith, h))
first_split (suc count) (bit ∷ x) h = ap (λ (bits : List Bool). bit ∷ bits) (first_split count x (omega (arith, h)))

-- an entry that is found is the code that is picked
entry_picks : (color : Color) (x : List Bool) (run bits : ℕ) → (run, bits) ≡ entry_for color x → 0 < bits
    → (pick (code_word color) (runs_among AllCodes) x ≡ Some run) × (bits ≡ length (code_word color run)) × (bits ≤ length x)
entry_picks color x run bits is some = at (pick (code_word color) (first_runs 104) x) refl is
  where
    at : (picked : Option ℕ) → pick (code_word color) (first_runs 104) x ≡ picked → (run, bits) ≡ entry_picked color picked
        → (pick (code_word color) (runs_among AllCodes) x ≡ Some run) × (bits ≡ length (code_word color run)) × (bits ≤ length x)
    at None e same = absurd (omega (arith, some, ap (λ (p : ℕ × ℕ). p.1) same))
    at (Some r) e same =
        let run_is : run ≡ r = ap (λ (p : ℕ × ℕ). p.0) same in
        let bits_is : bits ≡ length (code_word color r) = ap (λ (p : ℕ × ℕ). p.1) same in
        let found = stands_pick color AllCodes x r e in (
          e ∙ ap Some (sym run_is),
          bits_is ∙ ap (λ (n : ℕ). length (code_word color n)) (sym run_is),
          omega (arith, bits_is, begins_within (code_word color r) x found.1),
        )

-- also where bits follow
entry_picks_before : (color : Color) (x more : List Bool) → 0 < (entry_of (codes_of color) x).1
    → (pick (code_word color) (runs_among AllCodes) (x ++ more) ≡ Some (entry_of (codes_of color) x).0)
    × ((entry_of (codes_of color) x).1 ≡ length (code_word color (entry_of (codes_of color) x).0)) × ((entry_of (codes_of color) x).1 ≤ length x)
entry_picks_before color x more some =
    let entry : ℕ × ℕ = entry_of (codes_of color) x in
    let is : entry ≡ entry_for color x = entry_is color x in
    let own = entry_picks color x entry.0 entry.1 is some in
    let longer = entry_picks color (x ++ more) entry.0 entry.1
    (is ∙ sym (entry_more color x more (rw is at some))) some in
    (longer.0, own.1, own.2)

-- what a pair that is there says
record IsPair (white black : ℕ × ℕ) (packed : ℕ) : Type 0 where
  first_white : pair_white packed ≡ white.0
  then_black : pair_black packed ≡ black.0
  bits : pair_bits packed ≡ white.1 + black.1
  first : 0 < white.1
  second : 0 < black.1
  low_white : white.0 < 64
  some_black : 0 < black.0
  low_black : black.0 < 64

pair_parts : (white black : ℕ × ℕ) (packed : ℕ) → packed ≡ pair_packed white black → packed ≢ 0 → IsPair white black packed
pair_parts (white, first) (black, second) packed is some = at _ refl is
  where
    at : (test : Bool) → (ltb 0 first && ltb white 64 && (ltb 0 second && ltb 0 black && ltb black 64)) ≡ test
        → packed ≡ (if test then white + black * 256 + (first + second) * 65536 else 0) → IsPair (white, first) (black, second) packed
    at false e none = absurd (some none)
    at true e is =
        let both = and_parts (ltb 0 first && ltb white 64) (ltb 0 second && ltb 0 black && ltb black 64) e in
        let one = and_parts (ltb 0 first) (ltb white 64) both.0 in
        let two = and_parts (ltb 0 second && ltb 0 black) (ltb black 64) both.1 in
        let three = and_parts (ltb 0 second) (ltb 0 black) two.0 in
        let low_white = ltb-true white 64 one.1 in
        let low_black = ltb-true black 64 two.1 in
        record {
          first_white = omega (arith, is, low_white, low_black);
          then_black = omega (arith, is, low_white, low_black);
          bits = omega (arith, is, low_white, low_black);
          first = ltb-true 0 first one.0;
          second = ltb-true 0 second three.0;
          low_white = low_white;
          some_black = ltb-true 0 black three.1;
          low_black = low_black;
        }

-- what is known of a pair that is there
pub pair_known : (text : List Bool) (packed : ℕ) → packed ≡ pair_of text → packed ≢ 0
    → (0 < pair_black packed) × (0 < pair_bits packed) × (pair_bits packed ≤ length text)
unfolding pair_of
pair_known text packed is some =
    let white : ℕ × ℕ = entry_of (codes_of White) text in
    let black : ℕ × ℕ = entry_of (codes_of Black) (drop white.1 text) in
    let pair = pair_parts white black packed is some in
    let one = entry_picks_before White text [] pair.first in
    let two = entry_picks_before Black (drop white.1 text) [] pair.second in (
      omega (arith, pair.then_black, pair.some_black),
      omega (arith, pair.bits, pair.first),
      omega (arith, pair.bits, one.2, two.2, length-drop white.1 text),
    )

-- a pair of the next bits is two runs
pub pair_reads : (room : ℕ) (past : CodeFaultKind) (old : Reading) (count word packed : ℕ)
    → packed ≡ pair_of (number_text 12 (word / 2 ^ 52)) → packed ≢ 0 → AreFirst count (rest_of old) word → 12 ≤ count
    → count ≤ length (rest_of old) → pair_white packed + pair_black packed ≤ room
    → ReadsTwoRuns White room past old (passed old (pair_bits packed)) (pair_white packed) (pair_black packed)
unfolding pair_of
pair_reads room past old count word packed is some held enough left fits =
    let x : List Bool = rest_of old in
    let next : List Bool = first_bits 12 x in
    let white : ℕ × ℕ = entry_of (codes_of White) next in
    let black : ℕ × ℕ = entry_of (codes_of Black) (drop white.1 next) in
    let bits_is : number_text 12 (word / 2 ^ 52) ≡ next = front_first 12 52 count x word refl enough held in
    let pair = pair_parts white black packed (rw bits_is at is) some in
    let split : x ≡ next ++ drop 12 x = first_split 12 x (omega (arith, enough, left)) in
    let one = entry_picks_before White next (drop 12 x) pair.first in
    let two = entry_picks_before Black (drop white.1 next) (drop 12 x) pair.second in
    let between : Reading = after (code_word White white.0) old in
    let rest : rest_of between ≡ drop white.1 next ++ drop 12 x =
    rest_after (code_word White white.0) old ∙ (ap (λ (n : ℕ). drop n x) (sym one.1) ∙ (ap (drop white.1) split ∙
    drop-append-le white.1 next (drop 12 x) one.2)) in
    let there : passed old (pair_bits packed) ≡ after (code_word Black black.0) between =
    ap (λ (n : ℕ). record old { place = n }) (omega (arith, pair.bits, one.1, two.1)) in
    record {
      between = between;
      one = subst (λ (run : ℕ). ReadsRunWithin White room past old between (Ok run)) (sym pair.first_white) (inl (
        (ap (pick (code_word White) (runs_among AllCodes)) split ∙ one.0, refl),
        pair.low_white,
        omega (arith, fits, pair.first_white),
      ));
      two = subst (λ (run : ℕ). ReadsRunWithin Black (room - pair_white packed) past between (passed old (pair_bits packed)) (Ok run))
          (sym pair.then_black) (inl (
            (ap (pick (code_word Black) (runs_among AllCodes)) rest ∙ two.0, there),
            pair.low_black,
            omega (arith, fits, pair.then_black),
          ));
    }

-- the table's entry is the pair of the bits
pub pair_held : (held : List ℕ) (next : ℕ) → held ≡ pairs → next < 2 ^ 12
    → (next < length held) × (slice_index_or held next 0 ≡ pair_of (number_text 12 next))
unfolding pairs
pair_held held next e h =
    let f : ℕ → ℕ = λ key. pair_of (number_text 12 key) in (
      rw (e, length-map-range_with_len f 0 (2 ^ 12)) h,
      ap (λ (es : List ℕ). slice_index_or es next 0) e ∙ get_or-map-range_with_len f 0 (2 ^ 12) next next 0 h (omega arith),
    )

-- ---- written

-- an entry of the written pairs is the code words of its two runs
pub words_held : (held : List ℕ) (black white place : ℕ) → map packed_text held ≡ pair_words → list_all is_short held ≡ true
    → black < 64 → white < 64 → place ≡ 64 * black + white
    → (place < length held) × (packed_text (slice_index_or held place 0) ≡ code_word Black black ++ code_word White white)
    × (slice_index_or held place 0 / 2 ^ 24 ≤ 21)
unfolding pair_words
words_held held black white place e short hb hw there =
    let f : ℕ → List Bool = λ key. code_word Black (key / 64) ++ code_word White (key % 64) in
    let all : length held ≡ 4096 = sym (length-map held packed_text) ∙ (ap length e ∙ length-map-range_with_len f 0 4096) in
    let within : place < length held = rw (all, there) (omega (arith, hb, hw)) in
    let high : place / 64 ≡ black = omega (arith, there, hw) in
    let low : place % 64 ≡ white = omega (arith, there, hw) in
    let entry : packed_text (slice_index_or held place 0) ≡ f place = sym (get_or-map packed_text held place 0 [] within) ∙
    (ap (λ (es : List (List Bool)). slice_index_or es place []) e ∙ get_or-map-range_with_len f 0 4096 place place [] (omega (arith, within, all))
    (omega arith)) in
    let few = ltb-true _ _ (list_all_at is_short held place 0 short within) in (
      within,
      entry ∙ ap (λ (n : ℕ). code_word Black n ++ code_word White (place % 64)) high ∙
          ap (λ (n : ℕ). code_word Black black ++ code_word White n) low,
      omega (arith, few),
    )

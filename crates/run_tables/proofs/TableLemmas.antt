use Rattle.std.proofs.Common.{◌≡◌, ℕ, ◌<◌, Bool, List, [], map, length, get_or, refl, ap, sym, ◌∙◌, arith}
use Rattle.std.specs.List.{range_with_len}
use Rattle.std.proofs.lemmas.List.{get_or-map, length-map}
use Rattle.std.proofs.lemmas.List.FromFn.{get_or-map-range_with_len}
use Rattle.raster.specs.declared.row.Color.{Color}
use Rattle.raster.specs.declared.row.Color.TheVariants.{White, Black}
use Rattle.run_tables.specs.declared.table.Code.{Code}
use Rattle.run_tables.specs.Codes.{codes_of, code_word, run_at}
use Rattle.run_tables.specs.Numbers.{number_text}
use Rattle.run_tables.specs.Tables.{as_pairs, pair_of}
use Rattle.run_tables.specs.WriteTables.{as_words, words_of}

-- the run and the code word of the code at a place
abbrev pub listed : Color → ℕ → ℕ × List Bool
listed color place = (run_at place, code_word color (run_at place))

-- the table lists the codes in the order of their places
pub table_is : (color : Color) → codes_of color ≡ map (λ place. listed color place) (range_with_len 0 104)
unfolding code_word
table_is White = refl
table_is Black = refl

pub table_length : (color : Color) → length (codes_of color) ≡ 104
table_length White = refl
table_length Black = refl

pub table_at : (color : Color) (k : ℕ) (d : ℕ × List Bool) → k < 104 → get_or (codes_of color) k d ≡ listed color k
table_at color k d h =
    ap (λ (cs : List (ℕ × List Bool)). get_or cs k d) (table_is color) ∙
    get_or-map-range_with_len (λ place. listed color place) 0 104 k k d h (omega arith)

pub held_length : (color : Color) (held : List Code) → as_pairs held ≡ codes_of color → length held ≡ 104
held_length color held e = sym (length-map held pair_of) ∙ (ap length e ∙ table_length color)

pub held_at : (color : Color) (held : List Code) (k : ℕ) (d : Code) → as_pairs held ≡ codes_of color → k < 104
    → pair_of (get_or held k d) ≡ listed color k
held_at color held k d e h =
    let within : k < length held = rw (held_length color held e) h in
    let x : ℕ × List Bool = pair_of d in
    sym (get_or-map pair_of held k d x within) ∙ (ap (λ (cs : List (ℕ × List Bool)). get_or cs k x) e ∙ table_at color k x h)

pub words_length : (color : Color) (held : List (ℕ × ℕ)) → as_words held ≡ words_of (codes_of color) → length held ≡ 104
words_length color held e = sym (length-map held (λ (word : ℕ × ℕ). number_text word.1 word.0)) ∙ (ap length e ∙ (length-map (codes_of
    color) (λ (code : ℕ × List Bool). code.1) ∙ table_length color))

-- the code word at a place
pub words_at : (color : Color) (held : List (ℕ × ℕ)) (k : ℕ) (d : ℕ × ℕ) → as_words held ≡ words_of (codes_of color) → k < 104
    → number_text (get_or held k d).1 (get_or held k d).0 ≡ code_word color (run_at k)
words_at color held k d e h =
    let within : k < length held = rw (words_length color held e) h in
    let there : k < length (codes_of color) = rw (table_length color) h in
    let x : ℕ × List Bool = (0, []) in
    sym (get_or-map (λ (word : ℕ × ℕ). number_text word.1 word.0) held k d [] within) ∙ (ap (λ (ws : List (List Bool)). get_or ws k [])
    e ∙
    (get_or-map (λ (code : ℕ × List Bool). code.1) (codes_of color) k x [] there ∙ ap (λ (code : ℕ × List Bool). code.1) (table_at color
    k x h)))

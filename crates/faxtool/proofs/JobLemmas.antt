-- What a parse of the program's words says of its width, and of the words themselves.
use Rattle.std.proofs.Common.{◌≡◌, ◌≤◌, ◌∙◌, ℕ, List, Option, Some, None, Result, Ok, Err, true, ap, subst, sym, codes}
use Rattle.std.proofs.Common.{slice_index, inl, inr, unwrap_or, arith, refl}
use Rattle.std.specs.Str.Parse.{ParsesUnsigned, digits_value, without_leading_plus}
use Rattle.clap.specs.Words.{App, HasKind, IsAmong, ReadsOne, Row, Text, fault_of, first_of, is_simple}
use Rattle.clap.specs.Words.{is_simple_and_free, kind_of, one_text, rows_of, subcommand_of}
use Rattle.clap.specs.declared.parser.matches.Found.{Found}
use Rattle.clap.specs.declared.error.Error.{Error}
use Rattle.clap.specs.declared.builder.value_parser.ValueParser.{ValueParser}
use Rattle.clap.proofs.OnLiterals.{clap_on_literals}
use Rattle.clap.proofs.WalkLemmas.{one_text-rows}
use Rattle.calls.specs.Losses.{IsRate}
use Rattle.calls.specs.declared.losses.BadLine.{BadLine}
use Rattle.std.specs.Prelude.{Bool, false, is_some, not, option_map, string_bytes, ◌&&◌}
use Rattle.faxtool.specs.declared.command.Command.TheVariants.{Answer, Call, Captures, Code, Decode, Dial, Drive, Each, Frames, Identify, Judge, Several, Show, Version}
use Rattle.faxtool.specs.declared.args.words.Outcome.{Outcome}
use Rattle.faxtool.specs.declared.args.words.Outcome.TheVariants.{Done, Fault, Incomplete, Words}
use Rattle.faxtool.specs.Jobs.{AreOptionsIn, HasNoCommand, HasNoOptions, IsFaxtool, IsOutcomeOf, IsRefusalOf, IsWidthIn, ReadsNumber}
use Rattle.faxtool.specs.Jobs.{has_captures, is_named}
use Rattle.faxtool.specs.Jobs.{IsBusyIn, IsLineIn, IsTimesIn, IsRateIn, IsSpoilIn, page_app, with_calls, with_later}

-- ---- the width

same_text : (a b : Text) → Some a ≡ Some b → a ≡ b
same_text a b e = ap (λ (o : Option Text). unwrap_or o a) e

pub number_reads : {E : Type 0} (id : Text) (f : Found) (gives : Text → Result ℕ E → Type 0) (r : Option ℕ)
    → ((text : Text) (x : Result ℕ E) → gives text x → ParsesUnsigned 32 10 text x)
    → (one_text f id ≡ None → r ≡ None)
    → ((text : Text) → one_text f id ≡ Some text → ReadsOne gives text r)
    → ReadsNumber id (rows_of f) r
number_reads {E} id f gives None parses none value =
    λ text given numeral fits.
    let read = value text (one_text-rows f id ∙ given) in
    parses text (Err read.0) read.1 (numeral, fits)
number_reads {E} id f gives (Some number) parses none value = go (one_text f id) refl
  where
    go : (o : Option Text) → one_text f id ≡ o → ReadsNumber id (rows_of f) (Some number)
    go None e =
        let no : Some number ≡ None = none e in
        cc
    go (Some text) e =
        let read = parses text (Ok number) (value text e) in
        (text, sym (one_text-rows f id) ∙ e, (read.0.0, read.1))

pub width_made : (rows : List Row) (width : ℕ) → ReadsNumber (codes "width") rows (Some width) → 1 ≤ width → width ≤ 2432
    → IsWidthIn rows width
width_made rows width (text, given, number) least most =
    record { text = text; given = given; number = number; least = least; most = most }

pub width_outside : (rows : List Row) (width : ℕ) → ReadsNumber (codes "width") rows (Some width) → (1 ≤ width → width ≤ 2432 → ⊥)
    → (n : ℕ) → IsWidthIn rows n → ⊥
width_outside rows width (text, given, number) outside n is =
    let same : text ≡ is.text = same_text text is.text (sym given ∙ is.given) in
    let one : n ≡ width = is.number.1 ∙ (ap (λ (t : Text). digits_value 10 (without_leading_plus t)) (sym same) ∙ sym number.1) in
    outside (subst (λ k. 1 ≤ k) one is.least) (subst (λ k. k ≤ 2432) one is.most)

pub width_none : (rows : List Row) → ReadsNumber (codes "width") rows None → (n : ℕ) → IsWidthIn rows n → ⊥
width_none rows none n is =
    let most : digits_value 10 (without_leading_plus is.text) ≤ 2432 = subst (λ k. k ≤ 2432) is.number.1 is.most in
    none is.text is.given is.number.0 (omega (arith, most))

-- ---- the words

pub faxtool_simple : (page_codings page_orders codings orders sizes modems ends later_codings later_sizes later_modems widths : ValueParser)
    → is_simple (with_later (with_calls (page_app page_codings page_orders) codings orders sizes modems ends) later_codings later_sizes
    later_modems widths) ≡ true
unfolding clap_on_literals
faxtool_simple page_codings page_orders codings orders sizes modems ends later_codings later_sizes later_modems widths = refl

pub faxtool_free : (page_codings page_orders codings orders sizes modems ends later_codings later_sizes later_modems widths : ValueParser)
    → is_simple_and_free (with_later (with_calls (page_app page_codings page_orders) codings orders sizes modems ends) later_codings
    later_sizes later_modems widths) ≡ true
unfolding clap_on_literals
faxtool_free page_codings page_orders codings orders sizes modems ends later_codings later_sizes later_modems widths = refl

-- the whole program, by its parsers alone
abbrev whole_app : (a : App) → IsFaxtool a → App
whole_app a is =
    with_later (with_calls (page_app is.first.pages.codings is.first.pages.orders) is.first.codings is.first.orders is.first.sizes
    is.first.modems is.first.ends) is.codings is.sizes is.modems is.widths

whole : (a : App) (is : IsFaxtool a) → a ≡ whole_app a is
whole a is =
    is.commands ∙ ap (λ (begun : App). with_later begun is.codings is.sizes is.modems is.widths)
    (is.first.commands ∙ ap (λ (begun : App). with_calls begun is.first.codings is.first.orders is.first.sizes is.first.modems is.first.ends)
    is.first.pages.commands)

pub is_faxtool_simple : (a : App) → IsFaxtool a → is_simple a ≡ true
is_faxtool_simple a is =
    ap is_simple (whole a is) ∙ faxtool_simple is.first.pages.codings is.first.pages.orders is.first.codings is.first.orders is.first.sizes
    is.first.modems is.first.ends is.codings is.sizes is.modems is.widths

pub is_faxtool_free : (a : App) → IsFaxtool a → is_simple_and_free a ≡ true
is_faxtool_free a is =
    ap is_simple_and_free (whole a is) ∙ faxtool_free is.first.pages.codings is.first.pages.orders is.first.codings is.first.orders
    is.first.sizes is.first.modems is.first.ends is.codings is.sizes is.modems is.widths

-- clap's own refusal
pub refused_by_kind : (words : List Text) (a : App) (error : Error) (outcome : Outcome) → IsFaxtool a
    → HasKind (fault_of a words) error → IsOutcomeOf error outcome → IsRefusalOf words outcome
refused_by_kind words a error Done is kinds made = made
refused_by_kind words a error Incomplete is kinds made = elim made [ ]
refused_by_kind words a error (Fault fault) is kinds made = made.1
refused_by_kind words a error (Words given) is (inl memory) made = absurd (made.0 memory)
refused_by_kind words a error (Words given) is (inr among) made =
    (a, is, inl (subst (λ (e : Error). IsAmong (kind_of e) (fault_of a words)) (sym made.1) among))

-- the refusal of words that have no command
pub refused_for_job : (words : List Text) (a : App) (error : Error) (outcome : Outcome) → IsFaxtool a
    → HasNoCommand (subcommand_of a words) → IsOutcomeOf error outcome → IsRefusalOf words outcome
refused_for_job words a error Done is none made = made
refused_for_job words a error Incomplete is none made = elim made [ ]
refused_for_job words a error (Fault fault) is none made = made.1
refused_for_job words a error (Words given) is none made = (a, is, inr none)

-- ---- the commands

some_name : (a b : Text) (xs ys : List Row) → ◌≡◌ {A = Option (Text × List Row)} (Some (a, xs)) (Some (b, ys)) → a ≡ b
some_name a b xs ys e = ap (λ (o : Option (Text × List Row)). (unwrap_or o (a, xs)).0) e

some_rows : (a b : Text) (xs ys : List Row) → ◌≡◌ {A = Option (Text × List Row)} (Some (a, xs)) (Some (b, ys)) → xs ≡ ys
some_rows a b xs ys e = ap (λ (o : Option (Text × List Row)). (unwrap_or o (a, xs)).1) e

-- a subcommand that was met, by its name and by its rows
pub met_of : {B : Type 0} (f : B → Text) (g : B → List Row) (o : Option B) (name : Text) (rows : List Row) → option_map f o ≡ Some name
    → option_map (λ (p : Text × List Row). p.1) (option_map (λ b. (f b, g b)) o) ≡ Some rows
    → ◌≡◌ {A = Option (Text × List Row)} (option_map (λ b. (f b, g b)) o) (Some (name, rows))
met_of f g None name rows e r = absurd (cc)
met_of f g (Some b) name rows e r =
    let n : f b ≡ name = same_text (f b) name e in
    let x : g b ≡ rows = ap (λ (o : Option (List Row)). unwrap_or o (g b)) r in
    ap (λ (t : Text). Some (t, g b)) n ∙ ap (λ (t : List Row). Some (name, t)) x

show_is_code : codes "show" ≡ codes "code" → ⊥
show_is_code e =
    let bad : 115 ≡ 99 = ap (λ (t : Text). slice_index t 0) e in
    absurd (omega (arith, bad))

show_is_frames : codes "show" ≡ codes "frames" → ⊥
show_is_frames e =
    let bad : 115 ≡ 102 = ap (λ (t : Text). slice_index t 0) e in
    absurd (omega (arith, bad))

show_is_call : codes "show" ≡ codes "call" → ⊥
show_is_call e =
    let bad : 115 ≡ 99 = ap (λ (t : Text). slice_index t 0) e in
    absurd (omega (arith, bad))

show_is_decode : codes "show" ≡ codes "decode" → ⊥
show_is_decode e =
    let bad : 115 ≡ 100 = ap (λ (t : Text). slice_index t 0) e in
    absurd (omega (arith, bad))

decode_is_frames : codes "decode" ≡ codes "frames" → ⊥
decode_is_frames e =
    let bad : 100 ≡ 102 = ap (λ (t : Text). slice_index t 0) e in
    absurd (omega (arith, bad))

decode_is_call : codes "decode" ≡ codes "call" → ⊥
decode_is_call e =
    let bad : 100 ≡ 99 = ap (λ (t : Text). slice_index t 0) e in
    absurd (omega (arith, bad))

call_is_code : codes "call" ≡ codes "code" → ⊥
call_is_code e =
    let bad : 97 ≡ 111 = ap (λ (t : Text). slice_index t 1) e in
    absurd (omega (arith, bad))

call_is_frames : codes "call" ≡ codes "frames" → ⊥
call_is_frames e =
    let bad : 99 ≡ 102 = ap (λ (t : Text). slice_index t 0) e in
    absurd (omega (arith, bad))

show_is_version : codes "show" ≡ codes "version" → ⊥
show_is_version e =
    let bad : 115 ≡ 118 = ap (λ (t : Text). slice_index t 0) e in
    absurd (omega (arith, bad))

call_is_version : codes "call" ≡ codes "version" → ⊥
call_is_version e =
    let bad : 99 ≡ 118 = ap (λ (t : Text). slice_index t 0) e in
    absurd (omega (arith, bad))

show_is_station : codes "show" ≡ codes "station" → ⊥
show_is_station e =
    let bad : 104 ≡ 116 = ap (λ (t : Text). slice_index t 1) e in
    absurd (omega (arith, bad))

call_is_station : codes "call" ≡ codes "station" → ⊥
call_is_station e =
    let bad : 99 ≡ 115 = ap (λ (t : Text). slice_index t 0) e in
    absurd (omega (arith, bad))

show_is_identify : codes "show" ≡ codes "identify" → ⊥
show_is_identify e =
    let bad : 115 ≡ 105 = ap (λ (t : Text). slice_index t 0) e in
    absurd (omega (arith, bad))

call_is_identify : codes "call" ≡ codes "identify" → ⊥
call_is_identify e =
    let bad : 99 ≡ 105 = ap (λ (t : Text). slice_index t 0) e in
    absurd (omega (arith, bad))

show_is_judge : codes "show" ≡ codes "judge" → ⊥
show_is_judge e =
    let bad : 115 ≡ 106 = ap (λ (t : Text). slice_index t 0) e in
    absurd (omega (arith, bad))

call_is_judge : codes "call" ≡ codes "judge" → ⊥
call_is_judge e =
    let bad : 99 ≡ 106 = ap (λ (t : Text). slice_index t 0) e in
    absurd (omega (arith, bad))

-- without a width there is no command for `show`
pub no_width : (rows : List Row) → ((n : ℕ) → IsWidthIn rows n → ⊥) → HasNoCommand (Some (codes "show", rows))
no_width rows none (Code command) (others, e, is) = show_is_code (some_name (codes "show") (codes "code") rows others e)
no_width rows none (Show command) (others, e, is) =
    none command.width (subst (λ (xs : List Row). IsWidthIn xs command.width) (sym (some_rows (codes "show") (codes "show") rows others e)) is.width_is)
no_width rows none (Decode command) (others, e, is) =
    show_is_decode (some_name (codes "show") (codes "decode") rows others e)
no_width rows none (Each command) (others, e, is) =
    show_is_decode (some_name (codes "show") (codes "decode") rows others e)
no_width rows none (Frames command) (others, e, is) =
    show_is_frames (some_name (codes "show") (codes "frames") rows others e)
no_width rows none (Captures command) (others, e, is) =
    show_is_frames (some_name (codes "show") (codes "frames") rows others e)
no_width rows none (Identify command) (others, e, one, is) =
    show_is_identify (some_name (codes "show") (codes "identify") rows others e)
no_width rows none (Several command) (others, e, more, is) =
    show_is_identify (some_name (codes "show") (codes "identify") rows others e)
no_width rows none (Call command) (others, e, is) =
    show_is_call (some_name (codes "show") (codes "call") rows others e)
no_width rows none (Drive command) (others, e, is) =
    show_is_call (some_name (codes "show") (codes "call") rows others e)
no_width rows none (Judge command) (others, e, is) =
    show_is_judge (some_name (codes "show") (codes "judge") rows others e)
no_width rows none (Answer command) (others, e, is) =
    show_is_station (some_name (codes "show") (codes "station") rows others e)
no_width rows none (Dial command) (others, e, is) =
    show_is_station (some_name (codes "show") (codes "station") rows others e)
no_width rows none (Version command) (others, e, is) = show_is_version (some_name (codes "show") (codes "version") rows others e)

-- without options there is no command for `call`
pub no_options : (rows : List Row) → HasNoOptions rows → HasNoCommand (Some (codes "call", rows))
no_options rows none (Code command) (others, e, is) =
    call_is_code (some_name (codes "call") (codes "code") rows others e)
no_options rows none (Show command) (others, e, is) =
    show_is_call (sym (some_name (codes "call") (codes "show") rows others e))
no_options rows none (Decode command) (others, e, is) =
    decode_is_call (sym (some_name (codes "call") (codes "decode") rows others e))
no_options rows none (Each command) (others, e, is) =
    decode_is_call (sym (some_name (codes "call") (codes "decode") rows others e))
no_options rows none (Frames command) (others, e, is) =
    call_is_frames (some_name (codes "call") (codes "frames") rows others e)
no_options rows none (Captures command) (others, e, is) =
    call_is_frames (some_name (codes "call") (codes "frames") rows others e)
no_options rows none (Identify command) (others, e, one, is) =
    call_is_identify (some_name (codes "call") (codes "identify") rows others e)
no_options rows none (Several command) (others, e, more, is) =
    call_is_identify (some_name (codes "call") (codes "identify") rows others e)
no_options rows none (Call command) (others, e, is) =
    none command.options (subst (λ (xs : List Row). AreOptionsIn xs command.options) (sym (some_rows (codes "call") (codes "call") rows others e))
    is.options_are)
no_options rows none (Drive command) (others, e, is) =
    none command.options (subst (λ (xs : List Row). AreOptionsIn xs command.options) (sym (some_rows (codes "call") (codes "call") rows others e))
    is.options_are)
no_options rows none (Judge command) (others, e, is) =
    call_is_judge (some_name (codes "call") (codes "judge") rows others e)
no_options rows none (Answer command) (others, e, is) =
    call_is_station (some_name (codes "call") (codes "station") rows others e)
no_options rows none (Dial command) (others, e, is) =
    call_is_station (some_name (codes "call") (codes "station") rows others e)
no_options rows none (Version command) (others, e, is) = call_is_version (some_name (codes "call") (codes "version") rows others e)

-- ---- a bad line

pub rate_only : (id : Text) (rows : List Row) (text : Text) (result : Option ℕ) → Some text ≡ first_of id rows
    → ((share : ℕ) → IsRate text share → result ≡ Some share) → (share : ℕ) → IsRateIn id rows share → result ≡ Some share
rate_only id rows text result given only share (other, is, rate) =
    only share (subst (λ t. IsRate t share) (sym (same_text text other (given ∙ is))) rate)

pub spoil_only : (rows : List Row) (text : Text) (result : Option ℕ) → Some text ≡ first_of (codes "spoil") rows
    → ((share : ℕ) → IsRate text share → result ≡ Some share) → (share : ℕ) → IsSpoilIn rows share → result ≡ Some share
spoil_only rows text result given only share (inl (none, zero_is)) =
    let no : ◌≡◌ {A = Option Text} (Some text) None = given ∙ none in
    absurd (cc)
spoil_only rows text result given only share (inr rate) = rate_only (codes "spoil") rows text result given only share rate

pub busy_only : (rows : List Row) (text : Text) (result : Option ℕ) → Some text ≡ first_of (codes "busy") rows
    → ((share : ℕ) → IsRate text share → result ≡ Some share) → (share : ℕ) → IsBusyIn rows share → result ≡ Some share
busy_only rows text result given only share (inl (none, zero_is)) =
    let no : ◌≡◌ {A = Option Text} (Some text) None = given ∙ none in
    absurd (cc)
busy_only rows text result given only share (inr rate) = rate_only (codes "busy") rows text result given only share rate

pub none_there : (share : ℕ) → ◌≡◌ {A = Option ℕ} None (Some share) → ⊥
none_there share e = cc

pub same_number : (a b : ℕ) → ◌≡◌ {A = Option ℕ} (Some a) (Some b) → a ≡ b
same_number a b e = ap (λ (o : Option ℕ). unwrap_or o a) e

-- without a script and a bad line there is no command for `call`
pub no_line : (rows : List Row) → None ≡ first_of (codes "script") rows → ((line : BadLine) → IsLineIn rows line → ⊥)
    → HasNoCommand (Some (codes "call", rows))
no_line rows open_end none (Code command) (others, e, is) =
    call_is_code (some_name (codes "call") (codes "code") rows others e)
no_line rows open_end none (Show command) (others, e, is) =
    show_is_call (sym (some_name (codes "call") (codes "show") rows others e))
no_line rows open_end none (Decode command) (others, e, is) =
    decode_is_call (sym (some_name (codes "call") (codes "decode") rows others e))
no_line rows open_end none (Each command) (others, e, is) =
    decode_is_call (sym (some_name (codes "call") (codes "decode") rows others e))
no_line rows open_end none (Frames command) (others, e, is) =
    call_is_frames (some_name (codes "call") (codes "frames") rows others e)
no_line rows open_end none (Captures command) (others, e, is) =
    call_is_frames (some_name (codes "call") (codes "frames") rows others e)
no_line rows open_end none (Identify command) (others, e, one, is) =
    call_is_identify (some_name (codes "call") (codes "identify") rows others e)
no_line rows open_end none (Several command) (others, e, more, is) =
    call_is_identify (some_name (codes "call") (codes "identify") rows others e)
no_line rows open_end none (Call command) (others, e, is) =
    let same : rows ≡ others = some_rows (codes "call") (codes "call") rows others e in
    let no : ◌≡◌ {A = Option Text} None (Some (string_bytes command.script)) =
    open_end ∙ (ap (λ (xs : List Row). first_of (codes "script") xs) same ∙ is.script_is) in
    cc
no_line rows open_end none (Drive command) (others, e, is) =
    none command.line (subst (λ (xs : List Row). IsLineIn xs command.line) (sym (some_rows (codes "call") (codes "call") rows others e)) is.line_is)
no_line rows open_end none (Judge command) (others, e, is) =
    call_is_judge (some_name (codes "call") (codes "judge") rows others e)
no_line rows open_end none (Answer command) (others, e, is) =
    call_is_station (some_name (codes "call") (codes "station") rows others e)
no_line rows open_end none (Dial command) (others, e, is) =
    call_is_station (some_name (codes "call") (codes "station") rows others e)
no_line rows open_end none (Version command) (others, e, is) = call_is_version (some_name (codes "call") (codes "version") rows others e)

-- without a script, and where no number of calls fits, there is no command for `call`
pub no_times : (rows : List Row) → None ≡ first_of (codes "script") rows → ((times : Option ℕ) → IsTimesIn rows times → ⊥)
    → HasNoCommand (Some (codes "call", rows))
no_times rows open_end none (Code command) (others, e, is) =
    call_is_code (some_name (codes "call") (codes "code") rows others e)
no_times rows open_end none (Show command) (others, e, is) =
    show_is_call (sym (some_name (codes "call") (codes "show") rows others e))
no_times rows open_end none (Decode command) (others, e, is) =
    decode_is_call (sym (some_name (codes "call") (codes "decode") rows others e))
no_times rows open_end none (Each command) (others, e, is) =
    decode_is_call (sym (some_name (codes "call") (codes "decode") rows others e))
no_times rows open_end none (Frames command) (others, e, is) =
    call_is_frames (some_name (codes "call") (codes "frames") rows others e)
no_times rows open_end none (Captures command) (others, e, is) =
    call_is_frames (some_name (codes "call") (codes "frames") rows others e)
no_times rows open_end none (Identify command) (others, e, one, is) =
    call_is_identify (some_name (codes "call") (codes "identify") rows others e)
no_times rows open_end none (Several command) (others, e, more, is) =
    call_is_identify (some_name (codes "call") (codes "identify") rows others e)
no_times rows open_end none (Call command) (others, e, is) =
    let same : rows ≡ others = some_rows (codes "call") (codes "call") rows others e in
    let no : ◌≡◌ {A = Option Text} None (Some (string_bytes command.script)) =
    open_end ∙ (ap (λ (xs : List Row). first_of (codes "script") xs) same ∙ is.script_is) in
    cc
no_times rows open_end none (Drive command) (others, e, is) =
    none command.times (subst (λ (xs : List Row). IsTimesIn xs command.times) (sym (some_rows (codes "call") (codes "call") rows others e)) is.times_is)
no_times rows open_end none (Judge command) (others, e, is) =
    call_is_judge (some_name (codes "call") (codes "judge") rows others e)
no_times rows open_end none (Answer command) (others, e, is) =
    call_is_station (some_name (codes "call") (codes "station") rows others e)
no_times rows open_end none (Dial command) (others, e, is) =
    call_is_station (some_name (codes "call") (codes "station") rows others e)
no_times rows open_end none (Version command) (others, e, is) = call_is_version (some_name (codes "call") (codes "version") rows others e)

-- ---- a folder

code_is_frames : codes "code" ≡ codes "frames" → ⊥
code_is_frames e =
    let bad : 99 ≡ 102 = ap (λ (t : Text). slice_index t 0) e in
    absurd (omega (arith, bad))

frames_is_identify : codes "frames" ≡ codes "identify" → ⊥
frames_is_identify e =
    let bad : 102 ≡ 105 = ap (λ (t : Text). slice_index t 0) e in
    absurd (omega (arith, bad))

frames_is_station : codes "frames" ≡ codes "station" → ⊥
frames_is_station e =
    let bad : 102 ≡ 115 = ap (λ (t : Text). slice_index t 0) e in
    absurd (omega (arith, bad))

frames_is_version : codes "frames" ≡ codes "version" → ⊥
frames_is_version e =
    let bad : 102 ≡ 118 = ap (λ (t : Text). slice_index t 0) e in
    absurd (omega (arith, bad))

frames_is_judge : codes "frames" ≡ codes "judge" → ⊥
frames_is_judge e =
    let bad : 102 ≡ 106 = ap (λ (t : Text). slice_index t 0) e in
    absurd (omega (arith, bad))

-- where the rows before gaps are wanted and no folder is given, there is no command for `frames`
pub no_folder : (rows : List Row) → has_captures rows ≡ false → is_named (codes "true") (first_of (codes "salvage") rows) ≡ true
    → is_some (first_of (codes "pages") rows) ≡ false → HasNoCommand (Some (codes "frames", rows))
no_folder rows alone wanted none (Code command) (others, e, is) =
    code_is_frames (sym (some_name (codes "frames") (codes "code") rows others e))
no_folder rows alone wanted none (Show command) (others, e, is) =
    show_is_frames (sym (some_name (codes "frames") (codes "show") rows others e))
no_folder rows alone wanted none (Decode command) (others, e, is) =
    decode_is_frames (sym (some_name (codes "frames") (codes "decode") rows others e))
no_folder rows alone wanted none (Each command) (others, e, is) =
    decode_is_frames (sym (some_name (codes "frames") (codes "decode") rows others e))
no_folder rows alone wanted none (Frames command) (others, e, is) =
    let same : rows ≡ others = some_rows (codes "frames") (codes "frames") rows others e in
    let asked : command.salvage ≡ true = is.pages_are.salvage_is
    ∙ (ap (λ (xs : List Row). is_named (codes "true") (first_of (codes "salvage") xs)) (sym same) ∙ wanted) in
    let nowhere : is_some (option_map string_bytes command.pages) ≡ false = ap is_some (sym is.pages_are.pages_are)
    ∙ (ap (λ (xs : List Row). is_some (first_of (codes "pages") xs)) (sym same) ∙ none) in
    let both : (command.salvage && not (is_some (option_map string_bytes command.pages))) ≡ true =
    ap (λ b. b && not (is_some (option_map string_bytes command.pages))) asked ∙ ap not nowhere in
    let no : ◌≡◌ {A = Bool} true false = sym both ∙ is.pages_are.in_folder in
    cc
no_folder rows alone wanted none (Captures command) (others, e, is) =
    let same : rows ≡ others = some_rows (codes "frames") (codes "frames") rows others e in
    let there : has_captures others ≡ true = rw is.diagram_is refl in
    let no : ◌≡◌ {A = Bool} true false = sym there ∙ (ap has_captures (sym same) ∙ alone) in
    cc
no_folder rows alone wanted none (Identify command) (others, e, one, is) =
    frames_is_identify (some_name (codes "frames") (codes "identify") rows others e)
no_folder rows alone wanted none (Several command) (others, e, more, is) =
    frames_is_identify (some_name (codes "frames") (codes "identify") rows others e)
no_folder rows alone wanted none (Call command) (others, e, is) =
    call_is_frames (sym (some_name (codes "frames") (codes "call") rows others e))
no_folder rows alone wanted none (Drive command) (others, e, is) =
    call_is_frames (sym (some_name (codes "frames") (codes "call") rows others e))
no_folder rows alone wanted none (Judge command) (others, e, is) =
    frames_is_judge (some_name (codes "frames") (codes "judge") rows others e)
no_folder rows alone wanted none (Answer command) (others, e, is) =
    frames_is_station (some_name (codes "frames") (codes "station") rows others e)
no_folder rows alone wanted none (Dial command) (others, e, is) =
    frames_is_station (some_name (codes "frames") (codes "station") rows others e)
no_folder rows alone wanted none (Version command) (others, e, is) =
    frames_is_version (some_name (codes "frames") (codes "version") rows others e)

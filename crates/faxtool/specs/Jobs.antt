-- The commands of the program, what each command is of the values that clap reads, and why words are refused.
use Rattle.std.specs.Prelude.{◌≡◌, ◌≢◌, ◌≤◌, ◌<◌, ◌^◌, ◌⊎◌, ℕ, Bool, true, false, List, [], ◌∷◌, Option, Some, None}
use Rattle.std.specs.Prelude.{zero, suc, IfSome, ◌++◌, find, length, nat_lt, unwrap_or, codes, map, pos, if◌then◌else◌, is_some, nat_eq, nat_le, option_map, string_bytes, not, ◌&&◌, ◌||◌, ◌+◌, ◌*◌, ◌-◌}
use Rattle.std.specs.Str.{bytes_eq}
use Rattle.std.specs.Str.Parse.{IsNumeral, digits_value, without_leading_plus}
use Rattle.clap.specs.Words.{App, IsAmong, Row, Rule, Text, all_of, fault_of, first_of, kind_of, new_app}
use Rattle.clap.specs.Words.{new_rule, one_of, subcommand_of, with_rule, with_subcommand}
use Rattle.clap.specs.declared.builder.action.ArgAction.TheVariants.{Append, Set, SetTrue}
use Rattle.clap.specs.declared.builder.value_parser.ValueParser.{ValueParser}
use Rattle.clap.specs.declared.builder.value_parser.ValueParser.TheVariants as vp
use Rattle.clap.specs.declared.error.Error.{Error}
use Rattle.clap.specs.declared.error.kind.ErrorKind.TheVariants.{OutOfMemory}
use Rattle.page_code.specs.declared.Coding.{Coding}
use Rattle.page_code.specs.declared.Coding.TheVariants.{OneDim, T6}
use Rattle.raster.specs.Pixels.{IsWidth}
use Rattle.raster.specs.declared.packed.Order.{Order}
use Rattle.raster.specs.declared.packed.Order.TheVariants.{LsbFirst, MsbFirst}
use Rattle.captures.specs.declared.frames.ListForm.{ListForm}
use Rattle.commands.specs.Runs.{list_form}
use Rattle.commands.specs.FoundForms.{given_width}
use Rattle.commands.specs.declared.decode.each.EachCommand.{EachCommand}
use Rattle.commands.specs.declared.decode.each.listed.NameList.{NameList}
use Rattle.faults.specs.declared.fault.ToolFault.TheVariants.{No}
use Rattle.signals.specs.declared.params.Caps.{Caps}
use Rattle.signals.specs.declared.params.Modems.{Modems}
use Rattle.signals.specs.declared.params.Modems.TheVariants.{Fallback, V27, V29, V27V29, V17}
use Rattle.signals.specs.declared.params.PageWidth.{PageWidth}
use Rattle.signals.specs.declared.params.PageWidth.TheVariants.{W1728, W2048, W2432}
use Rattle.calls.specs.Losses.{IsRate}
use Rattle.calls.specs.declared.losses.BadLine.{BadLine}
use Rattle.calls.specs.declared.options.CallOptions.{CallOptions}
use Rattle.page_files.specs.declared.options.DecodeOptions.{DecodeOptions}
use Rattle.page_files.specs.declared.options.PageForm.{PageForm}
use Rattle.station_commands.specs.declared.station.given.GivenLimits.{GivenLimits}
use Rattle.station_commands.specs.declared.station.given.GivenWaits.{GivenWaits}
use Rattle.command_files.specs.declared.files.parts.Rights.{Rights}
use Rattle.command_files.specs.declared.files.parts.Rights.TheVariants.{Mode, Private}
use Rattle.faxtool.specs.declared.command.Command.{Command}
use Rattle.faxtool.specs.declared.command.Command.TheVariants.{Answer, Call, Captures, Code, Decode, Dial, Drive, Each, Frames, Identify, Judge, Several, Show, Version}
use Rattle.faxtool.specs.declared.args.words.Request.{Request}
use Rattle.faxtool.specs.declared.args.words.Outcome.{Outcome}
use Rattle.faxtool.specs.declared.args.words.Outcome.TheVariants.{Done, Fault, Incomplete, Words}

-- ---- the commands

-- an option for `clap`: its name is its id, and it has one value
abbrev pub option_rule : Text → Rule
option_rule name = record (new_rule name) {
  long = Some name;
  value_names = 1;
  action = Some Set;
}

-- `--code`, which is required
abbrev pub coding_rule : ValueParser → Rule
coding_rule codings =
    record (option_rule (codes "code")) { required = true; parser = Some codings }

-- `--order`, `msb` if it isn't given
abbrev pub order_rule : ValueParser → Rule
order_rule orders = record (option_rule (codes "order")) {
  parser = Some orders;
  defaults = codes "msb" ∷ [];
}

-- `--width`, which is required: a number from 1 to 2432
abbrev pub width_rule : Rule
width_rule = record (option_rule (codes "width")) {
  required = true;
  parser = Some (vp.Signed (pos 1) (pos 2432));
}

-- an option that is one of several names, with the one used if it isn't given
abbrev pub choice_rule : Text → ValueParser → Text → Rule
choice_rule id names default = record (option_rule id) {
  parser = Some names;
  defaults = default ∷ [];
}

-- an option with the name of a file
abbrev pub file_option_rule : Text → Rule
file_option_rule id = option_rule id

-- an option whose name is its id and that has no value, as `--fine`
abbrev pub flag_rule : Text → Rule
flag_rule id = record (new_rule id) {
  long = Some id;
  action = Some SetTrue;
}

-- the command with `--explain`
abbrev pub with_explain : App → App
with_explain app = with_rule app (flag_rule (codes "explain"))

-- the name of a file, which is required
abbrev pub file_rule : Text → Rule
file_rule id = record (new_rule id) {
  value_names = 1;
  action = Some Set;
  required = true;
}

-- `code`: the code, the order, and the files of the image and of its code
abbrev pub code_app : ValueParser → ValueParser → App
code_app codings orders = with_explain (with_rule (with_rule (with_rule (with_rule (new_app (codes "code"))
    (coding_rule codings)) (order_rule orders)) (file_rule (codes "in"))) (file_rule (codes "out")))

-- the names of files, one or more
abbrev pub files_rule : Text → Rule
files_rule id = record (file_rule id) { action = Some Append }

-- the command with the code, the width and the order, of which none need be given
abbrev pub with_any_options : App → ValueParser → ValueParser → App
with_any_options app codings orders = with_rule (with_rule (with_rule app (record (coding_rule codings) { required = false }))
    (record width_rule { required = false })) (order_rule orders)

-- the command with the code, the width and the order
abbrev pub with_page_options : App → ValueParser → ValueParser → App
with_page_options app codings orders = with_rule (with_rule (with_rule app (coding_rule codings)) width_rule) (order_rule orders)

-- `show`: the code, the width, the order, and the file of the page
abbrev pub show_app : ValueParser → ValueParser → App
show_app codings orders =
    with_explain (with_rule (with_page_options (new_app (codes "show")) codings orders) (file_rule (codes "file")))

-- the command with `--fine`, `--salvage`, `--repair`, `--whole`, `--verbose` and `--json`
abbrev pub with_flags : App → App
with_flags app = with_rule (with_rule (with_rule (with_rule (with_rule (with_rule app (flag_rule (codes "fine")))
    (flag_rule (codes "salvage"))) (flag_rule (codes "repair"))) (flag_rule (codes "whole"))) (flag_rule (codes "verbose")))
    (flag_rule (codes "json"))

-- the name of a file that need not be there
abbrev pub optional_file_rule : Text → Rule
optional_file_rule id = record (file_rule id) { required = false }

-- an option with a number from a first to a last one
abbrev pub number_rule : Text → ℕ → ℕ → Rule
number_rule id first last = record (option_rule id) { parser = Some (vp.Signed (pos first) (pos last)) }

-- the command with the folder of all pages, the list of files, whether 0 ends its names, whether images that are there count as written,
-- and the most pages and the most octets of a file
abbrev pub with_each : App → App
with_each app = with_rule (with_rule (with_rule (with_rule (with_rule (with_rule app (option_rule (codes "each")))
    (option_rule (codes "from"))) (flag_rule (codes "null"))) (flag_rule (codes "resume"))) (number_rule (codes "most-pages") 1 4294967295))
    (number_rule (codes "most-octets") 1 134217728)

-- `decode`: the code, the width, the order, fine or not, what is done with a page that can't be
-- read or has no end, verbose or not, records or not, the page's number, what is asked for of many files, and the files of the page and of
-- its image, or those of all pages
abbrev pub decode_app : ValueParser → ValueParser → App
decode_app codings orders = with_explain (with_rule (with_rule (with_each (with_rule (with_flags (with_any_options (new_app (codes "decode"))
    codings orders)) (number_rule (codes "page") 1 4294967295))) (optional_file_rule (codes "file")))
    (record (files_rule (codes "out")) { required = false }))

-- the command with the file of a picture, and those of what both stations sent
abbrev pub with_captures : App → App
with_captures app = with_rule (with_rule (with_rule app (file_option_rule (codes "diagram"))) (file_option_rule (codes "caller")))
    (file_option_rule (codes "answerer"))

-- `frames`: how many octets of a content are shown, 0 to 300, the bit order, `lsb` if it isn't given, the folder of the pages, the rows
-- before gaps or not, records or not, and the file of the bits; or the files of a picture
abbrev pub frames_app : ValueParser → App
frames_app orders = with_explain (with_rule (with_captures (with_rule (with_rule (with_rule (with_rule (with_rule
    (new_app (codes "frames")) (record (option_rule (codes "data")) { parser = Some (vp.Signed (pos 0) (pos 300)) }))
    (choice_rule (codes "order") orders (codes "lsb"))) (file_option_rule (codes "pages"))) (flag_rule (codes "salvage")))
    (flag_rule (codes "json")))) (optional_file_rule (codes "file")))

-- the command with `--code`, `--frame` and `--modems`
abbrev pub with_choices : App → ValueParser → ValueParser → ValueParser → App
with_choices app codings sizes modems = with_rule (with_rule (with_rule app
    (choice_rule (codes "code") codings (codes "mmr"))) (choice_rule (codes "frame") sizes (codes "256")))
    (choice_rule (codes "modems") modems (codes "v17"))

-- the command with the options of a bad line: three rates, the seed of the generator, and the numbers of DIS and of calls
abbrev pub with_line : App → App
with_line app = with_rule (with_rule (with_rule (with_rule (with_rule (with_rule app (option_rule (codes "lose")))
    (option_rule (codes "spoil"))) (option_rule (codes "busy"))) (number_rule (codes "seed") 0 4294967295))
    (number_rule (codes "calls") 1 1000000)) (number_rule (codes "times") 1 4294967295)

-- an option that is one of several names, with none where it isn't given
abbrev pub named_rule : Text → ValueParser → Rule
named_rule id names = record (option_rule id) { parser = Some names }

-- the command with the file of the stored pages, the end that is wanted, and the folder of what is sent
abbrev pub with_outcome : App → ValueParser → App
with_outcome app ends = with_rule (with_rule (with_rule app (file_option_rule (codes "out"))) (named_rule (codes "expect") ends))
    (file_option_rule (codes "bits"))

-- `call`: the file of the script, or the options of a bad line, the code, the size of frames, the modems, fine or not, the file of the
-- stored pages, the end that is wanted, the folder of what is sent, the file of the picture, records or not, and the file of the document
abbrev pub call_app : ValueParser → ValueParser → ValueParser → ValueParser → App
call_app codings sizes modems ends = with_explain (with_rule (with_rule (with_rule (with_outcome (with_rule (with_choices (with_line
    (with_rule (new_app (codes "call")) (file_option_rule (codes "script")))) codings sizes modems) (flag_rule (codes "fine"))) ends)
    (file_option_rule (codes "diagram"))) (flag_rule (codes "json"))) (file_rule (codes "in")))

-- how long a wait runs, in milliseconds
abbrev pub millis_rule : Text → Rule
millis_rule id = number_rule id 1 3600000

-- the command with which station it is, the folder of its pages, the code and the modems
abbrev pub with_station : App → ValueParser → ValueParser → App
with_station app codings modems = with_rule (with_rule (with_rule (with_rule (with_rule app (flag_rule (codes "answer")))
    (flag_rule (codes "call"))) (file_option_rule (codes "out"))) (choice_rule (codes "code") codings (codes "mmr")))
    (choice_rule (codes "modems") modems (codes "v17"))

-- the command with the limits of a call
abbrev pub with_limits : App → App
with_limits app = with_rule (with_rule (with_rule app (number_rule (codes "most-pages") 1 4294967295))
    (number_rule (codes "most-octets") 1 4294967295)) (number_rule (codes "most-seconds") 0 4294967295)

-- the command with whether a call is stopped at the second DCS that isn't allowed
abbrev pub with_refusing : App → App
with_refusing app = with_rule (with_rule app (flag_rule (codes "refuse"))) (flag_rule (codes "no-refuse"))

-- the command with the options for an answerer only, and those for a caller only
abbrev pub with_station_choices : App → ValueParser → ValueParser → App
with_station_choices app sizes widths = with_rule (with_rule (with_rule (with_rule (with_refusing (with_limits (with_rule (with_rule
    (with_rule (with_rule app (flag_rule (codes "standard"))) (named_rule (codes "widest") widths)) (number_rule (codes "limit") 1 1000))
    (option_rule (codes "mode"))))) (flag_rule (codes "hold"))) (named_rule (codes "frame") sizes)) (flag_rule (codes "fine")))
    (number_rule (codes "from") 1 4294967295)

-- the command with how long the four waits run, whether what is heard, and until when, is said, whether frames are said as contents, and how
-- late an answer may come
abbrev pub with_waits : App → App
with_waits app = with_rule (with_rule (with_rule (with_rule (with_rule (with_rule (with_rule app (millis_rule (codes "t1")))
    (millis_rule (codes "t2"))) (millis_rule (codes "t4"))) (millis_rule (codes "t5"))) (flag_rule (codes "hear")))
    (flag_rule (codes "frames"))) (option_rule (codes "late"))

-- `station`: which station it is, its options, its waits, the file of its trace, a line a frame in it or not, records or not, and the file
-- of the document
abbrev pub station_app : ValueParser → ValueParser → ValueParser → ValueParser → App
station_app codings sizes modems widths = with_explain (with_rule (with_rule (with_rule (with_rule (with_waits (with_station_choices
    (with_station (new_app (codes "station")) codings modems) sizes widths)) (file_option_rule (codes "trace")))
    (flag_rule (codes "trace-frames"))) (flag_rule (codes "json"))) (optional_file_rule (codes "in")))

-- the program, which wants one of its commands
abbrev pub empty_app : App
empty_app = let app = new_app (codes "faxtool") in record app {
  top = record app.top { arg_required_else_help = true; subcommand_required = true };
}

-- the program with the commands that code, show and decode pages
abbrev pub page_app : ValueParser → ValueParser → App
page_app codings orders = with_subcommand (with_subcommand (with_subcommand empty_app (code_app codings orders).top)
    (show_app codings orders).top) (decode_app codings orders).top

-- `identify`: records or not, and the files that are tried
abbrev pub identify_app : App
identify_app = with_explain (with_rule (with_rule (new_app (codes "identify")) (flag_rule (codes "json"))) (files_rule (codes "file")))

-- `judge`: readings count or not, records or not, and the file of the log
abbrev pub judge_app : App
judge_app = with_explain (with_rule (with_rule (with_rule (new_app (codes "judge")) (flag_rule (codes "strict"))) (flag_rule (codes "json")))
    (file_rule (codes "log")))

-- `version`, with `--proof`
abbrev pub version_app : App
version_app = with_rule (new_app (codes "version")) (flag_rule (codes "proof"))

-- and with the command that lists frames, and the one that runs calls
abbrev pub with_calls : App → ValueParser → ValueParser → ValueParser → ValueParser → ValueParser → App
with_calls app codings orders sizes modems ends =
    with_subcommand (with_subcommand app (frames_app orders).top) (call_app codings sizes modems ends).top

-- and with the command that tries files, the one that judges a log, the one that is one end of a call, and `version`
abbrev pub with_later : App → ValueParser → ValueParser → ValueParser → ValueParser → App
with_later app codings sizes modems widths =
    with_subcommand (with_subcommand (with_subcommand (with_subcommand app identify_app.top) judge_app.top)
    (station_app codings sizes modems widths).top) version_app.top

-- the parser takes these names and no other text
abbrev pub TakesNames : ValueParser → List Text → Type 0
TakesNames parser names =
    (given : _) × (parser ≡ vp.Names given) × (map (λ name. name.now) given.now ≡ names)

-- the parsers of codes, of sizes of frames and of modems take their names
pub record TakeNames (codings sizes modems : ValueParser) : Type 0 where
  pub takes_codings : TakesNames codings (codes "mh" ∷ codes "mmr" ∷ codes "t4" ∷ codes "t6" ∷ [])
  pub takes_sizes : TakesNames sizes (codes "256" ∷ codes "64" ∷ [])
  pub takes_modems : TakesNames modems (codes "v17" ∷ codes "v27v29" ∷ codes "v29" ∷ codes "v27" ∷ codes "fallback" ∷ [])

-- the program with the commands of pages
pub record HasPageCommands (a : App) : Type 0 where
  pub codings : ValueParser
  pub orders : ValueParser
  pub takes_codings : TakesNames codings (codes "mh" ∷ codes "mmr" ∷ codes "t4" ∷ codes "t6" ∷ [])
  pub takes_orders : TakesNames orders (codes "msb" ∷ codes "lsb" ∷ [])
  pub commands : a ≡ page_app codings orders

-- the program with its first commands
pub record BeginsFaxtool (a : App) : Type 0 where
  pub begun : App
  pub pages : HasPageCommands begun
  pub codings : ValueParser
  pub orders : ValueParser
  pub sizes : ValueParser
  pub modems : ValueParser
  pub ends : ValueParser
  pub names : TakeNames codings sizes modems
  pub takes_orders : TakesNames orders (codes "msb" ∷ codes "lsb" ∷ [])
  pub takes_ends : TakesNames ends (codes "normal" ∷ [])
  pub commands : a ≡ with_calls begun codings orders sizes modems ends

-- the command that the program hands to `clap`
pub record IsFaxtool (a : App) : Type 0 where
  pub begun : App
  pub first : BeginsFaxtool begun
  pub codings : ValueParser
  pub sizes : ValueParser
  pub modems : ValueParser
  pub widths : ValueParser
  pub names : TakeNames codings sizes modems
  pub takes_widths : TakesNames widths (codes "1728" ∷ codes "2048" ∷ codes "2432" ∷ [])
  pub commands : a ≡ with_later begun codings sizes modems widths

-- ---- the jobs

-- the code that a value of `--code` names
abbrev pub coding_named : Option Text → Option Coding
coding_named None = None
coding_named (Some name) = if bytes_eq name (codes "mh") || bytes_eq name (codes "t4") then Some OneDim
    else if bytes_eq name (codes "mmr") || bytes_eq name (codes "t6") then Some T6 else None

-- the order that a value of `--order` names: `msb` but for `lsb`
abbrev pub order_named : Option Text → Order
order_named None = MsbFirst
order_named (Some name) = if bytes_eq name (codes "lsb") then LsbFirst else MsbFirst

-- the bit order on a line: `lsb`, unless `msb` is given
abbrev pub line_order_named : Option Text → Order
line_order_named None = LsbFirst
line_order_named (Some name) = if bytes_eq name (codes "msb") then MsbFirst else LsbFirst

-- the value is the name
abbrev pub is_named : Text → Option Text → Bool
is_named name None = false
is_named name (Some value) = bytes_eq value name

-- the modems that a value of `--modems` names: `v17` but for the others
abbrev pub modems_named : Option Text → Modems
modems_named None = V17
modems_named (Some name) = if bytes_eq name (codes "v27v29") then V27V29 else if bytes_eq name (codes "v29") then V29
    else if bytes_eq name (codes "v27") then V27 else if bytes_eq name (codes "fallback") then Fallback else V17

-- the text is a number in decimal digits, perhaps after a plus
abbrev pub IsNumberText : Text → ℕ → Type 0
IsNumberText text n = IsNumeral 10 (without_leading_plus text)
    × (n ≡ digits_value 10 (without_leading_plus text))

-- the number is the width that the values give, and one that a page may have
pub record IsWidthIn (rows : List Row) (width : ℕ) : Type 0 where
  pub text : Text
  pub given : one_of (codes "width") rows ≡ Some text
  pub number : IsNumberText text width
  pub least : 1 ≤ width
  pub most : width ≤ 2432

-- the number in an option's value; None without a value, or if its text isn't a number below 2^32
abbrev pub ReadsNumber : Text → List Row → Option ℕ → Type 0
ReadsNumber id rows (Some n) = (text : Text) × (one_of id rows ≡ Some text) × IsNumberText text n
ReadsNumber id rows None = (text : Text) → one_of id rows ≡ Some text
    → IsNumeral 10 (without_leading_plus text)
    → digits_value 10 (without_leading_plus text) < 2 ^ 32 → ⊥

-- the values of the command `code` are those that are asked for
pub record IsCodeOf (rows : List Row) (coding : Coding) (order : Order) (input output : Text)
    : Type 0 where
  pub coding_is : coding_named (first_of (codes "code") rows) ≡ Some coding
  pub order_is : order ≡ order_named (first_of (codes "order") rows)
  pub input_is : first_of (codes "in") rows ≡ Some input
  pub output_is : first_of (codes "out") rows ≡ Some output

-- the values of the command `show` are those that are asked for
pub record IsShowOf (rows : List Row) (coding : Coding) (order : Order) (width : ℕ) (input : Text)
    : Type 0 where
  pub coding_is : coding_named (first_of (codes "code") rows) ≡ Some coding
  pub order_is : order ≡ order_named (first_of (codes "order") rows)
  pub width_is : IsWidthIn rows width
  pub input_is : first_of (codes "file") rows ≡ Some input

-- what is asked for of a page that is decoded is what the values say
pub record AreDecodeOptionsIn (rows : List Row) (options : DecodeOptions) : Type 0 where
  pub salvage_is : options.salvage ≡ is_named (codes "true") (first_of (codes "salvage") rows)
  pub repair_is : options.repair ≡ is_named (codes "true") (first_of (codes "repair") rows)
  pub whole_is : options.whole ≡ is_named (codes "true") (first_of (codes "whole") rows)
  pub verbose_is : options.verbose ≡ is_named (codes "true") (first_of (codes "verbose") rows)
  pub records_is : options.records ≡ is_named (codes "true") (first_of (codes "json") rows)

-- the number of the page that is decoded, or sent first: 1 if no number is given
abbrev pub page_of : Option ℕ → ℕ
page_of None = 1
page_of (Some page) = page

-- the values of an argument, none if it isn't given
abbrev pub texts_of : Text → List Row → List Text
texts_of id rows = unwrap_or (all_of id rows) []

-- an argument has more than one value
abbrev pub has_more : Text → List Row → Bool
has_more id rows = nat_lt 1 (length (texts_of id rows))

-- an option for one page was given
abbrev pub has_one : List Row → Bool
has_one rows = is_some (first_of (codes "page") rows) || is_named (codes "true") (first_of (codes "verbose") rows)

-- an option for many files was given
abbrev pub is_for_many : List Row → Bool
is_for_many rows = is_some (first_of (codes "from") rows) || (is_named (codes "true") (first_of (codes "null") rows)
    || (is_named (codes "true") (first_of (codes "resume") rows) || (is_some (first_of (codes "most-pages") rows)
    || is_some (first_of (codes "most-octets") rows))))

-- a file was given, or the list of files
abbrev pub has_files : List Row → Bool
has_files rows = is_some (first_of (codes "file") rows) || (is_some (first_of (codes "out") rows) || is_some (first_of (codes "from") rows))

-- one of these names is that of standard input
abbrev pub has_standard : List Text → Bool
has_standard names = is_some (find (λ name. bytes_eq name (codes "-")) names)

-- standard input is the list of the names of files, and one of the files that are named
abbrev pub lists_itself : List Row → Bool
lists_itself rows = is_named (codes "-") (first_of (codes "from") rows)
    && (has_standard (texts_of (codes "file") rows) || has_standard (texts_of (codes "out") rows))

-- the code was given, and not the width
abbrev pub has_half_form : List Row → Bool
has_half_form rows = is_some (first_of (codes "code") rows) && not (is_some (first_of (codes "width") rows))

-- how pages are read, if the code and the width are given
abbrev pub IsFormIn : List Row → Option PageForm → Type 0
IsFormIn rows None = (coding_named (first_of (codes "code") rows) ≡ None) ⊎ ((width : ℕ) → IsWidthIn rows width → ⊥)
IsFormIn rows (Some form) = (coding_named (first_of (codes "code") rows) ≡ Some form.coding)
    × (form.order ≡ order_named (first_of (codes "order") rows)) × IsWidthIn rows form.width
    × (form.fine ≡ is_named (codes "true") (first_of (codes "fine") rows))

-- a code is given, or none
abbrev pub is_coded : List Row → Bool
is_coded rows = is_some (coding_named (first_of (codes "code") rows))

-- the width that pages are likely to have: the one that is given without a code
abbrev pub IsLikelyIn : List Row → Option ℕ → Type 0
IsLikelyIn rows None = (is_coded rows ≡ true) ⊎ ((width : ℕ) → IsWidthIn rows width → ⊥)
IsLikelyIn rows (Some width) = (is_coded rows ≡ false) × IsWidthIn rows width

-- the list of files that is asked for
abbrev pub IsListIn : List Row → Option NameList → Type 0
IsListIn rows None = first_of (codes "from") rows ≡ None
IsListIn rows (Some list) = (first_of (codes "from") rows ≡ Some (string_bytes list.file))
    × (list.null ≡ is_named (codes "true") (first_of (codes "null") rows))

-- the most pages of a file: 10,000 if no number is given
abbrev pub most_of : Option ℕ → ℕ
most_of None = 10000
most_of (Some most) = most

-- the most octets of a file: as many as are read of any, if no number is given
abbrev pub most_octets_of : Option ℕ → ℕ
most_octets_of None = 134217728
most_octets_of (Some most) = most

-- the values of the command `decode` are those of many files, of which every page is decoded
pub record IsEachOf (rows : List Row) (command : EachCommand) : Type 0 where
  pub folder_is : first_of (codes "each") rows ≡ Some (string_bytes command.folder)
  pub form_is : IsFormIn rows command.form
  pub likely_is : IsLikelyIn rows command.likely
  pub whole_form : has_half_form rows ≡ false
  pub fine_is : command.fine ≡ is_named (codes "true") (first_of (codes "fine") rows)
  pub options_are : AreDecodeOptionsIn rows command.options
  pub alone : has_one rows ≡ false
  pub some_files : has_files rows ≡ true
  pub apart : lists_itself rows ≡ false
  pub files_are : map string_bytes command.files.items ≡ texts_of (codes "file") rows ++ texts_of (codes "out") rows
  pub list_is : IsListIn rows command.list
  pub resume_is : command.resume ≡ is_named (codes "true") (first_of (codes "resume") rows)
  pub number : Option ℕ
  pub number_given : ReadsNumber (codes "most-pages") rows number
  pub most_is : command.most_pages ≡ most_of number
  pub octets : Option ℕ
  pub octets_given : ReadsNumber (codes "most-octets") rows octets
  pub most_octets_is : command.most_octets ≡ most_octets_of octets

-- the values of the command `identify` are those of several files, or of records
pub record AreSeveralOf (rows : List Row) (records : Bool) (files : List Text) : Type 0 where
  pub records_is : records ≡ is_named (codes "true") (first_of (codes "json") rows)
  pub files_are : files ≡ texts_of (codes "file") rows

-- the values of the command `decode` are those that are asked for
pub record IsDecodeOf (rows : List Row) (form : Option PageForm) (likely : Option ℕ) (fine : Bool) (options : DecodeOptions) (page : ℕ)
    (input output : Text) : Type 0 where
  pub form_is : IsFormIn rows form
  pub likely_is : IsLikelyIn rows likely
  pub whole_form : has_half_form rows ≡ false
  pub fine_is : fine ≡ is_named (codes "true") (first_of (codes "fine") rows)
  pub input_is : first_of (codes "file") rows ≡ Some input
  pub options_are : AreDecodeOptionsIn rows options
  pub one_way : (options.salvage && options.repair) ≡ false
  pub number : Option ℕ
  pub number_given : ReadsNumber (codes "page") rows number
  pub page_is : page ≡ page_of number
  pub alone : first_of (codes "each") rows ≡ None
  pub one_page : is_for_many rows ≡ false
  pub output_is : first_of (codes "out") rows ≡ Some output
  pub one_output : has_more (codes "out") rows ≡ false

-- a value is of a picture of two captures
abbrev pub has_captures : List Row → Bool
has_captures rows = is_some (first_of (codes "diagram") rows) || (is_some (first_of (codes "caller") rows) ||
    is_some (first_of (codes "answerer") rows))

-- a value is of one capture that is listed
abbrev pub has_listing : List Row → Bool
has_listing rows = is_some (first_of (codes "file") rows) || (is_some (first_of (codes "data") rows) ||
    (is_some (first_of (codes "pages") rows) || is_named (codes "true") (first_of (codes "salvage") rows)))

-- the folder of the pages is the one that the values give, and rows before gaps are wanted as they say: with a folder alone
pub record ArePagesIn (rows : List Row) (pages : Option Text) (salvage : Bool) : Type 0 where
  pub pages_are : first_of (codes "pages") rows ≡ pages
  pub salvage_is : salvage ≡ is_named (codes "true") (first_of (codes "salvage") rows)
  pub in_folder : (salvage && not (is_some pages)) ≡ false

-- the options of a call are those that the values of its command give
pub record AreOptionsIn (rows : List Row) (options : CallOptions) : Type 0 where
  pub coding_is : coding_named (first_of (codes "code") rows) ≡ Some options.coding
  pub small_is : options.small ≡ is_named (codes "64") (first_of (codes "frame") rows)
  pub modems_is : options.modems ≡ modems_named (first_of (codes "modems") rows)
  pub fine_is : options.fine ≡ is_named (codes "true") (first_of (codes "fine") rows)

-- the values give no options
abbrev pub HasNoOptions : List Row → Type 0
HasNoOptions rows = (options : CallOptions) → AreOptionsIn rows options → ⊥

-- the script and the image are both standard input
abbrev pub are_both_standard : Text → Text → Bool
are_both_standard script input = bytes_eq script (codes "-") && bytes_eq input (codes "-")

-- a value is of a bad line
abbrev pub has_line : List Row → Bool
has_line rows = is_some (first_of (codes "lose") rows) || (is_some (first_of (codes "spoil") rows) ||
    (is_some (first_of (codes "busy") rows) || (is_some (first_of (codes "seed") rows) || (is_some (first_of (codes "calls") rows) ||
    is_some (first_of (codes "times") rows)))))

-- the share is that of the rate that an option's value says
abbrev pub IsRateIn : Text → List Row → ℕ → Type 0
IsRateIn id rows share = (text : Text) × (first_of id rows ≡ Some text) × IsRate text share

-- the share of spoiled items, 0 if no rate is given
abbrev pub IsSpoilIn : List Row → ℕ → Type 0
IsSpoilIn rows share = ((first_of (codes "spoil") rows ≡ None) × (share ≡ 0)) ⊎ IsRateIn (codes "spoil") rows share

-- the share of words that make the answerer busy, 0 if no rate is given
abbrev pub IsBusyIn : List Row → ℕ → Type 0
IsBusyIn rows share = ((first_of (codes "busy") rows ≡ None) × (share ≡ 0)) ⊎ IsRateIn (codes "busy") rows share

-- how many DIS are sent in one wait: three if no number is given
abbrev pub calls_of : Option ℕ → ℕ
calls_of None = 3
calls_of (Some calls) = calls

-- The bad line that the values of `call` give: its rates, 1 at most together, its seed, below 2^32, and the number of DIS in a wait, 3 if
-- none is given.
pub record IsLineIn (rows : List Row) (line : BadLine) : Type 0 where
  pub lose_is : IsRateIn (codes "lose") rows line.lose
  pub spoil_is : IsSpoilIn rows line.spoil
  pub most : line.lose + line.spoil ≤ 2 ^ 32
  pub busy_is : IsBusyIn rows line.busy
  pub seed_is : ReadsNumber (codes "seed") rows (Some line.seed)
  pub small : line.seed < 2 ^ 32
  pub calls : Option ℕ
  pub given : ReadsNumber (codes "calls") rows calls
  pub calls_is : line.calls ≡ calls_of calls

-- the call is to end normally for both stations
abbrev pub is_normal_wanted : List Row → Bool
is_normal_wanted rows = is_named (codes "normal") (first_of (codes "expect") rows)

-- The value of `--times`, 1 or more and below 2^32. It excludes `--out`, `--bits`, `--expect`, `--diagram` and `--json`.
pub record AreManyIn (rows : List Row) (times : ℕ) : Type 0 where
  pub given : ReadsNumber (codes "times") rows (Some times)
  pub least : 1 ≤ times
  pub small : times < 2 ^ 32
  pub unkept : first_of (codes "out") rows ≡ None
  pub unsent : first_of (codes "bits") rows ≡ None
  pub unwanted : first_of (codes "expect") rows ≡ None
  pub undrawn : first_of (codes "diagram") rows ≡ None
  pub unrecorded : is_named (codes "true") (first_of (codes "json") rows) ≡ false

-- the value of `--times`, if it is given
abbrev pub IsTimesIn : List Row → Option ℕ → Type 0
IsTimesIn rows None = first_of (codes "times") rows ≡ None
IsTimesIn rows (Some times) = AreManyIn rows times

-- The values of `call` are those of a call over a bad line, or of many calls: the line, the options, the files of `--out` and `--diagram`
-- and the folder of `--bits`; and there is no script.
pub record IsDriveOf (rows : List Row) (line : BadLine) (times : Option ℕ) (options : CallOptions)
    (out bits : Option Text) (normal : Bool) (diagram : Option Text) (input : Text) : Type 0 where
  pub script_is : first_of (codes "script") rows ≡ None
  pub line_is : IsLineIn rows line
  pub times_is : IsTimesIn rows times
  pub options_are : AreOptionsIn rows options
  pub out_is : first_of (codes "out") rows ≡ out
  pub bits_is : first_of (codes "bits") rows ≡ bits
  pub normal_is : normal ≡ is_normal_wanted rows
  pub diagram_is : first_of (codes "diagram") rows ≡ diagram
  pub input_is : first_of (codes "in") rows ≡ Some input

-- The values of `call` are those of a call by a script: the script, the options, the files of `--out` and `--diagram` and the folder of
-- `--bits`. There is no bad line, and standard input is read once at most.
pub record IsCallOf (rows : List Row) (script : Text) (options : CallOptions) (out bits : Option Text) (normal : Bool)
    (diagram : Option Text) (input : Text) : Type 0 where
  pub script_is : first_of (codes "script") rows ≡ Some script
  pub options_are : AreOptionsIn rows options
  pub out_is : first_of (codes "out") rows ≡ out
  pub bits_is : first_of (codes "bits") rows ≡ bits
  pub normal_is : normal ≡ is_normal_wanted rows
  pub diagram_is : first_of (codes "diagram") rows ≡ diagram
  pub input_is : first_of (codes "in") rows ≡ Some input
  pub apart : are_both_standard script input ≡ false
  pub alone : has_line rows ≡ false

-- the values of the command `frames` are those of a capture that is listed
pub record IsFramesOf (rows : List Row) (most : Option ℕ) (order : Order) (form : ListForm) (pages : Option Text) (salvage : Bool)
    (input : Text) : Type 0 where
  pub alone : has_captures rows ≡ false
  pub most_is : ReadsNumber (codes "data") rows most
  pub order_is : order ≡ line_order_named (first_of (codes "order") rows)
  pub form_is : form ≡ list_form (is_named (codes "true") (first_of (codes "json") rows))
      (is_named (codes "true") (first_of (codes "explain") rows))
  pub pages_are : ArePagesIn rows pages salvage
  pub input_is : first_of (codes "file") rows ≡ Some input

-- the values of the command `frames` are those of a picture of two captures, which reads standard input once at most
pub record AreCapturesOf (rows : List Row) (order : Order) (records : Bool) (diagram caller answerer : Text) : Type 0 where
  pub order_is : order ≡ line_order_named (first_of (codes "order") rows)
  pub records_is : records ≡ is_named (codes "true") (first_of (codes "json") rows)
  pub diagram_is : first_of (codes "diagram") rows ≡ Some diagram
  pub caller_is : first_of (codes "caller") rows ≡ Some caller
  pub answerer_is : first_of (codes "answerer") rows ≡ Some answerer
  pub apart : are_both_standard caller answerer ≡ false
  pub alone : has_listing rows ≡ false

-- the widest page that `--widest` names, 2,432 pixels if it isn't given
abbrev pub widest_named : Option Text → PageWidth
widest_named None = W2432
widest_named (Some name) = if bytes_eq name (codes "1728") then W1728 else if bytes_eq name (codes "2048") then W2048 else W2432

-- pages may have this code
abbrev pub takes_t6 : Coding → Bool
takes_t6 OneDim = false
takes_t6 T6 = true

-- how many pages wait in memory at most: two if no number is given
abbrev pub limit_of : Option ℕ → ℕ
limit_of None = 2
limit_of (Some limit) = limit

-- an octet is an octal digit, 0 to 7
abbrev pub is_octal : ℕ → Bool
is_octal octet = nat_le 48 octet && nat_le octet 55

-- the mode of three octal digits: what a file's owner may do, its group, and all others
abbrev pub mode_of : ℕ → ℕ → ℕ → Option ℕ
mode_of user group others = if is_octal user && (is_octal group && is_octal others)
    then Some (64 * (user - 48) + 8 * (group - 48) + (others - 48)) else None

-- the mode that a text says: three octal digits, perhaps after a 0
abbrev pub mode_named : Text → Option ℕ
mode_named (user ∷ group ∷ others ∷ []) = mode_of user group others
mode_named (first ∷ user ∷ group ∷ others ∷ []) = if nat_eq first 48 then mode_of user group others else None
mode_named text = None

-- who may read and write the files of pages, by a value of `--mode`: their owner alone, if there is none
abbrev pub rights_named : Option Text → Option Rights
rights_named None = Some Private
rights_named (Some text) = option_map Mode (mode_named text)

-- the limits of the call, if given
pub record AreLimitsIn (rows : List Row) (limits : GivenLimits) : Type 0 where
  pub pages_are : ReadsNumber (codes "most-pages") rows limits.pages
  pub octets_are : ReadsNumber (codes "most-octets") rows limits.octets

-- it was said whether a call is stopped at the second DCS that isn't allowed
abbrev pub has_refusing : List Row → Bool
has_refusing rows = is_named (codes "true") (first_of (codes "refuse") rows) || is_named (codes "true") (first_of (codes "no-refuse") rows)

-- it was said when the call is stopped: a limit, or what a DCS that isn't allowed does
abbrev pub has_stops : List Row → Bool
has_stops rows = is_some (first_of (codes "most-pages") rows) || (is_some (first_of (codes "most-octets") rows) || has_refusing rows)

-- a call is stopped at the second DCS that isn't allowed, unless that is said otherwise
abbrev pub refuses_in : List Row → Bool
refuses_in rows = not (is_named (codes "true") (first_of (codes "no-refuse") rows))

-- it was said so and otherwise
abbrev pub refuses_and_not : List Row → Bool
refuses_and_not rows = is_named (codes "true") (first_of (codes "refuse") rows)
    && is_named (codes "true") (first_of (codes "no-refuse") rows)

-- it was said how pages are stored
abbrev pub has_storing : List Row → Bool
has_storing rows = is_some (first_of (codes "mode") rows) || is_named (codes "true") (first_of (codes "hold") rows)

-- pages are handed over, which are one at a time, and it was said how many wait
abbrev pub holds_and_limits : List Row → Bool
holds_and_limits rows = is_named (codes "true") (first_of (codes "hold") rows) && is_some (first_of (codes "limit") rows)

-- an option for an answerer only was given
abbrev pub has_answerer : List Row → Bool
has_answerer rows = is_some (first_of (codes "out") rows) || (is_named (codes "true") (first_of (codes "standard") rows) ||
    (is_some (first_of (codes "widest") rows) || (is_some (first_of (codes "limit") rows)
    || (has_storing rows || has_stops rows))))

-- an option for a caller only was given
abbrev pub has_caller : List Row → Bool
has_caller rows = is_some (first_of (codes "frame") rows) || (is_named (codes "true") (first_of (codes "fine") rows) ||
    (is_some (first_of (codes "from") rows) || is_some (first_of (codes "in") rows)))

-- one to seven decimal digits, and the milliseconds that they are, 1 to 3,600,000
pub record AreMillis (digits : Text) (millis : ℕ) : Type 0 where
  pub numeral : IsNumeral 10 digits
  pub short : length digits ≤ 7
  pub value : millis ≡ digits_value 10 digits
  pub least : 1 ≤ millis
  pub most : millis ≤ 3600000

-- how many milliseconds late an answer may come, by a value of `--late`: 2,000 if there is none, and any number if it is `off`
abbrev pub IsLateNamed : Option Text → Option ℕ → Type 0
IsLateNamed None late = late ≡ Some 2000
IsLateNamed (Some text) None = bytes_eq text (codes "off") ≡ true
IsLateNamed (Some text) (Some late) = AreMillis text late

-- the seconds of a call at most, by the number that is given: four hours if none is, and no limit if it is 0
abbrev pub seconds_of : Option ℕ → Option ℕ
seconds_of None = Some 14400
seconds_of (Some zero) = None
seconds_of (Some (suc n)) = Some (suc n)

-- the seconds of a call at most, as the values say
pub record ReadsSeconds (rows : List Row) (seconds : Option ℕ) : Type 0 where
  pub given : Option ℕ
  pub reads : ReadsNumber (codes "most-seconds") rows given
  pub is : seconds ≡ seconds_of given

-- the lengths of the waits, if given, whether what is heard, and until when, is said, whether frames are said as contents, how late an
-- answer may come, and how long the call lasts at most
pub record AreWaitsIn (rows : List Row) (waits : GivenWaits) : Type 0 where
  pub t1_is : ReadsNumber (codes "t1") rows waits.t1
  pub t2_is : ReadsNumber (codes "t2") rows waits.t2
  pub t4_is : ReadsNumber (codes "t4") rows waits.t4
  pub t5_is : ReadsNumber (codes "t5") rows waits.t5
  pub hears_is : waits.hears ≡ is_named (codes "true") (first_of (codes "hear") rows)
  pub frames_is : waits.frames ≡ is_named (codes "true") (first_of (codes "frames") rows)
  pub late_is : IsLateNamed (first_of (codes "late") rows) waits.late
  pub seconds_are : ReadsSeconds rows waits.seconds

-- what an answerer can do, as the values say: it takes each code up to the one named, and fine lines unless it takes standard ones alone
abbrev pub caps_in : List Row → Coding → Caps
caps_in rows coding = record {
  receiver = true;
  modems = modems_named (first_of (codes "modems") rows);
  fine = not (is_named (codes "true") (first_of (codes "standard") rows));
  widest = widest_named (first_of (codes "widest") rows);
  t6 = takes_t6 coding;
  ecm = true;
}

-- the values of the command `station` are those of an answerer; one whose pages are held has no other limit of them
pub record IsAnswerOf (rows : List Row) (caps : Caps) (limit : ℕ) (holds : Bool) (limits : GivenLimits) (refuses : Bool)
    (waits : GivenWaits) (out : Text) (rights : Rights) (trace : Option Text) (frames : Bool) : Type 0 where
  pub answers : is_named (codes "true") (first_of (codes "answer") rows) ≡ true
  pub calls : is_named (codes "true") (first_of (codes "call") rows) ≡ false
  pub alone : has_caller rows ≡ false
  pub coding : Coding
  pub coding_is : coding_named (first_of (codes "code") rows) ≡ Some coding
  pub caps_are : caps ≡ caps_in rows coding
  pub given : Option ℕ
  pub limit_given : ReadsNumber (codes "limit") rows given
  pub limit_is : limit ≡ limit_of given
  pub holds_is : holds ≡ is_named (codes "true") (first_of (codes "hold") rows)
  pub one_limit : holds_and_limits rows ≡ false
  pub limits_are : AreLimitsIn rows limits
  pub one_way : refuses_and_not rows ≡ false
  pub refuses_is : refuses ≡ refuses_in rows
  pub waits_are : AreWaitsIn rows waits
  pub out_is : first_of (codes "out") rows ≡ Some out
  pub rights_are : rights_named (first_of (codes "mode") rows) ≡ Some rights
  pub trace_is : first_of (codes "trace") rows ≡ trace
  pub frames_is : frames ≡ is_named (codes "true") (first_of (codes "trace-frames") rows)

-- The values of `station` are those of a caller. Its document isn't standard input, from which its lines come.
pub record IsDialOf (rows : List Row) (options : CallOptions) (from : ℕ) (waits : GivenWaits) (trace : Option Text) (frames : Bool)
    (input : Text) : Type 0 where
  pub calls : is_named (codes "true") (first_of (codes "call") rows) ≡ true
  pub answers : is_named (codes "true") (first_of (codes "answer") rows) ≡ false
  pub alone : has_answerer rows ≡ false
  pub options_are : AreOptionsIn rows options
  pub number : Option ℕ
  pub number_given : ReadsNumber (codes "from") rows number
  pub from_is : from ≡ page_of number
  pub waits_are : AreWaitsIn rows waits
  pub trace_is : first_of (codes "trace") rows ≡ trace
  pub frames_is : frames ≡ is_named (codes "true") (first_of (codes "trace-frames") rows)
  pub input_is : first_of (codes "in") rows ≡ Some input
  pub apart : bytes_eq input (codes "-") ≡ false

-- the values of the command `judge` are those that are asked for
pub record IsJudgeOf (rows : List Row) (form : ListForm) (strict : Bool) (input : Text) : Type 0 where
  pub form_is : form ≡ list_form (is_named (codes "true") (first_of (codes "json") rows))
      (is_named (codes "true") (first_of (codes "explain") rows))
  pub strict_is : strict ≡ is_named (codes "true") (first_of (codes "strict") rows)
  pub input_is : first_of (codes "log") rows ≡ Some input

-- the command that a name of one and its values give
abbrev pub IsCommandOf : Option (Text × List Row) → Command → Type 0
IsCommandOf met (Code command) = (rows : List Row)
    × (met ≡ Some (codes "code", rows))
    × IsCodeOf rows command.coding command.order (string_bytes command.input) (string_bytes command.output)
IsCommandOf met (Show command) = (rows : List Row)
    × (met ≡ Some (codes "show", rows))
    × IsShowOf rows command.coding command.order command.width (string_bytes command.input)
IsCommandOf met (Decode command) = (rows : List Row)
    × (met ≡ Some (codes "decode", rows))
    × IsDecodeOf rows command.form command.likely command.fine command.options command.page (string_bytes command.input)
    (string_bytes command.output)
IsCommandOf met (Each command) = (rows : List Row)
    × (met ≡ Some (codes "decode", rows))
    × IsEachOf rows command
IsCommandOf met (Frames command) = (rows : List Row)
    × (met ≡ Some (codes "frames", rows))
    × IsFramesOf rows command.most command.order command.form (option_map string_bytes command.pages) command.salvage (string_bytes command.input)
IsCommandOf met (Captures command) = (rows : List Row)
    × (met ≡ Some (codes "frames", rows))
    × AreCapturesOf rows command.order command.records (string_bytes command.diagram) (string_bytes command.caller) (string_bytes command.answerer)
IsCommandOf met (Identify command) = (rows : List Row)
    × (met ≡ Some (codes "identify", rows))
    × ((is_named (codes "true") (first_of (codes "json") rows) || has_more (codes "file") rows) ≡ false)
    × (first_of (codes "file") rows ≡ Some (string_bytes command.input))
IsCommandOf met (Several command) = (rows : List Row)
    × (met ≡ Some (codes "identify", rows))
    × ((is_named (codes "true") (first_of (codes "json") rows) || has_more (codes "file") rows) ≡ true)
    × AreSeveralOf rows command.records (map string_bytes command.files.items)
IsCommandOf met (Call command) = (rows : List Row)
    × (met ≡ Some (codes "call", rows))
    × IsCallOf rows (string_bytes command.script) command.options (option_map string_bytes command.out) (option_map string_bytes command.bits) command.normal
    (option_map string_bytes command.diagram) (string_bytes command.input)
IsCommandOf met (Drive command) = (rows : List Row)
    × (met ≡ Some (codes "call", rows))
    × IsDriveOf rows command.line command.times command.options (option_map string_bytes command.out) (option_map string_bytes command.bits) command.normal
    (option_map string_bytes command.diagram) (string_bytes command.input)
IsCommandOf met (Judge command) = (rows : List Row)
    × (met ≡ Some (codes "judge", rows))
    × IsJudgeOf rows command.form command.strict (string_bytes command.input)
IsCommandOf met (Answer command) = (rows : List Row)
    × (met ≡ Some (codes "station", rows))
    × IsAnswerOf rows command.caps command.limit command.holds command.limits command.refuses command.waits (string_bytes command.out) command.rights
    (option_map string_bytes command.trace) command.frames
IsCommandOf met (Dial command) = (rows : List Row)
    × (met ≡ Some (codes "station", rows))
    × IsDialOf rows command.options command.from command.waits (option_map string_bytes command.trace) command.frames
    (string_bytes command.input)
IsCommandOf met (Version command) = (rows : List Row)
    × (met ≡ Some (codes "version", rows))
    × (command.proof ≡ is_named (codes "true") (first_of (codes "proof") rows))

-- no command is of this name and these values
abbrev pub HasNoCommand : Option (Text × List Row) → Type 0
HasNoCommand met = (command : Command) → IsCommandOf met command → ⊥

-- an option without a value, as `--explain` and `--json`, is among the values of a command
abbrev pub asks : Text → Option (Text × List Row) → Bool
asks id None = false
asks id (Some met) = is_named (codes "true") (first_of id met.1)

-- `clap` takes the words, and the command is that of the name and the values that it gives. A fault is explained in words if `--explain` is
-- among them, and messages are records if `--json` is.
abbrev pub ReadsAs : List Text → Request → Type 0
ReadsAs words request = (a : App) × IsFaxtool a × (fault_of a words ≡ []) × IsCommandOf (subcommand_of a words) request.command
    × (request.explain ≡ asks (codes "explain") (subcommand_of a words))
    × (request.json ≡ asks (codes "json") (subcommand_of a words))

-- ---- refusals

-- why there is no command: memory was refused, `clap` refuses the words with an error of this kind, or no command has these values
abbrev pub IsRefusalOf : List Text → Outcome → Type 0
IsRefusalOf words Done = ⊥
IsRefusalOf words Incomplete = ⊥
IsRefusalOf words (Fault fault) = fault ≡ No 9
IsRefusalOf words (Words error) = (a : App) × IsFaxtool a
    × (IsAmong (kind_of error) (fault_of a words)
    ⊎ HasNoCommand (subcommand_of a words))

-- what an error of `clap` becomes: `NoMemory` (9) if memory was refused, otherwise an error of the command line
abbrev pub IsOutcomeOf : Error → Outcome → Type 0
IsOutcomeOf error Done = ⊥
IsOutcomeOf error Incomplete = ⊥
IsOutcomeOf error (Fault fault) = (kind_of error ≡ OutOfMemory) × (fault ≡ No 9)
IsOutcomeOf error (Words given) = (kind_of error ≢ OutOfMemory) × (given ≡ error)

-- ---- the exit status

-- the exit status: 0 if the command is done, 1 for a fault or if something is missing, 2 for a wrong command line
abbrev pub status_of : Outcome → ℕ
status_of Done = 0
status_of Incomplete = 1
status_of (Fault fault) = 1
status_of (Words error) = 2

-- the width of a command that shows or decodes a page is 1 to 2,432
abbrev pub HasWidth : Command → Type 0
HasWidth (Code command) = Unit {0}
HasWidth (Show command) = IsWidth command.width
HasWidth (Decode command) = IfSome (given_width command.form command.likely) IsWidth
HasWidth (Each command) = IfSome (given_width command.form command.likely) IsWidth
HasWidth (Frames command) = Unit {0}
HasWidth (Captures command) = Unit {0}
HasWidth (Identify command) = Unit {0}
HasWidth (Several command) = Unit {0}
HasWidth (Call command) = Unit {0}
HasWidth (Drive command) = Unit {0}
HasWidth (Judge command) = Unit {0}
HasWidth (Answer command) = Unit {0}
HasWidth (Dial command) = Unit {0}
HasWidth (Version command) = Unit {0}

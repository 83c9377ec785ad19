-- What a script says: its lines, and the command of each.
use Rattle.std.specs.Prelude.{◌≡◌, ◌≢◌, ◌≤◌, ◌<◌, ◌+◌, ◌⊎◌, ◌==◌, ◌&&◌, ◌||◌, ℕ, Bool, true, false, List, [], ◌∷◌, ◌++◌, Option, Some}
use Rattle.std.specs.Prelude.{None, codes, length, nat_lt, slice_index}
use Rattle.std.specs.List.{AllByRecursion, after_first, before_first, position_or_len}
use Rattle.std.specs.Str.{IsUtf8}
use Rattle.std.specs.Str.Parse.{IsNumeral, digits_value}
use Rattle.line_sim.specs.declared.event.Event.{Event}
use Rattle.line_sim.specs.declared.event.Event.TheVariants.{DeliverToAnswerer, DeliverToCaller, LoseToAnswerer, LoseToCaller}
use Rattle.line_sim.specs.declared.event.Event.TheVariants.{Spoil, CallerTimeout, CallerT5, AnswererT1, AnswererT2, Busy}
use Rattle.faults.specs.declared.fault.ToolFault.{ToolFault}
use Rattle.faults.specs.declared.fault.ToolFault.TheVariants.{No, AtBit, AtLine}
use Rattle.faults.specs.declared.line_fault.LineFault.{LineFault}
use Rattle.faults.specs.declared.line_fault.LineFault.TheVariants.{NotUtf8, Blank, Word, Count}
use Rattle.calls.specs.declared.script.Command.{Command}
use Rattle.calls.specs.declared.script.Command.TheVariants.{Events, Polite}

-- ---- a line

-- the word of an event in a script and in the lines of a call
abbrev pub word_of : Event → List ℕ
word_of DeliverToAnswerer = codes "to-answerer"
word_of DeliverToCaller = codes "to-caller"
word_of LoseToAnswerer = codes "lose-to-answerer"
word_of LoseToCaller = codes "lose-to-caller"
word_of Spoil = codes "spoil"
word_of CallerTimeout = codes "caller-timeout"
word_of CallerT5 = codes "caller-t5"
word_of AnswererT1 = codes "answerer-t1"
word_of AnswererT2 = codes "answerer-t2"
word_of (Busy true) = codes "busy"
word_of (Busy false) = codes "ready"

-- a count is one to seven decimal digits, with a value from 1 to 1,000,000
pub record IsCount (digits : List ℕ) (count : ℕ) : Type 0 where
  pub numeral : IsNumeral 10 digits
  pub short : length digits ≤ 7
  pub value : count ≡ digits_value 10 digits
  pub least : 1 ≤ count
  pub most : count ≤ 1000000

-- the line is a word, one space and a count
abbrev pub IsCounted : List ℕ → List ℕ → ℕ → Type 0
IsCounted line word count = (digits : List ℕ) × (line ≡ word ++ 32 ∷ digits) × IsCount digits count

-- The line says the command: an event by its word, alone, which is once; or a word, one space and a count, which `polite` always has.
abbrev pub Says : List ℕ → Command → Type 0
Says line (Events event count) = ((line ≡ word_of event) × (count ≡ 1)) ⊎ IsCounted line (word_of event) count
Says line (Polite most) = IsCounted line (codes "polite") most

-- the line is skipped: it is empty, or a comment, which begins with #
abbrev pub IsSkipped : List ℕ → Type 0
IsSkipped line = (line ≡ []) ⊎ ((comment : List ℕ) × (line ≡ 35 ∷ comment))

-- a line of a script is UTF-8, and says a command or is skipped
abbrev pub IsLineOf : List ℕ → Option Command → Type 0
IsLineOf line None = IsUtf8 line × IsSkipped line
IsLineOf line (Some command) = IsUtf8 line × Says line command

-- the octets are not a line of a script
abbrev pub IsNoLine : List ℕ → Type 0
IsNoLine line = (said : Option Command) → IsLineOf line said → ⊥

-- ---- lines

-- no octet is LF
abbrev pub HasNoFeed : List ℕ → Type 0
HasNoFeed octets = (k : ℕ) → k < length octets → slice_index octets k ≢ 10

-- lines, each with the LF that ends it
abbrev pub ended : List (List ℕ) → List ℕ
ended [] = []
ended (line ∷ lines) = line ++ 10 ∷ ended lines

-- what a line says, followed by other commands
abbrev pub said_before : Option Command → List Command → List Command
said_before None commands = commands
said_before (Some command) commands = command ∷ commands

-- the lines say the commands, in order
abbrev pub LinesSay : List (List ℕ) → List Command → Type 0
LinesSay [] commands = commands ≡ []
LinesSay (line ∷ lines) commands = (said : Option Command) × (rest : List Command) × HasNoFeed line × IsLineOf line said
    × LinesSay lines rest × (commands ≡ said_before said rest)

-- ---- a script

-- The lines of the text say the commands, in order. Each line ends with LF, but the last one need not: what follows the last LF is a line
-- too, and if that is empty, it is skipped.
pub record IsScript (text : List ℕ) (commands : List Command) : Type 0 where
  pub lines : List (List ℕ)
  pub last : List ℕ
  pub text_is : text ≡ ended lines ++ last
  pub say : LinesSay (lines ++ last ∷ []) commands

-- the line of this number, counted from 1, is the first that isn't a line of a script
pub record IsFirstBadLine (text : List ℕ) (number : ℕ) : Type 0 where
  pub before : List (List ℕ)
  pub commands : List Command
  pub line : List ℕ
  pub rest : List ℕ
  pub text_is : text ≡ ended before ++ (line ++ rest)
  pub say : LinesSay before commands
  pub one : HasNoFeed line
  pub ends : (rest ≡ []) ⊎ ((more : List ℕ) × (rest ≡ 10 ∷ more))
  pub bad : IsNoLine line
  pub number_is : number ≡ length before + 1

-- why a script is refused: memory (fault 9), or its first line that isn't one
abbrev pub RefusesScript : List ℕ → ToolFault → Type 0
RefusesScript text (No number) = number ≡ 9
RefusesScript text (AtBit number place) = ⊥
RefusesScript text (AtLine number) = IsFirstBadLine text number

-- ---- one line more

-- what a line says is added to commands
abbrev pub AddsLine : List ℕ → List Command → List Command → Type 0
AddsLine line before after = (said : Option Command) × IsLineOf line said × (after ≡ before ++ said_before said [])

-- the line of this number isn't one of a script
abbrev pub IsBadLine : List ℕ → ℕ → ToolFault → Type 0
IsBadLine line number fault = (fault ≡ AtLine number) × IsNoLine line

-- why no line was added
abbrev pub RefusesLine : List ℕ → ℕ → ToolFault → Type 0
RefusesLine line number fault = (fault ≡ No 9) ⊎ IsBadLine line number fault

-- ---- what is wrong with a line

-- the octet is a space
abbrev pub is_space : ℕ → Bool
is_space octet = octet == 32

-- there is a space
abbrev pub has_space : List ℕ → Bool
has_space octets = nat_lt (position_or_len is_space octets) (length octets)

-- there is a tab or a CR
abbrev pub has_tab : List ℕ → Bool
has_tab octets = nat_lt (position_or_len (λ octet. octet == 9) octets) (length octets)
    || nat_lt (position_or_len (λ octet. octet == 13) octets) (length octets)

-- the word that a line begins with: all before its first space
abbrev pub word_in : List ℕ → List ℕ
word_in line = before_first is_space line

-- of a line with a space, nothing comes before its first one, or nothing after it, or another space does
abbrev pub is_badly_spaced : List ℕ → List ℕ → Bool
is_badly_spaced before after = length before == 0 || (length after == 0 || has_space after)

-- a line has a space that isn't alone between two words: two side by side, or one at its beginning or end
abbrev pub is_wrongly_spaced : List ℕ → Bool
is_wrongly_spaced line = has_space line && is_badly_spaced (before_first is_space line) (after_first is_space line)

-- a line has a tab or a CR, two spaces side by side, or a space at its beginning or end
abbrev pub has_wrong_blank : List ℕ → Bool
has_wrong_blank line = has_tab line || is_wrongly_spaced line

-- the word is that of an event, or `polite`
abbrev pub IsWord : List ℕ → Type 0
IsWord word = (word ≡ codes "polite") ⊎ ((event : Event) × (word ≡ word_of event))

-- What is wrong with a line that says no command: it isn't UTF-8; else a blank is wrong; else the word that it begins with isn't one of a
-- script; else the count is wrong.
abbrev pub IsLineFault : List ℕ → LineFault → Type 0
IsLineFault line NotUtf8 = ¬ IsUtf8 line
IsLineFault line Blank = IsUtf8 line × (has_wrong_blank line ≡ true)
IsLineFault line Word = IsUtf8 line × (has_wrong_blank line ≡ false) × ¬ IsWord (word_in line)
IsLineFault line Count = IsUtf8 line × (has_wrong_blank line ≡ false) × IsWord (word_in line)

-- the line of this number of a text, counted from 1
pub record IsLineAt (text : List ℕ) (number : ℕ) (line : List ℕ) : Type 0 where
  pub before : List (List ℕ)
  pub rest : List ℕ
  pub text_is : text ≡ ended before ++ (line ++ rest)
  pub lines : AllByRecursion HasNoFeed before
  pub one : HasNoFeed line
  pub ends : (rest ≡ []) ⊎ ((more : List ℕ) × (rest ≡ 10 ∷ more))
  pub number_is : number ≡ length before + 1

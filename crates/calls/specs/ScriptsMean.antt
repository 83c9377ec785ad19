-- What the lines of a script mean, said by what each word does to a call, by numbers, and by a line more.
use Rattle.std.specs.Prelude.{ℕ, ◌≡◌, ◌≤◌, ◌+◌, ◌↔◌, true, false, List, [], ◌∷◌, ◌++◌, Option, None, codes, length}
use Rattle.std.specs.Fmt.{decimal}
use Rattle.std.specs.List.{AllByRecursion}
use Rattle.std.specs.Str.{IsUtf8}
use Rattle.stations.specs.Inputs.{timeout, t5, t1, t2, is_busy}
use Rattle.line_sim.specs.Line.{World, Done, after_first, answerer_acts, caller_acts, delivers_to_answerer, delivers_to_caller, happens}
use Rattle.line_sim.specs.Line.{spoiled}
use Rattle.line_sim.specs.declared.event.Event.{Event}
use Rattle.calls.specs.Calls.{Makes, Steps}
use Rattle.calls.specs.Scripts.{HasNoFeed, IsFirstBadLine, IsLineOf, IsNoLine, IsScript, Says, said_before, word_of}
use Rattle.calls.specs.declared.script.Command.{Command}
use Rattle.calls.specs.declared.script.Command.TheVariants.{Events, Polite}

-- ---- words

-- a word is an event's, and that event does this to a call in which no memory is refused
pub record Does (word : List ℕ) (what : World → World) : Type 0 where
  pub some : (event : Event) × (word_of event ≡ word)
  pub each : (event : Event) (w : World) → word_of event ≡ word → happens w event Done ≡ what w

-- The law: what each of the eleven words of a script does to a call.
pub record WordsDo : Type 0 where
  -- the first item under way comes, or is lost, or all octets of a training check there become FF
  pub to_answerer : Does (codes "to-answerer") (λ w. delivers_to_answerer w Done w.to_answerer)
  pub to_caller : Does (codes "to-caller") (λ w. delivers_to_caller w Done w.to_caller)
  pub lose_to_answerer : Does (codes "lose-to-answerer") (λ w. record w { to_answerer = after_first w.to_answerer })
  pub lose_to_caller : Does (codes "lose-to-caller") (λ w. record w { to_caller = after_first w.to_caller })
  pub spoil : Does (codes "spoil") (λ w. record w { to_answerer = spoiled w.to_answerer })
  -- a station's timer is over
  pub caller_timeout : Does (codes "caller-timeout") (λ w. caller_acts w Done timeout)
  pub caller_t5 : Does (codes "caller-t5") (λ w. caller_acts w Done t5)
  pub answerer_t1 : Does (codes "answerer-t1") (λ w. answerer_acts w Done t1)
  pub answerer_t2 : Does (codes "answerer-t2") (λ w. answerer_acts w Done t2)
  -- the answerer can't take pages, or can
  pub busy : Does (codes "busy") (λ w. answerer_acts w Done (is_busy true))
  pub ready : Does (codes "ready") (λ w. answerer_acts w Done (is_busy false))

-- ---- numbers

-- The law: which numbers a script can have, 1 to 1,000,000; how often an event happens, and how many deliveries a polite run has at most.
pub record CountsMean : Type 0 where
  -- an event without a number happens once, and `polite` has one
  pub once : (event : Event) (command : Command) → Says (word_of event) command ↔ (command ≡ Events event 1)
  pub polite_has_one : (command : Command) → Says (codes "polite") command → ⊥
  -- each number from 1 to 1,000,000 can be written
  pub events : (event : Event) (count : ℕ) → 1 ≤ count → count ≤ 1000000 → Says (word_of event ++ 32 ∷ decimal count) (Events event count)
  pub polite : (count : ℕ) → 1 ≤ count → count ≤ 1000000 → Says (codes "polite" ++ 32 ∷ decimal count) (Polite count)
  -- and no other
  pub least : (line : List ℕ) (event : Event) (count : ℕ) → Says line (Events event count) → (1 ≤ count) × (count ≤ 1000000)
  pub least_polite : (line : List ℕ) (count : ℕ) → Says line (Polite count) → (1 ≤ count) × (count ≤ 1000000)
  -- seven digits may be written, with zeros in front, and not eight
  pub seven : (event : Event) → Says (word_of event ++ codes " 0000001") (Events event 1)
  pub eight : (event : Event) (digits : List ℕ) (command : Command) → 8 ≤ length digits → Says (word_of event ++ 32 ∷ digits) command → ⊥

-- an event with a number happens as often as it says, and nothing else happens
pub record MakesEvents (event : Event) (count : ℕ) (steps : Steps) : Type 0 where
  pub number : length steps ≡ count
  pub same : AllByRecursion (λ step. step.0 ≡ event) steps

-- The law: an event with a number happens as often as the number says, and nothing else happens.
abbrev pub CountsMake : Type 0
CountsMake = (event : Event) (count : ℕ) (w : World) (steps : Steps) → Makes (Events event count) w steps → MakesEvents event count steps

-- ---- lines

-- The law: what an empty line, a comment, a line that says a command and a line that is refused make of the script after them, and which
-- line is the first bad one.
pub record LinesMean : Type 0 where
  -- nothing, and a line without a LF, are scripts
  pub nothing : IsScript [] []
  pub alone : (line : List ℕ) (said : Option Command) → HasNoFeed line → IsLineOf line said → IsScript line (said_before said [])
  pub more : (line text : List ℕ) (said : Option Command) (commands : List Command) → HasNoFeed line → IsLineOf line said
      → IsScript text commands → IsScript (line ++ 10 ∷ text) (said_before said commands)
  -- an empty line and one that begins with a number sign say nothing
  pub empty : IsLineOf [] None
  pub comment : (rest : List ℕ) → IsUtf8 (codes "#" ++ rest) → IsLineOf (codes "#" ++ rest) None
  pub no_others : (first : ℕ) (rest : List ℕ) → IsLineOf (first ∷ rest) None → codes "#" ≡ first ∷ []
  -- lines are counted from 1
  pub first_bad : (line rest : List ℕ) → HasNoFeed line → IsNoLine line → IsFirstBadLine (line ++ 10 ∷ rest) 1
  pub last_bad : (line : List ℕ) → HasNoFeed line → IsNoLine line → IsFirstBadLine line 1
  pub next_bad : (line text : List ℕ) (said : Option Command) (number : ℕ) → HasNoFeed line → IsLineOf line said
      → IsFirstBadLine text number → IsFirstBadLine (line ++ 10 ∷ text) (number + 1)
  pub from_one : (text : List ℕ) (number : ℕ) → IsFirstBadLine text number → 1 ≤ number

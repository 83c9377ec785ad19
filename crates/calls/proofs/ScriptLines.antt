-- Lines of a script, one after the other.
use Rattle.std.proofs.Common.{◌≡◌, ◌+◌, ◌≤◌, ℕ, List, [], ◌∷◌, ◌++◌, Option, Some, None, length, refl, ap, sym, ◌∙◌, append_assoc}
use Rattle.std.proofs.Common.{length-append, arith, inl, inr, subst}
use Rattle.std.proofs.lemmas.List.{append-nil}
use Rattle.std.specs.List.{AllByRecursion}
use Rattle.faults.specs.declared.fault.ToolFault.{ToolFault}
use Rattle.faults.specs.declared.fault.ToolFault.TheVariants.{No, AtBit, AtLine}
use Rattle.calls.specs.declared.script.Command.{Command}
use Rattle.calls.specs.Scripts.{AddsLine, HasNoFeed, IsFirstBadLine, IsLineAt, IsNoLine, IsScript, LinesSay, RefusesLine}
use Rattle.calls.specs.Scripts.{RefusesScript, ended, said_before}

-- one line more says more
pub lines_more : (lines : List (List ℕ)) (line : List ℕ) (old new : List Command) → LinesSay lines old → HasNoFeed line
    → AddsLine line old new
    → LinesSay (lines ++ line ∷ []) new
lines_more [] line old new none one (said, is, added) =
    (said, [], one, is, refl, added ∙ ap (λ cs. cs ++ said_before said []) none)
lines_more (first ∷ lines) line old new (say_first, rest, one_first, is_first, say, is) one (said, is_line, added) = (
  say_first,
  rest ++ said_before said [],
  one_first,
  is_first,
  lines_more lines line rest (rest ++ said_before said []) say one (said, is_line, refl),
  added ∙ (ap (λ cs. cs ++ said_before said []) is ∙ joined say_first),
)
  where
    joined : (s : Option Command) → said_before s rest ++ said_before said [] ≡ said_before s (rest ++ said_before said [])
    joined None = refl
    joined (Some command) = refl

pub ended_more : (lines : List (List ℕ)) (line rest : List ℕ) → ended (lines ++ line ∷ []) ++ rest ≡ ended lines ++ (line ++ 10 ∷ rest)
ended_more [] line rest = append_assoc line (10 ∷ []) rest
ended_more (first ∷ lines) line rest =
    append_assoc first (10 ∷ ended (lines ++ line ∷ [])) rest
    ∙ (ap (λ xs. first ++ 10 ∷ xs) (ended_more lines line rest) ∙ sym (append_assoc first (10 ∷ ended lines) (line ++ 10 ∷ rest)))

-- these lines are read, and they say the commands so far
pub record ReadSoFar (text rest : List ℕ) (commands : List Command) (number : ℕ) : Type 0 where
  pub lines : List (List ℕ)
  pub text_is : text ≡ ended lines ++ rest
  pub say : LinesSay lines commands
  pub number_is : number ≡ length lines + 1
  pub room : number + length rest ≤ length text + 1

pub none_read : (text : List ℕ) → ReadSoFar text text [] 1
none_read text = record { lines = []; text_is = refl; say = refl; number_is = refl; room = omega arith }

-- the next line is read
pub next_read : (text rest line after : List ℕ) (old new : List Command) (number next : ℕ) → ReadSoFar text rest old number → HasNoFeed line
    → rest ≡ line ++ 10 ∷ after → AddsLine line old new → next ≡ number + 1 → ReadSoFar text after new next
next_read text rest line after old new number next so_far one is adds more = record {
  lines = so_far.lines ++ line ∷ [];
  text_is = so_far.text_is ∙ (ap (λ xs. ended so_far.lines ++ xs) is ∙ sym (ended_more so_far.lines line after));
  say = lines_more so_far.lines line old new so_far.say one adds;
  number_is = omega (arith, so_far.number_is, more, length-append so_far.lines (line ∷ []));
  room = omega (arith, so_far.room, more, ap length is, length-append line (10 ∷ after));
}

-- the last line is read
pub all_read : (text last : List ℕ) (old new : List Command) (number : ℕ) → ReadSoFar text last old number → HasNoFeed last
    → AddsLine last old new
    → IsScript text new
all_read text last old new number so_far one adds = record {
  lines = so_far.lines;
  last = last;
  text_is = so_far.text_is;
  say = lines_more so_far.lines last old new so_far.say one adds;
}

-- the line that follows isn't one
pub bad_next : (text rest line after : List ℕ) (old : List Command) (number : ℕ) → ReadSoFar text rest old number → HasNoFeed line
    → rest ≡ line ++ 10 ∷ after → IsNoLine line → IsFirstBadLine text number
bad_next text rest line after old number so_far one is bad = record {
  before = so_far.lines;
  commands = old;
  line = line;
  rest = 10 ∷ after;
  text_is = so_far.text_is ∙ ap (λ xs. ended so_far.lines ++ xs) is;
  say = so_far.say;
  one = one;
  ends = inr (after, refl);
  bad = bad;
  number_is = so_far.number_is;
}

-- the last line isn't one
pub bad_last : (text last : List ℕ) (old : List Command) (number : ℕ) → ReadSoFar text last old number → HasNoFeed last → IsNoLine last
    → IsFirstBadLine text number
bad_last text last old number so_far one bad = record {
  before = so_far.lines;
  commands = old;
  line = last;
  rest = [];
  text_is = so_far.text_is ∙ ap (λ xs. ended so_far.lines ++ xs) (sym (append-nil last));
  say = so_far.say;
  one = one;
  ends = inl refl;
  bad = bad;
  number_is = so_far.number_is;
}

-- the line that follows is refused
pub line_refused : (text rest line after : List ℕ) (old : List Command) (number : ℕ) (fault : ToolFault) → ReadSoFar text rest old number
    → HasNoFeed line
    → rest ≡ line ++ 10 ∷ after → RefusesLine line number fault → RefusesScript text fault
line_refused text rest line after old number (No n) so_far one is (inl e) = cc
line_refused text rest line after old number (No n) so_far one is (inr (e, bad)) = cc
line_refused text rest line after old number (AtBit n place) so_far one is (inl e) = cc
line_refused text rest line after old number (AtBit n place) so_far one is (inr (e, bad)) = cc
line_refused text rest line after old number (AtLine n) so_far one is (inl e) = cc
line_refused text rest line after old number (AtLine n) so_far one is (inr (e, bad)) =
    subst (IsFirstBadLine text) (let same : number ≡ n = cc in same) (bad_next text rest line after old number so_far one is bad)

-- the last line is refused
pub last_refused : (text last : List ℕ) (old : List Command) (number : ℕ) (fault : ToolFault) → ReadSoFar text last old number
    → HasNoFeed last
    → RefusesLine last number fault → RefusesScript text fault
last_refused text last old number (No n) so_far one (inl e) = cc
last_refused text last old number (No n) so_far one (inr (e, bad)) = cc
last_refused text last old number (AtBit n place) so_far one (inl e) = cc
last_refused text last old number (AtBit n place) so_far one (inr (e, bad)) = cc
last_refused text last old number (AtLine n) so_far one (inl e) = cc
last_refused text last old number (AtLine n) so_far one (inr (e, bad)) =
    subst (IsFirstBadLine text) (let same : number ≡ n = cc in same) (bad_last text last old number so_far one bad)

-- ---- a line by its number

-- the rest of a text begins with the line of this number
pub record LinesBefore (text rest : List ℕ) (number : ℕ) : Type 0 where
  pub lines : List (List ℕ)
  pub text_is : text ≡ ended lines ++ rest
  pub fed : AllByRecursion HasNoFeed lines
  pub number_is : number ≡ length lines + 1
  pub room : number + length rest ≤ length text + 1

pub none_before : (text : List ℕ) → LinesBefore text text 1
none_before text = record { lines = []; text_is = refl; fed = _; number_is = refl; room = omega arith }

fed_more : (lines : List (List ℕ)) (line : List ℕ) → AllByRecursion HasNoFeed lines → HasNoFeed line
    → AllByRecursion HasNoFeed (lines ++ line ∷ [])
fed_more [] line fed one = (one, _)
fed_more (first ∷ lines) line (first_fed, fed) one = (first_fed, fed_more lines line fed one)

-- a line further
pub one_before : (text rest line after : List ℕ) (number next : ℕ) → LinesBefore text rest number → HasNoFeed line
    → rest ≡ line ++ 10 ∷ after → next ≡ number + 1 → LinesBefore text after next
one_before text rest line after number next so_far one is more = record {
  lines = so_far.lines ++ line ∷ [];
  text_is = so_far.text_is ∙ (ap (λ xs. ended so_far.lines ++ xs) is ∙ sym (ended_more so_far.lines line after));
  fed = fed_more so_far.lines line so_far.fed one;
  number_is = omega (arith, so_far.number_is, more, length-append so_far.lines (line ∷ []));
  room = omega (arith, so_far.room, more, ap length is, length-append line (10 ∷ after));
}

-- the line of this number, and another one after it
pub line_there : (text rest line after : List ℕ) (number : ℕ) → LinesBefore text rest number → HasNoFeed line → rest ≡ line ++ 10 ∷ after
    → IsLineAt text number line
line_there text rest line after number so_far one is = record {
  before = so_far.lines;
  rest = 10 ∷ after;
  text_is = so_far.text_is ∙ ap (λ xs. ended so_far.lines ++ xs) is;
  lines = so_far.fed;
  one = one;
  ends = inr (after, refl);
  number_is = so_far.number_is;
}

-- the last line has this number
pub last_there : (text last : List ℕ) (number : ℕ) → LinesBefore text last number → HasNoFeed last → IsLineAt text number last
last_there text last number so_far one = record {
  before = so_far.lines;
  rest = [];
  text_is = so_far.text_is ∙ ap (λ xs. ended so_far.lines ++ xs) (sym (append-nil last));
  lines = so_far.fed;
  one = one;
  ends = inl refl;
  number_is = so_far.number_is;
}

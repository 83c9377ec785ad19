-- What becomes of the items on a bad line: which rates there are, and what a generator draws by them.
use Rattle.std.specs.Prelude.{◌≡◌, ◌<◌, ◌≤◌, ◌+◌, ◌*◌, ◌/◌, ◌^◌, ◌⊎◌, ℕ, List, [], ◌∷◌, ◌++◌, length, nat_lt, if◌then◌else◌, Bool, true, false}
use Rattle.std.specs.Str.Parse.{IsNumeral, digits_value}
use Rattle.rand_pcg.specs.Lcg.{Lcg, increment_of, started}
use Rattle.rand_pcg.specs.Pcg.{multiplier_64}
use Rattle.line_sim.specs.Driving.{Fate}
use Rattle.line_sim.specs.Driving.Fate.{comes, lost, spoiled}
use Rattle.calls.specs.declared.losses.BadLine.{BadLine}

-- ---- rates

-- one to nine decimal digits, and what they are
pub record AreDigits (digits : List ℕ) (value : ℕ) : Type 0 where
  pub numeral : IsNumeral 10 digits
  pub short : length digits ≤ 9
  pub value_is : value ≡ digits_value 10 digits
  pub most : value ≤ 999999999

-- how many of the 2^32 words of the generator a part of a whole is, rounded down
abbrev pub share_of : ℕ → ℕ → ℕ
share_of part whole = part * 2 ^ 32 / whole

-- digits before a % are a rate: at most 100 of 100
pub record IsPercent (digits : List ℕ) (share : ℕ) : Type 0 where
  pub value : ℕ
  pub number : AreDigits digits value
  pub most : value ≤ 100
  pub share_is : share ≡ share_of value 100

-- digits on both sides of a / are a rate: a part, and a whole that is neither 0 nor less than the part
pub record IsFraction (above below : List ℕ) (share : ℕ) : Type 0 where
  pub part : ℕ
  pub whole : ℕ
  pub part_is : AreDigits above part
  pub whole_is : AreDigits below whole
  pub least : 1 ≤ whole
  pub most : part ≤ whole
  pub share_is : share ≡ share_of part whole

-- The text is a rate, as 5% or 1/20, and `share` is how many of the generator's 2^32 words are below it, rounded down.
abbrev pub IsRate : List ℕ → ℕ → Type 0
IsRate text share = ((digits : List ℕ) × (text ≡ digits ++ 37 ∷ []) × IsPercent digits share) ⊎
    ((above : List ℕ) × (below : List ℕ) × (text ≡ above ++ 47 ∷ below) × IsFraction above below share)

-- ---- fates

-- what a word of the generator makes of an item: below the share of losses it is lost, else below both shares together it is spoiled
abbrev pub fate_of : BadLine → ℕ → Fate
fate_of line word = if nat_lt word line.lose then lost else if nat_lt word (line.lose + line.spoil) then spoiled else comes

-- a word of the generator is below the share of busy words, so it makes the answerer busy
abbrev pub is_busy_word : BadLine → ℕ → Bool
is_busy_word line word = nat_lt word line.busy

-- The law: what each word of the generator makes of an item, and which words make the answerer busy: of all words the first ones lose an
-- item, as many as the share of losses has, and the next ones spoil it, as many as the share of spoiled ones has.
pub record FatesOfWords (line : BadLine) (word : ℕ) : Type 0 where
  pub loses : word < line.lose → fate_of line word ≡ lost
  pub spoils : line.lose ≤ word → word < line.lose + line.spoil → fate_of line word ≡ spoiled
  pub spares : line.lose + line.spoil ≤ word → fate_of line word ≡ comes
  pub busy : word < line.busy → is_busy_word line word ≡ true
  pub ready : line.busy ≤ word → is_busy_word line word ≡ false

-- the same, of each line and word
abbrev pub FatesAreShared : Type 0
FatesAreShared = (line : BadLine) (word : ℕ) → FatesOfWords line word

-- the generator of a call, pcg32: its state begins with the seed, its stream is the number of the call
abbrev pub generator_of : BadLine → ℕ → Lcg
generator_of line number = started 64 multiplier_64 line.seed (increment_of 64 number)

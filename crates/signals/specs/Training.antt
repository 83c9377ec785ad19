-- The training check.
use Rattle.std.specs.Prelude.{ℕ, ◌+◌, ◌*◌, ◌/◌, ◌≤◌, replicate, max, cond, nat_eq, List, [], ◌∷◌}
use Rattle.signals.specs.declared.params.Speed.{Speed}
use Rattle.signals.specs.declared.params.Speed.TheVariants.{V27At2400, V27At4800, V29At7200, V29At9600, V17At7200, V17At9600, V17At12000}
use Rattle.signals.specs.declared.params.Speed.TheVariants.{V17At14400}

-- the bits a second of each speed
abbrev pub bits_a_second : Speed → ℕ
bits_a_second V27At2400 = 2400
bits_a_second V27At4800 = 4800
bits_a_second V29At7200 = 7200
bits_a_second V29At9600 = 9600
bits_a_second V17At7200 = 7200
bits_a_second V17At9600 = 9600
bits_a_second V17At12000 = 12000
bits_a_second V17At14400 = 14400

-- the octets of the training check: 1.5 s of 0 bits (T.30, 5.3.6.1.3)
abbrev pub training_octets : Speed → ℕ
training_octets speed = bits_a_second speed * 3 / 2 / 8

-- how many octets 00 a list begins with
abbrev pub zeros_in_front : List ℕ → ℕ
zeros_in_front [] = 0
zeros_in_front (x ∷ xs) = cond (nat_eq x 0) (zeros_in_front xs + 1) 0

-- the length of the longest run of octets 00
abbrev pub longest_zeros : List ℕ → ℕ
longest_zeros [] = 0
longest_zeros (x ∷ xs) = max (zeros_in_front (x ∷ xs)) (longest_zeros xs)

-- a training check is good if twice its longest run of octets 00 is at least the check's length
abbrev pub IsGoodTraining : List ℕ → Speed → Type 0
IsGoodTraining octets speed = training_octets speed ≤ 2 * longest_zeros octets

-- law: a check of the whole length, all octets 00, is good
abbrev pub TrainingChecksAreGood : Type 0
TrainingChecksAreGood = (speed : Speed) → IsGoodTraining (replicate (training_octets speed) 0) speed

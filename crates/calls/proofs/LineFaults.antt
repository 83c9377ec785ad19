-- What is wrong with a line of a script is one thing alone.
use Rattle.std.proofs.Common.{◌≡◌, ℕ, List, refl}
use Rattle.std.proofs.lemmas.Bool.{both_ways}
use Rattle.calls.specs.Scripts.{IsLineFault, has_wrong_blank}
use Rattle.faults.specs.declared.line_fault.LineFault.{LineFault}
use Rattle.faults.specs.declared.line_fault.LineFault.TheVariants.{NotUtf8, Blank, Word, Count}

pub one_line_fault : (line : List ℕ) (a b : LineFault) → IsLineFault line a → IsLineFault line b → a ≡ b
one_line_fault line NotUtf8 NotUtf8 p q = refl
one_line_fault line NotUtf8 Blank p q = absurd (p q.0)
one_line_fault line NotUtf8 Word p q = absurd (p q.0)
one_line_fault line NotUtf8 Count p q = absurd (p q.0)
one_line_fault line Blank NotUtf8 p q = absurd (q p.0)
one_line_fault line Blank Blank p q = refl
one_line_fault line Blank Word p q = absurd (both_ways (has_wrong_blank line) q.1 p.1)
one_line_fault line Blank Count p q = absurd (both_ways (has_wrong_blank line) q.1 p.1)
one_line_fault line Word NotUtf8 p q = absurd (q p.0)
one_line_fault line Word Blank p q = absurd (both_ways (has_wrong_blank line) p.1 q.1)
one_line_fault line Word Word p q = refl
one_line_fault line Word Count p q = absurd (p.2 q.2)
one_line_fault line Count NotUtf8 p q = absurd (q p.0)
one_line_fault line Count Blank p q = absurd (both_ways (has_wrong_blank line) p.1 q.1)
one_line_fault line Count Word p q = absurd (q.2 p.2)
one_line_fault line Count Count p q = refl

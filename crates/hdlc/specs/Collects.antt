-- What is kept of the bits of a gap.
use Rattle.std.specs.Prelude.{◌≡◌, Bool, List, length, min}
use Rattle.std.specs.List.{suffix_len}
use Rattle.hdlc.specs.declared.gap.Gap.{Gap}
use Rattle.hdlc.specs.Gaps.{has_six, unstuffed}
use Rattle.hdlc.specs.Assembles.{Assembles}

-- what a `Gap` keeps of the bits of a gap
pub record Collects (c : Gap) (gap : List Bool) : Type 0 where
  pub seen : c.seen ≡ min 8 (length gap)
  pub ones : c.ones ≡ min 6 (suffix_len (λ bit. bit) gap)
  pub aborted : c.aborted ≡ has_six gap
  pub unstuffed : Assembles c.unstuffed (unstuffed gap)

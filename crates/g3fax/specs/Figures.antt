-- What a call tells of what a terminal's call came to.
use Rattle.std.specs.Prelude.{ℕ, ◌-◌, ◌++◌, List, [], ◌∷◌, cond, length, nat_eq, replicate, reverse}
use Rattle.std.specs.declared.option.Option.{Option}
use Rattle.std.specs.declared.option.Option.TheVariants.{None, Some}
use Rattle.signals.specs.declared.params.Speed.{Speed}
use Rattle.terminals.specs.declared.figures.Figures.{Figures}
use Rattle.g3fax.specs.Numbers.{speed_number}
use Rattle.g3fax.specs.declared.figures.G3Figures.{G3Figures}

-- the carrier of a speed; 0 for none
abbrev pub speed_told : Option Speed → ℕ
speed_told None = 0
speed_told (Some speed) = speed_number speed

-- signs without the spaces that they begin with
abbrev pub without_blanks : List ℕ → List ℕ
without_blanks [] = []
without_blanks (sign ∷ signs) = cond (nat_eq sign 32) (without_blanks signs) (sign ∷ signs)

-- a name in the order of reading: its last sign is sent first, and the spaces that fill it after its first sign (T.30, 5.3.6.2)
abbrev pub read_name : List ℕ → List ℕ
read_name signs = without_blanks (reverse signs)

-- signs as 20 octets, which are 0 after them
abbrev pub filled : List ℕ → List ℕ
filled signs = signs ++ replicate (20 - length signs) 0

-- the other station's name in 20 octets, with how many signs it has, if it has one
abbrev pub with_name : Option (List ℕ) → G3Figures → G3Figures
with_name None told = told
with_name (Some name) told = record told {
  peer_length = length (read_name name);
  peer = filled (read_name name);
}

-- the control field of the last frame that was heard, if that is no signal of these stations
abbrev pub with_other : Option ℕ → G3Figures → G3Figures
with_other None told = told
with_other (Some control) told = record told { other = 1; control = control }

-- what a call came to, by numbers, beside the name and the frame that isn't known
abbrev pub figures_without : Figures → G3Figures
figures_without f = record {
  blocks = f.blocks;
  pprs = f.requests;
  resent = f.resent;
  retries = f.retries;
  failed_checks = f.failed_checks;
  first_speed = speed_told f.first_speed;
  last_speed = speed_told f.last_speed;
  other = 0;
  control = 0;
  peer_length = 0;
  peer = filled [];
}

-- what a call came to, by numbers
abbrev pub figures_told : Figures → G3Figures
figures_told f = with_name f.name (with_other f.unread (figures_without f))

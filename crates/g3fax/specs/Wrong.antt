-- Which field of a struct has a number that isn't one of those allowed.
use Rattle.std.specs.Prelude.{ℕ, ◌+◌, ◌∷◌, [], Bool, true, false, List, is_some, nat_lt}
use Rattle.signals.specs.Agreement.{width_of_pixels}
use Rattle.g3fax.specs.Beginning.{modems_of, small_of}
use Rattle.g3fax.specs.Codes.{coding_of, order_of}
use Rattle.g3fax.specs.declared.beginning.G3Caps.{G3Caps}
use Rattle.g3fax.specs.declared.beginning.G3Wish.{G3Wish}
use Rattle.g3fax.specs.declared.codes.G3Code.{G3Code}

-- the place of the first false, where the first one of all has this place; 0 if all are true
abbrev pub first_false : ℕ → List Bool → ℕ
first_false place [] = 0
first_false place (true ∷ rest) = first_false (place + 1) rest
first_false place (false ∷ rest) = place

-- of a page's code, from 1: its code, its bit order
abbrev pub code_wrong : G3Code → ℕ
code_wrong code = first_false 1 (is_some (coding_of code.coding) ∷ is_some (order_of code.order) ∷ [])

-- of what an answerer can do, from 1: its modems, its widest page, its limit, which is 1 or more
abbrev pub caps_wrong : G3Caps → ℕ
caps_wrong caps =
    first_false 1 (is_some (modems_of caps.modems) ∷ is_some (width_of_pixels caps.widest) ∷ nat_lt 0 caps.limit ∷ [])

-- of what a caller wishes, from 1: its modems, the code of its pages, the octets of a frame
abbrev pub wish_wrong : G3Wish → ℕ
wish_wrong wish =
    first_false 1 (is_some (modems_of wish.modems) ∷ is_some (coding_of wish.coding) ∷ is_some (small_of wish.frame) ∷ [])

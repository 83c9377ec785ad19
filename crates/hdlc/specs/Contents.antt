-- A queue of contents as lists.
use Rattle.std.specs.Prelude.{ℕ, List, map, Vec}
use Rattle.std.specs.declared.alloc.Global.{Global}

-- the octets of each content in the queue
abbrev pub contents_of : List (Vec ℕ Global) → List (List ℕ)
contents_of frames = map (λ frame. frame.items) frames

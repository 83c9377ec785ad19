-- Contents that are written one after the other.
use Rattle.std.proofs.Common.{◌≡◌, ◌∙◌, ◌++◌, ◌∷◌, ℕ, Bool, List, [], ap, refl, sym}
use Rattle.std.specs.Io.KnownBytes.{Appends}
use Rattle.std.specs.Prelude.{Option, Some, None, drop, slice_get}
use Rattle.hdlc.specs.DeframerState.{DeframerState, IsAfter}
use Rattle.hex.specs.Hex.{encode_upper}
use Rattle.raster.specs.Packed.{bits_of}
use Rattle.raster.specs.declared.packed.Order.TheVariants.{LsbFirst}
use Rattle.terminals.specs.Hearing.{contents}
use Rattle.conversations.proofs.Written.{HasWritten, all_of_it}
use Rattle.conversations.specs.FrameLines.{contents_text}

first_of : (queue : List (List ℕ)) (content : List ℕ) → slice_get queue 0 ≡ Some content →
    contents_text queue ≡ (32 ∷ encode_upper content) ++ contents_text (drop 1 queue)
first_of [] content e = cc
first_of (x ∷ xs) content e =
    let same : content ≡ x = cc in ap (λ c. 32 ∷ (encode_upper c ++ contents_text xs)) (sym same)

-- the text of the first content that waits, and of those after it
pub next_content : (now next : DeframerState) (content : List ℕ) → slice_get now.queue 0 ≡ Some content →
    next ≡ record now { queue = drop 1 now.queue } → contents_text now.queue ≡ (32 ∷ encode_upper content) ++ contents_text next.queue
next_content now next content first is =
    first_of now.queue content first ∙
    ap (λ (d : DeframerState). (32 ∷ encode_upper content) ++ contents_text d.queue) (sym is)

none_of : (queue : List (List ℕ)) → slice_get queue 0 ≡ None → contents_text queue ≡ []
none_of [] e = refl
none_of (x ∷ xs) e = cc

-- no content waits any more
pub contents_written : (text : List ℕ) (now : DeframerState) (old here : Option (List ℕ)) → HasWritten text (contents_text now.queue) old here →
    slice_get now.queue 0 ≡ None → Appends old here text
contents_written text now old here h none = all_of_it text (contents_text now.queue) old here h (none_of now.queue none)

-- what waits in a new deframer that was fed octets
pub fed_queue : (new fed : DeframerState) (octets : List ℕ) → IsAfter new [] 0 →
    ((bits : List Bool) (handed : ℕ) → IsAfter new bits handed → IsAfter fed (bits ++ bits_of LsbFirst octets) handed) →
    contents_text fed.queue ≡ contents_text (contents octets)
unfolding contents
fed_queue new fed octets none feeds = ap contents_text (feeds [] 0 none).queued

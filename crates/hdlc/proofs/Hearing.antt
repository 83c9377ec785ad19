-- A deframer that hears the octets of one frame after the other.
use Rattle.std.proofs.Common.{◌≡◌, ◌+◌, Bool, List, [], ◌∷◌, ◌++◌, length, drop, refl, ap, sym, ◌∙◌, subst, arith, inl}
use Rattle.std.proofs.lemmas.List.{length-append, drop_at}
use Rattle.raster.specs.Packed.{bits_of}
use Rattle.raster.specs.declared.packed.Order.TheVariants.{LsbFirst}
use Rattle.hdlc.specs.Flags.{flags, gaps}
use Rattle.hdlc.specs.Frames.{IsReady}
use Rattle.hdlc.specs.DeframerState.{DeframerState, IsAfter}
use Rattle.hdlc.specs.Gaps.{good}
use Rattle.hdlc.specs.Laws.{FrameOctetsGrow, NewIsIdle, FrameIsHeard}
use Rattle.hdlc.proofs.FrameGrowsLemmas.{frame_grows}
use Rattle.hdlc.proofs.DeframerPartsLemmas.{next_stands}

pub octets_grow : FrameOctetsGrow
octets_grow bits content frame octets ready is fills =
    let grown = frame_grows bits content frame fills.fill ready is (omega (arith, fills.few)) in
    rw fills.filled (grown.0, grown.2)

pub new_idle : NewIsIdle
unfolding flags gaps
new_idle state fresh = record { bits = []; ready = inl refl; after = fresh }

pub frame_heard : FrameIsHeard
frame_heard old fed content frame octets idle is fills step =
    let bits : List Bool = idle.bits in
    let all : List Bool = bits ++ bits_of LsbFirst octets in
    let grown : IsReady all × (good all ≡ good bits ++ content ∷ []) =
    octets_grow bits content frame octets idle.ready is fills in
    let taken : IsAfter fed all (length (good bits)) = step bits (length (good bits)) idle.after in
    let size : length (good all) ≡ length (good bits) + 1 = ap length grown.1 ∙ length-append (good bits) (content ∷ []) in
    let queue : fed.queue ≡ content ∷ [] =
    taken.queued ∙ (ap (drop (length (good bits))) grown.1 ∙ drop_at (good bits) (content ∷ []) (length (good bits)) refl) in
    let after : DeframerState = record fed { queue = drop 1 fed.queue } in
    let next : IsAfter after all (length (good bits) + 1) = next_stands fed all (length (good bits)) taken (omega arith) in
    (queue, record { bits = all; ready = grown.0; after = subst (λ n. IsAfter after all n) (sym size) next })

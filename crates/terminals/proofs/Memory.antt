-- What a terminal holds beside its station's pages.
use Rattle.std.proofs.Common.{◌≡◌, ◌≤◌, ◌∙◌, ℕ, Bool, List, [], length, drop, take, ap, arith, subst, sym}
use Rattle.std.proofs.lemmas.List.{drop_all, length-take}
use Rattle.hdlc.specs.Gaps.{unstuffed}
use Rattle.hdlc.specs.Kept.{kept_of}
use Rattle.hdlc.specs.OpenGap.{unclosed}
use Rattle.raster.specs.Octets.{octets_of}
use Rattle.raster.specs.Packed.{bits_of}
use Rattle.raster.specs.declared.packed.Order.TheVariants.{LsbFirst}
use Rattle.stations.specs.AnswererStep.{Answerer, new_answerer}
use Rattle.stations.specs.Limits.{OpenIsLimited, max_open_octets, open_octets}
use Rattle.stations.specs.Runs.{answerer_after}
use Rattle.partial_page.specs.Frames.{max_page_octets}
use Rattle.terminals.proofs.After.{answerer_took}
use Rattle.terminals.specs.Hearing.{contents}
use Rattle.terminals.specs.Memory.{OneFrameIsKept, OpenPagesAreLimited}

few_of : (xs : List ℕ) → length (take 302 xs) ≤ 302
few_of xs = omega (arith, length-take 302 xs)

few_kept : (bits : List Bool) → length (kept_of bits).octets ≤ 302
unfolding kept_of
few_kept bits = few_of (octets_of (unstuffed (unclosed bits)))

none_wait : (octets : List ℕ) → drop (length (contents octets)) (contents octets) ≡ []
none_wait octets = drop_all (length (contents octets)) (contents octets) (omega arith)

pub one_frame_is_kept : OneFrameIsKept
unfolding contents
one_frame_is_kept framing octets h = (
  h.queued ∙ none_wait octets,
  subst (λ k. length k.octets ≤ 302) (sym h.kept) (few_kept (bits_of LsbFirst octets)),
)

pub open_pages_are_limited : OpenIsLimited → OpenPagesAreLimited
open_pages_are_limited limited caps params old new inputs e h =
    let took = answerer_took old new inputs h in
    let at : new.station ≡ answerer_after took.0 (new_answerer caps params) = took.1 ∙ ap (answerer_after took.0) e in
    subst (λ (s : Answerer). (open_octets s.frames ≤ max_open_octets) × (length s.octets ≤ max_page_octets)) (sym at)
    (limited caps params took.0)

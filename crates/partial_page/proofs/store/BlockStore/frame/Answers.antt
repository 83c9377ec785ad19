use Rattle.std.proofs.Common.{◌≡◌, ◌<◌, ◌∙◌, true, ap, sym, arith}
use Rattle.partial_page.specs.Store.{frames_in, has_frame}
use Rattle.partial_page.proofs.StoreLemmas.{there_taken, place_within, place_holds, frame_there}
use Rattle.partial_page.proofs.store.BlockStore.frame.Goals as goal

pub frame_at-place-requires-clause-within : goal.frame_at-place-requires-clause-within
frame_at-place-requires-clause-within c =
    let below : c.args.n < 256 = omega arith in
    let has :
    has_frame (frames_in c.self.inside.small c.self.inside.buffer.items c.self.inside.there c.self.inside.lengths) c.args.n ≡ true =
    ap (λ store. has_frame store.frames c.args.n) c.self.view_is ∙ sym c.if-not-has.ensures.has in
    rw c.deref.ensures.value
    (place_within c.self.inside.small c.self.inside.buffer.items c.args.n below (there_taken _ _ _ _ c.args.n below c.self.invariant has))

pub slice_bounds-result-end : goal.slice_bounds-result-end
slice_bounds-result-end c =
    let below : c.args.n < 256 = omega arith in
    let has :
    has_frame (frames_in c.self.inside.small c.self.inside.buffer.items c.self.inside.there c.self.inside.lengths) c.args.n ≡ true =
    ap (λ store. has_frame store.frames c.args.n) c.self.view_is ∙ sym c.if-not-has.ensures.has in
    rw (c.frame_at-place.ensures, c.deref.ensures.value)
    (place_holds c.self.inside.small c.self.inside.buffer.items c.args.n _ below (there_taken _ _ _ _ c.args.n below c.self.invariant has)
    (c.self.invariant.short c.args.n))

pub returns-clause-data : goal.returns-clause-data
returns-clause-data c =
    let below : c.args.n < 256 = omega arith in
    let has :
    has_frame (frames_in c.self.inside.small c.self.inside.buffer.items c.self.inside.there c.self.inside.lengths) c.args.n ≡ true =
    ap (λ store. has_frame store.frames c.args.n) c.self.view_is ∙ sym c.if-not-has.ensures.has in
    rw (c.frame_at-place.ensures, c.deref.ensures.value, ← c.self.view_is)
    (frame_there c.self.inside.small c.self.inside.buffer.items c.self.inside.there c.self.inside.lengths c.args.n below c.self.invariant
    has)

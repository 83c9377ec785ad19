use Rattle.std.proofs.Common.{◌≡◌, ap, ◌∙◌, refl, drop, slice_get, Some, None, IfSome, IfNone}
use Rattle.hdlc.specs.DeframerState.{DeframerState}
use Rattle.hdlc.proofs.DeframerPartsLemmas.{state_same, contents_drop, next_content, content_if, nothing_waits, lent_some, lent_none}
use Rattle.hdlc.proofs.deframer.Deframer.next.Goals as goal

pub returns : goal.returns
returns c =
    let same = λ (v w : DeframerState) (e : v ≡ w). ap (λ (x : DeframerState). slice_get x.queue 0) e in
    let some : IfSome c.as_deref.result (λ content. slice_get c.args.self.now.queue 0 ≡ Some content.now) =
    lent_some c.self.inside.queue.items c.pop_front.new.self.items c.pop_front.result c.as_deref.result _ c.pop_front.ensures.items
    c.as_deref.ensures.value (same _ _ c.self.view_is) in
    let none : IfNone c.as_deref.result (slice_get c.args.self.now.queue 0 ≡ None) =
    lent_none c.self.inside.queue.items c.pop_front.new.self.items c.pop_front.result c.as_deref.result _ c.pop_front.ensures.items
    c.pop_front.ensures.rest c.as_deref.ensures.value (same _ _ c.self.view_is) in (
      (
        refl,
        λ _. tt,
        state_same _ _ (ap (λ (v : DeframerState). v.kept) c.self.view_is)
            (ap (λ (v : DeframerState). v.counts) c.self.view_is) (contents_drop _ _ c.pop_front.ensures.rest
            ∙ ap (λ (v : DeframerState). drop 1 v.queue) c.self.view_is),
      ),
      record {
        after = tt;
        some = some;
        none = none;
        content =
            λ bits handed old. content_if c.as_deref.result _ _ some (next_content c.args.self.now bits handed old);
        end =
            λ bits handed old. nothing_waits c.args.self.now bits handed c.as_deref.result old none;
      },
    )

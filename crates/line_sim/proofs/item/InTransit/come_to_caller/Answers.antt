-- An item that comes to the caller is heard as what it says, and the deframer is idle after it.
use Rattle.std.proofs.Common.{◌≡◌, drop, rules, subst}
use Rattle.std.proofs.lemmas.Bool.{iff_false}
use Rattle.signals.specs.Signals.{PlainSignal, plain}
use Rattle.stations.specs.CallerFields.{AnswersOrRefuses}
use Rattle.stations.specs.CallerStep.{caller_step}
use Rattle.stations.specs.Inputs.{hears}
use Rattle.line_sim.specs.Octets.{signal_said}
use Rattle.line_sim.proofs.Items.{hears_it, none_heard, plain_same, signal_heard}
use Rattle.line_sim.proofs.item.InTransit.come_to_caller.Goals as goal

pub returns-clause-idle : goal.returns-clause-idle
returns-clause-idle g c =
    let h =
    hears_it g.S.Sender.sends c.self.inside.kind c.self.inside.octets.items c.args.deframer.now c.feed.new.self c.frame_octets_grow.ensures
    c.frame_is_heard.ensures c.reads_what_is_written.ensures (iff_false c.is_check.ensures c.if-is_check.false) c.self.invariant.0
    c.requires (λ bits handed h. rw (← c.deref.ensures.value) (c.in_ok-feed.ensures.ok bits handed h)) in
    let rest : c.next.follows.lender-at-none ≡ record c.feed.new.self { queue = drop 1 c.feed.new.self.queue } = search rules in
    rw rest h.idle

pub returns-clause-heard : goal.returns-clause-heard
returns-clause-heard g c =
    let h =
    hears_it g.S.Sender.sends c.self.inside.kind c.self.inside.octets.items c.args.deframer.now c.feed.new.self c.frame_octets_grow.ensures
    c.frame_is_heard.ensures c.reads_what_is_written.ensures (iff_false c.is_check.ensures c.if-is_check.false) c.self.invariant.0
    c.requires (λ bits handed h. rw (← c.deref.ensures.value) (c.in_ok-feed.ensures.ok bits handed h)) in
    let said : plain c.in-Some.signal ≡ signal_said c.self.inside.octets.items = plain_same _ _ _ c.in-Some.is
    (signal_heard _ h.content c.next.result _ _ h.waits h.reads c.next.ensures.some c.next.ensures.none c.signal_in.ensures.said) in
    rw (← c.self.view_is, h.is)
    (subst (λ (signal : PlainSignal). AnswersOrRefuses c.args.caller.now c.step.new.self c.step.result (λ t. caller_step t (hears signal)))
    said c.step.ensures.answers)

pub returns-in_default-clause-idle : goal.returns-in_default-clause-idle
returns-in_default-clause-idle g c =
    let h =
    hears_it g.S.Sender.sends c.self.inside.kind c.self.inside.octets.items c.args.deframer.now c.feed.new.self c.frame_octets_grow.ensures
    c.frame_is_heard.ensures c.reads_what_is_written.ensures (iff_false c.is_check.ensures c.if-is_check.false) c.self.invariant.0
    c.requires (λ bits handed h. rw (← c.deref.ensures.value) (c.in_ok-feed.ensures.ok bits handed h)) in
    let rest : c.next.follows.lender-at-none ≡ record c.feed.new.self { queue = drop 1 c.feed.new.self.queue } = search rules in
    rw rest h.idle

pub returns-in_default-clause-heard : goal.returns-in_default-clause-heard
returns-in_default-clause-heard g c =
    let h =
    hears_it g.S.Sender.sends c.self.inside.kind c.self.inside.octets.items c.args.deframer.now c.feed.new.self c.frame_octets_grow.ensures
    c.frame_is_heard.ensures c.reads_what_is_written.ensures (iff_false c.is_check.ensures c.if-is_check.false) c.self.invariant.0
    c.requires (λ bits handed h. rw (← c.deref.ensures.value) (c.in_ok-feed.ensures.ok bits handed h)) in
    absurd (none_heard c.signal_in.result _ c.in_default.is
    (signal_heard _ h.content c.next.result _ _ h.waits h.reads c.next.ensures.some c.next.ensures.none c.signal_in.ensures.said))

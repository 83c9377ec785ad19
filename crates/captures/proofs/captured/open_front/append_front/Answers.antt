-- What the check asks of `append_front`.
use Rattle.std.proofs.Common.{◌≡◌, ◌≤◌, arith, sym}
use Rattle.captures.proofs.CapturedSteps.{front_all, front_more, front_none, front_to, none_below, there_more}
use Rattle.captures.proofs.captured.open_front.append_front.Goals as goal

pub returns-in_default-clause-front : goal.returns-in_default-clause-front
returns-in_default-clause-front c =
    let few : c.loop-number.number ≤ 256 = omega arith in
    front_to c.args.frames.now.frames c.loop-number.number c.args.octets.now.items c.loop-number.octets.items few
    c.loop-number.invariant.there (sym c.in_default.ensures.data) c.loop-number.invariant.joined

pub returns-clause-front : goal.returns-clause-front
returns-clause-front c =
    let all : c.loop-number.number ≡ 256 = omega arith in
    front_all c.args.frames.now.frames c.loop-number.number c.args.octets.now.items c.loop-number.octets.items all
    c.loop-number.invariant.there c.loop-number.invariant.joined

pub loop-number-init : goal.loop-number-init
loop-number-init c = record {
  joined = front_none c.args.frames.now.frames c.args.octets.now.items;
  there = none_below c.args.frames.now.frames;
}

pub loop-number-preserved : goal.loop-number-preserved
loop-number-preserved c = record {
  joined = front_more c.args.frames.now.frames c.loop-number.number c.args.octets.now.items c.loop-number.octets.items
      c.extend_from_slice.new.self.items c.in-Some.data.now c.loop-number.invariant.joined (sym c.in-Some.ensures.data)
      c.in_ok-extend_from_slice.ensures.items;
  there = there_more c.args.frames.now.frames c.loop-number.number c.in-Some.data.now c.loop-number.invariant.there
      (sym c.in-Some.ensures.data);
}

-- What the check asks of `read_log`.
use Rattle.std.proofs.Common.{rules, arith, [], map, ◌≤◌, ◌+◌, ◌<◌, length}
use Rattle.call_logs.specs.Logs.{pieces, plain_frame}
use Rattle.call_logs.proofs.Frames.{last_taken, line_refused, line_taken}
use Rattle.call_logs.proofs.log.read_log.Goals as goal

pub returns-then-not-branch : goal.returns-then-not-branch
returns-then-not-branch c =
    line_refused (map plain_frame c.loop-line.frames.items) (map plain_frame c.add_line.new.frames.items) c.loop-line.before c.args.octets.now
    c.loop-line.rest.now c.in-Some.line.now (pieces 10 c.in-Some.after.now) c.in_ok-add_line.field-0 c.loop-line.invariant.left
    c.in-Some.ensures.pieces c.in_ok-add_line.ensures (search rules)

pub loop-line-preserved : goal.loop-line-preserved
loop-line-preserved c =
    let few : c.loop-line.before + length c.loop-line.rest.now ≤ length c.args.octets.now = c.loop-line.invariant.few in
    let shorter : length c.in-Some.after.now < length c.loop-line.rest.now = c.in-Some.ensures.shorter in
    record {
      left = line_taken (map plain_frame c.loop-line.frames.items) (map plain_frame c.add_line.new.frames.items) c.loop-line.before c.args.octets.now
          c.loop-line.rest.now c.in-Some.line.now (pieces 10 c.in-Some.after.now) c.in_ok-add_line.field-0 c.loop-line.invariant.left
          c.in-Some.ensures.pieces c.in_ok-add_line.ensures (search rules);
      few = omega (arith, few, shorter);
    }

pub returns-then-not-branch-2 : goal.returns-then-not-branch-2
returns-then-not-branch-2 c =
    line_refused (map plain_frame c.loop-line.frames.items) (map plain_frame c.add_line-2.new.frames.items) c.loop-line.before c.args.octets.now
    c.loop-line.rest.now c.loop-line.rest.now [] c.in_ok-add_line-2.field-0 c.loop-line.invariant.left c.in_default.ensures.pieces
    c.in_ok-add_line-2.ensures (search rules)

pub returns : goal.returns
returns c =
    last_taken (map plain_frame c.loop-line.frames.items) (map plain_frame c.add_line-2.new.frames.items) c.loop-line.before c.args.octets.now
    c.loop-line.rest.now c.in_ok-add_line-2.field-0 c.loop-line.invariant.left c.in_default.ensures.pieces
    c.in_ok-add_line-2.ensures (search rules)

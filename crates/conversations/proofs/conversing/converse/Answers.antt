-- What the check asks of `converse`.
use Rattle.std.proofs.Common.{◌≡◌, [], true, false, inl, inr, refl, rules}
use Rattle.std.specs.Prelude.{Ok, Err, is_none}
use Rattle.conversations.specs.declared.reading.ReadFault.TheVariants.{NoMemory}
use Rattle.conversations.proofs.TalkedLines.{followed_so, follows_more, one_more, stopped, unread, unread_so}
use Rattle.conversations.proofs.conversing.converse.Goals as goal
use Rattle.conversations.specs.Conversing.{talk_state}
use Rattle.conversations.specs.Reading.{TakesLine, TakesNext, TakesPart, TakesTooMany}

pub loop-number-init : goal.loop-number-init
loop-number-init g c = (record { lines = []; answered = refl; count = refl }, record { lines = []; followed = (refl, refl) })

pub returns-in-Ok-clause-ends : goal.returns-in-Ok-clause-ends
returns-in-Ok-clause-ends g c =
    let none : TakesNext (g.R.Read.remaining c.loop-number.reader) (g.R.Read.remaining c.next_line.new.reader) c.next_line.new.line.items
    (Ok false) = search rules in
    record {
      lines = c.loop-number.invariant.1.lines;
      mid =
          talk_state (g.R.Read.remaining c.loop-number.reader) c.loop-number.conversation c.loop-number.keeper
          (g.W.Write.contents c.loop-number.writer);
      noted = c.loop-number.follower;
      answered = c.loop-number.invariant.1.followed;
      ends = (record { no_more = none.0; at_end = none.1; lost = c.in-Ok.ensures.lost; keeper = refl; output = refl }, refl);
    }

pub returns-in-Some-clause-ends : goal.returns-in-Some-clause-ends
returns-in-Some-clause-ends g c =
    let read : TakesLine (g.R.Read.remaining c.loop-number.reader) (g.R.Read.remaining c.next_line.new.reader) c.deref.result.now =
    search rules in
    let refused : is_none c.in-Ok-answer.answered.unkept ≡ false = search rules in
    record {
      lines = c.loop-number.invariant.1.lines;
      mid =
          talk_state (g.R.Read.remaining c.loop-number.reader) c.loop-number.conversation c.loop-number.keeper
          (g.W.Write.contents c.loop-number.writer);
      noted = c.loop-number.follower;
      answered = c.loop-number.invariant.1.followed;
      ends = (
        c.deref.result.now,
        c.in-Ok-answer.answered.over,
        followed_so _ _ _ _ _ (is_none c.in-Ok-answer.answered.unkept) false c.in-Ok-answer.answered.over c.in-Ok-answer.answered.over _ _
            read c.in-Ok-answer.ensures.ok refused refl,
      );
    }

pub returns-then-answered-clause-ends : goal.returns-then-answered-clause-ends
returns-then-answered-clause-ends g c =
    let read : TakesLine (g.R.Read.remaining c.loop-number.reader) (g.R.Read.remaining c.next_line.new.reader) c.deref.result.now =
    search rules in
    let kept : is_none c.in-Ok-answer.answered.unkept ≡ true = search rules in
    record {
      lines = c.loop-number.invariant.1.lines;
      mid =
          talk_state (g.R.Read.remaining c.loop-number.reader) c.loop-number.conversation c.loop-number.keeper
          (g.W.Write.contents c.loop-number.writer);
      noted = c.loop-number.follower;
      answered = c.loop-number.invariant.1.followed;
      ends = (
        c.deref.result.now,
        followed_so _ _ _ _ _ (is_none c.in-Ok-answer.answered.unkept) true c.in-Ok-answer.answered.over true _ _ read
            c.in-Ok-answer.ensures.ok kept c.if-answered.true,
      );
    }

pub returns-in-Err-TooLong-clause-stops : goal.returns-in-Err-TooLong-clause-stops
returns-in-Err-TooLong-clause-stops g c =
    let many : TakesTooMany (g.R.Read.remaining c.loop-number.reader) (g.R.Read.remaining c.next_line.new.reader)
    c.next_line.new.line.items = search rules in
    record {
      lines = c.loop-number.invariant.0.lines;
      last =
          talk_state (g.R.Read.remaining c.loop-number.reader) c.loop-number.conversation c.loop-number.keeper
          (g.W.Write.contents c.loop-number.writer);
      answered = c.loop-number.invariant.0.answered;
      count = c.loop-number.invariant.0.count;
      refused = record { line = c.next_line.new.line.items; refused = inl many; rest = refl };
    }

pub returns-in-Err-Failed-clause-stops : goal.returns-in-Err-Failed-clause-stops
returns-in-Err-Failed-clause-stops g c =
    let part : TakesPart (g.R.Read.remaining c.loop-number.reader) (g.R.Read.remaining c.next_line.new.reader)
    c.next_line.new.line.items = search rules in
    unread _ _ (g.R.Read.remaining c.loop-number.reader) (g.R.Read.remaining c.next_line.new.reader)
    (g.W.Write.contents c.loop-number.writer) c.loop-number.conversation c.loop-number.keeper c.loop-number.number
    c.next_line.new.line.items c.loop-number.invariant.0 part

pub returns-in-Err-answer-clause-stops : goal.returns-in-Err-answer-clause-stops
returns-in-Err-answer-clause-stops g c =
    let read : TakesLine (g.R.Read.remaining c.loop-number.reader) (g.R.Read.remaining c.next_line.new.reader) c.deref.result.now =
    search rules in
    rw c.unanswered.ensures
    (stopped _ _ (g.R.Read.remaining c.loop-number.reader) (g.R.Read.remaining c.next_line.new.reader) c.loop-number.conversation
    c.answer.new.conversation c.loop-number.keeper c.answer.new.keeper c.loop-number.writer c.answer.new.writer g.W.Write.contents
    c.loop-number.number c.deref.result.now c.in-Err-answer.fault c.loop-number.invariant.0 read c.in-Err-answer.ensures.none
    c.in-Err-answer.ensures.unchanged)

pub loop-number-preserved : goal.loop-number-preserved
loop-number-preserved g c =
    let read : TakesLine (g.R.Read.remaining c.loop-number.reader) (g.R.Read.remaining c.next_line.new.reader) c.deref.result.now =
    search rules in
    let kept : is_none c.in-Ok-answer.answered.unkept ≡ true = search rules in (
      one_more _ _ _ _ c.loop-number.number c.deref.result.now (is_none c.in-Ok-answer.answered.unkept) c.in-Ok-answer.answered.over
          c.loop-number.invariant.0 (record { read = read; answered = c.in-Ok-answer.ensures.ok.0 }) kept c.if-answered.false,
      follows_more _ _ _ _ _ c.deref.result.now _ _ _ c.loop-number.invariant.1
          (followed_so _ _ _ _ _ (is_none c.in-Ok-answer.answered.unkept) true c.in-Ok-answer.answered.over false _ _ read
          c.in-Ok-answer.ensures.ok kept c.if-answered.false),
    )

pub returns-in-Err-clause-stops : goal.returns-in-Err-clause-stops
returns-in-Err-clause-stops g c = inr (inl (record {
  lines = c.loop-number.invariant.0.lines;
  last =
      talk_state (g.R.Read.remaining c.loop-number.reader) c.loop-number.conversation c.loop-number.keeper
      (g.W.Write.contents c.loop-number.writer);
  answered = c.loop-number.invariant.0.answered;
  refused = c.in-Err.ensures.refused;
  keeper = refl;
  output = refl;
}))

pub returns-in-Err-NoMemory-clause-stops : goal.returns-in-Err-NoMemory-clause-stops
returns-in-Err-NoMemory-clause-stops g c =
    let part : TakesNext (g.R.Read.remaining c.loop-number.reader) (g.R.Read.remaining c.next_line.new.reader)
    c.next_line.new.line.items (Err NoMemory) = search rules in
    inl (unread_so _ _ (g.R.Read.remaining c.loop-number.reader) (g.R.Read.remaining c.next_line.new.reader)
    (g.W.Write.contents c.loop-number.writer) c.loop-number.conversation c.loop-number.keeper c.loop-number.number
    c.next_line.new.line.items c.loop-number.invariant.0 part)

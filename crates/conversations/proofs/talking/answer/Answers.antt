-- What the check asks of `answer`.
use Rattle.std.proofs.Common.{[], append-nil, inl, inr, refl, rules, subst, sym}
use Rattle.std.proofs.lemmas.Result.{err_from_is_err_and}
use Rattle.std.specs.Prelude.{is_none}
use Rattle.conversations.proofs.TalkedLines.{broken_late}
use Rattle.conversations.proofs.talking.answer.Goals as goal
use Rattle.conversations.specs.Conversations.{SawLine, behaviour}
use Rattle.conversations.specs.Talking.{keeping}
use Rattle.conversations.specs.Writing.{AppendsPart}

pub returns-clause-ok : goal.returns-clause-ok
returns-clause-ok g c = (
  record {
    timed = c.in-Ok.timed;
    heard = c.take_by-taken.new.self;
    ready = c.keep-unkept.new.conversation;
    late = c.comes_late-late.result;
    left = c.withhold.new.conversation;
    told = g.W.Write.contents c.write_octets.new.writer;
    says = search rules;
    can_come = search rules;
    takes = search rules;
    keeps_so =
        subst (λ v. g.K.Keeper.keeps c.args.keeper.now v c.in-Ok.timed.said c.keep-unkept.new.self c.keep-unkept.new.conversation (is_none c.keep-unkept.result))
        c.refuse.ensures c.keep-unkept.ensures;
    tells = search rules;
    withholds = search rules;
    writes = c.in_ok-over.ensures.ok.0;
  },
  record {
    come = c.begin_line.new.self;
    heard = c.end_line.new.self;
    asked = c.comes_late-late.new.follower;
    some = c.comes_late-late.ensures.0;
    given = c.in_ok-over.ensures.ok.1;
    notes = search rules;
    sees =
        subst (λ (v : g.row.F.Denot). SawLine _ _ (behaviour g.S.Station.sends g.S.Station.steps g.S.Station.lends g.S.Stoppable.shows
        g.S.Stoppable.cut_off g.S.Stoppable.stop_says) g.F.Watch.saw c.args.conversation.now c.in-Ok.timed c.begin_line.new.self v)
        (sym c.end_line.ensures) c.in-Ok-taken.ensures.sees;
    has_burst = c.comes_late-late.ensures.1;
    judges = c.comes_late-late.ensures.2;
    says = c.in_ok-over.ensures.ok.2;
  },
)

pub returns-in_err-write_octets-clause-none : goal.returns-in_err-write_octets-clause-none
returns-in_err-write_octets-clause-none g c =
    let p = err_from_is_err_and c.from_residual.result c.from_residual.ensures.1 in
    rw (p.1, p.2) (inr (record {
      timed = c.in-Ok.timed;
      heard = c.take_by-taken.new.self;
      ready = c.keep-unkept.new.conversation;
      kept = is_none c.keep-unkept.result;
      says = search rules;
      can_come = search rules;
      takes = search rules;
      keeps_so =
          subst (λ v. g.K.Keeper.keeps c.args.keeper.now v c.in-Ok.timed.said c.keep-unkept.new.self c.keep-unkept.new.conversation (is_none c.keep-unkept.result))
          c.refuse.ensures c.keep-unkept.ensures;
      writes = inl (subst (AppendsPart _ _) c.told.ensures c.in_err-write_octets.ensures, ([], refl));
    }))

pub returns-in_err-withhold-clause-none : goal.returns-in_err-withhold-clause-none
returns-in_err-withhold-clause-none g c =
    let p = err_from_is_err_and c.from_residual-in_err-withhold.result c.from_residual-in_err-withhold.ensures.1 in
    rw (p.1, p.2) (inr (record {
      timed = c.in-Ok.timed;
      heard = c.take_by-taken.new.self;
      ready = c.keep-unkept.new.conversation;
      kept = is_none c.keep-unkept.result;
      says = search rules;
      can_come = search rules;
      takes = search rules;
      keeps_so =
          subst (λ v. g.K.Keeper.keeps c.args.keeper.now v c.in-Ok.timed.said c.keep-unkept.new.self c.keep-unkept.new.conversation (is_none c.keep-unkept.result))
          c.refuse.ensures c.keep-unkept.ensures;
      writes = inl ((_, [], sym (append-nil _), search rules), c.in_err-withhold.ensures.err);
    }))

pub returns-in_err-over-clause-none : goal.returns-in_err-over-clause-none
returns-in_err-over-clause-none g c =
    let p = err_from_is_err_and c.from_residual-in_err-over.result c.from_residual-in_err-over.ensures.1 in
    rw (p.1, p.2) (broken_late
    (behaviour g.S.Station.sends g.S.Station.steps g.S.Station.lends g.S.Stoppable.shows g.S.Stoppable.cut_off g.S.Stoppable.stop_says)
    (keeping g.K.Keeper.keeps g.K.Keeper.takes g.K.Keeper.tells) g.S.Station.lends c.args.line.now c.args.conversation.now _ c.args.keeper.now
    c.keep-unkept.new.self _ _ c.in_err-over.field-0.0 c.in_err-over.ensures.late (record {
      timed = c.in-Ok.timed;
      heard = c.take_by-taken.new.self;
      ready = c.keep-unkept.new.conversation;
      kept = is_none c.keep-unkept.result;
      says = search rules;
      can_come = search rules;
      takes = search rules;
      keeps_so =
          subst (λ v. g.K.Keeper.keeps c.args.keeper.now v c.in-Ok.timed.said c.keep-unkept.new.self c.keep-unkept.new.conversation (is_none c.keep-unkept.result))
          c.refuse.ensures c.keep-unkept.ensures;
      writes = inr (record {
        late = c.comes_late-late.result;
        left = c.withhold.new.conversation;
        told = g.W.Write.contents c.write_octets.new.writer;
        tells = search rules;
        withholds = search rules;
        writes = c.in_err-over.ensures.part;
      });
    }))

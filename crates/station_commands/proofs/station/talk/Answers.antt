-- What the check asks of `talk`.
use Rattle.std.proofs.Common.{◌≡◌, ℕ, add-one, ap, arith, inl, inr, refl, rules, subst, sym}
use Rattle.std.proofs.lemmas.Result.{err_from_is_err_and}
use Rattle.station_commands.specs.Stations.{as_outside}
use Rattle.station_commands.specs.Talks.{AfterLosses}
use Rattle.conversations.specs.Conversations.{behaviour}
use Rattle.conversations.specs.Conversing.{talker}
use Rattle.conversations.specs.Talking.{keeping}
use Rattle.conversations.specs.declared.conversing.ConverseFault.TheVariants.{NoMemory}
use Rattle.faults.specs.declared.fault.ToolFault.TheVariants.{No}
use Rattle.station_commands.proofs.TalkLemmas.{led, noted_to, stopped}
use Rattle.station_commands.proofs.station.talk.Goals as goal
use Rattle.station_commands.specs.declared.station.Halted.TheVariants.{Fault}

pub loop-lost-init : goal.loop-lost-init
loop-lost-init g c = ((refl, refl), λ none. refl)

pub returns-in_err-input-clause-talks : goal.returns-in_err-input-clause-talks
returns-in_err-input-clause-talks g c =
    let p = err_from_is_err_and c.from_residual.result c.from_residual.ensures.1 in
    rw p.1 (
      record {
        lost = 0;
        mid = c.args.conversation.now;
        held = c.args.keeper.now;
        before = (refl, refl);
        ends = inr (inr (refl, refl, inl (refl, p.2.0)));
      },
      tt,
    )

pub returns-in-Ok-Over : goal.returns-in-Ok-Over
returns-in-Ok-Over g c = record {
  halted = tt;
  talks = (
    record {
      lost = c.loop-lost._lost;
      mid = c.loop-lost.conversation;
      held = c.loop-lost.keeper;
      before = c.loop-lost.invariant.0;
      ends = inl (led _ _ _ _ _ _ _ _ _ _ _ _ _ c.in-Ok-Over.field-0-is c.in-Ok-Over.ensures.ends);
    },
    λ none.
        inl (noted_to _ c.loop-lost._lost _ _ _ _ _ _ _ _ _ _ _ _ _ _ _ c.loop-lost.invariant.0 c.loop-lost.invariant.1 c.in-Ok-Over.field-0-is
        c.in-Ok-Over.ensures.ends none),
  );
}

pub returns-in-Ok-Lost : goal.returns-in-Ok-Lost
returns-in-Ok-Lost g c = record {
  halted = tt;
  talks = (
    record {
      lost = c.loop-lost._lost;
      mid = c.loop-lost.conversation;
      held = c.loop-lost.keeper;
      before = c.loop-lost.invariant.0;
      ends = inr (led _ _ _ _ _ _ _ _ _ _ _ _ _ c.in-Ok-Lost.field-0-is c.in-Ok-Lost.ensures.ends);
    },
    λ none.
        inr (noted_to _ c.loop-lost._lost _ _ _ _ _ _ _ _ _ _ _ _ _ _ _ c.loop-lost.invariant.0 c.loop-lost.invariant.1 c.in-Ok-Lost.field-0-is
        c.in-Ok-Lost.ensures.ends none),
  );
}

pub returns-in-Ok-Unkept-clause-talks : goal.returns-in-Ok-Unkept-clause-talks
returns-in-Ok-Unkept-clause-talks g c =
    let same : c.outside.result ≡ as_outside c.in-Ok-Unkept.fault = search rules in (
      record {
        lost = c.loop-lost._lost;
        mid = c.loop-lost.conversation;
        held = c.loop-lost.keeper;
        before = c.loop-lost.invariant.0;
        ends = inl (
          c.in-Ok-Unkept.fault,
          led _ _ _ _ _ _ _ _ _ _ _ _ _ c.in-Ok-Unkept.field-0-is c.in-Ok-Unkept.ensures.ends,
          ap Fault same,
        );
      },
      tt,
    )

pub returns-in-Err : goal.returns-in-Err
returns-in-Err g c = record {
  halted = c.halted_by.ensures.halt;
  talks = (
    record {
      lost = c.loop-lost._lost;
      mid = c.loop-lost.conversation;
      held = c.loop-lost.keeper;
      before = c.loop-lost.invariant.0;
      ends = inr (inl (c.in-Err.fault, stopped _ _ _ _ _ _ _ _ _ _ _ refl c.in-Err.ensures.stops, c.halted_by.ensures.by));
    },
    tt,
  );
}

pub returns-in_err-skip_line-clause-talks : goal.returns-in_err-skip_line-clause-talks
returns-in_err-skip_line-clause-talks g c =
    let p = err_from_is_err_and c.from_residual-in_err-skip_line.result c.from_residual-in_err-skip_line.ensures.1 in
    rw p.1 (
      record {
        lost = c.loop-lost._lost;
        mid = c.loop-lost.conversation;
        held = c.loop-lost.keeper;
        before = c.loop-lost.invariant.0;
        ends = inr (inl (NoMemory, stopped _ _ _ _ _ _ _ _ _ _ _ c.in-Err-NoMemory.field-0-is c.in-Err-NoMemory.ensures.stops, p.2.0));
      },
      tt,
    )

pub returns-then-not-branch-clause-talks : goal.returns-then-not-branch-clause-talks
returns-then-not-branch-clause-talks g c = (
  record {
    lost = c.loop-lost._lost;
    mid = c.loop-lost.conversation;
    held = c.loop-lost.keeper;
    before = c.loop-lost.invariant.0;
    ends = inr (inl (
      NoMemory,
      stopped _ _ _ _ _ _ _ _ _ _ _ c.in-Err-NoMemory.field-0-is c.in-Err-NoMemory.ensures.stops,
      (No 9, refl, inr refl),
    ));
  },
  tt,
)

pub returns-in_err-write_all-clause-talks : goal.returns-in_err-write_all-clause-talks
returns-in_err-write_all-clause-talks g c =
    let p = err_from_is_err_and c.from_residual-in_err-write_all.result c.from_residual-in_err-write_all.ensures.1 in
    rw p.1 (
      record {
        lost = c.loop-lost._lost;
        mid = c.loop-lost.conversation;
        held = c.loop-lost.keeper;
        before = c.loop-lost.invariant.0;
        ends = inr (inl (NoMemory, stopped _ _ _ _ _ _ _ _ _ _ _ c.in-Err-NoMemory.field-0-is c.in-Err-NoMemory.ensures.stops, p.2.0));
      },
      tt,
    )

pub returns-in_err-flush-clause-talks : goal.returns-in_err-flush-clause-talks
returns-in_err-flush-clause-talks g c =
    let p = err_from_is_err_and c.from_residual-in_err-flush.result c.from_residual-in_err-flush.ensures.1 in
    rw p.1 (
      record {
        lost = c.loop-lost._lost;
        mid = c.loop-lost.conversation;
        held = c.loop-lost.keeper;
        before = c.loop-lost.invariant.0;
        ends = inr (inl (NoMemory, stopped _ _ _ _ _ _ _ _ _ _ _ c.in-Err-NoMemory.field-0-is c.in-Err-NoMemory.ensures.stops, p.2.0));
      },
      tt,
    )

pub loop-lost-preserved : goal.loop-lost-preserved
loop-lost-preserved g c = (
  subst (λ (n : ℕ). AfterLosses (talker (behaviour g.S.Station.sends g.S.Station.steps g.S.Station.lends g.S.Stoppable.shows g.S.Stoppable.cut_off
      g.S.Stoppable.stop_says) (keeping g.K.Keeper.keeps g.K.Keeper.takes g.K.Keeper.tells) g.S.Station.lends) n
      c.args.conversation.now c.args.keeper.now c.converse.new.conversation c.converse.new.keeper) (sym (add-one c.loop-lost._lost)) (
        c.loop-lost.conversation,
        c.loop-lost.keeper,
        c.loop-lost.invariant.0,
        stopped _ _ _ _ _ _ _ _ _ _ _ c.in-Err-NoMemory.field-0-is c.in-Err-NoMemory.ensures.stops,
      ),
  λ none. absurd (omega (arith, none)),
)

pub returns-clause-talks : goal.returns-clause-talks
returns-clause-talks g c = (
  record {
    lost = c.loop-lost._lost;
    mid = c.loop-lost.conversation;
    held = c.loop-lost.keeper;
    before = c.loop-lost.invariant.0;
    ends = inr (inr (refl, refl, inr (search rules, refl)));
  },
  tt,
)

use Rattle.referee.specs.declared.rule.Rule.{Rule}
use Rattle.referee.specs.declared.rule.Rule.TheVariants as rule
use Rattle.judged_calls.proofs.NoneBroken.{none_broken, of_all, of_pages}
use Rattle.judged_calls.proofs.laws.no_rule_is_broken.Goals as goal
use Rattle.judged_calls.specs.SaidCalls.{RuleIsKeptWithMemory}

pub returns : goal.returns
returns c = none_broken all
  where
    all : (r : Rule) → RuleIsKeptWithMemory r
    all rule.WrongSide = of_all rule.WrongSide c.own_signals.ensures
    all rule.Ended = of_all rule.Ended c.silent_after_dcn.ensures
    all rule.NotOffered = of_all rule.NotOffered c.offers_are_met.ensures
    all rule.NotTrained = of_pages rule.NotTrained c.answers_have_commands.ensures.training
    all rule.NoBurst = of_pages rule.NoBurst c.bursts_are_let.ensures.begin
    all rule.BadLength = of_pages rule.BadLength c.frames_have_lengths.ensures
    all rule.OutOfOrder = of_pages rule.OutOfOrder c.bursts_are_let.ensures.order
    all rule.NotAskedFor = of_pages rule.NotAskedFor c.frames_are_asked_for.ensures
    all rule.NewData = of_all rule.NewData c.data_stay.ensures
    all rule.RcpCount = c.bursts_are_whole.ensures.rcps
    all rule.Uncounted = c.blocks_are_counted.ensures.unsent
    all rule.WrongCount = c.blocks_are_counted.ensures.all
    all rule.NotSentAgain = c.bursts_are_whole.ensures.frames
    all rule.NotRepeated = c.blocks_are_counted.ensures.again
    all rule.WrongCounts = c.counts_go_on.ensures
    all rule.NoCommand = of_pages rule.NoCommand c.answers_have_commands.ensures.blocks
    all rule.NotWhole = of_pages rule.NotWhole c.mcfs_are_whole.ensures
    all rule.NotCome = of_pages rule.NotCome c.frames_come.ensures
    all rule.AsksAgain = c.frames_stay_told.ensures
    all rule.AsksNothing = of_pages rule.AsksNothing c.pprs_ask.ensures.something
    all rule.BadMap = of_pages rule.BadMap c.pprs_ask.ensures.beyond
    all rule.NotBusy = of_pages rule.NotBusy c.busy_are_asked.ensures

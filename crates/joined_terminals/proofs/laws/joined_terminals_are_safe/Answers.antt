use Rattle.joined_terminals.proofs.Safe.{joined_are_safe}
use Rattle.joined_terminals.proofs.laws.joined_terminals_are_safe.Goals as goal

pub returns : goal.returns
returns c =
    joined_are_safe (c.layers_hold.ensures, c.signals_hold.ensures) c.headline.ensures.facts c.headline.ensures.safe c.bursts_cut.ensures.items
    (record { front = c.taken_and_there.ensures.steps; before = c.busy_before.ensures; keeps = c.answerers_keep.ensures.keep })

use Rattle.joined_terminals.proofs.BurstPieces.{bursts_are_pieces, sending_sends}
use Rattle.joined_terminals.proofs.laws.bursts_are_pieces.Goals as goal

pub returns-clause-pieces : goal.returns-clause-pieces
returns-clause-pieces c = bursts_are_pieces c.bursts_cut.ensures.turns

pub returns-clause-sends : goal.returns-clause-sends
returns-clause-sends c = sending_sends

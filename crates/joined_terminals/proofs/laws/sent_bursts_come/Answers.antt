use Rattle.joined_terminals.proofs.Coming.{sent_bursts_come}
use Rattle.joined_terminals.proofs.laws.sent_bursts_come.Goals as goal

pub returns : goal.returns
returns c =
    sent_bursts_come c.bursts_are_heard.ensures c.bursts_are_pieces.ensures.pieces c.turns_are_sent_whole.ensures.caller
    c.turns_are_sent_whole.ensures.answerer c.bursts_cut.ensures.turns

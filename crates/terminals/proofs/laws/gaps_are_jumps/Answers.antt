use Rattle.terminals.proofs.Seen.{gap_is_first_jump, gaps_by_octets}
use Rattle.terminals.proofs.laws.gaps_are_jumps.Goals as goal

pub returns-clause-octets : goal.returns-clause-octets
returns-clause-octets c = gaps_by_octets

pub returns-clause-first : goal.returns-clause-first
returns-clause-first c = gap_is_first_jump

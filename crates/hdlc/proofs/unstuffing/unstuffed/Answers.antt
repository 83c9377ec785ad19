use Rattle.std.proofs.Common.{arith, refl}
use Rattle.hdlc.proofs.BitPlaces.{bits_of-one}
use Rattle.hdlc.proofs.CollectingOctets.{entry_parts}
use Rattle.hdlc.proofs.unstuffing.unstuffed.Goals as goal

pub returns-clause-number : goal.returns-clause-number
returns-clause-number c =
    rw (c.unstuffed_entries.ensures, bits_of-one c.args.octet)
    (entry_parts c.args.row c.args.octet 0 _ c.requires.whole c.requires.most (omega arith) refl).0

pub returns-clause-count : goal.returns-clause-count
returns-clause-count c =
    rw (c.from.ensures, c.unstuffed_entries.ensures, bits_of-one c.args.octet)
    (entry_parts c.args.row c.args.octet 0 _ c.requires.whole c.requires.most (omega arith) refl).1

pub returns-clause-row : goal.returns-clause-row
returns-clause-row c =
    rw (c.unstuffed_entries.ensures, bits_of-one c.args.octet)
    (entry_parts c.args.row c.args.octet 0 _ c.requires.whole c.requires.most (omega arith) refl).2

pub returns-clause-sixth : goal.returns-clause-sixth
returns-clause-sixth c =
    rw (c.unstuffed_entries.ensures, bits_of-one c.args.octet)
    (entry_parts c.args.row c.args.octet 0 _ c.requires.whole c.requires.most (omega arith) refl).3

use Rattle.std.proofs.Common.{arith}
use Rattle.hdlc.proofs.BitPlaces.{bits_of-one}
use Rattle.hdlc.proofs.WritingOctets.{table_entry}
use Rattle.hdlc.proofs.stuffing.stuffed.Goals as goal

pub returns : goal.returns
returns c =
    let entry = table_entry c.stuffed_numbers.result.now c.stuffed_lengths.result.now c.args.ones c.args.octet c.stuffed_numbers.ensures
    c.stuffed_lengths.ensures c.requires (omega arith) in
    rw (bits_of-one c.args.octet) (record { bits = entry.bits; below = entry.below; few = entry.few; ones = entry.ones })

use Rattle.std.proofs.Common.{◌%◌, ◌/◌, ◌<◌, ap, ◌∙◌, arith, get_or, bit_xor}
use lib.Bits.{xor_lt}
use Rattle.hdlc.proofs.CheckOctets.{entry_is, by_table}
use Rattle.hdlc.proofs.check_sequence.crc_octet.Goals as goal

pub returns : goal.returns
returns c =
    let small : bit_xor (c.args.register % 256) c.args.octet < 256 = xor_lt 8 (c.args.register % 256) c.args.octet (omega arith) (omega
    arith) in
    ap (bit_xor (c.args.register / 256)) (ap (λ t. get_or t (bit_xor (c.args.register % 256) c.args.octet) 0) c.remainders.ensures
    ∙ entry_is (bit_xor (c.args.register % 256) c.args.octet) 0 small)
    ∙ by_table c.args.register c.args.octet (omega arith)

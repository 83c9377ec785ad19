use Rattle.std.proofs.Common.{◌≡◌, ◌∙◌, ◌+◌, ◌*◌, ◌/◌, ◌%◌, arith, sym, subst}
use Rattle.hdlc.proofs.QuietOctets.{no_flag_left, no_flag_is, no_six, sixes}
use Rattle.hdlc.proofs.flag_finder.ends_no_flag.Goals as goal

pub returns-then-fours-pairs-eq0 : goal.returns-then-fours-pairs-eq0
returns-then-fours-pairs-eq0 c =
    let same : c.from.result * 256 + c.from-2.result ≡ c.args.octet * 256 + c.args.window = omega (
      arith,
      c.from.ensures,
      c.from-2.ensures,
    ) in
    let none : sixes (c.args.octet * 256 + c.args.window) / 4 % 256 ≡ 0 =
    subst (λ x. sixes x / 4 % 256 ≡ 0) same c.if-fours-pairs-eq0.true in
    sym (sym (no_flag_is c.args.window c.args.octet (omega arith) (omega arith)) ∙ no_six (c.args.octet * 256 + c.args.window) none)

pub returns : goal.returns
returns c =
    rw (c.from.ensures, c.from-2.ensures)
    (no_flag_left (c.args.octet * 256 + c.args.window) ∙ no_flag_is c.args.window c.args.octet (omega arith) (omega arith))

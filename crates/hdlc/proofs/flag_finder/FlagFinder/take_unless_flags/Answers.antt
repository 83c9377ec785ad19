use Rattle.std.proofs.Common.{◌∙◌, ap, sym, arith}
use Rattle.std.proofs.lemmas.List.{take_all}
use Rattle.hdlc.specs.EightBits.{end_no_flag}
use Rattle.hdlc.proofs.flag_finder.FlagFinder.take_unless_flags.Goals as goal

pub take_quiet-requires : goal.take_quiet-requires
take_quiet-requires c = record {
  whole = omega arith;
  quiet = ap (end_no_flag c.args.self.now.window) (sym (take_all c.quiet_front.result c.args.octets.now (omega arith)))
      ∙ c.quiet_front.ensures.quiet;
}

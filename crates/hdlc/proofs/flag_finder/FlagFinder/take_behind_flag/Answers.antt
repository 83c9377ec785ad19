use Rattle.std.proofs.Common.{◌≡◌, ◌∷◌, [], true, refl, sym, ◌∙◌, arith}
use Rattle.raster.specs.Packed.{bits_of}
use Rattle.raster.specs.declared.packed.Order.TheVariants.{LsbFirst}
use Rattle.hdlc.specs.EightBits.{ends_no_flag}
use Rattle.hdlc.specs.OpenGap.{unclosed}
use Rattle.hdlc.proofs.QuietOctets.{parts_quiet, cuts_few}
use Rattle.hdlc.proofs.flag_finder.FlagFinder.take_behind_flag.Goals as goal

pub returns-clause-taken : goal.returns-clause-taken
returns-clause-taken c e counts queue bits handed old =
    let calm : ends_no_flag c.args.self.now.window (bits_of LsbFirst (c.args.octet ∷ [])) ≡ true =
    sym c.ends_no_flag.ensures ∙ c.if-not-ends_no_flag.false in
    parts_quiet c.args.self.now _ counts queue bits (bits_of LsbFirst (c.args.octet ∷ [])) handed old calm
    (cuts_few c.args.self.now _ bits c.args.octet c.from.result (omega arith) old.cuts calm c.if-not-self.false (omega arith) c.from.ensures
    refl refl refl (c.push_from.ensures (unclosed bits) old.cuts.gap))

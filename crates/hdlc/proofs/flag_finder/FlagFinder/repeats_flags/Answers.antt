use Rattle.std.proofs.Common.{◌≡◌, ◌<◌, true, ap, ◌∙◌, arith, get_or}
use Rattle.std.proofs.lemmas.Bool.{eqb-true}
use Rattle.raster.proofs.OctetBits.{octet_bits}
use Rattle.hdlc.specs.EightBits.{repeated}
use Rattle.hdlc.proofs.BitPlaces.{bits_of-one}
use Rattle.hdlc.proofs.FlagRuns.{repeats, repeated_leads, flags_repeat}
use Rattle.hdlc.proofs.flag_finder.FlagFinder.repeats_flags.Goals as goal

pub returns : goal.returns
returns c e counts queue bits handed old =
    let few : c.args.self.now.held < 8 = omega arith in
    let is : c.args.self.now.window ≡ get_or repeated c.args.self.now.held 0 =
    eqb-true _ _ e ∙ ap (λ t. get_or t c.args.self.now.held 0) c.repeated.ensures in
    let leads : repeats c.args.self.now.held c.args.self.now.window ≡ true =
    ap (repeats c.args.self.now.held) is ∙ repeated_leads c.args.self.now.held 0 few in
    rw (bits_of-one c.args.self.now.window)
    (flags_repeat c.args.self.now counts queue bits (octet_bits c.args.self.now.window) handed old c.if-not-self.false few leads)

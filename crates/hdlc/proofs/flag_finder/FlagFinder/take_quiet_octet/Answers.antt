use Rattle.std.proofs.Common.{◌≡◌, ◌∷◌, [], true, refl, sym, ◌∙◌, arith}
use Rattle.raster.specs.Packed.{bits_of}
use Rattle.raster.specs.declared.packed.Order.TheVariants.{LsbFirst}
use Rattle.hdlc.specs.EightBits.{ends_no_flag}
use Rattle.hdlc.specs.OpenGap.{unclosed}
use Rattle.hdlc.proofs.BitPlaces.{octets-none}
use Rattle.hdlc.proofs.QuietOctets.{parts_quiet, none_if_not_full}
use Rattle.hdlc.proofs.QuietRuns.{Comes, no_flag_comes, after_full, after_empty, after_unbegun}
use Rattle.hdlc.proofs.flag_finder.FlagFinder.take_quiet_octet.Goals as goal

pub returns-then-self-eq8-clause-taken : goal.returns-then-self-eq8-clause-taken
returns-then-self-eq8-clause-taken c e counts queue bits handed old =
    let calm : ends_no_flag c.args.self.now.window (bits_of LsbFirst (c.args.octet ∷ [])) ≡ true =
    sym c.ends_no_flag.ensures ∙ c.if-not-ends_no_flag.false in
    let come : Comes c.args.self.now bits (c.args.octet ∷ []) = record { cuts = old.cuts; fit = (omega arith, tt); quiet = rw calm refl } in
    parts_quiet c.args.self.now _ counts queue bits (bits_of LsbFirst (c.args.octet ∷ [])) handed old
    (no_flag_comes c.args.self.now bits (c.args.octet ∷ []) come)
    (after_full c.args.self.now _ bits (c.args.octet ∷ []) 0 refl come refl refl c.if-self-eq8.true c.if-self-eq8.true
    (c.push_octet.ensures (unclosed bits) old.cuts.gap))

pub returns-then-not-self-clause-taken : goal.returns-then-not-self-clause-taken
returns-then-not-self-clause-taken c e counts queue bits handed old =
    let calm : ends_no_flag c.args.self.now.window (bits_of LsbFirst (c.args.octet ∷ [])) ≡ true =
    sym c.ends_no_flag.ensures ∙ c.if-not-ends_no_flag.false in
    let come : Comes c.args.self.now bits (c.args.octet ∷ []) = record { cuts = old.cuts; fit = (omega arith, tt); quiet = rw calm refl } in
    parts_quiet c.args.self.now _ counts queue bits (bits_of LsbFirst (c.args.octet ∷ [])) handed old
    (no_flag_comes c.args.self.now bits (c.args.octet ∷ []) come)
    (after_unbegun c.args.self.now _ bits (c.args.octet ∷ []) 0 refl come refl refl c.if-not-self.true refl refl)

pub returns-clause-taken : goal.returns-clause-taken
returns-clause-taken c e counts queue bits handed old =
    let calm : ends_no_flag c.args.self.now.window (bits_of LsbFirst (c.args.octet ∷ [])) ≡ true =
    sym c.ends_no_flag.ensures ∙ c.if-not-ends_no_flag.false in
    let come : Comes c.args.self.now bits (c.args.octet ∷ []) = record { cuts = old.cuts; fit = (omega arith, tt); quiet = rw calm refl } in
    parts_quiet c.args.self.now _ counts queue bits (bits_of LsbFirst (c.args.octet ∷ [])) handed old
    (no_flag_comes c.args.self.now bits (c.args.octet ∷ []) come)
    (after_empty c.args.self.now _ bits (c.args.octet ∷ []) 0 refl come refl refl c.if-not-self.false
    (none_if_not_full c.args.self.now bits old.cuts (omega arith) c.if-self-eq8.false) refl
    (rw (octets-none (unclosed bits)) old.cuts.gap))

use Rattle.std.proofs.Common.{ℕ, ◌≡◌, ◌-◌, ◌<◌, ◌++◌, List, ◌∷◌, get_or, length, take, drop, refl, ap, sym, suc, ◌∙◌, subst, arith}
use Rattle.raster.specs.Packed.{bits_of}
use Rattle.raster.specs.declared.packed.Order.TheVariants.{LsbFirst}
use Rattle.raster.proofs.OctetLemmas.{are_octets}
use Rattle.hdlc.specs.Collects.{Collects}
use Rattle.hdlc.specs.OpenGap.{unclosed}
use Rattle.hdlc.proofs.BitPlaces.{octets-none, octets-all}
use Rattle.hdlc.proofs.QuietOctets.{parts_quiet, none_if_not_full}
use Rattle.hdlc.proofs.QuietRuns.{Comes, no_flag_comes, take_next, after_full, after_empty, after_unbegun}
use Rattle.hdlc.proofs.flag_finder.FlagFinder.take_quiet.Goals as goal

pub returns-then-count-eq0 : goal.returns-then-count-eq0
returns-then-count-eq0 c counts queue bits handed old =
    rw (← octets-all bits c.args.octets.now 0 (omega arith), octets-none bits) old

pub returns-then-self-eq8 : goal.returns-then-self-eq8
returns-then-self-eq8 c counts queue bits handed old =
    let octets : List ℕ = c.args.octets.now in
    let small : (k : ℕ) → get_or octets k 0 < 256 = λ k. omega (arith, c.type_inv.octets k) in
    let come : Comes c.args.self.now bits octets = record { cuts = old.cuts; fit = are_octets octets small; quiet = c.requires.quiet } in
    parts_quiet c.args.self.now _ counts queue bits (bits_of LsbFirst octets) handed old (no_flag_comes c.args.self.now bits octets come)
    (after_full c.args.self.now _ bits octets (length octets - 1) (omega arith) come refl refl c.if-self-eq8.true c.if-self-eq8.true
    (c.push_run.ensures (unclosed bits) old.cuts.gap))

pub returns-then-count-eq1 : goal.returns-then-count-eq1
returns-then-count-eq1 c counts queue bits handed old =
    let octets : List ℕ = c.args.octets.now in
    let small : (k : ℕ) → get_or octets k 0 < 256 = λ k. omega (arith, c.type_inv.octets k) in
    let come : Comes c.args.self.now bits octets = record { cuts = old.cuts; fit = are_octets octets small; quiet = c.requires.quiet } in
    let last : length octets - 1 ≡ 0 = omega arith in
    parts_quiet c.args.self.now _ counts queue bits (bits_of LsbFirst octets) handed old (no_flag_comes c.args.self.now bits octets come)
    (after_empty c.args.self.now _ bits octets 0 (omega arith) come refl (ap (λ k. get_or octets k 0) last) c.if-not-self.false
    (none_if_not_full c.args.self.now bits old.cuts c.requires.whole c.if-self-eq8.false) refl
    (rw (octets-none (unclosed bits)) old.cuts.gap))

pub returns-then-not-self : goal.returns-then-not-self
returns-then-not-self c counts queue bits handed old =
    let octets : List ℕ = c.args.octets.now in
    let small : (k : ℕ) → get_or octets k 0 < 256 = λ k. omega (arith, c.type_inv.octets k) in
    let come : Comes c.args.self.now bits octets = record { cuts = old.cuts; fit = are_octets octets small; quiet = c.requires.quiet } in
    parts_quiet c.args.self.now _ counts queue bits (bits_of LsbFirst octets) handed old (no_flag_comes c.args.self.now bits octets come)
    (after_unbegun c.args.self.now _ bits octets (length octets - 1) (omega arith) come refl refl c.if-not-self.true refl refl)

pub returns : goal.returns
returns c counts queue bits handed old =
    let octets : List ℕ = c.args.octets.now in
    let small : (k : ℕ) → get_or octets k 0 < 256 = λ k. omega (arith, c.type_inv.octets k) in
    let come : Comes c.args.self.now bits octets = record { cuts = old.cuts; fit = are_octets octets small; quiet = c.requires.quiet } in
    let more : ℕ = length octets - 1 - 1 in
    let next : suc more ≡ length octets - 1 = omega arith in
    let front : get_or octets 0 0 ∷ take more (drop 1 octets) ≡ take (length octets - 1) octets =
    sym (take_next octets 0 1 more (omega arith) refl) ∙ ap (λ k. take k octets) next in
    parts_quiet c.args.self.now _ counts queue bits (bits_of LsbFirst octets) handed old (no_flag_comes c.args.self.now bits octets come)
    (after_empty c.args.self.now _ bits octets (length octets - 1) (omega arith) come refl refl c.if-not-self.false
    (none_if_not_full c.args.self.now bits old.cuts c.requires.whole c.if-self-eq8.false) refl
    (subst (λ os. Collects c.push_run-2.new.self (unclosed bits ++ bits_of LsbFirst os)) front
    (c.push_run-2.ensures (unclosed bits) old.cuts.gap)))

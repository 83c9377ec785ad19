use Rattle.std.proofs.lemmas.Bool.{false≢true}
use Rattle.std.proofs.Common.{arith, refl, subst, ◌≡◌, ◌-◌, ◌+◌, suc, sym, ℕ}
use Rattle.raster.specs.Packed.{bits_in}
use Rattle.page_files.proofs.PageEnds.{EndsByEols, fewer, none_left, not_one, one_before, rtc_found, rtc_there}
use Rattle.page_files.proofs.page_end.ends_by_rtc.Goals as goal

pub returns-in-None : goal.returns-in-None
returns-in-None c =
    let more : 6 - c.loop-eols.eols ≡ suc (5 - c.loop-eols.eols) = omega (arith, c.loop-eols-test.true) in
    let order = c.args.order in
    let octets = c.args.octets.now in (
      λ no. absurd (false≢true no),
      λ rtc. absurd (not_one order octets (5 - c.loop-eols.eols) c.loop-eols.place c.in-None.ensures
          (subst (λ (n : ℕ). EndsByEols n (bits_in order octets c.loop-eols.place)) more
          (c.loop-eols.invariant.only (rtc_there order octets c.args.bits c.min-end.result c.without_zeros-code.result c.min-end.ensures
          c.without_zeros-code.ensures.zeros c.without_zeros-code.ensures.one rtc)))),
    )

pub loop-eols-preserved : goal.loop-eols-preserved
loop-eols-preserved c =
    let more : 6 - c.loop-eols.eols ≡ suc (6 - (c.loop-eols.eols + 1)) = omega (arith, c.loop-eols-test.true) in
    let order = c.args.order in
    let octets = c.args.octets.now in
    let found = c.in-Some.ensures in
    record {
      within = omega (arith, found.0, c.loop-eols.invariant.within);
      one = found.2;
      only = λ ends. fewer order octets (6 - (c.loop-eols.eols + 1)) c.loop-eols.place c.in-Some.start found
          (subst (λ (n : ℕ). EndsByEols n (bits_in order octets c.loop-eols.place)) more (c.loop-eols.invariant.only ends));
      enough = λ ends. c.loop-eols.invariant.enough
          (subst (λ (n : ℕ). EndsByEols n (bits_in order octets c.loop-eols.place)) (sym more)
          (one_before order octets (6 - (c.loop-eols.eols + 1)) c.loop-eols.place c.in-Some.start found ends));
    }

pub returns : goal.returns
returns c =
    let none : 0 ≡ 6 - c.loop-eols.eols = omega (arith, c.loop-eols-test.false) in
    let order = c.args.order in
    let octets = c.args.octets.now in (
      λ yes. rtc_found order octets c.args.bits c.min-end.result c.without_zeros-code.result c.min-end.ensures
          c.without_zeros-code.ensures.zeros
          (c.loop-eols.invariant.enough (subst (λ (n : ℕ). EndsByEols n (bits_in order octets c.loop-eols.place)) none
          (none_left (bits_in order octets c.loop-eols.place)))),
      λ rtc. refl,
    )

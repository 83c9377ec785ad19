use Rattle.std.proofs.Common.{◌≡◌, ◌≤◌, ◌+◌, ◌-◌, ◌∙◌, ℕ, List, take, drop, length, get_or, ap, arith, sym}
use Rattle.std.proofs.lemmas.List.{take_all, length-drop}
use Rattle.hdlc.specs.EightBits.{end_no_flag}
use Rattle.hdlc.proofs.QuietRuns.{end_overlap, one_quiet, quiet_more}
use Rattle.hdlc.proofs.flag_finder.quiet_after.Goals as goal

pub loop-count-init : goal.loop-count-init
loop-count-init c = record {
  least = omega arith;
  within = omega arith;
  quiet = λ last first. one_quiet c.args.octets.now 0 last (omega arith) first;
}

pub loop-count-preserved : goal.loop-count-preserved
loop-count-preserved c = record {
  least = omega arith;
  within = omega (arith, c.calm_octets-calm.ensures.most);
  quiet = λ last first.
      quiet_more c.args.octets.now c.loop-count.count c.calm_octets-calm.result last (omega arith) (omega arith)
      (c.loop-count.invariant.quiet last first) c.calm_octets-calm.ensures.quiet;
}

pub returns-then-calm-ne7-clause-quiet : goal.returns-then-calm-ne7-clause-quiet
returns-then-calm-ne7-clause-quiet c last first =
    quiet_more c.args.octets.now c.loop-count.count c.calm_octets-calm.result last (omega arith) (omega arith)
    (c.loop-count.invariant.quiet last first) c.calm_octets-calm.ensures.quiet

pub returns-then-calm_octets-eq7-clause-quiet : goal.returns-then-calm_octets-eq7-clause-quiet
returns-then-calm_octets-eq7-clause-quiet c last first =
    let octets : List ℕ = c.args.octets.now in
    let m : ℕ = length octets - 8 + 1 in
    let k : ℕ = c.loop-count.count - m in
    let count : m + k ≡ c.loop-count.count = omega arith in
    let back : m - 1 ≡ length octets - 8 = omega arith in
    let seven : length (drop m octets) ≤ 7 = rw length-drop (omega arith) in
    ap (end_no_flag last) (take_all (length octets) octets (omega arith)) ∙ end_overlap octets m k last (omega arith) (omega arith)
    (ap (λ j. end_no_flag last (take j octets)) count ∙ c.loop-count.invariant.quiet last first)
    (ap (λ j. end_no_flag (get_or octets j 0) (drop m octets)) back
    ∙ (ap (end_no_flag (get_or octets (length octets - 8) 0)) (sym (take_all 7 (drop m octets) seven))
    ∙ (ap (λ j. end_no_flag (get_or octets (length octets - 8) 0) (take j (drop m octets))) (sym c.if-calm_octets-eq7.true)
    ∙ c.calm_octets.ensures.quiet)))

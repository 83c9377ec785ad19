use Rattle.std.proofs.Common.{◌++◌, ℕ, List, take, drop, replicate, ap, ◌∙◌, refl, arith}
use Rattle.std.proofs.Math.Seq.{take-add}
use Rattle.std.proofs.lemmas.List.{replicate-append-replicate}
use Rattle.hdlc.proofs.flag_finder.same_fours.Goals as goal

pub loop-count-init : goal.loop-count-init
loop-count-init c = record { within = omega arith; same = refl }

pub loop-count-preserved : goal.loop-count-preserved
loop-count-preserved c =
    let octets : List ℕ = c.args.octets.now in
    let n : ℕ = c.loop-count.count in
    record {
      within = omega arith;
      same = take-add n 4 octets ∙ (ap (λ xs. xs ++ take 4 (drop n octets)) c.loop-count.invariant.same
          ∙ (ap (λ xs. replicate n c.args.octet ++ xs) (c.are_four.ensures c.if-not-are_four.false)
          ∙ replicate-append-replicate n 4 c.args.octet));
    }

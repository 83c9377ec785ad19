-- What the check asks of `zeros_of`.
use Rattle.std.proofs.Common.{ap, arith, nat_eq}
use Rattle.raster.proofs.FirstLemmas.{first_one}
use Rattle.page_files.proofs.zeros.zeros_of.Goals as goal

pub returns : goal.returns
returns c =
    let first = first_one c.args.word c.ranges.word.fits in
    record {
      low = omega arith;
      high = first.high;
      before = λ k low h. ap (λ b. nat_eq b 1) (first.zeros k h);
      hit = λ h. ap (λ b. nat_eq b 1) (first.one h);
    }

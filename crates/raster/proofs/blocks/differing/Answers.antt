use Rattle.std.proofs.Common.{ℕ, arith, w8, nat_eq}
use Rattle.std.specs.Prelude.{not}
use Rattle.std.proofs.lemmas.Simd.{bitmask_splat}
use Rattle.raster.proofs.blocks.differing.Goals as goal

pub returns : goal.returns
returns c = bitmask_splat w8 (λ (a b : ℕ). not (nat_eq a b)) c.args.octets.now 32 c.args.same (omega arith) (omega arith)

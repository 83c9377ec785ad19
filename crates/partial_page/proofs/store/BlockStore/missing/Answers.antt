use Rattle.std.proofs.Common.{refl, arith}
use Rattle.partial_page.proofs.StoreLemmas.{bit_of-zeros}
use Rattle.partial_page.proofs.store.BlockStore.missing.Goals as goal

pub loop-number-init : goal.loop-number-init
loop-number-init c = record { size = refl; marked = λ k h. absurd (omega arith); later = λ k from below. bit_of-zeros 32 k }

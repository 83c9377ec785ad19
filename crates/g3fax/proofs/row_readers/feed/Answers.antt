use Rattle.std.proofs.Common.{arith, inr, refl, rules}
use Rattle.g3fax.proofs.row_readers.feed.Goals as goal

-- src/row_readers.rt:59:1
pub returns-in-Err : goal.returns-in-Err
returns-in-Err c = record {
  done = λ done. absurd (omega (arith, done));
  kept = λ other. search rules;
  only = inr refl;
}

use Rattle.std.proofs.Common.{refl}
use Rattle.hdlc.specs.declared.counts.Class.TheVariants.{Good, Aborted, Ragged, Short, Long, Damaged}
use Rattle.g3fax.proofs.frames.tell_counts.Goals as goal

-- src/frames.rt:93:1
pub returns : goal.returns
returns c = record {
  done = refl;
  good = λ bits handed after. c.counts-told.ensures bits handed after Good;
  aborted = λ bits handed after. c.counts-told.ensures bits handed after Aborted;
  ragged = λ bits handed after. c.counts-told.ensures bits handed after Ragged;
  short = λ bits handed after. c.counts-told.ensures bits handed after Short;
  long = λ bits handed after. c.counts-told.ensures bits handed after Long;
  damaged = λ bits handed after. c.counts-told.ensures bits handed after Damaged;
}

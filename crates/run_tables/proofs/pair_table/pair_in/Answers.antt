use Rattle.std.proofs.Common.{◌/◌, ◌^◌, arith}
use Rattle.run_tables.specs.Numbers.{number_text}
use Rattle.run_tables.proofs.NumberLemmas.{length-number_text}
use Rattle.run_tables.proofs.PairLemmas.{pair_known, pair_reads}
use Rattle.run_tables.proofs.pair_table.pair_in.Goals as goal

pub returns-clause-reads : goal.returns-clause-reads
returns-clause-reads c past old count held enough left =
    pair_reads c.args.room past old count c.args.word c.entry-pair.result.packed c.entry-pair.ensures
    (c.is_there-there.ensures.0 c.if-not-there.false) held enough left
    (omega (arith, c.if-white-black.false, c.white.ensures.is, c.black.ensures.is))

pub returns-clause-some : goal.returns-clause-some
returns-clause-some c = (pair_known (number_text 12 (c.args.word / 2 ^ 52)) c.entry-pair.result.packed c.entry-pair.ensures
    (c.is_there-there.ensures.0 c.if-not-there.false)).0

pub returns-clause-bits : goal.returns-clause-bits
returns-clause-bits c = (pair_known (number_text 12 (c.args.word / 2 ^ 52)) c.entry-pair.result.packed c.entry-pair.ensures
    (c.is_there-there.ensures.0 c.if-not-there.false)).1

pub returns-clause-few : goal.returns-clause-few
returns-clause-few c = omega (
  arith,
  (pair_known (number_text 12 (c.args.word / 2 ^ 52)) c.entry-pair.result.packed c.entry-pair.ensures
      (c.is_there-there.ensures.0 c.if-not-there.false)).2,
  length-number_text 12 (c.args.word / 2 ^ 52),
)

use Rattle.std.proofs.Common.{◌<◌, length, slice_index_or, arith, ap}
use Rattle.std.proofs.lemmas.Bool.{ltb-true}
use Rattle.run_tables.specs.Codes.{run_at}
use Rattle.run_tables.specs.WriteTables.{is_small}
use Rattle.run_tables.proofs.BeginsLemmas.{list_all_at}
use Rattle.run_tables.proofs.CodePicks.{word_lengths}
use Rattle.run_tables.proofs.NumberLemmas.{length-number_text}
use Rattle.run_tables.proofs.RunReads.{listed_at}
use Rattle.run_tables.proofs.TableLemmas.{words_length, words_at}
use Rattle.run_tables.proofs.write_table.word.Goals as goal

pub returns-clause-word : goal.returns-clause-word
returns-clause-word c = words_at c.args.color c.words.result.now c.args.place (0, 0) c.words.ensures.words c.requires

pub returns-clause-short : goal.returns-clause-short
returns-clause-short c =
    let e = words_at c.args.color c.words.result.now c.args.place (0, 0) c.words.ensures.words c.requires in
    let few = word_lengths c.args.color (run_at c.args.place) (listed_at 104 c.args.place c.requires) in
    omega (
      arith,
      few.1,
      ap length e,
      length-number_text (slice_index_or c.words.result.now c.args.place (0, 0)).1 (slice_index_or
          c.words.result.now c.args.place (0, 0)).0,
    )

pub returns-clause-below : goal.returns-clause-below
returns-clause-below c =
    let within : c.args.place < length c.words.result.now = rw (words_length c.args.color c.words.result.now c.words.ensures.words)
    c.requires in
    ltb-true _ _ (list_all_at is_small c.words.result.now c.args.place (0, 0) c.words.ensures.small within)

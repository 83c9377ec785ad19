use Rattle.std.proofs.Common.{Bool, List, ◌≡◌, ◌++◌, subst}
use Rattle.std.specs.Prelude.{OnOk}
use Rattle.raster.specs.declared.row.Color.TheVariants.{Black, White}
use Rattle.raster.specs.Words.{number_bits}
use Rattle.run_tables.specs.Codes.{run_words}
use Rattle.run_tables.specs.Numbers.{number_text}
use Rattle.run_tables.specs.Written.{Appends}
use Rattle.run_tables.proofs.CodeLemmas.{run_words_low}
use Rattle.run_tables.proofs.writer.BitWriter.write_two.Goals as goal

pub returns-then-white-lt64-clause-ok : goal.returns-then-white-lt64-clause-ok
unfolding number_text
returns-then-white-lt64-clause-ok c =
    let words : number_bits c.length.result c.value.result ≡ run_words Black c.args.black ++ run_words White c.args.white =
    rw (
      c.length.ensures,
      c.value.ensures,
      run_words_low Black c.args.black c.if-black-lt64.true,
      run_words_low White c.args.white
          c.if-white-lt64.true,
    ) c.pair_word-both.ensures.words in
    subst (λ (bits : List Bool). OnOk c.push_bits.result (Appends bits c.args.self.now c.push_bits.new.self)) words c.push_bits.ensures.ok

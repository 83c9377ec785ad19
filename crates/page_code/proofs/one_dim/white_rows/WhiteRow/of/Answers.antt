use Rattle.std.proofs.Common.{ℕ, ◌≡◌, ◌*◌, ◌%◌, ◌^◌, ◌++◌, ap, arith, refl, ◌∙◌}
use Rattle.std.proofs.lemmas.Nat.{shl_whole}
use Rattle.run_tables.specs.Numbers.{number_text}
use Rattle.run_tables.proofs.NumberLemmas.{number_append}
use Rattle.page_code.specs.OneDimension.Pages.{eol_word}
use Rattle.page_code.proofs.one_dim.white_rows.WhiteRow.of.Goals as goal

-- an EOL without fill is 1 in 12 bits
eol_is : number_text 12 1 ≡ eol_word 11
unfolding number_text
eol_is = refl

pub returns : goal.returns
unfolding number_text
returns c =
    let length : ℕ = c.run_word-run.result.1 in
    let run : ℕ = c.run_word-run.result.0 in
    let shifted : 1 * 2 ^ length % 2 ^ 64 ≡ 1 * 2 ^ length = shl_whole 1 1 length 64 (omega arith) (omega (arith, c.run_word-run.ensures.short)) in
    record {
      text = rw (shifted, c.from.ensures) (number_append 12 length 1 run c.run_word-run.ensures.below ∙
          (ap (λ l. l ++ number_text length run) eol_is ∙ ap (λ l. eol_word 11 ++ l) c.run_word-run.ensures.words));
      few = omega (arith, c.run_word-run.ensures.short);
    }

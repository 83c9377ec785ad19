use Rattle.std.proofs.Common.{ℕ, List, Bool, ◌≡◌, ◌<◌, ◌≤◌, ◌+◌, ◌*◌, ◌%◌, ◌^◌, ◌++◌, arith, ap, subst, ◌∙◌, OnOk, append_assoc}
use Rattle.std.proofs.Math.Nat.{pow-le-pow_right}
use Rattle.std.proofs.lemmas.Nat.{shl_whole}
use Rattle.raster.specs.Pixels.{other}
use Rattle.run_tables.specs.Codes.{run_words}
use Rattle.run_tables.specs.Numbers.{number_text}
use Rattle.run_tables.specs.Written.{Appends}
use Rattle.run_tables.proofs.NumberLemmas.{joined_below, number_append}
use Rattle.page_code.specs.TwoDimensions.Modes.{horizontal_word}
use Rattle.page_code.proofs.t6.write.push_horizontal.Goals as goal

pub overflow_add-first : goal.overflow_add-first
overflow_add-first c =
    let a : ℕ = c.flag_and_run-first.result.1 in
    let b : ℕ = c.run_word-second.result.1 in
    let high : ℕ = c.flag_and_run-first.result.0 in
    let low : ℕ = c.run_word-second.result.0 in
    let whole : high * 2 ^ b % 2 ^ 32 ≡ high * 2 ^ b = shl_whole high a b 32 c.flag_and_run-first.ensures.below (omega (arith, c.if-length-gt32.false)) in
    let below : high * 2 ^ b + low < 2 ^ (a + b) = joined_below a b high low c.flag_and_run-first.ensures.below c.run_word-second.ensures.below in
    let room : a + b ≤ 32 = omega (arith, c.if-length-gt32.false) in
    let most : 2 ^ (a + b) ≤ 2 ^ 32 = pow-le-pow_right (omega arith) room in
    rw whole (omega (arith, below, most))

pub returns-clause-ok : goal.returns-clause-ok
unfolding number_text
returns-clause-ok c =
    let a : ℕ = c.flag_and_run-first.result.1 in
    let b : ℕ = c.run_word-second.result.1 in
    let high : ℕ = c.flag_and_run-first.result.0 in
    let low : ℕ = c.run_word-second.result.0 in
    let whole : high * 2 ^ b % 2 ^ 32 ≡ high * 2 ^ b = shl_whole high a b 32 c.flag_and_run-first.ensures.below (omega (arith, c.if-length-gt32.false)) in
    let text : number_text (a + b) (high * 2 ^ b % 2 ^ 32 + low)
    ≡ horizontal_word ++ (run_words c.args.color c.args.a0a1 ++ run_words (other c.args.color) c.args.a1a2) =
    ap (λ n. number_text (a + b) (n + low)) whole ∙ (number_append a b high low c.run_word-second.ensures.below
    ∙ (ap (λ l. l ++ number_text b low) c.flag_and_run-first.ensures.words ∙ (ap (λ l. (horizontal_word ++ run_words c.args.color c.args.a0a1) ++ l)
    c.run_word-second.ensures.words ∙ (ap (λ k. (horizontal_word ++ run_words c.args.color c.args.a0a1) ++ run_words k c.args.a1a2) c.other.ensures
    ∙ append_assoc horizontal_word (run_words c.args.color c.args.a0a1) (run_words (other c.args.color) c.args.a1a2))))) in
    subst (λ (bits : List Bool). OnOk c.push_bits-2.result (Appends bits c.args.writer.now c.push_bits-2.new.self)) text c.push_bits-2.ensures.ok

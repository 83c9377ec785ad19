use Rattle.std.proofs.Common.{◌+◌, ◌-◌, ◌*◌, ◌/◌, ◌%◌, ◌^◌, ℕ, ap, sym, ◌∙◌, arith}
use Rattle.hdlc.specs.EightBits.{fives}
use Rattle.hdlc.proofs.PlainOctets.{all_fits, fives_few, number_word}
use Rattle.hdlc.proofs.gathering.Gathering.fives.Goals as goal

pub returns-clause-few : goal.returns-clause-few
returns-clause-few c =
    fives_few (c.args.self.row / 256) c.from.result (omega (arith, c.requires.sound.most)) (omega (arith, c.from.ensures))

pub returns-clause-is : goal.returns-clause-is
returns-clause-is c =
    let n : ℕ = c.args.self.row / 256 in
    let word : ℕ = c.args.word in
    let fits = all_fits n word (omega (arith, c.requires.sound.most)) (omega arith) in
    ap (λ w. fives ((w + 1) * 2 ^ n % 2 ^ 64 - 1)) c.from.ensures ∙ (ap (λ m. fives (m - 1)) fits.0
    ∙ ap (λ w. fives ((w + 1) * 2 ^ n - 1)) (sym (number_word word (omega arith))))

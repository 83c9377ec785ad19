-- What the check asks of `line_in`.
use Rattle.std.proofs.Common.{◌≡◌, arith}
use Rattle.faxtool.proofs.JobLemmas.{none_there, same_number}
use Rattle.faxtool.proofs.args.words.line_in.Goals as goal
use Rattle.faxtool.proofs.args.words.line_in.Goals.{then-lose-gt-ALL_WORDS-via-then-lose-gt-ALL_WORDS}
use Rattle.faxtool.proofs.args.words.line_in.Goals.{then-lose-gt-ALL_WORDS-via-else-lose-gt-ALL_WORDS+then-spoil-lose}

pub returns-in_default : goal.returns-in_default
returns-in_default c line is = none_there line.lose (c.in_default.ensures.only line.lose is.lose_is)

pub returns-in_default-spoil_in : goal.returns-in_default-spoil_in
returns-in_default-spoil_in c line is = none_there line.spoil (c.in_default-spoil_in.ensures.only line.spoil is.spoil_is)

pub returns-in_default-busy_in : goal.returns-in_default-busy_in
returns-in_default-busy_in c line is = none_there line.busy (c.in_default-busy_in.ensures.only line.busy is.busy_is)

pub returns-then-lose-gt-ALL_WORDS : goal.returns-then-lose-gt-ALL_WORDS
returns-then-lose-gt-ALL_WORDS c line is =
    let lose : c.in-Some.lose ≡ line.lose = same_number c.in-Some.lose line.lose (c.in-Some.ensures.only line.lose is.lose_is) in
    let spoil : c.in-Some-spoil_in.spoil ≡ line.spoil =
    same_number c.in-Some-spoil_in.spoil line.spoil (c.in-Some-spoil_in.ensures.only line.spoil is.spoil_is) in
    let most = is.most in
    elim c.then-lose-gt-ALL_WORDS.branch [
      | then-lose-gt-ALL_WORDS-via-then-lose-gt-ALL_WORDS w ↦
          let above = w.if-lose-gt-ALL_WORDS.true in
          absurd (omega (arith, above, lose, spoil, most))
      | then-lose-gt-ALL_WORDS-via-else-lose-gt-ALL_WORDS+then-spoil-lose w ↦
          let above = w.if-spoil-lose.true in
          absurd (omega (arith, above, lose, spoil, most))
    ]

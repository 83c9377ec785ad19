-- What the check asks of `read_bits`.
use Rattle.std.proofs.Common.{rules, inl, inr}
use Rattle.conversations.proofs.Words.{no_bits, no_number, wrong_size, no_hex, are_bits, octets_div_ceil}
use Rattle.conversations.proofs.line.read_bits.Goals as goal

pub returns-in_default : goal.returns-in_default
returns-in_default c = λ _. no_bits _ c.in_default.ensures

pub returns-in_default-number_in : goal.returns-in_default-number_in
returns-in_default-number_in c = λ _. no_number _ _ _ c.in-Some.ensures.0 c.in-Some.ensures.1 c.in_default-number_in.ensures

pub returns-then-hex-div_ceil : goal.returns-then-hex-div_ceil
returns-then-hex-div_ceil c = λ _. wrong_size _ _ _ c.in-Some.ensures.0 c.in-Some.ensures.1 _ c.in-Some-number_in.ensures
    (λ same. c.if-hex-div_ceil.true (rw (c.div_ceil.ensures, octets_div_ceil c.in-Some-number_in.count) same))

pub returns-in-Ok : goal.returns-in-Ok
returns-in-Ok c = are_bits _ _ _ c.in-Some.ensures.0 c.in-Some.ensures.1 _ _ c.in-Some-number_in.ensures
    (rw (c.div_ceil.ensures, octets_div_ceil c.in-Some-number_in.count) at c.if-hex-div_ceil.false) c.in-Ok.ensures.ok

pub returns-in-Err : goal.returns-in-Err
returns-in-Err c = λ _. elim c.in-Err.ensures.err [
  | inl memory ↦ absurd (search rules)
  | inr refused ↦ no_hex _ _ _ c.in-Some.ensures.0 c.in-Some.ensures.1 _ refused
]

use Rattle.std.proofs.Common.{◌∙◌, sym, arith, ◌+◌, ap, ◌&&◌, drop, length, ◌≡◌}
use Rattle.std.proofs.lemmas.Bool.{not-true, not-false, and_left}
use Rattle.run_tables.specs.Codes.{text}
use Rattle.run_tables.specs.Texts.{begins}
use Rattle.run_tables.proofs.BeginsLemmas.{cut_more, cut_end}
use Rattle.run_tables.proofs.reader.BitReader.is_cut_of.Goals as goal

pub returns-then-digit-bit : goal.returns-then-digit-bit
returns-then-digit-bit c =
    let more = cut_more c.args.digits.now c.args.self.now.bits c.loop-by.by c.args.self.now.place c.in-Some.bit (omega arith) (sym
    c.in-Some.ensures.bit) in
    sym (more ∙ and_left _ _ (not-true _ c.if-digit-bit.true)) ∙ c.loop-by.invariant

pub loop-by-preserved : goal.loop-by-preserved
loop-by-preserved c =
    let more = cut_more c.args.digits.now c.args.self.now.bits c.loop-by.by c.args.self.now.place c.in-Some.bit (omega arith) (sym
    c.in-Some.ensures.bit) in
    sym (more ∙ ap (λ b. b && begins (drop (c.args.self.now.place + (c.loop-by.by + 1)) c.args.self.now.bits) (text (drop (c.loop-by.by + 1)
    c.args.digits.now))) (not-false _ c.if-digit-bit.false)) ∙ c.loop-by.invariant

pub returns : goal.returns
returns c =
    let same : length c.args.digits.now ≡ c.loop-by.by = omega arith in
    cut_end c.args.digits.now c.args.self.now.bits c.loop-by.by c.args.self.now.place c.ahead-2.result c.is_none.result (omega arith) (rw
    same at c.ahead-2.ensures.bit) (rw same at c.ahead-2.ensures.past) c.is_none.ensures ∙
    c.loop-by.invariant

use Rattle.std.proofs.Common.{◌≡◌, ◌∙◌, sym, ap, ℕ, Bool, List, true, false, arith}
use Rattle.run_tables.specs.Codes.{code_word, text, run_at}
use Rattle.run_tables.specs.Reading.{rest_of}
use Rattle.run_tables.specs.Texts.{begins, is_cut}
use Rattle.run_tables.proofs.PickLemmas.{left_all, cut_here, cut_later, cut_none}
use Rattle.run_tables.proofs.reader.BitReader.is_cut_code.Goals as goal

pub loop-at-init : goal.loop-at-init
loop-at-init c = ap (λ (runs : List ℕ). is_cut (code_word c.args.color) runs (rest_of c.args.self.now)) (left_all c.args.count)

pub returns-then-is_cut_of : goal.returns-then-is_cut_of
returns-then-is_cut_of c =
    let is : text c.code_at-code.result.1.now ≡ code_word c.args.color (run_at c.loop-at.at) = ap (λ (p : ℕ
    × List Bool). p.1) c.code_at-code.ensures in
    let cut : begins (rest_of c.args.self.now) (code_word c.args.color (run_at c.loop-at.at)) ≡ true = ap (λ t. begins (rest_of
    c.args.self.now) t) (sym is) ∙ (sym c.is_cut_of.ensures ∙ c.if-is_cut_of.true) in
    sym (sym c.loop-at.invariant ∙ cut_here (code_word c.args.color) c.loop-at.at c.args.count (rest_of c.args.self.now) (omega arith) cut)

pub loop-at-preserved : goal.loop-at-preserved
loop-at-preserved c =
    let is : text c.code_at-code.result.1.now ≡ code_word c.args.color (run_at c.loop-at.at) = ap (λ (p : ℕ
    × List Bool). p.1) c.code_at-code.ensures in
    let whole : begins (rest_of c.args.self.now) (code_word c.args.color (run_at c.loop-at.at)) ≡ false = ap (λ t. begins (rest_of
    c.args.self.now) t) (sym is) ∙ (sym c.is_cut_of.ensures ∙ c.if-is_cut_of.false) in
    sym (cut_later (code_word c.args.color) c.loop-at.at c.args.count (rest_of c.args.self.now) (omega arith) whole) ∙ c.loop-at.invariant

pub returns : goal.returns
returns c =
    sym (sym c.loop-at.invariant ∙ cut_none (code_word c.args.color) c.loop-at.at c.args.count (rest_of c.args.self.now) (omega arith))

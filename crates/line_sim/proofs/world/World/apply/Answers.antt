-- What an event makes of the fields, and what is left of a refused one.
use Rattle.std.proofs.Common.{◌≡◌, ℕ, suc, ◌+◌, ap, subst, ◌∙◌, ◌++◌, ◌∷◌, [], arith, sym}
use Rattle.line_sim.specs.Entries.{marks, one_mark}
use Rattle.line_sim.specs.Represents.{WorldFields, BecomesSome}
use Rattle.line_sim.proofs.Reaching.{can_write, reached_more, acts_become, marked_becomes, marks_more, marks_few}
use Rattle.line_sim.proofs.world.World.apply.Goals as goal

pub act-entry-requires : goal.act-entry-requires
act-entry-requires c = can_write _ c.args.event c.headline.ensures.written c.self.invariant.0

pub overflow_add-self : goal.overflow_add-self
overflow_add-self c =
    omega (
      arith,
      c.self.invariant.1,
      marks_few c.self.inside.transcript.items,
      c.self.inside.transcript.ok.0,
      c.self.inside.transcript.ok.1,
      c.self.inside.transcript.small,
    )

pub invariant_of-self-then-entry : goal.invariant_of-self-then-entry
invariant_of-self-then-entry c =
    let v : WorldFields = record { call = c.self.inside.call; entries = c.self.inside.transcript.items } in
    let noted : c.note.new.transcript.items ≡ c.self.inside.transcript.items ++ c.act-entry.result ∷ [] = c.note.ensures ∙
    ap (λ l. l ++ c.act-entry.result ∷ []) c.reserve.ensures.items in (
      reached_more v _ c.args.event c.act-entry.ensures.acts.0 c.self.invariant.0
          (acts_become v c.act-entry.new.self c.note.new.transcript.items c.args.event c.act-entry.result c.act-entry.ensures.acts noted),
      (let n : ℕ = c.self.inside.refused in let one : n + 1 ≡ suc n = omega arith in one) ∙
          (ap suc c.self.invariant.1 ∙
          (ap (λ b. one_mark b (marks c.self.inside.transcript.items)) (sym c.if-entry.true) ∙
          (sym (marks_more c.self.inside.transcript.items c.act-entry.result) ∙ ap marks (sym noted)))),
    )

pub invariant_of-self-else-entry : goal.invariant_of-self-else-entry
invariant_of-self-else-entry c =
    let v : WorldFields = record { call = c.self.inside.call; entries = c.self.inside.transcript.items } in
    let noted : c.note.new.transcript.items ≡ c.self.inside.transcript.items ++ c.act-entry.result ∷ [] = c.note.ensures ∙
    ap (λ l. l ++ c.act-entry.result ∷ []) c.reserve.ensures.items in (
      reached_more v _ c.args.event c.act-entry.ensures.acts.0 c.self.invariant.0
          (acts_become v c.act-entry.new.self c.note.new.transcript.items c.args.event c.act-entry.result c.act-entry.ensures.acts noted),
      c.self.invariant.1 ∙
          (ap (λ b. one_mark b (marks c.self.inside.transcript.items)) (sym c.if-entry.false) ∙
          (sym (marks_more c.self.inside.transcript.items c.act-entry.result) ∙ ap marks (sym noted))),
    )

pub returns-then-entry-clause-err : goal.returns-then-entry-clause-err
returns-then-entry-clause-err c =
    let v : WorldFields = record { call = c.self.inside.call; entries = c.self.inside.transcript.items } in
    let noted : c.note.new.transcript.items ≡ c.self.inside.transcript.items ++ c.act-entry.result ∷ [] = c.note.ensures ∙
    ap (λ l. l ++ c.act-entry.result ∷ []) c.reserve.ensures.items in
    subst (λ old. BecomesSome old (record { call = c.act-entry.new.self; entries = c.note.new.transcript.items }) c.args.event)
    c.self.view_is
    (marked_becomes v c.act-entry.new.self c.note.new.transcript.items c.args.event c.act-entry.result c.act-entry.ensures.acts
    c.self.invariant.0 c.act-entry.ensures.whole c.if-entry.true noted)

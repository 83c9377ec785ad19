-- What the check asks of `page`.
use Rattle.std.proofs.Common.{◌∙◌, Global, Vec, ap, ℕ}
use Rattle.page_code.proofs.PageReaders.{keeps_from, reads_from, stands_empty, stands_still}
use Rattle.page_code.proofs.page_reader.PageReader.page.Goals as goal

pub read_whole_turned-requires-clause-read : goal.read_whole_turned-requires-clause-read
read_whole_turned-requires-clause-read c = rw c.replace-progress.ensures.value (reads_from c.self.inside.coding c.self.inside.order
    c.self.inside.progress c.self.inside.passed c.self.inside.count c.self.inside.turned.items c.args.self.now c.self.view_is
    c.args.all.now c.requires)

pub read_whole_turned-requires-clause-kept : goal.read_whole_turned-requires-clause-kept
read_whole_turned-requires-clause-kept c = rw c.replace-kept.ensures.value (keeps_from c.self.inside.coding c.self.inside.order
    c.self.inside.progress c.self.inside.passed c.self.inside.count c.self.inside.turned.items c.args.self.now c.self.view_is
    c.args.all.now c.requires)

pub returns-in-Ok-Page-clause-stands : goal.returns-in-Ok-Page-clause-stands
returns-in-Ok-Page-clause-stands c = stands_empty c.self.inside.coding c.self.inside.order c.self.inside.progress c.self.inside.passed
    c.self.inside.count c.self.inside.turned.items c.args.self.now c.self.view_is c.replace-progress.new.dest c.width-width.result
    c.fine-fine.result c.replace-kept.new.dest.items
    (ap (λ (v : Vec ℕ Global). v.items) c.replace-kept.ensures.after ∙ c.new.ensures.items) (c.replace-progress.ensures.after ∙
    c.new-begun.ensures) c.width-width.ensures c.fine-fine.ensures c.self.invariant

pub returns-in-Ok-Refused-clause-stands : goal.returns-in-Ok-Refused-clause-stands
returns-in-Ok-Refused-clause-stands c = stands_still c.self.inside.coding c.self.inside.order c.self.inside.progress c.self.inside.passed
    c.self.inside.count c.self.inside.turned.items c.args.self.now c.self.view_is c.replace-progress.new.dest c.width-width.result
    c.fine-fine.result c.replace-kept.new.dest.items
    (ap (λ (v : Vec ℕ Global). v.items) c.replace-kept.ensures.after ∙ c.new.ensures.items) (c.replace-progress.ensures.after ∙
    c.new-begun.ensures) c.width-width.ensures c.fine-fine.ensures

pub returns-in-Err-clause-err : goal.returns-in-Err-clause-err
returns-in-Err-clause-err c = stands_still c.self.inside.coding c.self.inside.order c.self.inside.progress c.self.inside.passed
    c.self.inside.count c.self.inside.turned.items c.args.self.now c.self.view_is c.replace-progress.new.dest c.width-width.result
    c.fine-fine.result c.replace-kept.new.dest.items
    (ap (λ (v : Vec ℕ Global). v.items) c.replace-kept.ensures.after ∙ c.new.ensures.items) (c.replace-progress.ensures.after ∙
    c.new-begun.ensures) c.width-width.ensures c.fine-fine.ensures

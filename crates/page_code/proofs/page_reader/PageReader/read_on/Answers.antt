use Rattle.std.proofs.Common.{◌∙◌, Global, List, Vec, ap, length, ℕ}
use Rattle.raster.specs.declared.row.Color.{Color}
use Rattle.page_code.proofs.PageReaders.{keeps_from, passed_from, passed_on, reads_from, stands_still}
use Rattle.page_code.proofs.page_reader.PageReader.read_on.Goals as goal

pub read_further_turned-read-requires-clause-read : goal.read_further_turned-read-requires-clause-read
read_further_turned-read-requires-clause-read c = reads_from c.self.inside.coding c.self.inside.order c.self.inside.progress
    c.self.inside.passed c.self.inside.count c.self.inside.turned.items c.args.self.now c.self.view_is c.args.all.now c.requires

pub read_further_turned-read-requires-clause-kept : goal.read_further_turned-read-requires-clause-kept
read_further_turned-read-requires-clause-kept c = rw c.replace-kept.ensures.value (keeps_from c.self.inside.coding c.self.inside.order
    c.self.inside.progress c.self.inside.passed c.self.inside.count c.self.inside.turned.items c.args.self.now c.self.view_is
    c.args.all.now c.requires)

pub pass_on-passed-requires-clause-read : goal.pass_on-passed-requires-clause-read
pass_on-passed-requires-clause-read c = reads_from c.self.inside.coding c.self.inside.order c.self.inside.progress c.self.inside.passed
    c.self.inside.count c.self.inside.turned.items c.args.self.now c.self.view_is c.args.all.now c.requires

pub pass_on-passed-requires-clause-before : goal.pass_on-passed-requires-clause-before
pass_on-passed-requires-clause-before c = passed_from c.self.inside.coding c.self.inside.order c.self.inside.progress
    c.self.inside.passed c.self.inside.count c.self.inside.turned.items c.args.self.now c.self.view_is c.args.all.now c.requires

pub returns-in-Some-clause-ok : goal.returns-in-Some-clause-ok
returns-in-Some-clause-ok c = passed_on c.self.inside.coding c.self.inside.order c.self.inside.progress c.self.inside.passed
    c.self.inside.count c.self.inside.turned.items c.args.self.now c.self.view_is c.args.all.now c.requires c.in-Some.passed
    c.len.result c.in-Some.ensures.passed c.in-Some.ensures.rows (c.len.ensures.length ∙
    ap (λ (rows : List (List Color)). length rows) c.rows.ensures.rows)

pub returns-in_default-read-clause-err : goal.returns-in_default-read-clause-err
returns-in_default-read-clause-err c = stands_still c.self.inside.coding c.self.inside.order c.self.inside.progress c.self.inside.passed
    c.self.inside.count c.self.inside.turned.items c.args.self.now c.self.view_is c.new-in_default-read.result c.width-width.result
    c.fine-fine.result c.replace-kept.new.dest.items (ap (λ (v : Vec ℕ Global). v.items) c.replace-kept.ensures.after ∙
    c.new.ensures.items) c.new-in_default-read.ensures c.width-width.ensures c.fine-fine.ensures

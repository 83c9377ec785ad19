use Rattle.std.proofs.Common.{◌∙◌, Global, Vec, ap, ℕ}
use Rattle.std.specs.Prelude.{Ok, Err}
use Rattle.raster.specs.Packed.{bits_of}
use Rattle.page_code.specs.Codings.{read_rows}
use Rattle.page_code.proofs.GivesPage.{gives_begun}
use Rattle.page_code.proofs.PageReaders.{finish_only, finish_reads, finish_refuses, gives_now, keeps_from, reads_from, stands_empty}
use Rattle.page_code.proofs.PageReaders.{stands_still}
use Rattle.page_code.proofs.PageReaders.{wide_now}
use Rattle.page_code.proofs.page_reader.PageReader.finish.Goals as goal

pub read_to_end_turned-requires-clause-read : goal.read_to_end_turned-requires-clause-read
read_to_end_turned-requires-clause-read c = rw c.replace-progress.ensures.value (reads_from c.self.inside.coding c.self.inside.order
    c.self.inside.progress c.self.inside.passed c.self.inside.count c.self.inside.turned.items c.args.self.now c.self.view_is
    c.args.all.now c.requires)

pub read_to_end_turned-requires-clause-kept : goal.read_to_end_turned-requires-clause-kept
read_to_end_turned-requires-clause-kept c = rw c.replace-kept.ensures.value (keeps_from c.self.inside.coding c.self.inside.order
    c.self.inside.progress c.self.inside.passed c.self.inside.count c.self.inside.turned.items c.args.self.now c.self.view_is
    c.args.all.now c.requires)

pub returns-in-Ok-clause-ok : goal.returns-in-Ok-clause-ok
returns-in-Ok-clause-ok c = stands_empty c.self.inside.coding c.self.inside.order c.self.inside.progress c.self.inside.passed
    c.self.inside.count c.self.inside.turned.items c.args.self.now c.self.view_is c.replace-progress.new.dest c.width-width.result
    c.fine-fine.result c.replace-kept.new.dest.items
    (ap (λ (v : Vec ℕ Global). v.items) c.replace-kept.ensures.after ∙ c.new.ensures.items) (c.replace-progress.ensures.after ∙
    c.new-begun.ensures) c.width-width.ensures c.fine-fine.ensures c.self.invariant

pub returns-in-Ok-clause-reads : goal.returns-in-Ok-clause-reads
returns-in-Ok-clause-reads c =
    let gives = gives_now c.self.inside.coding c.self.inside.order c.self.inside.progress c.self.inside.passed c.self.inside.count
    c.self.inside.turned.items c.args.self.now c.self.view_is c.args.all.now (Ok c.in-Ok.answer) (rw c.replace-progress.ensures.value at
    c.in-Ok.ensures) in
    let wide = wide_now c.self.inside.coding c.self.inside.order c.self.inside.progress c.self.inside.passed c.self.inside.count
    c.self.inside.turned.items c.args.self.now c.self.view_is c.self.invariant in
    finish_reads c.args.self.now.coding c.args.self.now.page.width c.args.self.now.page.fine (bits_of c.args.self.now.order c.args.all.now)
    (Ok c.in-Ok.answer) wide gives

pub returns-in-Ok-clause-only : goal.returns-in-Ok-clause-only
returns-in-Ok-clause-only c =
    let gives = gives_now c.self.inside.coding c.self.inside.order c.self.inside.progress c.self.inside.passed c.self.inside.count
    c.self.inside.turned.items c.args.self.now c.self.view_is c.args.all.now (Ok c.in-Ok.answer) (rw c.replace-progress.ensures.value at
    c.in-Ok.ensures) in
    let wide = wide_now c.self.inside.coding c.self.inside.order c.self.inside.progress c.self.inside.passed c.self.inside.count
    c.self.inside.turned.items c.args.self.now c.self.view_is c.self.invariant in
    finish_only c.args.self.now.coding c.args.self.now.page.width c.args.self.now.page.fine (bits_of c.args.self.now.order c.args.all.now)
    (Ok c.in-Ok.answer) wide gives

pub returns-in-Err-clause-err : goal.returns-in-Err-clause-err
returns-in-Err-clause-err c = stands_still c.self.inside.coding c.self.inside.order c.self.inside.progress c.self.inside.passed
    c.self.inside.count c.self.inside.turned.items c.args.self.now c.self.view_is c.replace-progress.new.dest c.width-width.result
    c.fine-fine.result c.replace-kept.new.dest.items
    (ap (λ (v : Vec ℕ Global). v.items) c.replace-kept.ensures.after ∙ c.new.ensures.items) (c.replace-progress.ensures.after ∙
    c.new-begun.ensures) c.width-width.ensures c.fine-fine.ensures

pub returns-in-Err-clause-only : goal.returns-in-Err-clause-only
returns-in-Err-clause-only c =
    let gives = gives_now c.self.inside.coding c.self.inside.order c.self.inside.progress c.self.inside.passed c.self.inside.count
    c.self.inside.turned.items c.args.self.now c.self.view_is c.args.all.now (Err c.in-Err.fault) (rw c.replace-progress.ensures.value at
    c.in-Err.ensures) in
    let begun = gives_begun (read_rows c.args.self.now.coding c.args.self.now.page.width (bits_of c.args.self.now.order c.args.all.now))
    c.args.self.now.page.width 0 c.args.self.now.page.fine c.in-Err.fault c.begun_at.result c.begun_at.ensures gives in
    let wide = wide_now c.self.inside.coding c.self.inside.order c.self.inside.progress c.self.inside.passed c.self.inside.count
    c.self.inside.turned.items c.args.self.now c.self.view_is c.self.invariant in
    finish_only c.args.self.now.coding c.args.self.now.page.width c.args.self.now.page.fine (bits_of c.args.self.now.order c.args.all.now)
    (Err c.begun_at.result) wide begun

pub returns-in-Err-clause-refuses : goal.returns-in-Err-clause-refuses
returns-in-Err-clause-refuses c =
    let gives = gives_now c.self.inside.coding c.self.inside.order c.self.inside.progress c.self.inside.passed c.self.inside.count
    c.self.inside.turned.items c.args.self.now c.self.view_is c.args.all.now (Err c.in-Err.fault) (rw c.replace-progress.ensures.value at
    c.in-Err.ensures) in
    let begun = gives_begun (read_rows c.args.self.now.coding c.args.self.now.page.width (bits_of c.args.self.now.order c.args.all.now))
    c.args.self.now.page.width 0 c.args.self.now.page.fine c.in-Err.fault c.begun_at.result c.begun_at.ensures gives in
    let wide = wide_now c.self.inside.coding c.self.inside.order c.self.inside.progress c.self.inside.passed c.self.inside.count
    c.self.inside.turned.items c.args.self.now c.self.view_is c.self.invariant in
    finish_refuses c.args.self.now.coding c.args.self.now.page.width c.args.self.now.page.fine (bits_of c.args.self.now.order
    c.args.all.now) (Err c.begun_at.result) wide begun

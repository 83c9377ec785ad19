-- What the check asks of `add_named`.
use Rattle.std.proofs.Common.{subst}
use Rattle.command_files.specs.Apart.{AddsFiles}
use Rattle.command_files.proofs.ApartLemmas.{adds_item, adds_items, adds_none}
use Rattle.commands.specs.Files.{file_read}
use Rattle.commands.proofs.decode.each.EachCommand.add_named.Goals as goal

pub loop-name-init : goal.loop-name-init
loop-name-init c = adds_none _

pub loop-name-preserved : goal.loop-name-preserved
loop-name-preserved c =
    let mid = c.loop-name.files.files.items in
    let new = c.reads.new.self.files.items in
    let one = rw c.as_str.ensures.value at c.in_ok-reads.ensures in
    adds_item file_read c.args.self.now.files.items c.loop-name.name-index _ c.args.files.now.files.items mid new
    (rw c.deref-name-items.ensures.value at c.loop-name-test.true) c.loop-name.invariant
    (subst (λ name. AddsFiles (file_read name) mid new) (rw c.deref-name-items.ensures.value at c.name-item.is) one)

pub returns : goal.returns
returns c =
    adds_items file_read c.args.self.now.files.items c.loop-name.name-index _ _
    (rw c.deref-name-items.ensures.value at c.loop-name-test.false) c.loop-name.invariant

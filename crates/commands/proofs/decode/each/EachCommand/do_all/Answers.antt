-- What the check asks of `do_all`.
use Rattle.std.proofs.Common.{◌≡◌, ◌∙◌, None, map}
use Rattle.std.specs.Prelude.{string_bytes}
use Rattle.commands.proofs.PrintedFiles.{all_listed, prints_all, prints_next}
use Rattle.commands.specs.Each.{IsReported}
use Rattle.commands.proofs.decode.each.EachCommand.do_all.Goals as goal

pub loop-name-preserved : goal.loop-name-preserved
loop-name-preserved g c =
    let one = rw (c.as_str.ensures.value, c.loop-name.invariant.json) at c.in_ok-is_done.ensures.complete in
    record {
      printed = rw c.both-is_complete.ensures
          (prints_next (IsReported c.args.self.now c.args.printer.now.json) string_bytes c.args.self.now.files.items c.loop-name.name-index
          _ _ _ _ _ _ _ (rw c.deref-name-items.ensures.value at c.loop-name-test.true)
          (rw c.deref-name-items.ensures.value at c.name-item.is) c.loop-name.invariant.printed one);
      json = c.do_file.ensures.json ∙ c.loop-name.invariant.json;
    }

pub returns-clause-complete : goal.returns-clause-complete
returns-clause-complete g c =
    let items = c.args.self.now.files.items in
    all_listed (IsReported c.args.self.now c.args.printer.now.json) (c.args.self.now.list ≡ None) c.do_listed.result (map string_bytes items)
    _ _ _ c.loop-name.is_complete
    (prints_all (IsReported c.args.self.now c.args.printer.now.json) string_bytes items c.loop-name.name-index _ _ _
    (rw c.deref-name-items.ensures.value at c.loop-name-test.false) c.loop-name.invariant.printed)
    (rw c.loop-name.invariant.json at c.do_listed.ensures.complete)

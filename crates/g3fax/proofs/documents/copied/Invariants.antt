use Rattle.std.proofs.Common.{◌≡◌, ◌++◌}
use Rattle.g3fax.proofs.documents.copied.Given as goal

abbrev pub invariant-loop-row : goal.invariant-loop-row
invariant-loop-row l = record {
  copy : l.copy ≡ record {
    width = l.page.width;
    fine = l.page.fine;
    rows = l.yielded;
  };
  all : l.yielded ++ l.row-iterator ≡ l.page.rows;
}

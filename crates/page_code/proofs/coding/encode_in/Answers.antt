-- What the check asks of `encode_in`.
use Rattle.std.proofs.Common.{◌∙◌, sym}
use Rattle.std.proofs.lemmas.Result.{on_err_weaker, on_ok_weaker}
use Rattle.raster.specs.Octets.{AreOctets}
use Rattle.page_code.specs.Codings.{code_of}
use Rattle.page_code.proofs.AppendedOctets.{appended, err_of_ok, ok_of_err, unchanged}
use Rattle.page_code.proofs.coding.encode_in.Goals as goal
use Rattle.page_code.proofs.coding.encode_in.Goals.{then-is_err, else-is_err}

pub returns-clause-ok : goal.returns-clause-ok
returns-clause-ok c =
    let old : AreOctets c.args.out.now.items = rw c.deref.ensures.value at c.are_octets.ensures in
    let new : AreOctets c.into_octets.result.items = rw c.deref-2.ensures.value at c.are_octets-2.ensures in
    elim c.if-is_err.branch [
      | then-is_err w ↦ ok_of_err _ c.write_page-done.result (sym c.is_err.ensures.value ∙ w.if-is_err.true)
      | else-is_err w ↦
          on_ok_weaker c.write_page-done.result
          (λ appends.
          appended c.args.order (code_of c.args.coding c.args.page.now.width c.args.page.now.rows) c.args.out.now.items
          c.into_octets.result.items c.in_ok-bits.bits c.write_page-done.new.bits old new c.in_ok-bits.ensures.ok appends (rw w.bits-is
          at c.into_octets.ensures)) c.write_page-done.ensures.ok
    ]

pub returns-clause-err : goal.returns-clause-err
returns-clause-err c =
    let old : AreOctets c.args.out.now.items = rw c.deref.ensures.value at c.are_octets.ensures in
    let new : AreOctets c.into_octets.result.items = rw c.deref-2.ensures.value at c.are_octets-2.ensures in
    elim c.if-is_err.branch [
      | then-is_err w ↦
          on_err_weaker c.write_page-done.result
          (λ keeps.
          unchanged c.args.order c.args.out.now.items c.into_octets.result.items c.bits-start.result c.in_ok-bits.bits
          c.write_page-done.new.bits w.truncate.new.self old new c.in_ok-bits.ensures.ok c.bits-start.ensures keeps
          w.truncate.ensures (rw w.bits-is at c.into_octets.ensures))
          c.write_page-done.ensures.err
      | else-is_err w ↦ err_of_ok _ c.write_page-done.result (sym c.is_err.ensures.value ∙ w.if-is_err.false)
    ]

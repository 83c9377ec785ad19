-- What the check asks of `call_to_end`.
use Rattle.std.proofs.Common.{◌≡◌, [], rules}
use Rattle.std.specs.Prelude.{IfSome}
use Rattle.std.proofs.lemmas.Result.{err_from_is_err_and}
use Rattle.calls.specs.Calls.{LeavesCall}
use Rattle.calls.proofs.CallEnds.{Refuses, of_known}
use Rattle.calls.proofs.call.call_to_end.Goals as goal

pub returns-in_err-ending-clause-refused : goal.returns-in_err-ending-clause-refused
returns-in_err-ending-clause-refused g c =
    let none : c.new-said.result.items ≡ [] = search rules in
    let p = err_from_is_err_and c.from_residual-in_err-ending.result c.from_residual-in_err-ending.ensures.1 in
    rw (p.1, p.2)
    (of_known (λ said. Refuses c.args.options.now.fine said (g.R.Read.remaining c.args.input.now) c.in_err-ending.field-0.0)
    (g.S.Read.remaining c.args.script.now) c.new-said.result.items c.read_to_end.new.buf.items c.as_slice.result.now
    c.in_ok-read_to_end.ensures.bytes none c.as_slice.ensures.value c.in_err-ending.ensures.refused)

pub returns-clause-called : goal.returns-clause-called
returns-clause-called g c =
    let none : c.new-said.result.items ≡ [] = search rules in
    of_known (λ said. IfSome (g.R.Read.remaining c.args.input.now) (λ images. LeavesCall c.args.options.now said images
    (g.T.CallWriter.written c.args.writer.now) (g.T.CallWriter.written c.call_of_text.new.writer) c.in_ok-ending.ending))
    (g.S.Read.remaining c.args.script.now) c.new-said.result.items c.read_to_end.new.buf.items c.as_slice.result.now
    c.in_ok-read_to_end.ensures.bytes none c.as_slice.ensures.value c.in_ok-ending.ensures.called

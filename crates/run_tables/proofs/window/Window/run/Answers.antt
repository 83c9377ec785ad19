use Rattle.std.proofs.Common.{◌-◌, ◌+◌, ◌≤◌, ◌∙◌, arith, ap, length, subst}
use Rattle.std.specs.Prelude.{Ok}
use Rattle.std.proofs.lemmas.Bool.{OnTrue_at}
use Rattle.run_tables.specs.CodeReading.{ReadsRunWithin}
use Rattle.run_tables.specs.Numbers.{AreFirst}
use Rattle.run_tables.specs.Reading.{Reading, rest_of}
use Rattle.run_tables.specs.Windows.{passed}
use Rattle.run_tables.proofs.QuickRuns.{passed_twice, quick_low, quick_high, window_left}
use Rattle.run_tables.proofs.window.Window.run.Goals as goal

pub returns-then-high-lt64-clause-some : goal.returns-then-high-lt64-clause-some
returns-then-high-lt64-clause-some c past =
    let held = c.holds-first.new.self in
    let enough = OnTrue_at c.if-not-first.false c.holds-first.ensures.enough in
    subst (λ (old : Reading). ReadsRunWithin c.args.color c.args.room past old (passed c.pass.new.self.reader c.pass.new.self.used)
    (Ok c.run-high.result)) c.holds-first.ensures.place (quick_low c.args.color c.args.room past (passed held.reader held.used)
    (passed c.pass.new.self.reader c.pass.new.self.used) (57 - held.used) held.word c.run-high.result c.bits-bits.result
    (rw (c.run-high.ensures.is, c.bits-bits.ensures.is) c.in_ok-first.ensures.code) c.holds-first.ensures.window.held (omega (arith, enough))
    (window_left held.reader held.used held.word c.holds-first.ensures.window) (omega (arith, c.bits-bits.ensures.is, c.in_ok-first.ensures.length)) (omega (arith, c.bits-bits.ensures.is, c.in_ok-first.ensures.some))
    c.if-high-lt64.true c.if-high-room.false
    (c.pass.ensures.place ∙ passed_twice held.reader held.used c.bits-bits.result))

pub returns-clause-some : goal.returns-clause-some
returns-clause-some c past =
    let held = c.holds-first.new.self in
    let both = c.holds-both.new.self in
    let enough = OnTrue_at c.if-not-first.false c.holds-first.ensures.enough in
    let more = OnTrue_at c.if-not-both.false c.holds-both.ensures.enough in
    let bits = c.bits-bits.result + c.bits-more.result in
    subst (λ (old : Reading). ReadsRunWithin c.args.color c.args.room past old (passed c.pass-2.new.self.reader c.pass-2.new.self.used)
    (Ok (c.run-high.result + c.run-low.result))) c.holds-first.ensures.place
    (quick_high c.args.color c.args.room past (passed held.reader held.used)
    (passed c.pass-2.new.self.reader c.pass-2.new.self.used) (57 - held.used) held.word c.run-high.result c.bits-bits.result
    (57 - both.used) both.word c.run-low.result c.bits-more.result (rw (c.run-high.ensures.is, c.bits-bits.ensures.is) c.in_ok-first.ensures.code)
    c.holds-first.ensures.window.held (omega (arith, enough))
    (window_left held.reader held.used held.word c.holds-first.ensures.window) (omega (arith, c.bits-bits.ensures.is, c.in_ok-first.ensures.length)) (omega (arith, c.bits-bits.ensures.is, c.in_ok-first.ensures.some))
    c.if-high-lt64.false (rw (c.run-low.ensures.is, c.bits-more.ensures.is) c.in_ok-second.ensures.code)
    (subst (λ (r : Reading). AreFirst (57 - both.used) (rest_of r) both.word) c.holds-both.ensures.place c.holds-both.ensures.window.held)
    (omega (arith, more)) (omega arith)
    (subst (λ (r : Reading). 57 - both.used ≤ length (rest_of r)) c.holds-both.ensures.place
    (window_left both.reader both.used both.word c.holds-both.ensures.window))
    (omega (arith, c.bits-more.ensures.is, c.in_ok-second.ensures.length)) (omega (arith, c.bits-more.ensures.is, c.in_ok-second.ensures.some)) (omega arith) (omega arith)
    (c.pass-2.ensures.place ∙ (passed_twice both.reader both.used bits ∙
    ap (λ (r : Reading). passed r bits) c.holds-both.ensures.place)))

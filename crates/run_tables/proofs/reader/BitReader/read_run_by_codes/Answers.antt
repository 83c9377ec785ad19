use Rattle.std.proofs.Common.{inl, inr, refl}
use Rattle.std.proofs.lemmas.Result.{err_from_is_err_and}
use Rattle.run_tables.proofs.RunReads.{low_run}
use Rattle.run_tables.proofs.reader.BitReader.read_run_by_codes.Goals as goal

pub returns-in_err-high : goal.returns-in_err-high
returns-in_err-high c =
    let p = err_from_is_err_and c.from_residual.result c.from_residual.ensures.1 in
    rw (p.1, p.2) (inl (inl (c.next_code.new.self, c.in_err-high.ensures.picks)))

pub returns-then-high-room : goal.returns-then-high-room
returns-then-high-room c =
    rw (c.new.ensures, c.place-first.ensures.place)
    (inl (inr (c.in_ok-high.high, c.next_code.new.self, c.in_ok-high.ensures.picks, c.if-high-room.true, refl)))

pub returns-then-high-lt64 : goal.returns-then-high-lt64
returns-then-high-lt64 c = inl (c.in_ok-high.ensures.picks, c.if-high-lt64.true, c.if-high-room.false)

pub returns-in_err-low : goal.returns-in_err-low
returns-in_err-low c =
    let p = err_from_is_err_and c.from_residual-in_err-low.result c.from_residual-in_err-low.ensures.1 in
    rw (p.1, p.2) (inr (
      c.in_ok-high.high,
      c.next_code.new.self,
      (c.in_ok-high.ensures.picks, c.if-high-lt64.false, c.if-high-room.false),
      inl (c.next_code-2.new.self, c.in_err-low.ensures.picks),
    ))

pub returns-then-low-room : goal.returns-then-low-room
returns-then-low-room c =
    rw (c.new-then-low-room.ensures, c.place-second.ensures.place)
    (inr (
      c.in_ok-high.high,
      c.next_code.new.self,
      (c.in_ok-high.ensures.picks, c.if-high-lt64.false, c.if-high-room.false),
      inr
          (c.in_ok-low.low, c.next_code-2.new.self, c.in_ok-low.ensures.picks, c.if-low-room.true, refl),
    ))

pub returns : goal.returns
returns c =
    let low = low_run c.in_ok-low.low c.in_ok-low.ensures.reads.0.0 in
    inr (
      c.in_ok-high.high,
      c.in_ok-low.low,
      c.next_code.new.self,
      (c.in_ok-high.ensures.picks, c.if-high-lt64.false, c.if-high-room.false),
      (c.in_ok-low.ensures.picks, low, c.if-low-room.false),
      refl,
    )

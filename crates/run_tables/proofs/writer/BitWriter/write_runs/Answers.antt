use Rattle.std.proofs.Common.{ℕ, arith, ap, sym, refl, ◌∙◌, ◌≡◌, ◌+◌, ◌-◌, ◌<◌, ◌++◌, length}
use Rattle.std.specs.Prelude.{slice_index_or}
use Rattle.std.proofs.lemmas.Result.{on_ok_weaker}
use Rattle.raster.specs.declared.row.Color.TheVariants.{White, Black}
use Rattle.run_tables.specs.Codes.{run_words}
use Rattle.raster.specs.Packed.{Bits}
use Rattle.run_tables.proofs.RowWriting.{both_written, change_on, first_change, first_written, keeps_on, last_written, same_at, written_on}
use Rattle.run_tables.proofs.writer.BitWriter.write_runs.Goals as goal

pub loop-index-init : goal.loop-index-init
loop-index-init c = record {
  written = λ row all wide. first_written row c.args.self.now c.write_run.new.self c.place_at-at.result (first_change row
      c.args.places.now c.place_at-at.result all (c.place_at-at.ensures ∙ ap (λ (w : ℕ). slice_index_or c.args.places.now 0 w) (sym wide)))
      c.in_ok-write_run.ensures.ok;
  keeps = (run_words White c.place_at-at.result, c.in_ok-write_run.ensures.ok);
  some = omega arith;
  place = c.place_at-at.ensures;
}

pub overflow_sub-black : goal.overflow_sub-black
overflow_sub-black c =
    let step = change_on c.requires.places.0 c.args.places.now c.args.width c.loop-index.index c.loop-index.at (slice_index_or
    c.args.places.now c.loop-index.index 0) c.requires.places.1 c.requires.places.2 c.loop-index.invariant.some (omega (
      arith,
      c.loop-index-test.true,
      c.saturating_sub-last.ensures,
    )) c.loop-index.invariant.place refl in
    omega (arith, step.1)

pub overflow_sub-black-then-index-places : goal.overflow_sub-black-then-index-places
overflow_sub-black-then-index-places c =
    let step = change_on c.requires.places.0 c.args.places.now c.args.width c.loop-index.index c.loop-index.at (slice_index_or
    c.args.places.now c.loop-index.index 0) c.requires.places.1 c.requires.places.2 c.loop-index.invariant.some c.if-index-places.true
    c.loop-index.invariant.place refl in
    omega (arith, step.1)

pub loop-index-preserved : goal.loop-index-preserved
loop-index-preserved c =
    let places = c.args.places.now in
    let index = c.loop-index.index in
    let black = slice_index_or places index 0 in
    let white = slice_index_or places (index + 1) 0 in
    let low : index < length places = omega (arith, c.loop-index-test.true, c.saturating_sub-last.ensures) in
    let more : index + 1 < length places = omega (arith, c.loop-index-test.true, c.saturating_sub-last.ensures) in
    let before : black ≡ slice_index_or places (index + 1 - 1) c.args.width
    = same_at places index (index + 1 - 1) c.args.width low (omega arith) in
    let first = run_words Black (black - c.loop-index.at) in
    let mid : Bits = record c.loop-index.self { bits = c.loop-index.self.bits ++ first } in
    let after = both_written c.loop-index.self c.write_two.new.self first (run_words White (white - black)) c.in_ok-write_two.ensures.ok in
    record {
      written = λ row all wide. written_on row places c.args.width (index + 1) black white c.args.self.now mid c.write_two.new.self White
          (written_on row places c.args.width index c.loop-index.at black c.args.self.now c.loop-index.self mid Black
          (c.loop-index.invariant.written row all wide) all wide c.loop-index.invariant.some low c.loop-index.invariant.place refl refl)
          all wide (omega arith) more before refl after;
      keeps = keeps_on c.args.self.now mid c.write_two.new.self (run_words White (white - black)) (keeps_on c.args.self.now
          c.loop-index.self mid first c.loop-index.invariant.keeps refl) after;
      some = omega arith;
      place = same_at places (index + 1) (index + 2 - 1) c.args.width more (omega arith);
    }

pub returns-then-index-places-clause-ok : goal.returns-then-index-places-clause-ok
returns-then-index-places-clause-ok c =
    let places = c.args.places.now in
    let index = c.loop-index.index in
    let black = slice_index_or places index 0 in
    on_ok_weaker c.write_run-then-index-places-2.result (λ wrote row all wide.
    let low = change_on row places c.args.width index c.loop-index.at black all wide c.loop-index.invariant.some
    c.if-index-places.true c.loop-index.invariant.place refl in
    last_written row places c.args.width (index + 1) black c.args.self.now c.write_run-then-index-places.new.self
    c.write_run-then-index-places-2.new.self White (written_on row places c.args.width index c.loop-index.at black c.args.self.now
    c.loop-index.self c.write_run-then-index-places.new.self Black (c.loop-index.invariant.written row all wide) all wide
    c.loop-index.invariant.some c.if-index-places.true c.loop-index.invariant.place refl c.in_ok-write_run-2.ensures.ok) all wide
    (omega arith) (omega (arith, c.loop-index-test.false, c.saturating_sub-last.ensures)) (same_at places index (index + 1 - 1)
    c.args.width c.if-index-places.true (omega arith)) (omega (arith, low.2, wide)) wrote)
    c.write_run-then-index-places-2.ensures.ok

pub returns-in_ok-write_run-3-clause-ok : goal.returns-in_ok-write_run-3-clause-ok
returns-in_ok-write_run-3-clause-ok c row all wide =
    last_written row c.args.places.now c.args.width c.loop-index.index c.loop-index.at c.args.self.now c.loop-index.self
    c.write_run-then-at-width.new.self Black (c.loop-index.invariant.written row all wide) all wide c.loop-index.invariant.some
    (omega (arith, c.if-index-places.false)) c.loop-index.invariant.place c.if-at-width.true c.in_ok-write_run-3.ensures.ok

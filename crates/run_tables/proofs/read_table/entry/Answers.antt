use Rattle.std.proofs.Common.{◌/◌, refl, arith, sym, ◌∙◌}
use Rattle.raster.specs.declared.row.Color.TheVariants.{White, Black}
use Rattle.run_tables.proofs.QuickRuns.{entry_short}
use Rattle.run_tables.proofs.ReadTableLemmas.{length_packed, short_packed}
use Rattle.run_tables.proofs.read_table.entry.Goals as goal
use Rattle.run_tables.proofs.read_table.entry.Goals.{in-White, in-Black}

pub bounds-held-at : goal.bounds-held-at
bounds-held-at c = elim c.match-color.branch [
  | in-White w ↦ rw (length_packed _ _ c.entries-held.ensures, w.in-White.is, w.at-is) (omega arith)
  | in-Black w ↦ rw (length_packed _ _ c.entries-held.ensures, w.in-Black.is, w.at-is) (omega arith)
]

pub long_entry-long-requires : goal.long_entry-long-requires
long_entry-long-requires c = elim c.match-color.branch [
  | in-White w ↦
      let seen = short_packed White c.entries-held.result.now 4 c.args.next (c.args.next / 16) c.match-color.at
      (rw w.in-White.is at c.entries-held.ensures) refl refl (omega arith) w.at-is in
      rw w.in-White.is (omega (arith, seen.0 (sym c.bits.ensures.is ∙ c.if-bits-eq0.true)))
  | in-Black w ↦
      let seen = short_packed Black c.entries-held.result.now 7 c.args.next (c.args.next / 128) c.match-color.at
      (rw w.in-Black.is at c.entries-held.ensures) refl refl (omega arith) w.at-is in
      rw w.in-Black.is (omega (arith, seen.0 (sym c.bits.ensures.is ∙ c.if-bits-eq0.true)))
]

pub returns-clause-some : goal.returns-clause-some
returns-clause-some c = elim c.match-color.branch [
  | in-White w ↦
      let seen = short_packed White c.entries-held.result.now 4 c.args.next (c.args.next / 16) c.match-color.at
      (rw w.in-White.is at c.entries-held.ensures) refl refl (omega arith) w.at-is in
      rw w.in-White.is (seen.1 (λ zero. c.if-bits-eq0.false (c.bits.ensures.is ∙ zero)))
  | in-Black w ↦
      let seen = short_packed Black c.entries-held.result.now 7 c.args.next (c.args.next / 128) c.match-color.at
      (rw w.in-Black.is at c.entries-held.ensures) refl refl (omega arith) w.at-is in
      rw w.in-Black.is (seen.1 (λ zero. c.if-bits-eq0.false (c.bits.ensures.is ∙ zero)))
]

pub returns-clause-most : goal.returns-clause-most
returns-clause-most c = entry_short c.args.color _ _ (returns-clause-some c)

pub returns-else-bits-eq0-2-clause-most : goal.returns-else-bits-eq0-2-clause-most
returns-else-bits-eq0-2-clause-most c = entry_short c.args.color _ _ c.long_entry-long.ensures

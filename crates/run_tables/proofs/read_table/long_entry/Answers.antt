use Rattle.std.proofs.Common.{ap, arith, refl, ◌∙◌}
use Rattle.run_tables.specs.ReadTables.{held_entries, unpacked}
use Rattle.run_tables.proofs.QuickRuns.{entry_small}
use Rattle.run_tables.proofs.ReadTableLemmas.{length_packed, long_held, long_places, packed_at, unpacked_is}
use Rattle.run_tables.proofs.read_table.long_entry.Goals as goal

pub bounds-held-next : goal.bounds-held-next
bounds-held-next c = rw (length_packed _ _ c.entries-held.ensures) (omega (arith, c.requires))

pub returns : goal.returns
returns c =
    let is = long_held c.args.color (held_entries c.args.color) c.args.next (0, 0) refl c.requires (long_places c.args.color) in
    ap unpacked (packed_at c.args.color c.entries-held.result.now c.args.next c.entries-held.ensures (bounds-held-next c)) ∙
    (unpacked_is _ (omega (arith, entry_small c.args.color _ _ is)) ∙ is)

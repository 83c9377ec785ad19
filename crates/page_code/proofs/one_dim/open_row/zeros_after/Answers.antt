use Rattle.std.proofs.Common.{ap, rules, sym, ◌∙◌}
use Rattle.raster.specs.Packed.{bits_of}
use Rattle.page_code.proofs.OneDimension.OpenRows.{known_in, zeros_known}
use Rattle.page_code.proofs.OneDimension.SeesEol.{more_zeros}
use Rattle.page_code.proofs.one_dim.open_row.zeros_after.Goals as goal

pub overflow_add-place : goal.overflow_add-place
overflow_add-place c =
    let within = known_in c.args.order c.args.octets.now c.args.place c.args.known c.requires.place c.requires.known in
    search rules

pub zeros_from-requires : goal.zeros_from-requires
zeros_from-requires c = known_in c.args.order c.args.octets.now c.args.place c.args.known c.requires.place c.requires.known

pub returns-in_err-more-clause-zeros : goal.returns-in_err-more-clause-zeros
returns-in_err-more-clause-zeros c = c.from_residual.ensures ∙ sym (zeros_known (bits_of c.args.order c.args.octets.now) c.args.place
    c.args.known c.requires.known ∙ ap (more_zeros c.args.known) (sym c.in_err-more.ensures.zeros))

pub returns-clause-zeros : goal.returns-clause-zeros
returns-clause-zeros c = sym (zeros_known (bits_of c.args.order c.args.octets.now) c.args.place c.args.known c.requires.known ∙
    ap (more_zeros c.args.known) (sym c.in_ok-more.ensures.zeros))

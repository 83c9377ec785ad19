-- What the check asks of `width_in`.
use Rattle.std.proofs.Common.{◌∙◌, sym}
use Rattle.raster.specs.Packed.{bits_of}
use Rattle.page_files.proofs.AgreedWidths.{one_read}
use Rattle.page_files.proofs.agreed_widths.width_in.Goals as goal

pub loop-start-preserved : goal.loop-start-preserved
loop-start-preserved c = record {
  within = c.in-Some.ensures.within;
  read = one_read c.args.widths.now (bits_of c.args.order c.args.octets.now) c.loop-start.place c.loop-start.before c.loop-start.invariant.read
      c.in-Some.start c.row_from.result c.usual_of-said.result (sym c.in-Some.ensures.line) c.row_from.ensures
      c.usual_of-said.ensures.usual (sym c.agree.ensures.agree ∙ c.in_default-agree.is);
}

use Rattle.std.proofs.Common.{ap, get_or, ◌∙◌, ℕ, List}
use Rattle.raster.proofs.PaintingLemmas.{stored_octets}
use Rattle.raster.proofs.painting.store.Goals as goal

pub returns : goal.returns
returns c = stored_octets c.args.octets.now c.args.from c.args.word c.put_octets.new.octets c.requires.aligned (record {
  length = c.put_octets.ensures.length;
  before = c.put_octets.ensures.before;
  put = λ j h. c.put_octets.ensures.inside j h ∙ ap (λ (xs : List ℕ). get_or xs j 0) c.octets_of.ensures;
  after = c.put_octets.ensures.after;
})

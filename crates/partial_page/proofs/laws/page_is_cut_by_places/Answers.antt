use Rattle.partial_page.proofs.NumberLemmas.{cuts-by-places, limits-by-blocks}
use Rattle.partial_page.proofs.laws.page_is_cut_by_places.Goals as goal

pub returns : goal.returns
returns c = record { places = cuts-by-places; limits = limits-by-blocks }

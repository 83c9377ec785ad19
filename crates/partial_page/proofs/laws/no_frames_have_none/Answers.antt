use Rattle.partial_page.proofs.StoreLemmas.{no_frames_tell}
use Rattle.partial_page.proofs.laws.no_frames_have_none.Goals as goal

pub returns : goal.returns
returns c = no_frames_tell

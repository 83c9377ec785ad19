use Rattle.terminals.proofs.BurstSizes.{answerers_bursts_are_short, callers_bursts_are_short}
use Rattle.terminals.proofs.FrameSizes.{frames_are_short}
use Rattle.terminals.proofs.laws.bursts_are_short.Goals as goal

pub returns-clause-frames : goal.returns-clause-frames
returns-clause-frames c = frames_are_short

pub returns-clause-caller : goal.returns-clause-caller
returns-clause-caller c =
    callers_bursts_are_short c.page_is_cut_into_full_frames.ensures c.bursts_cut.ensures.items c.written_fits_a_frame.ensures

pub returns-clause-answerer : goal.returns-clause-answerer
returns-clause-answerer c = answerers_bursts_are_short c.bursts_cut.ensures.items c.written_fits_a_frame.ensures

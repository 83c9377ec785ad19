-- What a call tells of how far a terminal is.
use Rattle.std.specs.Prelude.{ℕ, ◌≡◌}
use Rattle.std.specs.declared.option.Option.{Option}
use Rattle.std.specs.declared.option.Option.TheVariants.{None, Some}
use Rattle.stations.specs.HowFar.{answerer_progress}
use Rattle.stations.specs.declared.howfar.AnswererProgress.{AnswererProgress}
use Rattle.stations.specs.declared.howfar.BlockProgress.{BlockProgress}
use Rattle.stations.specs.declared.howfar.CallerProgress.{CallerProgress}
use Rattle.signals.specs.declared.mark.Mark.{Mark}
use Rattle.terminals.specs.Watching.{refusal_of_seen}
use Rattle.terminals.specs.declared.figures.Figures.{Figures}
use Rattle.terminals.specs.declared.watching.Refusal.{Refusal}
use Rattle.terminals.specs.declared.watching.Refusal.TheVariants.{NoErrorCorrection, NotOffered, UsedNumber}
use Rattle.terminals.specs.declared.watching.Refused.{Refused}
use Rattle.terminals.specs.declared.watching.Refused.TheVariants.{Never, Once, Twice}
use Rattle.terminals.specs.declared.watching.Watched.{Watched}
use Rattle.g3fax.specs.Answering.{AnsweringFields, count_left}
use Rattle.g3fax.specs.Codes.{Tells}
use Rattle.g3fax.specs.Figures.{figures_told}
use Rattle.g3fax.specs.declared.progress.G3Progress.{G3Progress}

-- how far a caller is whose call came to this, beside its block, by numbers; 0 for all that belongs to an answerer
abbrev pub calling_without : CallerProgress → Figures → G3Progress
calling_without far figures = record {
  pages = far.pages;
  confirmed = far.confirmed;
  block = 0;
  blocks = 0;
  octets = 0;
  resends = 0;
  tries = far.tries;
  frames = 0;
  accepted = 0;
  accepted_page = 0;
  accepted_block = 0;
  refused = 0;
  refused_why = 0;
  gap = 0;
  gap_page = 0;
  figures = figures_told figures;
}

-- the block that a caller sends, from 1, of how many, and how often frames of it were asked for again; 0 if it sends none
abbrev pub with_block : Option BlockProgress → G3Progress → G3Progress
with_block None told = told
with_block (Some far) told = record told { block = far.number; blocks = far.blocks; resends = far.resends }

-- how far a caller is whose call came to this, by numbers
abbrev pub calling_told : CallerProgress → Figures → G3Progress
calling_told far figures = with_block far.block (calling_without far figures)

-- how far an answerer with these pages, and so many of all confirmed, is whose call came to this, beside its mark, by numbers; 0 for all that
-- belongs to a caller
abbrev pub answering_without : AnswererProgress → ℕ → ℕ → Figures → G3Progress
answering_without far pages confirmed figures = record {
  pages = pages;
  confirmed = confirmed;
  block = 0;
  blocks = 0;
  octets = far.octets;
  resends = 0;
  tries = 0;
  frames = far.frames;
  accepted = 0;
  accepted_page = 0;
  accepted_block = 0;
  refused = 0;
  refused_why = 0;
  gap = 0;
  gap_page = 0;
  figures = figures_told figures;
}

-- the mark of the last block that an answerer accepted, if there is one
abbrev pub with_mark : Option Mark → G3Progress → G3Progress
with_mark None told = told
with_mark (Some mark) told = record told { accepted = 1; accepted_page = mark.page; accepted_block = mark.block }

-- how often a DCS wasn't allowed, 2 for twice or more
abbrev pub refused_times : Refused → ℕ
refused_times Never = 0
refused_times Once = 1
refused_times (Twice why) = 2

-- why a call is refused: 1 for a DCS without error correction, 2 for one of what isn't offered, 3 for a page under the number of the last one; 0
-- if it isn't
abbrev pub refused_why : Option Refusal → ℕ
refused_why None = 0
refused_why (Some NoErrorCorrection) = 1
refused_why (Some NotOffered) = 2
refused_why (Some UsedNumber) = 3

-- the page number that came first after a jump, if one did
abbrev pub with_gap : Option ℕ → G3Progress → G3Progress
with_gap None told = record told { gap = 0; gap_page = 0 }
with_gap (Some page) told = record told { gap = 1; gap_page = page }

-- what an answerer saw of its caller, if it saw anything
abbrev pub with_watch : Option Watched → G3Progress → G3Progress
with_watch None told = told
with_watch (Some w) told =
    with_gap w.pages.gap (record told { refused = refused_times w.refused; refused_why = refused_why (refusal_of_seen w) })

-- how far an answerer with these pages, and so many of all confirmed, is whose call came to this, by numbers
abbrev pub answering_told : AnswererProgress → ℕ → ℕ → Figures → G3Progress
answering_told far pages confirmed figures = with_mark far.accepted (answering_without far pages confirmed figures)

-- the numbers of a progress say how far an answerer is, with the pages stored and not handed out, those confirmed, what it saw, and what its call
-- came to; those of a caller are 0
pub record AnsweringTold (answering : AnsweringFields) (progress : G3Progress) : Type 0 where
  pub told : progress ≡
      with_watch answering.timed.watched
      (answering_told (answerer_progress answering.timed.terminal.speaking.station.station) progress.pages answering.tally.confirmed
      answering.timed.figures)
  pub pages : Tells (count_left answering) progress.pages

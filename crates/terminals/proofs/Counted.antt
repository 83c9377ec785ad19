-- What calls come to.
use Rattle.std.proofs.Common.{◌≡◌, ◌∙◌, ℕ, Bool, true, false, List, [], ◌∷◌, ap, refl, sym}
use Rattle.std.specs.Prelude.{Result, Ok, Err, cond, drop}
use Rattle.signals.specs.Controls.{control_of}
use Rattle.signals.specs.Reading.{page_end_of, params_of, read_content, read_fields}
use Rattle.signals.specs.Signals.{PlainSignal}
use Rattle.signals.specs.declared.fault.SignalFault.{SignalFault}
use Rattle.terminals.specs.Figures.{counted, figures_heard, hearing, is_of_page}
use Rattle.terminals.specs.FiguresLaws.{FiguresByOctets, PagesCountAsNothing, is_page_read, without_pages}
use Rattle.terminals.specs.Watching.{saw_all}
use Rattle.terminals.specs.declared.figures.Figures.{Figures}

pub figures_by_octets : FiguresByOctets
unfolding read_content read_fields params_of control_of page_end_of
figures_by_octets = record {
  answerer = refl;
  answerers_first = refl;
  answerers_last = refl;
  answerers_name = refl;
  caller = refl;
  heard_between = refl;
  nothing_between = refl;
  heard_commands = refl;
  before_blocks = refl;
  one_block = refl;
  four_blocks = refl;
  all_frames = refl;
  few_frames = refl;
  csi = refl;
  tsi = refl;
  kept = refl;
  speed = refl;
  left_out = refl;
  then_another = refl;
  then_none = refl;
}

-- a content that reads so, before others
read_first : (f : Figures) (content : List ℕ) (contents : List (List ℕ)) (said : Result PlainSignal SignalFault) →
    read_content content ≡ said →
    ((g : Figures) → saw_all figures_heard g contents ≡ saw_all figures_heard g (without_pages contents)) →
    saw_all figures_heard (figures_heard f content said) contents ≡
    saw_all figures_heard f (cond (is_page_read said) (without_pages contents) (content ∷ without_pages contents))
read_first f content contents (Err fault) is rest =
    rest (figures_heard f content (Err fault))
    ∙ ap (λ said. saw_all figures_heard (figures_heard f content said) (without_pages contents)) (sym is)
read_first f content contents (Ok signal) is rest =
    by (is_of_page signal) (counted (hearing f (drop 3 content) signal) signal) (ap (figures_heard f content) is)
  where
    by : (page : Bool) (g : Figures) → figures_heard f content (read_content content) ≡ cond page f g →
        saw_all figures_heard (cond page f g) contents ≡
        saw_all figures_heard f (cond page (without_pages contents) (content ∷ without_pages contents))
    by true g counts = rest f
    by false g counts = rest g ∙ ap (λ h. saw_all figures_heard h (without_pages contents)) (sym counts)

pub pages_count_as_nothing : PagesCountAsNothing
pages_count_as_nothing f [] = refl
pages_count_as_nothing f (content ∷ contents) =
    read_first f content contents (read_content content) refl (λ g. pages_count_as_nothing g contents)

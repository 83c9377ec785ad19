-- What the options of a call reach.
use Rattle.std.proofs.Common.{◌≡◌, ℕ, Bool, true, false, cond, List, [], ◌∷◌, refl, sym, subst}
use Rattle.std.specs.Prelude.{Err}
use Rattle.std.specs.List.{AllByRecursion}
use Rattle.raster.specs.declared.coding.Coding.{Coding}
use Rattle.raster.specs.declared.coding.Coding.TheVariants.{OneDim, T6}
use Rattle.raster.specs.Pages.{PagePixels}
use Rattle.raster.specs.Pbm.{Follow}
use Rattle.signals.specs.Agreement.{agreed, at_first, first_of, takes_pages, tried_speeds, wished_coding}
use Rattle.signals.specs.Signals.{dis}
use Rattle.signals.specs.Writing as writing
use Rattle.signals.specs.Writing.{content_of}
use Rattle.signals.specs.declared.params.Modems.{Modems}
use Rattle.signals.specs.declared.params.Modems.TheVariants.{Fallback, V27, V29, V27V29, V17}
use Rattle.signals.specs.declared.params.PageWidth.{PageWidth}
use Rattle.signals.specs.declared.params.PageWidth.TheVariants.{W1728, W2048, W2432}
use Rattle.signals.specs.declared.signal.Side.TheVariants.{Answerer}
use Rattle.calls.specs.Calls.{answerer_caps, caller_wish}
use Rattle.calls.specs.OptionsMean.{IsAsAsked, LinesAreAsked, OptionsMean, second_octet}
use Rattle.calls.specs.declared.options.CallOptions.{CallOptions}

octets : (modems : Modems) → content_of (dis (answerer_caps modems)) Answerer true ≡
    0xFF ∷ 0x13 ∷ 0x80 ∷ 0x00 ∷ second_octet modems ∷ 0xFA ∷ 0x44 ∷ []
unfolding content_of writing.dis_fields
octets Fallback = refl
octets V27 = refl
octets V29 = refl
octets V27V29 = refl
octets V17 = refl

takes : (modems : Modems) (width : PageWidth) (fine : Bool) → takes_pages (answerer_caps modems) width fine ≡ true
takes modems W1728 true = refl
takes modems W1728 false = refl
takes modems W2048 true = refl
takes modems W2048 false = refl
takes modems W2432 true = refl
takes modems W2432 false = refl

wished : (coding : Coding) → wished_coding coding true ≡ coding
wished OneDim = refl
wished T6 = refl

-- what is agreed on is what is asked for, where it is at the first speed
asked : (options : CallOptions) (width : PageWidth) (fine : Bool)
    → IsAsAsked options width fine (at_first (first_of (tried_speeds options.modems options.modems)) (answerer_caps options.modems)
    (caller_wish options) width fine)
asked options width fine = at options.modems refl
  where
    at : (modems : Modems) → options.modems ≡ modems → IsAsAsked options width fine
        (at_first (first_of (tried_speeds modems modems)) (answerer_caps options.modems) (caller_wish options) width fine)
    at Fallback is = record { code = wished options.coding; frames = refl; wide = refl; lines = refl; speed = rw is refl }
    at V27 is = record { code = wished options.coding; frames = refl; wide = refl; lines = refl; speed = rw is refl }
    at V29 is = record { code = wished options.coding; frames = refl; wide = refl; lines = refl; speed = rw is refl }
    at V27V29 is = record { code = wished options.coding; frames = refl; wide = refl; lines = refl; speed = rw is refl }
    at V17 is = record { code = wished options.coding; frames = refl; wide = refl; lines = refl; speed = rw is refl }

agrees : (options : CallOptions) (width : PageWidth) (fine : Bool)
    → IsAsAsked options width fine (agreed (answerer_caps options.modems) (caller_wish options) width fine)
agrees options width fine = subst (λ (b : Bool). IsAsAsked options width fine (cond b
    (at_first (first_of (tried_speeds options.modems options.modems)) (answerer_caps options.modems) (caller_wish options) width fine)
    (Err (record {})))) (sym (takes options.modems width fine)) (asked options width fine)

pub options_mean : OptionsMean
options_mean options document = record {
  to_answerer = refl;
  to_caller = refl;
  octets = octets options.modems;
  document_is = refl;
  agrees = agrees options;
}

all_fine : (fine : Bool) (images : List ℕ) (pages : List PagePixels) → Follow fine images pages
    → AllByRecursion (λ (page : PagePixels). page.fine ≡ fine) pages
all_fine fine images [] none = tt
all_fine fine images (page ∷ pages) (front, rest, is, same, image, more) = (same, all_fine fine rest pages more)

pub lines_are_asked : LinesAreAsked
lines_are_asked options script images before after pages run = all_fine options.fine images run.document run.read.1

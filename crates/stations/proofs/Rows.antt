-- Rows of what a station tells of itself.
use Rattle.std.proofs.Common.{◌≡◌, ◌≢◌, ◌∙◌, ◌+◌, ℕ, ap, refl, sym}
use Rattle.std.specs.Prelude.{Option, Some, None}
use Rattle.signals.specs.declared.params.Caps.{Caps}
use Rattle.signals.specs.declared.params.Params.{Params}
use Rattle.stations.specs.Blocks.{Block}
use Rattle.stations.specs.CallerStep.{Caller}
use Rattle.stations.specs.HowFar.{block_progress}
use Rattle.stations.specs.Limiting.{is_full}
use Rattle.stations.specs.Listening.{answerer_params, answerer_peer, caller_params, caller_peer}
use Rattle.stations.specs.Rows.{AnswerersKnowAlways, CallersKnowAlways, FullByRows, KeptOutByRowsAlways, ProgressByRows, StopsAreSaid}
use Rattle.stations.specs.Rows.{has_tried}
use Rattle.stations.specs.declared.howfar.BlockProgress.{BlockProgress}
use Rattle.stations.specs.declared.mark.Accepted.{Accepted}
use Rattle.stations.specs.declared.stopping.Cut.TheVariants.{Stop, Loss}
use Rattle.stations.specs.declared.turn.AnswererState.{AnswererState}
use Rattle.stations.specs.declared.turn.AnswererState.TheVariants.{PhaseB, WaitTraining, Message}
use Rattle.stations.specs.declared.turn.CallerState.{CallerState}
use Rattle.stations.specs.declared.turn.CallerState.TheVariants.{WaitDis, WaitCfr, WaitBlock, WaitReady}

has_params : (params : Params) (state : CallerState) → state ≢ WaitDis → caller_params state params ≡ Some params
has_params params WaitDis other = absurd (other refl)
has_params params WaitCfr other = refl
has_params params WaitBlock other = refl
has_params params WaitReady other = refl

knows : (caps : Caps) (state : CallerState) (pages : ℕ) → state ≢ WaitDis → caller_peer state pages caps ≡ Some caps
knows caps WaitDis pages other = absurd (other refl)
knows caps WaitCfr pages other = refl
knows caps WaitBlock pages other = refl
knows caps WaitReady pages other = refl

pub callers_know : CallersKnowAlways
callers_know params caps = record {
  between = refl;
  in_group = has_params params;
  nobody = refl;
  one_page = refl;
  somebody = knows caps;
}

has_dcs : (params : Params) (state : AnswererState) → state ≢ PhaseB → answerer_params state params ≡ Some params
has_dcs params PhaseB other = absurd (other refl)
has_dcs params WaitTraining other = refl
has_dcs params Message other = refl

knows_dcs : (params : Params) (state : AnswererState) (accepted : Option Accepted) → state ≢ PhaseB →
    answerer_peer state accepted params ≡ Some params
knows_dcs params PhaseB accepted other = absurd (other refl)
knows_dcs params WaitTraining accepted other = refl
knows_dcs params Message accepted other = refl

pub answerers_know : AnswerersKnowAlways
answerers_know params = record {
  phase_b = refl;
  in_group = has_dcs params;
  nobody = refl;
  accepted = λ accepted. refl;
  somebody = knows_dcs params;
}

pub stops_are_said : StopsAreSaid
stops_are_said (Some why) cut = (λ none. absurd cc, λ some. refl)
stops_are_said None (Some Stop) = (λ none. absurd cc, λ some. refl)
stops_are_said None (Some Loss) = (λ none. absurd cc, λ some. refl)
stops_are_said None None = (λ none. refl, λ some. absurd (some refl))

pub full_by_rows : FullByRows
unfolding is_full
full_by_rows = record { none = refl; one_of_two = refl; two_of_two = refl; octets = refl; few_octets = refl }

pub kept_out : KeptOutByRowsAlways
kept_out s = record {
  frame = λ number octets. refl;
  same = λ ends last. refl;
  next_block = λ ends last. refl;
  next_page = λ ends last. refl;
  first = λ ends page block last. refl;
  new_dcs = λ params. refl;
  asks = refl;
  leaves = refl;
  checks = λ octets. refl;
  waits = (refl, refl);
  told = λ is. refl;
}

numbered : (t : Caller) (block : Block) (told : BlockProgress) → block.place ≡ 2 → block_progress t (Some block) ≡ Some told →
    told.number ≡ 3
numbered t block told place is =
    let number : block.place + 1 ≡ told.number = cc in
    sym number ∙ ap (λ k. k + 1) place

resent : (t : Caller) (block : Block) (told : BlockProgress) → block_progress (has_tried t) (Some block) ≡ Some told → told.resends ≡ 1
resent t block told is =
    let resends : 1 ≡ told.resends = cc in
    sym resends

pub progress_by_rows : ProgressByRows
progress_by_rows = record {
  there = refl;
  closed = refl;
  number = numbered;
  tries = λ t. refl;
  resends = resent;
  of_pages = λ t. refl;
  answerer = λ s. refl;
  accepted = λ s. refl;
  no_block = λ t. refl;
  no_page = λ params. refl;
  refused = refl;
  first_missing = refl;
}

-- What a call answers that agrees on parameters.
use Rattle.std.specs.Prelude.{ℕ, ◌≡◌, Bool, Result, Ok, Err}
use Rattle.std.specs.declared.option.Option.{Option}
use Rattle.std.specs.declared.option.Option.TheVariants.{None, Some}
use Rattle.signals.specs.Agreement.{agreed}
use Rattle.signals.specs.Reasons.{IsFirstReason}
use Rattle.signals.specs.declared.agreement.NotCompatible.{NotCompatible}
use Rattle.signals.specs.declared.params.Caps.{Caps}
use Rattle.signals.specs.declared.params.PageWidth.{PageWidth}
use Rattle.signals.specs.declared.params.Params.{Params}
use Rattle.signals.specs.declared.params.Wish.{Wish}
use Rattle.signals.specs.declared.reason.Reason.{Reason}
use Rattle.g3fax.specs.SignalNumbers.{reason_number}
use Rattle.g3fax.specs.Signals.{params_told}
use Rattle.g3fax.specs.Statuses.{ok, bad_choice, not_callable, not_compatible}
use Rattle.g3fax.specs.declared.signal.G3Params.{G3Params}

-- what is agreed is told; or the status is 28, and the first reason is told
abbrev pub TellsAgreed : (Reason → Type 0) → Result Params NotCompatible → G3Params → G3Params → ℕ → ℕ → ℕ → Type 0
TellsAgreed Is (Ok params) old new was reason status = (status ≡ ok) × (new ≡ params_told params) × (reason ≡ was)
TellsAgreed Is (Err refused) old new was reason status =
    (status ≡ not_compatible) × (new ≡ old) × ((why : Reason) × Is why × (reason ≡ reason_number why))

-- what two stations agree on for pages
abbrev pub Agrees : Caps → Wish → PageWidth → Bool → G3Params → G3Params → ℕ → ℕ → ℕ → Type 0
Agrees caps wish width fine old new was reason status =
    TellsAgreed (IsFirstReason caps wish width fine) (agreed caps wish width fine) old new was reason status

-- this status, and nothing is told
abbrev pub RefusesAgree : ℕ → G3Params → G3Params → ℕ → ℕ → ℕ → Type 0
RefusesAgree refused old new was reason status = (status ≡ refused) × (new ≡ old) × (reason ≡ was)

-- What two stations agree on, for pages of a width. 104 if the numbers are not a DIS or a wish, else 26 if a call can't have the width,
-- else 28 if they don't agree, with the number of the first reason, 1 to 5. By any status above 0 the parameters stay, and by 0 the reason.
abbrev pub AnswersAgree :
    Option Caps → Option Wish → Option PageWidth → Bool → G3Params → G3Params → ℕ → ℕ → ℕ → Type 0
AnswersAgree None wish width fine old new was reason status = RefusesAgree bad_choice old new was reason status
AnswersAgree (Some caps) None width fine old new was reason status = RefusesAgree bad_choice old new was reason status
AnswersAgree (Some caps) (Some wish) None fine old new was reason status = RefusesAgree not_callable old new was reason status
AnswersAgree (Some caps) (Some wish) (Some width) fine old new was reason status = Agrees caps wish width fine old new was reason status

-- A training check that comes damaged is answered as it was sent, or as a spoiled one.
use Rattle.std.proofs.Common.{◌≡◌, ◌<◌, ◌*◌, Bool, true, false, cond, Option, Some, None, List, [], ◌∷◌, refl, ap, arith}
use Rattle.std.specs.Prelude.{ℕ, map, max, ◌&&◌}
use Rattle.std.proofs.lemmas.Bool.{false_from_ne_true, le-leb, leb-true}
use Rattle.signals.specs.Training.{longest_zeros, training_octets}
use Rattle.signals.specs.declared.params.Params.{Params}
use Rattle.signals.specs.declared.params.Speed.{Speed}
use Rattle.signals.specs.declared.params.Speed.TheVariants.{V27At2400, V27At4800, V29At7200, V29At9600, V17At7200, V17At9600, V17At12000}
use Rattle.signals.specs.declared.params.Speed.TheVariants.{V17At14400}
use Rattle.stations.specs.AnswererStep.{Answerer, AnswererAnswer, answerer_silent, answerer_step, answerer_table, unless_answerer_ended}
use Rattle.stations.specs.Inputs.{trains}
use Rattle.stations.specs.Layers.{is_good_training}
use Rattle.stations.specs.Limiting.{filled, is_full, limited_step}
use Rattle.stations.specs.declared.limiting.Limits.{Limits}
use Rattle.stations.specs.declared.turn.AnswererState.{AnswererState}
use Rattle.stations.specs.declared.turn.AnswererState.TheVariants.{PhaseB, WaitTraining, Message}
use Rattle.stations.specs.declared.turn.End.{End}
use Rattle.stations.specs.declared.turn.Turn.TheVariants.{Cfr, Ftt}
use Rattle.joined_terminals.specs.Happening.{Arrives}

-- octets FF alone
abbrev pub spoilt : List ℕ → List ℕ
spoilt sent = map (λ octet. 255) sent

no_zeros : (sent : List ℕ) → longest_zeros (spoilt sent) ≡ 0
no_zeros [] = refl
no_zeros (octet ∷ sent) = ap (max 0) (no_zeros sent)

some_octets : (speed : Speed) → 0 < training_octets speed
some_octets V27At2400 = omega arith
some_octets V27At4800 = omega arith
some_octets V29At7200 = omega arith
some_octets V29At9600 = omega arith
some_octets V17At7200 = omega arith
some_octets V17At9600 = omega arith
some_octets V17At12000 = omega arith
some_octets V17At14400 = omega arith

pub spoilt_is_bad : (sent : List ℕ) (params : Params) → is_good_training (spoilt sent) params ≡ false
unfolding is_good_training
spoilt_is_bad sent params =
    false_from_ne_true (is_good_training (spoilt sent) params)
    (λ e.
    omega
    (arith, leb-true (training_octets params.speed) (2 * longest_zeros (spoilt sent)) e, no_zeros sent, some_octets params.speed))

pub good_as_sent : (sent octets : List ℕ) (params : Params) → Arrives sent octets → is_good_training octets params ≡ true →
    is_good_training sent params ≡ true
unfolding is_good_training
good_as_sent sent octets params arrives e =
    le-leb (training_octets params.speed) (2 * longest_zeros sent)
    (omega (arith, leb-true (training_octets params.speed) (2 * longest_zeros octets) e, arrives))

-- checks that are both good or both bad are answered alike
answers_alike : (s : Answerer) (a b : List ℕ) → is_good_training a s.params ≡ is_good_training b s.params →
    answerer_step s (trains a) ≡ answerer_step s (trains b)
answers_alike s a b e = at s.ending
  where
    judged : Bool → AnswererAnswer
    judged good =
        cond good (record { next = record s { state = Message }; turn = Cfr }) (record { next = record s { state = PhaseB }; turn = Ftt })

    in_state : (state : AnswererState) → answerer_table state (trains a) s ≡ answerer_table state (trains b) s
    in_state PhaseB = refl
    in_state WaitTraining = ap (λ (good : Bool). judged good) e
    in_state Message = refl

    at : (ending : Option End) → unless_answerer_ended ending (trains a) s ≡ unless_answerer_ended ending (trains b) s
    at (Some why) = refl
    at None = in_state s.state

pub limited_alike : (limits : Limits) (s : Answerer) (a b : List ℕ) → is_good_training a s.params ≡ is_good_training b s.params →
    limited_step limits s (trains a) ≡ limited_step limits s (trains b)
limited_alike limits s a b e =
    ap
    (λ (x : AnswererAnswer).
    cond (is_full limits s.pages && false) (answerer_silent s) (filled (is_full limits s.pages) (is_full limits x.next.pages) x))
    (answers_alike s a b e)

-- An answerer with limits, by the inputs of one without.
use Rattle.std.specs.Prelude.{◌≡◌, true, not, cond, ◌&&◌, List, [], ◌∷◌, None}
use Rattle.stations.specs.AnswererStep.{Answerer, answerer_step}
use Rattle.stations.specs.Inputs.{AnswererInput, is_busy}
use Rattle.stations.specs.Limiting.{is_full, is_kept_out, busy_while, limited_step}
use Rattle.stations.specs.Runs.{answerer_after}
use Rattle.stations.specs.declared.limiting.Limits.{Limits}

-- the inputs by which an answerer without limits gets to where one with limits does: none for what is kept out, busy before the input that
-- fills it, and else the input itself
abbrev pub heard_as : Limits → Answerer → AnswererInput → List AnswererInput
heard_as limits s input =
    cond (is_full limits s.pages && is_kept_out s input)
    []
    (cond
    (not (is_full limits s.pages) && is_full limits (answerer_step s (busy_while (is_full limits s.pages) input)).next.pages)
    (is_busy true ∷ busy_while (is_full limits s.pages) input ∷ [])
    (busy_while (is_full limits s.pages) input ∷ []))

-- law: each step with limits leads to where these inputs lead an answerer without
abbrev pub LimitedIsPlain : Type 0
LimitedIsPlain =
    (limits : Limits) (s : Answerer) (input : AnswererInput) → s.ending ≡ None →
    (limited_step limits s input).next ≡ answerer_after (heard_as limits s input) s

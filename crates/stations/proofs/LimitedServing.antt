-- An answerer with limits over a list of what happens to it.
use Rattle.std.proofs.Common.{◌≡◌, Bool, true, false, cond, Option, Some, None, List, [], ◌∷◌, ◌++◌, refl, sym, ap, ◌∙◌, inl}
use Rattle.std.specs.Prelude.{◌&&◌, not}
use Rattle.stations.specs.AnswererKeeping.{AnswerersKeep}
use Rattle.stations.specs.AnswererStep.{Answerer, AnswererAnswer, answerer_silent, answerer_step, unless_answerer_ended}
use Rattle.stations.specs.Inputs.{AnswererInput, is_busy}
use Rattle.stations.specs.LimitedRuns.{heard_as}
use Rattle.stations.specs.LimitedServing.{limited_served, limited_taken, given_first, let_through, LimitedServes}
use Rattle.stations.specs.Limiting.{IsWithin, freed, limited_step, told_by, is_full, is_kept_out, busy_while, filled, busy_answer}
use Rattle.stations.specs.Runs.{answerer_after, StepsStoreOpen}
use Rattle.stations.specs.Taken.{Served, given, taken, served, taken_pages}
use Rattle.stations.specs.declared.limiting.Limits.{Limits}
use Rattle.stations.specs.declared.turn.End.{End}
use Rattle.stations.proofs.LimitedPlain.{limited_is_plain, told_in}
use Rattle.stations.proofs.Room.{stays_within}

-- an ended answerer stays as it is, with limits and without
ended_plain :
    (limits : Limits) (s : Answerer) (input : AnswererInput) (why : End) → s.ending ≡ Some why →
    (limited_step limits s input).next ≡ answerer_after (heard_as limits s input) s
ended_plain limits s input why over = at (is_full limits s.pages) refl (is_kept_out s input)
  where
    same : (heard : AnswererInput) → answerer_step s heard ≡ answerer_silent s
    same heard = ap (λ e. unless_answerer_ended e heard s) over

    not_filled : (t : Bool) → t ≡ false →
        (cond t (busy_answer (answerer_step s (busy_while false input))) (answerer_step s (busy_while false input))).next ≡
        answerer_after (cond t (is_busy true ∷ busy_while false input ∷ []) (busy_while false input ∷ [])) s
    not_filled true e = cc
    not_filled false e = refl

    at : (full : Bool) → is_full limits s.pages ≡ full → (kept : Bool) →
        (cond (full && kept) (answerer_silent s)
        (filled full (is_full limits (answerer_step s (busy_while full input)).next.pages) (answerer_step s (busy_while full input)))).next ≡
        answerer_after (cond (full && kept) []
        (cond (not full && is_full limits (answerer_step s (busy_while full input)).next.pages)
        (is_busy true ∷ busy_while full input ∷ []) (busy_while full input ∷ []))) s
    at true e true = refl
    at true e false = refl
    at false e kept =
        not_filled (is_full limits (answerer_step s (busy_while false input)).next.pages)
        (ap (λ (a : AnswererAnswer). is_full limits a.next.pages) (same (busy_while false input)) ∙ e)

-- each step leads where the inputs that are let through do
step_plain :
    (limits : Limits) (s : Answerer) (input : AnswererInput) →
    (limited_step limits s input).next ≡ answerer_after (heard_as limits s input) s
step_plain limits s input = at s.ending refl
  where
    at : (e : Option End) → s.ending ≡ e → (limited_step limits s input).next ≡ answerer_after (heard_as limits s input) s
    at None runs = limited_is_plain limits s input runs
    at (Some why) over = ended_plain limits s input why over

-- after its pages are taken an answerer that runs is as busy as it was told
freed_is : (told : Bool) (s : Answerer) → (answerer_step (record s { pages = [] }) (is_busy told)).next ≡ freed s.ending told s
freed_is told s = at s.ending
  where
    at : (e : Option End) → (unless_answerer_ended e (is_busy told) (record s { pages = [] })).next ≡ freed e told s
    at None = ap (λ (a : AnswererAnswer). a.next) (told_in (record s { pages = [] }) told s.state)
    at (Some why) = refl

given_served : (inputs : List AnswererInput) (more : List Served) (s : Answerer) →
    served (given_first inputs more) s ≡ served more (answerer_after inputs s)
given_served [] more s = refl
given_served (input ∷ inputs) more s = given_served inputs more (answerer_step s input).next

given_taken : (inputs : List AnswererInput) (more : List Served) (s : Answerer) →
    taken_pages (given_first inputs more) s ≡ taken_pages more (answerer_after inputs s)
given_taken [] more s = refl
given_taken (input ∷ inputs) more s = given_taken inputs more (answerer_step s input).next

plain : (limits : Limits) (told : Bool) (happens : List Served) (s : Answerer) →
    limited_served limits told happens s ≡ served (let_through limits told happens s) s
plain limits told [] s = refl
plain limits told (given input ∷ more) s =
    let after : List Served = let_through limits (told_by told input) more (limited_step limits s input).next in
    plain limits (told_by told input) more (limited_step limits s input).next ∙
    (ap (served after) (step_plain limits s input) ∙ sym (given_served (heard_as limits s input) after s))
plain limits told (taken ∷ more) s =
    plain limits told more (freed s.ending told s) ∙
    ap (served (let_through limits told more (freed s.ending told s))) (sym (freed_is told s))

pages : (limits : Limits) (told : Bool) (happens : List Served) (s : Answerer) →
    limited_taken limits told happens s ≡ taken_pages (let_through limits told happens s) s
pages limits told [] s = refl
pages limits told (given input ∷ more) s =
    let after : List Served = let_through limits (told_by told input) more (limited_step limits s input).next in
    pages limits (told_by told input) more (limited_step limits s input).next ∙
    (ap (taken_pages after) (step_plain limits s input) ∙ sym (given_taken (heard_as limits s input) after s))
pages limits told (taken ∷ more) s =
    ap (λ l. s.pages ++ l) (pages limits told more (freed s.ending told s) ∙
    ap (taken_pages (let_through limits told more (freed s.ending told s))) (sym (freed_is told s)))

-- each step leaves one page above the limits at most
step_within : StepsStoreOpen → AnswerersKeep → (limits : Limits) (s : Answerer) (input : AnswererInput) → IsWithin limits s.pages →
    IsWithin limits (limited_step limits s input).next.pages
step_within stored keeps limits s input within = at (is_full limits s.pages) refl (is_full limits s.pages && is_kept_out s input) refl
  where
    as_full : (t : Bool) (a : AnswererAnswer) → IsWithin limits a.next.pages → IsWithin limits (cond t (busy_answer a) a).next.pages
    as_full true a h = h
    as_full false a h = h

    at : (full : Bool) → full ≡ is_full limits s.pages → (out : Bool) → full && is_kept_out s input ≡ out →
        IsWithin limits (cond out (answerer_silent s)
        (filled full (is_full limits (answerer_step s (busy_while full input)).next.pages) (answerer_step s (busy_while full input)))).next.pages
    at full e true o = within
    at full e false o =
        as_full (not full && is_full limits (answerer_step s (busy_while full input)).next.pages) (answerer_step s (busy_while full input))
        (stays_within stored limits s (answerer_step s (busy_while full input)).next full input e refl
        (keeps s (busy_while full input)) o within)

freed_within : (limits : Limits) (told : Bool) (e : Option End) (s : Answerer) → IsWithin limits (freed e told s).pages
freed_within limits told None s = inl refl
freed_within limits told (Some why) s = inl refl

within : StepsStoreOpen → AnswerersKeep → (limits : Limits) (told : Bool) (happens : List Served) (s : Answerer) → IsWithin limits s.pages →
    IsWithin limits (limited_served limits told happens s).pages
within stored keeps limits told [] s h = h
within stored keeps limits told (given input ∷ more) s h =
    within stored keeps limits (told_by told input) more (limited_step limits s input).next (step_within stored keeps limits s input h)
within stored keeps limits told (taken ∷ more) s h =
    within stored keeps limits told more (freed s.ending told s) (freed_within limits told s.ending s)

pub limited_serves : StepsStoreOpen → AnswerersKeep → LimitedServes
limited_serves stored keeps limits told happens s =
    record {
      plain = plain limits told happens s;
      pages = pages limits told happens s;
      within = within stored keeps limits told happens s;
    }

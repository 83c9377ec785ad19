-- Several calls that send one document.
use Rattle.std.proofs.Common.{◌≡◌, ℕ, zero, suc, ◌+◌, ◌≤◌, List, [], ◌∷◌, ◌++◌, length, drop, Option, Some, refl, sym, ap}
use Rattle.std.proofs.Common.{subst, ◌∙◌, arith}
use Rattle.std.proofs.lemmas.List.Sums.{sum_by-cons}
use Rattle.std.specs.Prelude.{sum}
use Rattle.raster.specs.Pages.{PagePixels}
use Rattle.stations.specs.CallerStep.{confirmed}
use Rattle.stations.specs.Laws.{Each}
use Rattle.stations.specs.Layers.{Document, IsFullPage}
use Rattle.stations.specs.declared.turn.End.{End}
use Rattle.stations.specs.declared.turn.End.TheVariants.{Normal}
use Rattle.line_sim.specs.Headline.{IsSafeWorld, Promised, RunsAreSafe}
use Rattle.line_sim.specs.Line.{Outcome, World, happens, new_world, run}
use Rattle.line_sim.specs.declared.event.Event.{Event}
use Rattle.line_sim.specs.Redialling.{AreDelivered, AreRedialled, CallsAreRedialled, CallsGoOn, IsCall, coming, confirmed_in, failed, failures}
use Rattle.line_sim.proofs.LineKeeps.{new_world_facts}
use Rattle.line_sim.proofs.Lists.{each_map}
use Rattle.line_sim.proofs.WholeRuns.{run_same}

each_drop : {A : Type 0} (P : A → Type 0) (n : ℕ) (xs : List A) → Each P xs → Each P (drop n xs)
each_drop P zero xs h = h
each_drop P (suc n) [] h = tt
each_drop P (suc n) (x ∷ xs) h = each_drop P n xs h.1

rest_counts : {A : Type 0} (k : ℕ) (xs : List A) → k ≤ length xs → k + length (drop k xs) ≡ length xs
rest_counts zero xs h = omega arith
rest_counts (suc k) [] h = absurd (omega arith)
rest_counts (suc k) (x ∷ xs) h = let e = rest_counts k xs (omega arith) in omega arith

-- the pages of one call, of which `k` were confirmed, and then those of later calls
record Joined (pages : List PagePixels) (k : ℕ) (later : List ℕ) (document : Document) : Type 0 where
  pub again : List ℕ
  pub stored : pages ++ coming later (drop k document) ≡ coming again document
  pub later_stored : k + length later ≤ length again
  pub first_stored : length pages ≤ length again
  pub most : (limit : ℕ) → k + length later ≤ limit → length pages ≤ limit → length again ≤ limit
  pub few : sum again + k ≤ sum later + length pages
  pub none : later ≡ [] → sum again ≡ 0

joined : (pages rest document : List PagePixels) (k : ℕ) (later : List ℕ) → pages ++ rest ≡ document → k ≤ length pages →
    length pages ≤ suc k → length later ≤ length (drop k document) → Joined pages k later document
joined [] rest document zero later is least most within =
    record {
      again = later;
      stored = refl;
      later_stored = omega arith;
      first_stored = omega arith;
      most = λ limit h g. omega arith;
      few = omega arith;
      none = λ e. rw e refl;
    }
joined [] rest document (suc k) later is least most within = absurd (omega arith)
joined (page ∷ []) rest [] zero later is least most within = absurd (cc)
joined (page ∷ []) rest (first ∷ document) zero [] is least most within =
    let same : page ≡ first = cc in
    record {
      again = 0 ∷ [];
      stored = ap (λ p. p ∷ []) same;
      later_stored = omega arith;
      first_stored = omega arith;
      most = λ limit h g. omega arith;
      few = omega (arith, sum_by-cons (λ n. n) 0 []);
      none = λ e. refl;
    }
joined (page ∷ []) rest (first ∷ document) zero (number ∷ later) is least most within =
    let same : page ≡ first = cc in
    record {
      again = suc number ∷ later;
      stored = ap (λ p. p ∷ coming (number ∷ later) (first ∷ document)) same;
      later_stored = omega arith;
      first_stored = omega arith;
      most = λ limit h g. omega arith;
      few = (let one = sum_by-cons (λ n. n) (suc number) later in let two = sum_by-cons (λ n. n) number later in omega arith);
      none = λ e. absurd (cc);
    }
joined (page ∷ other ∷ pages) rest document zero later is least most within = absurd (omega arith)
joined (page ∷ pages) rest [] (suc k) later is least most within = absurd (cc)
joined (page ∷ pages) rest (first ∷ document) (suc k) later is least most within =
    let same : page ≡ first = cc in
    let others : pages ++ rest ≡ document = cc in
    let h = joined pages rest document k later others (omega arith) (omega arith) within in
    record {
      again = 0 ∷ h.again;
      stored = ap (λ p. p ∷ (pages ++ coming later (drop k document))) same ∙ ap (λ ps. first ∷ ps) h.stored;
      later_stored = (let e = h.later_stored in omega arith);
      first_stored = (let e = h.first_stored in omega arith);
      most = λ limit g e. at h limit g e;
      few = (let one = sum_by-cons (λ n. n) 0 h.again in let e = h.few in omega arith);
      none = λ e. (let one = sum_by-cons (λ n. n) 0 h.again in let zero = h.none e in omega arith);
    }
  where
    at : (h : Joined pages k later document) (limit : ℕ) → suc k + length later ≤ limit → suc (length pages) ≤ limit →
        suc (length h.again) ≤ limit
    at h zero g e = absurd (omega arith)
    at h (suc limit) g e = let most = h.most limit (omega arith) (omega arith) in omega arith

-- a call that didn't fail has no page stored that isn't confirmed
over : (ending : Option End) (stored k : ℕ) → stored ≤ suc k → (ending ≡ Some Normal → stored ≡ k) → stored ≤ k + failed ending
over (Some Normal) stored k most normal = let e = normal refl in omega arith
over _ stored k most normal = omega arith

-- calls after none
none_delivered : (document : Document) → AreDelivered document []
none_delivered document =
    record {
      again = [];
      stored = refl;
      within = omega arith;
      few = omega arith;
      confirmed_is_stored = omega arith;
      stored_once = omega arith;
      caller_normal = tt;
      answerer_normal = tt;
    }

-- a call that failed, or the last one
failed_first : (w : World) (calls : List World) (again later k stored : ℕ) → again + k ≤ later + stored → (calls ≡ [] → again ≡ 0) →
    stored ≤ k + failed w.caller.ending → later ≤ failures calls → again ≤ failures (w ∷ calls)
failed_first w [] again later k stored few none over less = let e = none refl in omega arith
failed_first w (next ∷ calls) again later k stored few none over less = omega arith

-- a call, and those after it
one_more : (document : Document) (w : World) (calls : List World) → IsSafeWorld document w →
    (later : AreDelivered (drop (confirmed w.caller) document) calls) → (calls ≡ [] → later.again ≡ []) → AreDelivered document (w ∷ calls)
one_more document w calls safe later none =
    let k : ℕ = confirmed w.caller in
    let pages : List PagePixels = w.answerer.pages in
    let begins = safe.beginning in
    let length_is : length pages ≤ length document = beginning_short pages begins.0 document begins.1 in
    let least = safe.confirmed_is_stored in
    let most = safe.stored_once in
    let rest = rest_counts k document (omega arith) in
    let h = joined pages begins.0 document k later.again begins.1 least most later.within in
    let confirms = sum_by-cons (λ (w : World). confirmed w.caller) w calls in
    let within : length h.again ≤ length document =
    h.most (length document) (let few = later.within in omega arith) length_is in
    record {
      again = h.again;
      stored = ap (λ ps. pages ++ ps) later.stored ∙ h.stored;
      within = within;
      few = failed_first w calls (sum h.again) (sum later.again) k (length pages) h.few (λ e. h.none (none e))
          (over w.caller.ending (length pages) k most (λ e. (let all = safe.caller_normal e in ap length all.0 ∙ sym all.1))) later.few;
      confirmed_is_stored = (let few = later.confirmed_is_stored in let enough = h.later_stored in omega arith);
      stored_once = (let one = later.stored_once in
          let limit = h.most (suc (k + confirmed_in calls)) (omega arith) (omega arith) in omega arith);
      caller_normal = (
        λ e. (let all = safe.caller_normal e in
            let stored = ap length all.0 in
            let enough = h.first_stored in
            let few = later.confirmed_is_stored in
            let more = h.later_stored in
            (omega arith, omega arith)),
        each_map _ _ calls (λ v was e. (let all = was e in let enough = h.later_stored in (omega arith, omega arith))) later.caller_normal,
      );
      answerer_normal = (
        λ e. (let stored = ap length (safe.answerer_normal e) in let enough = h.first_stored in omega arith),
        each_map _ _ calls (λ v was e. (let all = was e in let enough = h.later_stored in omega arith)) later.answerer_normal,
      );
    }
  where
    beginning_short : (pages rest document : List PagePixels) → pages ++ rest ≡ document → length pages ≤ length document
    beginning_short [] rest document e = omega arith
    beginning_short (page ∷ pages) rest [] e = absurd (cc)
    beginning_short (page ∷ pages) rest (first ∷ document) e =
        let others : pages ++ rest ≡ document = cc in
        let h = beginning_short pages rest document others in
        omega arith

call_same : Promised → (document : Document) (w : World) → Each IsFullPage document → (call : IsCall document w) →
    w.caller.document ≡ document
call_same laws document w full call =
    ap (λ (v : World). v.caller.document) call.comes ∙
    run_same laws call.steps (new_world document call.wish call.caps) (new_world_facts document call.wish call.caps full)

call_safe : RunsAreSafe → (document : Document) (w : World) → Each IsFullPage document → (call : IsCall document w) →
    IsSafeWorld document w
call_safe law document w full call =
    subst (IsSafeWorld document) (sym call.comes) (law document call.wish call.caps call.steps full)

pub calls_are_redialled : Promised → RunsAreSafe → CallsAreRedialled
unfolding none_delivered
calls_are_redialled laws law document [] full dialled = none_delivered document
calls_are_redialled laws law document (w ∷ []) full dialled =
    one_more document w [] (call_safe law document w full dialled.0) (none_delivered (drop (confirmed w.caller) document)) (λ e. refl)
calls_are_redialled laws law document (w ∷ next ∷ calls) full dialled =
    let k : ℕ = confirmed w.caller in
    let next_dialled : AreRedialled (drop k document) (next ∷ calls) =
    subst (λ (d : Document). AreRedialled (drop k d) (next ∷ calls)) (call_same laws document w full dialled.0) dialled.1 in
    one_more document w (next ∷ calls) (call_safe law document w full dialled.0)
    (calls_are_redialled laws law (drop k document) (next ∷ calls) (each_drop IsFullPage k document full) next_dialled)
    (λ e. absurd (cc))

run_more : (steps : List (Event × Outcome)) (w : World) (event : Event) (outcome : Outcome) →
    run (steps ++ (event, outcome) ∷ []) w ≡ happens (run steps w) event outcome
run_more [] w event outcome = refl
run_more (step ∷ steps) w event outcome = run_more steps (happens w step.0 step.1) event outcome

pub calls_go_on : CallsGoOn
calls_go_on = record {
  begins = λ document wish caps. record { wish = wish; caps = caps; steps = []; comes = refl };
  goes_on =
      λ document w event outcome is. record {
        wish = is.wish;
        caps = is.caps;
        steps = is.steps ++ (event, outcome) ∷ [];
        comes =
            ap (λ (v : World). happens v event outcome) is.comes ∙
            sym (run_more is.steps (new_world document is.wish is.caps) event outcome);
      };
}

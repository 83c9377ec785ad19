-- Over every list of events.
use Rattle.std.proofs.Common.{◌≡◌, ℕ, suc, ◌≤◌, List, [], ◌∷◌, ◌++◌, length, Some, refl, sym, ap, subst, ◌∙◌, arith}
use Rattle.std.proofs.Common.{length-append}
use Rattle.stations.specs.Layers.{Document}
use Rattle.stations.specs.declared.turn.End.TheVariants.{Normal}
use Rattle.line_sim.specs.declared.event.Event.{Event}
use Rattle.line_sim.specs.Line.{World, Outcome, happens, new_world, run}
use Rattle.line_sim.specs.LineFacts.{LineFacts}
use Rattle.line_sim.specs.PageMachine.{PageState, first_state, Move, Moves, AtMostTwo, shown, IsBeginning}
use Rattle.line_sim.specs.PageMachine.Move.{stores, confirms_page, caller_ends, answerer_ends}
use Rattle.line_sim.specs.PageMachine.Moves.{none, more}
use Rattle.line_sim.specs.PageMachine.AtMostTwo.{no_move, one_move, two_moves}
use Rattle.line_sim.specs.Headline.{LineHolds, EventsMove, RunsMove, RunsAreSafe, Promised}
use Rattle.line_sim.proofs.Lists.{append_nil, take_split}
use Rattle.line_sim.proofs.LineKeeps.{happens_keeps, new_world_facts, run_keeps}

first_moves : {n : ℕ} {p q r : PageState} → AtMostTwo n p q → Moves n q r → Moves n p r
first_moves no_move h = h
first_moves (one_move m) h = more m h
first_moves (two_moves m l) h = more m (more l h)

pub run_moves :
    Promised → (steps : List (Event × Outcome)) (w : World) → LineFacts w → Moves (length w.caller.document) (shown w) (shown (run steps w))
run_moves laws [] w f = none
run_moves laws (step ∷ steps) w f =
    let keeps = happens_keeps laws w step.0 step.1 f in
    let after = happens w step.0 step.1 in
    first_moves keeps.moves (subst (λ d. Moves (length d) (shown after) (shown (run steps after))) keeps.same
    (run_moves laws steps after keeps.line))

pub runs_move : Promised → RunsMove
runs_move laws document wish caps steps full =
    run_moves laws steps (new_world document wish caps) (new_world_facts document wish caps full)

pub line_holds : Promised → LineHolds
line_holds laws document wish caps steps full =
    run_keeps laws steps (new_world document wish caps) (new_world_facts document wish caps full)

-- what holds of every state that moves lead to
record Settled (n : ℕ) (p : PageState) : Type 0 where
  pub confirmed_is_stored : p.confirms ≤ p.stored
  pub stored_once : p.stored ≤ suc p.confirms
  pub within : p.stored ≤ n
  pub caller_normal : p.caller_end ≡ Some Normal → p.confirms ≡ n
  pub answerer_normal : p.answerer_end ≡ Some Normal → p.stored ≡ n

move_settles : {n : ℕ} {p q : PageState} → Move n p q → Settled n p → Settled n q
move_settles (stores {p = p} same below going) h =
    record {
      confirmed_is_stored = omega (arith, h.confirmed_is_stored);
      stored_once = omega (arith, same);
      within = below;
      caller_normal = h.caller_normal;
      answerer_normal = λ e. cc;
    }
move_settles (confirms_page {p = p} below going) h =
    record {
      confirmed_is_stored = below;
      stored_once = omega (arith, h.stored_once);
      within = h.within;
      caller_normal = λ e. cc;
      answerer_normal = h.answerer_normal;
    }
move_settles (caller_ends why going may) h =
    record {
      confirmed_is_stored = h.confirmed_is_stored;
      stored_once = h.stored_once;
      within = h.within;
      caller_normal = λ e. may.normal (cc);
      answerer_normal = h.answerer_normal;
    }
move_settles (answerer_ends why going may) h =
    record {
      confirmed_is_stored = h.confirmed_is_stored;
      stored_once = h.stored_once;
      within = h.within;
      caller_normal = h.caller_normal;
      answerer_normal = λ e. may.normal (cc);
    }

moves_settle : {n : ℕ} {p q : PageState} → Moves n p q → Settled n p → Settled n q
moves_settle none h = h
moves_settle (more m ms) h = moves_settle ms (move_settles m h)

first_settled : (n : ℕ) → Settled n first_state
first_settled n = record {
  confirmed_is_stored = omega arith;
  stored_once = omega arith;
  within = omega arith;
  caller_normal = λ e. cc;
  answerer_normal = λ e. cc;
}

pub run_same : Promised → (steps : List (Event × Outcome)) (w : World) → LineFacts w → (run steps w).caller.document ≡ w.caller.document
run_same laws [] w f = refl
run_same laws (step ∷ steps) w f =
    let keeps = happens_keeps laws w step.0 step.1 f in
    run_same laws steps (happens w step.0 step.1) keeps.line ∙ keeps.same

pub events_move : Promised → EventsMove
events_move laws document wish caps steps full event outcome =
    let first = new_world document wish caps in
    let w = run steps first in
    let facts = new_world_facts document wish caps full in
    subst (λ (d : Document). AtMostTwo (length d) (shown w) (shown (happens w event outcome))) (run_same laws steps first facts)
    (happens_keeps laws w event outcome (run_keeps laws steps first facts)).moves

whole_beginning : {A : Type 0} (xs rest ys : List A) → xs ++ rest ≡ ys → length xs ≡ length ys → xs ≡ ys
whole_beginning xs [] ys e l = sym (append_nil xs) ∙ e
whole_beginning xs (x ∷ rest) ys e l = absurd (omega (arith, ap length e, length-append xs (x ∷ rest), l))

pub beginning : (w : World) (document : Document) → w.caller.document ≡ document → LineFacts w → IsBeginning w.answerer.pages document
beginning w document same f =
    let split = take_split w.caller.document _ in
    (split.0, ap (λ ps. ps ++ split.0) f.stations.pages ∙ (split.1 ∙ same))

pub runs_are_safe : Promised → RunsAreSafe
runs_are_safe laws document wish caps steps full =
    let first = new_world document wish caps in
    let w = run steps first in
    let facts = run_keeps laws steps first (new_world_facts document wish caps full) in
    let settled = moves_settle (runs_move laws document wish caps steps full) (first_settled (length document)) in
    let begins = beginning w document (run_same laws steps first (new_world_facts document wish caps full)) facts in
    let stored :
    length w.answerer.pages ≡ length document →
    w.answerer.pages ≡ document = whole_beginning w.answerer.pages begins.0 document begins.1 in
    record {
      beginning = begins;
      confirmed_is_stored = settled.confirmed_is_stored;
      stored_once = settled.stored_once;
      caller_normal = λ e. (let all = settled.caller_normal e in
          (stored (omega (arith, all, settled.confirmed_is_stored, settled.within)), all));
      answerer_normal = λ e. stored (settled.answerer_normal e);
    }

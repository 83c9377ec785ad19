-- What holds of the fields of every world follows from the laws of runs.
use Rattle.std.proofs.Common.{◌≡◌, ◌≢◌, ◌↔◌, ℕ, List, [], ◌∷◌, ◌++◌, length, Some, None, Result, Ok, Err, OnOk, OnErr, ap, sym, subst, ◌∙◌}
use Rattle.std.specs.Prelude.{slice_get}
use Rattle.signals.specs.declared.params.Caps.{Caps}
use Rattle.signals.specs.declared.params.Wish.{Wish}
use Rattle.stations.specs.AnswererStep.{Answerer}
use Rattle.stations.specs.Blocks.{Block}
use Rattle.stations.specs.CallerStep.{blocks_of, pps_of}
use Rattle.stations.specs.Inputs.{PlainItem}
use Rattle.stations.specs.Laws.{Each}
use Rattle.stations.specs.Layers.{Document, IsFullPage}
use Rattle.stations.specs.declared.turn.AnswererState.TheVariants.{Message}
use Rattle.line_sim.specs.Delivering.{Made, DeliversAll}
use Rattle.line_sim.specs.Entries.{entries}
use Rattle.line_sim.specs.Headline.{Promised, LineHolds, StationsInStep, RunsMove, IsSafe, RunsAreSafe, WholeBlockAccepted}
use Rattle.line_sim.specs.Headline.{WholeBlocksAccepted}
use Rattle.line_sim.specs.Invariant.{LedTo, Holds, Begins, TakesWholeBlock}
use Rattle.line_sim.specs.InStep.{InStep}
use Rattle.line_sim.specs.Line.{World, Outcome, happens, new_world, run}
use Rattle.line_sim.specs.Line.Outcome.{Done}
use Rattle.line_sim.specs.LineFacts.{accepted_of, HoldsAll, LineFacts}
use Rattle.line_sim.specs.PageMachine.{Moves, first_state, shown, IsBeginning}
use Rattle.line_sim.specs.Polite.{polite_steps}
use Rattle.line_sim.specs.Represents.{Shows, WorldFields, IsReached, Becomes, BecomesSome, fields_state}
use Rattle.line_sim.specs.declared.event.Event.{Event}
use Rattle.line_sim.specs.declared.event.Event.TheVariants.{DeliverToAnswerer, DeliverToCaller, LoseToAnswerer, LoseToCaller, Spoil}
use Rattle.line_sim.specs.declared.event.Event.TheVariants.{CallerTimeout, CallerT5, AnswererT1, AnswererT2, Busy}
use Rattle.line_sim.proofs.Clauses.{document_kept, state_shown}
use Rattle.line_sim.proofs.LineKeeps.{happens_keeps, new_world_facts, run_keeps}
use Rattle.line_sim.proofs.Reaching.{reached_more}
use Rattle.line_sim.proofs.Told.{safe_told}
use Rattle.line_sim.proofs.Transcripts.{run_both, entries_both}
use Rattle.line_sim.proofs.WholeRuns.{run_moves, run_same}

-- the laws that a world's clauses come from
abbrev pub Laws : Type 0
Laws = Promised × LineHolds × StationsInStep × RunsMove × RunsAreSafe

-- events lead to the world that the type's invariant names
led_to : Promised → (v : WorldFields) (r : IsReached v) → LedTo v (run r.steps (new_world r.document r.wish r.caps))
led_to laws v r =
    let same : r.document ≡ v.call.caller.document = document_kept laws v r in
    record {
      wish = r.wish;
      caps = r.caps;
      steps = r.steps;
      is = ap (λ d. run r.steps (new_world d r.wish r.caps)) same;
      shows = r.shows;
      noted = r.noted ∙ ap (λ d. entries r.steps (new_world d r.wish r.caps)) same;
    }

full_kept : Promised → (v : WorldFields) → IsReached v → Each IsFullPage v.call.caller.document
full_kept laws v r = subst (Each IsFullPage) (document_kept laws v r) r.full

pub holds : Laws → (v : WorldFields) → IsReached v → Holds v
holds laws v r =
    let document : Document = v.call.caller.document in
    let w : World = run r.steps (new_world r.document r.wish r.caps) in
    let same : r.document ≡ document = document_kept laws.0 v r in
    let full : Each IsFullPage document = full_kept laws.0 v r in
    record {
      world = w;
      led = led_to laws.0 v r;
      facts = λ x led. subst LineFacts (sym led.is) (laws.1 document led.wish led.caps led.steps full);
      in_step = λ x led. subst InStep (sym led.is) (laws.2 document led.wish led.caps led.steps full);
      moves = subst (λ d. Moves (length d) first_state (fields_state v.call)) same
          (subst (Moves (length r.document) first_state) (state_shown v.call w r.shows) (laws.3 r.document r.wish r.caps r.steps r.full));
      safe = subst (λ d. IsSafe d v.call.answerer.pages v.call.caller.page v.call.caller.ending v.call.answerer.ending) same
          (safe_told r.document w v.call.answerer.pages v.call.caller.page v.call.caller.ending v.call.answerer.ending
          (ap (λ s. s.pages) (sym r.shows.answerer)) (sym r.shows.caller.confirms) (sym r.shows.caller.ending)
          (ap (λ s. s.ending) (sym r.shows.answerer)) (laws.4 r.document r.wish r.caps r.steps r.full));
    }

pub begins : Laws → (document : Document) (wish : Wish) (caps : Caps) (v : WorldFields) → Each IsFullPage document →
    Shows v.call (new_world document wish caps) → v.entries ≡ [] → Begins document wish caps v
begins laws document wish caps v full shows none =
    let same : document ≡ v.call.caller.document = shows.caller.document in
    record {
      document_is = sym same;
      first = sym (state_shown v.call (new_world document wish caps) shows);
      led = record {
        wish = wish;
        caps = caps;
        steps = [];
        is = ap (λ d. new_world d wish caps) same;
        shows = shows;
        noted = none;
      };
      holds = holds laws v (record { document = document; wish = wish; caps = caps; steps = []; full = full; shows = shows; noted = none });
    }

-- one event more, refused or not
pub reached_on : {T E : Type 0} (old new : WorldFields) (event : Event) (result : Result T E) → IsReached old →
    OnOk result (Becomes old new event Done) → OnErr result (BecomesSome old new event) → IsReached new
reached_on old new event (Ok done) r ok err = reached_more old new event Done r ok
reached_on old new event (Err refusal) r ok err = reached_more old new event err.0 r err.2

-- the document stays
pub document_by : Promised → (old new : WorldFields) (event : Event) (outcome : Outcome) → IsReached old → Becomes old new event outcome →
    new.call.caller.document ≡ old.call.caller.document
document_by laws old new event outcome r becomes =
    let first : World = new_world r.document r.wish r.caps in
    let w : World = run r.steps first in
    let facts : LineFacts w = run_keeps laws r.steps first (new_world_facts r.document r.wish r.caps r.full) in
    sym ((becomes w r.shows).0.caller.document) ∙ ((happens_keeps laws w event outcome facts).same ∙ r.shows.caller.document)

pub document_on : {T E : Type 0} → Promised → (old new : WorldFields) (event : Event) (result : Result T E) → IsReached old →
    OnOk result (Becomes old new event Done) → OnErr result (BecomesSome old new event) →
    new.call.caller.document ≡ old.call.caller.document
document_on laws old new event (Ok done) r ok err = document_by laws old new event Done r ok
document_on laws old new event (Err refusal) r ok err = document_by laws old new event err.0 r err.2

-- the law of whole blocks, of a world
abbrev WholeAt : World → Type 0
WholeAt w =
    (block : Block) (items : List PlainItem) → slice_get (blocks_of w.caller) w.caller.place ≡ Some block →
    w.answerer.accepted ≢ Some (accepted_of block) → w.to_answerer ≡ pps_of block ∷ items → w.answerer.state ≡ Message →
    w.answerer.ending ≡ None → WholeBlockAccepted w block

whole_shown : (old new : WorldFields) (w : World) (block : Block) → Shows old.call w → Shows new.call (happens w DeliverToAnswerer Done) →
    WholeBlockAccepted w block →
    ((new.call.answerer.accepted ≡ Some (accepted_of block)) ↔ HoldsAll old.call.answerer.frames block.frames) ×
    IsBeginning new.call.answerer.pages old.call.caller.document
whole_shown old new w block before after whole = (
  subst (λ (s : Answerer). (s.accepted ≡ Some (accepted_of block)) ↔ HoldsAll old.call.answerer.frames block.frames) after.answerer
      (subst (λ (s : Answerer). ((happens w DeliverToAnswerer Done).answerer.accepted ≡ Some (accepted_of block)) ↔
      HoldsAll s.frames block.frames) before.answerer whole.exactly),
  subst (IsBeginning new.call.answerer.pages) before.caller.document
      (subst (λ (s : Answerer). IsBeginning s.pages w.caller.document) after.answerer whole.pages),
)

takes_delivered : Promised → WholeBlocksAccepted → (old new : WorldFields) → IsReached old → Becomes old new DeliverToAnswerer Done →
    TakesWholeBlock old new DeliverToAnswerer
takes_delivered laws whole old new r becomes w led block items is coming unknown message going =
    let document : Document = old.call.caller.document in
    let at : WholeAt w = subst WholeAt (sym led.is) (whole document led.wish led.caps led.steps (full_kept laws old r)) in
    whole_shown old new w block led.shows (becomes w led.shows).0
    (at block items is (λ e. unknown (ap (λ s. s.accepted) (sym led.shows.answerer) ∙ e)) (led.shows.to_answerer ∙ coming)
    (ap (λ s. s.state) led.shows.answerer ∙ message) (ap (λ s. s.ending) led.shows.answerer ∙ going))

takes_done : Promised → WholeBlocksAccepted → (old new : WorldFields) (event : Event) → IsReached old → Becomes old new event Done →
    TakesWholeBlock old new event
takes_done laws whole old new DeliverToAnswerer r becomes = takes_delivered laws whole old new r becomes
takes_done laws whole old new DeliverToCaller r becomes = tt
takes_done laws whole old new LoseToAnswerer r becomes = tt
takes_done laws whole old new LoseToCaller r becomes = tt
takes_done laws whole old new Spoil r becomes = tt
takes_done laws whole old new CallerTimeout r becomes = tt
takes_done laws whole old new CallerT5 r becomes = tt
takes_done laws whole old new AnswererT1 r becomes = tt
takes_done laws whole old new AnswererT2 r becomes = tt
takes_done laws whole old new (Busy busy) r becomes = tt

pub takes_whole : {T E : Type 0} → Promised → WholeBlocksAccepted → (old new : WorldFields) (event : Event) (result : Result T E) →
    IsReached old → OnOk result (Becomes old new event Done) → OnOk result (TakesWholeBlock old new event)
takes_whole laws whole old new event (Ok done) r ok = takes_done laws whole old new event r ok
takes_whole laws whole old new event (Err refusal) r ok = tt

-- the steps that a polite run made
steps_made : {E : Type 0} (old new : WorldFields) (w : World) (most : ℕ) (result : Result ℕ E) → DeliversAll old new w most result →
    (steps : List (Event × Outcome)) × Made old new w steps
steps_made old new w most (Ok number) h = (polite_steps most w, h.0)
steps_made old new w most (Err refusal) h = (h.before ++ (h.event, h.outcome) ∷ [], h.made)

reached_by : (old new : WorldFields) (r : IsReached old) (steps : List (Event × Outcome)) →
    Made old new (run r.steps (new_world r.document r.wish r.caps)) steps → IsReached new
reached_by old new r steps made =
    let start : World = new_world r.document r.wish r.caps in
    record {
      document = r.document;
      wish = r.wish;
      caps = r.caps;
      steps = r.steps ++ steps;
      full = r.full;
      shows = subst (Shows new.call) (sym (run_both r.steps steps start)) made.0;
      noted = made.1 ∙ (ap (λ l. l ++ entries steps (run r.steps start)) r.noted ∙ sym (entries_both r.steps steps start));
    }

pub reached_along : {E : Type 0} (old new : WorldFields) (most : ℕ) (result : Result ℕ E) → IsReached old →
    ((w : World) → Shows old.call w → DeliversAll old new w most result) → IsReached new
reached_along old new most result r delivers =
    let w : World = run r.steps (new_world r.document r.wish r.caps) in
    let did = steps_made old new w most result (delivers w r.shows) in
    reached_by old new r did.0 did.1

-- moves lead from what the fields showed before a polite run to what they show after it, and the document stays
pub moves_along : {E : Type 0} → Promised → (old new : WorldFields) (most : ℕ) (result : Result ℕ E) → IsReached old →
    ((w : World) → Shows old.call w → DeliversAll old new w most result) →
    Moves (length old.call.caller.document) (fields_state old.call) (fields_state new.call)
moves_along laws old new most result r delivers =
    let first : World = new_world r.document r.wish r.caps in
    let w : World = run r.steps first in
    let facts : LineFacts w = run_keeps laws r.steps first (new_world_facts r.document r.wish r.caps r.full) in
    let did = steps_made old new w most result (delivers w r.shows) in
    subst (λ d. Moves (length d) (fields_state old.call) (fields_state new.call)) r.shows.caller.document
    (subst (λ s. Moves (length w.caller.document) s (fields_state new.call)) (state_shown old.call w r.shows)
    (subst (Moves (length w.caller.document) (shown w)) (state_shown new.call (run did.0 w) did.1.0) (run_moves laws did.0 w facts)))

pub document_along : {E : Type 0} → Promised → (old new : WorldFields) (most : ℕ) (result : Result ℕ E) → IsReached old →
    ((w : World) → Shows old.call w → DeliversAll old new w most result) → new.call.caller.document ≡ old.call.caller.document
document_along laws old new most result r delivers =
    let first : World = new_world r.document r.wish r.caps in
    let w : World = run r.steps first in
    let facts : LineFacts w = run_keeps laws r.steps first (new_world_facts r.document r.wish r.caps r.full) in
    let did = steps_made old new w most result (delivers w r.shows) in
    sym did.1.0.caller.document ∙ (run_same laws did.0 w facts ∙ r.shows.caller.document)

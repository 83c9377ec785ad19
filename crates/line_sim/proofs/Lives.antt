-- A call that keeps no transcript: one event more, with its entry noted beside it.
use Rattle.std.proofs.Common.{◌≡◌, ◌≢◌, ℕ, List, [], ◌∷◌, ◌++◌, Option, Some, length, refl, subst}
use Rattle.signals.specs.declared.params.Caps.{Caps}
use Rattle.signals.specs.declared.params.Wish.{Wish}
use Rattle.stations.specs.Laws.{Each}
use Rattle.stations.specs.Layers.{Document, IsFullPage}
use Rattle.raster.specs.Pages.{PagePixels}
use Rattle.stations.specs.CallerStep.{confirmed}
use Rattle.stations.specs.Inputs.{PlainItem, framed, checked}
use Rattle.stations.specs.declared.turn.AnswererState.{AnswererState}
use Rattle.stations.specs.declared.turn.End.{End}
use Rattle.line_sim.specs.Entries.{head_kind}
use Rattle.line_sim.specs.Headline.{Promised, EventsMove, IsSafe, LineHolds, LinesCanBeWritten}
use Rattle.line_sim.specs.Line.{World, new_world, run}
use Rattle.line_sim.specs.LineFacts.{MayReachCaller}
use Rattle.line_sim.specs.Live.{IsLive, HoldsLive}
use Rattle.line_sim.specs.PageMachine.{AtMostTwo}
use Rattle.line_sim.specs.Represents.{Acts, EventWrites, Shows, WorldFields, fields_state}
use Rattle.line_sim.specs.declared.call.Call.{Call}
use Rattle.line_sim.specs.declared.event.Entry.{Entry}
use Rattle.line_sim.specs.declared.event.Event.{Event}
use Rattle.line_sim.specs.declared.event.Kind.TheVariants.{Training}
use Rattle.line_sim.proofs.Clauses.{document_kept, two_moves_by}
use Rattle.line_sim.proofs.Invariant.{Laws, document_by, holds}
use Rattle.line_sim.proofs.Items.{no_check}
use Rattle.line_sim.proofs.Beginning.{reached_new}
use Rattle.line_sim.proofs.Reaching.{acts_become, can_write, reached_more}
use Rattle.line_sim.proofs.Told.{safe_told}

pub live_new : (document : Document) (wish : Wish) (caps : Caps) (v : Call) → Each IsFullPage document →
    Shows v (new_world document wish caps) → IsLive v
live_new document wish caps v full shows = ([], reached_new document wish caps v full shows)

pub live_on : (old new : Call) (event : Event) (entry : Entry) → IsLive old → Acts old new event entry → IsLive new
live_on old new event entry live acts =
    let v : WorldFields = record { call = old; entries = live.0 } in
    let noted : List Entry = live.0 ++ entry ∷ [] in
    (noted, reached_more v (record { call = new; entries = noted }) event acts.0 live.1 (acts_become v new noted event entry acts refl))

pub live_moves : Promised → EventsMove → (old new : Call) (event : Event) (entry : Entry) → IsLive old → Acts old new event entry →
    AtMostTwo (length old.caller.document) (fields_state old) (fields_state new)
live_moves laws moves old new event entry live acts =
    let v : WorldFields = record { call = old; entries = live.0 } in
    let noted : List Entry = live.0 ++ entry ∷ [] in
    two_moves_by laws moves v (record { call = new; entries = noted }) event acts.0 live.1 (acts_become v new noted event entry acts refl)

pub live_document : Promised → (old new : Call) (event : Event) (entry : Entry) → IsLive old → Acts old new event entry →
    new.caller.document ≡ old.caller.document
live_document laws old new event entry live acts =
    let v : WorldFields = record { call = old; entries = live.0 } in
    let noted : List Entry = live.0 ++ entry ∷ [] in
    document_by laws v (record { call = new; entries = noted }) event acts.0 live.1 (acts_become v new noted event entry acts refl)

pub live_holds : Laws → (v : Call) → IsLive v → HoldsLive v
live_holds laws v live = (live.0, holds laws (record { call = v; entries = live.0 }) live.1)

pub live_safe : Laws → (v : Call) → IsLive v → (pages : List PagePixels) (confirms : ℕ) (caller_end answerer_end : Option End) →
    ((w : World) → Shows v w → pages ≡ w.answerer.pages) → ((w : World) → Shows v w → confirms ≡ confirmed w.caller) →
    ((w : World) → Shows v w → caller_end ≡ w.caller.ending) → ((w : World) → Shows v w → answerer_end ≡ w.answerer.ending) →
    IsSafe v.caller.document pages confirms caller_end answerer_end
live_safe laws v live pages confirms caller_end answerer_end p c e f =
    let r = live.1 in
    let w : World = run r.steps (new_world r.document r.wish r.caps) in
    subst (λ d. IsSafe d pages confirms caller_end answerer_end)
    (document_kept laws.0 (record { call = v; entries = live.0 }) r)
    (safe_told r.document w pages confirms caller_end answerer_end (p w r.shows) (c w r.shows) (e w r.shows) (f w r.shows)
    (laws.4 r.document r.wish r.caps r.steps r.full))

pub live_writes : LinesCanBeWritten → (v : Call) (event : Event) → IsLive v → EventWrites v event
live_writes written v event live = can_write (record { call = v; entries = live.0 }) event written live.1

-- no training check is first under way to the caller
no_check_back : (place : ℕ) (state : AnswererState) (accepted : ℕ) (items : List PlainItem) → Each (MayReachCaller place state accepted) items →
    head_kind items ≢ Some Training
no_check_back place state accepted [] may is = cc
no_check_back place state accepted (checked octets ∷ items) may is = may.0
no_check_back place state accepted (framed signal ∷ items) may is = no_check signal Training is refl

pub live_frames : LineHolds → (v : Call) → IsLive v → head_kind v.to_caller ≢ Some Training
live_frames facts v live =
    let r = live.1 in
    let w : World = run r.steps (new_world r.document r.wish r.caps) in
    let f = facts r.document r.wish r.caps r.steps r.full in
    subst (λ l. head_kind l ≢ Some Training) r.shows.to_caller
    (no_check_back w.caller.place w.answerer.state f.accepted w.to_caller f.to_caller)

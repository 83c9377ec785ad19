-- Events lead on: one more event with its outcome leads from what events led to.
use Rattle.std.proofs.Common.{◌≡◌, ◌≢◌, ℕ, suc, ◌≤◌, Bool, true, false, List, [], ◌∷◌, ◌++◌, length, Option, Some, None, refl, ap, sym}
use Rattle.std.proofs.Common.{subst, ◌∙◌, arith}
use Rattle.stations.specs.Laws.{Each}
use Rattle.line_sim.specs.Entries.{entry_of, and_entries, is_refused, marks, one_mark}
use Rattle.line_sim.specs.Headline.{CanBeWritten, LinesCanBeWritten}
use Rattle.line_sim.specs.Line.{World, Outcome, Done, Nothing, InputLost, Cut, happens, new_world, run}
use Rattle.line_sim.specs.Represents.{Shows, Acts, EventWrites, WorldFields, Becomes, BecomesSome, Leaves, IsReached, IsUnheard}
use Rattle.line_sim.specs.declared.call.Call.{Call}
use Rattle.line_sim.specs.declared.event.Entry.{Entry}
use Rattle.line_sim.specs.declared.event.Event.{Event}
use Rattle.line_sim.proofs.Transcripts.{run_one_more, entries_one_more}

-- what an event would send can be written
pub can_write : (v : WorldFields) (event : Event) → LinesCanBeWritten → IsReached v → EventWrites v.call event
can_write v event written r =
    let start : World = new_world r.document r.wish r.caps in
    let w : World = run r.steps start in
    let h = written r.document r.wish r.caps (r.steps ++ (event, Done) ∷ []) r.full in
    let is : run (r.steps ++ (event, Done) ∷ []) start ≡ happens w event Done = run_one_more r.steps event Done start in
    (w, r.shows, subst (λ x. Each CanBeWritten x.to_answerer) is h.0, subst (λ x. Each CanBeWritten x.to_caller) is h.1)

pub reached_more : (old new : WorldFields) (event : Event) (outcome : Outcome) → IsReached old → Becomes old new event outcome →
    IsReached new
reached_more old new event outcome r becomes =
    let start : World = new_world r.document r.wish r.caps in
    let h = becomes (run r.steps start) r.shows in
    record {
      document = r.document;
      wish = r.wish;
      caps = r.caps;
      steps = r.steps ++ (event, outcome) ∷ [];
      full = r.full;
      shows = subst (Shows new.call) (sym (run_one_more r.steps event outcome start)) h.0;
      noted = h.1 ∙ (ap (λ l. l ++ and_entries (entry_of (run r.steps start) event outcome) []) r.noted ∙
          sym (entries_one_more r.steps event outcome start));
    }

-- an event with its entry
pub acts_become : (v : WorldFields) (call : Call) (noted : List Entry) (event : Event) (entry : Entry)
    (h : Acts v.call call event entry) → noted ≡ v.entries ++ entry ∷ [] → Becomes v (record { call = call; entries = noted }) event h.0
acts_become v call noted event entry h is w shows =
    let did = h.1 w shows in
    (did.0, is ∙ ap (λ e. v.entries ++ and_entries e []) (sym did.1))

refused_in : Option Entry → Bool
refused_in None = false
refused_in (Some entry) = entry.refused

pub entry_refused : (w : World) (event : Event) (outcome : Outcome) (entry : Entry) → entry_of w event outcome ≡ Some entry →
    is_refused outcome ≡ entry.refused
unfolding refused_in
entry_refused w event Done entry e = ap refused_in e
entry_refused w event Nothing entry e = cc
entry_refused w event InputLost entry e = ap refused_in e
entry_refused w event (Cut made) entry e = ap refused_in e

pub was_refused : (v : WorldFields) (call : Call) (event : Event) (entry : Entry) (h : Acts v.call call event entry) → IsReached v →
    entry.refused ≡ true → h.0 ≢ Done
was_refused v call event entry h r marked done =
    let w : World = run r.steps (new_world r.document r.wish r.caps) in
    let no : is_refused h.0 ≡ false = ap is_refused done in
    let yes : is_refused h.0 ≡ true = entry_refused w event h.0 entry (h.1 w r.shows).1 ∙ marked in
    cc

-- what is left of an event with a marked entry
left_marked : (outcome : Outcome) (w : World) (event : Event) (old new : WorldFields) (entry : Entry) →
    entry_of w event outcome ≡ Some entry → entry.refused ≡ true → new.entries ≡ old.entries ++ entry ∷ [] → Leaves outcome old new
left_marked Done w event old new entry e marked noted = (entry, marked, noted)
left_marked Nothing w event old new entry e marked noted = absurd (cc)
left_marked InputLost w event old new entry e marked noted = (entry, marked, noted)
left_marked (Cut made) w event old new entry e marked noted = (entry, marked, noted)

-- a refused event that has its entry
pub marked_becomes : (v : WorldFields) (call : Call) (noted : List Entry) (event : Event) (entry : Entry)
    (h : Acts v.call call event entry) → IsReached v → (IsUnheard event → entry.refused ≡ false) → entry.refused ≡ true →
    noted ≡ v.entries ++ entry ∷ [] → BecomesSome v (record { call = call; entries = noted }) event
marked_becomes v call noted event entry h r unmarked marked is = (
  h.0,
  was_refused v call event entry h r marked,
  acts_become v call noted event entry h is,
  left_marked h.0 (run r.steps (new_world r.document r.wish r.caps)) event v (record { call = call; entries = noted }) entry
      (h.1 (run r.steps (new_world r.document r.wish r.caps)) r.shows).1 marked is,
  λ unheard. (let no : true ≡ false = sym marked ∙ unmarked unheard in cc),
)

-- the marks of one entry more
one_mark_swaps : (a b : Bool) (n : ℕ) → one_mark a (one_mark b n) ≡ one_mark b (one_mark a n)
one_mark_swaps true true n = refl
one_mark_swaps true false n = refl
one_mark_swaps false true n = refl
one_mark_swaps false false n = refl

pub marks_more : (xs : List Entry) (entry : Entry) → marks (xs ++ entry ∷ []) ≡ one_mark entry.refused (marks xs)
marks_more [] entry = refl
marks_more (x ∷ xs) entry = ap (one_mark x.refused) (marks_more xs entry) ∙ one_mark_swaps x.refused entry.refused (marks xs)

one_mark_few : (b : Bool) (n : ℕ) → one_mark b n ≤ suc n
one_mark_few true n = omega arith
one_mark_few false n = omega arith

pub marks_few : (xs : List Entry) → marks xs ≤ length xs
marks_few [] = omega arith
marks_few (x ∷ xs) = let h = marks_few xs in let k = one_mark_few x.refused (marks xs) in omega arith

-- How the tries of a call over a bad line are counted, step by step.
use Rattle.std.proofs.Common.{◌≡◌, ◌≢◌, ◌↔◌, ℕ, zero, suc, ◌+◌, ◌≤◌, Bool, true, false, cond, List, [], ◌∷◌, ◌++◌, length, Option, Some}
use Rattle.std.proofs.Common.{None, refl, ap}
use Rattle.std.proofs.Common.{sym, subst, ◌∙◌, inl, inr, arith}
use Rattle.std.specs.Prelude.{◌&&◌, ◌||◌, IsTrue, nat_eq, nat_le, nat_lt, not}
use Rattle.std.proofs.lemmas.Bool.{and_parts, le-leb, leb-true, lt-ltb, ne_eqb}
use Rattle.rand_pcg.specs.Lcg.{Lcg}
use Rattle.stations.specs.CallerStep.{Caller, caller_step}
use Rattle.stations.specs.Inputs.{PlainItem, framed, checked, hears, timeout, t5}
use Rattle.stations.specs.declared.turn.End.{End}
use Rattle.line_sim.specs.Driving.{Driven, Fate, Patience, caller_waits, comes_back, dis_is_due, drives, events_back, events_there}
use Rattle.line_sim.specs.Driving.{events_waiting}
use Rattle.line_sim.specs.Driving.{first_fate, is_rnr_item, meets_answerer, meets_caller, somebody_waits, step_events}
use Rattle.line_sim.specs.Driving.Fate.{comes, lost, spoiled}
use Rattle.line_sim.specs.Entries.{entries, head_kind}
use Rattle.line_sim.specs.Represents.{Shows}
use Rattle.line_sim.specs.declared.event.Kind.TheVariants.{Training}
use Rattle.line_sim.specs.EventsMean.{IsForCaller}
use Rattle.line_sim.specs.Fates.{DrivenFields, MakesStep, entries_of, events_of, next_of}
use Rattle.line_sim.specs.Line.{World, delivers_to_caller, happens}
use Rattle.line_sim.specs.Line.Outcome.{Done}
use Rattle.line_sim.specs.Report.{all_done}
use Rattle.line_sim.specs.Tolerance.{Tries, bad_with, begins_try, is_same_phase, meets, no_tries, noted, now_with, tries_after}
use Rattle.line_sim.specs.declared.drive.Step.{Step}
use Rattle.line_sim.specs.declared.event.Entry.{Entry}
use Rattle.line_sim.specs.declared.event.Event.{Event}
use Rattle.line_sim.specs.declared.event.Event.TheVariants.{AnswererT1, AnswererT2, CallerT5, CallerTimeout, DeliverToAnswerer}
use Rattle.line_sim.specs.declared.event.Event.TheVariants.{DeliverToCaller, LoseToCaller, Spoil}
use Rattle.line_sim.proofs.EventsMean.{events_make, events_touch}
use Rattle.calls.specs.BadLines.{Going, Stands, WasSet, fated, gone, is_marked, next_going, patience_of, set_in}
use Rattle.call_tallies.specs.FewTries.{FewTriesGone, met_in, tries_gone}
use Rattle.call_tallies.specs.Totals.{one_if}
use Rattle.call_tallies.specs.TriesCounted.{Follows, begins, first_try, goes_on, is_bad_in, is_check_in, is_mcf, is_mcf_in, met_by, stays}
use Rattle.call_tallies.specs.TriesCounted.{stood_in, tried}
use Rattle.calls.specs.declared.losses.BadLine.{BadLine}
use Rattle.call_tallies.specs.declared.tries.Stood.{Stood}
use Rattle.call_tallies.specs.declared.tries.TryCounts.{TryCounts}
use Rattle.call_tallies.proofs.CallerPhases.{SameBy, caller_phase, same_silent}
use Rattle.calls.proofs.DrivenSteps.{MaySet, MayStep, done_both}

-- ---- a step and its phase

-- the caller is as it was, and no MCF came
left : (c next : Caller) → next ≡ c → SameBy c next false
left c next is = subst (λ n. SameBy c n false) (sym is) (same_silent c)

unheard : (w : World) (event : Event) → (IsForCaller event → ⊥) → SameBy w.caller (happens w event Done).caller false
unheard w event deaf = left w.caller (happens w event Done).caller ((events_touch w event Done).caller deaf)

there_deaf : IsForCaller DeliverToAnswerer → ⊥
there_deaf (inl e) = cc
there_deaf (inr (inl e)) = cc
there_deaf (inr (inr e)) = cc

t1_deaf : IsForCaller AnswererT1 → ⊥
t1_deaf (inl e) = cc
t1_deaf (inr (inl e)) = cc
t1_deaf (inr (inr e)) = cc

t2_deaf : IsForCaller AnswererT2 → ⊥
t2_deaf (inl e) = cc
t2_deaf (inr (inl e)) = cc
t2_deaf (inr (inr e)) = cc

-- what a step's entries say of its events
abbrev said : List Event → World → List Entry
said events w = entries (all_done events) w

-- what is first under way to the answerer meets its fate
phase_there : (fate : Fate) (item : PlainItem) (w : World) →
    SameBy w.caller (meets_answerer fate item w).caller (is_mcf_in (said (events_there fate item) w))
phase_there comes item w = unheard w DeliverToAnswerer there_deaf
phase_there lost item w = same_silent w.caller
phase_there spoiled (framed signal) w = same_silent w.caller
phase_there spoiled (checked octets) w = unheard (happens w Spoil Done) DeliverToAnswerer there_deaf

-- so it does to the caller
phase_heard : (item : PlainItem) (items : List PlainItem) (w : World) → w.to_caller ≡ item ∷ items →
    SameBy w.caller (happens w DeliverToCaller Done).caller (is_mcf_in (said (DeliverToCaller ∷ []) w))
phase_heard (framed signal) items w is =
    subst (λ n. SameBy w.caller n (is_mcf_in (said (DeliverToCaller ∷ []) w)))
    (sym ((events_make w DeliverToCaller).hears signal items refl is))
    (subst (λ l. SameBy w.caller (caller_step w.caller (hears signal)).next (is_mcf DeliverToCaller (head_kind l))) (sym is)
    (caller_phase w.caller (hears signal)))
phase_heard (checked octets) items w is =
    subst (λ l. SameBy w.caller (happens w DeliverToCaller Done).caller (is_mcf DeliverToCaller (head_kind l))) (sym is)
    (left w.caller (happens w DeliverToCaller Done).caller (ap (λ list. (delivers_to_caller w Done list).caller) is))

phase_back : (fate : Fate) (item : PlainItem) (items : List PlainItem) (w : World) → w.to_caller ≡ item ∷ items →
    SameBy w.caller (meets_caller fate w).caller (is_mcf_in (said (events_back fate) w))
phase_back comes item items w is = phase_heard item items w is
phase_back lost item items w is = same_silent w.caller
phase_back spoiled item items w is = same_silent w.caller

phase_comes : (many : Bool) (item : PlainItem) (items : List PlainItem) (d : Driven) → d.world.to_caller ≡ item ∷ items →
    SameBy d.world.caller (comes_back many item d).world.caller
    (is_mcf_in (said (cond many (LoseToCaller ∷ CallerT5 ∷ []) (events_back (first_fate d.fates))) d.world))
phase_comes false item items d is = phase_back (first_fate d.fates) item items d.world is
phase_comes true item items d is =
    let w : World = happens d.world LoseToCaller Done in
    subst (λ n. SameBy d.world.caller n false) (sym ((events_make w CallerT5).t5 refl)) (caller_phase d.world.caller t5)

-- or a wait is over
phase_waits : (due : Bool) (other : Option End) (d : Driven) →
    SameBy d.world.caller (caller_waits due d).world.caller (is_mcf_in (said (events_waiting None other due) d.world))
phase_waits true other d = unheard d.world AnswererT2 t2_deaf
phase_waits false other d =
    subst (λ n. SameBy d.world.caller n false) (sym ((events_make d.world CallerTimeout).timeout refl))
    (caller_phase d.world.caller timeout)

phase_over : (one other : Option End) (p : Patience) (d : Driven) →
    SameBy d.world.caller (somebody_waits p one other d).world.caller
    (is_mcf_in (said (events_waiting one other (dis_is_due d.world.caller.state d.world.answerer.state other (nat_lt d.dis p.calls)))
    d.world))
phase_over None other p d = phase_waits (dis_is_due d.world.caller.state d.world.answerer.state other (nat_lt d.dis p.calls)) other d
phase_over (Some why) None p d = unheard d.world AnswererT1 t1_deaf
phase_over (Some why) (Some other) p d = same_silent d.world.caller

phase_of : (p : Patience) (d : Driven) →
    SameBy d.world.caller (next_of p d).world.caller (is_mcf_in (said (events_of p d) d.world))
phase_of p d = at d.world.to_answerer d.world.to_caller refl
  where
    at : (items others : List PlainItem) → d.world.to_caller ≡ others →
        SameBy d.world.caller (drives p items others d).world.caller (is_mcf_in (said (step_events p items others d) d.world))
    at (item ∷ items) others is = phase_there (first_fate d.fates) item d.world
    at [] (item ∷ others) is = phase_comes (is_rnr_item item && not (nat_lt d.rnrs p.busy)) item others d is
    at [] [] is = phase_over d.world.caller.ending d.world.answerer.ending p d

-- ---- the tries when an item has met its fate

-- the tries of a phase with what the entries of a step say
abbrev noted_by : List Entry → Tries → Tries
noted_by said t = record {
  bad = bad_with (is_bad_in said) t.now t.bad;
  now = now_with (is_bad_in said) t.now;
  checks = t.checks + one_if (is_check_in said);
}

same_tries : (bad checks other : ℕ) (now : Bool) → checks ≡ other →
    ◌≡◌ {A = Tries} (record { bad = bad; now = now; checks = checks }) (record { bad = bad; now = now; checks = other })
same_tries bad checks other now is = ap (λ n. record { bad = bad; now = now; checks = n }) is

none_more : (n : ℕ) → n ≡ n + 0
none_more n = omega arith

one_more : (n : ℕ) → suc n ≡ n + 1
one_more n = omega arith

no_meeting : (t : Tries) → t ≡ record { bad = t.bad; now = t.now; checks = t.checks + 0 }
no_meeting t = same_tries t.bad t.checks (t.checks + 0) t.now (none_more t.checks)

noted_there : (fate : Fate) (item : PlainItem) (w : World) (t : Tries) → meets fate item t ≡ noted_by (said (events_there fate item) w) t
noted_there comes item w t = no_meeting t
noted_there lost item w t = same_tries (bad_with true t.now t.bad) t.checks (t.checks + 0) true (none_more t.checks)
noted_there spoiled (framed signal) w t = same_tries (bad_with true t.now t.bad) t.checks (t.checks + 0) true (none_more t.checks)
noted_there spoiled (checked octets) w t = same_tries (bad_with true t.now t.bad) (suc t.checks) (t.checks + 1) true (one_more t.checks)

-- an item that comes back is no training check
noted_back : (fate : Fate) (item : PlainItem) (items : List PlainItem) (w : World) (t : Tries) →
    head_kind (item ∷ items) ≢ Some Training → meets fate item t ≡ noted_by (said (events_back fate) w) t
noted_back comes item items w t frame = no_meeting t
noted_back lost item items w t frame = same_tries (bad_with true t.now t.bad) t.checks (t.checks + 0) true (none_more t.checks)
noted_back spoiled (framed signal) items w t frame =
    same_tries (bad_with true t.now t.bad) t.checks (t.checks + 0) true (none_more t.checks)
noted_back spoiled (checked octets) items w t frame = absurd (frame refl)

noted_comes : (many : Bool) (item : PlainItem) (items : List PlainItem) (d : Driven) (t : Tries) →
    head_kind (item ∷ items) ≢ Some Training →
    cond many t (meets (first_fate d.fates) item t) ≡
    noted_by (said (cond many (LoseToCaller ∷ CallerT5 ∷ []) (events_back (first_fate d.fates))) d.world) t
noted_comes true item items d t frame = no_meeting t
noted_comes false item items d t frame = noted_back (first_fate d.fates) item items d.world t frame

noted_over : (one other : Option End) (due : Bool) (w : World) (t : Tries) → t ≡ noted_by (said (events_waiting one other due) w) t
noted_over None other true w t = no_meeting t
noted_over None other false w t = no_meeting t
noted_over (Some why) None due w t = no_meeting t
noted_over (Some why) (Some other) due w t = no_meeting t

noted_of : (p : Patience) (d : Driven) (t : Tries) → head_kind d.world.to_caller ≢ Some Training →
    noted p d.world.to_answerer d.world.to_caller d t ≡ noted_by (said (events_of p d) d.world) t
noted_of p d t frame = at d.world.to_answerer d.world.to_caller frame
  where
    at : (items others : List PlainItem) → head_kind others ≢ Some Training →
        noted p items others d t ≡ noted_by (said (step_events p items others d) d.world) t
    at (item ∷ items) others frame = noted_there (first_fate d.fates) item d.world t
    at [] (item ∷ others) frame = noted_comes (is_rnr_item item && not (nat_lt d.rnrs p.busy)) item others d t frame
    at [] [] frame =
        noted_over d.world.caller.ending d.world.answerer.ending
        (dis_is_due d.world.caller.state d.world.answerer.state d.world.answerer.ending (nat_lt d.dis p.calls)) d.world t

-- ---- a try begins

some_there : (n : ℕ) → nat_lt 0 (suc n) ≡ true
some_there n = lt-ltb 0 (suc n) (omega arith)

none_there : (n : ℕ) → nat_eq (suc n) 0 ≡ false
none_there n = ne_eqb (suc n) 0 (λ e. (let no = e in omega arith))

begins_is : (a b c d : List PlainItem) →
    begins (record { to_answerer = length a; to_caller = length b }) (record { to_answerer = length c; to_caller = length d }) ≡
    begins_try a b c d
begins_is [] [] [] [] = refl
begins_is [] [] [] (item ∷ items) = some_there (length items)
begins_is [] [] (item ∷ items) d = ap (λ b. b || (nat_eq 0 0 && nat_lt 0 (length d))) (some_there (length items))
begins_is [] (one ∷ others) [] d = ap (λ b. b && nat_lt 0 (length d)) (none_there (length others))
begins_is [] (one ∷ others) (item ∷ items) d =
    ap (λ b. b || (nat_eq (suc (length others)) 0 && nat_lt 0 (length d))) (some_there (length items))
begins_is (one ∷ others) b c d =
    ap (λ x. x && (nat_lt 0 (length c) || (nat_eq (length b) 0 && nat_lt 0 (length d)))) (none_there (length others))

-- ---- a step more

few_met : (few : Bool) (bad checks spare : ℕ) (P : Type 0) → (IsTrue few ↔ P) →
    IsTrue (few && (nat_le bad 2 && nat_le checks spare)) ↔ (P × (bad ≤ 2) × (checks ≤ spare))
few_met few bad checks spare P is = (there, back)
  where
    there : IsTrue (few && (nat_le bad 2 && nat_le checks spare)) → P × (bad ≤ 2) × (checks ≤ spare)
    there e =
        let one = and_parts few (nat_le bad 2 && nat_le checks spare) e in
        let two = and_parts (nat_le bad 2) (nat_le checks spare) one.1 in
        (is.0 one.0, leb-true bad 2 two.0, leb-true checks spare two.1)

    back : P × (bad ≤ 2) × (checks ≤ spare) → IsTrue (few && (nat_le bad 2 && nat_le checks spare))
    back h =
        ap (λ b. b && (nat_le bad 2 && nat_le checks spare)) (is.1 h.0) ∙
        (ap (λ b. b && nat_le checks spare) (le-leb bad 2 h.1) ∙ le-leb checks spare h.2)

-- the tries that the code counts in the present phase
abbrev plain : TryCounts → Tries
plain t = record { bad = t.bad; now = t.now; checks = t.checks }

-- the tries after a step, from those that the code has
after_is : (old new : World) (met : TryCounts) (same : Bool) → is_same_phase old.caller new.caller ≡ same →
    tries_after old new (plain met) ≡
    plain (cond same (goes_on (begins (stood_in old).counts (stood_in new).counts) met) (first_try met.few))
after_is old new met true is =
    ap (λ b. cond b (record {
      bad = met.bad;
      now = met.now && not (begins_try old.to_answerer old.to_caller new.to_answerer new.to_caller);
      checks = met.checks;
    }) no_tries) is ∙
    ap (λ b. record { bad = met.bad; now = met.now && not b; checks = met.checks })
    (sym (begins_is old.to_answerer old.to_caller new.to_answerer new.to_caller))
after_is old new met false is =
    ap (λ b. cond b (record {
      bad = met.bad;
      now = met.now && not (begins_try old.to_answerer old.to_caller new.to_answerer new.to_caller);
      checks = met.checks;
    }) no_tries) is

few_kept : (same again : Bool) (met : TryCounts) → (cond same (goes_on again met) (first_try met.few)).few ≡ met.few
few_kept true again met = refl
few_kept false again met = refl

-- the driven call that makes the next step
abbrev pub stepping : ℕ → BadLine → Going → Driven
stepping made line first = fated line (set_in line (gone made line first))

pub none_tried : (spare : ℕ) (line : BadLine) (first : Going) (t : TryCounts) → t ≡ first_try true → Follows zero spare line first t
none_tried spare line first t is =
    subst (Follows zero spare line first) (sym is) (record { tries = refl; few = (λ e. tt, λ h. refl) })

step_tried : (made spare : ℕ) (line : BadLine) (first : Going) (old : TryCounts) → Follows made spare line first old →
    head_kind (stepping made line first).world.to_caller ≢ Some Training →
    Follows (suc made) spare line first
    (tried spare (said (events_of (patience_of line) (stepping made line first)) (stepping made line first).world)
    (stood_in (stepping made line first).world) (stood_in (next_going line (gone made line first)).call.world) old)
step_tried made spare line first old follows frame =
    let p : Patience = patience_of line in
    let d : Driven = stepping made line first in
    let w : World = d.world in
    let next : World = (next_going line (gone made line first)).call.world in
    let noted : List Entry = said (events_of p d) w in
    let met : TryCounts = met_by spare noted old in
    let met_is : met_in line (gone made line first) (tries_gone made line first) ≡ plain met =
    ap (λ t. met_in line (gone made line first) t) follows.tries ∙ noted_of p d (plain old) frame in
    let same : Bool = stays noted (stood_in w) (stood_in next) in
    record {
      tries = ap (λ t. tries_after w next t) met_is ∙ after_is w next met same (phase_of p d);
      few = subst (λ b. IsTrue b ↔ FewTriesGone (suc made) spare line first)
          (sym (few_kept same (begins (stood_in w).counts (stood_in next).counts) met))
          (subst (λ (t : Tries). IsTrue met.few ↔ (FewTriesGone made spare line first × (t.bad ≤ 2) × (t.checks ≤ spare))) (sym met_is)
          (few_met old.few met.bad met.checks spare (FewTriesGone made spare line first) follows.few));
    }

-- the entries of a step that was made are those of its events
step_noted : (p : Patience) (new : DrivenFields) (d : Driven) (step : Step) → MakesStep p new d step → step.entry.refused ≡ false →
    entries_of step ≡ said (events_of p d) d.world
step_noted p new d step makes whole =
    makes.noted ∙ (ap (λ o. entries (all_done makes.before ++ (makes.event, o) ∷ []) d.world) (makes.done whole).0 ∙
    (ap (λ l. entries l d.world) (sym (done_both makes.before (makes.event ∷ []))) ∙ ap (λ l. entries (all_done l) d.world) makes.events))

-- how much is under way in a call, and whether its caller sends a block, are those of each world that its fields show
abbrev pub StandsIn : DrivenFields → Stood → Type 0
StandsIn v stood = (w : World) → Shows v.live w → stood ≡ stood_in w

pub one_tried : (line : BadLine) (first : Going) (made spare : ℕ) (now mid new : DrivenFields) (generator drawn later : Lcg)
    (old more : TryCounts) (set : Option Entry) (step : Step) (before after : Stood) → Stands now line generator (gone made line first) →
    MaySet line now mid generator drawn set → is_marked set ≡ false → MayStep line mid new drawn later (Some step) →
    step.entry.refused ≡ false → Follows made spare line first old → StandsIn mid before → head_kind mid.live.to_caller ≢ Some Training →
    StandsIn new after → more ≡ tried spare (entries_of step) before after old → Follows (made + 1) spare line first more
one_tried line first made spare now mid new generator drawn later old more set step before after stands may_set unmarked may whole follows
    stood frame left_so is =
    let g : Going = gone made line first in
    let d : Driven = stepping made line first in
    let was : WasSet line g mid drawn set = may_set g stands unmarked in
    let makes : MakesStep (patience_of line) new d step = (may (set_in line g) was.stands).steps in
    let next : World = (next_going line g).call.world in
    let one : suc made ≡ made + 1 = omega arith in
    let all : more ≡ tried spare (said (events_of (patience_of line) d) d.world) (stood_in d.world) (stood_in next) old =
    is ∙ (ap (λ l. tried spare l before after old) (step_noted (patience_of line) new d step makes whole) ∙
    (ap (λ s. tried spare (said (events_of (patience_of line) d) d.world) s after old) (stood d.world was.stands.shows.world) ∙
    ap (λ s. tried spare (said (events_of (patience_of line) d) d.world) (stood_in d.world) s old)
    (left_so next (makes.done whole).1.world))) in
    subst (λ n. Follows n spare line first more) one
    (subst (Follows (suc made) spare line first) (sym all)
    (step_tried made spare line first old follows (subst (λ l. head_kind l ≢ Some Training) (sym was.stands.shows.world.to_caller) frame)))

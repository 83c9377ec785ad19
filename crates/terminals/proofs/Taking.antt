-- Inputs that are taken one after the other.
use Rattle.std.proofs.Common.{◌≡◌, Bool, true, false, ℕ, List, [], ◌∷◌, ◌++◌, drop, inl, inr, refl, subst, sym}
use Rattle.std.specs.Prelude.{◌&&◌, Some, Ok, Err, Result, slice_get}
use Rattle.hdlc.specs.DeframerState.{DeframerState}
use Rattle.signals.specs.Reading.{read_content}
use Rattle.signals.specs.Signals.{PlainSignal}
use Rattle.signals.specs.declared.fault.SignalFault.{SignalFault}
use Rattle.stations.specs.declared.turn.Turn.{Turn}
use Rattle.terminals.specs.Hearing.{PlainInput, heard, heard_if}
use Rattle.terminals.specs.Runs.{TakesAll, TakesSome}
use Rattle.terminals.specs.Speaking.{BurstsOf, Speaking, StepOf, Takes, is_silent}

-- ---- one input

pub takes_said :
    {S : Type 0} (steps : StepOf S) (old : Speaking S) (input : PlainInput) (station : S) (turn : Turn) →
    steps old.station input station turn → is_silent turn ≡ false →
    Takes S steps old input (record { station = station; turn = turn; taken = 0 })
takes_said steps old input station turn so loud = record { station = station; turn = turn; steps_so = so; is = rw loud refl }

pub takes_silent :
    {S : Type 0} (steps : StepOf S) (old : Speaking S) (input : PlainInput) (station : S) (turn : Turn) →
    steps old.station input station turn → is_silent turn ≡ true →
    Takes S steps old input (record { station = station; turn = old.turn; taken = old.taken })
takes_silent steps old input station turn so silent = record { station = station; turn = turn; steps_so = so; is = rw silent refl }

-- ---- lists of inputs

pub all_append : {S : Type 0} (steps : StepOf S) (lends : BurstsOf S) (xs ys : List PlainInput) (a b c : Speaking S) →
    TakesAll steps lends a xs b → TakesAll steps lends b ys c → TakesAll steps lends a (xs ++ ys) c
all_append steps lends [] ys a b c e t = subst (λ s. TakesAll steps lends s ys c) e t
all_append steps lends (x ∷ xs) ys a b c h t = (h.0, h.1, all_append steps lends xs ys h.0 b c h.2 t)

pub some_append : {S : Type 0} (steps : StepOf S) (lends : BurstsOf S) (xs ys : List PlainInput) (a b c : Speaking S) →
    TakesSome steps lends a xs b → TakesSome steps lends b ys c → TakesSome steps lends a (xs ++ ys) c
some_append steps lends [] ys a b c e t = subst (λ s. TakesSome steps lends s ys c) e t
some_append steps lends (x ∷ xs) ys a b c h t = (h.0, h.1, some_append steps lends xs ys h.0 b c h.2 t)

pub all_are_some : {S : Type 0} (steps : StepOf S) (lends : BurstsOf S) (xs : List PlainInput) (a b : Speaking S) → TakesAll steps lends a xs b →
    TakesSome steps lends a xs b
all_are_some steps lends [] a b h = h
all_are_some steps lends (x ∷ xs) a b h = (h.0, inl h.1, all_are_some steps lends xs h.0 b h.2)

-- a content whose signal was lost
lost_one : {S : Type 0} (steps : StepOf S) (lends : BurstsOf S) (read : Result PlainSignal SignalFault) (a : Speaking S) → TakesSome steps lends a (heard_if read) a
lost_one steps lends (Ok signal) a = (a, inr refl, refl)
lost_one steps lends (Err fault) a = refl

-- a content was heard, or its signal was lost
some_one : {S : Type 0} (steps : StepOf S) (lends : BurstsOf S) (read : Result PlainSignal SignalFault) (heard_it : Bool) (a b : Speaking S) →
    (heard_it ≡ true → TakesAll steps lends a (heard_if read) b) → (heard_it ≡ false → b ≡ a) → TakesSome steps lends a (heard_if read) b
some_one steps lends read true a b h l = all_are_some steps lends (heard_if read) a b (h refl)
some_one steps lends read false a b h l = subst (λ s. TakesSome steps lends s (heard_if read) b) (l refl) (lost_one steps lends read b)

-- ---- the contents that wait

-- What is still to be heard of the contents that waited: with it all of them are heard, or some.
pub record WaitingLeft (S : Type 0) (steps : StepOf S) (lends : BurstsOf S) (start framing : DeframerState) (old now : Speaking S) (all : Bool) : Type 0 where
  pub each : all ≡ true → (new : Speaking S) → TakesAll steps lends now (heard framing.queue) new → TakesAll steps lends old (heard start.queue) new
  pub some : (new : Speaking S) → TakesSome steps lends now (heard framing.queue) new → TakesSome steps lends old (heard start.queue) new
  pub rest : framing ≡ record start { queue = framing.queue }

both_true : (a b : Bool) → (a && b) ≡ true → (a ≡ true) × (b ≡ true)
both_true true true e = (refl, refl)
both_true true false e = absurd (cc)
both_true false b e = absurd (cc)

-- one content more of a queue was heard
all_of_queue : {S : Type 0} (steps : StepOf S) (lends : BurstsOf S) (queue : List (List ℕ)) (content : List ℕ) (now next new : Speaking S) →
    slice_get queue 0 ≡ Some content → TakesAll steps lends now (heard_if (read_content content)) next →
    TakesAll steps lends next (heard (drop 1 queue)) new → TakesAll steps lends now (heard queue) new
all_of_queue steps lends [] content now next new e h t = absurd (cc)
all_of_queue steps lends (x ∷ xs) content now next new e h t =
    let same : content ≡ x = cc in
    all_append steps lends (heard_if (read_content x)) (heard xs) now next new
    (subst (λ y. TakesAll steps lends now (heard_if (read_content y)) next) same h) t

some_of_queue : {S : Type 0} (steps : StepOf S) (lends : BurstsOf S) (queue : List (List ℕ)) (content : List ℕ) (now next new : Speaking S) →
    slice_get queue 0 ≡ Some content → TakesSome steps lends now (heard_if (read_content content)) next →
    TakesSome steps lends next (heard (drop 1 queue)) new → TakesSome steps lends now (heard queue) new
some_of_queue steps lends [] content now next new e h t = absurd (cc)
some_of_queue steps lends (x ∷ xs) content now next new e h t =
    let same : content ≡ x = cc in
    some_append steps lends (heard_if (read_content x)) (heard xs) now next new
    (subst (λ y. TakesSome steps lends now (heard_if (read_content y)) next) same h) t

next_left :
    {S : Type 0} (steps : StepOf S) (lends : BurstsOf S) (start framing : DeframerState) (old now next : Speaking S) (all heard_it : Bool) (content : List ℕ) →
    slice_get framing.queue 0 ≡ Some content →
    (heard_it ≡ true → TakesAll steps lends now (heard_if (read_content content)) next) → (heard_it ≡ false → next ≡ now) →
    WaitingLeft S steps lends start framing old now all →
    WaitingLeft S steps lends start (record framing { queue = drop 1 framing.queue }) old next (all && heard_it)
next_left steps lends start framing old now next all heard_it content first h l left = record {
  each = λ both new t.
      let so = both_true all heard_it both in
      left.each so.0 new (all_of_queue steps lends framing.queue content now next new first (h so.1) t);
  some = λ new t.
      let one = some_one steps lends (read_content content) heard_it now next h l in
      left.some new (some_of_queue steps lends framing.queue content now next new first one t);
  rest = rw left.rest refl;
}

pub next_waits :
    {S : Type 0} (steps : StepOf S) (lends : BurstsOf S) (start framing after : DeframerState) (old now next : Speaking S) (all heard_it : Bool)
    (content : List ℕ) → after ≡ record framing { queue = drop 1 framing.queue } → slice_get framing.queue 0 ≡ Some content →
    (heard_it ≡ true → TakesAll steps lends now (heard_if (read_content content)) next) → (heard_it ≡ false → next ≡ now) →
    WaitingLeft S steps lends start framing old now all →
    WaitingLeft S steps lends start after old next (all && heard_it)
next_waits {S} steps lends start framing after old now next all heard_it content is first h l left =
    subst (λ f. WaitingLeft S steps lends start f old next (all && heard_it)) (sym is)
    (next_left steps lends start framing old now next all heard_it content first h l left)

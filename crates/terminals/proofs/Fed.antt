-- Octets that a deframer was fed, and what is heard of them.
use Rattle.std.proofs.Common.{◌≡◌, ℕ, Bool, List, [], ◌++◌, ◌∙◌, ap, length, sym, subst}
use Rattle.std.proofs.lemmas.List.{drop_all}
use Rattle.std.proofs.Math.Nat.{le_refl}
use Rattle.std.specs.Prelude.{Option}
use Rattle.raster.specs.Packed.{bits_of}
use Rattle.raster.specs.declared.packed.Order.TheVariants.{LsbFirst}
use Rattle.raster.proofs.OctetBits.{bits_of-append}
use Rattle.hdlc.specs.DeframerState.{DeframerState, IsAfter}
use Rattle.terminals.specs.Hearing.{contents, new_contents, heard, heard_of, HasHeard}
use Rattle.terminals.specs.Runs.{TakesAll, TakesSome}
use Rattle.terminals.specs.Speaking.{BurstsOf, Speaking, StepOf}
use Rattle.terminals.specs.Watching.{Sees, SeesBy, SeesOne, saw_all, seen_reading}
use Rattle.terminals.proofs.Seen.{seen_is_saw}
use Rattle.terminals.specs.declared.watching.Watched.{Watched}

-- a deframer was fed a piece
abbrev pub Feeds : DeframerState → List ℕ → DeframerState → Type 0
Feeds framing piece fed =
    (bits : List Bool) (handed : ℕ) → IsAfter framing bits handed → IsAfter fed (bits ++ bits_of LsbFirst piece) handed

octets_taken : (before piece : List ℕ) (framing fed : DeframerState) → HasHeard framing before → Feeds framing piece fed →
    HasHeard (record fed { queue = [] }) (before ++ piece) × (fed.queue ≡ new_contents before piece)
unfolding contents new_contents
octets_taken before piece framing fed has feeds =
    let is_after : IsAfter fed (bits_of LsbFirst (before ++ piece)) (length (contents before)) =
    subst (λ b. IsAfter fed b (length (contents before))) (sym (bits_of-append before piece))
    (feeds (bits_of LsbFirst before) (length (contents before)) has) in
    let every = contents (before ++ piece) in (
      record {
        kept = is_after.kept;
        counted = is_after.counted;
        within = le_refl (length every);
        queued = sym (drop_all (length every) every (le_refl (length every)));
      },
      is_after.queued,
    )

pub hears_all :
    {S : Type 0} (steps : StepOf S) (lends : BurstsOf S) (piece : List ℕ) (framing fed after : DeframerState) (old new : Speaking S) →
    Feeds framing piece fed → after ≡ record fed { queue = [] } → TakesAll steps lends old (heard fed.queue) new → (before : List ℕ) →
    HasHeard framing before → HasHeard after (before ++ piece) × TakesAll steps lends old (heard_of before piece) new
hears_all steps lends piece framing fed after old new feeds is takes before has =
    let h = octets_taken before piece framing fed has feeds in
    (subst (λ f. HasHeard f (before ++ piece)) (sym is) h.0, subst (λ q. TakesAll steps lends old (heard q) new) h.1 takes)

pub hears_some :
    {S : Type 0} (steps : StepOf S) (lends : BurstsOf S) (piece : List ℕ) (framing fed after : DeframerState) (old new : Speaking S) →
    Feeds framing piece fed → after ≡ record fed { queue = [] } → TakesSome steps lends old (heard fed.queue) new → (before : List ℕ) →
    HasHeard framing before → HasHeard after (before ++ piece) × TakesSome steps lends old (heard_of before piece) new
hears_some steps lends piece framing fed after old new feeds is takes before has =
    let h = octets_taken before piece framing fed has feeds in
    (subst (λ f. HasHeard f (before ++ piece)) (sym is) h.0, subst (λ q. TakesSome steps lends old (heard q) new) h.1 takes)

pub sees : {W : Type 0} (saw : SeesOne W) (piece : List ℕ) (framing fed : DeframerState) (old new : W) → Feeds framing piece fed →
    new ≡ saw_all saw old fed.queue → SeesBy saw framing piece old new
sees saw piece framing fed old new feeds is =
    (fed.queue, is, λ before has. (octets_taken before piece framing fed has feeds).1)

-- what is seen by what is watched
pub saw_watched : (piece : List ℕ) (framing fed : DeframerState) (old new : Option Watched) → Feeds framing piece fed →
    new ≡ saw_all seen_reading old fed.queue → Sees framing piece old new
saw_watched piece framing fed old new feeds is before has =
    is ∙ (ap (saw_all seen_reading old) (octets_taken before piece framing fed has feeds).1 ∙ seen_is_saw old (new_contents before piece))

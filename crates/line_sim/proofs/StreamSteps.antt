-- The loops that go over contents and feeds.
use Rattle.std.proofs.Common.{◌≡◌, ◌+◌, ◌<◌, ℕ, zero, suc, Bool, List, [], ◌∷◌, ◌++◌, length, take, map, get_or}
use Rattle.std.proofs.Common.{refl, ap, sym, ◌∙◌, subst, arith, append_assoc}
use Rattle.std.proofs.lemmas.List.{append-nil, drop_all}
use Rattle.std.proofs.Math.Nat.{le_refl}
use Rattle.std.specs.Prelude.{Result, Ok, Err, OnOk}
use Rattle.raster.specs.Packed as Packed
use Rattle.raster.specs.Packed.{bits_of}
use Rattle.raster.specs.declared.packed.Order.TheVariants.{LsbFirst}
use Rattle.raster.proofs.OctetBits.{bits_of-append}
use Rattle.hdlc.specs.Flags.{flags, gaps}
use Rattle.hdlc.specs.DeframerState.{DeframerState, IsAfter}
use Rattle.signals.specs.declared.params.Caps.{Caps}
use Rattle.stations.specs.AnswererStep.{Answerer, answerer_step}
use Rattle.stations.specs.Inputs.{AnswererInput}
use Rattle.stations.specs.Runs.{answerer_after, answerer_turns}
use Rattle.stations.specs.declared.turn.Turn.{Turn}
use Rattle.stations.specs.declared.turn.Turn.TheVariants.{Dis}
use Rattle.line_sim.specs.declared.stream.Feed.{Feed}
use Rattle.line_sim.specs.Streams.{PlainFeed, line, plain_feed, octets_in, line_octets, contents, new_contents, heard}
use Rattle.line_sim.specs.Streams.{feed_inputs, inputs_of, starts, Hears, HasHeard, TakesFeed}
use Rattle.line_sim.proofs.Streams.{line_octets-append, inputs-append}

-- ---- inputs, and then others

after-append : (xs ys : List AnswererInput) (s : Answerer) → answerer_after (xs ++ ys) s ≡ answerer_after ys (answerer_after xs s)
after-append [] ys s = refl
after-append (x ∷ xs) ys s = after-append xs ys (answerer_step s x).next

turns-append : (xs ys : List AnswererInput) (s : Answerer) →
    answerer_turns (xs ++ ys) s ≡ answerer_turns xs s ++ answerer_turns ys (answerer_after xs s)
turns-append [] ys s = refl
turns-append (x ∷ xs) ys s = ap (λ l. (answerer_step s x).turn ∷ l) (turns-append xs ys (answerer_step s x).next)

pub hears_both : (xs ys : List AnswererInput) (a b c : Answerer) (ta tb tc : List Turn) →
    Hears xs a b ta tb → Hears ys b c tb tc → Hears (xs ++ ys) a c ta tc
hears_both xs ys a b c ta tb tc one two = record {
  station = two.station ∙ (ap (answerer_after ys) one.station ∙ sym (after-append xs ys a));
  turns_are =
      two.turns_are ∙ (ap (λ l. l ++ answerer_turns ys b) one.turns_are ∙ (append_assoc ta (answerer_turns xs a) (answerer_turns ys b) ∙
      ap (λ l. ta ++ l) (ap (λ s. answerer_turns xs a ++ answerer_turns ys s) one.station ∙ sym (turns-append xs ys a))));
}

-- ---- the contents that wait

-- What is still to be heard of the contents that waited: with it all of them are heard.
pub record HearsLeft (start framing : DeframerState) (old now : Answerer) (before turns : List Turn) : Type 0 where
  pub left :
      (new : Answerer) (all : List Turn) →
      Hears (heard framing.queue) now new turns all → Hears (heard start.queue) old new before all
  pub rest : framing ≡ record start { queue = framing.queue }

-- ---- a feed

pub on_ok_both : {T E : Type 0} (r : Result T E) (P Q : Type 0) → OnOk r P → OnOk r Q → OnOk r (P × Q)
on_ok_both (Ok x) P Q p q = (p, q)
on_ok_both (Err e) P Q p q = tt

pub octets_taken : (octets piece : List ℕ) (framing fed after : DeframerState) (old new : Answerer) (before turns : List Turn) →
    HasHeard framing octets →
    ((bits : List Bool) (handed : ℕ) → IsAfter framing bits handed → IsAfter fed (bits ++ bits_of LsbFirst piece) handed) →
    Hears (heard fed.queue) old new before turns → after ≡ record fed { queue = [] } →
    TakesFeed octets (line piece) after old new before turns
unfolding contents new_contents
octets_taken octets piece framing fed after old new before turns has feeds hears is =
    let is_after : IsAfter fed (bits_of LsbFirst (octets ++ piece)) (length (contents octets)) =
    subst (λ b. IsAfter fed b (length (contents octets))) (sym (bits_of-append octets piece))
    (feeds (bits_of LsbFirst octets) (length (contents octets)) has) in
    let queue : fed.queue ≡ new_contents octets piece = is_after.queued in
    let every = contents (octets ++ piece) in
    record {
      taken = subst (λ f. HasHeard f (octets ++ piece)) (sym is) (record {
        kept = is_after.kept;
        counted = is_after.counted;
        within = le_refl (length every);
        queued = sym (drop_all (length every) every (le_refl (length every)));
      });
      heard = subst (λ q. Hears (heard q) old new before turns) queue hears;
    }

-- ---- feeds

-- these feeds were taken
pub record TakesAll (caps : Caps) (feeds : List PlainFeed) (framing : DeframerState) (now : Answerer) (turns : List Turn) : Type 0 where
  pub taken : HasHeard framing (line_octets feeds)
  pub heard : Hears (inputs_of feeds) (starts caps) now (Dis ∷ []) turns

pub none_taken : (caps : Caps) (framing : DeframerState) (s : Answerer) (turns : List Turn) →
    IsAfter framing [] 0 → s ≡ starts caps → turns ≡ Dis ∷ [] → TakesAll caps [] framing s turns
unfolding contents flags gaps Packed.bits_in
none_taken caps framing s turns fresh is first = record {
  taken = fresh;
  heard = record { station = is; turns_are = first };
}

one_taken :
    (caps : Caps) (feeds : List PlainFeed) (feed : PlainFeed) (framing after : DeframerState) (now next : Answerer) (turns more : List Turn)
    →
    TakesAll caps feeds framing now turns →
    ((octets : List ℕ) → HasHeard framing octets → TakesFeed octets feed after now next turns more) →
    TakesAll caps (feeds ++ feed ∷ []) after next more
one_taken caps feeds feed framing after now next turns more so takes =
    let one = takes (line_octets feeds) so.taken in
    let octets : line_octets (feeds ++ feed ∷ []) ≡ line_octets feeds ++ octets_in feed =
    line_octets-append feeds (feed ∷ []) ∙ ap (λ l. line_octets feeds ++ l) (append-nil (octets_in feed)) in
    let inputs : inputs_of (feeds ++ feed ∷ []) ≡ inputs_of feeds ++ feed_inputs (line_octets feeds) feed =
    inputs-append [] feeds (feed ∷ []) ∙ ap (λ l. inputs_of feeds ++ l) (append-nil (feed_inputs (line_octets feeds) feed)) in
    record {
      taken = subst (HasHeard after) (sym octets) one.taken;
      heard = subst (λ l. Hears l (starts caps) next (Dis ∷ []) more) (sym inputs)
          (hears_both (inputs_of feeds) (feed_inputs (line_octets feeds) feed) (starts caps) now next (Dis ∷ []) turns more
          so.heard one.heard);
    }

-- one feed more of a list
next_feed : (xs : List Feed) (i : ℕ) (d : Feed) → i < length xs →
    map plain_feed (take (i + 1) xs) ≡ map plain_feed (take i xs) ++ plain_feed (get_or xs i d) ∷ []
next_feed [] i d within = absurd (omega arith)
next_feed (x ∷ xs) zero d within = refl
next_feed (x ∷ xs) (suc i) d within =
    let e : suc i + 1 ≡ suc (i + 1) = omega arith in
    ap (λ n. map plain_feed (take n (x ∷ xs))) e ∙ ap (λ l. plain_feed x ∷ l) (next_feed xs i d (omega arith))

pub next_taken :
    (caps : Caps) (xs : List Feed) (i : ℕ) (d : Feed) (framing after : DeframerState) (now next : Answerer) (turns more : List Turn) →
    i < length xs → TakesAll caps (map plain_feed (take i xs)) framing now turns →
    ((octets : List ℕ) → HasHeard framing octets → TakesFeed octets (plain_feed (get_or xs i d)) after now next turns more) →
    TakesAll caps (map plain_feed (take (i + 1) xs)) after next more
next_taken caps xs i d framing after now next turns more within so takes =
    subst (λ l. TakesAll caps l after next more) (sym (next_feed xs i d within))
    (one_taken caps (map plain_feed (take i xs)) (plain_feed (get_or xs i d)) framing after now next turns more so takes)

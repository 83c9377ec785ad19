-- A line that is taken octet by octet.
use Rattle.std.proofs.Common.{◌≡◌, ◌≢◌, ◌<◌, ◌≤◌, ◌+◌, ℕ, zero, suc, Bool, true, List, [], ◌∷◌, ◌++◌, Option, Ok, length, not, nat_eq}
use Rattle.std.proofs.Common.{◌-◌, refl, sym, ap, subst, arith, inl, inr, take, ◌∙◌, length-append, length-take-le}
use Rattle.std.specs.Io.KnownBytes.{Consumes, IsAtEnd, Keeps}
use Rattle.std.proofs.KnownBytes.{Consumes-kept, Consumes-nil, Consumes-trans}
use Rattle.std.proofs.lemmas.List.{append-nil}
use Rattle.std.proofs.lemmas.Bool.Decides.{nat_tests}
use Rattle.std.specs.Prelude.{Result, Err, IsErrAnd}
use Rattle.conversations.specs.Reading.{HasNoFeed, TakesLine, TakesNext, TakesPart, TakesPlain, TakesTooMany}
use Rattle.conversations.specs.declared.reading.ReadFault.{ReadFault}
use Rattle.conversations.specs.declared.reading.ReadFault.TheVariants.{NoMemory, TooLong, Failed}

-- this much of a line was taken
pub record SoFar (line : List ℕ) (old now : Option (List ℕ)) (count : ℕ) : Type 0 where
  pub one : HasNoFeed line
  pub few : count ≤ length line
  pub most : length line ≤ 400000
  pub taken : Consumes old now line

no_feed_more : (line : List ℕ) (octet : ℕ) → HasNoFeed line → octet ≢ 10 → HasNoFeed (line ++ octet ∷ [])
no_feed_more [] octet h other zero l = other
no_feed_more [] octet h other (suc k) l = absurd (omega (arith, l))
no_feed_more (x ∷ xs) octet h other zero l = h 0 (omega arith)
no_feed_more (x ∷ xs) octet h other (suc k) l = no_feed_more xs octet (λ i m. h (suc i) (omega (arith, m))) other k (omega (arith, l))

size_more : (line : List ℕ) (octet : ℕ) → length (line ++ octet ∷ []) ≡ length line + 1
size_more [] octet = refl
size_more (x ∷ xs) octet = let rest = size_more xs octet in omega (arith, rest)

pub none_taken : (line : List ℕ) (reader : Option (List ℕ)) → line ≡ [] → SoFar line reader reader 0
none_taken line reader empty = subst (λ l. SoFar l reader reader 0) (sym empty) (record {
  one = λ k l. absurd (omega (arith, l));
  few = omega arith;
  most = omega arith;
  taken = Consumes-nil reader;
})

-- no LF is in two lists, nor in both joined
no_feed_joined : (xs ys : List ℕ) → HasNoFeed xs → HasNoFeed ys → HasNoFeed (xs ++ ys)
no_feed_joined [] ys h j k l = j k l
no_feed_joined (x ∷ xs) ys h j zero l = h 0 (omega arith)
no_feed_joined (x ∷ xs) ys h j (suc k) l =
    no_feed_joined xs ys (λ i m. h (suc i) (omega (arith, m))) j k (omega (arith, l))

pub plain_more : (line longer : List ℕ) (old now new : Option (List ℕ)) (count : ℕ) → SoFar line old now count
    → TakesPlain now new line longer → SoFar longer old new count
plain_more line longer old now new count so_far more = record {
  one = subst HasNoFeed (sym more.joined) (no_feed_joined line more.piece so_far.one more.one);
  few =
      let long = ap length more.joined ∙ length-append line more.piece in let few = so_far.few in omega (arith, long, few);
  most = more.most so_far.most;
  taken = subst (Consumes old new) (sym more.joined) (Consumes-trans old now new line more.piece so_far.taken more.taken);
}

pub one_more : (line longer : List ℕ) (octet : ℕ) (old now new : Option (List ℕ)) (count : ℕ) → SoFar line old now count
    → length line < 400000 → Consumes now new (octet ∷ []) → octet ≢ 10 → longer ≡ line ++ octet ∷ [] → SoFar longer old new (count + 1)
one_more line longer octet old now new count so_far room came other is = subst (λ l. SoFar l old new (count + 1)) (sym is) (record {
  one = no_feed_more line octet so_far.one other;
  few = let more = size_more line octet in let few = so_far.few in omega (arith, more, few);
  most = let more = size_more line octet in omega (arith, more, room);
  taken = Consumes-trans old now new line (octet ∷ []) so_far.taken came;
})

pub with_feed : (line : List ℕ) (old now new : Option (List ℕ)) (count : ℕ) → SoFar line old now count
    → Consumes now new (10 ∷ []) → TakesLine old new line
with_feed line old now new count so_far came = record {
  one = so_far.one;
  most = so_far.most;
  taken = inl (Consumes-trans old now new line (10 ∷ []) so_far.taken came);
}

pub too_many : (line : List ℕ) (octet : ℕ) (old now new : Option (List ℕ)) (count : ℕ) → SoFar line old now count → 400000 ≤ length line
    → Consumes now new (octet ∷ []) → octet ≢ 10 → TakesTooMany old new line
too_many line octet old now new count so_far whole came other = record {
  octet = octet;
  one = no_feed_more line octet so_far.one other;
  all = let most = so_far.most in omega (arith, most, whole);
  taken = Consumes-trans old now new line (octet ∷ []) so_far.taken came;
}

nothing_more : (line : List ℕ) (old now new : Option (List ℕ)) (count : ℕ) → SoFar line old now count → Consumes now new []
    → Consumes old new line
nothing_more line old now new count so_far came =
    subst (Consumes old new) (append-nil line) (Consumes-trans old now new line [] so_far.taken came)

pub last_line : (line : List ℕ) (old now new : Option (List ℕ)) (count : ℕ) → SoFar line old now count → 0 < length line
    → Consumes now new [] → IsAtEnd new → TakesLine old new line
last_line line old now new count so_far some came end = record {
  one = so_far.one;
  most = so_far.most;
  taken = inr (some, nothing_more line old now new count so_far came, end);
}

some : (x : ℕ) (xs : List ℕ) → not (nat_eq (length (x ∷ xs)) 0) ≡ true
some x xs = grind (arith, nat_tests)

pub at_end : (line : List ℕ) (old now new : Option (List ℕ)) (count : ℕ) (there : Bool) → SoFar line old now count
    → Consumes now new [] → IsAtEnd new → there ≡ not (nat_eq (length line) 0) → TakesNext old new line (Ok there)
at_end [] old now new count there so_far came end is =
    rw is (nothing_more [] old now new count so_far came, end)
at_end (x ∷ xs) old now new count there so_far came end is =
    rw (is, some x xs) (last_line (x ∷ xs) old now new count so_far (omega arith) came end)

-- nothing is taken
pub plain_none : (line : List ℕ) (old new : Option (List ℕ)) → Keeps old new → TakesPlain old new line line
plain_none line old new kept = record {
  piece = [];
  one = λ k l. absurd (omega (arith, l));
  joined = sym (append-nil line);
  most = λ m. m;
  taken = Consumes-kept old old new [] (Consumes-nil old) kept;
}

-- some of what is shown is taken
pub plain_some : (line longer shown : List ℕ) (room count : ℕ) (old new : Option (List ℕ)) → longer ≡ line ++ take count shown
    → HasNoFeed (take count shown) → count ≤ length shown → count ≤ room → room ≡ 400000 - length line
    → Consumes old new (take count shown) → TakesPlain old new line longer
plain_some line longer shown room count old new joined plain within few is taken = record {
  piece = take count shown;
  one = plain;
  joined = joined;
  most = λ m.
      let long = ap length joined ∙ length-append line (take count shown) in
      let cut = length-take-le count shown within in omega (arith, long, cut, few, is, m);
  taken = taken;
}

-- nothing more is taken, and this much of a line was
pub part_taken : (line kept : List ℕ) (old now new : Option (List ℕ)) (count : ℕ) → SoFar line old now count → Consumes now new []
    → kept ≡ line → TakesPart old new kept
part_taken line kept old now new count so_far came is = subst (TakesPart old new) (sym is) (record {
  one = so_far.one;
  most = so_far.most;
  taken = nothing_more line old now new count so_far came;
})

-- what a fault leaves of a line
pub part_left : (line : List ℕ) (old new : Option (List ℕ)) (fault : ReadFault) (result : Result Bool ReadFault) → fault ≢ TooLong →
    IsErrAnd result (λ found. found ≡ fault) → TakesPart old new line → TakesNext old new line result
part_left line old new fault (Ok there) other is part = absurd is
part_left line old new NoMemory (Err found) other is part = rw is (inl part)
part_left line old new TooLong (Err found) other is part = absurd (other refl)
part_left line old new (Failed kind) (Err found) other is part = rw is part

-- an octet more was taken, and there was no room for it
pub octet_lost : (line kept : List ℕ) (octet : ℕ) (old now new : Option (List ℕ)) (count : ℕ) → SoFar line old now count
    → length line < 400000 → Consumes now new (octet ∷ []) → octet ≢ 10 → kept ≡ line → TakesNext old new kept (Err NoMemory)
octet_lost line kept octet old now new count so_far room came other is =
    let more = one_more line (line ++ octet ∷ []) octet old now new count so_far room came other refl in
    subst (λ (l : List ℕ). TakesNext old new l (Err NoMemory)) (sym is)
    (inr (octet, record { one = more.one; most = more.most; taken = more.taken }))

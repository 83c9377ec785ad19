-- What is on a line, within what is on the line of a simulated call: some of its items in their order, and any DCN besides.
use Rattle.std.proofs.Common.{◌≡◌, ◌≢◌, List, [], ◌∷◌, ◌++◌, refl, ap, sym, subst, ◌∙◌, inl, inr, ◌⊎◌, append-nil}
use Rattle.signals.specs.Signals.{dcn}
use Rattle.stations.specs.Inputs.{PlainItem, framed, checked}
use Rattle.line_sim.specs.Line.{World, Outcome, Done, after_first, run}
use Rattle.line_sim.specs.declared.event.Event.{Event}
use Rattle.line_sim.specs.declared.event.Event.TheVariants.{LoseToAnswerer, LoseToCaller}
use Rattle.joined_terminals.specs.Happening.{AreLeft, none, kept, lost}

pub data IsWithin : List PlainItem → List PlainItem → Type 0 where
  no_more : {ys : List PlainItem} → IsWithin [] ys
  both : {x : PlainItem} {xs ys : List PlainItem} → IsWithin xs ys → IsWithin (x ∷ xs) (x ∷ ys)
  over : {y : PlainItem} {xs ys : List PlainItem} → IsWithin xs ys → IsWithin xs (y ∷ ys)
  leaving : {x : PlainItem} {xs ys : List PlainItem} → x ≡ framed dcn → IsWithin xs ys → IsWithin (x ∷ xs) ys

-- what is within all that the rest is within is so behind a common item
behind : {x : PlainItem} {xs others ys : List PlainItem} → ((zs : List PlainItem) → IsWithin xs zs → IsWithin others zs) →
    IsWithin (x ∷ xs) ys → IsWithin (x ∷ others) ys
behind f (both h) = both (f _ h)
behind f (over h) = over (behind f h)
behind f (leaving e h) = leaving e (f _ h)

pub without_first : {x : PlainItem} {xs ys : List PlainItem} → IsWithin (x ∷ xs) ys → IsWithin xs ys
without_first (both h) = over h
without_first (over h) = over (without_first h)
without_first (leaving e h) = h

pub front_within : (xs zs : List PlainItem) (ys : List PlainItem) → IsWithin (xs ++ zs) ys → IsWithin xs ys
front_within [] zs ys h = no_more
front_within (x ∷ xs) zs ys h = behind (front_within xs zs) h

-- what is left of items is within what they are within
pub left_within : {some all : List PlainItem} → AreLeft some all → (zs ys : List PlainItem) → IsWithin (all ++ zs) ys → IsWithin (some ++ zs) ys
left_within none zs ys h = h
left_within (kept p) zs ys h = behind (left_within p zs) h
left_within (lost p) zs ys h = left_within p zs ys (without_first h)

pub all_within : (xs : List PlainItem) → IsWithin xs xs
all_within [] = no_more
all_within (x ∷ xs) = both (all_within xs)

after_within : (ys zs : List PlainItem) → IsWithin zs (ys ++ zs)
after_within [] zs = all_within zs
after_within (y ∷ ys) zs = over (after_within ys zs)

pub more_within : {xs ys : List PlainItem} (zs : List PlainItem) → IsWithin xs ys → IsWithin (xs ++ zs) (ys ++ zs)
more_within {ys = ys} zs no_more = after_within ys zs
more_within zs (both h) = both (more_within zs h)
more_within zs (over h) = over (more_within zs h)
more_within zs (leaving e h) = leaving e (more_within zs h)

-- items of which either the same or none are left at the end
pub less_within : (xs zs others ys : List PlainItem) → (others ≡ zs) ⊎ (others ≡ []) → IsWithin (xs ++ zs) ys → IsWithin (xs ++ others) ys
less_within xs zs others ys (inl e) h = subst (λ l. IsWithin (xs ++ l) ys) (sym e) h
less_within xs zs others ys (inr e) h =
    subst (λ l. IsWithin (xs ++ l) ys) (sym e) (subst (λ l. IsWithin l ys) (sym (append-nil xs)) (front_within xs zs ys h))

-- a DCN can always be there
pub dcn_within : (xs ys : List PlainItem) → IsWithin xs ys → IsWithin (xs ++ framed dcn ∷ []) ys
dcn_within [] ys h = leaving refl no_more
dcn_within (x ∷ xs) ys h = behind (dcn_within xs) h

-- an item is DCN, or it isn't
pub dcn_or_not : (item : PlainItem) → (item ≡ framed dcn) ⊎ (item ≢ framed dcn)
dcn_or_not (framed dcn) = inl refl
dcn_or_not (framed _) = inr (λ e. cc)
dcn_or_not (checked octets) = inr (λ e. cc)

-- the simulated line loses what lies before an item that comes to the answerer
pub record ReachesAnswerer (w : World) (x : PlainItem) (xs : List PlainItem) : Type 0 where
  pub steps : List (Event × Outcome)
  pub more : List PlainItem
  pub there : run steps w ≡ record w { to_answerer = x ∷ more }
  pub within : IsWithin xs more

pub reaches_answerer : {x : PlainItem} {xs ys : List PlainItem} → x ≢ framed dcn → IsWithin (x ∷ xs) ys → (w : World) → w.to_answerer ≡ ys →
    ReachesAnswerer w x xs
reaches_answerer {x} {xs} not (both {ys = ys} h) w e =
    record { steps = []; more = ys; there = ap (λ (l : List PlainItem). record w { to_answerer = l }) e; within = h }
reaches_answerer {x} {xs} not (over {y = y} {ys = ys} h) w e =
    let r = reaches_answerer not h (record w { to_answerer = ys }) refl in
    record {
      steps = (LoseToAnswerer, Done) ∷ r.steps;
      more = r.more;
      there = ap (λ (l : List PlainItem). run r.steps (record w { to_answerer = after_first l })) e ∙ r.there;
      within = r.within;
    }
reaches_answerer not (leaving is h) w e = absurd (not is)

-- the simulated line loses what lies before an item that comes to the caller
pub record ReachesCaller (w : World) (x : PlainItem) (xs : List PlainItem) : Type 0 where
  pub steps : List (Event × Outcome)
  pub more : List PlainItem
  pub there : run steps w ≡ record w { to_caller = x ∷ more }
  pub within : IsWithin xs more

pub reaches_caller : {x : PlainItem} {xs ys : List PlainItem} → x ≢ framed dcn → IsWithin (x ∷ xs) ys → (w : World) → w.to_caller ≡ ys →
    ReachesCaller w x xs
reaches_caller {x} {xs} not (both {ys = ys} h) w e =
    record { steps = []; more = ys; there = ap (λ (l : List PlainItem). record w { to_caller = l }) e; within = h }
reaches_caller {x} {xs} not (over {y = y} {ys = ys} h) w e =
    let r = reaches_caller not h (record w { to_caller = ys }) refl in
    record {
      steps = (LoseToCaller, Done) ∷ r.steps;
      more = r.more;
      there = ap (λ (l : List PlainItem). run r.steps (record w { to_caller = after_first l })) e ∙ r.there;
      within = r.within;
    }
reaches_caller not (leaving is h) w e = absurd (not is)

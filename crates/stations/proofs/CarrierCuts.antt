-- The items of a turn, cut where the carrier changes.
use Rattle.std.proofs.Common.{◌≡◌, ◌≢◌, ℕ, suc, Bool, true, false, cond, List, [], ◌∷◌, ◌++◌, refl, sym, ap, subst, inl, inr, ◌∙◌}
use Rattle.std.specs.Prelude.{◌⊎◌, ◌↔◌, IsTrue}
use Rattle.partial_page.specs.Store.{bit_of}
use Rattle.signals.specs.Signals.{dcs, fcd, rcp}
use Rattle.signals.specs.declared.params.Params.{Params}
use Rattle.signals.specs.declared.params.Speed.{Speed}
use Rattle.stations.specs.AnswererStep.{Answerer, answerer_items}
use Rattle.stations.specs.Blocks.{Block}
use Rattle.stations.specs.Bursts.{carrier_of, same_kind, PlainBurst, put_before, bursts_of, items_of, front_by, rest_by, BurstLeft}
use Rattle.stations.specs.Bursts.{Differ, IsBurst, CutByCarrier, TurnsCut}
use Rattle.stations.specs.CallerStep.{fcds, pps_of, training_items}
use Rattle.stations.specs.Inputs.{PlainItem, framed, checked}
use Rattle.stations.specs.Laws.{Each}
use Rattle.stations.specs.Layers.{training}
use Rattle.stations.specs.Lending.{plain_item, TellsLast}
use Rattle.stations.specs.declared.carrier.Carrier.{Carrier}
use Rattle.stations.specs.declared.carrier.Carrier.TheVariants.{V21, Training, Page}
use Rattle.stations.specs.declared.lending.Item.{Item}
use Rattle.stations.specs.declared.turn.CallerState.TheVariants.{WaitCfr}
use Rattle.stations.specs.declared.turn.Turn.{Turn}
use Rattle.stations.specs.declared.turn.Turn.TheVariants.{Dis as SendDis, Cfr as SendCfr, Ftt as SendFtt, Mcf as SendMcf}
use Rattle.stations.specs.declared.turn.Turn.TheVariants.{Ppr as SendPpr, Rnr as SendRnr, Dcn as SendDcn}

pub front_none : (speed : Speed) (carrier : Carrier) → front_by speed carrier [] ≡ []
unfolding front_by
front_none speed carrier = refl

pub front_stops :
    (speed : Speed) (carrier : Carrier) (item : PlainItem) (items : List PlainItem) →
    same_kind (carrier_of speed item) carrier ≡ false → front_by speed carrier (item ∷ items) ≡ []
unfolding front_by
front_stops speed carrier item items e = ap (λ b. cond b (item ∷ front_by speed carrier items) []) e

pub front_goes_on :
    (speed : Speed) (carrier : Carrier) (item : PlainItem) (items : List PlainItem) →
    same_kind (carrier_of speed item) carrier ≡ true → front_by speed carrier (item ∷ items) ≡ item ∷ front_by speed carrier items
unfolding front_by
front_goes_on speed carrier item items e = ap (λ b. cond b (item ∷ front_by speed carrier items) []) e

pub rest_none : (speed : Speed) (carrier : Carrier) → rest_by speed carrier [] ≡ []
unfolding rest_by
rest_none speed carrier = refl

pub rest_stops :
    (speed : Speed) (carrier : Carrier) (item : PlainItem) (items : List PlainItem) →
    same_kind (carrier_of speed item) carrier ≡ false → rest_by speed carrier (item ∷ items) ≡ item ∷ items
unfolding rest_by
rest_stops speed carrier item items e = ap (λ b. cond b (rest_by speed carrier items) (item ∷ items)) e

pub rest_goes_on :
    (speed : Speed) (carrier : Carrier) (item : PlainItem) (items : List PlainItem) →
    same_kind (carrier_of speed item) carrier ≡ true → rest_by speed carrier (item ∷ items) ≡ rest_by speed carrier items
unfolding rest_by
rest_goes_on speed carrier item items e = ap (λ b. cond b (rest_by speed carrier items) (item ∷ items)) e

-- the front and the rest are all items
pub front_and_rest :
    (speed : Speed) (carrier : Carrier) (items : List PlainItem) → front_by speed carrier items ++ rest_by speed carrier items ≡ items
unfolding front_by rest_by
front_and_rest speed carrier [] = refl
front_and_rest speed carrier (item ∷ items) = at (same_kind (carrier_of speed item) carrier) (front_and_rest speed carrier items)
  where
    at : (b : Bool) → front_by speed carrier items ++ rest_by speed carrier items ≡ items →
        cond b (item ∷ front_by speed carrier items) [] ++ cond b (rest_by speed carrier items) (item ∷ items) ≡ item ∷ items
    at true h = ap (λ l. item ∷ l) h
    at false h = refl

-- the carriers of a speed
abbrev IsOneOfThree : Speed → Carrier → Type 0
IsOneOfThree speed carrier = (carrier ≡ V21) ⊎ (carrier ≡ Training speed) ⊎ (carrier ≡ Page speed)

one_of_three : (speed : Speed) (item : PlainItem) → IsOneOfThree speed (carrier_of speed item)
one_of_three speed (framed (fcd number octets)) = inr (inr refl)
one_of_three speed (framed rcp) = inr (inr refl)
one_of_three speed (framed _) = inl refl
one_of_three speed (checked octets) = inr (inl refl)

-- of one speed, carriers of one kind are the same
alike : (speed : Speed) (a b : Carrier) → IsOneOfThree speed a → IsOneOfThree speed b → same_kind a b ≡ true → a ≡ b
alike speed a b (inl e) (inl f) h = e ∙ sym f
alike speed a b (inl e) (inr (inl f)) h = let no : false ≡ true = rw (e, f) at h in cc
alike speed a b (inl e) (inr (inr f)) h = let no : false ≡ true = rw (e, f) at h in cc
alike speed a b (inr (inl e)) (inl f) h = let no : false ≡ true = rw (e, f) at h in cc
alike speed a b (inr (inl e)) (inr (inl f)) h = e ∙ sym f
alike speed a b (inr (inl e)) (inr (inr f)) h = let no : false ≡ true = rw (e, f) at h in cc
alike speed a b (inr (inr e)) (inl f) h = let no : false ≡ true = rw (e, f) at h in cc
alike speed a b (inr (inr e)) (inr (inl f)) h = let no : false ≡ true = rw (e, f) at h in cc
alike speed a b (inr (inr e)) (inr (inr f)) h = e ∙ sym f

same_refl : (a : Carrier) → same_kind a a ≡ true
same_refl V21 = refl
same_refl (Training speed) = refl
same_refl (Page speed) = refl

same_sym : (a b : Carrier) → same_kind a b ≡ same_kind b a
same_sym V21 V21 = refl
same_sym V21 (Training t) = refl
same_sym V21 (Page t) = refl
same_sym (Training s) V21 = refl
same_sym (Training s) (Training t) = refl
same_sym (Training s) (Page t) = refl
same_sym (Page s) V21 = refl
same_sym (Page s) (Training t) = refl
same_sym (Page s) (Page t) = refl

-- the first burst of items is the front on the first one's carrier, and the other bursts are those of the rest
pub first_burst :
    (speed : Speed) (item : PlainItem) (items : List PlainItem) →
    bursts_of speed (item ∷ items) ≡
    record { carrier = carrier_of speed item; items = item ∷ front_by speed (carrier_of speed item) items } ∷
    bursts_of speed (rest_by speed (carrier_of speed item) items)
unfolding bursts_of front_by rest_by
first_burst speed item [] = refl
first_burst speed item (next ∷ items) =
    let a : Carrier = carrier_of speed item in
    let b : Carrier = carrier_of speed next in
    ap (put_before a item) (first_burst speed next items) ∙ at (same_kind a b) refl (first_burst speed next items)
  where
    at : (t : Bool) → same_kind (carrier_of speed item) (carrier_of speed next) ≡ t →
        bursts_of speed (next ∷ items) ≡
        record { carrier = carrier_of speed next; items = next ∷ front_by speed (carrier_of speed next) items } ∷
        bursts_of speed (rest_by speed (carrier_of speed next) items) →
        put_before (carrier_of speed item) item
        (record { carrier = carrier_of speed next; items = next ∷ front_by speed (carrier_of speed next) items } ∷
        bursts_of speed (rest_by speed (carrier_of speed next) items)) ≡
        record { carrier = carrier_of speed item; items = item ∷ front_by speed (carrier_of speed item) (next ∷ items) } ∷
        bursts_of speed (rest_by speed (carrier_of speed item) (next ∷ items))
    at true e h =
        let a : Carrier = carrier_of speed item in
        let b : Carrier = carrier_of speed next in
        let same : a ≡ b = alike speed _ _ (one_of_three speed item) (one_of_three speed next) e in
        let other : List PlainBurst =
        record { carrier = b; items = next ∷ front_by speed b items } ∷ bursts_of speed (rest_by speed b items) in
        ap (λ t. cond t
        (record { carrier = a; items = item ∷ next ∷ front_by speed b items } ∷ bursts_of speed (rest_by speed b items))
        (record { carrier = a; items = item ∷ [] } ∷ other)) e ∙
        (ap (λ k. record { carrier = a; items = item ∷ next ∷ front_by speed k items } ∷ bursts_of speed (rest_by speed k items)) (sym same) ∙
        sym (ap (λ t. record { carrier = a; items = item ∷ cond t (next ∷ front_by speed a items) [] } ∷
        bursts_of speed (cond t (rest_by speed a items) (next ∷ items))) (same_sym b a ∙ e)))
    at false e h =
        let a : Carrier = carrier_of speed item in
        let b : Carrier = carrier_of speed next in
        let other : List PlainBurst =
        record { carrier = b; items = next ∷ front_by speed b items } ∷ bursts_of speed (rest_by speed b items) in
        ap (λ t. cond t
        (record { carrier = a; items = item ∷ next ∷ front_by speed b items } ∷ bursts_of speed (rest_by speed b items))
        (record { carrier = a; items = item ∷ [] } ∷ other)) e ∙
        (ap (λ l. record { carrier = a; items = item ∷ [] } ∷ l) (sym h) ∙
        sym (ap (λ t. record { carrier = a; items = item ∷ cond t (next ∷ front_by speed a items) [] } ∷
        bursts_of speed (cond t (rest_by speed a items) (next ∷ items))) (same_sym b a ∙ e)))

pub bursts_none : (speed : Speed) → bursts_of speed [] ≡ []
unfolding bursts_of
bursts_none speed = refl

items_put : (carrier : Carrier) (item : PlainItem) (bursts : List PlainBurst) →
    items_of (put_before carrier item bursts) ≡ item ∷ items_of bursts
items_put carrier item [] = refl
items_put carrier item (burst ∷ bursts) = at (same_kind carrier burst.carrier)
  where
    at : (t : Bool) →
        items_of (cond t (record { carrier = carrier; items = item ∷ burst.items } ∷ bursts)
        (record { carrier = carrier; items = item ∷ [] } ∷ burst ∷ bursts)) ≡ item ∷ items_of (burst ∷ bursts)
    at true = refl
    at false = refl

-- the bursts of items have the items
pub items_are : (speed : Speed) (items : List PlainItem) → items_of (bursts_of speed items) ≡ items
unfolding bursts_of
items_are speed [] = refl
items_are speed (item ∷ items) =
    items_put (carrier_of speed item) item (bursts_of speed items) ∙ ap (λ l. item ∷ l) (items_are speed items)

-- what a burst that was put before others is
abbrev HeadsAs : Carrier → List PlainBurst → Type 0
HeadsAs carrier [] = ⊥
HeadsAs carrier (burst ∷ bursts) = burst.carrier ≡ carrier

-- bursts in order: each of its carrier, and the carriers change
abbrev InOrder : Speed → List PlainBurst → Type 0
InOrder speed bursts = Each (IsBurst speed) bursts × Differ bursts

alone_then : (speed : Speed) (item : PlainItem) (burst : PlainBurst) (bursts : List PlainBurst) →
    same_kind (carrier_of speed item) burst.carrier ≡ false → InOrder speed (burst ∷ bursts) →
    InOrder speed (record { carrier = carrier_of speed item; items = item ∷ [] } ∷ burst ∷ bursts)
alone_then speed item burst bursts e h = (
  (((λ n. let no : ⊥ = cc in no), (refl, tt)), h.0),
  ((λ same. let no : false ≡ true = sym e ∙ (ap (λ k. same_kind k burst.carrier) same ∙ same_refl burst.carrier) in cc), h.1),
)

joins_in : (speed : Speed) (item : PlainItem) (burst : PlainBurst) (bursts : List PlainBurst) →
    carrier_of speed item ≡ burst.carrier → InOrder speed (burst ∷ bursts) →
    InOrder speed (record { carrier = carrier_of speed item; items = item ∷ burst.items } ∷ bursts)
joins_in speed item burst bursts same h = (
  (((λ n. let no : ⊥ = cc in no), (refl, subst (λ k. Each (λ i. carrier_of speed i ≡ k) burst.items) (sym same) h.0.0.1)), h.0.1),
  differ bursts h.1,
)
  where
    differ : (more : List PlainBurst) → Differ (burst ∷ more) →
        Differ (record { carrier = carrier_of speed item; items = item ∷ burst.items } ∷ more)
    differ [] d = tt
    differ (next ∷ more) d = ((λ e. d.0 (sym same ∙ e)), d.1)

-- the carrier of a burst that has items is one of the three
burst_carrier : (speed : Speed) (burst : PlainBurst) → IsBurst speed burst → IsOneOfThree speed burst.carrier
burst_carrier speed burst h = at burst.items h.0 h.1
  where
    at : (items : List PlainItem) → items ≢ [] → Each (λ item. carrier_of speed item ≡ burst.carrier) items →
        IsOneOfThree speed burst.carrier
    at [] none e = absurd (none refl)
    at (item ∷ items) some e = subst (IsOneOfThree speed) e.0 (one_of_three speed item)

put_in_order : (speed : Speed) (item : PlainItem) (bursts : List PlainBurst) → InOrder speed bursts →
    InOrder speed (put_before (carrier_of speed item) item bursts)
put_in_order speed item [] h = ((((λ n. let no : ⊥ = cc in no), (refl, tt)), tt), tt)
put_in_order speed item (burst ∷ bursts) h = at (same_kind (carrier_of speed item) burst.carrier) refl
  where
    at : (t : Bool) → same_kind (carrier_of speed item) burst.carrier ≡ t →
        InOrder speed (cond t (record { carrier = carrier_of speed item; items = item ∷ burst.items } ∷ bursts)
        (record { carrier = carrier_of speed item; items = item ∷ [] } ∷ burst ∷ bursts))
    at true e =
        joins_in speed item burst bursts (alike speed _ _ (one_of_three speed item) (burst_carrier speed burst h.0.0) e) h
    at false e = alone_then speed item burst bursts e h

in_order : (speed : Speed) (items : List PlainItem) → InOrder speed (bursts_of speed items)
unfolding bursts_of
in_order speed [] = (tt, tt)
in_order speed (item ∷ items) = put_in_order speed item (bursts_of speed items) (in_order speed items)

pub cut_by_carrier : CutByCarrier
cut_by_carrier speed items =
    record { joined = items_are speed items; carried = (in_order speed items).0; change = (in_order speed items).1 }

-- the frames of a page before those that follow on the same carrier
page_frames :
    (speed : Speed) (map : List ℕ) (number : ℕ) (frames : List (List ℕ)) (more : List PlainItem) (later : List PlainBurst)
    (rest : List PlainItem) →
    bursts_of speed rest ≡ record { carrier = Page speed; items = more } ∷ later →
    bursts_of speed (fcds map number frames ++ rest) ≡
    record { carrier = Page speed; items = fcds map number frames ++ more } ∷ later
unfolding bursts_of
page_frames speed map number [] more later rest e = e
page_frames speed map number (octets ∷ frames) more later rest e =
    at (bit_of map number) (page_frames speed map (suc number) frames more later rest e)
  where
    at : (t : Bool) →
        bursts_of speed (fcds map (suc number) frames ++ rest) ≡
        record { carrier = Page speed; items = fcds map (suc number) frames ++ more } ∷ later →
        bursts_of speed (cond t (framed (fcd number octets) ∷ fcds map (suc number) frames) (fcds map (suc number) frames) ++ rest) ≡
        record {
          carrier = Page speed;
          items = cond t (framed (fcd number octets) ∷ fcds map (suc number) frames) (fcds map (suc number) frames) ++ more;
        } ∷ later
    at true h = ap (put_before (Page speed) (framed (fcd number octets))) h
    at false h = h

block_cut : (speed : Speed) (block : Block) →
    bursts_of speed (framed rcp ∷ framed rcp ∷ framed rcp ∷ pps_of block ∷ []) ≡
    record { carrier = Page speed; items = framed rcp ∷ framed rcp ∷ framed rcp ∷ [] } ∷
    record { carrier = V21; items = pps_of block ∷ [] } ∷ []
unfolding bursts_of
block_cut speed block = refl

check_cut : (params : Params) →
    bursts_of params.speed (training_items WaitCfr params) ≡
    record { carrier = V21; items = framed (dcs params) ∷ [] } ∷
    record { carrier = Training params.speed; items = checked (training params) ∷ [] } ∷ []
unfolding bursts_of
check_cut params = refl

answers_cut : (s : Answerer) (turn : Turn) → Each (λ burst. burst.carrier ≡ V21) (bursts_of s.params.speed (answerer_items s turn))
unfolding bursts_of
answers_cut s SendDis = (refl, tt)
answers_cut s SendCfr = (refl, tt)
answers_cut s SendFtt = (refl, tt)
answers_cut s SendMcf = (refl, tt)
answers_cut s (SendPpr map) = (refl, tt)
answers_cut s SendRnr = (refl, tt)
answers_cut s SendDcn = (refl, tt)
answers_cut s _ = tt

pub turns_cut : TurnsCut
turns_cut =
    record {
      block = λ speed map block. page_frames speed map 0 block.frames _ _ _ (block_cut speed block);
      check = check_cut;
      answers = answers_cut;
    }

-- items of a burst: the one taken is its first, and the others are left
pub gives_item :
    (speed : Speed) (carrier : Carrier) (item : Item) (old new : List PlainItem) →
    old ≡ plain_item item ∷ new → TellsLast item new → same_kind (carrier_of speed (plain_item item)) carrier ≡ true →
    (front_by speed carrier old ≡ plain_item item ∷ front_by speed carrier new) ×
    (rest_by speed carrier new ≡ rest_by speed carrier old) ×
    TellsLast item (front_by speed carrier new ++ rest_by speed carrier new)
gives_item speed carrier item old new is tells same = (
  ap (front_by speed carrier) is ∙ front_goes_on speed carrier (plain_item item) new same,
  sym (ap (rest_by speed carrier) is ∙ rest_goes_on speed carrier (plain_item item) new same),
  subst (TellsLast item) (sym (front_and_rest speed carrier new)) tells,
)

pub gives_no_item :
    (speed : Speed) (carrier : Carrier) (item : PlainItem) (old new : List PlainItem) →
    old ≡ item ∷ new → same_kind (carrier_of speed item) carrier ≡ false → front_by speed carrier old ≡ []
gives_no_item speed carrier item old new is differs = ap (front_by speed carrier) is ∙ front_stops speed carrier item new differs

-- what is passed over, where nothing is left, at an item of another carrier, and at one of the carrier
pub passes_none :
    (speed : Speed) (carrier : Carrier) (items start : List PlainItem) →
    items ≡ [] → rest_by speed carrier items ≡ rest_by speed carrier start → items ≡ rest_by speed carrier start
passes_none speed carrier items start none so_far =
    none ∙ (sym (rest_none speed carrier) ∙ (ap (rest_by speed carrier) (sym none) ∙ so_far))

pub passes_no_more :
    (speed : Speed) (carrier : Carrier) (item : PlainItem) (items new start : List PlainItem) →
    items ≡ item ∷ new → same_kind (carrier_of speed item) carrier ≡ false →
    rest_by speed carrier items ≡ rest_by speed carrier start → items ≡ rest_by speed carrier start
passes_no_more speed carrier item items new start is differs so_far =
    is ∙ (sym (rest_stops speed carrier item new differs) ∙ (ap (rest_by speed carrier) (sym is) ∙ so_far))

pub passes_one :
    (speed : Speed) (carrier : Carrier) (item : PlainItem) (items new start : List PlainItem) →
    items ≡ item ∷ new → same_kind (carrier_of speed item) carrier ≡ true →
    rest_by speed carrier items ≡ rest_by speed carrier start → rest_by speed carrier new ≡ rest_by speed carrier start
passes_one speed carrier item items new start is same so_far =
    sym (rest_goes_on speed carrier item new same) ∙ (ap (rest_by speed carrier) (sym is) ∙ so_far)

-- the first burst of items that begin with an item
pub gives_burst :
    (speed : Speed) (carrier : Carrier) (item : PlainItem) (items more : List PlainItem) →
    items ≡ item ∷ more → carrier ≡ carrier_of speed item →
    bursts_of speed items ≡
    record { carrier = carrier; items = front_by speed carrier items } ∷ bursts_of speed (rest_by speed carrier items)
gives_burst speed carrier item items more is carries =
    let a : Carrier = carrier_of speed item in
    let same : same_kind a a ≡ true = same_refl a in
    ap (bursts_of speed) is ∙ (first_burst speed item more ∙
    (ap (λ (l : List PlainItem). record { carrier = a; items = l } ∷ bursts_of speed (rest_by speed a more))
    (sym (front_goes_on speed a item more same)) ∙
    (ap (λ (l : List PlainItem). record { carrier = a; items = front_by speed a (item ∷ more) } ∷ bursts_of speed l)
    (sym (rest_goes_on speed a item more same)) ∙
    (ap (λ (l : List PlainItem). record { carrier = a; items = front_by speed a l } ∷ bursts_of speed (rest_by speed a l)) (sym is) ∙
    ap (λ (k : Carrier). record { carrier = k; items = front_by speed k items } ∷ bursts_of speed (rest_by speed k items))
    (sym carries)))))

-- there are no bursts exactly of no items
pub no_bursts : (speed : Speed) (items : List PlainItem) → (items ≡ []) ↔ (bursts_of speed items ≡ [])
no_bursts speed items = ((λ none. ap (bursts_of speed) none ∙ bursts_none speed), back items)
  where
    back : (items : List PlainItem) → bursts_of speed items ≡ [] → items ≡ []
    back [] e = refl
    back (item ∷ items) e =
        let no : ◌≡◌ {A = List PlainBurst}
        (record { carrier = carrier_of speed item; items = item ∷ front_by speed (carrier_of speed item) items } ∷
        bursts_of speed (rest_by speed (carrier_of speed item) items)) [] = sym (first_burst speed item items) ∙ e in
        let never : ⊥ = cc in absurd never

-- the burst that is given, and what is left
pub gives_next :
    (speed : Speed) (carrier : Carrier) (item : Item) (items more new : List PlainItem) (given : BurstLeft) (last : Bool) →
    items ≡ plain_item item ∷ more → carrier ≡ carrier_of speed (plain_item item) →
    given ≡ record { burst = front_by speed carrier items; after = rest_by speed carrier items } →
    new ≡ rest_by speed carrier items → (IsTrue last ↔ (new ≡ [])) →
    (bursts_of speed items ≡ record { carrier = carrier; items = given.burst } ∷ bursts_of speed new) ×
    (given.after ≡ items_of (bursts_of speed new)) × (IsTrue last ↔ (bursts_of speed new ≡ []))
gives_next speed carrier item items more new given last is carries given_is new_is through = (
  gives_burst speed carrier (plain_item item) items more is carries ∙
      (ap (λ (g : BurstLeft). record { carrier = carrier; items = g.burst } ∷ bursts_of speed (rest_by speed carrier items)) (sym given_is) ∙
      ap (λ (l : List PlainItem). record { carrier = carrier; items = given.burst } ∷ bursts_of speed l) (sym new_is)),
  ap (λ (g : BurstLeft). g.after) given_is ∙ (sym new_is ∙ sym (items_are speed new)),
  ((λ t. (no_bursts speed new).0 (through.0 t)), (λ e. through.1 ((no_bursts speed new).1 e))),
)

-- An answerer with limits over what happens to it: inputs in good frames of octets of the line, and pages that are taken.
use Rattle.std.proofs.Common.{◌≡◌, ◌⊎◌, ◌∙◌, ◌++◌, ◌∷◌, ℕ, zero, suc, Bool, true, false, List, [], inl, inr, ap, refl, subst, sym}
use Rattle.std.proofs.Common.{arith}
use Rattle.std.proofs.lemmas.List.Elements.{Contains-append_cases, Contains-append_left, Contains-append_right}
use Rattle.std.specs.List.{Contains}
use Rattle.std.specs.Prelude.{Option, Some, None, cond}
use Rattle.conversations.specs.StoredLines.{signals_in}
use Rattle.raster.specs.Pages.{PagePixels}
use Rattle.signals.specs.Signals.{PlainSignal, dcs, fcd}
use Rattle.signals.specs.declared.params.Caps.{Caps}
use Rattle.signals.specs.declared.params.Params.{Params}
use Rattle.stations.specs.AnswererStep.{Answerer, new_answerer}
use Rattle.stations.specs.Inputs.{AnswererInput, listens, trains, t2, t1, is_busy}
use Rattle.stations.specs.Laws.{Each}
use Rattle.stations.specs.LimitedRuns.{heard_as}
use Rattle.stations.specs.LimitedServing.{LimitedServes, given_first, let_through, limited_served}
use Rattle.stations.specs.Limiting.{LimitedFields, busy_while, freed, limited_step, told_by}
use Rattle.stations.specs.Runs.{IsHeard, IsReadOf, StoredIsRead}
use Rattle.stations.specs.Taken.{Served, TakenAndThere, given, given_inputs, served, taken, taken_pages}
use Rattle.stations.specs.declared.limiting.Limits.{Limits}
use Rattle.stations.specs.declared.stopping.Cut.{Cut}
use Rattle.stations.specs.declared.turn.Turn.{Turn}
use Rattle.terminals.specs.Hearing.{CutsChangeNothing, PlainInput, heard_of}
use Rattle.terminals.specs.Stations.{answerer_takes}
use Rattle.terminals.specs.StationsAfter.{answerer_inputs, put_taken}
use Rattle.terminals.specs.Stopping.{LimitedStepsUnlessCut, limited_answers, told_after}

-- ---- one thing more happens

-- whether the answerer is busy, as it was told
abbrev pub told_over : Bool → List Served → Bool
told_over told [] = told
told_over told (given input ∷ more) = told_over (told_by told input) more
told_over told (taken ∷ more) = told_over told more

served_more : (limits : Limits) (told : Bool) (happens : List Served) (x : AnswererInput) (s : Answerer) →
    limited_served limits told (happens ++ given x ∷ []) s ≡ (limited_step limits (limited_served limits told happens s) x).next
served_more limits told [] x s = refl
served_more limits told (given y ∷ more) x s = served_more limits (told_by told y) more x (limited_step limits s y).next
served_more limits told (taken ∷ more) x s = served_more limits told more x (freed s.ending told s)

told_more : (told : Bool) (happens : List Served) (x : AnswererInput) →
    told_over told (happens ++ given x ∷ []) ≡ told_by (told_over told happens) x
told_more told [] x = refl
told_more told (given y ∷ more) x = told_more (told_by told y) more x
told_more told (taken ∷ more) x = told_more told more x

served_taken : (limits : Limits) (told : Bool) (happens : List Served) (s : Answerer) →
    limited_served limits told (happens ++ taken ∷ []) s ≡
    freed (limited_served limits told happens s).ending (told_over told happens) (limited_served limits told happens s)
served_taken limits told [] s = refl
served_taken limits told (given y ∷ more) s = served_taken limits (told_by told y) more (limited_step limits s y).next
served_taken limits told (taken ∷ more) s = served_taken limits told more (freed s.ending told s)

told_taken : (told : Bool) (happens : List Served) → told_over told (happens ++ taken ∷ []) ≡ told_over told happens
told_taken told [] = refl
told_taken told (given y ∷ more) = told_taken (told_by told y) more
told_taken told (taken ∷ more) = told_taken told more

given_more : (happens : List Served) (x : AnswererInput) → given_inputs (happens ++ given x ∷ []) ≡ given_inputs happens ++ x ∷ []
given_more [] x = refl
given_more (given y ∷ more) x = ap (λ (l : List AnswererInput). y ∷ l) (given_more more x)
given_more (taken ∷ more) x = given_more more x

given_taken : (happens : List Served) → given_inputs (happens ++ taken ∷ []) ≡ given_inputs happens
given_taken [] = refl
given_taken (given y ∷ more) = ap (λ (l : List AnswererInput). y ∷ l) (given_taken more)
given_taken (taken ∷ more) = given_taken more

-- ---- signals among inputs

-- each signal among the first inputs is among the second
abbrev pub AreAmong : List AnswererInput → List AnswererInput → Type 0
AreAmong xs ys = (signal : PlainSignal) → Contains xs (listens signal) → Contains ys (listens signal)

none_in : {A : Type 0} (x : A) → Contains [] x → ⊥
none_in x h = omega (arith, h.1)

only_in : {A : Type 0} (x y : A) → Contains (x ∷ []) y → x ≡ y
only_in x y (zero, few, is) = is
only_in x y (suc place, few, is) = absurd (omega (arith, few))

contains_first : {A : Type 0} (x : A) (xs : List A) → Contains (x ∷ xs) x
contains_first x xs = (0, omega arith, refl)

put_append : (got : Option AnswererInput) (xs ys : List AnswererInput) → put_taken got (xs ++ ys) ≡ put_taken got xs ++ ys
put_append None xs ys = refl
put_append (Some x) xs ys = refl

inputs_append : (xs ys : List PlainInput) → answerer_inputs (xs ++ ys) ≡ answerer_inputs xs ++ answerer_inputs ys
inputs_append [] ys = refl
inputs_append (x ∷ xs) ys =
    ap (put_taken (answerer_takes x)) (inputs_append xs ys) ∙ put_append (answerer_takes x) (answerer_inputs xs) (answerer_inputs ys)

first_put : (got : Option AnswererInput) (rest : List AnswererInput) (x : AnswererInput) → got ≡ Some x → Contains (put_taken got rest) x
first_put got rest x e = subst (λ (g : Option AnswererInput). Contains (put_taken g rest) x) (sym e) (contains_first x rest)

later_put : (got : Option AnswererInput) (rest : List AnswererInput) (x : AnswererInput) → Contains rest x → Contains (put_taken got rest) x
later_put None rest x h = h
later_put (Some y) rest x h = Contains-append_right (y ∷ []) rest x h

-- what more octets bring comes after what there is
in_two : CutsChangeNothing → (octets more : List ℕ) →
    signals_in (octets ++ more) ≡ signals_in octets ++ answerer_inputs (heard_of octets more)
in_two cuts octets more = ap answerer_inputs (cuts [] octets more) ∙ inputs_append (heard_of [] octets) (heard_of octets more)

pub before_more : CutsChangeNothing → (octets more : List ℕ) → AreAmong (signals_in octets) (signals_in (octets ++ more))
before_more cuts octets more signal h =
    subst (λ (l : List AnswererInput). Contains l (listens signal)) (sym (in_two cuts octets more))
    (Contains-append_left (signals_in octets) (answerer_inputs (heard_of octets more)) (listens signal) h)

pub brought_by : CutsChangeNothing → (octets more : List ℕ) → AreAmong (answerer_inputs (heard_of octets more)) (signals_in (octets ++ more))
brought_by cuts octets more signal h =
    subst (λ (l : List AnswererInput). Contains l (listens signal)) (sym (in_two cuts octets more))
    (Contains-append_right (signals_in octets) (answerer_inputs (heard_of octets more)) (listens signal) h)

-- ---- what an answerer has come to

-- an answerer has come to this by what happened to it, and each signal that it was given is in a good frame of the octets
pub record Serves (caps : Caps) (params : Params) (v : LimitedFields) (octets : List ℕ) : Type 0 where
  pub happens : List Served
  pub station : v.station ≡ limited_served v.limits false happens (new_answerer caps params)
  pub told : v.told ≡ told_over false happens
  pub among : AreAmong (given_inputs happens) (signals_in octets)

-- so it is with more octets
pub serves_more : CutsChangeNothing → (caps : Caps) (params : Params) (v : LimitedFields) (octets more : List ℕ) →
    Serves caps params v octets → Serves caps params v (octets ++ more)
serves_more cuts caps params v octets more h = record {
  happens = h.happens;
  station = h.station;
  told = h.told;
  among = λ signal is. before_more cuts octets more signal (h.among signal is);
}

-- what it takes is given
takes_more : (caps : Caps) (params : Params) (v w : LimitedFields) (octets : List ℕ) (got : Option AnswererInput) →
    Serves caps params v octets →
    ((signal : PlainSignal) → got ≡ Some (listens signal) → Contains (signals_in octets) (listens signal)) →
    w.station ≡ (limited_answers v.limits v.station got).next → w.limits ≡ v.limits → w.told ≡ told_after v.told got →
    Serves caps params w octets
takes_more caps params v w octets None h covered station limits told = record {
  happens = h.happens;
  station = station ∙ (h.station ∙ ap (λ l. limited_served l false h.happens (new_answerer caps params)) (sym limits));
  told = told ∙ h.told;
  among = h.among;
}
takes_more caps params v w octets (Some x) h covered station limits told = record {
  happens = h.happens ++ given x ∷ [];
  station =
      station ∙
      (ap (λ s. (limited_step v.limits s x).next) h.station ∙
      (sym (served_more v.limits false h.happens x (new_answerer caps params)) ∙
      ap (λ l. limited_served l false (h.happens ++ given x ∷ []) (new_answerer caps params)) (sym limits)));
  told = told ∙ (ap (λ b. told_by b x) h.told ∙ sym (told_more false h.happens x));
  among = λ signal is.
      by signal
      (Contains-append_cases (given_inputs h.happens) (x ∷ []) (listens signal)
      (subst (λ (l : List AnswererInput). Contains l (listens signal)) (given_more h.happens x) is));
}
  where
    by : (signal : PlainSignal) → Contains (given_inputs h.happens) (listens signal) ⊎ Contains (x ∷ []) (listens signal) →
        Contains (signals_in octets) (listens signal)
    by signal (inl before) = h.among signal before
    by signal (inr here) = covered signal (ap Some (only_in x (listens signal) here))

-- a step, after which the call goes on or was cut off before
pub step_serves : (caps : Caps) (params : Params) (v w : LimitedFields) (x : PlainInput) (turn : Turn) (cut : Option Cut) (octets : List ℕ) →
    Serves caps params v octets →
    ((signal : PlainSignal) → answerer_takes x ≡ Some (listens signal) → Contains (signals_in octets) (listens signal)) →
    LimitedStepsUnlessCut cut v x w turn → Serves caps params w octets
step_serves caps params v w x turn None octets h covered is =
    takes_more caps params v w octets (answerer_takes x) h covered is.0.0 is.1 is.2
step_serves caps params v w x turn (Some why) octets h covered is = subst (λ u. Serves caps params u octets) (sym is.0) h

-- the signals of inputs, the first of which comes before the others
pub first_of : (x : PlainInput) (xs : List PlainInput) (octets : List ℕ) → AreAmong (answerer_inputs (x ∷ xs)) (signals_in octets) →
    (signal : PlainSignal) → answerer_takes x ≡ Some (listens signal) → Contains (signals_in octets) (listens signal)
first_of x xs octets all signal e = all signal (first_put (answerer_takes x) (answerer_inputs xs) (listens signal) e)

pub later_of : (x : PlainInput) (xs : List PlainInput) (octets : List ℕ) → AreAmong (answerer_inputs (x ∷ xs)) (signals_in octets) →
    AreAmong (answerer_inputs xs) (signals_in octets)
later_of x xs octets all signal h = all signal (later_put (answerer_takes x) (answerer_inputs xs) (listens signal) h)

-- its pages are taken
pub taken_serves : (caps : Caps) (params : Params) (v w : LimitedFields) (octets : List ℕ) → Serves caps params v octets →
    w ≡ record v { station = freed v.station.ending v.told v.station } → Serves caps params w octets
taken_serves caps params v w octets h e =
    subst (λ u. Serves caps params u octets) (sym e)
    (record {
      happens = h.happens ++ taken ∷ [];
      station =
          ap (λ s. freed s.ending v.told s) h.station ∙
          (ap (λ b. freed (limited_served v.limits false h.happens (new_answerer caps params)).ending b
          (limited_served v.limits false h.happens (new_answerer caps params))) h.told ∙
          sym (served_taken v.limits false h.happens (new_answerer caps params)));
      told = h.told ∙ sym (told_taken false h.happens);
      among = λ signal is.
          h.among signal (subst (λ (l : List AnswererInput). Contains l (listens signal)) (given_taken h.happens) is);
    })

-- ---- what it has stored

given_put : (xs : List AnswererInput) (more : List Served) → given_inputs (given_first xs more) ≡ xs ++ given_inputs more
given_put [] more = refl
given_put (x ∷ xs) more = ap (λ (l : List AnswererInput). x ∷ l) (given_put xs more)

no_signal : (full : Bool) (input : AnswererInput) (signal : PlainSignal) → busy_while full input ≡ listens signal → input ≡ listens signal
no_signal full (listens x) signal e = e
no_signal full (trains octets) signal e = e
no_signal full t2 signal e = e
no_signal full t1 signal e = e
no_signal full (is_busy is) signal e = cc

let_by : (out filled full : Bool) (input : AnswererInput) (signal : PlainSignal) →
    Contains (cond out [] (cond filled (is_busy true ∷ busy_while full input ∷ []) (busy_while full input ∷ []))) (listens signal) →
    input ≡ listens signal
let_by true filled full input signal h = absurd (none_in (listens signal) h)
let_by false false full input signal h = no_signal full input signal (only_in (busy_while full input) (listens signal) h)
let_by false true full input signal h =
    by (Contains-append_cases (is_busy true ∷ []) (busy_while full input ∷ []) (listens signal) h)
  where
    by : Contains (is_busy true ∷ []) (listens signal) ⊎ Contains (busy_while full input ∷ []) (listens signal) → input ≡ listens signal
    by (inl here) = let e : is_busy true ≡ listens signal = only_in (is_busy true) (listens signal) here in cc
    by (inr later) = no_signal full input signal (only_in (busy_while full input) (listens signal) later)

let_first : (limits : Limits) (s : Answerer) (input : AnswererInput) (rest : List Served) (more : List Served) (signal : PlainSignal) →
    (Contains (given_inputs rest) (listens signal) → Contains (given_inputs more) (listens signal)) →
    Contains (heard_as limits s input) (listens signal) ⊎ Contains (given_inputs rest) (listens signal) →
    Contains (input ∷ given_inputs more) (listens signal)
let_first limits s input rest more signal of (inl here) =
    subst (λ x. Contains (input ∷ given_inputs more) x) (let_by _ _ _ input signal here) (contains_first input (given_inputs more))
let_first limits s input rest more signal of (inr later) =
    Contains-append_right (input ∷ []) (given_inputs more) (listens signal) (of later)

let_busy : (told : Bool) (rest : List Served) (more : List Served) (signal : PlainSignal) →
    (Contains (given_inputs rest) (listens signal) → Contains (given_inputs more) (listens signal)) →
    Contains (is_busy told ∷ []) (listens signal) ⊎ Contains (given_inputs rest) (listens signal) →
    Contains (given_inputs more) (listens signal)
let_busy told rest more signal of (inl here) =
    let e : is_busy told ≡ listens signal = only_in (is_busy told) (listens signal) here in cc
let_busy told rest more signal of (inr later) = of later

let_among : (limits : Limits) (told : Bool) (happens : List Served) (s : Answerer) →
    AreAmong (given_inputs (let_through limits told happens s)) (given_inputs happens)
let_among limits told [] s signal h = h
let_among limits told (given input ∷ more) s signal h =
    let next = (limited_step limits s input).next in
    let rest = let_through limits (told_by told input) more next in
    let_first limits s input rest more signal (let_among limits (told_by told input) more next signal)
    (Contains-append_cases (heard_as limits s input) (given_inputs rest) (listens signal)
    (subst (λ (l : List AnswererInput). Contains l (listens signal)) (given_put (heard_as limits s input) rest) h))
let_among limits told (taken ∷ more) s signal h =
    let rest = let_through limits told more (freed s.ending told s) in
    let_busy told rest more signal (let_among limits told more (freed s.ending told s) signal)
    (Contains-append_cases (is_busy told ∷ []) (given_inputs rest) (listens signal) h)

heard_among : (xs ys : List AnswererInput) → AreAmong xs ys → (parts : List (List ℕ)) → Each (IsHeard xs) parts → Each (IsHeard ys) parts
heard_among xs ys among [] h = tt
heard_among xs ys among (part ∷ parts) h = ((h.0.0, among (fcd h.0.0 part) h.0.1), heard_among xs ys among parts h.1)

read_among : (caps : Caps) (xs ys : List AnswererInput) (page : PagePixels) → AreAmong xs ys → IsReadOf caps xs page → IsReadOf caps ys page
read_among caps xs ys page among r = record {
  params = r.params;
  dcs_heard = among (dcs r.params) r.dcs_heard;
  dcs_allowed = r.dcs_allowed;
  octets = r.octets;
  octets_joined = record {
    parts = r.octets_joined.parts;
    heard = heard_among xs ys among r.octets_joined.parts r.octets_joined.heard;
    joined_is = r.octets_joined.joined_is;
  };
  reads = r.reads;
}

pub all_read_among : (caps : Caps) (xs ys : List AnswererInput) (pages : List PagePixels) → AreAmong xs ys →
    Each (IsReadOf caps xs) pages → Each (IsReadOf caps ys) pages
all_read_among caps xs ys [] among h = tt
all_read_among caps xs ys (page ∷ pages) among h = (read_among caps xs ys page among h.0, all_read_among caps xs ys pages among h.1)

each_later : {A : Type 0} (P : A → Type 0) (xs ys : List A) → Each P (xs ++ ys) → Each P ys
each_later P [] ys h = h
each_later P (x ∷ xs) ys h = each_later P xs ys h.1

-- each page that it has is read of signals in good frames of the octets
pub pages_read : StoredIsRead → TakenAndThere → LimitedServes → (caps : Caps) (params : Params) (v : LimitedFields) (octets : List ℕ) →
    Serves caps params v octets → Each (IsReadOf caps (signals_in octets)) v.station.pages
pages_read stored there limited caps params v octets h =
    all_read_among caps (given_inputs through) (signals_in octets) v.station.pages
    (λ signal is. h.among signal (let_among v.limits false h.happens start signal is))
    (subst (λ (s : Answerer). Each (IsReadOf caps (given_inputs through)) s.pages)
    (sym (h.station ∙ (limited v.limits false h.happens start).plain))
    (each_later (IsReadOf caps (given_inputs through)) (taken_pages through start) (served through start).pages
    (subst (λ (s : Answerer). Each (IsReadOf caps (given_inputs through)) s.pages) (there through start).0
    (stored caps params (given_inputs through)))))
  where
    start : Answerer
    start = new_answerer caps params

    through : List Served
    through = let_through v.limits false h.happens start

-- Every event keeps the facts of the line.
use Rattle.std.proofs.Common.{◌≡◌, ℕ, zero, suc, ◌⊎◌, inl, inr, List, [], ◌∷◌, ◌++◌, length, take, map, Option, Some, None, refl, sym, ap}
use Rattle.std.proofs.Common.{subst, ◌∙◌}
use Rattle.raster.specs.Pages.{PagePixels}
use Rattle.signals.specs.Signals.{PlainSignal, dis}
use Rattle.signals.specs.declared.params.Caps.{Caps}
use Rattle.signals.specs.declared.params.Wish.{Wish}
use Rattle.stations.specs.Layers.{Document, IsFullPage}
use Rattle.stations.specs.Inputs.{CallerInput, hears, timeout, t5, AnswererInput, listens, trains, t2, t1, is_busy, PlainItem, framed}
use Rattle.stations.specs.Inputs.{checked}
use Rattle.stations.specs.Laws.{Each, AreReadable}
use Rattle.stations.specs.CallerStep.{Caller, unless_caller_ended, caller_step, new_caller, caller_items, no_caps, no_params}
use Rattle.stations.specs.AnswererStep.{Answerer, unless_answerer_ended, answerer_step, new_answerer, answerer_items}
use Rattle.stations.specs.declared.turn.AnswererState.{AnswererState}
use Rattle.stations.specs.declared.turn.End.{End}
use Rattle.stations.specs.declared.turn.Turn.{Turn}
use Rattle.stations.specs.declared.turn.CallerState.TheVariants.{WaitCfr}
use Rattle.stations.specs.declared.turn.Turn.TheVariants.{Silent, Dis as SendDis, Cfr as SendCfr, Ftt as SendFtt, Mcf as SendMcf}
use Rattle.stations.specs.declared.turn.Turn.TheVariants.{Ppr as SendPpr, Rnr as SendRnr, Dcn as SendDcn}
use Rattle.line_sim.specs.declared.event.Event.{Event}
use Rattle.line_sim.specs.Line.{World, Outcome, sent, caller_sends, answerer_sends, caller_acts, answerer_acts, comes_to_answerer}
use Rattle.line_sim.specs.Line.{comes_to_caller, delivers_to_answerer, delivers_to_caller, after_first, spoiled, caller_timer}
use Rattle.line_sim.specs.Line.{answerer_timer, acts, happens, new_world, run}
use Rattle.line_sim.specs.declared.event.Event.TheVariants.{DeliverToAnswerer, DeliverToCaller, LoseToAnswerer, LoseToCaller, Spoil}
use Rattle.line_sim.specs.declared.event.Event.TheVariants.{CallerTimeout, CallerT5, AnswererT1, AnswererT2, Busy}
use Rattle.line_sim.specs.Line.Outcome.{Done, Nothing, InputLost, Cut}
use Rattle.line_sim.specs.LineFacts.{finished_of, BeforeGroup, StationFacts, MayReachAnswerer, MayReachCaller, IsDis, OnlyDisAfterFirst}
use Rattle.line_sim.specs.LineFacts.{LineFacts}
use Rattle.line_sim.specs.PageMachine.{AtMostTwo, state_of, shown}
use Rattle.line_sim.specs.PageMachine.AtMostTwo.{no_move}
use Rattle.line_sim.specs.Headline.{Promised}
use Rattle.line_sim.proofs.Lists.{each_append, each_take, each_map}
use Rattle.line_sim.proofs.Groups.{none_through, no_groups}
use Rattle.line_sim.proofs.Stores.{length_none}
use Rattle.line_sim.proofs.MovesOf.{AtMostOne, at_most_one}
use Rattle.line_sim.proofs.CallerKeeps.{CallerKeeps, fresh_facts, caller_heard_keeps, caller_timer_keeps, IsTimer}
use Rattle.line_sim.proofs.CallerKeeps.IsTimer.{of_timeout, of_t5}
use Rattle.line_sim.proofs.AnswererKeeps.{AnswererKeeps, IsLocal, answerer_hears_keeps, answerer_trains_keeps, answerer_local_keeps}
use Rattle.line_sim.proofs.AnswererKeeps.IsLocal.{of_t1, of_t2, of_busy}

each_sent : (P : PlainItem → Type 0) (outcome : Outcome) (items : List PlainItem) → Each P items → Each P (sent outcome items)
each_sent P Done items h = h
each_sent P Nothing items h = h
each_sent P InputLost items h = h
each_sent P (Cut made) items h = each_take P made items h

-- one direction is free
free_answerer : (xs ys : List PlainItem) (x : PlainItem) → (x ∷ xs ≡ []) ⊎ (ys ≡ []) → ys ≡ []
free_answerer xs ys x (inl e) = cc
free_answerer xs ys x (inr e) = e

free_caller : (xs ys : List PlainItem) (y : PlainItem) → (xs ≡ []) ⊎ (y ∷ ys ≡ []) → xs ≡ []
free_caller xs ys y (inl e) = e
free_caller xs ys y (inr e) = cc

-- lists of which only the first item may be no DIS
dis_only : (items : List PlainItem) → Each IsDis items → OnlyDisAfterFirst items
dis_only [] h = tt
dis_only (item ∷ items) h = h.1

only_append : (items more : List PlainItem) → OnlyDisAfterFirst items → Each IsDis more → OnlyDisAfterFirst (items ++ more)
only_append [] more h k = dis_only more k
only_append (item ∷ items) more h k = each_append IsDis items more h k

only_after_first : (items : List PlainItem) → OnlyDisAfterFirst items → OnlyDisAfterFirst (after_first items)
only_after_first [] h = tt
only_after_first (item ∷ items) h = dis_only items h

dis_may : (place a : ℕ) (state : AnswererState) (items : List PlainItem) → Each IsDis items → Each (MayReachCaller place state a) items
dis_may place a state items h = each_map IsDis (MayReachCaller place state a) items one h
  where
    one : (item : PlainItem) → IsDis item → MayReachCaller place state a item
    one (framed (dis caps)) k = tt
    one (framed _) k = absurd k
    one (checked octets) k = absurd k

only_take : (n : ℕ) (items : List PlainItem) → OnlyDisAfterFirst items → OnlyDisAfterFirst (take n items)
only_take zero items h = tt
only_take (suc n) [] h = tt
only_take (suc n) (item ∷ items) h = each_take IsDis n items h

only_sent : (outcome : Outcome) (items : List PlainItem) → OnlyDisAfterFirst items → OnlyDisAfterFirst (sent outcome items)
only_sent Done items h = h
only_sent Nothing items h = h
only_sent InputLost items h = h
only_sent (Cut made) items h = only_take made items h

-- an answerer sends one item
one_item : (s : Answerer) (turn : Turn) → OnlyDisAfterFirst (answerer_items s turn)
one_item s SendDis = tt
one_item s SendCfr = tt
one_item s SendFtt = tt
one_item s SendMcf = tt
one_item s (SendPpr map) = tt
one_item s SendRnr = tt
one_item s SendDcn = tt
one_item s _ = tt

-- what a caller's answer makes of the world: what was under way to the answerer may still be there
caller_sent : (turn : Turn) (w : World) (next : Caller) (items : List PlainItem) (a : ℕ) →
    StationFacts next w.answerer a → (w.to_answerer ≡ []) ⊎ (w.to_caller ≡ []) →
    Each (MayReachAnswerer next a) w.to_answerer → Each (MayReachAnswerer next a) items →
    (turn ≡ Silent → Each (MayReachCaller next.place w.answerer.state a) w.to_caller) → OnlyDisAfterFirst w.to_caller →
    LineFacts (caller_sends turn w next items)
caller_sent Silent w next items a stations free old new quiet only =
    record { accepted = a; stations = stations; one_way = free; to_answerer = old; to_caller = quiet refl; only_dis = only }
caller_sent _ w next items a stations free old new quiet only =
    record {
      accepted = a;
      stations = stations;
      one_way = inr refl;
      to_answerer = each_append (MayReachAnswerer next a) w.to_answerer items old new;
      to_caller = tt;
      only_dis = tt;
    }

answerer_sent : (turn : Turn) (w : World) (next : Answerer) (items : List PlainItem) (a : ℕ) →
    StationFacts w.caller next a → (w.to_answerer ≡ []) ⊎ (w.to_caller ≡ []) →
    Each (MayReachCaller w.caller.place next.state a) w.to_caller → Each (MayReachCaller w.caller.place next.state a) items →
    (turn ≡ Silent → Each (MayReachAnswerer w.caller a) w.to_answerer) → OnlyDisAfterFirst w.to_caller →
    OnlyDisAfterFirst (w.to_caller ++ items) →
    LineFacts (answerer_sends turn w next items)
answerer_sent Silent w next items a stations free old new quiet only after =
    record { accepted = a; stations = stations; one_way = free; to_answerer = quiet refl; to_caller = old; only_dis = only }
answerer_sent _ w next items a stations free old new quiet only after =
    record {
      accepted = a;
      stations = stations;
      one_way = inl refl;
      to_answerer = tt;
      to_caller = each_append (MayReachCaller w.caller.place next.state a) w.to_caller items old new;
      only_dis = after;
    }

-- what an event has to keep
pub record Keeps (c : Caller) (s : Answerer) (after : World) : Type 0 where
  pub line : LineFacts after
  pub moves : AtMostTwo (length c.document) (state_of c s) (shown after)
  pub same : after.caller.document ≡ c.document

-- an event that no station hears of
unheard : (w after : World) → after.caller ≡ w.caller → after.answerer ≡ w.answerer → LineFacts after → Keeps w.caller w.answerer after
unheard w after e g f =
    record {
      line = f;
      moves = subst (AtMostTwo (length w.caller.document) (shown w)) (rw (e, g) refl) no_move;
      same = ap (λ c. c.document) e;
    }

caller_shows :
    (turn : Turn) (w : World) (next : Caller) (items : List PlainItem) →
    (shown (caller_sends turn w next items) ≡ state_of next w.answerer) × ((caller_sends turn w next items).caller.document ≡ next.document)
caller_shows Silent w next items = (refl, refl)
caller_shows _ w next items = (refl, refl)

answerer_shows :
    (turn : Turn) (w : World) (next : Answerer) (items : List PlainItem) →
    (shown (answerer_sends turn w next items) ≡ state_of w.caller next) ×
    ((answerer_sends turn w next items).caller.document ≡ w.caller.document)
answerer_shows Silent w next items = (refl, refl)
answerer_shows _ w next items = (refl, refl)

-- an ended station makes no move
caller_moves : (ending : Option End) (c : Caller) (s : Answerer) (input : CallerInput) → c.ending ≡ ending →
    (c.ending ≡ None → AtMostTwo (length c.document) (state_of c s) (state_of (unless_caller_ended ending input c).next s)) →
    AtMostTwo (length c.document) (state_of c s) (state_of (unless_caller_ended ending input c).next s)
caller_moves (Some why) c s input e h = no_move
caller_moves None c s input e h = h e

answerer_moves : (ending : Option End) (c : Caller) (s : Answerer) (input : AnswererInput) → s.ending ≡ ending →
    (s.ending ≡ None → AtMostOne (length c.document) (state_of c s) (state_of c (unless_answerer_ended ending input s).next)) →
    AtMostTwo (length c.document) (state_of c s) (state_of c (unless_answerer_ended ending input s).next)
answerer_moves (Some why) c s input e h = no_move
answerer_moves None c s input e h = at_most_one _ _ _ (h e)

caller_does :
    (w : World) (outcome : Outcome) (input : CallerInput) (a : ℕ) → CallerKeeps w.caller w.answerer a (caller_step w.caller input) →
    LineFacts (caller_acts w outcome input) → Keeps w.caller w.answerer (caller_acts w outcome input)
caller_does w outcome input a keeps line =
    let answer = caller_step w.caller input in
    let shows = caller_shows answer.turn w answer.next (sent outcome (caller_items answer.next answer.turn)) in
    record {
      line = line;
      moves = subst (AtMostTwo (length w.caller.document) (shown w)) (sym shows.0)
          (caller_moves w.caller.ending w.caller w.answerer input refl keeps.moves);
      same = shows.1 ∙ keeps.same;
    }

answerer_does :
    (w : World) (outcome : Outcome) (input : AnswererInput) (a : ℕ) → AnswererKeeps w.caller w.answerer a (answerer_step w.answerer input) →
    LineFacts (answerer_acts w outcome input) → Keeps w.caller w.answerer (answerer_acts w outcome input)
answerer_does w outcome input a keeps line =
    let answer = answerer_step w.answerer input in
    let shows = answerer_shows answer.turn w answer.next (sent outcome (answerer_items answer.next answer.turn)) in
    record {
      line = line;
      moves = subst (AtMostTwo (length w.caller.document) (shown w)) (sym shows.0)
          (answerer_moves w.answerer.ending w.caller w.answerer input refl keeps.moves);
      same = shows.1;
    }

none_there : (P : PlainItem → Type 0) (items : List PlainItem) → items ≡ [] → Each P items
none_there P items e = rw e tt

-- an item comes to the answerer; nothing is under way to the caller
signal_to_answerer :
    Promised → (w : World) (outcome : Outcome) (signal : PlainSignal) (a : ℕ) → StationFacts w.caller w.answerer a → w.to_caller ≡ [] →
    MayReachAnswerer w.caller a (framed signal) → Each (MayReachAnswerer w.caller a) w.to_answerer →
    Keeps w.caller w.answerer (answerer_acts w outcome (listens signal))
signal_to_answerer laws w outcome signal a f none h rest =
    let keeps = answerer_hears_keeps signal w.caller w.answerer a f h in
    let answer = answerer_step w.answerer (listens signal) in
    answerer_does w outcome (listens signal) a keeps
    (answerer_sent answer.turn w answer.next (sent outcome (answerer_items answer.next answer.turn)) keeps.accepted keeps.stations
    (inr none)
    (none_there _ w.to_caller none) (each_sent _ outcome _ keeps.items)
    (λ e. subst (λ n. Each (MayReachAnswerer w.caller n) w.to_answerer) (sym (keeps.quiet e)) rest)
    (rw none tt) (rw none (only_sent outcome _ (one_item answer.next answer.turn))))

training_to_answerer : (w : World) (outcome : Outcome) (octets : List ℕ) (a : ℕ) → StationFacts w.caller w.answerer a → w.to_caller ≡ [] →
    w.caller.state ≡ WaitCfr → Each (MayReachAnswerer w.caller a) w.to_answerer →
    Keeps w.caller w.answerer (answerer_acts w outcome (trains octets))
training_to_answerer w outcome octets a f none h rest =
    let keeps = answerer_trains_keeps octets w.caller w.answerer a f h in
    let answer = answerer_step w.answerer (trains octets) in
    answerer_does w outcome (trains octets) a keeps
    (answerer_sent answer.turn w answer.next (sent outcome (answerer_items answer.next answer.turn)) keeps.accepted keeps.stations
    (inr none)
    (none_there _ w.to_caller none) (each_sent _ outcome _ keeps.items)
    (λ e. subst (λ n. Each (MayReachAnswerer w.caller n) w.to_answerer) (sym (keeps.quiet e)) rest)
    (rw none tt) (rw none (only_sent outcome _ (one_item answer.next answer.turn))))

item_to_answerer :
    Promised → (w : World) (outcome : Outcome) (item : PlainItem) (a : ℕ) → StationFacts w.caller w.answerer a → w.to_caller ≡ [] →
    MayReachAnswerer w.caller a item → Each (MayReachAnswerer w.caller a) w.to_answerer →
    Keeps w.caller w.answerer (comes_to_answerer w outcome item)
item_to_answerer laws w outcome (framed signal) a f none h rest = signal_to_answerer laws w outcome signal a f none h rest
item_to_answerer laws w outcome (checked octets) a f none h rest = training_to_answerer w outcome octets a f none h rest

-- an item comes to the caller; nothing is under way to the answerer
signal_to_caller :
    Promised → (w : World) (outcome : Outcome) (signal : PlainSignal) (a : ℕ) → StationFacts w.caller w.answerer a → w.to_answerer ≡ [] →
    MayReachCaller w.caller.place w.answerer.state a (framed signal) → Each IsDis w.to_caller →
    Keeps w.caller w.answerer (caller_acts w outcome (hears signal))
signal_to_caller laws w outcome signal a f none h rest =
    let keeps = caller_heard_keeps laws signal w.caller w.answerer a f h in
    let answer = caller_step w.caller (hears signal) in
    caller_does w outcome (hears signal) a keeps
    (caller_sent answer.turn w answer.next (sent outcome (caller_items answer.next answer.turn)) a keeps.stations (inl none)
    (none_there _ w.to_answerer none) (each_sent _ outcome _ keeps.items)
    (λ e. dis_may answer.next.place a w.answerer.state w.to_caller rest) (dis_only w.to_caller rest))

item_to_caller :
    Promised → (w : World) (outcome : Outcome) (item : PlainItem) (a : ℕ) → StationFacts w.caller w.answerer a → w.to_answerer ≡ [] →
    MayReachCaller w.caller.place w.answerer.state a item → Each IsDis w.to_caller →
    Keeps w.caller w.answerer (comes_to_caller w outcome item)
item_to_caller laws w outcome (framed signal) a f none h rest = signal_to_caller laws w outcome signal a f none h rest
item_to_caller laws w outcome (checked octets) a f none h rest = absurd h

to_answerer_keeps :
    Promised → (w : World) (outcome : Outcome) (items : List PlainItem) → LineFacts w → LineFacts (record w { to_answerer = items }) →
    Keeps w.caller w.answerer (delivers_to_answerer w outcome items)
to_answerer_keeps laws w outcome [] g f = unheard w w refl refl g
to_answerer_keeps laws w InputLost (item ∷ items) g f =
    unheard w (record w { to_answerer = items }) refl refl
    (record {
      accepted = f.accepted;
      stations = f.stations;
      one_way = inr (free_answerer items w.to_caller item f.one_way);
      to_answerer = f.to_answerer.1;
      to_caller = f.to_caller;
      only_dis = f.only_dis;
    })
to_answerer_keeps laws w Done (item ∷ items) g f =
    item_to_answerer laws (record w { to_answerer = items }) Done item f.accepted f.stations
    (free_answerer items w.to_caller item f.one_way) f.to_answerer.0 f.to_answerer.1
to_answerer_keeps laws w Nothing (item ∷ items) g f =
    item_to_answerer laws (record w { to_answerer = items }) Nothing item f.accepted f.stations
    (free_answerer items w.to_caller item f.one_way) f.to_answerer.0 f.to_answerer.1
to_answerer_keeps laws w (Cut made) (item ∷ items) g f =
    item_to_answerer laws (record w { to_answerer = items }) (Cut made) item f.accepted f.stations
    (free_answerer items w.to_caller item f.one_way) f.to_answerer.0 f.to_answerer.1

to_caller_keeps :
    Promised → (w : World) (outcome : Outcome) (items : List PlainItem) → LineFacts w → LineFacts (record w { to_caller = items }) →
    Keeps w.caller w.answerer (delivers_to_caller w outcome items)
to_caller_keeps laws w outcome [] g f = unheard w w refl refl g
to_caller_keeps laws w InputLost (item ∷ items) g f =
    unheard w (record w { to_caller = items }) refl refl
    (record {
      accepted = f.accepted;
      stations = f.stations;
      one_way = inl (free_caller w.to_answerer items item f.one_way);
      to_answerer = f.to_answerer;
      to_caller = f.to_caller.1;
      only_dis = dis_only items f.only_dis;
    })
to_caller_keeps laws w Done (item ∷ items) g f =
    item_to_caller laws (record w { to_caller = items }) Done item f.accepted f.stations
    (free_caller w.to_answerer items item f.one_way) f.to_caller.0 f.only_dis
to_caller_keeps laws w Nothing (item ∷ items) g f =
    item_to_caller laws (record w { to_caller = items }) Nothing item f.accepted f.stations
    (free_caller w.to_answerer items item f.one_way) f.to_caller.0 f.only_dis
to_caller_keeps laws w (Cut made) (item ∷ items) g f =
    item_to_caller laws (record w { to_caller = items }) (Cut made) item f.accepted f.stations
    (free_caller w.to_answerer items item f.one_way) f.to_caller.0 f.only_dis

after_first_fits : (P : PlainItem → Type 0) (items : List PlainItem) → Each P items → Each P (after_first items)
after_first_fits P [] h = tt
after_first_fits P (item ∷ items) h = h.1

after_first_none : (items : List PlainItem) → items ≡ [] → after_first items ≡ []
after_first_none items e = rw e refl

lost_answerer : (w : World) → LineFacts w → LineFacts (record w { to_answerer = after_first w.to_answerer })
lost_answerer w f =
    record {
      accepted = f.accepted;
      stations = f.stations;
      one_way = free f.one_way;
      to_answerer = after_first_fits _ w.to_answerer f.to_answerer;
      to_caller = f.to_caller;
      only_dis = f.only_dis;
    }
  where
    free : (w.to_answerer ≡ []) ⊎ (w.to_caller ≡ []) → (after_first w.to_answerer ≡ []) ⊎ (w.to_caller ≡ [])
    free (inl e) = inl (after_first_none w.to_answerer e)
    free (inr e) = inr e

lost_caller : (w : World) → LineFacts w → LineFacts (record w { to_caller = after_first w.to_caller })
lost_caller w f =
    record {
      accepted = f.accepted;
      stations = f.stations;
      one_way = free f.one_way;
      to_answerer = f.to_answerer;
      to_caller = after_first_fits _ w.to_caller f.to_caller;
      only_dis = only_after_first w.to_caller f.only_dis;
    }
  where
    free : (w.to_answerer ≡ []) ⊎ (w.to_caller ≡ []) → (w.to_answerer ≡ []) ⊎ (after_first w.to_caller ≡ [])
    free (inl e) = inl e
    free (inr e) = inr (after_first_none w.to_caller e)

spoiled_fits :
    (c : Caller) (a : ℕ) (items : List PlainItem) → Each (MayReachAnswerer c a) items → Each (MayReachAnswerer c a) (spoiled items)
spoiled_fits c a [] h = tt
spoiled_fits c a (checked octets ∷ items) h = h
spoiled_fits c a (framed signal ∷ items) h = h

spoiled_none : (items : List PlainItem) → items ≡ [] → spoiled items ≡ []
spoiled_none items e = rw e refl

spoiled_keeps : (w : World) → LineFacts w → LineFacts (record w { to_answerer = spoiled w.to_answerer })
spoiled_keeps w f =
    record {
      accepted = f.accepted;
      stations = f.stations;
      one_way = free f.one_way;
      to_answerer = spoiled_fits w.caller f.accepted w.to_answerer f.to_answerer;
      to_caller = f.to_caller;
      only_dis = f.only_dis;
    }
  where
    free : (w.to_answerer ≡ []) ⊎ (w.to_caller ≡ []) → (spoiled w.to_answerer ≡ []) ⊎ (w.to_caller ≡ [])
    free (inl e) = inl (spoiled_none w.to_answerer e)
    free (inr e) = inr e

caller_times :
    (w : World) (outcome : Outcome) (input : CallerInput) → IsTimer input → LineFacts w →
    Keeps w.caller w.answerer (caller_acts w outcome input)
caller_times w outcome input t f =
    let keeps = caller_timer_keeps input t w.caller w.answerer f.accepted f.stations in
    let answer = caller_step w.caller input in
    caller_does w outcome input f.accepted keeps.keeps
    (caller_sent answer.turn w answer.next (sent outcome (caller_items answer.next answer.turn)) f.accepted keeps.keeps.stations f.one_way
    (each_map _ _ w.to_answerer keeps.old f.to_answerer) (each_sent _ outcome _ keeps.keeps.items)
    (λ e. subst (λ n. Each (MayReachCaller n w.answerer.state f.accepted) w.to_caller) (sym (keeps.quiet e)) f.to_caller) f.only_dis)

caller_timer_line :
    (w : World) (outcome : Outcome) (input : CallerInput) → IsTimer input → LineFacts w →
    Keeps w.caller w.answerer (caller_timer w outcome input)
caller_timer_line w InputLost input t f = unheard w w refl refl f
caller_timer_line w Done input t f = caller_times w Done input t f
caller_timer_line w Nothing input t f = caller_times w Nothing input t f
caller_timer_line w (Cut made) input t f = caller_times w (Cut made) input t f

answerer_times :
    (w : World) (outcome : Outcome) (input : AnswererInput) → IsLocal input → LineFacts w →
    Keeps w.caller w.answerer (answerer_acts w outcome input)
answerer_times w outcome input t f =
    let keeps = answerer_local_keeps input t w.caller w.answerer f.accepted f.stations in
    let answer = answerer_step w.answerer input in
    answerer_does w outcome input f.accepted keeps.keeps
    (answerer_sent answer.turn w answer.next (sent outcome
    (answerer_items answer.next answer.turn)) keeps.keeps.accepted keeps.keeps.stations f.one_way
    (each_map _ _ w.to_caller keeps.old f.to_caller) (each_sent _ outcome _ keeps.keeps.items)
    (λ e. subst (λ n. Each (MayReachAnswerer w.caller n) w.to_answerer) (sym (keeps.keeps.quiet e)) f.to_answerer)
    f.only_dis (only_append w.to_caller _ f.only_dis (each_sent IsDis outcome _ keeps.dis)))

answerer_timer_line :
    (w : World) (outcome : Outcome) (input : AnswererInput) → IsLocal input → LineFacts w →
    Keeps w.caller w.answerer (answerer_timer w outcome input)
answerer_timer_line w InputLost input t f = unheard w w refl refl f
answerer_timer_line w Done input t f = answerer_times w Done input t f
answerer_timer_line w Nothing input t f = answerer_times w Nothing input t f
answerer_timer_line w (Cut made) input t f = answerer_times w (Cut made) input t f

acts_keep : Promised → (w : World) (event : Event) (outcome : Outcome) → LineFacts w → Keeps w.caller w.answerer (acts w event outcome)
acts_keep laws w DeliverToAnswerer outcome f = to_answerer_keeps laws w outcome w.to_answerer f f
acts_keep laws w DeliverToCaller outcome f = to_caller_keeps laws w outcome w.to_caller f f
acts_keep laws w LoseToAnswerer outcome f = unheard w (record w { to_answerer = after_first w.to_answerer }) refl refl (lost_answerer w f)
acts_keep laws w LoseToCaller outcome f = unheard w (record w { to_caller = after_first w.to_caller }) refl refl (lost_caller w f)
acts_keep laws w Spoil outcome f = unheard w (record w { to_answerer = spoiled w.to_answerer }) refl refl (spoiled_keeps w f)
acts_keep laws w CallerTimeout outcome f = caller_timer_line w outcome timeout of_timeout f
acts_keep laws w CallerT5 outcome f = caller_timer_line w outcome t5 of_t5 f
acts_keep laws w AnswererT1 outcome f = answerer_timer_line w outcome t1 of_t1 f
acts_keep laws w AnswererT2 outcome f = answerer_timer_line w outcome t2 of_t2 f
acts_keep laws w (Busy busy) outcome f = answerer_timer_line w outcome (is_busy busy) of_busy f

pub happens_keeps :
    Promised → (w : World) (event : Event) (outcome : Outcome) → LineFacts w → Keeps w.caller w.answerer (happens w event outcome)
happens_keeps laws w event Nothing f = unheard w w refl refl f
happens_keeps laws w event Done f = acts_keep laws w event Done f
happens_keeps laws w event InputLost f = acts_keep laws w event InputLost f
happens_keeps laws w event (Cut made) f = acts_keep laws w event (Cut made) f

no_pages : (pages : List PagePixels) → AreReadable [] pages
no_pages [] = tt
no_pages (page ∷ pages) = tt

pub new_world_facts :
    (document : Document) (wish : Wish) (caps : Caps) → Each IsFullPage document → LineFacts (new_world document wish caps)
new_world_facts document wish caps full =
    let c = new_caller document wish no_caps no_params in
    let s = new_answerer caps no_params in
    let none : finished_of c ≡ [] = no_groups 0 document in
    let before : BeforeGroup 0 (finished_of c) 0 s.frames s.asked =
    record { place_is = rw none refl; accepted_is = refl; none_open = refl; none_asked = refl } in
    record {
      accepted = 0;
      stations = fresh_facts c s 0 [] refl tt before (record { pages = refl; octets = refl; last = refl }) (λ e. cc) (refl, refl, before) tt
          (record { full = full; through = none_through document; readable = no_pages document }) (λ n. absurd (n refl)) length_none;
      one_way = inl refl;
      to_answerer = tt;
      to_caller = (tt, tt);
      only_dis = tt;
    }

pub run_keeps : Promised → (steps : List (Event × Outcome)) (w : World) → LineFacts w → LineFacts (run steps w)
run_keeps laws [] w f = f
run_keeps laws (step ∷ steps) w f = run_keeps laws steps (happens w step.0 step.1) (happens_keeps laws w step.0 step.1 f).line

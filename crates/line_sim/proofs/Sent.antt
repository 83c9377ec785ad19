-- What a transmission makes of a world.
use Rattle.std.proofs.Common.{◌≡◌, ◌≢◌, ℕ, Bool, List, [], ◌∷◌, ◌++◌, take, Result, Ok, Err, is_err, OnOk, OnErr, refl, ap, sym, subst, ◌∙◌}
use Rattle.stations.specs.AnswererStep.{Answerer, answerer_items}
use Rattle.stations.specs.CallerStep.{Caller, caller_items}
use Rattle.stations.specs.Inputs.{PlainItem}
use Rattle.stations.specs.Laws.{Each}
use Rattle.stations.specs.CallerFields.{Represents}
use Rattle.stations.specs.declared.turn.Turn.{Turn}
use Rattle.stations.specs.declared.turn.Turn.TheVariants.{Silent, Dis, Training, Cfr, Ftt, Burst, Pps, Mcf, Ppr, Rnr, Rr, Dcn}
use Rattle.line_sim.specs.Headline.{CanBeWritten}
use Rattle.line_sim.specs.Line.{World, Done, Cut, caller_sends, answerer_sends}
use Rattle.line_sim.specs.Represents.{Shows, IsSent, CallerSends, AnswererSends}
use Rattle.line_sim.specs.declared.call.Call.{Call}

-- a turn that isn't silent is a transmission
caller_transmits : (turn : Turn) (w : World) (next : Caller) (items : List PlainItem) → turn ≢ Silent →
    caller_sends turn w next items ≡ record { caller = next; answerer = w.answerer; to_answerer = w.to_answerer ++ items; to_caller = [] }
caller_transmits Silent w next items loud = absurd (loud refl)
caller_transmits Dis w next items loud = refl
caller_transmits Training w next items loud = refl
caller_transmits Cfr w next items loud = refl
caller_transmits Ftt w next items loud = refl
caller_transmits (Burst map) w next items loud = refl
caller_transmits Pps w next items loud = refl
caller_transmits Mcf w next items loud = refl
caller_transmits (Ppr map) w next items loud = refl
caller_transmits Rnr w next items loud = refl
caller_transmits Rr w next items loud = refl
caller_transmits Dcn w next items loud = refl

answerer_transmits : (turn : Turn) (w : World) (next : Answerer) (items : List PlainItem) → turn ≢ Silent →
    answerer_sends turn w next items ≡ record { caller = w.caller; answerer = next; to_answerer = []; to_caller = w.to_caller ++ items }
answerer_transmits Silent w next items loud = absurd (loud refl)
answerer_transmits Dis w next items loud = refl
answerer_transmits Training w next items loud = refl
answerer_transmits Cfr w next items loud = refl
answerer_transmits Ftt w next items loud = refl
answerer_transmits (Burst map) w next items loud = refl
answerer_transmits Pps w next items loud = refl
answerer_transmits Mcf w next items loud = refl
answerer_transmits (Ppr map) w next items loud = refl
answerer_transmits Rnr w next items loud = refl
answerer_transmits Rr w next items loud = refl
answerer_transmits Dcn w next items loud = refl

-- only the next tuple of the station that sends counts
pub caller_replaced : (turn : Turn) (w : World) (c next : Caller) (items : List PlainItem) →
    caller_sends turn w next items ≡ caller_sends turn (record w { caller = c }) next items
caller_replaced Silent w c next items = refl
caller_replaced Dis w c next items = refl
caller_replaced Training w c next items = refl
caller_replaced Cfr w c next items = refl
caller_replaced Ftt w c next items = refl
caller_replaced (Burst map) w c next items = refl
caller_replaced Pps w c next items = refl
caller_replaced Mcf w c next items = refl
caller_replaced (Ppr map) w c next items = refl
caller_replaced Rnr w c next items = refl
caller_replaced Rr w c next items = refl
caller_replaced Dcn w c next items = refl

pub answerer_replaced : (turn : Turn) (w : World) (s next : Answerer) (items : List PlainItem) →
    answerer_sends turn w next items ≡ answerer_sends turn (record w { answerer = s }) next items
answerer_replaced Silent w s next items = refl
answerer_replaced Dis w s next items = refl
answerer_replaced Training w s next items = refl
answerer_replaced Cfr w s next items = refl
answerer_replaced Ftt w s next items = refl
answerer_replaced (Burst map) w s next items = refl
answerer_replaced Pps w s next items = refl
answerer_replaced Mcf w s next items = refl
answerer_replaced (Ppr map) w s next items = refl
answerer_replaced Rnr w s next items = refl
answerer_replaced Rr w s next items = refl
answerer_replaced Dcn w s next items = refl

each_after : {A : Type 0} (P : A → Type 0) (xs ys : List A) → Each P (xs ++ ys) → Each P ys
each_after P [] ys h = h
each_after P (x ∷ xs) ys h = each_after P xs ys h.1

-- items that are under way after a transmission can be written
pub caller_wrote : (turn : Turn) (w : World) (next : Caller) →
    Each CanBeWritten (caller_sends turn w next (caller_items next turn)).to_answerer → Each CanBeWritten (caller_items next turn)
caller_wrote Silent w next h = tt
caller_wrote Dis w next h = tt
caller_wrote Training w next h = each_after CanBeWritten w.to_answerer _ h
caller_wrote Cfr w next h = tt
caller_wrote Ftt w next h = tt
caller_wrote (Burst map) w next h = each_after CanBeWritten w.to_answerer _ h
caller_wrote Pps w next h = each_after CanBeWritten w.to_answerer _ h
caller_wrote Mcf w next h = tt
caller_wrote (Ppr map) w next h = tt
caller_wrote Rnr w next h = tt
caller_wrote Rr w next h = each_after CanBeWritten w.to_answerer _ h
caller_wrote Dcn w next h = each_after CanBeWritten w.to_answerer _ h

pub answerer_wrote : (turn : Turn) (w : World) (next : Answerer) →
    Each CanBeWritten (answerer_sends turn w next (answerer_items next turn)).to_caller → Each CanBeWritten (answerer_items next turn)
answerer_wrote Silent w next h = tt
answerer_wrote Dis w next h = each_after CanBeWritten w.to_caller _ h
answerer_wrote Training w next h = tt
answerer_wrote Cfr w next h = each_after CanBeWritten w.to_caller _ h
answerer_wrote Ftt w next h = each_after CanBeWritten w.to_caller _ h
answerer_wrote (Burst map) w next h = tt
answerer_wrote Pps w next h = tt
answerer_wrote Mcf w next h = each_after CanBeWritten w.to_caller _ h
answerer_wrote (Ppr map) w next h = each_after CanBeWritten w.to_caller _ h
answerer_wrote Rnr w next h = each_after CanBeWritten w.to_caller _ h
answerer_wrote Rr w next h = tt
answerer_wrote Dcn w next h = each_after CanBeWritten w.to_caller _ h

-- all items were sent, or the first of them; what led to the sender is gone
pub caller_sent_so : {E : Type 0} (v : Call) (turn : Turn) (r : Result (Unit {0}) E) (refused : Bool)
    (items new cleared : List PlainItem) → turn ≢ Silent → refused ≡ is_err r →
    ((t : Caller) → Represents v.caller t → items ≡ caller_items t turn) → OnOk r (new ≡ v.to_answerer ++ items) →
    OnErr r ((made : ℕ) × (new ≡ v.to_answerer ++ take made items)) → cleared ≡ [] →
    CallerSends v (record { caller = v.caller; answerer = v.answerer; to_answerer = new; to_caller = cleared }) turn refused
caller_sent_so v turn (Ok done) refused items new cleared loud is all ok err gone = (
  Done,
  subst (λ b. IsSent b Done) (sym is) tt,
  λ w shows.
      let e : new ≡ w.to_answerer ++ caller_items w.caller turn = ok ∙
      (ap (λ l. l ++ items) (sym shows.to_answerer) ∙ ap (λ l. w.to_answerer ++ l) (all w.caller shows.caller)) in
      subst (Shows (record { caller = v.caller; answerer = v.answerer; to_answerer = new; to_caller = cleared }))
      (sym (caller_transmits turn w w.caller (caller_items w.caller turn) loud))
      (record { caller = shows.caller; answerer = shows.answerer; to_answerer = sym e; to_caller = sym gone }),
)
caller_sent_so v turn (Err refusal) refused items new cleared loud is all ok err gone = (
  Cut err.0,
  subst (λ b. IsSent b (Cut err.0)) (sym is) tt,
  λ w shows.
      let e : new ≡ w.to_answerer ++ take err.0 (caller_items w.caller turn) = err.1 ∙
      (ap (λ l. l ++ take err.0 items) (sym shows.to_answerer) ∙ ap (λ l. w.to_answerer ++ take err.0 l) (all w.caller shows.caller)) in
      subst (Shows (record { caller = v.caller; answerer = v.answerer; to_answerer = new; to_caller = cleared }))
      (sym (caller_transmits turn w w.caller (take err.0 (caller_items w.caller turn)) loud))
      (record { caller = shows.caller; answerer = shows.answerer; to_answerer = sym e; to_caller = sym gone }),
)

pub answerer_sent_so : {E : Type 0} (v : Call) (turn : Turn) (r : Result (Unit {0}) E) (refused : Bool)
    (items new cleared : List PlainItem) → turn ≢ Silent → refused ≡ is_err r →
    items ≡ answerer_items v.answerer turn → OnOk r (new ≡ v.to_caller ++ items) →
    OnErr r ((made : ℕ) × (new ≡ v.to_caller ++ take made items)) → cleared ≡ [] →
    AnswererSends v (record { caller = v.caller; answerer = v.answerer; to_answerer = cleared; to_caller = new }) turn refused
answerer_sent_so v turn (Ok done) refused items new cleared loud is all ok err gone = (
  Done,
  subst (λ b. IsSent b Done) (sym is) tt,
  λ w shows.
      let e : new ≡ w.to_caller ++ answerer_items w.answerer turn = ok ∙
      (ap (λ l. l ++ items) (sym shows.to_caller) ∙
      ap (λ l. w.to_caller ++ l) (all ∙ ap (λ s. answerer_items s turn) (sym shows.answerer))) in
      subst (Shows (record { caller = v.caller; answerer = v.answerer; to_answerer = cleared; to_caller = new }))
      (sym (answerer_transmits turn w w.answerer (answerer_items w.answerer turn) loud))
      (record { caller = shows.caller; answerer = shows.answerer; to_answerer = sym gone; to_caller = sym e }),
)
answerer_sent_so v turn (Err refusal) refused items new cleared loud is all ok err gone = (
  Cut err.0,
  subst (λ b. IsSent b (Cut err.0)) (sym is) tt,
  λ w shows.
      let e : new ≡ w.to_caller ++ take err.0 (answerer_items w.answerer turn) = err.1 ∙
      (ap (λ l. l ++ take err.0 items) (sym shows.to_caller) ∙
      ap (λ l. w.to_caller ++ take err.0 l) (all ∙ ap (λ s. answerer_items s turn) (sym shows.answerer))) in
      subst (Shows (record { caller = v.caller; answerer = v.answerer; to_answerer = cleared; to_caller = new }))
      (sym (answerer_transmits turn w w.answerer (take err.0 (answerer_items w.answerer turn)) loud))
      (record { caller = shows.caller; answerer = shows.answerer; to_answerer = sym gone; to_caller = sym e }),
)

-- What is left of the turn that a station keeps: the items of its bursts that were not taken.
use Rattle.std.proofs.Common.{◌≡◌, ◌⊎◌, inl, inr, ℕ, zero, suc, ◌+◌, Bool, true, false, cond, List, [], ◌∷◌, ◌++◌, drop, refl, ap, sym, subst, ◌∙◌}
use Rattle.std.proofs.Common.{append_assoc, append-nil}
use Rattle.std.proofs.Math.Numerals.{add-one}
use Rattle.signals.specs.Signals.{dis, cfr, ftt, ppr, mcf, rnr, dcn}
use Rattle.signals.specs.declared.params.Caps.{Caps}
use Rattle.signals.specs.declared.params.Speed.{Speed}
use Rattle.stations.specs.AnswererStep.{Answerer, answerer_items}
use Rattle.stations.specs.Bursts.{CutByCarrier, PlainBurst, bursts_of, carrier_of, items_of}
use Rattle.stations.specs.CallerStep.{Caller, caller_items}
use Rattle.stations.specs.Inputs.{PlainItem, framed}
use Rattle.stations.specs.declared.turn.Turn.{Turn}
use Rattle.stations.specs.declared.turn.Turn.TheVariants.{Dis as SendDis, Cfr as SendCfr, Ftt as SendFtt, Mcf as SendMcf}
use Rattle.stations.specs.declared.turn.Turn.TheVariants.{Ppr as SendPpr, Rnr as SendRnr, Dcn as SendDcn}
use Rattle.line_sim.proofs.Lists.{drop_nil}
use Rattle.joined_terminals.specs.Joining.{if_clear}
use Rattle.joined_terminals.proofs.Silent.{LeavesTurn}

-- what is left of a caller's turn, and still gets onto the line
abbrev pub caller_left : Bool → ℕ → Turn → Caller → List PlainItem
caller_left clear taken turn t = cond clear (items_of (drop taken (bursts_of t.params.speed (caller_items t turn)))) []

-- the items of an answerer's turn, by its capabilities
abbrev pub said_by : Caps → Turn → List PlainItem
said_by caps SendDis = framed (dis caps) ∷ []
said_by caps SendCfr = framed cfr ∷ []
said_by caps SendFtt = framed ftt ∷ []
said_by caps SendMcf = framed mcf ∷ []
said_by caps (SendPpr map) = framed (ppr map) ∷ []
said_by caps SendRnr = framed rnr ∷ []
said_by caps SendDcn = framed dcn ∷ []
said_by caps _ = []

pub said_is : (s : Answerer) (turn : Turn) → answerer_items s turn ≡ said_by s.caps turn
said_is s SendDis = refl
said_is s _ = refl

-- what is left of an answerer's turn, and still gets onto the line
abbrev pub answerer_left : Bool → ℕ → Turn → Caps → List PlainItem
answerer_left clear taken turn caps = cond clear (drop taken (said_by caps turn)) []

-- nothing is left of no items
pub none_left : (speed : Speed) (taken : ℕ) → items_of (drop taken (bursts_of speed [])) ≡ []
unfolding bursts_of
none_left speed taken = ap items_of (drop_nil {A = PlainBurst} taken [] refl)

pub left_after : (c next : Caller) → LeavesTurn c next → (clear : Bool) (taken : ℕ) (turn : Turn) →
    (caller_left clear taken turn next ≡ caller_left clear taken turn c) ⊎ (caller_left clear taken turn next ≡ [])
left_after c next l false taken turn = inl refl
left_after c next l true taken turn = at (l.items turn)
  where
    at : (caller_items next turn ≡ caller_items c turn) ⊎ (caller_items next turn ≡ []) →
        (caller_left true taken turn next ≡ caller_left true taken turn c) ⊎ (caller_left true taken turn next ≡ [])
    at (inl e) = inl
        (ap (λ (items : List PlainItem). items_of (drop taken (bursts_of next.params.speed items))) e ∙
        ap (λ p. items_of (drop taken (bursts_of p.speed (caller_items c turn)))) l.params)
    at (inr e) = inr
        (ap (λ (items : List PlainItem). items_of (drop taken (bursts_of next.params.speed items))) e ∙
        none_left next.params.speed taken)

-- of a new turn all is left
pub all_left : CutByCarrier → (t : Caller) (turn : Turn) → caller_left true 0 turn t ≡ caller_items t turn
all_left cut t turn = (cut t.params.speed (caller_items t turn)).joined

-- after the next one are the others
pub drop_next : {A : Type 0} (n : ℕ) (xs : List A) (y : A) (ys : List A) → drop n xs ≡ y ∷ ys → drop (suc n) xs ≡ ys
drop_next zero xs y ys e = ap (drop 1) e
drop_next (suc n) [] y ys e = cc
drop_next (suc n) (x ∷ xs) y ys e = drop_next n xs y ys e

-- a burst that is taken goes from what is left
pub burst_taken : (t : Caller) (turn : Turn) (taken : ℕ) (bursts : List PlainBurst) (burst : PlainBurst) (later : List PlainBurst) →
    bursts ≡ bursts_of t.params.speed (caller_items t turn) → drop taken bursts ≡ burst ∷ later → (clear : Bool) (xs : List PlainItem) →
    (xs ++ if_clear clear burst.items) ++ caller_left clear (taken + 1) turn t ≡ xs ++ caller_left clear taken turn t
burst_taken t turn taken bursts burst later are next false xs = append-nil (xs ++ []) ∙ refl
burst_taken t turn taken bursts burst later are next true xs =
    let now : drop taken (bursts_of t.params.speed (caller_items t turn)) ≡ burst ∷ later = subst (λ bs. drop taken bs ≡ burst ∷ later) are next in
    let then_left : drop (taken + 1) (bursts_of t.params.speed (caller_items t turn)) ≡ later =
    rw add-one (drop_next taken (bursts_of t.params.speed (caller_items t turn)) burst later now) in
    append_assoc xs burst.items _ ∙
    ap (λ l. xs ++ l) (ap (λ bs. burst.items ++ items_of bs) then_left ∙ sym (ap items_of now))

-- one item is one burst
one_burst : (speed : Speed) (x : PlainItem) →
    bursts_of speed (x ∷ []) ≡ record { carrier = carrier_of speed x; items = x ∷ [] } ∷ []
unfolding bursts_of
one_burst speed x = refl

one_taken : (speed : Speed) (x : PlainItem) (taken : ℕ) (burst : PlainBurst) (later : List PlainBurst) →
    drop taken (bursts_of speed (x ∷ [])) ≡ burst ∷ later → burst.items ++ drop (suc taken) (x ∷ []) ≡ drop taken (x ∷ [])
one_taken speed x zero burst later e =
    let is : burst.items ≡ x ∷ [] = ap (λ (b : PlainBurst). b.items) (sym (first_is (sym (one_burst speed x) ∙ e))) in
    ap (λ l. l ++ []) is
  where
    first_is : {b c : PlainBurst} {bs cs : List PlainBurst} → b ∷ bs ≡ c ∷ cs → b ≡ c
    first_is e = cc
one_taken speed x (suc n) burst later e =
    let none : drop n [] ≡ burst ∷ later = ap (drop (suc n)) (sym (one_burst speed x)) ∙ e in
    let empty : [] ≡ burst ∷ later = sym (drop_nil {A = PlainBurst} n [] refl) ∙ none in cc

no_burst : (speed : Speed) (taken : ℕ) (burst : PlainBurst) (later : List PlainBurst) → drop taken (bursts_of speed []) ≡ burst ∷ later → ⊥
unfolding bursts_of
no_burst speed taken burst later e = let empty : [] ≡ burst ∷ later = sym (drop_nil {A = PlainBurst} taken [] refl) ∙ e in cc

said_taken : (s : Answerer) (speed : Speed) (turn : Turn) (taken : ℕ) (burst : PlainBurst) (later : List PlainBurst) →
    drop taken (bursts_of speed (answerer_items s turn)) ≡ burst ∷ later →
    burst.items ++ drop (suc taken) (said_by s.caps turn) ≡ drop taken (said_by s.caps turn)
said_taken s speed SendDis taken burst later e = one_taken speed _ taken burst later e
said_taken s speed SendCfr taken burst later e = one_taken speed _ taken burst later e
said_taken s speed SendFtt taken burst later e = one_taken speed _ taken burst later e
said_taken s speed SendMcf taken burst later e = one_taken speed _ taken burst later e
said_taken s speed (SendPpr map) taken burst later e = one_taken speed _ taken burst later e
said_taken s speed SendRnr taken burst later e = one_taken speed _ taken burst later e
said_taken s speed SendDcn taken burst later e = one_taken speed _ taken burst later e
said_taken s speed _ taken burst later e = absurd (no_burst speed taken burst later e)

-- the burst of an answerer that is taken goes from what is left
pub reply_taken : (s : Answerer) (turn : Turn) (taken : ℕ) (bursts : List PlainBurst) (burst : PlainBurst) (later : List PlainBurst) →
    bursts ≡ bursts_of s.params.speed (answerer_items s turn) → drop taken bursts ≡ burst ∷ later → (clear : Bool) (xs : List PlainItem) →
    (xs ++ if_clear clear burst.items) ++ answerer_left clear (taken + 1) turn s.caps ≡ xs ++ answerer_left clear taken turn s.caps
reply_taken s turn taken bursts burst later are next false xs = append-nil (xs ++ [])
reply_taken s turn taken bursts burst later are next true xs =
    let now : drop taken (bursts_of s.params.speed (answerer_items s turn)) ≡ burst ∷ later =
    subst (λ bs. drop taken bs ≡ burst ∷ later) are next in
    append_assoc xs burst.items _ ∙
    ap (λ l. xs ++ l) (rw add-one (said_taken s s.params.speed turn taken burst later now))

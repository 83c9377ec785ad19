-- The bursts of a caller's turn are frames, or a training check that comes as it was sent.
use Rattle.std.proofs.Common.{◌≡◌, ◌⊎◌, inl, inr, ℕ, suc, ◌+◌, ◌*◌, ◌≤◌, Bool, true, false, cond, Option, Some, None, List, [], ◌∷◌, ◌++◌}
use Rattle.std.proofs.Common.{length, replicate, refl, ap, sym, subst, ◌∙◌, append-nil, arith}
use Rattle.std.specs.Prelude.{◌≢◌, nat_eq}
use Rattle.std.proofs.lemmas.List.{length-append, length-replicate}
use Rattle.raster.proofs.PackedLemmas.{length-bits_in}
use Rattle.raster.specs.declared.packed.Order.TheVariants.{LsbFirst}
use Rattle.signals.proofs.TrainingLemmas.{longest-zeros}
use Rattle.signals.specs.Signals.{fcd, rcp}
use Rattle.signals.specs.Training.{longest_zeros, training_octets, zeros_in_front}
use Rattle.signals.specs.declared.params.Params.{Params}
use Rattle.signals.specs.declared.params.Speed.{Speed}
use Rattle.signals.specs.declared.signal.Side.TheVariants.{Caller as CallerSide}
use Rattle.partial_page.specs.Store.{bit_of}
use Rattle.stations.specs.Blocks.{Block}
use Rattle.stations.specs.Bursts.{PlainBurst, TurnsCut, bursts_of, items_of}
use Rattle.stations.specs.CallerStep.{Caller, burst_of, caller_items, fcds, pps_items, present_block, training_items}
use Rattle.stations.specs.Inputs.{PlainItem, framed, checked}
use Rattle.stations.specs.Laws.{Each}
use Rattle.stations.specs.Layers.{training}
use Rattle.stations.specs.declared.carrier.Carrier.TheVariants.{Training}
use Rattle.stations.specs.declared.turn.CallerState.{CallerState}
use Rattle.stations.specs.declared.turn.CallerState.TheVariants.{WaitDis}
use Rattle.stations.specs.declared.turn.Turn.{Turn}
use Rattle.stations.specs.declared.turn.Turn.TheVariants.{Training as SendTraining, Burst, Pps as SendPps, Rr as SendRr, Dcn as SendDcn}
use Rattle.terminals.specs.Sending.{AreBits, IsSent, idle}
use Rattle.terminals.specs.Timing.{flags_after, flags_before}
use Rattle.terminals.specs.declared.sending.SentBurst.{SentBurst}
use Rattle.joined_terminals.specs.Happening.{Arrives}
use Rattle.joined_terminals.specs.Octets.{IsFramed}

-- a burst of frames by another carrier than a check's, or a check
abbrev pub IsFramesOrCheck : PlainBurst → Type 0
IsFramesOrCheck burst =
    (Each IsFramed burst.items × ((speed : Speed) → burst.carrier ≢ Training speed)) ⊎
    ((speed : Speed) × (params : Params) × (burst.carrier ≡ Training speed) × (burst.items ≡ checked (training params) ∷ []))

nothing : (speed : Speed) → Each IsFramesOrCheck (bursts_of speed [])
unfolding bursts_of
nothing speed = tt

in_training : TurnsCut → (state : CallerState) (params : Params) → Each IsFramesOrCheck (bursts_of params.speed (training_items state params))
in_training cut WaitDis params = nothing params.speed
in_training cut _ params =
    subst (Each IsFramesOrCheck) (sym (cut.check params)) (inl ((tt, tt), λ s e. cc), (inr (params.speed, params, refl, refl), tt))

fcds_framed : (marks : List ℕ) (number : ℕ) (frames : List (List ℕ)) →
    Each IsFramed (fcds marks number frames ++ framed rcp ∷ framed rcp ∷ framed rcp ∷ [])
fcds_framed marks number [] = (tt, (tt, (tt, tt)))
fcds_framed marks number (octets ∷ frames) = marked (bit_of marks number) (fcds_framed marks (suc number) frames)
  where
    ends : List PlainItem
    ends = framed rcp ∷ framed rcp ∷ framed rcp ∷ []

    marked : (b : Bool) → Each IsFramed (fcds marks (suc number) frames ++ ends) →
        Each IsFramed (cond b (framed (fcd number octets) ∷ fcds marks (suc number) frames) (fcds marks (suc number) frames) ++ ends)
    marked true h = (tt, h)
    marked false h = h

in_block : TurnsCut → (speed : Speed) (marks : List ℕ) (block : Option Block) → Each IsFramesOrCheck (bursts_of speed (burst_of marks block))
in_block cut speed marks None = nothing speed
in_block cut speed marks (Some block) =
    subst (Each IsFramesOrCheck) (sym (cut.block speed marks block))
    (inl (fcds_framed marks 0 block.frames, λ s e. cc), (inl ((tt, tt), λ s e. cc), tt))

in_pps : (speed : Speed) (block : Option Block) → Each IsFramesOrCheck (bursts_of speed (pps_items block))
unfolding bursts_of
in_pps speed None = tt
in_pps speed (Some block) = (inl ((tt, tt), λ s e. cc), tt)

in_rr : (t : Caller) → Each IsFramesOrCheck (bursts_of t.params.speed (caller_items t SendRr))
unfolding bursts_of
in_rr t = (inl ((tt, tt), λ s e. cc), tt)

in_dcn : (t : Caller) → Each IsFramesOrCheck (bursts_of t.params.speed (caller_items t SendDcn))
unfolding bursts_of
in_dcn t = (inl ((tt, tt), λ s e. cc), tt)

pub callers_say : TurnsCut → (t : Caller) (turn : Turn) → Each IsFramesOrCheck (bursts_of t.params.speed (caller_items t turn))
callers_say cut t SendTraining = in_training cut t.state t.params
callers_say cut t (Burst marks) = in_block cut t.params.speed marks (present_block t)
callers_say cut t SendPps = in_pps t.params.speed (present_block t)
callers_say cut t SendRr = in_rr t
callers_say cut t SendDcn = in_dcn t
callers_say cut t _ = nothing t.params.speed

-- ---- the octets of a check as it is sent

if_zero : (b : Bool) (n m : ℕ) → n ≤ m → cond b (n + 1) 0 ≤ m + 1
if_zero true n m h = omega (arith, h)
if_zero false n m h = omega arith

front_within : (xs : List ℕ) → zeros_in_front xs ≤ length xs
front_within [] = omega arith
front_within (x ∷ xs) = omega (arith, if_zero (nat_eq x 0) (zeros_in_front xs) (length xs) (front_within xs))

longest_within : (xs : List ℕ) → longest_zeros xs ≤ length xs
longest_within [] = omega arith
longest_within (x ∷ xs) = omega (arith, front_within (x ∷ xs), longest_within xs)

-- a check has no flags: its octets are as many as those of the turn
octets_of_check : (sent : List ℕ) (burst : PlainBurst) (later : List PlainBurst) (gives : SentBurst) (speed : Speed) →
    burst.carrier ≡ Training speed → burst.items ≡ checked sent ∷ [] → IsSent CallerSide burst later gives →
    length gives.octets.items ≡ length sent
octets_of_check sent burst later gives speed carrier items is =
    let are : AreBits CallerSide (checked sent ∷ []) (items_of later) is.bits =
    subst (λ l. AreBits CallerSide l (items_of later) is.bits) items is.are in
    let bits : is.bits ≡ replicate (8 * length sent) false =
    are.4 ∙ (ap (λ l. are.0 ++ l) are.3 ∙ (append-nil are.0 ∙ are.2)) in
    let before : idle (flags_before burst.carrier) ≡ [] = ap (λ c. idle (flags_before c)) carrier in
    let after : idle (flags_after burst.carrier) ≡ [] = ap (λ c. idle (flags_after c)) carrier in
    let all : idle (flags_before burst.carrier) ++ (is.bits ++ idle (flags_after burst.carrier)) ≡ replicate (8 * length sent) false =
    ap (λ l. l ++ (is.bits ++ idle (flags_after burst.carrier))) before ∙
    (ap (λ l. is.bits ++ l) after ∙ (append-nil is.bits ∙ bits)) in
    let size : 8 * length gives.octets.items ≡ 8 * length sent + is.octets.fill =
    sym (length-bits_in LsbFirst gives.octets.items (8 * length gives.octets.items)) ∙
    (ap length is.octets.filled ∙
    (length-append _ (replicate is.octets.fill false) ∙
    (ap (λ n. n + length (replicate is.octets.fill false)) (ap length all ∙ length-replicate (8 * length sent) false) ∙
    ap (λ n. 8 * length sent + n) (length-replicate is.octets.fill false)))) in
    omega (arith, size, is.octets.few)

pub check_arrives : (params : Params) (burst : PlainBurst) (later : List PlainBurst) (gives : SentBurst) (speed : Speed) →
    burst.carrier ≡ Training speed → burst.items ≡ checked (training params) ∷ [] → IsSent CallerSide burst later gives →
    Arrives (training params) gives.octets.items
unfolding training
check_arrives params burst later gives speed carrier items is =
    let n : ℕ = training_octets params.speed in
    let size : length gives.octets.items ≡ n =
    octets_of_check (replicate n 0) burst later gives speed carrier items is ∙ length-replicate n 0 in
    let most : longest_zeros gives.octets.items ≤ length gives.octets.items = longest_within gives.octets.items in
    let same : longest_zeros (replicate n 0) ≡ n = longest-zeros n in
    omega (arith, size, most, same)

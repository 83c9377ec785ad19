-- A burst has at most 256 FCDs.
use Rattle.std.proofs.Common.{◌≡◌, ℕ, zero, suc, ◌+◌, ◌/◌, ◌%◌, ◌≤◌, Bool, true, false, cond, List, [], ◌∷◌, ◌++◌, length, min, Option}
use Rattle.std.proofs.Common.{Some, None, refl, ap, sym, ◌∙◌, arith, nat_eq}
use Rattle.std.specs.Int.{bit_at}
use Rattle.std.specs.Prelude.{slice_index}
use Rattle.std.proofs.lemmas.List.{get_or_past}
use Rattle.std.proofs.lemmas.Nat.Bits.{bit_at-zero}
use Rattle.partial_page.specs.Store.{bit_of}
use Rattle.signals.specs.Signals.{fcd, rcp}
use Rattle.stations.specs.Blocks.{Block}
use Rattle.stations.specs.CallerStep.{Caller, fcds, burst_of, pps_of, present_block, caller_items}
use Rattle.stations.specs.Inputs.{PlainItem, framed}
use Rattle.stations.specs.declared.turn.Turn.{Turn}
use Rattle.stations.specs.declared.turn.Turn.TheVariants.{Burst}
use Rattle.line_sim.specs.Entries.{count_fcds, caller_said}

-- past the map no bit is 1
bit_past : (map : List ℕ) (n : ℕ) → length map ≡ 32 → 256 ≤ n → bit_of map n ≡ false
bit_past map n size past =
    let none : slice_index map (n / 8) ≡ 0 = get_or_past map (n / 8) 0 (omega arith) in
    ap (λ x. nat_eq (bit_at x (n % 8)) 1) none ∙ ap (λ x. nat_eq x 1) (bit_at-zero (n % 8))

none_past : (map : List ℕ) (number : ℕ) (frames : List (List ℕ)) (after : List PlainItem) → length map ≡ 32 → count_fcds after ≡ 0 →
    256 ≤ number → count_fcds (fcds map number frames ++ after) ≡ 0
none_past map number [] after size none past = none
none_past map number (octets ∷ frames) after size none past =
    rw (bit_past map number size past) (none_past map (suc number) frames after size none (omega arith))

one_more : (b : Bool) (number left : ℕ) (octets : List ℕ) (items after : List PlainItem) → count_fcds (items ++ after) ≤ left →
    count_fcds (cond b (framed (fcd number octets) ∷ items) items ++ after) ≤ suc left
one_more false number left octets items after h = omega arith
one_more true number left octets items after h = omega arith

few_fcds : (left : ℕ) (map : List ℕ) (number : ℕ) (frames : List (List ℕ)) (after : List PlainItem) → length map ≡ 32 →
    count_fcds after ≡ 0 → number + left ≡ 256 → count_fcds (fcds map number frames ++ after) ≤ left
few_fcds zero map number frames after size none e =
    let h : count_fcds (fcds map number frames ++ after) ≡ 0 = none_past map number frames after size none (omega arith) in omega arith
few_fcds (suc left) map number [] after size none e = omega arith
few_fcds (suc left) map number (octets ∷ frames) after size none e =
    one_more (bit_of map number) number left octets (fcds map (suc number) frames) after
    (few_fcds left map (suc number) frames after size none (omega arith))

few_in_burst : (map : List ℕ) (block : Option Block) → length map ≡ 32 → count_fcds (burst_of map block) ≤ 256
few_in_burst map None size = omega arith
few_in_burst map (Some block) size =
    few_fcds 256 map 0 block.frames (framed rcp ∷ framed rcp ∷ framed rcp ∷ pps_of block ∷ []) size refl refl

-- what was counted up to 65,535 is the number of a burst's FCDs
pub burst_counted : (map : List ℕ) (turn : Turn) (t : Caller) (items : List PlainItem) (count : ℕ) → length map ≡ 32 → turn ≡ Burst map →
    items ≡ caller_items t turn → count ≡ min 65535 (count_fcds items) →
    count ≡ (caller_said turn (caller_items t turn)).fcds
burst_counted map turn t items count size is all e =
    let few : count_fcds (burst_of map (present_block t)) ≤ 256 = few_in_burst map (present_block t) size in
    let small : min 65535 (count_fcds (burst_of map (present_block t))) ≡ count_fcds (burst_of map (present_block t)) = omega arith in
    e ∙ (ap (λ l. min 65535 (count_fcds l)) (all ∙ ap (caller_items t) is) ∙
    (small ∙ ap (λ x. (caller_said x (caller_items t x)).fcds) (sym is)))

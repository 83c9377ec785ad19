-- Many calls over a bad line, one after the other.
use Rattle.std.proofs.Common.{◌≡◌, ◌⊎◌, ℕ, ◌+◌, ◌<◌, ◌≤◌, List, [], ◌∷◌, ◌++◌, length, Option, inl, inr, refl, ap, sym, subst, ◌∙◌, arith}
use Rattle.std.specs.Prelude.{◌↔◌, ◌&&◌, Bool, IsTrue, nat_le}
use Rattle.std.proofs.Common.{codes, true, nat_eq, slice_index, slice_set, take, get_or}
use Rattle.std.specs.Io.KnownBytes.{Appends}
use Rattle.std.specs.List.{flat_map}
use Rattle.std.proofs.KnownBytes.{Appends-nil, Appends-trans}
use Rattle.std.proofs.lemmas.Bool.{and_parts, cases_eq, eq-eqb, eqb-true, le-leb, leb-true, ne_eqb}
use Rattle.std.proofs.lemmas.List.{append-nil, get_or-set_other, get_or-set_same, length-append, length-set}
use Rattle.std.proofs.lemmas.List.Concat.{flat_map-append}
use Rattle.raster.specs.Pbm.{AreImages}
use Rattle.stations.specs.CallerFields.{AreCallable}
use Rattle.stations.specs.CallerStep.{confirmed}
use Rattle.stations.specs.Layers.{Document}
use Rattle.stations.specs.declared.turn.End.{End}
use Rattle.line_sim.specs.Fates.{DrivenFields}
use Rattle.line_sim.specs.Line.{World}
use Rattle.line_sim.specs.Represents.{Shows}
use Rattle.line_sim.specs.declared.live.EndingCounts.{EndingCounts}
use Rattle.calls.specs.BadLines.{RefusesDriven, bad_call, gone}
use Rattle.faults.specs.Faults.{IsOutside}
use Rattle.call_tallies.specs.ManyCalls.{AreCallsOf, CountsAll, IsCallOf, Tallies, TellsCalls, all_ends, borne_in, end_row, ended_at}
use Rattle.call_tallies.specs.LineTimes.{seconds_in}
use Rattle.call_tallies.specs.FewTries.{slower_speeds}
use Rattle.call_tallies.specs.ManyCalls.{few_in, few_row, mild_in, mild_row, one_line, place_of, sum_row, table_text, through_in}
use Rattle.call_tallies.specs.Seconds.{CountsSeconds, Histogram, TellsSeconds, seconds_row}
use Rattle.call_tallies.specs.Totals.{one_if, total}
use Rattle.faults.specs.declared.fault.ToolFault.{ToolFault}
use Rattle.faults.specs.declared.fault.ToolFault.TheVariants.{No}
use Rattle.calls.specs.declared.losses.BadLine.{BadLine}
use Rattle.call_tallies.specs.declared.many_calls.Counted.{Counted}
use Rattle.call_tallies.specs.declared.many_calls.OneCall.{OneCall}
use Rattle.calls.specs.declared.options.CallOptions.{CallOptions}
use Rattle.call_tallies.specs.declared.tallies.Tally.{Tally}
use Rattle.call_tallies.proofs.CountedSteps.{total_both}
use Rattle.faults.proofs.FirstElements.{take_next}

-- what a call has come to in a world: its ends, and the numbers of its pages
pub record CountsAs (ending : EndingCounts) (w : World) : Type 0 where
  pub stored : ending.stored ≡ length w.answerer.pages
  pub confirmed : ending.confirmed ≡ confirmed w.caller
  pub caller_end : ending.caller_end ≡ w.caller.ending
  pub answerer_end : ending.answerer_end ≡ w.answerer.ending

-- what the call of a number came to, of what its steps lead to
pub is_call : (options : CallOptions) (bad : BadLine) (number : ℕ) (document : Document) (new : DrivenFields) (counted : Counted)
    (ending : EndingCounts) (seconds : ℕ) (few : Bool) → AreCallable document →
    CountsAll bad (slower_speeds options.modems) (bad_call options bad number document) new counted →
    ((w : World) → Shows new.live w → CountsAs ending w) →
    seconds ≡ seconds_in counted.clocks counted.counts.waited ending.caller_end →
    (IsTrue few ↔ ((3 ≤ bad.calls) × (bad.busy ≡ 0) × IsTrue counted.few)) →
    IsCallOf options bad number document
    (record {
      number = number;
      caller_end = ending.caller_end;
      confirmed = ending.confirmed;
      answerer_end = ending.answerer_end;
      pages = ending.stored;
      counts = counted.counts;
      seconds = seconds;
      few = few;
    })
is_call options bad number document new counted ending seconds few callable told ends seconds_is few_is =
    let w : World = (gone told.made bad (bad_call options bad number document)).call.world in
    let ended : CountsAs ending w = ends w told.shows.world in
    record {
      callable = callable;
      made = told.made;
      events = told.events;
      are = told.are;
      over = told.over;
      ends = record {
        number_is = refl;
        caller_end = ended.caller_end;
        confirmed = ended.confirmed;
        answerer_end = ended.answerer_end;
        pages = ended.stored;
        counted = told.counts;
      };
      clocks = counted.clocks;
      sent = told.sent;
      seconds = seconds_is;
      few = (
        λ e. (let h = few_is.0 e in record { patient = h.0; ready = h.1; few = told.few.0 h.2 }),
        λ h. few_is.1 (h.patient, h.ready, told.few.1 h.few),
      );
    }

-- few tries were bad where enough DIS come in a wait, and nobody is busy
pub few_when : (calls busy : ℕ) (few : Bool) →
    IsTrue (nat_le 3 calls && (nat_eq busy 0 && few)) ↔ ((3 ≤ calls) × (busy ≡ 0) × IsTrue few)
few_when calls busy few = (there, back)
  where
    there : IsTrue (nat_le 3 calls && (nat_eq busy 0 && few)) → (3 ≤ calls) × (busy ≡ 0) × IsTrue few
    there e =
        let one = and_parts (nat_le 3 calls) (nat_eq busy 0 && few) e in
        let two = and_parts (nat_eq busy 0) few one.1 in
        (leb-true 3 calls one.0, eqb-true busy 0 two.0, two.1)

    back : (3 ≤ calls) × (busy ≡ 0) × IsTrue few → IsTrue (nat_le 3 calls && (nat_eq busy 0 && few))
    back h =
        ap (λ b. b && (nat_eq busy 0 && few)) (le-leb 3 calls h.0) ∙ (ap (λ b. b && few) (eq-eqb busy 0 h.1) ∙ h.2)

-- one call more
pub and_call : (options : CallOptions) (bad : BadLine) (first : ℕ) (document : Document) (calls : List OneCall) (call : OneCall) →
    AreCallsOf options bad first document calls → IsCallOf options bad (first + length calls) document call →
    AreCallsOf options bad first document (calls ++ call ∷ [])
and_call options bad first document [] call are is =
    let e : first + 0 ≡ first = omega arith in
    (subst (λ n. IsCallOf options bad n document call) e is, tt)
and_call options bad first document (one ∷ calls) call are is =
    let e : first + length (one ∷ calls) ≡ first + 1 + length calls = omega arith in
    (are.0, and_call options bad (first + 1) document calls call are.1 (subst (λ n. IsCallOf options bad n document call) e is))

-- some calls were run, and what was written is their lines
pub record RanSo (options : CallOptions) (bad : BadLine) (document : Document) (made : ℕ) (tally : Tally) (seconds : Histogram)
    (before at : Option (List ℕ)) : Type 0 where
  pub calls : List OneCall
  pub many : length calls ≡ made
  pub are : AreCallsOf options bad 0 document calls
  pub tallies : Tallies tally calls
  pub counts : CountsSeconds seconds calls
  pub written : Appends before at (flat_map one_line calls)

pub none_ran : (options : CallOptions) (bad : BadLine) (document : Document) (tally : Tally) (seconds : Histogram) (at : Option (List ℕ)) →
    Tallies tally [] → CountsSeconds seconds [] → RanSo options bad document 0 tally seconds at at
none_ran options bad document tally seconds at none nothing =
    record { calls = []; many = refl; are = tt; tallies = none; counts = nothing; written = Appends-nil at }

pub one_ran : (options : CallOptions) (bad : BadLine) (document : Document) (made : ℕ) (tally new : Tally) (seconds longer : Histogram)
    (before at after : Option (List ℕ)) (call : OneCall) → RanSo options bad document made tally seconds before at →
    IsCallOf options bad made document call → Appends at after (one_line call) →
    ((calls : List OneCall) → Tallies tally calls → Tallies new (calls ++ call ∷ [])) →
    ((calls : List OneCall) → CountsSeconds seconds calls → CountsSeconds longer (calls ++ call ∷ [])) →
    RanSo options bad document (made + 1) new longer before after
one_ran options bad document made tally new seconds longer before at after call ran is line more lasts = record {
  calls = ran.calls ++ call ∷ [];
  many = length-append ran.calls (call ∷ []) ∙ ap (λ n. n + 1) ran.many;
  are = and_call options bad 0 document ran.calls call ran.are
      (let e : made ≡ 0 + length ran.calls = (let m = ran.many in omega (arith, m)) in
      subst (λ n. IsCallOf options bad n document call) e is);
  tallies = more ran.calls ran.tallies;
  counts = lasts ran.calls ran.counts;
  written = subst (Appends before after)
      (sym (flat_map-append one_line ran.calls (call ∷ []) ∙ ap (λ l. flat_map one_line ran.calls ++ l) (append-nil (one_line call))))
      (Appends-trans before at after (flat_map one_line ran.calls) (one_line call) ran.written line);
}

-- why no call of images was run, if they were read
pub images_refused : (fine : Bool) (images : List ℕ) (document : Document) (fault : ToolFault) → AreImages fine images document →
    IsOutside fault ⊎ (¬ AreCallable document × (fault ≡ No 26)) → RefusesDriven fine images fault
images_refused fine images document fault read (inl outside) = inl outside
images_refused fine images document fault read (inr not) = inr (inr (document, read, not.0, not.1))

-- if a call was run, the fault of a later one is one of the outside
fault_later : (options : CallOptions) (bad : BadLine) (document : Document) (calls : List OneCall) (made : ℕ) (fault : ToolFault) →
    length calls ≡ made → 0 < made → AreCallsOf options bad 0 document calls →
    IsOutside fault ⊎ (¬ AreCallable document × (fault ≡ No 26)) → IsOutside fault
fault_later options bad document calls made fault many some are (inl outside) = outside
fault_later options bad document [] made fault many some are (inr not) = absurd (omega (arith, many, some))
fault_later options bad document (call ∷ calls) made fault many some are (inr not) = absurd (not.0 are.0.callable)

-- so it is of the call that is under way, unless it is the first
pub later_or : {Q : Type 0} → (options : CallOptions) (bad : BadLine) (document : Document) (made : ℕ) (tally : Tally)
    (seconds : Histogram) (before at : Option (List ℕ)) (fault : ToolFault) → RanSo options bad document made tally seconds before at →
    (0 < made) ⊎ Q → IsOutside fault ⊎ (¬ AreCallable document × (fault ≡ No 26)) → IsOutside fault ⊎ Q
later_or options bad document made tally seconds before at fault ran (inl some) refused =
    inl (fault_later options bad document ran.calls made fault ran.many some ran.are refused)
later_or options bad document made tally seconds before at fault ran (inr same) refused = inr same

-- all calls were run, and their table was written
pub all_ran : (options : CallOptions) (bad : BadLine) (document : Document) (made times : ℕ) (tally : Tally) (seconds : Histogram)
    (before at mid after : Option (List ℕ)) → RanSo options bad document made tally seconds before at → made ≡ times →
    ((calls : List OneCall) → Tallies tally calls → Appends at mid (table_text calls)) →
    ((calls : List OneCall) → CountsSeconds seconds calls → TellsSeconds calls mid after) →
    TellsCalls options bad times document before after
all_ran options bad document made times tally seconds before at mid after ran all table row =
    let told : TellsSeconds ran.calls mid after = row ran.calls ran.counts in
    record {
      calls = ran.calls;
      many = ran.many ∙ all;
      are = ran.are;
      shares = told.shares;
      are_shares = told.are;
      written = Appends-trans before at after (flat_map one_line ran.calls) (table_text ran.calls ++ seconds_row told.shares) ran.written
          (Appends-trans at mid after (table_text ran.calls) (seconds_row told.shares) (table ran.calls ran.tallies) told.written);
    }

-- ---- the table

-- its rows, one after the other
pub table_told : (tally : Tally) (calls : List OneCall) (a b c d m e f : Option (List ℕ)) → Tallies tally calls →
    Appends a b (sum_row (codes "calls") tally.calls) → Appends b c (flat_map (end_row calls) all_ends) →
    Appends c d (mild_row tally.mild tally.borne) → Appends d m (few_row tally.few tally.through) →
    Appends m e (sum_row (codes "deliveries") tally.deliveries) → Appends e f (sum_row (codes "again") tally.again) →
    Appends a f (table_text calls)
table_told tally calls a b c d m e f t count ends mild few deliveries again =
    Appends-trans a b f _ _ (subst (λ n. Appends a b (sum_row (codes "calls") n)) t.count count)
    (Appends-trans b c f _ _ ends
    (Appends-trans c d f _ _ (subst (λ n. Appends c d (mild_row (total mild_in calls) n)) t.borne
    (subst (λ n. Appends c d (mild_row n tally.borne)) t.mild mild))
    (Appends-trans d m f _ _ (subst (λ n. Appends d m (few_row (total few_in calls) n)) t.through
    (subst (λ n. Appends d m (few_row n tally.through)) t.few few))
    (Appends-trans m e f _ _ (subst (λ n. Appends m e (sum_row (codes "deliveries") n)) t.deliveries deliveries)
    (subst (λ n. Appends e f (sum_row (codes "again") n)) t.again again)))))

-- the numbers of calls with one more
pub tallied : (old : Tally) (calls : List OneCall) (call : OneCall) (count mild borne few through deliveries again place at : ℕ) →
    Tallies old calls → count ≡ old.calls + 1 → mild ≡ old.mild + mild_in call → borne ≡ old.borne + borne_in call →
    few ≡ old.few + few_in call → through ≡ old.through + through_in call →
    deliveries ≡ old.deliveries + call.counts.deliveries → again ≡ old.again + call.counts.again →
    place ≡ place_of call.caller_end → place ≤ 10 → at ≡ slice_index old.ended place + 1 →
    Tallies (record {
      calls = count;
      ended = slice_set old.ended place at;
      mild = mild;
      borne = borne;
      few = few;
      through = through;
      deliveries = deliveries;
      again = again;
    }) (calls ++ call ∷ [])
tallied old calls call count mild borne few through deliveries again place at t count_is mild_is borne_is few_is through_is deliveries_is
    again_is place_is most at_is =
    record {
      count = count_is ∙ (ap (λ n. n + 1) t.count ∙ sym (length-append calls (call ∷ [])));
      places = length-set old.ended place at ∙ t.places;
      ended = λ other within. ended_is other within (cases_eq other place);
      mild = more_of mild_in old.mild mild mild_is t.mild;
      borne = more_of borne_in old.borne borne borne_is t.borne;
      few = more_of few_in old.few few few_is t.few;
      through = more_of through_in old.through through through_is t.through;
      deliveries = more_of (λ one. one.counts.deliveries) old.deliveries deliveries deliveries_is t.deliveries;
      again = more_of (λ one. one.counts.again) old.again again again_is t.again;
    }
  where
    more_of : (of : OneCall → ℕ) (before now : ℕ) → now ≡ before + of call → before ≡ total of calls → now ≡ total of (calls ++ call ∷ [])
    more_of of before now now_is before_is =
        let both : total of (calls ++ call ∷ []) ≡ total of calls + (of call + 0) = total_both of calls (call ∷ []) in
        omega (arith, both, now_is, before_is)

    inside : place < length old.ended
    inside = let p = t.places in omega (arith, p, most)

    here : nat_eq (place_of call.caller_end) place ≡ true
    here = ap (λ n. nat_eq n place) (sym place_is) ∙ eq-eqb place place refl

    ended_is : (other : ℕ) → other < 11 → (other ≡ place) ⊎ (other ≡ place → ⊥) →
        slice_index (slice_set old.ended place at) other ≡ ended_at other (calls ++ call ∷ [])
    ended_is other within (inl same) =
        let both = total_both (λ (one : OneCall). one_if (nat_eq (place_of one.caller_end) place)) calls (call ∷ []) in
        let one : one_if (nat_eq (place_of call.caller_end) place) ≡ 1 = ap one_if here in
        let before : slice_index old.ended place ≡ ended_at place calls = t.ended place (omega (arith, most)) in
        let now : slice_index (slice_set old.ended place at) place ≡ at = get_or-set_same old.ended place at 0 inside in
        let is : slice_index (slice_set old.ended place at) place ≡ ended_at place (calls ++ call ∷ []) =
        omega (arith, both, one, before, now, at_is) in
        subst (λ n. slice_index (slice_set old.ended place at) n ≡ ended_at n (calls ++ call ∷ [])) (sym same) is
    ended_is other within (inr apart) =
        let both = total_both (λ (one : OneCall). one_if (nat_eq (place_of one.caller_end) other)) calls (call ∷ []) in
        let none : one_if (nat_eq (place_of call.caller_end) other) ≡ 0 =
        ap one_if (ap (λ n. nat_eq n other) (sym place_is) ∙ ne_eqb place other (λ e. apart (sym e))) in
        let before : slice_index old.ended other ≡ ended_at other calls = t.ended other within in
        let now : slice_index (slice_set old.ended place at) other ≡ slice_index old.ended other =
        get_or-set_other old.ended place other at 0 apart in
        omega (arith, both, none, before, now)

-- one row more
pub row_more : (before now new : Option (List ℕ)) (calls : List OneCall) (ends : List End) (index : ℕ) (default : End) →
    index < length ends →
    Appends before now (flat_map (end_row calls) (take index ends)) → Appends now new (end_row calls (get_or ends index default)) →
    Appends before new (flat_map (end_row calls) (take (index + 1) ends))
row_more before now new calls ends index default within rows row =
    let more : flat_map (end_row calls) (take (index + 1) ends) ≡
    flat_map (end_row calls) (take index ends) ++ end_row calls (get_or ends index default) =
    ap (λ l. flat_map (end_row calls) l) (take_next ends index default within) ∙
    (flat_map-append (end_row calls) (take index ends) (get_or ends index default ∷ []) ∙
    ap (λ l. flat_map (end_row calls) (take index ends) ++ l) (append-nil (end_row calls (get_or ends index default)))) in
    subst (Appends before new) (sym more) (Appends-trans before now new _ _ rows row)

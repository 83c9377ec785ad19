-- What the registers have is what is kept of the bits.
use Rattle.std.proofs.Common.{◌≡◌, ℕ, Bool, List, refl, ap, sym, subst}
use Rattle.hdlc.specs.declared.counts.Counts.{Counts}
use Rattle.hdlc.specs.declared.flag_finder.FlagFinder.{FlagFinder}
use Rattle.hdlc.specs.Collects.{Collects}
use Rattle.hdlc.specs.DeframerState.{DeframerState, IsAfter}
use Rattle.hdlc.specs.Kept.{Kept, kept_of}
use Rattle.hdlc.specs.OpenGap.{unclosed}
use Rattle.hdlc.specs.DeframerParts.{Cuts, PartsAfter, kept_in}

kept_is : (finder : FlagFinder) (bits : List Bool) → Cuts finder bits → kept_in finder ≡ kept_of bits
unfolding kept_of
kept_is finder bits cuts =
    let gap : Collects finder.gap (unclosed bits) = cuts.gap in
    let unstuffed = gap.unstuffed in
    rw (
      cuts.begun,
      cuts.held,
      cuts.window,
      gap.seen,
      gap.ones,
      gap.aborted,
      unstuffed.whole,
      unstuffed.long,
      unstuffed.part,
      unstuffed.window,
    ) refl

cuts_are : (finder : FlagFinder) (bits : List Bool) → kept_in finder ≡ kept_of bits → Cuts finder bits
unfolding kept_of
cuts_are finder bits e = record {
  begun = ap (λ (k : Kept). k.begun) e;
  held = ap (λ (k : Kept). k.held) e;
  window = ap (λ (k : Kept). k.last) e;
  gap = record {
    seen = ap (λ (k : Kept). k.seen) e;
    ones = ap (λ (k : Kept). k.ones) e;
    aborted = ap (λ (k : Kept). k.aborted) e;
    unstuffed = record {
      part = ap (λ (k : Kept). k.part) e;
      window = ap (λ (k : Kept). k.ending) e;
      whole = ap (λ (k : Kept). k.octets) e;
      long = ap (λ (k : Kept). k.long) e;
    };
  };
}

-- a deframer with these registers
abbrev pub state_of : FlagFinder → Counts → List (List ℕ) → DeframerState
state_of finder counts queue = record { kept = kept_in finder; counts = counts; queue = queue }

pub parts_seen : (finder : FlagFinder) (counts : Counts) (queue : List (List ℕ)) (bits : List Bool) (handed : ℕ)
    → PartsAfter finder counts queue bits handed → IsAfter (state_of finder counts queue) bits handed
parts_seen finder counts queue bits handed s = record {
  kept = kept_is finder bits s.cuts;
  counted = s.counted;
  within = s.within;
  queued = s.queued;
}

pub parts_inside : (finder : FlagFinder) (counts : Counts) (queue : List (List ℕ)) (bits : List Bool) (handed : ℕ) (state : DeframerState)
    → state_of finder counts queue ≡ state → IsAfter state bits handed → PartsAfter finder counts queue bits handed
parts_inside finder counts queue bits handed state view taken =
    let P : DeframerState → Type 0 = λ f. IsAfter f bits handed in
    let s : IsAfter (state_of finder counts queue) bits handed = subst P (sym view) taken in
    record { cuts = cuts_are finder bits s.kept; counted = s.counted; within = s.within; queued = s.queued }

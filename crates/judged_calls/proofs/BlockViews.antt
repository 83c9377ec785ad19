-- What was said of the block under way, frame by frame, and what an answerer knows of it.
use Rattle.std.proofs.Common.{◌≡◌, ◌⊎◌, ℕ, ◌≤◌, ◌<◌, Bool, true, false, cond, ◌&&◌, ◌||◌, List, [], ◌∷◌, refl, sym, ap, subst, inl, inr, ◌∙◌, rules}
use Rattle.std.specs.Prelude.{Option, Some, None, unwrap_or, not, nat_eq, nat_le, nat_lt}
use Rattle.std.proofs.lemmas.Bool.{eqb-true}
use Rattle.signals.specs.Signals.{PlainSignal, cfr, fcd, pps, mcf, other}
use Rattle.signals.specs.declared.mark.Mark.{Mark}
use Rattle.signals.specs.declared.signal.PageEnd.{PageEnd}
use Rattle.signals.specs.declared.signal.Side.{Side}
use Rattle.partial_page.specs.Assembling.{Asked}
use Rattle.partial_page.specs.Store.{bit_of, has_frame}
use Rattle.stations.specs.AnswererStep.{Answerer, is_repeated}
use Rattle.stations.specs.declared.turn.AnswererState.TheVariants.{Message}
use Rattle.referee.specs.History.{PlainSaid, look, is_fcd}
use Rattle.referee.specs.Questions.{tell, begins_block, same_end}
use Rattle.referee.specs.declared.question.Question.TheVariants.{Sent, MayHave, SurelyHas, Below, Reaches, OtherMark}

pub clash : {A : Type 0} → true ≡ false → A
clash e = absurd (cc)

pub none_some : {A B : Type 0} (x : A) → None ≡ Some x → B
none_some x e = absurd (cc)

-- ---- what was said

-- the mark of the last PPS of the block under way
abbrev pub mark_by : Bool → PlainSignal → Option Mark → Option Mark
mark_by begun (pps ends page block last) rest = Some (record { page = page; block = block })
mark_by begun signal rest = cond (begins_block begun signal) None rest

abbrev pub last_mark : Bool → List PlainSaid → Option Mark
last_mark begun [] = None
last_mark begun (said ∷ before) = mark_by begun said.signal (last_mark (begun || is_fcd said.signal) before)

-- what was said of each number of the block, and the mark of its last PPS
pub record View : Type 0 where
  pub sent : ℕ → Bool
  pub may : ℕ → Bool
  pub sure : ℕ → Bool
  pub below : ℕ → Bool
  pub reaches : ℕ → Bool
  pub mark : Option Mark

-- of what was said; `begun`: an FCD of the block came since
abbrev pub view : Bool → List PlainSaid → View
view begun before = record {
  sent = λ n. look (tell (Sent n)) begun before;
  may = λ n. look (tell (MayHave n)) begun before;
  sure = λ n. look (tell (SurelyHas n)) begun before;
  below = λ n. look (tell (Below n)) begun before;
  reaches = λ n. look (tell (Reaches n)) begun before;
  mark = last_mark begun before;
}

-- before the first PPS nobody has said that a frame is missing, or that one has come
abbrev pub empty : View
empty = record { sent = λ n. false; may = λ n. false; sure = λ n. false; below = λ n. false; reaches = λ n. false; mark = None }

-- yes, if it is so, else what was told before
abbrev pub or_so : Bool → Bool → Bool
or_so is told = unwrap_or (cond is (Some true) None) told

-- after an FCD
abbrev pub with_fcd : ℕ → View → View
with_fcd k v = record {
  sent = λ n. or_so (nat_eq k n) (v.sent n);
  may = λ n. or_so (nat_eq k n) (v.may n);
  sure = v.sure;
  below = v.below;
  reaches = v.reaches;
  mark = v.mark;
}

-- after a PPS
abbrev pub with_pps : Mark → ℕ → View → View
with_pps mark last v = record {
  sent = v.sent;
  may = v.may;
  sure = v.sure;
  below = λ n. or_so (nat_lt last n) (v.below n);
  reaches = λ n. or_so (nat_le n last) (v.reaches n);
  mark = Some mark;
}

-- after an MCF, before the next FCD
abbrev pub with_mcf : View → View
with_mcf v = record { sent = v.sent; may = λ n. true; sure = λ n. true; below = v.below; reaches = v.reaches; mark = v.mark }

-- after a PPR
abbrev pub with_ppr : List ℕ → View → View
with_ppr marks v = record {
  sent = v.sent;
  may = λ n. not (bit_of marks n);
  sure = λ n. not (bit_of marks n);
  below = v.below;
  reaches = v.reaches;
  mark = v.mark;
}

-- ---- what an answerer knows of it

-- what holds of an answerer and of what was said of the block under way
pub record Fits (s : Answerer) (v : View) : Type 0 where
  -- a frame that it has may have come, unless it wasn't sent in the block or is beyond it
  pub came : (n : ℕ) → has_frame s.frames n ≡ true → v.sent n ≡ true → v.below n ≡ false → v.may n ≡ true
  -- before the first PPS no frame is told as missing, and none as come
  pub new_came : v.mark ≡ None → (n : ℕ) → v.sent n ≡ true → v.may n ≡ true
  pub new_none : v.mark ≡ None → (n : ℕ) → v.sure n ≡ false
  -- a frame that a PPS counts was sent, and one that no PPS counts is beyond the block
  pub counted : (n : ℕ) → n < 256 → v.reaches n ≡ true → v.sent n ≡ true
  pub beyond : (m : Mark) → v.mark ≡ Some m → (n : ℕ) → v.reaches n ≡ false → v.below n ≡ true
  -- each frame of the block that was accepted last may have come
  pub whole : (m : Mark) → v.mark ≡ Some m → is_repeated s.accepted m ≡ true → (n : ℕ) → n < 256 → v.reaches n ≡ true → v.below n ≡ false →
      v.may n ≡ true
  -- frames were asked for of this block, which isn't accepted, and all numbers up to the last one were counted
  pub asked : (k : Asked) → s.asked ≡ Some k →
      (v.mark ≡ Some k.mark) × ((n : ℕ) → n ≤ k.last → v.reaches n ≡ true) × (is_repeated s.accepted k.mark ≡ false) × (k.last < 256)
  -- a frame that was told as come is there, until the block is accepted
  pub sure : s.state ≡ Message → (m : Mark) → v.mark ≡ Some m → is_repeated s.accepted m ≡ false → (n : ℕ) → n < 256 → v.sure n ≡ true →
      has_frame s.frames n ≡ true

pub fits_empty : (s : Answerer) → s.asked ≡ None → Fits s empty
fits_empty s none = record {
  came = λ n has sent below. clash (sym sent);
  new_came = λ m n sent. clash (sym sent);
  new_none = λ m n. refl;
  counted = λ n within reaches. clash (sym reaches);
  beyond = λ m is. none_some m is;
  whole = λ m is. none_some m is;
  asked = λ k is. none_some k (sym none ∙ is);
  sure = λ message m is. none_some m is;
}

-- ---- the caller's frames

so_right : (b x : Bool) → x ≡ true → or_so b x ≡ true
so_right true x h = refl
so_right false x h = h

so_both : (b x y : Bool) → (x ≡ true → y ≡ true) → or_so b x ≡ true → or_so b y ≡ true
so_both true x y f h = refl
so_both false x y f h = f h

so_none : (b x : Bool) → or_so b x ≡ false → (b ≡ false) × (x ≡ false)
so_none true x h = clash h
so_none false x h = (refl, h)

so_cases : (b x : Bool) → or_so b x ≡ true → (b ≡ true) ⊎ (x ≡ true)
so_cases true x h = inl refl
so_cases false x h = inr h

pub fcd_fits : (s : Answerer) (k : ℕ) (v : View) → Fits s v → Fits s (with_fcd k v)
fcd_fits s k v h = record {
  came = λ n has sent below. so_both (nat_eq k n) (v.sent n) (v.may n) (λ there. h.came n has there below) sent;
  new_came = λ is n sent. so_both (nat_eq k n) (v.sent n) (v.may n) (λ there. h.new_came is n there) sent;
  new_none = h.new_none;
  counted = λ n within reaches. so_right (nat_eq k n) (v.sent n) (h.counted n within reaches);
  beyond = h.beyond;
  whole = λ m is repeated n within reaches below. so_right (nat_eq k n) (v.may n) (h.whole m is repeated n within reaches below);
  asked = h.asked;
  sure = h.sure;
}

some_is : {A : Type 0} (x y : A) → Some x ≡ Some y → x ≡ y
some_is x y e = cc

pub pps_fits : (s : Answerer) (mark : Mark) (last : ℕ) (v : View) → ((m : Mark) → v.mark ≡ Some m → m ≡ mark) →
    ((n : ℕ) → n < 256 → nat_le n last ≡ true → v.sent n ≡ true) → Fits s v → Fits s (with_pps mark last v)
pps_fits s mark last v same sent h = record {
  came = λ n has there below. h.came n has there (so_none (nat_lt last n) (v.below n) below).1;
  new_came = λ is. none_some mark (sym is);
  new_none = λ is. none_some mark (sym is);
  counted = counted_then;
  beyond = beyond_then;
  whole = λ m is repeated n within reaches below.
      whole_then v.mark refl n within reaches below (subst (λ o. is_repeated s.accepted o ≡ true) (sym (some_is mark m is)) repeated);
  asked = λ k is.
      let a = h.asked k is in (
        ap Some (sym (same k.mark a.0)),
        λ n below. so_right (nat_le n last) (v.reaches n) (a.1 n below),
        a.2,
        a.3,
      );
  sure = λ message m is new n within told.
      sure_then v.mark refl message (subst (λ o. is_repeated s.accepted o ≡ false) (sym (some_is mark m is)) new) n within told;
}
  where
    counted_then : (n : ℕ) → n < 256 → or_so (nat_le n last) (v.reaches n) ≡ true → v.sent n ≡ true
    counted_then n within reaches = at (so_cases (nat_le n last) (v.reaches n) reaches)
      where
        at : (nat_le n last ≡ true) ⊎ (v.reaches n ≡ true) → v.sent n ≡ true
        at (inl low) = sent n within low
        at (inr old) = h.counted n within old

    beyond_then : (m : Mark) → Some mark ≡ Some m → (n : ℕ) → or_so (nat_le n last) (v.reaches n) ≡ false → or_so (nat_lt last n) (v.below n) ≡ true
    beyond_then m is n none = rw (above n (so_none (nat_le n last) (v.reaches n) none).0) refl
      where
        above : (n : ℕ) → nat_le n last ≡ false → nat_lt last n ≡ true
        above n e = search rules

    whole_then : (o : Option Mark) → v.mark ≡ o → (n : ℕ) → n < 256 → or_so (nat_le n last) (v.reaches n) ≡ true →
        or_so (nat_lt last n) (v.below n) ≡ false → is_repeated s.accepted mark ≡ true → v.may n ≡ true
    whole_then None there n within reaches below repeated = h.new_came there n (counted_then n within reaches)
    whole_then (Some m) there n within reaches below repeated = at (v.reaches n) refl
      where
        low : v.below n ≡ false
        low = (so_none (nat_lt last n) (v.below n) below).1

        at : (b : Bool) → v.reaches n ≡ b → v.may n ≡ true
        at true is =
            h.whole m there (subst (λ k. is_repeated s.accepted k ≡ true) (sym (same m there)) repeated) n within is low
        at false is = clash (sym (h.beyond m there n is) ∙ low)

    sure_then : (o : Option Mark) → v.mark ≡ o → s.state ≡ Message → is_repeated s.accepted mark ≡ false → (n : ℕ) → n < 256 → v.sure n ≡ true →
        has_frame s.frames n ≡ true
    sure_then None there message new n within told = clash (sym told ∙ h.new_none there n)
    sure_then (Some m) there message new n within told =
        h.sure message m there (subst (λ k. is_repeated s.accepted k ≡ false) (sym (same m there)) new) n within told

-- ---- the answerer's frames

-- after the MCF to the block that was accepted last
pub mcf_fits : (s : Answerer) (mark : Mark) (v : View) → v.mark ≡ Some mark → is_repeated s.accepted mark ≡ true → s.asked ≡ None → Fits s v →
    Fits s (with_mcf v)
mcf_fits s mark v there repeated none h = record {
  came = λ n has sent below. refl;
  new_came = λ is n sent. refl;
  new_none = λ is. none_some mark (sym is ∙ there);
  counted = h.counted;
  beyond = h.beyond;
  whole = λ m is again n within reaches below. refl;
  asked = λ k is. none_some k (sym none ∙ is);
  sure = λ message m is new.
      clash (sym repeated ∙ subst (λ o. is_repeated s.accepted o ≡ false) (sym (some_is mark m (sym there ∙ is))) new);
}

-- after a PPR to a block that isn't accepted
pub ppr_fits : (s : Answerer) (k : Asked) (marks : List ℕ) (v : View) → v.mark ≡ Some k.mark → is_repeated s.accepted k.mark ≡ false →
    ((n : ℕ) → n ≤ k.last → v.reaches n ≡ true) → k.last < 256 →
    ((n : ℕ) → has_frame s.frames n ≡ true → v.below n ≡ false → bit_of marks n ≡ false) →
    ((n : ℕ) → n < 256 → bit_of marks n ≡ false → has_frame s.frames n ≡ true) → Fits s v →
    Fits (record s { asked = Some k }) (with_ppr marks v)
ppr_fits s k marks v there new reached few tells has h = record {
  came = λ n is sent below. ap not (tells n is below);
  new_came = λ is. none_some k.mark (sym is ∙ there);
  new_none = λ is. none_some k.mark (sym is ∙ there);
  counted = h.counted;
  beyond = h.beyond;
  whole = λ m is again. clash (sym again ∙ subst (λ o. is_repeated s.accepted o ≡ false) (some_is k.mark m (sym there ∙ is)) new);
  asked = λ j is.
      subst (λ (a : Asked). (v.mark ≡ Some a.mark) × ((n : ℕ) → n ≤ a.last → v.reaches n ≡ true) × (is_repeated s.accepted a.mark ≡ false) ×
      (a.last < 256)) (some_is k j is) (there, reached, new, few);
  sure = λ message m is still n within told. has n within (not_so (bit_of marks n) told);
}
  where
    not_so : (b : Bool) → not b ≡ true → b ≡ false
    not_so true e = clash (sym e)
    not_so false e = refl

-- ---- the answerer's own steps

-- it has no frames more; in the message it has none less, and was in the message before
pub fits_less : (s next : Answerer) (v : View) → next.accepted ≡ s.accepted →
    ((n : ℕ) → has_frame next.frames n ≡ true → has_frame s.frames n ≡ true) → ((k : Asked) → next.asked ≡ Some k → s.asked ≡ Some k) →
    (next.state ≡ Message → (s.state ≡ Message) × ((n : ℕ) → has_frame s.frames n ≡ true → has_frame next.frames n ≡ true)) → Fits s v → Fits next v
fits_less s next v accepted fewer asked stays h = record {
  came = λ n has. h.came n (fewer n has);
  new_came = h.new_came;
  new_none = h.new_none;
  counted = h.counted;
  beyond = h.beyond;
  whole = λ m is repeated. h.whole m is (subst (λ a. is_repeated a m ≡ true) accepted repeated);
  asked = λ k is.
      let a = h.asked k (asked k is) in (a.0, a.1, subst (λ o. is_repeated o k.mark ≡ false) (sym accepted) a.2, a.3);
  sure = λ message m is new n within told.
      let then = stays message in
      then.1 n (h.sure then.0 m is (subst (λ a. is_repeated a m ≡ false) accepted new) n within told);
}

-- it keeps the frame of an FCD
pub fits_kept : (s next : Answerer) (k : ℕ) (v : View) → next.accepted ≡ s.accepted → next.asked ≡ s.asked → s.state ≡ Message →
    ((n : ℕ) → has_frame next.frames n ≡ true → (nat_eq k n ≡ true) ⊎ (has_frame s.frames n ≡ true)) →
    ((n : ℕ) → has_frame s.frames n ≡ true → has_frame next.frames n ≡ true) → Fits s (with_fcd k v) → Fits next (with_fcd k v)
fits_kept s next k v accepted asked message more stays h = record {
  came = λ n has sent below. at n (more n has) sent below;
  new_came = h.new_came;
  new_none = h.new_none;
  counted = h.counted;
  beyond = h.beyond;
  whole = λ m is repeated. h.whole m is (subst (λ a. is_repeated a m ≡ true) accepted repeated);
  asked = λ j is.
      let a = h.asked j (sym asked ∙ is) in (a.0, a.1, subst (λ o. is_repeated o j.mark ≡ false) (sym accepted) a.2, a.3);
  sure = λ there m is new n within told.
      stays n (h.sure message m is (subst (λ a. is_repeated a m ≡ false) accepted new) n within told);
}
  where
    at : (n : ℕ) → (nat_eq k n ≡ true) ⊎ (has_frame s.frames n ≡ true) → or_so (nat_eq k n) (v.sent n) ≡ true → v.below n ≡ false →
        or_so (nat_eq k n) (v.may n) ≡ true
    at n (inl same) sent below = rw same refl
    at n (inr has) sent below = h.came n has sent below

-- it accepts the block
pub fits_accepted : (s next : Answerer) (mark : Mark) (v : View) → v.mark ≡ Some mark → is_repeated next.accepted mark ≡ true →
    next.asked ≡ None → ((n : ℕ) → has_frame next.frames n ≡ true → ⊥) →
    ((n : ℕ) → n < 256 → v.reaches n ≡ true → v.below n ≡ false → v.may n ≡ true) → Fits s v → Fits next v
fits_accepted s next mark v there repeated none clear whole h = record {
  came = λ n has. absurd (clear n has);
  new_came = h.new_came;
  new_none = h.new_none;
  counted = h.counted;
  beyond = h.beyond;
  whole = λ m is again. whole;
  asked = λ k is. none_some k (sym none ∙ is);
  sure = λ message m is new.
      clash (sym repeated ∙ subst (λ o. is_repeated next.accepted o ≡ false) (sym (some_is mark m (sym there ∙ is))) new);
}

-- ---- the mark of a repeated PPS

module _ (ends : PageEnd) (page block : ℕ) (m : Mark) where
  abbrev Same : Type 0
  Same = m ≡ record { page = page; block = block }

  abbrev RestSame : List PlainSaid → Bool → Type 0
  RestSame before b = last_mark b before ≡ Some m → look (tell (OtherMark ends page block)) b before ≡ false → Same

  unless_begun : (before : List PlainSaid) (c b : Bool) → RestSame before b → cond c None (last_mark b before) ≡ Some m →
      unwrap_or (cond c (Some false) None) (look (tell (OtherMark ends page block)) b before) ≡ false → Same
  unless_begun before true b rest is none = none_some m is
  unless_begun before false b rest is none = rest is none

  abbrev counts : ℕ → ℕ → Mark
  counts p b = record { page = p; block = b }

  equal_counts : (x y z : Bool) (p b : ℕ) → nat_eq p page ≡ y → nat_eq b block ≡ z → not (x && (y && z)) ≡ false →
      counts p b ≡ counts page block
  equal_counts false y z p b first second e = clash e
  equal_counts true false z p b first second e = clash e
  equal_counts true true false p b first second e = clash e
  equal_counts true true true p b first second e = ap (λ k. counts k b) (eqb-true p page first) ∙ ap (counts page) (eqb-true b block second)

  same_counts : (e : PageEnd) (p b : ℕ) → counts p b ≡ m → not (same_end e ends && (nat_eq p page && nat_eq b block)) ≡ false → Same
  same_counts e p b is differs = sym is ∙ equal_counts (same_end e ends) (nat_eq p page) (nat_eq b block) p b refl refl differs

  said_same : (before : List PlainSaid) (by : Side) (begun : Bool) (signal : PlainSignal) → ((b : Bool) → RestSame before b) →
      RestSame (record { by = by; signal = signal } ∷ before) begun
  said_same before by begun (pps e p b last) rest is none = same_counts e p b (some_is (record { page = p; block = b }) m is) none
  said_same before by begun mcf rest is none = unless_begun before begun (begun || false) (rest (begun || false)) is none
  said_same before by begun cfr rest is none = none_some m is
  said_same before by begun (other octet) rest is none =
      unless_begun before (begins_block begun (other octet)) (begun || false) (rest (begun || false)) is none
  said_same before by begun (fcd number octets) rest is none = rest (begun || true) is none
  said_same before by begun signal rest is none = rest (begun || false) is none

-- a PPS that has no other mark than the last one of its block has the same
pub same_marks : (ends : PageEnd) (page block : ℕ) (before : List PlainSaid) (begun : Bool) (m : Mark) → last_mark begun before ≡ Some m →
    look (tell (OtherMark ends page block)) begun before ≡ false → m ≡ record { page = page; block = block }
same_marks ends page block [] begun m there none = none_some m there
same_marks ends page block (said ∷ before) begun m there none =
    said_same ends page block m before said.by begun said.signal (λ b. same_marks ends page block before b m) there none

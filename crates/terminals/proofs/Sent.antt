-- Flags, items and bursts as the bits that are sent.
use Rattle.std.proofs.Common.{◌≡◌, ◌↔◌, ℕ, zero, suc, ◌+◌, ◌*◌, Bool, false, List, [], ◌∷◌, ◌++◌, Option, Some, None, drop, length}
use Rattle.std.proofs.Common.{replicate, refl, ap}
use Rattle.std.proofs.Common.{sym, ◌∙◌, subst, arith, append_assoc}
use Rattle.std.specs.Prelude.{IsTrue}
use Rattle.std.proofs.lemmas.List.{append-nil, replicate-append-replicate}
use Rattle.raster.specs.Packed.{Bits, FillsOctets}
use Rattle.raster.specs.declared.packed.Order.TheVariants.{LsbFirst}
use Rattle.run_tables.specs.Written.{Appends}
use Rattle.hdlc.specs.Flags.{flag}
use Rattle.signals.specs.declared.signal.Side.{Side}
use Rattle.stations.specs.Bursts.{PlainBurst, BurstLeft, GivesBurstItem, items_of}
use Rattle.stations.specs.GivenBursts.{GivesBurst}
use Rattle.stations.specs.Inputs.{PlainItem}
use Rattle.stations.specs.Lending.{plain_item, TellsLast}
use Rattle.stations.specs.declared.bursts.Burst.{Burst}
use Rattle.stations.specs.declared.lending.Item.{Item}
use Rattle.terminals.specs.Sending.{idle, AreBitsOf, AreBits, IsSent}
use Rattle.terminals.specs.Timing.{flags_before, flags_after}
use Rattle.terminals.specs.Watching.{SawFirst, SawItem, SawItems, SeesSaid}
use Rattle.terminals.specs.declared.sending.SentBurst.{SentBurst}

-- ---- bits that are appended one after the other

pub appends_both : (a b c : Bits) (xs ys : List Bool) → Appends xs a b → Appends ys b c → Appends (xs ++ ys) a c
appends_both a b c xs ys p q =
    q ∙ (ap (λ (w : Bits). record w { bits = w.bits ++ ys }) p ∙
    ap (λ (l : List Bool). record a { bits = l }) (append_assoc a.bits xs ys))

pub appends_none : (a : Bits) → Appends [] a a
appends_none a = ap (λ (l : List Bool). record a { bits = l }) (sym (append-nil a.bits))

idle-more : (n : ℕ) → idle n ++ flag ≡ idle (suc n)
idle-more zero = refl
idle-more (suc n) = append_assoc flag (idle n) flag ∙ ap (λ l. flag ++ l) (idle-more n)

pub one_flag : (start now next : Bits) (n : ℕ) → Appends (idle n) start now → Appends flag now next → Appends (idle (n + 1)) start next
one_flag start now next n p q =
    let e : suc n ≡ n + 1 = omega arith in
    subst (λ l. Appends l start next) (idle-more n ∙ ap idle e) (appends_both start now next (idle n) flag p q)

pub one_octet : (start now next : Bits) (n : ℕ) →
    Appends (replicate (8 * n) false) start now → Appends (replicate 8 false) now next → Appends (replicate (8 * (n + 1)) false) start next
one_octet start now next n p q =
    let e : 8 * n + 8 ≡ 8 * (n + 1) = omega arith in
    subst (λ l. Appends l start next) (replicate-append-replicate (8 * n) 8 false ∙ ap (λ k. replicate k false) e)
    (appends_both start now next (replicate (8 * n) false) (replicate 8 false) p q)

-- ---- items

-- The bits of some items were written, and with those of the items that are left they are those of all.
pub record ItemsLeft (side : Side) (all left : BurstLeft) (start now : Bits) : Type 0 where
  pub written : List Bool
  pub is : Appends written start now
  pub rest : (tail : List Bool) → AreBits side left.burst left.after tail → AreBits side all.burst all.after (written ++ tail)

pub none_written : (side : Side) (all : BurstLeft) (start : Bits) → ItemsLeft side all all start start
none_written side all start = record { written = []; is = appends_none start; rest = λ tail t. t }

before_rest : (side : Side) (left new : BurstLeft) (item : PlainItem) (front tail : List Bool) →
    left.burst ≡ item ∷ new.burst → new.after ≡ left.after → AreBitsOf side item (new.burst ++ new.after) front →
    AreBits side new.burst new.after tail → AreBits side left.burst left.after (front ++ tail)
before_rest side left new item front tail first after are t =
    subst (λ b. AreBits side b left.after (front ++ tail)) (sym first)
    (subst (λ l. AreBits side (item ∷ new.burst) l (front ++ tail)) after (front, tail, are, t, refl))

pub next_written : (side : Side) (all left new : BurstLeft) (start now next : Bits) (item : Item) →
    ItemsLeft side all left start now → GivesBurstItem left (Some item) new →
    ((following : List PlainItem) → TellsLast item following →
    (bits : List Bool) × AreBitsOf side (plain_item item) following bits × Appends bits now next) →
    ItemsLeft side all new start next
next_written side all left new start now next item h gives writes =
    let one = writes (new.burst ++ new.after) gives.2 in
    record {
      written = h.written ++ one.0;
      is = appends_both start now next h.written one.0 h.is one.2;
      rest = λ tail t.
          subst (AreBits side all.burst all.after) (sym (append_assoc h.written one.0 tail))
          (h.rest (one.0 ++ tail) (before_rest side left new (plain_item item) one.0 tail gives.0 gives.1 one.1 t));
    }

pub all_written : (side : Side) (all left : BurstLeft) (start now : Bits) → left.burst ≡ [] → ItemsLeft side all left start now →
    (bits : List Bool) × AreBits side all.burst all.after bits × Appends bits start now
all_written side all left start now none h =
    let ended : AreBits side left.burst left.after [] = subst (λ b. AreBits side b left.after []) (sym none) refl in
    (h.written, subst (AreBits side all.burst all.after) (append-nil h.written) (h.rest [] ended), h.is)

-- ---- items that are seen

-- what is seen of the items that are left, after those before, is what is seen of all
abbrev pub SeenLeft : {W : Type 0} → SeesSaid W → Side → BurstLeft → BurstLeft → W → W → Type 0
SeenLeft {W} saw side all left start now =
    (end : W) → SawItems saw side left.burst left.after now end → SawItems saw side all.burst all.after start end

pub none_seen : {W : Type 0} (saw : SeesSaid W) (side : Side) (all : BurstLeft) (start : W) → SeenLeft saw side all all start start
none_seen saw side all start = λ end seen. seen

pub next_item_seen : {W : Type 0} (saw : SeesSaid W) (side : Side) (all left new : BurstLeft) (start now next : W) (item : Item) →
    SeenLeft saw side all left start now → GivesBurstItem left (Some item) new →
    ((following : List PlainItem) → TellsLast item following → SawItem saw side (plain_item item) following now next) →
    SeenLeft saw side all new start next
next_item_seen saw side all left new start now next item h gives sees = λ end seen.
    h end
    (subst (λ b. SawItems saw side b left.after now end) (sym gives.0)
    (subst (λ l. SawItems saw side (plain_item item ∷ new.burst) l now end) gives.1 (next, sees (new.burst ++ new.after) gives.2, seen)))

pub all_seen : {W : Type 0} (saw : SeesSaid W) (side : Side) (all left : BurstLeft) (start now : W) → left.burst ≡ [] →
    SeenLeft saw side all left start now → SawItems saw side all.burst all.after start now
all_seen saw side all left start now none h = h now (subst (λ b. SawItems saw side b left.after now now) (sym none) refl)

pub burst_seen : {W : Type 0} (saw : SeesSaid W) (side : Side) (burst : Burst) (old new : W) →
    SawItems saw side burst.items.burst burst.items.after old new → (bursts later : List PlainBurst) → GivesBurst bursts (Some burst) later →
    SawFirst saw side bursts old new
burst_seen {W} saw side burst old new seen bursts later gives =
    subst (λ (b : List PlainBurst). SawFirst saw side b old new) (sym gives.0)
    (subst (λ l. SawItems saw side burst.items.burst l old new) gives.1 seen)

pub none_is_seen : {W : Type 0} (saw : SeesSaid W) (side : Side) (old : W) (bursts later : List PlainBurst) →
    GivesBurst bursts None later → SawFirst saw side bursts old old
none_is_seen saw side old bursts later gives = subst (λ (b : List PlainBurst). SawFirst saw side b old old) (sym gives.0) refl

-- the first burst that is left of a turn, once those before it were passed over
pub left_seen : {W : Type 0} (saw : SeesSaid W) (side sends : Side) (lent left later : List PlainBurst) (given : Option Burst) (taken : ℕ)
    (old new : W) → side ≡ sends → left ≡ drop taken lent → GivesBurst left given later →
    ((bursts rest : List PlainBurst) → GivesBurst bursts given rest → SawFirst saw side bursts old new) →
    SawFirst saw sends (drop taken lent) old new
left_seen saw side sends lent left later given taken old new side_is is gives seen =
    subst (λ (s : Side). SawFirst saw s (drop taken lent) old new) side_is
    (subst (λ (b : List PlainBurst). SawFirst saw side b old new) is (seen left later gives))

-- ---- a burst

pub all_bits : (a b c d : Bits) (before bits after : List Bool) → a.bits ≡ [] → Appends before a b → Appends bits b c → Appends after c d →
    (d.bits ≡ before ++ (bits ++ after)) × (d.order ≡ a.order)
all_bits a b c d before bits after none p q r =
    let all = appends_both a b d before (bits ++ after) p (appends_both b c d bits after q r) in
    (ap (λ (w : Bits). w.bits) all ∙ ap (λ l. l ++ (before ++ (bits ++ after))) none, ap (λ (w : Bits). w.order) all)

-- ---- bursts that are passed over

abbrev the_none : List PlainBurst
the_none = []

drop_none : (n : ℕ) → drop n the_none ≡ the_none
drop_none zero = refl
drop_none (suc n) = refl

pub passed_one : (all : List PlainBurst) (n : ℕ) → drop 1 (drop n all) ≡ drop (n + 1) all
passed_one [] zero = refl
passed_one [] (suc n) = sym (drop_none (suc n + 1))
passed_one (x ∷ all) zero = refl
passed_one (x ∷ all) (suc n) = let e : suc n + 1 ≡ suc (n + 1) = omega arith in passed_one all n ∙ ap (λ k. drop k (x ∷ all)) (sym e)

pub passed : (all old new : List PlainBurst) (n : ℕ) (given : Option Burst) → old ≡ drop n all → GivesBurst old given new →
    new ≡ drop (n + 1) all
passed all old new n None is h =
    let e : drop 1 old ≡ drop (n + 1) all = ap (λ l. drop 1 l) is ∙ passed_one all n in
    h.1 ∙ (ap (λ l. drop 1 l) (sym h.0) ∙ e)
passed all old new n (Some burst) is h =
    let e : drop 1 old ≡ drop (n + 1) all = ap (λ l. drop 1 l) is ∙ passed_one all n in
    ap (λ l. drop 1 l) (sym h.0) ∙ e

-- ---- what is sent

pub sent_so :
    (side : Side) (burst : PlainBurst) (after : List PlainItem) (later : List PlainBurst) (a b c d : Bits) (sent : SentBurst) →
    a.bits ≡ [] → a.order ≡ LsbFirst → Appends (idle (flags_before burst.carrier)) a b →
    ((bits : List Bool) × AreBits side burst.items after bits × Appends bits b c) →
    Appends (idle (flags_after burst.carrier)) c d → sent.carrier ≡ burst.carrier → sent.bits ≡ length d.bits →
    FillsOctets d.order d.bits sent.octets.items → after ≡ items_of later → (IsTrue sent.last ↔ (later ≡ [])) →
    IsSent side burst later sent
sent_so side burst after later a b c d sent none order before items behind carrier count filled after_is last =
    let h = all_bits a b c d (idle (flags_before burst.carrier)) items.0 (idle (flags_after burst.carrier)) none before items.2 behind in
    record {
      bits = items.0;
      are = subst (λ l. AreBits side burst.items l items.0) after_is items.1;
      carrier = carrier;
      count = count ∙ ap (λ (l : List Bool). length l) h.0;
      octets =
          subst (λ l. FillsOctets LsbFirst l sent.octets.items) h.0
          (subst (λ o. FillsOctets o d.bits sent.octets.items) (h.1 ∙ order) filled);
      last = last;
    }

-- A burst as it is sent is heard with each of its frames.
use Rattle.std.proofs.Common.{◌≡◌, ◌≢◌, ◌<◌, ℕ, zero, suc, Bool, false, List, [], ◌∷◌, ◌++◌, map, length, drop, replicate, refl, ap, sym}
use Rattle.std.proofs.Common.{◌∙◌, append_assoc, append-nil, arith}
use Rattle.std.specs.List.{filter}
use Rattle.std.proofs.lemmas.List.{map-append, drop_at}
use Rattle.std.proofs.lemmas.List.Elements.{filter-append}
use Rattle.raster.specs.Laws.{BitsJoin}
use Rattle.raster.specs.Packed.{bits_of}
use Rattle.raster.specs.declared.packed.Order.TheVariants.{LsbFirst}
use Rattle.hdlc.specs.Flags.{flag, flags, gaps}
use Rattle.hdlc.specs.Frames.{IsFrame}
use Rattle.hdlc.specs.Gaps.{class_of, content, good, is_class}
use Rattle.hdlc.specs.Laws.{FlagForgets}
use Rattle.hdlc.specs.declared.counts.Class.TheVariants.{Good}
use Rattle.signals.specs.Writing.{content_of}
use Rattle.signals.specs.declared.params.Speed.{Speed}
use Rattle.signals.specs.declared.params.Speed.TheVariants.{V27At2400, V27At4800, V29At7200, V29At9600, V17At7200, V17At9600, V17At12000}
use Rattle.signals.specs.declared.params.Speed.TheVariants.{V17At14400}
use Rattle.signals.specs.declared.signal.Side.{Side}
use Rattle.stations.specs.Bursts.{PlainBurst, items_of}
use Rattle.stations.specs.Inputs.{PlainItem, framed, checked}
use Rattle.stations.specs.Laws.{Each, SignalsArrive}
use Rattle.stations.specs.Lending.{has_no_frame}
use Rattle.stations.specs.declared.carrier.Carrier.{Carrier}
use Rattle.stations.specs.declared.carrier.Carrier.TheVariants.{V21, Training, Page}
use Rattle.terminals.specs.Hearing.{contents, heard, heard_if, new_contents, said as says}
use Rattle.terminals.specs.Sending.{IsFrameOf, IsSent, idle}
use Rattle.terminals.specs.Timing.{flags_after, flags_before}
use Rattle.terminals.specs.Writable.{AreFrames}
use Rattle.terminals.specs.declared.sending.SentBurst.{SentBurst}
use Rattle.joined_terminals.specs.Octets.{BurstsAreHeard, IsFramed, said_of}

-- what is good of gaps
abbrev kept_gaps : List (List Bool) → List (List ℕ)
kept_gaps gaps = map content (filter (λ gap. is_class Good (class_of gap)) gaps)

kept_both : (xs ys : List (List Bool)) → kept_gaps (xs ++ ys) ≡ kept_gaps xs ++ kept_gaps ys
kept_both xs ys =
    ap (map content) (filter-append (λ gap. is_class Good (class_of gap)) xs ys) ∙
    map-append content (filter (λ gap. is_class Good (class_of gap)) xs) (filter (λ gap. is_class Good (class_of gap)) ys)

module _ (forgets : FlagForgets) where
  -- the good contents before a flag and those after it
  split_at : (before later : List Bool) → good ((before ++ flag) ++ later) ≡ good (before ++ flag) ++ good (flag ++ later)
  split_at before later = ap kept_gaps (forgets before later) ∙ kept_both (gaps (before ++ flag)) (gaps (flag ++ later))

  two_flags : good (flag ++ flag) ≡ []
  unfolding gaps flags
  two_flags = refl

  flag_more : (xs : List Bool) → good (flag ++ (flag ++ xs)) ≡ good (flag ++ xs)
  flag_more xs =
      ap good (sym (append_assoc flag flag xs)) ∙ (split_at flag xs ∙ ap (λ l. l ++ good (flag ++ xs)) two_flags)

  idle_more : (n : ℕ) (xs : List Bool) → good (flag ++ (idle n ++ xs)) ≡ good (flag ++ xs)
  idle_more zero xs = refl
  idle_more (suc n) xs =
      ap (λ l. good (flag ++ l)) (append_assoc flag (idle n) xs) ∙ (flag_more (idle n ++ xs) ∙ idle_more n xs)

  frame_more : (content : List ℕ) (frame : List Bool) (xs : List Bool) → IsFrame content frame →
      good (flag ++ (frame ++ xs)) ≡ content ∷ good (flag ++ xs)
  frame_more content frame xs f =
      let opened : frame ++ xs ≡ flag ++ ((f.body ++ flag) ++ xs) = ap (λ l. l ++ xs) f.is ∙ append_assoc flag (f.body ++ flag) xs in
      let split : frame ++ xs ≡ ((flag ++ f.body) ++ flag) ++ xs =
      ap (λ l. l ++ xs) (f.is ∙ sym (append_assoc flag f.body flag)) in
      let one : good ((flag ++ f.body) ++ flag) ≡ content ∷ [] = ap good (append_assoc flag f.body flag ∙ sym f.is) ∙ f.holds in
      ap (λ l. good (flag ++ l)) opened ∙
      (flag_more ((f.body ++ flag) ++ xs) ∙
      (ap good (sym opened ∙ split) ∙ (split_at (flag ++ f.body) xs ∙ ap (λ l. l ++ good (flag ++ xs)) one)))

-- at least one flag goes before the frames of a burst
first_flag : (carrier : Carrier) → ((speed : Speed) → carrier ≢ Training speed) → (n : ℕ) × (flags_before carrier ≡ suc n)
first_flag V21 not = (36, refl)
first_flag (Page V27At2400) not = (59, refl)
first_flag (Page V27At4800) not = (119, refl)
first_flag (Page V29At7200) not = (179, refl)
first_flag (Page V29At9600) not = (239, refl)
first_flag (Page V17At7200) not = (179, refl)
first_flag (Page V17At9600) not = (239, refl)
first_flag (Page V17At12000) not = (299, refl)
first_flag (Page V17At14400) not = (359, refl)
first_flag (Training speed) not = absurd (not speed refl)

-- few 0 bits after a flag, and a flag after them, have no gap
fill_ends : (n : ℕ) → n < 8 → (good (flag ++ replicate n false) ≡ []) × (good (flag ++ (replicate n false ++ flag)) ≡ [])
unfolding gaps flags
fill_ends zero h = (refl, refl)
fill_ends (suc zero) h = (refl, refl)
fill_ends (suc (suc zero)) h = (refl, refl)
fill_ends (suc (suc (suc zero))) h = (refl, refl)
fill_ends (suc (suc (suc (suc zero)))) h = (refl, refl)
fill_ends (suc (suc (suc (suc (suc zero))))) h = (refl, refl)
fill_ends (suc (suc (suc (suc (suc (suc zero)))))) h = (refl, refl)
fill_ends (suc (suc (suc (suc (suc (suc (suc zero))))))) h = (refl, refl)
fill_ends (suc (suc (suc (suc (suc (suc (suc (suc n)))))))) h = absurd (omega arith)

-- the contents of the frames of items
abbrev contents_by : Side → List PlainItem → List PlainItem → List (List ℕ)
contents_by side [] later = []
contents_by side (framed signal ∷ items) later =
    content_of signal side (has_no_frame (items ++ later)) ∷ contents_by side items later
contents_by side (checked octets ∷ items) later = contents_by side items later

module _ (forgets : FlagForgets) (arrive : SignalsArrive) (side : Side) where
  frames_bring : (items later : List PlainItem) (bits tail : List Bool) → AreFrames side items later bits → Each IsFramed items →
      (good (flag ++ (bits ++ tail)) ≡ contents_by side items later ++ good (flag ++ tail)) ×
      (heard (contents_by side items later) ≡ said_of items)
  frames_bring [] later bits tail are only = (ap (λ l. good (flag ++ (l ++ tail))) are, refl)
  frames_bring (checked octets ∷ items) later bits tail are only = absurd only.0
  frames_bring (framed signal ∷ items) later bits tail are only =
      let front : List Bool = are.0 in
      let rest = frames_bring items later are.1 tail are.3 only.1 in
      let one : IsFrameOf side (has_no_frame (items ++ later)) signal front = are.2 in
      let content : List ℕ = content_of signal side (has_no_frame (items ++ later)) in
      let regrouped : bits ++ tail ≡ front ++ (are.1 ++ tail) = ap (λ l. l ++ tail) are.4 ∙ append_assoc front are.1 tail in (
        ap (λ l. good (flag ++ l)) regrouped ∙
            (frame_more forgets content front (are.1 ++ tail) one.frame ∙ ap (λ l. content ∷ l) rest.0),
        ap (λ r. heard_if r ++ heard (contents_by side items later)) (arrive signal side (has_no_frame (items ++ later)) one.writable) ∙
            ap (λ l. says signal ∷ l) rest.1,
      )

  -- the bits of a burst after a flag
  burst_brings : (burst : PlainBurst) (later : List PlainItem) (bits tail : List Bool) (n : ℕ) → AreFrames side burst.items later bits →
      Each IsFramed burst.items → good (flag ++ tail) ≡ [] →
      good (flag ++ (idle n ++ (bits ++ (idle (flags_after burst.carrier) ++ tail)))) ≡ contents_by side burst.items later
  burst_brings burst later bits tail n are only none =
      idle_more forgets n (bits ++ (idle (flags_after burst.carrier) ++ tail)) ∙
      ((frames_bring burst.items later bits (idle (flags_after burst.carrier) ++ tail) are only).0 ∙
      (ap (λ l. contents_by side burst.items later ++ l) (idle_more forgets (flags_after burst.carrier) tail ∙ none) ∙
      append-nil (contents_by side burst.items later)))

regroup : (f a b c d e m : List Bool) → (a ++ (((f ++ b) ++ (c ++ d)) ++ e)) ++ m ≡ (a ++ f) ++ (b ++ (c ++ (d ++ (e ++ m))))
regroup f a b c d e m = simp append_assoc

sent_so : (first : List Bool) (b c d e : List Bool) → first ≡ flag ++ b → (first ++ (c ++ d)) ++ e ≡ ((flag ++ b) ++ (c ++ d)) ++ e
sent_so first b c d e is = ap (λ l. (l ++ (c ++ d)) ++ e) is

-- the good contents of octets and then those of a burst, with bits at the end that bring none
grows : FlagForgets → SignalsArrive → BitsJoin → (side : Side) (burst : PlainBurst) (later : List PlainBurst) (sent : SentBurst)
    (is : IsSent side burst later sent) (before : List ℕ) → ((speed : Speed) → burst.carrier ≢ Training speed) →
    Each IsFramed burst.items → AreFrames side burst.items (items_of later) is.bits →
    good (bits_of LsbFirst before ++ flag) ≡ good (bits_of LsbFirst before) → (more : List Bool) →
    good (flag ++ (replicate is.octets.fill false ++ more)) ≡ [] →
    good (bits_of LsbFirst (before ++ sent.octets.items) ++ more) ≡
    good (bits_of LsbFirst before) ++ contents_by side burst.items (items_of later)
grows forgets arrive join side burst later sent is before not only are idle_before more none =
    let n = first_flag burst.carrier not in
    let old : List Bool = bits_of LsbFirst before in
    let fill : List Bool = replicate is.octets.fill false in
    let tail : List Bool = fill ++ more in
    let after : List Bool = idle (flags_after burst.carrier) in
    let whole : bits_of LsbFirst sent.octets.items ≡ (idle (flags_before burst.carrier) ++ (is.bits ++ after)) ++ fill = is.octets.filled in
    let all : bits_of LsbFirst (before ++ sent.octets.items) ++ more ≡ (old ++ flag) ++ (idle n.0 ++ (is.bits ++ (after ++ tail))) =
    ap (λ l. l ++ more)
    (join LsbFirst before sent.octets.items ∙
    ap (λ l. old ++ l) (whole ∙ sent_so (idle (flags_before burst.carrier)) (idle n.0) is.bits after fill (ap idle n.1))) ∙
    regroup flag old (idle n.0) is.bits after fill more in
    ap good all ∙
    (split_at forgets old (idle n.0 ++ (is.bits ++ (after ++ tail))) ∙
    (ap (λ l. l ++ good (flag ++ (idle n.0 ++ (is.bits ++ (after ++ tail))))) idle_before ∙
    ap (λ l. good old ++ l) (burst_brings forgets arrive side burst (items_of later) is.bits tail n.0 are only none)))

pub bursts_are_heard : FlagForgets → SignalsArrive → BitsJoin → BurstsAreHeard
unfolding contents new_contents
bursts_are_heard forgets arrive join side burst later sent is before not only are idle_before =
    let ends = fill_ends is.octets.fill is.octets.few in
    let fill : List Bool = replicate is.octets.fill false in
    let old : List Bool = bits_of LsbFirst before in
    let new : List Bool = bits_of LsbFirst (before ++ sent.octets.items) in
    let said : List (List ℕ) = contents_by side burst.items (items_of later) in
    let now : good new ≡ good old ++ said =
    ap good (sym (append-nil new)) ∙
    grows forgets arrive join side burst later sent is before not only are idle_before [] (ap (λ l. good (flag ++ l)) (append-nil fill) ∙ ends.0) in
    let closed : good (new ++ flag) ≡ good old ++ said =
    grows forgets arrive join side burst later sent is before not only are idle_before flag ends.1 in (
      ap (λ l. heard (drop (length (good old)) l)) now ∙
          (ap heard (drop_at (good old) said (length (good old)) refl) ∙
          (frames_bring forgets arrive side burst.items (items_of later) is.bits [] are only).1),
      closed ∙ sym now,
    )

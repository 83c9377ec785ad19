-- The bits of an open gap while octets come four at a time.
use Rattle.std.proofs.Common.{◌≡◌, ℕ, ◌+◌, ◌-◌, ◌*◌, ◌/◌, ◌%◌, ◌^◌, ◌<◌, ◌≤◌, Bool, true, false, ◌||◌, List, [], ◌∷◌, ◌++◌}
use Rattle.std.proofs.Common.{length, take, drop, min, refl, ap, get_or, sym, ◌∙◌, arith, nat_lt, append_assoc, subst}
use Rattle.std.proofs.Math.Nat.{div-lt_iff_lt-mul}
use Rattle.std.proofs.Math.Pow.{pow_mono}
use Rattle.std.specs.Prelude.{Result, Ok, Err, OnOk, OnErr}
use Rattle.std.specs.Result.{is_ok}
use Rattle.std.proofs.lemmas.List.{append-nil, length-append, length-drop, length-take, length-take-le, take-append-drop, take-append-le}
use Rattle.std.proofs.lemmas.List.{take_all, drop_at}
use Rattle.std.proofs.lemmas.Nat.{div-add-mod', shr-shr, pow-add, pow_pos}
use Rattle.std.proofs.lemmas.Bool.{lt-ltb, le-ltb}
use Rattle.raster.specs.Octets.{number, octets_of}
use Rattle.hdlc.specs.declared.gap.Gap.{Gap}
use Rattle.hdlc.specs.declared.gathering.Gathering.{Gathering}
use Rattle.hdlc.specs.declared.octet_buffer.OctetBuffer.{OctetBuffer}
use Rattle.hdlc.specs.Collects.{Collects}
use Rattle.hdlc.specs.EightBits.{unstuffed_from, six_from, ones_at_end}
use Rattle.hdlc.specs.Gaps.{unstuffed}
use Rattle.hdlc.specs.Gathers.{Gathers, Keeps}
use Rattle.hdlc.specs.OpenGap.{recent}
use Rattle.hdlc.proofs.AssemblingOctets.{number_drop, octets_of-eight, octets_of-few, tail_is, window_more}
use Rattle.raster.specs.Packed.{bits_of}
use Rattle.raster.specs.declared.packed.Order.TheVariants.{LsbFirst}
use Rattle.raster.proofs.OctetBits.{octet_bits}
use Rattle.raster.proofs.PackedLemmas.{length-bits_in}
use Rattle.hdlc.proofs.BitPlaces.{bits_of-one}
use Rattle.hdlc.proofs.QuietRuns.{joined, take_next}
use Rattle.hdlc.proofs.CollectingOctets.{unstuffed_few, end_same, ones_run, six_run, unstuffed_run}
use Rattle.hdlc.proofs.Flags.{length-recent}
use Rattle.hdlc.proofs.PendingLemmas.{joined_fits, register, register_kept}
use Rattle.hdlc.proofs.UnstuffedLemmas.{number-append, number_fits, ones}

-- ---- what a call answered

pub on_ok : {T E P : Type 0} (r : Result T E) → is_ok r ≡ true → OnOk r P → P
on_ok (Ok x) e h = h
on_ok (Err x) e h = cc

pub on_err : {T E P : Type 0} (r : Result T E) → is_ok r ≡ false → OnErr r P → P
on_err (Ok x) e h = cc
on_err (Err x) e h = h

-- ---- whole octets

octets_of-whole : (front eight : List Bool) → length front % 8 ≡ 0 → length eight ≡ 8
    → octets_of (front ++ eight) ≡ octets_of front ++ number eight ∷ []
octets_of-whole front eight even size =
    let n : 8 - length front % 8 ≡ 8 = omega arith in
    octets_of-eight front eight (omega arith) (omega arith)
    ∙ (ap (λ k. octets_of front ++ number (take 8 (drop k (recent false front ++ eight))) ∷ []) n
    ∙ (ap (λ xs. octets_of front ++ number (take 8 xs) ∷ []) (drop_at (recent false front) eight 8 (length-recent false front))
    ∙ ap (λ xs. octets_of front ++ number xs ∷ []) (take_all 8 eight (omega arith))))

even_more : (front eight : List Bool) → length front % 8 ≡ 0 → length eight ≡ 8 → length (front ++ eight) % 8 ≡ 0
even_more front eight even size = let sum : length (front ++ eight) ≡ length front + length eight = length-append front eight in omega arith

-- there is room for an octet
pub keeps_room : (items : List ℕ) (more : Bool) (front eight : List Bool) (octet : ℕ) → Keeps items more front → length eight ≡ 8
    → number eight ≡ octet → length items < 302 → Keeps (items ++ octet ∷ []) more (front ++ eight)
keeps_room items more front eight octet old size is few =
    let all : octets_of (front ++ eight) ≡ octets_of front ++ octet ∷ [] =
    octets_of-whole front eight old.even size ∙ ap (λ o. octets_of front ++ o ∷ []) is in
    let kept : length (take 302 (octets_of front)) < 302 = rw (← old.whole) few in
    let room : length (octets_of front) < 302 = omega (arith, length-take 302 (octets_of front)) in
    let count : length (octets_of front ++ octet ∷ []) ≡ length (octets_of front) + 1 = length-append (octets_of front) (octet ∷ []) in
    record {
      even = even_more front eight old.even size;
      whole =
          ap (λ xs. xs ++ octet ∷ []) (old.whole ∙ take_all 302 (octets_of front) (omega arith))
          ∙ (sym all ∙ sym (take_all 302 (octets_of (front ++ eight)) (rw all (omega arith))));
      long =
          old.long ∙ (le-ltb 302 (length (octets_of front)) (omega arith)
          ∙ sym (le-ltb 302 (length (octets_of (front ++ eight))) (rw all (omega arith))));
    }

-- there is none
pub keeps_full : (items : List ℕ) (more : Bool) (front eight : List Bool) → Keeps items more front → length eight ≡ 8
    → length items ≡ 302 → Keeps items true (front ++ eight)
keeps_full items more front eight old size full =
    let all : octets_of (front ++ eight) ≡ octets_of front ++ number eight ∷ [] = octets_of-whole front eight old.even size in
    let kept : length (take 302 (octets_of front)) ≡ 302 = sym (ap length old.whole) ∙ full in
    let room : 302 ≤ length (octets_of front) = omega (arith, length-take 302 (octets_of front)) in
    let count : length (octets_of front ++ number eight ∷ []) ≡ length (octets_of front) + 1 =
    length-append (octets_of front) (number eight ∷ []) in
    record {
      even = even_more front eight old.even size;
      whole = old.whole ∙ (sym (take-append-le 302 (octets_of front) (number eight ∷ []) room) ∙ ap (take 302) (sym all));
      long = sym (lt-ltb 302 (length (octets_of front ++ number eight ∷ [])) (omega arith)) ∙ ap (λ xs. nat_lt 302 (length xs)) (sym all);
    }

-- 32 bits as four octets
pub record Word (word : List Bool) (bits : ℕ) : Type 0 where
  pub a : List Bool
  pub b : List Bool
  pub c : List Bool
  pub d : List Bool
  pub is : word ≡ a ++ (b ++ (c ++ d))
  pub sizes : (length a ≡ 8) × (length b ≡ 8) × (length c ≡ 8) × (length d ≡ 8)
  pub numbers : (number a ≡ bits % 256) × (number b ≡ bits / 256 % 256) × (number c ≡ bits / 65536 % 256) × (number d ≡ bits / 16777216)

split_eight : (xs : List Bool) → 8 ≤ length xs → (length (take 8 xs) ≡ 8) × (length (drop 8 xs) ≡ length xs - 8)
    × (number (take 8 xs) < 256) × (number xs ≡ number (take 8 xs) + number (drop 8 xs) * 256)
split_eight xs h =
    let size : length (take 8 xs) ≡ 8 = length-take-le 8 xs h in (
      size,
      length-drop 8 xs,
      number_fits (take 8 xs) 8 (omega arith),
      ap number (sym (take-append-drop 8 xs)) ∙ number-append (take 8 xs) (drop 8 xs) 8 size,
    )

pub word_parts : (word : List Bool) (bits : ℕ) → length word ≡ 32 → number word ≡ bits → Word word bits
word_parts word bits size is =
    let one = split_eight word (omega arith) in
    let two = split_eight (drop 8 word) (omega (arith, one.1)) in
    let three = split_eight (drop 8 (drop 8 word)) (omega (arith, one.1, two.1)) in
    let last : length (drop 8 (drop 8 (drop 8 word))) ≡ 8 = omega (arith, one.1, two.1, three.1) in
    let low : number (drop 8 (drop 8 (drop 8 word))) < 256 = number_fits (drop 8 (drop 8 (drop 8 word))) 8 (omega arith) in
    record {
      a = take 8 word;
      b = take 8 (drop 8 word);
      c = take 8 (drop 8 (drop 8 word));
      d = drop 8 (drop 8 (drop 8 word));
      is =
          sym (take-append-drop 8 word) ∙ ap (λ r. take 8 word ++ r) (sym (take-append-drop 8 (drop 8 word))
          ∙ ap (λ r. take 8 (drop 8 word) ++ r) (sym (take-append-drop 8 (drop 8 (drop 8 word)))));
      sizes = (one.0, two.0, three.0, last);
      numbers = (
        omega (arith, one.2, one.3),
        omega (arith, one.2, one.3, two.2, two.3),
        omega (arith, one.2, one.3, two.2, two.3, three.2, three.3),
        omega (arith, one.2, one.3, two.2, two.3, three.2, three.3, low),
      );
    }

pub joined_word : (front a b c d : List Bool) → (((front ++ a) ++ b) ++ c) ++ d ≡ front ++ (a ++ (b ++ (c ++ d)))
joined_word front a b c d =
    append_assoc ((front ++ a) ++ b) c d
    ∙ (append_assoc (front ++ a) b (c ++ d) ∙ append_assoc front a (b ++ (c ++ d)))

-- there is room for four octets
pub four_room : (items : List ℕ) (more : Bool) (front word : List Bool) (bits : ℕ) → Keeps items more front → length word ≡ 32
    → number word ≡ bits → length items + 4 ≤ 302
    → Keeps (items ++ bits % 256 ∷ bits / 256 % 256 ∷ bits / 65536 % 256 ∷ bits / 16777216 ∷ []) more (front ++ word)
four_room items more front word bits old size is room =
    let parts : Word word bits = word_parts word bits size is in
    let a : ℕ = bits % 256 in
    let b : ℕ = bits / 256 % 256 in
    let c : ℕ = bits / 65536 % 256 in
    let d : ℕ = bits / 16777216 in
    let n1 : length (items ++ a ∷ []) ≡ length items + 1 = length-append items (a ∷ []) in
    let n2 : length ((items ++ a ∷ []) ++ b ∷ []) ≡ length (items ++ a ∷ []) + 1 = length-append (items ++ a ∷ []) (b ∷ []) in
    let n3 : length (((items ++ a ∷ []) ++ b ∷ []) ++ c ∷ []) ≡ length ((items ++ a ∷ []) ++ b ∷ []) + 1 =
    length-append ((items ++ a ∷ []) ++ b ∷ []) (c ∷ []) in
    let one = keeps_room items more front parts.a a old parts.sizes.0 parts.numbers.0 (omega arith) in
    let two = keeps_room (items ++ a ∷ []) more (front ++ parts.a) parts.b b one parts.sizes.1 parts.numbers.1 (omega arith) in
    let three = keeps_room ((items ++ a ∷ []) ++ b ∷ []) more ((front ++ parts.a) ++ parts.b) parts.c c two parts.sizes.2 parts.numbers.2
    (omega arith) in
    let four = keeps_room (((items ++ a ∷ []) ++ b ∷ []) ++ c ∷ []) more (((front ++ parts.a) ++ parts.b) ++ parts.c) parts.d d three
    parts.sizes.3 parts.numbers.3 (omega arith) in
    let list : (((items ++ a ∷ []) ++ b ∷ []) ++ c ∷ []) ++ d ∷ [] ≡ items ++ a ∷ b ∷ c ∷ d ∷ [] =
    append_assoc ((items ++ a ∷ []) ++ b ∷ []) (c ∷ []) (d ∷ []) ∙ (append_assoc (items ++ a ∷ []) (b ∷ []) (c ∷ d ∷ [])
    ∙ append_assoc items (a ∷ []) (b ∷ c ∷ d ∷ [])) in
    subst (λ xs. Keeps xs more (front ++ word)) list
    (subst (Keeps ((((items ++ a ∷ []) ++ b ∷ []) ++ c ∷ []) ++ d ∷ []) more)
    (joined_word front parts.a parts.b parts.c parts.d ∙ ap (λ w. front ++ w) (sym parts.is)) four)

-- ---- bits move into the buffer

cancel : (t d r n : ℕ) → t + d ≡ n → d + r ≡ n → t ≡ r
cancel t d r n one two = omega arith

number_take : (xs : List Bool) (n : ℕ) → n ≤ length xs → number (take n xs) ≡ number xs % 2 ^ n
number_take xs n h =
    let rest : ℕ = number (drop n xs) * 2 ^ n in
    let whole : number (take n xs) + rest ≡ number xs =
    sym (ap number (sym (take-append-drop n xs)) ∙ number-append (take n xs) (drop n xs) n (length-take-le n xs h)) in
    let same : rest + number xs % 2 ^ n ≡ number xs =
    ap (λ k. k * 2 ^ n + number xs % 2 ^ n) (number_drop xs n h) ∙ div-add-mod' (number xs) (2 ^ n) in
    cancel (number (take n xs)) rest (number xs % 2 ^ n) (number xs) whole same

pub moved_out : (a new : OctetBuffer) (g h : Gathering) (gap : List Bool) (n : ℕ) → Gathers a g gap → n ≤ g.part
    → h.part ≡ g.part - n → h.bits ≡ g.bits / 2 ^ n → h.bits * 256 + h.last ≡ (g.bits * 256 + g.last) / 2 ^ n → h.row ≡ g.row
    → h.aborted ≡ g.aborted
    → ((front word : List Bool) → length word ≡ n → number word ≡ g.bits % 2 ^ n → Keeps a.whole.items a.long front
    → Keeps new.whole.items new.long (front ++ word))
    → Gathers new h gap
moved_out a new g h gap n old few part bits register_ row aborted moves =
    let size : n ≤ length old.back = rw old.part few in
    let all : (n + (g.part - n)) ≡ g.part = omega arith in
    let value : number old.back ≡ g.bits = old.bits in
    record {
      front = old.front ++ take n old.back;
      back = drop n old.back;
      is =
          old.is ∙ (ap (λ r. old.front ++ r) (sym (take-append-drop n old.back))
          ∙ sym (append_assoc old.front (take n old.back) (drop n old.back)));
      keeps =
          moves old.front (take n old.back) (length-take-le n old.back size)
          (number_take old.back n size ∙ ap (λ m. m % 2 ^ n) value) old.keeps;
      part = length-drop n old.back ∙ (ap (λ m. m - n) old.part ∙ sym part);
      bits = number_drop old.back n size ∙ (ap (λ m. m / 2 ^ n) value ∙ sym bits);
      window =
          ap (λ m. m / 2 ^ h.part % 256) register_
          ∙ (ap (λ k. (g.bits * 256 + g.last) / 2 ^ n / 2 ^ k % 256) part
          ∙ (ap (λ m. m % 256) (shr-shr (g.bits * 256 + g.last) n (g.part - n) ∙ ap (λ k. (g.bits * 256 + g.last) / 2 ^ k) all)
          ∙ old.window));
      row = row ∙ old.row;
      aborted = aborted ∙ old.aborted;
    }

pub out_fits : (n p b : ℕ) → n ≤ p → b < 2 ^ p → b / 2 ^ n < 2 ^ (p - n)
out_fits n p b few fits =
    let sum : p ≡ (p - n) + n = omega arith in
    (div-lt_iff_lt-mul (pow_pos n)).1 (subst (λ m. b < m) (ap (λ k. 2 ^ k) sum ∙ pow-add 2 (p - n) n) fits)

-- ---- bits come

pub left_few : (n octet : ℕ) → length (unstuffed_from n (bits_of LsbFirst (octet ∷ []))) ≤ 8
left_few n octet = rw bits_of-one (unstuffed_few n (octet_bits octet))

pub take_four : (os : List ℕ) (at : ℕ) → at + 4 ≤ length os → take 4 (drop at os)
    ≡ get_or os at 0 ∷ get_or os (at + 1) 0 ∷ get_or os (at + 2) 0 ∷ get_or os (at + 3) 0 ∷ []
take_four os at h =
    let g : ℕ → ℕ = λ k. get_or os k 0 in
    take_next os at (at + 1) 3 (omega arith) (omega arith) ∙ ap (λ r. g at ∷ r)
    (take_next os (at + 1) (at + 2) 2 (omega arith) (omega arith) ∙ ap (λ r. g (at + 1) ∷ r)
    (take_next os (at + 2) (at + 3) 1 (omega arith) (omega arith) ∙ ap (λ r. g (at + 2) ∷ r)
    (take_next os (at + 3) (at + 4) 0 (omega arith) (omega arith))))

pub four_joined : (gap : List Bool) (a b c d : ℕ)
    → (((gap ++ bits_of LsbFirst (a ∷ [])) ++ bits_of LsbFirst (b ∷ [])) ++ bits_of LsbFirst (c ∷ [])) ++ bits_of LsbFirst (d ∷ [])
    ≡ gap ++ bits_of LsbFirst (a ∷ b ∷ c ∷ d ∷ [])
four_joined gap a b c d =
    joined ((gap ++ bits_of LsbFirst (a ∷ [])) ++ bits_of LsbFirst (b ∷ [])) c (d ∷ [])
    ∙ (joined (gap ++ bits_of LsbFirst (a ∷ [])) b (c ∷ d ∷ []) ∙ joined gap a (b ∷ c ∷ d ∷ []))

cut64 : (b m n : ℕ) → b + m < n → n ≤ 2 ^ 63 → (b + m % 2 ^ 64) % 2 ^ 64 ≡ b + m
cut64 b m n few most = omega arith

pub moved_wide : (p c b v : ℕ) → p ≤ 55 → c ≤ 8 → b < 2 ^ p → v < 2 ^ c → (b + v * 2 ^ p % 2 ^ 64) % 2 ^ 64 ≡ b + v * 2 ^ p
moved_wide p c b v few eight fits small =
    cut64 b (v * 2 ^ p) (2 ^ (p + c)) (joined_fits p c b v fits small) (pow_mono {j = 63} (omega arith))

pub moved_word : (p b v : ℕ) → p < 32 → b < 2 ^ p → v < 4294967296 → (b + v * 2 ^ p % 2 ^ 64) % 2 ^ 64 ≡ b + v * 2 ^ p
moved_word p b v few fits small =
    cut64 b (v * 2 ^ p) (2 ^ (p + 32)) (joined_fits p 32 b v fits small) (pow_mono {j = 63} (omega arith))

pub with_bits : (a : OctetBuffer) (g h : Gathering) (gap come : List Bool) → Gathers a g gap → g.bits < 2 ^ g.part → g.last < 256
    → h.bits ≡ g.bits + number (unstuffed_from (min 5 (g.row / 256)) come) * 2 ^ g.part
    → h.part ≡ g.part + length (unstuffed_from (min 5 (g.row / 256)) come) → h.last ≡ g.last
    → h.row ≡ min 6 (ones_at_end (g.row / 256) come) * 256 → h.aborted ≡ (g.aborted || six_from (min 5 (g.row / 256)) come)
    → Gathers a h (gap ++ come)
with_bits a g h gap come old fits small bits part last row aborted =
    let n : ℕ = g.row / 256 in
    let is : n ≡ min 6 (ones gap) = omega (arith, old.row) in
    let five : min 5 n ≡ min 5 (ones gap) = omega arith in
    let more : List Bool = unstuffed_from (min 5 n) come in
    let run : unstuffed (gap ++ come) ≡ unstuffed gap ++ more = unstuffed_run gap come (min 5 n) five in
    let size : length (old.back ++ more) ≡ length old.back + length more = length-append old.back more in
    record {
      front = old.front;
      back = old.back ++ more;
      is = run ∙ (ap (λ xs. xs ++ more) old.is ∙ append_assoc old.front old.back more);
      keeps = old.keeps;
      part = omega (arith, old.part);
      bits = number-append old.back more g.part old.part ∙ (ap (λ m. m + number more * 2 ^ g.part) old.bits ∙ sym bits);
      window =
          window_more (unstuffed gap) more (number more) ((g.bits * 256 + g.last) / 2 ^ g.part % 256) _ old.window refl
          (ap (λ m. (m * 256 + h.last) / 2 ^ h.part % 256) bits
          ∙ (ap (λ m. ((g.bits + number more * 2 ^ g.part) * 256 + m) / 2 ^ h.part % 256) last
          ∙ (ap (λ k. ((g.bits + number more * 2 ^ g.part) * 256 + g.last) / 2 ^ k % 256) part
          ∙ register_kept g.part (length more) g.bits (number more) g.last fits small)))
          ∙ ap (λ xs. number (recent false xs)) (sym run);
      row = row ∙ ap (λ m. m * 256) (end_same n (ones gap) come (omega arith) ∙ ap (min 6) (sym (ones_run gap come)));
      aborted = aborted ∙ (ap (λ x. x || six_from (min 5 n) come) old.aborted ∙ sym (six_run gap come (min 5 n) five));
    }

-- ---- the beginning and the end

opened : (p b last w : ℕ) → p < 8 → b < 2 ^ p → last < 256 → (b * 256 + last) / 2 ^ p % 256 ≡ w → w / 2 ^ (8 - p) ≡ b
opened p b last w few fits small is =
    let low : (b * 256 + last) / 2 ^ p < 256 = register p b last fits small in
    let whole : (b * 256 + last) / 2 ^ p ≡ w = omega arith in
    let sum : p + (8 - p) ≡ 8 = omega arith in
    let high : (b * 256 + last) / 256 ≡ b = omega arith in
    ap (λ m. m / 2 ^ (8 - p)) (sym whole)
    ∙ (shr-shr (b * 256 + last) p (8 - p) ∙ (ap (λ k. (b * 256 + last) / 2 ^ k) sum ∙ high))

pub begins : (c : Gap) (g : Gathering) (gap : List Bool) → Collects c gap → g.part ≡ c.unstuffed.part % 8 → g.bits < 2 ^ g.part
    → g.last < 256 → (g.bits * 256 + g.last) / 2 ^ g.part % 256 ≡ c.unstuffed.window → g.row ≡ c.ones * 256 → g.aborted ≡ c.aborted
    → Gathers c.unstuffed g gap
begins c g gap old part fits small window row aborted =
    let xs : List Bool = unstuffed gap in
    let k : ℕ = 8 * (length xs / 8) in
    let was : c.unstuffed.part ≡ length xs % 8 = old.unstuffed.part in
    let part_ : g.part ≡ length xs % 8 = omega arith in
    let front : length (take k xs) ≡ k = length-take-le k xs (omega arith) in
    let back : length (drop k xs) ≡ length xs - k = length-drop k xs in
    let same : octets_of xs ≡ octets_of (take k xs) =
    ap octets_of (sym (take-append-drop k xs)) ∙ octets_of-few (take k xs) (drop k xs) (omega arith) in
    let shift : 8 - length xs % 8 ≡ 8 - g.part = omega arith in
    let all : length (recent false xs) ≡ 8 = length-recent false xs in
    record {
      front = take k xs;
      back = drop k xs;
      is = sym (take-append-drop k xs);
      keeps = record {
        even = omega arith;
        whole = old.unstuffed.whole ∙ ap (take 302) same;
        long = old.unstuffed.long ∙ ap (λ os. nat_lt 302 (length os)) same;
      };
      part = omega arith;
      bits =
          ap (λ ys. number (drop k ys)) (sym (append-nil xs)) ∙ (ap number (tail_is xs [])
          ∙ (ap (λ ys. number (drop (8 - length xs % 8) ys)) (append-nil (recent false xs))
          ∙ (ap (λ m. number (drop m (recent false xs))) shift ∙ (number_drop (recent false xs) (8 - g.part) (omega arith)
          ∙ (ap (λ m. m / 2 ^ (8 - g.part)) (sym (window ∙ old.unstuffed.window))
          ∙ opened g.part g.bits g.last _ (omega arith) fits small refl)))));
      window = window ∙ old.unstuffed.window;
      row = row ∙ ap (λ m. m * 256) old.ones;
      aborted = aborted ∙ old.aborted;
    }

pub ends : (a : OctetBuffer) (c : Gap) (g : Gathering) (gap : List Bool) → Gathers a g gap → 8 ≤ length gap → g.part < 8 → c.seen ≡ 8
    → c.ones ≡ g.row / 256 → c.aborted ≡ g.aborted → c.unstuffed.part ≡ g.part
    → c.unstuffed.window ≡ (g.bits * 256 + g.last) / 2 ^ g.part % 256 → c.unstuffed.whole.items ≡ a.whole.items → c.unstuffed.long ≡ a.long
    → Collects c gap
ends a c g gap old many few seen last aborted part window whole long =
    let xs : List Bool = unstuffed gap in
    let size : length (old.front ++ old.back) ≡ length old.front + length old.back = length-append old.front old.back in
    let count : length xs ≡ length (old.front ++ old.back) = ap length old.is in
    let even : length old.front % 8 ≡ 0 = old.keeps.even in
    let part_ : length old.back ≡ g.part = old.part in
    let same : octets_of old.front ≡ octets_of xs =
    sym (octets_of-few old.front old.back (omega arith)) ∙ ap octets_of (sym old.is) in
    record {
      seen = omega arith;
      ones = omega (arith, old.row);
      aborted = aborted ∙ old.aborted;
      unstuffed = record {
        part = omega arith;
        window = window ∙ old.window;
        whole = whole ∙ (old.keeps.whole ∙ ap (take 302) same);
        long = long ∙ (old.keeps.long ∙ ap (λ os. nat_lt 302 (length os)) same);
      };
    }

pub many_octets : (gap : List Bool) (octets : List ℕ) → 0 < length octets → 8 ≤ length (gap ++ bits_of LsbFirst octets)
many_octets gap octets h =
    let sum : length (gap ++ bits_of LsbFirst octets) ≡ length gap + length (bits_of LsbFirst octets) =
    length-append gap (bits_of LsbFirst octets) in
    let size : length (bits_of LsbFirst octets) ≡ 8 * length octets = length-bits_in LsbFirst octets (8 * length octets) in
    omega arith

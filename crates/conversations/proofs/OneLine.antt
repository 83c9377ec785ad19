-- What one line says.
use Rattle.std.proofs.Common.{◌≡◌, ◌≤◌, ◌<◌, ◌+◌, ◌*◌, ◌^◌, ℕ, zero, suc, Bool, false, replicate, List, [], ◌∷◌, ◌++◌, cond}
use Rattle.std.proofs.Common.{nat_eq}
use Rattle.std.proofs.Common.{length, get_or, codes, refl, ap, sym, ◌∙◌, subst, arith, length-append, inl, inr}
use Rattle.std.proofs.lemmas.Fmt.{decimal_is_IsNumeral, length-decimal-le}
use Rattle.std.specs.Fmt.{decimal}
use Rattle.hex.specs.Hex.{IsBytes, encode_upper, upper_digits}
use Rattle.hex.proofs.HexLemmas.{decode_of-encode_upper, length-encode_with}
use Rattle.raster.specs.Octets.{AreOctets}
use Rattle.raster.specs.Packed.{FillsOctets}
use Rattle.raster.specs.declared.packed.Order.TheVariants.{LsbFirst}
use Rattle.raster.proofs.PackedLemmas.{length-bits_in}
use Rattle.std.proofs.lemmas.List.{length-replicate}
use Rattle.signals.specs.declared.params.Speed.TheVariants.{V27At2400, V27At4800, V29At7200, V29At9600, V17At7200, V17At9600}
use Rattle.signals.specs.declared.params.Speed.TheVariants.{V17At12000, V17At14400}
use Rattle.signals.specs.declared.signal.Side.TheVariants.{Caller as CallerSide, Answerer as AnswererSide}
use Rattle.terminals.specs.BurstSizes.{AnswerersBurstsAreShort, CallersBurstsAreShort}
use Rattle.terminals.specs.declared.sending.SentBurst.{SentBurst}
use Rattle.conversations.specs.LineLaws.{ChannelsHaveNames, FitsALine, KindsHaveNames, PlainSaid, ReadsWhatIsSent, SaysOneThing}
use Rattle.conversations.specs.LineLaws.{AnswerersFitLines, CallersFitLines, SentFitsALine}
use Rattle.conversations.specs.LineLaws.{quiet, busy, not_ready, ready, missed, stop, ended, received, plain_said, rx_line}
use Rattle.conversations.proofs.FrameWords.{not_in_bits, one_coded, same_after}
use Rattle.conversations.specs.FrameLines.{AreCoded, IsInFrames}
use Rattle.conversations.specs.Lines.{AreBits, HasCome, IsBurst, IsNumber, IsReceived, IsReceivedLine, IsTimed, IsTold, IsToldLine, IsWordOf}
use Rattle.conversations.specs.Lines.{ReceivedAfter, ToldAfter, fate_word}
use Rattle.conversations.specs.Lines.{channel_name, kind_name, octets_for, spaced}
use Rattle.conversations.specs.Writing.{burst_words, channel_of, kind_of}
use Rattle.conversations.specs.declared.carrier.Channel.{Channel}
use Rattle.conversations.specs.declared.carrier.Channel.TheVariants.{V21, Message}
use Rattle.conversations.specs.declared.carrier.Kind.{Kind}
use Rattle.conversations.specs.declared.carrier.Kind.TheVariants.{Frames, Check}
use Rattle.conversations.specs.declared.line.Fate.{Fate}
use Rattle.conversations.specs.declared.line.Fate.TheVariants.{Kept, Lost}
use Rattle.conversations.specs.declared.line.Said.{Said}
use Rattle.conversations.specs.declared.line.Said.TheVariants.{Quiet, Busy, Received, NotReady, Ready, Missed, Told, Stop, End}
use Rattle.conversations.specs.declared.line.TimedLine.{TimedLine}
use Rattle.conversations.proofs.Words.{bits_are, channel_solid, kind_solid, number_solid, one_number, same_cut, word_is_not_rx, word_solid}
use Rattle.conversations.proofs.Words.{fate_is_not_rx, fate_solid, ok_is, rx_solid, word_is_no_fate}

-- ---- names

-- the octet of a text at a place
abbrev at : List ℕ → ℕ → ℕ
at text place = get_or text place 0

-- the carrier of a name
abbrev channel_back : List ℕ → Channel
channel_back name =
    cond (nat_eq (length name) 3) V21
    (cond (nat_eq (length name) 11) (cond (nat_eq (at name 7) 50) (Message V27At2400) (Message V27At4800))
    (cond (nat_eq (length name) 9) (cond (nat_eq (at name 5) 50) (Message V17At12000) (Message V17At14400))
    (cond (nat_eq (at name 2) 57)
    (cond (nat_eq (at name 4) 55) (Message V29At7200) (Message V29At9600))
    (cond (nat_eq (at name 4) 55) (Message V17At7200) (Message V17At9600)))))

is_back : (channel : Channel) → channel ≡ channel_back (channel_name channel)
is_back V21 = refl
is_back (Message V27At2400) = refl
is_back (Message V27At4800) = refl
is_back (Message V29At7200) = refl
is_back (Message V29At9600) = refl
is_back (Message V17At7200) = refl
is_back (Message V17At9600) = refl
is_back (Message V17At12000) = refl
is_back (Message V17At14400) = refl

pub channels_have_names : ChannelsHaveNames
channels_have_names one other same = is_back one ∙ (ap channel_back same ∙ sym (is_back other))

-- the kind of a name
abbrev kind_back : List ℕ → Kind
kind_back name = cond (nat_eq (length name) 4) Frames Check

is_kind_back : (kind : Kind) → kind ≡ kind_back (kind_name kind)
is_kind_back Frames = refl
is_kind_back Check = refl

pub kinds_have_names : KindsHaveNames
kinds_have_names one other same = is_kind_back one ∙ (ap kind_back same ∙ sym (is_kind_back other))

-- ---- one thing

-- what a word says
abbrev word_back : List ℕ → PlainSaid
word_back word =
    cond (nat_eq (at word 0) 113) quiet
    (cond (nat_eq (at word 0) 98) busy
    (cond (nat_eq (at word 0) 110) not_ready
    (cond (nat_eq (at word 0) 114) ready
    (cond (nat_eq (at word 0) 109) missed
    (cond (nat_eq (at word 0) 115) stop ended)))))

is_said_back : (word : List ℕ) (said : Said) → IsWordOf word said → plain_said said ≡ word_back word
is_said_back word Quiet h = rw h refl
is_said_back word Busy h = rw h refl
is_said_back word (Received channel kind bits octets) h = absurd h
is_said_back word NotReady h = rw h refl
is_said_back word Ready h = rw h refl
is_said_back word Missed h = rw h refl
is_said_back word (Told fate file) h = absurd h
is_said_back word Stop h = rw h refl
is_said_back word End h = rw h refl

one_bits : (text : List ℕ) (n m : ℕ) (xs ys : List ℕ) → AreBits text n xs → AreBits text m ys → (n ≡ m) × (xs ≡ ys)
one_bits text n m xs ys h k =
    let are = bits_are text k.count k.hex (number_solid 7 k.count m k.count_is) k.text_is n xs h in
    (one_number 7 7 k.count n m are.0 k.count_is, ok_is xs ys _ are.1 k.hex_is)

one_burst : (text : List ℕ) (c d : Channel) (k l : Kind) (n m : ℕ) (xs ys : List ℕ) → IsBurst text c k n xs → IsBurst text d l m ys →
    received c k n xs ≡ received d l m ys
one_burst text c d k l n m xs ys (rest, is, bits) (other, same, others) =
    let first =
    same_cut text (channel_name d) (kind_name l ++ 32 ∷ other) (channel_name c) (kind_name k ++ 32 ∷ rest) (channel_solid d) same
    (channel_solid c) is in
    let second =
    same_cut (kind_name l ++ 32 ∷ other) (kind_name l) other (kind_name k) rest (kind_solid l) refl (kind_solid k) (sym first.1) in
    let last = one_bits other n m xs ys (subst (λ t. AreBits t n xs) second.1 bits) others in
    rw (channels_have_names c d first.0, kinds_have_names k l second.0, last.0, last.1) refl

one_in_frames : (text : List ℕ) (c d : Channel) (k l : Kind) (n m : ℕ) (xs ys : List ℕ) → IsInFrames text c k n xs →
    IsInFrames text d l m ys → received c k n xs ≡ received d l m ys
one_in_frames text c d k l n m xs ys h g =
    let after = same_after text h.after g.after h.text_is g.text_is in
    let one = one_coded g.after n m xs ys (subst (λ t. AreCoded t n xs) after h.coded) g.coded in
    rw (h.by_v21, g.by_v21, h.as_frames, g.as_frames, one.0, one.1) refl

one_come : (text : List ℕ) (c d : Channel) (k l : Kind) (n m : ℕ) (xs ys : List ℕ) → HasCome text c k n xs → HasCome text d l m ys →
    received c k n xs ≡ received d l m ys
one_come text c d k l n m xs ys (inl h) (inl g) = one_burst text c d k l n m xs ys h g
one_come text c d k l n m xs ys (inl h) (inr g) = absurd (not_in_bits text g.after c k n xs g.text_is h)
one_come text c d k l n m xs ys (inr h) (inl g) = absurd (not_in_bits text h.after d l m ys h.text_is g)
one_come text c d k l n m xs ys (inr h) (inr g) = one_in_frames text c d k l n m xs ys h g

one_received : (text : List ℕ) (said other : Said) → IsReceived text said → IsReceived text other → plain_said said ≡ plain_said other
one_received text (Received c k n xs) (Received d l m ys) h g = one_come text c d k l n m xs.items ys.items h g
one_received text (Received c k n xs) Quiet h g = absurd g
one_received text (Received c k n xs) Busy h g = absurd g
one_received text (Received c k n xs) NotReady h g = absurd g
one_received text (Received c k n xs) Ready h g = absurd g
one_received text (Received c k n xs) Missed h g = absurd g
one_received text (Received c k n xs) (Told fate file) h g = absurd g
one_received text (Received c k n xs) Stop h g = absurd g
one_received text (Received c k n xs) End h g = absurd g
one_received text Quiet other h g = absurd h
one_received text Busy other h g = absurd h
one_received text NotReady other h g = absurd h
one_received text Ready other h g = absurd h
one_received text Missed other h g = absurd h
one_received text (Told fate file) other h g = absurd h
one_received text Stop other h g = absurd h
one_received text End other h g = absurd h

-- two lines say the same, at the same time
abbrev Alike : TimedLine → TimedLine → Type 0
Alike one other = (one.at ≡ other.at) × (plain_said one.said ≡ plain_said other.said)

one_after : (text : List ℕ) (one other : TimedLine) → ReceivedAfter text one → ReceivedAfter text other → Alike one other
one_after text one other (time, burst, is, number, came) (time', burst', is', number', came') =
    let cut =
    same_cut text time' burst' time burst (number_solid 15 time' other.at number') is' (number_solid 15 time one.at number) is in (
      one_number 15 15 time' one.at other.at (subst (λ d. IsNumber 15 d one.at) cut.0 number) number',
      one_received burst' one.said other.said (subst (λ b. IsReceived b one.said) cut.1 came) came',
    )

-- the fate of a word
abbrev fate_back : List ℕ → Fate
fate_back word = cond (nat_eq (at word 0) 107) Kept Lost

is_fate_back : (fate : Fate) → fate ≡ fate_back (fate_word fate)
is_fate_back Kept = refl
is_fate_back Lost = refl

one_told : (fate : Fate) (name : List ℕ) (said other : Said) → IsTold fate name said → IsTold fate name other →
    plain_said said ≡ plain_said other
one_told fate name (Told f file) (Told g last) (is_f, is) (is_g, was) = rw (is_f, is_g, is, was) refl
one_told fate name (Told f file) Quiet h g = absurd g
one_told fate name (Told f file) Busy h g = absurd g
one_told fate name (Told f file) (Received c k n xs) h g = absurd g
one_told fate name (Told f file) NotReady h g = absurd g
one_told fate name (Told f file) Ready h g = absurd g
one_told fate name (Told f file) Missed h g = absurd g
one_told fate name (Told f file) Stop h g = absurd g
one_told fate name (Told f file) End h g = absurd g
one_told fate name Quiet other h g = absurd h
one_told fate name Busy other h g = absurd h
one_told fate name (Received c k n xs) other h g = absurd h
one_told fate name NotReady other h g = absurd h
one_told fate name Ready other h g = absurd h
one_told fate name Missed other h g = absurd h
one_told fate name Stop other h g = absurd h
one_told fate name End other h g = absurd h

told_after : (fate : Fate) (text : List ℕ) (one other : TimedLine) → ToldAfter fate text one → ToldAfter fate text other → Alike one other
told_after fate text one other (time, name, is, number, tells) (time', name', is', number', tells') =
    let cut =
    same_cut text time' name' time name (number_solid 15 time' other.at number') is' (number_solid 15 time one.at number) is in (
      one_number 15 15 time' one.at other.at (subst (λ d. IsNumber 15 d one.at) cut.0 number) number',
      one_told fate name' one.said other.said (subst (λ n. IsTold fate n one.said) cut.1 tells) tells',
    )

-- a word and the time say one thing
timed_alike : (line : List ℕ) (one other : TimedLine) → IsTimed line one → IsTimed line other → Alike one other
timed_alike line one other t u =
    let cut = same_cut line u.0 u.1 t.0 t.1 (word_solid u.0 other.said u.3) u.2 (word_solid t.0 one.said t.3) t.2 in (
      one_number 15 15 u.1 one.at other.at (subst (λ d. IsNumber 15 d one.at) cut.1 t.4) u.4,
      is_said_back t.0 one.said t.3 ∙ (ap word_back cut.0 ∙ sym (is_said_back u.0 other.said u.3)),
    )

received_alike : (line : List ℕ) (one other : TimedLine) → IsReceivedLine line one → IsReceivedLine line other → Alike one other
received_alike line one other r s =
    let cut = same_cut line (codes "rx") s.0 (codes "rx") r.0 rx_solid s.1 rx_solid r.1 in
    one_after s.0 one other (subst (λ text. ReceivedAfter text one) cut.1 r.2) s.2

told_alike : (line : List ℕ) (one other : TimedLine) → IsToldLine line one → IsToldLine line other → Alike one other
told_alike line one other (fate, after, is, tells) (fate', after', is', tells') =
    let cut = same_cut line (fate_word fate') after' (fate_word fate) after (fate_solid fate') is' (fate_solid fate) is in
    let same : fate ≡ fate' = is_fate_back fate ∙ (ap fate_back cut.0 ∙ sym (is_fate_back fate')) in
    told_after fate' after' one other
    (subst (λ f. ToldAfter f after' one) same (subst (λ text. ToldAfter fate text one) cut.1 tells)) tells'

timed_not_received : (line : List ℕ) (one other : TimedLine) → IsTimed line one → IsReceivedLine line other → ⊥
timed_not_received line one other t r =
    let cut = same_cut line (codes "rx") r.0 t.0 t.1 rx_solid r.1 (word_solid t.0 one.said t.3) t.2 in
    word_is_not_rx t.0 one.said t.3 cut.0

timed_not_told : (line : List ℕ) (one other : TimedLine) → IsTimed line one → IsToldLine line other → ⊥
timed_not_told line one other t (fate, after, is, tells) =
    let cut = same_cut line (fate_word fate) after t.0 t.1 (fate_solid fate) is (word_solid t.0 one.said t.3) t.2 in
    word_is_no_fate t.0 one.said fate t.3 (sym cut.0)

received_not_told : (line : List ℕ) (one other : TimedLine) → IsReceivedLine line one → IsToldLine line other → ⊥
received_not_told line one other r (fate, after, is, tells) =
    let cut = same_cut line (codes "rx") r.0 (fate_word fate) after rx_solid r.1 (fate_solid fate) is in
    fate_is_not_rx fate cut.0

pub says_one_thing : SaysOneThing
says_one_thing line one other h k = elim h.words [
  | inl t ↦ elim k.words [
    | inl u ↦ timed_alike line one other t u
    | inr (inl r) ↦ absurd (timed_not_received line one other t r)
    | inr (inr f) ↦ absurd (timed_not_told line one other t f)
  ]
  | inr (inl r) ↦ elim k.words [
    | inl u ↦ absurd (timed_not_received line other one u r)
    | inr (inl s) ↦ received_alike line one other r s
    | inr (inr f) ↦ absurd (received_not_told line one other r f)
  ]
  | inr (inr f) ↦ elim k.words [
    | inl u ↦ absurd (timed_not_told line other one u f)
    | inr (inl s) ↦ absurd (received_not_told line other one s f)
    | inr (inr g) ↦ told_alike line one other f g
  ]
]

-- ---- what is sent

pub are_bytes : (xs : List ℕ) → AreOctets xs → IsBytes xs
are_bytes [] h i = omega arith
are_bytes (x ∷ xs) h zero = h.0
are_bytes (x ∷ xs) h (suc i) = are_bytes xs h.1 i

channel_short : (channel : Channel) → length (channel_name channel) ≤ 11
channel_short V21 = omega arith
channel_short (Message V27At2400) = omega arith
channel_short (Message V27At4800) = omega arith
channel_short (Message V29At7200) = omega arith
channel_short (Message V29At9600) = omega arith
channel_short (Message V17At7200) = omega arith
channel_short (Message V17At9600) = omega arith
channel_short (Message V17At12000) = omega arith
channel_short (Message V17At14400) = omega arith

kind_short : (kind : Kind) → length (kind_name kind) ≤ 4
kind_short Frames = omega arith
kind_short Check = omega arith

decimal_number : (most n : ℕ) → 0 < most → n < 10 ^ most → n < 2 ^ 64 → IsNumber most (decimal n) n
decimal_number most n some low small =
    let are = decimal_is_IsNumeral n small in record {
      numeral = are.0;
      short = length-decimal-le most n some low small;
      value = sym are.1;
    }

-- two texts with a space between
spaced_size : (a b : List ℕ) → length (a ++ 32 ∷ b) ≡ length a + 1 + length b
spaced_size a b = let size = length-append a (32 ∷ b) in omega (arith, size)

sent_bits : (burst : SentBurst) → FitsALine burst →
    AreBits (spaced (decimal burst.bits ∷ encode_upper burst.octets.items ∷ [])) burst.bits burst.octets.items
sent_bits burst fits = record {
  count = decimal burst.bits;
  hex = encode_upper burst.octets.items;
  text_is = refl;
  count_is =
      let few = fits.few in decimal_number 7 burst.bits (omega arith) (omega (arith, few)) (omega (arith, few));
  hex_is = decode_of-encode_upper burst.octets.items (are_bytes burst.octets.items fits.octets);
  size = fits.size;
}

fits_so : (burst : SentBurst) (time : List ℕ) (n : ℕ) → FitsALine burst → IsNumber 15 time n → length (rx_line time burst) ≤ 400000
fits_so burst time n fits number =
    let channel = channel_short (channel_of burst.carrier) in
    let kind = kind_short (kind_of burst.carrier) in
    let pairs = length-encode_with upper_digits burst.octets.items in
    let short = number.short in
    let few = fits.few in
    let size = fits.size in
    let digits = length-decimal-le 7 burst.bits (omega arith) (omega (arith, few)) (omega (arith, few)) in
    let one = spaced_size (decimal burst.bits) (encode_upper burst.octets.items) in
    let two = spaced_size (kind_name (kind_of burst.carrier)) (decimal burst.bits ++ 32 ∷ encode_upper burst.octets.items) in
    let three = spaced_size (channel_name (channel_of burst.carrier)) (kind_name (kind_of burst.carrier) ++ 32 ∷ (decimal burst.bits ++
    32 ∷ encode_upper burst.octets.items)) in
    let four = spaced_size time (burst_words burst) in
    let five = spaced_size (codes "rx") (time ++ 32 ∷ burst_words burst) in
    omega (arith, channel, kind, digits, pairs, short, few, size, one, two, three, four, five)

pub reads_what_is_sent : ReadsWhatIsSent
reads_what_is_sent burst time n fits number = record {
  most = fits_so burst time n fits number;
  words = inr (inl (
    spaced (time ∷ burst_words burst ∷ []),
    refl,
    (
      time,
      burst_words burst,
      refl,
      number,
      inl (spaced (decimal burst.bits ∷ encode_upper burst.octets.items ∷ []), refl, sent_bits burst fits),
    ),
  ));
}

filled_size : (bits : List Bool) (octets : List ℕ) → FillsOctets LsbFirst bits octets → length octets ≡ octets_for (length bits)
filled_size bits octets h =
    let all : 8 * length octets ≡ length bits + h.fill =
    sym (length-bits_in LsbFirst octets (8 * length octets)) ∙
    (ap length h.filled ∙ (length-append bits (replicate h.fill false) ∙ ap (λ n. length bits + n) (length-replicate h.fill false))) in
    let few = h.few in
    omega (arith, all, few)

pub sent_fits_a_line : SentFitsALine
sent_fits_a_line side plain later burst is octets few = record {
  few = few;
  size = rw is.count (filled_size _ burst.octets.items is.octets);
  octets = octets;
}

pub callers_fit_lines : CallersBurstsAreShort → CallersFitLines
callers_fit_lines short v t turn bursts r lends taken burst later sent at is octets =
    let few = short v t turn bursts r lends taken burst later sent at is in
    sent_fits_a_line CallerSide burst later sent is octets (omega (arith, few))

pub answerers_fit_lines : AnswerersBurstsAreShort → AnswerersFitLines
answerers_fit_lines short s turn bursts map lends taken burst later sent at is octets =
    let few = short s turn bursts map lends taken burst later sent at is in
    sent_fits_a_line AnswererSide burst later sent is octets (omega (arith, few))

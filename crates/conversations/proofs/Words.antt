-- Words of a line, which are cut at its spaces.
use Rattle.std.proofs.Common.{◌≡◌, ◌<◌, ◌≤◌, ◌+◌, ◌*◌, ◌^◌, ◌&&◌, ℕ, Bool, true, not, nat_eq, List, [], ◌∷◌, ◌++◌, Ok, Err, Result}
use Rattle.std.proofs.Common.{length, get_or, drop, suc, zero, codes, refl, ap, sym, ◌∙◌, subst, arith, length-append, IsUtf8}
use Rattle.std.proofs.lemmas.List.{get_or_at}
use Rattle.std.proofs.lemmas.Bool.Decides.{nat_tests}
use Rattle.std.proofs.lemmas.Str.{IsUtf8-from_ascii}
use Rattle.std.proofs.lemmas.Fmt.{IsAscii-from_digits}
use Rattle.std.proofs.lemmas.Int.Digits.{digits_value-lt}
use Rattle.std.specs.Int.{div_ceil}
use Rattle.std.specs.Result.{result_unwrap_or}
use Rattle.std.specs.Char.{digit_value}
use Rattle.std.specs.Str.Parse.{AllDigits, IsNumeral, digits_value, without_leading_plus}
use Rattle.std.proofs.lemmas.Str.Parse.{without_leading_plus_none}
use Rattle.std.proofs.Common.{le_trans}
use Rattle.hex.specs.Hex.{decode_of}
use Rattle.hex.proofs.HexLemmas.{decode_of-ok}
use Rattle.hex.specs.declared.error.FromHexError.{FromHexError}
use Rattle.conversations.specs.Lines.{AreBits, HasCome, HasNoSpace, IsBurst, IsNumber, IsReceived, IsWordOf, ReceivedAfter, Says, SaysNothing}
use Rattle.conversations.specs.Lines.{ToldAfter, channel_name, fate_word, kind_name, octets_for, spaced}
use Rattle.conversations.specs.declared.line.Fate.{Fate}
use Rattle.conversations.specs.declared.line.Fate.TheVariants.{Kept, Lost}
use Rattle.conversations.specs.declared.line.Said.{Said}
use Rattle.conversations.specs.declared.line.Said.TheVariants.{Quiet, Busy, Received, NotReady, Ready, Missed, Told, Stop, End}
use Rattle.conversations.specs.declared.line.TimedLine.{TimedLine}
use Rattle.std.proofs.Common.{inl, inr}
use Rattle.std.proofs.Common.{MatchResult}
use Rattle.conversations.specs.declared.line.LineRefused.{LineRefused}
use Rattle.conversations.specs.declared.line.LineRefused.TheVariants.{NoLine}
use native.Mathlib.Nat.{pow-le-pow_right}
use Rattle.conversations.specs.declared.carrier.Channel.{Channel}
use Rattle.conversations.specs.declared.carrier.Channel.TheVariants.{V21, Message}
use Rattle.conversations.specs.declared.carrier.Kind.{Kind}
use Rattle.conversations.specs.declared.carrier.Kind.TheVariants.{Frames, Check}
use Rattle.signals.specs.declared.params.Speed.TheVariants.{V27At2400, V27At4800, V29At7200, V29At9600, V17At7200, V17At9600}
use Rattle.signals.specs.declared.params.Speed.TheVariants.{V17At12000, V17At14400}

-- no octet is a space, octet by octet
abbrev solid : List ℕ → Bool
solid [] = true
solid (x ∷ xs) = not (nat_eq x 32) && solid xs

solid_at : (xs : List ℕ) → solid xs ≡ true → HasNoSpace xs
solid_at [] h i l = absurd (omega (arith, l))
solid_at (x ∷ xs) h zero l = grind (arith, nat_tests)
solid_at (x ∷ xs) h (suc i) l = solid_at xs (grind (arith, nat_tests)) i (omega (arith, l))

-- the names of carriers and kinds have no space
pub channel_solid : (channel : Channel) → HasNoSpace (channel_name channel)
channel_solid V21 = solid_at (channel_name V21) refl
channel_solid (Message V27At2400) = solid_at (channel_name (Message V27At2400)) refl
channel_solid (Message V27At4800) = solid_at (channel_name (Message V27At4800)) refl
channel_solid (Message V29At7200) = solid_at (channel_name (Message V29At7200)) refl
channel_solid (Message V29At9600) = solid_at (channel_name (Message V29At9600)) refl
channel_solid (Message V17At7200) = solid_at (channel_name (Message V17At7200)) refl
channel_solid (Message V17At9600) = solid_at (channel_name (Message V17At9600)) refl
channel_solid (Message V17At12000) = solid_at (channel_name (Message V17At12000)) refl
channel_solid (Message V17At14400) = solid_at (channel_name (Message V17At14400)) refl

pub kind_solid : (kind : Kind) → HasNoSpace (kind_name kind)
kind_solid Frames = solid_at (kind_name Frames) refl
kind_solid Check = solid_at (kind_name Check) refl

-- decimal digits have no space
digits_solid : (ds : List ℕ) → AllDigits 10 ds → solid ds ≡ true
digits_solid [] h = refl
digits_solid (d ∷ ds) h = let rest = digits_solid ds h.1 in grind (arith, nat_tests, h.0, rest)

pub number_solid : (most : ℕ) (digits : List ℕ) (number : ℕ) → IsNumber most digits number → HasNoSpace digits
number_solid most digits number h = solid_at digits (digits_solid digits h.numeral.1)

-- a text with no space isn't cut
pub no_cut : (text word rest : List ℕ) → HasNoSpace text → text ≡ word ++ 32 ∷ rest → ⊥
no_cut text word rest none is =
    let there : get_or text (length word) 0 ≡ 32 = ap (λ t. get_or t (length word) 0) is ∙ get_or_at word 32 rest 0 (length word) refl in
    let size : length text ≡ length word + suc (length rest) = ap length is ∙ length-append word (32 ∷ rest) in
    none (length word) (omega (arith, size)) there

-- a text is cut in one way
pub one_cut : (a b x y : List ℕ) → HasNoSpace a → HasNoSpace b → a ++ 32 ∷ x ≡ b ++ 32 ∷ y → (a ≡ b) × (x ≡ y)
one_cut [] [] x y ha hb is = (refl, ap (drop 1) is)
one_cut [] (b ∷ bs) x y ha hb is = absurd (hb 0 (omega arith) (sym (ap (λ t. get_or t 0 0) is)))
one_cut (a ∷ tail) [] x y ha hb is = absurd (ha 0 (omega arith) (ap (λ t. get_or t 0 0) is))
one_cut (a ∷ tail) (b ∷ bs) x y ha hb is =
    let head : a ≡ b = ap (λ t. get_or t 0 0) is in
    let rest = one_cut tail bs x y (λ k l. ha (suc k) (omega (arith, l))) (λ k l. hb (suc k) (omega (arith, l))) (ap (drop 1) is) in
    (rw (head, rest.0) refl, rest.1)

-- the same, of a text that is named
pub same_cut : (text a x b y : List ℕ) → HasNoSpace a → text ≡ a ++ 32 ∷ x → HasNoSpace b → text ≡ b ++ 32 ∷ y → (b ≡ a) × (y ≡ x)
same_cut text a x b y ha is_a hb is_b = one_cut b a y x hb ha (sym is_b ∙ is_a)

-- ---- numbers

-- digits are UTF-8
pub digits_utf8 : (most : ℕ) (digits : List ℕ) (number : ℕ) → IsNumber most digits number → IsUtf8 digits
digits_utf8 most digits number h = IsUtf8-from_ascii digits (IsAscii-from_digits digits h.numeral.1)

-- digits write one number
pub one_number : (most other : ℕ) (digits : List ℕ) (m n : ℕ) → IsNumber most digits m → IsNumber other digits n → m ≡ n
one_number most other digits m n h k = h.value ∙ sym k.value

-- a result is one value
pub ok_is : (a b : List ℕ) (r : Result (List ℕ) FromHexError) → r ≡ Ok a → r ≡ Ok b → a ≡ b
ok_is a b r p q = ap (λ (x : Result (List ℕ) FromHexError). result_unwrap_or x []) (sym p ∙ q)

-- ---- bits

-- what stands for a list of octets
module _ (text digits hex : List ℕ) (solid : HasNoSpace digits) (cut : text ≡ digits ++ 32 ∷ hex) where
  pub bits_are : (count : ℕ) (octets : List ℕ) → AreBits text count octets
      → IsNumber 7 digits count × (decode_of hex ≡ Ok octets) × (length octets ≡ octets_for count)
  bits_are count octets h =
      let same = same_cut text digits hex h.count h.hex solid cut (number_solid 7 h.count count h.count_is) h.text_is in
      (subst (λ d. IsNumber 7 d count) same.0 h.count_is, subst (λ x. decode_of x ≡ Ok octets) same.1 h.hex_is, h.size)

  pub no_number : ((n : ℕ) → IsNumber 7 digits n → ⊥) → (count : ℕ) (octets : List ℕ) → AreBits text count octets → ⊥
  no_number none count octets h = none count (bits_are count octets h).0

  pub wrong_size : (n : ℕ) → IsNumber 7 digits n → (length hex ≡ 2 * octets_for n → ⊥) → (count : ℕ) (octets : List ℕ)
      → AreBits text count octets → ⊥
  wrong_size n number wrong count octets h =
      let are = bits_are count octets h in
      let one = one_number 7 7 digits count n are.0 number in
      let twice = (decode_of-ok hex octets are.1).2 in
      wrong (rw (← one) (omega (arith, twice, are.2)))

  pub no_hex : (e : FromHexError) → decode_of hex ≡ Err e → (count : ℕ) (octets : List ℕ) → AreBits text count octets → ⊥
  no_hex e refused count octets h = cc (sym refused ∙ (bits_are count octets h).1)

  pub are_bits : (n : ℕ) (octets : List ℕ) → IsNumber 7 digits n → length hex ≡ 2 * octets_for n → decode_of hex ≡ Ok octets
      → AreBits text n octets
  are_bits n octets number twice is = record {
    count = digits;
    hex = hex;
    text_is = cut;
    count_is = number;
    hex_is = is;
    size = let double = (decode_of-ok hex octets is).2 in omega (arith, twice, double);
  }

pub no_bits : (text : List ℕ) → HasNoSpace text → (count : ℕ) (octets : List ℕ) → AreBits text count octets → ⊥
no_bits text none count octets h = no_cut text h.count h.hex none h.text_is

pub octets_div_ceil : (count : ℕ) → div_ceil count 8 ≡ octets_for count
octets_div_ceil count = grind (arith)

-- digits have no sign
no_plus : (digits : List ℕ) → IsNumeral 10 digits → without_leading_plus digits ≡ digits
no_plus [] h = absurd (omega (arith, h.0))
no_plus (d ∷ ds) h = without_leading_plus_none (d ∷ ds) (λ plus. not_digit d h.1.0 plus)
  where
    not_digit : (d : ℕ) → digit_value d < 10 → d ≡ 43 → ⊥
    not_digit d low plus = grind (arith, nat_tests, low, plus)

-- what isn't parsed is no number of up to 15 digits
pub not_parsed : (most : ℕ) (digits text : List ℕ) → most ≤ 15 → text ≡ digits
    → (IsNumeral 10 (without_leading_plus text) × (digits_value 10 (without_leading_plus text) < 2 ^ 64) → ⊥)
    → (number : ℕ) → IsNumber most digits number → ⊥
not_parsed most digits text low same none number h =
    let signless : without_leading_plus text ≡ digits = ap without_leading_plus same ∙ no_plus digits h.numeral in
    let small = digits_value-lt 10 digits h.numeral.1 in
    let power = pow-le-pow_right {n = 10} (omega arith) (le_trans h.short low) in
    none (rw signless (h.numeral, omega (arith, small, power)))

-- ---- bursts

pub no_burst : (text : List ℕ) → HasNoSpace text → (channel : Channel) (kind : Kind) (count : ℕ) (octets : List ℕ)
    → IsBurst text channel kind count octets → ⊥
no_burst text none channel kind count octets (rest, is, bits) = no_cut text (channel_name channel) (kind_name kind ++ 32 ∷ rest) none is

module _ (text carrier after : List ℕ) (solid : HasNoSpace carrier) (cut : text ≡ carrier ++ 32 ∷ after) where
  burst_cut : (channel : Channel) (kind : Kind) (rest : List ℕ) → text ≡ spaced (channel_name channel ∷ kind_name kind ∷ rest ∷ [])
      → (channel_name channel ≡ carrier) × (kind_name kind ++ 32 ∷ rest ≡ after)
  burst_cut channel kind rest is =
      same_cut text carrier after (channel_name channel) (kind_name kind ++ 32 ∷ rest) solid cut (channel_solid channel) is

  pub no_channel : ((channel : Channel) → carrier ≡ channel_name channel → ⊥) → (channel : Channel) (kind : Kind) (count : ℕ)
      (octets : List ℕ) → IsBurst text channel kind count octets → ⊥
  no_channel none channel kind count octets (rest, is, bits) = none channel (sym (burst_cut channel kind rest is).0)

  pub no_kind_word : HasNoSpace after → (channel : Channel) (kind : Kind) (count : ℕ) (octets : List ℕ)
      → IsBurst text channel kind count octets → ⊥
  no_kind_word none channel kind count octets (rest, is, bits) =
      no_cut after (kind_name kind) rest none (sym (burst_cut channel kind rest is).1)

  module _ (name last : List ℕ) (solid_name : HasNoSpace name) (cut_name : after ≡ name ++ 32 ∷ last) where
    kind_cut : (channel : Channel) (kind : Kind) (rest : List ℕ) → text ≡ spaced (channel_name channel ∷ kind_name kind ∷ rest ∷ [])
        → (kind_name kind ≡ name) × (rest ≡ last)
    kind_cut channel kind rest is =
        same_cut after name last (kind_name kind) rest solid_name cut_name (kind_solid kind) (sym (burst_cut channel kind rest is).1)

    pub no_kind : ((kind : Kind) → name ≡ kind_name kind → ⊥) → (channel : Channel) (kind : Kind) (count : ℕ) (octets : List ℕ)
        → IsBurst text channel kind count octets → ⊥
    no_kind none channel kind count octets (rest, is, bits) = none kind (sym (kind_cut channel kind rest is).0)

    pub no_content : ((count : ℕ) (octets : List ℕ) → AreBits last count octets → ⊥) → (channel : Channel) (kind : Kind) (count : ℕ)
        (octets : List ℕ) → IsBurst text channel kind count octets → ⊥
    no_content none channel kind count octets (rest, is, bits) =
        none count octets (subst (λ t. AreBits t count octets) (kind_cut channel kind rest is).1 bits)

-- ---- the time and a burst

pub no_time_word : (text : List ℕ) → HasNoSpace text → (timed : TimedLine) → ReceivedAfter text timed → ⊥
no_time_word text none timed (time, burst, is, number, received) = no_cut text time burst none is

module _ (text digits after : List ℕ) (solid : HasNoSpace digits) (cut : text ≡ digits ++ 32 ∷ after) where
  time_cut : (time burst : List ℕ) (at : ℕ) → text ≡ spaced (time ∷ burst ∷ []) → IsNumber 15 time at → (time ≡ digits) × (burst ≡ after)
  time_cut time burst at is number = same_cut text digits after time burst solid cut (number_solid 15 time at number) is

  pub no_time : ((n : ℕ) → IsNumber 15 digits n → ⊥) → (timed : TimedLine) → ReceivedAfter text timed → ⊥
  no_time none timed (time, burst, is, number, received) =
      none timed.at (subst (λ d. IsNumber 15 d timed.at) (time_cut time burst timed.at is number).0 number)

  pub no_received : ((channel : Channel) (kind : Kind) (count : ℕ) (octets : List ℕ) → HasCome after channel kind count octets → ⊥)
      → (timed : TimedLine) → ReceivedAfter text timed → ⊥
  no_received none timed (time, burst, is, number, received) =
      not_received timed.said (subst (λ b. IsReceived b timed.said) (time_cut time burst timed.at is number).1 received)
    where
      not_received : (said : Said) → IsReceived after said → ⊥
      not_received Quiet h = h
      not_received Busy h = h
      not_received (Received channel kind bits octets) h = none channel kind bits octets.items h
      not_received NotReady h = h
      not_received Ready h = h
      not_received Missed h = h
      not_received (Told fate file) h = h
      not_received Stop h = h
      not_received End h = h

-- ---- lines

-- a line of more octets says nothing
pub too_long : (line : List ℕ) → 400000 < length line → SaysNothing line
too_long line long timed h = omega (arith, long, h.most)

-- nor does one with no space
pub one_word : (line : List ℕ) → HasNoSpace line → SaysNothing line
one_word line none timed h = elim h.words [
  | inl timed_word ↦ no_cut line timed_word.0 timed_word.1 none timed_word.2
  | inr (inl received) ↦ no_cut line (codes "rx") received.0 none received.1
  | inr (inr told) ↦ no_cut line (fate_word told.0) told.1 none told.2
]

-- the words that say something have no space
pub word_solid : (word : List ℕ) (said : Said) → IsWordOf word said → HasNoSpace word
word_solid word Quiet h = rw h (solid_at (codes "quiet") refl)
word_solid word Busy h = rw h (solid_at (codes "busy") refl)
word_solid word (Received channel kind bits octets) h = absurd h
word_solid word NotReady h = rw h (solid_at (codes "not-ready") refl)
word_solid word Ready h = rw h (solid_at (codes "ready") refl)
word_solid word Missed h = rw h (solid_at (codes "missed") refl)
word_solid word (Told fate file) h = absurd h
word_solid word Stop h = rw h (solid_at (codes "stop") refl)
word_solid word End h = rw h (solid_at (codes "end") refl)

pub rx_solid : HasNoSpace (codes "rx")
rx_solid = solid_at (codes "rx") refl

-- none of them is `rx`
pub word_is_not_rx : (word : List ℕ) (said : Said) → IsWordOf word said → word ≡ codes "rx" → ⊥
word_is_not_rx word Quiet h is = cc (sym h ∙ is)
word_is_not_rx word Busy h is = cc (sym h ∙ is)
word_is_not_rx word (Received channel kind bits octets) h is = h
word_is_not_rx word NotReady h is = cc (sym h ∙ is)
word_is_not_rx word Ready h is = cc (sym h ∙ is)
word_is_not_rx word Missed h is = cc (sym h ∙ is)
word_is_not_rx word (Told fate file) h is = h
word_is_not_rx word Stop h is = cc (sym h ∙ is)
word_is_not_rx word End h is = cc (sym h ∙ is)

pub fate_solid : (fate : Fate) → HasNoSpace (fate_word fate)
fate_solid Kept = solid_at (codes "kept") refl
fate_solid Lost = solid_at (codes "lost") refl

-- the first octet of a word
abbrev first : List ℕ → ℕ
first word = get_or word 0 0

-- no word that has nothing but the time after it, nor `rx`, begins as `kept` or `lost` does
differs : (one other : List ℕ) → (first one ≡ first other → ⊥) → one ≡ other → ⊥
differs one other apart is = apart (ap first is)

pub fate_is_not_rx : (fate : Fate) → fate_word fate ≡ codes "rx" → ⊥
fate_is_not_rx Kept is = differs (codes "kept") (codes "rx") (λ e. omega (arith, e)) is
fate_is_not_rx Lost is = differs (codes "lost") (codes "rx") (λ e. omega (arith, e)) is

-- two fates have two words
pub one_fate : (one other : Fate) → fate_word one ≡ fate_word other → one ≡ other
one_fate Kept Kept is = refl
one_fate Kept Lost is = absurd (differs (codes "kept") (codes "lost") (λ e. omega (arith, e)) is)
one_fate Lost Kept is = absurd (differs (codes "lost") (codes "kept") (λ e. omega (arith, e)) is)
one_fate Lost Lost is = refl

-- no word that has nothing but the time after it says what became of a page
no_fate_of : (fate : Fate) (word : List ℕ) → (107 ≡ first word → ⊥) → (108 ≡ first word → ⊥) → fate_word fate ≡ word → ⊥
no_fate_of Kept word not_k not_l is = differs (codes "kept") word not_k is
no_fate_of Lost word not_k not_l is = differs (codes "lost") word not_l is

pub word_is_no_fate : (word : List ℕ) (said : Said) (fate : Fate) → IsWordOf word said → fate_word fate ≡ word → ⊥
word_is_no_fate word Quiet fate h is = no_fate_of fate (codes "quiet") (λ e. omega (arith, e)) (λ e. omega (arith, e)) (is ∙ h)
word_is_no_fate word Busy fate h is = no_fate_of fate (codes "busy") (λ e. omega (arith, e)) (λ e. omega (arith, e)) (is ∙ h)
word_is_no_fate word (Received channel kind bits octets) fate h is = h
word_is_no_fate word NotReady fate h is = no_fate_of fate (codes "not-ready") (λ e. omega (arith, e)) (λ e. omega (arith, e)) (is ∙ h)
word_is_no_fate word Ready fate h is = no_fate_of fate (codes "ready") (λ e. omega (arith, e)) (λ e. omega (arith, e)) (is ∙ h)
word_is_no_fate word Missed fate h is = no_fate_of fate (codes "missed") (λ e. omega (arith, e)) (λ e. omega (arith, e)) (is ∙ h)
word_is_no_fate word (Told told file) fate h is = h
word_is_no_fate word Stop fate h is = no_fate_of fate (codes "stop") (λ e. omega (arith, e)) (λ e. omega (arith, e)) (is ∙ h)
word_is_no_fate word End fate h is = no_fate_of fate (codes "end") (λ e. omega (arith, e)) (λ e. omega (arith, e)) (is ∙ h)

-- ---- the time and a file

pub no_told_word : (fate : Fate) (text : List ℕ) → HasNoSpace text → (timed : TimedLine) → ToldAfter fate text timed → ⊥
no_told_word fate text none timed (time, name, is, number, tells) = no_cut text time name none is

pub no_told_time : (fate : Fate) (text digits after : List ℕ) → HasNoSpace digits → text ≡ digits ++ 32 ∷ after →
    ((n : ℕ) → IsNumber 15 digits n → ⊥) → (timed : TimedLine) → ToldAfter fate text timed → ⊥
no_told_time fate text digits after solid cut none timed (time, name, is, number, tells) =
    none timed.at
    (subst (λ d. IsNumber 15 d timed.at) (same_cut text digits after time name solid cut (number_solid 15 time timed.at number) is).0 number)

module _ (line word after : List ℕ) (solid : HasNoSpace word) (cut : line ≡ word ++ 32 ∷ after) where
  word_cut : (first time : List ℕ) (timed : TimedLine) → line ≡ spaced (first ∷ time ∷ []) → IsWordOf first timed.said
      → (first ≡ word) × (time ≡ after)
  word_cut first time timed is says = same_cut line word after first time solid cut (word_solid first timed.said says) is

  rx_cut : (rest : List ℕ) → line ≡ spaced (codes "rx" ∷ rest ∷ []) → (codes "rx" ≡ word) × (rest ≡ after)
  rx_cut rest is = same_cut line word after (codes "rx") rest solid cut rx_solid is

  fate_cut : (fate : Fate) (rest : List ℕ) → line ≡ spaced (fate_word fate ∷ rest ∷ []) → (fate_word fate ≡ word) × (rest ≡ after)
  fate_cut fate rest is = same_cut line word after (fate_word fate) rest solid cut (fate_solid fate) is

  pub no_word_of : (word ≡ codes "rx" → ⊥) → ((fate : Fate) → word ≡ fate_word fate → ⊥) → ((said : Said) → IsWordOf word said → ⊥)
      → SaysNothing line
  no_word_of not_rx no_fate none timed h = elim h.words [
    | inl t ↦
        let same = word_cut t.0 t.1 timed t.2 t.3 in
        none timed.said (subst (λ w. IsWordOf w timed.said) same.0 t.3)
    | inr (inl r) ↦ not_rx (sym (rx_cut r.0 r.1).0)
    | inr (inr f) ↦ no_fate f.0 (sym (fate_cut f.0 f.1 f.2).0)
  ]

  pub no_time_after : (word ≡ codes "rx" → ⊥) → ((fate : Fate) → word ≡ fate_word fate → ⊥) → ((n : ℕ) → IsNumber 15 after n → ⊥)
      → SaysNothing line
  no_time_after not_rx no_fate none timed h = elim h.words [
    | inl t ↦
        let same = word_cut t.0 t.1 timed t.2 t.3 in
        none timed.at (subst (λ d. IsNumber 15 d timed.at) same.1 t.4)
    | inr (inl r) ↦ not_rx (sym (rx_cut r.0 r.1).0)
    | inr (inr f) ↦ no_fate f.0 (sym (fate_cut f.0 f.1 f.2).0)
  ]

  pub nothing_received : word ≡ codes "rx" → ((timed : TimedLine) → ReceivedAfter after timed → ⊥) → SaysNothing line
  nothing_received is_rx none timed h = elim h.words [
    | inl t ↦
        let same = word_cut t.0 t.1 timed t.2 t.3 in
        word_is_not_rx t.0 timed.said t.3 (same.0 ∙ is_rx)
    | inr (inl r) ↦ none timed (subst (λ b. ReceivedAfter b timed) (rx_cut r.0 r.1).1 r.2)
    | inr (inr f) ↦ fate_is_not_rx f.0 ((fate_cut f.0 f.1 f.2).0 ∙ is_rx)
  ]

  pub nothing_told : (fate : Fate) → word ≡ fate_word fate → ((timed : TimedLine) → ToldAfter fate after timed → ⊥) → SaysNothing line
  nothing_told fate is none timed h = elim h.words [
    | inl t ↦
        let same = word_cut t.0 t.1 timed t.2 t.3 in
        word_is_no_fate t.0 timed.said fate t.3 (sym is ∙ sym same.0)
    | inr (inl r) ↦ fate_is_not_rx fate (sym is ∙ sym (rx_cut r.0 r.1).0)
    | inr (inr f) ↦
        let same = fate_cut f.0 f.1 f.2 in
        none timed (subst (λ g. ToldAfter g after timed) (one_fate f.0 fate (same.0 ∙ is))
        (subst (λ b. ToldAfter f.0 b timed) same.1 f.3))
  ]

  pub says_received : length line ≤ 400000 → word ≡ codes "rx" → (timed : TimedLine) → ReceivedAfter after timed → Says line timed
  says_received most is_rx timed h =
      record { most = most; words = inr (inl (after, cut ∙ ap (λ w. w ++ 32 ∷ after) is_rx, h)) }

  pub says_told : (fate : Fate) → length line ≤ 400000 → word ≡ fate_word fate → (timed : TimedLine) → ToldAfter fate after timed
      → Says line timed
  says_told fate most is timed h =
      record { most = most; words = inr (inr (fate, after, cut ∙ ap (λ w. w ++ 32 ∷ after) is, h)) }

  pub says_timed : length line ≤ 400000 → (timed : TimedLine) → IsWordOf word timed.said → IsNumber 15 after timed.at → Says line timed
  says_timed most timed says number = record { most = most; words = inl (word, after, cut, says, number) }

-- what the readings of a line come to: the first is of a line that begins with `rx`
pub received_line : (R : Result TimedLine LineRefused) (line word after : List ℕ) → HasNoSpace word → line ≡ word ++ 32 ∷ after
    → length line ≤ 400000 → word ≡ codes "rx"
    → MatchResult R (ReceivedAfter after) (λ refused. refused ≡ NoLine → (timed : TimedLine) → ReceivedAfter after timed → ⊥)
    → MatchResult R (Says line) (λ refused. refused ≡ NoLine → SaysNothing line)
received_line (Ok timed) line word after solid cut most is_rx h = says_received line word after solid cut most is_rx timed h
received_line (Err refused) line word after solid cut most is_rx h = λ no. nothing_received line word after solid cut is_rx (h no)

-- the same of a line that begins with `kept` or `lost`
pub told_line : (R : Result TimedLine LineRefused) (line word after : List ℕ) (fate : Fate) → HasNoSpace word → line ≡ word ++ 32 ∷ after
    → length line ≤ 400000 → word ≡ fate_word fate
    → MatchResult R (ToldAfter fate after) (λ refused. refused ≡ NoLine → (timed : TimedLine) → ToldAfter fate after timed → ⊥)
    → MatchResult R (Says line) (λ refused. refused ≡ NoLine → SaysNothing line)
told_line (Ok timed) line word after fate solid cut most is h = says_told line word after solid cut fate most is timed h
told_line (Err refused) line word after fate solid cut most is h = λ no. nothing_told line word after solid cut fate is (h no)

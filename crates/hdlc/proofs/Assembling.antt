-- One bit more in an octet buffer.
use Rattle.std.proofs.Common.{◌≡◌, ℕ, suc, ◌+◌, ◌/◌, ◌%◌, ◌<◌, ◌≤◌, Bool, true, false, List, [], ◌∷◌, ◌++◌, length, take, cond, refl, ap}
use Rattle.std.proofs.Common.{sym, ◌∙◌, arith, nat_eq, nat_lt}
use Rattle.std.proofs.lemmas.List.{take-append-le, take_all, length-take, length-append, append-nil}
use Rattle.std.proofs.lemmas.Bool.{ne_eqb, eq-eqb, lt-ltb, le-ltb}
use Rattle.hdlc.specs.declared.octet_buffer.OctetBuffer.{OctetBuffer}
use Rattle.raster.specs.Octets.{number, octets_of}
use Rattle.hdlc.specs.OpenGap.{recent}
use Rattle.hdlc.specs.Assembles.{Assembles}
use Rattle.hdlc.proofs.UnstuffedLemmas.{octets_of-more, number-recent, length-more}

pub none_yet : (a : OctetBuffer) → a.part ≡ 0 → a.window ≡ 0 → a.whole.items ≡ [] → a.long ≡ false → Assembles a []
unfolding octets_of recent
none_yet a part window whole long = record { part = part; window = window; whole = whole; long = long }

window_more : (a : OctetBuffer) (bits : List Bool) (b : Bool) (w : ℕ) → Assembles a bits → w ≡ a.window / 2 + cond b 128 0
    → w ≡ number (recent false (bits ++ b ∷ []))
window_more a bits b w old e = e ∙ (ap (λ n. n / 2 + cond b 128 0) old.window ∙ sym (number-recent false bits b))

pub in_octet : (a new : OctetBuffer) (bits : List Bool) (b : Bool) → Assembles a bits → a.part < 7 → new.part ≡ a.part + 1
    → new.window ≡ a.window / 2 + cond b 128 0 → new.whole.items ≡ a.whole.items → new.long ≡ a.long → Assembles new (bits ++ b ∷ [])
in_octet a new bits b old few part window whole long =
    let is : a.part ≡ length bits % 8 = old.part in
    let size : length (bits ++ b ∷ []) ≡ suc (length bits) = length-more bits b in
    let isnt : nat_eq (length bits % 8) 7 ≡ false = ne_eqb (length bits % 8) 7 (λ e. omega arith) in
    let same : octets_of (bits ++ b ∷ []) ≡ octets_of bits = octets_of-more bits b ∙ (rw isnt (append-nil (octets_of bits))) in
    record {
      part = omega arith;
      window = window_more a bits b new.window old window;
      whole = whole ∙ (old.whole ∙ ap (take 302) (sym same));
      long = long ∙ (old.long ∙ ap (λ xs. nat_lt 302 (length xs)) (sym same));
    }

pub ends_octet : (bits : List Bool) (b : Bool) → length bits % 8 ≡ 7
    → octets_of (bits ++ b ∷ []) ≡ octets_of bits ++ number (recent false (bits ++ b ∷ [])) ∷ []
ends_octet bits b e = let is : nat_eq (length bits % 8) 7 ≡ true = eq-eqb (length bits % 8) 7 e in octets_of-more bits b ∙ (rw is refl)

pub past_octet : (a new : OctetBuffer) (bits : List Bool) (b : Bool) → Assembles a bits → 7 ≤ a.part → length a.whole.items ≡ 302
    → new.part ≡ 0 → new.window ≡ a.window / 2 + cond b 128 0 → new.whole.items ≡ a.whole.items → new.long ≡ true
    → Assembles new (bits ++ b ∷ [])
past_octet a new bits b old most full part window whole long =
    let is : a.part ≡ length bits % 8 = old.part in
    let size : length (bits ++ b ∷ []) ≡ suc (length bits) = length-more bits b in
    let more : octets_of (bits ++ b ∷ []) ≡ octets_of bits ++ number (recent false (bits ++ b ∷ [])) ∷ [] =
    ends_octet bits b (omega arith) in
    let kept : length (take 302 (octets_of bits)) ≡ 302 = sym (ap length old.whole) ∙ full in
    let room : 302 ≤ length (octets_of bits) = omega (arith, length-take 302 (octets_of bits)) in
    let count : length (octets_of bits ++ number (recent false (bits ++ b ∷ [])) ∷ []) ≡ length (octets_of bits) + 1 =
    length-append (octets_of bits) (number (recent false (bits ++ b ∷ [])) ∷ []) in
    record {
      part = omega arith;
      window = window_more a bits b new.window old window;
      whole = whole
          ∙ (old.whole ∙ (sym (take-append-le 302 (octets_of bits) (number (recent false (bits ++ b ∷ [])) ∷ []) room)
          ∙ ap (take 302) (sym more)));
      long = long ∙ (sym (lt-ltb 302 (length (octets_of bits ++ number (recent false (bits ++ b ∷ [])) ∷ [])) (omega arith))
          ∙ ap (λ xs. nat_lt 302 (length xs)) (sym more));
    }

pub one_octet : (a new : OctetBuffer) (bits : List Bool) (b : Bool) → Assembles a bits → 7 ≤ a.part → length a.whole.items < 302
    → new.part ≡ 0 → new.window ≡ a.window / 2 + cond b 128 0 → new.whole.items ≡ a.whole.items ++ new.window ∷ [] → new.long ≡ a.long
    → Assembles new (bits ++ b ∷ [])
one_octet a new bits b old most few part window whole long =
    let is : a.part ≡ length bits % 8 = old.part in
    let size : length (bits ++ b ∷ []) ≡ suc (length bits) = length-more bits b in
    let last : ℕ = number (recent false (bits ++ b ∷ [])) in
    let more : octets_of (bits ++ b ∷ []) ≡ octets_of bits ++ last ∷ [] = ends_octet bits b (omega arith) in
    let kept : length (take 302 (octets_of bits)) < 302 = rw (← old.whole) few in
    let room : length (octets_of bits) < 302 = omega (arith, length-take 302 (octets_of bits)) in
    let count : length (octets_of bits ++ last ∷ []) ≡ length (octets_of bits) + 1 = length-append (octets_of bits) (last ∷ []) in
    let shown : new.window ≡ last = window_more a bits b new.window old window in
    record {
      part = omega arith;
      window = shown;
      whole =
          whole ∙ (ap (λ xs. xs ++ new.window ∷ []) (old.whole ∙ take_all 302 (octets_of bits) (omega arith)) ∙
          (ap (λ w. octets_of bits ++ w ∷ []) shown
          ∙ (sym more ∙ sym (take_all 302 (octets_of (bits ++ b ∷ [])) (rw more (omega arith))))));
      long =
          long ∙ (old.long ∙ (le-ltb 302 (length (octets_of bits)) (omega arith) ∙
          (sym (le-ltb 302 (length (octets_of bits ++ last ∷ [])) (omega arith)) ∙ ap (λ xs. nat_lt 302 (length xs)) (sym more))));
    }

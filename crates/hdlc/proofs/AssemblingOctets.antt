-- Up to eight bits more in an octet buffer.
use Rattle.std.proofs.Common.{◌≡◌, ℕ, suc, ◌+◌, ◌-◌, ◌*◌, ◌/◌, ◌%◌, ◌^◌, ◌<◌, ◌≤◌, Bool, true, false, List, [], ◌∷◌, ◌++◌, length, take}
use Rattle.std.proofs.Common.{drop, map, refl, ap, sym, ◌∙◌, arith, nat_lt}
use Rattle.std.specs.List.{range_with_len}
use Rattle.std.proofs.lemmas.List.{take-append-le, take_all, length-take, length-append, drop-append-le, drop-drop, drop_at, map-append}
use Rattle.std.proofs.lemmas.List.{take-append-drop, length-take-le, length-drop}
use Rattle.std.proofs.lemmas.Bool.{lt-ltb, le-ltb}
use Rattle.std.proofs.lemmas.Nat.{div-mul-add}
use Rattle.hdlc.specs.declared.octet_buffer.OctetBuffer.{OctetBuffer}
use Rattle.raster.specs.Octets.{number, octet_at, octets_of}
use Rattle.hdlc.specs.OpenGap.{recent}
use Rattle.hdlc.specs.Assembles.{Assembles}
use Rattle.hdlc.proofs.Flags.{range_more, length-recent}
use Rattle.hdlc.proofs.UnstuffedLemmas.{octet_at-append, map_range_agree, number-append, number_fits}

-- the last eight bits are the eight that came
pub recent_after : (fill : Bool) (bits eight : List Bool) → length eight ≡ 8 → recent fill (bits ++ eight) ≡ eight
unfolding recent
recent_after fill bits eight h =
    let size : length (bits ++ eight) ≡ 8 + length bits = length-append bits eight ∙ omega arith in
    let long : List Bool = fill ∷ fill ∷ fill ∷ fill ∷ fill ∷ fill ∷ fill ∷ fill ∷ (bits ++ eight) in
    ap (λ n. drop n long) size ∙ (sym (drop-drop (length bits) 8 long) ∙ drop_at bits eight (length bits) refl)

-- the bits past the whole octets are at the end of the last eight
pub tail_is : (bits eight : List Bool) → drop (8 * (length bits / 8)) (bits ++ eight) ≡ drop (8 - length bits % 8) (recent false bits ++ eight)
unfolding recent
tail_is bits eight =
    let n : ℕ = length bits in
    let whole : List Bool = false ∷ false ∷ false ∷ false ∷ false ∷ false ∷ false ∷ false ∷ bits in
    let long : List Bool = false ∷ false ∷ false ∷ false ∷ false ∷ false ∷ false ∷ false ∷ (bits ++ eight) in
    let front : drop n whole ++ eight ≡ drop n long = sym (drop-append-le n whole eight (omega arith)) in
    let places : n + (8 - n % 8) ≡ 8 + 8 * (n / 8) = omega arith in
    sym (ap (drop (8 - n % 8)) front
    ∙ (drop-drop (8 - n % 8) n long ∙ (ap (λ k. drop k long) places ∙ sym (drop-drop (8 * (n / 8)) 8 long))))

-- the last eight bits, with up to eight more
recent-append : (fill : Bool) (bits more : List Bool) → recent fill (bits ++ more) ≡ drop (length more) (recent fill bits ++ more)
unfolding recent
recent-append fill bits more =
    let n : ℕ = length bits in
    let whole : List Bool = fill ∷ fill ∷ fill ∷ fill ∷ fill ∷ fill ∷ fill ∷ fill ∷ bits in
    let long : List Bool = fill ∷ fill ∷ fill ∷ fill ∷ fill ∷ fill ∷ fill ∷ fill ∷ (bits ++ more) in
    let front : drop n whole ++ more ≡ drop n long = sym (drop-append-le n whole more (omega arith)) in
    let size : length (bits ++ more) ≡ n + length more = length-append bits more in
    ap (λ k. drop k long) size ∙ (sym (drop-drop (length more) n long) ∙ ap (drop (length more)) (sym front))

-- no octet more, where they are too few
pub octets_of-few : (bits more : List Bool) → length bits % 8 + length more < 8 → octets_of (bits ++ more) ≡ octets_of bits
unfolding octets_of
octets_of-few bits more h =
    let size : length (bits ++ more) ≡ length bits + length more = length-append bits more in
    let count : length (bits ++ more) / 8 ≡ length bits / 8 = omega arith in
    ap (λ m. map (octet_at (bits ++ more)) (range_with_len 0 m)) count
    ∙ map_range_agree (octet_at (bits ++ more)) (octet_at bits) (length bits / 8) (λ i h. octet_at-append bits more i (omega arith))

-- an octet more, where they fill it
pub octets_of-eight : (bits eight : List Bool) → length eight ≤ 8 → 8 ≤ length bits % 8 + length eight
    → octets_of (bits ++ eight) ≡ octets_of bits ++ number (take 8 (drop (8 - length bits % 8) (recent false bits ++ eight))) ∷ []
unfolding octets_of
octets_of-eight bits eight few fill =
    let size : length (bits ++ eight) ≡ length bits + length eight = length-append bits eight in
    let count : length (bits ++ eight) / 8 ≡ suc (length bits / 8) = omega arith in
    let next : 0 + length bits / 8 ≡ length bits / 8 = omega arith in
    ap (λ m. map (octet_at (bits ++ eight)) (range_with_len 0 m)) count ∙
    (ap (map (octet_at (bits ++ eight))) (range_more 0 (length bits / 8) ∙ ap (λ j. range_with_len 0 (length bits / 8) ++ j ∷ []) next) ∙
    (map-append (octet_at (bits ++ eight)) (range_with_len 0 (length bits / 8)) (length bits / 8 ∷ []) ∙
    (ap (λ xs. xs ++ octet_at (bits ++ eight) (length bits / 8) ∷ []) same ∙
    ap (λ xs. map (octet_at bits) (range_with_len 0 (length bits / 8)) ++ number (take 8 xs) ∷ []) (tail_is bits eight))))
  where
    same : map (octet_at (bits ++ eight)) (range_with_len 0 (length bits / 8)) ≡ map (octet_at bits) (range_with_len 0 (length bits / 8))
    same = map_range_agree (octet_at (bits ++ eight)) (octet_at bits) (length bits / 8)
        (λ i h. octet_at-append bits eight i (omega arith))

-- bits without their first ones, as numbers
pub number_drop : (xs : List Bool) (m : ℕ) → m ≤ length xs → number (drop m xs) ≡ number xs / 2 ^ m
number_drop xs m h =
    let size : length (take m xs) ≡ m = length-take-le m xs h in
    let rest : List Bool = drop m xs in
    let low : number (take m xs) < 2 ^ m = number_fits (take m xs) m (omega arith) in
    let swap : number (take m xs) + number rest * 2 ^ m ≡ number rest * 2 ^ m + number (take m xs) = omega arith in
    let whole : number xs ≡ number rest * 2 ^ m + number (take m xs) =
    ap number (sym (take-append-drop m xs)) ∙ (number-append (take m xs) rest m size ∙ swap) in
    sym (ap (λ n. n / 2 ^ m) whole ∙ div-mul-add (number rest) (2 ^ m) (number (take m xs)) low)

-- eight bits inside others, as numbers
pub number_inside : (xs : List Bool) (m : ℕ) → m + 8 ≤ length xs → number (take 8 (drop m xs)) ≡ number xs / 2 ^ m % 256
number_inside xs m h =
    let rest : List Bool = drop m xs in
    let room : 8 ≤ length rest = rw length-drop (omega arith) in
    let high : number rest ≡ number xs / 2 ^ m = number_drop xs m (omega arith) in
    let eight : length (take 8 rest) ≡ 8 = length-take-le 8 rest room in
    let part : number (take 8 rest) < 256 = number_fits (take 8 rest) 8 (omega arith) in
    let split : number rest ≡ number (take 8 rest) + number (drop 8 rest) * 256 =
    ap number (sym (take-append-drop 8 rest)) ∙ number-append (take 8 rest) (drop 8 rest) 8 eight in
    sym (ap (λ n. n % 256) (sym high) ∙ omega arith)

completed_is : (a : OctetBuffer) (bits eight : List Bool) (o x : ℕ) → Assembles a bits → 8 ≤ length bits % 8 + length eight
    → number eight ≡ o → x ≡ (o * 256 + a.window) / 2 ^ (8 - a.part % 8) % 256
    → number (take 8 (drop (8 - length bits % 8) (recent false bits ++ eight))) ≡ x
completed_is a bits eight o x old fill e is =
    let part : a.part ≡ length bits % 8 = old.part in
    let shift : 8 - length bits % 8 ≡ 8 - a.part % 8 = omega arith in
    let eight_recent : length (recent false bits) ≡ 8 = length-recent false bits in
    let room : 8 - length bits % 8 + 8 ≤ length (recent false bits ++ eight) = rw length-append (omega arith) in
    let window : number (recent false bits) ≡ a.window = sym old.window in
    let both : number (recent false bits ++ eight) ≡ o * 256 + a.window =
    number-append (recent false bits) eight 8 eight_recent ∙ (rw (window, e) (omega arith)) in
    number_inside (recent false bits ++ eight) (8 - length bits % 8) room
    ∙ (ap (λ n. n / 2 ^ (8 - length bits % 8) % 256) both ∙ (ap (λ s. (o * 256 + a.window) / 2 ^ s % 256) shift ∙ sym is))

-- the register of the last eight bits, with up to eight more
pub window_more : (bits more : List Bool) (v old w : ℕ) → old ≡ number (recent false bits) → number more ≡ v
    → w ≡ (v * 256 + old) / 2 ^ length more % 256 → w ≡ number (recent false (bits ++ more))
window_more bits more v old w was e is =
    let eight : length (recent false bits) ≡ 8 = length-recent false bits in
    let size : length (recent false bits ++ more) ≡ 8 + length more = length-append (recent false bits) more ∙ omega arith in
    let left : List Bool = drop (length more) (recent false bits ++ more) in
    let rest : length left ≤ 8 = rw length-drop (omega arith) in
    let window : number (recent false bits) ≡ old = sym was in
    let both : number (recent false bits ++ more) ≡ v * 256 + old =
    number-append (recent false bits) more 8 eight ∙ (rw (window, e) (omega arith)) in
    is ∙ (sym (ap (λ n. n / 2 ^ length more % 256) both)
    ∙ (sym (number_inside (recent false bits ++ more) (length more) (omega arith))
    ∙ (ap number (take_all 8 left rest) ∙ sym (ap number (recent-append false bits more)))))

window_is : (a : OctetBuffer) (bits more : List Bool) (v w : ℕ) → Assembles a bits → length more ≤ 8 → number more ≡ v
    → w ≡ (v * 256 + a.window) / 2 ^ length more % 256 → w ≡ number (recent false (bits ++ more))
window_is a bits more v w old few e is = window_more bits more v a.window w old.window e is

-- no octet is whole
pub bits_kept : (a new : OctetBuffer) (bits more : List Bool) (v : ℕ) → Assembles a bits → length more ≤ 8 → number more ≡ v
    → a.part % 8 + length more < 8 → new.part ≡ a.part % 8 + length more → new.window ≡ (v * 256 + a.window) / 2 ^ length more % 256
    → new.whole.items ≡ a.whole.items → new.long ≡ a.long → Assembles new (bits ++ more)
bits_kept a new bits more v old h e few part window whole long =
    let was : a.part ≡ length bits % 8 = old.part in
    let size : length (bits ++ more) ≡ length bits + length more = length-append bits more in
    let same : octets_of (bits ++ more) ≡ octets_of bits = octets_of-few bits more (omega arith) in
    record {
      part = omega arith;
      window = window_is a bits more v new.window old h e window;
      whole = whole ∙ (old.whole ∙ ap (take 302) (sym same));
      long = long ∙ (old.long ∙ ap (λ xs. nat_lt 302 (length xs)) (sym same));
    }

-- there is room for the octet
pub octet_kept : (a new : OctetBuffer) (bits eight : List Bool) (o x : ℕ) → Assembles a bits → length eight ≤ 8 → number eight ≡ o
    → 8 ≤ a.part % 8 + length eight → x ≡ (o * 256 + a.window) / 2 ^ (8 - a.part % 8) % 256 → new.part ≡ a.part % 8 + length eight - 8
    → new.window ≡ (o * 256 + a.window) / 2 ^ length eight % 256 → length a.whole.items < 302
    → new.whole.items ≡ a.whole.items ++ x ∷ [] → new.long ≡ a.long → Assembles new (bits ++ eight)
octet_kept a new bits eight o x old h e fill is part window few whole long =
    let was : a.part ≡ length bits % 8 = old.part in
    let size : length (bits ++ eight) ≡ length bits + length eight = length-append bits eight in
    let full : 8 ≤ length bits % 8 + length eight = omega arith in
    let more : octets_of (bits ++ eight) ≡ octets_of bits ++ x ∷ [] =
    octets_of-eight bits eight h full ∙ ap (λ w. octets_of bits ++ w ∷ []) (completed_is a bits eight o x old full e is) in
    let kept : length (take 302 (octets_of bits)) < 302 = rw (← old.whole) few in
    let room : length (octets_of bits) < 302 = omega (arith, length-take 302 (octets_of bits)) in
    let count : length (octets_of bits ++ x ∷ []) ≡ length (octets_of bits) + 1 = length-append (octets_of bits) (x ∷ []) in
    record {
      part = omega arith;
      window = window_is a bits eight o new.window old h e window;
      whole =
          whole ∙ (ap (λ xs. xs ++ x ∷ []) (old.whole ∙ take_all 302 (octets_of bits) (omega arith)) ∙
          (sym more ∙ sym (take_all 302 (octets_of (bits ++ eight)) (rw more (omega arith)))));
      long =
          long ∙ (old.long ∙ (le-ltb 302 (length (octets_of bits)) (omega arith) ∙
          sym (le-ltb 302 (length (octets_of (bits ++ eight))) (rw more (omega arith)))));
    }

-- there is none
pub octet_past : (a new : OctetBuffer) (bits eight : List Bool) (o : ℕ) → Assembles a bits → length eight ≤ 8 → number eight ≡ o
    → 8 ≤ a.part % 8 + length eight → new.part ≡ a.part % 8 + length eight - 8
    → new.window ≡ (o * 256 + a.window) / 2 ^ length eight % 256 → length a.whole.items ≡ 302
    → new.whole.items ≡ a.whole.items → new.long ≡ true → Assembles new (bits ++ eight)
octet_past a new bits eight o old h e fill part window full whole long =
    let was : a.part ≡ length bits % 8 = old.part in
    let size : length (bits ++ eight) ≡ length bits + length eight = length-append bits eight in
    let last : ℕ = number (take 8 (drop (8 - length bits % 8) (recent false bits ++ eight))) in
    let more : octets_of (bits ++ eight) ≡ octets_of bits ++ last ∷ [] = octets_of-eight bits eight h (omega arith) in
    let kept : length (take 302 (octets_of bits)) ≡ 302 = sym (ap length old.whole) ∙ full in
    let room : 302 ≤ length (octets_of bits) = omega (arith, length-take 302 (octets_of bits)) in
    let count : length (octets_of bits ++ last ∷ []) ≡ length (octets_of bits) + 1 = length-append (octets_of bits) (last ∷ []) in
    record {
      part = omega arith;
      window = window_is a bits eight o new.window old h e window;
      whole = whole ∙ (old.whole ∙ (sym (take-append-le 302 (octets_of bits) (last ∷ []) room) ∙ ap (take 302) (sym more)));
      long = long ∙ (sym (lt-ltb 302 (length (octets_of bits ++ last ∷ [])) (omega arith)) ∙ ap (λ xs. nat_lt 302 (length xs)) (sym more));
    }

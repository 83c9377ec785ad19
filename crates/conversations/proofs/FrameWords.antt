-- Frames in a line as their contents: how they are cut and read.
use Rattle.std.proofs.Common.{◌≡◌, ◌≢◌, ◌<◌, ℕ, zero, suc, Bool, true, List, [], ◌∷◌, ◌++◌, Ok, length, drop, codes}
use Rattle.std.proofs.Common.{Err, MatchResult, Result, get_or, refl, ap, sym, ◌∙◌, subst, arith, inl, inr, append_assoc}
use Rattle.std.proofs.lemmas.List.{append-nil}
use Rattle.std.proofs.lemmas.List.Elements.{All-head, All-tail}
use Rattle.std.specs.List.{AllPass}
use Rattle.hdlc.specs.Frames.{IsFrame}
use Rattle.hdlc.proofs.OneFrame.{one_frame}
use Rattle.hex.specs.Hex.{is_hex_digit}
use Rattle.hex.proofs.HexLemmas.{decode_of-ok}
use Rattle.raster.specs.Octets.{AreOctets, packed}
use Rattle.raster.specs.Packed.{Bits, FillsOctets}
use Rattle.raster.specs.declared.packed.Order.TheVariants.{LsbFirst}
use Rattle.raster.proofs.OctetLemmas.{packed_is}
use Rattle.run_tables.specs.Written.{Appends}
use Rattle.conversations.specs.FrameLines.{AreCoded, AreFrames, EndsWord, FrameComes, IsContent, NoFrameComes, SaysNoFrames}
use Rattle.conversations.specs.Lines.{HasCome, HasNoSpace, IsBurst, channel_name, kind_name}
use Rattle.conversations.specs.declared.carrier.Channel.{Channel}
use Rattle.conversations.specs.declared.carrier.Channel.TheVariants.{V21}
use Rattle.conversations.specs.declared.carrier.Kind.{Kind}
use Rattle.conversations.specs.declared.carrier.Kind.TheVariants.{Frames, Check}
use Rattle.conversations.specs.declared.line.Burst.{Burst}
use Rattle.conversations.specs.declared.line.LineRefused.{LineRefused}
use Rattle.conversations.specs.declared.line.LineRefused.TheVariants.{NoLine}
use Rattle.conversations.proofs.Words.{channel_solid, ok_is, same_cut}

-- ---- words

-- hexadecimal digits have no space
digits_solid : (s : List ℕ) → AllPass is_hex_digit s → HasNoSpace s
digits_solid [] h k l = absurd (omega (arith, l))
digits_solid (x ∷ xs) h zero l = λ e.
    let digit : is_hex_digit 32 ≡ true = subst (λ c. is_hex_digit c ≡ true) e (All-head (λ c. is_hex_digit c ≡ true) x xs h) in cc
digits_solid (x ∷ xs) h (suc k) l =
    digits_solid xs (All-tail (λ c. is_hex_digit c ≡ true) x xs h) k (omega (arith, l))

content_solid : (word content : List ℕ) → IsContent word content → HasNoSpace word
content_solid word content h = digits_solid word (decode_of-ok word content h.hex_is).1

-- a word with no space ends where a space is, or at the end
no_word_ends : (x : ℕ) (xs : List ℕ) → x ≢ 32 → EndsWord (x ∷ xs) → ⊥
no_word_ends x xs other (inl none) = cc
no_word_ends x xs other (inr space) = other (ap (λ l. get_or l 0 0) space)

-- octets are cut in one way into a word and what ends it
pub cut_same : (a b x y : List ℕ) → HasNoSpace a → HasNoSpace b → EndsWord x → EndsWord y → a ++ x ≡ b ++ y → (a ≡ b) × (x ≡ y)
cut_same [] [] x y ha hb ex ey is = (refl, is)
cut_same [] (b ∷ bs) x y ha hb ex ey is = absurd (no_word_ends b (bs ++ y) (hb 0 (omega arith)) (subst EndsWord is ex))
cut_same (a ∷ tail) [] x y ha hb ex ey is = absurd (no_word_ends a (tail ++ x) (ha 0 (omega arith)) (subst EndsWord (sym is) ey))
cut_same (a ∷ tail) (b ∷ bs) x y ha hb ex ey is =
    let head : a ≡ b = ap (λ t. get_or t 0 0) is in
    let rest =
    cut_same tail bs x y (λ k l. ha (suc k) (omega (arith, l))) (λ k l. hb (suc k) (omega (arith, l))) ex ey (ap (drop 1) is) in
    (rw (head, rest.0) refl, rest.1)

-- ---- the first frame

-- the octets with which a frame comes are those that were cut
pub first_cut : (text word after content other : List ℕ) (frame : List Bool) → text ≡ 32 ∷ (word ++ after) → HasNoSpace word →
    EndsWord after → (h : FrameComes text content other frame) → (h.word ≡ word) × (other ≡ after)
first_cut text word after content other frame cut solid ends h =
    cut_same h.word word other after (content_solid h.word content h.says) solid h.ends ends (ap (drop 1) (sym h.cut ∙ cut))

-- no frame comes without a space before it
pub no_space : (text : List ℕ) → ((rest : List ℕ) → text ≢ 32 ∷ [] ++ rest) → NoFrameComes text
no_space text none content after frame h = none (h.word ++ after) h.cut

-- nor where the word is no content
pub no_content_comes : (text rest word after : List ℕ) → text ≡ 32 ∷ [] ++ rest → rest ≡ word ++ after → HasNoSpace word →
    EndsWord after → ((content : List ℕ) → IsContent word content → ⊥) → NoFrameComes text
no_content_comes text rest word after space cut solid ends none content other frame h =
    let same = first_cut text word after content other frame (space ∙ ap (λ l. 32 ∷ l) cut) solid ends h in
    none content (subst (λ w. IsContent w content) same.0 h.says)

-- a content and its frame
pub one_comes : (text rest word after content : List ℕ) (frame : List Bool) → text ≡ 32 ∷ [] ++ rest → rest ≡ word ++ after →
    EndsWord after → IsContent word content → IsFrame content frame → FrameComes text content after frame
one_comes text rest word after content frame space cut ends says coded =
    record { word = word; cut = space ∙ ap (λ l. 32 ∷ l) cut; ends = ends; says = says; coded = coded }

-- ---- all frames

-- frames were read and written: with those of the octets that are left they are those of all, and there are no others
pub record FramesLeft (text rest : List ℕ) (start now : Bits) : Type 0 where
  pub done : List Bool
  pub is : Appends done start now
  pub whole : (contents : List (List ℕ)) (bits : List Bool) → AreFrames contents rest bits →
      (all : List (List ℕ)) × AreFrames all text (done ++ bits)
  pub back : (contents : List (List ℕ)) (bits : List Bool) → AreFrames contents text bits →
      (left : List (List ℕ)) × (tail : List Bool) × AreFrames left rest tail

pub none_read : (text : List ℕ) (start : Bits) → FramesLeft text text start start
none_read text start = record {
  done = [];
  is = ap (λ (l : List Bool). record start { bits = l }) (sym (append-nil start.bits));
  whole = λ contents bits are. (contents, are);
  back = λ contents bits are. (contents, bits, are);
}

-- the frames after the first one
after_first : (rest content after : List ℕ) (frame : List Bool) → FrameComes rest content after frame → (left : List (List ℕ))
    (tail : List Bool) → AreFrames left rest tail → (more : List (List ℕ)) × (end : List Bool) × AreFrames more after end
after_first rest content after frame h [] tail are = let e : 32 ∷ (h.word ++ after) ≡ [] = sym h.cut ∙ are.0 in cc
after_first rest content after frame h (one ∷ left) tail (other, bits, end, comes, are, is) =
    let same =
    first_cut rest h.word after one other bits h.cut (content_solid h.word content h.says) h.ends comes in
    (left, end, subst (λ text. AreFrames left text end) same.1 are)

pub one_read : (text rest content after : List ℕ) (frame : List Bool) (start now next : Bits) → FramesLeft text rest start now →
    FrameComes rest content after frame → Appends frame now next → FramesLeft text after start next
one_read text rest content after frame start now next h comes wrote = record {
  done = h.done ++ frame;
  is =
      wrote ∙ (ap (λ (w : Bits). record w { bits = w.bits ++ frame }) h.is ∙
      ap (λ (l : List Bool). record start { bits = l }) (append_assoc start.bits h.done frame));
  whole = λ contents bits are.
      let all = h.whole (content ∷ contents) (frame ++ bits) (after, frame, bits, comes, are, refl) in
      (all.0, subst (AreFrames all.0 text) (sym (append_assoc h.done frame bits)) all.1);
  back = λ contents bits are.
      let left = h.back contents bits are in after_first rest content after frame comes left.0 left.1 left.2;
}

pub all_read : (text rest : List ℕ) (start now : Bits) → rest ≡ [] → FramesLeft text rest start now →
    (contents : List (List ℕ)) × (bits : List Bool) × AreFrames contents text bits × Appends bits start now
all_read text rest start now none h =
    let all = h.whole [] [] (none, refl) in
    (all.0, h.done, subst (AreFrames all.0 text) (append-nil h.done) all.1, h.is)

-- a list of no octets is empty
pub empty_is : (xs : List ℕ) → length xs ≡ 0 → xs ≡ []
empty_is [] e = refl
empty_is (x ∷ xs) e = absurd (omega (arith, e))

pub none_left : (text rest : List ℕ) (start now : Bits) → (rest ≡ [] → ⊥) → NoFrameComes rest → FramesLeft text rest start now →
    SaysNoFrames text
none_left text rest start now some none h contents bits are =
    let left = h.back contents bits are in by left.0 left.1 left.2
  where
    by : (left : List (List ℕ)) (tail : List Bool) → AreFrames left rest tail → ⊥
    by [] tail are = some are.0
    by (one ∷ left) tail (after, frame, end, comes, are, is) = none one after frame comes

-- octets get shorter by a frame
pub shorter : (text content after : List ℕ) (frame : List Bool) → FrameComes text content after frame → length after < length text
shorter text content after frame h = rw h.cut (by h.word)
  where
    by : (word : List ℕ) → length after < length (32 ∷ (word ++ after))
    by [] = omega arith
    by (x ∷ word) = let rest = by word in omega (arith, rest)

-- ---- a burst

pub are_coded : (text : List ℕ) (contents : List (List ℕ)) (bits : List Bool) (old new : Bits) (octets : List ℕ) (count : ℕ) →
    AreFrames contents text bits → Appends bits old new → old ≡ record { order = LsbFirst; bits = [] } → count ≡ length new.bits →
    FillsOctets new.order new.bits octets → AreOctets octets → AreCoded text count octets
are_coded text contents bits old new octets count are wrote none count_is fills small =
    let all : new.bits ≡ bits = ap (λ (w : Bits). w.bits) wrote ∙ ap (λ (w : Bits). w.bits ++ bits) none in
    let order : new.order ≡ LsbFirst = ap (λ (w : Bits). w.order) wrote ∙ ap (λ (w : Bits). w.order) none in
    record {
      contents = contents;
      bits = bits;
      frames = are;
      count_is = count_is ∙ ap length all;
      octets_are =
          packed_is bits octets
          (subst (λ l. FillsOctets LsbFirst l octets) all (subst (λ o. FillsOctets o new.bits octets) order fills))
          small;
    }

pub no_frames : (text : List ℕ) → SaysNoFrames text → (count : ℕ) (octets : List ℕ) → AreCoded text count octets → ⊥
no_frames text none count octets h = none h.contents h.bits h.frames

-- contents say one number of bits and one list of octets
one_content : (word one other : List ℕ) → IsContent word one → IsContent word other → one ≡ other
one_content word one other h k = ok_is one other _ h.hex_is k.hex_is

pub same_frames : (contents others : List (List ℕ)) (text : List ℕ) (bits more : List Bool) → AreFrames contents text bits →
    AreFrames others text more → (contents ≡ others) × (bits ≡ more)
same_frames [] [] text bits more h k = (refl, h.1 ∙ sym k.1)
same_frames [] (c ∷ cs) text bits more h (after, frame, rest, comes, are, is) =
    let e : [] ≡ 32 ∷ (comes.word ++ after) = sym h.0 ∙ comes.cut in cc
same_frames (c ∷ cs) [] text bits more (after, frame, rest, comes, are, is) k =
    let e : [] ≡ 32 ∷ (comes.word ++ after) = sym k.0 ∙ comes.cut in cc
same_frames (c ∷ cs) (d ∷ ds) text bits more (after, frame, rest, comes, are, is) (after', frame', rest', comes', are', is') =
    let same =
    first_cut text comes'.word after' c after frame comes'.cut (content_solid comes'.word d comes'.says) comes'.ends comes in
    let content : c ≡ d =
    one_content comes'.word c d (subst (λ w. IsContent w c) same.0 comes.says) comes'.says in
    let coded : frame ≡ frame' = one_frame d frame frame' (subst (λ x. IsFrame x frame) content comes.coded) comes'.coded in
    let others = same_frames cs ds after' rest rest' (subst (λ t. AreFrames cs t rest) same.1 are) are' in (
      rw (content, others.0) refl,
      is ∙ (ap (λ l. l ++ rest) coded ∙ (ap (λ l. frame' ++ l) others.1 ∙ sym is')),
    )

pub one_coded : (text : List ℕ) (n m : ℕ) (xs ys : List ℕ) → AreCoded text n xs → AreCoded text m ys → (n ≡ m) × (xs ≡ ys)
one_coded text n m xs ys h k =
    let same = (same_frames h.contents k.contents text h.bits k.bits h.frames k.frames).1 in
    (h.count_is ∙ (ap length same ∙ sym k.count_is), h.octets_are ∙ (ap packed same ∙ sym k.octets_are))

-- ---- in bits or as contents

-- what begins as frames says no burst in bits
pub not_in_bits : (text after : List ℕ) (channel : Channel) (kind : Kind) (count : ℕ) (octets : List ℕ) →
    text ≡ codes "v21 frames" ++ after → IsBurst text channel kind count octets → ⊥
not_in_bits text after channel kind count octets begins (rest, is, bits) =
    let cut =
    same_cut text (channel_name channel) (kind_name kind ++ 32 ∷ rest) (codes "v21") (codes "frames" ++ after) (channel_solid channel) is
    (channel_solid V21) begins in
    by kind cut.1
  where
    by : (kind : Kind) → codes "frames" ++ after ≡ kind_name kind ++ 32 ∷ rest → ⊥
    by Frames e = let h : 102 ≡ 104 = ap (λ l. get_or l 0 0) e in absurd (omega (arith, h))
    by Check e = let h : 102 ≡ 114 = ap (λ l. get_or l 0 0) e in absurd (omega (arith, h))

pub same_after : (text one other : List ℕ) → text ≡ codes "v21 frames" ++ one → text ≡ codes "v21 frames" ++ other → one ≡ other
same_after text one other h k = ap (drop 10) (sym h ∙ k)

pub come_in_frames : (text after octets : List ℕ) (count : ℕ) → text ≡ codes "v21 frames" ++ after → AreCoded after count octets →
    HasCome text V21 Frames count octets
come_in_frames text after octets count begins coded =
    inr (record { by_v21 = refl; as_frames = refl; after = after; text_is = begins; coded = coded })

pub none_come_in_frames : (text after : List ℕ) → text ≡ codes "v21 frames" ++ after →
    ((count : ℕ) (octets : List ℕ) → AreCoded after count octets → ⊥) → (channel : Channel) (kind : Kind) (count : ℕ)
    (octets : List ℕ) → HasCome text channel kind count octets → ⊥
none_come_in_frames text after begins none channel kind count octets (inl bits) =
    not_in_bits text after channel kind count octets begins bits
none_come_in_frames text after begins none channel kind count octets (inr h) =
    none count octets (subst (λ t. AreCoded t count octets) (same_after text h.after after h.text_is begins) h.coded)

pub none_come_in_bits : (text : List ℕ) → ((rest : List ℕ) → text ≢ codes "v21 frames" ++ rest) →
    ((channel : Channel) (kind : Kind) (count : ℕ) (octets : List ℕ) → IsBurst text channel kind count octets → ⊥) →
    (channel : Channel) (kind : Kind) (count : ℕ) (octets : List ℕ) → HasCome text channel kind count octets → ⊥
none_come_in_bits text other none channel kind count octets (inl bits) = none channel kind count octets bits
none_come_in_bits text other none channel kind count octets (inr h) = other h.after h.text_is

-- what the reading of a burst in bits comes to, where the text doesn't begin as frames
pub in_bits : (R : Result Burst LineRefused) (text : List ℕ) → ((rest : List ℕ) → text ≢ codes "v21 frames" ++ rest) →
    MatchResult R (λ burst. IsBurst text burst.channel burst.kind burst.content.count burst.content.octets.items)
    (λ refused. refused ≡ NoLine → (channel : Channel) (kind : Kind) (count : ℕ) (octets : List ℕ) →
    IsBurst text channel kind count octets → ⊥) →
    MatchResult R (λ burst. HasCome text burst.channel burst.kind burst.content.count burst.content.octets.items)
    (λ refused. refused ≡ NoLine → (channel : Channel) (kind : Kind) (count : ℕ) (octets : List ℕ) →
    HasCome text channel kind count octets → ⊥)
in_bits (Ok burst) text other h = inl h
in_bits (Err refused) text other h = λ no. none_come_in_bits text other (h no)

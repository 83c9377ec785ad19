-- What a line says by contents is heard as these contents, and what is sent so is read.
use Rattle.std.proofs.Common.{◌≡◌, ◌<◌, ◌≤◌, ◌-◌, ℕ, zero, suc, Bool, true, false, List, [], ◌∷◌, ◌++◌, Ok, length, take, drop}
use Rattle.std.proofs.Common.{codes, cond, map, replicate, refl, ap, sym, ◌∙◌, subst, arith, inl, inr, append_assoc, length-take-le, nat_eq, nat_lt, not, ◌%◌}
use Rattle.std.specs.List.{filter}
use Rattle.std.proofs.lemmas.List.{append-nil, drop_at}
use Rattle.std.proofs.lemmas.Bool.{ltb-false}
use Rattle.hdlc.specs.Flags.{flag, flags, gaps}
use Rattle.hdlc.specs.Fcs.{check_bits, check_octets, fcs_of}
use Rattle.hdlc.specs.Frames.{IsFrame, IsReady}
use Rattle.hdlc.specs.Gaps.{checks, class_of, content as content_of, good, has_six, is_class, octets_in, unstuffed}
use Rattle.hdlc.specs.Stuffing.{stuffed_from, run_after_all}
use Rattle.hdlc.specs.Writing.{IsWriting}
use Rattle.hdlc.specs.declared.counts.Class.TheVariants.{Good, Aborted, Ragged, Short, Long, Damaged}
use Rattle.hdlc.proofs.DeframerPartsLemmas.{good_only}
use Rattle.hdlc.proofs.Division.{check_octets_are, fcs_is}
use Rattle.hdlc.proofs.FrameGrowsLemmas.{frame_grows}
use Rattle.hdlc.proofs.FrameLemmas.{whole_frame}
use Rattle.hdlc.proofs.WritingOctets.{writes_first, writes_octet}
use Rattle.hex.specs.Hex.{decode_of, decode_pairs, encode_upper, encode_with}
use Rattle.hex.proofs.HexLemmas.{decode_of-encode_upper}
use Rattle.raster.specs.Octets.{AreOctets, fill_of, octets_of, packed}
use Rattle.raster.specs.Packed.{bits_in, bits_of}
use Rattle.raster.specs.declared.packed.Order.TheVariants.{LsbFirst}
use Rattle.raster.proofs.OctetBits.{bits_of-append}
use Rattle.raster.proofs.OctetLemmas.{are_octets-octets_of, bits_of-packed}
use Rattle.run_tables.specs.Codes.{text}
use Rattle.terminals.specs.Hearing.{contents, new_contents}
use Rattle.conversations.proofs.OneLine.{are_bytes}
use Rattle.conversations.specs.FrameLineLaws.{ContentsAreHeard, FramesByOctets, ReadsFramesSent}
use Rattle.conversations.specs.FrameLines.{AreCoded, AreFrames, EndsWord, FrameComes, contents_text}
use Rattle.conversations.specs.LineLaws.{plain_said, received}
use Rattle.conversations.specs.Lines.{HasCome, IsReceived, spaced}
use Rattle.conversations.specs.Writing.{frames_words}
use Rattle.conversations.specs.declared.carrier.Channel.TheVariants.{V21}
use Rattle.conversations.specs.declared.carrier.Kind.TheVariants.{Frames}
use Rattle.conversations.specs.declared.line.Said.{Said}
use Rattle.conversations.specs.declared.line.Said.TheVariants.{Quiet, Busy, Received, NotReady, Ready, Missed, Told, Stop, End}

-- ---- frames one after the other

-- frames after bits that a frame may follow add their contents to the good ones, with up to seven 0 bits after the last of them
frames_grow : (list : List (List ℕ)) (text : List ℕ) (bits before : List Bool) (zeros : ℕ) → zeros ≤ 7 → (list ≡ [] → zeros ≡ 0) →
    IsReady before → AreFrames list text bits → good (before ++ (bits ++ replicate zeros false)) ≡ good before ++ list
frames_grow [] text bits before zeros few none ready are =
    ap (λ l. good (before ++ (l ++ replicate zeros false))) are.1 ∙
    (ap (λ n. good (before ++ replicate n false)) (none refl) ∙
    (ap good (append-nil before) ∙ sym (append-nil (good before))))
frames_grow (one ∷ []) text bits before zeros few none ready (after, frame, rest, comes, are, is) =
    let alone : bits ≡ frame = is ∙ (ap (λ l. frame ++ l) are.1 ∙ append-nil frame) in
    ap (λ l. good (before ++ (l ++ replicate zeros false))) alone ∙
    (frame_grows before one frame zeros ready comes.coded few).2
frames_grow (one ∷ next ∷ list) text bits before zeros few none ready (after, frame, rest, comes, are, is) =
    let grown = frame_grows before one frame 0 ready comes.coded (omega arith) in
    let plain : before ++ (frame ++ []) ≡ before ++ frame = ap (λ l. before ++ l) (append-nil frame) in
    let ready_now : IsReady (before ++ frame) = subst IsReady plain grown.0 in
    let good_now : good (before ++ frame) ≡ good before ++ one ∷ [] = ap good (sym plain) ∙ grown.2 in
    let others =
    frames_grow (next ∷ list) after rest (before ++ frame) zeros few (λ e. cc) ready_now are in
    ap (λ l. good (before ++ (l ++ replicate zeros false))) is ∙
    (ap (λ l. good (before ++ l)) (append_assoc frame rest (replicate zeros false)) ∙
    (ap good (sym (append_assoc before frame (rest ++ replicate zeros false))) ∙
    (others ∙ (ap (λ l. l ++ next ∷ list) good_now ∙ append_assoc (good before) (one ∷ []) (next ∷ list)))))

fill_few : (n : ℕ) → fill_of n ≤ 7
fill_few n = omega arith

no_fill : (list : List (List ℕ)) (text : List ℕ) (bits : List Bool) → AreFrames list text bits → list ≡ [] → fill_of (length bits) ≡ 0
no_fill [] text bits are e = ap (λ (l : List Bool). fill_of (length l)) are.1
no_fill (one ∷ list) text bits are e = cc

coded_grow : (text octets : List ℕ) (count : ℕ) (before : List Bool) (h : AreCoded text count octets) → IsReady before →
    good (before ++ bits_of LsbFirst octets) ≡ good before ++ h.contents
coded_grow text octets count before h ready =
    ap (λ l. good (before ++ bits_of LsbFirst l)) h.octets_are ∙
    (ap (λ l. good (before ++ l)) (bits_of-packed h.bits) ∙
    frames_grow h.contents text h.bits before (fill_of (length h.bits)) (fill_few (length h.bits))
    (no_fill h.contents text h.bits h.frames) ready h.frames)

pub contents_are_heard : ContentsAreHeard
unfolding contents new_contents
contents_are_heard before text octets count h ready =
    ap (λ l. drop (length (good (bits_of LsbFirst before))) (good l)) (bits_of-append before octets) ∙
    (ap (λ l. drop (length (good (bits_of LsbFirst before))) l) (coded_grow text octets count (bits_of LsbFirst before) h ready) ∙
    drop_at (good (bits_of LsbFirst before)) h.contents (length (good (bits_of LsbFirst before))) refl)

good_none : good [] ≡ []
unfolding gaps flags
good_none = refl

alone_heard : (text octets : List ℕ) (count : ℕ) (h : AreCoded text count octets) → contents octets ≡ h.contents
unfolding contents
alone_heard text octets count h =
    coded_grow text octets count [] h (inl refl) ∙ ap (λ l. l ++ h.contents) good_none

-- ---- good contents have frames

-- a content that a frame can have
record IsFine (content : List ℕ) : Type 0 where
  least : 3 ≤ length content
  most : length content ≤ 300
  octets : AreOctets content

-- contents that frames can have
abbrev AreFine : List (List ℕ) → Type 0
AreFine [] = Unit {0}
AreFine (content ∷ list) = IsFine content × AreFine list

octets_cut : (n : ℕ) (xs : List ℕ) → AreOctets xs → AreOctets (take n xs)
octets_cut zero xs h = tt
octets_cut (suc n) [] h = tt
octets_cut (suc n) (x ∷ xs) h = (h.0, octets_cut n xs h.1)

class_fits : (a b c d e : Bool) → cond a Aborted (cond b Ragged (cond c Short (cond d Long (cond e Damaged Good)))) ≡ Good →
    (c ≡ false) × (d ≡ false)
class_fits true b c d e h = cc
class_fits false true c d e h = cc
class_fits false false true d e h = cc
class_fits false false false true e h = cc
class_fits false false false false e h = (refl, refl)

fine_content : (gap : List Bool) → is_class Good (class_of gap) ≡ true → IsFine (content_of gap)
fine_content gap is =
    let fits =
    class_fits (has_six gap) (not (nat_eq (length (unstuffed gap) % 8) 0)) (nat_lt (length (octets_in gap)) 5)
    (nat_lt 302 (length (octets_in gap))) (not (checks (octets_in gap))) (good_only (class_of gap) is) in
    let least = ltb-false (length (octets_in gap)) 5 fits.0 in
    let most = ltb-false 302 (length (octets_in gap)) fits.1 in
    let size = length-take-le (length (octets_in gap) - 2) (octets_in gap) (omega arith) in
    record {
      least = omega (arith, least, size);
      most = omega (arith, most, size);
      octets = octets_cut (length (octets_in gap) - 2) (octets_in gap) (are_octets-octets_of (unstuffed gap));
    }

one_gap : (gap : List Bool) (rest : List (List Bool)) (b : Bool) → is_class Good (class_of gap) ≡ b → AreFine (map content_of rest) →
    AreFine (map content_of (cond b (gap ∷ rest) rest))
one_gap gap rest true e h = (fine_content gap e, h)
one_gap gap rest false e h = h

fine_gaps : (list : List (List Bool)) → AreFine (map content_of (filter (λ gap. is_class Good (class_of gap)) list))
fine_gaps [] = tt
fine_gaps (gap ∷ list) =
    one_gap gap (filter (λ it. is_class Good (class_of it)) list) (is_class Good (class_of gap)) refl (fine_gaps list)

good_are_fine : (bits : List Bool) → AreFine (good bits)
good_are_fine bits = fine_gaps (gaps bits)

fcs_small : (octets : List ℕ) → fcs_of octets < 65536
fcs_small octets = let e = fcs_is octets in omega (arith, e)

-- a content that a frame can have has one
frame_is : (content : List ℕ) → IsFine content → (frame : List Bool) × IsFrame content frame
frame_is content h =
    let check : List ℕ = check_octets content in
    let both : List Bool = bits_of LsbFirst content ++ bits_of LsbFirst check in
    let start = writes_first [] flag (record { value = 0; count = 0; ones = 0 }) refl refl in
    let text : IsWriting (flag ++ stuffed_from 0 both) [] ([] ++ both) (run_after_all 0 both) =
    writes_octet flag flag [] [] both [] [] (stuffed_from 0 both) 0 0 (run_after_all 0 both) refl refl refl refl start in
    let frame =
    whole_frame [] (flag ++ stuffed_from 0 both) ((flag ++ stuffed_from 0 both) ++ flag) content check (run_after_all 0 both)
    (fcs_of content) text refl refl (fcs_small content) (check_octets_are content) h.octets h.least h.most in
    (frame.0, frame.1)

ends_text : (list : List (List ℕ)) → EndsWord (contents_text list)
ends_text [] = inl refl
ends_text (content ∷ list) = inr refl

frames_are : (list : List (List ℕ)) → AreFine list → (bits : List Bool) × AreFrames list (contents_text list) bits
frames_are [] h = ([], (refl, refl))
frames_are (content ∷ list) h =
    let frame = frame_is content h.0 in
    let rest = frames_are list h.1 in
    let comes : FrameComes (contents_text (content ∷ list)) content (contents_text list) frame.0 =
    record {
      word = encode_upper content;
      cut = refl;
      ends = ends_text list;
      says = record {
        hex_is = decode_of-encode_upper content (are_bytes content h.0.octets);
        least = h.0.least;
        most = h.0.most;
      };
      coded = frame.1;
    } in
    (frame.0 ++ rest.0, (contents_text list, frame.0, rest.0, comes, rest.1, refl))

-- ---- what is sent

said_so : (burst : List ℕ) (count : ℕ) (octets : List ℕ) → HasCome burst V21 Frames count octets → (said : Said) →
    plain_said said ≡ received V21 Frames count octets → IsReceived burst said
said_so burst count octets come (Received channel kind bits these) e =
    let is : received channel kind bits these.items ≡ received V21 Frames count octets = e in
    let c : channel ≡ V21 = cc in
    let k : kind ≡ Frames = cc in
    let n : bits ≡ count = cc in
    let o : these.items ≡ octets = cc in rw (c, k, n, o) come
said_so burst count octets come Quiet e = cc
said_so burst count octets come Busy e = cc
said_so burst count octets come NotReady e = cc
said_so burst count octets come Ready e = cc
said_so burst count octets come Missed e = cc
said_so burst count octets come (Told fate file) e = cc
said_so burst count octets come Stop e = cc
said_so burst count octets come End e = cc

good_contents : (octets : List ℕ) → AreFine (contents octets)
unfolding contents
good_contents octets = good_are_fine (bits_of LsbFirst octets)

pub reads_frames_sent : ReadsFramesSent
reads_frames_sent burst time at number most =
    let list : List (List ℕ) = contents burst.octets.items in
    let frames = frames_are list (good_contents burst.octets.items) in
    let coded : AreCoded (contents_text list) (length frames.0) (packed frames.0) =
    record { contents = list; bits = frames.0; frames = frames.1; count_is = refl; octets_are = refl } in
    let come : HasCome (frames_words burst) V21 Frames (length frames.0) (packed frames.0) =
    inr (record { by_v21 = refl; as_frames = refl; after = contents_text list; text_is = refl; coded = coded }) in
    record {
      count = length frames.0;
      octets = packed frames.0;
      come = come;
      same = alone_heard (contents_text list) (packed frames.0) (length frames.0) coded;
      says = λ said e. record {
        most = most;
        words = inr (inl (
          spaced (time ∷ frames_words burst ∷ []),
          refl,
          (time, frames_words burst, refl, number, said_so (frames_words burst) (length frames.0) (packed frames.0) come said e),
        ));
      };
    }

-- ---- a frame by octets

-- MCF from an answerer, and its frame
abbrev mcf : List ℕ
mcf = 0xFF ∷ 0x13 ∷ 0x8C ∷ []

abbrev mcf_body : List Bool
mcf_body = text (codes "111110111110001000001100010100010110001111")

abbrev mcf_frame : List Bool
mcf_frame = flag ++ mcf_body ++ flag

mcf_is : IsFrame mcf mcf_frame
unfolding gaps flags unstuffed has_six octets_of bits_in check_bits
mcf_is = record { body = mcf_body; is = refl; only = refl; holds = refl; sent = refl; stuffed = omega arith }

mcf_coded : (word : List ℕ) → decode_of word ≡ Ok mcf →
    AreCoded (32 ∷ word) 58 (0x7E ∷ 0xDF ∷ 0x47 ∷ 0x30 ∷ 0x8A ∷ 0xC6 ∷ 0xFB ∷ 0x01 ∷ [])
unfolding packed octets_of
mcf_coded word is =
    let comes : FrameComes (32 ∷ word) mcf [] mcf_frame =
    record {
      word = word;
      cut = ap (λ l. 32 ∷ l) (sym (append-nil word));
      ends = inl refl;
      says = record { hex_is = is; least = omega arith; most = omega arith };
      coded = mcf_is;
    } in
    record {
      contents = mcf ∷ [];
      bits = mcf_frame;
      frames = ([], mcf_frame, [], comes, (refl, refl), refl);
      count_is = refl;
      octets_are = refl;
    }

pub frames_by_octets : FramesByOctets
unfolding contents gaps flags unstuffed has_six octets_of bits_in check_bits encode_with decode_pairs packed
frames_by_octets = record {
  written = refl;
  read = mcf_coded (codes "FF138C") refl;
  small = mcf_coded (codes "ff138c") refl;
  none = record { contents = []; bits = []; frames = (refl, refl); count_is = refl; octets_are = refl };
}

-- Text that is written piece by piece, all of it or a beginning.
use Rattle.std.proofs.Common.{◌≡◌, ◌∙◌, ◌++◌, ◌∷◌, ◌-◌, ℕ, List, [], ap, refl, sym, subst, append_assoc, length, take, drop, take-append-drop}
use Rattle.std.proofs.Common.{◌+◌, ◌<◌, add-one, codes, drop-cons, flat_map, get_or}
use Rattle.hex.specs.Hex.{encode_upper, encode_with}
use Rattle.std.proofs.lemmas.List.{append-nil, take_rest}
use Rattle.std.proofs.KnownBytes.{Appends-kept, Appends-nil, Appends-trans}
use Rattle.std.specs.Io.KnownBytes.{Appends, Keeps}
use Rattle.std.specs.Prelude.{◌&&◌, Bool, true, cond, IsErr, OnErr, None, Option, Result, Ok, Err}
use Rattle.std.specs.Fmt.{decimal}
use Rattle.conversations.specs.Hearing.{expected_first, expected_then}
use Rattle.conversations.specs.Lines.{channel_name, kind_name, spaced}
use Rattle.conversations.specs.Writing.{AppendsPart, WritesText, channel_of, hear_line, hear_lines, kind_of, on_lines, then_line, tx_line, wait_line}
use Rattle.conversations.specs.declared.hearing.Expected.{Expected}
use Rattle.conversations.specs.declared.writing.Says.{Says}
use Rattle.stations.specs.declared.listening.Listening.{Listening}
use Rattle.terminals.specs.declared.sending.SentBurst.{SentBurst}

-- this much of a text is written, and this is left
pub record HasWritten (text rest : List ℕ) (before now : Option (List ℕ)) : Type 0 where
  pub done : List ℕ
  pub is : text ≡ done ++ rest
  pub wrote : Appends before now done

pub none_written : (text : List ℕ) (before : Option (List ℕ)) → HasWritten text text before before
none_written text before = record { done = []; is = refl; wrote = Appends-nil before }

-- a piece more is written
pub piece_written : (text rest piece after : List ℕ) (before now new : Option (List ℕ)) → HasWritten text rest before now →
    rest ≡ piece ++ after → Appends now new piece → HasWritten text after before new
piece_written text rest piece after before now new h cut more = record {
  done = h.done ++ piece;
  is = h.is ∙ (ap (λ (l : List ℕ). h.done ++ l) cut ∙ sym (append_assoc h.done piece after));
  wrote = Appends-trans before now new h.done piece h.wrote more;
}

-- the first octets of what is left are written
pub front_written : (text rest : List ℕ) (n : ℕ) (before now new : Option (List ℕ)) → HasWritten text rest before now →
    Appends now new (take n rest) → HasWritten text (take (length rest - n) (drop n rest)) before new
front_written text rest n before now new h more =
    piece_written text rest (take n rest) (take (length rest - n) (drop n rest)) before now new h
    (sym (take-append-drop n rest) ∙ ap (λ (l : List ℕ). take n rest ++ l) (sym (take_rest rest n))) more

pub still_written : (text rest : List ℕ) (before now new : Option (List ℕ)) → HasWritten text rest before now → Keeps now new →
    HasWritten text rest before new
still_written text rest before now new h kept =
    record { done = h.done; is = h.is; wrote = Appends-kept before now new h.done h.wrote kept }

-- nothing is left
pub all_of_it : (text rest : List ℕ) (before now : Option (List ℕ)) → HasWritten text rest before now → rest ≡ [] → Appends before now text
all_of_it text rest before now h none =
    subst (Appends before now) (sym (h.is ∙ (ap (λ (l : List ℕ). h.done ++ l) none ∙ append-nil h.done))) h.wrote

-- a beginning of a text is one of a longer text
pub part_of_longer : (text more : List ℕ) (before now : Option (List ℕ)) → AppendsPart before now text → AppendsPart before now (text ++ more)
part_of_longer text more before now h =
    (h.0, h.1 ++ more, ap (λ (l : List ℕ). l ++ more) h.2 ∙ append_assoc h.0 h.1 more, h.3)

-- nothing is a beginning
pub no_part : (text : List ℕ) (before : Option (List ℕ)) → AppendsPart before before text
no_part text before = ([], text, refl, Appends-nil before)

-- a beginning after a text
pub part_after : (text more : List ℕ) (before now new : Option (List ℕ)) → Appends before now text → AppendsPart now new more →
    AppendsPart before new (text ++ more)
part_after text more before now new first h = (
  text ++ h.0,
  h.1,
  ap (λ (l : List ℕ). text ++ l) h.2 ∙ sym (append_assoc text h.0 h.1),
  Appends-trans before now new text h.0 first h.3,
)

-- all or a beginning after a text
pub text_after : {T E : Type 0} (text more : List ℕ) (before now new : Option (List ℕ)) (result : Result T E) → Appends before now text →
    WritesText now new more result → WritesText before new (text ++ more) result
text_after text more before now new (Ok done) first h = Appends-trans before now new text more first h
text_after text more before now new (Err fault) first h = part_after text more before now new first h

-- a write that failed
pub failed : {T E : Type 0} (text : List ℕ) (before now : Option (List ℕ)) (result : Result T E) → IsErr result →
    AppendsPart before now text → WritesText before now text result
failed text before now (Ok done) is h = cc
failed text before now (Err fault) is h = h

-- a beginning of the next piece is written
pub part_next : (text rest piece after : List ℕ) (before now new : Option (List ℕ)) → HasWritten text rest before now →
    rest ≡ piece ++ after → AppendsPart now new piece → AppendsPart before new text
part_next text rest piece after before now new h cut more = (
  h.done ++ more.0,
  more.1 ++ after,
  h.is ∙ (ap (λ (l : List ℕ). h.done ++ l) (cut ∙ (ap (λ (l : List ℕ). l ++ after) more.2 ∙ append_assoc more.0 more.1 after)) ∙
      sym (append_assoc h.done more.0 (more.1 ++ after))),
  Appends-trans before now new h.done more.0 h.wrote more.3,
)

-- the next of a list of texts
pub flat_from : {X : Type 0} (f : X → List ℕ) (xs : List X) (i : ℕ) (d : X) → i < length xs →
    flat_map f (drop i xs) ≡ f (get_or xs i d) ++ flat_map f (drop (i + 1) xs)
flat_from f xs i d h = rw (add-one) (ap (flat_map f) (drop-cons xs i d h))

encode-append : (t a b : List ℕ) → encode_with t (a ++ b) ≡ encode_with t a ++ encode_with t b
unfolding encode_with
encode-append t [] b = refl
encode-append t (x ∷ xs) b = rw (encode-append t xs b) refl

-- the digits of octets are those of a piece and those of the rest
pub hex_cut : (octets piece after : List ℕ) → octets ≡ piece ++ after → encode_upper octets ≡ encode_upper piece ++ encode_upper after
hex_cut octets piece after cut = ap encode_upper cut ∙ encode-append _ piece after

-- no octets have no digits
pub hex_none : (octets : List ℕ) → length octets ≡ 0 → encode_upper octets ≡ []
unfolding encode_with
hex_none [] none = refl
hex_none (x ∷ octets) none = cc

words_append : (a b c x y : List ℕ) → (a ++ 32 ∷ (b ++ 32 ∷ (c ++ 32 ∷ x))) ++ y ≡ a ++ 32 ∷ (b ++ 32 ∷ (c ++ 32 ∷ (x ++ y)))
words_append a b c x y =
    append_assoc a (32 ∷ (b ++ 32 ∷ (c ++ 32 ∷ x))) y ∙
    ap (λ (l : List ℕ). a ++ 32 ∷ l) (append_assoc b (32 ∷ (c ++ 32 ∷ x)) y ∙ ap (λ (l : List ℕ). b ++ 32 ∷ l) (append_assoc c (32 ∷ x) y))

spaced_text : (a b c hex : List ℕ) → spaced (codes "tx" ∷ spaced (a ∷ b ∷ c ∷ hex ∷ []) ∷ []) ++ 10 ∷ [] ≡
    (codes "tx " ++ (a ++ (32 ∷ (b ++ (32 ∷ (c ++ 32 ∷ [])))))) ++ (hex ++ 10 ∷ [])
spaced_text a b c hex =
    ap (λ (l : List ℕ). codes "tx " ++ l) (words_append a b c hex (10 ∷ []) ∙ sym (words_append a b c [] (hex ++ 10 ∷ [])))

-- the line of a burst: its words before the octets, with a space after each, and the octets in hex
pub burst_text : (burst : SentBurst) (channel kind bits octets : List ℕ) → channel ≡ channel_name (channel_of burst.carrier) →
    kind ≡ kind_name (kind_of burst.carrier) → bits ≡ decimal burst.bits → octets ≡ burst.octets.items →
    tx_line burst ≡ (codes "tx " ++ (channel ++ (32 ∷ (kind ++ (32 ∷ (bits ++ 32 ∷ [])))))) ++ (encode_upper octets ++ 10 ∷ [])
burst_text burst channel kind bits octets p q r s =
    sym (ap (λ (l : List ℕ). spaced (codes "tx" ∷ spaced (l ∷ kind ∷ bits ∷ encode_upper octets ∷ []) ∷ []) ++ 10 ∷ []) p ∙
    (ap (λ (l : List ℕ). spaced (codes "tx" ∷ spaced (channel_name (channel_of burst.carrier) ∷ l ∷ bits ∷ encode_upper octets ∷ []) ∷ []) ++ 10 ∷ []) q ∙
    (ap (λ (l : List ℕ). spaced (codes "tx" ∷ spaced (channel_name (channel_of burst.carrier) ∷ kind_name (kind_of burst.carrier) ∷ l ∷ encode_upper octets ∷ []) ∷ []) ++ 10 ∷ []) r ∙
    ap (λ (l : List ℕ). spaced (codes "tx" ∷ spaced (channel_name (channel_of burst.carrier) ∷ kind_name (kind_of burst.carrier) ∷ decimal burst.bits ∷ encode_upper l ∷ []) ∷ []) ++ 10 ∷ []) s))) ∙
    spaced_text channel kind bits (encode_upper octets)

-- what a station expects is written if it is wanted
pub hears_text : (wanted : Bool) (listens : Listening) (first : Expected) (after : Option Expected) → wanted ≡ true →
    first ≡ expected_first listens → after ≡ expected_then listens → hear_lines wanted listens ≡ hear_line first ++ then_line after
hears_text wanted listens first after is p q = rw (is, p, q) refl

-- a text after which what is written stays
pub whole_part : (text : List ℕ) (before now new : Option (List ℕ)) → Appends before now text → Keeps now new → AppendsPart before new text
whole_part text before now new h kept = (text, [], sym (append-nil text), Appends-kept before now new text h kept)

-- what is written of a call that goes on
pub on_text : (says : Says) (begun : Bool) (listens : Listening) (at : Option ℕ) (wanted : Bool) (time : Option ℕ) →
    wanted ≡ (says.hears && begun) → time ≡ cond says.waits at None →
    on_lines says begun listens at ≡ hear_lines wanted listens ++ wait_line time
on_text says begun listens at wanted time p q = rw (p, q) refl

-- what holds after a failure
pub if_failed : {T E : Type 0} (result : Result T E) (P : Type 0) → P → OnErr result P
if_failed (Ok done) P h = tt
if_failed (Err fault) P h = h

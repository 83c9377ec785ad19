-- A line's good contents, one after the other, while its octets come in pieces.
use Rattle.std.proofs.Common.{◌≡◌, ◌+◌, ◌-◌, ◌^◌, ℕ, Bool, true, false, List, [], ◌∷◌, ◌++◌, Option, Some, None, length, drop, min}
use Rattle.std.proofs.Common.{ap, sym, ◌∙◌, subst, arith, refl, slice_get}
use Rattle.std.proofs.lemmas.List.{append-nil, append_assoc, drop-append-le, drop-drop, length-append, length-drop}
use Rattle.std.specs.Io.KnownBytes.{Consumes, IsAtEnd}
use Rattle.std.proofs.KnownBytes.{Consumes-nil, Consumes-trans}
use Rattle.raster.specs.Packed as Packed
use Rattle.raster.specs.Packed.{bits_of}
use Rattle.raster.specs.declared.packed.Order.{Order}
use Rattle.raster.proofs.OctetBits.{bits_of-join}
use Rattle.hdlc.specs.DeframerState.{DeframerState, IsAfter}
use Rattle.hdlc.specs.Flags.{flags, gaps}
use Rattle.hdlc.specs.Gaps.{good}
use Rattle.hdlc.proofs.Gaps.{good_stays}
use Rattle.captures.specs.Contents.{ContentReading, GivesNext, HasRead, ReadsAll, ReadsPiece}

pub none_read : (reader : ContentReading) (line : List ℕ) → IsAfter reader.deframer [] 0 → reader.octets ≡ 0
    → HasRead reader line line (good (bits_of reader.order line))
unfolding flags gaps Packed.bits_in
none_read reader line fresh zero =
    record { read = []; split = refl; given = 0; after = fresh; coming_is = refl; octets_are = zero }

-- one piece more
pub piece_read : (old new : ContentReading) (line piece left : List ℕ) (coming : List (List ℕ)) → HasRead old line (piece ++ left) coming
    → ((bits : List Bool) (handed : ℕ) → IsAfter old.deframer bits handed
    → IsAfter new.deframer (bits ++ bits_of old.order piece) handed)
    → new.order ≡ old.order → new.octets ≡ min (2 ^ 64 - 1) (old.octets + length piece) → HasRead new line left coming
piece_read old new line piece left coming stands step is more = record {
  read = stands.read ++ piece;
  split = stands.split ∙ sym (append_assoc stands.read piece left);
  given = stands.given;
  after = subst (λ (o : Order). IsAfter new.deframer (bits_of o (stands.read ++ piece)) stands.given) (sym is)
      (subst (λ b. IsAfter new.deframer b stands.given) (sym (bits_of-join old.order stands.read piece))
      (step (bits_of old.order stands.read) stands.given stands.after));
  coming_is = stands.coming_is ∙ ap (λ (o : Order). drop stands.given (good (bits_of o line))) (sym is);
  octets_are =
      let size = length-append stands.read piece in
      let was = stands.octets_are in
      omega (arith, size, was, more);
}

-- a piece, and then what is read after it
pub read_then : (old : ContentReading) (mid : ContentReading) (before between after : Option (List ℕ))
    (Holds : List ℕ → List ℕ → List (List ℕ) → Type 0) → ReadsPiece old before between (HasRead mid)
    → ReadsPiece mid between after Holds → ReadsPiece old before after Holds
read_then old mid before between after Holds (first, taken, one) (second, more, other) = (
  first ++ second,
  Consumes-trans before between after first second taken more,
  λ line left coming read. other line left coming (one line (second ++ left) coming
      (subst (λ l. HasRead old line l coming) (append_assoc first second left) read)),
)

-- what holds then, in other words
pub read_so : (old : ContentReading) (before after : Option (List ℕ)) (Holds Is : List ℕ → List ℕ → List (List ℕ) → Type 0)
    → ReadsPiece old before after Holds
    → ((line left : List ℕ) (coming : List (List ℕ)) → Holds line left coming → Is line left coming) → ReadsPiece old before after Is
read_so old before after Holds Is (piece, taken, holds) says =
    (piece, taken, λ line left coming read. says line left coming (holds line left coming read))

-- nothing is read
pub none_more : (old new : ContentReading) (at : Option (List ℕ)) (Holds : List ℕ → List ℕ → List (List ℕ) → Type 0)
    → ((line left : List ℕ) (coming : List (List ℕ)) → HasRead old line left coming → Holds line left coming)
    → ReadsPiece old at at Holds
none_more old new at Holds same = ([], Consumes-nil at, same)

first_waits : (queue : List (List ℕ)) (content : List ℕ) → slice_get queue 0 ≡ Some content → queue ≡ content ∷ drop 1 queue
first_waits [] content e = cc
first_waits (x ∷ xs) content e = let same : x ≡ content = cc in ap (λ c. c ∷ xs) same

none_waits : (queue : List (List ℕ)) → slice_get queue 0 ≡ None → queue ≡ []
none_waits [] e = refl
none_waits (x ∷ xs) e = cc

-- a content that waited is given
pub waiting_given : (old new : ContentReading) (line left : List ℕ) (coming : List (List ℕ)) → HasRead old line left coming
    → slice_get old.deframer.queue 0 ≡ Some new.content
    → new.deframer ≡ record old.deframer { queue = drop 1 old.deframer.queue } → new.order ≡ old.order → new.octets ≡ old.octets
    → GivesNext true new line left coming
waiting_given old new line left coming stands waits gone is same =
    let bits = bits_of old.order stands.read in
    let all = good (bits_of old.order line) in
    let later = good_stays bits (bits_of old.order left) in
    let whole : all ≡ good bits ++ later.0 =
    ap (λ l. good (bits_of old.order l)) stands.split ∙ (ap good (bits_of-join old.order stands.read left) ∙ later.1) in
    let front = first_waits old.deframer.queue new.content waits in
    let first : drop stands.given (good bits) ≡ new.content ∷ drop 1 old.deframer.queue = sym stands.after.queued ∙ front in
    let is_first : coming ≡ new.content ∷ (drop 1 old.deframer.queue ++ later.0) = stands.coming_is ∙ (ap (drop stands.given) whole
    ∙ (drop-append-le stands.given (good bits) later.0 stands.after.within ∙ ap (λ l. l ++ later.0) first)) in
    let rest : drop 1 coming ≡ drop (stands.given + 1) all =
    ap (drop 1) stands.coming_is ∙ drop-drop 1 stands.given all in
    let next : IsAfter new.deframer bits (stands.given + 1) =
    subst (λ (f : DeframerState). IsAfter f bits (stands.given + 1)) (sym gone) (record {
      kept = stands.after.kept;
      counted = stands.after.counted;
      within =
          let size = length-drop stands.given (good bits) in
          let some = ap length first in
          omega (arith, size, some);
      queued = ap (drop 1) stands.after.queued ∙ drop-drop 1 stands.given (good bits);
    }) in (
      drop 1 coming,
      is_first ∙ ap (λ l. new.content ∷ l) (sym (ap (drop 1) is_first)),
      record {
        read = stands.read;
        split = stands.split;
        given = stands.given + 1;
        after = subst (λ (o : Order). IsAfter new.deframer (bits_of o stands.read) (stands.given + 1)) (sym is) next;
        coming_is = rest ∙ ap (λ (o : Order). drop (stands.given + 1) (good (bits_of o line))) (sym is);
        octets_are = same ∙ stands.octets_are;
      },
    )

-- no content waits
pub nothing_waits : (old new : ContentReading) (line left : List ℕ) (coming : List (List ℕ)) → HasRead old line left coming
    → slice_get old.deframer.queue 0 ≡ None
    → new.deframer ≡ record old.deframer { queue = drop 1 old.deframer.queue } → new.order ≡ old.order → new.octets ≡ old.octets
    → HasRead new line left coming
nothing_waits old new line left coming stands none gone is same =
    let empty = none_waits old.deframer.queue none in
    let queue : drop 1 old.deframer.queue ≡ old.deframer.queue = ap (drop 1) empty ∙ sym empty in
    let same_frames : new.deframer ≡ old.deframer =
    gone ∙ ap (λ q. record old.deframer { queue = q }) queue in
    record {
      read = stands.read;
      split = stands.split;
      given = stands.given;
      after = subst (λ (o : Order). IsAfter new.deframer (bits_of o stands.read) stands.given) (sym is)
          (subst (λ (f : DeframerState). IsAfter f (bits_of old.order stands.read) stands.given) (sym same_frames) stands.after);
      coming_is = stands.coming_is ∙ ap (λ (o : Order). drop stands.given (good (bits_of o line))) (sym is);
      octets_are = same ∙ stands.octets_are;
    }

-- nothing waits after a content was taken of a queue that had none
pub emptied : (old new : ContentReading) → slice_get old.deframer.queue 0 ≡ None
    → new.deframer ≡ record old.deframer { queue = drop 1 old.deframer.queue } → new.deframer.queue ≡ []
emptied old new none gone =
    ap (λ (f : DeframerState). f.queue) gone ∙ ap (drop 1) (none_waits old.deframer.queue none)

-- no content waits: if no octet is left, none comes
pub all_given : (reader : ContentReading) (line left : List ℕ) (coming : List (List ℕ)) → HasRead reader line left coming
    → reader.deframer.queue ≡ [] → GivesNext false reader line left coming
all_given reader line left coming stands empty end =
    let all : line ≡ stands.read = stands.split ∙ (ap (λ l. stands.read ++ l) end ∙ append-nil stands.read) in
    let none : coming ≡ [] = stands.coming_is ∙ (ap (λ l. drop stands.given (good (bits_of reader.order l))) all
    ∙ (sym stands.after.queued ∙ empty)) in (
      none,
      record {
        read = stands.read;
        split = all ∙ sym (append-nil stands.read);
        given = stands.given;
        after = stands.after;
        coming_is = sym none ∙ stands.coming_is;
        octets_are = stands.octets_are;
      },
    )

-- ---- what those who read do

-- what holds of a line and of what is still to come of it, whatever is left of it after the octets that were read
abbrev pub Left : Option (List ℕ) → Option (List ℕ) → ContentReading → (List ℕ → List (List ℕ) → Type 0) → Type 0
Left start now reader P = (read : List ℕ) × Consumes start now read
    × ((left : List ℕ) → (coming : List (List ℕ)) × HasRead reader (read ++ left) left coming × P (read ++ left) coming)

pub before_first : (start : Option (List ℕ)) (order : Order) (reader : ContentReading) (P : List ℕ → List (List ℕ) → Type 0)
    → ((line : List ℕ) → HasRead reader line line (good (bits_of order line)))
    → ((line : List ℕ) → P line (good (bits_of order line))) → Left start start reader P
before_first start order reader P begins first =
    ([], Consumes-nil start, λ left. (good (bits_of order left), begins left, first left))

pub one_more : (start now new : Option (List ℕ)) (old next : ContentReading) (more : Bool) (P Q : List ℕ → List (List ℕ) → Type 0)
    → Left start now old P → more ≡ true → ReadsPiece old now new (GivesNext more next)
    → ((line : List ℕ) (later : List (List ℕ)) → P line (next.content ∷ later) → Q line later) → Left start new next Q
one_more start now new old next more P Q (read, taken, was) goes (piece, came, gives) step = (
  read ++ piece,
  Consumes-trans start now new read piece taken came,
  λ left. let (coming, stands, holds) = was (piece ++ left) in
      let line = read ++ (piece ++ left) in
      let given : GivesNext true next line left coming =
      subst (λ m. GivesNext m next line left coming) goes (gives line left coming stands) in
      subst (λ l. (coming : List (List ℕ)) × HasRead next l left coming × Q l coming) (sym (append_assoc read piece left))
      (given.0, given.2, step line given.0 (subst (P line) given.1 holds)),
)

pub no_more : (start now new : Option (List ℕ)) (old last : ContentReading) (more : Bool) (P : List ℕ → List (List ℕ) → Type 0)
    (Q : List ℕ → Type 0) → Left start now old P → more ≡ false → ReadsPiece old now new (GivesNext more last)
    → (more ≡ false → IsAtEnd new) → ((line : List ℕ) → HasRead last line [] [] → P line [] → Q line) → ReadsAll start new Q
no_more start now new old last more P Q (read, taken, was) over (piece, came, gives) end ends =
    let (coming, stands, holds) = was (piece ++ []) in
    let line = read ++ (piece ++ []) in
    let given : GivesNext false last line [] coming =
    subst (λ m. GivesNext m last line [] coming) over (gives line [] coming stands) in
    let all = given refl in
    let whole : line ≡ read ++ piece = ap (λ l. read ++ l) (append-nil piece) in (
      read ++ piece,
      Consumes-trans start now new read piece taken came,
      end over,
      subst Q whole (ends line all.1 (subst (P line) all.0 holds)),
    )

-- The lines of frames while the contents of a line come.
use Rattle.std.proofs.Common.{◌≡◌, ◌+◌, ◌-◌, ◌^◌, ℕ, Bool, List, [], ◌∷◌, Option, length, min}
use Rattle.std.proofs.Common.{ap, sym, ◌∙◌, subst, arith, refl}
use Rattle.std.specs.Prelude.{◌<◌, ◌↔◌, IsTrue}
use Rattle.std.proofs.KnownBytes.{Appends-nil, Appends-trans}
use Rattle.std.proofs.lemmas.List.{append-nil}
use Rattle.std.specs.Io.KnownBytes.{Appends}
use Rattle.raster.specs.Packed.{bits_of}
use Rattle.hdlc.specs.DeframerState.{IsAfter}
use Rattle.hdlc.specs.Gaps.{count_of, good}
use Rattle.hdlc.specs.DeframerParts.{count_in}
use Rattle.hdlc.specs.declared.counts.Class.{Class}
use Rattle.hdlc.specs.declared.counts.Class.TheVariants.{Good, Aborted, Ragged, Short, Long, Damaged}
use Rattle.hdlc.specs.declared.counts.Counts.{Counts}
use Rattle.captures.specs.Contents.{ContentReading, HasRead}
use Rattle.captures.specs.declared.frames.ListOptions.{ListOptions}
use Rattle.captures.specs.Frames.{IsOtherOrderWorth, counted, counts_of, frame_line, frame_lines, last_line, listing}

-- What is still to be written of a line: with it the writer holds what it held before and the lines of all good contents. The next one has
-- this number.
pub record LinesLeft (how : ListOptions) (before now : Option (List ℕ)) (number : ℕ) (line : List ℕ) (coming : List (List ℕ))
    : Type 0 where
  pub lines : (done : Option (List ℕ)) → Appends now done (frame_lines how number coming)
      → Appends before done (frame_lines how 1 (good (bits_of how.order line)))
  pub count : number + length coming ≡ 1 + length (good (bits_of how.order line))

pub all_left : (how : ListOptions) (held : Option (List ℕ)) (line : List ℕ)
    → LinesLeft how held held 1 line (good (bits_of how.order line))
all_left how held line = record { lines = λ done all. all; count = refl }

-- one line more
pub line_done : (how : ListOptions) (before now new : Option (List ℕ)) (number : ℕ) (line content : List ℕ) (later : List (List ℕ))
    → Appends now new (frame_line how number content) → LinesLeft how before now number line (content ∷ later)
    → LinesLeft how before new (number + 1) line later
line_done how before now new number line content later written old = record {
  lines = λ done rest. old.lines done (Appends-trans now new done _ _ written rest);
  count =
      let was = old.count in
      omega (arith, was);
}

-- the counts of all classes are those of the bits
pub counts_are : (counts : Counts) (bits : List Bool) → ((class : Class) → count_in counts class ≡ min (2 ^ 64 - 1) (count_of class bits))
    → counts ≡ counts_of bits
counts_are counts bits each =
    let a = counted bits Good in
    let b = counted bits Aborted in
    let c = counted bits Ragged in
    let d = counted bits Short in
    let e = counted bits Long in
    let of : ℕ → ℕ → ℕ → ℕ → ℕ → ℕ → Counts = λ good aborted ragged short long damaged.
    record { good = good; aborted = aborted; ragged = ragged; short = short; long = long; damaged = damaged } in
    ap (λ n. of n counts.aborted counts.ragged counts.short counts.long counts.damaged) (each Good)
    ∙ (ap (λ n. of a n counts.ragged counts.short counts.long counts.damaged) (each Aborted)
    ∙ (ap (λ n. of a b n counts.short counts.long counts.damaged) (each Ragged)
    ∙ (ap (λ n. of a b c n counts.long counts.damaged) (each Short)
    ∙ (ap (λ n. of a b c d n counts.damaged) (each Long)
    ∙ ap (λ n. of a b c d e n) (each Damaged)))))

-- the counts of a line that was read to its end
pub counts_of_line : (reader : ContentReading) (counts : Counts) (line : List ℕ)
    → ((bits : List Bool) (handed : ℕ) → IsAfter reader.deframer bits handed → (class : Class)
    → count_in counts class ≡ min (2 ^ 64 - 1) (count_of class bits))
    → HasRead reader line [] [] → counts ≡ counts_of (bits_of reader.order line)
counts_of_line reader counts line each read =
    let all : line ≡ read.read = read.split ∙ append-nil read.read in
    counts_are counts (bits_of reader.order read.read) (each (bits_of reader.order read.read) read.given read.after)
    ∙ ap (λ l. counts_of (bits_of reader.order l)) (sym all)

-- no line is left, and the counts are written
pub all_listed : (how : ListOptions) (before now new : Option (List ℕ)) (number : ℕ) (reader : ContentReading) (counts : Counts)
    (line : List ℕ) → reader.order ≡ how.order
    → ((line : List ℕ) → HasRead reader line [] [] → counts ≡ counts_of (bits_of reader.order line))
    → Appends now new (last_line how.form counts) → HasRead reader line [] [] → LinesLeft how before now number line []
    → Appends before new (listing how (bits_of how.order line))
all_listed how before now new number reader counts line is each written read left =
    let are : counts ≡ counts_of (bits_of how.order line) =
    each line read ∙ ap (λ o. counts_of (bits_of o line)) is in
    Appends-trans before now new _ _ (left.lines now (Appends-nil now))
    (subst (λ c. Appends now new (last_line how.form c)) are written)

-- whether the other order is worth a try
pub worth_told : (how : ListOptions) (before now : Option (List ℕ)) (number octets : ℕ) (reader : ContentReading) (worth : Bool)
    (line : List ℕ) → octets ≡ reader.octets → (IsTrue worth ↔ ((64 < octets) × (number ≡ 1))) → HasRead reader line [] [] → LinesLeft how before now number line []
    → IsTrue worth ↔ IsOtherOrderWorth how.order line
worth_told how before now number octets reader worth line same is read left =
    let all : length line ≡ length read.read = ap length (read.split ∙ append-nil read.read) in
    let many = read.octets_are in
    let count = left.count in (
      λ yes. let w = is.0 yes in
          let long = w.0 in
          let first = w.1 in
          (omega (arith, long, many, all, same), omega (arith, first, count)),
      λ w. let long = w.0 in
          let no = w.1 in
          is.1 (omega (arith, long, many, all, same), omega (arith, no, count)),
    )

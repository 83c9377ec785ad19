-- The numbers that are marked in a map, as the items of an array; and that no record has a float.
use Rattle.std.proofs.Common.{◌≡◌, ◌+◌, ◌++◌, ◌∷◌, [], ℕ, Bool, true, false, List, add-one, ap, ◌∙◌, sym, cond, map, refl}
use Rattle.std.specs.Prelude.{◌||◌, Option, Result, Ok, Err}
use Rattle.std.proofs.lemmas.List.{map-append}
use Rattle.serde_json.specs.Data.{Data}
use Rattle.serde_json.specs.View.{items_of}
use Rattle.serde_json.specs.Written.{has_float, items_have_float}
use Rattle.signals.specs.Reading.{read_content}
use Rattle.signals.specs.Signals.{PlainSignal, dis, dcs, cfr, ftt, fcd, rcp, pps, ppr, mcf, rnr, rr, dcn, other}
use Rattle.signals.specs.declared.fault.SignalFault.{SignalFault}
use Rattle.faults.specs.RecordLines.{count}
use Rattle.captures.specs.OtherWords.{other_name}
use Rattle.captures.specs.Records.{frame_record, marked_below, record_by_name, says_record, signal_record}
use Rattle.captures.specs.SignalWords.{is_in_map}
use Rattle.captures.specs.TraceRecords.{traced}

pub no_marks : (marks : List ℕ) → [] ≡ map count (marked_below marks 0)
unfolding marked_below
no_marks marks = refl

marks_more : (marks : List ℕ) (n : ℕ)
    → marked_below marks (n + 1) ≡ marked_below marks n ++ cond (is_in_map marks n) (n ∷ []) []
unfolding marked_below
marks_more marks n = ap (marked_below marks) (add-one n)

each_cond : (b : Bool) (n : ℕ) → map count (cond b (n ∷ []) []) ≡ cond b (count n ∷ []) []
each_cond true n = refl
each_cond false n = refl

pub one_mark : (marks : List ℕ) (n : ℕ) (was new : List Data) → was ≡ map count (marked_below marks n)
    → new ≡ was ++ cond (is_in_map marks n) (count n ∷ []) [] → new ≡ map count (marked_below marks (n + 1))
one_mark marks n was new before is =
    is ∙ (ap (λ l. l ++ cond (is_in_map marks n) (count n ∷ []) []) before
    ∙ sym (ap (map count) (marks_more marks n)
    ∙ (map-append count (marked_below marks n) (cond (is_in_map marks n) (n ∷ []) [])
    ∙ ap (λ l. map count (marked_below marks n) ++ l) (each_cond (is_in_map marks n) n))))

-- numbers have no float
counts_whole : (numbers : List ℕ) → items_have_float (items_of (map count numbers)) ≡ false
counts_whole [] = refl
counts_whole (n ∷ numbers) = counts_whole numbers

name_whole : (octet : ℕ) (name : List ℕ) → has_float (record_by_name octet name) ≡ false
name_whole octet [] = refl
name_whole octet (first ∷ name) = refl

signal_whole : (signal : PlainSignal) → has_float (signal_record signal) ≡ false
signal_whole (dis caps) = refl
signal_whole (dcs params) = refl
signal_whole cfr = refl
signal_whole ftt = refl
signal_whole (fcd frame octets) = refl
signal_whole rcp = refl
signal_whole (pps ends page block last) = refl
signal_whole (ppr marks) = rw (counts_whole (marked_below marks 256)) refl
signal_whole mcf = refl
signal_whole rnr = refl
signal_whole rr = refl
signal_whole dcn = refl
signal_whole (other octet) = name_whole octet (other_name octet)

-- what a content says has no float
pub says_whole : (read : Result PlainSignal SignalFault) → has_float (says_record read) ≡ false
says_whole (Ok signal) = signal_whole signal
says_whole (Err fault) = refl

-- nor has the record of a good frame
pub frame_whole : (most : Option ℕ) (frame : ℕ) (content : List ℕ) → has_float (frame_record most frame content) ≡ false
frame_whole most frame content = ap (λ b. b || false) (says_whole (read_content content))

-- nor what was heard or said, where what it says has none
pub traced_whole : (at : ℕ) (said : Bool) (says : Data) → has_float says ≡ false → has_float (traced at said says) ≡ false
traced_whole at true says whole = ap (λ b. b || false) whole
traced_whole at false says whole = ap (λ b. b || false) whole

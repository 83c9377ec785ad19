-- What is watched in the contents that were heard.
use Rattle.std.proofs.Common.{◌≡◌, ◌∙◌, ℕ, Bool, true, false, List, [], ◌∷◌, ap, refl, subst, sym}
use Rattle.std.specs.Prelude.{◌||◌, Option, None, Some, Result, Ok, Err, cond, drop, slice_get}
use Rattle.hdlc.specs.DeframerState.{DeframerState}
use Rattle.signals.specs.Controls.{control_of}
use Rattle.signals.specs.Reading.{page_end_of, params_of, read_content, read_fields}
use Rattle.signals.specs.Marks.{same_mark}
use Rattle.signals.specs.Signals.{PlainSignal, fcd, pps}
use Rattle.signals.specs.declared.fault.SignalFault.{SignalFault}
use Rattle.signals.specs.declared.mark.Mark.{Mark}
use Rattle.signals.specs.declared.params.Caps.{Caps}
use Rattle.terminals.specs.Watching.{first_gap, follows, numbered_after, numbered_by, page_of, refusal_of, refused_after}
use Rattle.terminals.specs.Watching.{SeesOne, refused_by, saw_all, second_refusal, seen_after, seen_reading, used_after, used_by, used_read, watched_by, watched_reading}
use Rattle.terminals.specs.WatchingLaws.{GapIsFirstJump, GapsByOctets, RefusedByOctets, SecondIsRefused, first_jump, page_numbers}
use Rattle.terminals.specs.WatchingLaws.{UsedByOctets, UsedIsBrought, after_fcd, is_fcd, is_pps_of, names_mark, put_number, put_reason}
use Rattle.terminals.specs.WatchingLaws.{reasons, second_of}
use Rattle.terminals.specs.declared.watching.Refusal.{Refusal}
use Rattle.terminals.specs.declared.watching.Refused.TheVariants.{Never, Once, Twice}
use Rattle.terminals.specs.declared.watching.Watched.{Watched}

-- ---- the contents that wait

-- the first content of a queue is seen, and the rest after it
first_seen : {W : Type 0} (saw : SeesOne W) (w : W) (queue : List (List ℕ)) (content : List ℕ) → slice_get queue 0 ≡ Some content →
    saw_all saw (saw w content (read_content content)) (drop 1 queue) ≡ saw_all saw w queue
first_seen saw w [] content e = absurd (cc)
first_seen saw w (x ∷ xs) content e = let same : content ≡ x = cc in ap (λ c. saw_all saw (saw w c (read_content c)) xs) same

-- so what is seen of the contents that are left is what is seen of all
pub next_seen : {W : Type 0} (saw : SeesOne W) (start framing after : DeframerState) (old now next : W) (content : List ℕ) →
    after ≡ record framing { queue = drop 1 framing.queue } → slice_get framing.queue 0 ≡ Some content →
    next ≡ saw now content (read_content content) → saw_all saw now framing.queue ≡ saw_all saw old start.queue →
    saw_all saw next after.queue ≡ saw_all saw old start.queue
next_seen saw start framing after old now next content is first seen left =
    subst (λ w. saw_all saw w after.queue ≡ saw_all saw old start.queue) (sym seen)
    (subst (λ (d : DeframerState). saw_all saw (saw now content (read_content content)) d.queue ≡ saw_all saw old start.queue) (sym is)
    (first_seen saw now framing.queue content first ∙ left))

-- what is watched is what is seen of contents in order
watched_reads : (w : Watched) (content : List ℕ) → watched_reading w content (read_content content) ≡ watched_by w content
unfolding refusal_of page_of used_by
watched_reads w content = refl

pub seen_is_saw : (watched : Option Watched) (contents : List (List ℕ)) → saw_all seen_reading watched contents ≡ seen_after watched contents
seen_is_saw None [] = refl
seen_is_saw None (content ∷ contents) = seen_is_saw None contents
seen_is_saw (Some w) [] = refl
seen_is_saw (Some w) (content ∷ contents) =
    seen_is_saw (Some (watched_reading w content (read_content content))) contents
    ∙ ap (λ x. seen_after (Some x) contents) (watched_reads w content)

-- ---- the laws of DCSs

pub refused_by_octets : RefusedByOctets
unfolding refusal_of read_content read_fields params_of control_of
refused_by_octets = record {
  allowed = refl;
  no_correction = refl;
  three_octets = refl;
  of_an_answerer = refl;
  no_speed = refl;
  two_dimensional = refl;
  no_width = refl;
  of_little = refl;
  faster = refl;
  finer = refl;
  wider = refl;
  another_code = refl;
  dis_of_one = refl;
  cfr_of_one = refl;
  dcn_of_one = refl;
  cut_short = refl;
  another = refl;
}

-- after two nothing counts
twice_stays : (caps : Caps) (why : Refusal) (contents : List (List ℕ)) → refused_after caps (Twice why) contents ≡ Twice why
twice_stays caps why [] = refl
twice_stays caps why (content ∷ contents) = by (refusal_of caps content) (twice_stays caps why contents)
  where
    by : (refusal : Option Refusal) → refused_after caps (Twice why) contents ≡ Twice why →
        refused_after caps (refused_by (Twice why) refusal) contents ≡ Twice why
    by None h = h
    by (Some next) h = h

-- the first of a list, if there is one
abbrev first_reason : List Refusal → Option Refusal
first_reason [] = None
first_reason (why ∷ whys) = Some why

after_one : (caps : Caps) (contents : List (List ℕ)) →
    second_refusal (refused_after caps Once contents) ≡ first_reason (reasons caps contents)
after_one caps [] = refl
after_one caps (content ∷ contents) = by (refusal_of caps content) (after_one caps contents)
  where
    by : (refusal : Option Refusal) →
        second_refusal (refused_after caps Once contents) ≡ first_reason (reasons caps contents) →
        second_refusal (refused_after caps (refused_by Once refusal) contents) ≡
        first_reason (put_reason refusal (reasons caps contents))
    by None h = h
    by (Some why) h = ap second_refusal (twice_stays caps why contents)

second_or : (why : Refusal) (whys : List Refusal) → first_reason whys ≡ second_of (why ∷ whys)
second_or why [] = refl
second_or why (next ∷ whys) = refl

pub second_is_refused : SecondIsRefused
second_is_refused caps [] = refl
second_is_refused caps (content ∷ contents) = by (refusal_of caps content) (second_is_refused caps contents)
  where
    by : (refusal : Option Refusal) → second_refusal (refused_after caps Never contents) ≡ second_of (reasons caps contents) →
        second_refusal (refused_after caps (refused_by Never refusal) contents) ≡
        second_of (put_reason refusal (reasons caps contents))
    by None h = h
    by (Some why) h = after_one caps contents ∙ second_or why (reasons caps contents)

-- ---- the laws of page numbers

pub gaps_by_octets : GapsByOctets
unfolding page_of read_content read_fields control_of page_end_of
gaps_by_octets = record {
  of_mps = refl;
  of_cfr = refl;
  cut_short = refl;
  in_order = refl;
  last_to_first = refl;
  jumps = refl;
  first_is_one = refl;
  goes_back = refl;
  first_of_two = refl;
}

-- the first gap stays
gap_stays : (last : Option ℕ) (page : ℕ) (contents : List (List ℕ)) →
    (numbered_after (record { last = last; gap = Some page }) contents).gap ≡ Some page
gap_stays last page [] = refl
gap_stays last page (content ∷ contents) = by (λ next. gap_stays next page contents) (page_of content)
  where
    by : ((next : Option ℕ) → (numbered_after (record { last = next; gap = Some page }) contents).gap ≡ Some page) →
        (next : Option ℕ) → (numbered_after (numbered_by (record { last = last; gap = Some page }) next) contents).gap ≡ Some page
    by stays None = stays last
    by stays (Some next) = stays (Some next)

-- the gap by a page number that follows, or doesn't
by_page : (page : ℕ) (it_does : Bool) (contents : List (List ℕ)) →
    (numbered_after (record { last = Some page; gap = None }) contents).gap ≡ first_jump (Some page) (page_numbers contents) →
    (numbered_after (record { last = Some page; gap = first_gap None it_does page }) contents).gap ≡
    cond it_does (first_jump (Some page) (page_numbers contents)) (Some page)
by_page page true contents h = h
by_page page false contents h = gap_stays (Some page) page contents

-- without a gap so far the first one is the first jump
jump_after : (last : Option ℕ) (contents : List (List ℕ)) →
    (numbered_after (record { last = last; gap = None }) contents).gap ≡ first_jump last (page_numbers contents)
jump_after last [] = refl
jump_after last (content ∷ contents) = by (λ next. jump_after next contents) (page_of content)
  where
    by : ((next : Option ℕ) →
        (numbered_after (record { last = next; gap = None }) contents).gap ≡ first_jump next (page_numbers contents)) →
        (next : Option ℕ) → (numbered_after (numbered_by (record { last = last; gap = None }) next) contents).gap ≡
        first_jump last (put_number next (page_numbers contents))
    by jumps None = jumps last
    by jumps (Some page) = by_page page (follows last page) contents (jumps (Some page))

-- ---- the laws of used marks

or_none : (a : Bool) → a ≡ (a || false)
or_none true = refl
or_none false = refl

pub used_by_octets : UsedByOctets
unfolding used_by read_content read_fields control_of page_end_of
used_by_octets = record {
  repeated = refl;
  first = refl;
  brought = refl;
  of_the_last = refl;
  of_another_end = refl;
  next_page = refl;
  next_block = refl;
  none_before = refl;
  another_now = refl;
  still_so = refl;
}

-- once an FCD has come, what is named is used again
named_after : (mark : Mark) (again : Bool) (contents : List (List ℕ)) →
    (used_after (record { mark = Some mark; frames = true; again = again }) contents).again ≡ (again || names_mark mark contents)
unfolding used_by
named_after mark again [] = or_none again
named_after mark again (content ∷ contents) = by (λ so. named_after mark so contents) (read_content content)
  where
    at : (a b c : Bool) → (a || (b || c)) ≡ ((a || b) || c)
    at true b c = refl
    at false b c = refl

    by : ((so : Bool) →
        (used_after (record { mark = Some mark; frames = true; again = so }) contents).again ≡ (so || names_mark mark contents)) →
        (said : Result PlainSignal SignalFault) →
        (used_after (used_read (record { mark = Some mark; frames = true; again = again }) said) contents).again ≡
        (again || (is_pps_of mark said || names_mark mark contents))
    by named (Ok (fcd number octets)) = named again
    by named (Ok (pps ends page block last)) =
        named (again || same_mark mark (record { page = page; block = block })) ∙
        sym (at again (same_mark mark (record { page = page; block = block })) (names_mark mark contents))
    by named (Ok signal) = named again
    by named (Err fault) = named again

-- and before it nothing is
named_before : (mark : Mark) (contents : List (List ℕ)) →
    (used_after (record { mark = Some mark; frames = false; again = false }) contents).again ≡ names_mark mark (after_fcd contents)
unfolding used_by
named_before mark [] = refl
named_before mark (content ∷ contents) = by (named_before mark contents) (read_content content)
  where
    by : (used_after (record { mark = Some mark; frames = false; again = false }) contents).again ≡ names_mark mark (after_fcd contents) →
        (said : Result PlainSignal SignalFault) →
        (used_after (used_read (record { mark = Some mark; frames = false; again = false }) said) contents).again ≡
        names_mark mark (cond (is_fcd said) contents (after_fcd contents))
    by named (Ok (fcd number octets)) = named_after mark false contents
    by named (Ok (pps ends page block last)) = named
    by named (Ok signal) = named
    by named (Err fault) = named

pub used_is_brought : UsedIsBrought
used_is_brought mark contents = named_before mark contents

pub gap_is_first_jump : GapIsFirstJump
gap_is_first_jump contents = jump_after None contents

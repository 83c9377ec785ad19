-- What is written of the items that are sent: items, and then others.
use Rattle.std.proofs.Common.{◌≡◌, ℕ, zero, suc, ◌+◌, Bool, List, [], ◌∷◌, ◌++◌, drop, length, Some, refl, ap, sym, subst}
use Rattle.std.proofs.Common.{◌∙◌, arith, append_assoc}
use Rattle.std.specs.Io.KnownBytes.{Appends}
use Rattle.std.proofs.KnownBytes.{Appends-trans, Appends-nil}
use Rattle.std.proofs.lemmas.List.{append-nil}
use Rattle.signals.specs.declared.signal.Side.{Side}
use Rattle.signals.specs.declared.signal.Side.TheVariants.{Caller, Answerer}
use Rattle.stations.specs.Inputs.{PlainItem}
use Rattle.line_sim.specs.Entries.{is_refused}
use Rattle.line_sim.specs.Line.{World, Outcome, run}
use Rattle.line_sim.specs.Octets.{IsFirstLent, IsLentAt, sender_to, under_way_to}
use Rattle.line_sim.specs.Putting.{IsPut, Puts, put_to, puts_to}
use Rattle.line_sim.specs.Represents.{Shows}
use Rattle.line_sim.specs.declared.call.Call.{Call}
use Rattle.line_sim.specs.declared.event.Event.{Event}
use Rattle.line_sim.specs.declared.event.LineItem.{LineItem}
use Rattle.calls.specs.SentBits.{AreItems, AreSent, WritesAfter, WritesCall, WritesItems, WritesLines, WritesOctets}
use Rattle.calls.specs.SentBits.{WritesSent, WritesTo, Written, bits_to, count_to, on_way_to, only_to}
use Rattle.calls.specs.declared.counts.Counts.{Counts}

-- events, each with what became of it
abbrev pub Steps : Type 0
Steps = List (Event × Outcome)

-- ---- octets of one direction

only_none : (to side : Side) → only_to to side [] ≡ []
only_none Answerer Answerer = refl
only_none Answerer Caller = refl
only_none Caller Answerer = refl
only_none Caller Caller = refl

only_both : (to side : Side) (xs ys : List ℕ) → only_to to side (xs ++ ys) ≡ only_to to side xs ++ only_to to side ys
only_both Answerer Answerer xs ys = refl
only_both Answerer Caller xs ys = refl
only_both Caller Answerer xs ys = refl
only_both Caller Caller xs ys = refl

-- ---- items and then others

pub items_on : (side : Side) (xs ys : List ℕ) (items others : List PlainItem) → AreItems side xs items → AreItems side ys others →
    AreItems side (xs ++ ys) (items ++ others)
items_on side xs ys [] others none more = subst (λ l. AreItems side (l ++ ys) others) (sym none) more
items_on side xs ys (item ∷ items) others (first, rest, is, are, all) more =
    (first, rest ++ ys, is, items_on side rest ys items others are more, ap (λ l. l ++ ys) all ∙ append_assoc first rest ys)

pub writes_none : (to : Side) (at : Written) → WritesItems to [] at at
writes_none to at = ([], refl, Appends-nil (bits_to to at))

pub writes_on : (to : Side) (items others : List PlainItem) (before at after : Written) → WritesItems to items before at →
    WritesItems to others at after → WritesItems to (items ++ others) before after
writes_on to items others before at after (xs, are, one) (ys, were, more) = (
  xs ++ ys,
  items_on (sender_to to) xs ys items others are were,
  Appends-trans (bits_to to before) (bits_to to at) (bits_to to after) xs ys one more,
)

-- lines alone change nothing of it
pub after_lines : (to : Side) (items : List PlainItem) (before at after : Written) (line : List ℕ) → WritesLines before at line →
    WritesItems to items at after → WritesItems to items before after
after_lines to items before at after line lines (xs, are, more) =
    (xs, are, subst (λ o. Appends o (bits_to to after) xs) (lines.sent to) more)

pub before_lines : (to : Side) (items : List PlainItem) (before at after : Written) (line : List ℕ) → WritesItems to items before at →
    WritesLines at after line → WritesItems to items before after
before_lines to items before at after line (xs, are, more) lines =
    (xs, are, subst (λ o. Appends (bits_to to before) o xs) (sym (lines.sent to)) more)

-- ---- the items from a place on, up to another one

pub record Upto (to : Side) (items : List PlainItem) (first place : ℕ) (before now : Written) : Type 0 where
  pub lines : now.lines ≡ before.lines
  pub octets : List ℕ
  pub sent : (side : Side) → Appends (bits_to side before) (bits_to side now) (only_to to side octets)
  pub are : (rest : List ℕ) → AreItems (sender_to to) rest (drop place items) → AreItems (sender_to to) (octets ++ rest) (drop first items)

pub at_first : (to : Side) (items : List PlainItem) (first : ℕ) (at : Written) → Upto to items first first at at
at_first to items first at = record {
  lines = refl;
  octets = [];
  sent = λ side. subst (Appends (bits_to side at) (bits_to side at)) (sym (only_none to side)) (Appends-nil (bits_to side at));
  are = λ rest are. are;
}

-- what is left after one item more
left_after : (place : ℕ) (items : List PlainItem) (item : PlainItem) (rest : List PlainItem) → drop place items ≡ item ∷ rest →
    drop (suc place) items ≡ rest
left_after zero (x ∷ items) item rest e = ap (λ (l : List PlainItem). drop 1 l) e
left_after zero [] item rest e = absurd (cc)
left_after (suc place) [] item rest e = absurd (cc)
left_after (suc place) (x ∷ items) item rest e = left_after place items item rest e

pub left_of : (place : ℕ) (items : List PlainItem) (item : PlainItem) (rest : List PlainItem) → drop place items ≡ item ∷ rest →
    drop (place + 1) items ≡ rest
left_of place items item rest e =
    let n : place + 1 ≡ suc place = omega arith in
    ap (λ k. drop k items) n ∙ left_after place items item rest e

one_lent : (to : Side) (items : List PlainItem) (place : ℕ) (lent : LineItem) (tail : List PlainItem) (rest : List ℕ) →
    drop place items ≡ tail → IsFirstLent (sender_to to) (Some lent) tail → AreItems (sender_to to) rest (drop (place + 1) items) →
    AreItems (sender_to to) (lent.octets.now ++ rest) (drop place items)
one_lent to items place lent [] rest e lends are = absurd lends
one_lent to items place lent (item ∷ tail) rest e lends are =
    subst (AreItems (sender_to to) (lent.octets.now ++ rest)) (sym e)
    (lent.octets.now, rest, lends.1, subst (AreItems (sender_to to) rest) (left_of place items item tail e) are, refl)

pub one_upto : (to : Side) (items : List PlainItem) (first place : ℕ) (before now next : Written) (lent : LineItem) →
    Upto to items first place before now → IsLentAt (sender_to to) place (Some lent) items →
    WritesOctets to now next lent.octets.now → Upto to items first (place + 1) before next
one_upto to items first place before now next lent so_far lends wrote = record {
  lines = wrote.lines ∙ so_far.lines;
  octets = so_far.octets ++ lent.octets.now;
  sent = λ side. subst (Appends (bits_to side before) (bits_to side next)) (sym (only_both to side so_far.octets lent.octets.now))
      (Appends-trans (bits_to side before) (bits_to side now) (bits_to side next) _ _ (so_far.sent side) (wrote.sent side));
  are = λ rest are. subst (λ l. AreItems (sender_to to) l (drop first items)) (sym (append_assoc so_far.octets lent.octets.now rest))
      (so_far.are (lent.octets.now ++ rest) (one_lent to items place lent (drop place items) rest refl lends are));
}

pub all_upto : (to : Side) (items : List PlainItem) (first place : ℕ) (before now : Written) → Upto to items first place before now →
    drop place items ≡ [] → WritesTo to (drop first items) before now
all_upto to items first place before now so_far none = record {
  lines = so_far.lines;
  octets = so_far.octets;
  are = subst (λ l. AreItems (sender_to to) l (drop first items)) (append-nil so_far.octets)
      (so_far.are [] (subst (AreItems (sender_to to) []) (sym none) refl));
  sent = so_far.sent;
}

-- ---- both directions

to_both : (counts : Counts) (call : Call) (before at after : Written) (to : Side) →
    WritesTo Answerer (drop counts.to_answerer (under_way_to Answerer call)) before at →
    WritesTo Caller (drop counts.to_caller (under_way_to Caller call)) at after →
    WritesItems to (drop (count_to to counts) (under_way_to to call)) before after
to_both counts call before at after Answerer one other = (
  one.octets,
  one.are,
  subst (Appends before.to_answerer after.to_answerer) (append-nil one.octets)
      (Appends-trans before.to_answerer at.to_answerer after.to_answerer one.octets [] (one.sent Answerer) (other.sent Answerer)),
)
to_both counts call before at after Caller one other = (
  other.octets,
  other.are,
  Appends-trans before.to_caller at.to_caller after.to_caller [] other.octets (one.sent Caller) (other.sent Caller),
)

pub both_sent : (counts : Counts) (call : Call) (before at after : Written) →
    WritesTo Answerer (drop counts.to_answerer (under_way_to Answerer call)) before at →
    WritesTo Caller (drop counts.to_caller (under_way_to Caller call)) at after → WritesAfter counts call before after
both_sent counts call before at after one other = record {
  lines = other.lines ∙ one.lines;
  sent = λ to. to_both counts call before at after to one other;
}

-- ---- steps and then others

pub none_sent : (to : Side) (w : World) (at : Written) → WritesSent to [] w at at
none_sent to w at = ([], refl, writes_none to at)

are_sent_on : (to : Side) (xs ys : Steps) (w : World) (items others : List PlainItem) → AreSent to xs w items →
    AreSent to ys (run xs w) others → AreSent to (xs ++ ys) w (items ++ others)
are_sent_on to [] ys w items others none more = subst (λ l. AreSent to ys w (l ++ others)) (sym none) more
are_sent_on to (step ∷ xs) ys w items others (first, rest, put, are, all) more =
    (first, rest ++ others, put, are_sent_on to xs ys _ rest others are more, ap (λ l. l ++ others) all ∙ append_assoc first rest others)

pub sent_on : (to : Side) (xs ys : Steps) (w : World) (before at after : Written) → WritesSent to xs w before at →
    WritesSent to ys (run xs w) at after → WritesSent to (xs ++ ys) w before after
sent_on to xs ys w before at after (items, are, one) (others, were, more) =
    (items ++ others, are_sent_on to xs ys w items others are were, writes_on to items others before at after one more)

-- ---- one event

-- the counts are those of what is under way
pub record AreCounted (counts : Counts) (call : Call) : Type 0 where
  pub to_answerer : counts.to_answerer ≡ length (under_way_to Answerer call)
  pub to_caller : counts.to_caller ≡ length (under_way_to Caller call)

pub counted_to : (to : Side) (counts : Counts) (call : Call) → AreCounted counts call → count_to to counts ≡ length (under_way_to to call)
counted_to Answerer counts call are = are.to_answerer
counted_to Caller counts call are = are.to_caller

pub event_sent : (to : Side) (old new : Call) (event : Event) (outcome : Outcome) (refused : Bool) (w : World) (counts : Counts)
    (before at after : Written) (line : List ℕ) → Puts old new event refused → is_refused outcome ≡ refused → Shows old w →
    AreCounted counts old →
    WritesLines before at line → WritesAfter counts new at after → WritesSent to ((event, outcome) ∷ []) w before after
event_sent to old new event outcome refused w counts before at after line puts is shows are lines wrote =
    let items : List PlainItem = put_to to old new in (
      items,
      (items, [], subst (λ b. IsPut b items (puts_to to w event)) (sym is) (puts to w shows), refl, sym (append-nil items)),
      after_lines to items before at after line lines
          (subst (λ n. WritesItems to (drop n (under_way_to to new)) at after) (counted_to to counts old are) (wrote.sent to)),
    )

-- ---- a whole call

-- before a call nothing is under way
abbrev pub no_counts : Counts
no_counts = record { to_answerer = 0; to_caller = 0 }

-- what is under way to a station at the start is all put there
pub start_sent : (to : Side) (start : Call) (w : World) (before begun : Written) → Shows start w →
    WritesAfter no_counts start before begun → WritesItems to (on_way_to to w) before begun
start_sent Answerer start w before begun shows begins =
    subst (λ l. WritesItems Answerer l before begun) (sym shows.to_answerer) (begins.sent Answerer)
start_sent Caller start w before begun shows begins =
    subst (λ l. WritesItems Caller l before begun) (sym shows.to_caller) (begins.sent Caller)

pub call_sent : (to : Side) (steps : Steps) (w : World) (start : Call) (before begun at after : Written) (line : List ℕ) →
    Shows start w → WritesAfter no_counts start before begun → WritesSent to steps w begun at → WritesLines at after line →
    WritesCall to steps w before after
call_sent to steps w start before begun at after line shows begins (items, are, wrote) lines = (
  items,
  are,
  before_lines to (on_way_to to w ++ items) before at after line
      (writes_on to (on_way_to to w) items before begun at (start_sent to start w before begun shows begins) wrote) lines,
)

-- ---- a step of a driven call

pub shown_to : (to : Side) (v : Call) (w : World) → Shows v w → on_way_to to w ≡ under_way_to to v
shown_to Answerer v w shows = shows.to_answerer
shown_to Caller v w shows = shows.to_caller

-- a step's lines were written, and then what it has put under way
pub record StepWrites (now new : Call) (at after : Written) (line : List ℕ) : Type 0 where
  pub mid : Written
  pub lines : WritesLines at mid line
  pub counts : Counts
  pub counted : AreCounted counts now
  pub wrote : WritesAfter counts new mid after

pub step_lines : (now new : Call) (at after : Written) (line : List ℕ) → StepWrites now new at after line →
    Appends at.lines after.lines line
step_lines now new at after line did = subst (λ o. Appends at.lines o line) (sym did.wrote.lines) did.lines.lines

-- ---- lines and then others

pub lines_on : (before at after : Written) (xs ys : List ℕ) → WritesLines before at xs → WritesLines at after ys →
    WritesLines before after (xs ++ ys)
lines_on before at after xs ys one more = record {
  lines = Appends-trans before.lines at.lines after.lines xs ys one.lines more.lines;
  sent = λ side. more.sent side ∙ one.sent side;
}

-- No event depends on the pages that are stored: with other pages before them it does the same. So does a call whose stored pages the caller
-- alone keeps.
use Rattle.std.proofs.Common.{◌≡◌, ◌+◌, ◌++◌, ℕ, suc, Bool, true, false, cond, List, [], ◌∷◌, Option, Some, None, refl, ap, sym, subst, ◌∙◌, length, take, ◌≤◌}
use Rattle.std.proofs.Common.{◌<◌, ◌⊎◌, inl, inr, arith, append_assoc, length-append, slice_get}
use Rattle.std.proofs.lemmas.List.{append-nil, length-take-le}
use Rattle.raster.specs.Pages.{PagePixels}
use Rattle.stations.specs.AnswererStep.{Answerer, AnswererAnswer, answerer_step, answerer_items}
use Rattle.stations.specs.CallerStep.{Caller, caller_step, caller_items}
use Rattle.stations.specs.Inputs.{PlainItem, AnswererInput, CallerInput, framed, checked, hears, listens, trains, timeout, t5, t1, t2, is_busy}
use Rattle.stations.specs.Laws.{Each}
use Rattle.stations.specs.Layers.{Document}
use Rattle.stations.specs.Taken.{FrontStays, with_front}
use Rattle.stations.specs.declared.turn.Turn.{Turn}
use Rattle.stations.specs.declared.turn.Turn.TheVariants.{Silent}
use Rattle.line_sim.specs.Entries.{Said, entry_of, event_fields, event_says, input_to_answerer, input_to_caller, is_refused, item_of}
use Rattle.line_sim.specs.Entries.{station_says, unless_lost}
use Rattle.line_sim.specs.Headline.{CanBeWritten, EventsMove, Promised}
use Rattle.line_sim.specs.Line.{World, Outcome, acts, answerer_acts, answerer_sends, answerer_timer, caller_acts, caller_sends, caller_timer}
use Rattle.line_sim.specs.Line.{delivers_to_answerer, delivers_to_caller, happens, sent}
use Rattle.line_sim.specs.Line.Outcome.{Done, Nothing, InputLost, Cut}
use Rattle.line_sim.specs.Live.{HasAgain, IsLive, IsWhole, whole_call}
use Rattle.line_sim.specs.PageMachine.{AtMostTwo, IsBeginning, Move, PageState}
use Rattle.line_sim.specs.PageMachine.AtMostTwo.{no_move, one_move, two_moves}
use Rattle.line_sim.specs.PageMachine.Move.{answerer_ends, caller_ends, confirms_page, stores}
use Rattle.line_sim.specs.Polite.{is_between_groups, next_steps}
use Rattle.line_sim.specs.Represents.{Acts, EventWrites, Shows}
use Rattle.line_sim.specs.declared.call.Call.{Call}
use Rattle.line_sim.specs.declared.event.Entry.{Entry}
use Rattle.line_sim.specs.declared.event.Event.{Event}
use Rattle.line_sim.specs.declared.event.Event.TheVariants.{AnswererT1, AnswererT2, Busy, CallerT5, CallerTimeout, DeliverToAnswerer}
use Rattle.line_sim.specs.declared.event.Event.TheVariants.{DeliverToCaller, LoseToAnswerer, LoseToCaller, Spoil}
use Rattle.line_sim.specs.declared.event.Fields.{Fields}
use Rattle.line_sim.specs.declared.event.Kind.{Kind}
use Rattle.stations.proofs.CallerRows.{get_after}
use Rattle.line_sim.proofs.Invariant.{Laws}
use Rattle.line_sim.proofs.Lives.{live_document, live_holds, live_moves, live_on}

-- a call, and a world, with other pages before those that are stored
abbrev pub fronted : List PagePixels → Call → Call
fronted front v = record v { answerer = with_front front v.answerer }

abbrev pub world_with : List PagePixels → World → World
world_with front w = record w { answerer = with_front front w.answerer }

-- ---- a step, and what is sent

answerer_sends_with : (front : List PagePixels) (turn : Turn) (w : World) (next : Answerer) (outcome : Outcome) →
    answerer_sends turn (world_with front w) (with_front front next) (sent outcome (answerer_items (with_front front next) turn)) ≡
    world_with front (answerer_sends turn w next (sent outcome (answerer_items next turn)))
answerer_sends_with front Silent w next outcome = refl
answerer_sends_with front _ w next outcome = refl

answerer_acts_with : FrontStays → (front : List PagePixels) (w : World) (outcome : Outcome) (input : AnswererInput) →
    answerer_acts (world_with front w) outcome input ≡ world_with front (answerer_acts w outcome input)
answerer_acts_with stays front w outcome input =
    ap (λ (a : AnswererAnswer). answerer_sends a.turn (world_with front w) a.next (sent outcome (answerer_items a.next a.turn)))
    (stays front w.answerer input) ∙
    answerer_sends_with front (answerer_step w.answerer input).turn w (answerer_step w.answerer input).next outcome

caller_sends_with : (front : List PagePixels) (turn : Turn) (w : World) (next : Caller) (items : List PlainItem) →
    caller_sends turn (world_with front w) next items ≡ world_with front (caller_sends turn w next items)
caller_sends_with front Silent w next items = refl
caller_sends_with front _ w next items = refl

caller_acts_with : (front : List PagePixels) (w : World) (outcome : Outcome) (input : CallerInput) →
    caller_acts (world_with front w) outcome input ≡ world_with front (caller_acts w outcome input)
caller_acts_with front w outcome input =
    let answer = caller_step w.caller input in
    caller_sends_with front answer.turn w answer.next (sent outcome (caller_items answer.next answer.turn))

-- ---- an event

to_answerer_with : FrontStays → (front : List PagePixels) (w : World) (outcome : Outcome) (items : List PlainItem) →
    delivers_to_answerer (world_with front w) outcome items ≡ world_with front (delivers_to_answerer w outcome items)
to_answerer_with stays front w outcome [] = refl
to_answerer_with stays front w InputLost (item ∷ items) = refl
to_answerer_with stays front w outcome (framed signal ∷ items) =
    answerer_acts_with stays front (record w { to_answerer = items }) outcome (listens signal)
to_answerer_with stays front w outcome (checked octets ∷ items) =
    answerer_acts_with stays front (record w { to_answerer = items }) outcome (trains octets)

to_caller_with : (front : List PagePixels) (w : World) (outcome : Outcome) (items : List PlainItem) →
    delivers_to_caller (world_with front w) outcome items ≡ world_with front (delivers_to_caller w outcome items)
to_caller_with front w outcome [] = refl
to_caller_with front w InputLost (item ∷ items) = refl
to_caller_with front w outcome (framed signal ∷ items) =
    caller_acts_with front (record w { to_caller = items }) outcome (hears signal)
to_caller_with front w outcome (checked octets ∷ items) = refl

caller_timer_with : (front : List PagePixels) (w : World) (outcome : Outcome) (input : CallerInput) →
    caller_timer (world_with front w) outcome input ≡ world_with front (caller_timer w outcome input)
caller_timer_with front w InputLost input = refl
caller_timer_with front w outcome input = caller_acts_with front w outcome input

answerer_timer_with : FrontStays → (front : List PagePixels) (w : World) (outcome : Outcome) (input : AnswererInput) →
    answerer_timer (world_with front w) outcome input ≡ world_with front (answerer_timer w outcome input)
answerer_timer_with stays front w InputLost input = refl
answerer_timer_with stays front w outcome input = answerer_acts_with stays front w outcome input

acts_with : FrontStays → (front : List PagePixels) (w : World) (event : Event) (outcome : Outcome) →
    acts (world_with front w) event outcome ≡ world_with front (acts w event outcome)
acts_with stays front w DeliverToAnswerer outcome = to_answerer_with stays front w outcome w.to_answerer
acts_with stays front w DeliverToCaller outcome = to_caller_with front w outcome w.to_caller
acts_with stays front w LoseToAnswerer outcome = refl
acts_with stays front w LoseToCaller outcome = refl
acts_with stays front w Spoil outcome = refl
acts_with stays front w CallerTimeout outcome = caller_timer_with front w outcome timeout
acts_with stays front w CallerT5 outcome = caller_timer_with front w outcome t5
acts_with stays front w AnswererT1 outcome = answerer_timer_with stays front w outcome t1
acts_with stays front w AnswererT2 outcome = answerer_timer_with stays front w outcome t2
acts_with stays front w (Busy busy) outcome = answerer_timer_with stays front w outcome (is_busy busy)

happens_with : FrontStays → (front : List PagePixels) (w : World) (event : Event) (outcome : Outcome) →
    happens (world_with front w) event outcome ≡ world_with front (happens w event outcome)
happens_with stays front w event Nothing = refl
happens_with stays front w event outcome = acts_with stays front w event outcome

-- ---- the entry

says_with : FrontStays → (front : List PagePixels) (w : World) (to_caller : Option CallerInput) (to_answerer : Option AnswererInput) →
    station_says (world_with front w) to_caller to_answerer ≡ station_says w to_caller to_answerer
says_with stays front w (Some input) other = refl
says_with stays front w None (Some input) =
    ap (λ (a : AnswererAnswer). record { turn = a.turn; fcds = 0 }) (stays front w.answerer input)
says_with stays front w None None = refl

inputs_with : (front : List PagePixels) (w : World) (event : Event) →
    (input_to_caller (world_with front w) event ≡ input_to_caller w event) ×
    (input_to_answerer (world_with front w) event ≡ input_to_answerer w event) ×
    (item_of (world_with front w) event ≡ item_of w event) × (event_fields (world_with front w) event ≡ event_fields w event)
inputs_with front w DeliverToAnswerer = (refl, refl, refl, refl)
inputs_with front w DeliverToCaller = (refl, refl, refl, refl)
inputs_with front w LoseToAnswerer = (refl, refl, refl, refl)
inputs_with front w LoseToCaller = (refl, refl, refl, refl)
inputs_with front w _ = (refl, refl, refl, refl)

event_says_with : FrontStays → (front : List PagePixels) (w : World) (event : Event) (outcome : Outcome) →
    event_says (world_with front w) event outcome ≡ event_says w event outcome
event_says_with stays front w event outcome =
    let same = inputs_with front w event in
    let high : World = world_with front w in
    ap (λ i. station_says high (unless_lost outcome i) (unless_lost outcome (input_to_answerer high event))) same.0 ∙
    (ap (λ i. station_says high (unless_lost outcome (input_to_caller w event)) (unless_lost outcome i)) same.1 ∙
    says_with stays front w (unless_lost outcome (input_to_caller w event)) (unless_lost outcome (input_to_answerer w event)))

-- the entry of an event, of what it shows and what is said
abbrev saying : Event → Outcome → Option Kind → Fields → Said → Option Entry
saying event outcome item fields said =
    Some (record { event = event; item = item; fields = fields; turn = said.turn; fcds = said.fcds; refused = is_refused outcome })

saying_with : FrontStays → (front : List PagePixels) (w : World) (event : Event) (outcome : Outcome) →
    saying event outcome (item_of (world_with front w) event) (event_fields (world_with front w) event)
    (event_says (world_with front w) event outcome) ≡
    saying event outcome (item_of w event) (event_fields w event) (event_says w event outcome)
saying_with stays front w event outcome =
    let same = inputs_with front w event in
    let high : World = world_with front w in
    ap (λ i. saying event outcome i (event_fields high event) (event_says high event outcome)) same.2 ∙
    (ap (λ f. saying event outcome (item_of w event) f (event_says high event outcome)) same.3 ∙
    ap (saying event outcome (item_of w event) (event_fields w event)) (event_says_with stays front w event outcome))

entry_with : FrontStays → (front : List PagePixels) (w : World) (event : Event) (outcome : Outcome) →
    entry_of (world_with front w) event outcome ≡ entry_of w event outcome
entry_with stays front w event Nothing = refl
entry_with stays front w event Done = saying_with stays front w event Done
entry_with stays front w event InputLost = saying_with stays front w event InputLost
entry_with stays front w event (Cut made) = saying_with stays front w event (Cut made)

-- ---- fields

shows_with : (front : List PagePixels) (v : Call) (w : World) → Shows v w → Shows (fronted front v) (world_with front w)
shows_with front v w shows =
    record {
      caller = shows.caller;
      answerer = ap (with_front front) shows.answerer;
      to_answerer = shows.to_answerer;
      to_caller = shows.to_caller;
    }

-- the world without them
abbrev pub without : Call → World → World
without v w = record w { answerer = v.answerer }

pub shows_without : (front : List PagePixels) (v : Call) (w : World) → Shows (fronted front v) w → Shows v (without v w)
shows_without front v w shows =
    record { caller = shows.caller; answerer = refl; to_answerer = shows.to_answerer; to_caller = shows.to_caller }

pub is_with : (front : List PagePixels) (v : Call) (w : World) → Shows (fronted front v) w → world_with front (without v w) ≡ w
is_with front v w shows = ap (λ (s : Answerer). record w { answerer = s }) (sym shows.answerer)

pub acts_fronted : FrontStays → (front : List PagePixels) (old new : Call) (event : Event) (entry : Entry) → Acts old new event entry →
    Acts (fronted front old) (fronted front new) event entry
acts_fronted stays front old new event entry did = (
  did.0,
  λ w shows.
      let low : World = without old w in
      let is : world_with front low ≡ w = is_with front old w shows in
      let h = did.1 low (shows_without front old w shows) in (
        subst (λ x. Shows (fronted front new) (happens x event did.0)) is
            (subst (Shows (fronted front new)) (sym (happens_with stays front low event did.0))
            (shows_with front new (happens low event did.0) h.0)),
        subst (λ x. entry_of x event did.0 ≡ Some entry) is (entry_with stays front low event did.0 ∙ h.1),
      ),
)

pub writes_without : FrontStays → (front : List PagePixels) (v : Call) (event : Event) → EventWrites (fronted front v) event →
    EventWrites v event
writes_without stays front v event writes =
    let w : World = writes.0 in
    let low : World = without v w in
    let is : happens w event Done ≡ world_with front (happens low event Done) =
    ap (λ x. happens x event Done) (sym (is_with front v w writes.1)) ∙ happens_with stays front low event Done in (
      low,
      shows_without front v w writes.1,
      subst (λ x. Each CanBeWritten x.to_answerer) is writes.2,
      subst (λ x. Each CanBeWritten x.to_caller) is writes.3,
    )

-- ---- a call whose stored pages the caller alone keeps

pub whole_writes : FrontStays → (same : ℕ) (v : Call) (event : Event) → EventWrites (whole_call same v) event → EventWrites v event
whole_writes stays same v event = writes_without stays (take same v.caller.document) v event

-- an event keeps the document
pub whole_document : Promised → FrontStays → (same : ℕ) (old new : Call) (event : Event) (entry : Entry) → IsWhole same old →
    Acts old new event entry → new.caller.document ≡ old.caller.document
whole_document laws stays same old new event entry inv did =
    let front : List PagePixels = take same old.caller.document in
    live_document laws (whole_call same old) (fronted front new) event entry inv.live (acts_fronted stays front old new event entry did)

-- what is done to such a call is done to the whole one
pub whole_acts : Promised → FrontStays → (same : ℕ) (old new : Call) (event : Event) (entry : Entry) → IsWhole same old →
    Acts old new event entry → Acts (whole_call same old) (whole_call same new) event entry
whole_acts laws stays same old new event entry inv did =
    subst (λ document. Acts (whole_call same old) (fronted (take same document) new) event entry)
    (sym (whole_document laws stays same old new event entry inv did))
    (acts_fronted stays (take same old.caller.document) old new event entry did)

-- ---- and so it is if a page is let go of then

-- an event stores one page at most
one_stored : {n : ℕ} {p q : PageState} → Move n p q → q.stored ≤ suc p.stored
one_stored (stores {p = p} same few run) = let stored : ℕ = p.stored in omega arith
one_stored (confirms_page {p = p} below run) = let stored : ℕ = p.stored in omega arith
one_stored (caller_ends {p = p} why run may) = let stored : ℕ = p.stored in omega arith
one_stored (answerer_ends {p = p} why run may) = let stored : ℕ = p.stored in omega arith

-- none while one is unconfirmed
none_stored : {n : ℕ} {p q : PageState} → Move n p q → p.confirms < p.stored → q.stored ≡ p.stored
none_stored (stores same few run) below = absurd (omega (arith, same, below))
none_stored (confirms_page less run) below = refl
none_stored (caller_ends why run may) below = refl
none_stored (answerer_ends why run may) below = refl

two_stored : {n : ℕ} {p q r : PageState} → Move n p q → Move n q r → r.stored ≤ suc p.stored
two_stored (stores {p = p} same few run) more = let none = none_stored more (omega (arith, same)) in omega (arith, none)
two_stored (confirms_page below run) more = one_stored more
two_stored (caller_ends why run may) more = one_stored more
two_stored (answerer_ends why run may) more = one_stored more

few_stored : {n : ℕ} {p q : PageState} → AtMostTwo n p q → q.stored ≤ suc p.stored
few_stored (no_move {p = p}) = let stored : ℕ = p.stored in omega arith
few_stored (one_move move) = one_stored move
few_stored (two_moves move more) = two_stored move more

-- a page that is stored after the document's first is its next one
next_page : (document : Document) (same : ℕ) (own : List PagePixels) → same ≤ length document →
    IsBeginning (take same document ++ own) document → length own ≤ 1 →
    (own ≡ []) ⊎ ((page : PagePixels) × (own ≡ page ∷ []) × (slice_get document same ≡ Some page))
next_page document same [] few begins one = inl refl
next_page document same (page ∷ []) few begins one =
    let front : List PagePixels = take same document in
    let long : length front ≡ same = length-take-le same document few in
    inr (
      page,
      refl,
      subst (λ d. slice_get d same ≡ Some page) (sym (append_assoc front (page ∷ []) begins.0) ∙ begins.1)
          (subst (λ n. slice_get (front ++ page ∷ begins.0) n ≡ Some page) long (get_after front (page ∷ begins.0))),
    )
next_page document same (page ∷ other ∷ own) few begins one = absurd (let n : ℕ = length own in omega (arith, one))

-- a page was let go of if it is the document's at a place, and the place is the next one then
pub record LetsGo (same after : ℕ) (new left : Call) : Type 0 where
  pub whole : whole_call after left ≡ whole_call same new
  pub few : same ≤ length new.caller.document → after ≤ length left.caller.document
  pub none : new.answerer.pages ≡ [] → left.answerer.pages ≡ []
  pub once : HasAgain new same → left.answerer.pages ≡ []

by_page : (same after : ℕ) (new left : Call) → LetsGo same after new left → (new.answerer.pages ≡ []) ⊎ HasAgain new same →
    left.answerer.pages ≡ []
by_page same after new left goes (inl none) = goes.none none
by_page same after new left goes (inr again) = goes.once again

pub whole_on : Laws → EventsMove → FrontStays → (same after : ℕ) (old new left : Call) (event : Event) (entry : Entry) → IsWhole same old →
    Acts old new event entry → LetsGo same after new left → IsWhole after left
whole_on laws moves stays same after old new left event entry inv did goes =
    let kept : new.caller.document ≡ old.caller.document = whole_document laws.0 stays same old new event entry inv did in
    let acts : Acts (whole_call same old) (whole_call same new) event entry = whole_acts laws.0 stays same old new event entry inv did in
    let live : IsLive (whole_call same new) = live_on (whole_call same old) (whole_call same new) event entry inv.live acts in
    let few : same ≤ length new.caller.document = subst (λ document. same ≤ length document) (sym kept) inv.few in
    let one : length new.answerer.pages ≤ 1 =
    (let grown = few_stored (live_moves laws.0 moves (whole_call same old) (whole_call same new) event entry inv.live acts) in
    let before : length (take same old.caller.document ++ old.answerer.pages) ≡ same =
    ap (λ pages. length (take same old.caller.document ++ pages)) inv.once ∙
    (ap length (append-nil (take same old.caller.document)) ∙ length-take-le same old.caller.document inv.few) in
    let after : length (take same new.caller.document ++ new.answerer.pages) ≡ same + length new.answerer.pages =
    length-append (take same new.caller.document) new.answerer.pages ∙
    ap (λ n. n + length new.answerer.pages) (length-take-le same new.caller.document few) in
    omega (arith, grown, before, after)) in
    record {
      live = subst IsLive (sym goes.whole) live;
      few = goes.few few;
      once = by_page same after new left goes
          (next_page new.caller.document same new.answerer.pages few (live_holds laws (whole_call same new) live).1.safe.beginning one);
    }

-- the same of the values that a call shows before and after it
pub whole_done : Promised → FrontStays → (same after : ℕ) (old new left seen : Call) (event : Event) (entry : Entry) → IsWhole same old →
    whole_call same old ≡ seen → Acts old new event entry → whole_call after left ≡ whole_call same new →
    Acts seen (whole_call after left) event entry
whole_done laws stays same after old new left seen event entry inv is did whole =
    subst (λ v. Acts v (whole_call after left) event entry) is
    (subst (λ v. Acts (whole_call same old) v event entry) (sym whole) (whole_acts laws stays same old new event entry inv did))

-- the pages that are stored of such a call, and their number
pub whole_pages : (same : ℕ) (v : Call) → IsWhole same v → take same v.caller.document ≡ (whole_call same v).answerer.pages
whole_pages same v inv =
    let front : List PagePixels = take same v.caller.document in
    sym (ap (λ pages. front ++ pages) inv.once ∙ append-nil front)

pub whole_stored : (same : ℕ) (v : Call) → IsWhole same v → same ≡ length (whole_call same v).answerer.pages
whole_stored same v inv = sym (length-take-le same v.caller.document inv.few) ∙ ap length (whole_pages same v inv)

-- ---- what comes next if nobody disturbs such a call

-- nothing is under way: the next group begins, or nothing is left
next_where : (same : ℕ) (v seen : Call) (w : World) (groups : Bool) → whole_call same v ≡ seen → v.to_answerer ≡ [] → v.to_caller ≡ [] →
    ((x : World) → Shows v x → groups ≡ is_between_groups x) → Shows seen w →
    next_steps w w.to_answerer w.to_caller ≡ cond groups ((AnswererT2, Done) ∷ (DeliverToCaller, Done) ∷ []) []
next_where same v seen w groups is there back told shown =
    let shows : Shows (whole_call same v) w = subst (λ u. Shows u w) (sym is) shown in
    let front : List PagePixels = take same v.caller.document in
    let group : List (Event × Outcome) = (AnswererT2, Done) ∷ (DeliverToCaller, Done) ∷ [] in
    let between : is_between_groups (world_with front (without v w)) ≡ is_between_groups w =
    ap is_between_groups (is_with front v w shows) in
    ap (λ items. next_steps w items w.to_caller) (shows.to_answerer ∙ there) ∙
    (ap (λ items. next_steps w [] items) (shows.to_caller ∙ back) ∙
    ap (λ b. cond b group []) (sym (told (without v w) (shows_without front v w shows) ∙ between)))

pub next_group : (same : ℕ) (v seen : Call) (w : World) (groups : Bool) → whole_call same v ≡ seen → v.to_answerer ≡ [] →
    v.to_caller ≡ [] → ((x : World) → Shows v x → groups ≡ is_between_groups x) → groups ≡ true → Shows seen w →
    next_steps w w.to_answerer w.to_caller ≡ (AnswererT2, Done) ∷ (DeliverToCaller, Done) ∷ []
next_group same v seen w groups is there back told is_so shown =
    next_where same v seen w groups is there back told shown ∙
    ap (λ b. cond b ((AnswererT2, Done) ∷ (DeliverToCaller, Done) ∷ []) []) is_so

pub next_nothing : (same : ℕ) (v seen : Call) (w : World) (groups : Bool) → whole_call same v ≡ seen → v.to_answerer ≡ [] →
    v.to_caller ≡ [] → ((x : World) → Shows v x → groups ≡ is_between_groups x) → groups ≡ false → Shows seen w →
    next_steps w w.to_answerer w.to_caller ≡ []
next_nothing same v seen w groups is there back told is_not shown =
    next_where same v seen w groups is there back told shown ∙
    ap (λ b. cond b ((AnswererT2, Done) ∷ (DeliverToCaller, Done) ∷ []) []) is_not

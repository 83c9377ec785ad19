-- The folder of an answerer whose pages are handed over; and how the calls of both commands begin.
use Rattle.std.proofs.Common.{arith, inl, inr, ◌≡◌, ◌≤◌, ◌<◌, ◌++◌, ◌∷◌, ◌∙◌, [], ℕ, List, Bool, true, false, Option, Some, None, length, ap, refl, sym, subst}
use Rattle.std.specs.Prelude.{◌-◌, ◌^◌}
use Rattle.conversations.specs.Answering.{StoreStep, limited_behaviour, pages_of}
use Rattle.conversations.specs.Conversations.{ConversationFields, refused_so}
use Rattle.conversations.specs.Holding.{CountsFirst, HandsNext, HoldsPages, can_come}
use Rattle.conversations.specs.Stores.{IsHolder, IsStock, Stock}
use Rattle.conversations.specs.declared.line.Fate.TheVariants.{Kept, Lost}
use Rattle.conversations.specs.declared.line.Said.{Said}
use Rattle.conversations.specs.declared.line.Said.TheVariants.{Quiet, Busy, Received, NotReady, Ready, Missed, Told, Stop, End}
use Rattle.conversations.specs.declared.line.TimedLine.{TimedLine}
use Rattle.joined_terminals.specs.Answered.{GivesTurn, answerer_lends, leaves, turn_of}
use Rattle.joined_terminals.specs.Driven.{Driven, joined}
use Rattle.joined_terminals.specs.HeldAnswers.{HeldAnswersAreSteps, HolderAnswers, HolderIsReady, HoldsOne, holder_steps}
use Rattle.joined_terminals.specs.HeldPages.{HasPage, HeldPageStays}
use Rattle.joined_terminals.specs.Joining.{Joined}
use Rattle.joined_terminals.specs.Steps.{appends}
use Rattle.raster.specs.Pages.{PagePixels}
use Rattle.station_commands.proofs.FolderLemmas.{folder_is_store}
use Rattle.station_commands.proofs.HeldBooks.{IsOne, Moves, StandsIn, counts_so, kept_on, moves}
use Rattle.station_commands.specs.FolderBooks.{AnswersAreHeld, CommandsBegin, CommandsHoldOne, ConfirmedAreKept, Event, FolderHolds, HappenAllHeld}
use Rattle.station_commands.specs.FolderBooks.{HappensHeld, HoldsBook, KeptAreFiled, at_begin}
use Rattle.station_commands.specs.FolderBooks.Event.{answered, other}
use Rattle.joined_terminals.specs.Held.{DrivesHeld, HeldAreStored}
use Rattle.joined_terminals.specs.Steps.{Step}
use Rattle.station_commands.specs.Folders.{FolderCounts, FolderHands, FolderRefuses, KeepsPages, held_name, stock_of}
use Rattle.station_commands.specs.HeldBooks.{KeepsOn, KeptBetween, StandsBy}
use Rattle.station_commands.specs.Stations.{page_limit}
use Rattle.station_commands.specs.Talks.{receiving, wish_of}
use Rattle.stations.specs.AnswererStep.{new_answerer}
use Rattle.stations.specs.CallerStep.{no_params}
use Rattle.station_commands.specs.declared.station.folder.CallLimits.{CallLimits}
use Rattle.station_commands.specs.declared.station.folder.Folder.{Folder}
use Rattle.station_commands.specs.declared.station.folder.HeldPage.{HeldPage}
use Rattle.station_commands.specs.declared.station.folder.Tally.{Tally}
use Rattle.signals.specs.declared.signal.Side.TheVariants.{Answerer as AnswererSide}
use Rattle.stations.specs.Limiting.{LimitedFields}
use Rattle.stations.specs.Stopping.{StoppableCallerFields}
use Rattle.stations.specs.declared.stopping.Cut.{Cut}
use Rattle.stations.specs.declared.turn.Turn.{Turn}
use Rattle.stations.specs.declared.turn.Turn.TheVariants.{Dis, Silent}
use Rattle.terminals.specs.Speaking.{Speaking}

-- ---- a holder and the pages that it may have

module _ {P : Type 0} (hands refuses counts : StoreStep P) (stock : P → Stock) (l : IsHolder P hands refuses counts stock) where
  same_told : (old new : P) → new ≡ old → (pages : List PagePixels) → IsStock (stock old) pages → IsStock (stock new) pages
  same_told old new h pages may = subst (λ s. IsStock (stock s) pages) (sym h) may

  counts_told : (xs : List PagePixels) (old new : P) → CountsFirst counts xs old new → (pages : List PagePixels) →
      IsStock (stock old) pages → (after : List PagePixels) × IsStock (stock new) after × CountsFirst appends xs pages after
  counts_told [] old new h pages may = (pages, same_told old new h pages may, refl)
  counts_told (x ∷ xs) old new h pages may = (pages ++ x ∷ [], l.counted old x new h pages may, refl)

  hands_told : (held : Option (List ℕ)) (xs : List PagePixels) (c ready : ConversationFields LimitedFields) (old new : P) (kept : Bool) →
      HandsNext hands refuses held xs c ready old new kept → (pages : List PagePixels) → IsStock (stock old) pages →
      (after : List PagePixels) × IsStock (stock new) after × HandsNext leaves leaves held xs c ready pages after kept
  hands_told (Some name) xs c ready old new kept h pages may = (pages, same_told old new h.1 pages may, (h.0, refl, h.2))
  hands_told None [] c ready old new kept h pages may = (pages, same_told old new h.1 pages may, (h.0, refl, h.2))
  hands_told None (x ∷ xs) c ready old new true h pages may = (pages, l.handed old x new h.0 pages may, (refl, h.1))
  hands_told None (x ∷ xs) c ready old new false h pages may = (pages, l.refused old x new h.0 pages may, (refl, h.1))

  pub holds_told : (held : Option (List ℕ)) (said : Said) (c ready : ConversationFields LimitedFields) (old new : P) (kept : Bool) →
      HoldsPages hands refuses counts held said c ready old new kept → (pages : List PagePixels) → IsStock (stock old) pages →
      (after : List PagePixels) × IsStock (stock new) after × HoldsPages leaves leaves appends held said c ready pages after kept
  holds_told held (Told Kept file) c ready old new kept h pages may =
      let r = counts_told (pages_of c) old new h.0 pages may in (r.0, r.1, (r.2, h.1, h.2))
  holds_told held (Told Lost file) c ready old new kept h pages may = (pages, same_told old new h.0 pages may, (refl, h.1, h.2))
  holds_told held Quiet c ready old new kept h pages may = hands_told held (pages_of c) c ready old new kept h pages may
  holds_told held Busy c ready old new kept h pages may = hands_told held (pages_of c) c ready old new kept h pages may
  holds_told held (Received channel kind bits octets) c ready old new kept h pages may = hands_told held (pages_of c) c ready old new kept h pages may
  holds_told held NotReady c ready old new kept h pages may = hands_told held (pages_of c) c ready old new kept h pages may
  holds_told held Ready c ready old new kept h pages may = hands_told held (pages_of c) c ready old new kept h pages may
  holds_told held Missed c ready old new kept h pages may = hands_told held (pages_of c) c ready old new kept h pages may
  holds_told held Stop c ready old new kept h pages may = hands_told held (pages_of c) c ready old new kept h pages may
  holds_told held End c ready old new kept h pages may = hands_told held (pages_of c) c ready old new kept h pages may

-- ---- whose pages are handed over stays

counts_stay : (xs : List PagePixels) (old new : Folder) → CountsFirst counts_so xs old new → new.holds ≡ old.holds
counts_stay [] old new h = ap (λ (f : Folder). f.holds) h
counts_stay (x ∷ xs) old new h = ap (λ (f : Folder). f.holds) h.1

hands_stay : (held : Option (List ℕ)) (xs : List PagePixels) (c ready : ConversationFields LimitedFields) (old new : Folder) (kept : Bool) →
    HandsNext FolderHands FolderRefuses held xs c ready old new kept → new.holds ≡ old.holds
hands_stay (Some name) xs c ready old new kept h = ap (λ (f : Folder). f.holds) h.1
hands_stay None [] c ready old new kept h = ap (λ (f : Folder). f.holds) h.1
hands_stay None (x ∷ xs) c ready old new true h = ap (λ (f : Folder). f.holds) h.0.1
hands_stay None (x ∷ xs) c ready old new false h = ap (λ (f : Folder). f.holds) h.0.rest

holds_stay : (held : Option (List ℕ)) (said : Said) (c ready : ConversationFields LimitedFields) (old new : Folder) (kept : Bool) →
    HoldsPages FolderHands FolderRefuses counts_so held said c ready old new kept → new.holds ≡ old.holds
holds_stay held (Told Kept file) c ready old new kept h = counts_stay (pages_of c) old new h.0
holds_stay held (Told Lost file) c ready old new kept h = ap (λ (f : Folder). f.holds) h.0
holds_stay held Quiet c ready old new kept h = hands_stay held (pages_of c) c ready old new kept h
holds_stay held Busy c ready old new kept h = hands_stay held (pages_of c) c ready old new kept h
holds_stay held (Received channel kind bits octets) c ready old new kept h = hands_stay held (pages_of c) c ready old new kept h
holds_stay held NotReady c ready old new kept h = hands_stay held (pages_of c) c ready old new kept h
holds_stay held Ready c ready old new kept h = hands_stay held (pages_of c) c ready old new kept h
holds_stay held Missed c ready old new kept h = hands_stay held (pages_of c) c ready old new kept h
holds_stay held Stop c ready old new kept h = hands_stay held (pages_of c) c ready old new kept h
holds_stay held End c ready old new kept h = hands_stay held (pages_of c) c ready old new kept h

-- ---- and what a call may have

counts_limits : (xs : List PagePixels) (old new : Folder) → CountsFirst counts_so xs old new → new.limits ≡ old.limits
counts_limits [] old new h = ap (λ (f : Folder). f.limits) h
counts_limits (x ∷ xs) old new h = ap (λ (f : Folder). f.limits) h.1

hands_limits : (held : Option (List ℕ)) (xs : List PagePixels) (c ready : ConversationFields LimitedFields) (old new : Folder) (kept : Bool) →
    HandsNext FolderHands FolderRefuses held xs c ready old new kept → new.limits ≡ old.limits
hands_limits (Some name) xs c ready old new kept h = ap (λ (f : Folder). f.limits) h.1
hands_limits None [] c ready old new kept h = ap (λ (f : Folder). f.limits) h.1
hands_limits None (x ∷ xs) c ready old new true h = ap (λ (f : Folder). f.limits) h.0.1
hands_limits None (x ∷ xs) c ready old new false h = h.0.limits

holds_limits : (held : Option (List ℕ)) (said : Said) (c ready : ConversationFields LimitedFields) (old new : Folder) (kept : Bool) →
    HoldsPages FolderHands FolderRefuses counts_so held said c ready old new kept → new.limits ≡ old.limits
holds_limits held (Told Kept file) c ready old new kept h = counts_limits (pages_of c) old new h.0
holds_limits held (Told Lost file) c ready old new kept h = ap (λ (f : Folder). f.limits) h.0
holds_limits held Quiet c ready old new kept h = hands_limits held (pages_of c) c ready old new kept h
holds_limits held Busy c ready old new kept h = hands_limits held (pages_of c) c ready old new kept h
holds_limits held (Received channel kind bits octets) c ready old new kept h = hands_limits held (pages_of c) c ready old new kept h
holds_limits held NotReady c ready old new kept h = hands_limits held (pages_of c) c ready old new kept h
holds_limits held Ready c ready old new kept h = hands_limits held (pages_of c) c ready old new kept h
holds_limits held Missed c ready old new kept h = hands_limits held (pages_of c) c ready old new kept h
holds_limits held Stop c ready old new kept h = hands_limits held (pages_of c) c ready old new kept h
holds_limits held End c ready old new kept h = hands_limits held (pages_of c) c ready old new kept h

-- what held of a folder holds of one with the same held page, limits and tally
same_stands : (since : Tally) (old new : Folder) (pages : List PagePixels) → new.held ≡ old.held → new.limits ≡ old.limits →
    new.tally ≡ old.tally → StandsIn old.held old.limits since old.tally pages → StandsIn new.held new.limits since new.tally pages
same_stands since old new pages e f g h =
    subst (λ o. StandsIn o new.limits since new.tally pages) (sym e)
    (subst (λ l. StandsIn old.held l since new.tally pages) (sym f)
    (subst (λ t. StandsIn old.held old.limits since t pages) (sym g) h))

-- by the pages of the answerer, where none is refused
stands_in : (held : Option HeldPage) (limits : CallLimits) (since now : Tally) (d : Driven) (pages : List PagePixels) → d.unkept ≡ [] →
    ((page : PagePixels) → pages_of d.answerer ≡ page ∷ [] → pages ≡ page ∷ []) → StandsBy held limits since now d →
    StandsIn held limits since now pages
stands_in None limits since now d pages none same h = h
stands_in (Some held) limits since now d pages none same h = (h.0, h.1, h.2, at h.3)
  where
    at : HasPage h.0 d → pages ≡ h.0 ∷ []
    at (inl p) = same h.0 p.0
    at (inr p) = let no : [] ≡ h.0 ∷ [] = sym none ∙ p in absurd (cc)

stands_by : (held : Option HeldPage) (limits : CallLimits) (since now : Tally) (d : Driven) (pages : List PagePixels) → d.unkept ≡ [] →
    pages_of d.answerer ≡ pages → StandsIn held limits since now pages → StandsBy held limits since now d
stands_by None limits since now d pages none same h = h
stands_by (Some held) limits since now d pages none same h = (h.0, h.1, h.2, inl (same ∙ h.3, none))

pub answers_are_held : HeldAnswersAreSteps → HeldPageStays → AnswersAreHeld
answers_are_held law there text old new folder kept_in before after kept over others none one hands counted a comes =
    let heard : ConversationFields LimitedFields = refused_so limited_behaviour a.heard in
    let h = a.keeps_so in
    let holds : h.first.holds ≡ true = ap (λ (f : Folder). f.holds) h.begins.0 ∙ hands in
    let pages : HoldsPages FolderHands FolderRefuses counts_so (held_name h.first.held) a.timed.said heard h.mid h.first h.last h.all =
    subst (λ by. KeepsPages by a.timed.said heard h.mid h.first h.last h.all) holds h.keeps in
    let r = holds_told FolderHands FolderRefuses counts_so stock_of folder_is_store.holds (held_name h.first.held) a.timed.said heard h.mid
    h.first h.last h.all pages old.stored
    (subst (λ (t : Tally). t.pages ≤ length old.stored) (sym (ap (λ (f : Folder). f.tally) h.begins.0)) counted) in
    let is_ready : HolderIsReady a.timed h.all old a.ready r.0 = record {
      heard = a.heard;
      takes = a.takes;
      others = others;
      comes = comes;
      held = held_name h.first.held;
      mid = h.mid;
      holds = r.2;
      hangs = false;
      is = h.same;
    } in
    let turn : GivesTurn LimitedFields AnswererSide answerer_lends a.late a.ready new =
    record { left = a.left; withholds = a.withholds; bursts = a.writes.bursts; gives = a.writes.gives } in
    let answers : HolderAnswers a.timed h.all a.late old new r.0 = record { ready = a.ready; is_ready = is_ready; turn = turn } in
    let l = law.answerer a.timed h.all a.late old new r.0 none one answers in
    let limits : kept_in.limits ≡ folder.limits = ap (λ (f : Folder). f.limits) h.stops
    ∙ (holds_limits (held_name h.first.held) a.timed.said heard h.mid h.first h.last h.all pages ∙ ap (λ (f : Folder). f.limits) h.begins.0) in
    let can : can_come (held_name h.first.held) a.timed.said ≡ true =
    subst (λ o. can_come (held_name o) a.timed.said ≡ true) (sym (ap (λ (f : Folder). f.held) h.begins.0)) a.can_come in
    let most : IsOne (pages_of heard) =
    there.most (record old { answerer = heard }) (there.heard a.timed h.all old a.ready r.0 one is_ready) in (
      l.0,
      record {
        kept = h.all;
        hangs = false;
        given = turn_of answers.turn;
        drives = l.1;
        counts = subst (λ (s : List PagePixels). kept_in.tally.pages ≤ length s) (sym l.3)
            (subst (λ (t : Tally). t.pages ≤ length r.0) (sym (ap (λ (f : Folder). f.tally) h.stops)) r.1);
        stays = l.4;
        hands = ap (λ (f : Folder). f.holds) h.stops
            ∙ (holds_stay (held_name h.first.held) a.timed.said heard h.mid h.first h.last h.all pages ∙ holds);
        keeps = λ since stands.
            let m : Moves since h.first h.last (pages_of h.mid) old.stored r.0 =
            moves since old.stored r.0 a.timed.said h.first h.last heard h.mid h.all can most pages r.2
            (same_stands since folder h.first (pages_of heard) (ap (λ (f : Folder). f.held) h.begins.0)
            (ap (λ (f : Folder). f.limits) h.begins.0) (ap (λ (f : Folder). f.tally) h.begins.0)
            (stands_in folder.held folder.limits since folder.tally old (pages_of heard) none
            (λ page e. there.there page a.timed h.all old a.ready r.0 one e is_ready) stands)) in
            record {
              pages = m.pages;
              then = m.then;
              kept = subst (λ x. KeptBetween x since m.pages m.then) (ap (λ (f : Folder). f.limits) h.begins.0) m.kept;
              added = ◌∙◌ {c = old.stored ++ m.pages} l.3 m.added;
              stands = stands_by kept_in.held kept_in.limits m.then kept_in.tally l.0 (pages_of h.mid) l.4.unkept
                  (ap pages_of l.2 ∙ (there.given a.late a.ready new turn ∙ ap pages_of h.same))
                  (same_stands m.then h.last kept_in (pages_of h.mid) (ap (λ (f : Folder). f.held) h.stops)
                  (ap (λ (f : Folder). f.limits) h.stops) (ap (λ (f : Folder). f.tally) h.stops) m.stands);
            };
        limits = limits;
      },
      l.2,
    )

-- ---- how a call begins

speaks : {S : Type 0} (now : Speaking S) (v : S) (turn : Turn) → now.station ≡ v → now.turn ≡ turn → now.taken ≡ 0 →
    now ≡ record { station = v; turn = turn; taken = 0 }
speaks {S} now v turn e f g =
    ap (λ (x : S). record { station = x; turn = now.turn; taken = now.taken }) e ∙
    (ap (λ (x : Turn). record { station = v; turn = x; taken = now.taken }) f ∙
    ap (λ (x : ℕ). record { station = v; turn = turn; taken = x }) g)

-- two terminals at rest
abbrev joined_of : Speaking StoppableCallerFields → Speaking LimitedFields → Joined
joined_of caller answerer = record {
  caller = caller;
  answerer = answerer;
  to_answerer = [];
  to_caller = [];
  caller_clear = true;
  answerer_clear = true;
  pages = [];
}

pub commands_begin : CommandsBegin
commands_begin dial answer document caller answerer c a =
    let its : StoppableCallerFields = record { station = caller.terminal.speaking.station.station; cut = None } in
    let cut : caller.terminal.speaking.station ≡ its =
    ap (λ (x : Option Cut). record { station = caller.terminal.speaking.station.station; cut = x }) c.uncut in
    record {
      fields = caller.terminal.speaking.station.station;
      caller = c.caller.1;
      is =
          ap (λ (x : Speaking StoppableCallerFields). joined_of x answerer.terminal.speaking)
          (speaks caller.terminal.speaking its Silent cut c.turn c.fresh.taken) ∙
          ap (λ (x : Speaking LimitedFields). joined_of (record { station = its; turn = Silent; taken = 0 }) x)
          (speaks answerer.terminal.speaking (record {
            station = new_answerer (receiving answer.caps) no_params;
            limits = record { pages = page_limit answer.holds answer.limit; octets = 2 ^ 64 - 1 };
            told = false;
            said = Dis;
            cut = None;
          }) Dis a.station a.turn a.fresh.taken);
    }

pub commands_hold_one : HeldAnswersAreSteps → CommandsHoldOne
commands_hold_one law dial answer document caller answerer c a holds =
    (law.begins document (wish_of dial.options) (receiving answer.caps)
    (record { pages = page_limit answer.holds answer.limit; octets = 2 ^ 64 - 1 }) (at_begin caller answerer)
    (commands_begin dial answer document caller answerer c a) (ap (λ b. page_limit b answer.limit) holds) (omega (arith))).1

-- ---- a whole call

held_both : (some more : List Step) (a b c : Driven) → DrivesHeld some a b → DrivesHeld more b c → DrivesHeld (some ++ more) a c
held_both [] more a b c p q = subst (λ (x : Driven). DrivesHeld more x c) p q
held_both (step ∷ some) more a b c p q = (p.0, p.1, p.2, held_both some more p.0 b c p.3 q)

-- where events lead
record LeadsHeld (old : Driven) (folder : Folder) (new : Driven) (kept_in : Folder) : Type 0 where
  steps : List Step
  drives : DrivesHeld steps old new
  counted : folder.tally.pages ≤ length old.stored → kept_in.tally.pages ≤ length new.stored

one_leads : (event : Event) (old new : Driven) (folder kept_in : Folder) → HappensHeld event old folder new kept_in →
    LeadsHeld old folder new kept_in
one_leads (answered line) old new folder kept_in h =
    record { steps = holder_steps line h.kept h.hangs h.given; drives = h.drives; counted = λ before. h.counts }
one_leads (other step) old new folder kept_in h =
    record {
      steps = step ∷ [];
      drives = (new, h.0, h.1, refl);
      counted = λ before. subst (λ (s : List PagePixels). kept_in.tally.pages ≤ length s) (sym h.2)
          (subst (λ (f : Folder). f.tally.pages ≤ length old.stored) (sym h.3) before);
    }

all_lead : (events : List Event) (old new : Driven) (folder kept_in : Folder) → HappenAllHeld events old folder new kept_in →
    LeadsHeld old folder new kept_in
all_lead [] old new folder kept_in h =
    record {
      steps = [];
      drives = h.0;
      counted = λ before. subst (λ (d : Driven). kept_in.tally.pages ≤ length d.stored) (sym h.0)
          (subst (λ (f : Folder). f.tally.pages ≤ length old.stored) (sym h.1) before);
    }
all_lead (event ∷ events) old new folder kept_in h =
    let one : LeadsHeld old folder h.0 h.1 = one_leads event old h.0 folder h.1 h.2 in
    let rest : LeadsHeld h.0 h.1 new kept_in = all_lead events h.0 new h.1 kept_in h.3 in
    record {
      steps = one.steps ++ rest.steps;
      drives = held_both one.steps rest.steps old h.0 new one.drives rest.drives;
      counted = λ before. rest.counted (one.counted before);
    }

pub confirmed_are_kept : HeldAreStored → ConfirmedAreKept
confirmed_are_kept law document wish caps limits events first last empty folder full begins none happen =
    let l : LeadsHeld first empty last folder = all_lead events first last empty folder happen in
    record {
      safe = law document wish caps limits l.steps first last full begins l.drives;
      counted = l.counted (omega (arith, none));
    }

-- ---- the files of the pages that are kept

-- where events lead of which the book of a folder speaks
record LeadsBook (first : Folder) (d : Driven) (folder : Folder) : Type 0 where
  one : HoldsOne d.answerer.terminal.speaking
  book : HoldsBook first d folder

other_books : HeldPageStays → (step : Step) (first : Folder) (old new : Driven) (folder kept_in : Folder) →
    HappensHeld (other step) old folder new kept_in → LeadsBook first old folder → LeadsBook first new kept_in
other_books there step first old new folder kept_in h l =
    subst (λ f. LeadsBook first new f) (sym h.3)
    (record {
      one = there.one step old new l.one h.1;
      book = record {
        since = l.book.since;
        kept = subst (λ s. KeptBetween first.limits first.tally s l.book.since) (sym h.2) l.book.kept;
        stands = at folder.held l.book.stands;
        limits = l.book.limits;
      };
    })
  where
    at : (held : Option HeldPage) → StandsBy held folder.limits l.book.since folder.tally old →
        StandsBy held folder.limits l.book.since folder.tally new
    at None s = s
    at (Some held) s = (s.0, s.1, s.2, there.stays s.0 step old new l.one h.1 h.2 s.3)

answer_books : (line : TimedLine) (first : Folder) (old new : Driven) (folder kept_in : Folder) → FolderHolds line old folder new kept_in →
    LeadsBook first old folder → LeadsBook first new kept_in
answer_books line first old new folder kept_in h l =
    let on : KeepsOn l.book.since old folder new kept_in = h.keeps l.book.since l.book.stands in
    record {
      one = h.stays.holds_one;
      book = record {
        since = on.then;
        kept = subst (λ s. KeptBetween first.limits first.tally s on.then) (sym on.added)
            (kept_on first.limits old.stored on.pages first.tally l.book.since on.then l.book.kept
            (subst (λ x. KeptBetween x l.book.since on.pages on.then) l.book.limits on.kept));
        stands = on.stands;
        limits = h.limits ∙ l.book.limits;
      };
    }

all_book : HeldPageStays → (events : List Event) (first : Folder) (old new : Driven) (folder kept_in : Folder) →
    HappenAllHeld events old folder new kept_in → LeadsBook first old folder → LeadsBook first new kept_in
all_book there [] first old new folder kept_in h l =
    subst (λ f. LeadsBook first new f) (sym h.1) (subst (λ d. LeadsBook first d folder) (sym h.0) l)
all_book there (answered line ∷ events) first old new folder kept_in h l =
    all_book there events first h.0 new h.1 kept_in h.3 (answer_books line first old h.0 folder h.1 h.2 l)
all_book there (other step ∷ events) first old new folder kept_in h l =
    all_book there events first h.0 new h.1 kept_in h.3 (other_books there step first old h.0 folder h.1 h.2 l)

none_before : (xs ys : List PagePixels) → xs ++ ys ≡ [] → xs ≡ []
none_before [] ys e = refl
none_before (x ∷ xs) ys e = cc

pub kept_are_filed : HeldAnswersAreSteps → HeldPageStays → KeptAreFiled
kept_are_filed law there document wish caps limits events first last empty folder begins one octets none happen =
    (all_book there events empty first last empty folder happen
    (record {
      one = (law.begins document wish caps limits first begins one octets).1;
      book = record {
        since = empty.tally;
        kept = subst (λ s. KeptBetween empty.limits empty.tally s empty.tally)
            (sym (none_before first.stored first.unkept (ap (λ (j : Joined). j.pages) begins.is))) refl;
        stands = subst (λ o. StandsBy o empty.limits empty.tally empty.tally first) (sym none) refl;
        limits = refl;
      };
    })).book

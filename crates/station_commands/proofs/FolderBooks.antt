-- What the folder of an answerer has of the pages of a call.
use Rattle.std.proofs.Common.{◌≡◌, ◌≤◌, ◌+◌, ◌++◌, ◌∷◌, ◌∙◌, [], ℕ, List, Bool, true, false, Option, length, arith, ap, refl, sym, subst, inl, inr, append_assoc}
use Rattle.std.proofs.lemmas.Bool.{false≢true}
use Rattle.std.proofs.lemmas.List.{append-nil}
use Rattle.std.specs.Prelude.{◌⊎◌}
use Rattle.conversations.specs.Answering.{StoresAll, StoresEach, limited_behaviour, pages_of}
use Rattle.conversations.specs.Conversations.{ConversationFields, gives, hung_up_so, refused_so, with_pages_taken}
use Rattle.conversations.specs.Talking.{Answers, GivesAll, GivesSoFar, GivesSome, KeepsLine as BreaksLine, TellsAll, TellsPart}
use Rattle.conversations.specs.declared.line.Said.{Said}
use Rattle.joined_terminals.specs.Answered.{AnswererAnswers, AnswererBreaksOff, AnswersAreSteps, GivesPart, answerer_lends, answerer_steps, bursts_in}
use Rattle.joined_terminals.specs.Answered.{each_with, hung_up_if, leaves, part_of, turn_of}
use Rattle.joined_terminals.specs.Driven.{Driven, joined}
use Rattle.joined_terminals.specs.Joining.{Begins, Joined}
use Rattle.joined_terminals.specs.Kept.{ConfirmedAreStored, DrivesKept}
use Rattle.joined_terminals.specs.Octets.{IsPiece}
use Rattle.joined_terminals.specs.Steps.{Comes, Step, appends}
use Rattle.raster.specs.Pages.{PagePixels}
use Rattle.signals.specs.declared.params.Caps.{Caps}
use Rattle.signals.specs.declared.params.Wish.{Wish}
use Rattle.station_commands.specs.FolderBooks.{AnswersAreFolders, BreaksAreFolders, ConfirmedAreFiled, Event, FolderAnswers, FolderBook, FolderKeeps, FolderKeepsAll}
use Rattle.station_commands.specs.FolderBooks.{HappenAll, Happens, HasConfirmed, StoredBetween, StoresSo}
use Rattle.station_commands.specs.FolderBooks.Event.{answered, other}
use Rattle.station_commands.specs.Folders.{FolderRefuses, FolderStores, KeepsLine, KeepsPages}
use Rattle.station_commands.specs.declared.station.folder.CallLimits.{CallLimits}
use Rattle.station_commands.specs.declared.station.folder.Folder.{Folder}
use Rattle.station_commands.specs.declared.station.folder.Tally.{Tally}
use Rattle.stations.specs.Laws.{Each}
use Rattle.stations.specs.Layers.{Document, IsFullPage}
use Rattle.stations.specs.Limiting.{LimitedFields}
use Rattle.stations.specs.declared.limiting.Limits.{Limits}
use Rattle.signals.specs.declared.signal.Side.TheVariants.{Answerer as AnswererSide}
use Rattle.station_commands.specs.Talks.{folder_talker}
use Rattle.terminals.specs.declared.sending.SentBurst.{SentBurst}

-- ---- pages that are stored one after the other

-- the folder's book of pages that it stored, and who stores them
record Booked (old : Folder) (pages : List PagePixels) (new : Folder) : Type 0 where
  stored : StoredBetween old.limits old.tally pages new.tally
  limits : new.limits ≡ old.limits
  holds : new.holds ≡ old.holds

each_booked : (pages : List PagePixels) (old new : Folder) → StoresEach FolderStores old pages new → Booked old pages new
each_booked [] old new e = record {
  stored = ap (λ (f : Folder). f.tally) e;
  limits = ap (λ (f : Folder). f.limits) e;
  holds = ap (λ (f : Folder). f.holds) e;
}
each_booked (page ∷ pages) old new h =
    let r : Booked h.0 pages new = each_booked pages h.0 new h.2 in
    let same : h.0.limits ≡ old.limits = ap (λ (f : Folder). f.limits) h.1.1 in
    record {
      stored = (h.0.tally, h.1.0, subst (λ l. StoredBetween l h.0.tally pages new.tally) same r.stored);
      limits = r.limits ∙ same;
      holds = r.holds ∙ ap (λ (f : Folder). f.holds) h.1.1;
    }

pub between_each : (pages : List PagePixels) (old new : Folder) → StoresEach FolderStores old pages new →
    StoredBetween old.limits old.tally pages new.tally
between_each pages old new h = (each_booked pages old new h).stored

pub between_both : (limits : CallLimits) (xs ys : List PagePixels) (a b c : Tally) → StoredBetween limits a xs b → StoredBetween limits b ys c →
    StoredBetween limits a (xs ++ ys) c
between_both limits [] ys a b c e h = subst (λ t. StoredBetween limits t ys c) e h
between_both limits (x ∷ xs) ys a b c h k = (h.0, h.1, between_both limits xs ys h.0 b c h.2 k)

pub books_both : (xs ys : List PagePixels) (a b c : Folder) → FolderBook a xs b → FolderBook b ys c → FolderBook a (xs ++ ys) c
books_both xs ys a b c h k = (
  between_both a.limits xs ys a.tally b.tally c.tally h.0 (subst (λ l. StoredBetween l b.tally ys c.tally) h.1 k.0),
  k.1 ∙ h.1,
)

pub counts : (limits : CallLimits) (pages : List PagePixels) (a b : Tally) → StoredBetween limits a pages b → b.pages ≡ a.pages + length pages
counts limits [] a b e = omega (arith, ap (λ (t : Tally). t.pages) e)
counts limits (page ∷ pages) a b h =
    let more = counts limits pages h.0 b h.2 in
    omega (arith, more, h.1.pages)

-- ---- what a folder does after a line

-- the pages that are stored after a line
record KeptPages (c mid : ConversationFields LimitedFields) (first last : Folder) (all : Bool) : Type 0 where
  pages : List PagePixels
  booked : Booked first pages last
  so : StoresSo pages c mid all

kept_pages : (c mid : ConversationFields LimitedFields) (first last : Folder) (all : Bool) →
    StoresAll FolderStores FolderRefuses c mid first last all → KeptPages c mid first last all
kept_pages c mid first last true h =
    record { pages = pages_of c; booked = each_booked (pages_of c) first last h.0; so = (refl, h.1) }
kept_pages c mid first last false h =
    let s = h.0 in
    let r : Booked first s.0 s.3 = each_booked s.0 first s.3 s.5 in
    record {
      pages = s.0;
      booked = record {
        stored = subst (λ t. StoredBetween first.limits first.tally s.0 t) (sym s.6.tally) r.stored;
        limits = s.6.limits ∙ r.limits;
        holds = ap (λ (f : Folder). f.holds) s.6.rest ∙ r.holds;
      };
      so = (s.1, s.2, s.4, h.1);
    }

pub folder_keeps_all : FolderKeepsAll
folder_keeps_all said old c new after kept itself h =
    let holds : h.first.holds ≡ false = ap (λ (f : Folder). f.holds) h.begins.0 ∙ itself in
    let tally : h.first.tally ≡ old.tally = ap (λ (f : Folder). f.tally) h.begins.0 in
    let limits : h.first.limits ≡ old.limits = ap (λ (f : Folder). f.limits) h.begins.0 in
    let tally_new : new.tally ≡ h.last.tally = ap (λ (f : Folder). f.tally) h.stops in
    let limits_new : new.limits ≡ h.last.limits = ap (λ (f : Folder). f.limits) h.stops in
    let k : KeptPages c h.mid h.first h.last h.all = kept_pages c h.mid h.first h.last h.all
    (subst (λ by. KeepsPages by said c h.mid h.first h.last h.all) holds h.keeps) in
    record {
      pages = k.pages;
      stored = (
        subst (λ t. StoredBetween old.limits old.tally k.pages t) (sym tally_new)
            (subst (λ t. StoredBetween old.limits t k.pages h.last.tally) tally
            (subst (λ l. StoredBetween l h.first.tally k.pages h.last.tally) limits k.booked.stored)),
        limits_new ∙ (k.booked.limits ∙ limits),
      );
      mid = h.mid;
      all = h.all;
      stores = k.so;
      hangs = false;
      only = λ e. absurd (false≢true e);
      is = h.same;
      itself = ap (λ (f : Folder). f.holds) h.stops ∙ (k.booked.holds ∙ holds);
    }

-- ---- an answer is steps

stored_appends : (before pages : List PagePixels) → StoresEach appends before pages (before ++ pages)
stored_appends before [] = append-nil before
stored_appends before (page ∷ pages) = (
  before ++ page ∷ [],
  refl,
  subst (λ l. StoresEach appends (before ++ page ∷ []) pages l) (append_assoc before (page ∷ []) pages)
      (stored_appends (before ++ page ∷ []) pages),
)

all_so : (before pages : List PagePixels) (c mid : ConversationFields LimitedFields) (all : Bool) → StoresSo pages c mid all →
    StoresAll appends leaves c mid before (before ++ pages) all
all_so before pages c mid true h =
    (subst (λ ps. StoresEach appends before ps (before ++ pages)) h.0 (stored_appends before pages), h.1)
all_so before pages c mid false h =
    ((pages, h.0, h.1, before ++ pages, h.2, stored_appends before pages, refl), h.3)

pub answers_are_folders : AnswersAreSteps → AnswersAreFolders
answers_are_folders law text old new folder kept_in before after kept over others none itself a comes =
    let heard : ConversationFields LimitedFields = refused_so limited_behaviour a.heard in
    let k : FolderKeeps folder heard kept_in a.ready = folder_keeps_all a.timed.said folder heard kept_in a.ready kept itself a.keeps_so in
    let answers : AnswererAnswers a.timed k.all a.late old new (old.stored ++ k.pages) = record {
      ready = a.ready;
      is_ready = record {
        heard = a.heard;
        takes = a.takes;
        others = others;
        comes = comes;
        mid = k.mid;
        keeps = all_so old.stored k.pages heard k.mid k.all k.stores;
        hangs = k.hangs;
        only = k.only;
        is = k.is;
      };
      turn = record { left = a.left; withholds = a.withholds; bursts = a.writes.bursts; gives = a.writes.gives };
    } in
    let l = law.answerer a.timed k.all a.late old new (old.stored ++ k.pages) none answers in (
      l.0,
      record {
        pages = k.pages;
        stored = k.stored;
        added = l.3;
        all = k.all;
        hangs = k.hangs;
        given = turn_of answers.turn;
        drives = l.1;
        itself = k.itself;
      },
      l.2,
      l.4.caller,
    )

-- what is given of an answer that fails, by the contract
given_so_far : (left new : ConversationFields LimitedFields) (bursts : List SentBurst) (rest : List ℕ) →
    GivesSoFar AnswererSide answerer_lends limited_behaviour.shows left bursts new rest →
    GivesSome AnswererSide answerer_lends left bursts new ⊎ GivesAll AnswererSide answerer_lends left bursts new
given_so_far left new bursts rest (inl some) = inl some.0
given_so_far left new bursts rest (inr all) = inr all.0

part_given : (ready new : ConversationFields LimitedFields) (kept_in : Folder) (before after : Option (List ℕ)) →
    TellsPart folder_talker.station folder_talker.keeping folder_talker.lends ready new kept_in before after ⊎
    TellsAll LimitedFields Folder folder_talker.station folder_talker.keeping folder_talker.lends ready new kept_in before after →
    GivesPart LimitedFields AnswererSide answerer_lends ready new
part_given ready new kept_in before after (inl some) =
    record { late = false; left = ready; withholds = refl; bursts = some.1.0; gives = inl some.1.1 }
part_given ready new kept_in before after (inr all) =
    record {
      late = all.late;
      left = all.left;
      withholds = all.withholds;
      bursts = all.writes.bursts;
      gives = given_so_far all.left new all.writes.bursts all.writes.rest all.writes.gives;
    }

-- bursts of a list, whether they go onto the line or not
sent_bursts : (sends : Bool) (bursts : List SentBurst) → bursts_in (each_with sends bursts) ≡ bursts
sent_bursts sends [] = refl
sent_bursts sends (burst ∷ bursts) = ap (λ l. burst ∷ l) (sent_bursts sends bursts)

pub breaks_are_folders : AnswersAreSteps → BreaksAreFolders
breaks_are_folders law text old new folder kept_in before after others none itself sends a comes =
    let heard : ConversationFields LimitedFields = refused_so limited_behaviour a.heard in
    let k : FolderKeeps folder heard kept_in a.ready = folder_keeps_all a.timed.said folder heard kept_in a.ready a.kept itself a.keeps_so in
    let breaks : AnswererBreaksOff a.timed k.all old new (old.stored ++ k.pages) = record {
      ready = a.ready;
      is_ready = record {
        heard = a.heard;
        takes = a.takes;
        others = others;
        comes = comes;
        mid = k.mid;
        keeps = all_so old.stored k.pages heard k.mid k.all k.stores;
        hangs = k.hangs;
        only = k.only;
        is = k.is;
      };
      part = part_given a.ready new kept_in before after a.writes;
    } in
    let l = law.answerer_fails a.timed k.all old new (old.stored ++ k.pages) none breaks (each_with sends breaks.part.bursts)
    (sent_bursts sends breaks.part.bursts) in (
      l.0,
      record {
        pages = k.pages;
        stored = k.stored;
        added = l.3;
        all = k.all;
        hangs = k.hangs;
        given = part_of breaks.part (each_with sends breaks.part.bursts);
        drives = l.1;
        itself = k.itself;
      },
      l.2,
      l.4.caller,
    )

-- ---- a whole call

kept_both : (some more : List Step) (a b c : Driven) → DrivesKept some a b → DrivesKept more b c → DrivesKept (some ++ more) a c
kept_both [] more a b c p q = subst (λ (x : Driven). DrivesKept more x c) p q
kept_both (step ∷ some) more a b c p q = (p.0, p.1, p.2, kept_both some more p.0 b c p.3 q)

-- where events lead
record Leads (old : Driven) (folder : Folder) (new : Driven) (kept_in : Folder) : Type 0 where
  steps : List Step
  drives : DrivesKept steps old new
  pages : List PagePixels
  book : FolderBook folder pages kept_in
  stored : new.stored ≡ old.stored ++ pages

one_leads : (event : Event) (old new : Driven) (folder kept_in : Folder) → Happens event old folder new kept_in → Leads old folder new kept_in
one_leads (answered line) old new folder kept_in h =
    record { steps = answerer_steps line h.all h.hangs h.given; drives = h.drives; pages = h.pages; book = h.stored; stored = h.added }
one_leads (other step) old new folder kept_in h =
    record {
      steps = step ∷ [];
      drives = (new, h.0, h.1, refl);
      pages = [];
      book = (ap (λ (f : Folder). f.tally) h.3, ap (λ (f : Folder). f.limits) h.3);
      stored = h.2 ∙ sym (append-nil old.stored);
    }

all_lead : (events : List Event) (old new : Driven) (folder kept_in : Folder) → HappenAll events old folder new kept_in →
    Leads old folder new kept_in
all_lead [] old new folder kept_in h =
    record {
      steps = [];
      drives = h.0;
      pages = [];
      book = (ap (λ (f : Folder). f.tally) h.1, ap (λ (f : Folder). f.limits) h.1);
      stored = ap (λ (d : Driven). d.stored) h.0 ∙ sym (append-nil old.stored);
    }
all_lead (event ∷ events) old new folder kept_in h =
    let one : Leads old folder h.0 h.1 = one_leads event old h.0 folder h.1 h.2 in
    let rest : Leads h.0 h.1 new kept_in = all_lead events h.0 new h.1 kept_in h.3 in
    record {
      steps = one.steps ++ rest.steps;
      drives = kept_both one.steps rest.steps old h.0 new one.drives rest.drives;
      pages = one.pages ++ rest.pages;
      book = books_both one.pages rest.pages folder h.1 kept_in one.book rest.book;
      stored = rest.stored ∙ (ap (λ (l : List PagePixels). l ++ rest.pages) one.stored ∙ append_assoc old.stored one.pages rest.pages);
    }

none_before : (xs ys : List PagePixels) → xs ++ ys ≡ [] → xs ≡ []
none_before [] ys e = refl
none_before (x ∷ xs) ys e = absurd (cc)

pub confirmed_are_filed : ConfirmedAreStored → ConfirmedAreFiled
confirmed_are_filed law document wish caps limits events first last empty folder full begins happen =
    let l : Leads first empty last folder = all_lead events first last empty folder happen in
    let none : first.stored ≡ [] = none_before first.stored first.unkept (ap (λ (j : Joined). j.pages) begins.is) in
    let all : last.stored ≡ l.pages = l.stored ∙ ap (λ (s : List PagePixels). s ++ l.pages) none in
    let filed : FolderBook empty last.stored folder = subst (λ s. FolderBook empty s folder) (sym all) l.book in
    record {
      filed = filed;
      safe = law document wish caps limits l.steps first last full begins l.drives;
      counted = counts empty.limits last.stored empty.tally folder.tally filed.0;
    }

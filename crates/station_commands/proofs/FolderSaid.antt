-- What is in the folder of an answerer was said on the line.
use Rattle.std.proofs.Common.{arith, ◌≡◌, ◌⊎◌, ◌+◌, ◌++◌, ◌∷◌, ◌∙◌, [], ℕ, suc, zero, List, Bool, true, false, Option, Some, None, inl, inr, length, ap, refl, sym, subst, append_assoc}
use Rattle.std.specs.Prelude.{◌≢◌, IsSome, IsTrue, Ok, Err, Result, string_bytes}
use Rattle.std.proofs.lemmas.Bool.{false≢true}
use Rattle.std.proofs.lemmas.List.{append-nil}
use Rattle.std.specs.Io.KnownBytes.{Appends}
use Rattle.conversations.specs.Answering.{StoresAll, StoresEach, limited_behaviour, pages_of}
use Rattle.conversations.specs.Conversations.{ConversationFields, SendsIfBegun, TakesLine, hung_up_so, refused_so, with_pages_taken}
use Rattle.conversations.specs.Conversing.{AnswersAll, AnswersNext, BreaksNext, Converses, FailsToRead, StopsSo, TalkState, talk_state}
use Rattle.conversations.specs.Lines.{Says}
use Rattle.conversations.specs.declared.conversing.ConverseFault.{ConverseFault}
use Rattle.conversations.specs.declared.conversing.ConverseFault.TheVariants.{Line, NoMemory, Reader, Writer, TooManyLines}
use Rattle.conversations.specs.declared.conversing.Ending.{Ending}
use Rattle.conversations.specs.declared.conversing.Ending.TheVariants.{Over, Lost, Unkept}
use Rattle.conversations.specs.declared.line.TimedLine.{TimedLine}
use Rattle.faults.specs.declared.fault.ToolFault.{ToolFault}
use Rattle.conversations.specs.Holding.{can_come}
use Rattle.conversations.specs.StoredLines.{IsNewAnswerer, LineIsSaid, StoredIsSaid, signals_in, storing}
use Rattle.conversations.specs.Talking.{BreaksOff, GivesAll, Withholds}
use Rattle.conversations.specs.declared.line.Said.{Said}
use Rattle.joined_terminals.specs.Answered.{hung_up_if}
use Rattle.raster.specs.Pages.{PagePixels}
use Rattle.signals.specs.declared.params.Caps.{Caps}
use Rattle.signals.specs.declared.signal.Side.{Side}
use Rattle.station_commands.proofs.FolderBooks.{between_both, between_each, books_both, counts, folder_keeps_all}
use Rattle.station_commands.specs.FolderBooks.{AcceptedAreFiled, AnswerersAreNew, StoredBetween, accepted_in, FilesWhatIsSaid, FolderBook, FolderIsSaid, FolderKeeps, StationFiles, StationsFileWhatIsSaid, StoresSo}
use Rattle.station_commands.specs.Folders.{StoresPage, FolderRefuses, FolderStores, KeepsLine, KeepsPages, held_name}
use Rattle.station_commands.specs.Talks.{AfterLosses, AnswerTalks, EndsTalk, LedTo, StoppedAt, folder_talker, receiving}
use Rattle.station_commands.specs.declared.station.AnswerCommand.{AnswerCommand}
use Rattle.station_commands.specs.declared.station.Halted.{Halted}
use Rattle.station_commands.specs.declared.station.Talked.{Talked}
use Rattle.stations.specs.CallerStep.{no_params}
use Rattle.stations.specs.Laws.{Each}
use Rattle.stations.specs.Runs.{IsReadOf}
use Rattle.station_commands.specs.declared.station.folder.CallLimits.{CallLimits}
use Rattle.station_commands.specs.declared.station.folder.Folder.{Folder}
use Rattle.station_commands.specs.declared.station.folder.Tally.{Tally}
use Rattle.stations.specs.AnswererStep.{Answerer}
use Rattle.stations.specs.Limiting.{LimitedFields, freed}
use Rattle.stations.specs.Stopping.{call_end, cut_by}
use Rattle.stations.specs.declared.stopping.CallEnd.{CallEnd}
use Rattle.stations.specs.declared.stopping.Cut.{Cut}
use Rattle.stations.specs.declared.stopping.Cut.TheVariants.{Stop, Loss}
use Rattle.stations.specs.declared.turn.End.{End}
use Rattle.terminals.specs.Speaking.{BurstsOf, Speaking}
use Rattle.terminals.specs.Stopping.{limited_cut_off}
use Rattle.terminals.specs.declared.sending.SentBurst.{SentBurst}
use Rattle.terminals.specs.declared.stopping.Shown.{Shown}

-- ---- a call that is hung up is over

cut_is_end : (ending : Option End) (cut : Option Cut) → IsSome (call_end ending (cut_by ending cut Stop))
cut_is_end (Some why) cut = refl
cut_is_end None None = refl
cut_is_end None (Some Stop) = refl
cut_is_end None (Some Loss) = refl

-- the bursts that a station gives leave it as it is
next_stays : {S : Type 0} (side : Side) (lends : BurstsOf S) (begun : Bool) (old new : ConversationFields S) (sent : Option SentBurst) →
    SendsIfBegun {E = Unit {0}} side lends begun old new (Ok sent) → new.terminal.speaking.station ≡ old.terminal.speaking.station
next_stays {S} side lends false old new sent h = ap (λ (c : ConversationFields S). c.terminal.speaking.station) h.0
next_stays {S} side lends true old new None h = ap (λ (s : Speaking S). s.station) h.0.2.1
next_stays {S} side lends true old new (Some sent) h = ap (λ (s : Speaking S). s.station) h.0.2.4

all_stays : {S : Type 0} (side : Side) (lends : BurstsOf S) (bursts : List SentBurst) (old new : ConversationFields S) →
    GivesAll side lends old bursts new → new.terminal.speaking.station ≡ old.terminal.speaking.station
all_stays side lends [] old new h = next_stays side lends old.begun old new None h
all_stays side lends (sent ∷ bursts) old new h =
    all_stays side lends bursts h.0 new h.2 ∙ next_stays side lends old.begun old h.0 (Some sent) h.1

withheld_stays : {S : Type 0} (side : Side) (lends : BurstsOf S) (late : Bool) (old left : ConversationFields S) →
    Withholds side lends old late left → left.terminal.speaking.station ≡ old.terminal.speaking.station
withheld_stays {S} side lends false old left h = ap (λ (c : ConversationFields S). c.terminal.speaking.station) h
withheld_stays side lends true old left h = all_stays side lends h.0 old left h.1

hung_is_end : (c : ConversationFields LimitedFields) (v : LimitedFields) → v ≡ (hung_up_so limited_cut_off c).terminal.speaking.station →
    IsSome (call_end v.station.ending v.cut)
hung_is_end c v e =
    subst (λ (w : LimitedFields). IsSome (call_end w.station.ending w.cut)) (sym e)
    (cut_is_end c.terminal.speaking.station.station.ending c.terminal.speaking.station.cut)

-- ---- a line after which the call goes on

-- a folder that stands as the first one did, with what is stored now
abbrev now_of : Folder → Folder → Folder
now_of first folder = record first { tally = folder.tally }

now_each : (first : Folder) (pages : List PagePixels) (old new : Folder) → old.limits ≡ first.limits →
    StoresEach FolderStores old pages new → StoresEach FolderStores (now_of first old) pages (now_of first new)
now_each first [] old new same e = ap (λ (f : Folder). now_of first f) e
now_each first (page ∷ pages) old new same h =
    let limits : h.0.limits ≡ old.limits = ap (λ (f : Folder). f.limits) h.1.1 in (
      now_of first h.0,
      (subst (λ l. StoresPage l old.tally page h.0.tally) same h.1.0, refl),
      now_each first pages h.0 new (limits ∙ same) h.2,
    )

-- what stays of a folder while it stores pages itself
record Stays (first folder : Folder) : Type 0 where
  limits : folder.limits ≡ first.limits
  holds : folder.holds ≡ false
  held : folder.held ≡ None

-- pages are stored one after the other, and the rest of the folder stays
each_rest : (pages : List PagePixels) (old new : Folder) → StoresEach FolderStores old pages new → new ≡ record old { tally = new.tally }
each_rest [] old new e = e ∙ ap (λ (t : Tally). record old { tally = t }) (sym (ap (λ (f : Folder). f.tally) e))
each_rest (page ∷ pages) old new h =
    each_rest pages h.0 new h.2 ∙ ap (λ (f : Folder). record f { tally = new.tally }) h.1.1

-- what is known of a line that is kept, and after which the call goes on
record Kept (first old new : Folder) (c after : ConversationFields LimitedFields) : Type 0 where
  stores : StoresAll FolderStores FolderRefuses c after (now_of first old) (now_of first new) true
  stays : Stays first new
  told : string_bytes new.told ≡ []

kept_so : (first old new : Folder) (said : Said) (c after : ConversationFields LimitedFields) (kept : Bool) → Stays first old →
    (h : KeepsLine said old c new after kept) → ((mid : ConversationFields LimitedFields) → after ≢ hung_up_so limited_cut_off mid) →
    Kept first old new c after
kept_so first old new said c after kept stays h goes_on = at h.all pages
  where
    begun_holds : h.first.holds ≡ false
    begun_holds = ap (λ (f : Folder). f.holds) h.begins.0 ∙ stays.holds

    pages : StoresAll FolderStores FolderRefuses c h.mid h.first h.last h.all
    pages = subst (λ by. KeepsPages by said c h.mid h.first h.last h.all) begun_holds h.keeps

    at : (all : Bool) → StoresAll FolderStores FolderRefuses c h.mid h.first h.last all → Kept first old new c after
    at false k = absurd (goes_on (with_pages_taken c) (h.same ∙ k.1))
    at true k =
        let rest : h.last ≡ record h.first { tally = h.last.tally } = each_rest (pages_of c) h.first h.last k.0 in
        let limits : h.first.limits ≡ first.limits = ap (λ (f : Folder). f.limits) h.begins.0 ∙ stays.limits in
        let before : now_of first h.first ≡ now_of first old =
        ap (λ (t : Tally). record first { tally = t }) (ap (λ (f : Folder). f.tally) h.begins.0) in
        let later : now_of first new ≡ now_of first h.last =
        ap (λ (t : Tally). record first { tally = t }) (ap (λ (f : Folder). f.tally) h.stops) in
        record {
          stores = (
            subst (λ f. StoresEach FolderStores (now_of first old) (pages_of c) f) (sym later)
                (subst (λ f. StoresEach FolderStores f (pages_of c) (now_of first h.last)) before
                (now_each first (pages_of c) h.first h.last limits k.0)),
            h.same ∙ k.1,
          );
          stays = record {
            limits = ap (λ (f : Folder). f.limits) h.stops ∙ (ap (λ (f : Folder). f.limits) rest ∙ limits);
            holds = ap (λ (f : Folder). f.holds) h.stops ∙ (ap (λ (f : Folder). f.holds) rest ∙ begun_holds);
            held = ap (λ (f : Folder). f.held) h.stops
                ∙ (ap (λ (f : Folder). f.held) rest ∙ (ap (λ (f : Folder). f.held) h.begins.0 ∙ stays.held));
          };
          told = ap (λ (f : Folder). string_bytes f.told) h.stops ∙ (ap (λ (f : Folder). string_bytes f.told) rest ∙ h.begins.1);
        }

-- the talker that conversations speak of: it takes what can come while no page is held, and says nothing
abbrev takes_so : Folder → Said → Bool
takes_so folder said = can_come None said

abbrev says_none : Folder → List ℕ
says_none folder = []

abbrev now_state : Folder → TalkState LimitedFields Folder → TalkState LimitedFields Folder
now_state first s = record s { keeper = now_of first s.keeper }

record OneLine (first : Folder) (line : List ℕ) (old new : TalkState LimitedFields Folder) : Type 0 where
  next : AnswersNext LimitedFields Folder (storing FolderStores FolderRefuses takes_so says_none) (now_state first old) (now_state first new)
      line true false
  stays : Stays first new.keeper

kept_line : (first : Folder) (line : List ℕ) (old new : TalkState LimitedFields Folder) → Stays first old.keeper →
    (h : AnswersNext LimitedFields Folder folder_talker old new line true false) →
    Kept first old.keeper new.keeper (refused_so limited_behaviour h.answered.heard) h.answered.ready
kept_line first line old new stays h =
    let a = h.answered in
    let on : (mid : ConversationFields LimitedFields) → a.ready ≢ hung_up_so limited_cut_off mid = λ mid e.
    let station = all_stays limited_behaviour.side folder_talker.lends a.writes.bursts a.left new.conversation a.writes.gives
    ∙ (withheld_stays limited_behaviour.side folder_talker.lends a.late a.ready a.left a.withholds
    ∙ ap (λ (c : ConversationFields LimitedFields). c.terminal.speaking.station) e) in
    let rest = a.writes.says_rest in
    let over : IsTrue false = rest.2.1 (subst IsSome (sym (ap (λ (s : Shown). s.end) rest.1))
    (hung_is_end mid new.conversation.terminal.speaking.station station)) in
    absurd (false≢true over) in
    kept_so first old.keeper new.keeper a.timed.said (refused_so limited_behaviour a.heard) a.ready true stays a.keeps_so on

one_line : (first : Folder) (line : List ℕ) (old new : TalkState LimitedFields Folder) → Stays first old.keeper →
    AnswersNext LimitedFields Folder folder_talker old new line true false → OneLine first line old new
one_line first line old new stays h =
    let a = h.answered in
    let k : Kept first old.keeper new.keeper (refused_so limited_behaviour a.heard) a.ready = kept_line first line old new stays h in
    record {
      next = record {
        read = h.read;
        answered = record {
          timed = a.timed;
          heard = a.heard;
          ready = a.ready;
          late = a.late;
          left = a.left;
          told = a.told;
          says = a.says;
          can_come = subst (λ held. can_come held a.timed.said ≡ true) (ap held_name stays.held) a.can_come;
          takes = a.takes;
          keeps_so = k.stores;
          tells = subst (λ octets. Appends old.output a.told octets) k.told a.tells;
          withholds = a.withholds;
          writes = a.writes;
        };
      };
      stays = k.stays;
    }

all_lines : (first : Folder) (lines : List (List ℕ)) (old new : TalkState LimitedFields Folder) → Stays first old.keeper →
    AnswersAll folder_talker lines old new →
    AnswersAll (storing FolderStores FolderRefuses takes_so says_none) lines (now_state first old) (now_state first new)
all_lines first [] old new stays h = ap (λ (s : TalkState LimitedFields Folder). now_state first s) h
all_lines first (line ∷ lines) old new stays h =
    let one : OneLine first line old h.0 = one_line first line old h.0 stays h.1 in
    (now_state first h.0, one.next, all_lines first lines h.0 new one.stays h.2)

all_stay : (first : Folder) (lines : List (List ℕ)) (old new : TalkState LimitedFields Folder) → Stays first old.keeper →
    AnswersAll folder_talker lines old new → Stays first new.keeper
all_stay first [] old new stays h = subst (λ (s : TalkState LimitedFields Folder). Stays first s.keeper) (sym h) stays
all_stay first (line ∷ lines) old new stays h =
    all_stay first lines h.0 new (one_line first line old h.0 stays h.1).stays h.2

pub folder_is_said : StoredIsSaid Folder FolderStores FolderRefuses → FolderIsSaid
folder_is_said law caps lines old new is holds held all =
    let stays : Stays old.keeper old.keeper = record { limits = refl; holds = holds; held = held } in
    let s = law takes_so says_none caps lines (now_state old.keeper old) (now_state old.keeper new) is
    (all_lines old.keeper lines old new stays all) in
    record {
      octets = s.octets;
      of_lines = s.of_lines;
      pages = s.pages;
      filed = (
        between_each s.pages (now_of old.keeper old.keeper) (now_of old.keeper new.keeper) s.stored,
        (all_stay old.keeper lines old new stays all).limits,
      );
      read = s.read;
    }

-- ---- one line more

each_front : {A : Type 0} (P : A → Type 0) (xs ys : List A) → Each P (xs ++ ys) → Each P xs
each_front P [] ys h = tt
each_front P (x ∷ xs) ys h = (h.0, each_front P xs ys h.1)

-- what is stored are the first of the answerer's pages
first_are : (pages : List PagePixels) (c mid : ConversationFields LimitedFields) (all : Bool) → StoresSo pages c mid all →
    (rest : List PagePixels) × (pages_of c ≡ pages ++ rest)
first_are pages c mid true h = ([], sym h.0 ∙ sym (append-nil pages))
first_are pages c mid false h = (h.0 ∷ h.1, h.2)

module _ (said : StoredIsSaid Folder FolderStores FolderRefuses) (heard : LineIsSaid Folder FolderStores FolderRefuses) (caps : Caps)
    (old : TalkState LimitedFields Folder) (is : IsNewAnswerer caps old.conversation) (holds : old.keeper.holds ≡ false)
    (held : old.keeper.held ≡ None) where
  begun : Stays old.keeper old.keeper
  begun = record { limits = refl; holds = holds; held = held }

  lines_filed : (lines : List (List ℕ)) (new : TalkState LimitedFields Folder) → AnswersAll folder_talker lines old new →
      FilesWhatIsSaid caps lines old.keeper new.keeper
  lines_filed lines new all = folder_is_said said caps lines old new is holds held all

  same_filed : (lines : List (List ℕ)) (mid : TalkState LimitedFields Folder) (kept : Folder) → AnswersAll folder_talker lines old mid →
      kept ≡ mid.keeper → FilesWhatIsSaid caps lines old.keeper kept
  same_filed lines mid kept all e = subst (λ f. FilesWhatIsSaid caps lines old.keeper f) (sym e) (lines_filed lines mid all)

  line_filed : (lines : List (List ℕ)) (mid : TalkState LimitedFields Folder) (line : List ℕ) (timed : TimedLine)
      (taken ready : ConversationFields LimitedFields) (kept_in : Folder) (kept : Bool) → AnswersAll folder_talker lines old mid →
      Says line timed → TakesLine LimitedFields limited_behaviour mid.conversation timed taken →
      KeepsLine timed.said mid.keeper (refused_so limited_behaviour taken) kept_in ready kept →
      FilesWhatIsSaid caps (lines ++ line ∷ []) old.keeper kept_in
  line_filed lines mid line timed taken ready kept_in kept all says takes keeps =
      let there : ConversationFields LimitedFields = refused_so limited_behaviour taken in
      let stays : Stays old.keeper mid.keeper = all_stay old.keeper lines old mid begun all in
      let s = heard takes_so says_none caps lines (now_state old.keeper old) (now_state old.keeper mid) line timed taken is
      (all_lines old.keeper lines old mid begun all) says takes in
      let k : FolderKeeps mid.keeper there kept_in ready =
      folder_keeps_all timed.said mid.keeper there kept_in ready kept stays.holds keeps in
      let first = first_are k.pages there k.mid k.all k.stores in
      let before : FolderBook old.keeper s.pages mid.keeper =
      (between_each s.pages (now_of old.keeper old.keeper) (now_of old.keeper mid.keeper) s.stored, stays.limits) in
      record {
        octets = s.octets;
        of_lines = s.of_lines;
        pages = s.pages ++ k.pages;
        filed = books_both s.pages k.pages old.keeper mid.keeper kept_in before k.stored;
        read =
            each_front (IsReadOf caps (signals_in s.octets)) (s.pages ++ k.pages) first.0
            (subst (λ l. Each (IsReadOf caps (signals_in s.octets)) l) (sym (append_assoc s.pages k.pages first.0))
            (subst (λ l. Each (IsReadOf caps (signals_in s.octets)) (s.pages ++ l)) first.1 s.read));
      }

  breaks_filed : (lines : List (List ℕ)) (mid new : TalkState LimitedFields Folder) → AnswersAll folder_talker lines old mid →
      (h : BreaksNext folder_talker mid new) → (lines : List (List ℕ)) × FilesWhatIsSaid caps lines old.keeper new.keeper
  breaks_filed lines mid new all h = at h.2
    where
      at : BreaksOff folder_talker.station folder_talker.keeping folder_talker.lends h.0 mid.conversation new.conversation mid.keeper
          new.keeper mid.output new.output → (lines : List (List ℕ)) × FilesWhatIsSaid caps lines old.keeper new.keeper
      at (inl nothing) = (lines, same_filed lines mid new.keeper all nothing.0)
      at (inr a) = (
        lines ++ h.0 ∷ [],
        line_filed lines mid h.0 a.timed a.heard a.ready new.keeper a.kept all a.says a.takes a.keeps_so,
      )

  same_keeper : (last new : TalkState LimitedFields Folder) → new ≡ record last { input = new.input } → new.keeper ≡ last.keeper
  same_keeper last new e = ap (λ (s : TalkState LimitedFields Folder). s.keeper) e

  fails_filed : (new : TalkState LimitedFields Folder) → FailsToRead LimitedFields Folder folder_talker old new →
      (lines : List (List ℕ)) × FilesWhatIsSaid caps lines old.keeper new.keeper
  fails_filed new h = (h.lines, same_filed h.lines h.last new.keeper h.answered (same_keeper h.last new h.rest))

  stops_filed : (new : TalkState LimitedFields Folder) (fault : ConverseFault) → StopsSo folder_talker old new fault →
      (lines : List (List ℕ)) × FilesWhatIsSaid caps lines old.keeper new.keeper
  stops_filed new (Line number) h =
      (h.lines, same_filed h.lines h.last new.keeper h.answered (same_keeper h.last new h.refused.rest))
  stops_filed new (Reader kind) h = fails_filed new h
  stops_filed new NoMemory (inl h) = fails_filed new h
  stops_filed new NoMemory (inr (inl h)) = (h.lines, same_filed h.lines h.last new.keeper h.answered h.keeper)
  stops_filed new NoMemory (inr (inr h)) = breaks_filed h.lines h.last new h.answered h.breaks
  stops_filed new (Writer kind) h = breaks_filed h.lines h.last new h.answered h.breaks
  stops_filed new TooManyLines h = (h.lines, lines_filed h.lines new h.answered)

  next_filed : (lines : List (List ℕ)) (mid new : TalkState LimitedFields Folder) (line : List ℕ) (kept over : Bool) →
      AnswersAll folder_talker lines old mid → AnswersNext LimitedFields Folder folder_talker mid new line kept over →
      (lines : List (List ℕ)) × FilesWhatIsSaid caps lines old.keeper new.keeper
  next_filed lines mid new line kept over all next =
      let a = next.answered in (
        lines ++ line ∷ [],
        line_filed lines mid line a.timed a.heard a.ready new.keeper kept all a.says a.takes a.keeps_so,
      )

  ends_filed : (new : TalkState LimitedFields Folder) (ending : Ending ToolFault) →
      Converses LimitedFields Folder ToolFault folder_talker old new ending →
      (lines : List (List ℕ)) × FilesWhatIsSaid caps lines old.keeper new.keeper
  ends_filed new Over c = next_filed c.lines c.last new c.ends.0 true true c.answered c.ends.1
  ends_filed new (Unkept why) c = next_filed c.lines c.last new c.ends.0 false c.ends.1 c.answered c.ends.2
  ends_filed new Lost c = (c.lines, same_filed c.lines c.last new.keeper c.answered c.ends.keeper)

-- ---- the command

module _ (said : StoredIsSaid Folder FolderStores FolderRefuses) (heard : LineIsSaid Folder FolderStores FolderRefuses) (caps : Caps)
    (first : ConversationFields LimitedFields) (folder : Folder) (is : IsNewAnswerer caps first) (holds : folder.holds ≡ false)
    (held : folder.held ≡ None) where
  led_filed : (last : ConversationFields LimitedFields) (kept : Folder) (ending : Ending ToolFault) →
      LedTo folder_talker first folder last kept ending → (lines : List (List ℕ)) × FilesWhatIsSaid caps lines folder kept
  led_filed last kept ending h =
      ends_filed said heard caps (talk_state h.0 first folder h.2) is holds held (talk_state h.1 last kept h.3) ending h.4

  stopped_filed : (last : ConversationFields LimitedFields) (kept : Folder) (fault : ConverseFault) →
      StoppedAt folder_talker first folder last kept fault → (lines : List (List ℕ)) × FilesWhatIsSaid caps lines folder kept
  stopped_filed last kept fault h =
      stops_filed said heard caps (talk_state h.0 first folder h.2) is holds held (talk_state h.1 last kept h.3) fault h.4

  talk_filed : (lost : ℕ) (last : ConversationFields LimitedFields) (kept : Folder) (ended : Result (Unit {0}) Halted) →
      EndsTalk folder_talker lost first folder last kept ended → (lines : List (List ℕ)) × FilesWhatIsSaid caps lines folder kept
  talk_filed lost last kept (Ok done) (inl led) = led_filed last kept Over led
  talk_filed lost last kept (Ok done) (inr led) = led_filed last kept Lost led
  talk_filed lost last kept (Err halted) (inl led) = led_filed last kept (Unkept led.0) led.1
  talk_filed lost last kept (Err halted) (inr (inl h)) = stopped_filed last kept h.0 h.1
  talk_filed lost last kept (Err halted) (inr (inr h)) =
      ([], same_filed said heard caps (talk_state None first folder None) is holds held [] (talk_state None first folder None) kept refl h.1)

none_lost : (n : ℕ) (old mid : ConversationFields LimitedFields) (keeper held : Folder) → n ≡ 0 → AfterLosses folder_talker n old keeper mid held →
    (mid ≡ old) × (held ≡ keeper)
none_lost zero old mid keeper held e h = h
none_lost (suc n) old mid keeper held e h = absurd (cc)

from_none : (n a b : ℕ) → a ≡ 0 → b ≡ a + n → b ≡ n
from_none n a b e f = omega (arith, e, f)

pub answerers_are_new : AnswerersAreNew
answerers_are_new command c begins = record {
  params = no_params;
  station = ap (λ (v : LimitedFields). v.station) begins.station;
  told = ap (λ (v : LimitedFields). v.told) begins.station;
  framing = begins.fresh.framing;
}

pub stations_file : StoredIsSaid Folder FolderStores FolderRefuses → LineIsSaid Folder FolderStores FolderRefuses → StationsFileWhatIsSaid
stations_file said heard command talked itself t none =
    let from = none_lost t.talks.lost t.first t.talks.mid t.folder t.talks.held none t.talks.before in
    let ends : EndsTalk folder_talker t.talks.lost t.first t.folder t.last t.kept t.ended =
    subst (λ c. EndsTalk folder_talker t.talks.lost c t.folder t.last t.kept t.ended) from.0
    (subst (λ f. EndsTalk folder_talker t.talks.lost t.talks.mid f t.last t.kept t.ended) from.1 t.talks.ends) in
    let files = talk_filed said heard (receiving command.caps) t.first t.folder (answerers_are_new command t.first t.begins) (t.empty.holds ∙ itself) t.empty.held t.talks.lost
    t.last t.kept t.ended ends in
    record {
      lines = files.0;
      first = t.folder;
      empty = t.empty;
      last = t.kept;
      files = files.1;
      counted =
          t.pages ∙
          from_none (length files.1.pages) t.folder.tally.pages t.kept.tally.pages (ap (λ (y : Tally). y.pages) t.empty.tally)
          (counts t.folder.limits files.1.pages t.folder.tally t.kept.tally files.1.filed.0);
    }

-- ---- what was accepted is in the book

freed_none : (ending : Option End) (told : Bool) (s : Answerer) → (freed ending told s).pages ≡ []
freed_none None told s = refl
freed_none (Some why) told s = refl

-- no page is left in an answerer whose pages were taken
pub taken_none : (c : ConversationFields LimitedFields) → pages_of (with_pages_taken c) ≡ []
taken_none c =
    let v : LimitedFields = c.terminal.speaking.station in freed_none v.station.ending v.told v.station

-- no page is left after a line after which the call goes on
none_left : (first : Folder) (line : List ℕ) (old new : TalkState LimitedFields Folder) → Stays first old.keeper →
    (h : AnswersNext LimitedFields Folder folder_talker old new line true false) → pages_of new.conversation ≡ []
none_left first line old new stays h =
    let a = h.answered in
    let station = all_stays limited_behaviour.side folder_talker.lends a.writes.bursts a.left new.conversation a.writes.gives
    ∙ withheld_stays limited_behaviour.side folder_talker.lends a.late a.ready a.left a.withholds in
    ap (λ (v : LimitedFields). v.station.pages) station ∙ (ap pages_of (kept_line first line old new stays h).stores.1 ∙ taken_none (refused_so limited_behaviour a.heard))

all_accepted : (first : Folder) (lines : List (List ℕ)) (old new : TalkState LimitedFields Folder) → Stays first old.keeper →
    pages_of old.conversation ≡ [] → (h : AnswersAll folder_talker lines old new) →
    StoredBetween first.limits old.keeper.tally (accepted_in lines old new h) new.keeper.tally × (pages_of new.conversation ≡ [])
all_accepted first [] old new stays none h = (
  ap (λ (s : TalkState LimitedFields Folder). s.keeper.tally) h,
  ap (λ (s : TalkState LimitedFields Folder). pages_of s.conversation) h ∙ none,
)
all_accepted first (line ∷ lines) old new stays none h =
    let one : OneLine first line old h.0 = one_line first line old h.0 stays h.1 in
    let c : ConversationFields LimitedFields = refused_so limited_behaviour h.1.answered.heard in
    let rest = all_accepted first lines h.0 new one.stays (none_left first line old h.0 stays h.1) h.2 in (
      between_both first.limits (pages_of c) (accepted_in lines h.0 new h.2) old.keeper.tally h.0.keeper.tally new.keeper.tally
          (between_each (pages_of c) (now_of first old.keeper) (now_of first h.0.keeper) (kept_line first line old h.0 stays h.1).stores.0) rest.0,
      rest.1,
    )

pub accepted_are_filed : AcceptedAreFiled
accepted_are_filed lines old new holds held none all =
    let stays : Stays old.keeper old.keeper = record { limits = refl; holds = holds; held = held } in
    let r = all_accepted old.keeper lines old new stays none all in
    ((r.0, (all_stay old.keeper lines old new stays all).limits), r.1)

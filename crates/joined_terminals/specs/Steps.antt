-- What happens to two conversations, to the line between them and to the store.
--
-- The driver's rule, as STATION says it. A line that says that octets or a training check have come is written only of what was sent and
-- not lost. Once a station has begun to speak the bursts of an older answer of the other one are void: the driver drops them, or the
-- station itself does, which is late. The steps stand in the order of the times of their lines: a late answer stands where its line does,
-- before what the other station has sent since. What is on its way to a station at the time of a line whose answer isn't silence is lost,
-- also if that answer is withheld. After a page was refused the answerer takes no line: its process ends.
use Rattle.std.specs.Prelude.{◌≡◌, ◌≢◌, ◌⊎◌, ◌++◌, ◌∷◌, [], ◌&&◌, ℕ, Bool, true, false, List, Option, Some, None, drop}
use Rattle.conversations.specs.Answering.{StoreStep, StoresEach, limited_behaviour, pages_of}
use Rattle.conversations.specs.Conversations.{Behaviour, ConversationFields, LosesFrames, PlainGiven, RefusesLine, TakesLine, gives}
use Rattle.conversations.specs.Conversations.{hung_up_so, refused_so, stopped_so, with_pages_taken}
use Rattle.conversations.specs.Conversations.{nothing, stopping, losing, frames, input}
use Rattle.conversations.specs.Led.{caller_behaviour}
use Rattle.conversations.specs.Refusing.{stop_in}
use Rattle.conversations.specs.Talking.{GivesNext}
use Rattle.conversations.specs.declared.line.TimedLine.{TimedLine}
use Rattle.hdlc.specs.DeframerState.{DeframerState}
use Rattle.raster.specs.Pages.{PagePixels}
use Rattle.signals.specs.Signals.{PlainSignal}
use Rattle.signals.specs.declared.signal.Side.TheVariants.{Caller as CallerSide, Answerer as AnswererSide}
use Rattle.stations.specs.Bursts.{PlainBurst}
use Rattle.stations.specs.Inputs.{PlainItem}
use Rattle.stations.specs.Limiting.{LimitedFields}
use Rattle.stations.specs.Stopping.{StoppableCallerFields}
use Rattle.terminals.specs.Hearing.{HasHeard, heard_of, said, check, over, busy}
use Rattle.terminals.specs.Runs.{TerminalFields}
use Rattle.terminals.specs.Sending.{IsSent}
use Rattle.terminals.specs.Speaking.{Takes, is_silent}
use Rattle.terminals.specs.Stations.{AnswererLends, CallerLends}
use Rattle.terminals.specs.Stopping.{limited_cut_off}
use Rattle.terminals.specs.declared.sending.SentBurst.{SentBurst}
use Rattle.conversations.specs.declared.refusing.StopCause.{StopCause}
use Rattle.conversations.specs.declared.refusing.StopCause.TheVariants.{Refused, TooLong, NeverQuiet}
use Rattle.joined_terminals.specs.Happening.{AreLeft, FirstComes}
use Rattle.joined_terminals.specs.Joining.{if_clear}
use Rattle.joined_terminals.specs.Octets.{IsPiece, PieceComes, TakesSo}
use Rattle.joined_terminals.specs.Driven.{Driven, answerer_speaks, caller_speaks}

-- ---- a line is written to a station

-- one signal at most: an answerer's turn has no more
abbrev pub IsOneAtMost : List PlainSignal → Type 0
IsOneAtMost signals = (first next : PlainSignal) (more : List PlainSignal) → signals ≢ first ∷ next ∷ more

-- What a line gives comes of what is on its way to the station, of which others are left: octets bring the good frames of a piece of it,
-- and a training check, of no octets where it is missed, comes in place of one that is the first on its way. Anything else comes of itself.
abbrev pub Comes : (List PlainSignal → Type 0) → DeframerState → List PlainItem → PlainGiven → List PlainItem → Type 0
Comes fits framing items (frames octets) others =
    (before : List ℕ) × HasHeard framing before × (comes : PieceComes items (heard_of before octets) others) × fits comes.signals
Comes fits framing items (input (said signal)) others = FirstComes items (said signal) others
Comes fits framing items (input (check octets)) others = FirstComes items (check octets) others
Comes fits framing items (input (over wait)) others = others ≡ items
Comes fits framing items (input (busy is)) others = others ≡ items
Comes fits framing items nothing others = others ≡ items
Comes fits framing items stopping others = others ≡ items
Comes fits framing items losing others = others ≡ items

-- whether all turns that a terminal took of what a line gives, which comes so, are silence
abbrev pub TurnsSo :
    {S : Type 0} → Behaviour S → (fits : List PlainSignal → Type 0) (old : TerminalFields S) (items others : List PlainItem)
    (given : PlainGiven) → Comes fits old.framing items given others → TerminalFields S → Bool → Type 0
TurnsSo b fits old items others nothing comes new silent = silent ≡ true
TurnsSo b fits old items others stopping comes new silent = silent ≡ is_silent (b.stop_says old.speaking.station)
TurnsSo b fits old items others losing comes new silent = silent ≡ true
TurnsSo b fits old items others (frames octets) comes new silent =
    TakesSo b.steps old.speaking (heard_of comes.0 octets) new.speaking silent
TurnsSo {S} b fits old items others (input x) comes new silent =
    (takes : Takes S b.steps old.speaking x new.speaking) × (silent ≡ is_silent takes.turn)

-- what a line gives comes of the line of the call, and the caller's turn does to that line what it does
pub record CallerIsGiven (given : PlainGiven) (old : Driven) (caller : ConversationFields StoppableCallerFields) (new : Driven) :
    Type 0 where
  pub others : List PlainItem
  pub comes : Comes IsOneAtMost old.caller.terminal.framing old.to_caller given others
  pub silent : Bool
  pub turns : TurnsSo caller_behaviour IsOneAtMost old.caller.terminal old.to_caller others given comes caller.terminal silent
  pub is : new ≡ caller_speaks silent (record old { caller = caller; to_caller = others })

-- the same of the answerer
pub record AnswererIsGiven (given : PlainGiven) (old : Driven) (answerer : ConversationFields LimitedFields) (new : Driven) : Type 0 where
  pub others : List PlainItem
  pub comes : Comes IsPiece old.answerer.terminal.framing old.to_answerer given others
  pub silent : Bool
  pub turns : TurnsSo limited_behaviour IsPiece old.answerer.terminal old.to_answerer others given comes answerer.terminal silent
  pub is : new ≡ answerer_speaks silent (record old { answerer = answerer; to_answerer = others })

-- the caller takes a line, by the contract of `take`
pub record CallerTakesLine (line : TimedLine) (old new : Driven) : Type 0 where
  pub caller : ConversationFields StoppableCallerFields
  pub takes : TakesLine StoppableCallerFields caller_behaviour old.caller line caller
  pub given : CallerIsGiven (gives caller_behaviour old.caller takes.shown line) old caller new

-- the answerer takes a line, by the contract of `take`; once a page was refused it takes none
pub record AnswererTakesLine (line : TimedLine) (old new : Driven) : Type 0 where
  pub all_kept : old.unkept ≡ []
  pub answerer : ConversationFields LimitedFields
  pub takes : TakesLine LimitedFields limited_behaviour old.answerer line answerer
  pub given : AnswererIsGiven (gives limited_behaviour old.answerer takes.shown line) old answerer new

-- memory is refused while the caller takes a line: its terminal is as it was, or has heard the line, but for frames that are lost
pub record CallerRefusesLine (line : TimedLine) (old new : Driven) : Type 0 where
  pub caller : ConversationFields StoppableCallerFields
  pub refuses : RefusesLine StoppableCallerFields caller_behaviour old.caller line caller
  pub given :
      ((caller.terminal ≡ old.caller.terminal) × (new ≡ record old { caller = caller })) ⊎
      (LosesFrames caller_behaviour old.caller.terminal (gives caller_behaviour old.caller refuses.shown line) caller.terminal ×
      CallerIsGiven (gives caller_behaviour old.caller refuses.shown line) old caller new)

-- memory is refused while the answerer takes a line
pub record AnswererRefusesLine (line : TimedLine) (old new : Driven) : Type 0 where
  pub answerer : ConversationFields LimitedFields
  pub refuses : RefusesLine LimitedFields limited_behaviour old.answerer line answerer
  pub given :
      ((answerer.terminal ≡ old.answerer.terminal) × (new ≡ record old { answerer = answerer })) ⊎
      (LosesFrames limited_behaviour old.answerer.terminal (gives limited_behaviour old.answerer refuses.shown line) answerer.terminal ×
      AnswererIsGiven (gives limited_behaviour old.answerer refuses.shown line) old answerer new)

-- whether a call that is stopped for a reason, if there is one, says nothing: it doesn't if its line never fell quiet
abbrev pub silent_unless : Option StopCause → Bool → Bool
silent_unless None silent = true
silent_unless (Some (Refused why)) silent = silent
silent_unless (Some TooLong) silent = silent
silent_unless (Some NeverQuiet) silent = true

-- ---- pages are stored

-- a page is stored: it comes after those that were stored before
abbrev pub appends : StoreStep (List PagePixels)
appends old page new = new ≡ old ++ page ∷ []

-- each page of the answerer is stored, in order
pub record StoresPages (old new : Driven) : Type 0 where
  pub all_kept : old.unkept ≡ []
  pub stored : List PagePixels
  pub stores : StoresEach appends old.stored (pages_of old.answerer) stored
  pub is : new ≡ record old { answerer = with_pages_taken old.answerer; stored = stored }

-- the pages of the answerer before one that is refused are stored, in order; that one and those after it are dropped, and the answerer
-- hangs up with DCN in place of its turn
pub record RefusesPage (old new : Driven) : Type 0 where
  pub all_kept : old.unkept ≡ []
  pub front : List PagePixels
  pub refused : PagePixels
  pub rest : List PagePixels
  pub split : pages_of old.answerer ≡ front ++ refused ∷ rest
  pub stored : List PagePixels
  pub stores : StoresEach appends old.stored front stored
  pub is :
      new ≡
      answerer_speaks false
      (record old {
        answerer = hung_up_so limited_cut_off (with_pages_taken old.answerer);
        stored = stored;
        unkept = refused ∷ rest;
      })

-- ---- bursts are given

-- The caller gives its next burst, by the contract of `next_burst`. It goes onto the line, as far as the line is clear; or it is withheld.
pub record CallerGives (sent : SentBurst) (sends : Bool) (old new : Driven) : Type 0 where
  pub caller : ConversationFields StoppableCallerFields
  pub gives : GivesNext CallerSide (λ v turn bursts. CallerLends v.station turn bursts) old.caller (Some sent) caller
  pub bursts : List PlainBurst
  pub lent : CallerLends old.caller.terminal.speaking.station.station old.caller.terminal.speaking.turn bursts
  pub burst : PlainBurst
  pub later : List PlainBurst
  pub next : drop old.caller.terminal.speaking.taken bursts ≡ burst ∷ later
  pub is_sent : IsSent CallerSide burst later sent
  pub is :
      new ≡
      record old {
        caller = caller;
        to_answerer = old.to_answerer ++ if_clear (sends && old.caller_clear) burst.items;
      }

-- the same of the answerer
pub record AnswererGives (sent : SentBurst) (sends : Bool) (old new : Driven) : Type 0 where
  pub answerer : ConversationFields LimitedFields
  pub gives : GivesNext AnswererSide (λ v turn bursts. AnswererLends v.station turn bursts) old.answerer (Some sent) answerer
  pub bursts : List PlainBurst
  pub lent : AnswererLends old.answerer.terminal.speaking.station.station old.answerer.terminal.speaking.turn bursts
  pub burst : PlainBurst
  pub later : List PlainBurst
  pub next : drop old.answerer.terminal.speaking.taken bursts ≡ burst ∷ later
  pub is_sent : IsSent AnswererSide burst later sent
  pub is :
      new ≡
      record old {
        answerer = answerer;
        to_caller = old.to_caller ++ if_clear (sends && old.answerer_clear) burst.items;
      }

-- some items on their way are lost
pub record ItemsLose (old new : Driven) : Type 0 where
  pub to_answerer : List PlainItem
  pub to_caller : List PlainItem
  pub answerers : AreLeft to_answerer old.to_answerer
  pub callers : AreLeft to_caller old.to_caller
  pub is : new ≡ record old { to_answerer = to_answerer; to_caller = to_caller }

-- something that happens
pub data Step : Type 0 where
  -- a line is written to a station and taken; or memory is refused while it is taken
  caller_line answerer_line caller_refuses answerer_refuses : TimedLine → Step
  -- the call of a station is stopped if it is refused, or has lasted as long as it may
  caller_watches answerer_watches : Step
  -- the pages of the answerer are stored, or kept by others; or one is refused
  pages_stored page_refused : Step
  -- a page that others store is lost, and the call is stopped
  page_lost : Step
  -- the answerer hangs up: a page can't be handed over, or its program wants that, as where a call lasts too long
  hung_up : Step
  -- a station gives a burst, and whether it goes onto the line, or is withheld since the answer is late
  caller_gives answerer_gives : SentBurst → Bool → Step
  -- items on their way are lost
  items_lost : Step

-- what each of these makes of two conversations
abbrev pub Does : Step → Driven → Driven → Type 0
Does (caller_line line) old new = CallerTakesLine line old new
Does (answerer_line line) old new = AnswererTakesLine line old new
Does (caller_refuses line) old new = CallerRefusesLine line old new
Does (answerer_refuses line) old new = AnswererRefusesLine line old new
Does caller_watches old new =
    new ≡
    caller_speaks
    (silent_unless (stop_in old.caller.watch) (is_silent (caller_behaviour.stop_says old.caller.terminal.speaking.station)))
    (record old { caller = refused_so caller_behaviour old.caller })
Does answerer_watches old new =
    new ≡
    answerer_speaks
    (silent_unless (stop_in old.answerer.watch) (is_silent (limited_behaviour.stop_says old.answerer.terminal.speaking.station)))
    (record old { answerer = refused_so limited_behaviour old.answerer })
Does pages_stored old new = StoresPages old new
Does page_refused old new = RefusesPage old new
Does page_lost old new =
    new ≡
    answerer_speaks (is_silent (limited_behaviour.stop_says old.answerer.terminal.speaking.station))
    (record old { answerer = stopped_so limited_behaviour old.answerer })
Does hung_up old new = new ≡ answerer_speaks false (record old { answerer = hung_up_so limited_cut_off old.answerer })
Does (caller_gives sent sends) old new = CallerGives sent sends old new
Does (answerer_gives sent sends) old new = AnswererGives sent sends old new
Does items_lost old new = ItemsLose old new

-- one step after the other leads from one state of both to another
abbrev pub Drives : List Step → Driven → Driven → Type 0
Drives [] old new = new ≡ old
Drives (step ∷ more) old new = (mid : Driven) × Does step old mid × Drives more mid new

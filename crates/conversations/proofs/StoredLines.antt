-- What an answerer stores of the lines that it answers.
use Rattle.std.proofs.Common.{◌≡◌, ◌⊎◌, ◌∙◌, ◌++◌, ◌∷◌, ℕ, Bool, true, false, List, [], inl, inr, ap, arith, refl, subst, sym, append_assoc}
use Rattle.std.proofs.lemmas.List.{append-nil}
use Rattle.std.specs.Prelude.{Option, Some, None, Ok, cond}
use Rattle.conversations.proofs.Led.{spoken_by, taken_by}
use Rattle.conversations.proofs.ServedLines.{AreAmong, Serves, all_read_among, before_more, brought_by, first_of, later_of, pages_read}
use Rattle.conversations.proofs.ServedLines.{serves_more, step_serves, taken_serves}
use Rattle.conversations.specs.Answering.{StoreStep, StoresEach, limited_behaviour, pages_of}
use Rattle.conversations.specs.Conversations.{ConversationFields, Gives, PlainGiven, SendsIfBegun, TakesLine, gives, heard_given, line_gives}
use Rattle.conversations.specs.Conversations.{missed_given, refused_so, silenced_so, state_of, stopped_for, stopped_so}
use Rattle.conversations.specs.Refusing.{stop_in}
use Rattle.conversations.specs.declared.refusing.StopCause.{StopCause}
use Rattle.conversations.specs.declared.refusing.StopCause.TheVariants.{Refused, TooLong, NeverQuiet}
use Rattle.conversations.specs.Conversations.{over_given, nothing, stopping, losing, frames, input}
use Rattle.conversations.specs.Conversing.{AnswersAll, AnswersNext, TalkState}
use Rattle.conversations.specs.Lines.{Says}
use Rattle.conversations.specs.StoredLines.{AreOfLine, AreOfLines, IsNewAnswerer, LastIsSaid, LineIsSaid, RefusedIsLast, StoredIsSaid}
use Rattle.conversations.specs.StoredLines.{received_octets, signals_in, storing}
use Rattle.conversations.specs.Talking.{GivesAll, Withholds}
use Rattle.conversations.specs.Hearing.{heard_as}
use Rattle.conversations.specs.declared.hearing.Heard.{Heard}
use Rattle.conversations.specs.declared.hearing.Heard.TheVariants.{Frames, Check, Nothing}
use Rattle.conversations.specs.declared.line.Said.{Said}
use Rattle.conversations.specs.declared.line.Said.TheVariants.{Quiet, Busy, Received, NotReady, Ready, Missed, Told, Stop, End}
use Rattle.conversations.specs.declared.line.TimedLine.{TimedLine}
use Rattle.hdlc.specs.Flags as Flags
use Rattle.raster.specs.Packed as Packed
use Rattle.raster.specs.Pages.{PagePixels}
use Rattle.signals.specs.Signals.{PlainSignal}
use Rattle.signals.specs.declared.params.Caps.{Caps}
use Rattle.signals.specs.declared.params.Params.{Params}
use Rattle.signals.specs.declared.signal.Side.{Side}
use Rattle.stations.specs.Inputs.{listens}
use Rattle.stations.specs.Laws.{Each}
use Rattle.stations.specs.LimitedServing.{LimitedServes}
use Rattle.stations.specs.Limiting.{LimitedFields}
use Rattle.stations.specs.Runs.{IsReadOf, StoredIsRead}
use Rattle.stations.specs.Taken.{TakenAndThere}
use Rattle.stations.specs.declared.listening.Listening.{Listening}
use Rattle.stations.specs.declared.listening.Listening.TheVariants.{V21, Training, V21OrPage, V21ThenPage}
use Rattle.stations.specs.declared.stopping.Cut.{Cut}
use Rattle.stations.specs.declared.stopping.Cut.TheVariants.{Stop as StopCut, Loss}
use Rattle.stations.specs.declared.turn.Turn.{Turn}
use Rattle.stations.specs.declared.waiting.Wait.{Wait}
use Rattle.stations.specs.declared.waiting.Wait.TheVariants.{T1, T2, T4, T5}
use Rattle.terminals.specs.Clocks.{clock_at, wait_over}
use Rattle.terminals.specs.Hearing.{CutsChangeNothing, HasHeard, PlainInput, contents, heard_of}
use Rattle.terminals.proofs.After.{heard_keeps}
use Rattle.terminals.specs.Runs.{TakesAll, TerminalFields}
use Rattle.terminals.specs.Saying.{limited_lends}
use Rattle.terminals.specs.Speaking.{BurstsOf, Speaking}
use Rattle.terminals.specs.StationsAfter.{answerer_inputs}
use Rattle.terminals.specs.Stations.{answerer_takes}
use Rattle.terminals.specs.Stopping.{LimitedStepsUnlessCut, limited_cut_off, limited_stop_says}
use Rattle.terminals.specs.declared.sending.SentBurst.{SentBurst}
use Rattle.terminals.specs.declared.clock.Clock.{Clock}
use Rattle.terminals.specs.declared.clock.Durations.{Durations}
use Rattle.terminals.specs.declared.stopping.Shown.{Shown}

-- an answerer with limits takes a step, unless its call was cut off
abbrev steps_so : LimitedFields → PlainInput → LimitedFields → Turn → Type 0
steps_so old x new turn = LimitedStepsUnlessCut old.cut old x new turn

-- a terminal has heard octets, and its answerer has come to this by them
record Stands (caps : Caps) (params : Params) (t : TerminalFields LimitedFields) (octets : List ℕ) : Type 0 where
  heard : HasHeard t.framing octets
  serves : Serves caps params t.speaking.station octets

-- ---- what a line gives

takes_all : (caps : Caps) (params : Params) (old new : Speaking LimitedFields) (xs : List PlainInput) (octets : List ℕ) →
    Serves caps params old.station octets → AreAmong (answerer_inputs xs) (signals_in octets) → TakesAll steps_so limited_lends old xs new →
    Serves caps params new.station octets
takes_all caps params old new [] octets h among is =
    subst (λ (s : Speaking LimitedFields). Serves caps params s.station octets) (sym is) h
takes_all caps params old new (x ∷ xs) octets h among is =
    takes_all caps params is.0 new xs octets
    (heard_keeps (λ (s : Speaking LimitedFields). Serves caps params s.station octets) steps_so limited_lends old is.0 x is.1 h
    (λ takes.
    subst (λ v. Serves caps params v octets) (sym (taken_by steps_so old x is.0 takes))
    (step_serves caps params old.station takes.station x takes.turn old.station.cut octets h (first_of x xs octets among) takes.steps_so)))
    (later_of x xs octets among) is.2

-- the octets of the line that a station is given
abbrev octets_given : PlainGiven → List ℕ
octets_given nothing = []
octets_given stopping = []
octets_given losing = []
octets_given (frames octets) = octets
octets_given (input x) = []

-- no octet more
no_more : (caps : Caps) (params : Params) (old new : TerminalFields LimitedFields) (octets : List ℕ) → HasHeard old.framing octets →
    new.framing ≡ old.framing → Serves caps params new.speaking.station octets → Stands caps params new (octets ++ [])
no_more caps params old new octets heard same serves = record {
  heard =
      subst (λ l. HasHeard new.framing l) (sym (append-nil octets)) (subst (λ f. HasHeard f octets) (sym same) heard);
  serves = subst (λ l. Serves caps params new.speaking.station l) (sym (append-nil octets)) serves;
}

-- a call that is cut off keeps what its answerer has come to
cut_serves : (caps : Caps) (params : Params) (v w : LimitedFields) (octets : List ℕ) (now : Cut) → Serves caps params v octets →
    w ≡ limited_cut_off now v → Serves caps params w octets
cut_serves caps params v w octets now h e =
    subst (λ u. Serves caps params u octets) (sym e)
    (record { happens = h.happens; station = h.station; told = h.told; among = h.among })

-- what is given is no signal by itself
abbrev NoSignal : PlainGiven → Type 0
NoSignal nothing = Unit {0}
NoSignal stopping = Unit {0}
NoSignal losing = Unit {0}
NoSignal (frames octets) = Unit {0}
NoSignal (input x) = (signal : PlainSignal) → answerer_takes x ≡ Some (listens signal) → ⊥

given_serves : CutsChangeNothing → (caps : Caps) (params : Params) (old new : TerminalFields LimitedFields) (g : PlainGiven) (brought : Bool)
    (octets : List ℕ) → NoSignal g → Stands caps params old octets →
    Gives limited_behaviour old g new brought → Stands caps params new (octets ++ octets_given g)
given_serves cuts caps params old new nothing brought octets none h is =
    no_more caps params old new octets h.heard (ap (λ (t : TerminalFields LimitedFields). t.framing) is.0)
    (subst (λ (t : TerminalFields LimitedFields). Serves caps params t.speaking.station octets) (sym is.0) h.serves)
given_serves cuts caps params old new stopping brought octets none h is =
    no_more caps params old new octets h.heard is.0
    (cut_serves caps params old.speaking.station new.speaking.station octets StopCut h.serves
    (ap (λ (s : Speaking LimitedFields). s.station) is.1 ∙
    spoken_by old.speaking (limited_cut_off StopCut old.speaking.station) (limited_stop_says old.speaking.station)))
given_serves cuts caps params old new losing brought octets none h is =
    no_more caps params old new octets h.heard is.0
    (cut_serves caps params old.speaking.station new.speaking.station octets Loss h.serves
    (ap (λ (s : Speaking LimitedFields). s.station) is.1))
given_serves cuts caps params old new (frames more) brought octets none h is =
    let all = is.0 octets h.heard in
    record {
      heard = all.0;
      serves =
          takes_all caps params old.speaking new.speaking (heard_of octets more) (octets ++ more)
          (serves_more cuts caps params old.speaking.station octets more h.serves) (brought_by cuts octets more) all.1;
    }
given_serves cuts caps params old new (input x) brought octets none h is =
    no_more caps params old new octets h.heard is.0
    (subst (λ v. Serves caps params v octets) (sym (taken_by steps_so old.speaking x new.speaking is.1))
    (step_serves caps params old.speaking.station is.1.station x is.1.turn old.speaking.station.cut octets h.serves
    (λ signal e. absurd (none signal e)) is.1.steps_so))

-- ---- what a line gives an answerer

-- octets that are given are those that the line says were received, or none; and no line gives a signal by itself
record GivesOf (g : PlainGiven) (said : Said) : Type 0 where
  octets : (octets_given g ≡ []) ⊎ (octets_given g ≡ received_octets said)
  none : NoSignal g

gives_nothing : (said : Said) → GivesOf nothing said
gives_nothing said = record { octets = inl refl; none = tt }

gives_over : (wait : Option Wait) (said : Said) → GivesOf (over_given wait) said
gives_over None said = gives_nothing said
gives_over (Some T1) said = record { octets = inl refl; none = λ signal is. cc }
gives_over (Some T2) said = record { octets = inl refl; none = λ signal is. cc }
gives_over (Some T4) said = record { octets = inl refl; none = λ signal is. cc }
gives_over (Some T5) said = record { octets = inl refl; none = λ signal is. cc }

gives_heard : (heard : Heard) (said : Said) → GivesOf (heard_given heard (received_octets said)) said
gives_heard Frames said = record { octets = inr refl; none = tt }
gives_heard Check said = record { octets = inl refl; none = λ signal is. cc }
gives_heard Nothing said = gives_nothing said

gives_missed : (listens : Listening) (said : Said) → GivesOf (missed_given listens) said
gives_missed V21 said = gives_nothing said
gives_missed (Training speed) said = record { octets = inl refl; none = λ signal is. cc }
gives_missed (V21OrPage speed) said = gives_nothing said
gives_missed (V21ThenPage speed) said = gives_nothing said

gives_if : (begun : Bool) (g : PlainGiven) (said : Said) → GivesOf g said → GivesOf (cond begun g nothing) said
gives_if true g said h = h
gives_if false g said h = gives_nothing said

gives_of : (begun : Bool) (side : Side) (shown : Shown) (c : Clock) (d : Durations) (said : Said) →
    GivesOf (line_gives begun side shown c d said) said
gives_of begun side shown c d Quiet = gives_if begun _ Quiet (gives_over (wait_over side shown c d) Quiet)
gives_of begun side shown c d Busy = gives_nothing Busy
gives_of begun side shown c d (Received channel kind bits octets) =
    gives_if begun _ (Received channel kind bits octets)
    (gives_heard (heard_as shown.listens channel kind) (Received channel kind bits octets))
gives_of begun side shown c d NotReady = record { octets = inl refl; none = λ signal is. cc }
gives_of begun side shown c d Ready = record { octets = inl refl; none = λ signal is. cc }
gives_of begun side shown c d Missed = gives_if begun _ Missed (gives_missed shown.listens Missed)
gives_of begun side shown c d (Told fate file) = gives_nothing (Told fate file)
gives_of begun side shown c d Stop = record { octets = inl refl; none = tt }
gives_of begun side shown c d End = record { octets = inl refl; none = tt }

of_line : (line : List ℕ) (timed : TimedLine) (octets : List ℕ) → Says line timed →
    (octets ≡ []) ⊎ (octets ≡ received_octets timed.said) → AreOfLine line octets
of_line line timed octets says (inl none) = inl none
of_line line timed octets says (inr all) = inr (timed, says, all)

-- ---- a turn that is written

-- a station gives bursts, and hears nothing by it
record StaysSo (old new : ConversationFields LimitedFields) : Type 0 where
  framing : new.terminal.framing ≡ old.terminal.framing
  station : new.terminal.speaking.station ≡ old.terminal.speaking.station

gives_next : (side : Side) (lends : BurstsOf LimitedFields) (begun : Bool) (old new : ConversationFields LimitedFields)
    (sent : Option SentBurst) → SendsIfBegun {E = Unit {0}} side lends begun old new (Ok sent) → StaysSo old new
gives_next side lends false old new sent is = record {
  framing = ap (λ (c : ConversationFields LimitedFields). c.terminal.framing) is.0;
  station = ap (λ (c : ConversationFields LimitedFields). c.terminal.speaking.station) is.0;
}
gives_next side lends true old new None is = record {
  framing = is.1;
  station = ap (λ (s : Speaking LimitedFields). s.station) is.0.2.1;
}
gives_next side lends true old new (Some sent) is = record {
  framing = is.1;
  station = ap (λ (s : Speaking LimitedFields). s.station) is.0.2.4;
}

gives_all : (side : Side) (lends : BurstsOf LimitedFields) (old new : ConversationFields LimitedFields) (bursts : List SentBurst) →
    GivesAll side lends old bursts new → StaysSo old new
gives_all side lends old new [] is = gives_next side lends old.begun old new None is
gives_all side lends old new (burst ∷ bursts) is =
    let one = gives_next side lends old.begun old is.0 (Some burst) is.1 in
    let rest = gives_all side lends is.0 new bursts is.2 in
    record { framing = rest.framing ∙ one.framing; station = rest.station ∙ one.station }

stays_through : (old mid new : ConversationFields LimitedFields) → StaysSo old mid → StaysSo mid new → StaysSo old new
stays_through old mid new one rest =
    record { framing = rest.framing ∙ one.framing; station = rest.station ∙ one.station }

withheld_stays : (side : Side) (lends : BurstsOf LimitedFields) (old new : ConversationFields LimitedFields) (late : Bool) →
    Withholds side lends old late new → StaysSo old new
withheld_stays side lends old new false is = record {
  framing = ap (λ (c : ConversationFields LimitedFields). c.terminal.framing) is;
  station = ap (λ (c : ConversationFields LimitedFields). c.terminal.speaking.station) is;
}
withheld_stays side lends old new true (bursts, gives) = gives_all side lends old new bursts gives

stays_so : (caps : Caps) (params : Params) (old new : ConversationFields LimitedFields) (octets : List ℕ) → StaysSo old new →
    Stands caps params old.terminal octets → Stands caps params new.terminal octets
stays_so caps params old new octets same h = record {
  heard = subst (λ f. HasHeard f octets) (sym same.framing) h.heard;
  serves = subst (λ v. Serves caps params v octets) (sym same.station) h.serves;
}

-- ---- a line that is answered

-- after a line: octets that it brought, and what the answerer has come to before its pages are kept
record HeardLine (caps : Caps) (params : Params) (line octets : List ℕ) (new : TerminalFields LimitedFields) : Type 0 where
  here : List ℕ
  of_it : AreOfLine line here
  stands : Stands caps params new (octets ++ here)

-- a call that is stopped with DCN has heard the same, and its answerer has come to the same
dcn_stands : (caps : Caps) (params : Params) (c : ConversationFields LimitedFields) (octets : List ℕ) →
    Stands caps params c.terminal octets → Stands caps params (stopped_so limited_behaviour c).terminal octets
dcn_stands caps params c octets h = record {
  heard = h.heard;
  serves =
      cut_serves caps params c.terminal.speaking.station
      (stopped_so limited_behaviour c).terminal.speaking.station octets StopCut h.serves
      (spoken_by c.terminal.speaking (limited_cut_off StopCut c.terminal.speaking.station)
      (limited_stop_says c.terminal.speaking.station));
}

-- a call that is stopped for a reason, if there is one, has heard the same, and its answerer has come to the same
stopped_stands : (caps : Caps) (params : Params) (c : ConversationFields LimitedFields) (octets : List ℕ) (why : Option StopCause) →
    Stands caps params c.terminal octets → Stands caps params (stopped_for limited_behaviour why c).terminal octets
stopped_stands caps params c octets None h = h
stopped_stands caps params c octets (Some (Refused why)) h = dcn_stands caps params c octets h
stopped_stands caps params c octets (Some TooLong) h = dcn_stands caps params c octets h
stopped_stands caps params c octets (Some NeverQuiet) h = record {
  heard = h.heard;
  serves =
      cut_serves caps params c.terminal.speaking.station
      (silenced_so limited_behaviour c).terminal.speaking.station octets Loss h.serves refl;
}

heard_line : CutsChangeNothing → (caps : Caps) (params : Params) (line octets : List ℕ) (timed : TimedLine)
    (old new : ConversationFields LimitedFields) → Stands caps params old.terminal octets → Says line timed →
    TakesLine LimitedFields limited_behaviour old timed new →
    HeardLine caps params line octets (refused_so limited_behaviour new).terminal
heard_line cuts caps params line octets timed old new h says is =
    let g = gives limited_behaviour old is.shown timed in
    let of = gives_of old.begun limited_behaviour.side is.shown (clock_at old.clock (state_of timed.said) timed.at) old.durations timed.said in
    record {
      here = octets_given g;
      of_it = of_line line timed (octets_given g) says of.octets;
      stands =
          stopped_stands caps params new (octets ++ octets_given g) (stop_in new.watch)
          (given_serves cuts caps params old.terminal new.terminal g is.brought octets of.none h is.given);
    }

-- after a line whose pages were all stored
record StoredLine (P : Type 0) (stores : StoreStep P) (caps : Caps) (params : Params) (line octets : List ℕ)
    (old new : TalkState LimitedFields P) : Type 0 where
  here : List ℕ
  of_it : AreOfLine line here
  pages : List PagePixels
  stored : StoresEach stores old.keeper pages new.keeper
  read : Each (IsReadOf caps (signals_in (octets ++ here))) pages
  stands : Stands caps params new.conversation.terminal (octets ++ here)

stored_line : CutsChangeNothing → StoredIsRead → TakenAndThere → LimitedServes → {P : Type 0} (stores refuses : StoreStep P) (takes : P → Said → Bool) (tells : P → List ℕ) (caps : Caps)
    (params : Params) (line octets : List ℕ) (over : Bool) (old new : TalkState LimitedFields P) →
    Stands caps params old.conversation.terminal octets →
    AnswersNext LimitedFields P (storing stores refuses takes tells) old new line true over → StoredLine P stores caps params line octets old new
stored_line cuts stored there limited {P} stores refuses takes tells caps params line octets over old new h is =
    let a = is.answered in
    let l = heard_line cuts caps params line octets a.timed old.conversation a.heard h a.says a.takes in
    record {
      here = l.here;
      of_it = l.of_it;
      pages = pages_of (refused_so limited_behaviour a.heard);
      stored = a.keeps_so.0;
      read =
          pages_read stored there limited caps params (refused_so limited_behaviour a.heard).terminal.speaking.station (octets ++ l.here)
          l.stands.serves;
      stands =
          stays_so caps params a.ready new.conversation (octets ++ l.here)
          (stays_through a.ready a.left new.conversation (withheld_stays limited_behaviour.side _ a.ready a.left a.late a.withholds)
          (gives_all limited_behaviour.side _ a.left new.conversation a.writes.bursts a.writes.gives))
          (record {
            heard = subst (λ (c : ConversationFields LimitedFields). HasHeard c.terminal.framing (octets ++ l.here)) (sym a.keeps_so.1)
                l.stands.heard;
            serves =
                taken_serves caps params (refused_so limited_behaviour a.heard).terminal.speaking.station a.ready.terminal.speaking.station (octets ++ l.here)
                l.stands.serves (ap (λ (c : ConversationFields LimitedFields). c.terminal.speaking.station) a.keeps_so.1);
          });
    }

-- ---- lines that are answered

stores_append : {P : Type 0} (stores : StoreStep P) (xs ys : List PagePixels) (a b c : P) → StoresEach stores a xs b →
    StoresEach stores b ys c → StoresEach stores a (xs ++ ys) c
stores_append stores [] ys a b c e h = subst (λ p. StoresEach stores p ys c) e h
stores_append stores (x ∷ xs) ys a b c is h = (is.0, is.1, stores_append stores xs ys is.0 b c is.2 h)

each_append : {A : Type 0} (P : A → Type 0) (xs ys : List A) → Each P xs → Each P ys → Each P (xs ++ ys)
each_append P [] ys h k = k
each_append P (x ∷ xs) ys h k = (h.0, each_append P xs ys h.1 k)

-- after lines, of which the octets are such
record After (P : Type 0) (stores : StoreStep P) (caps : Caps) (params : Params) (lines : List (List ℕ)) (octets : List ℕ)
    (old new : TalkState LimitedFields P) : Type 0 where
  here : List ℕ
  of_lines : AreOfLines lines here
  pages : List PagePixels
  stored : StoresEach stores old.keeper pages new.keeper
  read : Each (IsReadOf caps (signals_in (octets ++ here))) pages
  stands : Stands caps params new.conversation.terminal (octets ++ here)

after_none : {P : Type 0} (stores : StoreStep P) (caps : Caps) (params : Params) (octets : List ℕ) (old new : TalkState LimitedFields P) →
    Stands caps params old.conversation.terminal octets → new ≡ old → After P stores caps params [] octets old new
after_none {P} stores caps params octets old new h e = record {
  here = [];
  of_lines = refl;
  pages = [];
  stored = ap (λ (s : TalkState LimitedFields P). s.keeper) e;
  read = tt;
  stands =
      subst (λ (s : TalkState LimitedFields P). Stands caps params s.conversation.terminal (octets ++ [])) (sym e)
      (subst (λ l. Stands caps params old.conversation.terminal l) (sym (append-nil octets)) h);
}

-- a line, and then lines
after_one : CutsChangeNothing → {P : Type 0} (stores : StoreStep P) (caps : Caps) (params : Params) (line : List ℕ) (lines : List (List ℕ))
    (octets : List ℕ) (old mid new : TalkState LimitedFields P) → (one : StoredLine P stores caps params line octets old mid) →
    After P stores caps params lines (octets ++ one.here) mid new → After P stores caps params (line ∷ lines) octets old new
after_one cuts stores caps params line lines octets old mid new one rest = record {
  here = one.here ++ rest.here;
  of_lines = (one.here, rest.here, one.of_it, rest.of_lines, refl);
  pages = one.pages ++ rest.pages;
  stored = stores_append stores one.pages rest.pages old.keeper mid.keeper new.keeper one.stored rest.stored;
  read =
      subst (λ l. Each (IsReadOf caps (signals_in l)) (one.pages ++ rest.pages)) (append_assoc octets one.here rest.here)
      (each_append (IsReadOf caps (signals_in ((octets ++ one.here) ++ rest.here))) one.pages rest.pages
      (all_read_among caps (signals_in (octets ++ one.here)) (signals_in ((octets ++ one.here) ++ rest.here)) one.pages
      (before_more cuts (octets ++ one.here) rest.here) one.read) rest.read);
  stands =
      subst (λ l. Stands caps params new.conversation.terminal l) (append_assoc octets one.here rest.here) rest.stands;
}

after_all : CutsChangeNothing → StoredIsRead → TakenAndThere → LimitedServes → {P : Type 0} (stores refuses : StoreStep P) (takes : P → Said → Bool) (tells : P → List ℕ) (caps : Caps)
    (params : Params) (lines : List (List ℕ)) (octets : List ℕ) (old new : TalkState LimitedFields P) →
    Stands caps params old.conversation.terminal octets → AnswersAll (storing stores refuses takes tells) lines old new →
    After P stores caps params lines octets old new
after_all cuts stored there limited stores refuses takes tells caps params [] octets old new h is = after_none stores caps params octets old new h is
after_all cuts stored there limited stores refuses takes tells caps params (line ∷ lines) octets old new h is =
    let one = stored_line cuts stored there limited stores refuses takes tells caps params line octets false old is.0 h is.1 in
    after_one cuts stores caps params line lines octets old is.0 new one
    (after_all cuts stored there limited stores refuses takes tells caps params lines (octets ++ one.here) is.0 new one.stands is.2)

-- a line after lines
of_more : (lines : List (List ℕ)) (line octets here : List ℕ) → AreOfLines lines octets → AreOfLine line here →
    AreOfLines (lines ++ line ∷ []) (octets ++ here)
of_more [] line octets here e of =
    subst (λ (o : List ℕ). AreOfLines (line ∷ []) (o ++ here)) (sym e) (here, [], of, refl, sym (append-nil here))
of_more (first ∷ lines) line octets here is of = (
  is.0,
  is.1 ++ here,
  is.2,
  of_more lines line is.1 here is.3 of,
  ap (λ (o : List ℕ). o ++ here) is.4 ∙ append_assoc is.0 is.1 here,
)

-- ---- from the start

starts_so : (caps : Caps) (c : ConversationFields LimitedFields) → (new : IsNewAnswerer caps c) →
    Stands caps new.params c.terminal []
unfolding contents Packed.bits_in Flags.gaps Flags.flags
starts_so caps c new = record {
  heard = new.framing;
  serves = record { happens = []; station = new.station; told = new.told; among = λ signal h. absurd (omega (arith, h.1)) };
}

pub stored_is_said : CutsChangeNothing → StoredIsRead → TakenAndThere → LimitedServes → {P : Type 0} (stores refuses : StoreStep P) →
    StoredIsSaid P stores refuses
stored_is_said cuts stored there limited stores refuses takes tells caps lines old new is all =
    let a = after_all cuts stored there limited stores refuses takes tells caps is.params lines [] old new (starts_so caps old.conversation is) all in
    record { octets = a.here; of_lines = a.of_lines; pages = a.pages; stored = a.stored; read = a.read }

pub last_is_said : CutsChangeNothing → StoredIsRead → TakenAndThere → LimitedServes → {P : Type 0} (stores refuses : StoreStep P) →
    LastIsSaid P stores refuses
last_is_said cuts stored there limited stores refuses takes tells caps lines old mid new line over is all last =
    let a = after_all cuts stored there limited stores refuses takes tells caps is.params lines [] old mid (starts_so caps old.conversation is) all in
    let one = stored_line cuts stored there limited stores refuses takes tells caps is.params line a.here over mid new a.stands last in
    record {
      octets = a.here ++ one.here;
      of_lines = of_more lines line a.here one.here a.of_lines one.of_it;
      pages = a.pages ++ one.pages;
      stored = stores_append stores a.pages one.pages old.keeper mid.keeper new.keeper a.stored one.stored;
      read =
          each_append (IsReadOf caps (signals_in (a.here ++ one.here))) a.pages one.pages
          (all_read_among caps (signals_in a.here) (signals_in (a.here ++ one.here)) a.pages (before_more cuts a.here one.here) a.read)
          one.read;
    }

pub line_is_said : CutsChangeNothing → StoredIsRead → TakenAndThere → LimitedServes → {P : Type 0} (stores refuses : StoreStep P) →
    LineIsSaid P stores refuses
line_is_said cuts stored there limited stores refuses takes tells caps lines old mid line timed heard is all says taken =
    let a = after_all cuts stored there limited stores refuses takes tells caps is.params lines [] old mid (starts_so caps old.conversation is) all in
    let l = heard_line cuts caps is.params line a.here timed mid.conversation heard a.stands says taken in
    record {
      octets = a.here ++ l.here;
      of_lines = of_more lines line a.here l.here a.of_lines l.of_it;
      pages = a.pages;
      stored = a.stored;
      read =
          each_append (IsReadOf caps (signals_in (a.here ++ l.here))) a.pages (pages_of (refused_so limited_behaviour heard))
          (all_read_among caps (signals_in a.here) (signals_in (a.here ++ l.here)) a.pages (before_more cuts a.here l.here) a.read)
          (pages_read stored there limited caps is.params (refused_so limited_behaviour heard).terminal.speaking.station (a.here ++ l.here)
          l.stands.serves);
    }

each_front : {A : Type 0} (P : A → Type 0) (xs ys : List A) → Each P (xs ++ ys) → Each P xs
each_front P [] ys h = tt
each_front P (x ∷ xs) ys h = (h.0, each_front P xs ys h.1)

pub refused_is_last : CutsChangeNothing → StoredIsRead → TakenAndThere → LimitedServes → {P : Type 0} (stores refuses : StoreStep P) →
    RefusedIsLast P stores refuses
refused_is_last cuts stored there limited stores refuses takes tells caps lines old mid new line over is all last =
    let a = after_all cuts stored there limited stores refuses takes tells caps is.params lines [] old mid (starts_so caps old.conversation is) all in
    let w = last.answered in
    let l = heard_line cuts caps is.params line a.here w.timed mid.conversation w.heard a.stands w.says w.takes in
    let some = w.keeps_so.0 in (
      some.3,
      some.1,
      record {
        octets = a.here ++ l.here;
        of_lines = of_more lines line a.here l.here a.of_lines l.of_it;
        pages = a.pages ++ some.0;
        stored = stores_append stores a.pages some.0 old.keeper mid.keeper some.3 a.stored some.5;
        read =
            each_append (IsReadOf caps (signals_in (a.here ++ l.here))) a.pages some.0
            (all_read_among caps (signals_in a.here) (signals_in (a.here ++ l.here)) a.pages (before_more cuts a.here l.here) a.read)
            (each_front (IsReadOf caps (signals_in (a.here ++ l.here))) some.0 (some.1 ∷ some.2)
            (subst (λ (ps : List PagePixels). Each (IsReadOf caps (signals_in (a.here ++ l.here))) ps) some.4
            (pages_read stored there limited caps is.params (refused_so limited_behaviour w.heard).terminal.speaking.station (a.here ++ l.here) l.stands.serves)));
      },
      some.6,
    )

-- What happens to the answerer's conversation happens to its terminal.
use Rattle.std.proofs.Common.{◌≡◌, ◌++◌, ◌∷◌, ◌+◌, [], List, Bool, true, false, Option, Some, None, Ok, Err, inl, inr, ◌⊎◌, refl, ap, sym, subst, ◌∙◌}
use Rattle.std.proofs.Common.{append_assoc, append-nil}
use Rattle.std.specs.Prelude.{◌&&◌}
use Rattle.conversations.specs.Answering.{limited_behaviour, pages_of}
use Rattle.conversations.specs.Conversations.{ConversationFields, Gives, LosesFrames, PlainGiven, gives, hung_up_so, silenced_so, stopped_for}
use Rattle.conversations.specs.Conversations.{stopped_so}
use Rattle.conversations.specs.Conversations.{nothing, stopping, losing, frames, input}
use Rattle.conversations.specs.Refusing.{stop_in}
use Rattle.conversations.specs.declared.line.TimedLine.{TimedLine}
use Rattle.hdlc.specs.DeframerState.{DeframerState}
use Rattle.raster.specs.Pages.{PagePixels}
use Rattle.signals.specs.declared.signal.Side.TheVariants.{Answerer as AnswererSide}
use Rattle.stations.specs.Inputs.{PlainItem}
use Rattle.stations.specs.Limiting.{LimitedFields}
use Rattle.terminals.specs.Hearing.{PlainInput, said, check, over, busy}
use Rattle.terminals.specs.Runs.{TerminalFields}
use Rattle.terminals.specs.Speaking.{Speaking, Takes, is_silent}
use Rattle.terminals.specs.Stations.{AnswererLends}
use Rattle.terminals.specs.Stopping.{hung_up, limited_cut_off, limited_stop_says, silenced, stopped}
use Rattle.terminals.specs.Stopping.{with_pages_taken as without_its_pages}
use Rattle.terminals.specs.declared.fault.HearFault.TheVariants.{FrameLost}
use Rattle.terminals.specs.declared.sending.SentBurst.{SentBurst}
use Rattle.conversations.specs.declared.refusing.StopCause.{StopCause}
use Rattle.conversations.specs.declared.refusing.StopCause.TheVariants.{Refused, TooLong, NeverQuiet}
use Rattle.joined_terminals.specs.Happening.Happening.{answerer_hangs_up, answerer_lost, answerer_sends, answerer_stops, answerer_waits}
use Rattle.joined_terminals.specs.Happening.Happening.{comes_to_answerer, lines_lose, pages_taken, program_says}
use Rattle.joined_terminals.specs.Joining.{AnswererMakes, answerer_begins, if_clear}
use Rattle.joined_terminals.specs.Octets.{IsPiece, Terminals}
use Rattle.joined_terminals.specs.Octets.LineHappening.{answerer_hears, other}
use Rattle.joined_terminals.specs.Driven.{Driven, answerer_speaks, joined, terminals}
use Rattle.joined_terminals.specs.Steps.{AnswererGives, AnswererIsGiven, AnswererRefusesLine, AnswererTakesLine, Comes, TurnsSo}
use Rattle.joined_terminals.specs.Steps.{RefusesPage, StoresPages, silent_unless}
use Rattle.joined_terminals.proofs.DrivenCallers.{given_next}
use Rattle.joined_terminals.proofs.DrivenWays.{Way, all_left, both, by, each_appended, some_left, stays}

-- both terminals after the answerer's is this, with these items left, by whether its turns are silence
abbrev pub after_answerer : Driven → DeframerState → Speaking LimitedFields → List PlainItem → Bool → Terminals
after_answerer d framing speaking others silent =
    record (terminals d) {
      joined = answerer_begins silent (record (joined d) { answerer = speaking; to_answerer = others });
      answerer_framing = framing;
    }

spoke : (silent : Bool) (d : Driven) (answerer : ConversationFields LimitedFields) (others : List PlainItem) →
    terminals (answerer_speaks silent (record d { answerer = answerer; to_answerer = others })) ≡
    after_answerer d answerer.terminal.framing answerer.terminal.speaking others silent
spoke true d answerer others = refl
spoke false d answerer others = refl

-- what an answerer's terminal was given leads there
module _ (d : Driven) where
  same : (framing : DeframerState) (one two : Speaking LimitedFields) (xs ys : List PlainItem) (s t : Bool) →
      framing ≡ d.answerer.terminal.framing → one ≡ two → xs ≡ ys → s ≡ t →
      after_answerer d framing one xs s ≡ after_answerer d d.answerer.terminal.framing two ys t
  same framing one two xs ys s t e f g h =
      ap (λ x. after_answerer d x one xs s) e ∙
      (ap (λ x. after_answerer d d.answerer.terminal.framing x xs s) f ∙
      (ap (λ x. after_answerer d d.answerer.terminal.framing two x s) g ∙ ap (λ x. after_answerer d d.answerer.terminal.framing two ys x) h))

  framed_so : (framing : DeframerState) (speaking : Speaking LimitedFields) (others : List PlainItem) (silent : Bool) →
      framing ≡ d.answerer.terminal.framing →
      Way (terminals d) (after_answerer d d.answerer.terminal.framing speaking others silent) →
      Way (terminals d) (after_answerer d framing speaking others silent)
  framed_so framing speaking others silent e way =
      subst (λ f. Way (terminals d) (after_answerer d f speaking others silent)) (sym e) way

  takes_input : (new : TerminalFields LimitedFields) (x : PlainInput) (others : List PlainItem) (silent : Bool) →
      Comes IsPiece d.answerer.terminal.framing d.to_answerer (input x) others →
      (takes : Takes LimitedFields AnswererMakes d.answerer.terminal.speaking x new.speaking) → silent ≡ is_silent takes.turn →
      Way (terminals d) (after_answerer d d.answerer.terminal.framing new.speaking others silent)
  takes_input new (said signal) others silent comes takes e =
      by (other comes_to_answerer) (terminals d) (after_answerer d d.answerer.terminal.framing new.speaking others silent) (
        record {
          input = said signal;
          others = others;
          first = comes;
          takes = record {
            answerer = new.speaking;
            takes = takes;
            is = ap (λ s. answerer_begins s (record (joined d) { answerer = new.speaking; to_answerer = others })) e;
          };
        },
        refl,
        refl,
      )
  takes_input new (check octets) others silent comes takes e =
      by (other comes_to_answerer) (terminals d) (after_answerer d d.answerer.terminal.framing new.speaking others silent) (
        record {
          input = check octets;
          others = others;
          first = comes;
          takes = record {
            answerer = new.speaking;
            takes = takes;
            is = ap (λ s. answerer_begins s (record (joined d) { answerer = new.speaking; to_answerer = others })) e;
          };
        },
        refl,
        refl,
      )
  takes_input new (over wait) others silent comes takes e =
      by (other (answerer_waits wait)) (terminals d) (after_answerer d d.answerer.terminal.framing new.speaking others silent) (
        record {
          answerer = new.speaking;
          takes = takes;
          is = ap (λ (t : Terminals). t.joined)
              (same d.answerer.terminal.framing new.speaking new.speaking others d.to_answerer silent (is_silent takes.turn) refl refl comes e);
        },
        refl,
        refl,
      )
  takes_input new (busy is) others silent comes takes e =
      by (other (program_says is)) (terminals d) (after_answerer d d.answerer.terminal.framing new.speaking others silent) (
        record {
          answerer = new.speaking;
          takes = takes;
          is = ap (λ (t : Terminals). t.joined)
              (same d.answerer.terminal.framing new.speaking new.speaking others d.to_answerer silent (is_silent takes.turn) refl refl comes e);
        },
        refl,
        refl,
      )

  given_so : (new : TerminalFields LimitedFields) (given : PlainGiven) (brought : Bool) (others : List PlainItem) (silent : Bool) →
      Gives limited_behaviour d.answerer.terminal given new brought →
      (comes : Comes IsPiece d.answerer.terminal.framing d.to_answerer given others) →
      TurnsSo limited_behaviour IsPiece d.answerer.terminal d.to_answerer others given comes new silent →
      Way (terminals d) (after_answerer d new.framing new.speaking others silent)
  given_so new nothing brought others silent gives comes turns =
      stays (terminals d) (after_answerer d new.framing new.speaking others silent)
      (same new.framing new.speaking d.answerer.terminal.speaking others d.to_answerer silent true
      (ap (λ (t : TerminalFields LimitedFields). t.framing) gives.0)
      (ap (λ (t : TerminalFields LimitedFields). t.speaking) gives.0) comes turns)
  given_so new stopping brought others silent gives comes turns =
      framed_so new.framing new.speaking others silent gives.0
      (by (other answerer_stops) (terminals d) (after_answerer d d.answerer.terminal.framing new.speaking others silent) (
        ap (λ (t : Terminals). t.joined)
            (same d.answerer.terminal.framing new.speaking (stopped limited_cut_off limited_stop_says d.answerer.terminal.speaking) others
            d.to_answerer silent (is_silent (limited_stop_says d.answerer.terminal.speaking.station)) refl gives.1 comes turns),
        refl,
        refl,
      ))
  given_so new losing brought others silent gives comes turns =
      framed_so new.framing new.speaking others silent gives.0
      (by (other answerer_lost) (terminals d) (after_answerer d d.answerer.terminal.framing new.speaking others silent) (
        ap (λ (t : Terminals). t.joined)
            (same d.answerer.terminal.framing new.speaking (silenced limited_cut_off d.answerer.terminal.speaking) others d.to_answerer silent true
            refl gives.1 comes turns),
        refl,
        refl,
      ))
  given_so new (frames octets) brought others silent gives comes turns =
      by answerer_hears (terminals d) (after_answerer d new.framing new.speaking others silent)
      (record {
        octets = octets;
        before = comes.0;
        heard_before = comes.1;
        answerer = new;
        result = Ok tt;
        hears = gives.0;
        others = others;
        comes = comes.2;
        silent = silent;
        taken = turns;
        is = refl;
      })
  given_so new (input x) brought others silent gives comes turns =
      framed_so new.framing new.speaking others silent gives.0 (takes_input new x others silent comes turns.0 turns.1)

  lost_so : (new : TerminalFields LimitedFields) (given : PlainGiven) (others : List PlainItem) (silent : Bool) →
      LosesFrames limited_behaviour d.answerer.terminal given new →
      (comes : Comes IsPiece d.answerer.terminal.framing d.to_answerer given others) →
      TurnsSo limited_behaviour IsPiece d.answerer.terminal d.to_answerer others given comes new silent →
      Way (terminals d) (after_answerer d new.framing new.speaking others silent)
  lost_so new (frames octets) others silent loses comes turns =
      by answerer_hears (terminals d) (after_answerer d new.framing new.speaking others silent)
      (record {
        octets = octets;
        before = comes.0;
        heard_before = comes.1;
        answerer = new;
        result = Err FrameLost;
        hears = loses;
        others = others;
        comes = comes.2;
        silent = silent;
        taken = turns;
        is = refl;
      })
  lost_so new nothing others silent loses comes turns = absurd loses
  lost_so new stopping others silent loses comes turns = absurd loses
  lost_so new losing others silent loses comes turns = absurd loses
  lost_so new (input x) others silent loses comes turns = absurd loses

  pub is_given : (new : Driven) (given : PlainGiven) (brought : Bool) (answerer : ConversationFields LimitedFields) →
      Gives limited_behaviour d.answerer.terminal given answerer.terminal brought → AnswererIsGiven given d answerer new →
      Way (terminals d) (terminals new)
  is_given new given brought answerer gives h =
      subst (λ (x : Driven). Way (terminals d) (terminals x)) (sym h.is)
      (subst (λ t. Way (terminals d) t) (sym (spoke h.silent d answerer h.others))
      (given_so answerer.terminal given brought h.others h.silent gives h.comes h.turns))

  pub takes_line : (new : Driven) (line : TimedLine) → AnswererTakesLine line d new → Way (terminals d) (terminals new)
  takes_line new line h = is_given new (gives limited_behaviour d.answerer h.takes.shown line) h.takes.brought h.answerer h.takes.given h.given

  pub refuses_line : (new : Driven) (line : TimedLine) → AnswererRefusesLine line d new → Way (terminals d) (terminals new)
  refuses_line new line h = at h.given
    where
      at : ((h.answerer.terminal ≡ d.answerer.terminal) × (new ≡ record d { answerer = h.answerer })) ⊎
          (LosesFrames limited_behaviour d.answerer.terminal (gives limited_behaviour d.answerer h.refuses.shown line) h.answerer.terminal ×
          AnswererIsGiven (gives limited_behaviour d.answerer h.refuses.shown line) d h.answerer new) → Way (terminals d) (terminals new)
      at (inl e) =
          stays (terminals d) (terminals new)
          (ap terminals e.1 ∙
          same h.answerer.terminal.framing h.answerer.terminal.speaking d.answerer.terminal.speaking d.to_answerer d.to_answerer true true
          (ap (λ (t : TerminalFields LimitedFields). t.framing) e.0)
          (ap (λ (t : TerminalFields LimitedFields). t.speaking) e.0) refl refl)
      at (inr p) =
          subst (λ (x : Driven). Way (terminals d) (terminals x)) (sym p.1.is)
          (subst (λ t. Way (terminals d) t) (sym (spoke p.1.silent d h.answerer p.1.others))
          (lost_so h.answerer.terminal (gives limited_behaviour d.answerer h.refuses.shown line) p.1.others p.1.silent p.0 p.1.comes p.1.turns))

  -- the call is stopped
  stops_so : Way (terminals d)
      (terminals
      (answerer_speaks (is_silent (limited_behaviour.stop_says d.answerer.terminal.speaking.station))
      (record d { answerer = stopped_so limited_behaviour d.answerer })))
  stops_so =
      let silent : Bool = is_silent (limited_stop_says d.answerer.terminal.speaking.station) in
      subst (λ t. Way (terminals d) t) (sym (spoke silent d (stopped_so limited_behaviour d.answerer) d.to_answerer))
      (by (other answerer_stops) (terminals d)
      (after_answerer d d.answerer.terminal.framing (stopped limited_cut_off limited_stop_says d.answerer.terminal.speaking) d.to_answerer silent)
      (refl, refl, refl))

  -- the call is given up in silence
  gives_up_so : Way (terminals d) (terminals (record d { answerer = silenced_so limited_behaviour d.answerer }))
  gives_up_so =
      subst (λ t. Way (terminals d) t) (sym (spoke true d (silenced_so limited_behaviour d.answerer) d.to_answerer))
      (by (other answerer_lost) (terminals d)
      (after_answerer d d.answerer.terminal.framing (silenced limited_cut_off d.answerer.terminal.speaking) d.to_answerer true)
      (refl, refl, refl))

  watched_so : (why : Option StopCause) → Way (terminals d)
      (terminals
      (answerer_speaks (silent_unless why (is_silent (limited_behaviour.stop_says d.answerer.terminal.speaking.station)))
      (record d { answerer = stopped_for limited_behaviour why d.answerer })))
  watched_so None = stays (terminals d) (terminals d) refl
  watched_so (Some (Refused why)) = stops_so
  watched_so (Some TooLong) = stops_so
  watched_so (Some NeverQuiet) = gives_up_so

  pub watches : (new : Driven) →
      new ≡
      answerer_speaks (silent_unless (stop_in d.answerer.watch) (is_silent (limited_behaviour.stop_says d.answerer.terminal.speaking.station)))
      (record d { answerer = stopped_for limited_behaviour (stop_in d.answerer.watch) d.answerer }) → Way (terminals d) (terminals new)
  watches new e = subst (λ (x : Driven). Way (terminals d) (terminals x)) (sym e) (watched_so (stop_in d.answerer.watch))

  -- a page is lost
  pub page_lost : (new : Driven) →
      new ≡
      answerer_speaks (is_silent (limited_behaviour.stop_says d.answerer.terminal.speaking.station))
      (record d { answerer = stopped_so limited_behaviour d.answerer }) → Way (terminals d) (terminals new)
  page_lost new e = subst (λ (x : Driven). Way (terminals d) (terminals x)) (sym e) stops_so

  -- the answerer hangs up
  pub hangs_up : (new : Driven) → new ≡ answerer_speaks false (record d { answerer = hung_up_so limited_cut_off d.answerer }) →
      Way (terminals d) (terminals new)
  hangs_up new e =
      subst (λ (x : Driven). Way (terminals d) (terminals x)) (sym e)
      (by (other answerer_hangs_up) (terminals d)
      (after_answerer d d.answerer.terminal.framing (hung_up limited_cut_off d.answerer.terminal.speaking) d.to_answerer false)
      (refl, refl, refl))

  -- both terminals after the pages left the answerer
  abbrev taken : Terminals
  taken =
      record (terminals d) {
        joined = record (joined d) {
          answerer = without_its_pages d.answerer.terminal.speaking;
          pages = (d.stored ++ d.unkept) ++ pages_of d.answerer;
        };
      }

  takes_out : Way (terminals d) taken
  takes_out = by (other pages_taken) (terminals d) taken (refl, refl, refl)

  -- pages that are stored, or refused after these, are those of the answerer
  are_pages : (front rest stored : List PagePixels) → d.unkept ≡ [] → stored ≡ d.stored ++ front → pages_of d.answerer ≡ front ++ rest →
      stored ++ rest ≡ (d.stored ++ d.unkept) ++ pages_of d.answerer
  are_pages front rest stored none e split =
      ap (λ l. l ++ rest) e ∙
      (append_assoc d.stored front rest ∙
      (ap (λ l. d.stored ++ l) (sym split) ∙
      ap (λ l. l ++ pages_of d.answerer) (sym (ap (λ l. d.stored ++ l) none ∙ append-nil d.stored))))

  pub stores : (new : Driven) → StoresPages d new → Way (terminals d) (terminals new)
  stores new h =
      let e : h.stored ++ d.unkept ≡ (d.stored ++ d.unkept) ++ pages_of d.answerer =
      are_pages (pages_of d.answerer) d.unkept h.stored h.all_kept (each_appended d.stored (pages_of d.answerer) h.stored h.stores)
      (sym (ap (λ l. pages_of d.answerer ++ l) h.all_kept ∙ append-nil (pages_of d.answerer))) in
      subst (λ t. Way (terminals d) t)
      (ap (λ l. record taken { joined = record (taken.joined) { pages = l } }) (sym e) ∙ sym (ap terminals h.is)) takes_out

  pub refuses : (new : Driven) → RefusesPage d new → Way (terminals d) (terminals new)
  refuses new h =
      let rest : List PagePixels = h.refused ∷ h.rest in
      let e : h.stored ++ rest ≡ (d.stored ++ d.unkept) ++ pages_of d.answerer =
      are_pages h.front rest h.stored h.all_kept (each_appended d.stored h.front h.stored h.stores) h.split in
      let last : Terminals =
      record taken { joined = answerer_begins false (record (taken.joined) { answerer = hung_up limited_cut_off taken.joined.answerer }) } in
      subst (λ t. Way (terminals d) t)
      (ap (λ l. record last { joined = record (last.joined) { pages = l } }) (sym e) ∙ sym (ap terminals h.is))
      (both (terminals d) taken last takes_out (by (other answerer_hangs_up) taken last (refl, refl, refl)))

  -- a burst is given, and what of it goes onto the line
  pub gives_burst : (new : Driven) (sent : SentBurst) (sends : Bool) → AnswererGives sent sends d new → Way (terminals d) (terminals new)
  gives_burst new sent sends h =
      let is = given_next AnswererSide (λ v turn bursts. AnswererLends v.station turn bursts) d.answerer h.answerer sent d.answerer.begun h.gives in
      let mid : Terminals =
      record (terminals d) {
        joined = record (joined d) {
          answerer = record d.answerer.terminal.speaking { taken = d.answerer.terminal.speaking.taken + 1 };
          to_caller = d.to_caller ++ if_clear d.answerer_clear h.burst.items;
        };
      } in
      both (terminals d) mid (terminals new)
      (by (other answerer_sends) (terminals d) mid
      (record { bursts = h.bursts; lent = h.lent; burst = h.burst; later = h.later; next = h.next; is = refl }, refl, refl))
      (by (other lines_lose) mid (terminals new) (
        record {
          to_answerer = d.to_answerer;
          to_caller = d.to_caller ++ if_clear (sends && d.answerer_clear) h.burst.items;
          answerers = all_left d.to_answerer;
          callers = some_left sends d.answerer_clear d.to_caller h.burst.items;
          is = ap joined h.is ∙ ap (λ (s : Speaking LimitedFields). record (joined d) {
            answerer = s;
            to_caller = d.to_caller ++ if_clear (sends && d.answerer_clear) h.burst.items;
          }) is.speaking;
        },
        ap (λ (x : Driven). x.caller.terminal.framing) h.is,
        ap (λ (x : Driven). x.answerer.terminal.framing) h.is ∙ is.framing,
      ))

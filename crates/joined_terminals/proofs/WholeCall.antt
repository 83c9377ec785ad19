-- A call goes on: a burst that a terminal gives is heard by the other one.
use Rattle.std.proofs.Common.{◌≡◌, ◌⊎◌, inl, inr, ℕ, zero, suc, ◌+◌, ◌≤◌, ◌<◌, Bool, true, false, cond, Option, Some, None, List, [], ◌∷◌, ◌++◌, map}
use Rattle.std.proofs.Common.{length, refl, ap, sym, subst, ◌∙◌, append-nil, arith}
use Rattle.std.proofs.Math.Numerals.{add-one}
use Rattle.std.specs.Prelude.{◌≢◌, Ok, drop, IsTrue, not}
use Rattle.std.specs.declared.alloc.AllocError.{AllocError}
use Rattle.signals.specs.declared.params.Caps.{Caps}
use Rattle.signals.specs.declared.params.Params.{Params}
use Rattle.signals.specs.declared.params.Speed.{Speed}
use Rattle.signals.specs.declared.params.Wish.{Wish}
use Rattle.signals.specs.declared.signal.Side.TheVariants.{Caller as CallerSide, Answerer as AnswererSide}
use Rattle.stations.specs.AnswererStep.{answerer_items}
use Rattle.stations.specs.Bursts.{PlainBurst, TurnsCut, bursts_of}
use Rattle.stations.specs.CallerFields.{Represents}
use Rattle.stations.specs.CallerStep.{caller_items, new_caller, no_caps, no_params}
use Rattle.stations.specs.Inputs.{PlainItem, checked}
use Rattle.stations.specs.Laws.{Each}
use Rattle.stations.specs.Layers.{Document, training}
use Rattle.stations.specs.Limiting.{LimitedFields}
use Rattle.stations.specs.Stopping.{StoppableCallerFields, call_end}
use Rattle.stations.specs.declared.carrier.Carrier.{Carrier}
use Rattle.stations.specs.declared.carrier.Carrier.TheVariants.{Training, V21, Page}
use Rattle.stations.specs.declared.limiting.Limits.{Limits}
use Rattle.stations.specs.declared.stopping.CallEnd.TheVariants.{By}
use Rattle.stations.specs.declared.stopping.Cut.{Cut}
use Rattle.stations.specs.declared.stopping.Cut.TheVariants.{Stop, Loss}
use Rattle.stations.specs.declared.turn.End.{End}
use Rattle.stations.specs.declared.turn.End.TheVariants.{Normal}
use Rattle.terminals.specs.Bursts.{AnswerersSendOne}
use Rattle.terminals.specs.Hearing.{HasHeard, check, heard_of}
use Rattle.terminals.specs.Runs.{Hears, TerminalFields}
use Rattle.terminals.specs.Saying.{limited_lends, stoppable_lends}
use Rattle.terminals.specs.Sending.{HasBurst, IsSent, Sends}
use Rattle.terminals.specs.Speaking.{Speaking, Takes, is_silent}
use Rattle.terminals.specs.Stations.{AnswererLends, CallerLends}
use Rattle.terminals.specs.Writable.{HasWholeMap, MapsAreWhole}
use Rattle.terminals.specs.Stopping.{CallerShows, LimitedShows}
use Rattle.terminals.specs.declared.sending.SentBurst.{SentBurst}
use Rattle.terminals.specs.declared.stopping.Shown.{Shown}
use Rattle.joined_terminals.specs.Calls.{AreNew}
use Rattle.joined_terminals.specs.Coming.{SentBurstsCome}
use Rattle.joined_terminals.specs.Happening.{FirstComes}
use Rattle.joined_terminals.specs.Happening.Happening.{answerer_sends, caller_sends, comes_to_answerer}
use Rattle.joined_terminals.specs.Joining.{AnswererMakes, CallerMakes, Joined, answerer_begins, caller_begins, if_clear}
use Rattle.joined_terminals.specs.Octets.{HearingTakes, IsFramed, LeadsTerminals, LineHappening, NoneOpen, PieceComes, Terminals}
use Rattle.joined_terminals.specs.Octets.LineHappening.{answerer_hears, caller_hears, other}
use Rattle.joined_terminals.specs.Safety.{TerminalsAreSafe}
use Rattle.joined_terminals.specs.Steps.{IsOneAtMost}
use Rattle.joined_terminals.specs.WholeCall.{CallComes, CallerHasNone, GoesOn, HearsBy, IsSoFar, with_free_line}
use Rattle.joined_terminals.proofs.CallChecks.{IsFramesOrCheck, callers_say, check_arrives}
use Rattle.joined_terminals.proofs.Coming.{at_drop}
use Rattle.joined_terminals.proofs.KeptTurns.{HasNone, Kept, caller_kept, one_kept, takes_kept}
use Rattle.joined_terminals.proofs.Left.{drop_next}

-- what happens first, and then
leads_on : (xs ys : List LineHappening) (a b c : Terminals) → LeadsTerminals xs a b → LeadsTerminals ys b c → LeadsTerminals (xs ++ ys) a c
leads_on [] ys a b c h k = subst (λ (x : Terminals). LeadsTerminals ys x c) h k
leads_on (x ∷ xs) ys a b c h k = (h.0, h.1, leads_on xs ys h.0 b c h.2 k)

-- of one at most none is left after one
none_after : {A : Type 0} (n : ℕ) (xs : List A) (y : A) (ys : List A) → length xs ≤ 1 → drop n xs ≡ y ∷ ys → drop (suc n) xs ≡ []
none_after n [] y ys few e = refl
none_after zero (x ∷ []) y ys few e = refl
none_after (suc n) (x ∷ []) y ys few e = refl
none_after n (x ∷ z ∷ more) y ys few e = absurd (omega (arith, few))

-- a turn that has a burst left gets onto the line
is_clear : {A : Type 0} (clear : Bool) (n : ℕ) (xs : List A) (y : A) (ys : List A) → (clear ≡ true) ⊎ (drop n xs ≡ []) → drop n xs ≡ y ∷ ys →
    clear ≡ true
is_clear clear n xs y ys (inl e) next = e
is_clear clear n xs y ys (inr none) next = absurd (cc)

-- a burst that gets onto a free line is all that is there
on_line : (clear : Bool) (items : List PlainItem) → clear ≡ true → items ++ [] ≡ [] ++ if_clear clear items
on_line clear items e = append-nil items ∙ ap (λ c. if_clear c items) (sym e)

-- whether bursts of a turn get onto the line, after another station's
may : (silent clear : Bool) (P Q : Type 0) → (silent ≡ true → P → Q) → (clear ≡ true) ⊎ P → (cond silent clear true ≡ true) ⊎ Q
may true clear P Q f (inl e) = inl e
may true clear P Q f (inr p) = inr (f refl p)
may false clear P Q f h = inl refl

-- both terminals, one of which has given its next burst
abbrev one_taken : {S : Type 0} → TerminalFields S → TerminalFields S
one_taken terminal = record terminal { speaking = record terminal.speaking { taken = terminal.speaking.taken + 1 } }

answerer_gave : TerminalFields StoppableCallerFields → TerminalFields LimitedFields → Bool → Bool → List PlainItem → Terminals
answerer_gave caller answerer caller_clear answerer_clear items =
    let free = with_free_line caller (one_taken answerer) caller_clear answerer_clear in
    record free { joined = record free.joined { to_caller = [] ++ if_clear answerer_clear items } }

caller_gave : TerminalFields StoppableCallerFields → TerminalFields LimitedFields → Bool → Bool → List PlainItem → Terminals
caller_gave caller answerer caller_clear answerer_clear items =
    let free = with_free_line (one_taken caller) answerer caller_clear answerer_clear in
    record free { joined = record free.joined { to_answerer = [] ++ if_clear caller_clear items } }

-- a caller that has heard all that was on its way
caller_has : (silent : Bool) (caller heard : TerminalFields StoppableCallerFields) (answerer : TerminalFields LimitedFields) (first second : Bool)
    (items : List PlainItem) →
    with_free_line heard (one_taken answerer) (cond silent first true) (cond silent second false) ≡
    record (answerer_gave caller answerer first second items) {
      joined =
          caller_begins silent
          (record (answerer_gave caller answerer first second items).joined { caller = heard.speaking; to_caller = [] });
      caller_framing = heard.framing;
    }
unfolding answerer_gave
caller_has true caller heard answerer first second items = refl
caller_has false caller heard answerer first second items = refl

-- an answerer that has heard all that was on its way
answerer_has : (silent : Bool) (caller : TerminalFields StoppableCallerFields) (answerer heard : TerminalFields LimitedFields) (first second : Bool)
    (items : List PlainItem) →
    with_free_line (one_taken caller) heard (cond silent first false) (cond silent second true) ≡
    record (caller_gave caller answerer first second items) {
      joined =
          answerer_begins silent
          (record (caller_gave caller answerer first second items).joined { answerer = heard.speaking; to_answerer = [] });
      answerer_framing = heard.framing;
    }
unfolding caller_gave
answerer_has true caller answerer heard first second items = refl
answerer_has false caller answerer heard first second items = refl

module _ (document : Document) (wish : Wish) (caps : Caps) (limits : Limits) (law : SentBurstsCome) (hearing : HearingTakes) where
  -- the answerer's burst is heard
  pub answerer_said : AnswerersSendOne → (caller heard : TerminalFields StoppableCallerFields) (answerer : TerminalFields LimitedFields)
      (sent : SentBurst) (bursts : List PlainBurst) (burst : PlainBurst) (later : List PlainBurst) →
      AnswererLends answerer.speaking.station.station answerer.speaking.turn bursts →
      drop answerer.speaking.taken bursts ≡ burst ∷ later → IsSent AnswererSide burst later sent →
      Hears CallerMakes stoppable_lends caller sent.octets.items heard (Ok tt) → IsSoFar document wish caps limits caller answerer →
      IsSoFar document wish caps limits heard (one_taken answerer)
  unfolding answerer_gave
  answerer_said one caller heard answerer sent bursts burst later lent next is hears s =
      let before : List ℕ = s.caller_heard.0 in
      let its : List PlainBurst =
      bursts_of answerer.speaking.station.station.params.speed (answerer_items answerer.speaking.station.station answerer.speaking.turn) in
      let its_next : drop answerer.speaking.taken its ≡ burst ∷ later = ap (λ l. drop answerer.speaking.taken l) (sym lent) ∙ next in
      let clear : s.answerer_clear ≡ true =
      is_clear s.answerer_clear answerer.speaking.taken its burst later s.answerer_sends its_next in
      let r = law.answerer answerer.speaking.station.station answerer.speaking.turn bursts later answerer.speaking.taken burst sent before []
      s.map lent next is s.caller_heard.2 in
      let h = hears before s.caller_heard.1 in
      let t = hearing.caller caller heard sent.octets.items before (Ok tt) hears s.caller_heard.1 in
      let k = caller_kept (heard_of before sent.octets.items) caller.speaking heard.speaking t.0 s.tuple t.1 s.represents in
      let comes = subst (λ items. (comes : PieceComes items (heard_of before sent.octets.items) []) × IsOneAtMost comes.signals)
      (on_line s.answerer_clear burst.items clear) (r.0, r.1) in
      let mid : Terminals = answerer_gave caller answerer s.caller_clear s.answerer_clear burst.items in
      let last : Terminals = with_free_line heard (one_taken answerer) (cond t.0 s.caller_clear true) (cond t.0 s.answerer_clear false) in
      record {
        happens = s.happens ++ other answerer_sends ∷ caller_hears ∷ [];
        first = s.first;
        begins = s.begins;
        caller_clear = cond t.0 s.caller_clear true;
        answerer_clear = cond t.0 s.answerer_clear false;
        leads = leads_on s.happens (other answerer_sends ∷ caller_hears ∷ []) s.first
            (with_free_line caller answerer s.caller_clear s.answerer_clear) last s.leads (
              mid,
              (record { bursts = bursts; lent = lent; burst = burst; later = later; next = next; is = refl }, refl, refl),
              (
                last,
                record {
                  octets = sent.octets.items;
                  before = before;
                  heard_before = s.caller_heard.1;
                  caller = heard;
                  result = Ok tt;
                  hears = hears;
                  others = [];
                  comes = comes.0;
                  one = comes.1;
                  silent = t.0;
                  taken = t.1;
                  is = caller_has t.0 caller heard answerer s.caller_clear s.answerer_clear burst.items;
                },
                refl,
              ),
            );
        caller_heard = (before ++ sent.octets.items, h.0, r.3);
        answerer_heard = s.answerer_heard;
        tuple = k.next;
        represents = k.represents;
        map = s.map;
        caller_sends = may t.0 s.caller_clear (CallerHasNone s.tuple caller.speaking.turn caller.speaking.taken)
            (CallerHasNone k.next heard.speaking.turn heard.speaking.taken) k.none s.caller_sends;
        answerer_sends = inr (rw add-one (none_after answerer.speaking.taken its burst later
            (one answerer.speaking.station.station answerer.speaking.turn) its_next));
      }

  -- the terminals once the caller's burst was heard, if its turn is through or the answerer says nothing to it
  caller_heard_so : (caller : TerminalFields StoppableCallerFields) (answerer heard : TerminalFields LimitedFields) (burst : PlainBurst)
      (later : List PlainBurst) (silent : Bool) (s : IsSoFar document wish caps limits caller answerer) →
      drop caller.speaking.taken (bursts_of s.tuple.params.speed (caller_items s.tuple caller.speaking.turn)) ≡ burst ∷ later →
      s.caller_clear ≡ true → (later ≡ []) ⊎ HasBurst limited_lends heard.speaking false → HasWholeMap heard.speaking.turn →
      Kept silent answerer.speaking heard.speaking → (octets : List ℕ) → HasHeard heard.framing octets → NoneOpen octets →
      (happens : List LineHappening) →
      LeadsTerminals happens (with_free_line caller answerer s.caller_clear s.answerer_clear)
      (with_free_line (one_taken caller) heard (cond silent s.caller_clear false) (cond silent s.answerer_clear true)) →
      IsSoFar document wish caps limits (one_taken caller) heard
  caller_heard_so caller answerer heard burst later silent s next clear through map kept octets has none happens leads = record {
    happens = s.happens ++ happens;
    first = s.first;
    begins = s.begins;
    caller_clear = cond silent s.caller_clear false;
    answerer_clear = cond silent s.answerer_clear true;
    leads = leads_on s.happens happens s.first (with_free_line caller answerer s.caller_clear s.answerer_clear)
        (with_free_line (one_taken caller) heard (cond silent s.caller_clear false) (cond silent s.answerer_clear true)) s.leads leads;
    caller_heard = s.caller_heard;
    answerer_heard = (octets, has, none);
    tuple = s.tuple;
    represents = s.represents;
    map = map;
    caller_sends = says through;
    answerer_sends = may silent s.answerer_clear (HasNone answerer.speaking) (HasNone heard.speaking)
        (kept_none silent kept) s.answerer_sends;
  }
    where
      its : List PlainBurst
      its = bursts_of s.tuple.params.speed (caller_items s.tuple caller.speaking.turn)

      kept_none : (b : Bool) → Kept b answerer.speaking heard.speaking → b ≡ true → HasNone answerer.speaking → HasNone heard.speaking
      kept_none true k e = k.0
      kept_none false k e = absurd (cc)

      quiet : (b : Bool) → Kept b answerer.speaking heard.speaking → HasBurst limited_lends heard.speaking false → cond b s.caller_clear false ≡ true
      quiet true k has_none = clear
      quiet false k has_none =
          let is : IsTrue false = has_none.2.1 (
            subst (λ n. n < 255) (sym k.1) (omega arith),
            λ e. k.0 (ap (λ l. drop heard.speaking.taken l) (sym has_none.1) ∙ e),
          ) in absurd (cc)

      says : (later ≡ []) ⊎ HasBurst limited_lends heard.speaking false →
          (cond silent s.caller_clear false ≡ true) ⊎ CallerHasNone s.tuple caller.speaking.turn (caller.speaking.taken + 1)
      says (inl e) = inr (rw add-one (drop_next caller.speaking.taken its burst later next ∙ e))
      says (inr has_none) = inl (quiet silent kept has_none)

  -- frames of the caller's are heard
  frames_said : MapsAreWhole → (caller : TerminalFields StoppableCallerFields) (answerer heard : TerminalFields LimitedFields) (sent : SentBurst)
      (bursts : List PlainBurst) (burst : PlainBurst) (later : List PlainBurst) →
      CallerLends caller.speaking.station.station caller.speaking.turn bursts →
      drop caller.speaking.taken bursts ≡ burst ∷ later → IsSent CallerSide burst later sent →
      Each IsFramed burst.items → ((speed : Speed) → burst.carrier ≢ Training speed) →
      Hears AnswererMakes limited_lends answerer sent.octets.items heard (Ok tt) →
      (later ≡ []) ⊎ HasBurst limited_lends heard.speaking false → IsSoFar document wish caps limits caller answerer →
      IsSoFar document wish caps limits (one_taken caller) heard
  unfolding caller_gave
  frames_said maps caller answerer heard sent bursts burst later lent next is framed_all not_check hears through s =
      let before : List ℕ = s.answerer_heard.0 in
      let its : List PlainBurst = bursts_of s.tuple.params.speed (caller_items s.tuple caller.speaking.turn) in
      let its_next : drop caller.speaking.taken its ≡ burst ∷ later =
      ap (λ l. drop caller.speaking.taken l) (sym (lent s.tuple s.represents)) ∙ next in
      let clear : s.caller_clear ≡ true = is_clear s.caller_clear caller.speaking.taken its burst later s.caller_sends its_next in
      let r = law.caller caller.speaking.station.station s.tuple caller.speaking.turn bursts later caller.speaking.taken burst sent before []
      s.represents lent next is not_check framed_all s.answerer_heard.2 in
      let h = hears before s.answerer_heard.1 in
      let t = hearing.answerer answerer heard sent.octets.items before (Ok tt) hears s.answerer_heard.1 in
      let k = takes_kept maps (heard_of before sent.octets.items) answerer.speaking heard.speaking t.0 t.1 s.map in
      let comes = subst (λ items. PieceComes items (heard_of before sent.octets.items) []) (on_line s.caller_clear burst.items clear) r.0 in
      let mid : Terminals = caller_gave caller answerer s.caller_clear s.answerer_clear burst.items in
      let last : Terminals = with_free_line (one_taken caller) heard (cond t.0 s.caller_clear false) (cond t.0 s.answerer_clear true) in
      caller_heard_so caller answerer heard burst later t.0 s its_next clear through k.0 k.1 (before ++ sent.octets.items) h.0 r.1
      (other caller_sends ∷ answerer_hears ∷ []) (
        mid,
        (record { bursts = bursts; lent = lent; burst = burst; later = later; next = next; is = refl }, refl, refl),
        (
          last,
          record {
            octets = sent.octets.items;
            before = before;
            heard_before = s.answerer_heard.1;
            answerer = heard;
            result = Ok tt;
            hears = hears;
            others = [];
            comes = comes;
            silent = t.0;
            taken = t.1;
            is = answerer_has t.0 caller answerer heard s.caller_clear s.answerer_clear burst.items;
          },
          refl,
        ),
      )

  -- a training check of the caller's comes
  check_said : MapsAreWhole → (caller : TerminalFields StoppableCallerFields) (answerer : TerminalFields LimitedFields)
      (new : Speaking LimitedFields) (sent : SentBurst)
      (bursts : List PlainBurst) (burst : PlainBurst) (later : List PlainBurst) (params : Params) (speed : Speed) →
      CallerLends caller.speaking.station.station caller.speaking.turn bursts →
      drop caller.speaking.taken bursts ≡ burst ∷ later → IsSent CallerSide burst later sent →
      burst.carrier ≡ Training speed → burst.items ≡ checked (training params) ∷ [] →
      Takes LimitedFields AnswererMakes answerer.speaking (check sent.octets.items) new →
      (later ≡ []) ⊎ HasBurst limited_lends new false → IsSoFar document wish caps limits caller answerer →
      IsSoFar document wish caps limits (one_taken caller) (record { framing = answerer.framing; speaking = new })
  unfolding caller_gave
  check_said maps caller answerer new sent bursts burst later params speed lent next is carrier items takes through s =
      let heard : TerminalFields LimitedFields = record { framing = answerer.framing; speaking = new } in
      let its : List PlainBurst = bursts_of s.tuple.params.speed (caller_items s.tuple caller.speaking.turn) in
      let its_next : drop caller.speaking.taken its ≡ burst ∷ later =
      ap (λ l. drop caller.speaking.taken l) (sym (lent s.tuple s.represents)) ∙ next in
      let clear : s.caller_clear ≡ true = is_clear s.caller_clear caller.speaking.taken its burst later s.caller_sends its_next in
      let k = one_kept maps (check sent.octets.items) answerer.speaking new takes s.map in
      let silent : Bool = is_silent takes.turn in
      let arrives = check_arrives params burst later sent speed carrier items is in
      let mid : Terminals = caller_gave caller answerer s.caller_clear s.answerer_clear burst.items in
      let last : Terminals = with_free_line (one_taken caller) heard (cond silent s.caller_clear false) (cond silent s.answerer_clear true) in
      let there : checked (training params) ∷ [] ≡ [] ++ if_clear s.caller_clear burst.items =
      sym (ap (λ c. if_clear c burst.items) clear ∙ items) in
      caller_heard_so caller answerer heard burst later silent s its_next clear through k.0 k.1 s.answerer_heard.0 s.answerer_heard.1
      s.answerer_heard.2 (other caller_sends ∷ other comes_to_answerer ∷ []) (
        mid,
        (record { bursts = bursts; lent = lent; burst = burst; later = later; next = next; is = refl }, refl, refl),
        (
          last,
          (
            record {
              input = check sent.octets.items;
              others = [];
              first = subst (λ l. FirstComes l (check sent.octets.items) []) there ((sent.octets.items, arrives, refl), refl);
              takes = record {
                answerer = new;
                takes = takes;
                is = ap (λ (x : Terminals). x.joined) (answerer_has silent caller answerer heard s.caller_clear s.answerer_clear burst.items);
              };
            },
            refl,
            refl,
          ),
          refl,
        ),
      )

  -- whatever burst the caller says is heard
  pub caller_said : TurnsCut → MapsAreWhole → (caller : TerminalFields StoppableCallerFields) (answerer heard : TerminalFields LimitedFields)
      (sent : SentBurst) (bursts : List PlainBurst) (burst : PlainBurst) (later : List PlainBurst) →
      CallerLends caller.speaking.station.station caller.speaking.turn bursts →
      drop caller.speaking.taken bursts ≡ burst ∷ later → IsSent CallerSide burst later sent →
      HearsBy sent.carrier answerer sent.octets.items heard →
      (later ≡ []) ⊎ HasBurst limited_lends heard.speaking false → IsSoFar document wish caps limits caller answerer →
      IsSoFar document wish caps limits (one_taken caller) heard
  caller_said cut maps caller answerer heard sent bursts burst later lent next is hears through s =
      at (at_drop IsFramesOrCheck caller.speaking.taken bursts burst later
      (subst (Each IsFramesOrCheck) (sym (lent s.tuple s.represents)) (callers_say cut s.tuple caller.speaking.turn)) next)
    where
      by_carrier : (carrier : Carrier) → ((speed : Speed) → carrier ≢ Training speed) → HearsBy carrier answerer sent.octets.items heard →
          Hears AnswererMakes limited_lends answerer sent.octets.items heard (Ok tt)
      by_carrier V21 not_check h = h
      by_carrier (Page speed) not_check h = h
      by_carrier (Training speed) not_check h = absurd (not_check speed refl)

      at : IsFramesOrCheck burst → IsSoFar document wish caps limits (one_taken caller) heard
      at (inl frames) =
          frames_said maps caller answerer heard sent bursts burst later lent next is frames.0 frames.1
          (by_carrier burst.carrier frames.1 (subst (λ c. HearsBy c answerer sent.octets.items heard) is.carrier hears)) through s
      at (inr found) =
          let h = subst (λ c. HearsBy c answerer sent.octets.items heard) (is.carrier ∙ found.2) hears in
          subst (λ (x : TerminalFields LimitedFields). IsSoFar document wish caps limits (one_taken caller) x)
          (ap (λ f. record { framing = f; speaking = heard.speaking }) (sym h.1))
          (check_said maps caller answerer heard.speaking sent bursts burst later found.1 found.0 lent next is found.2 found.3 h.0 through s)

-- the end of a call by the station's own table
pub ends_by : (ending : Option End) (cut : Option Cut) → call_end ending cut ≡ Some (By Normal) → ending ≡ Some Normal
ends_by (Some why) cut e = cc
ends_by None None e = absurd (cc)
ends_by None (Some Stop) e = absurd (cc)
ends_by None (Some Loss) e = absurd (cc)

-- ---- the calls of the program

same_terminal : {S : Type 0} (old new : TerminalFields S) → new.speaking ≡ record old.speaking { taken = old.speaking.taken + 1 } →
    new.framing ≡ old.framing → one_taken old ≡ new
same_terminal {S} old new speaking framing =
    sym
    (ap (λ f. record { framing = f; speaking = new.speaking }) framing ∙
    ap (λ (s : Speaking S). record { framing = old.framing; speaking = s }) speaking)

-- what `answerer_says` does
pub answerer_says : SentBurstsCome → HearingTakes → AnswerersSendOne → (caller heard : TerminalFields StoppableCallerFields)
    (answerer new : TerminalFields LimitedFields) (sent : SentBurst) →
    Sends {E = AllocError} AnswererSide limited_lends answerer.speaking new.speaking (Ok (Some sent)) → new.framing ≡ answerer.framing →
    Hears CallerMakes stoppable_lends caller sent.octets.items heard (Ok tt) → GoesOn caller answerer heard new
answerer_says law hearing one caller heard answerer new sent h framing hears document wish caps limits s =
    subst (λ (x : TerminalFields LimitedFields). IsSoFar document wish caps limits heard x) (same_terminal answerer new h.2.4 framing)
    (answerer_said document wish caps limits law hearing one caller heard answerer sent h.0 h.2.0 h.2.1 h.1 h.2.2 h.2.3 hears s)

-- the turn is through, or the answerer has nothing to say
abbrev pub IsThroughOrQuiet : SentBurst → TerminalFields LimitedFields → Type 0
IsThroughOrQuiet sent heard = (sent.last ≡ true) ⊎ HasBurst limited_lends heard.speaking false

-- what `caller_says` does
pub caller_says : SentBurstsCome → HearingTakes → TurnsCut → MapsAreWhole → (caller new : TerminalFields StoppableCallerFields)
    (answerer heard : TerminalFields LimitedFields) (sent : SentBurst) →
    Sends {E = AllocError} CallerSide stoppable_lends caller.speaking new.speaking (Ok (Some sent)) → new.framing ≡ caller.framing →
    HearsBy sent.carrier answerer sent.octets.items heard → IsThroughOrQuiet sent heard → GoesOn caller answerer new heard
caller_says law hearing cut maps caller new answerer heard sent h framing hears through document wish caps limits s =
    subst (λ (x : TerminalFields StoppableCallerFields). IsSoFar document wish caps limits x heard) (same_terminal caller new h.2.4 framing)
    (caller_said document wish caps limits law hearing cut maps caller answerer heard sent h.0 h.2.0 h.2.1 h.1 h.2.2 h.2.3 hears
    (at through) s)
  where
    at : IsThroughOrQuiet sent heard → (h.2.1 ≡ []) ⊎ HasBurst limited_lends heard.speaking false
    at (inl last) = inl (h.2.3.last.0 (subst IsTrue (sym last) refl))
    at (inr quiet) = inr quiet

pub quiet_so : (has : Bool) (heard : TerminalFields LimitedFields) → not has ≡ true → HasBurst limited_lends heard.speaking has →
    HasBurst limited_lends heard.speaking false
quiet_so true heard e h = absurd (cc)
quiet_so false heard e h = h

-- a call begins
pub begins_so : SentBurstsCome → (document : Document) (wish : Wish) (caps : Caps) (limits : Limits) (caller : TerminalFields StoppableCallerFields)
    (answerer : TerminalFields LimitedFields) → AreNew document wish caps limits caller.speaking answerer.speaking →
    HasHeard caller.framing [] → HasHeard answerer.framing [] → IsSoFar document wish caps limits caller answerer
begins_so law document wish caps limits caller answerer new caller_silent answerer_silent = record {
  happens = [];
  first = with_free_line caller answerer true true;
  begins = new;
  caller_clear = true;
  answerer_clear = true;
  leads = refl;
  caller_heard = ([], caller_silent, law.begins);
  answerer_heard = ([], answerer_silent, law.begins);
  tuple = new_caller document wish no_caps no_params;
  represents = subst (λ v. Represents v (new_caller document wish no_caps no_params))
      (sym (ap (λ (x : Joined). x.caller.station.station) new.is)) new.caller;
  map = subst HasWholeMap (sym (ap (λ (x : Joined). x.answerer.turn) new.is)) tt;
  caller_sends = inl refl;
  answerer_sends = inl refl;
}

-- a call has come to its end
pub comes_so : TerminalsAreSafe → (document : Document) (wish : Wish) (caps : Caps) (limits : Limits) (caller : TerminalFields StoppableCallerFields)
    (answerer : TerminalFields LimitedFields) (of_caller of_answerer : Shown) → IsSoFar document wish caps limits caller answerer →
    CallerShows caller.speaking.station of_caller → LimitedShows answerer.speaking.station of_answerer →
    of_caller.end ≡ Some (By Normal) → of_answerer.end ≡ Some (By Normal) → CallComes document wish caps limits
comes_so safe document wish caps limits caller answerer of_caller of_answerer s shows answers ends answered =
    let last : Terminals = with_free_line caller answerer s.caller_clear s.answerer_clear in
    let caller_end : caller.speaking.station.station.ending ≡ Some Normal =
    sym s.represents.ending ∙
    ends_by s.tuple.ending caller.speaking.station.cut (sym (ap (λ (x : Shown). x.end) (shows s.tuple s.represents)) ∙ ends) in
    let answerer_end : answerer.speaking.station.station.ending ≡ Some Normal =
    ends_by answerer.speaking.station.station.ending answerer.speaking.station.cut (sym (ap (λ (x : Shown). x.end) answers) ∙ answered) in
    record {
      happens = s.happens;
      first = s.first;
      begins = s.begins;
      last = last;
      leads = s.leads;
      caller_end = caller_end;
      answerer_end = answerer_end;
      stored = λ full. (safe document wish caps limits s.happens s.first last full s.begins s.leads).answerer_normal answerer_end;
    }

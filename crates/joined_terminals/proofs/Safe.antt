-- Two joined terminals are safe.
use Rattle.std.proofs.Common.{◌≡◌, Bool, true, false, List, [], ◌∷◌, ◌++◌, length, Some, refl, ap, sym, ◌∙◌, arith}
use Rattle.std.proofs.Common.{length-append, append-nil}
use Rattle.stations.specs.AnswererStep.{Answerer, leaves}
use Rattle.stations.specs.Bursts.{CutByCarrier}
use Rattle.stations.specs.CallerStep.{Caller, confirmed}
use Rattle.stations.specs.Layers.{Document}
use Rattle.stations.specs.declared.turn.End.TheVariants.{Normal}
use Rattle.line_sim.specs.Headline.{IsSafeWorld, LineHolds, Promised, RunsAreSafe}
use Rattle.line_sim.specs.Line.{World, new_world, run}
use Rattle.line_sim.specs.LineFacts.{LineFacts}
use Rattle.line_sim.proofs.LineKeeps.{new_world_facts}
use Rattle.line_sim.proofs.MovesOf.{may_leave}
use Rattle.line_sim.proofs.WholeRuns.{run_same}
use Rattle.joined_terminals.specs.Joining.{Joined}
use Rattle.joined_terminals.specs.Safety.{IsSafeJoined, JoinedAreSafe}
use Rattle.joined_terminals.proofs.AnswererFollows.{StationsKnown}
use Rattle.joined_terminals.proofs.Follow.{Follows, answerer_as, caller_as}
use Rattle.joined_terminals.proofs.Following.{led, new_follows}

pub whole : {A : Type 0} (xs rest ys : List A) → xs ++ rest ≡ ys → length xs ≡ length ys → xs ≡ ys
whole xs [] ys e l = sym (append-nil xs) ∙ e
whole xs (x ∷ rest) ys e l = absurd (omega (arith, ap length e, length-append xs (x ∷ rest), l))

same_pages : (gone : Bool) (s : Answerer) → (answerer_as gone s).pages ≡ s.pages
same_pages true s = refl
same_pages false s = refl

same_confirmed : (gone : Bool) (c : Caller) → confirmed (caller_as gone c) ≡ confirmed c
same_confirmed true c = refl
same_confirmed false c = refl

-- a caller whose peer has left hasn't ended normally
own_end : (gone : Bool) (c : Caller) → (caller_as gone c).ending ≡ Some Normal → c.ending ≡ Some Normal
own_end false c e = e
own_end true c e = cc

-- an answerer that has left after the last page has all pages
all_stored : (gone : Bool) (w : World) (document : Document) → IsSafeWorld document w → LineFacts w → w.caller.document ≡ document →
    (answerer_as gone w.answerer).ending ≡ Some Normal → w.answerer.pages ≡ document
all_stored false w document safe facts same e = safe.answerer_normal e
all_stored true w document safe facts same e =
    let left : leaves w.answerer.accepted ≡ Normal = cc in
    let stored = (may_leave w.caller w.answerer facts.accepted facts.stations).normal left in
    whole w.answerer.pages safe.beginning.0 document safe.beginning.1 (stored ∙ ap length same)

safe_joined : (document : Document) (j : Joined) (w : World) → Follows j w → IsSafeWorld document w → LineFacts w →
    w.caller.document ≡ document → IsSafeJoined document j
safe_joined document j w f safe facts same =
    let pages : j.pages ++ j.answerer.station.station.pages ≡ w.answerer.pages =
    ap (λ (s : Answerer). s.pages) f.answerer.is ∙ same_pages f.answerer_gone w.answerer in
    let confirms : j.caller.station.station.page ≡ confirmed w.caller =
    sym f.caller.represents.confirms ∙ same_confirmed f.caller_gone w.caller in
    let own : (e : j.caller.station.station.ending ≡ Some Normal) → w.caller.ending ≡ Some Normal =
    λ e. own_end f.caller_gone w.caller (f.caller.represents.ending ∙ e) in
    let answered : j.answerer.station.station.ending ≡ Some Normal → w.answerer.pages ≡ document =
    λ e. all_stored f.answerer_gone w document safe facts same (sym (ap (λ (s : Answerer). s.ending) f.answerer.is) ∙ e) in
    record {
      beginning = (safe.beginning.0, ap (λ l. l ++ safe.beginning.0) pages ∙ safe.beginning.1);
      confirmed_is_stored = rw (pages, confirms) safe.confirmed_is_stored;
      stored_once = rw (pages, confirms) safe.stored_once;
      caller_normal = λ e. (pages ∙ (safe.caller_normal (own e)).0, confirms ∙ (safe.caller_normal (own e)).1);
      answerer_normal = λ e. pages ∙ answered e;
    }

pub joined_are_safe : Promised → LineHolds → RunsAreSafe → CutByCarrier → StationsKnown → JoinedAreSafe
joined_are_safe laws holds runs cut known document wish caps limits happens first last full begins leads =
    let start : World = new_world document wish caps in
    let r = led cut known happens first last start (new_follows document wish caps limits first begins) leads in
    safe_joined document last (run r.steps start) r.follows (runs document wish caps r.steps full) (holds document wish caps r.steps full)
    (run_same laws r.steps start (new_world_facts document wish caps full))

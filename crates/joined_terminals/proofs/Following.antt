-- A simulated call follows two joined terminals, whatever happens.
use Rattle.std.proofs.Common.{false, List, [], ◌∷◌, refl, sym, subst}
use Rattle.signals.specs.declared.params.Caps.{Caps}
use Rattle.signals.specs.declared.params.Wish.{Wish}
use Rattle.stations.specs.Bursts.{CutByCarrier}
use Rattle.stations.specs.Layers.{Document}
use Rattle.stations.specs.declared.limiting.Limits.{Limits}
use Rattle.stations.specs.declared.stopping.Cut.TheVariants.{Stop}
use Rattle.terminals.specs.Stopping.{caller_cut_off, limited_cut_off}
use Rattle.line_sim.specs.Line.{World, new_world, run}
use Rattle.joined_terminals.specs.Happening.{Happening, Leads, LinesLose, Makes}
use Rattle.joined_terminals.specs.Happening.Happening.{comes_to_caller, comes_to_answerer, lines_lose, caller_sends, answerer_sends, caller_waits}
use Rattle.joined_terminals.specs.Happening.Happening.{answerer_waits, program_says, pages_taken, caller_stops, answerer_stops, caller_hangs_up}
use Rattle.joined_terminals.specs.Happening.Happening.{answerer_hangs_up, caller_lost, answerer_lost}
use Rattle.joined_terminals.specs.Joining.{Begins, Joined}
use Rattle.joined_terminals.proofs.AnswererFollows as answerers
use Rattle.joined_terminals.proofs.AnswererFollows.{StationsKnown, answerer_heard, answerer_says_dcn, answerer_sent, answerer_silenced}
use Rattle.joined_terminals.proofs.AnswererFollows.{answerer_stopped, answerer_told, answerer_waited}
use Rattle.joined_terminals.proofs.CallerFollows.{caller_heard, caller_says_dcn, caller_sent, caller_silenced, caller_stopped, caller_waited}
use Rattle.joined_terminals.proofs.Follow.{Follows, Reaches, after, caller_as, stays}
use Rattle.joined_terminals.proofs.Left.{answerer_left, caller_left, none_left}
use Rattle.joined_terminals.proofs.Within.{IsWithin, all_within, left_within, no_more}

-- some items are lost
lines_lost : (j new : Joined) (w : World) → Follows j w → LinesLose j new → Reaches new w
lines_lost j new w f h =
    subst (λ (x : Joined). Reaches x w) (sym h.is)
    (stays (record {
      caller_gone = f.caller_gone;
      answerer_gone = f.answerer_gone;
      caller = record {
        represents = f.caller.represents;
        out = left_within h.answerers (caller_left j.caller_clear j.caller.taken j.caller.turn (caller_as f.caller_gone w.caller)) w.to_answerer
            f.caller.out;
      };
      answerer = record {
        is = f.answerer.is;
        out = left_within h.callers (answerer_left j.answerer_clear j.answerer.taken j.answerer.turn w.answerer.caps) w.to_caller
            f.answerer.out;
      };
    }))

module _ (cut : CutByCarrier) (known : StationsKnown) where
  made : (happening : Happening) (j new : Joined) (w : World) → Follows j w → Makes happening j new → Reaches new w
  made comes_to_caller j new w f h = caller_heard cut j new w f h
  made comes_to_answerer j new w f h = answerer_heard known j new w f h
  made lines_lose j new w f h = lines_lost j new w f h
  made caller_sends j new w f h = caller_sent j new w f h
  made answerer_sends j new w f h = answerer_sent j new w f h
  made (caller_waits wait) j new w f h = caller_waited cut wait j new w f h
  made (answerer_waits wait) j new w f h = answerer_waited known wait j new w f h
  made (program_says is) j new w f h = answerer_told known is j new w f h
  made pages_taken j new w f h = subst (λ (x : Joined). Reaches x w) (sym h) (answerers.pages_taken j w f)
  made caller_stops j new w f h = subst (λ (x : Joined). Reaches x w) (sym h) (stays (caller_stopped cut j w f))
  made answerer_stops j new w f h = subst (λ (x : Joined). Reaches x w) (sym h) (stays (answerer_stopped j w f))
  made caller_hangs_up j new w f h =
      subst (λ (x : Joined). Reaches x w) (sym h)
      (stays (caller_says_dcn cut j w (caller_cut_off Stop j.caller.station) f refl))
  made answerer_hangs_up j new w f h =
      subst (λ (x : Joined). Reaches x w) (sym h)
      (stays (answerer_says_dcn j w (limited_cut_off Stop j.answerer.station) f refl))
  made caller_lost j new w f h = subst (λ (x : Joined). Reaches x w) (sym h) (stays (caller_silenced j w f))
  made answerer_lost j new w f h = subst (λ (x : Joined). Reaches x w) (sym h) (stays (answerer_silenced j w f))

  pub led : (happens : List Happening) (j new : Joined) (w : World) → Follows j w → Leads happens j new → Reaches new w
  led [] j new w f h = subst (λ (x : Joined). Reaches x w) (sym h) (stays f)
  led (happening ∷ more) j new w f h =
      let first = made happening j h.0 w f h.1 in
      after first.steps new w (led more h.0 new (run first.steps w) first.follows h.2)

-- a new simulated call follows two new terminals
pub new_follows : (document : Document) (wish : Wish) (caps : Caps) (limits : Limits) (j : Joined) → Begins document wish caps limits j →
    Follows j (new_world document wish caps)
new_follows document wish caps limits j b =
    subst (λ (x : Joined). Follows x (new_world document wish caps)) (sym b.is)
    (record {
      caller_gone = false;
      answerer_gone = false;
      caller = record {
        represents = b.caller;
        out = subst (λ l. IsWithin l []) (sym (none_left _ 0)) no_more;
      };
      answerer = record { is = refl; out = all_within _ };
    })

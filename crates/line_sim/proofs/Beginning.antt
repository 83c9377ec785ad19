-- A new world.
use Rattle.std.proofs.Common.{◌≡◌, List, [], ◌∷◌, ◌++◌, refl, ap, sym, ◌∙◌}
use Rattle.signals.specs.Signals.{dis}
use Rattle.signals.specs.declared.params.Caps.{Caps}
use Rattle.signals.specs.declared.params.Wish.{Wish}
use Rattle.stations.specs.AnswererStep.{Answerer, new_answerer, answerer_items}
use Rattle.stations.specs.CallerFields.{CallerFields, Represents}
use Rattle.stations.specs.CallerStep.{new_caller, no_caps, no_params}
use Rattle.stations.specs.Inputs.{PlainItem, framed}
use Rattle.stations.specs.Laws.{Each}
use Rattle.stations.specs.Layers.{Document, IsFullPage}
use Rattle.stations.specs.declared.turn.Turn.{Turn}
use Rattle.stations.specs.declared.turn.Turn.TheVariants.{Dis}
use Rattle.line_sim.specs.Line.{new_world}
use Rattle.line_sim.specs.Represents.{Shows, IsReached}
use Rattle.line_sim.specs.declared.call.Call.{Call}

pub shows_new : (document : Document) (wish : Wish) (caps : Caps) (caller : CallerFields) (answerer : Answerer) (turn : Turn)
    (to_answerer to_caller start items : List PlainItem) → Represents caller (new_caller document wish no_caps no_params) →
    answerer ≡ new_answerer caps no_params → turn ≡ Dis → to_answerer ≡ [] → start ≡ [] → items ≡ answerer_items answerer turn →
    to_caller ≡ start ++ items →
    Shows (record { caller = caller; answerer = answerer; to_answerer = to_answerer; to_caller = to_caller }) (new_world document wish caps)
shows_new document wish caps caller answerer turn to_answerer to_caller start items represents is says none begins all sent =
    let e : items ≡ framed (dis caps) ∷ [] = all ∙ (ap (answerer_items answerer) says ∙ ap (λ s. answerer_items s Dis) is) in
    record { caller = represents; answerer = sym is; to_answerer = sym none; to_caller = sym (sent ∙ (ap (λ l. l ++ items) begins ∙ e)) }

pub reached_new : (document : Document) (wish : Wish) (caps : Caps) (call : Call) → Each IsFullPage document →
    Shows call (new_world document wish caps) → IsReached (record { call = call; entries = [] })
reached_new document wish caps call full shows =
    record { document = document; wish = wish; caps = caps; steps = []; full = full; shows = shows; noted = refl }

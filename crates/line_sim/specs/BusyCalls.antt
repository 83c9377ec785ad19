-- Driven calls in which the answerer is set busy and ready.
use Rattle.std.specs.Prelude.{◌≡◌, ℕ, zero, suc, ◌≤◌, Bool, cond, List, [], ◌∷◌, ◌++◌, Option, Some, None}
use Rattle.signals.specs.declared.params.Caps.{Caps}
use Rattle.signals.specs.declared.params.Wish.{Wish}
use Rattle.stations.specs.Laws.{Each}
use Rattle.stations.specs.Layers.{Document, IsFullPage}
use Rattle.line_sim.specs.Driving.{Driven, Ends, Fate, Patience, drives, is_over, new_driven, step_events}
use Rattle.line_sim.specs.Headline.{IsSafeWorld}
use Rattle.line_sim.specs.Line.{happens, run}
use Rattle.line_sim.specs.Line.Outcome.{Done}
use Rattle.line_sim.specs.Report.{all_done}
use Rattle.line_sim.specs.declared.event.Event.{Event}
use Rattle.line_sim.specs.declared.event.Event.TheVariants.{Busy}

-- before a step the answerer is set busy or ready, or it is left as it is
abbrev pub sets : Option Bool → Driven → Driven
sets None d = d
sets (Some busy) d = record { world = happens d.world (Busy busy) Done; dis = d.dis; rnrs = d.rnrs; fates = d.fates }

-- the first setting of a list; after the last one the answerer is left as it is
abbrev pub first_setting : List (Option Bool) → Option Bool
first_setting [] = None
first_setting (setting ∷ settings) = setting

-- the settings after the first one
abbrev pub later_settings : List (Option Bool) → List (Option Bool)
later_settings [] = []
later_settings (setting ∷ settings) = settings

-- one step of a driven call, before which the answerer is set
abbrev pub drives_set : Patience → Option Bool → Driven → Driven
drives_set p setting d = let set = sets setting d in drives p set.world.to_answerer set.world.to_caller set

-- the event of a setting, if there is one
abbrev pub setting_events : Option Bool → List Event
setting_events None = []
setting_events (Some busy) = Busy busy ∷ []

-- the events of a step before which the answerer is set: that of the setting, if there is one, and then the step's own
abbrev pub set_events : Patience → Option Bool → Driven → List Event
set_events p setting d =
    let set = sets setting d in setting_events setting ++ step_events p set.world.to_answerer set.world.to_caller set

-- at most a number of steps, before each of which the answerer is set busy or ready or left as it is by a list of settings; fewer if the
-- call is over
abbrev pub drive_set : ℕ → Patience → List (Option Bool) → Driven → Driven
drive_set zero p settings d = d
drive_set (suc most) p settings d =
    cond (is_over d) d (drive_set most p (later_settings settings) (drives_set p (first_setting settings) d))

-- how many steps were made
abbrev pub steps_set : ℕ → Patience → List (Option Bool) → Driven → ℕ
steps_set zero p settings d = 0
steps_set (suc most) p settings d =
    cond (is_over d) 0 (suc (steps_set most p (later_settings settings) (drives_set p (first_setting settings) d)))

-- The law: a driven call whose answerer is set busy or ready, or left as it is, before each step ends within the number of steps of `Ends`,
-- whatever the fates and the settings are.
abbrev pub BusyCallsEnd : Type 0
BusyCallsEnd =
    (document : Document) (wish : Wish) (caps : Caps) (p : Patience) (fates : List Fate) (settings : List (Option Bool)) (most : ℕ) →
    1 ≤ p.calls → let first = new_driven document wish caps fates in
    Ends p most (steps_set most p settings first) document (drive_set most p settings first)

-- The law: at each step of such a call the headline holds.
abbrev pub BusyCallsAreSafe : Type 0
BusyCallsAreSafe =
    (document : Document) (wish : Wish) (caps : Caps) (p : Patience) (fates : List Fate) (settings : List (Option Bool)) (most : ℕ) →
    Each IsFullPage document → IsSafeWorld document (drive_set most p settings (new_driven document wish caps fates)).world

-- The law: the events of a step before which the answerer is set, the setting's event first if there is one, lead to the next step when all
-- of each is done.
abbrev pub BusyStepsAreEvents : Type 0
BusyStepsAreEvents =
    (p : Patience) (setting : Option Bool) (d : Driven) →
    run (all_done (set_events p setting d)) d.world ≡ (drives_set p setting d).world

-- What a terminal holds beside its station's pages.
use Rattle.std.specs.Prelude.{ℕ, ◌≡◌, ◌≤◌, List, [], length}
use Rattle.hdlc.specs.DeframerState.{DeframerState}
use Rattle.partial_page.specs.Frames.{max_page_octets}
use Rattle.signals.specs.declared.params.Caps.{Caps}
use Rattle.signals.specs.declared.params.Params.{Params}
use Rattle.stations.specs.AnswererStep.{Answerer, new_answerer}
use Rattle.stations.specs.Limits.{max_open_octets, open_octets}
use Rattle.terminals.specs.Hearing.{HasHeard, PlainInput}
use Rattle.terminals.specs.Runs.{TakesAll}
use Rattle.terminals.specs.Speaking.{Speaking}
use Rattle.terminals.specs.Stations.{AnswererLends, AnswererSteps}

-- law: of octets that were heard a deframer keeps no whole content, and at most the 302 octets of one frame
abbrev pub OneFrameIsKept : Type 0
OneFrameIsKept =
    (framing : DeframerState) (octets : List ℕ) → HasHeard framing octets → (framing.queue ≡ []) × (length framing.kept.octets ≤ 302)

-- law: whatever a new answerer is given, its open frames have at most 65,536 octets, and its open page's code at most 8,388,608
abbrev pub OpenPagesAreLimited : Type 0
OpenPagesAreLimited =
    (caps : Caps) (params : Params) (old new : Speaking Answerer) (inputs : List PlainInput) →
    old.station ≡ new_answerer caps params → TakesAll AnswererSteps AnswererLends old inputs new →
    (open_octets new.station.frames ≤ max_open_octets) × (length new.station.octets ≤ max_page_octets)

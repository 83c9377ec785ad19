-- Two conversations are safe.
use Rattle.std.proofs.Common.{◌++◌, ◌∷◌, [], List, refl, ap, sym, subst, ◌∙◌, append_assoc}
use Rattle.conversations.specs.Answering.{pages_of}
use Rattle.stations.specs.Layers.{Document}
use Rattle.line_sim.specs.PageMachine.{IsBeginning}
use Rattle.joined_terminals.specs.Happening.Happening.{lines_lose}
use Rattle.joined_terminals.specs.Octets.LineHappening.{other}
use Rattle.joined_terminals.specs.Safety.{IsSafeJoined, TerminalsAreSafe}
use Rattle.joined_terminals.specs.Driven.{Driven, joined, terminals}
use Rattle.joined_terminals.specs.DrivenSafety.{ConversationsAreSafe}
use Rattle.joined_terminals.specs.Steps.{Does, Drives, ItemsLose, Step}
use Rattle.joined_terminals.specs.Steps.Step.{answerer_gives, answerer_line, answerer_refuses, answerer_watches, caller_gives, caller_line}
use Rattle.joined_terminals.specs.Steps.Step.{caller_refuses, caller_watches, items_lost, page_lost, page_refused, hung_up}
use Rattle.joined_terminals.specs.Steps.Step.{pages_stored}
use Rattle.joined_terminals.proofs.DrivenAnswerers as answerers
use Rattle.joined_terminals.proofs.DrivenCallers as callers
use Rattle.joined_terminals.proofs.DrivenWays.{Way, both, by, stays}

items_left : (d new : Driven) → ItemsLose d new → Way (terminals d) (terminals new)
items_left d new h =
    by (other lines_lose) (terminals d) (terminals new) (
      record {
        to_answerer = h.to_answerer;
        to_caller = h.to_caller;
        answerers = h.answerers;
        callers = h.callers;
        is = ap joined h.is;
      },
      ap (λ (x : Driven). x.caller.terminal.framing) h.is,
      ap (λ (x : Driven). x.answerer.terminal.framing) h.is,
    )

one_way : (step : Step) (d new : Driven) → Does step d new → Way (terminals d) (terminals new)
one_way (caller_line line) d new h = callers.takes_line d new line h
one_way (answerer_line line) d new h = answerers.takes_line d new line h
one_way (caller_refuses line) d new h = callers.refuses_line d new line h
one_way (answerer_refuses line) d new h = answerers.refuses_line d new line h
one_way caller_watches d new h = callers.watches d new h
one_way answerer_watches d new h = answerers.watches d new h
one_way pages_stored d new h = answerers.stores d new h
one_way page_refused d new h = answerers.refuses d new h
one_way page_lost d new h = answerers.page_lost d new h
one_way hung_up d new h = answerers.hangs_up d new h
one_way (caller_gives sent sends) d new h = callers.gives_burst d new sent sends h
one_way (answerer_gives sent sends) d new h = answerers.gives_burst d new sent sends h
one_way items_lost d new h = items_left d new h

all_ways : (steps : List Step) (d new : Driven) → Drives steps d new → Way (terminals d) (terminals new)
all_ways [] d new h = subst (λ (x : Driven). Way (terminals d) (terminals x)) (sym h) (stays (terminals d) (terminals d) refl)
all_ways (step ∷ more) d new h =
    both (terminals d) (terminals h.0) (terminals new) (one_way step d h.0 h.1) (all_ways more h.0 new h.2)

-- the pages stored are the first of those that are
stored_first : (document : Document) (d : Driven) → IsSafeJoined document (joined d) → IsBeginning d.stored document
stored_first document d safe =
    let rest = safe.beginning.0 in (
      d.unkept ++ (pages_of d.answerer ++ rest),
      sym (append_assoc d.stored d.unkept (pages_of d.answerer ++ rest)) ∙
          (sym (append_assoc (d.stored ++ d.unkept) (pages_of d.answerer) rest) ∙ safe.beginning.1),
    )

pub conversations_are_safe : TerminalsAreSafe → ConversationsAreSafe
conversations_are_safe safe document wish caps limits steps first last full begins drives =
    let way = all_ways steps first last drives in
    let all : IsSafeJoined document (joined last) =
    safe document wish caps limits way.happens (terminals first) (terminals last) full begins way.leads in
    record { stored = stored_first document last all; all = all }

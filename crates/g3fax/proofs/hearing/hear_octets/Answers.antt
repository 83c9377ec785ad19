-- What the check asks of `hear_octets`.
use Rattle.std.proofs.Common.{◌≡◌, Result, Err, arith, inl, inr, refl, rules, subst}
use Rattle.terminals.specs.Figures.{figures_heard}
use Rattle.terminals.specs.Runs.{Hears}
use Rattle.terminals.specs.Timed.{BringsIfTaken, SeesOctets}
use Rattle.terminals.specs.Watching.{SeesByIfTaken}
use Rattle.terminals.specs.declared.fault.HearFault.{HearFault}
use Rattle.terminals.specs.declared.fault.HearFault.TheVariants.{FrameLost, NothingTaken}
use Rattle.g3fax.proofs.HeardLemmas.{untaken}
use Rattle.g3fax.proofs.hearing.hear_octets.Goals as goal

pub returns-in-Err-FrameLost : goal.returns-in-Err-FrameLost
returns-in-Err-FrameLost g c =
    let is : c.hear.result ≡ Err FrameLost = search rules in
    let seen : SeesOctets _ g.S.Stoppable.shows c.args.timed.now.terminal c.args.octets.now c.args.timed.now.watched
    c.hear.new.self.watched (Err FrameLost) =
    subst (λ (result : Result (Unit {0}) HearFault). SeesOctets _ g.S.Stoppable.shows c.args.timed.now.terminal c.args.octets.now
    c.args.timed.now.watched c.hear.new.self.watched result) is c.hear.ensures.sees in
    record {
      done = λ done. absurd (omega (arith, done));
      lost = λ lost. subst (λ (result : Result (Unit {0}) HearFault). Hears g.S.Station.steps g.S.Station.lends c.args.timed.now.terminal c.args.octets.now
          c.hear.new.self.terminal result) is c.hear.ensures.hears;
      sees = λ some. record { shown = seen.shown; shows_so = seen.shows_so; sees = seen.sees };
      counts = λ some. subst (λ (result : Result (Unit {0}) HearFault). SeesByIfTaken figures_heard c.args.timed.now.terminal.framing
          c.args.octets.now c.args.timed.now.figures c.hear.new.self.figures result) is c.hear.ensures.counts;
      brings = λ some. subst (λ (result : Result (Unit {0}) HearFault). BringsIfTaken c.args.timed.now.terminal.framing
          c.hear.new.self.terminal.framing c.args.timed.now.brought c.hear.new.self.brought result) is c.hear.ensures.brings;
      rest = c.hear.ensures.rest;
      kept = λ kept. absurd (omega (arith, kept));
      only = inr (inr refl);
    }

pub returns-in-Err-NothingTaken : goal.returns-in-Err-NothingTaken
returns-in-Err-NothingTaken g c =
    let is : c.hear.result ≡ Err NothingTaken = search rules in
    record {
      done = λ done. absurd (omega (arith, done));
      lost = λ lost. absurd (omega (arith, lost));
      sees = λ some. absurd (some refl);
      counts = λ some. absurd (some refl);
      brings = λ some. absurd (some refl);
      rest = c.hear.ensures.rest;
      kept = λ kept.
          untaken g.S.Station.steps g.S.Station.lends g.S.Stoppable.shows c.args.timed.now c.hear.new.self c.args.octets.now
          (subst (λ (result : Result (Unit {0}) HearFault). Hears g.S.Station.steps g.S.Station.lends c.args.timed.now.terminal c.args.octets.now
          c.hear.new.self.terminal result) is c.hear.ensures.hears)
          (subst (λ (result : Result (Unit {0}) HearFault). SeesOctets _ g.S.Stoppable.shows c.args.timed.now.terminal c.args.octets.now
          c.args.timed.now.watched c.hear.new.self.watched result) is c.hear.ensures.sees)
          (subst (λ (result : Result (Unit {0}) HearFault). SeesByIfTaken figures_heard c.args.timed.now.terminal.framing
          c.args.octets.now c.args.timed.now.figures c.hear.new.self.figures result) is c.hear.ensures.counts)
          (subst (λ (result : Result (Unit {0}) HearFault). BringsIfTaken c.args.timed.now.terminal.framing
          c.hear.new.self.terminal.framing c.args.timed.now.brought c.hear.new.self.brought result) is c.hear.ensures.brings)
          c.hear.ensures.rest;
      only = inr (inl refl);
    }

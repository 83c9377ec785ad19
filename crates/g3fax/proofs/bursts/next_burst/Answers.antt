-- What the check asks of `next_burst`.
use Rattle.std.proofs.Common.{◌≡◌, ◌∙◌, None, Some, Ok, Option, arith, false, inl, inr, refl, rules, subst, sym, true}
use Rattle.std.specs.declared.alloc.AllocError.{AllocError}
use Rattle.terminals.specs.Figures.{figures_said}
use Rattle.terminals.specs.Runs.{TerminalFields}
use Rattle.terminals.specs.Sending.{HasBurst, Sends}
use Rattle.terminals.specs.Timed.{after_given}
use Rattle.terminals.specs.Watching.{SawSent}
use Rattle.terminals.specs.declared.sending.SentBurst.{SentBurst}
use Rattle.g3fax.proofs.BurstLemmas.{sends_none}
use Rattle.g3fax.proofs.bursts.next_burst.Goals as goal

pub returns-in-Ok-Some-clause-next : goal.returns-in-Ok-Some-clause-next
returns-in-Ok-Some-clause-next g c =
    let empty : c.args.out.now.value ≡ None = search rules in
    let is : c.in-Ok-Some.field-0 ≡ Some c.in-Ok-Some.sent = search rules in
    let has : c.has_burst.result ≡ true = search rules in
    let burst : HasBurst g.S.Station.lends c.args.timed.now.terminal.speaking c.has_burst.result =
    subst (λ (t : TerminalFields _). HasBurst g.S.Station.lends t.speaking c.has_burst.result) c.terminal.ensures c.has_burst.ensures in
    record {
      fills = record {
        done = λ done. (
          empty,
          record {
            sent = c.in-Ok-Some.sent;
            sends = subst (λ (sent : Option SentBurst). Sends {E = AllocError} g.S.Station.sends g.S.Station.lends
                c.args.timed.now.terminal.speaking c.next_burst.new.self.terminal.speaking (Ok sent)) is c.in-Ok-Some.ensures.sends;
            octets_are = c.give.ensures.given;
            told = c.give.ensures.told;
            counts = subst (λ (sent : Option SentBurst). SawSent {E = AllocError} figures_said g.S.Station.sends g.S.Station.lends
                c.args.timed.now.terminal.speaking c.args.timed.now.figures c.next_burst.new.self.figures (Ok sent)) is c.in-Ok-Some.ensures.counts;
            rest = subst (λ (sent : Option SentBurst). c.next_burst.new.self ≡ after_given {E = AllocError} (Ok sent)
                (record c.args.timed.now { terminal = c.next_burst.new.self.terminal; figures = c.next_burst.new.self.figures })) is
                c.in-Ok-Some.ensures.rest;
          },
        );
        kept = λ other. absurd (other refl);
        full = λ full. absurd (full empty);
      };
      framing = c.next_burst.ensures.framing;
      kept = λ other. absurd (other refl);
      nothing = λ nothing. absurd (omega (arith, nothing));
      exactly = λ before. (
        c.has_burst.result,
        burst,
        ((λ nothing. absurd (omega (arith, nothing))), λ none. let e : true ≡ false = sym has ∙ none in absurd cc),
      );
      only = λ before. inl refl;
    }

pub returns-then-not-has_burst-clause-next : goal.returns-then-not-has_burst-clause-next
returns-then-not-has_burst-clause-next g c =
    let empty : c.args.out.now.value ≡ None = search rules in
    let none : c.has_burst.result ≡ false = search rules in
    let burst : HasBurst g.S.Station.lends c.args.timed.now.terminal.speaking c.has_burst.result =
    subst (λ (t : TerminalFields _). HasBurst g.S.Station.lends t.speaking c.has_burst.result) c.terminal.ensures c.has_burst.ensures in
    record {
      fills = record {
        done = λ done. absurd (omega (arith, done));
        kept = λ other. c.is_full.ensures.kept;
        full = λ full. absurd (full empty);
      };
      framing = refl;
      kept = λ other. refl;
      nothing = λ nothing. sends_none g.S.Station.sends g.S.Station.lends c.args.timed.now.terminal.speaking c.has_burst.result burst none;
      exactly = λ before. (c.has_burst.result, burst, ((λ nothing. none), λ is. refl));
      only = λ before. inr (inl refl);
    }

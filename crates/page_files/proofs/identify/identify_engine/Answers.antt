-- What the check asks of `identify_engine`.
use Rattle.std.proofs.Common.{rules, ℕ, List, Option, subst}
use Rattle.std.specs.Io.KnownBytes.{Appends}
use Rattle.std.proofs.KnownBytes.{Appends-trans}
use Rattle.page_files.specs.Identified.{format_line, lines_of}
use Rattle.page_files.specs.declared.identify.Fit.{Fit}
use Rattle.page_files.specs.declared.identify.Fit.TheVariants.{Whole, NoEofb, Early, Mended}
use Rattle.page_files.specs.declared.identify.Tried.{Tried}
use Rattle.page_files.proofs.identify.identify_engine.Goals as goal

pub returns-clause-identified : goal.returns-clause-identified
returns-clause-identified g c =
    let octets = c.args.octets.now in
    let tried = c.in_ok-results.results.tried.items in
    let contents = g.W.Write.contents in
    let lines = λ (fit : Fit) (before after : Option (List ℕ)) (list : List Tried). Appends before after (lines_of fit octets list) in
    record {
      tried = tried;
      own = c.in_ok-results.said;
      are_tried = c.in_ok-results.ensures.tried;
      between = contents c.tell_those-4.new.writer;
      written = Appends-trans _ _ _ _ _
          (subst (λ (name : Option (List ℕ)). Appends (contents c.args.writer.now) (contents c.tell_format.new.writer) (format_line name))
          c.format_of-format.ensures c.in_ok-tell_format.ensures.told)
          (Appends-trans _ _ _ _ _
          (subst (lines Whole (contents c.tell_format.new.writer) (contents c.tell_those.new.writer)) c.deref.ensures.value
          c.in_ok-tell_those.ensures.told)
          (Appends-trans _ _ _ _ _
          (subst (lines NoEofb (contents c.tell_those.new.writer) (contents c.tell_those-2.new.writer)) c.deref-2.ensures.value
          c.in_ok-tell_those-2.ensures.told)
          (Appends-trans _ _ _ _ _
          (subst (lines Early (contents c.tell_those-2.new.writer) (contents c.tell_those-3.new.writer)) c.deref-3.ensures.value
          c.in_ok-tell_those-3.ensures.told)
          (subst (lines Mended (contents c.tell_those-3.new.writer) (contents c.tell_those-4.new.writer)) c.deref-4.ensures.value
          c.in_ok-tell_those-4.ensures.told))));
      tells = search rules;
      identity_is = search rules;
    }

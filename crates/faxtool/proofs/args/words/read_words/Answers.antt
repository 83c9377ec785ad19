-- What the check asks of `read_words`.
use Rattle.std.proofs.Common.{◌≡◌, List, map, rules, subst}
use Rattle.std.specs.Prelude.{Option}
use Rattle.clap.specs.Words.{Row, Text, app_of}
use Rattle.std.specs.Prelude.{codes}
use Rattle.faxtool.specs.Jobs.{HasNoCommand, IsFaxtool, IsCommandOf, asks}
use Rattle.faxtool.proofs.JobLemmas.{is_faxtool_free, is_faxtool_simple, refused_by_kind, refused_for_job}
use Rattle.faxtool.proofs.args.words.read_words.Goals as goal

pub returns-in-Err : goal.returns-in-Err
returns-in-Err c =
    let a = app_of c.in_ok-command.command in
    let is : IsFaxtool a = c.in_ok-command.ensures in
    refused_by_kind (map (λ word. word.now) c.args.words.now) a c.in-Err.error c.from.result is
    (c.in-Err.ensures.kinds (is_faxtool_free a is)) c.from.ensures

pub returns-in-Ok-2 : goal.returns-in-Ok-2
returns-in-Ok-2 c =
    let a = app_of c.in_ok-command.command in
    let is : IsFaxtool a = c.in_ok-command.ensures in
    let met = (c.in-Ok.ensures.ok.2 (is_faxtool_simple a is)).1 in (
      a,
      is,
      c.in-Ok.ensures.kinds (is_faxtool_free a is),
      subst (λ (o : Option (Text × List Row)). IsCommandOf o c.in-Ok-2.command) met (search
          rules),
      subst (λ (o : Option (Text × List Row)). c.asks-explain.result ≡ asks (codes "explain") o) met c.asks-explain.ensures,
      subst (λ (o : Option (Text × List Row)). c.asks-json.result ≡ asks (codes "json") o) met c.asks-json.ensures,
    )

pub returns : goal.returns
returns c =
    let a = app_of c.in_ok-command.command in
    let is : IsFaxtool a = c.in_ok-command.ensures in
    let met = (c.in-Ok.ensures.ok.2 (is_faxtool_simple a is)).1 in
    refused_for_job (map (λ word. word.now) c.args.words.now) a c.in_ok-unfit-in-Err-2.field-0 c.from-in-Err-2.result is
    (subst HasNoCommand met (search rules)) c.from-in-Err-2.ensures

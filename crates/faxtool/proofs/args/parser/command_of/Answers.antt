-- What the check asks of `command_of`.
use Rattle.std.proofs.Common.{◌≡◌, ◌∙◌, false, rules, sym}
use Rattle.clap.specs.declared.builder.command.Command.TheViews.{out-Command as fields_of}
use Rattle.faxtool.specs.Table.{app_in}
use Rattle.faxtool.proofs.CommandLemmas.{argument_added, arguments_there}
use Rattle.faxtool.proofs.args.parser.command_of.Goals as goal

pub loop-argument-preserved : goal.loop-argument-preserved
loop-argument-preserved c =
    let local : (fields_of c.in_ok-command.command).has_globals ≡ false = search rules in
    record {
      left = argument_added c.loop-argument.command c.in_ok-command.command c.arg_of.result (app_in c.args.entry.now)
          c.args.entry.now.arguments.now c.loop-argument.argument-index _ c.loop-argument-test.true c.in_ok-command.ensures
          c.arg_of.ensures.rule c.arg_of.ensures.local c.loop-argument.invariant.left;
      local = local;
    }

pub returns-clause-app : goal.returns-clause-app
returns-clause-app c =
    sym (arguments_there _ c.args.entry.now.arguments.now c.loop-argument.argument-index c.loop-argument-test.false)
    ∙ c.loop-argument.invariant.left

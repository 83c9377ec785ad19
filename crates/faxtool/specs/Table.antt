-- What the table of commands says to clap.
use Rattle.std.specs.Prelude.{List, [], ◌∷◌, Some, None, if◌then◌else◌, length, map}
use Rattle.clap.specs.Words.{App, Rule, new_app, new_rule, with_rule, with_subcommand}
use Rattle.faxtool.specs.declared.args.table.Argument.{Argument}
use Rattle.faxtool.specs.declared.args.table.Entry.{Entry}

-- the rule of an argument
abbrev pub rule_in : Argument → Rule
rule_in argument = record (new_rule argument.id.now) {
  long = if argument.is_option then Some argument.id.now else None;
  action = Some argument.action;
  value_names = length argument.shown.now;
  defaults = map (λ text. text.now) argument.defaults.now;
  parser = argument.parser;
  required = argument.required;
}

-- a command with more arguments
unfoldable pub with_arguments : App → List Argument → App
with_arguments app [] = app
with_arguments app (argument ∷ more) = with_arguments (with_rule app (rule_in argument)) more

-- the command of an entry
abbrev pub app_in : Entry → App
app_in entry = with_arguments (new_app entry.name.now) entry.arguments.now

-- the program with more commands
unfoldable pub with_commands : App → List Entry → App
with_commands app [] = app
with_commands app (entry ∷ more) = with_commands (with_subcommand app (app_in entry).top) more

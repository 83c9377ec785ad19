-- What one more row of a table of commands adds.
use Rattle.std.proofs.Common.{◌≡◌, ◌∙◌, ◌<◌, ◌≤◌, ◌+◌, ℕ, List, ap, drop, false, length, sym}
use Rattle.std.specs.Prelude.{slice_index_or}
use Rattle.std.proofs.lemmas.List.{at_drop_all, at_drop_more}
use Rattle.clap.specs.Words.{AddsArg, AddsSubcommand, App, app_of, rule_of, with_rule, with_subcommand}
use Rattle.clap.specs.declared.builder.arg.Arg.{Arg}
use Rattle.clap.specs.declared.builder.command.Command.{Command}
use Rattle.clap.specs.declared.builder.command.Command.TheViews.{out-Command as fields_of}
use Rattle.faxtool.specs.declared.args.table.Argument.{Argument}
use Rattle.faxtool.specs.declared.args.table.Entry.{Entry}
use Rattle.faxtool.specs.Table.{app_in, rule_in, with_arguments, with_commands}

-- an argument more
pub argument_added : (a b : Command) (arg : Arg) (app : App) (xs : List Argument) (i : ℕ) (d : Argument) → i < length xs
    → AddsArg a arg b → rule_of arg ≡ rule_in (slice_index_or xs i d) → arg.global ≡ false
    → with_arguments (app_of a) (drop i xs) ≡ app → with_arguments (app_of b) (drop (i + 1) xs) ≡ app
unfolding with_arguments
argument_added a b arg app xs i d within adds rule local left =
    ap (λ (c : App). with_arguments c (drop (i + 1) xs)) (adds.shape local ∙ ap (with_rule (app_of a)) rule)
    ∙ (sym (at_drop_more (with_arguments (app_of a)) xs i d within) ∙ left)

-- all arguments are there
pub arguments_there : (app : App) (xs : List Argument) (i : ℕ) → length xs ≤ i → with_arguments app (drop i xs) ≡ app
unfolding with_arguments
arguments_there app xs i past = at_drop_all (with_arguments app) xs i past

-- a command more
pub command_added : (a b c : Command) (app : App) (xs : List Entry) (i : ℕ) (d : Entry) → i < length xs
    → AddsSubcommand a c b → app_of c ≡ app_in (slice_index_or xs i d) → (fields_of c).has_globals ≡ false
    → with_commands (app_of a) (drop i xs) ≡ app → with_commands (app_of b) (drop (i + 1) xs) ≡ app
unfolding with_commands
command_added a b c app xs i d within adds is local left =
    ap (λ (e : App). with_commands e (drop (i + 1) xs))
    (adds.shape local ∙ ap (λ (e : App). with_subcommand (app_of a) e.top) is)
    ∙ (sym (at_drop_more (with_commands (app_of a)) xs i d within) ∙ left)

-- all commands are there
pub commands_there : (app : App) (xs : List Entry) (i : ℕ) → length xs ≤ i → with_commands app (drop i xs) ≡ app
unfolding with_commands
commands_there app xs i past = at_drop_all (with_commands app) xs i past

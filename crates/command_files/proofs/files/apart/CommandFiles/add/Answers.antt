-- What the check asks of `add`.
use Rattle.std.proofs.Common.{rules, ℕ, ◌∷◌, [], List, ap}
use Rattle.command_files.specs.Apart.{NamedFile}
use Rattle.command_files.specs.declared.files.apart.CommandFile.{CommandFile}
use Rattle.command_files.proofs.files.apart.CommandFiles.add.Goals as goal

pub returns : goal.returns
returns c =
    let file : CommandFile = record {
      role = c.args.role;
      name = c.in_ok-name.name;
      is_written = c.args.is_written;
      identity = c.in_ok-identity.identity;
    } in
    let names : List ℕ → NamedFile = λ name. record { role = c.args.role.now; name = name; is_written = c.args.is_written } in
    (file ∷ [], ap (λ name. names name ∷ []) c.in_ok-name.ensures.ok, search rules)

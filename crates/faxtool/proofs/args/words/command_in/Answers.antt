-- What the check asks of `command_in`.
use Rattle.std.proofs.Common.{rules, ◌≡◌, Some, codes}
use Rattle.clap.specs.Words.{found_of, rows_of, subcommand_rows_of}
use Rattle.clap.specs.Matches.{subcommand_name_of}
use Rattle.faxtool.proofs.JobLemmas.{met_of}
use Rattle.faxtool.proofs.args.words.command_in.Goals as goal

pub returns-in-Some-subcommand_matches-7 : goal.returns-in-Some-subcommand_matches-7
returns-in-Some-subcommand_matches-7 c =
    let name : subcommand_name_of c.args.matches.now ≡ Some (codes "station") = search rules in
    let met : subcommand_rows_of c.args.matches.now ≡ Some (codes "station", rows_of (found_of c.in-Some-subcommand_matches-7.inner.now)) =
    met_of _ _ _ _ _ name c.in-Some-subcommand_matches-7.ensures.rows in
    rw met c.station_command.ensures

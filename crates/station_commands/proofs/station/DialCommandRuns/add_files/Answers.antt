-- What the check asks of `add_files`.
use Rattle.std.proofs.Common.{◌++◌, ◌∷◌, [], codes, option_map}
use Rattle.std.specs.Prelude.{string_bytes}
use Rattle.command_files.specs.Apart.{may_be_written, printed, read_as}
use Rattle.command_files.proofs.ApartLemmas.{adds_on}
use Rattle.station_commands.specs.Files.{lines_read}
use Rattle.station_commands.proofs.station.DialCommandRuns.add_files.Goals as goal

pub returns : goal.returns
returns c =
    let trace = may_be_written (codes "--trace") (option_map string_bytes c.args.self.now.trace) in
    let input = read_as (codes "IN") (string_bytes c.args.self.now.input) in
    adds_on c.prints.result (lines_read ∷ []) (input ∷ (trace ++ printed ∷ [])) _ _ _ c.in_ok-reads.ensures
    (adds_on c.prints.result (input ∷ []) (trace ++ printed ∷ []) _ _ _ (rw c.as_str.ensures.value at c.in_ok-reads-2.ensures)
    (adds_on c.prints.result trace (printed ∷ []) _ _ _ (rw c.as_deref.ensures.value at c.in_ok-may_write.ensures) c.prints.ensures))

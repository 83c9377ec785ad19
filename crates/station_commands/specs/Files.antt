-- Which files the commands of a station read and write, in the order in which they are added.
use Rattle.std.specs.Prelude.{◌++◌, ◌∷◌, [], List, codes, option_map, string_bytes}
use Rattle.command_files.specs.Apart.{NamedFile, may_be_written, printed, read_as}
use Rattle.station_commands.specs.declared.station.AnswerCommand.{AnswerCommand}
use Rattle.station_commands.specs.declared.station.DialCommand.{DialCommand}

-- the lines of a station
abbrev pub lines_read : NamedFile
lines_read = read_as (codes "standard input") (codes "-")

-- the files of a station that answers
abbrev pub answer_files : AnswerCommand → List NamedFile
answer_files command =
    lines_read ∷ (may_be_written (codes "--trace") (option_map string_bytes command.trace) ++ printed ∷ [])

-- the files of a station that calls
abbrev pub dial_files : DialCommand → List NamedFile
dial_files command = lines_read ∷ (read_as (codes "IN") (string_bytes command.input)
    ∷ (may_be_written (codes "--trace") (option_map string_bytes command.trace) ++ printed ∷ []))

use Rattle.stations.proofs.Rows.{full_by_rows, kept_out, progress_by_rows, stops_are_said}
use Rattle.stations.proofs.laws.told_by_rows.Goals as goal

pub returns-clause-stops : goal.returns-clause-stops
returns-clause-stops c = stops_are_said

pub returns-clause-full : goal.returns-clause-full
returns-clause-full c = full_by_rows

pub returns-clause-kept_out : goal.returns-clause-kept_out
returns-clause-kept_out c = kept_out

pub returns-clause-progress : goal.returns-clause-progress
returns-clause-progress c = progress_by_rows

-- The lemmas of the commands.
mod EachRows
mod FirstLines
mod Given
mod PageReports
mod PrintedFiles
mod PrintedRows
mod RecordData
mod WaysFound

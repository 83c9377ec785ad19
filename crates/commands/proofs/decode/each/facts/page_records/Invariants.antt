-- What holds in the loop of `page_records`: the records so far.
use Rattle.std.proofs.Common.{◌≡◌, map, take}
use Rattle.serde_json.specs.View.{view}
use Rattle.commands.specs.PageFacts.{page_record}
use Rattle.commands.proofs.decode.each.facts.page_records.Given as goal

abbrev pub invariant-loop-facts : goal.invariant-loop-facts
invariant-loop-facts l = map view l.records.items ≡ map (page_record l.form) (take l.facts-index l.pages)

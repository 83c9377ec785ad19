use Rattle.std.proofs.Common.{◌≤◌, ◌↔◌, drop}
use Rattle.stations.specs.Limiting.{octets_of_pages}
use Rattle.stations.proofs.limiting.reach.Given as goal

abbrev pub invariant-loop-page : goal.invariant-loop-page
invariant-loop-page l = (l.octets ≤ octets_of_pages l.pages) ↔ (l.left ≤ octets_of_pages (drop l.page-index l.pages))

-- What holds in the loop of `codes_of`.
use Rattle.std.proofs.Common.{◌≡◌, ◌++◌, drop, map}
use Rattle.stations.specs.CodedDocuments.{coded_page}
use Rattle.stations.proofs.coded.codes_of.Given as goal

abbrev pub invariant-loop-page : goal.invariant-loop-page
invariant-loop-page l = l.codes.items ++ map (coded_page l.coding) (drop l.page-index l.pages) ≡ map (coded_page l.coding) l.pages

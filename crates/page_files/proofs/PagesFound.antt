-- How far the page reads that octets are.
use Rattle.std.proofs.Common.{ℕ, List, Some, None}
use Rattle.std.specs.Prelude.{IfSome, Option}
use Rattle.page_files.specs.Found.{ReadsSo, found_by, page_or_several}
use Rattle.page_files.specs.Identified.{IsTried}
use Rattle.page_files.specs.declared.identify.Identity.{Identity}
use Rattle.page_files.specs.declared.identify.Identity.TheVariants.{Known, Several, Nothing}
use Rattle.page_files.specs.declared.identify.Tried.{Tried}

-- that of the best way
pub found_reads : (octets : List ℕ) (identity : Identity) (best damaged : Option Tried) → IfSome best (IsTried octets)
    → ReadsSo octets (found_by identity best damaged)
found_reads octets Known (Some one) damaged tried = tried.1
found_reads octets Known None damaged tried = tt
found_reads octets Several best damaged tried = tt
found_reads octets (Nothing fault) best (Some one) tried = tt
found_reads octets (Nothing fault) best None tried = tt

-- that of the best way of the likely width
pub own_reads : (octets : List ℕ) (best : Option Tried) → IfSome best (IsTried octets) → ReadsSo octets (page_or_several best)
own_reads octets (Some one) tried = tried.1
own_reads octets None tried = tt

-- The pages of a document from a number on.
use Rattle.std.proofs.Common.{◌⊎◌, ℕ, Bool, Err, List, inl, inr}
use Rattle.command_files.specs.Bounds.{AreNoImages}
use Rattle.faults.specs.Faults.{IsOutside}
use Rattle.faults.specs.declared.fault.ToolFault.{ToolFault}
use Rattle.station_commands.specs.Stations.{SendsFrom}

-- octets that are no images have no pages
pub none_from : (fine : Bool) (from : ℕ) (fault : ToolFault) → IsOutside fault ⊎ ((octets : List ℕ) × AreNoImages fine octets fault)
    → SendsFrom fine from (Err fault)
none_from fine from fault (inl outside) = inl outside
none_from fine from fault (inr (octets, none)) = inr (octets, inl none)

-- If pages are kept before anything is said, each confirmed page is stored: no page is confirmed that is still in the answerer.
use Rattle.joined_terminals.specs.Held.{HeldAreDriven, HeldAreStored}
use Rattle.joined_terminals.specs.Kept.{ConfirmedAreStored, KeptAreDriven}

pub kept_are_driven : HeldAreDriven → KeptAreDriven
kept_are_driven held steps old new drives = held.driven steps old new (held.kept steps old new drives)

pub confirmed_are_stored : HeldAreDriven → HeldAreStored → ConfirmedAreStored
confirmed_are_stored held stored document wish caps limits steps first last full begins drives =
    stored document wish caps limits steps first last full begins (held.kept steps first last drives)

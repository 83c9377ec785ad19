-- What a handle owns: nothing at null, else the box there.
use Rattle.std.specs.Prelude.{Some, None}
use base.Fml.{Fml, feq}
use mir.Syntax.{Ty}
use denote.RattleType.{RattleType}
use denote.RawPtr.{Ptr, null_ptr}
use Rattle.std.specs.declared.option.Option.{Option}
use Rattle.std.specs.Box.Ownership.{box_owns}

-- What a handle owns: nothing, and its pointer is null, if it has no value; otherwise the box of its value at its pointer, which `holds`
-- allows to free.
abbrev pub owned : (Ty → Ptr → Fml) → (R : RattleType) → Ptr → Option R.Denot → Fml
owned holds R p None = feq Ptr p null_ptr
owned holds R p (Some x) = box_owns holds R p x

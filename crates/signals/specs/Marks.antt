-- The marks of blocks, by which a PPS names them.
use Rattle.std.specs.Prelude.{Bool, ◌&&◌, nat_eq}
use Rattle.signals.specs.declared.mark.Mark.{Mark}

-- two marks have the same counts of page and block
abbrev pub same_mark : Mark → Mark → Bool
same_mark m n = nat_eq m.page n.page && nat_eq m.block n.block

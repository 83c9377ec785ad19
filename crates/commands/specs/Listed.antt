-- The names of files in a list.
use Rattle.std.specs.Prelude.{ℕ, Bool, List, None, Option, Some, codes, cond, false, length, nat_eq, ◌&&◌, ◌-◌, nat_lt, slice_index, string_bytes, take}
use Rattle.std.specs.Str.{bytes_eq}
use Rattle.commands.specs.declared.decode.each.listed.NameList.{NameList}

-- the octet that ends each name: 0, or LF
abbrev pub end_octet : Bool → ℕ
end_octet null = cond null 0 10

-- a name without the octet that ends it, if it has that
abbrev pub without_end : List ℕ → ℕ → List ℕ
without_end octets end = cond (nat_lt 0 (length octets) && nat_eq (slice_index octets (length octets - 1)) end)
    (take (length octets - 1) octets) octets

-- the list of the names of files is standard input, and this name of a file is that too
abbrev pub lists_itself : Option NameList → List ℕ → Bool
lists_itself None name = false
lists_itself (Some list) name = bytes_eq name (codes "-") && bytes_eq (string_bytes list.file) (codes "-")

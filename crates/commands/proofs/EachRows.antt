-- What `decode --each` says and writes, by whole lines, records and names: each row is computed.
use Rattle.std.proofs.Common.{◌≡◌, append_assoc, refl}
use Rattle.std.specs.Fmt.{digits}
use Rattle.std.specs.Path.{path_components, path_names}
use Rattle.page_files.specs.DecodeRecords.{but_last}
use Rattle.commands.specs.EachRows.{EndsByPage, ImagesByName, LinesBelow, LinesByEnd, NamesByOctets, PagesByRecords, RowsAreEnough}

pub lines_by_end : LinesByEnd
unfolding but_last digits path_components path_names
lines_by_end = record {
  whole = refl;
  no_end = refl;
  mended = refl;
  more = refl;
  repaired = refl;
  unsought = refl;
  cut = refl;
  lost = refl;
  not_written = refl;
  two_dims = refl;
  no_eols = refl;
  as_identify = λ said. simp (append_assoc);
  no_width = refl;
  nothing = refl;
  failed = refl;
}

pub lines_below : LinesBelow
unfolding but_last digits path_components path_names
lines_below = record {
  told = refl;
  left_out = refl;
  no_image = refl;
  words = refl;
  all = refl;
  cut_before = refl;
  lost_before = refl;
  read_before = refl;
}

pub images_by_name : ImagesByName
unfolding digits path_components path_names
images_by_name = record {
  own_place = refl;
  of_root = refl;
  of_above = refl;
  standard = refl;
  dots = refl;
  nine = refl;
  ten = refl;
  hundred = refl;
  thousand = refl;
  most = refl;
  root_is_left = refl;
  above_is_left = refl;
  here_is_not = refl;
  dots_are_not = refl;
}

pub names_by_octets : NamesByOctets
unfolding digits
names_by_octets = record {
  plain = refl;
  line_feed = refl;
  backslash = refl;
  delete = refl;
  control = refl;
  letter = refl;
  latin = refl;
  by_lines = refl;
  last = refl;
  by_null = refl;
  empty = refl;
}

pub ends_by_page : EndsByPage
unfolding digits
ends_by_page = record {
  whole = refl;
  told = refl;
  mended = refl;
  no_eofb = refl;
  none_repaired = refl;
  repaired = refl;
  not_sought = refl;
  cut = refl;
  cut_last = refl;
  lost = refl;
  not_written = refl;
  after_read = refl;
  after_cut = refl;
  after_mended = refl;
  after_lost = refl;
  after_unwritten = refl;
}

pub rows_are_enough : RowsAreEnough
unfolding digits
rows_are_enough = record {
  none = refl;
  one = refl;
  by_chance = refl;
  beyond = refl;
}

pub pages_by_records : PagesByRecords
unfolding digits
pages_by_records = record {
  read = refl;
  cut = refl;
  repaired = refl;
  unwritten = refl;
  plain = refl;
  told = refl;
  failed = refl;
}

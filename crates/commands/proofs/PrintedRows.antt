-- What is printed of several files: each row is computed.
use Rattle.std.proofs.Common.{◌∷◌, [], false, refl, true}
use Rattle.std.specs.Fmt.{digits}
use Rattle.std.specs.Prelude.{codes}
use Rattle.std.specs.Str.{chars, is_utf8}
use lib.Utf8.{encode}
use Rattle.commands.specs.PrintedRows.{PrintedInOrder, SaidByLines, UnreadByKind}

pub printed_in_order : PrintedInOrder
printed_in_order = record {
  both = (codes "a", codes "b", true, true, (refl, refl), (codes "b", [], true, true, (refl, refl), (refl, refl), refl, refl), refl, refl);
  twice = (codes "a", codes "a", true, true, (refl, refl), (codes "a", [], true, true, (refl, refl), (refl, refl), refl, refl), refl, refl);
  lacking = (codes "a", [], false, true, (refl, refl), (refl, refl), refl, refl);
  none = (refl, refl);
}

pub said_by_lines : SaidByLines
unfolding chars digits encode is_utf8
said_by_lines = record {
  first = refl;
  alone = refl;
  line = refl;
  explained = refl;
  no_page = refl;
  own_name = refl;
  untold = refl;
  known = refl;
  failed = refl;
}

pub unread_by_kind : UnreadByKind
unread_by_kind = record {
  first = λ two_dims rows. refl;
  rows = λ rows. refl;
  named = λ rows. refl;
  nothing = refl;
  page = λ way. refl;
}

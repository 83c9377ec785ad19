-- What is printed of several files, and what `identify` prints of one of them, by whole lines, records and names.
use Rattle.std.specs.Prelude.{ℕ, ◌≡◌, ◌∷◌, [], Bool, true, false, List, Some, None, codes}
use Rattle.serde_json.specs.Data.{boolean, member, no_members, object}
use Rattle.faults.specs.RecordLines.{count, words}
use Rattle.faults.specs.declared.fault.ToolFault.TheVariants as fault
use Rattle.page_files.specs.declared.found.Found.TheVariants as found
use Rattle.page_files.specs.declared.identify.Tried.{Tried}
use Rattle.page_files.specs.declared.no_eols.NoEols.{NoEols}
use Rattle.page_files.specs.declared.two_dim.TwoDim.{TwoDim}
use Rattle.commands.specs.Damaged.{format_name, is_unknown, unread_in}
use Rattle.commands.specs.Names.{record_name, untold_name}
use Rattle.commands.specs.Printed.{ArePrinted}
use Rattle.commands.specs.SeveralLines.{first_line, known_record, line_text, or_no_page}
use Rattle.commands.specs.declared.damaged.Unread.TheVariants as unread

-- of a file its name is printed, and it is done
abbrev IsItself : List ℕ → List ℕ → Bool → Type 0
IsItself name text is = (text ≡ name) × (is ≡ true)

-- of a file its name is printed, and it isn't done
abbrev IsLacking : List ℕ → List ℕ → Bool → Type 0
IsLacking name text is = (text ≡ name) × (is ≡ false)

-- law: files are printed in their order, each once, and all are done if each is
pub record PrintedInOrder : Type 0 where
  pub both : ArePrinted IsItself (codes "a" ∷ codes "b" ∷ []) (codes "ab") true
  pub twice : ArePrinted IsItself (codes "a" ∷ codes "a" ∷ []) (codes "aa") true
  pub lacking : ArePrinted IsLacking (codes "a" ∷ []) (codes "a") false
  pub none : ArePrinted IsItself [] [] true

-- law: what `identify` prints of a file, by what is said of it
pub record SaidByLines : Type 0 where
  pub first : first_line (codes "one\ntwo\n") ≡ codes "one"
  pub alone : first_line (codes "one") ≡ codes "one"
  pub line : line_text (codes "a\n") (codes "b") None ≡ codes "a\\x0a: b\n"
  pub explained : line_text (codes "a") (codes "fault 8") (Some (codes "c")) ≡ codes "a: fault 8\n    c\n"
  pub no_page : or_no_page [] ≡ codes "no page and no known format\n"
  pub own_name : record_name (codes "a\n") ≡ codes "a\n"
  pub untold : record_name (untold_name (97 ∷ 0xE9 ∷ [])) ≡ codes "a\\xe9"
  pub known : known_record (codes "a") (codes "b") true None None ≡ object (member (codes "file") (words (codes "a"))
      (member (codes "is") (words (codes "b")) (member (codes "known") (boolean true) no_members)))
  pub failed : known_record (codes "a") (codes "fault 8") false (Some (fault.No 8)) (Some (codes "c")) ≡ object
      (member (codes "fault") (count 8) (member (codes "file") (words (codes "a")) (member (codes "is") (words (codes "fault 8"))
      (member (codes "known") (boolean false) (member (codes "words") (words (codes "c")) no_members)))))

-- law: of octets that are nothing known MR is said first, and of others nothing that isn't read
pub record UnreadByKind : Type 0 where
  pub first : (two_dims : TwoDim) (rows : NoEols) → unread_in (Some two_dims) (Some rows) ≡ Some (unread.TwoDims two_dims)
  pub rows : (rows : NoEols) → unread_in None (Some rows) ≡ Some (unread.NoEols rows)
  pub named : (rows : NoEols) → format_name (unread.NoEols rows) ≡ codes "T.4 without EOLs"
  pub nothing : is_unknown found.Nothing ≡ true
  pub page : (way : Tried) → is_unknown (found.Page way) ≡ false

-- What `identify` prints of several files: a line or a record of each, with what it says of that file alone.
use Rattle.std.specs.Prelude.{ℕ, ◌≡◌, ◌⊎◌, ◌++◌, ◌==◌, Bool, true, false, List, [], Option, Some, None, Result, Ok, Err, codes, cond}
use Rattle.std.specs.Prelude.{length, map, option_map, string_bytes}
use Rattle.std.specs.List.{before_first}
use Rattle.std.specs.Str.{is_utf8}
use Rattle.serde_json.specs.Data.{Data, boolean, member, no_members, object}
use Rattle.command_files.specs.Runs.{completeness_of}
use Rattle.command_files.specs.declared.command.Completeness.{Completeness}
use Rattle.faults.specs.FaultKinds.{kind_of, number_of}
use Rattle.faults.specs.Faults.{IsOutside, IsUnread, fault_text}
use Rattle.faults.specs.RecordLines.{count, record_line, words}
use Rattle.faults.specs.declared.fault.ToolFault.{ToolFault}
use Rattle.page_files.specs.Found.{Finds, found_line}
use Rattle.page_files.specs.TwoDims.{said_line}
use Rattle.page_files.specs.Unread.{UnreadLines, rows_line}
use Rattle.page_files.specs.declared.found.Found.{Found}
use Rattle.page_files.specs.declared.found.Found.TheVariants as found
use Rattle.commands.specs.Damaged.{AreUnread, is_unknown}
use Rattle.commands.specs.Each.{words_line}
use Rattle.commands.specs.Names.{is_untold, record_name, shown_name}
use Rattle.commands.specs.Printed.{ArePrinted}
use Rattle.commands.specs.Several.{is_known, record_with_found}
use Rattle.commands.specs.declared.damaged.Unread.{Unread}
use Rattle.commands.specs.declared.damaged.Unread.TheVariants as unread
use Rattle.commands.specs.declared.identify.several.Said.{Said}
use Rattle.commands.specs.declared.identify.several.SeveralCommand.{SeveralCommand}

-- ---- what is said of a file

-- the line of octets that aren't read
abbrev pub unread_line : Unread → List ℕ
unread_line (unread.TwoDims said) = said_line said
unread_line (unread.NoEols said) = rows_line said

-- the lines of octets that are this, by whether they are nothing known: then those that say what isn't read
abbrev pub AreLines : Bool → List ℕ → Found → List ℕ → Type 0
AreLines true octets what lines = UnreadLines octets lines
AreLines false octets what lines = lines ≡ found_line octets what

-- those lines, or the one of octets of which there is none
abbrev pub or_no_page : List ℕ → List ℕ
or_no_page lines = cond (length lines == 0) (codes "no page and no known format\n") lines

-- what is said of octets that are this, and perhaps something that isn't read
abbrev pub IsTextOf : List ℕ → Found → Option Unread → List ℕ → Type 0
IsTextOf octets what (Some said) text = text ≡ unread_line said
IsTextOf octets what None text = (lines : List ℕ) × AreLines (is_unknown what) octets what lines × (text ≡ or_no_page lines)

-- of a file of these octets this is said, and no fault
pub record SaysOctets (octets : List ℕ) (said : Said) : Type 0 where
  pub finds : Finds octets said.found
  pub unread : AreUnread octets said.found said.unread
  pub text : IsTextOf octets said.found said.unread said.text.items
  pub known : said.is_known ≡ is_known said.found
  pub fault : said.fault ≡ None
  pub words : said.words ≡ None

-- of a file that isn't read this is said, and that it isn't known
pub record SaysNothing (line : List ℕ) (why : Option ToolFault) (said : Said) : Type 0 where
  pub found : said.found ≡ found.Nothing
  pub unread : said.unread ≡ None
  pub text : said.text.items ≡ line
  pub known : said.is_known ≡ false
  pub fault : said.fault ≡ why

-- what is said of a file of this name: what its octets are, or that its name isn't UTF-8, or the fault of one that can't be read
abbrev pub IsSaid : List ℕ → Said → Type 0
IsSaid name said = ((octets : List ℕ) × SaysOctets octets said)
    ⊎ (((is_untold name ≡ true) × SaysNothing (codes "its name isn't UTF-8\n") None said × (said.words ≡ None))
    ⊎ ((fault : ToolFault) × IsUnread fault × SaysNothing (fault_text fault ++ codes "\n") (Some fault) said))

-- ---- how it is printed

-- the first line of a text, without its end; nothing if the text isn't UTF-8
abbrev pub first_line : List ℕ → List ℕ
first_line text = cond (is_utf8 text) (before_first (λ octet. octet == 10) text) []

-- the record of a file of this name, without the way in which it is read; it has both the number and the words of a fault, or neither
abbrev pub known_record : List ℕ → List ℕ → Bool → Option ToolFault → Option (List ℕ) → Data
known_record name is known (Some fault) (Some text) = object (member (codes "fault") (count (number_of (kind_of fault)))
    (member (codes "file") (words name) (member (codes "is") (words is) (member (codes "known") (boolean known)
    (member (codes "words") (words text) no_members)))))
known_record name is known (Some fault) None = object (member (codes "file") (words name) (member (codes "is") (words is)
    (member (codes "known") (boolean known) no_members)))
known_record name is known None text = object (member (codes "file") (words name) (member (codes "is") (words is)
    (member (codes "known") (boolean known) no_members)))

-- the line of a file of this name, and its fault's words under it, if they are shown
abbrev pub line_text : List ℕ → List ℕ → Option (List ℕ) → List ℕ
line_text name is text = (shown_name name ++ (codes ": " ++ (is ++ codes "\n"))) ++ words_line text

-- the record of a file of this name, with what is said of it in one line
abbrev pub said_data : List ℕ → List ℕ → Said → Data
said_data name is said = record_with_found said.unread said.found
    (known_record (record_name name) is said.is_known said.fault (option_map string_bytes said.words))

-- what is printed of a file of this name: a record, or the first line of what is said after the name, and its fault's words under it
abbrev pub said_text : Bool → List ℕ → Said → List ℕ
said_text true name said = record_line (said_data name (first_line said.text.items) said)
said_text false name said = line_text name (first_line said.text.items) (option_map string_bytes said.words)

-- these octets are printed of a file of this name, and it is known what it is, or not
abbrev pub IsSaidSo : Bool → List ℕ → List ℕ → Bool → Type 0
IsSaidSo records name text known = (said : Said) × IsSaid name said × (text ≡ said_text records name said) × (known ≡ said.is_known)

-- the files of a command, by their names
abbrev pub names_of : SeveralCommand → List (List ℕ)
names_of command = map string_bytes command.files.items

-- The line or record of each file was printed, in their order, and all was done if it is known what each is; or standard output failed, or
-- memory. That these octets are what standard output got is said of the function that prints them, over any writer.
abbrev pub SeveralGives : SeveralCommand → Result Completeness ToolFault → Type 0
SeveralGives command (Ok completeness) = (text : List ℕ) × (known : Bool)
    × ArePrinted (IsSaidSo command.records) (names_of command) text known × (completeness ≡ completeness_of known)
SeveralGives command (Err fault) = IsOutside fault

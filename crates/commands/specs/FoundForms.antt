-- How octets are decoded: as is given, or else as `identify` says it.
use Rattle.std.specs.Prelude.{ℕ, ◌≡◌, Bool, IfSome, List, Option, Some, None, Result, Ok, Err, if◌then◌else◌}
use Rattle.page_files.specs.Found.{FindsBy}
use Rattle.page_files.specs.LaterPages.{BeginsWith}
use Rattle.page_files.specs.Sources.{IsPageIn}
use Rattle.page_files.specs.declared.found.Found.{Found}
use Rattle.page_files.specs.declared.found.Found.TheVariants as found
use Rattle.page_files.specs.declared.options.PageForm.{PageForm}
use Rattle.commands.specs.Damaged.{AreUnread, is_damaged_page}
use Rattle.commands.specs.Several.{bits_in}
use Rattle.commands.specs.declared.damaged.Unread.{Unread}
use Rattle.commands.specs.declared.damaged.Unread.TheVariants as unread
use Rattle.commands.specs.declared.decode.found_form.Way.{Way}
use Rattle.commands.specs.declared.decode.ends.FileEnd.{FileEnd}
use Rattle.commands.specs.declared.decode.ends.FileEnd.TheVariants as file

-- a way to read pages, with the lines that are asked for
abbrev pub lined : Bool → PageForm → PageForm
lined fine form = record form { fine = fine }

-- what is said of octets that are this, which isn't read
abbrev pub unread_end : Unread → FileEnd
unread_end (unread.TwoDims said) = file.TwoDims
unread_end (unread.NoEols said) = file.NoEols said

-- The form in which octets are decoded that are this, and perhaps something that isn't read, or what is said of octets that aren't decoded.
abbrev pub form_by : Bool → Option Unread → Found → Result PageForm FileEnd
form_by fine (Some said) what = Err (unread_end said)
form_by fine None (found.Page way) = Ok (lined fine way.form)
form_by fine None (found.Begun way) = if is_damaged_page way then Ok (lined fine way.form) else Err file.Nothing
form_by fine None (found.Format name) = Err (file.NoFax name)
form_by fine None found.Several = Err file.NoWidth
form_by fine None found.Nothing = Err file.Nothing

-- octets are identified, by a likely width if one is given, and this is how they are decoded then
abbrev pub IsFoundForm : Option ℕ → Bool → List ℕ → Result PageForm FileEnd → Type 0
IsFoundForm likely fine octets form = (what : Found) × (said : Option Unread) × FindsBy likely octets what
    × AreUnread octets what said × (form ≡ form_by fine said what)

-- the bits of the first page's code, if octets are a page that is read to its end
abbrev pub used_in : Found → Option ℕ
used_in (found.Page way) = bits_in way.end
used_in (found.Begun way) = None
used_in (found.Format name) = None
used_in found.Several = None
used_in found.Nothing = None

-- the form of a way to decode octets, or what is said of octets that aren't decoded
abbrev pub form_in : Result Way FileEnd → Result PageForm FileEnd
form_in (Ok way) = Ok way.form
form_in (Err end) = Err end

-- octets begin with a page's code of as many bits as a way knows, and with the page that it has
abbrev pub BeginsSo : List ℕ → Way → Type 0
BeginsSo octets way = IfSome way.used (BeginsWith way.form octets) × IfSome way.page (IsPageIn octets)

-- how octets are decoded: in the form that is given, or else as they are identified
abbrev pub IsFormOf : Option PageForm → Option ℕ → Bool → List ℕ → Result PageForm FileEnd → Type 0
IsFormOf (Some given) likely fine octets form = form ≡ Ok given
IsFormOf None likely fine octets form = IsFoundForm likely fine octets form

-- the width that is given: that of the form, or else the likely one
abbrev pub given_width : Option PageForm → Option ℕ → Option ℕ
given_width (Some form) likely = Some form.width
given_width None likely = likely

-- The texts of numbers, as C has them.
use Rattle.std.specs.Prelude.{ℕ, ◌≡◌, ◌++◌, ◌∷◌, ◌&&◌, [], Bool, true, List, codes, cond, map, nat_eq, nat_lt}
use Rattle.g3fax.specs.declared.texts.Text.{Text}

-- the texts of statuses
abbrev pub status_texts : List (ℕ × List ℕ)
status_texts =
    (0, codes "done")
    ∷ (1, codes "the width isn't 1 to 2432 pixels")
    ∷ (3, codes "the page has more than 20000 rows")
    ∷ (4, codes "the page has no row")
    ∷ (5, codes "the header is no raw PBM header")
    ∷ (6, codes "the rows of the image are cut short")
    ∷ (7, codes "there is no image")
    ∷ (9, codes "no memory")
    ∷ (10, codes "no code that may stand there")
    ∷ (11, codes "the bits end inside a code")
    ∷ (12, codes "the run passes the row's width")
    ∷ (13, codes "the mode doesn't move to the right")
    ∷ (14, codes "the mode passes the row's width")
    ∷ (15, codes "the horizontal mode has no pixel")
    ∷ (16, codes "an extension code")
    ∷ (17, codes "the end of the facsimile block is missing")
    ∷ (18, codes "more than 20000 coded rows")
    ∷ (20, codes "the address isn't FF")
    ∷ (21, codes "the control field is neither 03 nor 13")
    ∷ (22, codes "a field is missing or cut short")
    ∷ (26, codes "a page isn't 1728, 2048 or 2432 pixels wide, as a call can have it")
    ∷ (28, codes "the stations are not compatible")
    ∷ (100, codes "the handle is empty")
    ∷ (101, codes "the handle has something of another kind")
    ∷ (102, codes "the handle that is to be filled has something")
    ∷ (103, codes "the buffer has too little room")
    ∷ (104, codes "a number that stands for no choice")
    ∷ (105, codes "a length that isn't allowed")
    ∷ (106, codes "nothing is there")
    ∷ (107, codes "the size that a struct begins with isn't its own: begin it by G3_INIT")
    ∷ (108, codes "no memory: a frame that was heard is lost")
    ∷ (109, codes "a struct is longer, or has more words, than this version of the library knows")
    ∷ (110, codes "an address is NULL")
    ∷ []

-- the texts of why a call ended; 0 while it goes on
abbrev pub end_texts : List (ℕ × List ℕ)
end_texts =
    (0, codes "the call goes on")
    ∷ (1, codes "all pages went over")
    ∷ (2, codes "no DIS or no DCS came")
    ∷ (3, codes "the stations are not compatible")
    ∷ (4, codes "training failed at the lowest speed")
    ∷ (5, codes "a command had no reply, three times")
    ∷ (6, codes "a block was asked for a fourth time")
    ∷ (7, codes "the answerer was busy for too long")
    ∷ (8, codes "the other station left before all pages were confirmed")
    ∷ (9, codes "a page couldn't be read")
    ∷ (10, codes "a page's code is too long")
    ∷ (11, codes "the call was stopped here")
    ∷ (12, codes "the line was lost")
    ∷ []

-- the names of carriers
abbrev pub carrier_names : List (ℕ × List ℕ)
carrier_names =
    (1, codes "v21")
    ∷ (2, codes "v27ter-2400")
    ∷ (3, codes "v27ter-4800")
    ∷ (4, codes "v29-7200")
    ∷ (5, codes "v29-9600")
    ∷ (6, codes "v17-7200")
    ∷ (7, codes "v17-9600")
    ∷ (8, codes "v17-12000")
    ∷ (9, codes "v17-14400")
    ∷ []

-- the fields of a struct that may have a number that isn't allowed, as g3fax.h names them, by their places from 1
abbrev pub code_fields : List (ℕ × List ℕ)
code_fields = (1, codes "coding") ∷ (2, codes "order") ∷ []

-- the same of what an answerer can do
abbrev pub caps_fields : List (ℕ × List ℕ)
caps_fields = (1, codes "modems") ∷ (2, codes "widest") ∷ (3, codes "limit") ∷ []

-- the same of what a caller wishes
abbrev pub wish_fields : List (ℕ × List ℕ)
wish_fields = (1, codes "modems") ∷ (2, codes "coding") ∷ (3, codes "frame") ∷ []

-- the text of a number by a table; of one that isn't there, another text
abbrev pub text_by : List (ℕ × List ℕ) → List ℕ → ℕ → List ℕ
text_by [] other number = other
text_by (row ∷ rows) other number = cond (nat_eq number row.0) row.1 (text_by rows other number)

-- a text as C has it, with a 0 at its end
abbrev pub ended : List ℕ → List ℕ
ended text = text ++ 0 ∷ []

-- each number is above the one before it
abbrev pub rises : List ℕ → Bool
rises [] = true
rises (one ∷ []) = true
rises (one ∷ other ∷ rest) = nat_lt one other && rises (other ∷ rest)

-- what C reads of octets: those before the first 0
abbrev pub read_in_c : List ℕ → List ℕ
read_in_c [] = []
read_in_c (octet ∷ octets) = cond (nat_eq octet 0) [] (octet ∷ read_in_c octets)

-- all texts of a table are read as they stand there, and each has its number alone: the numbers rise
abbrev pub AreTexts : List (ℕ × List ℕ) → Type 0
AreTexts rows = (map (λ row. read_in_c (ended row.1)) rows ≡ map (λ row. row.1) rows) × (rises (map (λ row. row.0) rows) ≡ true)

-- a table whose texts are as C has them
abbrev pub all_ended : List (ℕ × List ℕ) → List (ℕ × List ℕ)
all_ended rows = map (λ row. (row.0, ended row.1)) rows

-- rows of code, as a table
abbrev pub as_table : List Text → List (ℕ × List ℕ)
as_table rows = map (λ row. (row.0, row.1.now)) rows

-- The law: C reads each text as it stands in its table, where each number stands once.
pub record TextsAreRead : Type 0 where
  pub statuses : AreTexts status_texts
  pub ends : AreTexts end_texts
  pub carriers : AreTexts carrier_names
  pub of_code : AreTexts code_fields
  pub of_caps : AreTexts caps_fields
  pub of_wish : AreTexts wish_fields

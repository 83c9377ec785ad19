-- The lines of records: JSON, one object a line.
use Rattle.std.specs.Prelude.{ℕ, ◌++◌, ◌∷◌, [], List}
use Rattle.serde_json.specs.Data.{Data, number, string, unsigned}
use Rattle.serde_json.specs.Written.{compact_text}

-- a text of JSON, from its octets of UTF-8
abbrev pub words : List ℕ → Data
words text = string text

-- a number of JSON, from 0 on
abbrev pub count : ℕ → Data
count n = number (unsigned n)

-- A record in one line: its JSON with no space outside its texts and its members in the order of their names, and a line feed.
abbrev pub record_line : Data → List ℕ
record_line value = compact_text value ++ 10 ∷ []

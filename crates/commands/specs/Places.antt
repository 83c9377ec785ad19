-- Where the pages of a file of `decode --each` are written.
use Rattle.std.specs.Prelude.{ℕ, ◌++◌, ◌||◌, ◌∷◌, [], Bool, false, List, codes, cond, flat_map, nat_lt}
use Rattle.std.specs.Fmt.{decimal}
use Rattle.std.specs.Path.{cur_dir, parent_dir, path_components, root_dir, slash}
use Rattle.std.specs.Str.{bytes_eq}
use Rattle.faults.specs.RecordLines.{words}
use Rattle.serde_json.specs.Data.{Data}

-- a part of a file's name as it stands in the place of its pages: after a slash; the root, `.` and `..` are left out
abbrev pub part_text : List ℕ → List ℕ
part_text part = cond (bytes_eq part root_dir || (bytes_eq part cur_dir || bytes_eq part parent_dir)) [] (slash ∷ part)

-- the file that standard input counts as
abbrev pub file_name : List ℕ → List ℕ
file_name name = cond (bytes_eq name (codes "-")) (codes "stdin") name

-- the file's own place under a folder
abbrev pub place_under : List ℕ → List ℕ → List ℕ
place_under folder name = folder ++ flat_map part_text (path_components (file_name name))

-- a part of a name is the root or `..`, which aren't in the place of a file's pages
abbrev pub is_left_out : List ℕ → Bool
is_left_out part = bytes_eq part root_dir || bytes_eq part parent_dir

-- one of these parts is
abbrev pub have_left_out : List (List ℕ) → Bool
have_left_out [] = false
have_left_out (part ∷ parts) = is_left_out part || have_left_out parts

-- such a part as a text
abbrev pub left_out_part : List ℕ → List Data
left_out_part part = cond (is_left_out part) (words part ∷ []) []

-- such parts of a file's name
abbrev pub left_out_words : List ℕ → List Data
left_out_words name = flat_map left_out_part (path_components (file_name name))

-- a file's name has such a part
abbrev pub has_left_out : List ℕ → Bool
has_left_out name = have_left_out (path_components (file_name name))

-- the zeros with which a number has four digits
abbrev pub zeros_before : ℕ → List ℕ
zeros_before number = cond (nat_lt number 10) (codes "000") (cond (nat_lt number 100) (codes "00")
    (cond (nat_lt number 1000) (codes "0") []))

-- the name of the image of a page of this number, of a file with this place
abbrev pub page_name : List ℕ → ℕ → List ℕ
page_name place number = place ++ (codes "-" ++ (zeros_before number ++ (decimal number ++ codes ".pbm")))

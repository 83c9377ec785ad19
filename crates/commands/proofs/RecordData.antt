-- No record of a file and its pages has a float.
use Rattle.std.proofs.Common.{Equal, Greater, Less, Ordering, ◌≡◌, ◌∙◌, ℕ, Bool, true, false, List, [], ◌∷◌, ap, cond, map, refl}
use Rattle.std.specs.Prelude.{◌||◌, ◌++◌, flat_map, Option, Some, None, String, codes, nat_lt, unwrap_or, ◌^◌}
use Rattle.std.specs.Ordering.{nat_cmp, match_ordering}
use Rattle.std.specs.Cmp.Lexicographic.{slice_cmp}
use Rattle.serde_json.specs.Data.{Data, Members, array, boolean, member, no_members, null, number, object, put, string}
use Rattle.serde_json.specs.View.{items_of}
use Rattle.serde_json.specs.Written.{has_float, items_have_float, members_have_float}
use Rattle.faults.specs.FaultKinds.{kind_of, number_of}
use Rattle.faults.specs.RecordLines.{count, words}
use Rattle.faults.specs.declared.fault.ToolFault.{ToolFault}
use Rattle.page_files.specs.declared.found.Found.{Found}
use Rattle.page_files.specs.declared.found.Found.TheVariants as found
use Rattle.page_files.specs.declared.identify.Tried.{Tried}
use Rattle.page_files.specs.declared.options.PageForm.{PageForm}
use Rattle.std.specs.Path.{path_components}
use Rattle.commands.specs.Several.{bits_in, format_of, record_with_found, way_of, with_way_found}
use Rattle.commands.specs.SeveralLines.{known_record}
use Rattle.commands.specs.Each.{each_record, fault_of, fault_record, file_record, is_silent, left_out, not_read, pages_in, plain_record}
use Rattle.commands.specs.Each.{record_by, with_pages}
use Rattle.commands.specs.Places.{file_name, is_left_out, left_out_part}
use Rattle.commands.specs.PageFacts.{bit_of, code_word, fault_number, fault_of as page_fault, has_images, is_salvaged, lines_word}
use Rattle.commands.specs.PageFacts.{maybe_count, maybe_words, order_word, page_record, repaired_in, with_content, with_damage, with_way}
use Rattle.commands.specs.declared.damaged.Unread.{Unread}
use Rattle.commands.specs.declared.decode.each.facts.PageFacts.{PageFacts}
use Rattle.commands.specs.declared.decode.each.pages.PageEnd.{PageEnd}
use Rattle.commands.specs.declared.decode.each.report.FileReport.{FileReport}
use Rattle.commands.specs.declared.decode.ends.FileEnd.{FileEnd}
use Rattle.commands.specs.declared.decode.ends.FileEnd.TheVariants as file

-- ---- objects

both_false : (a b : Bool) → a ≡ false → b ≡ false → (a || b) ≡ false
both_false a b one other = ap (λ c. c || b) one ∙ other

first_false : (a b : Bool) → (a || b) ≡ false → a ≡ false
first_false false b neither = refl
first_false true b neither = neither

last_false : (a b : Bool) → (a || b) ≡ false → b ≡ false
last_false false b neither = neither
last_false true b neither = absurd (cc)

-- a member that is put before, in place of or after another one
placed_whole : (o : Ordering) (k : List ℕ) (d : Data) (l : List ℕ) (e : Data) (ms : Members) → has_float d ≡ false
    → members_have_float (member l e ms) ≡ false → members_have_float (put k d ms) ≡ false
    → members_have_float (match_ordering o (member k d (member l e ms)) (member l d ms) (member l e (put k d ms))) ≡ false
placed_whole Less k d l e ms whole rest later = both_false (has_float d) (members_have_float (member l e ms)) whole rest
placed_whole Equal k d l e ms whole rest later =
    both_false (has_float d) (members_have_float ms) whole (last_false (has_float e) (members_have_float ms) rest)
placed_whole Greater k d l e ms whole rest later =
    both_false (has_float e) (members_have_float (put k d ms)) (first_false (has_float e) (members_have_float ms) rest) later

put_whole : (k : List ℕ) (d : Data) (ms : Members) → has_float d ≡ false → members_have_float ms ≡ false
    → members_have_float (put k d ms) ≡ false
put_whole k d no_members whole rest = both_false (has_float d) false whole refl
put_whole k d (member l e ms) whole rest = placed_whole (slice_cmp nat_cmp k l) k d l e ms whole rest
    (put_whole k d ms whole (last_false (has_float e) (members_have_float ms) rest))

-- ---- a page

count_or_null : (b : Bool) (n : ℕ) → has_float (cond b (count n) null) ≡ false
count_or_null true n = refl
count_or_null false n = refl

maybe_count_whole : (n : Option ℕ) → has_float (maybe_count n) ≡ false
maybe_count_whole None = refl
maybe_count_whole (Some n) = count_or_null (nat_lt n (2 ^ 64)) n

maybe_words_whole : {Z : Type 0} → (text : Option (String Z)) → has_float (maybe_words text) ≡ false
maybe_words_whole None = refl
maybe_words_whole (Some text) = refl

way_whole : (form : PageForm) (ms : Members) → members_have_float ms ≡ false → members_have_float (with_way form ms) ≡ false
way_whole form ms rest =
    let one = put (codes "code") (words (code_word form.coding)) ms in
    let two = put (codes "lines") (words (lines_word form.fine)) one in
    let three = put (codes "order") (words (order_word form.order)) two in
    put_whole (codes "width") (count form.width) three refl
    (put_whole (codes "order") (words (order_word form.order)) two refl
    (put_whole (codes "lines") (words (lines_word form.fine)) one refl
    (put_whole (codes "code") (words (code_word form.coding)) ms refl rest)))

content_whole : (facts : PageFacts) (ms : Members) → members_have_float ms ≡ false → members_have_float (with_content facts ms) ≡ false
content_whole facts ms rest =
    let one = put (codes "bits") (maybe_count facts.bits) ms in
    let two = put (codes "missing_end") (boolean facts.lacks_end) one in
    let three = put (codes "out") (maybe_words facts.out) two in
    put_whole (codes "rows") (count facts.rows) three refl
    (put_whole (codes "out") (maybe_words facts.out) two (maybe_words_whole facts.out)
    (put_whole (codes "missing_end") (boolean facts.lacks_end) one refl
    (put_whole (codes "bits") (maybe_count facts.bits) ms (maybe_count_whole facts.bits) rest)))

damage_whole : (end : PageEnd) (rows : ℕ) (ms : Members) → members_have_float ms ≡ false
    → members_have_float (with_damage end rows ms) ≡ false
damage_whole end rows ms rest =
    let bit = bit_of (page_fault end) in
    let one = put (codes "bit") (maybe_count bit) ms in
    let two = put (codes "fault") (maybe_count (fault_number end)) one in
    let three = put (codes "repaired") (count (repaired_in end)) two in
    put_whole (codes "salvaged") (boolean (is_salvaged end rows)) three refl
    (put_whole (codes "repaired") (count (repaired_in end)) two refl
    (put_whole (codes "fault") (maybe_count (fault_number end)) one (maybe_count_whole (fault_number end))
    (put_whole (codes "bit") (maybe_count bit) ms (maybe_count_whole bit) rest)))

page_whole : (form : PageForm) (facts : PageFacts) → has_float (page_record form facts) ≡ false
page_whole form facts =
    let way = with_way form no_members in
    damage_whole facts.end facts.rows (with_content facts way) (content_whole facts way (way_whole form no_members refl))

pages_whole : (form : PageForm) (pages : List PageFacts) → items_have_float (items_of (map (page_record form) pages)) ≡ false
pages_whole form [] = refl
pages_whole form (facts ∷ pages) = both_false (has_float (page_record form facts))
    (items_have_float (items_of (map (page_record form) pages))) (page_whole form facts) (pages_whole form pages)

pages_in_whole : (form : Option PageForm) (pages : List PageFacts) → has_float (pages_in form pages) ≡ false
pages_in_whole None pages = refl
pages_in_whole (Some form) pages = pages_whole form pages

-- ---- a file

not_read_whole : (end : FileEnd) → has_float (not_read end) ≡ false
not_read_whole (file.Whole pages) = refl
not_read_whole (file.NoEnd pages) = refl
not_read_whole (file.Mended pages) = refl
not_read_whole (file.More pages) = refl
not_read_whole (file.Repaired page repaired last) = refl
not_read_whole (file.Cut page row fault last) = refl
not_read_whole (file.Lost page fault last) = refl
not_read_whole (file.NotWritten page fault) = refl
not_read_whole (file.NoFax name) = refl
not_read_whole file.TwoDims = refl
not_read_whole (file.NoEols said) = refl
not_read_whole file.NoWidth = refl
not_read_whole file.Nothing = refl
not_read_whole file.NoText = refl
not_read_whole (file.Failed fault) = refl

plain_whole : (name : List ℕ) (end : FileEnd) (told : List ℕ) (silent : Bool) → has_float (plain_record name end told silent) ≡ false
plain_whole name end told true = refl
plain_whole name end told false = refl

fault_whole : (name : List ℕ) (end : FileEnd) (told : List ℕ) (n : ℕ) (text : List ℕ) (silent : Bool)
    → has_float (fault_record name end told n text silent) ≡ false
fault_whole name end told n text true = refl
fault_whole name end told n text false = refl

record_whole : (name : List ℕ) (end : FileEnd) (told : List ℕ) (fault : Option ToolFault) (text : Option (List ℕ))
    → has_float (record_by name end told fault text) ≡ false
record_whole name end told None text = plain_whole name end told (is_silent told)
record_whole name end told (Some fault) None = plain_whole name end told (is_silent told)
record_whole name end told (Some fault) (Some text) = fault_whole name end told (number_of (kind_of fault)) text (is_silent told)

-- a part of a name that is left out, and the others
part_whole : (b : Bool) (part : List ℕ) (others : List Data) → items_have_float (items_of others) ≡ false
    → items_have_float (items_of (cond b (words part ∷ []) [] ++ others)) ≡ false
part_whole true part others whole = whole
part_whole false part others whole = whole

parts_whole : (parts : List (List ℕ)) → items_have_float (items_of (flat_map left_out_part parts)) ≡ false
parts_whole [] = refl
parts_whole (part ∷ parts) = part_whole (is_left_out part) part (flat_map left_out_part parts) (parts_whole parts)

left_out_whole : (name : List ℕ) (images : Bool) → has_float (left_out name images) ≡ false
left_out_whole name false = refl
left_out_whole name true = parts_whole (path_components (file_name name))

with_pages_whole : (left format pages made : Data) → has_float left ≡ false → has_float format ≡ false → has_float pages ≡ false
    → has_float made ≡ false → has_float (with_pages left format pages made) ≡ false
with_pages_whole left format pages null none one two three = three
with_pages_whole left format pages (boolean b) none one two three = three
with_pages_whole left format pages (number n) none one two three = three
with_pages_whole left format pages (string s) none one two three = three
with_pages_whole left format pages (array ds) none one two three = three
with_pages_whole left format pages (object ms) none one two three = put_whole (codes "pages") pages
    (put (codes "not_read") format (put (codes "left_out") left ms)) two
    (put_whole (codes "not_read") format (put (codes "left_out") left ms) one (put_whole (codes "left_out") left ms none three))

pub each_whole : (name : List ℕ) (report : FileReport) (text : Option (List ℕ)) → has_float (each_record name report text) ≡ false
each_whole name report text = with_pages_whole (left_out name (has_images report.pages.items)) (not_read report.end)
    (pages_in report.form report.pages.items) (file_record name report.end report.told.items text)
    (left_out_whole name (has_images report.pages.items)) (not_read_whole report.end) (pages_in_whole report.form report.pages.items)
    (record_whole name report.end report.told.items (fault_of report.end) text)

-- ---- a file that is identified

format_whole : (unread : Option Unread) (what : Found) → has_float (format_of unread what) ≡ false
format_whole (Some said) what = refl
format_whole None (found.Format name) = refl
format_whole None (found.Page way) = refl
format_whole None (found.Begun way) = refl
format_whole None found.Several = refl
format_whole None found.Nothing = refl

way_found_whole : (way : Option Tried) (ms : Members) → members_have_float ms ≡ false → members_have_float (with_way_found way ms) ≡ false
way_found_whole None ms rest =
    let one = put (codes "bits") null ms in
    let two = put (codes "code") null one in
    let three = put (codes "order") null two in
    let four = put (codes "rows") null three in
    put_whole (codes "width") null four refl (put_whole (codes "rows") null three refl (put_whole (codes "order") null two refl
    (put_whole (codes "code") null one refl (put_whole (codes "bits") null ms refl rest))))
way_found_whole (Some way) ms rest =
    let bits = maybe_count (bits_in way.end) in
    let one = put (codes "bits") bits ms in
    let two = put (codes "code") (words (code_word way.form.coding)) one in
    let three = put (codes "order") (words (order_word way.form.order)) two in
    let four = put (codes "rows") (count (unwrap_or way.mended way.rows)) three in
    put_whole (codes "width") (count way.form.width) four refl
    (put_whole (codes "rows") (count (unwrap_or way.mended way.rows)) three refl
    (put_whole (codes "order") (words (order_word way.form.order)) two refl
    (put_whole (codes "code") (words (code_word way.form.coding)) one refl
    (put_whole (codes "bits") bits ms (maybe_count_whole (bits_in way.end)) rest))))

pub known_whole : (name is : List ℕ) (known : Bool) (fault : Option ToolFault) (text : Option (List ℕ))
    → has_float (known_record name is known fault text) ≡ false
known_whole name is known None text = refl
known_whole name is known (Some fault) None = refl
known_whole name is known (Some fault) (Some text) = refl

pub found_whole : (unread : Option Unread) (what : Found) (made : Data) → has_float made ≡ false
    → has_float (record_with_found unread what made) ≡ false
found_whole unread what null whole = whole
found_whole unread what (boolean b) whole = whole
found_whole unread what (number n) whole = whole
found_whole unread what (string s) whole = whole
found_whole unread what (array ds) whole = whole
found_whole unread what (object ms) whole = put_whole (codes "not_read") (format_of unread what)
    (with_way_found (way_of unread what) ms) (format_whole unread what) (way_found_whole (way_of unread what) ms whole)

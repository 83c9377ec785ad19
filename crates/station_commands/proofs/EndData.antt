-- The record of a call's end has no float.
use Rattle.std.proofs.Common.{Equal, Greater, Less, Ordering, ◌≡◌, ◌∙◌, ℕ, Bool, true, false, List, [], ◌∷◌, ap, refl}
use Rattle.std.specs.Prelude.{◌||◌, Option, Some, None, codes}
use Rattle.std.specs.Ordering.{nat_cmp, match_ordering}
use Rattle.std.specs.Cmp.Lexicographic.{slice_cmp}
use Rattle.captures.specs.OtherWords.{signs_text}
use Rattle.conversations.specs.Lines.{channel_name}
use Rattle.conversations.specs.declared.carrier.Channel.TheVariants.{Message}
use Rattle.faults.specs.RecordLines.{count, words}
use Rattle.serde_json.specs.Data.{Data, Members, member, no_members, put}
use Rattle.serde_json.specs.Written.{has_float, members_have_float}
use Rattle.signals.specs.declared.params.Speed.{Speed}
use Rattle.terminals.specs.declared.figures.Figures.{Figures}
use Rattle.station_commands.specs.EndRecords.{ended_record, maybe_words, name_record, pages_word, speed_record, with_counts, with_end}
use Rattle.station_commands.specs.EndRecords.{with_speeds}

both_false : (a b : Bool) → a ≡ false → b ≡ false → (a || b) ≡ false
both_false a b one other = ap (λ c. c || b) one ∙ other

first_false : (a b : Bool) → (a || b) ≡ false → a ≡ false
first_false false b neither = refl
first_false true b neither = neither

last_false : (a b : Bool) → (a || b) ≡ false → b ≡ false
last_false false b neither = neither
last_false true b neither = absurd (cc)

-- a member that is put before, in place of or after another one
placed_whole : (o : Ordering) (k : List ℕ) (d : Data) (l : List ℕ) (e : Data) (ms : Members) → has_float d ≡ false
    → members_have_float (member l e ms) ≡ false → members_have_float (put k d ms) ≡ false
    → members_have_float (match_ordering o (member k d (member l e ms)) (member l d ms) (member l e (put k d ms))) ≡ false
placed_whole Less k d l e ms whole rest later = both_false (has_float d) (members_have_float (member l e ms)) whole rest
placed_whole Equal k d l e ms whole rest later =
    both_false (has_float d) (members_have_float ms) whole (last_false (has_float e) (members_have_float ms) rest)
placed_whole Greater k d l e ms whole rest later =
    both_false (has_float e) (members_have_float (put k d ms)) (first_false (has_float e) (members_have_float ms) rest) later

put_whole : (k : List ℕ) (d : Data) (ms : Members) → has_float d ≡ false → members_have_float ms ≡ false
    → members_have_float (put k d ms) ≡ false
put_whole k d no_members whole rest = both_false (has_float d) false whole refl
put_whole k d (member l e ms) whole rest = placed_whole (slice_cmp nat_cmp k l) k d l e ms whole rest
    (put_whole k d ms whole (last_false (has_float e) (members_have_float ms) rest))

words_whole : (text : List ℕ) → has_float (maybe_words text) ≡ false
words_whole [] = refl
words_whole (first ∷ text) = refl

speed_whole : (speed : Option Speed) → has_float (speed_record speed) ≡ false
speed_whole None = refl
speed_whole (Some speed) = words_whole (channel_name (Message speed))

name_whole : (name : Option (List ℕ)) → has_float (name_record name) ≡ false
name_whole None = refl
name_whole (Some name) = words_whole (signs_text name)

counts_whole : (f : Figures) (ms : Members) → members_have_float ms ≡ false → members_have_float (with_counts f ms) ≡ false
counts_whole f ms rest =
    let one = put (codes "blocks") (count f.blocks) ms in
    let two = put (codes "pprs") (count f.requests) one in
    let three = put (codes "resent") (count f.resent) two in
    put_whole (codes "retries") (count f.retries) three refl
    (put_whole (codes "resent") (count f.resent) two refl
    (put_whole (codes "pprs") (count f.requests) one refl
    (put_whole (codes "blocks") (count f.blocks) ms refl rest)))

speeds_whole : (f : Figures) (ms : Members) → members_have_float ms ≡ false → members_have_float (with_speeds f ms) ≡ false
speeds_whole f ms rest =
    let one = put (codes "failed_checks") (count f.failed_checks) ms in
    let two = put (codes "first_speed") (speed_record f.first_speed) one in
    put_whole (codes "last_speed") (speed_record f.last_speed) two (speed_whole f.last_speed)
    (put_whole (codes "first_speed") (speed_record f.first_speed) one (speed_whole f.first_speed)
    (put_whole (codes "failed_checks") (count f.failed_checks) ms refl rest))

end_whole : (calls : Bool) (end : List ℕ) (pages seconds : ℕ) (why : List ℕ) (ms : Members) → members_have_float ms ≡ false
    → members_have_float (with_end calls end pages seconds why ms) ≡ false
end_whole calls end pages seconds why ms rest =
    let one = put (codes "end") (words end) ms in
    let two = put (pages_word calls) (count pages) one in
    let three = put (codes "seconds") (count seconds) two in
    put_whole (codes "why") (maybe_words why) three (words_whole why)
    (put_whole (codes "seconds") (count seconds) two refl
    (put_whole (pages_word calls) (count pages) one refl
    (put_whole (codes "end") (words end) ms refl rest)))

pub ended_whole : (calls : Bool) (end : List ℕ) (pages seconds : ℕ) (f : Figures) (why : List ℕ)
    → has_float (ended_record calls end pages seconds f why) ≡ false
ended_whole calls end pages seconds f why =
    let counts = with_counts f no_members in
    let speeds = with_speeds f counts in
    let named = put (codes "peer") (name_record f.name) speeds in
    end_whole calls end pages seconds why named
    (put_whole (codes "peer") (name_record f.name) speeds (name_whole f.name)
    (speeds_whole f counts (counts_whole f no_members refl)))

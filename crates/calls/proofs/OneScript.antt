-- A text is at most one script.
use Rattle.std.proofs.Common.{◌≡◌, ◌≢◌, ◌<◌, ◌≤◌, ◌+◌, ◌⊎◌, ℕ, true, false, List, [], ◌∷◌, ◌++◌, Option, Some}
use Rattle.std.proofs.Common.{None, length, get_or, slice_index, suc, codes, refl, ap, sym, ◌∙◌, subst, arith, inl, inr}
use Rattle.std.proofs.Common.{append_assoc, length-append}
use Rattle.std.specs.Str.{bytes_eq}
use Rattle.std.specs.Prelude.{if◌then◌else◌}
use Rattle.std.specs.Str.Parse.{digits_value}
use Rattle.std.proofs.lemmas.List.{append-nil, get_or_at}
use Rattle.line_sim.specs.declared.event.Event.{Event}
use Rattle.line_sim.specs.declared.event.Event.TheVariants.{DeliverToAnswerer, DeliverToCaller, LoseToAnswerer, LoseToCaller, Spoil}
use Rattle.line_sim.specs.declared.event.Event.TheVariants.{CallerTimeout, CallerT5, AnswererT1, AnswererT2, Busy}
use Rattle.faults.specs.declared.fault.ToolFault.{ToolFault}
use Rattle.faults.specs.declared.fault.ToolFault.TheVariants.{No, AtBit, AtLine}
use Rattle.calls.specs.declared.script.Command.{Command}
use Rattle.calls.specs.declared.script.Command.TheVariants.{Events, Polite}
use Rattle.calls.specs.Scripts.{HasNoFeed, IsCount, IsLineOf, IsScript, IsSkipped, LinesSay, RefusesScript, Says, ended, said_before}
use Rattle.calls.specs.Scripts.{word_of}
use Rattle.calls.proofs.ScriptWords.{lacks_at, word_solid}

-- ---- one cut

-- a list is cut at its first c in one way
pub one_cut : (c : ℕ) (xs ys rest others : List ℕ) → ((k : ℕ) → k < length xs → slice_index xs k ≢ c)
    → ((k : ℕ) → k < length ys → slice_index ys k ≢ c)
    → xs ++ c ∷ rest ≡ ys ++ c ∷ others → (xs ≡ ys) × (rest ≡ others)
one_cut c [] [] rest others nx ny e = (refl, cc)
one_cut c [] (y ∷ ys) rest others nx ny e = let same : y ≡ c = cc in absurd (ny 0 (omega arith) same)
one_cut c (x ∷ xs) [] rest others nx ny e = let same : x ≡ c = cc in absurd (nx 0 (omega arith) same)
one_cut c (x ∷ xs) (y ∷ ys) rest others nx ny e =
    let same : x ≡ y = cc in
    let tails : xs ++ c ∷ rest ≡ ys ++ c ∷ others = cc in
    let parts = one_cut c xs ys rest others (λ k l. nx (suc k) (omega (arith, l))) (λ k l. ny (suc k) (omega (arith, l))) tails in
    ((let t : xs ≡ ys = parts.0 in cc), parts.1)

-- what has no c is not cut at one
pub no_cut : (c : ℕ) (xs ys rest : List ℕ) → ((k : ℕ) → k < length xs → slice_index xs k ≢ c) → xs ≡ ys ++ c ∷ rest → ⊥
no_cut c xs ys rest none e =
    let there : get_or xs (length ys) 0 ≡ c = ap (λ l. get_or l (length ys) 0) e ∙ get_or_at ys c rest 0 (length ys) refl in
    let size : length xs ≡ length ys + suc (length rest) = ap length e ∙ length-append ys (c ∷ rest) in
    none (length ys) (omega (arith, size)) there

-- ---- one command

-- the event of a word
abbrev event_of : List ℕ → Event
event_of word = if bytes_eq word (codes "to-answerer") then DeliverToAnswerer else if bytes_eq word (codes "to-caller") then DeliverToCaller
    else if bytes_eq word (codes "lose-to-answerer") then LoseToAnswerer else if bytes_eq word (codes "lose-to-caller") then LoseToCaller
    else if bytes_eq word (codes "spoil") then Spoil else if bytes_eq word (codes "caller-timeout") then CallerTimeout
    else if bytes_eq word (codes "caller-t5") then CallerT5 else if bytes_eq word (codes "answerer-t1") then AnswererT1
    else if bytes_eq word (codes "answerer-t2") then AnswererT2 else if bytes_eq word (codes "busy") then Busy true else Busy false

event_of_word : (event : Event) → event_of (word_of event) ≡ event
event_of_word DeliverToAnswerer = refl
event_of_word DeliverToCaller = refl
event_of_word LoseToAnswerer = refl
event_of_word LoseToCaller = refl
event_of_word Spoil = refl
event_of_word CallerTimeout = refl
event_of_word CallerT5 = refl
event_of_word AnswererT1 = refl
event_of_word AnswererT2 = refl
event_of_word (Busy true) = refl
event_of_word (Busy false) = refl

pub one_event : (a b : Event) → word_of a ≡ word_of b → a ≡ b
one_event a b e = sym (event_of_word a) ∙ (ap event_of e ∙ event_of_word b)

no_polite : (event : Event) → bytes_eq (word_of event) (codes "polite") ≡ false
no_polite DeliverToAnswerer = refl
no_polite DeliverToCaller = refl
no_polite LoseToAnswerer = refl
no_polite LoseToCaller = refl
no_polite Spoil = refl
no_polite CallerTimeout = refl
no_polite CallerT5 = refl
no_polite AnswererT1 = refl
no_polite AnswererT2 = refl
no_polite (Busy true) = refl
no_polite (Busy false) = refl

pub polite_is_none : (event : Event) → word_of event ≡ codes "polite" → ⊥
polite_is_none event e =
    let same : bytes_eq (codes "polite") (codes "polite") ≡ false = subst (λ w. bytes_eq w (codes "polite") ≡ false) e (no_polite event) in
    let truth : bytes_eq (codes "polite") (codes "polite") ≡ true = refl in
    cc

one_count : (a b : List ℕ) (m n : ℕ) → a ≡ b → IsCount a m → IsCount b n → m ≡ n
one_count a b m n e is also = is.value ∙ (ap (λ d. digits_value 10 d) e ∙ sym also.value)

pub one_command : (line : List ℕ) (a b : Command) → Says line a → Says line b → a ≡ b
one_command line (Events e m) (Events f n) (inl (is, one)) (inl (also, once)) =
    let same = one_event e f (sym is ∙ also) in let times : m ≡ n = one ∙ sym once in cc
one_command line (Events e m) (Events f n) (inl (is, one)) (inr (digits, also, count)) =
    absurd (no_cut 32 (word_of e) (word_of f) digits (lacks_at 32 (word_of e) (word_solid e)) (sym is ∙ also))
one_command line (Events e m) (Events f n) (inr (digits, is, count)) (inl (also, once)) =
    absurd (no_cut 32 (word_of f) (word_of e) digits (lacks_at 32 (word_of f) (word_solid f)) (sym also ∙ is))
one_command line (Events e m) (Events f n) (inr (digits, is, count)) (inr (others, also, counts)) =
    let parts = one_cut 32 (word_of e) (word_of f) digits others (lacks_at 32 (word_of e) (word_solid e))
    (lacks_at 32 (word_of f) (word_solid f)) (sym is ∙ also) in
    let same = one_event e f parts.0 in let times = one_count digits others m n parts.1 count counts in cc
one_command line (Events e m) (Polite n) (inl (is, one)) (others, also, counts) =
    absurd (no_cut 32 (word_of e) (codes "polite") others (lacks_at 32 (word_of e) (word_solid e)) (sym is ∙ also))
one_command line (Events e m) (Polite n) (inr (digits, is, count)) (others, also, counts) =
    let parts = one_cut 32 (word_of e) (codes "polite") digits others (lacks_at 32 (word_of e) (word_solid e))
    (lacks_at 32 (codes "polite") refl) (sym is ∙ also) in
    absurd (polite_is_none e parts.0)
one_command line (Polite m) (Events f n) (digits, is, count) (inl (also, once)) =
    absurd (no_cut 32 (word_of f) (codes "polite") digits (lacks_at 32 (word_of f) (word_solid f)) (sym also ∙ is))
one_command line (Polite m) (Events f n) (digits, is, count) (inr (others, also, counts)) =
    let parts = one_cut 32 (word_of f) (codes "polite") others digits (lacks_at 32 (word_of f) (word_solid f))
    (lacks_at 32 (codes "polite") refl) (sym also ∙ is) in
    absurd (polite_is_none f parts.0)
one_command line (Polite m) (Polite n) (digits, is, count) (others, also, counts) =
    let parts = one_cut 32 (codes "polite") (codes "polite") digits others (lacks_at 32 (codes "polite") refl)
    (lacks_at 32 (codes "polite") refl) (sym is ∙ also) in
    let times = one_count digits others m n parts.1 count counts in cc

-- ---- one meaning of a line

-- the first octet of a line that says a command is a letter
letter : (event : Event) (rest : List ℕ) → 97 ≤ get_or (word_of event ++ rest) 0 0
letter DeliverToAnswerer rest = omega arith
letter DeliverToCaller rest = omega arith
letter LoseToAnswerer rest = omega arith
letter LoseToCaller rest = omega arith
letter Spoil rest = omega arith
letter CallerTimeout rest = omega arith
letter CallerT5 rest = omega arith
letter AnswererT1 rest = omega arith
letter AnswererT2 rest = omega arith
letter (Busy true) rest = omega arith
letter (Busy false) rest = omega arith

begins_with_letter : (line : List ℕ) (command : Command) → Says line command → 97 ≤ get_or line 0 0
begins_with_letter line (Events event count) (inl (is, one)) = subst (λ l. 97 ≤ get_or l 0 0)
    (sym (is ∙ sym (append-nil (word_of event)))) (letter event [])
begins_with_letter line (Events event count) (inr (digits, is, counts)) = subst (λ l. 97 ≤ get_or l 0 0) (sym is)
    (letter event (32 ∷ digits))
begins_with_letter line (Polite most) (digits, is, counts) = subst (λ l. 97 ≤ get_or l 0 0) (sym is) (omega arith)

not_both : (line : List ℕ) (command : Command) → IsSkipped line → Says line command → ⊥
not_both line command (inl is) says =
    let first : get_or line 0 0 ≡ 0 = ap (λ l. get_or l 0 0) is in
    let most = begins_with_letter line command says in
    absurd (omega (arith, first, most))
not_both line command (inr (comment, is)) says =
    let first : get_or line 0 0 ≡ 35 = ap (λ l. get_or l 0 0) is in
    let most = begins_with_letter line command says in
    absurd (omega (arith, first, most))

one_said : (line : List ℕ) (a b : Option Command) → IsLineOf line a → IsLineOf line b → a ≡ b
one_said line None None is also = refl
one_said line None (Some b) is also = absurd (not_both line b is.1 also.1)
one_said line (Some a) None is also = absurd (not_both line a also.1 is.1)
one_said line (Some a) (Some b) is also = ap (λ c. Some c) (one_command line a b is.1 also.1)

-- ---- one script

one_saying : (lines others : List (List ℕ)) (last final : List ℕ) (a b : List Command) → LinesSay (lines ++ last ∷ []) a
    → LinesSay (others ++ final ∷ []) b
    → ended lines ++ last ≡ ended others ++ final → a ≡ b
one_saying [] [] last final a b (said, rest, one, is, say, e) (said2, rest2, one2, is2, say2, e2) same =
    let meaning = one_said last said said2 is (subst (λ l. IsLineOf l said2) (sym same) is2) in
    e ∙ (ap (λ s. said_before s rest) meaning ∙ (ap (λ r. said_before said2 r) (say ∙ sym say2) ∙ sym e2))
one_saying [] (other ∷ others) last final a b (said, rest, one, is, say, e) more same =
    absurd (no_cut 10 last other (ended others ++ final) one (same ∙ append_assoc other (10 ∷ ended others) final))
one_saying (line ∷ lines) [] last final a b more (said, rest, one, is, say, e) same =
    absurd (no_cut 10 final line (ended lines ++ last) one (sym same ∙ append_assoc line (10 ∷ ended lines) last))
one_saying (line ∷ lines) (other ∷ others) last final a b (said, rest, one, is, say, e) (said2, rest2, one2, is2, say2, e2) same =
    let parts = one_cut 10 line other (ended lines ++ last) (ended others ++ final) one one2
    (sym (append_assoc line (10 ∷ ended lines) last) ∙ (same ∙ append_assoc other (10 ∷ ended others) final)) in
    let meaning = one_said line said said2 is (subst (λ l. IsLineOf l said2) (sym parts.0) is2) in
    let left = one_saying lines others last final rest rest2 say say2 parts.1 in
    e ∙ (ap (λ s. said_before s rest) meaning ∙ (ap (λ r. said_before said2 r) left ∙ sym e2))

pub one_script : (text : List ℕ) (a b : List Command) → IsScript text a → IsScript text b → a ≡ b
one_script text a b is also = one_saying is.lines also.lines is.last also.last a b is.say also.say (sym is.text_is ∙ also.text_is)

-- ---- no script

-- a line after lines of a script is one of that script's lines
line_of_script : (lines before : List (List ℕ)) (last line rest : List ℕ) (a b : List Command) → LinesSay (lines ++ last ∷ []) a
    → LinesSay before b
    → HasNoFeed line → (rest ≡ []) ⊎ ((more : List ℕ) × (rest ≡ 10 ∷ more)) → ended lines ++ last ≡ ended before ++ (line ++ rest)
    → (said : Option Command) × IsLineOf line said
line_of_script [] [] last line rest a b (said, left, one, is, say, e) none solid (inl empty) same =
    let whole : last ≡ line = same ∙ (ap (λ r. line ++ r) empty ∙ append-nil line) in
    (said, subst (λ l. IsLineOf l said) whole is)
line_of_script [] [] last line rest a b (said, left, one, is, say, e) none solid (inr (more, end)) same =
    absurd (no_cut 10 last line more one (same ∙ ap (λ r. line ++ r) end))
line_of_script [] (first ∷ before) last line rest a b (said, left, one, is, say, e) more solid ends same =
    absurd (no_cut 10 last first (ended before ++ (line ++ rest)) one (same ∙ append_assoc first (10 ∷ ended before) (line ++ rest)))
line_of_script (x ∷ xs) [] last line rest a b (said, left, one, is, say, e) none solid (inl empty) same =
    let whole : line ≡ x ++ 10 ∷ (ended xs ++ last) =
    sym (append-nil line) ∙ (ap (λ r. line ++ r) (sym empty) ∙ (sym same ∙ append_assoc x (10 ∷ ended xs) last)) in
    absurd (no_cut 10 line x (ended xs ++ last) solid whole)
line_of_script (x ∷ xs) [] last line rest a b (said, left, one, is, say, e) none solid (inr (more, end)) same =
    let parts = one_cut 10 x line (ended xs ++ last) more one solid (sym (append_assoc x (10 ∷ ended xs) last)
    ∙ (same ∙ ap (λ r. line ++ r) end)) in
    (said, subst (λ l. IsLineOf l said) parts.0 is)
line_of_script (x ∷ xs) (first ∷ before) last line rest a b (said, left, one, is, say, e)
    (said2, left2, one2, is2, say2, e2) solid ends same =
    let parts = one_cut 10 x first (ended xs ++ last) (ended before ++ (line ++ rest)) one one2
    (sym (append_assoc x (10 ∷ ended xs) last) ∙ (same ∙ append_assoc first (10 ∷ ended before) (line ++ rest))) in
    line_of_script xs before last line rest left left2 say say2 solid ends parts.1

-- a script is refused for memory alone
pub refused_for_memory : (text : List ℕ) (fault : ToolFault) → RefusesScript text fault → (commands : List Command)
    → IsScript text commands → fault ≡ No 9
refused_for_memory text (No number) nine commands is = ap (λ n. No n) nine
refused_for_memory text (AtBit number place) none commands is = absurd none
refused_for_memory text (AtLine number) bad commands is =
    let good = line_of_script is.lines bad.before is.last bad.line bad.rest commands bad.commands is.say bad.say bad.one bad.ends
    (sym is.text_is ∙ bad.text_is) in
    absurd (bad.bad good.0 good.1)

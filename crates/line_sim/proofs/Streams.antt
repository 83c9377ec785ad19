-- What feeds are heard as, wherever the octets of the line are cut, and where the pages stored come from.
use Rattle.std.proofs.Common.{◌≡◌, ◌⊎◌, ℕ, zero, suc, List, [], ◌∷◌, ◌++◌, length, drop, inl, inr, refl, ap, sym, ◌∙◌, subst, arith}
use Rattle.std.proofs.Common.{append_assoc}
use Rattle.std.specs.Prelude.{Ok, Err, Result}
use Rattle.std.specs.List.{Contains}
use Rattle.std.proofs.lemmas.List.{append-nil}
use Rattle.std.proofs.lemmas.List.Elements.{Contains-append_cases, Contains-append_left, Contains-append_right}
use Rattle.std.proofs.Math.Seq.{drop-append_seam}
use Rattle.raster.specs.Laws.{BitsJoin}
use Rattle.raster.specs.Pages.{PagePixels}
use Rattle.raster.specs.Packed.{bits_of}
use Rattle.raster.specs.declared.packed.Order.TheVariants.{LsbFirst}
use Rattle.hdlc.specs.Gaps.{good}
use Rattle.hdlc.specs.Laws.{GoodContentsStay}
use Rattle.signals.specs.Reading.{read_content}
use Rattle.signals.specs.Signals.{PlainSignal, dcs, fcd}
use Rattle.signals.specs.declared.fault.SignalFault.{SignalFault}
use Rattle.signals.specs.declared.params.Caps.{Caps}
use Rattle.stations.specs.Inputs.{AnswererInput, listens, trains, t2, t1, is_busy}
use Rattle.stations.specs.CallerStep.{no_params}
use Rattle.stations.specs.Laws.{Each}
use Rattle.stations.specs.Runs.{answerer_after, answerer_turns, StoredIsRead, IsReadOf, IsHeard}
use Rattle.stations.specs.declared.turn.Turn.{Turn}
use Rattle.line_sim.specs.Streams.{PlainFeed, line, check, first_timer, second_timer, busy, octets_in, line_octets, contents, new_contents}
use Rattle.line_sim.specs.Streams.{heard_if, heard, feed_inputs, inputs_after, inputs_of, PlainAnswered, starts, answers, CutsChangeNothing}
use Rattle.line_sim.specs.Streams.{IsSaid, IsDataField, IsStored, StoredIsSaid}

-- ---- lists of inputs

heard-append : (xs ys : List (List ℕ)) → heard (xs ++ ys) ≡ heard xs ++ heard ys
heard-append [] ys = refl
heard-append (x ∷ xs) ys =
    ap (λ l. heard_if (read_content x) ++ l) (heard-append xs ys) ∙ sym (append_assoc (heard_if (read_content x)) (heard xs) (heard ys))

pub line_octets-append : (xs ys : List PlainFeed) → line_octets (xs ++ ys) ≡ line_octets xs ++ line_octets ys
line_octets-append [] ys = refl
line_octets-append (x ∷ xs) ys =
    ap (λ l. octets_in x ++ l) (line_octets-append xs ys) ∙ sym (append_assoc (octets_in x) (line_octets xs) (line_octets ys))

pub inputs-append : (before : List ℕ) (xs ys : List PlainFeed) →
    inputs_after before (xs ++ ys) ≡ inputs_after before xs ++ inputs_after (before ++ line_octets xs) ys
inputs-append before [] ys = ap (λ l. inputs_after l ys) (sym (append-nil before))
inputs-append before (x ∷ xs) ys =
    ap (λ l. feed_inputs before x ++ l) (inputs-append (before ++ octets_in x) xs ys) ∙
    (sym (append_assoc (feed_inputs before x) (inputs_after (before ++ octets_in x) xs)
    (inputs_after ((before ++ octets_in x) ++ line_octets xs) ys)) ∙
    ap (λ l. (feed_inputs before x ++ inputs_after (before ++ octets_in x) xs) ++ inputs_after l ys)
    (append_assoc before (octets_in x) (line_octets xs)))

-- ---- good contents of octets that come one after the other

-- the contents that more octets bring come after those that there are
record Grown (before more : List ℕ) : Type 0 where
  new : List (List ℕ)
  is : contents (before ++ more) ≡ contents before ++ new

grown : BitsJoin → GoodContentsStay → (before more : List ℕ) → Grown before more
unfolding contents
grown join stay before more =
    let stays = stay (bits_of LsbFirst before) (bits_of LsbFirst more) in
    record { new = stays.0; is = ap good (join LsbFirst before more) ∙ stays.1 }

new_are : (before more : List ℕ) (new : List (List ℕ)) → contents (before ++ more) ≡ contents before ++ new → new_contents before more ≡ new
unfolding new_contents
new_are before more new is = ap (drop (length (contents before))) is ∙ drop-append_seam (contents before) new

-- octets that come in two feeds bring the contents of the first and then those of the second
new_in_two : BitsJoin → GoodContentsStay → (before front rest : List ℕ) →
    new_contents before (front ++ rest) ≡ new_contents before front ++ new_contents (before ++ front) rest
new_in_two join stay before front rest =
    let a = grown join stay before front in
    let b = grown join stay (before ++ front) rest in
    new_are before (front ++ rest) (a.new ++ b.new)
    (ap contents (sym (append_assoc before front rest)) ∙
    (b.is ∙ (ap (λ l. l ++ b.new) a.is ∙ append_assoc (contents before) a.new b.new))) ∙
    (ap (λ l. l ++ b.new) (sym (new_are before front a.new a.is)) ∙
    ap (λ l. new_contents before front ++ l) (sym (new_are (before ++ front) rest b.new b.is)))

-- ---- cutting a feed

cut_here : BitsJoin → GoodContentsStay → (before front rest : List ℕ) (after : List PlainFeed) →
    inputs_after before (line front ∷ line rest ∷ after) ≡ inputs_after before (line (front ++ rest) ∷ after)
cut_here join stay before front rest after =
    let one = heard (new_contents before front) in
    let two = heard (new_contents (before ++ front) rest) in
    sym (append_assoc one two (inputs_after ((before ++ front) ++ rest) after)) ∙
    (ap (λ l. l ++ inputs_after ((before ++ front) ++ rest) after)
    (sym (ap heard (new_in_two join stay before front rest) ∙
    heard-append (new_contents before front) (new_contents (before ++ front) rest))) ∙
    ap (λ l. heard (new_contents before (front ++ rest)) ++ inputs_after l after) (append_assoc before front rest))

cut_later : BitsJoin → GoodContentsStay → (octets : List ℕ) (before after : List PlainFeed) (front rest : List ℕ) →
    inputs_after octets (before ++ line front ∷ line rest ∷ after) ≡ inputs_after octets (before ++ line (front ++ rest) ∷ after)
cut_later join stay octets [] after front rest = cut_here join stay octets front rest after
cut_later join stay octets (feed ∷ before) after front rest =
    ap (λ l. feed_inputs octets feed ++ l) (cut_later join stay (octets ++ octets_in feed) before after front rest)

-- what is answered to inputs
abbrev answered : Caps → List AnswererInput → PlainAnswered
answered caps inputs = record {
  turns = Turn.Dis ∷ answerer_turns inputs (starts caps);
  pages = (answerer_after inputs (starts caps)).pages;
  ending = (answerer_after inputs (starts caps)).ending;
}

pub cuts_change_nothing : BitsJoin → GoodContentsStay → CutsChangeNothing
cuts_change_nothing join stay caps before after front rest = ap (answered caps) (cut_later join stay [] before after front rest)

-- ---- what is heard was said in a good frame

said_by_more : (xs ys : List (List ℕ)) (signal : PlainSignal) → IsSaid xs signal → IsSaid (xs ++ ys) signal
said_by_more xs ys signal s = record { content = s.content; among = Contains-append_left xs ys s.content s.among; says = s.says }

said_by_later : (xs ys : List (List ℕ)) (signal : PlainSignal) → IsSaid ys signal → IsSaid (xs ++ ys) signal
said_by_later xs ys signal s = record { content = s.content; among = Contains-append_right xs ys s.content s.among; says = s.says }

none_in : {A : Type 0} (x : A) → Contains [] x → ⊥
none_in x h = omega (arith, h.1)

only_in : {A : Type 0} (x y : A) → Contains (x ∷ []) y → x ≡ y
only_in x y (zero, few, is) = is
only_in x y (suc place, few, is) = absurd (omega (arith, few))

contains_first : {A : Type 0} (x : A) (xs : List A) → Contains (x ∷ xs) x
contains_first x xs = (0, omega arith, refl)

said_if : (content : List ℕ) (read : Result PlainSignal SignalFault) (signal : PlainSignal) →
    read_content content ≡ read → Contains (heard_if read) (listens signal) → read_content content ≡ Ok signal
said_if content (Err fault) signal e h = absurd (none_in (listens signal) h)
said_if content (Ok said) signal e h =
    let same : listens said ≡ listens signal = only_in (listens said) (listens signal) h in
    let is : said ≡ signal = cc in
    e ∙ ap Ok is

heard_is_said : (contents : List (List ℕ)) (signal : PlainSignal) → Contains (heard contents) (listens signal) → IsSaid contents signal
heard_is_said [] signal h = absurd (none_in (listens signal) h)
heard_is_said (content ∷ contents) signal h =
    by (λ later. heard_is_said contents signal later)
    (Contains-append_cases (heard_if (read_content content)) (heard contents) (listens signal) h)
  where
    by : (Contains (heard contents) (listens signal) → IsSaid contents signal) →
        Contains (heard_if (read_content content)) (listens signal) ⊎ Contains (heard contents) (listens signal) →
        IsSaid (content ∷ contents) signal
    by of (inl here) = record {
      content = content;
      among = contains_first content contents;
      says = said_if content (read_content content) signal refl here;
    }
    by of (inr later) = said_by_later (content ∷ []) contents signal (of later)

feed_is_said : BitsJoin → GoodContentsStay → (before : List ℕ) (feed : PlainFeed) (signal : PlainSignal) →
    Contains (feed_inputs before feed) (listens signal) → IsSaid (contents (before ++ octets_in feed)) signal
feed_is_said join stay before (line octets) signal h =
    let more = grown join stay before octets in
    let new : IsSaid more.new signal =
    subst (λ l. IsSaid l signal) (new_are before octets more.new more.is) (heard_is_said (new_contents before octets) signal h) in
    subst (λ l. IsSaid l signal) (sym more.is) (said_by_later (contents before) more.new signal new)
feed_is_said join stay before (check octets) signal h =
    let same : trains octets ≡ listens signal = only_in (trains octets) (listens signal) h in cc
feed_is_said join stay before first_timer signal h = let same : t1 ≡ listens signal = only_in t1 (listens signal) h in cc
feed_is_said join stay before second_timer signal h = let same : t2 ≡ listens signal = only_in t2 (listens signal) h in cc
feed_is_said join stay before (busy is) signal h = let same : is_busy is ≡ listens signal = only_in (is_busy is) (listens signal) h in cc

inputs_are_said : BitsJoin → GoodContentsStay → (before : List ℕ) (feeds : List PlainFeed) (signal : PlainSignal) →
    Contains (inputs_after before feeds) (listens signal) → IsSaid (contents (before ++ line_octets feeds)) signal
inputs_are_said join stay before [] signal h = absurd (none_in (listens signal) h)
inputs_are_said join stay before (feed ∷ feeds) signal h =
    by (λ later. inputs_are_said join stay (before ++ octets_in feed) feeds signal later)
    (Contains-append_cases (feed_inputs before feed) (inputs_after (before ++ octets_in feed) feeds) (listens signal) h)
  where
    all : (before ++ octets_in feed) ++ line_octets feeds ≡ before ++ (octets_in feed ++ line_octets feeds)
    all = append_assoc before (octets_in feed) (line_octets feeds)

    by : (Contains (inputs_after (before ++ octets_in feed) feeds) (listens signal) →
        IsSaid (contents ((before ++ octets_in feed) ++ line_octets feeds)) signal) →
        Contains (feed_inputs before feed) (listens signal) ⊎ Contains (inputs_after (before ++ octets_in feed) feeds) (listens signal) →
        IsSaid (contents (before ++ (octets_in feed ++ line_octets feeds))) signal
    by of (inl here) =
        let more = grown join stay (before ++ octets_in feed) (line_octets feeds) in
        subst (λ l. IsSaid l signal) (sym more.is ∙ ap contents all)
        (said_by_more (contents (before ++ octets_in feed)) more.new signal (feed_is_said join stay before feed signal here))
    by of (inr later) = subst (λ l. IsSaid (contents l) signal) all (of later)

-- ---- what is stored

fields_are_said : (all : List (List ℕ)) (inputs : List AnswererInput) →
    ((signal : PlainSignal) → Contains inputs (listens signal) → IsSaid all signal) →
    (fields : List (List ℕ)) → Each (IsHeard inputs) fields → Each (IsDataField all) fields
fields_are_said all inputs said [] h = tt
fields_are_said all inputs said (field ∷ fields) h =
    ((h.0.0, said (fcd h.0.0 field) h.0.1), fields_are_said all inputs said fields h.1)

page_is_said : (caps : Caps) (all : List (List ℕ)) (inputs : List AnswererInput) →
    ((signal : PlainSignal) → Contains inputs (listens signal) → IsSaid all signal) →
    (page : PagePixels) → IsReadOf caps inputs page → IsStored caps all page
page_is_said caps all inputs said page r = record {
  params = r.params;
  dcs_said = said (dcs r.params) r.dcs_heard;
  dcs_allowed = r.dcs_allowed;
  octets = r.octets;
  octets_joined = record {
    fields = r.octets_joined.parts;
    said = fields_are_said all inputs said r.octets_joined.parts r.octets_joined.heard;
    joined_is = r.octets_joined.joined_is;
  };
  reads = r.reads;
}

pages_are_said : (caps : Caps) (all : List (List ℕ)) (inputs : List AnswererInput) →
    ((signal : PlainSignal) → Contains inputs (listens signal) → IsSaid all signal) →
    (pages : List PagePixels) → Each (IsReadOf caps inputs) pages → Each (IsStored caps all) pages
pages_are_said caps all inputs said [] h = tt
pages_are_said caps all inputs said (page ∷ pages) h =
    (page_is_said caps all inputs said page h.0, pages_are_said caps all inputs said pages h.1)

pub stored_is_said : BitsJoin → GoodContentsStay → StoredIsRead → StoredIsSaid
stored_is_said join stay read caps feeds =
    pages_are_said caps (contents (line_octets feeds)) (inputs_of feeds)
    (λ signal h. inputs_are_said join stay [] feeds signal h) (answers caps feeds).pages (read caps no_params (inputs_of feeds))

-- The bursts of a turn, given and written one after the other.
use Rattle.std.proofs.Common.{◌≡◌, ◌∙◌, ◌++◌, ◌∷◌, List, [], ap, inl, inr, refl, sym, subst, append_assoc}
use Rattle.std.proofs.lemmas.List.{append-nil}
use Rattle.std.proofs.KnownBytes.{Appends-trans}
use Rattle.std.specs.Io.KnownBytes.{Appends}
use Rattle.std.specs.Prelude.{◌↔◌, ℕ, IsSome, IsTrue, Bool, true, false, Option, Some, None, Ok, Err, flat_map, is_none, is_some}
use Rattle.hdlc.specs.DeframerState.{DeframerState}
use Rattle.conversations.proofs.Written.{part_after}
use Rattle.conversations.specs.Conversations.{ConversationFields, SendsIfBegun, next_quiet}
use Rattle.conversations.specs.Talking.{GivesAll, GivesNext, GivesSome, SeesBursts, Withholds, WritesFollowed, WritesPart}
use Rattle.conversations.specs.Talking.{rest_text}
use Rattle.conversations.specs.Writing.{AppendsPart, burst_line, on_lines, rest_lines}
use Rattle.conversations.specs.declared.writing.Says.{Says}
use Rattle.signals.specs.declared.signal.Side.{Side}
use Rattle.terminals.specs.Runs.{TerminalFields}
use Rattle.terminals.specs.Speaking.{BurstsOf, Speaking}
use Rattle.terminals.specs.Watching.{SawSent, SeesSaid}
use Rattle.terminals.specs.declared.sending.SentBurst.{SentBurst}
use Rattle.terminals.specs.declared.stopping.Shown.{Shown}

-- some bursts were given and written
pub record IsGiving {S : Type 0} (frames : Bool) (side : Side) (lends : BurstsOf S) (first now : ConversationFields S) (before here : Option (List ℕ)) :
    Type 0 where
  pub done : List SentBurst
  pub some : GivesSome side lends first done now
  pub written : Appends before here (flat_map (burst_line frames) done)

-- what is given does not depend on how refusals are named
pub given_next : {S : Type 0} (E : Type 0) (side : Side) (lends : BurstsOf S) (begun : Bool) (old new : ConversationFields S)
    (sent : Option SentBurst) → SendsIfBegun {E = E} side lends begun old new (Ok sent) →
    SendsIfBegun {E = Unit {0}} side lends begun old new (Ok sent)
given_next E side lends false old new None is = (is.0, refl)
given_next E side lends false old new (Some sent) is = let e = is.1 in cc
given_next E side lends true old new None is = is
given_next E side lends true old new (Some sent) is = is

same_terminal : {S : Type 0} (a b : TerminalFields S) → a.speaking ≡ b.speaking → a.framing ≡ b.framing → a ≡ b
same_terminal {S} a b s f =
    ap (λ (x : DeframerState). the_terminal x a.speaking) f ∙ ap (λ (x : Speaking S). the_terminal b.framing x) s
  where
    the_terminal : DeframerState → Speaking S → TerminalFields S
    the_terminal framing speaking = record { framing = framing; speaking = speaking }

-- a burst that is refused changes nothing
pub unsent : {S : Type 0} (E : Type 0) (side : Side) (lends : BurstsOf S) (begun : Bool) (old new : ConversationFields S) (why : E) →
    SendsIfBegun {E = E} side lends begun old new (Err why) → new ≡ old
unsent E side lends false old new why is = is.0
unsent {S} E side lends true old new why is =
    is.2 ∙ ap (λ (t : TerminalFields S). record old { terminal = t })
    (same_terminal new.terminal old.terminal is.0.2 is.1)

-- one burst more is given
gives_more : {S : Type 0} (side : Side) (lends : BurstsOf S) (done : List SentBurst) (burst : SentBurst) (first now next : ConversationFields S) →
    GivesSome side lends first done now → GivesNext side lends now (Some burst) next → GivesSome side lends first (done ++ burst ∷ []) next
gives_more {S} side lends [] burst first now next is gives =
    (next, subst (λ (c : ConversationFields S). GivesNext side lends c (Some burst) next) is gives, refl)
gives_more side lends (x ∷ done) burst first now next is gives = (is.0, is.1, gives_more side lends done burst is.0 now next is.2 gives)

-- none is left
gives_end : {S : Type 0} (side : Side) (lends : BurstsOf S) (done : List SentBurst) (first now new : ConversationFields S) →
    GivesSome side lends first done now → GivesNext side lends now None new → GivesAll side lends first done new
gives_end {S} side lends [] first now new is none = subst (λ (c : ConversationFields S). GivesNext side lends c None new) is none
gives_end side lends (x ∷ done) first now new is none = (is.0, is.1, gives_end side lends done is.0 now new is.2 none)

-- a burst that is given was seen
abbrev pub Saw : {S F : Type 0} → SeesSaid F → Side → BurstsOf S → ConversationFields S → F → SentBurst → F → Type 0
Saw saw side lends c old burst new =
    SawSent {E = Unit {0}} saw side lends c.terminal.speaking old new (Ok (Some burst))

-- the burst that is given was seen, and no more is noted
pub saw_burst : {S F : Type 0} (E : Type 0) (saw : SeesSaid F) (side : Side) (lends : BurstsOf S) (c : ConversationFields S) (old seen last : F)
    (sent : Option SentBurst) (burst : SentBurst) → SawSent {E = E} saw side lends c.terminal.speaking old seen (Ok sent) →
    sent ≡ Some burst → last ≡ seen → Saw saw side lends c old burst last
saw_burst E saw side lends c old seen last None burst is e same = cc e
saw_burst {S} {F} E saw side lends c old seen last (Some x) burst is e same =
    subst (λ (v : F). Saw saw side lends c old burst v) (sym same)
    (subst (λ (sent : Option SentBurst). SawSent {E = Unit {0}} saw side lends c.terminal.speaking old seen (Ok sent)) e is)

-- where none is given none was
pub saw_none : {S F : Type 0} (E : Type 0) (saw : SeesSaid F) (side : Side) (lends : BurstsOf S) (c : ConversationFields S) (old seen : F)
    (sent : Option SentBurst) → SawSent {E = E} saw side lends c.terminal.speaking old seen (Ok sent) → sent ≡ None → seen ≡ old
saw_none E saw side lends c old seen None is e = is
saw_none E saw side lends c old seen (Some x) is e = cc e

-- some bursts were given and written, and a follower saw each
abbrev pub IsSeeing : {S F : Type 0} → SeesSaid F → F → F → Bool → Side → BurstsOf S → ConversationFields S → ConversationFields S →
    Option (List ℕ) → Option (List ℕ) → Type 0
IsSeeing saw began noted frames side lends first now before here =
    (way : IsGiving frames side lends first now before here) × SeesBursts saw side lends first way.done now began noted

-- before the first burst
pub begins_giving : {S F : Type 0} (saw : SeesSaid F) (began : F) (frames : Bool) (side : Side) (lends : BurstsOf S)
    (first : ConversationFields S) (before : Option (List ℕ)) → Appends before before [] →
    IsSeeing saw began began frames side lends first first before before
begins_giving saw began frames side lends first before nothing = (record { done = []; some = refl; written = nothing }, (refl, refl))

flat_push : (line : SentBurst → List ℕ) (xs : List SentBurst) (x : SentBurst) →
    flat_map line (xs ++ x ∷ []) ≡ flat_map line xs ++ line x
flat_push line [] x = append-nil (line x)
flat_push line (y ∷ xs) x =
    ap (λ (l : List ℕ). line y ++ l) (flat_push line xs x) ∙ sym (append_assoc (line y) (flat_map line xs) (line x))

-- one burst more is seen
sees_more : {S F : Type 0} (saw : SeesSaid F) (side : Side) (lends : BurstsOf S) (first now next : ConversationFields S) (began seen last : F)
    (done : List SentBurst) (burst : SentBurst) → SeesBursts saw side lends first done now began seen →
    GivesNext side lends now (Some burst) next → Saw saw side lends now seen burst last →
    SeesBursts saw side lends first (done ++ burst ∷ []) next began last
sees_more {S} {F} saw side lends first now next began seen last [] burst is gives one = (
  next,
  last,
  subst (λ (c : ConversationFields S). GivesNext side lends c (Some burst) next) is.0 gives,
  subst (λ (c : ConversationFields S). Saw saw side lends c began burst last) is.0
      (subst (λ (v : F). Saw saw side lends now v burst last) is.1 one),
  (refl, refl),
)
sees_more saw side lends first now next began seen last (x ∷ done) burst is gives one =
    (is.0, is.1, is.2, is.3, sees_more saw side lends is.0 now next is.1 seen last done burst is.4 gives one)

-- one burst more is given and written, and seen
pub one_given : {S F : Type 0} (saw : SeesSaid F) (began seen last : F) (frames : Bool) (side : Side) (lends : BurstsOf S)
    (first now next : ConversationFields S) (before here after : Option (List ℕ)) (burst : SentBurst) →
    IsSeeing saw began seen frames side lends first now before here → GivesNext side lends now (Some burst) next →
    Appends here after (burst_line frames burst) → Saw saw side lends now seen burst last →
    IsSeeing saw began last frames side lends first next before after
one_given saw began seen last frames side lends first now next before here after burst way gives line one = (
  record {
    done = way.0.done ++ burst ∷ [];
    written =
        subst (λ (l : List ℕ). Appends before after l) (sym (flat_push (burst_line frames) way.0.done burst))
        (Appends-trans before here after (flat_map (burst_line frames) way.0.done) (burst_line frames burst) way.0.written line);
    some = gives_more side lends way.0.done burst first now next way.0.some gives;
  },
  sees_more saw side lends first now next began seen last way.0.done burst way.1 gives one,
)

-- no burst is left, and what comes after them is written
pub turn_written : {S F : Type 0} (saw : SeesSaid F) (began seen last : F) (side : Side) (lends : BurstsOf S)
    (shows : S → Shown → Type 0) (first now new : ConversationFields S) (before here after : Option (List ℕ)) (over : Bool) →
    IsSeeing saw began seen first.says.frames side lends first now before here → last ≡ seen → GivesNext side lends now None new → (shown : Shown) →
    shows new.terminal.speaking.station shown → (IsTrue over ↔ IsSome shown.end) → Appends here after (rest_text side new shown) →
    WritesFollowed saw side lends shows first new before after began last over
turn_written {S} {F} saw began seen last side lends shows first now new before here after over way same none shown so is_over rest = (
  record {
    bursts = way.0.done;
    gives = gives_end side lends way.0.done first now new way.0.some none;
    rest = rest_text side new shown;
    says_rest = (shown, so, is_over, refl);
    writes =
        Appends-trans before here after (flat_map (burst_line first.says.frames) way.0.done) (rest_text side new shown) way.0.written rest;
  },
  now,
  subst (λ (v : F). SeesBursts saw side lends first way.0.done now began v) (sym same) way.1,
)

-- what is said after the bursts, of values that are equal
pub rest_is : {S : Type 0} (side : Side) (c : ConversationFields S) (shown : Shown) (says : Says) (begun : Bool) (at : Option ℕ) →
    says ≡ c.says → begun ≡ c.begun → at ≡ next_quiet c.begun side shown c.clock c.durations →
    rest_lines shown.end (on_lines says begun shown.listens at) ≡ rest_text side c shown
rest_is side c shown says begun at says_is begun_is at_is = rw (says_is, begun_is, at_is) refl

-- ---- a turn that is written in part

-- no further burst is given
pub turn_stopped : {S : Type 0} (side : Side) (lends : BurstsOf S) (shows : S → Shown → Type 0) (first now new : ConversationFields S)
    (before here : Option (List ℕ)) → IsGiving first.says.frames side lends first now before here → new ≡ now →
    WritesPart S side lends shows first new before here
turn_stopped {S} side lends shows first now new before here way is = record {
  bursts = way.done;
  rest = [];
  gives = inl (subst (GivesSome side lends first way.done) (sym is) way.some, refl);
  writes = (flat_map (burst_line first.says.frames) way.done, [], refl, way.written);
}

-- one burst more is given, and a beginning of its line is written
pub burst_stopped : {S : Type 0} (side : Side) (lends : BurstsOf S) (shows : S → Shown → Type 0) (first now next : ConversationFields S)
    (before here after : Option (List ℕ)) (burst : SentBurst) → IsGiving first.says.frames side lends first now before here →
    GivesNext side lends now (Some burst) next → AppendsPart here after (burst_line first.says.frames burst) →
    WritesPart S side lends shows first next before after
burst_stopped side lends shows first now next before here after burst way gives part = record {
  bursts = way.done ++ burst ∷ [];
  rest = [];
  gives = inl (gives_more side lends way.done burst first now next way.some gives, refl);
  writes =
      subst (AppendsPart before after)
      (sym (append-nil _ ∙ flat_push (burst_line first.says.frames) way.done burst))
      (part_after (flat_map (burst_line first.says.frames) way.done) (burst_line first.says.frames burst) before here after way.written part);
}

-- all bursts are given, and a beginning of what comes after them is written
pub rest_stopped : {S : Type 0} (side : Side) (lends : BurstsOf S) (shows : S → Shown → Type 0) (first now new : ConversationFields S)
    (before here after : Option (List ℕ)) → IsGiving first.says.frames side lends first now before here →
    GivesNext side lends now None new → (shown : Shown) → shows new.terminal.speaking.station shown →
    AppendsPart here after (rest_text side new shown) → WritesPart S side lends shows first new before after
rest_stopped side lends shows first now new before here after way none shown so part = record {
  bursts = way.done;
  rest = rest_text side new shown;
  gives =
      inr (gives_end side lends way.done first now new way.some none, (is_some shown.end, (shown, so, ((λ h. h), λ h. h), refl)));
  writes =
      part_after (flat_map (burst_line first.says.frames) way.done) (rest_text side new shown) before here after way.written part;
}

-- ---- bursts that are given and not written

-- some bursts were given
abbrev pub HasGiven : {S : Type 0} → Side → BurstsOf S → ConversationFields S → ConversationFields S → Type 0
HasGiven side lends first now = (bursts : List SentBurst) × GivesSome side lends first bursts now

-- before the first burst
pub begins_to_give : {S : Type 0} (side : Side) (lends : BurstsOf S) (first : ConversationFields S) → HasGiven side lends first first
begins_to_give side lends first = ([], refl)

-- no further burst is given
pub gave_some : {S : Type 0} (side : Side) (lends : BurstsOf S) (first now new : ConversationFields S) → HasGiven side lends first now →
    new ≡ now → HasGiven side lends first new
gave_some side lends first now new way is = subst (HasGiven side lends first) (sym is) way

-- the next of the bursts, whichever it is
pub gave_more : {S : Type 0} (side : Side) (lends : BurstsOf S) (first now next : ConversationFields S) (sent : Option SentBurst) →
    HasGiven side lends first now → GivesNext side lends now sent next → is_none sent ≡ false → HasGiven side lends first next
gave_more side lends first now next None way gives is = cc is
gave_more side lends first now next (Some burst) way gives is =
    (way.0 ++ burst ∷ [], gives_more side lends way.0 burst first now next way.1 gives)

-- none is left
pub gave_last : {S : Type 0} (side : Side) (lends : BurstsOf S) (first now new : ConversationFields S) (sent : Option SentBurst) →
    HasGiven side lends first now → GivesNext side lends now sent new → is_none sent ≡ true → Withholds side lends first true new
gave_last side lends first now new None way gives is = (way.0, gives_end side lends way.0 first now new way.1 gives)
gave_last side lends first now new (Some burst) way gives is = cc is

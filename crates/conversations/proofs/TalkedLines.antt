-- Lines that are answered one after the other, and how the conversation stops.
use Rattle.std.proofs.Common.{◌≡◌, ◌⊎◌, ◌∙◌, ◌+◌, ◌++◌, ◌∷◌, ℕ, Bool, true, false, List, [], length, ap, arith, inl, inr, refl, subst}
use Rattle.std.proofs.lemmas.List.{length-append}
use Rattle.std.specs.Prelude.{Option}
use Rattle.conversations.specs.Conversations.{Behaviour, ConversationFields}
use Rattle.conversations.specs.Conversing.{AnswersAll, AnswersNext, Converses, ConversesFollowed, EndsSo, FailsToRead, FollowedAll, FollowedEnd, FollowedNext}
use Rattle.conversations.specs.Conversing.{StopsSo, TalkState, Talker, talk_state}
use Rattle.conversations.specs.declared.conversing.Ending.{Ending}
use Rattle.conversations.specs.declared.conversing.Ending.TheVariants.{Over, Lost, Unkept}
use Rattle.conversations.specs.Conversing.{unanswered}
use Rattle.conversations.specs.Reading.{TakesLine as ReadsLine}
use Rattle.conversations.specs.Reading.{TakesPart}
use Rattle.conversations.specs.Talking.{AnswersFollowed, Following, IsNoAnswer, KeepsLine, Keeping, is_refused}
use Rattle.terminals.specs.Speaking.{BurstsOf}
use Rattle.conversations.specs.declared.talking.AnswerFault.{AnswerFault}
use Rattle.conversations.specs.declared.talking.AnswerFault.TheVariants.{NoLine, NotHeld, OutOfTime, NoMemory, Writer}

-- lines were answered, and the one of a number comes
pub record IsTalking {S K : Type 0} (t : Talker S K) (first now : TalkState S K) (number : ℕ) : Type 0 where
  pub lines : List (List ℕ)
  pub answered : AnswersAll t lines first now
  pub count : number ≡ length lines + 1

answers_more : {S K : Type 0} (t : Talker S K) (lines : List (List ℕ)) (line : List ℕ) (first now next : TalkState S K) →
    AnswersAll t lines first now → AnswersNext S K t now next line true false → AnswersAll t (lines ++ line ∷ []) first next
answers_more {S} {K} t [] line first now next e is = (next, subst (λ s. AnswersNext S K t s next line true false) e is, refl)
answers_more t (one ∷ lines) line first now next all is = (all.0, all.1, answers_more t lines line all.0 now next all.2 is)

-- one line more is answered
pub one_more : {S K : Type 0} (t : Talker S K) (first now next : TalkState S K) (number : ℕ) (line : List ℕ) (kept over : Bool) →
    IsTalking t first now number → AnswersNext S K t now next line kept over → kept ≡ true → over ≡ false →
    IsTalking t first next (number + 1)
one_more t first now next number line kept over h is k o = record {
  lines = h.lines ++ line ∷ [];
  answered =
      answers_more t h.lines line first now next h.answered
      (subst (λ b. AnswersNext _ _ t now next line true b) o (subst (λ b. AnswersNext _ _ t now next line b over) k is));
  count = let long = length-append h.lines (line ∷ []) in let count = h.count in omega (arith, count, long);
}

-- lines were answered, and a follower noted each
pub record IsFollowing {S K F : Type 0} (t : Talker S K) (f : Following F) (start now : TalkState S K) (first last : F) : Type 0 where
  pub lines : List (List ℕ)
  pub followed : FollowedAll t f lines start now first last

followed_all : {S K F : Type 0} (t : Talker S K) (f : Following F) (lines : List (List ℕ)) (line : List ℕ) (start now next : TalkState S K)
    (first mid last : F) → FollowedAll t f lines start now first mid → FollowedNext t f now next line true false mid last →
    FollowedAll t f (lines ++ line ∷ []) start next first last
followed_all {S} {K} {F} t f [] line start now next first mid last is one = (
  next,
  last,
  subst (λ (s : TalkState S K). FollowedNext t f s next line true false first last) is.0
      (subst (λ (m : F). FollowedNext t f now next line true false m last) is.1 one),
  (refl, refl),
)
followed_all t f (x ∷ lines) line start now next first mid last all is =
    (all.0, all.1, all.2, followed_all t f lines line all.0 now next all.1 mid last all.3 is)

-- a line is read and answered, and a follower notes it, of values that are equal
pub followed_so : {S K F : Type 0} (t : Talker S K) (f : Following F) (now next : TalkState S K) (line : List ℕ) (kept kept_is over over_is : Bool)
    (first last : F) → ReadsLine now.input next.input line →
    AnswersFollowed f t.station t.keeping t.lends line now.conversation next.conversation now.keeper next.keeper now.output next.output
    first last kept over → kept ≡ kept_is → over ≡ over_is → FollowedNext t f now next line kept_is over_is first last
followed_so {S} {K} t f now next line kept kept_is over over_is first last read a k o =
    let one : FollowedNext t f now next line kept over first last = (record { read = read; answered = a.0 }, a.1) in
    subst (λ b. FollowedNext t f now next line kept_is b first last) o (subst (λ b. FollowedNext t f now next line b over first last) k one)

-- what is answered where a follower notes it
pub answered_all : {S K F : Type 0} (t : Talker S K) (f : Following F) (lines : List (List ℕ)) (old new : TalkState S K) (first last : F) →
    FollowedAll t f lines old new first last → AnswersAll t lines old new
answered_all t f [] old new first last h = h.0
answered_all t f (line ∷ lines) old new first last h = (h.0, h.2.0, answered_all t f lines h.0 new h.1 last h.3)

ends_so : {S K E F : Type 0} (t : Talker S K) (f : Following F) (old new : TalkState S K) (ending : Ending E) (first last : F) →
    FollowedEnd t f old new ending first last → EndsSo t old new ending
ends_so t f old new Over first last h = (h.0, h.1.0)
ends_so t f old new (Unkept why) first last h = (h.0, h.1, h.2.0)
ends_so t f old new Lost first last h = h.0

-- a conversation that a follower notes is one
pub converses_so : {S K E F : Type 0} (t : Talker S K) (f : Following F) (old new : TalkState S K) (first last : F) (ending : Ending E) →
    ConversesFollowed S K E F t f old new first last ending → Converses S K E t old new ending
converses_so t f old new first last ending h = record {
  lines = h.lines;
  last = h.mid;
  answered = answered_all t f h.lines old h.mid first h.noted h.answered;
  ends = ends_so t f h.mid new ending h.noted last h.ends;
}

-- one line more is answered, and the follower notes it
pub follows_more : {S K F : Type 0} (t : Talker S K) (f : Following F) (start now next : TalkState S K) (line : List ℕ) (first mid last : F) →
    IsFollowing t f start now first mid → FollowedNext t f now next line true false mid last → IsFollowing t f start next first last
follows_more t f start now next line first mid last h one = record {
  lines = h.lines ++ line ∷ [];
  followed = followed_all t f h.lines line start now next first mid last h.followed one;
}

same_state : {S K : Type 0} (input : Option (List ℕ)) (c d : ConversationFields S) (k l : K) (o p : Option (List ℕ)) → c ≡ d → k ≡ l →
    o ≡ p → talk_state input c k o ≡ talk_state input d l p
same_state input c d k l o p e f h =
    ap (λ x. talk_state input x k o) e ∙ (ap (λ x. talk_state input d x o) f ∙ ap (λ x. talk_state input d l x) h)

-- an answer failed after what the line brought was kept
pub broken_late : {S K : Type 0} (b : Behaviour S) (k : Keeping S K) (lends : BurstsOf S) (line : List ℕ) (old new : ConversationFields S)
    (keeper kept_in : K) (before after : Option (List ℕ)) (fault : AnswerFault) → is_refused fault ≡ false →
    KeepsLine S K b k lends line old new keeper kept_in before after → IsNoAnswer b k lends line old new keeper kept_in before after fault
broken_late b k lends line old new keeper kept_in before after NoLine late h = cc late
broken_late b k lends line old new keeper kept_in before after NotHeld late h = cc late
broken_late b k lends line old new keeper kept_in before after OutOfTime late h = cc late
broken_late b k lends line old new keeper kept_in before after NoMemory late h = inr h
broken_late b k lends line old new keeper kept_in before after (Writer kind) late h = inr h

-- the next line can't be read whole
pub unread : {S K : Type 0} (t : Talker S K) (first : TalkState S K) (input later output : Option (List ℕ)) (c : ConversationFields S) (k : K)
    (number : ℕ) (line : List ℕ) → IsTalking t first (talk_state input c k output) number → TakesPart input later line →
    FailsToRead S K t first (talk_state later c k output)
unread t first input later output c k number line h part = record {
  lines = h.lines;
  last = talk_state input c k output;
  answered = h.answered;
  line = line;
  taken = part;
  rest = refl;
}

-- memory is refused while the next line is read
pub unread_so : {S K : Type 0} (t : Talker S K) (first : TalkState S K) (input later output : Option (List ℕ)) (c : ConversationFields S) (k : K)
    (number : ℕ) (line : List ℕ) → IsTalking t first (talk_state input c k output) number →
    TakesPart input later line ⊎ ((octet : ℕ) × TakesPart input later (line ++ octet ∷ [])) →
    FailsToRead S K t first (talk_state later c k output)
unread_so t first input later output c k number line h (inl part) = unread t first input later output c k number line h part
unread_so t first input later output c k number line h (inr more) =
    unread t first input later output c k number (line ++ more.0 ∷ []) h more.1

-- a line isn't answered
pub stopped : {S K W : Type 0} (t : Talker S K) (first : TalkState S K) (input later : Option (List ℕ)) (c d : ConversationFields S)
    (k l : K) (v w : W) (contents : W → Option (List ℕ)) (number : ℕ) (line : List ℕ) (fault : AnswerFault) →
    IsTalking t first (talk_state input c k (contents v)) number → ReadsLine input later line →
    IsNoAnswer t.station t.keeping t.lends line c d k l (contents v) (contents w) fault →
    (is_refused fault ≡ true → (d ≡ c) × (l ≡ k) × (w ≡ v)) → StopsSo t first (talk_state later d l (contents w)) (unanswered fault number)
stopped t first input later c d k l v w contents number line NoLine h read none same = record {
  lines = h.lines;
  last = talk_state input c k (contents v);
  answered = h.answered;
  count = h.count;
  refused = record {
    line = line;
    refused = inr (read, inl none);
    rest = same_state later d c l k (contents w) (contents v) (same refl).0 (same refl).1 (ap contents (same refl).2);
  };
}
stopped t first input later c d k l v w contents number line NotHeld h read none same = record {
  lines = h.lines;
  last = talk_state input c k (contents v);
  answered = h.answered;
  count = h.count;
  refused = record {
    line = line;
    refused = inr (read, inr (none.0, none.1, inl none.2));
    rest = same_state later d c l k (contents w) (contents v) (same refl).0 (same refl).1 (ap contents (same refl).2);
  };
}
stopped t first input later c d k l v w contents number line OutOfTime h read none same = record {
  lines = h.lines;
  last = talk_state input c k (contents v);
  answered = h.answered;
  count = h.count;
  refused = record {
    line = line;
    refused = inr (read, inr (none.0, none.1, inr none.2));
    rest = same_state later d c l k (contents w) (contents v) (same refl).0 (same refl).1 (ap contents (same refl).2);
  };
}
stopped t first input later c d k l v w contents number line NoMemory h read none same = inr (inr (record {
  lines = h.lines;
  last = talk_state input c k (contents v);
  answered = h.answered;
  breaks = (line, read, none);
}))
stopped t first input later c d k l v w contents number line (Writer kind) h read none same = record {
  lines = h.lines;
  last = talk_state input c k (contents v);
  answered = h.answered;
  breaks = (line, read, none);
}

-- What `answer` promises is an answer of which law `answers_are_steps` speaks.
use Rattle.std.specs.Prelude.{ℕ, ◌≡◌, Bool, List, Option}
use Rattle.conversations.specs.Answering.{StoreStep, limited_behaviour}
use Rattle.conversations.specs.Conversations.{ConversationFields, gives}
use Rattle.conversations.specs.Led.{caller_behaviour}
use Rattle.conversations.specs.Stores.{IsStock, IsStore, Stock}
use Rattle.conversations.specs.StoredLines.{storing}
use Rattle.conversations.specs.Talking.{Answers, KeepsLine, KeepsOf, keeping}
use Rattle.conversations.specs.declared.line.Said.{Said}
use Rattle.raster.specs.Pages.{PagePixels}
use Rattle.stations.specs.Inputs.{PlainItem}
use Rattle.stations.specs.Limiting.{LimitedFields}
use Rattle.stations.specs.Stopping.{StoppableCallerFields}
use Rattle.joined_terminals.specs.Answered.{AnswererAnswers, AnswererBreaksOff, CallerAnswers, CallerBreaksOff, caller_lends}
use Rattle.joined_terminals.specs.Driven.{Driven}
use Rattle.joined_terminals.specs.Octets.{IsPiece}
use Rattle.joined_terminals.specs.Steps.{Comes, IsOneAtMost}

-- a keeper that leaves each conversation as it is, as that of a caller does
abbrev pub LeavesAll : (S K : Type 0) → KeepsOf S K → Type 0
LeavesAll S K keeps =
    (old : K) (c : ConversationFields S) (said : Said) (new : K) (after : ConversationFields S) (kept : Bool) →
    keeps old c said new after kept → after ≡ c

-- The law: what `answer` promises of an answerer whose pages go to such a store, where it is `Ok`, and the line comes of what is on its way.
abbrev pub StoringAnswers : (P : Type 0) → StoreStep P → StoreStep P → Type 0
StoringAnswers P stores refuses =
    (stock : P → Stock) → IsStore P stores refuses stock →
    (takes : P → Said → Bool) (tells : P → List ℕ) (text : List ℕ) (old : Driven) (new : ConversationFields LimitedFields)
    (keeper kept_in : P) (before after : Option (List ℕ)) (kept over : Bool) (others : List PlainItem) →
    IsStock (stock keeper) old.stored →
    let t = storing stores refuses takes tells in
    (answers : Answers LimitedFields P t.station t.keeping t.lends text old.answerer new keeper kept_in before after kept over) →
    Comes IsPiece old.answerer.terminal.framing old.to_answerer (gives limited_behaviour old.answerer answers.takes.shown answers.timed)
    others →
    (stored : List PagePixels) × IsStock (stock kept_in) stored × AnswererAnswers answers.timed kept answers.late old new stored

-- The law: the same where it is `Err` and the pages were kept before.
abbrev pub StoringBreaksOff : (P : Type 0) → StoreStep P → StoreStep P → Type 0
StoringBreaksOff P stores refuses =
    (stock : P → Stock) → IsStore P stores refuses stock →
    (takes : P → Said → Bool) (tells : P → List ℕ) (text : List ℕ) (old : Driven) (new : ConversationFields LimitedFields)
    (keeper kept_in : P) (before after : Option (List ℕ)) (others : List PlainItem) →
    IsStock (stock keeper) old.stored →
    let t = storing stores refuses takes tells in
    (breaks : KeepsLine LimitedFields P t.station t.keeping t.lends text old.answerer new keeper kept_in before after) →
    Comes IsPiece old.answerer.terminal.framing old.to_answerer (gives limited_behaviour old.answerer breaks.takes.shown breaks.timed)
    others →
    (stored : List PagePixels) × IsStock (stock kept_in) stored × AnswererBreaksOff breaks.timed breaks.kept old new stored

-- The law: what `answer` promises of a caller, whose keeper leaves it as it is, where it is `Ok`.
abbrev pub CallersAnswer : (K : Type 0) → KeepsOf StoppableCallerFields K → Type 0
CallersAnswer K keeps =
    LeavesAll StoppableCallerFields K keeps →
    (takes : K → Said → Bool) (tells : K → List ℕ) (text : List ℕ) (old : Driven) (new : ConversationFields StoppableCallerFields)
    (keeper kept_in : K) (before after : Option (List ℕ)) (kept over : Bool) (others : List PlainItem) →
    (answers :
    Answers StoppableCallerFields K caller_behaviour (keeping keeps takes tells) caller_lends text old.caller new keeper kept_in before after
    kept over) →
    Comes IsOneAtMost old.caller.terminal.framing old.to_caller (gives caller_behaviour old.caller answers.takes.shown answers.timed) others →
    CallerAnswers answers.timed answers.late old new

-- The law: the same where it is `Err`, once the line was taken.
abbrev pub CallersBreakOff : (K : Type 0) → KeepsOf StoppableCallerFields K → Type 0
CallersBreakOff K keeps =
    LeavesAll StoppableCallerFields K keeps →
    (takes : K → Said → Bool) (tells : K → List ℕ) (text : List ℕ) (old : Driven) (new : ConversationFields StoppableCallerFields)
    (keeper kept_in : K) (before after : Option (List ℕ)) (others : List PlainItem) →
    (breaks :
    KeepsLine StoppableCallerFields K caller_behaviour (keeping keeps takes tells) caller_lends text old.caller new keeper kept_in before
    after) →
    Comes IsOneAtMost old.caller.terminal.framing old.to_caller (gives caller_behaviour old.caller breaks.takes.shown breaks.timed) others →
    CallerBreaksOff breaks.timed old new

-- What `answer` promises is an answer.
use Rattle.std.proofs.Common.{◌++◌, ◌∷◌, ◌⊎◌, inl, inr, [], List, Bool, true, false, Option, refl, sym, subst}
use Rattle.std.specs.Prelude.{ℕ}
use Rattle.conversations.specs.Answering.{StoreStep, StoresAll, StoresEach, StoresSome, limited_behaviour}
use Rattle.conversations.specs.Conversations.{Behaviour, ConversationFields, refused_so}
use Rattle.conversations.specs.Led.{caller_behaviour}
use Rattle.conversations.specs.StoredLines.{storing}
use Rattle.conversations.specs.Stores.{IsStock, IsStore, Stock}
use Rattle.conversations.specs.Talking.{GivesAll, GivesSoFar, GivesSome, Keeping, KeepsOf, TellsAll, TellsPart, keeping}
use Rattle.raster.specs.Pages.{PagePixels}
use Rattle.stations.specs.Limiting.{LimitedFields}
use Rattle.stations.specs.Stopping.{StoppableCallerFields}
use Rattle.terminals.specs.Speaking.{BurstsOf}
use Rattle.terminals.specs.declared.sending.SentBurst.{SentBurst}
use Rattle.joined_terminals.specs.Answered.{GivesPart, caller_lends, leaves}
use Rattle.joined_terminals.specs.Promised.{CallersAnswer, CallersBreakOff, StoringAnswers, StoringBreaksOff}
use Rattle.joined_terminals.specs.Steps.{appends}

-- ---- a store and the pages that it may have

module _ {P : Type 0} (stores refuses : StoreStep P) (stock : P → Stock) (l : IsStore P stores refuses stock) where
  each_stored : (old : P) (xs : List PagePixels) (new : P) → StoresEach stores old xs new → (pages : List PagePixels) →
      IsStock (stock old) pages → (after : List PagePixels) × IsStock (stock new) after × StoresEach appends pages xs after
  each_stored old [] new h pages may = (pages, subst (λ s. IsStock (stock s) pages) (sym h) may, refl)
  each_stored old (x ∷ xs) new h pages may =
      let r = each_stored h.0 xs new h.2 (pages ++ x ∷ []) (l.stored old x h.0 h.1 pages may) in (r.0, r.1, (pages ++ x ∷ [], refl, r.2))

  some_stored : (old : P) (xs : List PagePixels) (new : P) → StoresSome stores refuses old xs new → (pages : List PagePixels) →
      IsStock (stock old) pages → (after : List PagePixels) × IsStock (stock new) after × StoresSome appends leaves pages xs after
  some_stored old xs new h pages may =
      let r = each_stored old h.0 h.3 h.5 pages may in
      (r.0, l.refused h.3 h.1 new h.6 r.0 r.1, (h.0, h.1, h.2, r.0, h.4, r.2, refl))

  all_stored : (c ready : ConversationFields LimitedFields) (old new : P) (kept : Bool) → StoresAll stores refuses c ready old new kept →
      (pages : List PagePixels) → IsStock (stock old) pages →
      (after : List PagePixels) × IsStock (stock new) after × StoresAll appends leaves c ready pages after kept
  all_stored c ready old new true h pages may =
      let r = each_stored old c.terminal.speaking.station.station.pages new h.0 pages may in (r.0, r.1, (r.2, h.1))
  all_stored c ready old new false h pages may =
      let r = some_stored old c.terminal.speaking.station.station.pages new h.0 pages may in (r.0, r.1, (r.2, h.1))

-- ---- what is given of an answer that fails

module _ {S K : Type 0} (b : Behaviour S) (k : Keeping S K) (lends : BurstsOf S) where
  given_so_far : (left new : ConversationFields S) (bursts : List SentBurst) (rest : List ℕ) →
      GivesSoFar b.side lends b.shows left bursts new rest → GivesSome b.side lends left bursts new ⊎ GivesAll b.side lends left bursts new
  given_so_far left new bursts rest (inl some) = inl some.0
  given_so_far left new bursts rest (inr all) = inr all.0

  pub part_given : (ready new : ConversationFields S) (kept_in : K) (before after : Option (List ℕ)) →
      TellsPart b k lends ready new kept_in before after ⊎ TellsAll S K b k lends ready new kept_in before after →
      GivesPart S b.side lends ready new
  part_given ready new kept_in before after (inl some) =
      record { late = false; left = ready; withholds = refl; bursts = some.1.0; gives = inl some.1.1 }
  part_given ready new kept_in before after (inr all) =
      record {
        late = all.late;
        left = all.left;
        withholds = all.withholds;
        bursts = all.writes.bursts;
        gives = given_so_far all.left new all.writes.bursts all.writes.rest all.writes.gives;
      }

-- ---- the contracts

pub storing_answers : (P : Type 0) (stores refuses : StoreStep P) → StoringAnswers P stores refuses
storing_answers P stores refuses stock l takes tells text old new keeper kept_in before after kept over others may a comes =
    let r = all_stored stores refuses stock l (refused_so limited_behaviour a.heard) a.ready keeper kept_in kept a.keeps_so old.stored may in (
      r.0,
      r.1,
      record {
        ready = a.ready;
        is_ready = record {
          heard = a.heard;
          takes = a.takes;
          others = others;
          comes = comes;
          mid = a.ready;
          keeps = r.2;
          hangs = false;
          only = λ e. absurd (cc);
          is = refl;
        };
        turn = record { left = a.left; withholds = a.withholds; bursts = a.writes.bursts; gives = a.writes.gives };
      },
    )

pub storing_breaks_off : (P : Type 0) (stores refuses : StoreStep P) → StoringBreaksOff P stores refuses
storing_breaks_off P stores refuses stock l takes tells text old new keeper kept_in before after others may a comes =
    let t = storing stores refuses takes tells in
    let r = all_stored stores refuses stock l (refused_so limited_behaviour a.heard) a.ready keeper kept_in a.kept a.keeps_so old.stored may in (
      r.0,
      r.1,
      record {
        ready = a.ready;
        is_ready = record {
          heard = a.heard;
          takes = a.takes;
          others = others;
          comes = comes;
          mid = a.ready;
          keeps = r.2;
          hangs = false;
          only = λ e. absurd (cc);
          is = refl;
        };
        part = part_given t.station t.keeping t.lends a.ready new kept_in before after a.writes;
      },
    )

pub callers_answer : (K : Type 0) (keeps : KeepsOf StoppableCallerFields K) → CallersAnswer K keeps
callers_answer K keeps none takes tells text old new keeper kept_in before after kept over others a comes =
    record {
      ready = a.ready;
      is_ready = record {
        heard = a.heard;
        takes = a.takes;
        others = others;
        comes = comes;
        is = none keeper _ a.timed.said kept_in a.ready kept a.keeps_so;
      };
      turn = record { left = a.left; withholds = a.withholds; bursts = a.writes.bursts; gives = a.writes.gives };
    }

pub callers_break_off : (K : Type 0) (keeps : KeepsOf StoppableCallerFields K) → CallersBreakOff K keeps
callers_break_off K keeps none takes tells text old new keeper kept_in before after others a comes =
    record {
      ready = a.ready;
      is_ready = record {
        heard = a.heard;
        takes = a.takes;
        others = others;
        comes = comes;
        is = none keeper _ a.timed.said kept_in a.ready a.kept a.keeps_so;
      };
      part = part_given caller_behaviour (keeping keeps takes tells) caller_lends a.ready new kept_in before after a.writes;
    }

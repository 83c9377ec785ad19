-- What `answer` promises of an answerer whose pages are held is an answer of which law `held_answers_are_steps` speaks.
use Rattle.std.proofs.Common.{◌≡◌, ◌++◌, ◌∷◌, [], List, Bool, true, false, Option, Some, None, refl, sym, subst}
use Rattle.std.specs.Prelude.{ℕ}
use Rattle.conversations.specs.Answering.{StoreStep, limited_behaviour, pages_of}
use Rattle.conversations.specs.Conversations.{ConversationFields, refused_so}
use Rattle.conversations.specs.Holding.{CountsFirst, HandsNext, HoldsPages}
use Rattle.conversations.specs.Stores.{IsHolder, IsStock, Stock}
use Rattle.conversations.specs.declared.line.Fate.TheVariants.{Kept, Lost}
use Rattle.conversations.specs.declared.line.Said.{Said}
use Rattle.conversations.specs.declared.line.Said.TheVariants.{Quiet, Busy, Received, NotReady, Ready, Missed, Told, Stop, End}
use Rattle.raster.specs.Pages.{PagePixels}
use Rattle.stations.specs.Limiting.{LimitedFields}
use Rattle.joined_terminals.specs.Answered.{leaves}
use Rattle.joined_terminals.specs.HeldAnswers.{HoldingAnswers, HoldingBreaksOff, holding}
use Rattle.joined_terminals.specs.Steps.{appends}
use Rattle.joined_terminals.proofs.Promised.{part_given}

-- ---- a holder and the pages that it may have

module _ {P : Type 0} (hands refuses counts : StoreStep P) (stock : P → Stock) (l : IsHolder P hands refuses counts stock) where
  same_told : (old new : P) → new ≡ old → (pages : List PagePixels) → IsStock (stock old) pages → IsStock (stock new) pages
  same_told old new h pages may = subst (λ s. IsStock (stock s) pages) (sym h) may

  counts_told : (xs : List PagePixels) (old new : P) → CountsFirst counts xs old new → (pages : List PagePixels) →
      IsStock (stock old) pages → (after : List PagePixels) × IsStock (stock new) after × CountsFirst appends xs pages after
  counts_told [] old new h pages may = (pages, same_told old new h pages may, refl)
  counts_told (x ∷ xs) old new h pages may = (pages ++ x ∷ [], l.counted old x new h pages may, refl)

  hands_told : (held : Option (List ℕ)) (xs : List PagePixels) (c ready : ConversationFields LimitedFields) (old new : P) (kept : Bool) →
      HandsNext hands refuses held xs c ready old new kept → (pages : List PagePixels) → IsStock (stock old) pages →
      (after : List PagePixels) × IsStock (stock new) after × HandsNext leaves leaves held xs c ready pages after kept
  hands_told (Some name) xs c ready old new kept h pages may = (pages, same_told old new h.1 pages may, (h.0, refl, h.2))
  hands_told None [] c ready old new kept h pages may = (pages, same_told old new h.1 pages may, (h.0, refl, h.2))
  hands_told None (x ∷ xs) c ready old new true h pages may = (pages, l.handed old x new h.0 pages may, (refl, h.1))
  hands_told None (x ∷ xs) c ready old new false h pages may = (pages, l.refused old x new h.0 pages may, (refl, h.1))

  holds_told : (held : Option (List ℕ)) (said : Said) (c ready : ConversationFields LimitedFields) (old new : P) (kept : Bool) →
      HoldsPages hands refuses counts held said c ready old new kept → (pages : List PagePixels) → IsStock (stock old) pages →
      (after : List PagePixels) × IsStock (stock new) after × HoldsPages leaves leaves appends held said c ready pages after kept
  holds_told held (Told Kept file) c ready old new kept h pages may =
      let r = counts_told (pages_of c) old new h.0 pages may in (r.0, r.1, (r.2, h.1, h.2))
  holds_told held (Told Lost file) c ready old new kept h pages may = (pages, same_told old new h.0 pages may, (refl, h.1, h.2))
  holds_told held Quiet c ready old new kept h pages may = hands_told held (pages_of c) c ready old new kept h pages may
  holds_told held Busy c ready old new kept h pages may = hands_told held (pages_of c) c ready old new kept h pages may
  holds_told held (Received channel kind bits octets) c ready old new kept h pages may = hands_told held (pages_of c) c ready old new kept h pages may
  holds_told held NotReady c ready old new kept h pages may = hands_told held (pages_of c) c ready old new kept h pages may
  holds_told held Ready c ready old new kept h pages may = hands_told held (pages_of c) c ready old new kept h pages may
  holds_told held Missed c ready old new kept h pages may = hands_told held (pages_of c) c ready old new kept h pages may
  holds_told held Stop c ready old new kept h pages may = hands_told held (pages_of c) c ready old new kept h pages may
  holds_told held End c ready old new kept h pages may = hands_told held (pages_of c) c ready old new kept h pages may

-- ---- the contracts

pub holding_answers : (P : Type 0) (hands refuses counts : StoreStep P) (held : P → Option (List ℕ)) →
    HoldingAnswers P hands refuses counts held
holding_answers P hands refuses counts held stock l takes tells text old new keeper kept_in before after kept over others may a comes =
    let r = holds_told hands refuses counts stock l (held keeper) a.timed.said (refused_so limited_behaviour a.heard) a.ready keeper kept_in
    kept a.keeps_so old.stored may in (
      r.0,
      r.1,
      record {
        ready = a.ready;
        is_ready = record {
          heard = a.heard;
          takes = a.takes;
          others = others;
          comes = comes;
          held = held keeper;
          mid = a.ready;
          holds = r.2;
          hangs = false;
          is = refl;
        };
        turn = record { left = a.left; withholds = a.withholds; bursts = a.writes.bursts; gives = a.writes.gives };
      },
    )

pub holding_breaks_off : (P : Type 0) (hands refuses counts : StoreStep P) (held : P → Option (List ℕ)) →
    HoldingBreaksOff P hands refuses counts held
holding_breaks_off P hands refuses counts held stock l takes tells text old new keeper kept_in before after others may a comes =
    let t = holding hands refuses counts held takes tells in
    let r = holds_told hands refuses counts stock l (held keeper) a.timed.said (refused_so limited_behaviour a.heard) a.ready keeper kept_in
    a.kept a.keeps_so old.stored may in (
      r.0,
      r.1,
      record {
        ready = a.ready;
        is_ready = record {
          heard = a.heard;
          takes = a.takes;
          others = others;
          comes = comes;
          held = held keeper;
          mid = a.ready;
          holds = r.2;
          hangs = false;
          is = refl;
        };
        part = part_given t.station t.keeping t.lends a.ready new kept_in before after a.writes;
      },
    )

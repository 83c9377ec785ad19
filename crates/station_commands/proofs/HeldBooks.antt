-- What an answer does to the files of pages that are handed over.
use Rattle.std.proofs.Common.{◌≡◌, ◌⊎◌, inl, inr, ◌++◌, ◌∷◌, ◌∙◌, [], ℕ, List, Bool, true, false, Option, Some, None, ap, refl, sym, subst}
use Rattle.std.proofs.Common.{append-nil}
use Rattle.std.specs.Prelude.{string_bytes}
use Rattle.command_files.specs.Bounds.{image_octets}
use Rattle.conversations.specs.Answering.{StoreStep, limited_behaviour, pages_of}
use Rattle.conversations.specs.Conversations.{ConversationFields}
use Rattle.conversations.specs.Holding.{CountsFirst, HandsNext, HoldsPages, can_come, names_held}
use Rattle.conversations.specs.declared.line.Fate.TheVariants.{Kept, Lost}
use Rattle.conversations.specs.declared.line.Said.{Said}
use Rattle.conversations.specs.declared.line.Said.TheVariants.{Quiet, Busy, Received, NotReady, Ready, Missed, Told, Stop, End}
use Rattle.joined_terminals.proofs.Hearing.{stopped_pages}
use Rattle.joined_terminals.specs.Answered.{leaves}
use Rattle.joined_terminals.specs.Steps.{appends}
use Rattle.raster.specs.Pages.{PagePixels}
use Rattle.station_commands.proofs.FolderSaid.{taken_none}
use Rattle.station_commands.specs.Folders.{CountsHeld, FolderCounts, FolderHands, FolderRefuses, HandsPage, IsHeld, held_name}
use Rattle.station_commands.specs.HeldBooks.{KeptBetween, KeptPage}
use Rattle.station_commands.specs.declared.station.folder.CallLimits.{CallLimits}
use Rattle.station_commands.specs.declared.station.folder.Folder.{Folder}
use Rattle.station_commands.specs.declared.station.folder.HeldPage.{HeldPage}
use Rattle.station_commands.specs.declared.station.folder.Tally.{Tally}
use Rattle.stations.specs.Limiting.{LimitedFields}

-- a page that is held counts, and nothing else of the folder changes
abbrev pub counts_so : StoreStep Folder
counts_so old page new = FolderCounts old new

-- how a folder stands since a tally, by the pages of the answerer
abbrev pub StandsIn : Option HeldPage → CallLimits → Tally → Tally → List PagePixels → Type 0
StandsIn None limits since now pages = now ≡ since
StandsIn (Some held) limits since now pages =
    (page : PagePixels) × (told : List ℕ) × HandsPage limits since page now (Some held) told × (pages ≡ page ∷ [])

-- what a line does to a folder and to the store
pub record Moves (since : Tally) (first last : Folder) (after : List PagePixels) (before stored : List PagePixels) : Type 0 where
  pub pages : List PagePixels
  pub then : Tally
  pub kept : KeptBetween first.limits since pages then
  pub added : stored ≡ before ++ pages
  pub stands : StandsIn last.held last.limits then last.tally after

-- one page at most
abbrev pub IsOne : List PagePixels → Type 0
IsOne pages = (pages ≡ []) ⊎ ((page : PagePixels) × (pages ≡ page ∷ []))

-- nothing is kept, and the folder stands as it stood
nothing_moves : (since : Tally) (first last : Folder) (after before stored : List PagePixels) → stored ≡ before →
    StandsIn last.held last.limits since last.tally after → Moves since first last after before stored
nothing_moves since first last after before stored same stands =
    record { pages = []; then = since; kept = refl; added = same ∙ sym (append-nil before); stands = stands }

module _ (since : Tally) (before stored : List PagePixels) where
  -- the folder stays, and the answerer's pages do
  stays : (first last : Folder) (pages after : List PagePixels) → last ≡ first → after ≡ pages → stored ≡ before →
      StandsIn first.held first.limits since first.tally pages → Moves since first last after before stored
  stays first last pages after e f same stands =
      nothing_moves since first last after before stored same
      (subst (λ (x : Folder). StandsIn x.held x.limits since x.tally after) (sym e)
      (subst (λ l. StandsIn first.held first.limits since first.tally l) (sym f) stands))

  -- ---- a page is handed over

  hands : (first last : Folder) (page : PagePixels) → first.held ≡ None → first.tally ≡ since → FolderHands first page last →
      stored ≡ before → Moves since first last (page ∷ []) before stored
  hands first last page none since_is h same =
      nothing_moves since first last (page ∷ []) before stored same (at last.held refl h.0.is_held)
    where
      limits : last.limits ≡ first.limits
      limits = ap (λ (f : Folder). f.limits) h.1

      at : (held : Option HeldPage) → last.held ≡ held → IsHeld held h.0.file (image_octets page) →
          StandsIn held last.limits since last.tally (page ∷ [])
      at None e is = absurd is
      at (Some held) e is = (
        page,
        string_bytes last.told,
        subst (λ o. HandsPage last.limits since page last.tally o (string_bytes last.told)) e
            (subst (λ l. HandsPage l since page last.tally last.held (string_bytes last.told)) (sym limits)
            (subst (λ t. HandsPage first.limits t page last.tally last.held (string_bytes last.told)) since_is h.0)),
        refl,
      )

  -- it is refused: none is held
  refuses : (first last : Folder) (page : PagePixels) (after : List PagePixels) → first.held ≡ None → first.tally ≡ since →
      FolderRefuses first page last → stored ≡ before → Moves since first last after before stored
  refuses first last page after none since_is h same =
      nothing_moves since first last after before stored same
      (subst (λ o. StandsIn o last.limits since last.tally after) (sym (ap (λ (f : Folder). f.held) h.rest ∙ none)) (h.tally ∙ since_is))

  -- what is handed over after a line, by whether a page is held
  next : (held : Option HeldPage) (first last : Folder) → first.held ≡ held → (pages : List PagePixels)
      (c ready : ConversationFields LimitedFields) (all : Bool) → pages ≡ pages_of c → IsOne pages →
      HandsNext FolderHands FolderRefuses (held_name held) pages c ready first last all →
      HandsNext leaves leaves (held_name held) pages c ready before stored all →
      StandsIn held first.limits since first.tally pages → Moves since first last (pages_of ready) before stored
  next (Some held) first last e pages c ready all is one h g stands =
      stays first last pages (pages_of ready) h.1 (ap pages_of h.0 ∙ sym is) g.1
      (subst (λ o. StandsIn o first.limits since first.tally pages) (sym e) stands)
  next None first last e [] c ready all is one h g stands =
      stays first last [] (pages_of ready) h.1 (ap pages_of h.0 ∙ sym is) g.1
      (subst (λ o. StandsIn o first.limits since first.tally []) (sym e) stands)
  next None first last e (page ∷ []) c ready true is one h g stands =
      subst (λ l. Moves since first last l before stored) (is ∙ sym (ap pages_of h.1)) (hands first last page e stands h.0 g.0)
  next None first last e (page ∷ []) c ready false is one h g stands = refuses first last page (pages_of ready) e stands h.0 g.0
  next None first last e (page ∷ more ∷ pages) c ready all is (inl few) h g stands = absurd (cc)
  next None first last e (page ∷ more ∷ pages) c ready all is (inr few) h g stands =
      let two : page ∷ more ∷ pages ≡ few.0 ∷ [] = few.1 in absurd (cc)

  -- ---- the page that is held is kept

  counts : (held : Option HeldPage) (file : List ℕ) → names_held (held_name held) file ≡ true → (first last : Folder) →
      first.held ≡ held → (pages : List PagePixels) → CountsFirst counts_so pages first last → CountsFirst appends pages before stored →
      StandsIn held first.limits since first.tally pages → Moves since first last [] before stored
  counts None file can first last e pages h g stands = absurd (cc)
  counts (Some held) file can first last e pages h g stands = by pages h g stands.3
    where
      by : (xs : List PagePixels) → CountsFirst counts_so xs first last → CountsFirst appends xs before stored → xs ≡ stands.0 ∷ [] →
          Moves since first last [] before stored
      by [] h g is = absurd (cc)
      by (page ∷ xs) h g is =
          record {
            pages = stands.0 ∷ [];
            then = last.tally;
            kept = (
              last.tally,
              record {
                mid = first.tally;
                held = Some held;
                told = stands.1;
                hands = stands.2;
                counts = subst (λ o. CountsHeld o first.tally last.tally) e h.0;
              },
              refl,
            );
            added = g ∙ ap (λ (p : PagePixels). before ++ p ∷ []) (cc);
            stands = subst (λ o. StandsIn o last.limits last.tally last.tally []) (sym (ap (λ (f : Folder). f.held) h.1)) refl;
          }

  -- ---- a line

  pub moves : (said : Said) (first last : Folder) (c ready : ConversationFields LimitedFields) (all : Bool) →
      can_come (held_name first.held) said ≡ true → IsOne (pages_of c) →
      HoldsPages FolderHands FolderRefuses counts_so (held_name first.held) said c ready first last all →
      HoldsPages leaves leaves appends (held_name first.held) said c ready before stored all →
      StandsIn first.held first.limits since first.tally (pages_of c) → Moves since first last (pages_of ready) before stored
  moves (Told Kept file) first last c ready all can one h g stands =
      subst (λ l. Moves since first last l before stored) (sym (ap pages_of h.1 ∙ taken_none c))
      (counts first.held file.items can first last refl (pages_of c) h.0 g.0 stands)
  moves (Told Lost file) first last c ready all can one h g stands =
      stays first last (pages_of c) (pages_of ready) h.0 (ap pages_of h.1 ∙ stopped_pages c.terminal.speaking) g.0 stands
  moves Quiet first last c ready all can one h g stands = next first.held first last refl (pages_of c) c ready all refl one h g stands
  moves Busy first last c ready all can one h g stands = next first.held first last refl (pages_of c) c ready all refl one h g stands
  moves (Received channel kind bits octets) first last c ready all can one h g stands =
      next first.held first last refl (pages_of c) c ready all refl one h g stands
  moves NotReady first last c ready all can one h g stands = next first.held first last refl (pages_of c) c ready all refl one h g stands
  moves Ready first last c ready all can one h g stands = next first.held first last refl (pages_of c) c ready all refl one h g stands
  moves Missed first last c ready all can one h g stands = next first.held first last refl (pages_of c) c ready all refl one h g stands
  moves Stop first last c ready all can one h g stands = next first.held first last refl (pages_of c) c ready all refl one h g stands
  moves End first last c ready all can one h g stands = next first.held first last refl (pages_of c) c ready all refl one h g stands

-- ---- pages that were kept, and then more

pub kept_on : (limits : CallLimits) (some more : List PagePixels) (a b c : Tally) → KeptBetween limits a some b →
    KeptBetween limits b more c → KeptBetween limits a (some ++ more) c
kept_on limits [] more a b c h g = subst (λ t. KeptBetween limits t more c) h g
kept_on limits (page ∷ some) more a b c h g = (h.0, h.1, kept_on limits some more h.0 b c h.2 g)

-- Pages that are stored one after the other, and none that are left.
use Rattle.std.proofs.Common.{◌≡◌, ◌∷◌, List, [], length, ap, arith, refl}
use Rattle.conversations.specs.Answering.{NoneAreLeft, StoreStep, StoresEach, StoresSome}
use Rattle.raster.specs.Pages.{PagePixels}
use Rattle.stations.specs.AnswererStep.{Answerer}
use Rattle.stations.specs.Limiting.{freed}
use Rattle.stations.specs.declared.turn.End.{End}
use Rattle.std.proofs.lemmas.Bool.{false≢true}
use Rattle.std.specs.Prelude.{Bool, Option, Some, None, Result, Ok, Err, IsErr, OnErr}

-- where the pages that are left are stored, or some of them, all pages are, or some of them
pub record IsOnWay {P : Type 0} (stores : StoreStep P) (refuses : StoreStep P) (first : P) (pages : List PagePixels)
    (now : P) (rest : List PagePixels) : Type 0 where
  pub each : (after : P) → StoresEach stores now rest after → StoresEach stores first pages after
  pub some : (after : P) → StoresSome stores refuses now rest after → StoresSome stores refuses first pages after

-- before the first page
pub begins : {P : Type 0} (stores : StoreStep P) (refuses : StoreStep P) (first : P) (pages : List PagePixels) →
    IsOnWay stores refuses first pages first pages
begins stores refuses first pages = record { each = λ after is. is; some = λ after is. is }

-- the first of the pages that are left is stored
pub goes_on : {P : Type 0} (stores : StoreStep P) (refuses : StoreStep P) (first : P) (pages : List PagePixels)
    (now : P) (page : PagePixels) (rest : List PagePixels) (next : P) → IsOnWay stores refuses first pages now (page ∷ rest) →
    stores now page next → IsOnWay stores refuses first pages next rest
goes_on stores refuses first pages now page rest next way is = record {
  each = λ after all. way.each after (next, is, all);
  some = λ after (front, refused, others, mid, split, all, ends).
      way.some after (page ∷ front, refused, others, mid, ap (λ (l : List PagePixels). page ∷ l) split, (next, is, all), ends);
}

-- the first of the pages that are left is refused
pub stops : {P : Type 0} (stores : StoreStep P) (refuses : StoreStep P) (first : P) (pages : List PagePixels)
    (now : P) (page : PagePixels) (rest : List PagePixels) (after : P) → IsOnWay stores refuses first pages now (page ∷ rest) →
    refuses now page after → StoresSome stores refuses first pages after
stops stores refuses first pages now page rest after way is = way.some after ([], page, rest, now, refl, refl, is)

-- what holds of an error
pub on_err : {T E A : Type 0} (result : Result T E) → IsErr result → A → OnErr result A
on_err (Ok done) is a = absurd (false≢true is)
on_err (Err fault) is a = a

-- no page is left
pub all_are : {P : Type 0} (stores : StoreStep P) (refuses : StoreStep P) (first : P) (pages : List PagePixels) (now : P)
    (rest : List PagePixels) → IsOnWay stores refuses first pages now rest → length rest ≡ 0 → StoresEach stores first pages now
all_are stores refuses first pages now [] way none = way.each now refl
all_are stores refuses first pages now (page ∷ rest) way none = absurd (omega arith)

freed_of_pages : (ending : Option End) (told : Bool) (s : Answerer) → (freed ending told s).pages ≡ []
freed_of_pages None told s = refl
freed_of_pages (Some why) told s = refl

pub none_are_left : NoneAreLeft
none_are_left mid =
    let v = mid.terminal.speaking.station in
    (freed_of_pages v.station.ending v.told v.station, freed_of_pages v.station.ending v.told v.station)

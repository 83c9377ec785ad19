-- Steps of two conversations as what happens to their terminals.
use Rattle.std.proofs.Common.{◌≡◌, ◌++◌, ◌∷◌, [], List, Bool, true, false, refl, ap, sym, subst, ◌∙◌, append_assoc, append-nil}
use Rattle.std.specs.Prelude.{◌&&◌}
use Rattle.conversations.specs.Answering.{StoresEach}
use Rattle.raster.specs.Pages.{PagePixels}
use Rattle.stations.specs.Inputs.{PlainItem}
use Rattle.joined_terminals.specs.Happening.{AreLeft, none, kept, lost}
use Rattle.joined_terminals.specs.Joining.{if_clear}
use Rattle.joined_terminals.specs.Octets.{LeadsTerminals, LineHappening, Terminals, TerminalsMake}
use Rattle.joined_terminals.specs.Steps.{appends}

-- some happenings lead from one to another
pub record Way (old new : Terminals) : Type 0 where
  pub happens : List LineHappening
  pub leads : LeadsTerminals happens old new

pub stays : (old new : Terminals) → new ≡ old → Way old new
stays old new e = record { happens = []; leads = e }

pub by : (happening : LineHappening) (old new : Terminals) → TerminalsMake happening old new → Way old new
by happening old new h = record { happens = happening ∷ []; leads = (new, h, refl) }

leads_both : (some more : List LineHappening) (a b c : Terminals) → LeadsTerminals some a b → LeadsTerminals more b c →
    LeadsTerminals (some ++ more) a c
leads_both [] more a b c p q = subst (λ (x : Terminals). LeadsTerminals more x c) p q
leads_both (happening ∷ some) more a b c p q = (p.0, p.1, leads_both some more p.0 b c p.2 q)

pub both : (a b c : Terminals) → Way a b → Way b c → Way a c
both a b c p q = record { happens = p.happens ++ q.happens; leads = leads_both p.happens q.happens a b c p.leads q.leads }

pub all_left : (items : List PlainItem) → AreLeft items items
all_left [] = none
all_left (item ∷ items) = kept (all_left items)

none_left : (items : List PlainItem) → AreLeft [] items
none_left [] = none
none_left (item ∷ items) = lost (none_left items)

pub front_left : (items more : List PlainItem) → AreLeft items (items ++ more)
front_left [] more = none_left more
front_left (item ∷ items) more = kept (front_left items more)

-- what goes onto the line is what is left of a clear one's
pub some_left : (sends clear : Bool) (items more : List PlainItem) →
    AreLeft (items ++ if_clear (sends && clear) more) (items ++ if_clear clear more)
some_left true clear items more = all_left (items ++ if_clear clear more)
some_left false true items more = front_more items
  where
    front_more : (xs : List PlainItem) → AreLeft (xs ++ []) (xs ++ more)
    front_more [] = none_left more
    front_more (x ∷ xs) = kept (front_more xs)
some_left false false items more = all_left (items ++ [])

-- pages that are stored come after those that were stored before
pub each_appended : (old pages new : List PagePixels) → StoresEach appends old pages new → new ≡ old ++ pages
each_appended old [] new h = h ∙ sym (append-nil old)
each_appended old (page ∷ pages) new h =
    each_appended h.0 pages new h.2 ∙ (ap (λ l. l ++ pages) h.1 ∙ append_assoc old (page ∷ []) pages)

-- Of a block that comes again the greater of the two last frames counts: when its PPS comes, no other block waits for frames any more.
use Rattle.std.proofs.Common.{◌≡◌, ◌∙◌, ℕ, Bool, true, false, cond, refl, ap, sym, subst}
use Rattle.std.specs.Prelude.{Option, None, Some, Result, Ok, Err, OnOk, List, map, max, nat_eq, option_map, ◌∷◌, []}
use Rattle.signals.specs.declared.signal.PageEnd.{PageEnd}
use Rattle.signals.specs.declared.signal.PageEnd.TheVariants.{Null, Mps, Eom, Eop}
use Rattle.partial_page.specs.Assembling.{last_counted}
use Rattle.partial_page.specs.Assembling.{asked_by}
use Rattle.signals.specs.declared.mark.Mark.{Mark}
use Rattle.signals.specs.declared.mark.Pps.{Pps}
use Rattle.captures.specs.Captured.{Capture, Step, Takes, after_lack, agreed, finds_none, gives_up, hears_block, is_waiting, judges_by, last_of}
use Rattle.captures.specs.Captured.{missing_before, renumbers, has_used_number, turns_from, turns_number, turns_page, turns_to, ◌>>>◌}
use Rattle.captures.specs.declared.captured.Captured.{Captured}
use Rattle.captures.specs.declared.captured.Captured.TheVariants.{MissingBlocks}
use Rattle.captures.proofs.Capturing.{takes_first}

abbrev CountsGreater : Mark → ℕ → Option Pps → Type 0
CountsGreater mark last waits = last_counted (option_map asked_by waits) mark last ≡ last_of waits last

of_mark : (mark : Mark) (last : ℕ) (waits : Option Pps) → is_waiting waits mark ≡ true → CountsGreater mark last waits
of_mark mark last None same = refl
of_mark mark last (Some waiting) same = ap (λ (b : Bool). cond b (max waiting.last last) last) same

lacks_none : (ends : PageEnd) (mark : Mark) (s : Capture) → (after_lack ends mark s).waiting ≡ s.waiting
lacks_none Null mark s = refl
lacks_none Mps mark s = refl
lacks_none Eom mark s = refl
lacks_none Eop mark s = refl

given_up : (s : Capture) (waits : Option Pps) → s.waiting ≡ waits → (gives_up s waits).then.waiting ≡ None
unfolding gives_up
given_up s None e = e
given_up s (Some waiting) e = lacks_none waiting.ends waiting.mark _

pub turned_to : (mark : Mark) (s : Capture) → (turns_to mark s).then.waiting ≡ s.waiting
turned_to mark s = stays (nat_eq mark.block s.next)
  where
    stays : (b : Bool) → (cond b (finds_none s) (record {
      then = record s { octets = []; next = mark.block; spoiled = true };
      found = MissingBlocks mark ∷ [];
    })).then.waiting ≡ s.waiting
    stays true = refl
    stays false = refl

pub turned_page : (mark : Mark) (s : Capture) → (turns_page mark s).then.waiting ≡ s.waiting
turned_page mark s = stays (nat_eq mark.page s.page)
  where
    stays : (b : Bool) → (cond b (finds_none s) (record {
      then = record s { page = mark.page; octets = []; next = 0; spoiled = false };
      found = missing_before mark.page s;
    })).then.waiting ≡ s.waiting
    stays true = refl
    stays false = refl

renumbered : (said : Option PageEnd) (mark : Mark) (s : Capture) → (renumbers said mark s).then.waiting ≡ s.waiting
renumbered None mark s = refl
renumbered (Some Null) mark s = refl
renumbered (Some Mps) mark s = refl
renumbered (Some Eom) mark s = refl
renumbered (Some Eop) mark s = refl

pub turned_number : (mark : Mark) (s : Capture) → (turns_number mark s).then.waiting ≡ s.waiting
turned_number mark s = stays (has_used_number s.said mark s)
  where
    stays : (b : Bool) → (cond b (renumbers s.said mark s) (finds_none s)).then.waiting ≡ s.waiting
    stays true = renumbered s.said mark s
    stays false = refl

-- a block is turned to, by its mark
abbrev pub turns : Mark → Capture → Step
turns mark s = turns_from mark s >>> turns_number mark >>> turns_page mark >>> turns_to mark

counts_greater : (mark : Mark) (last : ℕ) (s : Capture) →
    last_counted (option_map asked_by (turns mark s).then.waiting) mark last ≡ last_of (turns mark s).then.waiting last
counts_greater mark last s = subst (CountsGreater mark last) (sym (kept (turns_from mark s).then)) (turned (is_waiting s.waiting mark) refl)
  where
    kept : (from : Capture) → (turns_number mark from >>> turns_page mark >>> turns_to mark).then.waiting ≡ from.waiting
    kept from = let number : Capture = (turns_number mark from).then in
        turned_to mark (turns_page mark number).then ∙ (turned_page mark number ∙ turned_number mark from)

    turned : (b : Bool) → is_waiting s.waiting mark ≡ b
        → CountsGreater mark last (cond b (finds_none s) (gives_up s s.waiting)).then.waiting
    turned true same = of_mark mark last s.waiting same
    turned false other = subst (CountsGreater mark last) (sym (given_up s s.waiting refl)) refl

-- a PPS of a block that isn't whole yet: what waits is turned from, and its frames are judged by the last one that counts
pub block_heard : {A E : Type 0} (result : Result A E) (pps counted : Pps) (s from number page to new : Capture)
    (out out_from out_number out_page out_to all : List Captured) → Takes (turns_from pps.mark s) from out out_from
    → Takes (turns_number pps.mark from) number out_from out_number
    → Takes (turns_page pps.mark number) page out_number out_page → Takes (turns_to pps.mark page) to out_page out_to
    → counted ≡ record pps { last = last_counted (option_map asked_by to.waiting) pps.mark pps.last }
    → OnOk result (Takes (judges_by (agreed to) counted.ends counted.mark counted.last to) new out_to all)
    → OnOk result (Takes (hears_block pps.ends pps.mark pps.last s) new out all)
unfolding hears_block
block_heard (Ok done) pps counted s from number page to new out out_from out_number out_page out_to all a n b c is judged =
    takes_first (turns pps.mark s)
    (λ s. judges_by (agreed s) pps.ends pps.mark (last_of s.waiting pps.last) s) to new out out_to all turned
    (subst (λ (last : ℕ). Takes (judges_by (agreed to) pps.ends pps.mark last to) new out_to all) greater
    (subst (λ (p : Pps). Takes (judges_by (agreed to) p.ends p.mark p.last to) new out_to all) is judged))
  where
    turned : Takes (turns pps.mark s) to out out_to
    turned = takes_first (turns_from pps.mark s >>> turns_number pps.mark >>> turns_page pps.mark) (turns_to pps.mark) page to out
        out_page out_to
        (takes_first (turns_from pps.mark s >>> turns_number pps.mark) (turns_page pps.mark) number page out out_number out_page
        (takes_first (turns_from pps.mark s) (turns_number pps.mark) from number out out_from out_number a n) b) c

    greater : last_counted (option_map asked_by to.waiting) pps.mark pps.last ≡ last_of to.waiting pps.last
    greater = subst (λ (x : Capture). CountsGreater pps.mark pps.last x.waiting) (sym turned.is) (counts_greater pps.mark pps.last s)
block_heard (Err refused) pps counted s from number page to new out out_from out_number out_page out_to all a n b c is judged = tt

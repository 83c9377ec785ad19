-- An answerer that stores no more pages than it is given room for.
use Rattle.std.proofs.Common.{◌≡◌, ℕ, ◌≤◌, ◌<◌, Bool, true, false, not, List}
use Rattle.std.proofs.Common.{length, refl, sym, ap, subst, ◌∙◌, arith, inl, inr}
use Rattle.std.specs.Prelude.{◌↔◌, ◌&&◌, ◌||◌, nat_le, IsTrue}
use Rattle.std.proofs.lemmas.Bool.{leb-true, leb-false}
use Rattle.raster.specs.Pages.{PagePixels}
use Rattle.signals.specs.Signals.{dis, dcs, cfr, ftt, fcd, rcp, pps, ppr, mcf, rnr, rr, dcn, other}
use Rattle.signals.specs.declared.signal.PageEnd.{PageEnd}
use Rattle.stations.specs.AnswererKeeping.{AnswererKeeps}
use Rattle.stations.specs.AnswererStep.{Answerer, answerer_step, is_repeated}
use Rattle.stations.specs.EndsMean.{IsAccepted}
use Rattle.stations.specs.Inputs.{AnswererInput, listens, trains, t2, t1, is_busy}
use Rattle.stations.specs.Limiting.{octets_of_pages, is_full, is_kept_out, busy_while}
use Rattle.stations.specs.Limiting.{IsWithin}
use Rattle.stations.specs.Runs.{StepsStoreOpen}
use Rattle.stations.specs.declared.limiting.Limits.{Limits}
use Rattle.stations.proofs.AnswerersEnds.{repeated_is}

-- a PPS that is heard, and isn't kept out, is of the last accepted block
heard_again :
    (s : Answerer) (full : Bool) (input : AnswererInput) (ends : PageEnd) (page block last : ℕ) →
    is_kept_out s input ≡ false → busy_while full input ≡ listens (pps ends page block last) → IsAccepted s page block
heard_again s full (listens (pps ends' page' block' last')) ends page block last out is =
    let here : is_kept_out s (listens (pps ends page block last)) ≡ false = subst (λ i. is_kept_out s i ≡ false) is out in
    repeated_is s page block s.accepted refl (of_not (is_repeated s.accepted (record { page = page; block = block })) here)
  where
    of_not : (b : Bool) → not b ≡ false → b ≡ true
    of_not true e = refl
    of_not false e = sym e
heard_again s full (listens (fcd number octets)) ends page block last out is = let no : ⊥ = cc in absurd no
heard_again s full (listens (dis caps)) ends page block last out is = let no : ⊥ = cc in absurd no
heard_again s full (listens (dcs params)) ends page block last out is = let no : ⊥ = cc in absurd no
heard_again s full (listens cfr) ends page block last out is = let no : ⊥ = cc in absurd no
heard_again s full (listens ftt) ends page block last out is = let no : ⊥ = cc in absurd no
heard_again s full (listens rcp) ends page block last out is = let no : ⊥ = cc in absurd no
heard_again s full (listens (ppr map)) ends page block last out is = let no : ⊥ = cc in absurd no
heard_again s full (listens mcf) ends page block last out is = let no : ⊥ = cc in absurd no
heard_again s full (listens rnr) ends page block last out is = let no : ⊥ = cc in absurd no
heard_again s full (listens rr) ends page block last out is = let no : ⊥ = cc in absurd no
heard_again s full (listens dcn) ends page block last out is = let no : ⊥ = cc in absurd no
heard_again s full (listens (other octet)) ends page block last out is = let no : ⊥ = cc in absurd no
heard_again s full (trains octets) ends page block last out is = let no : ⊥ = cc in absurd no
heard_again s full t2 ends page block last out is = let no : ⊥ = cc in absurd no
heard_again s full t1 ends page block last out is = let no : ⊥ = cc in absurd no
heard_again s full (is_busy busy) ends page block last out is = let no : ⊥ = cc in absurd no

-- so a full answerer stores no page
full_stores_none :
    (s next : Answerer) (full : Bool) (input : AnswererInput) → AnswererKeeps s (busy_while full input) next →
    is_kept_out s input ≡ false → next.pages ≡ s.pages
full_stores_none s next full input keeps out =
    elim keeps.block [
      | inl same ↦ same.2
      | inr takes ↦ absurd (takes.meets.is_new
          (heard_again s full input takes.ends takes.mark.page takes.mark.block takes.meets.last out takes.meets.heard))
    ]

-- and each step leaves one page above the limits at most
pub stays_within :
    StepsStoreOpen → (limits : Limits) (s next : Answerer) (full : Bool) (input : AnswererInput) →
    full ≡ is_full limits s.pages → next ≡ (answerer_step s (busy_while full input)).next →
    AnswererKeeps s (busy_while full input) next → full && is_kept_out s input ≡ false → IsWithin limits s.pages →
    IsWithin limits next.pages
stays_within law limits s next true input is steps keeps out within =
    subst (IsWithin limits) (sym (full_stores_none s next true input keeps out)) within
stays_within law limits s next false input is steps keeps out within =
    elim (law s (busy_while false input)) [
      | inl same ↦ subst (IsWithin limits) (sym (ap (λ (a : Answerer). a.pages) steps ∙ same)) within
      | inr stored ↦ inr (s.pages, stored.0, ap (λ (a : Answerer). a.pages) steps ∙ stored.3, sym is)
    ]

-- the same, with the input as it was heard
pub stays_within_heard :
    StepsStoreOpen → (limits : Limits) (s next : Answerer) (full : Bool) (input heard : AnswererInput) →
    full ≡ is_full limits s.pages → heard ≡ busy_while full input → next ≡ (answerer_step s heard).next →
    AnswererKeeps s heard next → full && is_kept_out s input ≡ false → IsWithin limits s.pages → IsWithin limits next.pages
stays_within_heard law limits s next full input heard is same steps keeps out within =
    stays_within law limits s next full input is (steps ∙ ap (λ i. (answerer_step s i).next) same)
    (subst (λ i. AnswererKeeps s i next) same keeps) out within

-- a test that is true exactly where one number is at most another
bool_is : (b : Bool) (m n : ℕ) → (IsTrue b ↔ (m ≤ n)) → b ≡ nat_le m n
bool_is b m n h = at (nat_le m n) refl b h
  where
    at : (t : Bool) → nat_le m n ≡ t → (b : Bool) → (IsTrue b ↔ (m ≤ n)) → b ≡ t
    at true e true h = refl
    at true e false h = let no : false ≡ true = h.1 (leb-true m n e) in absurd cc
    at false e true h = let most : m ≤ n = h.0 refl in let less : n < m = leb-false m n e in absurd (omega (arith, most, less))
    at false e false h = refl

-- pages that are too many reach a limit; else they do where their octets do
pub full_by_count :
    (limits : Limits) (pages : List PagePixels) → limits.pages ≤ length pages →
    nat_le limits.pages (length pages) ≡ is_full limits pages
unfolding is_full
full_by_count limits pages most =
    let e : true ≡ nat_le limits.pages (length pages) =
    bool_is true limits.pages (length pages) ((λ t. most), (λ t. refl)) in
    sym e ∙ ap (λ b. b || nat_le limits.octets (octets_of_pages pages)) e

pub full_by_octets :
    (limits : Limits) (pages : List PagePixels) (b : Bool) → length pages < limits.pages →
    (IsTrue b ↔ (limits.octets ≤ octets_of_pages pages)) → b ≡ is_full limits pages
unfolding is_full
full_by_octets limits pages b less h =
    let e : false ≡ nat_le limits.pages (length pages) =
    bool_is false limits.pages (length pages)
    ((λ t. let no : ⊥ = cc in absurd no), (λ most. absurd (omega (arith, most, less)))) in
    bool_is b limits.octets (octets_of_pages pages) h ∙ ap (λ t. t || nat_le limits.octets (octets_of_pages pages)) e

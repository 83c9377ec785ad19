-- Where both stations agree on each page, the pages are those of groups.
use Rattle.std.proofs.Common.{◌≡◌, Bool, true, false, cond, List, [], ◌∷◌, Some, refl, sym, ap, subst, ◌∙◌, arith}
use Rattle.std.specs.Prelude.{nat_eq}
use Rattle.std.specs.Bool.{beq}
use Rattle.std.proofs.lemmas.Bool.{and_parts, eqb-true}
use Rattle.raster.specs.Pages.{PagePixels}
use Rattle.signals.specs.declared.params.Caps.{Caps}
use Rattle.signals.specs.declared.params.Params.{Params}
use Rattle.signals.specs.declared.params.Wish.{Wish}
use Rattle.signals.specs.Agreement.{width_of_pixels}
use Rattle.stations.specs.Layers.{in_one_group, agreed_for, agreed_at, code_within_limit}
use Rattle.line_sim.specs.Polite.{AreAgreed, GroupsAreAgreed}

same_bool : (a b : Bool) → beq a b ≡ true → a ≡ b
same_bool true true e = refl
same_bool true false e = cc
same_bool false true e = cc
same_bool false false e = refl

-- pages of one group have the same agreement
same_agreement :
    (caps : Caps) (wish : Wish) (page next : PagePixels) → in_one_group page next ≡ true →
    agreed_for caps wish (Some page) ≡ agreed_for caps wish (Some next)
unfolding in_one_group agreed_for
same_agreement caps wish page next e =
    let both = and_parts (nat_eq page.width next.width) (beq page.fine next.fine) e in
    let width : page.width ≡ next.width = eqb-true page.width next.width both.0 in
    let fine : page.fine ≡ next.fine = same_bool page.fine next.fine both.1 in
    ap (λ n. agreed_at caps wish (width_of_pixels n) page.fine) width ∙ ap (agreed_at caps wish (width_of_pixels next.width)) fine

-- a page goes before pages that are agreed on
page_before :
    (caps : Caps) (wish : Wish) (page next : PagePixels) (pages : List PagePixels) (params : Params) →
    agreed_for caps wish (Some page) ≡ Some params → code_within_limit params page ≡ true →
    (groups : List Params) → AreAgreed caps wish groups (next ∷ pages) → (b : Bool) → in_one_group page next ≡ b → (more : List Params) ×
    AreAgreed caps wish more (page ∷ next ∷ pages)
page_before caps wish page next pages params agree short [] h b e = absurd h
page_before caps wish page next pages params agree short (first ∷ groups) h true e =
    let same : first ≡ params = (let one : Some first ≡ Some params = sym h.0 ∙ (sym (same_agreement caps wish page next e) ∙ agree) in
    cc) in (
      first ∷ groups,
      (
        agree ∙ ap Some (sym same),
        subst (λ p. code_within_limit p page ≡ true) (sym same) short,
        subst (λ g. AreAgreed caps wish g (next ∷ pages)) (sym (ap (λ x. cond x (first ∷ groups) groups) e)) h,
      ),
    )
page_before caps wish page next pages params agree short (first ∷ groups) h false e = (
  params ∷ first ∷ groups,
  (agree, short, subst (λ g. AreAgreed caps wish g (next ∷ pages)) (sym (ap (λ x. cond x (params ∷ first ∷ groups) (first ∷ groups)) e)) h),
)

pub groups_are_agreed : GroupsAreAgreed
groups_are_agreed caps wish [] some each = absurd (omega arith)
groups_are_agreed caps wish (page ∷ []) some each = (each.0.0 ∷ [], (each.0.1, each.0.2, refl))
groups_are_agreed caps wish (page ∷ next ∷ pages) some each =
    let later = groups_are_agreed caps wish (next ∷ pages) (omega arith) each.1 in
    page_before caps wish page next pages each.0.0 each.0.1 each.0.2 later.0 later.1 (in_one_group page next) refl

use Rattle.std.proofs.Common.{◌≡◌, ◌<◌, ◌+◌, ◌++◌, ◌∷◌, [], ◌-◌, ◌∙◌, List, ap, arith, length, subst, sym, take, ℕ}
use Rattle.std.proofs.lemmas.List.{length-take-le}
use Rattle.std.specs.Prelude.{All}
use Rattle.raster.specs.declared.row.Color.{Color}
use Rattle.raster.specs.declared.row.Color.TheVariants.{White}
use Rattle.raster.specs.Changes.{turning}
use Rattle.page_code.specs.TwoDimensions.Lines.{BothLines}
use Rattle.page_code.specs.TwoDimensions.Positions.{line_begin}
use Rattle.page_code.proofs.TwoDimensions.BothLines.{begin_fits, held_after}
use Rattle.page_code.proofs.TwoDimensions.Lines.{few_left}
use Rattle.page_code.proofs.TwoDimensions.QuickModes.{lengths}
use Rattle.page_code.proofs.t6.lines.Lines.push_to.Goals as goal

abbrev with_line : List Color → BothLines
with_line reference = record { reference = reference; line = line_begin }

pub end_list-requires : goal.end_list-requires
end_list-requires c =
    let inside = c.self.inside in
    let count = c.turns_within-count.result in
    omega (
      arith,
      few_left (take count inside.list.items) inside.width c.turns_within-count.ensures.left,
      length-take-le count inside.list.items (omega (arith, c.turns_within-count.ensures.most, c.self.invariant.fits.turns)),
      c.self.invariant.fits.room,
    )

pub invariant_of-self : goal.invariant_of-self
invariant_of-self c =
    let inside = c.self.inside in
    let count = c.turns_within-count.result in
    let left = c.turns_within-count.ensures.left in
    let long = length-take-le count inside.list.items (omega (arith, c.turns_within-count.ensures.most, c.self.invariant.fits.turns)) in
    let few = few_left (take count inside.list.items) inside.width left in
    let held = held_after c.end_list.new.list.items (take count inside.list.items) count inside.width long left c.end_list.ensures.ends in
    rw (c.swap.ensures.x_after, c.swap.ensures.y_after, c.begin-self-inside.ensures) (record {
      known = omega (arith, c.end_list.ensures.length, few, long, c.self.invariant.fits.room);
      room = omega (arith, c.end_list.ensures.length, c.self.invariant.fits.room);
      held = held.0;
      fits = begin_fits _ (take (count + 3) c.end_list.new.list.items) inside.held.items inside.width c.self.invariant.fits.wide held.0
          held.1
          c.self.invariant.room;
    })

pub push_changes-requires-clause-below : goal.push_changes-requires-clause-below
push_changes-requires-clause-below c =
    let inside = c.self.inside in
    let both = lengths (take inside.known inside.held.items) inside.list.items inside.width inside.front _ c.self.invariant.fits
    c.self.invariant.held in
    let same : inside.width ≡ c.args.page.now.width =
    sym both.1 ∙ (ap (λ (b : BothLines). length b.reference) c.self.view_is ∙ c.requires.wide) in
    rw c.deref.ensures.value (subst (λ (n : ℕ). All (λ place. place < n) (take c.turns_within-count.result inside.list.items)) same
    c.turns_within-count.ensures.left.below)

pub returns-clause-page : goal.returns-clause-page
returns-clause-page c =
    let inside = c.self.inside in
    let page = c.args.page.now in
    let count = c.turns_within-count.result in
    let both = lengths (take inside.known inside.held.items) inside.list.items inside.width inside.front _ c.self.invariant.fits
    c.self.invariant.held in
    let same : inside.width ≡ page.width =
    sym both.1 ∙ (ap (λ (b : BothLines). length b.reference) c.self.view_is ∙ c.requires.wide) in
    let full : inside.front.from - 1 ≡ inside.width = omega (arith, both.0, both.1, rw (← c.self.view_is) at c.requires.whole) in
    let pixels : turning White 0 (take count c.deref.result.now) page.width ≡ c.args.self.now.line.pixels =
    rw c.deref.ensures.value (ap (turning White 0 (take count inside.list.items)) (sym same) ∙ (c.turns_within-count.ensures.pixels ∙
    (ap (turning White 0 (take inside.front.turns inside.list.items)) (sym full) ∙
    ap (λ (b : BothLines). b.line.pixels) c.self.view_is))) in
    c.in_ok-push_changes.ensures.ok ∙ ap (λ (row : List Color). record page { rows = page.rows ++ row ∷ [] }) pixels

pub returns-clause-next : goal.returns-clause-next
returns-clause-next c =
    let inside = c.self.inside in
    let count = c.turns_within-count.result in
    let long = length-take-le count inside.list.items (omega (arith, c.turns_within-count.ensures.most, c.self.invariant.fits.turns)) in
    let held = held_after c.end_list.new.list.items (take count inside.list.items) count inside.width long c.turns_within-count.ensures.left
    c.end_list.ensures.ends in
    let both = lengths (take inside.known inside.held.items) inside.list.items inside.width inside.front _ c.self.invariant.fits
    c.self.invariant.held in
    let full : inside.front.from - 1 ≡ inside.width = omega (arith, both.0, both.1, rw (← c.self.view_is) at c.requires.whole) in
    let pixels = held.2 ∙ (c.turns_within-count.ensures.pixels ∙ (ap (turning White 0 (take inside.front.turns inside.list.items))
    (sym full) ∙
    ap (λ (b : BothLines). b.line.pixels) c.self.view_is)) in
    rw (c.swap.ensures.x_after, c.begin-self-inside.ensures) (ap with_line pixels)

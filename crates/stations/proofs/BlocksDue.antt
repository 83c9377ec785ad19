-- How far a caller is with its present block.
use Rattle.std.proofs.Common.{◌≡◌, ℕ, zero, suc, ◌+◌, Option, Some, None, List, [], ◌∷◌, drop, length, refl, ap, sym, ◌∙◌}
use Rattle.std.specs.Prelude.{slice_get}
use Rattle.raster.specs.Pages.{PagePixels}
use Rattle.stations.specs.Blocks.{Block}
use Rattle.stations.specs.CallerFields.{CallerFields, Represents, AtBlock, IsSending, block_of_fields}
use Rattle.stations.specs.CallerStep.{Caller, confirmed, present_in, present_block}
use Rattle.stations.specs.HowFar.{block_progress, blocks_due}
use Rattle.stations.specs.Layers.{code_blocks}
use Rattle.stations.specs.declared.howfar.BlockProgress.{BlockProgress}
use Rattle.stations.specs.declared.turn.CallerState.{CallerState}
use Rattle.stations.specs.declared.turn.CallerState.TheVariants.{WaitDis, WaitCfr, WaitBlock, WaitReady}
use Rattle.stations.specs.declared.turn.End.{End}
use Rattle.stations.proofs.CallerRows.{at_block}

-- the first of the pages from a number on is the page of that number
get_of_drop : (pages following : List PagePixels) (n : ℕ) (page : PagePixels) → drop n pages ≡ page ∷ following → slice_get pages n ≡ Some page
get_of_drop [] following zero page e = let no : ⊥ = cc in absurd no
get_of_drop [] following (suc n) page e = let no : ⊥ = cc in absurd no
get_of_drop (first ∷ pages) following zero page e = cc
get_of_drop (first ∷ pages) following (suc n) page e = get_of_drop pages following n page e

-- a caller that has a present block is sending
sends : (state : CallerState) (ending : Option End) (block : Option Block) (present : Block) → present_in state ending block ≡ Some present →
    IsSending state × (ending ≡ None)
sends WaitDis ending block present e = let no : ⊥ = cc in absurd no
sends WaitCfr ending block present e = let no : ⊥ = cc in absurd no
sends WaitBlock None block present e = (tt, refl)
sends WaitBlock (Some why) block present e = let no : ⊥ = cc in absurd no
sends WaitReady None block present e = (tt, refl)
sends WaitReady (Some why) block present e = let no : ⊥ = cc in absurd no

-- the blocks that are made are those of the page that is due
pub blocks_are_due :
    (v : CallerFields) (t : Caller) (blocks : List (List (List ℕ))) (present : Block) → Represents v t → present_block t ≡ Some present →
    v.encoded ≡ Some blocks → length blocks ≡ blocks_due t.params (slice_get t.document (confirmed t))
blocks_are_due v t blocks present r shown is =
    let on = sends t.state t.ending _ present shown in
    let sending : IsSending v.state = rw (← r.state) on.0 in
    let runs : v.ending ≡ None = sym r.ending ∙ on.1 in
    let at : AtBlock v t = at_block v t v.state refl sending (r.place runs) in
    let page : slice_get v.document v.page ≡ Some at.page = get_of_drop v.document at.following v.page at.page at.page_is in
    let same : blocks ≡ code_blocks v.params at.page = cc in
    let due : slice_get t.document (confirmed t) ≡ Some at.page =
    ap (λ (d : List PagePixels). slice_get d (confirmed t)) r.document ∙ (ap (slice_get v.document) r.confirms ∙ page) in
    ap length same ∙ sym (ap (blocks_due t.params) due ∙ ap (λ q. length (code_blocks q at.page)) r.params)

alike : (a b c a' b' c' : ℕ) → a ≡ a' → b ≡ b' → c ≡ c' →
    ◌≡◌ {A = Option BlockProgress} (Some (record { number = a + 1; blocks = b; resends = c }))
    (Some (record { number = a' + 1; blocks = b'; resends = c' }))
alike a b c a' b' c' e f g = rw (e, f, g) refl

-- so what the fields say of the present block is what the tuple says
pub progress_is :
    (v : CallerFields) (t : Caller) (blocks : List (List (List ℕ))) (place count resends : ℕ) → place ≡ v.block → count ≡ length blocks →
    resends ≡ v.pprs → Represents v t → present_block t ≡ Some (block_of_fields v blocks) → v.encoded ≡ Some blocks →
    ◌≡◌ {A = Option BlockProgress} (Some (record { number = place + 1; blocks = count; resends = resends }))
    (block_progress t (present_block t))
progress_is v t blocks place count resends at size again r shown is =
    alike place count resends v.block (blocks_due t.params (slice_get t.document (confirmed t))) t.pprs at
    (size ∙ blocks_are_due v t blocks (block_of_fields v blocks) r shown is) (again ∙ sym r.pprs) ∙ sym (ap (block_progress t) shown)

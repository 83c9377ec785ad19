-- Eight 1 bits leave a flag finder as it was, where 1 bits alone came.
use Rattle.std.proofs.Common.{◌≡◌, ℕ, Bool, true, false, List, [], ◌∷◌, ◌++◌, refl, sym, arith, subst}
use Rattle.std.proofs.lemmas.List.{append-nil}
use Rattle.raster.specs.Packed.{bits_of}
use Rattle.raster.specs.declared.packed.Order.TheVariants.{LsbFirst}
use Rattle.raster.proofs.OctetBits.{octet_bits}
use Rattle.hdlc.specs.declared.counts.Counts.{Counts}
use Rattle.hdlc.specs.declared.flag_finder.FlagFinder.{FlagFinder}
use Rattle.hdlc.specs.declared.gap.Gap.{Gap}
use Rattle.hdlc.specs.Gaps.{unstuffed}
use Rattle.hdlc.specs.OpenGap.{unclosed}
use Rattle.hdlc.specs.Collects.{Collects}
use Rattle.hdlc.specs.DeframerParts.{Cuts, PartsAfter}
use Rattle.hdlc.proofs.BitPlaces.{bits_of-one}
use Rattle.hdlc.proofs.CollectingOctets.{collects_octet}
use Rattle.hdlc.proofs.QuietOctets.{parts_quiet}
use Rattle.hdlc.proofs.QuietRuns.{Comes, no_flag_comes, after_full, after_unbegun}

-- an aborted gap with six 1 bits at its end, after eight more
collects_ones : (c : Gap) (gap : List Bool) → Collects c gap → c.ones ≡ 6 → c.aborted ≡ true → c.seen ≡ 8
    → Collects c (gap ++ octet_bits 255)
collects_ones c gap old six aborted seen =
    collects_octet c c gap 255 old (omega arith) seen (rw six refl) (rw (six, aborted) refl)
    (rw (six, append-nil (unstuffed gap)) old.unstuffed)

come_ones : (finder : FlagFinder) (bits : List Bool) → Cuts finder bits → finder.window ≡ 255 → Comes finder bits (255 ∷ [])
come_ones finder bits cuts is = record { cuts = cuts; fit = (omega arith, tt); quiet = rw (is, bits_of-one 255) refl }

pub ones_unbegun : (finder : FlagFinder) (counts : Counts) (queue : List (List ℕ)) (bits : List Bool) (handed : ℕ)
    → PartsAfter finder counts queue bits handed → finder.window ≡ 255 → finder.begun ≡ false
    → PartsAfter finder counts queue (bits ++ bits_of LsbFirst (finder.window ∷ [])) handed
ones_unbegun finder counts queue bits handed old is not_yet =
    let come : Comes finder bits (255 ∷ []) = come_ones finder bits old.cuts is in
    subst (λ w. PartsAfter finder counts queue (bits ++ bits_of LsbFirst (w ∷ [])) handed) (sym is)
    (parts_quiet finder finder counts queue bits (bits_of LsbFirst (255 ∷ [])) handed old (no_flag_comes finder bits (255 ∷ []) come)
    (after_unbegun finder finder bits (255 ∷ []) 0 refl come refl is not_yet refl refl))

pub ones_aborted : (finder : FlagFinder) (counts : Counts) (queue : List (List ℕ)) (bits : List Bool) (handed : ℕ)
    → PartsAfter finder counts queue bits handed → finder.window ≡ 255 → finder.held ≡ 8 → finder.gap.ones ≡ 6
    → finder.gap.aborted ≡ true → finder.gap.seen ≡ 8
    → PartsAfter finder counts queue (bits ++ bits_of LsbFirst (finder.window ∷ [])) handed
ones_aborted finder counts queue bits handed old is full six aborted seen =
    let come : Comes finder bits (255 ∷ []) = come_ones finder bits old.cuts is in
    let more : Collects finder.gap (unclosed bits ++ octet_bits 255) =
    collects_ones finder.gap (unclosed bits) old.cuts.gap six aborted seen in
    subst (λ w. PartsAfter finder counts queue (bits ++ bits_of LsbFirst (w ∷ [])) handed) (sym is)
    (parts_quiet finder finder counts queue bits (bits_of LsbFirst (255 ∷ [])) handed old (no_flag_comes finder bits (255 ∷ []) come)
    (after_full finder finder bits (255 ∷ []) 0 refl come refl is full full
    (rw (is, bits_of-one 255) more)))

-- What is told of a signal means it.
use Rattle.std.proofs.Common.{◌≡◌, ℕ, ◌+◌, ◌<◌, Bool, true, false, List, length, take, drop, Some}
use Rattle.std.proofs.Common.{refl, sym, inl, inr, ◌∙◌, ap, arith}
use Rattle.std.proofs.lemmas.Bool.{le-ltb, lt-ltb, cases_lt}
use Rattle.std.proofs.lemmas.List.{take_at, length-append}
use Rattle.raster.specs.declared.coding.Coding.{Coding}
use Rattle.raster.specs.declared.coding.Coding.TheVariants.{OneDim, T6}
use Rattle.signals.specs.Agreement.{pixels_of, width_of_pixels}
use Rattle.signals.specs.Signals.{dis, dcs, cfr, ftt, fcd, rcp, pps, ppr, mcf, rnr, rr, dcn, other}
use Rattle.signals.specs.declared.params.Caps.{Caps}
use Rattle.signals.specs.declared.params.Modems.{Modems}
use Rattle.signals.specs.declared.params.Modems.TheVariants.{Fallback, V27, V29, V27V29, V17}
use Rattle.signals.specs.declared.params.PageWidth.{PageWidth}
use Rattle.signals.specs.declared.params.PageWidth.TheVariants.{W1728, W2048, W2432}
use Rattle.signals.specs.declared.params.Params.{Params}
use Rattle.signals.specs.declared.params.Speed.{Speed}
use Rattle.signals.specs.declared.params.Speed.TheVariants.{V27At2400, V27At4800, V29At7200, V29At9600, V17At7200, V17At9600, V17At12000}
use Rattle.signals.specs.declared.params.Speed.TheVariants.{V17At14400}
use Rattle.signals.specs.declared.signal.PageEnd.{PageEnd}
use Rattle.signals.specs.declared.signal.PageEnd.TheVariants.{Null, Mps, Eom, Eop}
use Rattle.signals.proofs.WritingLemmas.{same_caps, same_params}
use Rattle.g3fax.specs.Beginning.{small_of}
use Rattle.g3fax.specs.Codes.{coding_of}
use Rattle.g3fax.specs.Handles.{Copies}
use Rattle.g3fax.specs.Numbers.{flag_number, speed_number}
use Rattle.g3fax.specs.Pages.{is_set}
use Rattle.g3fax.specs.SignalNumbers.{coding_number, end_of_number, frame_number, modems_number, modems_of_number, octet_of, page_end_number}
use Rattle.g3fax.specs.SignalNumbers.{speed_of_number}
use Rattle.g3fax.specs.Signals.{dis_told, params_told}
use Rattle.g3fax.specs.SignalsMeant.{MeansWhatIsTold, dis_meant, dis_signal, dis_with, dcs_signal, params_meant, params_with, pps_with}

flag-back : (is : Bool) → is_set (flag_number is) ≡ is
flag-back true = refl
flag-back false = refl

modems-back : (modems : Modems) → modems_of_number (modems_number modems) ≡ Some modems
modems-back Fallback = refl
modems-back V27 = refl
modems-back V29 = refl
modems-back V27V29 = refl
modems-back V17 = refl

speed-back : (speed : Speed) → speed_of_number (speed_number speed) ≡ Some speed
speed-back V27At2400 = refl
speed-back V27At4800 = refl
speed-back V29At7200 = refl
speed-back V29At9600 = refl
speed-back V17At7200 = refl
speed-back V17At9600 = refl
speed-back V17At12000 = refl
speed-back V17At14400 = refl

width-back : (width : PageWidth) → width_of_pixels (pixels_of width) ≡ Some width
width-back W1728 = refl
width-back W2048 = refl
width-back W2432 = refl

coding-back : (coding : Coding) → coding_of (coding_number coding) ≡ Some coding
coding-back OneDim = refl
coding-back T6 = refl

frame-back : (small : Bool) → small_of (frame_number small) ≡ Some small
frame-back true = refl
frame-back false = refl

end-back : (ends : PageEnd) → end_of_number (page_end_number ends) ≡ Some ends
end-back Null = refl
end-back Mps = refl
end-back Eom = refl
end-back Eop = refl

octet-back : (n : ℕ) → n < 256 → octet_of n ≡ Some n
octet-back n small = rw (lt-ltb n 256 small) refl

dis-back : (caps : Caps) → dis_meant (dis_told caps) ≡ Some caps
dis-back caps =
    ap (λ m. dis_with (dis_told caps) m (width_of_pixels (pixels_of caps.widest))) (modems-back caps.modems)
    ∙ ap (λ w. dis_with (dis_told caps) (Some caps.modems) w) (width-back caps.widest)
    ∙ ap Some (same_caps _ caps (flag-back caps.receiver) refl (flag-back caps.fine) refl (flag-back caps.t6) (flag-back caps.ecm))

params-back : (params : Params) → params_meant (params_told params) ≡ Some params
params-back params =
    let given = params_told params in
    ap (λ s. params_with given s (width_of_pixels given.width) (coding_of given.coding) (small_of given.frame)) (speed-back params.speed)
    ∙ ap (λ w. params_with given (Some params.speed) w (coding_of given.coding) (small_of given.frame)) (width-back params.width)
    ∙ ap (λ c. params_with given (Some params.speed) (Some params.width) c (small_of given.frame)) (coding-back params.coding)
    ∙ ap (λ m. params_with given (Some params.speed) (Some params.width) (Some params.coding) m) (frame-back params.small)
    ∙ ap Some (same_params _ params refl (flag-back params.fine) refl refl refl)

pub means-what-is-told : MeansWhatIsTold
means-what-is-told (dis caps) rest w h = ap dis_signal (dis-back caps)
means-what-is-told (dcs params) rest w h = ap dcs_signal (params-back params)
means-what-is-told cfr rest w h = refl
means-what-is-told ftt rest w h = refl
means-what-is-told (fcd number octets) rest w h =
    rw (
      octet-back number h,
      le-ltb (length octets) 1 w.0,
      le-ltb 256 (length octets) w.1,
      length-append octets rest,
      le-ltb (length octets + length rest) (length octets) (omega arith),
      take_at octets rest (length octets) refl,
    ) refl
means-what-is-told rcp rest w h = refl
means-what-is-told (pps ends page block last) rest w h =
    ap (λ e. pps_with e (octet_of page) (octet_of block) (octet_of last)) (end-back ends)
    ∙ ap (λ p. pps_with (Some ends) p (octet_of block) (octet_of last)) (octet-back page h.0)
    ∙ ap (λ b. pps_with (Some ends) (Some page) b (octet_of last)) (octet-back block h.1)
    ∙ ap (λ l. pps_with (Some ends) (Some page) (Some block) l) (octet-back last h.2)
means-what-is-told (ppr map) rest w h =
    rw (
      w,
      length-append map rest,
      w,
      le-ltb (32 + length rest) 32 (omega arith),
      take_at map rest 32 w,
    ) refl
means-what-is-told mcf rest w h = refl
means-what-is-told rnr rest w h = refl
means-what-is-told rr rest w h = refl
means-what-is-told dcn rest w h = refl
means-what-is-told (other octet) rest w h = absurd w

-- what was copied by status 0 is the content, at the beginning of the buffer
pub copied-content : (content before after : List ℕ) (count status : ℕ) → Copies content before after count status → status ≡ 0
    → take count after ≡ content
copied-content content before after count status copies is =
    elim (cases_lt (length before) (length content)) [
      | inl small ↦
          let no : status ≡ 103 = (copies.refused small).0 in
          absurd (omega (arith, is, no))
      | inr fits ↦
          ap (take count) (copies.done fits).1
          ∙ take_at content (drop (length content) before) count (sym copies.counted)
    ]

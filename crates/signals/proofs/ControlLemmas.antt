-- The control fields and their texts.
use Rattle.std.proofs.Common.{◌≡◌, ℕ, ◌<◌, [], ◌∷◌, get_or, refl, sym, ◌∙◌}
use Rattle.std.proofs.lemmas.Bool.{agree_below_at}
use Rattle.signals.proofs.ValueNumbers.{is_found, found, is-found}
use Rattle.signals.specs.Controls.{control_of}
use Rattle.signals.specs.Saying.{control_text, has_text, ControlsHaveTexts}
use Rattle.signals.specs.declared.control.Control.{Control}
use Rattle.signals.specs.declared.control.Control.TheVariants.{Dis, Dcs, Cfr, Ftt, Fcd, Rcp, Pps, Ppr, Mcf, Rnr, Rr, Dcn}

abbrev pub place_of_control : Control → ℕ
place_of_control Dis = 0
place_of_control Dcs = 1
place_of_control Cfr = 2
place_of_control Ftt = 3
place_of_control Fcd = 4
place_of_control Rcp = 5
place_of_control Pps = 6
place_of_control Ppr = 7
place_of_control Mcf = 8
place_of_control Rnr = 9
place_of_control Rr = 10
place_of_control Dcn = 11

abbrev pub control_at : ℕ → Control
control_at n = get_or (Dis ∷ Dcs ∷ Cfr ∷ Ftt ∷ Fcd ∷ Rcp ∷ Pps ∷ Ppr ∷ Mcf ∷ Rnr ∷ Rr ∷ Dcn ∷ []) n Dis

pub place-tells_control : (control : Control) → control_at (place_of_control control) ≡ control
place-tells_control Dis = refl
place-tells_control Dcs = refl
place-tells_control Cfr = refl
place-tells_control Ftt = refl
place-tells_control Fcd = refl
place-tells_control Rcp = refl
place-tells_control Pps = refl
place-tells_control Ppr = refl
place-tells_control Mcf = refl
place-tells_control Rnr = refl
place-tells_control Rr = refl
place-tells_control Dcn = refl

pub text-tells : (octet : ℕ) (control : Control) → octet < 256 → is_found place_of_control control (control_of octet)
    ≡ has_text (control_text control) octet
unfolding control_of
text-tells octet Dis h =
    agree_below_at (λ o. is_found place_of_control Dis (control_of o)) (λ o. has_text (control_text Dis) o) 256 octet refl h
text-tells octet Dcs h =
    agree_below_at (λ o. is_found place_of_control Dcs (control_of o)) (λ o. has_text (control_text Dcs) o) 256 octet refl h
text-tells octet Cfr h =
    agree_below_at (λ o. is_found place_of_control Cfr (control_of o)) (λ o. has_text (control_text Cfr) o) 256 octet refl h
text-tells octet Ftt h =
    agree_below_at (λ o. is_found place_of_control Ftt (control_of o)) (λ o. has_text (control_text Ftt) o) 256 octet refl h
text-tells octet Fcd h =
    agree_below_at (λ o. is_found place_of_control Fcd (control_of o)) (λ o. has_text (control_text Fcd) o) 256 octet refl h
text-tells octet Rcp h =
    agree_below_at (λ o. is_found place_of_control Rcp (control_of o)) (λ o. has_text (control_text Rcp) o) 256 octet refl h
text-tells octet Pps h =
    agree_below_at (λ o. is_found place_of_control Pps (control_of o)) (λ o. has_text (control_text Pps) o) 256 octet refl h
text-tells octet Ppr h =
    agree_below_at (λ o. is_found place_of_control Ppr (control_of o)) (λ o. has_text (control_text Ppr) o) 256 octet refl h
text-tells octet Mcf h =
    agree_below_at (λ o. is_found place_of_control Mcf (control_of o)) (λ o. has_text (control_text Mcf) o) 256 octet refl h
text-tells octet Rnr h =
    agree_below_at (λ o. is_found place_of_control Rnr (control_of o)) (λ o. has_text (control_text Rnr) o) 256 octet refl h
text-tells octet Rr h =
    agree_below_at (λ o. is_found place_of_control Rr (control_of o)) (λ o. has_text (control_text Rr) o) 256 octet refl h
text-tells octet Dcn h =
    agree_below_at (λ o. is_found place_of_control Dcn (control_of o)) (λ o. has_text (control_text Dcn) o) 256 octet refl h

pub controls-have-texts : ControlsHaveTexts
controls-have-texts octet control h = (
  λ found_so. sym (text-tells octet control h) ∙ is-found place_of_control control (control_of octet) found_so,
  λ text. found place_of_control control_at place-tells_control control (control_of octet) (text-tells octet control h ∙ text),
)

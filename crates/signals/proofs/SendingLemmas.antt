-- The bits that are sent.
use Rattle.std.proofs.Common.{◌≡◌, ℕ, ◌<◌, Bool, true, false, ◌&&◌, List, [], ◌∷◌, ◌++◌, get_or, Option, Some, None, IfSome, codes, refl}
use Rattle.std.proofs.Common.{sym, ◌∙◌, ap}
use Rattle.std.proofs.lemmas.Bool.{and_parts, agree_below_at}
use Rattle.signals.proofs.ValueNumbers.{is_found, found, is-found}
use Rattle.std.specs.Bool.{beq}
use Rattle.std.specs.List.{flat_map}
use Rattle.raster.specs.declared.coding.Coding.{Coding}
use Rattle.raster.proofs.OctetBits.{octet_bits, bits_of-flat_map}
use Rattle.raster.specs.Packed.{bits_of}
use Rattle.raster.specs.declared.packed.Order.TheVariants.{LsbFirst}
use Rattle.signals.proofs.EachValue.{each_speed, all_modems, each_modems, all_widths, each_width, all_codings, each_coding, all_bits}
use Rattle.signals.proofs.EachValue.{each_bit}
use Rattle.signals.specs.Reading.{page_end_of}
use Rattle.signals.specs.Saying.{control_text, has_text}
use Rattle.signals.specs.Sending.{text_bits, digits, is_caller, dis_table, dcs_table, table_bits, page_end_text, control_for, field_bits}
use Rattle.signals.specs.Sending.{sent_bits, WritesTheTables, PageEndsHaveTexts}
use Rattle.signals.specs.Signals.{PlainSignal, dis, dcs, cfr, ftt, fcd, rcp, pps, ppr, mcf, rnr, rr, dcn, other}
use Rattle.signals.specs.Writing.{dis_fields, dcs_fields, control_octet, fields_of, head_of, content_of}
use Rattle.signals.specs.declared.params.Caps.{Caps}
use Rattle.signals.specs.declared.params.Modems.{Modems}
use Rattle.signals.specs.declared.params.PageWidth.{PageWidth}
use Rattle.signals.specs.declared.params.Params.{Params}
use Rattle.signals.specs.declared.params.Speed.{Speed}
use Rattle.signals.specs.declared.control.Control.{Control}
use Rattle.signals.specs.declared.signal.PageEnd.{PageEnd}
use Rattle.signals.specs.declared.signal.PageEnd.TheVariants.{Null, Mps, Eom, Eop}
use Rattle.signals.specs.declared.signal.Side.{Side}
use Rattle.signals.specs.declared.signal.Side.TheVariants.{Caller, Answerer}

-- a test that two lists of bits are the same
abbrev pub same_bits : List Bool → List Bool → Bool
same_bits [] [] = true
same_bits (x ∷ xs) (y ∷ ys) = beq x y && same_bits xs ys
same_bits [] (y ∷ ys) = false
same_bits (x ∷ xs) [] = false

pub same-bit : (x y : Bool) → beq x y ≡ true → x ≡ y
same-bit true true e = refl
same-bit false false e = refl
same-bit true false e = cc
same-bit false true e = cc

pub same-bits : (xs ys : List Bool) → same_bits xs ys ≡ true → xs ≡ ys
same-bits [] [] e = refl
same-bits (x ∷ xs) (y ∷ ys) e =
    let parts = and_parts (beq x y) (same_bits xs ys) e in ap (λ b. b ∷ xs) (same-bit x y parts.0)
    ∙ ap (λ bs. y ∷ bs) (same-bits xs ys parts.1)
same-bits [] (y ∷ ys) e = cc
same-bits (x ∷ xs) [] e = cc

abbrev pub dis_agrees : Bool → Modems → Bool → PageWidth → Bool → Bool → Bool
unfolding dis_fields
dis_agrees receiver modems fine widest t6 ecm =
    let caps : Caps = record { receiver = receiver; modems = modems; fine = fine; widest = widest; t6 = t6; ecm = ecm } in
    same_bits (flat_map octet_bits (dis_fields caps)) (table_bits (dis_table caps))

pub dis-agrees : (receiver : Bool) (modems : Modems) (fine : Bool) (widest : PageWidth) (t6 ecm : Bool)
    → dis_agrees receiver modems fine widest t6 ecm ≡ true
unfolding dis_agrees
dis-agrees receiver modems fine widest t6 ecm =
    each_bit (λ e. dis_agrees receiver modems fine widest t6 e)
    (each_bit (λ t. all_bits (λ e. dis_agrees receiver modems fine widest t e))
    (each_width (λ w. all_bits (λ t. all_bits (λ e. dis_agrees receiver modems fine w t e)))
    (each_bit (λ f. all_widths (λ w. all_bits (λ t. all_bits (λ e. dis_agrees receiver modems f w t e))))
    (each_modems (λ m. all_bits (λ f. all_widths (λ w. all_bits (λ t. all_bits (λ e. dis_agrees receiver m f w t e)))))
    (each_bit
    (λ r. all_modems (λ m. all_bits (λ f. all_widths (λ w. all_bits (λ t. all_bits (λ e. dis_agrees r m f w t e)))))) refl receiver)
    modems) fine) widest) t6) ecm

pub dis-bits : (caps : Caps) → flat_map octet_bits (dis_fields caps) ≡ table_bits (dis_table caps)
unfolding dis_fields dis_agrees
dis-bits caps =
    same-bits (flat_map octet_bits (dis_fields caps)) (table_bits (dis_table caps))
    (dis-agrees caps.receiver caps.modems caps.fine caps.widest caps.t6 caps.ecm)

abbrev pub dcs_agrees : Speed → Bool → PageWidth → Coding → Bool → Bool
unfolding dcs_fields
dcs_agrees speed fine width coding small =
    let params : Params = record { speed = speed; fine = fine; width = width; coding = coding; small = small } in
    same_bits (flat_map octet_bits (dcs_fields params)) (table_bits (dcs_table params))

pub dcs-agrees : (speed : Speed) (fine : Bool) (width : PageWidth) (coding : Coding) (small : Bool)
    → dcs_agrees speed fine width coding small ≡ true
unfolding dcs_agrees
dcs-agrees speed fine width coding small =
    each_bit (λ m. dcs_agrees speed fine width coding m)
    (each_coding (λ c. all_bits (λ m. dcs_agrees speed fine width c m))
    (each_width (λ w. all_codings (λ c. all_bits (λ m. dcs_agrees speed fine w c m)))
    (each_bit (λ f. all_widths (λ w. all_codings (λ c. all_bits (λ m. dcs_agrees speed f w c m))))
    (each_speed (λ s. all_bits (λ f. all_widths (λ w. all_codings (λ c. all_bits (λ m. dcs_agrees s f w c m))))) refl speed)
    fine) width) coding) small

pub dcs-bits : (params : Params) → flat_map octet_bits (dcs_fields params) ≡ table_bits (dcs_table params)
unfolding dcs_fields dcs_agrees
dcs-bits params =
    same-bits (flat_map octet_bits (dcs_fields params)) (table_bits (dcs_table params))
    (dcs-agrees params.speed params.fine params.width params.coding params.small)

pub head-bits : (last x : Bool) (control : Control) (octet : ℕ) (fields : List ℕ) (bits : List Bool)
    → flat_map octet_bits (octet ∷ []) ≡ text_bits x (control_text control) → flat_map octet_bits fields ≡ bits →
    flat_map octet_bits (head_of last octet ++ fields) ≡ digits (codes "11111111") ++ text_bits last (codes "1100X000") ++ text_bits x
    (control_text control) ++ bits
head-bits true x control octet fields bits first rest =
    ap (λ c. digits (codes "11111111") ++ text_bits true (codes "1100X000") ++ c ++ flat_map octet_bits fields) first
    ∙ ap (λ b. digits (codes "11111111") ++ text_bits true (codes "1100X000") ++ text_bits x (control_text control) ++ b) rest
head-bits false x control octet fields bits first rest =
    ap (λ c. digits (codes "11111111") ++ text_bits false (codes "1100X000") ++ c ++ flat_map octet_bits fields) first
    ∙ ap (λ b. digits (codes "11111111") ++ text_bits false (codes "1100X000") ++ text_bits x (control_text control) ++ b) rest

pub control-bits : (signal : PlainSignal) (side : Side)
    → IfSome (control_for signal) (λ control. flat_map octet_bits (control_octet signal side ∷ []) ≡ text_bits (is_caller side)
    (control_text control))
control-bits (dis caps) side = refl
control-bits (dcs params) Caller = refl
control-bits (dcs params) Answerer = refl
control-bits cfr Caller = refl
control-bits cfr Answerer = refl
control-bits ftt Caller = refl
control-bits ftt Answerer = refl
control-bits (fcd number octets) side = refl
control-bits rcp side = refl
control-bits (pps ends page block last) Caller = refl
control-bits (pps ends page block last) Answerer = refl
control-bits (ppr map) Caller = refl
control-bits (ppr map) Answerer = refl
control-bits mcf Caller = refl
control-bits mcf Answerer = refl
control-bits rnr Caller = refl
control-bits rnr Answerer = refl
control-bits rr Caller = refl
control-bits rr Answerer = refl
control-bits dcn Caller = refl
control-bits dcn Answerer = refl
control-bits (other octet) side = tt

pub fields-bits : (signal : PlainSignal) → flat_map octet_bits (fields_of signal) ≡ field_bits signal
fields-bits (dis caps) = dis-bits caps
fields-bits (dcs params) = dcs-bits params
fields-bits cfr = refl
fields-bits ftt = refl
fields-bits (fcd number octets) = sym (bits_of-flat_map (number ∷ octets))
fields-bits rcp = refl
fields-bits (pps Null page block last) =
    ap (λ bits. text_bits true (page_end_text Null) ++ bits) (sym (bits_of-flat_map (page ∷ block ∷ last ∷ [])))
fields-bits (pps Mps page block last) =
    ap (λ bits. text_bits true (page_end_text Mps) ++ bits) (sym (bits_of-flat_map (page ∷ block ∷ last ∷ [])))
fields-bits (pps Eom page block last) =
    ap (λ bits. text_bits true (page_end_text Eom) ++ bits) (sym (bits_of-flat_map (page ∷ block ∷ last ∷ [])))
fields-bits (pps Eop page block last) =
    ap (λ bits. text_bits true (page_end_text Eop) ++ bits) (sym (bits_of-flat_map (page ∷ block ∷ last ∷ [])))
fields-bits (ppr map) = sym (bits_of-flat_map map)
fields-bits mcf = refl
fields-bits rnr = refl
fields-bits rr = refl
fields-bits dcn = refl
fields-bits (other octet) = refl

pub writes-tables : WritesTheTables
unfolding content_of
writes-tables signal side last = sent (control_for signal) (control-bits signal side)
  where
    sent : (found : Option Control)
        → IfSome found (λ control. flat_map octet_bits (control_octet signal side ∷ []) ≡ text_bits (is_caller side)
        (control_text control)) →
        IfSome found (λ control. bits_of LsbFirst (content_of signal side last) ≡ sent_bits control signal side last)
    sent (Some control) first = bits_of-flat_map (content_of signal side last)
        ∙ head-bits last (is_caller side) control (control_octet signal side) (fields_of signal) (field_bits signal) first
        (fields-bits signal)
    sent None first = tt

abbrev pub place_of_end : PageEnd → ℕ
place_of_end Null = 0
place_of_end Mps = 1
place_of_end Eom = 2
place_of_end Eop = 3

abbrev pub end_at : ℕ → PageEnd
end_at n = get_or (Null ∷ Mps ∷ Eom ∷ Eop ∷ []) n Null

pub place-tells_end : (ends : PageEnd) → end_at (place_of_end ends) ≡ ends
place-tells_end Null = refl
place-tells_end Mps = refl
place-tells_end Eom = refl
place-tells_end Eop = refl

pub text-tells_end : (octet : ℕ) (ends : PageEnd) → octet < 256 → is_found place_of_end ends (page_end_of octet)
    ≡ has_text (page_end_text ends) octet
unfolding page_end_of
text-tells_end octet Null h =
    agree_below_at (λ o. is_found place_of_end Null (page_end_of o)) (λ o. has_text (page_end_text Null) o) 256 octet refl h
text-tells_end octet Mps h =
    agree_below_at (λ o. is_found place_of_end Mps (page_end_of o)) (λ o. has_text (page_end_text Mps) o) 256 octet refl h
text-tells_end octet Eom h =
    agree_below_at (λ o. is_found place_of_end Eom (page_end_of o)) (λ o. has_text (page_end_text Eom) o) 256 octet refl h
text-tells_end octet Eop h =
    agree_below_at (λ o. is_found place_of_end Eop (page_end_of o)) (λ o. has_text (page_end_text Eop) o) 256 octet refl h

pub page-ends-have-texts : PageEndsHaveTexts
page-ends-have-texts octet ends h = (
  λ found_so. sym (text-tells_end octet ends h) ∙ is-found place_of_end ends (page_end_of octet) found_so,
  λ text. found place_of_end end_at place-tells_end ends (page_end_of octet) (text-tells_end octet ends h ∙ text),
)

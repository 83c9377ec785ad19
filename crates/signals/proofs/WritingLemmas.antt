-- What is written is read again.
use Rattle.std.proofs.Common.{◌≡◌, ℕ, ◌+◌, ◌≤◌, Bool, true, false, not, cond, ◌&&◌, nat_eq, List, ◌∷◌, ◌++◌, length, Option, Some, None, Ok}
use Rattle.std.proofs.Common.{refl, ◌∙◌, ap, arith}
use Rattle.std.proofs.lemmas.Bool.{le-ltb}
use Rattle.std.proofs.lemmas.List.{take_all}
use Rattle.std.specs.Int.{bit_at}
use Rattle.raster.specs.declared.coding.Coding.{Coding}
use Rattle.raster.specs.declared.coding.Coding.TheVariants.{OneDim, T6}
use Rattle.signals.specs.Controls.{control_of}
use Rattle.signals.specs.Reading.{field_bit, late_bit, modems_of, speed_of, widest_of, width_of, page_end_of, caps_of, params_at, params_of}
use Rattle.signals.specs.Reading.{read_fields, read_content}
use Rattle.signals.specs.Signals.{PlainSignal, dis, dcs, cfr, ftt, fcd, rcp, pps, ppr, mcf, rnr, rr, dcn, other}
use Rattle.signals.specs.Writing.{IsWritable, WrittenFitsAFrame, written_or, modems_octet, speed_octet, width_octet, coding_octet}
use Rattle.signals.specs.Writing.{dis_fields, dcs_fields, control_octet, fields_of, head_of, content_of}
use Rattle.signals.specs.declared.params.Caps.{Caps}
use Rattle.signals.specs.declared.params.Modems.{Modems}
use Rattle.signals.specs.declared.params.Modems.TheVariants.{Fallback, V27, V29, V27V29, V17}
use Rattle.signals.specs.declared.params.PageWidth.{PageWidth}
use Rattle.signals.specs.declared.params.PageWidth.TheVariants.{W1728, W2048, W2432}
use Rattle.signals.specs.declared.params.Params.{Params}
use Rattle.signals.specs.declared.params.Speed.{Speed}
use Rattle.signals.specs.declared.params.Speed.TheVariants.{V27At2400, V27At4800, V29At7200, V29At9600, V17At7200, V17At9600, V17At12000}
use Rattle.signals.specs.declared.params.Speed.TheVariants.{V17At14400}
use Rattle.signals.specs.declared.signal.PageEnd.TheVariants.{Null, Mps, Eom, Eop}
use Rattle.signals.specs.declared.signal.Side.{Side}
use Rattle.signals.specs.declared.signal.Side.TheVariants.{Caller, Answerer}

-- a bit of an octet
abbrev pub bit_of : ℕ → ℕ → Bool
bit_of octet k = nat_eq (bit_at octet k) 1

abbrev pub dis_second : Bool → Modems → Bool → ℕ
dis_second receiver modems fine = written_or receiver 0x02 + modems_octet modems + written_or fine 0x40

abbrev pub modems_in : ℕ → Modems
modems_in octet = modems_of (bit_of octet 2) (bit_of octet 3) (bit_of octet 4) (bit_of octet 5)

pub dis-second : (receiver : Bool) (modems : Modems) (fine : Bool) →
    (bit_of (dis_second receiver modems fine) 1 ≡ receiver) × (modems_in (dis_second receiver modems fine) ≡ modems)
    × (bit_of (dis_second receiver modems fine) 6 ≡ fine)
dis-second true Fallback true = (refl, refl, refl)
dis-second true Fallback false = (refl, refl, refl)
dis-second true V27 true = (refl, refl, refl)
dis-second true V27 false = (refl, refl, refl)
dis-second true V29 true = (refl, refl, refl)
dis-second true V29 false = (refl, refl, refl)
dis-second true V27V29 true = (refl, refl, refl)
dis-second true V27V29 false = (refl, refl, refl)
dis-second true V17 true = (refl, refl, refl)
dis-second true V17 false = (refl, refl, refl)
dis-second false Fallback true = (refl, refl, refl)
dis-second false Fallback false = (refl, refl, refl)
dis-second false V27 true = (refl, refl, refl)
dis-second false V27 false = (refl, refl, refl)
dis-second false V29 true = (refl, refl, refl)
dis-second false V29 false = (refl, refl, refl)
dis-second false V27V29 true = (refl, refl, refl)
dis-second false V27V29 false = (refl, refl, refl)
dis-second false V17 true = (refl, refl, refl)
dis-second false V17 false = (refl, refl, refl)

abbrev pub dcs_second : Speed → Bool → ℕ
dcs_second speed fine = 0x02 + speed_octet speed + written_or fine 0x40

abbrev pub speed_in : ℕ → Option Speed
speed_in octet = speed_of (bit_of octet 2) (bit_of octet 3) (bit_of octet 4) (bit_of octet 5)

pub dcs-second : (speed : Speed) (fine : Bool) →
    (speed_in (dcs_second speed fine) ≡ Some speed) × (bit_of (dcs_second speed fine) 6 ≡ fine) × (bit_of (dcs_second speed fine) 7 ≡ false)
dcs-second V27At2400 true = (refl, refl, refl)
dcs-second V27At2400 false = (refl, refl, refl)
dcs-second V27At4800 true = (refl, refl, refl)
dcs-second V27At4800 false = (refl, refl, refl)
dcs-second V29At7200 true = (refl, refl, refl)
dcs-second V29At7200 false = (refl, refl, refl)
dcs-second V29At9600 true = (refl, refl, refl)
dcs-second V29At9600 false = (refl, refl, refl)
dcs-second V17At7200 true = (refl, refl, refl)
dcs-second V17At7200 false = (refl, refl, refl)
dcs-second V17At9600 true = (refl, refl, refl)
dcs-second V17At9600 false = (refl, refl, refl)
dcs-second V17At12000 true = (refl, refl, refl)
dcs-second V17At12000 false = (refl, refl, refl)
dcs-second V17At14400 true = (refl, refl, refl)
dcs-second V17At14400 false = (refl, refl, refl)

pub third : (width : PageWidth) →
    (widest_of (bit_of (width_octet width) 0) (bit_of (width_octet width) 1) ≡ width)
    × (width_of (bit_of (width_octet width) 0) (bit_of (width_octet width) 1) ≡ Some width) × (bit_of (width_octet width) 7 ≡ true)
third W1728 = (refl, refl, refl)
third W2048 = (refl, refl, refl)
third W2432 = (refl, refl, refl)

abbrev pub dis_fourth : Bool → Bool → ℕ
dis_fourth ecm t6 = written_or ecm 0x04 + written_or t6 0x40

pub dis-fourth : (ecm t6 : Bool) → (bit_of (dis_fourth ecm t6) 2 ≡ ecm) × (bit_of (dis_fourth ecm t6) 6 ≡ t6)
dis-fourth true true = (refl, refl)
dis-fourth true false = (refl, refl)
dis-fourth false true = (refl, refl)
dis-fourth false false = (refl, refl)

abbrev pub dcs_fourth : Bool → Coding → ℕ
dcs_fourth small coding = 0x04 + written_or small 0x08 + coding_octet coding

pub dcs-fourth : (small : Bool) (coding : Coding) →
    (bit_of (dcs_fourth small coding) 2 ≡ true) × (bit_of (dcs_fourth small coding) 3 ≡ small)
    × (cond (bit_of (dcs_fourth small coding) 6) T6 OneDim ≡ coding)
dcs-fourth true OneDim = (refl, refl, refl)
dcs-fourth true T6 = (refl, refl, refl)
dcs-fourth false OneDim = (refl, refl, refl)
dcs-fourth false T6 = (refl, refl, refl)

pub and-is : (a b c : Bool) → a ≡ true → b ≡ c → (a && b) ≡ c
and-is a b c first second = rw first second

pub same_caps : (a b : Caps) → a.receiver ≡ b.receiver → a.modems ≡ b.modems → a.fine ≡ b.fine → a.widest ≡ b.widest → a.t6 ≡ b.t6
    → a.ecm ≡ b.ecm → a ≡ b
same_caps a b receiver modems fine widest t6 ecm =
    let made : Bool → Modems → Bool → PageWidth → Bool → Bool → Caps = λ r m f w t e. record {
      receiver = r;
      modems = m;
      fine = f;
      widest =
          w;
      t6 = t;
      ecm = e;
    } in
    ap (λ r. made r a.modems a.fine a.widest a.t6 a.ecm) receiver
    ∙ ap (λ m. made b.receiver m a.fine a.widest a.t6 a.ecm) modems
    ∙ ap (λ f. made b.receiver b.modems f a.widest a.t6 a.ecm) fine
    ∙ ap (λ w. made b.receiver b.modems b.fine w a.t6 a.ecm) widest
    ∙ ap (λ t. made b.receiver b.modems b.fine b.widest t a.ecm) t6
    ∙ ap (λ e. made b.receiver b.modems b.fine b.widest b.t6 e) ecm

pub same_params : (a b : Params) → a.speed ≡ b.speed → a.fine ≡ b.fine → a.width ≡ b.width → a.coding ≡ b.coding → a.small ≡ b.small → a ≡ b
same_params a b speed fine width coding small =
    let made : Speed → Bool → PageWidth → Coding → Bool → Params = λ s f w c m. record {
      speed = s;
      fine = f;
      width = w;
      coding = c;
      small =
          m;
    } in
    ap (λ s. made s a.fine a.width a.coding a.small) speed
    ∙ ap (λ f. made b.speed f a.width a.coding a.small) fine
    ∙ ap (λ w. made b.speed b.fine w a.coding a.small) width
    ∙ ap (λ c. made b.speed b.fine b.width c a.small) coding
    ∙ ap (λ m. made b.speed b.fine b.width b.coding m) small

pub caps-read : (caps : Caps) → caps_of (dis_fields caps) ≡ caps
unfolding caps_of dis_fields
caps-read caps =
    let second = dis-second caps.receiver caps.modems caps.fine in
    let widths = third caps.widest in
    let fourth = dis-fourth caps.ecm caps.t6 in
    same_caps _ caps second.0 second.1 second.2 widths.0 (and-is _ _ caps.t6 widths.2 fourth.1) (and-is _ _ caps.ecm widths.2 fourth.0)

pub params-read : (params : Params) → params_of (dcs_fields params) ≡ Some params
unfolding params_of dcs_fields
params-read params =
    let fields = dcs_fields params in
    let second = dcs-second params.speed params.fine in
    let widths = third params.width in
    let fourth = dcs-fourth params.small params.coding in
    let inside : (late_bit fields 27 && not (field_bit fields 16 && not (late_bit fields 31))) ≡ true =
    and-is _ _ true (and-is _ _ true widths.2 fourth.0) (ap (λ b. not (b && not (late_bit fields 31))) second.2) in
    ap (λ b. cond b
    (params_at (speed_in (dcs_second params.speed params.fine)) (width_of (field_bit fields 17) (field_bit fields 18)) fields) None)
    inside
    ∙ ap (λ s. params_at s (width_of (field_bit fields 17) (field_bit fields 18)) fields) second.0
    ∙ ap (λ w. params_at (Some params.speed) w fields) widths.1
    ∙ ap Some (same_params _ params refl second.1 refl (ap (λ b. cond b T6 OneDim) (and-is _ _ _ widths.2 refl) ∙ fourth.2)
    (and-is _ _ params.small widths.2 fourth.1))

pub head-read : (last : Bool) (octet : ℕ) (fields : List ℕ) → read_content (head_of last octet ++ fields) ≡ read_fields octet fields
unfolding read_content
head-read true octet fields =
    rw (
      le-ltb (length (0xFF ∷ 0x13 ∷ octet ∷ fields)) 1 (omega arith),
      le-ltb (length (0xFF ∷ 0x13 ∷ octet ∷ fields)) 2 (omega arith),
      le-ltb (length (0xFF ∷ 0x13 ∷ octet ∷ fields)) 3 (omega arith),
    ) refl
head-read false octet fields =
    rw (
      le-ltb (length (0xFF ∷ 0x03 ∷ octet ∷ fields)) 1 (omega arith),
      le-ltb (length (0xFF ∷ 0x03 ∷ octet ∷ fields)) 2 (omega arith),
      le-ltb (length (0xFF ∷ 0x03 ∷ octet ∷ fields)) 3 (omega arith),
    ) refl

pub fields-read : (signal : PlainSignal) (side : Side) → IsWritable signal → read_fields (control_octet signal side) (fields_of signal)
    ≡ Ok signal
unfolding read_fields control_of page_end_of dis_fields dcs_fields
fields-read (dis caps) side w = ap (λ c. Ok (dis c)) (caps-read caps)
fields-read (dcs params) Caller w = rw (params-read params) refl
fields-read (dcs params) Answerer w = rw (params-read params) refl
fields-read cfr Caller w = refl
fields-read cfr Answerer w = refl
fields-read ftt Caller w = refl
fields-read ftt Answerer w = refl
fields-read mcf Caller w = refl
fields-read mcf Answerer w = refl
fields-read rnr Caller w = refl
fields-read rnr Answerer w = refl
fields-read rr Caller w = refl
fields-read rr Answerer w = refl
fields-read dcn Caller w = refl
fields-read dcn Answerer w = refl
fields-read rcp side w = refl
fields-read (fcd number octets) side w = rw (le-ltb (length (number ∷ octets)) 2 (omega arith)) refl
fields-read (pps Null page block last) Caller w = refl
fields-read (pps Null page block last) Answerer w = refl
fields-read (pps Mps page block last) Caller w = refl
fields-read (pps Mps page block last) Answerer w = refl
fields-read (pps Eom page block last) Caller w = refl
fields-read (pps Eom page block last) Answerer w = refl
fields-read (pps Eop page block last) Caller w = refl
fields-read (pps Eop page block last) Answerer w = refl
fields-read (ppr map) Caller w = rw (le-ltb (length map) 32 (omega arith), take_all 32 map (omega arith)) refl
fields-read (ppr map) Answerer w = rw (le-ltb (length map) 32 (omega arith), take_all 32 map (omega arith)) refl
fields-read (other octet) side w = absurd w

pub reads-written : (signal : PlainSignal) (side : Side) (last : Bool) → IsWritable signal → read_content (content_of signal side last)
    ≡ Ok signal
unfolding content_of
reads-written signal side last writable = head-read last (control_octet signal side) (fields_of signal) ∙ fields-read signal side writable

-- an information field has at most so many octets
fields-fit : (signal : PlainSignal) → IsWritable signal → length (fields_of signal) ≤ 297
unfolding dis_fields dcs_fields
fields-fit (dis caps) w = omega arith
fields-fit (dcs params) w = omega arith
fields-fit cfr w = omega arith
fields-fit ftt w = omega arith
fields-fit (fcd number octets) w = omega arith
fields-fit rcp w = omega arith
fields-fit (pps ends page block last) w = omega arith
fields-fit (ppr map) w = omega arith
fields-fit mcf w = omega arith
fields-fit rnr w = omega arith
fields-fit rr w = omega arith
fields-fit dcn w = omega arith
fields-fit (other octet) w = absurd w

pub written-fits : WrittenFitsAFrame
unfolding content_of
written-fits signal side last w = let most : length (fields_of signal) ≤ 297 = fields-fit signal w in (omega arith, omega arith)

-- What is read is what a content says.
use Rattle.std.proofs.Common.{◌≡◌, ℕ, ◌≤◌, ◌⊎◌, Bool, true, false, not, cond, ◌||◌, nat_eq, nat_lt, List, length, take, drop, slice_index}
use Rattle.std.proofs.Common.{Option, Some, None, Result, Ok, Err, refl, ◌∙◌, ap, subst, inl, inr, arith}
use Rattle.std.proofs.lemmas.Bool.{not-false, eqb-true, ltb-false, le-ltb}
use Rattle.signals.specs.Controls.{control_of}
use Rattle.signals.specs.Reading.{page_end_of, caps_of, params_of, dcs_or_other, pps_or_other, with_octets, read_known, read_fields}
use Rattle.signals.specs.Reading.{read_content}
use Rattle.signals.specs.Saying.{IsOutside, FieldsSay, Says, ReadsWhatIsSaid}
use Rattle.signals.specs.Signals.{PlainSignal, dis, dcs, cfr, ftt, fcd, rcp, pps, ppr, mcf, rnr, rr, dcn, other}
use Rattle.signals.specs.declared.fault.SignalFault.{SignalFault}
use Rattle.signals.specs.declared.params.Params.{Params}
use Rattle.signals.specs.declared.control.Control.{Control}
use Rattle.signals.specs.declared.control.Control.TheVariants.{Dis, Dcs, Cfr, Ftt, Fcd, Rcp, Pps, Ppr, Mcf, Rnr, Rr, Dcn}
use Rattle.signals.specs.declared.signal.PageEnd.{PageEnd}

-- what is answered after a test that refuses
pub passed : (test : Bool) (fault : SignalFault) (read : Result PlainSignal SignalFault) (signal : PlainSignal)
    → cond test (Err fault) read ≡ Ok signal → (test ≡ false) × (read ≡ Ok signal)
passed true fault read signal e = cc
passed false fault read signal e = (refl, e)

-- there are so many octets, and the signal is the one that was made of them
pub enough : (count : ℕ) (fields : List ℕ) (made signal : PlainSignal) → with_octets count fields made ≡ Ok signal → (count ≤ length fields)
    × (made ≡ signal)
enough count fields made signal e =
    let p = passed (nat_lt (length fields) count) _ (Ok made) signal e in
    (ltb-false (length fields) count p.0, same made signal p.1)
  where
    same : (a b : PlainSignal) → ◌≡◌ {A = Result PlainSignal SignalFault} (Ok a) (Ok b) → a ≡ b
    same a b e = cc

pub dcs-says : (octet : ℕ) (fields : List ℕ) (params : Option Params) → params_of fields ≡ params → 3 ≤ length fields
    → FieldsSay (Some Dcs) octet fields (dcs_or_other octet params)
dcs-says octet fields (Some params) e long = (refl, long, e)
dcs-says octet fields None e long = (refl, (long, e))

pub pps-says : (octet : ℕ) (fields : List ℕ) (ends : Option PageEnd) → page_end_of (slice_index fields 0) ≡ ends → 4 ≤ length fields
    → FieldsSay (Some Pps) octet fields (pps_or_other octet ends fields)
pps-says octet fields (Some ends) e long = (refl, long, e, refl, refl, refl)
pps-says octet fields None e long = (refl, (long, e))

pub same_ok : (a b : PlainSignal) → ◌≡◌ {A = Result PlainSignal SignalFault} (Ok a) (Ok b) → a ≡ b
same_ok a b e = cc

pub known-says : (control : Option Control) (octet : ℕ) (fields : List ℕ) (signal : PlainSignal)
    → read_known control octet fields ≡ Ok signal → FieldsSay control octet fields signal
known-says None octet fields signal e = subst (FieldsSay None octet fields) (same_ok (other octet) signal e) (refl, tt)
known-says (Some Dis) octet fields signal e =
    let p = enough 3 fields (dis (caps_of fields)) signal e in subst (FieldsSay (Some Dis) octet fields) p.1 (refl, p.0, refl)
known-says (Some Dcs) octet fields signal e =
    let p = enough 3 fields (dcs_or_other octet (params_of fields)) signal e in subst (FieldsSay (Some Dcs) octet fields) p.1
    (dcs-says octet fields (params_of fields) refl p.0)
known-says (Some Cfr) octet fields signal e = subst (FieldsSay (Some Cfr) octet fields) (same_ok cfr signal e) refl
known-says (Some Ftt) octet fields signal e = subst (FieldsSay (Some Ftt) octet fields) (same_ok ftt signal e) refl
known-says (Some Fcd) octet fields signal e =
    let p = enough 2 fields (fcd (slice_index fields 0) (drop 1 fields)) signal e in subst (FieldsSay (Some Fcd) octet fields) p.1
    (refl, p.0, refl, refl)
known-says (Some Rcp) octet fields signal e = subst (FieldsSay (Some Rcp) octet fields) (same_ok rcp signal e) refl
known-says (Some Pps) octet fields signal e =
    let p = enough 4 fields (pps_or_other octet (page_end_of (slice_index fields 0)) fields) signal e in
    subst (FieldsSay (Some Pps) octet fields) p.1 (pps-says octet fields (page_end_of (slice_index fields 0)) refl p.0)
known-says (Some Ppr) octet fields signal e =
    let p = enough 32 fields (ppr (take 32 fields)) signal e in subst (FieldsSay (Some Ppr) octet fields) p.1 (refl, p.0, refl)
known-says (Some Mcf) octet fields signal e = subst (FieldsSay (Some Mcf) octet fields) (same_ok mcf signal e) refl
known-says (Some Rnr) octet fields signal e = subst (FieldsSay (Some Rnr) octet fields) (same_ok rnr signal e) refl
known-says (Some Rr) octet fields signal e = subst (FieldsSay (Some Rr) octet fields) (same_ok rr signal e) refl
known-says (Some Dcn) octet fields signal e = subst (FieldsSay (Some Dcn) octet fields) (same_ok dcn signal e) refl

-- enough octets are read
pub with-enough : (count : ℕ) (fields : List ℕ) (made signal : PlainSignal) → count ≤ length fields → made ≡ signal
    → with_octets count fields made ≡ Ok signal
with-enough count fields made signal long e = rw (le-ltb (length fields) count long) (ap Ok e)

pub outside-read : (control : Option Control) (octet : ℕ) (fields : List ℕ) → IsOutside control fields
    → read_known control octet fields ≡ Ok (other octet)
outside-read None octet fields w = refl
outside-read (Some Dcs) octet fields w = with-enough 3 fields _ (other octet) w.0 (ap (dcs_or_other octet) w.1)
outside-read (Some Pps) octet fields w = with-enough 4 fields _ (other octet) w.0 (ap (λ ends. pps_or_other octet ends fields) w.1)
outside-read (Some Dis) octet fields w = absurd w
outside-read (Some Cfr) octet fields w = absurd w
outside-read (Some Ftt) octet fields w = absurd w
outside-read (Some Fcd) octet fields w = absurd w
outside-read (Some Rcp) octet fields w = absurd w
outside-read (Some Ppr) octet fields w = absurd w
outside-read (Some Mcf) octet fields w = absurd w
outside-read (Some Rnr) octet fields w = absurd w
outside-read (Some Rr) octet fields w = absurd w
outside-read (Some Dcn) octet fields w = absurd w

pub says-known : (control : Option Control) (octet : ℕ) (fields : List ℕ) (signal : PlainSignal) → FieldsSay control octet fields signal
    → read_known control octet fields ≡ Ok signal
says-known control octet fields (dis caps) w = rw w.0 (with-enough 3 fields _ (dis caps) w.1 (ap dis w.2))
says-known control octet fields (dcs params) w = rw w.0 (with-enough 3 fields _ (dcs params) w.1 (ap (dcs_or_other octet) w.2))
says-known control octet fields cfr w = rw w refl
says-known control octet fields ftt w = rw w refl
says-known control octet fields (fcd number octets) w =
    rw w.0 (with-enough 2 fields _ (fcd number octets) w.1 (ap (λ n. fcd n (drop 1 fields)) w.2 ∙ ap (fcd number) w.3))
says-known control octet fields rcp w = rw w refl
says-known control octet fields (pps ends page block last) w =
    rw w.0
    (with-enough 4 fields _ (pps ends page block last) w.1
    (ap (λ found. pps_or_other octet found fields) w.2
    ∙ ap (λ n. pps ends n (slice_index fields 2) (slice_index fields 3)) w.3
    ∙ ap (λ n. pps ends page n (slice_index fields 3)) w.4
    ∙ ap (λ n. pps ends page block n) w.5))
says-known control octet fields (ppr map) w = rw w.0 (with-enough 32 fields _ (ppr map) w.1 (ap ppr w.2))
says-known control octet fields mcf w = rw w refl
says-known control octet fields rnr w = rw w refl
says-known control octet fields rr w = rw w refl
says-known control octet fields dcn w = rw w refl
says-known control octet fields (other at) w = outside-read control octet fields w.1 ∙ ap (λ n. Ok (other n)) w.0

-- one of two tests holds
pub either : (a b : Bool) → (a || b) ≡ true → (a ≡ true) ⊎ (b ≡ true)
either true b e = inl refl
either false b e = inr e

pub in-control : (octet : ℕ) → (nat_eq octet 0x03 || nat_eq octet 0x13) ≡ true → (octet ≡ 0x03) ⊎ (octet ≡ 0x13)
in-control octet e =
    elim (either (nat_eq octet 0x03) (nat_eq octet 0x13) e) [ inl a ↦ inl (eqb-true octet 0x03 a) | inr b ↦ inr (eqb-true octet 0x13 b) ]

pub control-in : (octet : ℕ) → (octet ≡ 0x03) ⊎ (octet ≡ 0x13) → (nat_eq octet 0x03 || nat_eq octet 0x13) ≡ true
control-in octet (inl a) = ap (λ n. nat_eq n 0x03 || nat_eq n 0x13) a
control-in octet (inr b) = ap (λ n. nat_eq n 0x03 || nat_eq n 0x13) b

pub read-says : (content : List ℕ) (signal : PlainSignal) → read_content content ≡ Ok signal → Says content signal
unfolding read_content read_fields
read-says content signal e =
    let a = passed (nat_lt (length content) 1) _ _ signal e in
    let b = passed (not (nat_eq (slice_index content 0) 0xFF)) _ _ signal a.1 in
    let c = passed (nat_lt (length content) 2) _ _ signal b.1 in
    let d = passed (not (nat_eq (slice_index content 1) 0x03 || nat_eq (slice_index content 1) 0x13)) _ _ signal c.1 in
    let f = passed (nat_lt (length content) 3) _ _ signal d.1 in
    record {
      long = ltb-false (length content) 3 f.0;
      address = eqb-true (slice_index content 0) 0xFF (not-false (nat_eq (slice_index content 0) 0xFF) b.0);
      control =
          in-control (slice_index content 1) (not-false (nat_eq (slice_index content 1) 0x03 || nat_eq (slice_index content 1) 0x13) d.0);
      fields = known-says (control_of (slice_index content 2)) (slice_index content 2) (drop 3 content) signal f.1;
    }

pub says-read : (content : List ℕ) (signal : PlainSignal) → Says content signal → read_content content ≡ Ok signal
unfolding read_content read_fields
says-read content signal says =
    let long = says.long in
    rw (
      le-ltb (length content) 1 (omega arith),
      says.address,
      le-ltb (length content) 2 (omega arith),
      control-in (slice_index content 1) says.control,
      le-ltb (length content) 3 says.long,
    ) (says-known (control_of (slice_index content 2)) (slice_index content 2) (drop 3 content) signal says.fields)

pub reads-said : ReadsWhatIsSaid
reads-said content signal = (read-says content signal, says-read content signal)

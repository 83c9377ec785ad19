-- Which contents are refused.
use Rattle.std.proofs.Common.{◌≡◌, ◌≢◌, ℕ, ◌<◌, Bool, true, false, cond, ◌||◌, nat_eq, nat_lt, List, [], ◌∷◌, length}
use Rattle.std.proofs.Common.{Option, Some, None, Result, Ok, Err, refl, sym, ◌∙◌, ap, subst, inl, inr, arith}
use Rattle.std.proofs.lemmas.Bool.{cases_eq, ltb-true, le-ltb, lt-ltb, ne_eqb}
use Rattle.signals.proofs.SayingLemmas.{control-in}
use Rattle.signals.specs.BitNumbers.{least_octets}
use Rattle.signals.specs.Controls.{control_of}
use Rattle.signals.specs.Reading.{with_octets, read_known, read_fields, read_content}
use Rattle.signals.specs.Refusals.{IsControlField, IsRefused, RefusesExactly, ShortOnes, SendsOctets}
use Rattle.signals.specs.Signals.{PlainSignal}
use Rattle.signals.specs.Writing.{content_of, dis_fields, dcs_fields}
use Rattle.signals.specs.declared.control.Control.{Control}
use Rattle.signals.specs.declared.control.Control.TheVariants.{Dis, Dcs, Cfr, Ftt, Fcd, Rcp, Pps, Ppr, Mcf, Rnr, Rr, Dcn}
use Rattle.signals.specs.declared.fault.SignalFault.{SignalFault}
use Rattle.signals.specs.declared.fault.SignalFault.TheVariants.{BadAddress, BadControl, ShortField}

-- what is read
abbrev Read : Type 0
Read = Result PlainSignal SignalFault

at_address : (address : ℕ) (rest : List ℕ) → address ≢ 0xFF → read_content (address ∷ rest) ≡ Err BadAddress
unfolding read_content
at_address address rest other = rw (le-ltb (length (address ∷ rest)) 1 (omega arith), ne_eqb address 0xFF other) refl

in_control : (octet : ℕ) → IsControlField octet → (nat_eq octet 0x03 || nat_eq octet 0x13) ≡ true
in_control octet h = control-in octet h

at_control : (octet : ℕ) (rest : List ℕ) → octet ≢ 0x03 → octet ≢ 0x13 → read_content (0xFF ∷ octet ∷ rest) ≡ Err BadControl
unfolding read_content
at_control octet rest a b =
    rw (
      le-ltb (length (0xFF ∷ octet ∷ rest)) 1 (omega arith),
      le-ltb (length (0xFF ∷ octet ∷ rest)) 2 (omega arith),
      ne_eqb octet 0x03 a,
      ne_eqb octet 0x13 b,
    ) refl

at_end : (octet : ℕ) → IsControlField octet → read_content (0xFF ∷ octet ∷ []) ≡ Err ShortField
unfolding read_content
at_end octet h = rw (in_control octet h) refl

at_fields : (octet name : ℕ) (fields : List ℕ) → IsControlField octet →
    read_content (0xFF ∷ octet ∷ name ∷ fields) ≡ read_known (control_of name) name fields
unfolding read_content read_fields
at_fields octet name fields h =
    rw (
      le-ltb (length (0xFF ∷ octet ∷ name ∷ fields)) 1 (omega arith),
      le-ltb (length (0xFF ∷ octet ∷ name ∷ fields)) 2 (omega arith),
      in_control octet h,
      le-ltb (length (0xFF ∷ octet ∷ name ∷ fields)) 3 (omega arith),
    ) refl

at_empty : read_content [] ≡ Err ShortField
unfolding read_content
at_empty = refl

at_one : read_content (0xFF ∷ []) ≡ Err ShortField
unfolding read_content
at_one = refl

-- the fault of too few octets
short : (count : ℕ) (fields : List ℕ) (made : PlainSignal) (fault : SignalFault) → with_octets count fields made ≡ Err fault →
    (length fields < count) × (fault ≡ ShortField)
short count fields made fault e = by_test (nat_lt (length fields) count) refl e
  where
    by_test : (test : Bool) → nat_lt (length fields) count ≡ test → ◌≡◌ {A = Read} (cond test (Err ShortField) (Ok made)) (Err fault) →
        (length fields < count) × (fault ≡ ShortField)
    by_test true less e = let same : ShortField ≡ fault = cc in (ltb-true (length fields) count less, sym same)
    by_test false less e = cc

-- what refuses the fields refuses them so
known_short : (control : Option Control) (name : ℕ) (fields : List ℕ) (fault : SignalFault) → read_known control name fields ≡ Err fault →
    ((known : Control) × (control ≡ Some known) × (length fields < least_octets known)) × (fault ≡ ShortField)
known_short None name fields fault e = cc
known_short (Some Dis) name fields fault e = let h = short 3 fields _ fault e in ((Dis, refl, h.0), h.1)
known_short (Some Dcs) name fields fault e = let h = short 3 fields _ fault e in ((Dcs, refl, h.0), h.1)
known_short (Some Fcd) name fields fault e = let h = short 2 fields _ fault e in ((Fcd, refl, h.0), h.1)
known_short (Some Pps) name fields fault e = let h = short 4 fields _ fault e in ((Pps, refl, h.0), h.1)
known_short (Some Ppr) name fields fault e = let h = short 32 fields _ fault e in ((Ppr, refl, h.0), h.1)
known_short (Some Cfr) name fields fault e = cc
known_short (Some Ftt) name fields fault e = cc
known_short (Some Rcp) name fields fault e = cc
known_short (Some Mcf) name fields fault e = cc
known_short (Some Rnr) name fields fault e = cc
known_short (Some Rr) name fields fault e = cc
known_short (Some Dcn) name fields fault e = cc

short_known : (control : Control) (name : ℕ) (fields : List ℕ) → length fields < least_octets control →
    read_known (Some control) name fields ≡ Err ShortField
short_known Dis name fields less = rw (lt-ltb (length fields) 3 less) refl
short_known Dcs name fields less = rw (lt-ltb (length fields) 3 less) refl
short_known Fcd name fields less = rw (lt-ltb (length fields) 2 less) refl
short_known Pps name fields less = rw (lt-ltb (length fields) 4 less) refl
short_known Ppr name fields less = rw (lt-ltb (length fields) 32 less) refl
short_known Cfr name fields less = absurd (omega (arith, less))
short_known Ftt name fields less = absurd (omega (arith, less))
short_known Rcp name fields less = absurd (omega (arith, less))
short_known Mcf name fields less = absurd (omega (arith, less))
short_known Rnr name fields less = absurd (omega (arith, less))
short_known Rr name fields less = absurd (omega (arith, less))
short_known Dcn name fields less = absurd (omega (arith, less))

-- the fault is this one
leads : (content : List ℕ) (this fault : SignalFault) → IsRefused content this → ◌≡◌ {A = Read} (Err this) (Err fault) →
    IsRefused content fault
leads content this fault h e = let same : this ≡ fault = cc in subst (IsRefused content) same h

refused : (content : List ℕ) (fault : SignalFault) → read_content content ≡ Err fault → IsRefused content fault
refused [] fault e = leads [] ShortField fault (inl refl) (sym at_empty ∙ e)
refused (address ∷ rest) fault e =
    elim (cases_eq address 0xFF) [
      | inr other ↦ leads (address ∷ rest) BadAddress fault (address, rest, refl, other) (sym (at_address address rest other) ∙ e)
      | inl is ↦
          subst (λ a. IsRefused (a ∷ rest) fault) (sym is) (after rest (subst (λ a. read_content (a ∷ rest) ≡ Err fault) is e))
    ]
  where
    named : (octet : ℕ) (more : List ℕ) → IsControlField octet → read_content (0xFF ∷ octet ∷ more) ≡ Err fault →
        IsRefused (0xFF ∷ octet ∷ more) fault
    named octet [] h e = leads (0xFF ∷ octet ∷ []) ShortField fault (inr (inr (inl (octet, refl, h)))) (sym (at_end octet h) ∙ e)
    named octet (name ∷ fields) h e =
        let s = known_short (control_of name) name fields fault (sym (at_fields octet name fields h) ∙ e) in
        subst (IsRefused (0xFF ∷ octet ∷ name ∷ fields)) (sym s.1)
        (inr (inr (inr (octet, name, fields, s.0.0, refl, h, s.0.1, s.0.2))))

    after : (rest : List ℕ) → read_content (0xFF ∷ rest) ≡ Err fault → IsRefused (0xFF ∷ rest) fault
    after [] e = leads (0xFF ∷ []) ShortField fault (inr (inl refl)) (sym at_one ∙ e)
    after (octet ∷ more) e =
        elim (cases_eq octet 0x03) [
          | inl a ↦ named octet more (inl a) e
          | inr a ↦
              elim (cases_eq octet 0x13) [
                | inl b ↦ named octet more (inr b) e
                | inr b ↦
                    leads (0xFF ∷ octet ∷ more) BadControl fault (octet, more, refl, a, b) (sym (at_control octet more a b) ∙ e)
              ]
        ]

refuses : (content : List ℕ) (fault : SignalFault) → IsRefused content fault → read_content content ≡ Err fault
refuses content BadAddress h = ap read_content h.2 ∙ at_address h.0 h.1 h.3
refuses content BadControl h = ap read_content h.2 ∙ at_control h.0 h.1 h.3 h.4
refuses content ShortField (inl e) = ap read_content e ∙ at_empty
refuses content ShortField (inr (inl e)) = ap read_content e ∙ at_one
refuses content ShortField (inr (inr (inl h))) = ap read_content h.1 ∙ at_end h.0 h.2
refuses content ShortField (inr (inr (inr h))) =
    ap read_content h.4 ∙ (at_fields h.0 h.1 h.2 h.5 ∙ (ap (λ c. read_known c h.1 h.2) h.6 ∙ short_known h.3 h.1 h.2 h.7))

pub refuses-exactly : RefusesExactly
refuses-exactly content fault = (λ e. refused content fault e, λ h. refuses content fault h)

pub short-ones : ShortOnes
unfolding read_content
short-ones = record {
  none = refl;
  address = refl;
  other_address = refl;
  control = refl;
  last_control = refl;
  other_control = refl;
  both = refl;
}

pub sends-octets : SendsOctets
unfolding content_of dis_fields dcs_fields
sends-octets = record {
  caller_fcd = λ last number octets. refl;
  caller_rcp = λ last. refl;
  pps_null = λ last page block frame. refl;
  pps_mps = λ last page block frame. refl;
  pps_eom = λ last page block frame. refl;
  pps_eop = λ last page block frame. refl;
  caller_rr = λ last. refl;
  caller_dcn = λ last. refl;
  caller_dcs = refl;
  answerer_dis = refl;
  answerer_cfr = λ last. refl;
  answerer_ftt = λ last. refl;
  answerer_mcf = λ last. refl;
  answerer_ppr = λ last map. refl;
  answerer_rnr = λ last. refl;
  answerer_dcn = λ last. refl;
}

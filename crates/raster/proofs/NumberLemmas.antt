-- Limits, faults and octets of the PBM format by number.
use Rattle.std.proofs.Common.{◌≡◌, ℕ, zero, suc, ◌<◌, ◌≤◌, ◌&&◌, true, Contains, refl, arith, subst, inl, inr, nat_eq, nat_le}
use Rattle.std.specs.Prelude.{◌⊎◌, slice_index_or}
use Rattle.std.proofs.lemmas.Bool.{and_parts, or_cases, cases_eq, eqb-true, leb-true}
use Rattle.raster.specs.ByNumbers.{fault_list, FaultsHaveNumbers, LimitsByNumber, PbmByOctets}
use Rattle.raster.specs.Faults.{number_of}
use Rattle.raster.specs.Packed.{bits_in}
use Rattle.raster.specs.Pbm.{is_white, ends_line}
use Rattle.raster.specs.Pbm.{after_blanks, space_at, digits_at, number_at, width_at, height_at, header_at, rows_at, page_at, image_at}
use Rattle.raster.specs.Pbm.{images_at, read_images}
use Rattle.raster.specs.Pixels.{colors}
use Rattle.raster.specs.declared.fault.RasterFault.{RasterFault}
use Rattle.raster.specs.declared.fault.RasterFault.TheVariants.{BadWidth, WrongRowWidth, TooManyRows, NoRows, BadHeader, ShortData, NoPages}
use Rattle.raster.specs.declared.fault.RasterFault.TheVariants.{Io, NoMemory}

named : (fault : RasterFault) → Contains fault_list (number_of fault, fault)
named BadWidth = (0, omega arith, refl)
named WrongRowWidth = (1, omega arith, refl)
named TooManyRows = (2, omega arith, refl)
named NoRows = (3, omega arith, refl)
named BadHeader = (4, omega arith, refl)
named ShortData = (5, omega arith, refl)
named NoPages = (6, omega arith, refl)
named Io = (7, omega arith, refl)
named NoMemory = (8, omega arith, refl)

numbered : (n : ℕ) (fault : RasterFault) (k : ℕ) → k < 9 → slice_index_or fault_list k (n, fault) ≡ (n, fault) → number_of fault ≡ n
numbered n fault zero l e = subst (λ pair. number_of pair.1 ≡ pair.0) e refl
numbered n fault (suc zero) l e = subst (λ pair. number_of pair.1 ≡ pair.0) e refl
numbered n fault (suc (suc zero)) l e = subst (λ pair. number_of pair.1 ≡ pair.0) e refl
numbered n fault (suc (suc (suc zero))) l e = subst (λ pair. number_of pair.1 ≡ pair.0) e refl
numbered n fault (suc (suc (suc (suc zero)))) l e = subst (λ pair. number_of pair.1 ≡ pair.0) e refl
numbered n fault (suc (suc (suc (suc (suc zero))))) l e = subst (λ pair. number_of pair.1 ≡ pair.0) e refl
numbered n fault (suc (suc (suc (suc (suc (suc zero)))))) l e = subst (λ pair. number_of pair.1 ≡ pair.0) e refl
numbered n fault (suc (suc (suc (suc (suc (suc (suc zero))))))) l e = subst (λ pair. number_of pair.1 ≡ pair.0) e refl
numbered n fault (suc (suc (suc (suc (suc (suc (suc (suc zero)))))))) l e = subst (λ pair. number_of pair.1 ≡ pair.0) e refl
numbered n fault (suc (suc (suc (suc (suc (suc (suc (suc (suc k))))))))) l e = absurd (omega arith)

pub faults_have_numbers : FaultsHaveNumbers
faults_have_numbers n fault =
    (λ e. subst (λ m. Contains fault_list (m, fault)) e (named fault), λ has. numbered n fault has.0 has.1 has.2)

pub limits_by_number : LimitsByNumber
limits_by_number = record {
  widths = λ n. (λ h. (omega (arith, h.0), omega (arith, h.1)), λ h. (omega (arith, h.0), omega (arith, h.1)));
  heights = λ n. (λ h. (omega (arith, h.0), omega (arith, h.1)), λ h. (omega (arith, h.0), omega (arith, h.1)));
  rows = refl;
}

-- one of six numbers
abbrev OneOfSix : ℕ → Type 0
OneOfSix octet = (octet ≡ 9) ⊎ (octet ≡ 10) ⊎ (octet ≡ 11) ⊎ (octet ≡ 12) ⊎ (octet ≡ 13) ⊎ (octet ≡ 32)

from_nine : (octet : ℕ) → 9 ≤ octet → octet ≤ 13 → OneOfSix octet
from_nine octet low high =
    elim (cases_eq octet 9) [
      | inl e ↦ inl e
      | inr a ↦ elim (cases_eq octet 10) [
        | inl e ↦ inr (inl e)
        | inr b ↦ elim (cases_eq octet 11) [
          | inl e ↦ inr (inr (inl e))
          | inr c ↦ elim (cases_eq octet 12) [
            | inl e ↦ inr (inr (inr (inl e)))
            | inr d ↦ inr (inr (inr (inr (inl (omega (arith, low, high, a, b, c, d))))))
          ]
        ]
      ]
    ]

white_is : (octet : ℕ) → is_white octet ≡ true → OneOfSix octet
white_is octet e =
    elim (or_cases (nat_le 9 octet && nat_le octet 13) (nat_eq octet 32) e) [
      | inl within ↦
          let both = and_parts (nat_le 9 octet) (nat_le octet 13) within in
          from_nine octet (leb-true 9 octet both.0) (leb-true octet 13 both.1)
      | inr space ↦ inr (inr (inr (inr (inr (eqb-true octet 32 space)))))
    ]

is_one : (octet : ℕ) → OneOfSix octet → is_white octet ≡ true
is_one octet (inl e) = rw e refl
is_one octet (inr (inl e)) = rw e refl
is_one octet (inr (inr (inl e))) = rw e refl
is_one octet (inr (inr (inr (inl e)))) = rw e refl
is_one octet (inr (inr (inr (inr (inl e))))) = rw e refl
is_one octet (inr (inr (inr (inr (inr e))))) = rw e refl

end_is : (octet : ℕ) → ends_line octet ≡ true → (octet ≡ 10) ⊎ (octet ≡ 13)
end_is octet e =
    elim (or_cases (nat_eq octet 10) (nat_eq octet 13) e) [ inl a ↦ inl (eqb-true octet 10 a) | inr b ↦ inr (eqb-true octet 13 b) ]

is_end : (octet : ℕ) → (octet ≡ 10) ⊎ (octet ≡ 13) → ends_line octet ≡ true
is_end octet (inl e) = rw e refl
is_end octet (inr e) = rw e refl

pub pbm_by_octets : PbmByOctets
unfolding after_blanks space_at digits_at number_at width_at height_at header_at rows_at page_at image_at images_at
    read_images bits_in colors
pbm_by_octets = record {
  white = λ octet. (white_is octet, is_one octet);
  line_ends = λ octet. (end_is octet, is_end octet);
  two_pixels = refl;
  two_images = refl;
  nine_pixels = refl;
}

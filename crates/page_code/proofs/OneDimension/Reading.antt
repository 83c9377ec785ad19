-- EOLs at a page's end, one by one.
use Rattle.std.proofs.Common.{ℕ, zero, suc, ◌≡◌, ◌+◌, ◌≤◌, Bool, List, drop, Some, None, refl}
use Rattle.std.proofs.lemmas.Bool.{lt-ltb, le-ltb}
use Rattle.page_code.specs.OneDimension.Fronts.{zeros_before, bits_of_eols, bits_of_five, CodeBegins}

pub five_eols : (x : List Bool) → bits_of_five x ≡ bits_of_eols 5 x
unfolding bits_of_five
five_eols x = refl

pub eols_go : (most n : ℕ) (x : List Bool) → zeros_before x ≡ Some n → 11 ≤ n
    → bits_of_eols (suc most) x ≡ n + 1 + bits_of_eols most (drop (n + 1) x)
eols_go most n x is long = rw (is, le-ltb n 11 long) refl

pub eols_none : (most : ℕ) (x : List Bool) → zeros_before x ≡ None → bits_of_eols most x ≡ 0
eols_none zero x is = refl
eols_none (suc most) x is = rw is refl

pub eols_other : (most : ℕ) (x : List Bool) → CodeBegins x → bits_of_eols most x ≡ 0
eols_other zero x stands = refl
eols_other (suc most) x stands = rw (stands.1, lt-ltb stands.0 11 stands.2) refl

-- The octets of the frames from number 0 on, up to the first that isn't there.
use Rattle.std.proofs.Common.{◌≡◌, ◌≤◌, ℕ, zero, suc, [], ◌∷◌, drop, length, refl, arith}
use Rattle.partial_page.specs.Assembling.{Frames}
use Rattle.stations.specs.BadPages.{front_octets}

-- after the last frame they are through
pub front_past : (frames : Frames) (n : ℕ) → length frames ≤ n → front_octets (drop n frames) ≡ []
front_past [] zero h = refl
front_past [] (suc n) h = refl
front_past (frame ∷ frames) zero h = let no : ⊥ = omega (arith, h) in absurd no
front_past (frame ∷ frames) (suc n) h = front_past frames n (omega (arith, h))

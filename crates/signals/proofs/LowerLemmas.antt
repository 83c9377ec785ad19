-- How many speeds two stations try.
use Rattle.std.proofs.Common.{◌≡◌, ◌+◌, ◌≤◌, Bool, true, false, cond, nat_eq, nat_le, Option, Some, None, Err, IfOk, refl, sym, ◌∙◌, ap}
use Rattle.std.proofs.lemmas.Bool.{eqb-true, leb-true}
use Rattle.signals.proofs.EachValue.{all_speeds, each_speed, all_modems, each_modems}
use Rattle.signals.specs.Agreement.{tried_speeds, first_of, after_speed, lower_speed, speeds_below, takes_pages, at_first}
use Rattle.signals.specs.Agreement.{BeginsAtMostFiveAbove, GoesDownByOne}
use Rattle.signals.specs.declared.params.Modems.{Modems}
use Rattle.signals.specs.declared.params.Speed.{Speed}

-- the speed below has one speed less below it
abbrev pub one_less : Modems → Modems → Speed → Option Speed → Bool
one_less ours theirs speed None = true
one_less ours theirs speed (Some next) = nat_eq (speeds_below ours theirs next + 1) (speeds_below ours theirs speed)

-- at most five speeds are below the first
abbrev pub five_below : Modems → Modems → Option Speed → Bool
five_below ours theirs None = true
five_below ours theirs (Some speed) = nat_le (speeds_below ours theirs speed) 5

pub goes-down : (ours theirs : Modems) (speed : Speed)
    → one_less ours theirs speed (first_of (after_speed speed (tried_speeds ours theirs))) ≡ true
goes-down ours theirs speed =
    each_speed (λ s. one_less ours theirs s (first_of (after_speed s (tried_speeds ours theirs))))
    (each_modems (λ b. all_speeds (λ s. one_less ours b s (first_of (after_speed s (tried_speeds ours b)))))
    (each_modems (λ a. all_modems (λ b. all_speeds (λ s. one_less a b s (first_of (after_speed s (tried_speeds a b)))))) refl ours) theirs)
    speed

pub begins-low : (ours theirs : Modems) → five_below ours theirs (first_of (tried_speeds ours theirs)) ≡ true
begins-low ours theirs =
    each_modems (λ b. five_below ours b (first_of (tried_speeds ours b)))
    (each_modems (λ a. all_modems (λ b. five_below a b (first_of (tried_speeds a b)))) refl ours) theirs

pub goes-down-by-one : GoesDownByOne
unfolding lower_speed
goes-down-by-one caps wish speed next e =
    eqb-true (speeds_below wish.modems caps.modems next + 1) (speeds_below wish.modems caps.modems speed)
    (sym (ap (one_less wish.modems caps.modems speed) e) ∙ goes-down wish.modems caps.modems speed)

pub begins-at-most-five : BeginsAtMostFiveAbove
begins-at-most-five caps wish width fine =
    decided (takes_pages caps width fine) (first_of (tried_speeds wish.modems caps.modems)) (begins-low wish.modems caps.modems)
  where
    decided : (takes : Bool) (first : Option Speed) → five_below wish.modems caps.modems first ≡ true →
        IfOk (cond takes (at_first first caps wish width fine) (Err (record {})))
        (λ params. speeds_below wish.modems caps.modems params.speed ≤ 5)
    decided true None e = tt
    decided true (Some speed) e = leb-true (speeds_below wish.modems caps.modems speed) 5 e
    decided false first e = tt

-- A call of which each rule is kept is clean.
use Rattle.std.proofs.Common.{◌≡◌, Bool, true, false, List, [], ◌∷◌, refl}
use Rattle.std.specs.Prelude.{None}
use Rattle.std.specs.List.{find}
use Rattle.referee.specs.History.{PlainSaid}
use Rattle.referee.specs.Rules.{breaks, rules, is_clean}
use Rattle.referee.specs.declared.rule.Rule.{Rule}
use Rattle.judged_calls.specs.SaidCalls.{Keeps, NoRuleIsBroken, RuleIsKept, RuleIsKeptOfPages, RuleIsKeptWithMemory}

-- no element of a list is found by a test that holds of none
pub none_found : {A : Type 0} (test : A → Bool) (xs : List A) → ((x : A) → test x ≡ false) → find test xs ≡ None
none_found test [] h = refl
none_found test (x ∷ xs) h = rw (h x) (none_found test xs h)

clean : (said : List PlainSaid) → ((rule : Rule) → Keeps rule said) → is_clean said ≡ true
clean [] h = refl
clean (said ∷ before) h =
    rw (none_found (λ rule. breaks rule said before) rules (λ rule. (h rule).0)) (clean before (λ rule. (h rule).1))

-- a rule that is kept of all calls, or of those of pages, is kept of these
pub of_all : (rule : Rule) → RuleIsKept rule → RuleIsKeptWithMemory rule
of_all rule h document wish caps steps full whole = h document wish caps steps

pub of_pages : (rule : Rule) → RuleIsKeptOfPages rule → RuleIsKeptWithMemory rule
of_pages rule h document wish caps steps full whole = h document wish caps steps full

pub none_broken : ((rule : Rule) → RuleIsKeptWithMemory rule) → NoRuleIsBroken
none_broken h document wish caps steps full whole = clean _ (λ rule. h rule document wish caps steps full whole)

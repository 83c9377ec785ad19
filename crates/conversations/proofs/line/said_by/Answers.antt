-- What the check asks of `said_by`.
use Rattle.std.proofs.Common.{◌≡◌, ℕ, List, codes, rules}
use Rattle.conversations.specs.Lines.{IsWordOf}
use Rattle.conversations.specs.declared.line.Said.{Said}
use Rattle.conversations.specs.declared.line.Said.TheVariants.{Quiet, Busy, Received, NotReady, Ready, Missed, Told, Stop, End}
use Rattle.conversations.proofs.line.said_by.Goals as goal

no_word : (word : List ℕ) → (word ≡ codes "quiet" → ⊥) → (word ≡ codes "busy" → ⊥) → (word ≡ codes "not-ready" → ⊥)
    → (word ≡ codes "ready" → ⊥) → (word ≡ codes "missed" → ⊥) → (word ≡ codes "stop" → ⊥) → (word ≡ codes "end" → ⊥) → (said : Said) → IsWordOf word said → ⊥
no_word word quiet busy not_ready ready missed stop end Quiet h = quiet h
no_word word quiet busy not_ready ready missed stop end Busy h = busy h
no_word word quiet busy not_ready ready missed stop end (Received channel kind bits octets) h = h
no_word word quiet busy not_ready ready missed stop end NotReady h = not_ready h
no_word word quiet busy not_ready ready missed stop end Ready h = ready h
no_word word quiet busy not_ready ready missed stop end Missed h = missed h
no_word word quiet busy not_ready ready missed stop end (Told fate file) h = h
no_word word quiet busy not_ready ready missed stop end Stop h = stop h
no_word word quiet busy not_ready ready missed stop end End h = end h

pub returns-in_default : goal.returns-in_default
returns-in_default c =
    no_word _ (search rules) (search rules) (search rules) (search rules) (search rules) (search rules) (search rules)

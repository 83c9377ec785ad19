-- What holds in the loop of `append_front`.
use Rattle.std.proofs.Common.{ℕ, ◌≡◌, ◌<◌, ◌++◌, false}
use Rattle.partial_page.specs.Store.{is_missing, joined_frames}
use Rattle.captures.proofs.captured.open_front.append_front.Given as goal

abbrev pub invariant-loop-number : goal.invariant-loop-number
invariant-loop-number l = record {
  joined : l.octets.items ≡ l.initial.octets.items ++ joined_frames l.frames.frames l.number;
  there : (k : ℕ) → k < l.number → is_missing l.frames.frames k ≡ false;
}

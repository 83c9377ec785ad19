use Rattle.std.proofs.Common.{◌≡◌, ◌++◌, replicate}
use Rattle.page_code.specs.OneDimension.Pages.{eol_words}
use Rattle.page_code.proofs.one_dim.write_rtc.Given as goal

abbrev pub invariant-loop : goal.invariant-loop
invariant-loop l = l.bits ≡ record l.fn.bits { bits = l.fn.bits.bits ++ eol_words (replicate l.counter 11) }

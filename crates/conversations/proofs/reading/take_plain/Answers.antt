-- What the check asks of `take_plain`.
use Rattle.std.proofs.Common.{rules, subst}
use Rattle.std.proofs.BufReadLemmas.{Consumes_shown}
use Rattle.std.specs.Io.BufRead.{FillKeeps}
use Rattle.conversations.proofs.LineOctets.{plain_some}
use Rattle.conversations.proofs.reading.take_plain.Goals as goal

pub returns-clause-taken : goal.returns-clause-taken
returns-clause-taken g c =
    let count = c.plain_count-count in
    let rested = c.fill_buf.follows.lender-at-none in
    let filled =
    subst (FillKeeps _ (g.R.Read.remaining rested) (g.R.BufRead.consumable_len rested)) c.in-Ok.is c.fill_buf.follows.holds-at-none in
    let moved =
    Consumes_shown _ _ _ _ c.in-Ok.octets.now count.result count.ensures.within c.in-Ok.ensures.front c.in-Ok.ensures.end filled.0 filled.1
    c.consume.ensures.bytes in
    plain_some _ _ c.in-Ok.octets.now _ count.result _ _ c.in_ok-extend_from_slice.ensures.items count.ensures.plain count.ensures.within
    count.ensures.few (search rules) moved.0

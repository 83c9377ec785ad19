use Rattle.std.proofs.Common.{arith, ◌+◌, ◌*◌, ◌-◌, ◌<◌, ◌≤◌, leb, length}
use Rattle.std.proofs.lemmas.Bool.{OnTrue_from, OnFalse_from, leb-true, leb-false}
use Rattle.run_tables.proofs.NumberLemmas.{length-rest}
use Rattle.run_tables.proofs.reader.BitReader.has_57.Goals as goal

pub returns-clause-yes : goal.returns-clause-yes
returns-clause-yes c =
    rw (← c.self.view_is, length-rest c.self.inside.order c.self.inside.octets.now (8 * c.self.inside.at + c.self.inside.within))
    (OnTrue_from (leb 8 (length c.self.inside.octets.now - c.self.inside.at)) (57 ≤ 8 * length c.self.inside.octets.now - (8 *
    c.self.inside.at + c.self.inside.within)) (λ e. omega (arith, leb-true 8 (length c.self.inside.octets.now - c.self.inside.at) e)))

pub returns-clause-no : goal.returns-clause-no
returns-clause-no c =
    rw (← c.self.view_is, length-rest c.self.inside.order c.self.inside.octets.now (8 * c.self.inside.at + c.self.inside.within))
    (OnFalse_from (leb 8 (length c.self.inside.octets.now - c.self.inside.at)) (8 * length c.self.inside.octets.now - (8 *
    c.self.inside.at + c.self.inside.within) < 57) (λ e. omega (arith, leb-false 8 (length c.self.inside.octets.now - c.self.inside.at) e)))

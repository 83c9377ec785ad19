use Rattle.std.proofs.Common.{rules}
use Rattle.raster.proofs.ChangeLemmas.{turns_word}
use Rattle.raster.proofs.changes.turns_in.Goals as goal

pub returns : goal.returns
returns c k h = turns_word c.args.octets.now c.args.at c.args.word c.last_before-last.result k (search rules)
    c.requires.word c.last_before-last.ensures.bit h

-- What the check asks of `write_picture`.
use Rattle.call_pictures.proofs.Pictures.{is_picture}
use Rattle.call_pictures.proofs.picture.write_picture.Goals as goal

pub returns-clause-picture : goal.returns-clause-picture
returns-clause-picture g c =
    is_picture c.args.ladder (g.W.Write.contents c.args.writer.now) (g.W.Write.contents c.write_all.new.writer) c.in_ok-rounds.rounds.items
    c.deref.result.now c.in_ok-rounds.feet c.deref.ensures.value c.in_ok-rounds.ensures.all c.in_ok-rounds.ensures.feet
    c.in_ok-write_all.ensures.text

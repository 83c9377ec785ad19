-- What the check asks of `read_image`.
use Rattle.page_files.proofs.FirstImage.{are_several, is_one}
use Rattle.page_files.proofs.coded.read_image.Goals as goal

pub returns-then-count-ne1-clause-refused : goal.returns-then-count-ne1-clause-refused
returns-then-count-ne1-clause-refused g c =
    are_several (g.R.Read.remaining c.args.reader.now) c.in_ok-page.page c.in_ok-page.count c.in_ok-page.ensures.found c.if-count-ne1.true

pub returns-clause-read : goal.returns-clause-read
returns-clause-read g c =
    is_one (g.R.Read.remaining c.args.reader.now) c.in_ok-page.page c.in_ok-page.count c.in_ok-page.ensures.found c.if-count-ne1.false

-- What the check asks of `decoded_of`.
use Rattle.page_files.proofs.DecodedPages.{found_gives}
use Rattle.page_files.proofs.decoding.decoded_of.Goals as goal

pub returns-clause-given : goal.returns-clause-given
returns-clause-given c broken octets image some is writes =
    found_gives broken c.args.found.form octets image c.new-lines.result.items c.args.found.page c.args.found.bits some is.reads writes
    c.new-lines.ensures.items

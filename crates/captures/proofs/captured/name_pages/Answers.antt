-- What the check asks of `name_pages`.
use Rattle.std.proofs.Common.{◌≡◌, arith}
use Rattle.captures.specs.Captured.{ahead}
use Rattle.captures.proofs.MissingPages.{all_pages, no_page, one_page}
use Rattle.captures.proofs.captured.name_pages.Goals as goal

pub loop-further-init : goal.loop-further-init
loop-further-init c = no_page c.args.from c.args.out.now.items

pub loop-further-preserved : goal.loop-further-preserved
loop-further-preserved c =
    one_page c.args.from c.loop-further.further c.args.out.now.items c.loop-further.out.items c.tell.new.out.items c.loop-further.invariant
    c.in_ok-tell.ensures.appended

pub returns-clause-named : goal.returns-clause-named
returns-clause-named c =
    let all : c.loop-further.further ≡ ahead c.args.page c.args.from = omega arith in
    all_pages c.args.from c.args.page c.loop-further.further c.args.out.now.items c.loop-further.out.items all c.loop-further.invariant

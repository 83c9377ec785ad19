-- What the check asks of `first_like`.
use Rattle.std.proofs.Common.{◌++◌, ◌∷◌, ◌∙◌, [], refl, sym}
use Rattle.command_files.proofs.ApartLemmas.{apart_more, one_passed}
use Rattle.command_files.proofs.files.apart.first_like.Goals as goal

pub loop-left-init : goal.loop-left-init
loop-left-init c = ([], refl, tt)

pub loop-left-preserved : goal.loop-left-preserved
loop-left-preserved c =
    let (before, split, apart) = c.loop-left.invariant in
    let other = c.other-item.result in (
      before ++ other ∷ [],
      one_passed c.args.files.now before c.loop-left.left.now other _ split c.in-len1-up.len_at_least c.other-item.is,
      apart_more c.args.file.now other before apart (sym c.are_one.ensures ∙ c.if-are_one.false),
    )

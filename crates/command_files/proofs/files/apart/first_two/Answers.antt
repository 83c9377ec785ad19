-- What the check asks of `first_two`.
use Rattle.std.proofs.Common.{◌++◌, ◌∷◌, [], refl, subst}
use Rattle.command_files.specs.Apart.{AreApartBefore}
use Rattle.command_files.proofs.ApartLemmas.{before_all, before_more, left_split, one_passed}
use Rattle.command_files.proofs.files.apart.first_two.Goals as goal

pub loop-left-init : goal.loop-left-init
loop-left-init c = ([], refl, tt)

pub loop-left-preserved : goal.loop-left-preserved
loop-left-preserved c =
    let (before, split, apart) = c.loop-left.invariant in
    let left = c.loop-left.left.now in
    let file = c.file-item.result in (
      before ++ file ∷ [],
      one_passed c.args.files.now before left file _ split c.in-len1-up.len_at_least c.file-item.is,
      before_more file before _ (subst (AreApartBefore before) (left_split left file _ c.in-len1-up.len_at_least c.file-item.is) apart)
          c.in_default-first_like.ensures,
    )

pub returns : goal.returns
returns c =
    let (before, split, apart) = c.loop-left.invariant in
    before_all c.args.files.now before c.loop-left.left.now split c.in_default.len_below apart

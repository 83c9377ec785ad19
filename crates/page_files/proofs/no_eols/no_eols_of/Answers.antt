-- What the check asks of `no_eols_of`.
use Rattle.std.proofs.Common.{◌∙◌, ap, sym}
use Rattle.std.specs.Prelude.{Option, option_map}
use Rattle.raster.specs.declared.packed.Order.TheVariants.{LsbFirst}
use Rattle.page_files.specs.Unread.{no_eols_in, or_no_eols}
use Rattle.page_files.specs.declared.no_eols.Alone.{Alone}
use Rattle.page_files.specs.declared.no_eols.NoEols.{NoEols}
use Rattle.page_files.proofs.no_eols.no_eols_of.Goals as goal

pub returns-in-Some-clause-rows : goal.returns-in-Some-clause-rows
returns-in-Some-clause-rows c =
    let msb = option_map (λ (alone : Alone). (alone.width, alone.rows)) c.in_ok-msb.msb in
    let lsb = option_map (λ (alone : Alone). (alone.width, alone.rows)) c.in_ok-lsb.lsb in (
      msb,
      lsb,
      (c.in_ok-msb.ensures.first, c.in_ok-lsb.ensures.first),
      sym (ap (λ (said : Option NoEols). or_no_eols said (no_eols_in LsbFirst lsb)) (sym c.no_eols_in.ensures ∙ c.in-Some.is)),
    )

pub returns-in-None-clause-rows : goal.returns-in-None-clause-rows
returns-in-None-clause-rows c =
    let msb = option_map (λ (alone : Alone). (alone.width, alone.rows)) c.in_ok-msb.msb in
    let lsb = option_map (λ (alone : Alone). (alone.width, alone.rows)) c.in_ok-lsb.lsb in (
      msb,
      lsb,
      (c.in_ok-msb.ensures.first, c.in_ok-lsb.ensures.first),
      c.no_eols_in-in-None.ensures
          ∙ sym (ap (λ (said : Option NoEols). or_no_eols said (no_eols_in LsbFirst lsb)) (sym c.no_eols_in.ensures ∙ c.in-None.is)),
    )

-- What the check asks of `tell_unread_by`.
use Rattle.std.proofs.Common.{refl}
use Rattle.std.proofs.KnownBytes.{Appends-trans}
use Rattle.page_files.proofs.unread.tell_unread_by.Goals as goal

pub returns-clause-told : goal.returns-clause-told
returns-clause-told g c =
    let two_msb = c.in_ok-tell_two_dim.ensures.told in
    let two_lsb = c.in_ok-tell_two_dim-2.ensures.told in
    let msb = c.in_ok-tell_order.ensures.told in
    let lsb = c.in_ok-tell_order-2.ensures.told in (
      _,
      (record { msb = two_msb.0; lsb = two_lsb.0 }, msb.0, lsb.0, (two_msb.1, two_lsb.1), (msb.1, lsb.1), refl),
      Appends-trans _ _ _ _ _ c.in_ok-tell_wide.ensures.told (Appends-trans _ _ _ _ _ c.in_ok-tell_wide-2.ensures.told
          (Appends-trans _ _ _ _ _ two_msb.2 (Appends-trans _ _ _ _ _ two_lsb.2 (Appends-trans _ _ _ _ _ msb.2 lsb.2)))),
    )

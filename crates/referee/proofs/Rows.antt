-- The rows, computed.
use Rattle.std.proofs.Common.{refl}
use Rattle.referee.specs.Frames.{some_number}
use Rattle.referee.specs.Rows.{BrokenBeforePages, BrokenByAnswerers, BrokenByCallers, NoneIsBroken}

pub none_is_broken : NoneIsBroken
unfolding some_number
none_is_broken = record { resent = refl; busy = refl; repeated = refl; two_pages = refl; two_groups = refl }

pub broken_before_pages : BrokenBeforePages
unfolding some_number
broken_before_pages = record {
  wrong_side = refl;
  wrong_answer = refl;
  ended = refl;
  other_ended = refl;
  not_offered = refl;
  offered_once = refl;
  not_trained = refl;
  trained_again = refl;
}

pub broken_by_callers : BrokenByCallers
unfolding some_number
broken_by_callers = record {
  no_burst = refl;
  empty = refl;
  long = refl;
  not_long = refl;
  out_of_order = refl;
  not_asked_for = refl;
  new_data = refl;
  two_rcps = refl;
  four_rcps = refl;
  uncounted = refl;
  wrong_count = refl;
  not_sent_again = refl;
  not_repeated = refl;
  wrong_counts = refl;
  not_busy = refl;
  not_busy_now = refl;
}

pub broken_by_answerers : BrokenByAnswerers
unfolding some_number
broken_by_answerers = record {
  no_command = refl;
  not_whole = refl;
  whole = refl;
  not_come = refl;
  asks_again = refl;
  asks_nothing = refl;
  bad_map = refl;
}

-- The examples, by computing.
use Rattle.std.proofs.Common.{refl}
use Rattle.raster.specs.Packed.{bits_in}
use Rattle.raster.specs.Octets.{octets_of}
use Rattle.hdlc.specs.Fcs.{check_bits}
use Rattle.hdlc.specs.Flags.{gaps, flags}
use Rattle.hdlc.specs.Gaps.{unstuffed, has_six}
use Rattle.hdlc.specs.Examples.{AreExamples}

pub are_examples : AreExamples
unfolding gaps flags unstuffed has_six octets_of check_bits bits_in
are_examples = record {
  check_text = refl;
  check_confirmation = refl;
  check_ready = refl;
  stuffed = refl;
  good_frame = refl;
  damaged = refl;
  aborted = refl;
  ragged = refl;
  short = refl;
  fill = refl;
  shared_zero = refl;
}

use Rattle.std.proofs.Common.{◌+◌, ◌≤◌, ◌++◌, ap, ◌∙◌, arith}
use Rattle.hdlc.specs.Stuffing.{waiting_bits}
use Rattle.hdlc.proofs.BitPlaces.{bits_of-one}
use Rattle.run_tables.proofs.NumberLemmas.{joined_below}
use Rattle.hdlc.proofs.WritingOctets.{shifted_whole, joined_fits, joined_bits, run_few}
use Rattle.hdlc.proofs.bit_buffer.BitBuffer.with.Goals as goal

pub overflow_add-result : goal.overflow_add-result
overflow_add-result c =
    record {
      fits = joined_fits c.args.self.count c.stuffed-value.result.1 c.args.self.value c.stuffed-value.result.0 c.requires.fits
          c.stuffed-value.ensures.below (omega (arith, c.requires.few, c.stuffed-value.ensures.few));
    }

pub returns : goal.returns
returns c =
    let more = c.stuffed-value.result.1 in
    let room : c.args.self.count + more ≤ 32 = omega (arith, c.requires.few, c.stuffed-value.ensures.few) in
    rw (shifted_whole c.args.self.count more c.args.self.value c.requires.fits room) (record {
      waits = record {
        fits = joined_below c.args.self.count more c.args.self.value c.stuffed-value.result.0 c.requires.fits c.stuffed-value.ensures.below;
        few = room;
        ones = rw (c.trailing_ones.ensures, c.stuffed-value.ensures.ones, bits_of-one c.args.octet) (run_few c.args.self.ones c.args.octet
            c.requires.ones (omega arith));
      };
      bits = joined_bits c.args.self.count more c.args.self.value c.stuffed-value.result.0 c.stuffed-value.ensures.below
          ∙ ap (λ xs. waiting_bits c.args.self ++ xs) c.stuffed-value.ensures.bits;
      ones = c.trailing_ones.ensures ∙ c.stuffed-value.ensures.ones;
    })

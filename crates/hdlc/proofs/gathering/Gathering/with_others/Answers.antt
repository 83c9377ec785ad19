use Rattle.std.proofs.Common.{◌≡◌, ◌+◌, ◌-◌, ◌*◌, ◌/◌, ◌%◌, ◌^◌, ◌<◌, ℕ, bit_and, ap, refl, sym, ◌∙◌, min, arith}
use Rattle.raster.specs.Octets.{number}
use Rattle.raster.specs.Packed.{bits_of}
use Rattle.raster.specs.declared.packed.Order.TheVariants.{LsbFirst}
use Rattle.raster.proofs.PackedLemmas.{length-bits_in}
use Rattle.hdlc.specs.EightBits.{four, ones_at_end}
use Rattle.hdlc.proofs.BitPlaces.{bits_of-one}
use Rattle.hdlc.proofs.GatheringLemmas.{moved_word}
use Rattle.hdlc.proofs.OneStuffed.{one_four, others_are}
use Rattle.hdlc.proofs.PendingLemmas.{joined_fits}
use Rattle.hdlc.proofs.PlainOctets.{number_word}
use Rattle.hdlc.proofs.gathering.Gathering.with_others.Goals as goal

pub returns-clause-sound : goal.returns-clause-sound
returns-clause-sound c =
    let p : ℕ = c.args.self.part in
    let b : ℕ = c.args.self.bits in
    let word : ℕ = c.from-all.result in
    let is : word ≡ number (bits_of LsbFirst (four c.args.word)) = c.from-all.ensures ∙ sym (number_word c.args.word (omega arith)) in
    let v : ℕ = (word + bit_and word (c.args.power - 1)) / 2 in
    let few : v < 2 ^ 31 = (others_are _ (c.args.self.row / 256) c.args.power word (length-bits_in LsbFirst _ 32) is c.requires.stuffed).1 in
    let moved : (b + v * 2 ^ p % 18446744073709551616) % 18446744073709551616 ≡ b + v * 2 ^ p =
    moved_word p b v c.requires.few c.requires.sound.fits (omega arith) in
    record {
      fits = rw moved (joined_fits p 31 b v c.requires.sound.fits few);
      whole = omega (arith, c.unstuffed.ensures.row);
      most = omega (arith, c.unstuffed.ensures.row);
    }

pub returns-clause-gathers : goal.returns-clause-gathers
returns-clause-gathers c buffer gap old =
    let p : ℕ = c.args.self.part in
    let b : ℕ = c.args.self.bits in
    let word : ℕ = c.from-all.result in
    let is : word ≡ number (bits_of LsbFirst (four c.args.word)) = c.from-all.ensures ∙ sym (number_word c.args.word (omega arith)) in
    let v : ℕ = (word + bit_and word (c.args.power - 1)) / 2 in
    let few : v < 2 ^ 31 = (others_are _ (c.args.self.row / 256) c.args.power word (length-bits_in LsbFirst _ 32) is c.requires.stuffed).1 in
    let moved : (b + v * 2 ^ p % 18446744073709551616) % 18446744073709551616 ≡ b + v * 2 ^ p =
    moved_word p b v c.requires.few c.requires.sound.fits (omega arith) in
    let row = c.unstuffed.ensures.row ∙ ap (λ bits. min 6 (ones_at_end 0 bits) * 256) (bits_of-one (c.args.word / 16777216)) in
    one_four buffer c.args.self _ gap (c.args.word % 256) (c.args.word / 256 % 256) (c.args.word / 65536 % 256) (c.args.word / 16777216)
    c.args.power word old c.requires.sound.fits (omega arith) is c.requires.stuffed moved refl refl row refl

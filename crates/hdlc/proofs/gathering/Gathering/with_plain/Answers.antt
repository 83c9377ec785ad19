use Rattle.std.proofs.Common.{◌≡◌, ◌+◌, ◌*◌, ◌/◌, ◌%◌, ◌^◌, ℕ, ap, refl, ◌∙◌, min, arith}
use Rattle.hdlc.specs.EightBits.{ones_at_end}
use Rattle.hdlc.proofs.BitPlaces.{bits_of-one}
use Rattle.hdlc.proofs.GatheringLemmas.{moved_word}
use Rattle.hdlc.proofs.PendingLemmas.{joined_fits}
use Rattle.hdlc.proofs.PlainOctets.{plain_four}
use Rattle.hdlc.proofs.gathering.Gathering.with_plain.Goals as goal

pub returns-clause-sound : goal.returns-clause-sound
returns-clause-sound c =
    let p : ℕ = c.args.self.part in
    let b : ℕ = c.args.self.bits in
    let is : (b + c.from.result * 2 ^ p % 18446744073709551616) % 18446744073709551616 ≡ b + c.args.word * 2 ^ p =
    ap (λ v. (b + v * 2 ^ p % 18446744073709551616) % 18446744073709551616) c.from.ensures
    ∙ moved_word p b c.args.word c.requires.few c.requires.sound.fits (omega arith) in
    record {
      fits = rw is (joined_fits p 32 b c.args.word c.requires.sound.fits (omega arith));
      whole = omega (arith, c.unstuffed.ensures.row);
      most = omega (arith, c.unstuffed.ensures.row);
    }

pub returns-clause-gathers : goal.returns-clause-gathers
returns-clause-gathers c buffer gap old =
    let word : ℕ = c.args.word in
    let p : ℕ = c.args.self.part in
    let b : ℕ = c.args.self.bits in
    let is : (b + c.from.result * 2 ^ p % 18446744073709551616) % 18446744073709551616 ≡ b + word * 2 ^ p =
    ap (λ v. (b + v * 2 ^ p % 18446744073709551616) % 18446744073709551616) c.from.ensures
    ∙ moved_word p b word c.requires.few c.requires.sound.fits (omega arith) in
    let row = c.unstuffed.ensures.row ∙ ap (λ bits. min 6 (ones_at_end 0 bits) * 256) (bits_of-one (word / 16777216)) in
    plain_four buffer c.args.self _ gap (word % 256) (word / 256 % 256) (word / 65536 % 256) (word / 16777216) word old c.requires.sound.fits
    (omega arith) (omega arith) (omega arith) (omega arith) (omega arith) (omega arith) c.requires.plain is refl refl row refl

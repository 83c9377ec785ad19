use Rattle.std.proofs.Common.{◌≡◌, ◌<◌, ◌+◌, ◌*◌, ◌/◌, ◌%◌, ◌^◌, ◌||◌, ◌∷◌, [], ℕ, List, Bool, min, length, refl, ap, ◌∙◌, arith}
use Rattle.raster.specs.Octets.{number}
use Rattle.raster.specs.Packed.{bits_of}
use Rattle.raster.specs.declared.packed.Order.TheVariants.{LsbFirst}
use Rattle.hdlc.specs.EightBits.{unstuffed_from}
use Rattle.hdlc.proofs.GatheringLemmas.{left_few, moved_wide, with_bits}
use Rattle.hdlc.proofs.PendingLemmas.{joined_fits}
use Rattle.hdlc.proofs.UnstuffedLemmas.{number_fits}
use Rattle.hdlc.proofs.gathering.Gathering.with.Goals as goal

pub overflow_add-result : goal.overflow_add-result
overflow_add-result c =
    omega (arith, c.unstuffed-left.ensures.count, left_few (min 5 (c.args.self.row / 256)) c.args.octet, c.requires.few)

pub returns-clause-few : goal.returns-clause-few
returns-clause-few c = omega (arith, c.unstuffed-left.ensures.count, left_few (min 5 (c.args.self.row / 256)) c.args.octet)

pub returns-clause-sound : goal.returns-clause-sound
returns-clause-sound c =
    let p : ℕ = c.args.self.part in
    let b : ℕ = c.args.self.bits in
    let n : ℕ = min 5 (c.args.self.row / 256) in
    let more : List Bool = unstuffed_from n (bits_of LsbFirst (c.args.octet ∷ [])) in
    let small : number more < 2 ^ length more = number_fits more (length more) (omega arith) in
    let is : (b + c.from.result * 2 ^ p % 18446744073709551616) % 18446744073709551616 ≡ b + number more * 2 ^ p =
    ap (λ v. (b + v * 2 ^ p % 18446744073709551616) % 18446744073709551616) (c.from.ensures ∙ c.unstuffed-left.ensures.number)
    ∙ moved_wide p (length more) b (number more) c.requires.few (left_few n c.args.octet) c.requires.sound.fits small in
    record {
      fits = rw (is, c.unstuffed-left.ensures.count) (joined_fits p (length more) b (number more) c.requires.sound.fits small);
      whole = omega (arith, c.unstuffed-left.ensures.row);
      most = omega (arith, c.unstuffed-left.ensures.row);
    }

pub returns-clause-gathers : goal.returns-clause-gathers
returns-clause-gathers c buffer gap old =
    let p : ℕ = c.args.self.part in
    let b : ℕ = c.args.self.bits in
    let n : ℕ = min 5 (c.args.self.row / 256) in
    let eight : List Bool = bits_of LsbFirst (c.args.octet ∷ []) in
    let more : List Bool = unstuffed_from n eight in
    let small : number more < 2 ^ length more = number_fits more (length more) (omega arith) in
    with_bits buffer c.args.self _ gap eight old c.requires.sound.fits (omega arith)
    (ap (λ v. (b + v * 2 ^ p % 18446744073709551616) % 18446744073709551616) (c.from.ensures ∙ c.unstuffed-left.ensures.number)
    ∙ moved_wide p (length more) b (number more) c.requires.few (left_few n c.args.octet) c.requires.sound.fits small)
    (ap (λ k. p + k) c.unstuffed-left.ensures.count) refl c.unstuffed-left.ensures.row
    (ap (λ x. c.args.self.aborted || x) c.unstuffed-left.ensures.sixth)

-- A page within the limit has at most 512 blocks, each of at most 256 frames.
use Rattle.std.proofs.Common.{◌≡◌, ℕ, zero, suc, ◌≤◌, Bool, true, false, List, refl, arith, length, take, drop, ap}
use Rattle.std.specs.Prelude.{min}
use Rattle.std.specs.Int.{div_ceil}
use Rattle.std.proofs.lemmas.Bool.{leb-true}
use Rattle.std.proofs.lemmas.List.{length-take}
use Rattle.partial_page.specs.Frames.{frame_size, pieces, blocks_of, cut}
use Rattle.stations.specs.Layers.{code_blocks, code_octets, code_within_limit, within_page_limit}
use Rattle.stations.specs.Sizes.{AllShort, BlocksAreFew}

pieces_short : (count : ℕ) (frames : List (List ℕ)) → AllShort (pieces 256 count frames)
unfolding pieces
pieces_short zero frames = tt
pieces_short (suc count) frames = (
  (let taken : length (take 256 frames) ≡ min 256 (length frames) = length-take 256 frames in omega arith),
  pieces_short count (drop 256 frames),
)

pieces_many : (count : ℕ) (frames : List (List ℕ)) → length (pieces 256 count frames) ≡ count
unfolding pieces
pieces_many zero frames = refl
pieces_many (suc count) frames = ap suc (pieces_many count (drop 256 frames))

cut_short : (small : Bool) (octets : List ℕ) → AllShort (cut small octets)
unfolding blocks_of
cut_short small octets = pieces_short _ _

few_frames : (small : Bool) (long : ℕ) → long ≤ 8388608 → div_ceil (div_ceil long (frame_size small)) 256 ≤ 512
few_frames true long h = omega arith
few_frames false long h = omega arith

cut_few : (small : Bool) (octets : List ℕ) → length octets ≤ 8388608 → length (cut small octets) ≤ 512
unfolding blocks_of
cut_few small octets h =
    let many : length (cut small octets) ≡ div_ceil (div_ceil (length octets) (frame_size small)) 256 = pieces_many _ _ in
    let few = few_frames small (length octets) h in
    omega arith

pub blocks_are_few : BlocksAreFew
unfolding code_blocks code_within_limit within_page_limit
blocks_are_few = record {
  short = λ params page. cut_short params.small (code_octets params page);
  few = λ params page h. cut_few params.small (code_octets params page) (leb-true (length (code_octets params page)) 8388608 h);
}

-- What the layers below promise, by their laws.
use Rattle.std.proofs.Common.{◌≡◌, ◌≢◌, ℕ, suc, ◌+◌, ◌*◌, ◌<◌, ◌≤◌, Bool, true, false, List, [], ◌∷◌, ◌++◌, length, replicate, get_or}
use Rattle.std.proofs.Common.{nat_le, Some, Ok, refl, ap, sym, ◌∙◌, arith, append-nil, append_assoc}
use Rattle.std.specs.Prelude.{All}
use Rattle.std.specs.List.{flat_map}
use Rattle.std.proofs.lemmas.List.{length-append, length-replicate}
use Rattle.std.proofs.lemmas.List.Concat.{flat_map-append}
use Rattle.std.proofs.lemmas.Bool.{leb-true, le-leb}
use Rattle.raster.specs.Pages.{PagePixels}
use Rattle.raster.specs.Packed.{bits_of}
use Rattle.raster.specs.declared.packed.Order.TheVariants.{LsbFirst}
use Rattle.raster.specs.declared.row.Color.{Color}
use Rattle.raster.proofs.OctetLemmas.{bits_of-append}
use Rattle.raster.proofs.PackedLemmas.{bits_in-none, length-bits_in}
use Rattle.page_code.specs.OneDimension.Pages.{page_words, rows_words, eol_words, rtc}
use Rattle.page_code.specs.TwoDimensions.Code.{page_code, rows_code}
use Rattle.page_code.specs.TwoDimensions.Modes.{eofb}
use Rattle.page_code.specs.TwoDimensions.Positions.{white_line}
use Rattle.page_code.specs.Codings.{code_of, read_rows, GivesCodedRows}
use Rattle.raster.specs.declared.coding.Coding.{Coding}
use Rattle.raster.specs.declared.coding.Coding.TheVariants.{OneDim, T6}
use Rattle.signals.specs.Agreement.{pixels_of}
use Rattle.signals.specs.declared.params.Params.{Params}
use Rattle.partial_page.specs.Frames.{frame_size, cut, joined as joined_cut, IsBlock, CutIsFullFrames, JoinedPageIsWithinLimit}
use Rattle.partial_page.specs.Frames.{OctetsHaveABlock}
use Rattle.stations.specs.Layers.{code_octets, code_blocks, within_page_limit, code_within_limit, page_read, IsFullPage}
use Rattle.partial_page.specs.Assembling.{within_frame_size}
use Rattle.stations.specs.Layers.{Fits}
use Rattle.stations.specs.Blocks.{joined}
use Rattle.stations.specs.Laws.{Each, joined_all, IsSendableFrame, IsSendable, LayersHold}
use Rattle.raster.specs.Octets.{fill_of, packed}
use Rattle.raster.proofs.OctetLemmas.{bits_of-packed}

length-code : (coding : Coding) (width : ℕ) (rows : List (List Color)) → 0 < length (code_of coding width rows)
unfolding code_of page_code
length-code OneDim width rows =
    let tail : length (eol_words rtc) ≡ 72 = refl in
    let sizes : length (page_words rows) ≡ length (rows_words rows) + length (eol_words rtc) =
    length-append (rows_words rows) (eol_words rtc) in
    omega arith
length-code T6 width rows =
    let tail : length eofb ≡ 24 = refl in
    let sizes : length (rows_code (white_line width) rows ++ eofb) ≡ length (rows_code (white_line width) rows) + length eofb =
    length-append (rows_code (white_line width) rows) eofb in
    omega arith

joined_frames : (frames : List (List ℕ)) → flat_map (λ frame. frame) frames ≡ joined frames
joined_frames [] = refl
joined_frames (frame ∷ frames) = ap (λ l. frame ++ l) (joined_frames frames)

joined_blocks : (blocks : List (List (List ℕ))) → joined_cut blocks ≡ joined_all blocks
joined_blocks [] = refl
joined_blocks (frames ∷ blocks) =
    flat_map-append (λ frame. frame) frames (flat_map (λ block. block) blocks) ∙
    (ap (λ l. l ++ joined_cut blocks) (joined_frames frames) ∙ ap (λ l. joined frames ++ l) (joined_blocks blocks))

size_fits : (small : Bool) → (1 ≤ frame_size small) × (frame_size small ≤ 256)
size_fits true = (omega arith, omega arith)
size_fits false = (omega arith, omega arith)

frames_sendable :
    (params : Params) (frames : List (List ℕ)) → All (λ frame. length frame ≡ frame_size params.small) frames →
    Each (IsSendableFrame params) frames
unfolding within_frame_size
frames_sendable params [] h = tt
frames_sendable params (frame ∷ frames) h =
    let size : length frame ≡ frame_size params.small = h 0 frame (omega arith) in
    let fits = size_fits params.small in (
      record {
        some = omega (arith, size, fits.0);
        few = omega (arith, size, fits.1);
        agreed = le-leb (length frame) (frame_size params.small) (omega arith);
      },
      frames_sendable params frames (λ k d within. h (suc k) d (omega arith)),
    )

block_sendable : (params : Params) (frames : List (List ℕ)) → IsBlock (frame_size params.small) frames → IsSendable params frames
block_sendable params [] h = absurd (omega (arith, h.some))
block_sendable params (frame ∷ frames) h = (λ e. cc, frames_sendable params (frame ∷ frames) h.sizes, h.few)

blocks_sendable :
    (params : Params) (blocks : List (List (List ℕ))) →
    ((k : ℕ) → k < length blocks → IsBlock (frame_size params.small) (get_or blocks k [])) → Each (IsSendable params) blocks
blocks_sendable params [] h = tt
blocks_sendable params (frames ∷ blocks) h =
    (block_sendable params frames (h 0 (omega arith)), blocks_sendable params blocks (λ k within. h (suc k) (omega arith)))

not_none : {X : Type 0} (xs : List X) → 0 < length xs → xs ≢ []
not_none [] h e = omega arith
not_none (x ∷ xs) h e = cc

-- octets that have the code's bits at their front, read as the page
reads_page :
    GivesCodedRows → (params : Params) (page : PagePixels) (octets : List ℕ) (rest : List Bool) → IsFullPage page →
    Fits params page → within_page_limit octets ≡ true →
    bits_of LsbFirst octets ≡ code_of params.coding page.width page.rows ++ rest → page_read params octets ≡ Some page
unfolding page_read
reads_page gives params page octets rest full fits long bits =
    let width : page.width ≡ pixels_of params.width = fits.wide in
    let reads : read_rows params.coding page.width (bits_of LsbFirst octets) ≡
    Ok (page.rows, length (code_of params.coding page.width page.rows)) =
    ap (read_rows params.coding page.width) bits ∙
    gives params.coding page.width page.rows rest full.valid.width full.some full.valid.few full.valid.wide in
    let same : record { width = pixels_of params.width; fine = params.fine; rows = page.rows } ≡ page =
    rw (← fits.wide, ← fits.fineness) refl in
    rw (long, ← width, reads) (ap Some same)

pub layers_hold_by : GivesCodedRows → CutIsFullFrames → JoinedPageIsWithinLimit → LayersHold
unfolding code_blocks code_within_limit within_page_limit code_octets
layers_hold_by gives cuts within params page full fits short =
    let code : List Bool = code_of params.coding page.width page.rows in
    let octets : List ℕ = packed code in
    let blocks : List (List (List ℕ)) = cut params.small octets in
    let limit : length octets ≤ 8388608 = leb-true (length octets) 8388608 short in
    let is_cut = cuts params.small octets in
    let padding : ℕ = is_cut.octets_then_zeros.0 in
    let joins : joined_all blocks ≡ octets ++ replicate padding 0 = sym (joined_blocks blocks) ∙ is_cut.octets_then_zeros.2 in
    let bits : bits_of LsbFirst (joined_all blocks) ≡ code ++
    (replicate (fill_of (length code)) false ++ bits_of LsbFirst (replicate padding 0)) =
    ap (bits_of LsbFirst) joins ∙
    (bits_of-append LsbFirst octets (replicate padding 0) ∙
    (ap (λ l. l ++ bits_of LsbFirst (replicate padding 0)) (bits_of-packed code) ∙
    append_assoc code (replicate (fill_of (length code)) false) (bits_of LsbFirst (replicate padding 0)))) in
    let fronts : (front rest : List ℕ) → front ++ rest ≡ joined_all blocks → nat_le (length front) 8388608 ≡ true =
    λ front rest e. le-leb (length front) 8388608 (within params.small octets front rest limit (joined_blocks blocks ∙ sym e)) in
    record {
      some = not_empty code _ blocks (length-code params.coding page.width page.rows) bits;
      sendable = blocks_sendable params blocks is_cut.each;
      read = reads_page gives params page (joined_all blocks) _ full fits
          (fronts (joined_all blocks) [] (append-nil (joined_all blocks))) bits;
      fronts = fronts;
    }
  where
    not_empty :
        (code rest : List Bool) (blocks : List (List (List ℕ))) → 0 < length code → bits_of LsbFirst (joined_all blocks) ≡ code ++ rest →
        blocks ≢ []
    not_empty code rest [] some bits =
        let e : [] ≡ code ++ rest = sym (bits_in-none LsbFirst []) ∙ bits in
        let size : 0 ≡ length code + length rest = ap length e ∙ length-append code rest in
        absurd (omega arith)
    not_empty code rest (frames ∷ blocks) some bits = λ e. cc

-- a page's code is cut into one block or more
pub coded_some : OctetsHaveABlock → (params : Params) (page : PagePixels) → code_blocks params page ≢ []
unfolding code_blocks code_octets
coded_some law params page =
    let code : List Bool = code_of params.coding page.width page.rows in
    let some : 0 < length code = length-code params.coding page.width page.rows in
    let bits : length (bits_of LsbFirst (packed code)) ≡ length code + fill_of (length code) =
    ap length (bits_of-packed code) ∙ (length-append code (replicate (fill_of (length code)) false) ∙
    ap (λ m. length code + m) (length-replicate (fill_of (length code)) false)) in
    let octets : length (bits_of LsbFirst (packed code)) ≡ 8 * length (packed code) =
    length-bits_in LsbFirst (packed code) (8 * length (packed code)) in
    not_none (cut params.small (packed code)) (law params.small (packed code) (omega arith))

-- The steps of what is found in the signals of a line.
use Rattle.std.proofs.Common.{◌≡◌, ◌≢◌, ◌<◌, ◌+◌, ℕ, zero, suc, Bool, true, false, cond, List, [], ◌∷◌, ◌++◌, length, map, ltb}
use Rattle.std.proofs.Common.{refl, ap, sym, ◌∙◌, ◌&&◌, arith, append_assoc, eqb, inl, inr, subst}
use Rattle.std.proofs.lemmas.Bool.{cases_eq}
use Rattle.std.proofs.lemmas.Bool.Decides.{nat_tests}
use Rattle.std.specs.Prelude.{Option, None, Some, Ok, Err, ◌≤◌, unwrap_or}
use Rattle.std.specs.List.{filter, range_with_len}
use Rattle.std.proofs.lemmas.List.{append-nil, ext_get_or, map-append}
use Rattle.std.proofs.lemmas.List.Elements.{filter-append}
use Rattle.std.proofs.lemmas.List.FromFn.{get_or-map-range_with_len, length-map-range_with_len}
use Rattle.raster.specs.Packed.{bits_of}
use Rattle.raster.specs.Pages.{PagePixels}
use Rattle.raster.specs.declared.packed.Order.TheVariants.{LsbFirst}
use Rattle.run_tables.specs.declared.fault.CodeFault.{CodeFault}
use Rattle.page_code.specs.Codings.{read_rows}
use Rattle.partial_page.proofs.StoreLemmas.{joined_frames-none, joined_frames-more}
use Rattle.partial_page.specs.Store.{frame_of, is_missing, joined_frames}
use Rattle.signals.specs.Agreement.{pixels_of}
use Rattle.signals.specs.declared.params.Params.{Params}
use Rattle.partial_page.specs.Assembling.{Frames}
use Rattle.signals.specs.declared.mark.Mark.{Mark}
use Rattle.captures.specs.Captured.{are_same_below, found_of, is_resend, is_same_frame, later_one, overlaid, page_in}
use Rattle.captures.specs.Fronts.{AppendsFront}
use Rattle.captures.specs.declared.captured.Captured.{Captured}
use Rattle.captures.specs.declared.captured.Captured.TheVariants.{Page, Unread, MissingFrame}

-- ---- a page

pub page_found : (params : Params) (mark : Mark) (octets : List ℕ) (page : PagePixels) (width used : ℕ) → width ≡ pixels_of params.width
    → page.width ≡ width → page.fine ≡ params.fine
    → read_rows params.coding width (bits_of LsbFirst octets) ≡ Ok (page.rows, used)
    → ◌≡◌ {A = Captured} (Page mark page) (page_in params mark octets)
unfolding page_in
page_found params mark octets page width used e wide fine is =
    let read : read_rows params.coding (pixels_of params.width) (bits_of LsbFirst octets) ≡ Ok (page.rows, used) =
    ap (λ (w : ℕ). read_rows params.coding w (bits_of LsbFirst octets)) (sym e) ∙ is in
    ap (λ (w : ℕ). Page mark (record { width = w; fine = page.fine; rows = page.rows })) (wide ∙ e)
    ∙ (ap (λ (f : Bool). Page mark (record { width = pixels_of params.width; fine = f; rows = page.rows })) fine
    ∙ sym (ap (found_of params mark) read))

pub page_not_found : (params : Params) (mark : Mark) (octets : List ℕ) (fault : CodeFault) (width : ℕ) → width ≡ pixels_of params.width
    → read_rows params.coding width (bits_of LsbFirst octets) ≡ Err (fault.place, fault.kind)
    → ◌≡◌ {A = Captured} (Unread mark fault) (page_in params mark octets)
unfolding page_in
page_not_found params mark octets fault width e is = rw (← e, is) refl

-- ---- frames that lack

range_more : (n a : ℕ) → range_with_len a (suc n) ≡ range_with_len a n ++ (a + n) ∷ []
range_more zero a = let e : a ≡ a + 0 = omega arith in ap (λ (x : ℕ). x ∷ []) e
range_more (suc n) a =
    let e : a + 1 + n ≡ a + suc n = omega arith in
    ap (λ (xs : List ℕ). a ∷ xs) (range_more n (a + 1) ∙ ap (λ (x : ℕ). range_with_len (a + 1) n ++ x ∷ []) e)

filter_more : (p : ℕ → Bool) (n : ℕ) → filter p (range_with_len 0 (n + 1)) ≡ filter p (range_with_len 0 n) ++ cond (p n) (n ∷ []) []
filter_more p n =
    let next : n + 1 ≡ suc n = omega arith in
    let front : 0 + n ≡ n = omega arith in
    let more : range_with_len 0 (suc n) ≡ range_with_len 0 n ++ n ∷ [] =
    range_more n 0 ∙ ap (λ (x : ℕ). range_with_len 0 n ++ x ∷ []) front in
    ap (λ (m : ℕ). filter p (range_with_len 0 m)) next
    ∙ (ap (filter p) more ∙ (filter-append p (range_with_len 0 n) (n ∷ [])
    ∙ ap (λ (xs : List ℕ). filter p (range_with_len 0 n) ++ xs) (one (p n) refl)))
  where
    one : (b : Bool) → p n ≡ b → filter p (n ∷ []) ≡ cond b (n ∷ []) []
    one true e = rw e refl
    one false e = rw e refl

-- the frames below a number that lack
abbrev pub lacks_below : Mark → Frames → ℕ → List Captured
lacks_below mark frames n = map (λ number. MissingFrame mark number) (filter (is_missing frames) (range_with_len 0 n))

pub one_lacks : (mark : Mark) (frames : Frames) (n : ℕ) (before old new : List Captured) → old ≡ before ++ lacks_below mark frames n
    → new ≡ old ++ cond (is_missing frames n) (MissingFrame mark n ∷ []) []
    → new ≡ before ++ lacks_below mark frames (n + 1)
one_lacks mark frames n before old new was is =
    is ∙ (ap (λ (xs : List Captured). xs ++ cond (is_missing frames n) (MissingFrame mark n ∷ []) []) was
    ∙ (append_assoc before (lacks_below mark frames n) (cond (is_missing frames n) (MissingFrame mark n ∷ []) [])
    ∙ ap (λ (xs : List Captured). before ++ xs) (sym grown)))
  where
    named : (b : Bool) → map (λ number. MissingFrame mark number) (cond b (n ∷ []) []) ≡ cond b (MissingFrame mark n ∷ []) []
    named true = refl
    named false = refl

    grown : lacks_below mark frames (n + 1) ≡ lacks_below mark frames n ++ cond (is_missing frames n) (MissingFrame mark n ∷ []) []
    grown = ap (map (λ number. MissingFrame mark number)) (filter_more (is_missing frames) n)
        ∙ (map-append (λ number. MissingFrame mark number) (filter (is_missing frames) (range_with_len 0 n))
        (cond (is_missing frames n) (n ∷ []) [])
        ∙ ap (λ (xs : List Captured). lacks_below mark frames n ++ xs) (named (is_missing frames n)))

-- ---- frames over others

abbrev pub laid_over : Frames → Frames → ℕ → Option (List ℕ)
laid_over old later k = later_one (frame_of old k) (frame_of later k)

-- all numbers below one are laid over
abbrev pub LaidBelow : Frames → Frames → ℕ → Frames → Type 0
LaidBelow old later n frames = (k : ℕ) → frame_of frames k ≡ cond (ltb k n) (laid_over old later k) (frame_of old k)

pub all_laid : (old later frames : Frames) → length frames ≡ 256 → LaidBelow old later 256 frames → frames ≡ overlaid old later
unfolding overlaid
all_laid old later frames size each =
    ext_get_or None frames (map (laid_over old later) (range_with_len 0 256))
    (size ∙ sym (length-map-range_with_len (laid_over old later) 0 256))
    (λ k within. let less : k < 256 = omega (arith, size) in
    each k ∙ (ap (λ (b : Bool). cond b (laid_over old later k) (frame_of old k)) (below k 256 less)
    ∙ sym (get_or-map-range_with_len (laid_over old later) 0 256 k k None less (omega arith))))
  where
    below : (k n : ℕ) → k < n → ltb k n ≡ true
    below k n less = grind (arith, nat_tests)

pub one_laid : (old later frames new : Frames) (n : ℕ) → LaidBelow old later n frames
    → ((k : ℕ) → frame_of new k ≡ cond (eqb k n) (later_one (frame_of frames k) (frame_of later k)) (frame_of frames k))
    → LaidBelow old later (n + 1) new
one_laid old later frames new n below one k =
    elim (cases_eq k n) [
      | inl e ↦
          let here : eqb k n ≡ true = is k n e in
          let old-is : frame_of frames k ≡ frame_of old k =
          below k ∙ ap (λ (b : Bool). cond b (laid_over old later k) (frame_of old k)) (not_below k n e) in
          one k ∙ rw (here, old-is, next_below k n e) refl
      | inr ne ↦
          let there : eqb k n ≡ false = is_not k n ne in
          one k ∙ rw there (below k ∙ ap (λ (b : Bool). cond b (laid_over old later k) (frame_of old k)) (same_below k n ne))
    ]
  where
    is : (k n : ℕ) → k ≡ n → eqb k n ≡ true
    is k n e = grind (arith, nat_tests)

    is_not : (k n : ℕ) → k ≢ n → eqb k n ≡ false
    is_not k n ne = grind (arith, nat_tests)

    not_below : (k n : ℕ) → k ≡ n → ltb k n ≡ false
    not_below k n e = grind (arith, nat_tests)

    next_below : (k n : ℕ) → k ≡ n → ltb k (n + 1) ≡ true
    next_below k n e = grind (arith, nat_tests)

    same_below : (k n : ℕ) → k ≢ n → ltb k n ≡ ltb k (n + 1)
    same_below k n ne = grind (arith, nat_tests)

pub none_laid : (old later : Frames) → LaidBelow old later 0 old
none_laid old later k = ap (λ (b : Bool). cond b (laid_over old later k) (frame_of old k)) (sym (nothing k))
  where
    nothing : (k : ℕ) → ltb k 0 ≡ false
    nothing k = grind (arith, nat_tests)

-- ---- frames before the first one that is missing

-- all frames below a number are there
abbrev pub AllBelow : Frames → ℕ → Type 0
AllBelow frames n = (k : ℕ) → k < n → is_missing frames k ≡ false

pub front_to : (frames : Frames) (n : ℕ) (before after : List ℕ) → n ≤ 256 → AllBelow frames n → frame_of frames n ≡ None
    → after ≡ before ++ joined_frames frames n → AppendsFront frames before after
front_to frames n before after few there none is = (
  joined_frames frames n,
  record { count = n; most = few; there = there; gap = λ less. rw none refl; joined = refl },
  is,
)

pub front_all : (frames : Frames) (n : ℕ) (before after : List ℕ) → n ≡ 256 → AllBelow frames n
    → after ≡ before ++ joined_frames frames n → AppendsFront frames before after
front_all frames n before after all there is =
    let few : n ≤ 256 = omega (arith, all) in (
      joined_frames frames n,
      record { count = n; most = few; there = there; gap = λ less. absurd (omega (arith, all, less)); joined = refl },
      is,
    )

pub front_none : (frames : Frames) (before : List ℕ) → before ≡ before ++ joined_frames frames 0
front_none frames before = rw joined_frames-none (sym (append-nil before))

pub none_below : (frames : Frames) → AllBelow frames 0
none_below frames k less = absurd (omega (arith, less))

pub front_more : (frames : Frames) (n : ℕ) (before old new octets : List ℕ) → old ≡ before ++ joined_frames frames n
    → frame_of frames n ≡ Some octets → new ≡ old ++ octets → new ≡ before ++ joined_frames frames (n + 1)
front_more frames n before old new octets was there is =
    let one : unwrap_or (frame_of frames n) [] ≡ octets = rw there refl in
    is ∙ (ap (λ (xs : List ℕ). xs ++ octets) was ∙ (append_assoc before (joined_frames frames n) octets
    ∙ ap (λ (xs : List ℕ). before ++ xs) (sym (joined_frames-more frames n ∙ ap (λ (xs : List ℕ). joined_frames frames n ++ xs) one))))

pub there_more : (frames : Frames) (n : ℕ) (octets : List ℕ) → AllBelow frames n → frame_of frames n ≡ Some octets
    → AllBelow frames (n + 1)
there_more frames n octets below there k less =
    elim (cases_eq k n) [
      | inl e ↦ rw (e, there) refl
      | inr ne ↦ let fewer : k < n = omega (arith, less, ne) in below k fewer
    ]

-- ---- frames that are sent again

-- a frame that differs, below a count
differs_below : (had coming : Frames) (n count : ℕ) → n < count → is_same_frame (frame_of had n) (frame_of coming n) ≡ false
    → are_same_below had coming count ≡ false
differs_below had coming n zero less e = absurd (omega (arith, less))
differs_below had coming n (suc count) less e =
    elim (cases_eq n count) [
      | inl same ↦
          ap (λ (b : Bool). b && are_same_below had coming count)
          (subst (λ (k : ℕ). is_same_frame (frame_of had k) (frame_of coming k) ≡ false) same e)
      | inr other ↦
          let fewer : n < count = omega (arith, less, other) in
          either (is_same_frame (frame_of had count) (frame_of coming count)) (are_same_below had coming count)
          (differs_below had coming n count fewer e)
    ]
  where
    either : (a b : Bool) → b ≡ false → (a && b) ≡ false
    either true b none = none
    either false b none = refl

pub differs : (had coming : Frames) (n : ℕ) (same : Bool) → n < 256 → same ≡ is_same_frame (frame_of had n) (frame_of coming n)
    → same ≡ false → false ≡ is_resend had coming
unfolding is_resend
differs had coming n same less is other = sym (differs_below had coming n 256 less (sym is ∙ other))

pub same_to_all : (had coming : Frames) (count : ℕ) → count ≡ 256 → are_same_below had coming count ≡ true → true ≡ is_resend had coming
unfolding is_resend
same_to_all had coming count all same = sym (subst (λ (n : ℕ). are_same_below had coming n ≡ true) all same)

pub one_same : (had coming : Frames) (n : ℕ) (same : Bool) → are_same_below had coming n ≡ true
    → same ≡ is_same_frame (frame_of had n) (frame_of coming n) → same ≡ true → are_same_below had coming (n + 1) ≡ true
one_same had coming n same below is e =
    let next : suc n ≡ n + 1 = omega arith in
    subst (λ (k : ℕ). are_same_below had coming k ≡ true) next
    (ap (λ (b : Bool). b && are_same_below had coming n) (sym is ∙ e) ∙ below)

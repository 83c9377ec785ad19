-- Reading a file's octets in pieces.
use Rattle.std.proofs.Common.{◌≡◌, ℕ, ◌+◌, ◌-◌, ◌<◌, ◌≤◌, Bool, true, false, ltb, List, [], ◌∷◌, ◌++◌, length, take, drop, Some, None, Result, Ok}
use Rattle.std.proofs.Common.{Err, ◌⊎◌, inl, inr, refl, ap, sym, ◌∙◌, subst, append_assoc, arith}
use Rattle.std.specs.Prelude.{Option, IfSome}
use Rattle.std.specs.Io.KnownBytes.{Consumes, Keeps, IsAtEnd, prepend_known}
use Rattle.std.proofs.Math.Seq.{take-append-add}
use Rattle.std.proofs.lemmas.List.{append-nil, take-append-drop, take-append-le, length-append, length-drop, length-take-le, take_at, drop_at}
use Rattle.std.proofs.lemmas.Bool.{le-ltb, lt-ltb}
use borrow.Rule.Slice.PartMut.{put_mid, post_of}
use Rattle.raster.specs.declared.fault.RasterFault.{RasterFault}
use Rattle.raster.specs.declared.fault.RasterFault.TheVariants.{Io, NoMemory, ShortData}
use Rattle.raster.specs.declared.pbm.Header.{Header}
use Rattle.raster.specs.declared.row.Color.{Color}
use Rattle.raster.specs.Pages.{PagePixels}
use Rattle.raster.specs.Pbm.{stride, row_pixels, Size, header_at, row_at, rows_at, page_at, image_at, Fails, FailsOrIo, Gives, GivesOrIo}
use Rattle.raster.specs.Pbm.{Given, Took, images_of, with_kept, read_kept, size_of}
use Rattle.raster.proofs.PbmImages.{header_grows, header_some}
use Rattle.raster.proofs.PbmReading.{with_rows, rows_next, rows_fail, rows_done, page_fails, page_is, and_page, images_begin, images_next}
use Rattle.raster.proofs.PbmReading.{images_fail, images_fail_first, images_done}

-- ---- room that is filled

-- this number of octets was read into room of this size
pub record Filled (old now : Option (List ℕ)) (size : ℕ) (octets : List ℕ) (count : ℕ) : Type 0 where
  pub within : count ≤ length octets
  pub long : length octets ≡ size
  pub read : Consumes old now (take count octets)

consumes_twice : (a b c : Option (List ℕ)) (xs ys : List ℕ) → Consumes a b xs → Consumes b c ys → Consumes a c (xs ++ ys)
consumes_twice None b c xs ys p q = tt
consumes_twice (Some x) None c xs ys p q = absurd p
consumes_twice (Some x) (Some y) None xs ys p q = absurd q
consumes_twice (Some x) (Some y) (Some z) xs ys p q = p ∙ (ap (λ (l : List ℕ). xs ++ l) q ∙ sym (append_assoc xs ys z))

pub keeps_none : (a b : Option (List ℕ)) → Keeps a b → Consumes a b []
keeps_none None b p = tt
keeps_none (Some x) None p = absurd p
keeps_none (Some x) (Some y) p = sym p

pub filled_part : (old now new : Option (List ℕ)) (size : ℕ) (octets part : List ℕ) (room count more next : ℕ)
    → Filled old now size octets count → length part ≡ room → count + room ≤ length octets → more ≤ room → next ≡ count + more
    → Consumes now new (take more part) → Filled old new size (put_mid count room octets part) next
filled_part old now new size octets part room count more next filled long fits few is read =
    let front : length (take count octets) ≡ count = length-take-le count octets filled.within in
    let after : List ℕ = post_of count room octets in
    let left : length after ≡ length octets - (count + room) = simp (length-drop) (omega arith) in
    let all : length (put_mid count room octets part) ≡ length octets =
    length-append (take count octets) (part ++ after) ∙ (rw (front, length-append part after, left, long) (omega (arith, fits))) in
    let within : more ≤ length part = omega (arith, few, long) in
    let taken : take next (put_mid count room octets part) ≡ take count octets ++ take more part =
    ap (λ n. take n (take count octets ++ (part ++ after))) (is ∙ ap (λ n. n + more) (sym front)) ∙
    (take-append-add (take count octets) (part ++ after) more ∙
    ap (λ (xs : List ℕ). take count octets ++ xs) (take-append-le more part after within)) in
    record {
      within = omega (arith, all, fits, few, is);
      long = all ∙ filled.long;
      read = subst (λ (xs : List ℕ). Consumes old new xs) (sym taken) (consumes_twice old now new (take count octets) (take more part)
          filled.read read);
    }

pub filled_more : (old now new : Option (List ℕ)) (size : ℕ) (octets part : List ℕ) (count more next : ℕ) → Filled old now size octets count
    → length part ≡ length octets - count → more ≤ length part → next ≡ count + more → Consumes now new (take more part)
    → Filled old new size (put_mid count (length octets - count) octets part) next
filled_more old now new size octets part count more next filled room few is read =
    filled_part old now new size octets part (length octets - count) count more next filled room (omega (arith, filled.within)) (omega (
      arith,
      few,
      room,
    )) is read

pub none_taken : (known : Option (List ℕ)) → Consumes known known []
none_taken None = tt
none_taken (Some xs) = refl

-- ---- octets that a reader gives

-- this holds of any octets
pub any : (known : Option (List ℕ)) (P : List ℕ → Type 0) → ((octets : List ℕ) → P octets) → Given known P
any None P h = record { octets = []; are = tt; hold = h [] }
any (Some xs) P h = record { octets = xs; are = refl; hold = h xs }

given_all : (old now : Option (List ℕ)) (front rest : List ℕ) → Consumes old now front → IfSome now (λ left. left ≡ rest)
    → IfSome old (λ left. left ≡ front ++ rest)
given_all None now front rest took is = tt
given_all (Some xs) None front rest took is = absurd took
given_all (Some xs) (Some ys) front rest took is = took ∙ ap (λ (zs : List ℕ). front ++ zs) is

-- octets that were taken, and then those that the reader gives
pub after : (old now : Option (List ℕ)) (front : List ℕ) (P Q : List ℕ → Type 0) → Consumes old now front → Given now P
    → ((rest : List ℕ) → P rest → Q (front ++ rest)) → Given old Q
after old now front P Q took given more = record {
  octets = front ++ given.octets;
  are = given_all old now front given.octets took given.are;
  hold = more given.octets given.hold;
}

all_taken : (old now : Option (List ℕ)) (octets : List ℕ) → Consumes old now octets → IsAtEnd now → IfSome old (λ left. left ≡ octets)
all_taken None now octets took end = tt
all_taken (Some xs) None octets took end = absurd took
all_taken (Some xs) (Some ys) octets took end = took ∙ (ap (λ (zs : List ℕ). octets ++ zs) end ∙ append-nil octets)

-- the octets that were taken up to the end
pub ended : (old now : Option (List ℕ)) (octets : List ℕ) (P : List ℕ → Type 0) → Consumes old now octets → IsAtEnd now → P octets
    → Given old P
ended old now octets P took end h = record { octets = octets; are = all_taken old now octets took end; hold = h }

pub given_known : (known : Option (List ℕ)) (P : List ℕ → Type 0) → Given known P → IfSome known P
given_known None P given = tt
given_known (Some xs) P given = subst P (sym given.are) given.hold

-- octets in memory, and then all that the reader gives
pub rest_read : (known : Option (List ℕ)) (before items head : List ℕ) → before ≡ head → take (length before) items ≡ before
    → IfSome known (λ rest. items ≡ before ++ rest) → Given known (λ rest. items ≡ head ++ rest)
rest_read None before items head e begins bytes = record {
  octets = drop (length before) items;
  are = tt;
  hold = sym (take-append-drop (length before) items) ∙ ap (λ (front : List ℕ). front ++ drop (length before) items) (begins ∙ e);
}
rest_read (Some rest) before items head e begins bytes = record {
  octets = rest;
  are = refl;
  hold = bytes ∙ ap (λ (front : List ℕ). front ++ rest) e;
}

-- ---- faults

pub fails_or : {A B : Type 0} (fault : RasterFault) (a : Result A RasterFault) (b : Result B RasterFault)
    → (Fails fault a → Fails fault b) → FailsOrIo fault a → FailsOrIo fault b
fails_or Io a b f h = tt
fails_or NoMemory a b f h = tt
fails_or fault a b f h = f h

pub fails_io : {A : Type 0} (fault : RasterFault) (read : Result A RasterFault) → Fails fault read → FailsOrIo fault read
fails_io Io read h = tt
fails_io NoMemory read h = tt
fails_io fault read h = h

-- Io and NoMemory come with any octets
pub io_or_memory : {A : Type 0} (fault : RasterFault) (read : Result A RasterFault) → (fault ≡ NoMemory) ⊎ (fault ≡ Io) → FailsOrIo fault read
io_or_memory fault read (inl e) = rw e tt
io_or_memory fault read (inr e) = rw e tt

-- a reader that failed may have had any octets
pub reader_failed : {A : Type 0} (known : Option (List ℕ)) (fault : RasterFault) (read : List ℕ → Result A RasterFault)
    → (fault ≡ NoMemory) ⊎ (fault ≡ Io) → Given known (λ octets. FailsOrIo fault (read octets))
reader_failed known fault read e = any known (λ octets. FailsOrIo fault (read octets)) (λ octets. io_or_memory fault (read octets) e)

pub gives_io : {X Y : Type 0} (view : X → Y) (result : Result X RasterFault) (read : Result Y RasterFault) → Gives view result read
    → GivesOrIo view result read
gives_io view (Ok x) read h = h
gives_io view (Err fault) read h = fails_io fault read h

-- ---- rows

-- what holds of the octets that were taken for the rows so far
abbrev pub RowsSoFar : List (List Color) → ℕ → ℕ → ℕ → List ℕ → Type 0
RowsSoFar front width height done taken = (rest : List ℕ) → with_rows front (rows_at width (height - done) rest) ≡ rows_at width height (taken
    ++ rest)

row_here : (width : ℕ) (line rest : List ℕ) → length line ≡ stride width → row_at width (line ++ rest) ≡ Ok (row_pixels width line, rest)
row_here width line rest e =
    let long : ltb (length (line ++ rest)) (stride width) ≡ false = le-ltb _ _ (omega (arith, length-append line rest, e)) in
    rw (long, take_at line rest (stride width) e, drop_at line rest (stride width) e) refl

row_short : (width : ℕ) (octets : List ℕ) → length octets < stride width → row_at width octets ≡ Err ShortData
row_short width octets e = let short : ltb (length octets) (stride width) ≡ true = lt-ltb _ _ e in rw short refl

-- the reader is at its end within a row
pub row_cut : (old now : Option (List ℕ)) (width : ℕ) (line : List ℕ) (count : ℕ) → length line ≡ stride width → count < length line
    → Consumes old now (take count line) → IsAtEnd now → Given old (λ octets. FailsOrIo ShortData (row_at width octets))
row_cut old now width line count long less took end =
    let within : count ≤ length line = omega arith in
    let short : length (take count line) < stride width = omega (arith, length-take-le count line within) in
    ended old now (take count line) (λ octets. FailsOrIo ShortData (row_at width octets)) took end (row_short width (take count line) short)

pub row_more : (old now new : Option (List ℕ)) (front : List (List Color)) (width height done : ℕ) (line : List ℕ) → done < height
    → length line ≡ stride width → Took old now (RowsSoFar front width height done) → Consumes now new line
    → Took old new (RowsSoFar (front ++ row_pixels width line ∷ []) width height (done + 1))
row_more old now new front width height done line less long so_far took = record {
  octets = so_far.octets ++ line;
  are = consumes_twice old now new so_far.octets line so_far.are took;
  hold = λ rest. rows_next front width height done (line ++ rest) (row_pixels width line) rest (rows_at width height ((so_far.octets ++ line)
      ++ rest)) less (row_here width line rest long) (so_far.hold (line ++ rest) ∙ ap (rows_at width height) (sym (append_assoc so_far.octets
      line rest)));
}

pub row_fails : (fault : RasterFault) (old now : Option (List ℕ)) (front : List (List Color)) (fine : Bool) (size : Size) (done : ℕ)
    → done < size.height → Took old now (RowsSoFar front size.width size.height done)
    → Given now (λ octets. FailsOrIo fault (row_at size.width octets)) → Given old (λ octets. FailsOrIo fault (page_at fine size octets))
row_fails fault old now front fine size done less so_far given =
    after old now so_far.octets (λ octets. FailsOrIo fault (row_at size.width octets)) (λ octets. FailsOrIo fault (page_at fine size octets))
    so_far.are given
    (λ rest h. fails_or fault (row_at size.width rest) (page_at fine size (so_far.octets ++ rest))
    (λ f. page_fails fault fine size (so_far.octets ++ rest) (rows_fail fault front size.width size.height done rest (rows_at size.width
    size.height (so_far.octets ++ rest)) less f (so_far.hold rest))) h)

pub page_done : (old now : Option (List ℕ)) (page : PagePixels) (fine : Bool) (size : Size) (done : ℕ) → size.height ≤ done
    → page.width ≡ size.width → page.fine ≡ fine → Took old now (RowsSoFar page.rows size.width size.height done)
    → Took old now (λ octets. (rest : List ℕ) → page_at fine size (octets ++ rest) ≡ Ok (page, rest))
page_done old now page fine size done all w f so_far = record {
  octets = so_far.octets;
  are = so_far.are;
  hold = λ rest. page_is fine size (so_far.octets ++ rest) rest page w f (rows_done page.rows size.width size.height done rest (rows_at
      size.width size.height (so_far.octets ++ rest)) all (so_far.hold rest));
}

-- ---- an image

-- these octets are the image of a page, whatever follows them
abbrev pub IsImageOf : Bool → PagePixels → List ℕ → Type 0
IsImageOf fine page octets = (rest : List ℕ) → image_at fine (octets ++ rest) ≡ Ok (page, rest)

image_is : (fine : Bool) (whole octets rest : List ℕ) (size : Size) (page : PagePixels) → header_at whole ≡ Ok (size, octets)
    → page_at fine size octets ≡ Ok (page, rest) → image_at fine whole ≡ Ok (page, rest)
unfolding image_at
image_is fine whole octets rest size page header rows = rw header rows

image_fails : (fault : RasterFault) (fine : Bool) (whole octets : List ℕ) (size : Size) → header_at whole ≡ Ok (size, octets)
    → Fails fault (page_at fine size octets) → Fails fault (image_at fine whole)
unfolding image_at
image_fails fault fine whole octets size header h = rw header h

-- a header and then a page are an image
pub image_taken : (fine : Bool) (old now new : Option (List ℕ)) (header : List ℕ) (size : Size) (page : PagePixels)
    → Consumes old now header → header_at header ≡ Ok (size, [])
    → Took now new (λ octets. (rest : List ℕ) → page_at fine size (octets ++ rest) ≡ Ok (page, rest)) → Took old new (IsImageOf fine page)
image_taken fine old now new header size page took e paged = record {
  octets = header ++ paged.octets;
  are = consumes_twice old now new header paged.octets took paged.are;
  hold = λ rest. image_is fine ((header ++ paged.octets) ++ rest) (paged.octets ++ rest) rest size page (ap header_at (append_assoc header
      paged.octets rest) ∙ header_grows header (paged.octets ++ rest) size [] e) (paged.hold rest);
}

-- octets whose first image has this fault
abbrev pub FirstFails : RasterFault → Bool → List ℕ → Type 0
FirstFails fault fine octets = (0 < length octets) × FailsOrIo fault (image_at fine octets)

-- the page after a header is refused, and so is the image
pub image_refused : (fault : RasterFault) (fine : Bool) (old now : Option (List ℕ)) (header : List ℕ) (size : Size)
    → Consumes old now header → header_at header ≡ Ok (size, []) → Given now (λ octets. FailsOrIo fault (page_at fine size octets))
    → Given old (FirstFails fault fine)
image_refused fault fine old now header size took e given =
    after old now header (λ octets. FailsOrIo fault (page_at fine size octets)) (FirstFails fault fine) took given
    (λ rest h.
    let grown : header_at (header ++ rest) ≡ Ok (size, rest) = header_grows header rest size [] e in (
      header_some (header ++ rest) (size, rest) grown,
      fails_or fault (page_at fine size rest) (image_at fine (header ++ rest)) (image_fails fault fine (header ++ rest) rest size grown) h,
    ))

-- ---- images

-- the pages of all octets, the first page read already
abbrev pub after_first : Bool → Bool → PagePixels → List ℕ → Result (List PagePixels × ℕ) RasterFault
after_first all fine first octets = with_kept all (first ∷ []) 1 (images_of fine octets)

-- what holds of the octets that were taken for the images after the first one so far
abbrev pub ImagesSoFar : Bool → Bool → PagePixels → List PagePixels → ℕ → List ℕ → Type 0
ImagesSoFar all fine first front count taken =
    (rest : List ℕ) → with_kept all front count (images_of fine rest) ≡ after_first all fine first (taken ++ rest)

pub images_more : (all fine : Bool) (first : PagePixels) (front : List PagePixels) (count : ℕ) (page : PagePixels)
    (old now new : Option (List ℕ)) → Took old now (ImagesSoFar all fine first front count) → Took now new (IsImageOf fine page)
    → Took old new (ImagesSoFar all fine first (and_page all front page) (count + 1))
images_more all fine first front count page old now new so_far one = record {
  octets = so_far.octets ++ one.octets;
  are = consumes_twice old now new so_far.octets one.octets so_far.are one.are;
  hold = λ rest. images_next all front count fine (one.octets ++ rest) page rest (after_first all fine first ((so_far.octets ++ one.octets)
      ++ rest)) (one.hold rest) (so_far.hold (one.octets ++ rest) ∙ ap (after_first all fine first) (sym (append_assoc so_far.octets
      one.octets rest)));
}

pub images_refused : (fault : RasterFault) (all fine : Bool) (first : PagePixels) (front : List PagePixels) (count : ℕ)
    (old now : Option (List ℕ)) → Took old now (ImagesSoFar all fine first front count) → Given now (FirstFails fault fine)
    → Given old (λ octets. FailsOrIo fault (after_first all fine first octets))
images_refused fault all fine first front count old now so_far given =
    after old now so_far.octets (FirstFails fault fine) (λ octets. FailsOrIo fault (after_first all fine first octets)) so_far.are given
    (λ rest h. fails_or fault (image_at fine rest) (after_first all fine first (so_far.octets ++ rest))
    (λ f. images_fail fault all front count fine rest (after_first all fine first (so_far.octets ++ rest)) h.0 f (so_far.hold rest)) h.1)

pub images_ended : (all fine : Bool) (first : PagePixels) (front : List PagePixels) (count : ℕ) (old now new : Option (List ℕ)) (head : List ℕ)
    → Took old now (ImagesSoFar all fine first front count) → Consumes now new head → head ≡ [] → IsAtEnd new
    → Given old (λ octets. after_first all fine first octets ≡ Ok (front, count))
images_ended all fine first front count old now new head so_far took e end =
    let all_of : so_far.octets ++ head ≡ so_far.octets = ap (λ (xs : List ℕ). so_far.octets ++ xs) e ∙ append-nil so_far.octets in
    ended old new so_far.octets (λ octets. after_first all fine first octets ≡ Ok (front, count))
    (subst (λ (xs : List ℕ). Consumes old new xs) all_of (consumes_twice old now new so_far.octets head so_far.are took)) end
    (images_done all front count fine [] (after_first all fine first so_far.octets) refl (so_far.hold [] ∙ ap (after_first all fine first)
    (append-nil so_far.octets)))

-- the other octets are in memory
pub in_memory : (old now : Option (List ℕ)) (head items : List ℕ) (P : List ℕ → Type 0) → Consumes old now head
    → Given now (λ rest. items ≡ head ++ rest) → P items → Given old P
in_memory old now head items P took given h =
    after old now head (λ rest. items ≡ head ++ rest) P took given (λ rest e. subst P e h)

pub memory_rest : {X : Type 0} (view : X → List PagePixels × ℕ) (result : Result X RasterFault) (all fine : Bool) (front : List PagePixels)
    (count : ℕ) (old now : Option (List ℕ)) (head items octets : List ℕ) → Consumes old now head → Given now (λ rest. items ≡ head ++ rest)
    → octets ≡ items → Gives view result (with_kept all front count (images_of fine octets))
    → Given old (λ rest. Gives view result (with_kept all front count (images_of fine rest)))
memory_rest view result all fine front count old now head items octets took given e h =
    in_memory old now head items (λ rest. Gives view result (with_kept all front count (images_of fine rest))) took given
    (subst (λ (xs : List ℕ). Gives view result (with_kept all front count (images_of fine xs))) e h)

pub images_rest : {X : Type 0} (view : X → List PagePixels × ℕ) (result : Result X RasterFault) (all fine : Bool) (first : PagePixels)
    (front : List PagePixels) (count : ℕ) (old now : Option (List ℕ)) → Took old now (ImagesSoFar all fine first front count)
    → Given now (λ rest. Gives view result (with_kept all front count (images_of fine rest)))
    → Given old (λ octets. GivesOrIo view result (after_first all fine first octets))
images_rest view result all fine first front count old now so_far given =
    after old now so_far.octets (λ rest. Gives view result (with_kept all front count (images_of fine rest)))
    (λ octets. GivesOrIo view result (after_first all fine first octets)) so_far.are given
    (λ rest h. gives_io view result (after_first all fine first (so_far.octets ++ rest))
    (subst (λ (read : Result (List PagePixels × ℕ) RasterFault). Gives view result read) (so_far.hold rest) h))

-- ---- all images

pub first_refused : (fault : RasterFault) (all fine : Bool) (known : Option (List ℕ)) → Given known (FirstFails fault fine)
    → Given known (λ octets. FailsOrIo fault (read_kept all fine octets))
first_refused fault all fine known given = record {
  octets = given.octets;
  are = given.are;
  hold = fails_or fault (image_at fine given.octets) (read_kept all fine given.octets) (images_fail_first fault all fine given.octets
      given.hold.0) given.hold.1;
}

pub first_and_following : {X : Type 0} (view : X → List PagePixels × ℕ) (result : Result X RasterFault) (all fine : Bool)
    (first : PagePixels) (old now : Option (List ℕ)) → Took old now (IsImageOf fine first)
    → Given now (λ rest. GivesOrIo view result (after_first all fine first rest))
    → Given old (λ octets. GivesOrIo view result (read_kept all fine octets))
first_and_following view result all fine first old now one given =
    after old now one.octets (λ rest. GivesOrIo view result (after_first all fine first rest))
    (λ octets. GivesOrIo view result (read_kept all fine octets)) one.are given
    (λ rest h. subst (λ (read : Result (List PagePixels × ℕ) RasterFault). GivesOrIo view result read) (images_begin all fine (one.octets ++
    rest) first rest (one.hold rest)) h)

-- nothing was taken yet
pub none_yet : (all fine : Bool) (first : PagePixels) (front : List PagePixels) (known : Option (List ℕ)) → front ≡ first ∷ []
    → Took known known (ImagesSoFar all fine first front 1)
none_yet all fine first front known e = record {
  octets = [];
  are = none_taken known;
  hold = λ rest. ap (λ (pages : List PagePixels). with_kept all pages 1 (images_of fine rest)) e;
}

pub header_of : (told : Option Header) (header : Header) (octets : List ℕ) → told ≡ Some header
    → IfSome told (λ header. header_at octets ≡ Ok (size_of header, [])) → header_at octets ≡ Ok (size_of header, [])
header_of told header octets is e = subst (λ (t : Option Header). IfSome t (λ header. header_at octets ≡ Ok (size_of header, []))) is e

-- a reader after an empty buffer
pub nothing_before : (known : Option (List ℕ)) → prepend_known [] known ≡ known
nothing_before None = refl
nothing_before (Some xs) = refl

pub same_known : (known before : Option (List ℕ)) (P : List ℕ → Type 0) → before ≡ known → Given before P → Given known P
same_known known before P e given = subst (λ (k : Option (List ℕ)). Given k P) e given

-- The law of faults: reading a PBM file answers a fault exactly where it is the first one of the octets.
use Rattle.std.proofs.Common.{◌≡◌, ℕ, zero, suc, ◌<◌, ◌≤◌, Bool, true, ◌⊎◌, List, [], ◌∷◌, ◌++◌, length, Result, Ok, Err, refl}
use Rattle.std.proofs.Common.{sym, ap, subst, ◌∙◌, append_assoc, arith, inl, inr}
use Rattle.std.specs.List.{AllByRecursion, concat}
use Rattle.std.proofs.lemmas.List.{length-append}
use Rattle.raster.specs.declared.fault.RasterFault.{RasterFault}
use Rattle.raster.specs.declared.fault.RasterFault.TheVariants.{NoPages, Io, NoMemory}
use Rattle.raster.specs.Pages.{PagePixels}
use Rattle.raster.specs.Pbm.{FailsOrIo, Follow, AreImages, image_at, images_at, images_of, read_images, ◌>>=◌}
use Rattle.raster.specs.PbmFaults.{BreaksOff, IsOneImage, AfterImages, IsFirstFault, AnswersFirstFault, NamesFirstFault}
use Rattle.raster.proofs.PbmImages.{image_takes, image_again, image_less, image_length, reads_images}
use Rattle.raster.proofs.PbmReading.{images_next_of}
use Rattle.raster.proofs.PbmFaultParts.{image_or_fault, image_breaks, breaks_some}

-- ---- a first fault is what is read

breaks_first : (fine : Bool) (octets : List ℕ) (fault : RasterFault) → BreaksOff fault octets → images_of fine octets ≡ Err fault
unfolding images_at
breaks_first fine [] fault b = absurd (omega (arith, breaks_some [] fault b))
breaks_first fine (octet ∷ octets) fault b = rw (image_breaks fine (octet ∷ octets) fault b) refl

after_images : (fine : Bool) (fault : RasterFault) (images : List (List ℕ)) (rest : List ℕ) → AllByRecursion IsOneImage images
    → BreaksOff fault rest → images_of fine (concat images ++ rest) ≡ Err fault
after_images fine fault [] rest each b = breaks_first fine rest fault b
after_images fine fault (image ∷ images) rest each b =
    let page : PagePixels = record { width = each.0.0; fine = fine; rows = each.0.1 } in
    let tail : List ℕ = concat images ++ rest in
    let first : image_at fine (image ++ tail) ≡ Ok (page, tail) = image_again fine page image tail refl each.0.2 in
    ap (images_of fine) (append_assoc image (concat images) rest) ∙
    (images_next_of fine (image ++ tail) page tail first ∙
    ap (λ (r : Result (List PagePixels) RasterFault). r >>= λ pages. Ok (page ∷ pages)) (after_images fine fault images rest each.1 b))

some_octets : (fault : RasterFault) (images : List (List ℕ)) (rest : List ℕ) → AllByRecursion IsOneImage images
    → BreaksOff fault rest → 0 < length (concat images ++ rest)
some_octets fault [] rest each b = breaks_some rest fault b
some_octets fault (image ∷ images) rest each b =
    let some = image_length each.0.0 each.0.1 image each.0.2 in
    rw append_assoc (omega (arith, some, length-append image (concat images ++ rest)))

read_some : (fine : Bool) (octets : List ℕ) → 0 < length octets → read_images fine octets ≡ images_of fine octets
unfolding read_images
read_some fine [] some = absurd (omega arith)
read_some fine (octet ∷ octets) some = refl

reads_after : (fine : Bool) (octets : List ℕ) (fault : RasterFault) → AfterImages fault octets → read_images fine octets ≡ Err fault
reads_after fine octets fault a =
    ap (read_images fine) a.spelled ∙
    (read_some fine (concat a.images ++ a.rest) (some_octets fault a.images a.rest a.each a.breaks)
    ∙ after_images fine fault a.images a.rest a.each a.breaks)

read_none : (fine : Bool) → read_images fine [] ≡ Err NoPages
unfolding read_images
read_none fine = refl

reads_fault : (fine : Bool) (octets : List ℕ) (fault : RasterFault) → IsFirstFault fault octets → read_images fine octets ≡ Err fault
reads_fault fine octets NoPages is = rw is (read_none fine)
reads_fault fine octets fault is = reads_after fine octets fault is

-- ---- images, or a first fault

first_after : (octets : List ℕ) (fault : RasterFault) → AfterImages fault octets → IsFirstFault fault octets
first_after octets NoPages a = absurd a.breaks
first_after octets fault a = a

abbrev ImagesOrFault : Bool → List ℕ → Type 0
ImagesOrFault fine octets = ((pages : List PagePixels) × Follow fine octets pages) ⊎ ((fault : RasterFault) × AfterImages fault octets)

-- an image in front of images, or of a fault
one_more : (fine : Bool) (octets : List ℕ) (x : PagePixels × List ℕ) → image_at fine octets ≡ Ok x → ImagesOrFault fine x.1
    → ImagesOrFault fine octets
one_more fine octets x e (inl follow) =
    let taken = image_takes fine octets x e in
    inl (x.0 ∷ follow.0, (taken.front, x.1, taken.parts, taken.fine_is, taken.is, follow.1))
one_more fine octets x e (inr after) =
    let taken = image_takes fine octets x e in
    inr (
      after.0,
      record {
        images = taken.front ∷ after.1.images;
        rest = after.1.rest;
        spelled = taken.parts ∙ (ap (λ (xs : List ℕ). taken.front ++ xs) after.1.spelled
            ∙ sym (append_assoc taken.front (concat after.1.images) after.1.rest));
        each = ((x.0.width, x.0.rows, taken.is), after.1.each);
        breaks = after.1.breaks;
      },
    )

images_or_fault : (most : ℕ) (fine : Bool) (octets : List ℕ) → length octets ≤ most → ImagesOrFault fine octets
images_or_fault most fine [] fits = inl ([], refl)
images_or_fault zero fine (octet ∷ octets) fits = absurd (omega arith)
images_or_fault (suc most) fine (octet ∷ octets) fits =
    elim (image_or_fault fine (octet ∷ octets) (omega arith)) [
      | inl image ↦
          let less : length image.0.1 < length (octet ∷ octets) = image_less fine (octet ∷ octets) image.0 image.1 in
          one_more fine (octet ∷ octets) image.0 image.1 (images_or_fault most fine image.0.1 (omega arith))
      | inr fault ↦ inr (
        fault.0,
        record { images = []; rest = octet ∷ octets; spelled = refl; each = tt; breaks = fault.1 },
      )
    ]

some_pages : (fine : Bool) (octet : ℕ) (octets : List ℕ) (pages : List PagePixels) → Follow fine (octet ∷ octets) pages → 0 < length pages
some_pages fine octet octets [] follow = absurd cc
some_pages fine octet octets (page ∷ pages) follow = omega arith

read_or_fault : (fine : Bool) (octets : List ℕ) → ((pages : List PagePixels) × AreImages fine octets pages) ⊎ ((fault : RasterFault)
    × IsFirstFault fault octets)
read_or_fault fine [] = inr (NoPages, refl)
read_or_fault fine (octet ∷ octets) =
    elim (images_or_fault (length (octet ∷ octets)) fine (octet ∷ octets) (omega arith)) [
      | inl follow ↦ inl (follow.0, (some_pages fine octet octets follow.0 follow.1, follow.1))
      | inr fault ↦ inr (fault.0, first_after (octet ∷ octets) fault.0 fault.1)
    ]

-- ---- the law

fault_is : (a b : RasterFault) (read : Result (List PagePixels) RasterFault) → read ≡ Err a → read ≡ Err b → a ≡ b
fault_is a b read e f = let same = sym e ∙ f in cc

no_fault : (fault : RasterFault) (pages : List PagePixels) (read : Result (List PagePixels) RasterFault) → read ≡ Ok pages
    → read ≡ Err fault → ⊥
no_fault fault pages read e f = let wrong = sym e ∙ f in cc

pub fault_first : (fine : Bool) (octets : List ℕ) (fault : RasterFault) → read_images fine octets ≡ Err fault → IsFirstFault fault octets
fault_first fine octets fault e =
    elim (read_or_fault fine octets) [
      | inl pages ↦ absurd (no_fault fault pages.0 (read_images fine octets) ((reads_images fine octets pages.0).1 pages.1) e)
      | inr is ↦
          let same : is.0 ≡ fault = fault_is is.0 fault (read_images fine octets) (reads_fault fine octets is.0 is.1) e in
          subst (λ (f : RasterFault). IsFirstFault f octets) same is.1
    ]

pub names_first_fault : NamesFirstFault
names_first_fault = record {
  named = λ fine octets fault. (fault_first fine octets fault, reads_fault fine octets fault);
  some = read_or_fault;
  none = λ fine octets pages fault are is. no_fault fault pages (read_images fine octets) ((reads_images fine octets pages).1 are)
      (reads_fault fine octets fault is);
  one = λ octets a b is also. fault_is a b (read_images true octets) (reads_fault true octets a is) (reads_fault true octets b also);
}

-- ---- what the public calls say

pub no_first_fault : (fine : Bool) (octets : List ℕ) (pages : List PagePixels) → AreImages fine octets pages → (fault : RasterFault)
    → ¬ IsFirstFault fault octets
no_first_fault fine octets pages are fault is =
    no_fault fault pages (read_images fine octets) ((reads_images fine octets pages).1 are) (reads_fault fine octets fault is)

pub answers_fault : (X : Type 0) (fine : Bool) (octets : List ℕ) (fault : RasterFault) → FailsOrIo fault (read_images fine octets)
    → AnswersFirstFault {X = X} octets (Err fault)
answers_fault X fine octets Io h = tt
answers_fault X fine octets NoMemory h = tt
answers_fault X fine octets fault h = fault_first fine octets fault h

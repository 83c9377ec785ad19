-- What is heard of octets, wherever they are cut.
use Rattle.std.proofs.Common.{◌≡◌, ℕ, List, [], ◌∷◌, ◌++◌, length, drop, refl, ap, sym, ◌∙◌, append_assoc}
use Rattle.std.proofs.Math.Seq.{drop-append_seam}
use Rattle.raster.specs.Laws.{BitsJoin}
use Rattle.raster.specs.Packed.{bits_of}
use Rattle.raster.specs.declared.packed.Order.TheVariants.{LsbFirst}
use Rattle.hdlc.specs.Gaps.{good}
use Rattle.hdlc.specs.Laws.{GoodContentsStay}
use Rattle.signals.specs.Reading.{read_content}
use Rattle.terminals.specs.Hearing.{contents, new_contents, heard, heard_if, CutsChangeNothing}

heard-append : (xs ys : List (List ℕ)) → heard (xs ++ ys) ≡ heard xs ++ heard ys
heard-append [] ys = refl
heard-append (x ∷ xs) ys =
    ap (λ l. heard_if (read_content x) ++ l) (heard-append xs ys) ∙ sym (append_assoc (heard_if (read_content x)) (heard xs) (heard ys))

-- the contents that more octets bring come after those that there are
record Grown (before more : List ℕ) : Type 0 where
  new : List (List ℕ)
  is : contents (before ++ more) ≡ contents before ++ new

grown : BitsJoin → GoodContentsStay → (before more : List ℕ) → Grown before more
unfolding contents
grown join stay before more =
    let stays = stay (bits_of LsbFirst before) (bits_of LsbFirst more) in
    record { new = stays.0; is = ap good (join LsbFirst before more) ∙ stays.1 }

new_are : (before more : List ℕ) (new : List (List ℕ)) → contents (before ++ more) ≡ contents before ++ new → new_contents before more ≡ new
unfolding new_contents
new_are before more new is = ap (drop (length (contents before))) is ∙ drop-append_seam (contents before) new

-- octets that come in two pieces bring the contents of the first and then those of the second
new_in_two : BitsJoin → GoodContentsStay → (before front rest : List ℕ) →
    new_contents before (front ++ rest) ≡ new_contents before front ++ new_contents (before ++ front) rest
new_in_two join stay before front rest =
    let a = grown join stay before front in
    let b = grown join stay (before ++ front) rest in
    new_are before (front ++ rest) (a.new ++ b.new)
    (ap contents (sym (append_assoc before front rest)) ∙
    (b.is ∙ (ap (λ l. l ++ b.new) a.is ∙ append_assoc (contents before) a.new b.new))) ∙
    (ap (λ l. l ++ b.new) (sym (new_are before front a.new a.is)) ∙
    ap (λ l. new_contents before front ++ l) (sym (new_are (before ++ front) rest b.new b.is)))

pub cuts_change_nothing : BitsJoin → GoodContentsStay → CutsChangeNothing
cuts_change_nothing join stay before front rest =
    ap heard (new_in_two join stay before front rest) ∙ heard-append (new_contents before front) (new_contents (before ++ front) rest)

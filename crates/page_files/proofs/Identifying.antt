-- What is tried and written of one way more, and of all ways.
use Rattle.std.proofs.Common.{◌≡◌, ◌<◌, ◌≤◌, ◌+◌, ℕ, List, [], ◌∷◌, ◌++◌, Option, All, length, map, subst, take, get_or, ap, sym, ◌∙◌}
use Rattle.std.proofs.Common.{append_assoc, arith}
use Rattle.std.specs.Prelude.{cond, flat_map}
use Rattle.std.specs.Io.KnownBytes.{Appends}
use Rattle.std.proofs.KnownBytes.{Appends-trans}
use Rattle.std.proofs.lemmas.Grind.{common_steps}
use Rattle.std.proofs.lemmas.List.{flat_map_more, map_more, map_push, take_all, take_more}
use Rattle.std.proofs.lemmas.List.Elements.{All-push}
use Rattle.raster.specs.declared.packed.Order.{Order}
use Rattle.raster.specs.declared.packed.Order.TheVariants.{LsbFirst, MsbFirst}
use Rattle.page_code.specs.declared.Coding.{Coding}
use Rattle.page_code.specs.declared.Coding.TheVariants.{T6}
use Rattle.page_files.specs.Identified.{AreOneDimTried, AreTried, IsTried, SaysOwn, count_of, fits_one, form_in, form_of, forms_in, line_of, lines_of}
use Rattle.page_files.specs.Identified.{own_forms}
use Rattle.page_files.specs.declared.identify.Fit.{Fit}
use Rattle.page_files.specs.declared.identify.Said.{Said}
use Rattle.page_files.specs.declared.identify.Tried.{Tried}
use Rattle.page_files.specs.declared.options.PageForm.{PageForm}

-- the line of one way more
pub line_more : (before now new : Option (List ℕ)) (fit : Fit) (octets : List ℕ) (tried : List Tried) (index : ℕ) (default : Tried)
    → index < length tried → Appends before now (lines_of fit octets (take index tried))
    → Appends now new (line_of fit octets (get_or tried index default)) → Appends before new (lines_of fit octets (take (index + 1) tried))
line_more before now new fit octets tried index default within lines line =
    let more : lines_of fit octets (take (index + 1) tried)
    ≡ lines_of fit octets (take index tried) ++ line_of fit octets (get_or tried index default) =
    ap (λ (l : List Tried). flat_map (line_of fit octets) l) (take_more tried index default within)
    ∙ sym (flat_map_more (line_of fit octets) [] (take index tried) (get_or tried index default)) in
    subst (Appends before new) (sym more) (Appends-trans before now new _ _ lines line)

-- the lines of all ways
pub all_lines : (before now : Option (List ℕ)) (fit : Fit) (octets : List ℕ) (tried : List Tried) (index : ℕ) → length tried ≤ index
    → Appends before now (lines_of fit octets (take index tried)) → Appends before now (lines_of fit octets tried)
all_lines before now fit octets tried index past lines =
    subst (λ (l : List Tried). Appends before now (lines_of fit octets l)) (take_all index tried past) lines

-- the form of one way more
pub form_more : (coding : Coding) (order : Order) (widths : List ℕ) (index default : ℕ) (initial before after : List Tried) (one : Tried)
    → index < length widths → after ≡ before ++ one ∷ [] → one.form ≡ form_in coding order (get_or widths index default)
    → map form_of before ≡ map form_of initial ++ forms_in coding order (take index widths)
    → map form_of after ≡ map form_of initial ++ forms_in coding order (take (index + 1) widths)
form_more coding order widths index default initial before after one within is form known =
    ap (map form_of) is ∙ (map_push form_of before one ∙ (ap (λ (l : List PageForm). l ++ one.form ∷ []) known
    ∙ (append_assoc (map form_of initial) (forms_in coding order (take index widths)) (one.form ∷ [])
    ∙ ap (λ (l : List PageForm). map form_of initial ++ l)
    (ap (λ (f : PageForm). forms_in coding order (take index widths) ++ f ∷ []) form
    ∙ sym (map_more (form_in coding order) widths index default within)))))

-- one way more is tried
pub tried_more : (octets : List ℕ) (before after : List Tried) (one : Tried) → after ≡ before ++ one ∷ [] → IsTried octets one
    → All (IsTried octets) before → All (IsTried octets) after
tried_more octets before after one is tried all =
    subst (λ (l : List Tried). All (IsTried octets) l) (sym is) (All-push (IsTried octets) before one all tried)

-- after no way those of T.4, in both orders: these are its ways
pub one_dim_tried : (widths octets : List ℕ) (msb lsb : Option ℕ) (none first all : List Tried) → none ≡ []
    → SaysOwn MsbFirst octets msb → SaysOwn LsbFirst octets lsb
    → map form_of first ≡ map form_of none ++ own_forms widths MsbFirst msb
    → map form_of all ≡ map form_of first ++ own_forms widths LsbFirst lsb
    → (All (IsTried octets) none → All (IsTried octets) first) → (All (IsTried octets) first → All (IsTried octets) all)
    → AreOneDimTried widths octets all (record { msb = msb; lsb = lsb })
one_dim_tried widths octets msb lsb none first all empty says_msb says_lsb one two each_one each_two =
    let own_msb : List PageForm = own_forms widths MsbFirst msb in
    let own_lsb : List PageForm = own_forms widths LsbFirst lsb in
    let forms_one : map form_of first ≡ own_msb = one ∙ ap (λ (l : List Tried). map form_of l ++ own_msb) empty in
    let no_way : All (IsTried octets) none =
    subst (λ (l : List Tried). All (IsTried octets) l) (sym empty) (λ k d within. absurd (omega (arith, within))) in
    record {
      msb_is = says_msb;
      lsb_is = says_lsb;
      forms_are = two ∙ ap (λ (l : List PageForm). l ++ own_lsb) forms_one;
      each = each_two (each_one no_way);
    }

-- after those of T.4 those of T.6, in both orders: these are all ways
pub all_tried : (widths octets : List ℕ) (own : Said) (first second all : List Tried) → AreOneDimTried widths octets first own
    → map form_of second ≡ map form_of first ++ forms_in T6 MsbFirst widths
    → map form_of all ≡ map form_of second ++ forms_in T6 LsbFirst widths
    → (All (IsTried octets) first → All (IsTried octets) second) → (All (IsTried octets) second → All (IsTried octets) all)
    → AreTried widths octets all own
all_tried widths octets own first second all are two three each_two each_three =
    let own_msb : List PageForm = own_forms widths MsbFirst own.msb in
    let own_lsb : List PageForm = own_forms widths LsbFirst own.lsb in
    let t6_msb : List PageForm = forms_in T6 MsbFirst widths in
    let t6_lsb : List PageForm = forms_in T6 LsbFirst widths in
    let forms_two : map form_of second ≡ (own_msb ++ own_lsb) ++ t6_msb = two ∙ ap (λ (l : List PageForm). l ++ t6_msb) are.forms_are in
    record {
      msb_is = are.msb_is;
      lsb_is = are.lsb_is;
      forms_are = three ∙ (ap (λ (l : List PageForm). l ++ t6_lsb) forms_two ∙ (append_assoc (own_msb ++ own_lsb) t6_msb t6_lsb
          ∙ append_assoc own_msb own_lsb (t6_msb ++ t6_lsb)));
      each = each_three (each_two are.each);
    }

-- how many ways fit, with one more
pub count_more : (fit : Fit) (octets : List ℕ) (tried : List Tried) (index : ℕ) (default : Tried) → index < length tried
    → count_of fit octets (take (index + 1) tried)
    ≡ count_of fit octets (take index tried) + cond (fits_one fit octets (get_or tried index default)) 1 0
count_more fit octets tried index default within =
    ap (count_of fit octets) (take_more tried index default within) ∙ push (take index tried)
  where
    push : (before : List Tried)
        → count_of fit octets (before ++ get_or tried index default ∷ [])
        ≡ count_of fit octets before + cond (fits_one fit octets (get_or tried index default)) 1 0
    push [] = grind (arith, common_steps)
    push (one ∷ more) = let later = push more in grind (arith, common_steps, later)

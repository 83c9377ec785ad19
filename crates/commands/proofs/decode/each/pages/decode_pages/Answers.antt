-- What the check asks of `decode_pages`.
use Rattle.std.proofs.Common.{◌≡◌, ◌∙◌, ◌++◌, ◌+◌, ℕ, List, add-one, ap, append_assoc, arith, inl, inr, refl, subst, sym}
use Rattle.std.specs.Prelude.{Bool}
use Rattle.commands.specs.Each.{ArePagesTo, is_silent}
use Rattle.commands.specs.Pages.{GoesOn, IsPageReport, broken_line, file_end, have_damage, page_lines}
use Rattle.commands.specs.declared.decode.each.facts.PageFacts.{PageFacts}
use Rattle.page_files.specs.LaterPages.{asks_damaged}
use Rattle.page_files.specs.declared.options.PageForm.{PageForm}
use Rattle.commands.specs.declared.decode.each.pages.Next.{Next}
use Rattle.commands.specs.declared.decode.each.pages.Next.TheVariants.{Page}
use Rattle.commands.proofs.decode.each.pages.decode_pages.Goals as goal

pub loop-before-preserved : goal.loop-before-preserved
loop-before-preserved c =
    let options = c.args.of.options in
    let form = c.args.way.form in
    let middle = c.loop-before.left.octets in
    let later = c.next_page.new.left.octets in
    let page = c.decode_one-page.result in
    let is_page : IsPageReport options form middle page =
    subst (λ (f : PageForm). IsPageReport options f middle page) c.loop-before.invariant.form c.decode_one-page.ensures.report in
    let mends = asks_damaged options in
    let as_asked : GoesOn mends c.loop-before.left.form middle later page.facts.end c.in_ok-next.next =
    subst (λ (m : Bool). GoesOn m c.loop-before.left.form middle later page.facts.end c.in_ok-next.next) c.asks_damaged-mends.ensures
    c.in_ok-next.ensures.next in
    let found : GoesOn mends form middle later page.facts.end c.in_ok-next.next =
    subst (λ (f : PageForm). GoesOn mends f middle later page.facts.end c.in_ok-next.next) c.loop-before.invariant.form as_asked in
    let goes : GoesOn mends form middle later page.facts.end Page =
    subst (λ (n : Next). GoesOn mends form middle later page.facts.end n) c.in-Page.is found in
    let number = c.loop-before.before + 1 in
    let lines : c.add_page.new.lines.items ≡ c.loop-before.told.items ++ page_lines number page.told.items =
    subst (λ (t : List ℕ). c.add_page.new.lines.items ≡ c.loop-before.told.items ++ page_lines number t)
    c.as_slice.ensures.value c.in_ok-add_page.ensures.told in
    let told : c.add_broken.new.lines.items
    ≡ c.loop-before.told.items ++ (page_lines number page.told.items ++ broken_line number page.facts.end) =
    c.in_ok-add_broken.ensures.told ∙ (ap (λ (t : List ℕ). t ++ broken_line number page.facts.end) lines
    ∙ append_assoc c.loop-before.told.items (page_lines number page.told.items) (broken_line number page.facts.end)) in
    record {
      form = c.in_ok-next.ensures.form ∙ c.loop-before.invariant.form;
      used = tt;
      found = tt;
      pages = subst (λ (n : ℕ). ArePagesTo options form c.args.read.items n later c.add_facts.new.pages.items c.add_broken.new.lines.items
          c.both-are_complete.result) (sym (add-one c.loop-before.before)) (
            middle,
            c.loop-before.told.items,
            c.loop-before.pages.items,
            c.loop-before.are_complete,
            page,
            c.loop-before.invariant.pages,
            is_page,
            goes,
            c.in_ok-add_facts.ensures,
            told,
            c.both-are_complete.ensures,
          );
    }

pub returns-in_default-clause-report : goal.returns-in_default-clause-report
returns-in_default-clause-report c =
    let options = c.args.of.options in
    let form = c.args.way.form in
    let last = c.loop-before.left.octets in
    let later = c.next_page.new.left.octets in
    let number = c.loop-before.before + 1 in
    let page = c.decode_one-page.result in
    let next = c.in_ok-next.next in
    inl (record {
      before = c.loop-before.before;
      last = last;
      others = c.loop-before.pages.items;
      lines = c.loop-before.told.items;
      complete = c.loop-before.are_complete;
      pages = c.loop-before.invariant.pages;
      page = page;
      is_page = subst (λ (f : PageForm). IsPageReport options f last page) c.loop-before.invariant.form c.decode_one-page.ensures.report;
      later = later;
      after = next;
      goes_on = subst (λ (f : PageForm). GoesOn (asks_damaged options) f last later page.facts.end next) c.loop-before.invariant.form
          (subst (λ (m : Bool). GoesOn m c.loop-before.left.form last later page.facts.end next) c.asks_damaged-mends.ensures
          c.in_ok-next.ensures.next);
      is_last = c.in_default.not-Page;
      pages_are = c.in_ok-add_facts.ensures;
      told_is = subst (λ (t : List ℕ). c.add_page.new.lines.items ≡ c.loop-before.told.items ++ page_lines number t)
          c.as_slice.ensures.value c.in_ok-add_page.ensures.told;
      complete_is = c.both-are_complete.ensures;
      end_is = c.file_end-end.ensures
          ∙ (ap (λ (d : Bool). file_end number d c.is_silent.result page.facts.end next)
          (c.have_damage-is_damaged.ensures ∙ ap (λ (l : List PageFacts). have_damage l) c.as_slice-in_default.ensures.value)
          ∙ ap (λ (s : Bool). file_end number (have_damage c.add_facts.new.pages.items) s page.facts.end next)
          (c.is_silent.ensures ∙ ap (λ (l : List ℕ). is_silent l) c.as_slice-in_default-2.ensures.value));
    })

pub returns-clause-report : goal.returns-clause-report
returns-clause-report c =
    let all : c.loop-before.before ≡ c.args.of.most = omega (arith, c.loop-before-test.false, c.loop-before.auto.before-end) in
    inr (record {
      later = c.loop-before.left.octets;
      complete = c.loop-before.are_complete;
      pages = subst (λ (n : ℕ). ArePagesTo c.args.of.options c.args.way.form c.args.read.items n c.loop-before.left.octets c.loop-before.pages.items
          c.loop-before.told.items c.loop-before.are_complete) all c.loop-before.invariant.pages;
      end_is = refl;
      lacks = refl;
    })

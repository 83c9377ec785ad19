use Rattle.std.proofs.Common.{◌≡◌, length, true, nat_lt, arith, sym, ◌∙◌, ap, min}
use Rattle.std.proofs.lemmas.Bool.{lt-ltb}
use Rattle.hdlc.specs.declared.counts.Class.TheVariants.{Good}
use Rattle.hdlc.specs.Contents.{contents_of}
use Rattle.hdlc.specs.Gaps.{class_of, is_class}
use Rattle.hdlc.proofs.DeframerPartsLemmas.{good_only, good_closes, contents_push}
use Rattle.hdlc.proofs.flag_finder.close.Goals as goal

pub returns-clause-ok : goal.returns-clause-ok
returns-clause-ok c bits old =
    let seen : c.args.gap.now.seen ≡ min 8 (length bits) = old.seen in
    let long : nat_lt 7 (length bits) ≡ true = lt-ltb 7 (length bits) (omega arith) in
    let class : c.class-class.result ≡ class_of bits = c.class-class.ensures bits old in
    let fine : is_class Good (class_of bits) ≡ true = ap (is_class Good) (sym class) ∙ (sym c.is_good.ensures ∙ c.if-not-is_good.false) in
    let is : class_of bits ≡ Good = good_only (class_of bits) fine in
    good_closes bits (contents_of c.args.queue.now.items) (contents_of c.push_back.new.self.items) c.extend_from_slice.new.self.items
    (nat_lt 7 (length bits)) (is_class Good (class_of bits)) long fine
    (ap contents_of c.in_ok-push_back.ensures.items ∙ contents_push c.args.queue.now.items c.extend_from_slice.new.self)
    (c.in_ok-extend_from_slice.ensures.items ∙ (rw c.new-octets.ensures.items (c.content.ensures bits old is)))

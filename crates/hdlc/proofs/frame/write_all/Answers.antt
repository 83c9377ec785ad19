use Rattle.std.proofs.Common.{◌≡◌, ◌∷◌, [], ◌%◌, ◌/◌, arith, ap, ◌∙◌}
use Rattle.raster.specs.Packed.{Bits}
use Rattle.raster.proofs.OctetLemmas.{are_octets}
use Rattle.hdlc.proofs.FrameLemmas.{whole_frame}
use Rattle.hdlc.proofs.WritingOctets.{writes_first}
use Rattle.hdlc.proofs.frame.write_all.Goals as goal

pub returns-clause-ok : goal.returns-clause-ok
returns-clause-ok c =
    let high : c.fcs.result / 256 % 256 ≡ c.fcs.result / 256 = omega arith in
    let first = writes_first c.args.writer.now.bits c.write_flag.new.writer.bits c.new.result c.new.ensures
    (ap (λ (w : Bits). w.bits) c.in_ok-write_flag.ensures.ok) in
    let last = c.in_ok-last.ensures.ok c.args.writer.now.bits _ (c.in_ok-first.ensures.ok c.args.writer.now.bits [] first) in
    whole_frame c.args.writer.now.bits c.write.new.writer.bits c.write_flag-2.new.writer.bits c.args.content.now
    c.write_u16.new.buf c.in_ok-last.last.ones c.fcs.result
    (rw c.in_ok-_none.ensures.ok.1 last)
    (ap (λ (w : Bits). w.bits) c.in_ok-write_flag-2.ensures.ok) c.fcs.ensures (omega arith) (c.write_u16.ensures
    ∙ ap (λ n. c.fcs.result % 256 ∷ n ∷ []) high)
    (are_octets c.args.content.now (λ k. omega (arith, c.type_inv.content k))) c.requires.least c.requires.most

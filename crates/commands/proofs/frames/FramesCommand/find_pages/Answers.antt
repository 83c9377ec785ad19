-- What the check asks of `find_pages`.
use Rattle.std.specs.Prelude.{None, false, true}
use Rattle.hdlc.specs.Gaps.{good}
use Rattle.raster.specs.Packed.{bits_of}
use Rattle.commands.specs.Captured.{StoresCaptured}
use Rattle.commands.proofs.Given.{found_in}
use Rattle.commands.proofs.frames.FramesCommand.find_pages.Goals as goal

pub returns-then-self-clause-found : goal.returns-then-self-clause-found
returns-then-self-clause-found g c =
    let command = c.args.self.now in
    rw c.if-self.true (found_in command c.salvage_pages_engine.result None None (g.W.Write.contents c.args.writer.now)
    (g.W.Write.contents c.salvage_pages_engine.new.writer)
    (λ octets. StoresCaptured true (good (bits_of command.order octets)) c.args.store.now c.salvage_pages_engine.new.store)
    (rw c.how.ensures at c.salvage_pages_engine.ensures.given))

pub returns-else-self-clause-found : goal.returns-else-self-clause-found
returns-else-self-clause-found g c =
    let command = c.args.self.now in
    rw c.if-self.false (found_in command c.pages_engine.result None None (g.W.Write.contents c.args.writer.now)
    (g.W.Write.contents c.pages_engine.new.writer)
    (λ octets. StoresCaptured false (good (bits_of command.order octets)) c.args.store.now c.pages_engine.new.store)
    (rw c.how-else-self.ensures at c.pages_engine.ensures.given))

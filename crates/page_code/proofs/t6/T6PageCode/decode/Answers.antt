-- What the check asks of `decode`.
use Rattle.raster.specs.Packed.{bits_of}
use Rattle.page_code.specs.Codings.{read_rows}
use Rattle.page_code.specs.TwoDimensions.Modes.{ReadsAsPage}
use Rattle.page_code.specs.TwoDimensions.Fronts.{read_page}
use Rattle.page_code.specs.TwoDimensions.Laws.{IsLongestFront}
use Rattle.page_code.proofs.GivesPage.{gives_only, gives_reads, gives_refuses, gives_rows}
use Rattle.page_code.proofs.TwoDimensions.Laws.{reads_pages_exactly, refuses_no_page, refuses_at_longest}
use Rattle.page_code.proofs.t6.T6PageCode.decode.Goals as goal

pub returns-clause-reads : goal.returns-clause-reads
unfolding read_rows
returns-clause-reads c =
    gives_reads ReadsAsPage IsLongestFront read_page reads_pages_exactly refuses_no_page refuses_at_longest c.args.width c.args.fine
    (bits_of
    c.args.order c.args.octets.now) c.decode_in.result c.requires c.decode_in.ensures.gives

pub returns-clause-only : goal.returns-clause-only
unfolding read_rows
returns-clause-only c =
    gives_only ReadsAsPage IsLongestFront read_page reads_pages_exactly refuses_no_page refuses_at_longest c.args.width c.args.fine (bits_of
    c.args.order c.args.octets.now) c.decode_in.result c.requires c.decode_in.ensures.gives

pub returns-clause-refuses : goal.returns-clause-refuses
unfolding read_rows
returns-clause-refuses c =
    gives_refuses ReadsAsPage IsLongestFront read_page reads_pages_exactly refuses_no_page refuses_at_longest c.args.width c.args.fine
    (bits_of
    c.args.order c.args.octets.now) c.decode_in.result c.requires c.decode_in.ensures.gives

pub returns-clause-gives : goal.returns-clause-gives
unfolding read_rows
returns-clause-gives c = gives_rows (read_page c.args.width (bits_of c.args.order c.args.octets.now)) c.args.width c.args.fine
    c.decode_in.result c.decode_in.ensures.gives

-- What the check asks of `new`.
use Rattle.std.proofs.Common.{refl}
use Rattle.captures.specs.Contents.{ContentReading}
use Rattle.captures.proofs.Contents.{none_read}
use Rattle.captures.proofs.content_reader.ContentReader.new.Goals as goal

pub returns-clause-begins : goal.returns-clause-begins
returns-clause-begins c line =
    let reader : ContentReading = record {
      order = c.args.order;
      deframer = c.new-deframer.result;
      content = c.new-content.result.items;
      octets = 0;
    } in
    none_read reader line c.new-deframer.ensures refl

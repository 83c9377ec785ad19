-- What the check asks of `advance`.
use Rattle.std.proofs.Common.{◌≡◌, [], ◌∙◌, ap, false, rules, sym, subst, refl, true}
use Rattle.captures.specs.Contents.{ContentReading, GivesNext, HasRead, ReadsPiece}
use Rattle.captures.proofs.Contents.{all_given, emptied, none_more, nothing_waits, read_so, read_then, waiting_given}
use Rattle.captures.proofs.content_reader.ContentReader.advance.Goals as goal

pub returns-then-waited-clause-next : goal.returns-then-waited-clause-next
returns-then-waited-clause-next g c =
    let at = g.R.Read.remaining c.loop-read.reader in
    let old : ContentReading = record {
      order = c.self.inside.order;
      deframer = c.self.inside.deframer;
      content = c.self.inside.content.items;
      octets = c.self.inside.octets;
    } in
    let new : ContentReading = record {
      order = c.self.inside.order;
      deframer = c.take_waiting.new.deframer;
      content = c.take_waiting.new.content.items;
      octets = c.self.inside.octets;
    } in
    read_then c.args.self.now c.loop-read.self (g.R.Read.remaining c.args.reader.now) at at (GivesNext true new) c.loop-read.invariant.0
    (none_more c.loop-read.self new at (GivesNext true new) (λ line left coming read. waiting_given old new line left coming
    (subst (λ (r : ContentReading). HasRead r line left coming) (sym c.self.view_is) read)
    (c.in_ok-waited.ensures.some c.if-waited.true) c.in_ok-waited.ensures.left refl refl))

pub returns-then-not-more-clause-next : goal.returns-then-not-more-clause-next
returns-then-not-more-clause-next g c =
    let at = g.R.Read.remaining c.loop-read.reader in
    let old : ContentReading = record {
      order = c.self.inside.order;
      deframer = c.self.inside.deframer;
      content = c.self.inside.content.items;
      octets = c.self.inside.octets;
    } in
    let new : ContentReading = record {
      order = c.self.inside.order;
      deframer = c.take_waiting.new.deframer;
      content = c.take_waiting.new.content.items;
      octets = c.self.inside.octets;
    } in
    let none = c.in_ok-waited.ensures.none c.if-waited.false in
    let end = c.in_ok-more.ensures.end c.if-not-more.true in
    let waits : ReadsPiece c.loop-read.self at at (HasRead new) =
    none_more c.loop-read.self new at (HasRead new) (λ line left coming read. nothing_waits old new line left coming
    (subst (λ (r : ContentReading). HasRead r line left coming) (sym c.self.view_is) read) none c.in_ok-waited.ensures.left refl refl) in
    let empty : c.fill.new.self.deframer.queue ≡ [] =
    ap (λ (r : ContentReading). r.deframer.queue) end.1 ∙ emptied old new none c.in_ok-waited.ensures.left in
    let filled = c.fill.new.self in
    let rest = g.R.Read.remaining c.fill.new.reader in
    read_then c.args.self.now c.loop-read.self (g.R.Read.remaining c.args.reader.now) at rest (GivesNext false filled) c.loop-read.invariant.0
    (read_then c.loop-read.self new at at rest (GivesNext false filled) waits
    (read_so new at rest (HasRead filled) (GivesNext false filled) c.in_ok-more.ensures.stands
    (λ line left coming read. all_given filled line left coming read empty)))

pub loop-read-init : goal.loop-read-init
loop-read-init g c =
    let at = g.R.Read.remaining c.args.reader.now in
    (none_more c.args.self.now c.args.self.now at (HasRead c.args.self.now) (λ line left coming read. read), refl)

pub loop-read-preserved : goal.loop-read-preserved
loop-read-preserved g c =
    let at = g.R.Read.remaining c.loop-read.reader in
    let old : ContentReading = record {
      order = c.self.inside.order;
      deframer = c.self.inside.deframer;
      content = c.self.inside.content.items;
      octets = c.self.inside.octets;
    } in
    let new : ContentReading = record {
      order = c.self.inside.order;
      deframer = c.take_waiting.new.deframer;
      content = c.take_waiting.new.content.items;
      octets = c.self.inside.octets;
    } in
    let none = c.in_ok-waited.ensures.none c.if-waited.false in
    let waits : ReadsPiece c.loop-read.self at at (HasRead new) =
    none_more c.loop-read.self new at (HasRead new) (λ line left coming read. nothing_waits old new line left coming
    (subst (λ (r : ContentReading). HasRead r line left coming) (sym c.self.view_is) read) none c.in_ok-waited.ensures.left refl refl) in
    let filled = c.fill.new.self in
    let rest = g.R.Read.remaining c.fill.new.reader in (
      read_then c.args.self.now c.loop-read.self (g.R.Read.remaining c.args.reader.now) at rest (HasRead filled) c.loop-read.invariant.0
          (read_then c.loop-read.self new at at rest (HasRead filled) waits c.in_ok-more.ensures.stands),
      search rules,
    )

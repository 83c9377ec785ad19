-- What the check asks of `keep`.
use Rattle.std.proofs.Common.{rules, true, false, ◌≡◌, ◌∙◌, refl, subst, sym}
use Rattle.std.specs.Prelude.{◌&&◌, is_none}
use Rattle.station_commands.specs.Folders.{BeginsLine, is_full, late_by, params_of}
use Rattle.conversations.specs.Refusing.{gap_in}
use Rattle.station_commands.specs.declared.station.folder.Folder.{Folder}
use Rattle.station_commands.proofs.station.folder.FolderKeeperLimitedAnswerer.keep.Goals as goal
use Rattle.station_commands.proofs.station.folder.FolderKeeperLimitedAnswerer.keep.Goals.{else-is_none-via-then-is_none+else-is_late}
use Rattle.station_commands.proofs.station.folder.FolderKeeperLimitedAnswerer.keep.Goals.{else-is_none-via-else-is_none}

pub returns-then-is_full : goal.returns-then-is_full
returns-then-is_full c =
    let at : c.clock.result.now ≡ c.args.conversation.now.clock.now = search rules in
    let params : c.peer-self.result ≡ params_of c.args.conversation.now = search rules in
    let last = c.keep_by-refused.new.self in
    let full : is_full last.stopped ≡ true = sym c.is_full.ensures ∙ c.if-is_full.true in
    record {
      first = c.tell_gap.new.self;
      begins = subst (λ (f : Folder). BeginsLine c.args.conversation.now.clock.now (params_of c.args.conversation.now)
          (gap_in c.args.conversation.now.watch) c.args.self.now f) (sym c.tell_gap.ensures) (rw (at, params, c.gap.ensures) refl, c.clear.ensures.bytes);
      last = last;
      mid = c.keep_by-refused.new.conversation;
      all = is_none c.keep_by-refused.result;
      keeps = c.keep_by-refused.ensures;
      kept_is = rw full refl;
      stops = rw full refl;
      same = refl;
    }

pub returns-then-is_late : goal.returns-then-is_late
returns-then-is_late c =
    let at : c.clock.result.now ≡ c.args.conversation.now.clock.now = search rules in
    let params : c.peer-self.result ≡ params_of c.args.conversation.now = search rules in
    let last = c.keep_by-refused.new.self in
    let mid = c.keep_by-refused.new.conversation in
    let room : is_full last.stopped ≡ false = sym c.is_full.ensures ∙ c.if-is_full.false in
    let kept : is_none c.keep_by-refused.result ≡ true = search rules in
    let late : mid.watch.late ≡ true = search rules in
    let by : c.late_by-by.result ≡ late_by mid.watch.given_up = search rules in
    record {
      first = c.tell_gap.new.self;
      begins = subst (λ (f : Folder). BeginsLine c.args.conversation.now.clock.now (params_of c.args.conversation.now)
          (gap_in c.args.conversation.now.watch) c.args.self.now f) (sym c.tell_gap.ensures) (rw (at, params, c.gap.ensures) refl, c.clear.ensures.bytes);
      last = last;
      mid = mid;
      all = is_none c.keep_by-refused.result;
      keeps = c.keep_by-refused.ensures;
      kept_is = rw (room, kept) refl;
      stops = rw (room, kept, late, ← by) c.stop_for.ensures;
      same = refl;
    }

pub returns : goal.returns
returns c =
    let at : c.clock.result.now ≡ c.args.conversation.now.clock.now = search rules in
    let params : c.peer-self.result ≡ params_of c.args.conversation.now = search rules in
    let last = c.keep_by-refused.new.self in
    let mid = c.keep_by-refused.new.conversation in
    let room : is_full last.stopped ≡ false = sym c.is_full.ensures ∙ c.if-is_full.false in
    let late : (is_none c.keep_by-refused.result && mid.watch.late) ≡ false = elim c.else-is_none.branch [
      | else-is_none-via-then-is_none+else-is_late w ↦
          let early : mid.watch.late ≡ false = search rules in
          rw early search rules
      | else-is_none-via-else-is_none w ↦
          let none : is_none c.keep_by-refused.result ≡ false = search rules in
          rw none refl
    ] in
    record {
      first = c.tell_gap.new.self;
      begins = subst (λ (f : Folder). BeginsLine c.args.conversation.now.clock.now (params_of c.args.conversation.now)
          (gap_in c.args.conversation.now.watch) c.args.self.now f) (sym c.tell_gap.ensures) (rw (at, params, c.gap.ensures) refl, c.clear.ensures.bytes);
      last = last;
      mid = mid;
      all = is_none c.keep_by-refused.result;
      keeps = c.keep_by-refused.ensures;
      kept_is = rw room refl;
      stops = rw (room, late) c.note_lost.ensures;
      same = refl;
    }

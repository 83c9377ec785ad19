use Rattle.std.proofs.Common.{ℕ, List, ◌≡◌, ◌<◌, ◌≤◌, ◌+◌, ◌-◌, ◌/◌, ◌%◌, ◌++◌, arith, drop, length, take}
use Rattle.std.proofs.lemmas.List.{length-drop, length-take}
use Rattle.page_code.proofs.PassedRows.{joined_after, joined_size, passed_taken}
use Rattle.page_code.proofs.RowReaders.{takes}
use Rattle.page_code.proofs.TwoDimensions.OpenLines.{open_taken}
use Rattle.page_code.proofs.page_rows.RowReader.push_octets.Goals as goal
use Rattle.page_code.proofs.page_rows.RowReader.push_octets.Goals.{then-octets-room, else-octets-room}

pub invariant_of-self-2 : goal.invariant_of-self-2
invariant_of-self-2 c =
    let up : ℕ = c.self.inside.place.at / 8 in
    let held : List ℕ = drop c.self.inside.gone c.self.inside.held.items in
    let more : List ℕ = take c.if-octets-room.count c.args.octets.now in
    let now : List ℕ = drop c.in_ok-self-inside.field-0 c.append.new.held.items in
    let within : up ≤ length held = omega (arith, c.self.invariant.within) in
    let joined : now ≡ drop up held ++ more = joined_after c.self.inside.held.items c.self.inside.gone up now more
    c.in_ok-self-inside.ensures.joined in
    let size : length now ≡ length held - up + length more = joined_size held up now more joined in
    let all : length held ≡ length c.self.inside.held.items - c.self.inside.gone = length-drop c.self.inside.gone c.self.inside.held.items
    in
    let room : length held - up + c.if-octets-room.count ≤ 65536 = elim c.if-octets-room.branch [
      | then-octets-room w ↦ omega (arith, w.count-is, w.if-octets-room, all, within, c.self.invariant.gone, c.self.invariant.few)
      | else-octets-room w ↦ omega (arith, w.count-is, w.if-octets-room, all, within, c.self.invariant.gone, c.self.invariant.few)
    ] in
    let fits : length now ≤ 65536 = omega (arith, size, room, length-take c.if-octets-room.count c.args.octets.now) in record {
      width = c.self.invariant.width;
      rows = c.self.invariant.rows;
      gone = c.in_ok-self-inside.ensures.within;
      within = omega (arith, size, within, c.self.invariant.within);
      few = fits;
      start = omega (arith, c.self.invariant.start);
      passed = passed_taken c.self.inside.order c.self.inside.place held now more up (c.self.inside.place.at % 8) c.self.inside.lists.passed
          joined within (omega arith) c.self.invariant.within c.self.invariant.passed;
      begun = open_taken c.self.inside.order held now more up c.self.inside.place.at (c.self.inside.place.at % 8) c.self.inside.lists.begun
          joined within (omega arith) c.self.invariant.within c.self.invariant.begun;
    }

pub returns-clause-takes : goal.returns-clause-takes
returns-clause-takes c =
    let up : ℕ = c.self.inside.place.at / 8 in
    let held : List ℕ = drop c.self.inside.gone c.self.inside.held.items in
    let octets : List ℕ = c.args.octets.now in
    let count : ℕ = c.if-octets-room.count in
    let now : List ℕ = drop c.in_ok-self-inside.field-0 c.append.new.held.items in
    let within : up ≤ length held = omega (arith, c.self.invariant.within) in
    let joined : now ≡ drop up held ++ take count octets = joined_after c.self.inside.held.items c.self.inside.gone up now (take count
    octets) c.in_ok-self-inside.ensures.joined in
    let all : length held ≡ length c.self.inside.held.items - c.self.inside.gone = length-drop c.self.inside.gone c.self.inside.held.items
    in
    let few : count ≤ length octets = elim c.if-octets-room.branch [
      | then-octets-room w ↦ omega (arith, w.count-is)
      | else-octets-room w ↦ omega (arith, w.count-is, w.if-octets-room)
    ] in
    let full : count < length octets → length held - up + count ≡ 65536 = elim c.if-octets-room.branch [
      | then-octets-room w ↦ λ less. absurd (omega (arith, w.count-is, less))
      | else-octets-room w ↦ λ less. omega (arith, w.count-is, w.if-octets-room, all, within, c.self.invariant.gone, c.self.invariant.few)
    ] in
    let room : length held - up + count ≤ 65536 = elim c.if-octets-room.branch [
      | then-octets-room w ↦ omega (arith, w.count-is, w.if-octets-room, all, within, c.self.invariant.gone, c.self.invariant.few)
      | else-octets-room w ↦ omega (arith, w.count-is, w.if-octets-room, all, within, c.self.invariant.gone, c.self.invariant.few)
    ] in
    let size : length now ≡ length held - up + count = omega (
      arith,
      joined_size held up now (take count octets) joined,
      length-take count octets,
      few,
    ) in
    rw (← c.self.view_is) (takes c.self.inside.coding c.self.inside.order c.self.inside.place c.self.inside.lists.begun.lines.reference
    c.self.inside.start held octets count up (c.self.inside.place.at % 8) now within (omega arith) joined few
    (λ less. omega (arith, size, full less)) (omega (arith, size, room)))

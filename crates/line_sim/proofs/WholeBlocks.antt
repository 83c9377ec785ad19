-- A block is accepted exactly if each of its frames is open.
use Rattle.std.proofs.Common.{◌≡◌, ◌≢◌, ℕ, suc, ◌+◌, ◌⊎◌, inl, inr, option_map, true, false, List, ◌∷◌, ◌++◌, drop, Option, Some, None}
use Rattle.std.proofs.Common.{refl, sym, ap, subst, ◌∙◌}
use Rattle.std.specs.Prelude.{slice_get, ◌↔◌}
use Rattle.raster.specs.Pages.{PagePixels}
use Rattle.signals.specs.Signals.{pps}
use Rattle.signals.specs.declared.signal.PageEnd.{PageEnd}
use Rattle.signals.specs.declared.signal.PageEnd.TheVariants.{Null, Mps, Eom, Eop}
use Rattle.partial_page.specs.Store.{joined_frames}
use Rattle.stations.specs.Layers.{Document, page_read, within_page_limit}
use Rattle.stations.specs.Blocks.{Block, mark_of, last_frame_of, joined, open_before}
use Rattle.stations.specs.Inputs.{listens, PlainItem}
use Rattle.stations.specs.Laws.{Each}
use Rattle.stations.specs.CallerStep.{Caller, blocks_of, pps_of}
use Rattle.stations.specs.AnswererStep.{Answerer, AnswererAnswer, is_repeated, stores, takes_block, judges_block, answers_pps}
use Rattle.partial_page.specs.Assembling.{all_there}
use Rattle.stations.specs.AnswererStep.{answerer_table, unless_answerer_ended, answerer_step, answerer_items}
use Rattle.stations.specs.declared.turn.AnswererState.{AnswererState}
use Rattle.stations.specs.declared.turn.Turn.{Turn}
use Rattle.stations.specs.declared.turn.AnswererState.TheVariants.{Message}
use Rattle.stations.specs.declared.turn.Turn.TheVariants.{Silent}
use Rattle.line_sim.specs.Line.{World, answerer_sends, delivers_to_answerer, happens, new_world, run}
use Rattle.line_sim.specs.declared.event.Event.TheVariants.{DeliverToAnswerer}
use Rattle.line_sim.specs.Line.Outcome.{Done}
use Rattle.line_sim.specs.LineFacts.{accepted_of, accepted_at, HoldsAll, IsOneGroup, Alike, StationFacts, MayReachAnswerer, LineFacts}
use Rattle.line_sim.specs.Headline.{Promised, WholeBlocksAccepted}
use Rattle.line_sim.proofs.Lists.{either}
use Rattle.stations.proofs.Progress.{BlockFits, block_fits, place_before}
use Rattle.line_sim.proofs.Marks.{same_mark_refl, not_repeated}
use Rattle.line_sim.proofs.Stores.{HoldsOnly, whole_holds_all, holds_all_whole, joined_is}
use Rattle.line_sim.proofs.CallerKeeps.{drop_some, phase_sending}
use Rattle.line_sim.proofs.AnswererKeeps.{counted}
use Rattle.line_sim.proofs.LineKeeps.{happens_keeps, new_world_facts, run_keeps}
use Rattle.line_sim.proofs.WholeRuns.{beginning}

-- a block that is whole is accepted
stored_is_accepted :
    (s : Answerer) (block : Block) (page : Option PagePixels) (p : PagePixels) → page ≡ Some p →
    (stores s block.ends (mark_of block) page).next.accepted ≡ Some (accepted_of block)
stored_is_accepted s block None p e = cc
stored_is_accepted s block (Some page) p e = refl

taken_is_accepted :
    (s : Answerer) (document : Document) (block : Block) (ends : PageEnd) (pages place : ℕ) (octets : List ℕ) → block.ends ≡ ends →
    s.params ≡ block.params →
    BlockFits document block pages place octets → (takes_block s ends (mark_of block) (octets ++ joined block.frames)).next.accepted ≡
    Some (accepted_of block)
taken_is_accepted s document block Null pages place octets e same fits =
    either (λ (answer : AnswererAnswer). answer.next.accepted ≡ Some (accepted_of block))
    (within_page_limit (octets ++ joined block.frames)) _ _
    (λ h. rw e refl)
    (λ h. (let long : within_page_limit (octets ++ joined block.frames) ≡ true = fits.long e in let not : true ≡ false = sym long ∙ h in
    cc))
taken_is_accepted s document block Mps pages place octets e same fits =
    let reads = fits.read (rw e refl) in
    subst (λ ends. (stores s ends (mark_of block) (page_read s.params (octets ++ joined block.frames))).next.accepted ≡
    Some (accepted_of block)) e
    (stored_is_accepted s block (page_read s.params (octets ++ joined block.frames)) reads.0
    (ap (λ p. page_read p (octets ++ joined block.frames)) same ∙ reads.2))
taken_is_accepted s document block Eom pages place octets e same fits =
    let reads = fits.read (rw e refl) in
    subst (λ ends. (stores s ends (mark_of block) (page_read s.params (octets ++ joined block.frames))).next.accepted ≡
    Some (accepted_of block)) e
    (stored_is_accepted s block (page_read s.params (octets ++ joined block.frames)) reads.0
    (ap (λ p. page_read p (octets ++ joined block.frames)) same ∙ reads.2))
taken_is_accepted s document block Eop pages place octets e same fits =
    let reads = fits.read (rw e refl) in
    subst (λ ends. (stores s ends (mark_of block) (page_read s.params (octets ++ joined block.frames))).next.accepted ≡
    Some (accepted_of block)) e
    (stored_is_accepted s block (page_read s.params (octets ++ joined block.frames)) reads.0
    (ap (λ p. page_read p (octets ++ joined block.frames)) same ∙ reads.2))

repeated_if_accepted :
    (c : Caller) (s : Answerer) (a : ℕ) (block : Block) → slice_get (blocks_of c) c.place ≡ Some block → a ≡ c.place → StationFacts c s a →
    s.accepted ≡ Some (accepted_of block) → ⊥
repeated_if_accepted c s a block is same f e =
    not_repeated (c.finished ++ c.present) c.document f.call.readable c.place block is
    (ap (λ x. is_repeated x (mark_of block)) (sym (rw same at f.last) ∙ e) ∙ same_mark_refl (mark_of block))

judged :
    (c : Caller) (s : Answerer) (a : ℕ) (block : Block) → IsOneGroup c.params (drop c.place (blocks_of c)) →
    slice_get (blocks_of c) c.place ≡ Some block → a ≡ c.place → s.state ≡ Message → StationFacts c s a →
    ((judges_block s block.ends (mark_of block) (last_frame_of block)).next.accepted ≡
    Some (accepted_of block)) ↔ HoldsAll s.frames block.frames
judged c s a block group is same message f =
    let fits = block_fits (c.finished ++ c.present) c.document f.call.readable c.place block is in
    let own = subst (IsOneGroup c.params) (drop_some (blocks_of c) c.place block is) group in
    let only : HoldsOnly s.frames block.frames = λ n o h. (rw is at (f.open_frames n o h)) in
    either (λ (answer : AnswererAnswer). (answer.next.accepted ≡ Some (accepted_of block)) ↔ HoldsAll s.frames block.frames)
    (all_there s.frames (last_frame_of block)) _ _
    (λ whole.
    let all = whole_holds_all block.frames s.frames fits.sendable.0 only whole in
    let open_is : s.octets ++ joined_frames s.frames (last_frame_of block + 1) ≡ open_before (blocks_of c) c.place ++ joined block.frames =
    ap (λ o. s.octets ++ o) (joined_is block.frames s.frames fits.sendable.0 all) ∙
    ap (λ o. o ++ joined block.frames) (rw same at f.octets) in (
      λ e. all,
      λ h. subst (λ octets. (takes_block s block.ends (mark_of block) octets).next.accepted ≡ Some (accepted_of block)) (sym open_is)
          (taken_is_accepted s c.document block block.ends _ (place_before (blocks_of c) c.place) (open_before (blocks_of c) c.place) refl
          (subst (λ st. Alike st s.params c.params) message f.same_params ∙ sym own.0) fits),
    ))
    (λ part. (
      λ e. absurd (repeated_if_accepted c s a block is same f e),
      λ h. (let whole : all_there s.frames (last_frame_of block) ≡ true = holds_all_whole block.frames s.frames fits.sendable.0 h in
          let not : true ≡ false = sym whole ∙ part in cc),
    ))

answered :
    (c : Caller) (s : Answerer) (a : ℕ) (block : Block) → IsOneGroup c.params (drop c.place (blocks_of c)) →
    slice_get (blocks_of c) c.place ≡ Some block → a ≡ c.place → s.state ≡ Message → StationFacts c s a →
    ((answers_pps s block.ends (mark_of block) (last_frame_of block)).next.accepted ≡
    Some (accepted_of block)) ↔ HoldsAll s.frames block.frames
answered c s a block group is same message f =
    either (λ (answer : AnswererAnswer). (answer.next.accepted ≡ Some (accepted_of block)) ↔ HoldsAll s.frames block.frames)
    (is_repeated s.accepted (mark_of block)) _ _
    (λ repeated. absurd (not_repeated (c.finished ++ c.present) c.document f.call.readable c.place block is
    (rw (f.last, same) at repeated)))
    (λ new. subst (λ last. ((judges_block s block.ends (mark_of block) last).next.accepted ≡
    Some (accepted_of block)) ↔ HoldsAll s.frames block.frames)
    (sym (counted s.asked block c.place a (rw is at f.asked))) (judged c s a block group is same message f))

sends_next : (turn : Turn) (w : World) (next : Answerer) (items : List PlainItem) → (answerer_sends turn w next items).answerer ≡ next
sends_next Silent w next items = refl
sends_next _ w next items = refl

delivered : (w : World) (block : Block) (items : List PlainItem) → w.answerer.state ≡ Message → w.answerer.ending ≡ None →
    (delivers_to_answerer w Done (pps_of block ∷ items)).answerer ≡
    (answers_pps w.answerer block.ends (mark_of block) (last_frame_of block)).next
delivered w block items message going =
    let answer = answerer_step w.answerer (listens (pps block.ends (mark_of block).page (mark_of block).block (last_frame_of block))) in
    sends_next answer.turn (record w { to_answerer = items }) answer.next (answerer_items answer.next answer.turn)
    ∙ ap (λ (ending : Option _). (unless_answerer_ended ending
    (listens (pps block.ends (mark_of block).page (mark_of block).block (last_frame_of block))) w.answerer).next) going
    ∙ ap (λ (state : AnswererState). (answerer_table state
    (listens (pps block.ends (mark_of block).page (mark_of block).block (last_frame_of block))) w.answerer).next) message

-- a PPS under way says that the caller is past CFR
sending_group :
    (w : World) (facts : LineFacts w) (block : Block) (items : List PlainItem) → w.answerer.state ≡ Message →
    w.to_answerer ≡ pps_of block ∷ items → IsOneGroup w.caller.params (drop w.caller.place (blocks_of w.caller))
sending_group w facts block items message under_way =
    let h = subst (Each (MayReachAnswerer w.caller facts.accepted)) under_way facts.to_answerer in
    (phase_sending w.caller.state w.caller facts.accepted w.answerer h.0.0 facts.stations.phase).group

-- a block that isn't the last one accepted isn't accepted
not_accepted :
    (w : World) (facts : LineFacts w) (block : Block) → slice_get (blocks_of w.caller) w.caller.place ≡ Some block →
    w.answerer.accepted ≢ Some (accepted_of block) → facts.accepted ≡ w.caller.place
not_accepted w facts block is not = go facts.stations.near
  where
    go : (facts.accepted ≡ w.caller.place) ⊎ (facts.accepted ≡ suc w.caller.place) → facts.accepted ≡ w.caller.place
    go (inl e) = e
    go (inr e) = absurd (not (facts.stations.last ∙ (ap (accepted_at (blocks_of w.caller)) e ∙ ap (option_map accepted_of) is)))

whole_block :
    (w : World) (facts : LineFacts w) (block : Block) (items : List PlainItem) →
    slice_get (blocks_of w.caller) w.caller.place ≡ Some block → w.answerer.accepted ≢ Some (accepted_of block) →
    w.to_answerer ≡ pps_of block ∷ items → w.answerer.state ≡ Message → w.answerer.ending ≡ None →
    ((happens w DeliverToAnswerer Done).answerer.accepted ≡ Some (accepted_of block)) ↔ HoldsAll w.answerer.frames block.frames
whole_block w facts block items is new under_way message going =
    let after : (happens w DeliverToAnswerer Done).answerer ≡
    (answers_pps w.answerer block.ends (mark_of block) (last_frame_of block)).next =
    ap (λ list. (delivers_to_answerer w Done list).answerer) under_way ∙ delivered w block items message going in
    subst (λ (next : Answerer). (next.accepted ≡ Some (accepted_of block)) ↔ HoldsAll w.answerer.frames block.frames) (sym after)
    (answered w.caller w.answerer facts.accepted block (sending_group w facts block items message under_way) is
    (not_accepted w facts block is new) message facts.stations)

pub whole_blocks_accepted : Promised → WholeBlocksAccepted
whole_blocks_accepted laws document wish caps steps full block items is new under_way message going =
    let w = run steps (new_world document wish caps) in
    let facts = run_keeps laws steps (new_world document wish caps) (new_world_facts document wish caps full) in
    let keeps = happens_keeps laws w DeliverToAnswerer Done facts in
    record {
      exactly = whole_block w facts block items is new under_way message going;
      pages = beginning (happens w DeliverToAnswerer Done) w.caller.document keeps.same keeps.line;
    }

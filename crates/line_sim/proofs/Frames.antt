-- What is sent is what is heard: the frame of a signal is the only good content of its octets.
use Rattle.std.proofs.Common.{◌≡◌, ℕ, List, [], ◌∷◌, ◌++◌, refl, ap, ◌∙◌, inl}
use Rattle.std.specs.Prelude.{slice_index_or}
use Rattle.raster.specs.Packed.{bits_of}
use Rattle.raster.specs.declared.packed.Order.TheVariants.{LsbFirst}
use Rattle.hdlc.specs.Flags.{gaps, flags}
use Rattle.hdlc.specs.Gaps.{good}
use Rattle.hdlc.specs.Laws.{FrameOctetsGrow}
use Rattle.signals.specs.Reading.{read_content}
use Rattle.signals.specs.Signals.{PlainSignal}
use Rattle.signals.specs.Writing.{content_of, ReadsWhatIsWritten}
use Rattle.signals.specs.declared.signal.Side.{Side}
use Rattle.line_sim.specs.Octets.{IsFrameOf, Carries, is_final, signal_in, signal_said}

good_none : good [] ≡ []
unfolding gaps flags
good_none = refl

-- the only good content of a frame's octets
only_content : (octets content : List ℕ) → FrameOctetsGrow → IsFrameOf octets content → good (bits_of LsbFirst octets) ≡ content ∷ []
only_content octets content grows f = (grows [] content f.frame octets (inl refl) f.is f.filled).1 ∙ ap (λ l. l ++ content ∷ []) good_none

-- the signal that is read is the one that was sent
pub said : (side : Side) (octets : List ℕ) (signal : PlainSignal) → FrameOctetsGrow → ReadsWhatIsWritten → Carries side octets signal
    → signal_said octets ≡ signal
unfolding signal_said
said side octets signal grows reads carries =
    ap (λ l. signal_in (read_content (slice_index_or l 0 [])))
    (only_content octets (content_of signal side (is_final signal)) grows carries.sent) ∙
    ap signal_in (reads signal side (is_final signal) carries.writable)

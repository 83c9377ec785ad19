-- The items under way as their octets say them.
use Rattle.std.proofs.Common.{◌≡◌, ◌≢◌, ℕ, Bool, List, [], ◌∷◌, ◌++◌, length, map, replicate, drop, slice_get, Some, None, Ok, IfSome, IfNone, Bor, refl, ap, sym, subst, ◌∙◌}
use Rattle.std.specs.Prelude.{Option, option_map}
use Rattle.hdlc.specs.DeframerState.{DeframerState, IsAfter, IsIdle}
use Rattle.hdlc.specs.Laws.{FrameOctetsGrow, FrameIsHeard}
use Rattle.raster.specs.Packed.{bits_of}
use Rattle.raster.specs.declared.packed.Order.TheVariants.{LsbFirst}
use Rattle.signals.specs.Reading.{read_content}
use Rattle.signals.specs.Signals.{PlainSignal, plain, dis, dcs, cfr, ftt, fcd, rcp, pps, ppr, mcf, rnr, rr, dcn, other}
use Rattle.signals.specs.Writing.{content_of, ReadsWhatIsWritten}
use Rattle.signals.specs.declared.signal.Side.{Side}
use Rattle.signals.specs.declared.signal.Signal.{Signal}
use Rattle.stations.specs.Inputs.{framed, checked}
use Rattle.line_sim.specs.Entries.{fields_of, kind_of, signal_fields, signal_kind}
use Rattle.line_sim.specs.Line.{spoiled}
use Rattle.line_sim.specs.Octets.{AreOctetsOf, Carries, is_final, signal_said, item_said, IsItem, IsKept}
use Rattle.line_sim.specs.declared.event.Fields.{Fields}
use Rattle.line_sim.specs.declared.event.Kind.{Kind}
use Rattle.line_sim.specs.declared.event.Kind.TheVariants.{Dis, Dcs, Training, Cfr, Ftt, Fcd, Rcp, Pps, Mcf, Ppr, Rnr, Rr, Dcn}
use Rattle.line_sim.proofs.Frames.{said}

-- what octets carry that aren't a training check
abbrev pub CarriesKind : Side → Kind → List ℕ → Type 0
CarriesKind side kind octets = (signal : PlainSignal) × Carries side octets signal × (signal_kind signal ≡ Some kind)

pub carried : (side : Side) (kind : Kind) (octets : List ℕ) → kind ≢ Training → IsItem side kind octets → CarriesKind side kind octets
carried side Training octets differs h = absurd (differs refl)
carried side Dis octets differs h = h
carried side Dcs octets differs h = h
carried side Cfr octets differs h = h
carried side Ftt octets differs h = h
carried side (Fcd number) octets differs h = h
carried side Rcp octets differs h = h
carried side Pps octets differs h = h
carried side Mcf octets differs h = h
carried side Ppr octets differs h = h
carried side Rnr octets differs h = h
carried side Rr octets differs h = h
carried side Dcn octets differs h = h

pub said_frame : (kind : Kind) (octets : List ℕ) → kind ≢ Training → item_said kind octets ≡ framed (signal_said octets)
said_frame Training octets differs = absurd (differs refl)
said_frame Dis octets differs = refl
said_frame Dcs octets differs = refl
said_frame Cfr octets differs = refl
said_frame Ftt octets differs = refl
said_frame (Fcd number) octets differs = refl
said_frame Rcp octets differs = refl
said_frame Pps octets differs = refl
said_frame Mcf octets differs = refl
said_frame Ppr octets differs = refl
said_frame Rnr octets differs = refl
said_frame Rr octets differs = refl
said_frame Dcn octets differs = refl

pub no_check : (signal : PlainSignal) (kind : Kind) → signal_kind signal ≡ Some kind → kind ≢ Training
no_check (dis caps) kind e is = cc
no_check (dcs params) kind e is = cc
no_check cfr kind e is = cc
no_check ftt kind e is = cc
no_check (fcd number octets) kind e is = cc
no_check rcp kind e is = cc
no_check (pps ends page block last) kind e is = cc
no_check (ppr map) kind e is = cc
no_check mcf kind e is = cc
no_check rnr kind e is = cc
no_check rr kind e is = cc
no_check dcn kind e is = cc
no_check (other octet) kind e is = cc

-- the item that octets say is the one that they carry
pub says_carried :
    (side : Side) (kind : Kind) (octets : List ℕ) (signal : PlainSignal) → FrameOctetsGrow → ReadsWhatIsWritten →
    Carries side octets signal → signal_kind signal ≡ Some kind → item_said kind octets ≡ framed signal
says_carried side kind octets signal grows reads carries e = said_frame kind octets (no_check signal kind e) ∙
    ap framed (said side octets signal grows reads carries)

carries_item : (side : Side) (kind : Kind) (octets : List ℕ) → CarriesKind side kind octets → IsItem side kind octets
carries_item side Training octets h = tt
carries_item side Dis octets h = h
carries_item side Dcs octets h = h
carries_item side Cfr octets h = h
carries_item side Ftt octets h = h
carries_item side (Fcd number) octets h = h
carries_item side Rcp octets h = h
carries_item side Pps octets h = h
carries_item side Mcf octets h = h
carries_item side Ppr octets h = h
carries_item side Rnr octets h = h
carries_item side Rr octets h = h
carries_item side Dcn octets h = h

-- an item is kept with what its information field says
pub kept :
    (side : Side) (kind : Kind) (fields : Fields) (octets : List ℕ) (signal : PlainSignal) → FrameOctetsGrow → ReadsWhatIsWritten →
    Carries side octets signal → signal_kind signal ≡ Some kind → fields ≡ signal_fields signal → IsKept side kind fields octets
kept side kind fields octets signal grows reads carries e is = (
  carries_item side kind octets (signal, carries, e),
  is ∙ ap fields_of (sym (says_carried side kind octets signal grows reads carries e)),
)

kind_by :
    (side : Side) (kind : Kind) (octets : List ℕ) → FrameOctetsGrow → ReadsWhatIsWritten → kind ≢ Training →
    CarriesKind side kind octets → kind_of (item_said kind octets) ≡ Some kind
kind_by side kind octets grows reads differs h = ap kind_of (says_carried side kind octets h.0 grows reads h.1 h.2) ∙ h.2

pub kind_said :
    (side : Side) (kind : Kind) (octets : List ℕ) → FrameOctetsGrow → ReadsWhatIsWritten → IsItem side kind octets →
    kind_of (item_said kind octets) ≡ Some kind
kind_said side Training octets grows reads h = refl
kind_said side Dis octets grows reads h = kind_by side Dis octets grows reads (λ e. cc) h
kind_said side Dcs octets grows reads h = kind_by side Dcs octets grows reads (λ e. cc) h
kind_said side Cfr octets grows reads h = kind_by side Cfr octets grows reads (λ e. cc) h
kind_said side Ftt octets grows reads h = kind_by side Ftt octets grows reads (λ e. cc) h
kind_said side (Fcd number) octets grows reads h = kind_by side (Fcd number) octets grows reads (λ e. cc) h
kind_said side Rcp octets grows reads h = kind_by side Rcp octets grows reads (λ e. cc) h
kind_said side Pps octets grows reads h = kind_by side Pps octets grows reads (λ e. cc) h
kind_said side Mcf octets grows reads h = kind_by side Mcf octets grows reads (λ e. cc) h
kind_said side Ppr octets grows reads h = kind_by side Ppr octets grows reads (λ e. cc) h
kind_said side Rnr octets grows reads h = kind_by side Rnr octets grows reads (λ e. cc) h
kind_said side Rr octets grows reads h = kind_by side Rr octets grows reads (λ e. cc) h
kind_said side Dcn octets grows reads h = kind_by side Dcn octets grows reads (λ e. cc) h

octets_by : (side : Side) (kind : Kind) (octets : List ℕ) → FrameOctetsGrow → ReadsWhatIsWritten → CarriesKind side kind octets
    → AreOctetsOf side octets (item_said kind octets)
octets_by side kind octets grows reads h = subst (AreOctetsOf side octets) (sym (says_carried side kind octets h.0 grows reads h.1 h.2)) h.1

pub octets_said : (side : Side) (kind : Kind) (octets : List ℕ) → FrameOctetsGrow → ReadsWhatIsWritten → IsItem side kind octets
    → AreOctetsOf side octets (item_said kind octets)
octets_said side Training octets grows reads h = refl
octets_said side Dis octets grows reads h = octets_by side Dis octets grows reads h
octets_said side Dcs octets grows reads h = octets_by side Dcs octets grows reads h
octets_said side Cfr octets grows reads h = octets_by side Cfr octets grows reads h
octets_said side Ftt octets grows reads h = octets_by side Ftt octets grows reads h
octets_said side (Fcd number) octets grows reads h = octets_by side (Fcd number) octets grows reads h
octets_said side Rcp octets grows reads h = octets_by side Rcp octets grows reads h
octets_said side Pps octets grows reads h = octets_by side Pps octets grows reads h
octets_said side Mcf octets grows reads h = octets_by side Mcf octets grows reads h
octets_said side Ppr octets grows reads h = octets_by side Ppr octets grows reads h
octets_said side Rnr octets grows reads h = octets_by side Rnr octets grows reads h
octets_said side Rr octets grows reads h = octets_by side Rr octets grows reads h
octets_said side Dcn octets grows reads h = octets_by side Dcn octets grows reads h

-- the content that a frame's octets have waits alone, and is read as the signal that they say; once it is handed out the receiver is idle
pub record Heard (kind : Kind) (octets : List ℕ) (fed : DeframerState) : Type 0 where
  pub content : List ℕ
  pub waits : fed.queue ≡ content ∷ []
  pub idle : IsIdle (record fed { queue = drop 1 fed.queue })
  pub reads : read_content content ≡ Ok (signal_said octets)
  pub is : item_said kind octets ≡ framed (signal_said octets)

pub hears_it :
    (side : Side) (kind : Kind) (octets : List ℕ) (old fed : DeframerState) → FrameOctetsGrow → FrameIsHeard → ReadsWhatIsWritten → kind ≢ Training →
    IsItem side kind octets → IsIdle old →
    ((bits : List Bool) (handed : ℕ) → IsAfter old bits handed → IsAfter fed (bits ++ bits_of LsbFirst octets) handed) →
    Heard kind octets fed
hears_it side kind octets old fed grows hears reads differs item idle feeds =
    let h : CarriesKind side kind octets = carried side kind octets differs item in
    let signal : PlainSignal = h.0 in
    let carries : Carries side octets signal = h.1 in
    let content : List ℕ = content_of signal side (is_final signal) in
    let heard = hears old fed content carries.sent.frame octets idle carries.sent.is carries.sent.filled feeds in
    record {
      content = content;
      waits = heard.0;
      idle = heard.1;
      reads = reads signal side (is_final signal) carries.writable ∙ ap (λ s. Ok s) (sym (said side octets signal grows reads carries));
      is = said_frame kind octets differs;
    }

some_same : (x y : List ℕ) → Some x ≡ Some y → x ≡ y
some_same x y e = cc

some_there : (x : List ℕ) → Some x ≡ None → ⊥
some_there x e = cc

-- of a content that waits alone, the signal is heard as which it is read
pub signal_heard :
    (queue : List (List ℕ)) (content : List ℕ) (next : Option (Bor (List ℕ))) (heard : Option Signal) (signal : PlainSignal)
    → queue ≡ content ∷ [] → read_content content ≡ Ok signal
    → IfSome next (λ octets. slice_get queue 0 ≡ Some octets.now) → IfNone next (slice_get queue 0 ≡ None)
    → IfSome next (λ octets. (said : PlainSignal) → read_content octets.now ≡ Ok said → option_map plain heard ≡ Some said)
    → option_map plain heard ≡ Some signal
signal_heard queue content None heard signal waits reads some none said =
    absurd (some_there content (subst (λ q. slice_get q 0 ≡ None) waits none))
signal_heard queue content (Some octets) heard signal waits reads some none said =
    let same : content ≡ octets.now = some_same _ _ (subst (λ q. slice_get q 0 ≡ Some octets.now) waits some) in
    said signal (subst (λ c. read_content c ≡ Ok signal) same reads)

-- the signal that was heard is the one that is read
pub plain_same : (heard : Option Signal) (signal : Signal) (said : PlainSignal) → heard ≡ Some signal → option_map plain heard ≡ Some said
    → plain signal ≡ said
plain_same heard signal said is e = plain_is (plain signal) said (ap (option_map plain) (sym is) ∙ e)
  where
    plain_is : (x y : PlainSignal) → Some x ≡ Some y → x ≡ y
    plain_is x y e = cc

pub none_heard : (heard : Option Signal) (said : PlainSignal) → heard ≡ None → option_map plain heard ≡ Some said → ⊥
none_heard heard said is e = none_said said (ap (option_map plain) (sym is) ∙ e)
  where
    none_said : (x : PlainSignal) → None ≡ Some x → ⊥
    none_said x e = cc

map_constant : (xs : List ℕ) → map {B = ℕ} (λ octet. 255) xs ≡ replicate (length xs) 255
map_constant [] = refl
map_constant (x ∷ xs) = ap (λ ys. 255 ∷ ys) (map_constant xs)

-- a training check with all its octets FF
pub check_spoiled : (kind : Kind) (octets new : List ℕ) → kind ≡ Training → new ≡ replicate (length octets) 255 →
    item_said kind new ∷ [] ≡ spoiled (item_said kind octets ∷ [])
check_spoiled kind octets new is e =
    subst (λ k. item_said k new ∷ [] ≡ spoiled (item_said k octets ∷ [])) (sym is)
    (ap (λ l. checked l ∷ []) (e ∙ sym (map_constant octets)))

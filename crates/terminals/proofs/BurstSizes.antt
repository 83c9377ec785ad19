-- How many bits a burst has at most.
use Rattle.std.proofs.Common.{◌≡◌, ◌≤◌, ◌+◌, ◌*◌, ℕ, zero, suc, Bool, false, List, [], ◌∷◌, ◌++◌, length, drop, refl, ap, ◌∙◌, arith}
use Rattle.std.proofs.Common.{length-append}
use Rattle.std.proofs.lemmas.List.{length-replicate}
use Rattle.std.specs.Prelude.{Option, Some, None}
use Rattle.hdlc.specs.Flags.{flag}
use Rattle.partial_page.specs.Frames.{CutIsFullFrames}
use Rattle.partial_page.specs.Store.{bit_of}
use Rattle.signals.specs.Signals.{rcp}
use Rattle.signals.specs.Training.{training_octets}
use Rattle.signals.specs.Writing.{WrittenFitsAFrame, content_of}
use Rattle.signals.specs.declared.params.Params.{Params}
use Rattle.signals.specs.declared.params.Speed.{Speed}
use Rattle.signals.specs.declared.params.Speed.TheVariants.{V27At2400, V27At4800, V29At7200, V29At9600, V17At7200, V17At9600}
use Rattle.signals.specs.declared.params.Speed.TheVariants.{V17At12000, V17At14400}
use Rattle.signals.specs.declared.signal.Side.{Side}
use Rattle.signals.specs.declared.signal.Side.TheVariants.{Caller as CallerSide, Answerer as AnswererSide}
use Rattle.stations.proofs.Progress.{either}
use Rattle.stations.specs.AnswererStep.{Answerer, answerer_items}
use Rattle.stations.specs.Blocks.{Block}
use Rattle.stations.specs.Bursts.{CutByCarrier, PlainBurst, bursts_of, items_of}
use Rattle.stations.specs.CallerStep.{Caller, burst_of, caller_items, fcds, pps_items, pps_of, present_block, training_items}
use Rattle.stations.specs.Inputs.{PlainItem, framed, checked}
use Rattle.stations.specs.Layers.{training}
use Rattle.stations.specs.Lending.{has_no_frame}
use Rattle.stations.specs.declared.carrier.Carrier.{Carrier}
use Rattle.stations.specs.declared.carrier.Carrier.TheVariants.{V21, Training as ByTraining, Page}
use Rattle.stations.specs.declared.turn.CallerState.{CallerState}
use Rattle.stations.specs.declared.turn.CallerState.TheVariants.{WaitDis, WaitCfr, WaitBlock, WaitReady}
use Rattle.stations.specs.declared.turn.Turn.{Turn}
use Rattle.stations.specs.declared.turn.Turn.TheVariants.{Silent, Dis, Training, Cfr, Ftt, Burst, Pps, Mcf, Ppr, Rnr, Rr, Dcn}
use Rattle.terminals.proofs.FrameSizes.{frames_are_short}
use Rattle.terminals.proofs.Writable.{answerers_send_whole, callers_send_whole, present_fills}
use Rattle.terminals.specs.BurstSizes.{AnswerersBurstsAreShort, CallersBurstsAreShort}
use Rattle.terminals.specs.Sending.{IsSent, idle}
use Rattle.terminals.specs.Timing.{flags_after, flags_before}
use Rattle.terminals.specs.Writable.{AreFrameOf, AreFrames}
use Rattle.terminals.specs.declared.sending.SentBurst.{SentBurst}

-- the most bits of an item as it is sent
abbrev most_bits : PlainItem → ℕ
most_bits (framed signal) = 2915
most_bits (checked octets) = 8 * length octets

-- the most bits of items
abbrev all_bits : List PlainItem → ℕ
all_bits [] = 0
all_bits (item ∷ items) = most_bits item + all_bits items

item_short : WrittenFitsAFrame → (side : Side) (item : PlainItem) (following : List PlainItem) (bits : List Bool) →
    AreFrameOf side item following bits → length bits ≤ most_bits item
item_short fits side (framed signal) following bits h =
    let short = frames_are_short (content_of signal side (has_no_frame following)) bits h.frame in
    let most = (fits signal side (has_no_frame following) h.writable).1 in
    omega (arith, short, most)
item_short fits side (checked octets) following bits h =
    let size : length bits ≡ 8 * length octets = ap length h ∙ length-replicate (8 * length octets) false in omega (arith, size)

items_short : WrittenFitsAFrame → (side : Side) (items later : List PlainItem) (bits : List Bool) → AreFrames side items later bits →
    length bits ≤ all_bits items
items_short fits side [] later bits h = let size : length bits ≡ 0 = ap length h in omega (arith, size)
items_short fits side (item ∷ items) later bits (front, rest, one, more, is) =
    let first = item_short fits side item (items ++ later) front one in
    let others = items_short fits side items later rest more in
    let size : length bits ≡ length front + length rest = ap length is ∙ length-append front rest in
    omega (arith, first, others, size)

all_joined : (xs ys : List PlainItem) → all_bits (xs ++ ys) ≡ all_bits xs + all_bits ys
all_joined [] ys = omega arith
all_joined (x ∷ xs) ys = let rest = all_joined xs ys in omega (arith, rest)

burst_among : (bursts : List PlainBurst) (taken : ℕ) (burst : PlainBurst) (later : List PlainBurst) → drop taken bursts ≡ burst ∷ later →
    all_bits burst.items ≤ all_bits (items_of bursts)
burst_among [] zero burst later e = absurd (cc e)
burst_among [] (suc taken) burst later e = absurd (cc e)
burst_among (first ∷ bursts) zero burst later e =
    let same : first ≡ burst = cc in
    let parts = all_joined first.items (items_of bursts) in
    let is : all_bits first.items ≡ all_bits burst.items = ap (λ (b : PlainBurst). all_bits b.items) same in
    omega (arith, parts, is)
burst_among (first ∷ bursts) (suc taken) burst later e =
    let rest = burst_among bursts taken burst later e in
    let parts = all_joined first.items (items_of bursts) in
    omega (arith, rest, parts)

-- ---- a caller's turns

fcds_short : (map : List ℕ) (number : ℕ) (frames : List (List ℕ)) → all_bits (fcds map number frames) ≤ 2915 * length frames
fcds_short map number [] = omega arith
fcds_short map number (octets ∷ frames) =
    let rest = fcds_short map (suc number) frames in
    either (λ (items : List PlainItem). all_bits items ≤ 2915 * length (octets ∷ frames)) (bit_of map number) _ _
    (λ _. omega (arith, rest)) (λ _. omega (arith, rest))

burst_of_short : (map : List ℕ) (at : Option Block) → ((block : Block) → at ≡ Some block → length block.frames ≤ 256) →
    all_bits (burst_of map at) ≤ 757900
burst_of_short map None few = omega arith
burst_of_short map (Some block) few =
    let frames = fcds_short map 0 block.frames in
    let most = few block refl in
    let parts = all_joined (fcds map 0 block.frames) (framed rcp ∷ framed rcp ∷ framed rcp ∷ pps_of block ∷ []) in
    omega (arith, frames, most, parts)

check_few : (speed : Speed) → training_octets speed ≤ 2700
check_few V27At2400 = omega arith
check_few V27At4800 = omega arith
check_few V29At7200 = omega arith
check_few V29At9600 = omega arith
check_few V17At7200 = omega arith
check_few V17At9600 = omega arith
check_few V17At12000 = omega arith
check_few V17At14400 = omega arith

check_short : (params : Params) → length (training params) ≤ 2700
unfolding training
check_short params =
    let size = length-replicate {A = ℕ} (training_octets params.speed) 0 in let few = check_few params.speed in omega (arith, size, few)

training_short : (state : CallerState) (params : Params) → all_bits (training_items state params) ≤ 757900
training_short WaitDis params = omega arith
training_short WaitCfr params = let few = check_short params in omega (arith, few)
training_short WaitBlock params = let few = check_short params in omega (arith, few)
training_short WaitReady params = let few = check_short params in omega (arith, few)

pps_short : (at : Option Block) → all_bits (pps_items at) ≤ 757900
pps_short None = omega arith
pps_short (Some block) = omega arith

caller_short : CutIsFullFrames → (t : Caller) (turn : Turn) → all_bits (caller_items t turn) ≤ 757900
caller_short cuts t Training = training_short t.state t.params
caller_short cuts t (Burst map) = burst_of_short map (present_block t) (λ block e. (present_fills cuts t block e).1)
caller_short cuts t Pps = pps_short (present_block t)
caller_short cuts t Rr = omega arith
caller_short cuts t Dcn = omega arith
caller_short cuts t Silent = omega arith
caller_short cuts t Dis = omega arith
caller_short cuts t Cfr = omega arith
caller_short cuts t Ftt = omega arith
caller_short cuts t Mcf = omega arith
caller_short cuts t (Ppr map) = omega arith
caller_short cuts t Rnr = omega arith

answerer_short : (s : Answerer) (turn : Turn) → all_bits (answerer_items s turn) ≤ 2915
answerer_short s Dis = omega arith
answerer_short s Cfr = omega arith
answerer_short s Ftt = omega arith
answerer_short s Mcf = omega arith
answerer_short s (Ppr map) = omega arith
answerer_short s Rnr = omega arith
answerer_short s Dcn = omega arith
answerer_short s Silent = omega arith
answerer_short s Training = omega arith
answerer_short s (Burst map) = omega arith
answerer_short s Pps = omega arith
answerer_short s Rr = omega arith

-- ---- flags

idle_size : (count : ℕ) → length (idle count) ≡ 8 * count
idle_size zero = refl
idle_size (suc count) = let rest = idle_size count in let size = length-append flag (idle count) in omega (arith, rest, size)

before_few : (carrier : Carrier) → flags_before carrier ≤ 360
before_few V21 = omega arith
before_few (Page V27At2400) = omega arith
before_few (Page V27At4800) = omega arith
before_few (Page V29At7200) = omega arith
before_few (Page V29At9600) = omega arith
before_few (Page V17At7200) = omega arith
before_few (Page V17At9600) = omega arith
before_few (Page V17At12000) = omega arith
before_few (Page V17At14400) = omega arith
before_few (ByTraining speed) = omega arith

after_few : (carrier : Carrier) → flags_after carrier ≤ 2
after_few V21 = omega arith
after_few (Page speed) = omega arith
after_few (ByTraining speed) = omega arith

sent_short : (side : Side) (burst : PlainBurst) (later : List PlainBurst) (sent : SentBurst) (most : ℕ) →
    (is : IsSent side burst later sent) → length is.bits ≤ most → sent.bits ≤ most + 2896
sent_short side burst later sent most is short =
    let before = before_few burst.carrier in
    let behind = after_few burst.carrier in
    let one = idle_size (flags_before burst.carrier) in
    let two = idle_size (flags_after burst.carrier) in
    let front = length-append (idle (flags_before burst.carrier)) (is.bits ++ idle (flags_after burst.carrier)) in
    let rest = length-append is.bits (idle (flags_after burst.carrier)) in
    let count = is.count in
    omega (arith, before, behind, one, two, front, rest, count, short)

-- ---- bursts

all_of : CutByCarrier → (speed : Speed) (items : List PlainItem) (bursts : List PlainBurst) → bursts ≡ bursts_of speed items →
    all_bits (items_of bursts) ≡ all_bits items
all_of cut speed items bursts is = ap all_bits (ap items_of is ∙ (cut speed items).joined)

pub callers_bursts_are_short : CutIsFullFrames → CutByCarrier → WrittenFitsAFrame → CallersBurstsAreShort
callers_bursts_are_short cuts cut fits v t turn bursts r lends taken burst later sent at is =
    let frames = callers_send_whole cuts cut v t turn bursts r lends taken burst later sent at is in
    let bits = items_short fits CallerSide burst.items (items_of later) is.bits frames in
    let among = burst_among bursts taken burst later at in
    let all = all_of cut t.params.speed (caller_items t turn) bursts (lends t r) in
    let few = caller_short cuts t turn in
    let short = sent_short CallerSide burst later sent 757900 is (omega (arith, bits, among, all, few)) in
    omega (arith, short)

pub answerers_bursts_are_short : CutByCarrier → WrittenFitsAFrame → AnswerersBurstsAreShort
answerers_bursts_are_short cut fits s turn bursts map lends taken burst later sent at is =
    let frames = answerers_send_whole cut s turn bursts map lends taken burst later sent at is in
    let bits = items_short fits AnswererSide burst.items (items_of later) is.bits frames in
    let among = burst_among bursts taken burst later at in
    let all = all_of cut s.params.speed (answerer_items s turn) bursts lends in
    let few = answerer_short s turn in
    let short = sent_short AnswererSide burst later sent 2915 is (omega (arith, bits, among, all, few)) in
    omega (arith, short)

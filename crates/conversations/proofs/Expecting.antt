-- What a station expects is what it hears.
use Rattle.std.proofs.Common.{◌≡◌, ◌≢◌, ◌∙◌, ℕ, Bool, true, false, refl, sym, ap, inl, inr}
use Rattle.std.proofs.lemmas.Bool.{eqb-true, eq-eqb}
use Rattle.std.specs.Prelude.{◌↔◌, Some, None, cond, nat_eq}
use Rattle.conversations.specs.Hearing.{ExpectsWhatIsHeard, IsExpected, heard_as, place_of, same_speed}
use Rattle.conversations.specs.declared.carrier.Channel.{Channel}
use Rattle.conversations.specs.declared.carrier.Channel.TheVariants.{V21 as ByV21, Message}
use Rattle.conversations.specs.declared.carrier.Kind.{Kind}
use Rattle.conversations.specs.declared.carrier.Kind.TheVariants.{Frames, Check}
use Rattle.conversations.specs.declared.hearing.Expected.{Expected}
use Rattle.conversations.specs.declared.hearing.Heard.{Heard}
use Rattle.conversations.specs.declared.hearing.Heard.TheVariants.{Frames as HeardFrames, Check as HeardCheck, Nothing}
use Rattle.signals.specs.declared.params.Speed.{Speed}
use Rattle.signals.specs.declared.params.Speed.TheVariants.{V27At2400, V27At4800, V29At7200, V29At9600, V17At7200, V17At9600, V17At12000}
use Rattle.signals.specs.declared.params.Speed.TheVariants.{V17At14400}
use Rattle.stations.specs.declared.listening.Listening.{Listening}
use Rattle.stations.specs.declared.listening.Listening.TheVariants.{V21, Training, V21OrPage, V21ThenPage}

-- the speed at a place
abbrev speed_at : ℕ → Speed
speed_at place =
    cond (nat_eq place 0) V27At2400
    (cond (nat_eq place 1) V27At4800
    (cond (nat_eq place 2) V29At7200
    (cond (nat_eq place 3) V29At9600
    (cond (nat_eq place 4) V17At7200 (cond (nat_eq place 5) V17At9600 (cond (nat_eq place 6) V17At12000 V17At14400))))))

is_speed_at : (speed : Speed) → speed ≡ speed_at (place_of speed)
is_speed_at V27At2400 = refl
is_speed_at V27At4800 = refl
is_speed_at V29At7200 = refl
is_speed_at V29At9600 = refl
is_speed_at V17At7200 = refl
is_speed_at V17At9600 = refl
is_speed_at V17At12000 = refl
is_speed_at V17At14400 = refl

speeds_same : (speed other : Speed) → same_speed speed other ≡ true → speed ≡ other
speeds_same speed other e =
    is_speed_at speed ∙ (ap speed_at (eqb-true (place_of speed) (place_of other) e) ∙ sym (is_speed_at other))

same_so : (speed other : Speed) → speed ≡ other → same_speed speed other ≡ true
same_so speed other e = eq-eqb (place_of speed) (place_of other) (ap place_of e)

-- heard at an agreed speed is what comes at that speed
heard_at : (heard : Heard) (speed agreed : Speed) → heard ≢ Nothing →
    (speed ≡ agreed) ↔ (cond (same_speed speed agreed) heard Nothing ≢ Nothing)
heard_at heard speed agreed some = (
  λ e none. some (sym (ap (λ b. cond b heard Nothing) (same_so speed agreed e)) ∙ none),
  λ is. by (same_speed speed agreed) refl is,
)
  where
    by : (b : Bool) → same_speed speed agreed ≡ b → cond b heard Nothing ≢ Nothing → speed ≡ agreed
    by true e is = speeds_same speed agreed e
    by false e is = absurd (is refl)

parts : (a b : Expected) → a ≡ b → (a.channel ≡ b.channel) × (a.kind ≡ b.kind)
parts a b e = (ap (λ (x : Expected). x.channel) e, ap (λ (x : Expected). x.kind) e)

some_parts : (a b : Expected) → Some a ≡ Some b → (a.channel ≡ b.channel) × (a.kind ≡ b.kind)
some_parts a b e = let same : a ≡ b = cc in parts a b same

-- what isn't heard, as its channel or its kind is another one
not_v21 : (speed : Speed) → Message speed ≢ ByV21
not_v21 speed e = cc

not_check : Check ≢ Frames
not_check e = cc

agreed_same : (speed agreed : Speed) → Message speed ≡ Message agreed → speed ≡ agreed
agreed_same speed agreed e = cc

abbrev it : Channel → Kind → Expected
it channel kind = record { channel = channel; kind = kind }

abbrev Holds : Listening → Channel → Kind → Type 0
Holds listens channel kind = IsExpected listens (it channel kind) ↔ (heard_as listens channel kind ≢ Nothing)

expects : (listens : Listening) (channel : Channel) (kind : Kind) → Holds listens channel kind
expects V21 ByV21 Frames = (λ e none. cc, λ some. inl refl)
expects V21 ByV21 Check = (
  λ e none. elim e [ inl x ↦ not_check (parts _ _ x).1 | inr y ↦ let no : Some (it ByV21 Check) ≡ None = y in cc ],
  λ some. absurd (some refl),
)
expects V21 (Message speed) Frames = (
  λ e none. elim e [ inl x ↦ not_v21 speed (parts _ _ x).0 | inr y ↦ let no : Some (it (Message speed) Frames) ≡ None = y in cc ],
  λ some. absurd (some refl),
)
expects V21 (Message speed) Check = (
  λ e none. elim e [ inl x ↦ not_check (parts _ _ x).1 | inr y ↦ let no : Some (it (Message speed) Check) ≡ None = y in cc ],
  λ some. absurd (some refl),
)
expects (Training agreed) ByV21 Frames = (λ e none. cc, λ some. inr refl)
expects (Training agreed) ByV21 Check = (
  λ e none. elim e [ inl x ↦ not_v21 agreed (sym (parts _ _ x).0) | inr y ↦ not_check (some_parts _ _ y).1 ],
  λ some. absurd (some refl),
)
expects (Training agreed) (Message speed) Frames = (
  λ e none. elim e [ inl x ↦ not_check (sym (parts _ _ x).1) | inr y ↦ not_v21 speed (some_parts _ _ y).0 ],
  λ some. absurd (some refl),
)
expects (Training agreed) (Message speed) Check = (
  λ e. elim e [
    | inl x ↦ (heard_at HeardCheck speed agreed (λ n. cc)).0 (agreed_same speed agreed (parts _ _ x).0)
    | inr y ↦ absurd (not_v21 speed (some_parts _ _ y).0)
  ],
  λ some. inl (ap (λ s. it (Message s) Check) ((heard_at HeardCheck speed agreed (λ n. cc)).1 some)),
)
expects (V21OrPage agreed) ByV21 Frames = (λ e none. cc, λ some. inr refl)
expects (V21OrPage agreed) ByV21 Check = (
  λ e none. elim e [ inl x ↦ not_check (parts _ _ x).1 | inr y ↦ not_check (some_parts _ _ y).1 ],
  λ some. absurd (some refl),
)
expects (V21OrPage agreed) (Message speed) Frames = (
  λ e. elim e [
    | inl x ↦ (heard_at HeardFrames speed agreed (λ n. cc)).0 (agreed_same speed agreed (parts _ _ x).0)
    | inr y ↦ absurd (not_v21 speed (some_parts _ _ y).0)
  ],
  λ some. inl (ap (λ s. it (Message s) Frames) ((heard_at HeardFrames speed agreed (λ n. cc)).1 some)),
)
expects (V21OrPage agreed) (Message speed) Check = (
  λ e none. elim e [ inl x ↦ not_check (parts _ _ x).1 | inr y ↦ not_check (some_parts _ _ y).1 ],
  λ some. absurd (some refl),
)
expects (V21ThenPage agreed) ByV21 Frames = (λ e none. cc, λ some. inl refl)
expects (V21ThenPage agreed) ByV21 Check = (
  λ e none. elim e [ inl x ↦ not_check (parts _ _ x).1 | inr y ↦ not_check (some_parts _ _ y).1 ],
  λ some. absurd (some refl),
)
expects (V21ThenPage agreed) (Message speed) Frames = (
  λ e. elim e [
    | inl x ↦ absurd (not_v21 speed (parts _ _ x).0)
    | inr y ↦ (heard_at HeardFrames speed agreed (λ n. cc)).0 (agreed_same speed agreed (some_parts _ _ y).0)
  ],
  λ some. inr (ap (λ s. Some (it (Message s) Frames)) ((heard_at HeardFrames speed agreed (λ n. cc)).1 some)),
)
expects (V21ThenPage agreed) (Message speed) Check = (
  λ e none. elim e [ inl x ↦ not_check (parts _ _ x).1 | inr y ↦ not_check (some_parts _ _ y).1 ],
  λ some. absurd (some refl),
)

pub expects_what_is_heard : ExpectsWhatIsHeard
expects_what_is_heard listens it = expects listens it.channel it.kind

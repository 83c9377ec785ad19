-- A station and its keeper that are led by lines.
use Rattle.std.proofs.Common.{ℕ, suc, zero, ◌≡◌, List, subst}
use Rattle.std.specs.Prelude.{Option}
use Rattle.conversations.proofs.TalkedLines.{converses_so}
use Rattle.station_commands.specs.Following.{NotesFields, station_follower}
use Rattle.station_commands.specs.Talks.{AfterLosses, FollowedTo, LedTo, StoppedAt}
use Rattle.conversations.specs.Conversations.{ConversationFields}
use Rattle.conversations.specs.Conversing.{Converses, ConversesFollowed, StopsSo, Talker, talk_state}
use Rattle.conversations.specs.declared.conversing.ConverseFault.{ConverseFault}
use Rattle.conversations.specs.declared.conversing.Ending.{Ending}
use Rattle.faults.specs.declared.fault.ToolFault.{ToolFault}

pub led : {S K : Type 0} (t : Talker S K) (unread left unsaid said : Option (List ℕ)) (old new : ConversationFields S) (keeper kept : K)
    (noted last : NotesFields) (given ending : Ending ToolFault) → given ≡ ending
    → ConversesFollowed S K ToolFault NotesFields t station_follower (talk_state unread old keeper unsaid) (talk_state left new kept said) noted last given
    → LedTo t old keeper new kept ending
led {S} {K} t unread left unsaid said old new keeper kept noted last given ending is led_so = (
  unread,
  left,
  unsaid,
  said,
  subst (λ (e : Ending ToolFault). Converses S K ToolFault t (talk_state unread old keeper unsaid) (talk_state left new kept said) e) is
      (converses_so t station_follower (talk_state unread old keeper unsaid) (talk_state left new kept said) noted last given led_so),
)

pub stopped : {S K : Type 0} (t : Talker S K) (unread left unsaid said : Option (List ℕ)) (old new : ConversationFields S) (keeper kept : K)
    (given fault : ConverseFault) → given ≡ fault
    → StopsSo t (talk_state unread old keeper unsaid) (talk_state left new kept said) given
    → StoppedAt t old keeper new kept fault
stopped t unread left unsaid said old new keeper kept given fault is stops = (
  unread,
  left,
  unsaid,
  said,
  subst (λ (f : ConverseFault). StopsSo t (talk_state unread old keeper unsaid) (talk_state left new kept said) f) is stops,
)

-- where no line was lost nothing has happened yet
none_lost : {S K : Type 0} (t : Talker S K) (n : ℕ) (old mid : ConversationFields S) (keeper held : K) → n ≡ 0 →
    AfterLosses t n old keeper mid held → (mid ≡ old) × (held ≡ keeper)
none_lost t zero old mid keeper held e h = h
none_lost t (suc n) old mid keeper held e h = absurd (cc)

-- what the follower noted of lines that end so, where none was lost before
pub noted_to : {S K : Type 0} (t : Talker S K) (lost : ℕ) (old mid new : ConversationFields S) (keeper held kept : K) (first noted last : NotesFields)
    (unread left unsaid said : Option (List ℕ)) (given ending : Ending ToolFault) → AfterLosses t lost old keeper mid held →
    (lost ≡ 0 → noted ≡ first) → given ≡ ending →
    ConversesFollowed S K ToolFault NotesFields t station_follower (talk_state unread mid held unsaid) (talk_state left new kept said) noted last given →
    lost ≡ 0 → FollowedTo t old keeper first new kept last ending
noted_to {S} {K} t lost old mid new keeper held kept first noted last unread left unsaid said given ending losses same is h none =
    let from = none_lost t lost old mid keeper held none losses in
    subst (λ (c : ConversationFields S). FollowedTo t c keeper first new kept last ending) from.0
    (subst (λ (k : K). FollowedTo t mid k first new kept last ending) from.1
    (subst (λ (n : NotesFields). FollowedTo t mid held n new kept last ending) (same none) (
      unread,
      left,
      unsaid,
      said,
      subst (λ (e : Ending ToolFault).
          ConversesFollowed S K ToolFault NotesFields t station_follower (talk_state unread mid held unsaid) (talk_state left new kept said) noted last e) is h,
    )))

-- Which answers of a station are sent: all, where its command names no time by which an answer may be late.
use Rattle.std.specs.Prelude.{◌≡◌, ◌∷◌, [], ℕ, false, List, None}
use Rattle.conversations.specs.Conversing.{FollowedAll, TalkState, Talker}
use Rattle.station_commands.specs.Following.{NotesFields, station_follower}
use Rattle.station_commands.specs.Talks.{confirmed_talker, folder_talker}
use Rattle.station_commands.specs.declared.station.confirmations.Confirmed.{Confirmed}
use Rattle.station_commands.specs.declared.station.folder.Folder.{Folder}
use Rattle.stations.specs.Limiting.{LimitedFields}
use Rattle.stations.specs.Stopping.{StoppableCallerFields}

-- the answer to each of the lines was sent: its bursts weren't withheld
abbrev pub AllSent : {S K : Type 0} (t : Talker S K) (lines : List (List ℕ)) (old new : TalkState S K) (first last : NotesFields) →
    FollowedAll t station_follower lines old new first last → Type 0
AllSent t [] old new first last h = Unit {0}
AllSent t (line ∷ lines) old new first last h = (h.2.0.answered.late ≡ false) × AllSent t lines h.0 new h.1 last h.3

-- The law: where no time is named by which an answer may be late, none is withheld.
pub record NoneIsWithheld : Type 0 where
  pub answerer :
      (lines : List (List ℕ)) (old new : TalkState LimitedFields Folder) (first last : NotesFields) → first.lateness.most ≡ None →
      (h : FollowedAll folder_talker station_follower lines old new first last) → AllSent folder_talker lines old new first last h
  pub caller :
      (lines : List (List ℕ)) (old new : TalkState StoppableCallerFields Confirmed) (first last : NotesFields) → first.lateness.most ≡ None →
      (h : FollowedAll confirmed_talker station_follower lines old new first last) → AllSent confirmed_talker lines old new first last h

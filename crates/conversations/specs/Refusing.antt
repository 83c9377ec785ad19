-- What a conversation is watched for: the second DCS that the answerer doesn't allow ends the call, and so do a page under the number of the
-- last one, and the time that a call may last.
use Rattle.std.specs.Prelude.{ℕ, Bool, true, false, Option, Some, None}
use Rattle.conversations.specs.declared.refusing.CallerWatch.{CallerWatch}
use Rattle.conversations.specs.declared.refusing.StopCause.{StopCause}
use Rattle.conversations.specs.declared.refusing.StopCause.TheVariants.{Refused, TooLong, NeverQuiet}
use Rattle.signals.specs.declared.params.Caps.{Caps}
use Rattle.terminals.specs.Watching.{nothing_watched, refusal_for, refusal_of_seen}
use Rattle.terminals.specs.declared.timeout.Limit.{Limit}
use Rattle.terminals.specs.declared.timeout.Timeout.{Timeout}
use Rattle.terminals.specs.declared.timeout.Timeout.TheVariants.{Over, Stop, GiveUp}
use Rattle.terminals.specs.declared.watching.Refusal.{Refusal}
use Rattle.terminals.specs.declared.watching.Watched.{Watched}

-- how long a call lasts at most; after that DCN is said at the first line at which the other side can hear it, or else the call is given up
-- in silence ten seconds later
abbrev pub limit_of : Option ℕ → Limit
limit_of most = record { most = most; more = 10000 }

-- a call lasts as long as it wants
abbrev pub no_limit : Limit
no_limit = limit_of None

-- nothing is watched
abbrev pub no_watch : CallerWatch
no_watch = record { watched = None; refuses = false; limit = no_limit; late = false; given_up = false }

-- a watch of an answerer with these capabilities that has seen nothing
abbrev pub new_watch : Caps → Bool → CallerWatch
new_watch caps refuses = record no_watch { watched = Some (nothing_watched caps); refuses = refuses }

-- what is to be done is the end of a call that has lasted as long as it may
abbrev pub ends_by : Option Timeout → Bool
ends_by None = false
ends_by (Some (Over wait)) = false
ends_by (Some Stop) = true
ends_by (Some GiveUp) = true

-- what is to be done is the end of such a call in silence, since its line didn't fall quiet
abbrev pub gives_up : Option Timeout → Bool
gives_up None = false
gives_up (Some (Over wait)) = false
gives_up (Some Stop) = false
gives_up (Some GiveUp) = true

-- why a call is refused by what was seen, where DCSs are refused or aren't
abbrev pub refusal_seen : Bool → Option Watched → Option Refusal
refusal_seen refuses None = None
refusal_seen true (Some w) = refusal_of_seen w
refusal_seen false (Some w) = refusal_for None w.used.again

-- why a call is refused, if it is
abbrev pub refusal_in : CallerWatch → Option Refusal
refusal_in watch = refusal_seen watch.refuses watch.watched

-- why a call is stopped: it is refused, or has lasted as long as it may (first Bool), and is given up if its line didn't fall quiet (second)
abbrev pub stop_for : Option Refusal → Bool → Bool → Option StopCause
stop_for (Some why) late given_up = Some (Refused why)
stop_for None late true = Some NeverQuiet
stop_for None true false = Some TooLong
stop_for None false false = None

-- why a call is stopped, if it is
abbrev pub stop_in : CallerWatch → Option StopCause
stop_in watch = stop_for (refusal_in watch) watch.late watch.given_up

-- the first page number that jumped, of those that were seen
abbrev pub gap_seen : Option Watched → Option ℕ
gap_seen None = None
gap_seen (Some w) = w.pages.gap

-- the first page number that jumped, if one did
abbrev pub gap_in : CallerWatch → Option ℕ
gap_in watch = gap_seen watch.watched

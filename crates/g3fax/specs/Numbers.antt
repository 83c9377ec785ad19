-- The numbers by which C knows waits, carriers and ends.
use Rattle.std.specs.Prelude.{ℕ, Bool, cond, nat_eq, if◌then◌else◌}
use Rattle.std.specs.declared.option.Option.{Option}
use Rattle.std.specs.declared.option.Option.TheVariants.{None, Some}
use Rattle.signals.specs.declared.params.Speed.{Speed}
use Rattle.signals.specs.declared.params.Speed.TheVariants.{V27At2400, V27At4800, V29At7200, V29At9600, V17At7200, V17At9600, V17At12000}
use Rattle.signals.specs.declared.params.Speed.TheVariants.{V17At14400}
use Rattle.stations.specs.declared.carrier.Carrier.{Carrier}
use Rattle.stations.specs.declared.carrier.Carrier.TheVariants.{V21, Training, Page}
use Rattle.stations.specs.declared.listening.Listening.{Listening}
use Rattle.stations.specs.declared.listening.Listening.TheVariants.{V21 as HearsV21, Training as HearsCheck, V21OrPage as HearsPages}
use Rattle.stations.specs.declared.listening.Listening.TheVariants.{V21ThenPage as HearsV21First}
use Rattle.stations.specs.declared.stopping.CallEnd.{CallEnd}
use Rattle.stations.specs.declared.stopping.CallEnd.TheVariants.{By, Stopped, LineLost}
use Rattle.stations.specs.declared.turn.End.{End}
use Rattle.stations.specs.declared.turn.End.TheVariants.{Normal, NoAnswer, NotCompatible, Training as BadTraining, NoReply, Unreadable}
use Rattle.stations.specs.declared.turn.End.TheVariants.{StillBusy, PeerLeft, BadPage, PageTooLong}
use Rattle.stations.specs.declared.waiting.Wait.{Wait}
use Rattle.stations.specs.declared.waiting.Wait.TheVariants.{T1, T2, T4, T5}
use Rattle.terminals.specs.Timing.{wait_millis}

-- the waits by their numbers, those of their names in T.30: T1, T2, T4 and T5
abbrev pub wait_of : ℕ → Option Wait
wait_of number =
    if nat_eq number 1 then Some T1 else (if nat_eq number 2 then Some T2 else (if nat_eq number 4 then Some T4 else
    (if nat_eq number 5 then Some T5 else None)))

-- the number of a wait; 0 for none
abbrev pub wait_number : Option Wait → ℕ
wait_number None = 0
wait_number (Some T1) = 1
wait_number (Some T2) = 2
wait_number (Some T4) = 4
wait_number (Some T5) = 5

-- how long a wait runs, in milliseconds; 0 for none
abbrev pub millis_of : Option Wait → ℕ
millis_of None = 0
millis_of (Some wait) = wait_millis wait

-- the carriers of the eight message speeds
abbrev pub speed_number : Speed → ℕ
speed_number V27At2400 = 2
speed_number V27At4800 = 3
speed_number V29At7200 = 4
speed_number V29At9600 = 5
speed_number V17At7200 = 6
speed_number V17At9600 = 7
speed_number V17At12000 = 8
speed_number V17At14400 = 9

-- the number of a carrier, a training check's as that of the page after it
abbrev pub carrier_number : Carrier → ℕ
carrier_number V21 = 1
carrier_number (Training speed) = speed_number speed
carrier_number (Page speed) = speed_number speed

-- 1 for the carrier of a training check, 0 for others
abbrev pub check_number : Carrier → ℕ
check_number V21 = 0
check_number (Training speed) = 1
check_number (Page speed) = 0

-- what a station listens for: V.21 alone, a training check, V.21 and the frames of a page, or these with V.21 first
abbrev pub listens_number : Listening → ℕ
listens_number HearsV21 = 1
listens_number (HearsCheck speed) = 2
listens_number (HearsPages speed) = 3
listens_number (HearsV21First speed) = 4

-- the carrier that it listens for beside V.21; 0 for none
abbrev pub listens_carrier : Listening → ℕ
listens_carrier HearsV21 = 0
listens_carrier (HearsCheck speed) = speed_number speed
listens_carrier (HearsPages speed) = speed_number speed
listens_carrier (HearsV21First speed) = speed_number speed

-- why a call ended, by what a station heard or didn't hear
abbrev pub reason_number : End → ℕ
reason_number Normal = 1
reason_number NoAnswer = 2
reason_number NotCompatible = 3
reason_number BadTraining = 4
reason_number NoReply = 5
reason_number Unreadable = 6
reason_number StillBusy = 7
reason_number PeerLeft = 8
reason_number BadPage = 9
reason_number PageTooLong = 10

-- the number of why a call ended; 0 while it goes on
abbrev pub end_number : Option CallEnd → ℕ
end_number None = 0
end_number (Some (By reason)) = reason_number reason
end_number (Some Stopped) = 11
end_number (Some LineLost) = 12

-- 1 for yes, and 0 for no
abbrev pub flag_number : Bool → ℕ
flag_number is = cond is 1 0

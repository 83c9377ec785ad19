-- The durations of T.30, and the flags that last as long.
use Rattle.std.specs.Prelude.{ℕ}
use Rattle.signals.specs.declared.params.Speed.{Speed}
use Rattle.signals.specs.declared.params.Speed.TheVariants.{V27At2400, V27At4800, V29At7200, V29At9600, V17At7200, V17At9600, V17At12000}
use Rattle.signals.specs.declared.params.Speed.TheVariants.{V17At14400}
use Rattle.stations.specs.declared.carrier.Carrier.{Carrier}
use Rattle.stations.specs.declared.carrier.Carrier.TheVariants.{V21, Training, Page}
use Rattle.stations.specs.declared.waiting.Wait.{Wait}
use Rattle.stations.specs.declared.waiting.Wait.TheVariants.{T1, T2, T4, T5}

-- how long each wait runs, in milliseconds: within the limits of T.30, 5.4.3.1, which has 35 s ± 5 s, 6 s ± 1 s, 3 s ± 15 % and 60 s ± 5 s.
-- T2 is at its longest: with 6 s it would be over at the moment at which a caller's T4 is over for the second time
abbrev pub wait_millis : Wait → ℕ
wait_millis T1 = 35000
wait_millis T2 = 7000
wait_millis T4 = 3000
wait_millis T5 = 60000

-- the flags of 200 ms, which have eight bits each, at a speed in bits a second
abbrev pub page_flags : Speed → ℕ
page_flags V27At2400 = 60
page_flags V27At4800 = 120
page_flags V29At7200 = 180
page_flags V29At9600 = 240
page_flags V17At7200 = 180
page_flags V17At9600 = 240
page_flags V17At12000 = 300
page_flags V17At14400 = 360

-- how many flags go before the frames of a burst: 1 s of them at 300 bit/s by V.21, 200 ms at the speed of a page, none before a training
-- check
abbrev pub flags_before : Carrier → ℕ
flags_before V21 = 37
flags_before (Page speed) = page_flags speed
flags_before (Training speed) = 0

-- how many flags go after the frames of a burst: two, and none after a training check
abbrev pub flags_after : Carrier → ℕ
flags_after V21 = 2
flags_after (Page speed) = 2
flags_after (Training speed) = 0

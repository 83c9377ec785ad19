-- Laws of the numbers that C knows, in the order in which g3fax.h has them.
use Rattle.std.specs.Prelude.{ℕ, ◌≡◌, List, [], ◌∷◌, map}
use Rattle.std.specs.declared.option.Option.TheVariants.{None, Some}
use Rattle.raster.specs.declared.coding.Coding.{Coding}
use Rattle.raster.specs.declared.packed.Order.{Order}
use Rattle.page_files.specs.Found.{IsFormat}
use Rattle.page_files.specs.declared.found.Found.{Found}
use Rattle.page_files.specs.declared.found.Found.TheVariants as found
use Rattle.page_files.specs.declared.identify.Tried.{Tried}
use Rattle.page_files.specs.declared.two_dim.TwoDim.{TwoDim}
use Rattle.signals.specs.Training.{bits_a_second}
use Rattle.signals.specs.declared.params.Speed.{Speed}
use Rattle.signals.specs.declared.params.Speed.TheVariants.{V27At2400, V27At4800, V29At7200, V29At9600, V17At7200, V17At9600, V17At12000}
use Rattle.signals.specs.declared.params.Speed.TheVariants.{V17At14400}
use Rattle.stations.specs.declared.carrier.Carrier.TheVariants.{V21, Training, Page}
use Rattle.stations.specs.declared.listening.Listening.TheVariants.{V21 as HearsV21, Training as HearsCheck, V21OrPage as HearsPages}
use Rattle.stations.specs.declared.listening.Listening.TheVariants.{V21ThenPage as HearsV21First}
use Rattle.stations.specs.declared.stopping.CallEnd.TheVariants.{By, Stopped, LineLost}
use Rattle.stations.specs.declared.turn.End.TheVariants.{Normal, NoAnswer, NotCompatible, Training as BadTraining, NoReply, Unreadable}
use Rattle.stations.specs.declared.turn.End.TheVariants.{StillBusy, PeerLeft, BadPage, PageTooLong}
use Rattle.stations.specs.declared.waiting.Wait.{Wait}
use Rattle.stations.specs.declared.waiting.Wait.TheVariants.{T1, T2, T4, T5}
use Rattle.g3fax.specs.Codes.{coding_of, order_of}
use Rattle.g3fax.specs.Identifying.{found_told, order_number, two_dim_told}
use Rattle.g3fax.specs.Numbers.{carrier_number, check_number, end_number, listens_carrier, listens_number, millis_of, reason_number}
use Rattle.g3fax.specs.Numbers.{wait_number, wait_of}
use Rattle.g3fax.specs.SignalNumbers.{coding_number, rate_of}
use Rattle.g3fax.specs.Statuses.{bad_choice, bad_length, empty_handle, frame_lost, full_handle, no_memory, no_room, not_callable}
use Rattle.g3fax.specs.Statuses.{not_compatible, nothing_there, ok, other_handle}

-- The law: the statuses: done, no memory, not callable and not compatible; wrong use from 100 on: an empty handle, another kind, a full
-- one, no room, no such choice, a wrong length, and nothing there; and a frame that is lost.
pub record StatusesByOrder : Type 0 where
  pub calls : ok ∷ no_memory ∷ not_callable ∷ not_compatible ∷ [] ≡ 0 ∷ 9 ∷ 26 ∷ 28 ∷ []
  pub wrong_use : empty_handle ∷ other_handle ∷ full_handle ∷ no_room ∷ bad_choice ∷ bad_length ∷ nothing_there ∷ [] ≡
      100 ∷ 101 ∷ 102 ∷ 103 ∷ 104 ∷ 105 ∷ 106 ∷ []
  pub lost : frame_lost ≡ 108

-- The law: the ends from 1 on: normal, no answer, not compatible, training, no reply, unreadable, still busy, peer left, a bad page, a page
-- that is too long; stopped, and the line lost. 0 while the call goes on.
pub record EndsByOrder : Type 0 where
  pub reasons :
      map reason_number
      (Normal ∷ NoAnswer ∷ NotCompatible ∷ BadTraining ∷ NoReply ∷ Unreadable ∷ StillBusy ∷ PeerLeft ∷ BadPage ∷ PageTooLong ∷ []) ≡
      1 ∷ 2 ∷ 3 ∷ 4 ∷ 5 ∷ 6 ∷ 7 ∷ 8 ∷ 9 ∷ 10 ∷ []
  pub others : map end_number (None ∷ Some (By Normal) ∷ Some (By PageTooLong) ∷ Some Stopped ∷ Some LineLost ∷ []) ≡
      0 ∷ 1 ∷ 10 ∷ 11 ∷ 12 ∷ []

-- the speeds, by modems and rates
abbrev pub speeds : List Speed
speeds = V27At2400 ∷ V27At4800 ∷ V29At7200 ∷ V29At9600 ∷ V17At7200 ∷ V17At9600 ∷ V17At12000 ∷ V17At14400 ∷ []

-- The law: the carriers from 1 on: V.21, V.27 ter at 2,400 and 4,800 bit/s, V.29 at 7,200 and 9,600, V.17 at 7,200, 9,600, 12,000 and
-- 14,400; a training check's is that of the page after it. A station listens for V.21, a check, a page, or V.21 and then a page, by its
-- carrier.
pub record CarriersByOrder : Type 0 where
  pub v21 : carrier_number V21 ≡ 1
  pub rates : map bits_a_second speeds ≡ 2400 ∷ 4800 ∷ 7200 ∷ 9600 ∷ 7200 ∷ 9600 ∷ 12000 ∷ 14400 ∷ []
  pub pages : map (λ speed. carrier_number (Page speed)) speeds ≡ 2 ∷ 3 ∷ 4 ∷ 5 ∷ 6 ∷ 7 ∷ 8 ∷ 9 ∷ []
  pub told : map rate_of (0 ∷ 1 ∷ 2 ∷ 3 ∷ 4 ∷ 5 ∷ 6 ∷ 7 ∷ 8 ∷ 9 ∷ 10 ∷ []) ≡
      0 ∷ 300 ∷ 2400 ∷ 4800 ∷ 7200 ∷ 9600 ∷ 7200 ∷ 9600 ∷ 12000 ∷ 14400 ∷ 0 ∷ []
  pub checks : (speed : Speed) → carrier_number (Training speed) ≡ carrier_number (Page speed)
  pub is_check : (speed : Speed) → check_number (Training speed) ∷ check_number (Page speed) ∷ check_number V21 ∷ [] ≡ 1 ∷ 0 ∷ 0 ∷ []
  pub listens : (speed : Speed) →
      map listens_number (HearsV21 ∷ HearsCheck speed ∷ HearsPages speed ∷ HearsV21First speed ∷ []) ≡ 1 ∷ 2 ∷ 3 ∷ 4 ∷ []
  pub beside : (speed : Speed) → map listens_carrier (HearsV21 ∷ HearsCheck speed ∷ HearsPages speed ∷ HearsV21First speed ∷ []) ≡
      0 ∷ carrier_number (Page speed) ∷ carrier_number (Page speed) ∷ carrier_number (Page speed) ∷ []

-- The law: a wait has the number of its name, which is read as the wait again; 0 and 3 are none. They last 35 s, 7 s, 3 s and 60 s.
pub record WaitsByOrder : Type 0 where
  pub names : map wait_number (None ∷ Some T1 ∷ Some T2 ∷ Some T4 ∷ Some T5 ∷ []) ≡ 0 ∷ 1 ∷ 2 ∷ 4 ∷ 5 ∷ []
  pub back : (wait : Wait) → wait_of (wait_number (Some wait)) ≡ Some wait
  pub none : map wait_of (0 ∷ 3 ∷ 6 ∷ []) ≡ None ∷ None ∷ None ∷ []
  pub last : map (λ number. millis_of (wait_of number)) (1 ∷ 2 ∷ 3 ∷ 4 ∷ 5 ∷ []) ≡ 35000 ∷ 7000 ∷ 0 ∷ 3000 ∷ 60000 ∷ []

-- The law: what octets are, from 1 on: pages, another format, a page of which several widths fit, nothing known, a page without an end. The
-- numbers of a page's code and order are read as these again.
pub record FoundsByOrder : Type 0 where
  pub page : (one : Tried) → (found_told (found.Page one)).kind ≡ 1
  pub begun : (one : Tried) → (found_told (found.Begun one)).kind ≡ 5
  pub two_dim : (said : TwoDim) → (two_dim_told said).kind ≡ 6
  pub format : (name : List ℕ) (what : Found) → IsFormat name what → (found_told what).kind ≡ 2
  pub others : map (λ what. (found_told what).kind) (found.Several ∷ found.Nothing ∷ []) ≡ 3 ∷ 4 ∷ []
  pub coding : (coding : Coding) → coding_of (coding_number coding) ≡ Some coding
  pub order : (order : Order) → order_of (order_number order) ≡ Some order

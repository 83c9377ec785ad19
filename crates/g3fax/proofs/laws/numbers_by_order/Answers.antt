use Rattle.std.proofs.Common.{◌≡◌, ℕ, List, refl}
use Rattle.raster.specs.declared.coding.Coding.{Coding}
use Rattle.raster.specs.declared.coding.Coding.TheVariants.{OneDim, T6}
use Rattle.raster.specs.declared.packed.Order.{Order}
use Rattle.raster.specs.declared.packed.Order.TheVariants.{LsbFirst, MsbFirst}
use Rattle.page_files.specs.Found.{IsFormat}
use Rattle.page_files.specs.declared.found.Found.{Found}
use Rattle.page_files.specs.declared.found.Found.TheVariants as found
use Rattle.std.specs.declared.option.Option.TheVariants.{Some}
use Rattle.stations.specs.declared.waiting.Wait.{Wait}
use Rattle.stations.specs.declared.waiting.Wait.TheVariants.{T1, T2, T4, T5}
use Rattle.g3fax.specs.Codes.{coding_of, order_of}
use Rattle.g3fax.specs.Identifying.{found_told, order_number}
use Rattle.g3fax.specs.Numbers.{wait_number, wait_of}
use Rattle.g3fax.specs.SignalNumbers.{coding_number}
use Rattle.g3fax.proofs.laws.numbers_by_order.Goals as goal

pub returns-clause-statuses : goal.returns-clause-statuses
returns-clause-statuses c = record { calls = refl; wrong_use = refl; lost = refl }

pub returns-clause-ends : goal.returns-clause-ends
returns-clause-ends c = record { reasons = refl; others = refl }

pub returns-clause-carriers : goal.returns-clause-carriers
returns-clause-carriers c = record {
  v21 = refl;
  rates = refl;
  pages = refl;
  told = refl;
  checks = λ speed. refl;
  is_check = λ speed. refl;
  listens = λ speed. refl;
  beside = λ speed. refl;
}

back : (wait : Wait) → wait_of (wait_number (Some wait)) ≡ Some wait
back T1 = refl
back T2 = refl
back T4 = refl
back T5 = refl

pub returns-clause-waits : goal.returns-clause-waits
returns-clause-waits c = record { names = refl; back = back; none = refl; last = refl }

format : (name : List ℕ) (what : Found) → IsFormat name what → (found_told what).kind ≡ 2
format name (found.Format given) h = refl
format name (found.Page _) h = elim h [ ]
format name (found.Begun _) h = elim h [ ]
format name found.Several h = elim h [ ]
format name found.Nothing h = elim h [ ]

coding : (coding : Coding) → coding_of (coding_number coding) ≡ Some coding
coding OneDim = refl
coding T6 = refl

order : (order : Order) → order_of (order_number order) ≡ Some order
order MsbFirst = refl
order LsbFirst = refl

pub returns-clause-founds : goal.returns-clause-founds
returns-clause-founds c = record { page = λ one. refl; begun = λ one. refl; two_dim = λ said. refl; format = format; others = refl; coding = coding; order = order }

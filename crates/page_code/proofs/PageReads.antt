-- What octets are read as, by reading on to the page's end or to a refusal.
use Rattle.std.proofs.Common.{ℕ, ◌≡◌, ◌≢◌, List, length, inl, inr, refl, subst, Bool}
use Rattle.std.specs.Prelude.{Ok, Err}
use Rattle.raster.specs.Pixels.{IsWidth}
use Rattle.run_tables.specs.declared.fault.CodeFault.{CodeFault}
use Rattle.run_tables.specs.declared.fault.CodeFaultKind.TheVariants.{NoMemory}
use Rattle.raster.specs.declared.coding.Coding.{Coding}
use Rattle.page_code.specs.declared.page.Progress.{Progress}
use Rattle.page_code.specs.Codings.{read_rows}
use Rattle.page_code.specs.RowsSoFar.{AreRowsSoFar, IsReadTo, ReadsOn}
use Rattle.page_code.specs.declared.one_dim.open_row.OpenRow.{OpenRow}
use Rattle.page_code.specs.PageReaders.{HasRowsBefore, IsPageRead, IsPageRefused, IsRead, PageReading}
use Rattle.page_code.specs.declared.page_reader.PageRead.{PageRead}
use Rattle.page_code.proofs.PageReaders.{finish_only, finish_reads, finish_refuses, reading_of, salvaged}
use Rattle.raster.specs.Packed.{bits_of}
use Rattle.raster.specs.declared.packed.Order.{Order}

pub page_read : (coding : Coding) (bits : List Bool) (old new : Progress) (used : ℕ) → IsWidth old.page.width
    → ReadsOn coding bits old new (Ok used) → IsPageRead coding old.page.width old.page.fine bits new.page used
page_read coding bits old new used wide on =
    let same : read_rows coding old.page.width bits ≡ Ok (new.page.rows, used) =
    subst (λ (w : ℕ). read_rows coding w bits ≡ Ok (new.page.rows, used)) on.0.width on.1 in
    record {
      reads = finish_reads coding old.page.width old.page.fine bits (Ok (new.page, used)) wide (on.0.width, on.0.fine, same);
      only = finish_only coding old.page.width old.page.fine bits (Ok (new.page, used)) wide (on.0.width, on.0.fine, same);
      gives = same;
    }

pub page_refused : (coding : Coding) (bits : List Bool) (old new : Progress) (fault : CodeFault) → IsWidth old.page.width
    → fault.kind ≢ NoMemory → ReadsOn coding bits old new (Err fault)
    → IsPageRefused coding old.page.width bits (record { fault = fault; rows = length new.page.rows; row_start = new.place })
page_refused coding bits old new fault wide differs (inl memory) = absurd (differs memory)
page_refused coding bits old new fault wide differs (inr on) =
    let same : read_rows coding old.page.width bits ≡ Err (fault.place, fault.kind) =
    subst (λ (w : ℕ). read_rows coding w bits ≡ Err (fault.place, fault.kind)) on.0.width on.1 in
    record {
      refuses = finish_refuses coding old.page.width old.page.fine bits (Err fault) wide (inr same) differs;
      gives = same;
      memory = differs;
      counted = subst (λ w. AreRowsSoFar coding w bits (length new.page.rows)) on.0.width on.2;
      row_start = (new.page.rows, refl, subst (λ w. IsReadTo coding w bits new.page.rows new.place) on.0.width on.0.read);
    }

-- the whole rows that were read before the refusal
pub rows_before : (coding : Coding) (bits : List Bool) (old new : Progress) (fault : CodeFault) → IsWidth old.page.width
    → fault.kind ≢ NoMemory → ReadsOn coding bits old new (Err fault)
    → HasRowsBefore coding old.page.width old.page.fine bits (record { fault = fault; rows = length new.page.rows; row_start = new.place })
    new.page
rows_before coding bits old new fault wide differs (inl memory) = absurd (differs memory)
rows_before coding bits old new fault wide differs (inr on) = record {
  width_is = on.0.width;
  fine_is = on.0.fine;
  whole = salvaged coding old.page.width bits old new wide refl (on.0, on.2);
  counted = refl;
  row_start = subst (λ w. IsReadTo coding w bits new.page.rows new.place) on.0.width on.0.read;
}

-- what a reader reads octets as
pub read_now : (coding : Coding) (order : Order) (old : Progress) (passed : OpenRow) (count : ℕ) (kept : List ℕ) (now : PageReading)
    → reading_of coding order old passed count kept ≡ now → (all : List ℕ) (read : PageRead) → IsRead coding old.page.width old.page.fine
    (bits_of order all) read
    → IsRead now.coding now.page.width now.page.fine (bits_of now.order all) read
read_now coding order old passed count kept now view all read is =
    subst (λ (r : PageReading). IsRead r.coding r.page.width r.page.fine (bits_of r.order all) read) view is

-- What the check asks of `next`.
use Rattle.std.proofs.Common.{Ok, Err, arith, refl, subst}
use Rattle.std.specs.declared.alloc.AllocError.{AllocError}
use Rattle.page_code.specs.RowReaders.{ReadsNext}
use Rattle.page_code.specs.declared.page_rows.NextRow.{NextRow}
use Rattle.page_code.specs.declared.page_rows.NextRow.TheVariants.{Row, End, Refused}
use Rattle.g3fax.proofs.row_readers.next.Goals as goal

-- src/row_readers.rt:95:1
pub returns-in-Ok-Row : goal.returns-in-Ok-Row
returns-in-Ok-Row c = record {
  small = λ small. absurd (omega (arith, small, c.div_ceil-wanted.ensures, c.if-buffer-wanted.false));
  fits = λ fits. (
    Ok (Row c.in-Ok-Row.row),
    subst (λ (found : NextRow). ReadsNext {E = AllocError} c.args.reader.now c.next_row.new.self (Ok found)) c.in-Ok-Row.field-0-is
        c.in-Ok-Row.ensures,
    (c.octets.result.now, c.octets.ensures, c.copy_out.ensures),
  );
}

pub returns-in-Ok-End : goal.returns-in-Ok-End
returns-in-Ok-End c = record {
  small = λ small. absurd (omega (arith, small, c.div_ceil-wanted.ensures, c.if-buffer-wanted.false));
  fits = λ fits. (
    Ok (End c.in-Ok-End.used),
    subst (λ (found : NextRow). ReadsNext {E = AllocError} c.args.reader.now c.next_row.new.self (Ok found)) c.in-Ok-End.field-0-is
        c.in-Ok-End.ensures,
    (refl, refl, c.in_64_bits.ensures.tells),
  );
}

pub returns-in-Ok-Refused : goal.returns-in-Ok-Refused
returns-in-Ok-Refused c = record {
  small = λ small. absurd (omega (arith, small, c.div_ceil-wanted.ensures, c.if-buffer-wanted.false));
  fits = λ fits. (
    Ok (Refused c.in-Ok-Refused.fault),
    subst (λ (found : NextRow). ReadsNext {E = AllocError} c.args.reader.now c.next_row.new.self (Ok found)) c.in-Ok-Refused.field-0-is
        c.in-Ok-Refused.ensures,
    (c.number.ensures, refl, c.in_64_bits-in-Ok-Refused.ensures.tells),
  );
}

pub returns-in-Err : goal.returns-in-Err
returns-in-Err c = record {
  small = λ small. absurd (omega (arith, small, c.div_ceil-wanted.ensures, c.if-buffer-wanted.false));
  fits = λ fits. (Err tt, c.in-Err.ensures, (refl, refl));
}

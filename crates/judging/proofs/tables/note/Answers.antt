-- `judging::tables::note` meets its contract: a bit that is not set is added, and the word keeps to its 64 bits. A number beyond the table
-- has no bit.
use native.Mathlib.Omega.{arith}
use Prim.Native.Nat.{ℕ, ◌+◌, ◌/◌, ◌%◌, ◌^◌, ◌<◌}
use mathlib.Core.Path.{sym, ap, subst⁻¹}
use lib.ListN.{get_or, set}
use lib.Seq.{set_out}
use Rattle.book.specs.Tables.{noting}
use Rattle.book.proofs.TableLaws.{one_shifted, fits_64, clear_bit}
use Rattle.judging.proofs.tables.note.Goals as goal

pub overflow_add-table : goal.overflow_add-table
overflow_add-table c =
    let l = c.args.number in
    let t = c.args.table.now in
    record {
      fits =
          subst⁻¹ (λ (b : ℕ). get_or t (l / 64) 0 + b < 2 ^ 64) (one_shifted (l % 64) (omega arith))
          (fits_64 (get_or t (l / 64) 0) (l % 64) (omega arith) (clear_bit t l c.requires)
          (c.slice_known-1.given (l / 64)).fits);
    }

pub returns-then-place-table : goal.returns-then-place-table
unfolding noting
returns-then-place-table c =
    let l = c.args.number in
    let t = c.args.table.now in
    ap (λ b. set t (l / 64) (get_or t (l / 64) 0 + b)) (one_shifted (l % 64) (omega arith))

pub returns-else-place-table : goal.returns-else-place-table
unfolding noting
returns-else-place-table c =
    let l = c.args.number in
    let t = c.args.table.now in
    sym (set_out t (l / 64) (get_or t (l / 64) 0 + 2 ^ (l % 64)) c.if-place-table.false)

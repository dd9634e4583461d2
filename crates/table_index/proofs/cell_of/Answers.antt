-- `cell_of` returns what its definition says: the key is below 2^20, the mark below 2, the code below 32.
use native.Mathlib.Omega.{arith}
use mathlib.Core.Path.{refl}
use Rattle.table_index.specs.internal.Cells.{cell_of}
use Rattle.table.specs.Entry.{entry}
use Rattle.table_index.proofs.Words.{small, key_low}
use Rattle.table_index.proofs.cell_of.Goals as goal

pub overflow_mul-result : goal.overflow_mul-result
overflow_mul-result c = omega (arith, key_low c.args.w (small c.args.w c.requires.w_value), c.requires.key_value)

pub overflow_add-result : goal.overflow_add-result
overflow_add-result c = omega (arith, key_low c.args.w (small c.args.w c.requires.w_value), c.requires.key_value)

pub overflow_mul-result-2 : goal.overflow_mul-result-2
overflow_mul-result-2 c = omega (arith, key_low c.args.w (small c.args.w c.requires.w_value), c.requires.key_value)

pub overflow_add-result-2 : goal.overflow_add-result-2
overflow_add-result-2 c = omega (arith, key_low c.args.w (small c.args.w c.requires.w_value), c.requires.key_value)

pub overflow_mul-result-3 : goal.overflow_mul-result-3
overflow_mul-result-3 c = omega (arith, key_low c.args.w (small c.args.w c.requires.w_value), c.requires.key_value)

pub overflow_add-result-3 : goal.overflow_add-result-3
overflow_add-result-3 c = omega (arith, key_low c.args.w (small c.args.w c.requires.w_value), c.requires.key_value)

pub overflow_cast-result : goal.overflow_cast-result
overflow_cast-result c =
    let s = small c.args.w c.requires.w_value in
    omega (arith, key_low c.args.w s, c.requires.key_value, s.kinds, s.inner, s.mark)

pub returns : goal.returns
unfolding cell_of entry
returns c = rw c.requires.key_value refl

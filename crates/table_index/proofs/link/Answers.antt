-- `link` puts a cell before the others of its bucket.
use native.Mathlib.Omega.{arith}
use mathlib.Core.Path.{refl}
use Rattle.table_index.specs.internal.Cells.{linked}
use Rattle.table_index.proofs.Chains.{bucket_low}
use Rattle.table_index.proofs.Words.{small, key_low}
use Rattle.table_index.proofs.link.Goals as goal

pub bucket-b-requires : goal.bucket-b-requires
bucket-b-requires c = omega (arith, key_low c.args.w (small c.args.w c.requires.w_value), c.requires.key_value)

pub offset_bounds-cells-b : goal.offset_bounds-cells-b
offset_bounds-cells-b c = omega (arith, c.bucket-b.ensures, bucket_low c.args.key)

pub bounds-cells-b : goal.bounds-cells-b
bounds-cells-b c = omega (arith, c.bucket-b.ensures, bucket_low c.args.key)

pub offset_bounds-cells-b-2 : goal.offset_bounds-cells-b-2
offset_bounds-cells-b-2 c = omega (arith, c.bucket-b.ensures, bucket_low c.args.key)

pub bounds-cells-b-2 : goal.bounds-cells-b-2
bounds-cells-b-2 c = omega (arith, c.bucket-b.ensures, bucket_low c.args.key)

pub returns : goal.returns
unfolding linked
returns c = rw (← c.requires.key_value, ← c.bucket-b.ensures, ← c.cell_of.ensures) refl

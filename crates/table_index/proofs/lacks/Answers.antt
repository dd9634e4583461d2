-- `lacks` returns what its definition says: in an empty bucket the search finds nothing.
use native.Mathlib.Omega.{arith}
use Prim.Native.Nat.{ℕ}
use mathlib.Core.Path.{refl, sym, ap, ◌∙◌}
use lib.Dec.{eqb}
use lib.ListN.{get_or}
use Rattle.table_index.proofs.Chains.{bucket_low, search_from, search_empty}
use Rattle.table_index.proofs.lacks.Goals as goal

pub offset_bounds-cells-bucket : goal.offset_bounds-cells-bucket
offset_bounds-cells-bucket c = omega (arith, c.bucket.ensures, bucket_low c.args.key)

pub bounds-cells-bucket : goal.bounds-cells-bucket
bounds-cells-bucket c = omega (arith, c.bucket.ensures, bucket_low c.args.key)

pub returns-then-head-eq0 : goal.returns-then-head-eq0
returns-then-head-eq0 c =
    let a = c.args in
    let head = c.from-head.ensures ∙ ap (λ (b : ℕ). get_or a.cells.now b 0) c.bucket.ensures in
    rw (search_empty a.cells.now a.key (sym head ∙ c.if-head-eq0.true)) refl

pub returns : goal.returns
returns c =
    let a = c.args in
    let head = c.from-head.ensures ∙ ap (λ (b : ℕ). get_or a.cells.now b 0) c.bucket.ensures in
    ap (λ (r : ℕ). eqb r 0) (c.follow.ensures ∙ sym (search_from a.cells.now a.key head))

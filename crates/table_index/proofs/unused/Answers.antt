-- `unused` returns what its definition says: the bits of the words decide.
use Prim.Native.Nat.{◌-◌}
use native.Mathlib.Omega.{arith}
use mathlib.Core.Path.{◌≡◌, ◌∙◌}
use lib.ListN.{length, take, drop, length-drop}
use Rattle.std.proofs.lemmas.List.{drop_min}
use lib.Seq.{take_all}
use Rattle.table_index.proofs.Zeros.{joined_zero}
use Rattle.table_index.proofs.unused.Goals as goal

pub returns : goal.returns
returns c =
    let words = c.args.words.now in
    let n = c.args.n in
    let k = c.min.result in
    let rest : take (length words - k) (drop k words) ≡ drop n words =
    take_all (length words - k) (drop k words) (omega (arith, length-drop k words)) ∙ rw c.min.ensures (drop_min n words) in
    rw (c.joined.ensures, rest) (joined_zero (drop n words) 0)

-- The bounds of the numbers of an entry in range.
use Prim.Native.Nat.{◌≤◌}
use mathlib.Core.Path.{◌≡◌}
use mathlib.Core.Bool.{true, cond}
use lib.Dec.{eqb, leb}
use borrow.Author.Tests.{leb-true}
use Rattle.octets.proofs.Bools.{and_four}
use Rattle.tib_dictionary.specs.Entry.{in_range}
use Rattle.tib_dictionary.specs.declared.Entry.{Entry}

pub record Bounds (e : Entry) : Type 0 where
  pub fid : e.fid ≤ 16383
  pub kind : e.kind ≤ 21
  pub size : e.size ≤ 65535

pub bounds : (e : Entry) → in_range e ≡ true → Bounds e
unfolding in_range
bounds e h =
    let b = and_four (leb e.fid 16383) (leb e.kind 21) (leb e.size 65535) (cond (eqb e.kind 15) (eqb e.size 9) true) h in
    record { fid = leb-true e.fid 16383 b.0; kind = leb-true e.kind 21 b.1; size = leb-true e.size 65535 b.2 }

-- `entry_at` returns what its definition says. Its numbers are those of one and two octets.
use Prim.Native.Nat.{◌+◌}
use native.Mathlib.Omega.{arith}
use Rattle.tib_dictionary_index.proofs.Fronts.{entry_read}
use Rattle.tib_dictionary_index.proofs.entry_at.Goals as goal

pub returns : goal.returns
returns c =
    let a = c.args in
    let fid = c.two in
    let kind = c.from in
    let size = c.two-2 in
    record {
      value = entry_read a.s.now a.at fid.result kind.result size.result fid.ensures.0 kind.ensures size.ensures.0;
      fid_bound = (fid.ensures.1, omega (arith, kind.ensures, c.type_inv.s (a.at + 5)), size.ensures.1);
    }

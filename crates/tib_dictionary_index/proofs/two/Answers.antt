-- `two` returns the number in two octets.
use native.Mathlib.Omega.{arith}
use mathlib.Core.Path.{◌∙◌}
use Rattle.tib_dictionary_index.proofs.Fronts.{two_read}
use Rattle.tib_dictionary_index.proofs.two.Goals as goal

pub returns : goal.returns
returns c =
    let a = c.args in
    let n = c.from_be_bytes in
    (two_read a.s.now a.at c.from.result (omega arith) (c.from.ensures ∙ n.ensures), omega (arith, c.from.ensures, n.type_inv))

-- `octets_text::wrong_second` meets its contract.
use Rattle.std.proofs.Common.{◌≡◌, ◌∙◌, rules}
use lib.Bits.{bit_or, bit_and, bit_xor}
use Rattle.octets_text.proofs.Judging.{wrong_second, wrong_second_is, no_wrong_second}
use Rattle.octets_text.proofs.wrong_second.Goals as goal

pub returns : goal.returns
returns c =
    let k = c in
    let t = c.upper_part in
    let e : bit_and (bit_xor t.result c.upper_only-upper.result) (bit_or c.upper_only-upper.result c.lower_only.result)
    ≡ wrong_second k.args.c t.result =
    rw (c.lower_only.ensures, c.upper_only-upper.ensures) in record { result_value = λ l h. rw e (wrong_second_is k.args.c k.args.x t.result (search rules) l h (t.ensures l h)); value = λ h. e ∙ no_wrong_second k.args.c t.result h }

-- `tib_msg_field::type_allowed` meets its contract.
use lib.Bits.{and_mask}
use native.Mathlib.Omega.{arith}
use mathlib.Core.Path.{◌∙◌}
use Rattle.tib_msg_field.proofs.TypeTests.{type_over, type_plain, type_hinted}
use Rattle.tib_msg_field.proofs.type_allowed.Goals as goal

pub returns-then-low-gt10 : goal.returns-then-low-gt10
returns-then-low-gt10 c = let o = c.args.c in type_over o _ (and_mask o 6) c.if-low-gt10.true

pub returns-then-low-lt8 : goal.returns-then-low-lt8
returns-then-low-lt8 c = let o = c.args.c in type_plain o _ (and_mask o 6) c.if-low-gt10.false (λ e. omega arith) (λ e. omega arith)

pub returns-then-low-eq10 : goal.returns-then-low-eq10
returns-then-low-eq10 c = let o = c.args.c in type_plain o _ (and_mask o 6) c.if-low-gt10.false (λ e. omega arith) (λ e. omega arith)

pub returns : goal.returns
returns c =
    let o = c.args.c in
    c.hinted.ensures ∙ type_hinted o _ (and_mask o 6) c.if-low-gt10.false c.if-low-lt8.false c.if-low-eq10.false

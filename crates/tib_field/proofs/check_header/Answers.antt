-- `tib_field::check_header` meets its contract.
use native.Mathlib.Omega.{arith}
use mathlib.Core.Path.{refl, sym, ◌∙◌}
use Rattle.tib_field.proofs.Headers.{header_cut_lem, other_magic_lem, other_size_lem, good_header, size_read}
use Rattle.tib_field.proofs.check_header.Goals.{then-n-lt4-via-then-n-lt4, then-n-lt4-via-else-n-lt4+then-n-m}
use Rattle.tib_field.proofs.check_header.Goals as goal

pub returns-then-n-lt4 : goal.returns-then-n-lt4
returns-then-n-lt4 c =
    let a = c.args in
    elim c.then-n-lt4.branch [
      | then-n-lt4-via-then-n-lt4 w ↦ header_cut_lem a.mark.now a.s.now (omega arith)
      | then-n-lt4-via-else-n-lt4+then-n-m w ↦ header_cut_lem a.mark.now a.s.now (omega arith)
    ]

pub returns-then-not-begins : goal.returns-then-not-begins
returns-then-not-begins c = let a = c.args in let h = c.if-n-m.false in other_magic_lem a.mark.now a.s.now (omega arith) (sym c.begins.ensures ∙ c.if-not-begins.true)

pub returns-then-uint-n : goal.returns-then-uint-n
returns-then-uint-n c =
    let a = c.args in
    let h = c.if-n-m.false in
    let b = c.if-n-lt4.false in
    let m = sym c.begins.ensures ∙ c.if-not-begins.false in
    let l = size_read a.mark.now a.s.now (omega arith) _ c.uint.result refl c.uint.ensures in
    other_size_lem a.mark.now a.s.now (omega arith) m (λ e. c.if-uint-n.true (sym l ∙ e))

pub returns : goal.returns
returns c =
    let a = c.args in
    let h = c.if-n-m.false in
    let b = c.if-n-lt4.false in
    let m = sym c.begins.ensures ∙ c.if-not-begins.false in
    let l = size_read a.mark.now a.s.now (omega arith) _ c.uint.result refl c.uint.ensures in
    good_header a.mark.now a.s.now (omega arith) m (l ∙ c.if-uint-n.false)

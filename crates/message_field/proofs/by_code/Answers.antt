-- `by_code` passes a field by its first octet, and else goes by the code.
use Prim.Native.Nat.{◌-◌}
use native.Mathlib.Omega.{arith}
use mathlib.Core.Path.{ap, ◌∙◌}
use mathlib.Core.Bool.{Bool, ◌&&◌}
use lib.ListN.{take, drop}
use Rattle.octets.proofs.Bools.{true_second}
use Rattle.table_index.specs.internal.Cells.{meaning_of}
use Rattle.message.specs.internal.Short.{short_contents}
use Rattle.message_field.specs.internal.Nexts.{Over}
use Rattle.message_field.proofs.Nexts.{deep_plain, by_kind, plain_at}
use Rattle.message_field.proofs.by_code.Goals as goal

pub needs_first_octet-requires : goal.needs_first_octet-requires
needs_first_octet-requires c = let p = c.requires in (p.0, p.1, c.if-e-a-le8.true)

pub returns-then-needs_first_octet : goal.returns-then-needs_first_octet
returns-then-needs_first_octet c =
    let d = c in
    let b = d in
    let a = b.args in
    let k = d.if-code-lt4.true in
    let few = d.if-e-a-le8.true in
    let contents = take (a.e - a.a) (drop a.a a.s.now) in
    let short = a.short && short_contents (meaning_of a.code) contents in
    by_kind a.nested (meaning_of a.code) a.a short a.seen contents (deep_plain a.nested a.code (omega arith))
    (ap (λ (t : Bool). Over a.e t a.seen) (true_second a.short _ (d.needs_first_octet.ensures a.code k c.if-needs_first_octet.true))
    ∙ plain_at a.code a.s.now a.a a.e b.requires short a.seen k (λ w x. omega (arith, few)) (λ w x. omega (arith, few)))

pub by_any_code-requires : goal.by_any_code-requires
by_any_code-requires c = c.requires

pub returns : goal.returns
returns c = c.by_any_code.ensures

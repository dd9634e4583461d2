-- `look_at` notes the tag and looks at the first octets.
use Rattle.message_field.proofs.Nexts.{cell_small}
use Rattle.message_calls.proofs.traversal.look_at.Goals as goal

pub returns-in_default-note : goal.returns-in_default-note
returns-in_default-note c = (c.in-Some.ensures, c.in_default-note.ensures)

pub quick-requires : goal.quick-requires
quick-requires c = let a = c.args in cell_small a.cells.now a.number a.s.now a.i c.in-Some.cell c.in-Some.ensures

pub returns-in-Some-quick : goal.returns-in-Some-quick
returns-in-Some-quick c =
    let q = c.in-Some-quick.ensures in
    let e = c.code-code.ensures in
    (record { cell = c.in-Some.cell; found = c.in-Some.ensures; noted = c.in-Some-note.ensures }, rw (← e) q.0, q.1, rw (← e) q.2)

pub returns-in-None : goal.returns-in-None
returns-in-None c =
    let q = c.in-None.ensures in
    (record { cell = c.in-Some.cell; found = c.in-Some.ensures; noted = c.in-Some-note.ensures }, c.code-code.ensures, q.0, q.1)

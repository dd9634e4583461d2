-- `octets_read::after_leads` meets its contract.
use Prim.Native.Nat.{◌+◌}
use mathlib.Core.Path.{◌≡◌, ap, ◌∙◌}
use mathlib.Core.Bool.{◌&&◌}
use Rattle.octets.specs.Control.{control_of}
use Rattle.octets.specs.declared.Control.TheVariants.{Whole}
use Rattle.octets.specs.internal.Least.{least_leads}
use Rattle.octets.proofs.Bools.{first_decides, second_decides}
use Rattle.octets_read.proofs.Leads.{partial, whole}
use Rattle.octets_read.proofs.Shortness.{both_least}
use Rattle.octets.specs.declared.ReadUint.{ReadUint}
use Rattle.octets_read.proofs.after_leads.Goals as goal
use Rattle.octets_read.proofs.after_leads.Goals.{After-length_value-length}

pub returns-then-s-e : goal.returns-then-s-e
unfolding least_leads
returns-then-s-e c =
    let b = c in
    let e =
    partial b.args.t b.args.l c.tag_width-n.result c.length_width.result b.args.s.now
    c.tag_width-n.ensures.value c.length_width.ensures.value c.if-s-e.true in record { control_value = e; shortest_value = ap (least_leads b.args.t b.args.l) e }

-- What is read where all octets are there, and whether it is the shortest form.
abbrev Tag : After-length_value-length → ReadUint
Tag c = c.tag_value-tag.result

abbrev Length : After-length_value-length → ReadUint
Length c = c.length_value-length.result

all_there : (c : After-length_value-length)
    → let w = c in
    let a = w.args in
    (Whole (Tag c).value (Length c).value (1 + (w.tag_width-n.result + w.length_width.result)) ≡ control_of a.t a.l a.s.now)
    × ((Tag c).shortest && (Length c).shortest ≡ least_leads a.t a.l (control_of a.t a.l a.s.now))
all_there c =
    let w = c in
    let a = w.args in
    let tag = c.tag_value-tag.ensures in
    let len = c.length_value-length.ensures in
    let e =
    whole a.t a.l w.tag_width-n.result w.length_width.result a.s.now w.tag_width-n.ensures.value
    w.length_width.ensures.value (Tag c).value (Length c).value c.if-s-e.false tag.value_value len.value_value in (
      e,
      both_least a.t a.l (Tag c).value (Length c).value _ (Tag c).shortest (Length c).shortest tag.shortest_value len.shortest_value
          ∙ ap (least_leads a.t a.l) e,
    )

pub returns-then-tag : goal.returns-then-tag
returns-then-tag c =
    let e = all_there (goal.at.returns-then-tag c).After-length_value-length in record { control_value = e.0; shortest_value = second_decides (Tag (goal.at.returns-then-tag c).After-length_value-length).shortest (Length (goal.at.returns-then-tag c).After-length_value-length).shortest _ c.if-tag.true e.1 }

pub returns-else-tag : goal.returns-else-tag
returns-else-tag c =
    let e = all_there (goal.at.returns-else-tag c).After-length_value-length in record { control_value = e.0; shortest_value = first_decides (Tag (goal.at.returns-else-tag c).After-length_value-length).shortest (Length (goal.at.returns-else-tag c).After-length_value-length).shortest _ c.if-tag.false e.1 }

-- A step of the reading finds just the fields that the layout allows, and what is wrong with others.
use Prim.Native.Nat.{ℕ}
use native.Mathlib.Omega.{arith}
use mathlib.Core.Path.{◌≡◌, sym, ap, ap₂, ◌∙◌}
use mathlib.Core.List.{List}
use Rattle.tib_field.proofs.Rows as rows
use Rattle.tib_field.proofs.Steps as reads
use Rattle.tib_field.proofs.Steps.{Found, Exact}
use Rattle.tib_field.specs.Steps.{Over}
use Rattle.tib_msg_field.specs.declared.Sizes.{Sizes}
use Rattle.tib_msg_field.specs.Layout.{Parts, octets, Allowed}
use Rattle.tib_msg_field.specs.FirstFault.{WrongField}
use Rattle.tib_msg_field.specs.Reading.{next_field, total, parts_at, fields_from}
use Rattle.tib_msg_field.specs.internal.Sizes.{sizes}
use Rattle.tib_msg_field.proofs.Steps.{step_found, step_of_field, step_of_end, parts_of_field, length_octets}
use Rattle.tib_msg_field.proofs.WrongFields.{step_done, field_told, wrong_field_lem}

found : (s : List ℕ) (z : Sizes) → next_field s ≡ Over z → Found octets Allowed WrongField next_field total parts_at s z
found s z e =
    let f = step_found s z e in
    record {
      field = f.field;
      rest = f.rest;
      divides = f.divides;
      allowed = f.allowed;
      measured = length_octets f.field ∙ ap total f.sized;
      parts = ap₂ parts_at f.divides (sym f.sized) ∙ parts_of_field f.field f.rest;
    }

pub exact : Exact octets Allowed WrongField next_field total parts_at
unfolding total
exact =
    record {
      sized = λ f. let l = length_octets f in omega arith;
      at_end = step_of_end;
      done = step_done;
      found = found;
      of_field = λ f rest a. (sizes f, step_of_field f rest a, parts_of_field f rest, sym (length_octets f));
      told = field_told;
      of_wrong = wrong_field_lem;
    }

-- What one step of the reading does, as the laws of rows ask for it.
pub steps : rows.Steps octets (λ (b : List Parts). Allowed) (λ (b : List Parts). WrongField) (λ (s : List ℕ). Unit {0}) (λ (b : List Parts). fields_from)
steps = reads.steps octets Allowed WrongField next_field total parts_at exact

-- The loop invariant of the traversal of a message's fields by the cells of a dictionary, and what each turn of the loop does to it.
use Prim.Native.Nat.{ℕ, ◌+◌, ◌≤◌, ◌<◌}
use native.Mathlib.Omega.{arith}
use mathlib.Core.Path.{◌≡◌}
use mathlib.Core.List.{List}
use lib.ListN.{length, drop}
use Rattle.octets.specs.Number.{Octets}
use Rattle.reading.specs.internal.Verdicts.{Verdict, Accepted, Refused}
use Rattle.tib_field.specs.Steps.{Fault, Over}
use Rattle.tib_field.proofs.Traversals as traversals
use Rattle.tib_dictionary.specs.internal.Cells.{CellsOf}
use Rattle.tib_dictionary.specs.declared.Entry.{Entry}
use Rattle.tib_qform_field.specs.Layout.{octets, Allowed}
use Rattle.tib_qform_field.specs.FirstFault.{WrongField}
use Rattle.tib_qform_field.specs.Reading.{next_field, total, parts_at}
use Rattle.tib_qform_field.specs.internal.Octets.{octets_by}
use Rattle.tib_qform_field.proofs.Steps.{exact}
use Rattle.tib_qform_field.proofs.Octets.{field_inside, octets_at}

-- The verdict of the fields under entries.
abbrev pub whole : List Entry → List ℕ → Verdict
whole es s = traversals.whole octets (Allowed es) (WrongField es) (next_field es) total parts_at (exact es) 8 s

-- After i octets, with f fields so far, for all entries that the cells note.
pub record State (cells s : List ℕ) (i f : ℕ) : Type 0 where
  pub few : f ≤ i
  pub reads : (es : List Entry) → CellsOf es cells
      → traversals.State octets (Allowed es) (WrongField es) (next_field es) total parts_at (exact es) 8 s i f

module _ (cells s : List ℕ) where
  pub start : 8 ≤ length s → State cells s 8 0
  start h =
      record {
        few = omega arith;
        reads = λ es noted. traversals.start octets (Allowed es) (WrongField es) (next_field es) total parts_at (exact es) 8 s h;
      }

  module _ (i f : ℕ) (now : State cells s i f) where
    pub at_end : length s ≤ i → (es : List Entry) → CellsOf es cells → Accepted f 1 ≡ whole es s
    at_end h es noted =
        traversals.at_end octets (Allowed es) (WrongField es) (next_field es) total parts_at (exact es) 8 s i f (now.reads es noted) h

    -- The step after i octets.
    module _ (o : Octets s) where
      pub at_fault : (k : ℕ) → Fault k ≡ octets_by cells (drop i s) → (es : List Entry) → CellsOf es cells → Refused k i ≡ whole es s
      at_fault k e es noted =
          traversals.refused_step octets (Allowed es) (WrongField es) (next_field es) total parts_at (exact es) 8 s i f (now.reads es noted) k
          (octets_at es cells noted s o i (Fault k) e)

      pub over_field : i < length s → (n : ℕ) → Over n ≡ octets_by cells (drop i s) → State cells s (i + n) (f + 1)
      over_field inside n e =
          let a = (field_inside cells s i n e inside).0 in
          let b = now.few in
          record {
            few = omega arith;
            reads =
                λ es noted.
                traversals.over_step octets (Allowed es) (WrongField es) (next_field es) total parts_at (exact es) 8 s i f (now.reads es noted) inside n
                (octets_at es cells noted s o i (Over n) e);
          }

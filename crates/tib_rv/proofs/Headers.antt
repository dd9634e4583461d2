-- The tests of a message's length and of its header.
use Prim.Native.Nat.{ℕ, ◌-◌, ◌≤◌, ◌<◌}
use native.Mathlib.Omega.{arith}
use mathlib.Core.Path.{◌≡◌, sym, ap, ◌∙◌}
use mathlib.Core.Bool.{Bool, true, false}
use mathlib.Core.List.{List}
use lib.ListN.{length, take, drop}
use lib.Seq.{length-take-le}
use borrow.Author.Tests.{lt-ltb, le-ltb, eq-eqb, ne_eqb}
use Rattle.octets.specs.Number.{big_endian}
use Rattle.octets.specs.internal.Bounded.{unsigned}
use Rattle.tib_field.specs.Mark.{begins}
use Rattle.octets.proofs.Slices.{tail_part}
use Rattle.octets.proofs.Number.{unsigned_is}
use Rattle.reading.specs.Reading.{message_limit}
use Rattle.reading.specs.internal.Verdicts.{verdict_of}
use Rattle.reading.specs.internal.Verdicts.{Refused}
use Rattle.tib_rv_field.specs.Layout.{magic, depth}
use Rattle.tib_rv_field.specs.Reading.{header_fault, message_from, reading}
use Rattle.tib_rv.specs.CheckAndField.{count}

module _ (s : List ℕ) where
  pub too_long_lem : message_limit < length s → Refused 1 0 ≡ verdict_of count depth (reading s)
  unfolding reading verdict_of
  too_long_lem h = rw (lt-ltb message_limit (length s) h)

  pub not_too_long : length s ≤ message_limit → verdict_of count depth (message_from 8 0 0 s) ≡ verdict_of count depth (reading s)
  unfolding reading
  not_too_long h = rw (le-ltb message_limit (length s) h)

  pub header_cut_lem : length s < 8 → 3 ≡ header_fault s
  unfolding header_fault
  header_cut_lem h = rw (lt-ltb (length s) 8 h)

  module _ (w : 8 ≤ length s) (t : Bool) (e : t ≡ begins magic (take (length s - 4) (drop 4 s))) where
    mark_read : begins magic (drop 4 s) ≡ t
    mark_read = ap (begins magic) (sym (tail_part s 4)) ∙ sym e

    pub other_magic_lem : t ≡ false → 13 ≡ header_fault s
    unfolding header_fault
    other_magic_lem h = rw (le-ltb (length s) 8 w, mark_read, h)

    module _ (l : ℕ) (f : l ≡ unsigned (take (4 - 0) (drop 0 s))) (g : t ≡ true) where
      size_read : big_endian (take 4 s) ≡ l
      size_read =
          let n = length-take-le 4 s (omega arith) in
          sym (f ∙ unsigned_is (take 4 s) (omega arith))

      pub other_size_lem : (l ≡ length s → ⊥) → 14 ≡ header_fault s
      unfolding header_fault
      other_size_lem h = rw (le-ltb (length s) 8 w, mark_read, g, size_read, ne_eqb l (length s) h)

      pub no_fault : l ≡ length s → 0 ≡ header_fault s
      unfolding header_fault
      no_fault h = rw (le-ltb (length s) 8 w, mark_read, g, size_read, eq-eqb l (length s) h)

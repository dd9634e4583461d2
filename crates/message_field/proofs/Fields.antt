-- What a step finds once the control part at the front is known.
use Prim.Native.Nat.{ℕ, ◌+◌, ◌-◌, ◌≤◌, ◌<◌}
use native.Mathlib.Omega.{arith}
use mathlib.Core.Path.{◌≡◌}
use mathlib.Core.Bool.{cond}
use mathlib.Core.List.{List}
use lib.ListN.{length, take, drop}
use borrow.Author.Tests.{le-leb, lt-leb}
use Rattle.octets.specs.Control.{control}
use Rattle.octets.specs.declared.Control.TheVariants.{Absent, Partial, Whole}
use Rattle.octets.proofs.ControlPart.{control_size}
use Rattle.table.specs.Schema.{Schema}
use Rattle.reading.specs.Refusals as refusals
use Rattle.message.specs.Single.{repeats}
use Rattle.message.specs.Reading.{step, step_from, step_by_kind, too_deep}
use Rattle.message.specs.Reading.{Done, Fault}

pub size_inside : (s : List ℕ) (tag len size : ℕ) → control s ≡ Whole tag len size → size ≤ length s
size_inside s tag len size e = (control_size s tag len size e).1

module _ (sc : Schema) (levels n : ℕ) (before s : List ℕ) where
  pub at_end : control s ≡ Absent → Done ≡ step sc levels n before s
  unfolding step step_from
  at_end e = rw e

  pub in_control : control s ≡ Partial → Fault 3 ≡ step sc levels n before s
  unfolding step step_from
  in_control e = rw e

  module _ (tag len size : ℕ) (e : control s ≡ Whole tag len size) where
    pub past_end : length s - size < len → Fault 4 ≡ step sc levels n before s
    unfolding step step_from
    past_end h = rw (e, lt-leb len (length s - size) h)

    pub whole_field : len ≤ length s - size
        → cond (too_deep levels (sc.means n tag)) (Fault refusals.too_deep)
        (cond (repeats sc n before tag) (Fault refusals.repeated) (step_by_kind (sc.means n tag) size (take (size + len - size) (drop size s))))
        ≡ step sc levels n before s
    unfolding step step_from
    whole_field h =
        let k : size + len - size ≡ len = omega arith in
        rw (e, le-leb len (length s - size) h, k)

-- The loader's result, by the place where noting the records stops.
use Prim.Native.Nat.{ℕ, ◌/◌, ◌≤◌, ◌<◌}
use native.Mathlib.Omega.{arith}
use mathlib.Core.Path.{◌≡◌, refl, ◌∙◌}
use mathlib.Core.List.{List}
use lib.ListN.{length, replicate}
use Rattle.std.specs.Prelude.{Ok}
use Rattle.reading.specs.Refusals as refusals
use Rattle.tib_dictionary.specs.Load.{Loaded, loaded, dictionary_of, accepted, refused, result, load}
use Rattle.tib_dictionary.specs.internal.Cells.{note_from}
use Rattle.tib_dictionary.specs.internal.Search.{records_of}
use Rattle.tib_dictionary.specs.declared.Dictionary.{Dictionary}
use Rattle.tib_dictionary.proofs.Cells.{note_refuses, note_accepts, note_most}

module _ (s : List ℕ) (end : ℕ) (is : end ≡ (note_from 512 s (replicate 16384 0)).0) where
  pub faulty_at : end < length s → {r : Loaded} → r ≡ refused refusals.table end → r ≡ load s
  unfolding load result
  faulty_at h e = rw (note_refuses s (omega arith)) (e ∙ rw is refl)

  module _ (h : length s ≤ end) where
    pub few : length s ≤ 4096
    few = omega (arith, note_most 512 s (replicate 16384 0))

    pub good : (d : Dictionary) → d ≡ dictionary_of (records_of (length s / 8) s) → loaded (Ok d) ≡ load s
    unfolding load result accepted
    good d e =
        let k = note_accepts s (omega arith) in
        rw (k.loads, e, k.read) refl

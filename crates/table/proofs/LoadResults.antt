-- The loader returns a valid table or the refusal `table`.
use Prim.Native.Nat.{ℕ, zero, suc}
use native.Mathlib.Omega.{arith}
use mathlib.Core.Path.{◌≡◌, refl, sym, ◌∙◌, subst}
use mathlib.Core.Bool.{Bool, true, false, cond}
use mathlib.Core.List.{List}
use lib.ListN.{length}
use lib.Dec.{leb}
use Rattle.octets.specs.Number.{Octets}
use Rattle.reading.specs.Refusals as refusals
use Rattle.table.specs.Load.{Loaded, load, place_at, load_from, accepted, refused, faulty, words_before, Loadable}
use Rattle.table.specs.Valid.{valid}
use Rattle.table.proofs.Valid.{loadable_valid}

-- A property of every refusal and of every accepted table is a property of the loader's result.
module _ (P : Loaded → Type 0) (refuses : (place : ℕ) → P (refused place)) (accepts : (ws : List ℕ) → P (accepted ws)) where
  either : (b : Bool) (x y : Loaded) → P x → P y → P (cond b x y)
  either true x y p q = p
  either false x y p q = q

  from_each : (fuel i : ℕ) (s : List ℕ) → P (load_from fuel i s)
  unfolding load_from
  from_each zero i s = refuses (place_at s i)
  from_each (suc fuel) i s =
      either (leb (length s) (place_at s i)) (accepted (words_before s i)) (cond (faulty s i) (refused (place_at s i)) (load_from fuel (suc i) s)) (accepts (words_before s i))
      (either (faulty s i) (refused (place_at s i)) (load_from fuel (suc i) s) (refuses (place_at s i)) (from_each fuel (suc i) s))

  load_each : (s : List ℕ) → P (load s)
  unfolding load
  load_each s = from_each 65 0 s

-- A result without a refusal has place 0.
unfoldable PlaceZero : Loaded → Type 0
PlaceZero l = l.refusal ≡ 0 → l ≡ record { refusal = 0; place = 0; table = l.table }

refused_place : (place : ℕ) → PlaceZero (refused place)
unfolding PlaceZero refused
refused_place place e = absurd (omega arith)

accepted_place : (ws : List ℕ) → PlaceZero (accepted ws)
unfolding PlaceZero accepted
accepted_place ws e = refl

pub loaded_valid : (octets : List ℕ) (l : Loaded) → Octets octets → l ≡ load octets → l.refusal ≡ 0 → valid l.table ≡ true
unfolding Loadable PlaceZero
loaded_valid octets l o e z =
    let f = subst PlaceZero (sym e) (load_each PlaceZero refused_place accepted_place octets) in
    loadable_valid l.table (octets, o, sym e ∙ f z)

-- The only refusal of the loader is `table`.
unfoldable TableRefusal : Loaded → Type 0
TableRefusal l = (l.refusal ≡ 0 → ⊥) → l.refusal ≡ refusals.table

refused_table : (place : ℕ) → TableRefusal (refused place)
unfolding TableRefusal refused
refused_table place ne = refl

accepted_table : (ws : List ℕ) → TableRefusal (accepted ws)
unfolding TableRefusal accepted
accepted_table ws ne = absurd (ne refl)

pub load_refusal : (table : List ℕ) → ((load table).refusal ≡ 0 → ⊥) → (load table).refusal ≡ refusals.table
unfolding TableRefusal
load_refusal table ne = load_each TableRefusal refused_table accepted_table table ne

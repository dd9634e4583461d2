-- Messages in which two adjacent fields are swapped (document 02, item 14): specs/Swaps.antt states it.
use Prim.Native.Nat.{ℕ, ◌≤◌}
use native.Mathlib.Omega.{arith}
use mathlib.Core.Path.{◌≡◌, refl, sym, ap₂, ◌∙◌}
use mathlib.Core.Bool.{Bool, true, false}
use mathlib.Core.List.{List}
use mathlib.Core.Logic.{inr}
use lib.ListN.{length}
use lib.Dec.{ltb}
use borrow.Author.Tests.{ltb-true, ltb-false}
use Rattle.reading.specs.Reading.{depth_limit, message_limit, last_number}
use Rattle.octets.specs.Number.{Octets}
use Rattle.table.specs.Load.{load}
use Rattle.table.specs.Schema.{Schema, is_revision, schema}
use Rattle.message.specs.Cut.{Cut, joined, Good}
use Rattle.message.proofs.Shortened.{tree_depth}
use Rattle.message_calls.specs.Calls.{check_octets}
use Rattle.message_calls.proofs.Demand1.{demand_1}
use Rattle.message_laws.specs.Swapped.{SwappedIn}
use Rattle.message_laws.specs.Swaps.{Swaps}
use Rattle.message_laws.proofs.Checks.{counted}
use Rattle.message_laws.proofs.Swapped.{Alike, swapped_alike, values_swapped, swapped_back, swapped_good}

module _ (revision : ℕ) (known : is_revision revision ≡ true) (table : List ℕ) (o : Octets table) (loads : (load table).refusal ≡ 0) (n : ℕ)
    (cut other x y : Cut) (w : SwappedIn cut other x y) where
  abbrev sc : Schema
  sc = schema revision (load table).table

  -- The check accepts both with the same counts, or refuses both because they are too long or the number is over 15.
  same_answer : Good sc depth_limit n (joined cut) cut → check_octets table revision n (joined other) ≡ check_octets table revision n (joined cut)
  same_answer g = long (ltb message_limit (length (joined cut))) refl
    where
      l : Alike sc n cut other
      l = swapped_alike sc n cut other x y w

      no_longer : length (joined cut) ≤ message_limit → length (joined other) ≤ message_limit
      no_longer h = let e = l.same_length in omega arith

      read : length (joined cut) ≤ message_limit → n ≤ last_number → check_octets table revision n (joined other) ≡ check_octets table revision n (joined cut)
      read h k =
          counted table loads revision n (joined other) o known (no_longer h) k other (swapped_good sc depth_limit n cut other x y w g)
          ∙ ap₂ (λ (f d : ℕ). record { refusal = 0; place = 0; fields = f; depth = d }) l.same_fields
          (tree_depth sc other n ∙ l.same_depth ∙ sym (tree_depth sc cut n))
          ∙ sym (counted table loads revision n (joined cut) o known h k cut g)

      number : (b : Bool) → ltb last_number n ≡ b → length (joined cut) ≤ message_limit
          → check_octets table revision n (joined other) ≡ check_octets table revision n (joined cut)
      number true f h =
          let k = ltb-true last_number n f in
          demand_1.bad_number table revision n (joined other) (no_longer h) loads (inr k) ∙ sym (demand_1.bad_number table revision n (joined cut) h loads (inr k))
      number false f h = read h (ltb-false last_number n f)

      long : (b : Bool) → ltb message_limit (length (joined cut)) ≡ b → check_octets table revision n (joined other) ≡ check_octets table revision n (joined cut)
      long true f =
          let h = ltb-true message_limit (length (joined cut)) f in
          let e = l.same_length in
          demand_1.too_long table revision n (joined other) (omega arith) ∙ sym (demand_1.too_long table revision n (joined cut) h)
      long false f = number (ltb last_number n) refl (ltb-false message_limit (length (joined cut)) f)

-- Under either revision.
pub swaps : (revision : ℕ) → is_revision revision ≡ true → Swaps check_octets revision
unfolding Swaps
swaps revision known table o loads n cut other x y w =
    let sc = schema revision (load table).table in
    record {
      cut_alike = (swapped_good sc depth_limit n cut other x y w, swapped_good sc depth_limit n other cut y x (swapped_back cut other x y w));
      same_answer = same_answer revision known table o loads n cut other x y w;
      same_values = values_swapped sc cut other x y w;
    }

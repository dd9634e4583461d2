-- Storing the octets of a number, from the last one back.
use Prim.Native.Nat.{ℕ, suc, ◌+◌, ◌-◌, ◌/◌, ◌%◌, ◌^◌, ◌≤◌, ◌<◌}
use native.Mathlib.Nat.{pow-suc, div-div-eq-div-mul, div-one}
use native.Mathlib.Numerals.{add-one}
use native.Mathlib.Omega.{arith}
use mathlib.Core.Path.{◌≡◌, refl, sym, ◌∙◌}
use mathlib.Core.List.{List}
use lib.ListN.{length, set}
use Rattle.octets.specs.Number.{octets_of}
use Rattle.octets.proofs.Number.{length_octets_of}
use Rattle.octets_store.specs.Store.{stored}
use Rattle.octets_store.proofs.Stores.{stored_too_long}
use Rattle.octets_store.proofs.StoreLoops.{Written, written_length, written_stored, none_written, one_before}

-- The last k octets of v are stored at the end of the place for n, and `rest` is v without them.
pub record NumberDown (d : List ℕ) (at n v : ℕ) (out : List ℕ) (rest k : ℕ) : Type 0 where
  pub inside : k ≤ n
  pub room : at + n ≤ length d
  pub long : length out ≡ length d
  pub rest_is : rest ≡ v / 256 ^ k
  pub written : Written d (at + (n - k)) (octets_of k v) out

number_begun : (d : List ℕ) (at n v : ℕ) → at + n ≤ length d → NumberDown d at n v d v 0
unfolding octets_of
number_begun d at n v h =
    record { inside = omega arith; room = h; long = refl; rest_is = sym (div-one v); written = none_written d (at + (n - 0)) (omega arith) }

number_step : (d : List ℕ) (at n v : ℕ) (out : List ℕ) (rest k : ℕ) → k < n → NumberDown d at n v out rest k
    → NumberDown d at n v (set out (at + (n - (k + 1))) (rest % 256)) (rest / 256) (k + 1)
unfolding octets_of
number_step d at n v out rest k h p =
    let j = at + (n - (k + 1)) in
    let w : Written d j (octets_of (k + 1) v) (set out j (rest % 256)) =
    rw (add-one k, p.rest_is) (one_before d (at + (n - k)) (at + (n - suc k)) (v / 256 ^ k % 256) (octets_of k v) out (omega arith) p.written) in
    record {
      inside = omega arith;
      room = p.room;
      long = written_length d j (octets_of (k + 1) v) (set out j (rest % 256)) w;
      rest_is = rw (p.rest_is, add-one k, pow-suc 256 k) (div-div-eq-div-mul v (256 ^ k) 256);
      written = w;
    }

number_ended : (d : List ℕ) (at n v : ℕ) (out : List ℕ) (rest k : ℕ) → n ≤ k → NumberDown d at n v out rest k
    → out ≡ stored d at (octets_of n v)
number_ended d at n v out rest k h p =
    let a = p.inside in
    let e : at + (n - k) ≡ at = omega arith in
    let f : k ≡ n = omega arith in
    written_stored d (at + (n - k)) (octets_of k v) out p.written ∙ rw (e, f)

-- The same by i, the octets still to be stored.
pub begun_down : (d : List ℕ) (at n v : ℕ) → at + n ≤ length d → NumberDown d at n v d v (n - n)
begun_down d at n v h = let e : n - n ≡ 0 = omega arith in rw e (number_begun d at n v h)

pub step_down : (d : List ℕ) (at n v : ℕ) (out : List ℕ) (rest i : ℕ) → 0 < i → i ≤ n → NumberDown d at n v out rest (n - i)
    → NumberDown d at n v (set out (at + (i - 1)) (rest % 256)) (rest / 256) (n - (i - 1))
step_down d at n v out rest i a b p =
    let e : n - (n - i + 1) ≡ i - 1 = omega arith in
    let f : n - i + 1 ≡ n - (i - 1) = omega arith in
    rw (e, f) at (number_step d at n v out rest (n - i) (omega arith) p)

pub ended_down : (d : List ℕ) (at n v : ℕ) (out : List ℕ) (rest i : ℕ) → i ≤ 0 → NumberDown d at n v out rest (n - i) → out ≡ stored d at (octets_of n v)
ended_down d at n v out rest i h p = number_ended d at n v out rest (n - i) (omega arith) p

pub number_too_long : (d : List ℕ) (at n v : ℕ) → length d < at + n → d ≡ stored d at (octets_of n v)
number_too_long d at n v h = let l = length_octets_of n v in sym (stored_too_long d at (octets_of n v) (omega arith))

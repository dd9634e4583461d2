-- Laws of a buffer in which octets are moved up.
use Prim.Native.Nat.{ℕ, ◌+◌, ◌≤◌, ◌<◌}
use native.Mathlib.Omega.{arith}
use mathlib.Core.Path.{◌≡◌, refl, sym, ◌∙◌}
use mathlib.Core.Bool.{Bool, true, false, cond}
use lib.Dec.{leb}
use mathlib.Core.List.{List, [], ◌++◌}
use lib.ListN.{length, take, drop, length-drop}
use lib.Seq.{length-take-le, take_at, drop-drop, take-add}
use borrow.Rule.Slice.PartMut.{put_mid}
use Rattle.octets_store.proofs.Sets.{same_part}
use borrow.Author.Tests.{leb-true, le-leb}
use Rattle.octets_store.specs.Store.{stored}
use Rattle.octets_store.specs.internal.Moved.{moved}
use Rattle.octets_store.proofs.Stores.{put_stored, stored_too_long, stored_nothing, length_stored, take_before_stored, stored_before}

-- There are n octets from `at` on.
pub part_length : (d : List ℕ) (at n : ℕ) → at + n ≤ length d → length (take n (drop at d)) ≡ n
part_length d at n h = let k = length-drop at d in length-take-le n (drop at d) (omega arith)

pub moved_fits : (d : List ℕ) (at n by : ℕ) → at + n ≤ length d → moved d at n by ≡ stored d (at + by) (take n (drop at d))
unfolding moved
moved_fits d at n by h = rw (le-leb (at + n) (length d) h)

-- Copied to an array z and from it to their place further up, octets are moved.
pub block_moved : (d z : List ℕ) (at n by : ℕ) → at + n + by ≤ length d → put_mid (at + by) n d (take n (take n (drop at d) ++ drop n z)) ≡ moved d at n by
block_moved d z at n by h =
    let xs = take n (drop at d) in
    let l = part_length d at n (omega arith) in
    put_stored d (at + by) n xs _ (omega arith) (omega arith) (take_at xs (drop n z) n l) ∙ sym (moved_fits d at n by (omega arith))

-- Octets that are not there, or have no room further up, do not move.
pub not_moved : (d : List ℕ) (at n by : ℕ) → length d < at + n + by → d ≡ moved d at n by
unfolding moved
not_moved d at n by h = go (leb (at + n) (length d)) refl
  where
    go : (t : Bool) → leb (at + n) (length d) ≡ t → d ≡ cond t (stored d (at + by) (take n (drop at d))) d
    go true e =
        let l = part_length d at n (leb-true (at + n) (length d) e) in
        sym (stored_too_long d (at + by) (take n (drop at d)) (omega arith))
    go false e = refl

-- Of no octets at all nothing moves.
pub moved_nothing : (d : List ℕ) (at n by : ℕ) → n ≤ 0 → moved d at n by ≡ d
unfolding moved
moved_nothing d at n by h = let e : n ≡ 0 = omega arith in rw e (go (leb (at + 0) (length d)))
  where
    go : (t : Bool) → cond t (stored d (at + by) []) d ≡ d
    go true = stored_nothing d (at + by)
    go false = refl

pub length_moved : (d : List ℕ) (at n by : ℕ) → length (moved d at n by) ≡ length d
unfolding moved
length_moved d at n by = go (leb (at + n) (length d))
  where
    go : (t : Bool) → length (cond t (stored d (at + by) (take n (drop at d))) d) ≡ length d
    go true = length_stored d (at + by) (take n (drop at d))
    go false = refl

-- The last k octets may move first.
pub last_moved : (d : List ℕ) (at m k by : ℕ) → at + m + k + by ≤ length d → moved (moved d (at + m) k by) at m by ≡ moved d at (m + k) by
last_moved d at m k by h =
    let xs = take k (drop (at + m) d) in
    let ys = take m (drop at d) in
    let lx = part_length d (at + m) k (omega arith) in
    let ly = part_length d at m (omega arith) in
    let e : at + m + by ≡ at + by + length ys = omega arith in
    let f : moved d (at + m) k by ≡ stored d (at + by + length ys) xs = moved_fits d (at + m) k by (omega arith) ∙ rw e in
    let l = length_stored d (at + by + length ys) xs in
    let p : take m (drop at (stored d (at + by + length ys) xs)) ≡ ys =
    same_part (stored d (at + by + length ys) xs) d at m (omega arith) (omega arith) (take_before_stored d (at + by + length ys) (at + m) xs (omega arith)) in
    let q : ys ++ xs ≡ take (m + k) (drop at d) = rw (← drop-drop m at d) (sym (take-add m k (drop at d))) in
    rw f (moved_fits (stored d (at + by + length ys) xs) at m by (omega arith) ∙ rw p (stored_before d (at + by) xs ys (omega arith) ∙ rw (q) (sym (moved_fits d at (m + k) by (omega arith)))))

pub ruleset by_blocks = (moved_nothing, length_moved, last_moved, not_moved)

-- A control part that is stored before contents which were written first, with room for one octet before them.
use Prim.Native.Nat.{ℕ, suc, ◌+◌, ◌-◌, ◌≤◌, ◌<◌}
use native.Mathlib.Numerals.{add-one}
use native.Mathlib.Nat.{add-zero}
use native.Mathlib.Omega.{arith}
use mathlib.Core.Path.{◌≡◌, sym, ap, ap₂, ◌∙◌}
use mathlib.Core.List.{List, [], ◌∷◌, ◌++◌}
use lib.ListN.{length, set, take, drop, length-append, take-append-drop}
use lib.Seq.{sets, drop-drop}
use Rattle.octets_store.specs.Store.{stored}
use Rattle.octets_store.specs.internal.Moved.{moved}
use Rattle.octets_store.proofs.Sets.{set_before_sets, sets_over}
use Rattle.octets_store.proofs.Stores.{stored_fits, length_stored, stored_parts, stored_before, part_stored}
use Rattle.octets_store.proofs.Moves.{part_length, moved_fits}

-- Octets that are moved by nothing stay.
pub moved_nowhere : (d : List ℕ) (at n : ℕ) → at + n ≤ length d → moved d at n 0 ≡ d
moved_nowhere d at n h =
    let xs = take n (drop at d) in
    let l : length xs ≡ n = part_length d at n h in
    let p : stored d at xs ≡ take at d ++ (xs ++ drop (at + n) d) =
    stored_parts d at xs (omega arith) ∙ ap (λ (k : ℕ). take at d ++ (xs ++ drop (at + k) d)) l in
    let q : xs ++ drop (at + n) d ≡ drop at d = ap (λ (r : List ℕ). xs ++ r) (sym (drop-drop n at d)) ∙ take-append-drop n (drop at d) in
    moved_fits d at n 0 h ∙ ap (λ (k : ℕ). stored d k xs) (add-zero at) ∙ p ∙ ap (λ (r : List ℕ). take at d ++ r) q ∙ take-append-drop at d

-- Stores over fewer ones that begin one place further up leave nothing of them.
sets_over_behind : (d : List ℕ) (i : ℕ) (xs zs : List ℕ) → length xs < length zs → sets (sets d (i + 1) xs) i zs ≡ sets d i zs
sets_over_behind d i xs [] h = absurd (omega arith)
sets_over_behind d i xs (z ∷ zs) h =
    ap (λ (l : List ℕ). sets l (suc i) zs) (set_before_sets d (i + 1) i z xs (omega arith) ∙ ap (λ (k : ℕ). sets (set d i z) k xs) (add-one i))
    ∙ sets_over (set d i z) (suc i) xs zs (omega arith)

stored_over_behind : (d : List ℕ) (at : ℕ) (xs zs : List ℕ) → length xs < length zs → at + length zs ≤ length d
    → stored (stored d (at + 1) xs) at zs ≡ stored d at zs
stored_over_behind d at xs zs k h =
    let e = length_stored d (at + 1) xs in
    stored_fits (stored d (at + 1) xs) at zs (omega arith)
    ∙ rw (stored_fits d (at + 1) xs (omega arith), stored_fits d at zs h) (sets_over_behind d at xs zs k)

-- Octets behind room for one that are moved up to make room for others before them, and then those: one store of both.
pub stored_behind : (d : List ℕ) (at : ℕ) (xs ys : List ℕ) → 1 ≤ length ys → at + length ys + length xs ≤ length d
    → stored (moved (stored d (at + 1) xs) (at + 1) (length xs) (length ys - 1)) at ys ≡ stored d at (ys ++ xs)
stored_behind d at xs ys o h =
    let e = stored d (at + 1) xs in
    let l = length_stored d (at + 1) xs in
    let j = length-append ys xs in
    let k : at + 1 + (length ys - 1) ≡ at + length ys = omega arith in
    let m : moved e (at + 1) (length xs) (length ys - 1) ≡ stored e (at + length ys) xs =
    moved_fits e (at + 1) (length xs) (length ys - 1) (omega arith) ∙ ap₂ (stored e) k (part_stored d (at + 1) xs (omega arith)) in
    rw m (stored_before e at xs ys (omega arith)) ∙ stored_over_behind d at xs (ys ++ xs) (omega arith) (omega arith)

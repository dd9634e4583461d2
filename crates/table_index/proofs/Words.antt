-- The key and the cell of a word whose entry is in range.
use Prim.Native.Nat.{ℕ, ◌+◌, ◌*◌, ◌-◌, ◌/◌, ◌%◌, ◌≤◌, ◌<◌, min}
use native.Mathlib.Omega.{arith}
use mathlib.Core.Path.{◌≡◌, refl}
use mathlib.Core.Bool.{Bool, true, false, cond, ◌&&◌}
use lib.Dec.{eqb, leb, ltb}
use borrow.Author.Tests.{eqb-true, eqb-false, eq-eqb, ne_eqb, leb-true, ltb-true}
use Rattle.table.specs.Entry.{entry, meaning}
use Rattle.table.specs.Load.{in_range, pair}
use Rattle.table.specs.declared.Meaning.{Meaning}
use Rattle.table.specs.declared.Meaning.TheVariants.{Raw, Uint, Int, String, Text, Message}
use Rattle.octets.proofs.Bools.{and_left, and_right, and_four}
use Rattle.table_index.specs.internal.Cells.{key_of, word_key, cell_of, code_in, meaning_of, meaning_in, single_in}

-- The numbers in a word whose entry is in range.
pub record Small (w : ℕ) : Type 0 where
  pub number : w / 1099511627776 < 16
  pub some : 1 ≤ w / 65536 % 256
  pub kinds : w / 65536 % 256 ≤ 5
  pub inner : w / 256 % 256 < 16
  pub only : (w / 65536 % 256 ≡ 5 → ⊥) → w / 256 % 256 ≡ 0
  pub mark : w % 256 < 2

inner_small : (k i : ℕ) → cond (eqb k 5) (ltb i 16) (eqb i 0) ≡ true → (i < 16) × ((k ≡ 5 → ⊥) → i ≡ 0)
inner_small k i h = go (eqb k 5) refl h
  where
    go : (t : Bool) → eqb k 5 ≡ t → cond t (ltb i 16) (eqb i 0) ≡ true → (i < 16) × ((k ≡ 5 → ⊥) → i ≡ 0)
    go true e q = (ltb-true i 16 q, λ d. absurd (d (eqb-true k 5 e)))
    go false e q = (omega (arith, eqb-true i 0 q), λ d. eqb-true i 0 q)

pub small : (w : ℕ) → in_range (entry w) ≡ true → Small w
unfolding in_range entry
small w h =
    let n = w / 1099511627776 in
    let k = w / 65536 % 256 in
    let i = w / 256 % 256 in
    let unmarked = ltb n 16 && leb 1 k && leb k 5 && cond (eqb k 5) (ltb i 16) (eqb i 0) in
    let p = and_four (ltb n 16) (leb 1 k) (leb k 5) (cond (eqb k 5) (ltb i 16) (eqb i 0)) (and_left unmarked (ltb (w % 256) 2) h) in
    let q = inner_small k i p.3 in
    record {
      number = ltb-true n 16 p.0;
      some = leb-true 1 k p.1;
      kinds = leb-true k 5 p.2;
      inner = q.0;
      only = q.1;
      mark = ltb-true (w % 256) 2 (and_right unmarked (ltb (w % 256) 2) h);
    }

-- ---- the cell

-- The kind with a number and an inner number.
abbrev kinded : ℕ → ℕ → Meaning
kinded k i = cond (eqb k 1) Uint (cond (eqb k 2) Int (cond (eqb k 3) String (cond (eqb k 4) Text (cond (eqb k 5) (Message i) Raw))))

coded_plain : (k i : ℕ) → 1 ≤ k → k < 5 → meaning_of k ≡ kinded k i
unfolding meaning_of
coded_plain k i h l = rw (ne_eqb k 0 (λ e. omega arith)) (go (eqb k 1) (eqb k 2) (eqb k 3) (eqb k 4) refl refl refl refl)
  where
    go : (a b c d : Bool) → eqb k 1 ≡ a → eqb k 2 ≡ b → eqb k 3 ≡ c → eqb k 4 ≡ d
        → cond a Uint (cond b Int (cond c String (cond d Text (Message (k - 5))))) ≡ cond a Uint (cond b Int (cond c String (cond d Text (cond (eqb k 5) (Message i) Raw))))
    go true b c d p q r s = refl
    go false true c d p q r s = refl
    go false false true d p q r s = refl
    go false false false true p q r s = refl
    go false false false false p q r s = absurd (omega (arith, eqb-false k 1 p, eqb-false k 2 q, eqb-false k 3 r, eqb-false k 4 s))

coded_message : (i : ℕ) → meaning_of (5 + i) ≡ kinded 5 i
unfolding meaning_of
coded_message i =
    let m : 5 + i - 5 ≡ i = omega arith in
    rw (
      ne_eqb (5 + i) 0 (λ e. omega arith),
      ne_eqb (5 + i) 1 (λ e. omega arith),
      ne_eqb (5 + i) 2 (λ e. omega arith),
      ne_eqb (5 + i) 3 (λ e. omega arith),
      ne_eqb (5 + i) 4 (λ e. omega arith),
      m,
    )
    refl

module _ (w : ℕ) (s : Small w) (i : ℕ) (low : i < 64) where
  pub cell_key : cell_of w i / 4096 ≡ word_key w
  unfolding cell_of entry
  cell_key = omega (arith, s.kinds, s.inner, s.mark)

  pub cell_order : cell_of w i % 64 ≡ i
  unfolding cell_of
  cell_order = omega arith

  pub cell_some : cell_of w i ≡ 0 → ⊥
  unfolding cell_of entry
  cell_some e = omega (arith, s.some)

  pub cell_means : meaning_in (cell_of w i) ≡ meaning (entry w)
  unfolding meaning_in code_in meaning cell_of entry
  cell_means =
      let c : (((word_key w * 2 + w % 256) * 32 + (w / 65536 % 256 + w / 256 % 256)) * 64 + i) / 64 % 32 ≡ w / 65536 % 256 + w / 256 % 256 = omega (arith, s.kinds, s.inner) in
      rw c (go (eqb (w / 65536 % 256) 5) refl)
    where
      go : (t : Bool) → eqb (w / 65536 % 256) 5 ≡ t → meaning_of (w / 65536 % 256 + w / 256 % 256) ≡ kinded (w / 65536 % 256) (w / 256 % 256)
      go true e = rw (eqb-true (w / 65536 % 256) 5 e) (coded_message (w / 256 % 256))
      go false e =
          let d = eqb-false (w / 65536 % 256) 5 e in
          let z : w / 65536 % 256 + w / 256 % 256 ≡ w / 65536 % 256 = omega (arith, s.only d) in
          rw z (coded_plain (w / 65536 % 256) (w / 256 % 256) s.some (omega (arith, s.kinds, d)))

  pub cell_single : single_in (cell_of w i) ≡ eqb (entry w).mark 1
  unfolding single_in cell_of entry
  cell_single =
      let c : (((word_key w * 2 + w % 256) * 32 + (w / 65536 % 256 + w / 256 % 256)) * 64 + i) / 2048 ≡ word_key w * 2 + w % 256 = omega (arith, s.kinds, s.inner) in
      let m : (word_key w * 2 + w % 256) % 2 ≡ w % 256 = omega (arith, s.mark) in
      rw (c, m) refl

-- ---- the key

-- The key is the pair.
pub key_is : (w : ℕ) → Small w → word_key w ≡ pair w
unfolding word_key key_of entry pair
key_is w s = omega (arith, s.number)

module _ (w : ℕ) (s : Small w) where
  pub key_low : word_key w < 1048576
  unfolding pair
  key_low = omega (arith, key_is w s, s.number)

  key_other : (n t : ℕ) → t < 65536 → ((w / 1099511627776 ≡ n) × (w / 16777216 % 65536 ≡ t) → ⊥) → eqb (word_key w) (key_of n t) ≡ false
  unfolding key_of pair
  key_other n t h d =
      ne_eqb (word_key w) (min n 16 * 65536 + t) (λ e. d (omega (arith, key_is w s, s.number), omega (arith, key_is w s)))

  -- A word has the key of a number and a tag exactly if its entry is for them.
  pub key_fits : (n t : ℕ) → t < 65536 → eqb (word_key w) (key_of n t) ≡ eqb (entry w).number n && eqb (entry w).tag t
  unfolding entry word_key
  key_fits n t h = go (eqb (w / 1099511627776) n) refl (eqb (w / 16777216 % 65536) t) refl
    where
      go : (a : Bool) → eqb (w / 1099511627776) n ≡ a → (b : Bool) → eqb (w / 16777216 % 65536) t ≡ b → eqb (word_key w) (key_of n t) ≡ a && b
      go true p true q =
          rw (eqb-true (w / 1099511627776) n p, eqb-true (w / 16777216 % 65536) t q) (eq-eqb (key_of n t) (key_of n t) refl)
      go true p false q = key_other n t h (λ e. eqb-false (w / 16777216 % 65536) t q e.1)
      go false p b q = key_other n t h (λ e. eqb-false (w / 1099511627776) n p e.0)

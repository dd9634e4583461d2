-- The cell of a number and a tag, and the kind in a cell.
use Prim.Native.Nat.{ℕ, ◌+◌, ◌*◌, ◌-◌, ◌/◌, ◌%◌, ◌≤◌, ◌<◌, min}
use native.Mathlib.Nat.{add-mul-mod_self_right}
use native.Mathlib.Omega.{arith}
use mathlib.Core.Path.{◌≡◌, refl, sym, ap, ◌∙◌}
use mathlib.Core.Bool.{false}
use mathlib.Core.List.{List}
use lib.ListN.{get_or}
use borrow.Author.Tests.{ne_eqb, lt-ltb, le-ltb}
use Rattle.table.specs.declared.Meaning.TheVariants.{Raw, Uint, Int, String, Text, Message}
use Rattle.table_index.specs.internal.Cells.{key_of, bucket_of, chase, search, cell_for, code_in, meaning_of, meaning_in, single_in, order_in}
use Rattle.table_index.proofs.Chains.{search_from}

module _ (c : ℕ) where
  pub raw : c ≡ 0 → Raw ≡ meaning_of c
  unfolding meaning_of
  raw e = rw e refl

  pub uint : c ≡ 1 → Uint ≡ meaning_of c
  unfolding meaning_of
  uint e = rw e refl

  pub int : c ≡ 2 → Int ≡ meaning_of c
  unfolding meaning_of
  int e = rw e refl

  pub string : c ≡ 3 → String ≡ meaning_of c
  unfolding meaning_of
  string e = rw e refl

  pub text : c ≡ 4 → Text ≡ meaning_of c
  unfolding meaning_of
  text e = rw e refl

  pub message : 5 ≤ c → Message (c - 5) ≡ meaning_of c
  unfolding meaning_of
  message h =
      rw (
        ne_eqb c 0 (λ e. omega arith),
        ne_eqb c 1 (λ e. omega arith),
        ne_eqb c 2 (λ e. omega arith),
        ne_eqb c 3 (λ e. omega arith),
        ne_eqb c 4 (λ e. omega arith),
      )
      refl

-- The kind in the cell 0 is raw.
pub none : meaning_in 0 ≡ Raw
unfolding meaning_in code_in meaning_of
none = refl

-- It is not single, and its code is 0.
pub single_none : single_in 0 ≡ false
unfolding single_in
single_none = refl

pub code_none : code_in 0 ≡ 0
unfolding code_in
code_none = refl

-- There are 64 orders.
pub order_low : (c : ℕ) → order_in c < 64
unfolding order_in
order_low c = omega arith

pub order_whole : (c : ℕ) → order_in c % 64 ≡ order_in c
unfolding order_in
order_whole c = omega arith

-- The bucket of a key, by its number and tag.
bucket_is : (m t : ℕ) → t < 65536 → (m * 45 + t) % 64 ≡ bucket_of (m * 65536 + t)
unfolding bucket_of
bucket_is m t h =
    let number : (m * 65536 + t) / 65536 ≡ m = omega arith in
    let sum : m * 45 + (m * 65536 + t) ≡ m * 45 + t + m * 1024 * 64 = omega arith in
    sym (rw (number, sum) (add-mul-mod_self_right (m * 45 + t) (m * 1024) 64))

module _ (cells : List ℕ) (n t : ℕ) where
  pub cell_large : 65536 ≤ t → 0 ≡ cell_for cells n t
  unfolding cell_for
  cell_large h = rw (le-ltb t 65536 h) refl

  module _ (h : t < 65536) where
    pub cell_small : cell_for cells n t ≡ search cells (key_of n t)
    unfolding cell_for
    cell_small = rw (lt-ltb t 65536 h) refl

    -- The chain that begins with the head of the bucket decides.
    pub cell_found : {m c r : ℕ} → m ≡ min n 16 → c ≡ get_or cells ((m * 45 + t) % 64) 0 → r ≡ chase 64 cells (m * 65536 + t) c → r ≡ cell_for cells n t
    unfolding key_of
    cell_found {m} {c} e head f =
        f
        ∙ sym (cell_small
        ∙ ap (λ (k : ℕ). search cells (k * 65536 + t)) (sym e)
        ∙ search_from cells (m * 65536 + t) (head ∙ ap (λ (b : ℕ). get_or cells b 0) (bucket_is m t h)))

-- What every call does before it reads a message: it tests the message's length, and builds the index of its table under its revision.
use Prim.Native.Nat.{ℕ, ◌≤◌, ◌<◌}
use native.Mathlib.Omega.{arith}
use mathlib.Core.Path.{◌≡◌, refl, ◌∙◌}
use mathlib.Core.Bool.{Bool, true, false, cond, ◌&&◌}
use mathlib.Core.List.{List}
use lib.ListN.{length}
use lib.Dec.{eqb}
use borrow.Author.Tests.{eqb-true, eqb-false}
use Rattle.octets.specs.Number.{Octets}
use Rattle.reading.specs.Refusals as refusals
use Rattle.reading.specs.Reading.{accepted, refused, message_limit}
use Rattle.table.specs.Load.{load}
use Rattle.table.specs.Schema.{Schema, is_revision, schema}
use Rattle.table.specs.Valid.{valid}
use Rattle.table.specs.declared.Table.{Table}
use Rattle.message_calls.specs.Calls.{with_table}
use Rattle.message_calls.specs.internal.Indexes.{schema_loaded, schema_octets}
use Rattle.message_calls.proofs.CheckAnswers.{revision-fails}
use Rattle.message_calls.proofs.CallsByOctets.{message_too_long, table_refused, table_loaded, loaded_good}

-- What a call answers for a message: under a schema, under a table and a revision, and where it refuses. It refuses a message that is too long,
-- then a table value that the loader cannot return or a number that is no revision; else both answers agree.
pub record Call {A : Type 0} (s : List ℕ) (revision : ℕ) (under : Schema → A) (by_table : Table → A) (refuse : ℕ → ℕ → A) : Type 0 where
  pub long : (t : Table) → message_limit < length s → refuse refusals.too_long 0 ≡ by_table t
  pub bad : (t : Table) → length s ≤ message_limit → valid t && is_revision revision ≡ false → refuse refusals.table 0 ≡ by_table t
  pub good : (t : Table) → length s ≤ message_limit → valid t && is_revision revision ≡ true → (sc : Schema) → sc ≡ schema revision t → under sc ≡ by_table t

the-schema : {a b : Schema} → accepted a ≡ accepted b → a ≡ b
the-schema f = cc

module _ {A : Type 0} {s : List ℕ} {revision : ℕ} {under : Schema → A} {by_table : Table → A} {refuse : ℕ → ℕ → A}
    (call : Call s revision under by_table refuse) where
  module _ (h : length s ≤ message_limit) where
    -- By a table value.
    module _ (t : Table) where
      pub loaded_refused : (k p : ℕ) → refused k p ≡ schema_loaded t revision → refuse k p ≡ by_table t
      unfolding schema_loaded
      loaded_refused k p e = go (valid t && is_revision revision) refl e
        where
          go : (b : Bool) → valid t && is_revision revision ≡ b
              → refused k p ≡ cond b (accepted (schema revision t)) (refused refusals.table 0) → refuse k p ≡ by_table t
          go true v f = let z : ◌≡◌ {A = ℕ} 0 1 = cc in absurd (omega arith)
          go false v f = let a : k ≡ refusals.table = cc in let b : p ≡ 0 = cc in rw (a, b) (call.bad t h v)

      pub loaded_read : (sc : Schema) → accepted sc ≡ schema_loaded t revision → under sc ≡ by_table t
      unfolding schema_loaded
      loaded_read sc e = go (valid t && is_revision revision) refl e
        where
          go : (b : Bool) → valid t && is_revision revision ≡ b
              → accepted sc ≡ cond b (accepted (schema revision t)) (refused refusals.table 0) → under sc ≡ by_table t
          go true v f = call.good t h v sc (the-schema f)
          go false v f = let z : ◌≡◌ {A = ℕ} 0 1 = cc in absurd (omega arith)

    -- By the octets of a table.
    module _ (octets : List ℕ) where
      loads : eqb (load octets).refusal 0 ≡ true → by_table (load octets).table ≡ with_table octets s by_table refuse
      loads x = table_loaded octets s by_table refuse h (load octets) refl (eqb-true (load octets).refusal 0 x)

      pub octets_refused : (k p : ℕ) → refused k p ≡ schema_octets octets revision → refuse k p ≡ with_table octets s by_table refuse
      unfolding schema_octets
      octets_refused k p e = go (eqb (load octets).refusal 0) refl (is_revision revision) refl e
        where
          go : (x : Bool) → eqb (load octets).refusal 0 ≡ x → (y : Bool) → is_revision revision ≡ y
              → refused k p
              ≡ cond x (cond y (accepted (schema revision (load octets).table)) (refused refusals.table 0)) (refused (load octets).refusal (load octets).place)
              → refuse k p ≡ with_table octets s by_table refuse
          go true x true y f = let z : ◌≡◌ {A = ℕ} 0 1 = cc in absurd (omega arith)
          go true x false y f =
              let a : k ≡ refusals.table = cc in
              let b : p ≡ 0 = cc in
              rw (a, b) (call.bad (load octets).table h (revision-fails (load octets).table revision y)) ∙ loads x
          go false x y z f =
              let a : k ≡ (load octets).refusal = cc in
              let b : p ≡ (load octets).place = cc in
              rw (a, b) (table_refused octets s by_table refuse h (load octets) refl (eqb-false (load octets).refusal 0 x))

      pub octets_read : Octets octets → (sc : Schema) → accepted sc ≡ schema_octets octets revision → under sc ≡ with_table octets s by_table refuse
      unfolding schema_octets
      octets_read o sc e = go (eqb (load octets).refusal 0) refl (is_revision revision) refl e
        where
          go : (x : Bool) → eqb (load octets).refusal 0 ≡ x → (y : Bool) → is_revision revision ≡ y
              → accepted sc
              ≡ cond x (cond y (accepted (schema revision (load octets).table)) (refused refusals.table 0)) (refused (load octets).refusal (load octets).place)
              → under sc ≡ with_table octets s by_table refuse
          go true x true y f =
              call.good (load octets).table h (loaded_good octets revision o (eqb-true (load octets).refusal 0 x) y) sc (the-schema f) ∙ loads x
          go true x false y f = let z : ◌≡◌ {A = ℕ} 0 1 = cc in absurd (omega arith)
          go false x y z f = let z : ◌≡◌ {A = ℕ} 0 1 = cc in absurd (omega arith)

  pub loaded_long : (t : Table) → message_limit < length s → refuse refusals.too_long 0 ≡ by_table t
  loaded_long = call.long

  pub octets_long : (octets : List ℕ) → message_limit < length s → refuse refusals.too_long 0 ≡ with_table octets s by_table refuse
  octets_long octets l = message_too_long octets s by_table refuse l

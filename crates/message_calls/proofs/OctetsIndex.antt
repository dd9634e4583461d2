-- The index of a table's octets under a revision, made in cells that were cleared.
use Prim.Native.Nat.{ℕ, ◌≤◌, ◌<◌}
use native.Mathlib.Omega.{arith}
use mathlib.Core.Path.{◌≡◌, refl, sym, ap, ◌∙◌}
use mathlib.Core.Bool.{Bool, true, false}
use mathlib.Core.List.{List}
use lib.ListN.{length, replicate}
use Rattle.reading.specs.Refusals as refusals
use Rattle.reading.specs.Reading as reading
use Rattle.table.specs.Load.{place_at, record_at, word_at, well_formed, accepted, refused, load}
use Rattle.table.specs.Schema.{is_revision}
use Rattle.table_index.specs.internal.Cells.{word_under, inserted_before, prefix_end, indexed, OneOrder}
use Rattle.table_index.proofs.IndexLaws.{octets_accepted, octets_refused, octets_schema, octets_one_order}
use Rattle.message_calls.specs.internal.Indexes.{schema_octets}

module _ (octets : List ℕ) (revision : ℕ) (empty : List ℕ) (cleared : empty ≡ replicate 128 0) where
  abbrev good : ℕ → Bool
  good i = well_formed (record_at octets i)

  abbrev word : ℕ → ℕ
  word i = word_under revision (word_at octets i)

  abbrev count : ℕ
  count = prefix_end good word empty 0 64

  count_is : count ≡ prefix_end good word (replicate 128 0) 0 64
  count_is = ap (λ (l : List ℕ). prefix_end good word l 0 64) cleared

  module _ (cells : List ℕ) (noted : cells ≡ inserted_before word empty count) where
    noted_is : cells ≡ inserted_before word (replicate 128 0) count
    noted_is = noted ∙ ap (λ (l : List ℕ). inserted_before word l count) cleared

    pub one_order : OneOrder cells
    one_order = octets_one_order revision octets count count_is cells noted_is

  -- `end` is the place after the records that it has.
  module _ (end : ℕ) (ended : end ≡ place_at octets count) where
    -- It has not all records: the loader refuses the one after them.
    pub stopped : end < length octets → reading.refused refusals.table end ≡ schema_octets octets revision
    unfolding schema_octets refused
    stopped l =
        let e : load octets ≡ refused end = octets_refused revision octets count count_is (omega arith) ∙ ap refused (sym ended) in
        rw e refl

    -- It has all: the table loads.
    module _ (all : length octets ≤ end) where
      complete : length octets ≤ place_at octets count
      complete = omega arith

      loads : (load octets).refusal ≡ 0
      unfolding accepted
      loads = rw (octets_accepted revision octets count count_is complete) refl

      pub no_revision : is_revision revision ≡ false → reading.refused refusals.table 0 ≡ schema_octets octets revision
      unfolding schema_octets
      no_revision bad = rw (loads, bad) refl

      pub whole : is_revision revision ≡ true → (cells : List ℕ) → cells ≡ inserted_before word empty count
          → reading.accepted (indexed cells) ≡ schema_octets octets revision
      unfolding schema_octets
      whole known cells noted =
          rw (loads, known) (ap reading.accepted (octets_schema revision octets count count_is cells (noted_is cells noted) complete))

-- Calls that take the octets of a table pass the index of a table that the loader accepts: under it they answer as for the octets.
use Prim.Native.Nat.{ℕ, ◌≤◌}
use mathlib.Core.Path.{◌≡◌, refl}
use mathlib.Core.Bool.{true}
use mathlib.Core.List.{List}
use lib.ListN.{length, replicate}
use Rattle.octets.specs.Number.{Octets}
use Rattle.reading.specs.Reading.{message_limit}
use Rattle.table.specs.Schema.{is_revision}
use Rattle.table.specs.Load.{place_at, record_at, word_at, well_formed}
use Rattle.table_index.specs.internal.Cells.{word_under, inserted_before, prefix_end, indexed}
use Rattle.message_calls.specs.Check.{check_under}
use Rattle.message_calls.specs.Short.{short_under}
use Rattle.message_calls.specs.Calls.{check_octets, short_octets, shorten_octets, shorten_buffer, lookup_octets, lookup_last_octets}
use Rattle.message_calls.specs.Lookup.{lookup, lookup_last}
use Rattle.message_calls.specs.internal.ShortenUnder.{shorten_under, buffer_under}
use Rattle.message_calls.specs.internal.LookupUnder.{look_under}
use Rattle.message_calls.specs.declared.outermost.Occurrence.TheVariants.{Nth, Last}
use Rattle.message_calls.proofs.OctetsIndex as indexes
use Rattle.message_calls.proofs.Prologue.{octets_read}
use Rattle.message_calls.proofs.Entries.{checking, shortness, shortening, buffering, looking}

module _ (octets : List ℕ) (revision : ℕ) where
  abbrev count : ℕ
  count = prefix_end (λ i. well_formed (record_at octets i)) (λ i. word_under revision (word_at octets i)) (replicate 128 0) 0 64

  -- `end` is the place after the records that the index has. It has all.
  module _ (end : ℕ) (ended : end ≡ place_at octets count) (all : length octets ≤ end) (known : is_revision revision ≡ true) (o : Octets octets)
      (cells : List ℕ) (noted : cells ≡ inserted_before (λ i. word_under revision (word_at octets i)) (replicate 128 0) count)
      (n : ℕ) (s : List ℕ) (h : length s ≤ message_limit) where
    pub check_by_index : check_under (indexed cells) n s ≡ check_octets octets revision n s
    unfolding check_octets
    check_by_index =
        octets_read (checking revision n s) h octets o (indexed cells) (indexes.whole octets revision (replicate 128 0) refl end ended all known cells noted)

    pub short_by_index : short_under (indexed cells) n s ≡ short_octets octets revision n s
    unfolding short_octets
    short_by_index =
        octets_read (shortness revision n s) h octets o (indexed cells) (indexes.whole octets revision (replicate 128 0) refl end ended all known cells noted)

    pub shorten_by_index : (out : List ℕ) → shorten_under (indexed cells) n s out ≡ shorten_octets octets revision n s out
    unfolding shorten_octets
    shorten_by_index out =
        octets_read (shortening revision n s out) h octets o (indexed cells)
        (indexes.whole octets revision (replicate 128 0) refl end ended all known cells noted)

    pub buffer_by_index : (out : List ℕ) → buffer_under (indexed cells) n s out ≡ shorten_buffer octets revision n s out
    unfolding shorten_buffer
    buffer_by_index out =
        octets_read (buffering revision n s out) h octets o (indexed cells)
        (indexes.whole octets revision (replicate 128 0) refl end ended all known cells noted)

    pub lookup_by_index : (tag k : ℕ) → look_under (indexed cells) n s tag (Nth k) ≡ lookup_octets octets revision n s tag k
    unfolding lookup_octets lookup
    lookup_by_index tag k =
        octets_read (looking revision n s tag (Nth k)) h octets o (indexed cells)
        (indexes.whole octets revision (replicate 128 0) refl end ended all known cells noted)

    pub last_by_index : (tag : ℕ) → look_under (indexed cells) n s tag Last ≡ lookup_last_octets octets revision n s tag
    unfolding lookup_last_octets lookup_last
    last_by_index tag =
        octets_read (looking revision n s tag Last) h octets o (indexed cells)
        (indexes.whole octets revision (replicate 128 0) refl end ended all known cells noted)

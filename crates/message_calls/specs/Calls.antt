-- The answers of the calls that take the octets of a field table.
use Rattle.std.specs.Prelude.{ℕ, Bool, false, cond, List, length, ltb, eqb}
use Rattle.reading.specs.Refusals as refusals
use Rattle.reading.specs.Reading.{message_limit}
use Rattle.reading.specs.Checks as answers
use Rattle.table.specs.Load.{load}
use Rattle.table.specs.declared.Table.{Table}
use Rattle.message_calls.specs.Check as checks
use Rattle.reading.specs.declared.Checked.{Checked}
use Rattle.message_calls.specs.Short as shorts
use Rattle.message_calls.specs.Shorten as shortens
use Rattle.message_calls.specs.declared.Shortened.{Shortened}
use Rattle.message_calls.specs.Lookup as lookups
use Rattle.message_calls.specs.declared.Found.{Found}

-- Document 01's order: first a message that is too long is refused, then a table that the loader refuses; else the loaded table is used.
unfoldable pub with_table : {A : Type 0} → List ℕ → List ℕ → (Table → A) → (ℕ → ℕ → A) → A
with_table octets message under refuse =
    cond (ltb message_limit (length message)) (refuse refusals.too_long 0)
    (cond (eqb (load octets).refusal 0) (under (load octets).table) (refuse (load octets).refusal (load octets).place))

unfoldable pub check_octets : List ℕ → ℕ → ℕ → List ℕ → Checked
check_octets octets revision n s = with_table octets s (λ t. checks.check t revision n s) answers.refusal

-- Whether the message is in its shortest form already.
unfoldable pub short_octets : List ℕ → ℕ → ℕ → List ℕ → Bool
short_octets octets revision n s = with_table octets s (λ t. shorts.short t revision n s) (λ reason place. false)

unfoldable pub shorten_octets : List ℕ → ℕ → ℕ → List ℕ → List ℕ → Shortened
shorten_octets octets revision n s out = with_table octets s (λ t. shortens.answer t revision n s out) shortens.refusal

-- The second buffer afterwards.
unfoldable pub shorten_buffer : List ℕ → ℕ → ℕ → List ℕ → List ℕ → List ℕ
shorten_buffer octets revision n s out = with_table octets s (λ t. shortens.buffer t revision n s out) (λ reason place. out)

unfoldable pub lookup_octets : List ℕ → ℕ → ℕ → List ℕ → ℕ → ℕ → Found
lookup_octets octets revision n s tag k = with_table octets s (λ t. lookups.lookup t revision n s tag k) lookups.refusal

unfoldable pub lookup_last_octets : List ℕ → ℕ → ℕ → List ℕ → ℕ → Found
lookup_last_octets octets revision n s tag = with_table octets s (λ t. lookups.lookup_last t revision n s tag) lookups.refusal

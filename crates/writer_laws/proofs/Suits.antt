-- Values of the kind of their tag, in their least contents, are allowed there and mean themselves.
use Prim.Native.Nat.{ℕ, ◌^◌, ◌<◌}
use native.Mathlib.Omega.{arith}
use mathlib.Core.Path.{◌≡◌, refl, ap}
use mathlib.Core.Bool.{true, false≢true}
use mathlib.Core.List.{List}
use lib.Dec.{eqb}
use Rattle.octets.proofs.Text.{text_exactly}
use lib.IntN.{ℤ}
use lib.Signed.{mag}
use Rattle.octets.specs.Number.{least_uint}
use Rattle.octets.specs.Signed.{least_int}
use Rattle.octets.proofs.Number.{number_least_uint, length_least_uint, width_bound}
use Rattle.octets.proofs.Integer.{integer_least_int, length_least_int, signed_width_least}
use Rattle.table.specs.declared.Meaning.{Meaning}
use Rattle.table.specs.declared.Meaning.TheVariants.{Raw, Uint, Int, String, Text, Message}
use Rattle.message.specs.Cut.{Contents}
use Rattle.message.specs.Tree.{Value, uint, int, value}
use Rattle.message.specs.Shortest.{least_contents}
use Rattle.writer_state.specs.Calls.{of_octets, readable}
use Rattle.writer_laws.specs.Run.{octets_as}
use Rattle.table.specs.Entry.{kind_number}

-- The least contents of a value, as those of a field that means k.
pub record Suits (k : Meaning) (v : Value) (xs : List ℕ) : Type 0 where
  pub least : least_contents v ≡ xs
  pub allowed : Contents k (least_contents v)
  pub same : value k (least_contents v) ≡ v
  pub some_kind : kind_number k ≡ 0 → ⊥

pub is_message : (k : Meaning) → eqb (kind_number k) 5 ≡ true → (m : ℕ) × (k ≡ Message m)
unfolding kind_number
is_message Raw e = absurd (false≢true e)
is_message Uint e = absurd (false≢true e)
is_message Int e = absurd (false≢true e)
is_message String e = absurd (false≢true e)
is_message Text e = absurd (false≢true e)
is_message (Message m) e = (m, refl)

pub suits_uint : (k : Meaning) (v : ℕ) → v < 2 ^ 64 → eqb (kind_number k) 1 ≡ true → Suits k (uint v) (least_uint v)
unfolding kind_number least_contents Contents value
suits_uint Raw v h e = absurd (false≢true e)
suits_uint Uint v h e =
    let l = length_least_uint v in
    let b = width_bound v in
    record { least = refl; allowed = omega arith; same = ap uint (number_least_uint v h); some_kind = λ z. omega arith }
suits_uint Int v h e = absurd (false≢true e)
suits_uint String v h e = absurd (false≢true e)
suits_uint Text v h e = absurd (false≢true e)
suits_uint (Message m) v h e = absurd (false≢true e)

pub suits_int : (k : Meaning) (z : ℤ) → mag z < 2 ^ 63 → eqb (kind_number k) 2 ≡ true → Suits k (int z) (least_int z)
unfolding kind_number least_contents Contents value
suits_int Raw z h e = absurd (false≢true e)
suits_int Uint z h e = absurd (false≢true e)
suits_int Int z h e =
    let l = length_least_int z in
    let b = signed_width_least z 7 (unfold Rattle.octets.specs.Signed.lowest in h) in
    record { least = refl; allowed = omega arith; same = ap int (integer_least_int z (unfold Rattle.octets.specs.Signed.lowest in h)); some_kind = λ q. omega arith }
suits_int String z h e = absurd (false≢true e)
suits_int Text z h e = absurd (false≢true e)
suits_int (Message m) z h e = absurd (false≢true e)

pub suits_octets : (k : Meaning) (xs : List ℕ) → of_octets (kind_number k) ≡ true → readable (kind_number k) xs ≡ true → Suits k (octets_as (kind_number k) xs) xs
unfolding kind_number least_contents Contents value of_octets readable octets_as
suits_octets Raw xs e f = absurd (false≢true e)
suits_octets Uint xs e f = absurd (false≢true e)
suits_octets Int xs e f = absurd (false≢true e)
suits_octets String xs e f = record { least = refl; allowed = tt; same = refl; some_kind = λ z. omega arith }
suits_octets Text xs e f = record { least = refl; allowed = (text_exactly xs).0 f; same = refl; some_kind = λ z. omega arith }
suits_octets (Message m) xs e f = absurd (false≢true e)

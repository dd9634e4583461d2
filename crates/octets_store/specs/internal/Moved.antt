-- A buffer after some of its octets are moved up.
use Rattle.std.specs.Prelude.{ℕ, ◌+◌, cond, List, length, take, drop, leb}
use Rattle.octets_store.specs.Store.{stored}

-- d with its n octets from `at` on stored again, `by` places further up; d itself where it has no such n octets, or no room for them there.
unfoldable pub moved : List ℕ → ℕ → ℕ → ℕ → List ℕ
moved d at n by = cond (leb (at + n) (length d)) (stored d (at + by) (take n (drop at d))) d

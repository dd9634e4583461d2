-- Tests whether octets are the shortest form of what they hold (document 02, item 2): the least octets of it are these octets.
use Rattle.std.specs.Prelude.{ℕ, Bool, true, false, ◌&&◌, List, [], ◌∷◌, take, eqb}
use Rattle.octets.specs.Number.{big_endian, least_uint}
use Rattle.octets.specs.Signed.{integer, least_int}
use Rattle.octets.specs.Control.{control, least_control}
use Rattle.octets.specs.declared.Control.{Control}
use Rattle.octets.specs.declared.Control.TheVariants.{Absent, Partial, Whole}

-- Whether two lists are the same.
unfoldable pub same : List ℕ → List ℕ → Bool
same [] [] = true
same [] (y ∷ t) = false
same (x ∷ s) [] = false
same (x ∷ s) (y ∷ t) = eqb x y && same s t

-- The octets of a uint, and of an int. More than eight octets are never the shortest form.
unfoldable pub short_uint : List ℕ → Bool
short_uint s = same (least_uint (big_endian s)) s

unfoldable pub short_int : List ℕ → Bool
short_int s = same (least_int (integer s)) s

-- The control part at the front of octets, as it is read.
unfoldable pub short_part : List ℕ → Control → Bool
short_part s Absent = false
short_part s Partial = false
short_part s (Whole tag len size) = same (least_control tag len) (take size s)

unfoldable pub short_control : List ℕ → Bool
short_control s = short_part s (control s)

-- A field is stored so that it ends where the earlier ones begin.
use Prim.Native.Nat.{ℕ, ◌+◌, ◌-◌, ◌≤◌}
use native.Mathlib.Omega.{arith}
use mathlib.Core.Path.{◌≡◌, ap, ◌∙◌}
use mathlib.Core.List.{List}
use lib.ListN.{length, length-append}
use Rattle.octets.specs.Control.{least_control}
use Rattle.message.specs.Shortest.{field}
use Rattle.octets_store.specs.Store.{stored}
use Rattle.octets_store.proofs.Stores.{stored_after}
use Rattle.message.proofs.Fields.{field_length}
use Rattle.writer_put.specs.internal.Stores.{Before}

field_joined : (d : List ℕ) (at tag : ℕ) (xs : List ℕ) → at + length (field tag xs) ≤ length d
    → stored (stored d at (least_control tag (length xs))) (at + length (least_control tag (length xs))) xs ≡ stored d at (field tag xs)
unfolding field
field_joined d at tag xs h =
    let l = length-append (least_control tag (length xs)) xs in
    stored_after d at (least_control tag (length xs)) xs (omega arith)

pub field_before : (d : List ℕ) (start tag n at contents : ℕ) (xs after : List ℕ) → n ≡ length xs → at ≡ start - n - length (least_control tag n)
    → contents ≡ start - n → length (least_control tag n) + n ≤ start → start ≤ length d
    → after ≡ stored (stored d at (least_control tag n)) contents xs
    → Before d start (field tag xs) at after
field_before d start tag n at contents xs after en ea ec h k s =
    let l = field_length tag xs in
    let same : least_control tag n ≡ least_control tag (length xs) = ap (least_control tag) en in
    let m : length (least_control tag n) ≡ length (least_control tag (length xs)) = ap length same in
    let p : at ≡ start - length (field tag xs) = omega arith in
    let q : contents ≡ start - length (field tag xs) + length (least_control tag (length xs)) = omega arith in
    record {
      place = p;
      buffer = s ∙ rw (p, same, q) (field_joined d (start - length (field tag xs)) tag xs (omega arith));
    }

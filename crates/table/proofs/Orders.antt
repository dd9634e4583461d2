-- Laws of the order of entries.
use Prim.Native.Nat.{ℕ, zero, suc, ◌/◌, ◌%◌, ◌<◌}
use native.Mathlib.Omega.{arith}
use mathlib.Core.Path.{◌≡◌, refl, sym, ap, ◌∙◌}
use mathlib.Core.Bool.{Bool, true, false, cond, not, ◌&&◌, true≢false, false≢true}
use mathlib.Core.List.{List, [], ◌∷◌, map}
use lib.ListN.{length, get_or}
use lib.Dec.{eqb}
use borrow.Author.Tests.{eqb-true, not-true}
use Rattle.octets.proofs.Bools.{and_left, and_right}
use Rattle.table.specs.Entry.{Entry, entry, marked_single}
use Rattle.table.specs.Load.{pair, seen}
use Rattle.table.specs.Mask.{order}
use Rattle.table.specs.Repeat.{distinct}
use Rattle.table.proofs.Repeat.{seen_at}

-- Whether an entry is for a message number and a tag.
abbrev pub is_for : ℕ → ℕ → Entry → Bool
is_for n t e = eqb e.number n && eqb e.tag t

-- Words whose entries are for the same number and tag have the same pair.
pub same_pair : (v w n t : ℕ) → is_for n t (entry v) ≡ true → is_for n t (entry w) ≡ true → pair v ≡ pair w
unfolding pair entry
same_pair v w n t e f =
    let a = eqb-true (v / 1099511627776) n (and_left (eqb (v / 1099511627776) n) (eqb (v / 16777216 % 65536) t) e) in
    let b = eqb-true (v / 16777216 % 65536) t (and_right (eqb (v / 1099511627776) n) (eqb (v / 16777216 % 65536) t) e) in
    let c = eqb-true (w / 1099511627776) n (and_left (eqb (w / 1099511627776) n) (eqb (w / 16777216 % 65536) t) f) in
    let d = eqb-true (w / 16777216 % 65536) t (and_right (eqb (w / 1099511627776) n) (eqb (w / 16777216 % 65536) t) f) in
    omega arith

-- Among words with no pair twice, a word whose entry is for a number and a tag stands at their order.
pub order_at : (ws : List ℕ) (i n t : ℕ) → distinct ws ≡ true → i < length ws → is_for n t (entry (get_or ws i 0)) ≡ true → order (map entry ws) n t ≡ i
unfolding order distinct
order_at [] i n t d h e = absurd (omega arith)
order_at (w ∷ ws) zero n t d h e = rw e refl
order_at (w ∷ ws) (suc i) n t d h e = go (is_for n t (entry w)) refl (order_at ws i n t (and_right (not (seen (pair w) ws)) (distinct ws) d) (omega arith) e)
  where
    go : (b : Bool) → is_for n t (entry w) ≡ b → order (map entry ws) n t ≡ i → cond b 0 (suc (order (map entry ws) n t)) ≡ suc i
    go true f rest =
        let yes = seen_at (pair w) ws i (omega arith) (same_pair (get_or ws i 0) w n t e f) in
        let none = not-true (seen (pair w) ws) (and_left (not (seen (pair w) ws)) (distinct ws) d) in
        absurd (true≢false (sym yes ∙ none))
    go false f rest = ap suc rest

-- Where one of two tags is marked single, they have the same order only if they are the same.
pub order_apart : (es : List Entry) (n t u : ℕ) → marked_single es n t ≡ true → order es n t ≡ order es n u → t ≡ u
unfolding order marked_single
order_apart [] n t u m e = absurd (false≢true m)
order_apart (x ∷ es) n t u m e = go (is_for n t x) refl (is_for n u x) refl m e (order_apart es n t u)
  where
    go : (a : Bool) → is_for n t x ≡ a → (b : Bool) → is_for n u x ≡ b → cond a (eqb x.mark 1) (marked_single es n t) ≡ true
        → cond a 0 (suc (order es n t)) ≡ cond b 0 (suc (order es n u)) → (marked_single es n t ≡ true → order es n t ≡ order es n u → t ≡ u) → t ≡ u
    go true p true q m e rest =
        sym (eqb-true x.tag t (and_right (eqb x.number n) (eqb x.tag t) p)) ∙ eqb-true x.tag u (and_right (eqb x.number n) (eqb x.tag u) q)
    go true p false q m e rest = absurd (omega arith)
    go false p true q m e rest = absurd (omega arith)
    go false p false q m e rest = rest m (omega arith)

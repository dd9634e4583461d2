-- Records of entries, as the loader reads them: the record of an entry in range is formed and has this entry, whatever follows it, and a formed
-- record is the record of its entry.
use Prim.Native.Nat.{ℕ, ◌+◌, ◌≤◌}
use native.Mathlib.Omega.{arith}
use mathlib.Core.Path.{◌≡◌, refl, sym, ap, ◌∙◌}
use mathlib.Core.Bool.{Bool, true, ◌&&◌}
use mathlib.Core.List.{List, ◌∷◌, ◌++◌, append_assoc}
use lib.ListN.{length, take, drop, get_or, length-append, length-drop, take-append-drop}
use lib.Seq.{drop-cons, drop-drop, length-take-le}
use lib.Dec.{lit<}
use borrow.Author.Tests.{le-leb}
use Rattle.octets.specs.Number.{Octets, big_endian, octets_of}
use Rattle.octets.proofs.Number.{octets_append, number_octets_of, octets_octets_of, length_octets_of, octets_part, number_below_most, number_injective}
use Rattle.tib_dictionary.specs.Entry.{in_range}
use Rattle.tib_dictionary.specs.Load.{formed, entry_of}
use Rattle.tib_dictionary.specs.Records.{record_of}
use Rattle.tib_dictionary.specs.declared.Entry.{Entry}
use Rattle.tib_dictionary.proofs.Ranges.{bounds}
use Rattle.tib_dictionary.proofs.Formed.{form}

module _ (e : Entry) where
  pub record_length : length (record_of e) ≡ 8
  unfolding record_of octets_of
  record_length = refl

  module _ (rest : List ℕ) where
    pub record_rest : drop 8 (record_of e ++ rest) ≡ rest
    unfolding record_of octets_of
    record_rest = refl

    pub record_formed : formed (record_of e ++ rest) ≡ true
    unfolding formed record_of octets_of
    record_formed =
        let long : 8 ≤ length (record_of e ++ rest) = omega (arith, length-append (record_of e) rest, record_length) in
        ap (λ (t : Bool). t && true && true && true) (le-leb 8 (length (record_of e ++ rest)) long)

    pub record_entry : in_range e ≡ true → entry_of (record_of e ++ rest) ≡ e
    unfolding entry_of record_of octets_of
    record_entry h =
        let b = bounds e h in
        let fid : big_endian (octets_of 2 e.fid) ≡ e.fid = number_octets_of 2 e.fid (omega (arith, b.fid)) in
        let size : big_endian (octets_of 2 e.size) ≡ e.size = number_octets_of 2 e.size (omega (arith, b.size)) in
        same fid size
      where
        same : {a b : ℕ} → a ≡ e.fid → b ≡ e.size → ◌≡◌ {A = Entry} (record { fid = a; kind = e.kind; size = b }) e
        same p q = rw (p, q) refl

  pub record_octets : in_range e ≡ true → Octets (record_of e)
  unfolding record_of Octets
  record_octets h =
      let b = (bounds e h).kind in
      (lit< tt, (lit< tt, (lit< tt, octets_append (octets_of 2 e.fid) (e.kind ∷ octets_of 2 e.size) (octets_octets_of 2 e.fid) (omega arith, octets_octets_of 2 e.size))))

-- ---- a formed record is the record of its entry

module _ (s : List ℕ) where
  -- Octets from i on: n of them, and the others.
  part : (n i k : ℕ) → i + n ≡ k → take n (drop i s) ++ drop k s ≡ drop i s
  part n i k e = rw (← e, ← drop-drop n i s) (take-append-drop n (drop i s))

  pair_octets : (i : ℕ) → Octets s → i + 2 ≤ length s → octets_of 2 (big_endian (take 2 (drop i s))) ≡ take 2 (drop i s)
  pair_octets i o h =
      let t = take 2 (drop i s) in
      let v = big_endian t in
      let p = octets_part 2 i s o in
      let l : length t ≡ 2 = length-take-le 2 (drop i s) (omega (arith, length-drop i s)) in
      number_injective (octets_of 2 v) t (octets_octets_of 2 v) p (length_octets_of 2 v ∙ sym l) (number_octets_of 2 v (number_below_most t 2 p (omega arith)))

  pub formed_record : Octets s → formed s ≡ true → s ≡ record_of (entry_of s) ++ drop 8 s
  unfolding record_of entry_of
  formed_record o h =
      let f = form s h in
      let w = f.whole in
      let fid = take 2 (drop 3 s) in
      let size = take 2 (drop 6 s) in
      let from_5 : drop 5 s ≡ get_or s 5 0 ∷ drop 6 s = drop-cons s 5 0 (omega arith) in
      let from_2 : drop 2 s ≡ 5 ∷ drop 3 s = rw (← f.low) (drop-cons s 2 0 (omega arith)) in
      let from_1 : drop 1 s ≡ 0 ∷ drop 2 s = rw (← f.high) (drop-cons s 1 0 (omega arith)) in
      let all : s ≡ 2 ∷ drop 1 s = rw (← f.tag) (drop-cons s 0 0 (omega arith)) in
      let tail : drop 3 s ≡ fid ++ (get_or s 5 0 ∷ size) ++ drop 8 s =
      sym (part 2 3 5 refl) ∙ ap (λ (x : List ℕ). fid ++ x) (from_5 ∙ ap (λ (x : List ℕ). get_or s 5 0 ∷ x) (sym (part 2 6 8 refl)))
      ∙ sym (append_assoc fid (get_or s 5 0 ∷ size) (drop 8 s)) in
      let head : s ≡ 2 ∷ 0 ∷ 5 ∷ (fid ++ (get_or s 5 0 ∷ size) ++ drop 8 s) =
      all ∙ ap (λ (x : List ℕ). 2 ∷ x) (from_1 ∙ ap (λ (x : List ℕ). 0 ∷ x) (from_2 ∙ ap (λ (x : List ℕ). 5 ∷ x) tail)) in
      rw (pair_octets 3 o (omega arith), pair_octets 6 o (omega arith)) head

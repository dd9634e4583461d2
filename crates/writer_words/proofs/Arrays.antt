-- A state and its array.
use Prim.Native.Nat.{ℕ, min, zero, suc, ◌+◌, ◌-◌, ◌%◌, ◌≤◌}
use native.Mathlib.Omega.{arith}
use native.Mathlib.Nat.{zero-add}
use mathlib.Core.Path.{◌≡◌, refl, sym, ap, ◌∙◌}
use mathlib.Core.Bool.{Bool, true, false, ◌&&◌}
use mathlib.Core.List.{List, [], ◌∷◌, ◌++◌, append-nil, append_assoc, map}
use lib.ListN.{length, get_or, take, drop, length-append, length-drop, drop_of_length-le, take-append-drop}
use lib.Seq.{length-take-le, take-add, take_all, take_at, drop_at, drop-drop, get_or-drop}
use lib.Dec.{eqb, leb}
use borrow.Author.Tests.{eqb-true, eq-eqb, ne_eqb, le-leb, leb-true, leb-false}
use Rattle.octets.proofs.Bools.{and_left, and_right, and_both}
use Rattle.octets_store.specs.Store.{stored}
use Rattle.octets_store.proofs.Stores.{stored_parts, stored_after}
use Rattle.writer_state.specs.Calls.{begun}
use Rattle.writer_state.specs.declared.State.{State}
use Rattle.std.specs.List.{list_all}
use Rattle.writer_words.specs.internal.Tags.{tagged_after}
use Rattle.writer_words.specs.Words.{at_most, untagged, words_of, holds, low, state_of, words_after, used_after}

-- Numbers stored over a whole array are the array.
pub stored_whole : (d xs : List ℕ) → length xs ≡ length d → stored d 0 xs ≡ xs
stored_whole d xs e =
    let none : drop (0 + length xs) d ≡ [] = drop_of_length-le d {i = 0 + length xs} (omega arith) in
    stored_parts d 0 xs (omega arith) ∙ ap (λ (l : List ℕ). xs ++ l) none ∙ append-nil xs

-- A part of an array, stored over an array of the length of the part.
pub part_stored : (d ws : List ℕ) (at n : ℕ) → n ≡ length d → at + n ≤ length ws → stored d 0 (take n (drop at ws)) ≡ take n (drop at ws)
part_stored d ws at n e h =
    let k = length-drop at ws in
    stored_whole d (take n (drop at ws)) (length-take-le n (drop at ws) (omega arith) ∙ e)

-- Two stores at the front of an array, of which the second begins where the first ends.
joined : (d xs ys : List ℕ) (n : ℕ) → n ≡ length xs → n + length ys ≤ length d → stored (stored d 0 xs) n ys ≡ stored d 0 (xs ++ ys)
joined d xs ys n e h =
    let z : n ≡ 0 + length xs = omega arith in
    rw z (stored_after d 0 xs ys (omega arith))

-- ---- `holds`

pub all_most : (limit : ℕ) (ns : List ℕ) → list_all (λ n. leb n limit) ns ≡ at_most limit ns
unfolding at_most
all_most limit [] = refl
all_most limit (n ∷ ns) = ap (λ b. leb n limit && b) (all_most limit ns)

-- ---- `state_of`

module _ (ws : List ℕ) where
  pub other_unheld : (length ws ≡ 34 → ⊥) → holds ws ≡ false
  unfolding holds
  other_unheld ne = rw (ne_eqb (length ws) 34 ne) refl

  module _ (e : length ws ≡ 34) where
    pub tags_hold : get_or ws 2 0 ≤ 7 → list_all (λ n. leb n 65535) (take (27 + get_or ws 2 0 - 27) (drop 27 ws)) ≡ holds ws
    unfolding holds
    tags_hold h =
        let n = get_or ws 2 0 in
        let k : 27 + n - 27 ≡ n = omega arith in
        rw (k, eq-eqb (length ws) 34 e, le-leb n 7 h) (all_most 65535 (take n (drop 27 ws)))

    held_by : get_or ws 2 0 ≤ 7 → at_most 65535 (take (get_or ws 2 0) (drop 27 ws)) ≡ true → holds ws ≡ true
    unfolding holds
    held_by h q = rw (q, eq-eqb (length ws) 34 e, le-leb (get_or ws 2 0) 7 h) refl

  pub unheld : holds ws ≡ false → {s : State} → s ≡ begun 0 0 0 → s ≡ state_of ws
  unfolding state_of
  unheld f q = q ∙ rw f refl

  pub held_length : holds ws ≡ true → length ws ≡ 34
  unfolding holds
  held_length h =
      let a = eqb (length ws) 34 in
      let b = leb (get_or ws 2 0) 7 in
      eqb-true (length ws) 34 (and_left a b (and_left (a && b) (at_most 65535 (take (get_or ws 2 0) (drop 27 ws))) h))

  pub state_parts : (numbers masks marks tags : List ℕ) → holds ws ≡ true → numbers ≡ take 8 (drop 4 ws) → masks ≡ take 8 (drop 12 ws)
      → marks ≡ take 7 (drop 20 ws) → tags ≡ map low (take 7 (drop 27 ws))
      → ◌≡◌ {A = State} (record {
        length = get_or ws 0 0;
        start = get_or ws 1 0;
        opened = get_or ws 2 0;
        revision = get_or ws 3 0;
        numbers = numbers;
        masks = masks;
        marks = marks;
        tags = tags;
      }) (state_of ws)
  unfolding state_of
  state_parts numbers masks marks tags h a b c d = rw (h, a, b, c, d) refl

-- Seven numbers of an array, one by one.
seven : (xs : List ℕ) → 7 ≤ length xs
    → get_or xs 0 0 ∷ get_or xs 1 0 ∷ get_or xs 2 0 ∷ get_or xs 3 0 ∷ get_or xs 4 0 ∷ get_or xs 5 0 ∷ get_or xs 6 0 ∷ [] ≡ take 7 xs
seven [] h = absurd (omega arith)
seven (a ∷ []) h = absurd (omega arith)
seven (a ∷ b ∷ []) h = absurd (omega arith)
seven (a ∷ b ∷ c ∷ []) h = absurd (omega arith)
seven (a ∷ b ∷ c ∷ d ∷ []) h = absurd (omega arith)
seven (a ∷ b ∷ c ∷ d ∷ e ∷ []) h = absurd (omega arith)
seven (a ∷ b ∷ c ∷ d ∷ e ∷ f ∷ []) h = absurd (omega arith)
seven (a ∷ b ∷ c ∷ d ∷ e ∷ f ∷ g ∷ xs) h = refl

pub seven_marks : (ws : List ℕ) → length ws ≡ 34
    → get_or ws 20 0 ∷ get_or ws 21 0 ∷ get_or ws 22 0 ∷ get_or ws 23 0 ∷ get_or ws 24 0 ∷ get_or ws 25 0 ∷ get_or ws 26 0 ∷ [] ≡ take 7 (drop 20 ws)
seven_marks ws e =
    let at : (i : ℕ) → get_or ws (20 + i) 0 ≡ get_or (drop 20 ws) i 0 = λ i. sym (get_or-drop 20 ws i 0) in
    rw (at 0, at 1, at 2, at 3, at 4, at 5, at 6) (seven (drop 20 ws) (let l = length-drop 20 ws in omega arith))

pub seven_tags : (ws : List ℕ) → length ws ≡ 34
    → get_or ws 27 0 ∷ get_or ws 28 0 ∷ get_or ws 29 0 ∷ get_or ws 30 0 ∷ get_or ws 31 0 ∷ get_or ws 32 0 ∷ get_or ws 33 0 ∷ [] ≡ take 7 (drop 27 ws)
seven_tags ws e =
    let at : (i : ℕ) → get_or ws (27 + i) 0 ≡ get_or (drop 27 ws) i 0 = λ i. sym (get_or-drop 27 ws i 0) in
    rw (at 0, at 1, at 2, at 3, at 4, at 5, at 6) (seven (drop 27 ws) (let l = length-drop 27 ws in omega arith))

-- The tags of a state, one by one.
pub low_tags : (ws : List ℕ) → length ws ≡ 34 → (a b c d e f g : ℕ) → a ≡ low (get_or ws 27 0) → b ≡ low (get_or ws 28 0) → c ≡ low (get_or ws 29 0)
    → d ≡ low (get_or ws 30 0) → e ≡ low (get_or ws 31 0) → f ≡ low (get_or ws 32 0) → g ≡ low (get_or ws 33 0)
    → a ∷ b ∷ c ∷ d ∷ e ∷ f ∷ g ∷ [] ≡ map low (take 7 (drop 27 ws))
low_tags ws l a b c d e f g p q r s t u v = rw (p, q, r, s, t, u, v) (ap (map low) (seven_tags ws l))

-- ---- `store`

pub all_tags : (ws : List ℕ) (s : State) → length s.tags ≡ 7 → tagged_after ws s 7 ≡ words_after ws s
unfolding tagged_after words_after words_of
all_tags ws s d = go (eqb (length ws) 34) refl
  where
    go : (b : Bool) → eqb (length ws) 34 ≡ b → tagged_after ws s 7 ≡ words_after ws s
    go true e =
        let l = eqb-true (length ws) 34 e in
        rw (e, take_all 7 s.tags (omega arith), drop_of_length-le ws {i = 34} (omega arith)) (append-nil (untagged s ++ s.tags))
    go false e = rw e refl

pub used_tags : (ws : List ℕ) (s : State) → length s.tags ≡ 7 → tagged_after ws s (min s.opened 7) ≡ used_after ws s
unfolding tagged_after used_after
used_tags ws s d = go (eqb (length ws) 34) refl (leb s.opened 7) refl
  where
    go : (b : Bool) → eqb (length ws) 34 ≡ b → (f : Bool) → leb s.opened 7 ≡ f → tagged_after ws s (min s.opened 7) ≡ used_after ws s
    go false e f g = rw e refl
    go true e true g = let m : min s.opened 7 ≡ s.opened = omega (arith, leb-true s.opened 7 g) in rw (e, m) refl
    go true e false g =
        let l = eqb-true (length ws) 34 e in
        let k = leb-false s.opened 7 g in
        let m : min s.opened 7 ≡ 7 = omega arith in
        rw (
          e,
          m,
          take_all 7 s.tags (omega arith),
          take_all s.opened s.tags (omega arith),
          drop_of_length-le ws {i = 34} (omega arith),
          drop_of_length-le ws {i = 27 + s.opened} (omega arith),
        ) refl

module _ (s : State) (a : length s.numbers ≡ 8) (b : length s.masks ≡ 8) (c : length s.marks ≡ 7) where
  abbrev first : List ℕ
  first = s.length ∷ s.start ∷ s.opened ∷ s.revision ∷ []

  abbrev with_numbers : List ℕ
  with_numbers = first ++ s.numbers

  abbrev with_masks : List ℕ
  with_masks = with_numbers ++ s.masks

  numbers_length : length with_numbers ≡ 12
  numbers_length = length-append first s.numbers ∙ rw a refl

  masks_length : length with_masks ≡ 20
  masks_length = length-append with_numbers s.masks ∙ rw (numbers_length, b) refl

  pub untagged_length : length (untagged s) ≡ 27
  unfolding untagged
  untagged_length = length-append with_masks s.marks ∙ rw (masks_length, c) refl

  module _ (ws : List ℕ) (e : length ws ≡ 34) where
    -- Stores that each begin where the last one ends.
    pub untagged_stored : stored (stored (stored (stored ws 0 first) 4 s.numbers) 12 s.masks) 20 s.marks ≡ stored ws 0 (untagged s)
    unfolding untagged
    untagged_stored =
        let j1 : stored (stored ws 0 first) 4 s.numbers ≡ stored ws 0 with_numbers = joined ws first s.numbers 4 refl (omega arith) in
        let j2 : stored (stored ws 0 with_numbers) 12 s.masks ≡ stored ws 0 with_masks = joined ws with_numbers s.masks 12 (sym numbers_length) (omega arith) in
        rw (j1, j2) (joined ws with_masks s.marks 20 (sym masks_length) (omega arith))

    -- Then n of the tags.
    pub tags_stored : {after : List ℕ} → after ≡ stored ws 0 (untagged s) → (n : ℕ) → n ≤ length s.tags → length s.tags ≡ 7
        → stored after 27 (take n s.tags) ≡ tagged_after ws s n
    unfolding tagged_after
    tags_stored q n h d =
        let xs : List ℕ = take n s.tags in
        let k : length xs ≡ n = length-take-le n s.tags h in
        let l : 0 + length (untagged s ++ xs) ≡ 27 + n =
        zero-add (length (untagged s ++ xs)) ∙ length-append (untagged s) xs ∙ rw (untagged_length, k) refl in
        rw (q, eq-eqb (length ws) 34 e, joined ws (untagged s) xs 27 (sym untagged_length) (omega arith))
        (stored_parts ws 0 (untagged s ++ xs) (omega arith) ∙ rw l refl)

-- An array of a state is then that of another state, if the two have the same tags but for those in use.
pub used_words : (s s' : State) → length (untagged s) ≡ 27 → length (words_of s) ≡ 34 → drop s'.opened s'.tags ≡ drop s'.opened s.tags
    → used_after (words_of s) s' ≡ words_of s'
unfolding used_after words_of
used_words s s' f e same =
    let n = s'.opened in
    let rest : drop (27 + n) (untagged s ++ s.tags) ≡ drop n s'.tags =
    sym (drop-drop n 27 (untagged s ++ s.tags)) ∙ ap (drop n) (drop_at (untagged s) s.tags 27 f) ∙ sym same in
    rw (eq-eqb (length (untagged s ++ s.tags)) 34 e, rest)
    (append_assoc (untagged s') (take n s'.tags) (drop n s'.tags) ∙ ap (λ (x : List ℕ). untagged s' ++ x) (take-append-drop n s'.tags))

-- ---- a state and its array tell the same

first_four : (ws : List ℕ) → 4 ≤ length ws → get_or ws 0 0 ∷ get_or ws 1 0 ∷ get_or ws 2 0 ∷ get_or ws 3 0 ∷ [] ≡ take 4 ws
first_four [] h = absurd (omega arith)
first_four (a ∷ []) h = absurd (omega arith)
first_four (a ∷ b ∷ []) h = absurd (omega arith)
first_four (a ∷ b ∷ c ∷ []) h = absurd (omega arith)
first_four (a ∷ b ∷ c ∷ d ∷ ws) h = refl

all_parts : (ws first : List ℕ) → length ws ≡ 34 → first ≡ take 4 ws
    → first ++ take 8 (drop 4 ws) ++ take 8 (drop 12 ws) ++ take 7 (drop 20 ws) ++ take 7 (drop 27 ws) ≡ ws
all_parts ws first e f =
    let a : take 4 ws ++ take 8 (drop 4 ws) ≡ take 12 ws = sym (take-add 4 8 ws) in
    let b : take 12 ws ++ take 8 (drop 12 ws) ≡ take 20 ws = sym (take-add 12 8 ws) in
    let c : take 20 ws ++ take 7 (drop 20 ws) ≡ take 27 ws = sym (take-add 20 7 ws) in
    let d : take 27 ws ++ take 7 (drop 27 ws) ≡ take 34 ws = sym (take-add 27 7 ws) in
    rw (f, a, b, c, d) (take_all 34 ws (omega arith))

-- Numbers that are at most 65,535 are their lowest 16 bits.
low_small : (xs : List ℕ) → at_most 65535 xs ≡ true → map low xs ≡ xs
unfolding at_most low
low_small [] e = refl
low_small (x ∷ xs) e =
    let h : x ≤ 65535 = leb-true x 65535 (and_left (leb x 65535) (at_most 65535 xs) e) in
    let z : x % 65536 ≡ x = omega arith in
    rw (z, low_small xs (and_right (leb x 65535) (at_most 65535 xs) e)) refl

most_take : (limit n : ℕ) (xs : List ℕ) → at_most limit xs ≡ true → at_most limit (take n xs) ≡ true
unfolding at_most
most_take limit zero xs e = refl
most_take limit (suc n) [] e = refl
most_take limit (suc n) (x ∷ xs) e =
    let h = and_left (leb x limit) (at_most limit xs) e in
    and_both (leb x limit) (at_most limit (take n xs)) h (most_take limit n xs (and_right (leb x limit) (at_most limit xs) e))

-- An array whose seven tags are all small is that of its state.
pub words_state : (ws : List ℕ) → length ws ≡ 34 → get_or ws 2 0 ≤ 7 → at_most 65535 (drop 27 ws) ≡ true → words_of (state_of ws) ≡ ws
unfolding words_of untagged
words_state ws e few small =
    let h = held_by ws e few (most_take 65535 (get_or ws 2 0) (drop 27 ws) small) in
    let whole : take 7 (drop 27 ws) ≡ drop 27 ws = take_all 7 (drop 27 ws) (let l = length-drop 27 ws in omega arith) in
    let tags : take 7 (drop 27 ws) ≡ map low (take 7 (drop 27 ws)) = sym (low_small (take 7 (drop 27 ws)) (ap (at_most 65535) whole ∙ small)) in
    ap words_of (sym (state_parts ws (take 8 (drop 4 ws)) (take 8 (drop 12 ws)) (take 7 (drop 20 ws)) (take 7 (drop 27 ws)) h refl refl refl tags))
    ∙ all_parts ws (get_or ws 0 0 ∷ get_or ws 1 0 ∷ get_or ws 2 0 ∷ get_or ws 3 0 ∷ []) e (first_four ws (omega arith))

module _ (a b c d : ℕ) (N M K T : List ℕ) (n : length N ≡ 8) (m : length M ≡ 8) (k : length K ≡ 7) (t : length T ≡ 7) (few : c ≤ 7) (small : at_most 65535 T ≡ true) where
  abbrev rest : List ℕ
  rest = N ++ (M ++ (K ++ T))

  abbrev array : List ℕ
  array = a ∷ b ∷ c ∷ d ∷ rest

  array_length : length array ≡ 34
  array_length =
      let x = length-append N (M ++ (K ++ T)) in
      let y = length-append M (K ++ T) in
      let z = length-append K T in
      omega arith

  from_masks : drop 8 rest ≡ M ++ (K ++ T)
  from_masks = drop_at N (M ++ (K ++ T)) 8 n

  from_marks : drop 16 rest ≡ K ++ T
  from_marks = sym (drop-drop 8 8 rest) ∙ ap (drop 8) from_masks ∙ drop_at M (K ++ T) 8 m

  from_tags : drop 23 rest ≡ T
  from_tags = sym (drop-drop 7 16 rest) ∙ ap (drop 7) from_marks ∙ drop_at K T 7 k

  held : holds array ≡ true
  held = held_by array array_length few (most_take 65535 c (drop 23 rest) (ap (at_most 65535) from_tags ∙ small))

  state_array : state_of array ≡ record { length = a; start = b; opened = c; revision = d; numbers = N; masks = M; marks = K; tags = T }
  state_array =
      sym (state_parts array N M K T held (sym (take_at N (M ++ (K ++ T)) 8 n)) (sym (ap (take 8) from_masks ∙ take_at M (K ++ T) 8 m))
      (sym (ap (take 7) from_marks ∙ take_at K T 7 k))
      (sym (low_small T small) ∙ ap (map low) (sym (ap (take 7) from_tags ∙ take_all 7 T (omega arith)))))

module _ (s : State) (n : length s.numbers ≡ 8) (m : length s.masks ≡ 8) (k : length s.marks ≡ 7) (t : length s.tags ≡ 7)
    (few : s.opened ≤ 7) (small : at_most 65535 s.tags ≡ true) where
  flat : words_of s ≡ s.length ∷ s.start ∷ s.opened ∷ s.revision ∷ (s.numbers ++ (s.masks ++ (s.marks ++ s.tags)))
  unfolding words_of untagged
  flat =
      let first : List ℕ = s.length ∷ s.start ∷ s.opened ∷ s.revision ∷ [] in
      append_assoc (first ++ s.numbers ++ s.masks) s.marks s.tags ∙ append_assoc (first ++ s.numbers) s.masks (s.marks ++ s.tags)
      ∙ append_assoc first s.numbers (s.masks ++ (s.marks ++ s.tags))

  pub words_length : length (words_of s) ≡ 34
  words_length = ap length flat ∙ array_length s.length s.start s.opened s.revision s.numbers s.masks s.marks s.tags n m k t few small

  pub state_words_lem : state_of (words_of s) ≡ s
  state_words_lem = ap state_of flat ∙ state_array s.length s.start s.opened s.revision s.numbers s.masks s.marks s.tags n m k t few small

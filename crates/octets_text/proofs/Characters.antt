-- Laws for reading text character by character.
use Rattle.std.proofs.Common.{◌≡◌, ℕ, zero, suc, ◌+◌, ◌-◌, ◌<◌, ◌≤◌, Bool, true, false, cond, ◌&&◌, List, [], ◌∷◌, length, get_or, take, drop, replicate, sym, refl, ap, ◌∙◌, true≢false, arith, length-drop, ltb, le-ltb}
use mathlib.Core.Option.{Option, none, some}
use Rattle.std.specs.Prelude as maybe
use Rattle.std.specs.Prelude.{MatchOption, Some, None}
use Rattle.std.specs.Bool.{then_some}
use Rattle.octets_text.proofs.Leads.{alone, leads_one, leads_two, leads_three, no_lead, no_lead_above}
use lib.ListN.{length-replicate}
use Rattle.octets.specs.Utf8.{Range, tail, grammar}
use Rattle.octets.specs.Text.{within, after, text_after, text}
use Rattle.octets.proofs.Text.{lead_passed, no_character}
use Rattle.octets_text.specs.internal.Plain.{Passed}
use Rattle.octets_text.specs.internal.Pending.{next, pending}
use Rattle.octets_text.specs.internal.Character.{follow, size_with, character_size}
use Rattle.octets.proofs.Slices.{tail_part}
use Rattle.octets_text.proofs.Plain.{cut, nothing_left}

-- ---- octets that follow a lead

and-true : (t : Bool) → t ≡ (t && true)
and-true true = refl
and-true false = refl

and_assoc : (t u v : Bool) → ((t && u) && v) ≡ (t && (u && v))
and_assoc true u v = refl
and_assoc false u v = refl

-- Octets that follow are inside.
follow_length : (rs : List Range) (r : List ℕ) → true ≡ follow rs r → length rs ≤ length r
unfolding follow
follow_length [] r e = omega arith
follow_length (q ∷ rs) [] e = absurd (true≢false e)
follow_length (q ∷ rs) (x ∷ r) e = go (within q x) (follow_length rs r) e
  where
    go : (t : Bool) → (true ≡ follow rs r → length rs ≤ length r) → true ≡ (t && follow rs r) → suc (length rs) ≤ suc (length r)
    go true later e = let k = later e in omega arith
    go false later e = absurd (true≢false e)

follow_short : (rs : List Range) (r : List ℕ) → length r < length rs → false ≡ follow rs r
follow_short rs r h = go (follow rs r) refl
  where
    go : (t : Bool) → follow rs r ≡ t → false ≡ follow rs r
    go true e = absurd (omega (arith, follow_length rs r (sym e)))
    go false e = sym e

follow_next : (q : Range) (rs : List Range) (s : List ℕ) (i j : ℕ) → j ≡ i + 1 → i < length s
    → (within q (get_or s i 0) && follow rs (drop j s)) ≡ follow (q ∷ rs) (drop i s)
unfolding follow
follow_next q rs s i j e h = rw (e, cut s i h)

-- Text after a character of which octets are to come: they follow, and text comes after them.
after_follow : (rs : List Range) (r : List ℕ) → text_after rs r ≡ (follow rs r && text_after [] (drop (length rs) r))
unfolding text_after follow
after_follow [] r = refl
after_follow (q ∷ rs) [] = refl
after_follow (q ∷ rs) (x ∷ r) = go (within q x) (after_follow rs r)
  where
    go : (t : Bool) → text_after rs r ≡ (follow rs r && text_after [] (drop (length rs) r))
        → (t && text_after rs r) ≡ ((t && follow rs r) && text_after [] (drop (length rs) r))
    go true later = later
    go false later = refl

-- ---- the character at i

pending_length : (n c : ℕ) → length (pending n c) ≡ n
unfolding pending
pending_length zero c = refl
pending_length (suc n) c = ap suc (length-replicate n tail)

third_is : (s : List ℕ) (i n : ℕ) → i + 2 < length s
    → (within tail (get_or s (i + 2) 0) && follow (replicate n tail) (drop (i + 3) s)) ≡ follow (replicate (suc n) tail) (drop (i + 2) s)
third_is s i n h = follow_next tail (replicate n tail) s (i + 2) (i + 3) (omega arith) h

-- The octets after the lead c at i.
module _ (c : ℕ) (s : List ℕ) (i : ℕ) where
  pub too_few : (n : ℕ) → i < length s → length s - i ≤ n → false ≡ follow (pending n c) (drop (i + 1) s)
  too_few n h k =
      let l = length-drop (i + 1) s in
      let m = pending_length n c in
      follow_short (pending n c) (drop (i + 1) s) (omega arith)

  second_is : (n : ℕ) → i + 1 < length s
      → (within (next c) (get_or s (i + 1) 0) && follow (replicate n tail) (drop (i + 2) s)) ≡ follow (pending (suc n) c) (drop (i + 1) s)
  unfolding pending
  second_is n h = follow_next (next c) (replicate n tail) s (i + 1) (i + 2) (omega arith) h

  pub one_is : i + 1 < length s → within (next c) (get_or s (i + 1) 0) ≡ follow (pending 1 c) (drop (i + 1) s)
  unfolding follow
  one_is h = and-true (within (next c) (get_or s (i + 1) 0)) ∙ second_is 0 h

  pub two_is : i + 2 < length s
      → (within (next c) (get_or s (i + 1) 0) && within tail (get_or s (i + 2) 0)) ≡ follow (pending 2 c) (drop (i + 1) s)
  unfolding follow
  two_is h =
      ap (λ (t : Bool). within (next c) (get_or s (i + 1) 0) && t) (and-true (within tail (get_or s (i + 2) 0)) ∙ third_is s i 0 h)
      ∙ second_is 1 (omega arith)

  pub three_is : i + 3 < length s
      → ((within (next c) (get_or s (i + 1) 0) && within tail (get_or s (i + 2) 0)) && within tail (get_or s (i + 3) 0)) ≡ follow (pending 3 c) (drop (i + 1) s)
  unfolding follow
  three_is h =
      let fourth = follow_next tail [] s (i + 3) (i + 4) (omega arith) h in
      and_assoc (within (next c) (get_or s (i + 1) 0)) (within tail (get_or s (i + 2) 0)) (within tail (get_or s (i + 3) 0))
      ∙ ap (λ (t : Bool). within (next c) (get_or s (i + 1) 0) && t)
      (ap (λ (t : Bool). within tail (get_or s (i + 2) 0) && t) (and-true (within tail (get_or s (i + 3) 0)) ∙ fourth) ∙ third_is s i 1 (omega arith))
      ∙ second_is 2 (omega arith)

-- What follows a lead at the front, where n octets have to.
module _ (s : List ℕ) where
  abbrev front : ℕ
  front = get_or s 0 0

  abbrev second : Bool
  second = within (next front) (get_or s 1 0)

  abbrev third : Bool
  third = within tail (get_or s 2 0)

  pub front_alone : (n : ℕ) → 0 < length s → length s ≤ n → ltb n (length s) ≡ follow (pending n front) (drop 1 s)
  front_alone n h k = rw (le-ltb n (length s) k) (too_few front s 0 n h (omega arith))

  pub front_one : 1 < length s → second ≡ follow (pending 1 front) (drop 1 s)
  front_one h = one_is front s 0 h

  pub front_two : 2 < length s → (second && third) ≡ follow (pending 2 front) (drop 1 s)
  front_two h = two_is front s 0 h

  pub front_three : 3 < length s → ((second && third) && within tail (get_or s 3 0)) ≡ follow (pending 3 front) (drop 1 s)
  front_three h = three_is front s 0 h

pub ruleset following = (front_alone, front_one, front_two, front_three)

module _ (s : List ℕ) (i : ℕ) (h : i < length s) where
  abbrev x : ℕ
  x = get_or s i 0

  size_is : (f : Option (List Range)) → after grammar x ≡ f → size_with (drop (i + 1) s) f ≡ character_size (drop i s)
  unfolding character_size
  size_is f e = rw (cut s i h, e)

  pub none_there : after grammar x ≡ none → 0 ≡ character_size (drop i s)
  unfolding size_with
  none_there e = size_is none e

  pub whole : (n : ℕ) → after grammar x ≡ some (pending n x) → true ≡ follow (pending n x) (drop (i + 1) s) → suc n ≡ character_size (drop i s)
  unfolding size_with
  whole n e f = rw (← f, pending_length n x) at (size_is (some (pending n x)) e)

  pub broken : (n : ℕ) → after grammar x ≡ some (pending n x) → false ≡ follow (pending n x) (drop (i + 1) s) → 0 ≡ character_size (drop i s)
  unfolding size_with
  broken n e f = rw (← f) at (size_is (some (pending n x)) e)

-- The size of the character at the front of octets.
abbrev pub IsSize : List ℕ → maybe.Option ℕ → Type 0
IsSize s size = MatchOption size (character_size s ≡ 0) (λ n. (0 < n) × (n ≡ character_size s))

by_octets : (s : List ℕ) → 0 < length s → (n : ℕ) (t : Bool) → after grammar (get_or s 0 0) ≡ some (pending n (get_or s 0 0))
    → t ≡ follow (pending n (get_or s 0 0)) (drop 1 s) → IsSize s (then_some t (suc n))
by_octets s h n true e f = (omega arith, whole s 0 h n e f)
by_octets s h n false e f = sym (broken s 0 h n e f)

module _ (s : List ℕ) (h : 0 < length s) where
  pub size_one : x s 0 h < 0x80 → IsSize s (Some 1)
  unfolding pending follow
  size_one a = (omega arith, whole s 0 h 0 (alone (x s 0 h) a) refl)

  pub size_none : 0x80 ≤ x s 0 h → x s 0 h < 0xc2 → IsSize s None
  size_none a b = sym (none_there s 0 h (no_lead (x s 0 h) a (omega arith)))

  pub size_two : (t : Bool) → 0xc2 ≤ x s 0 h → x s 0 h < 0xe0 → t ≡ follow (pending 1 (x s 0 h)) (drop 1 s) → IsSize s (then_some t 2)
  size_two t a b = by_octets s h 1 t (leads_one (x s 0 h) a b)

  pub size_three : (t : Bool) → 0xe0 ≤ x s 0 h → x s 0 h < 0xf0 → t ≡ follow (pending 2 (x s 0 h)) (drop 1 s) → IsSize s (then_some t 3)
  size_three t a b = by_octets s h 2 t (leads_two (x s 0 h) a b)

  pub size_four : (t : Bool) → 0xf0 ≤ x s 0 h → x s 0 h < 0xf5 → t ≡ follow (pending 3 (x s 0 h)) (drop 1 s) → IsSize s (then_some t 4)
  size_four t a b = by_octets s h 3 t (leads_three (x s 0 h) a (omega arith))

  pub size_none_above : 0xf5 ≤ x s 0 h → IsSize s None
  size_none_above a = sym (none_there s 0 h (no_lead_above (x s 0 h) (omega arith)))

-- What `character` returns.
pub ruleset sizes = (size_one, size_none, size_two, size_three, size_four, size_none_above)

-- Where no character stands at the front, octets are no text; where one does, the rest decides.
no_text_lem : (r : List ℕ) → 0 < length r → character_size r ≡ 0 → text_after [] r ≡ false
unfolding character_size size_with
no_text_lem [] h e = absurd (omega arith)
no_text_lem (x ∷ r) h e = go (after grammar x) refl e
  where
    open_character : (rs : List Range) (t : Bool) → follow rs r ≡ t → cond t (suc (length rs)) 0 ≡ 0 → text_after rs r ≡ false
    open_character rs true q k = absurd (omega arith)
    open_character rs false q k = after_follow rs r ∙ rw q

    go : (f : Option (List Range)) → after grammar x ≡ f → size_with r f ≡ 0 → text_after [] (x ∷ r) ≡ false
    go none q k = no_character x r q
    go (some rs) q k = lead_passed x rs r q ∙ open_character rs (follow rs r) refl k

past_character : (r : List ℕ) → (character_size r ≡ 0 → ⊥) → Passed r (character_size r)
unfolding character_size size_with text
past_character [] ne = absurd (ne refl)
past_character (x ∷ r) ne = go (after grammar x) refl ne
  where
    passed_by : (rs : List Range) → after grammar x ≡ some rs → (t : Bool) → follow rs r ≡ t → (cond t (suc (length rs)) 0 ≡ 0 → ⊥)
        → Passed (x ∷ r) (cond t (suc (length rs)) 0)
    passed_by rs q true f k =
        let l = follow_length rs r (sym f) in
        record { inside = omega arith; same = lead_passed x rs r q ∙ after_follow rs r ∙ rw f }
    passed_by rs q false f k = absurd (k refl)

    go : (f : Option (List Range)) → after grammar x ≡ f → (size_with r f ≡ 0 → ⊥) → Passed (x ∷ r) (size_with r f)
    go none q k = absurd (k refl)
    go (some rs) q k = passed_by rs q (follow rs r) refl k

-- The turns of the loop, where n is the size of the character at the front of r.
pub stopped : (r : List ℕ) → (length r ≡ 0 → ⊥) → character_size r ≡ 0 → false ≡ text r
unfolding text
stopped r h e = sym (no_text_lem r (omega arith) e)

pub inside : (r : List ℕ) (n : ℕ) → 0 < n → n ≡ character_size r → n ≤ length r
inside r n h e = rw (e) (past_character r (λ z. omega arith)).inside

pub passed : (r : List ℕ) (n : ℕ) → 0 < n → n ≡ character_size r → text (take (length r - n) (drop n r)) ≡ text r
unfolding text
passed r n h e = rw (tail_part r n, e) (sym (past_character r (λ z. omega arith)).same)

-- What `short_text` needs at each turn.
pub ruleset turns = (stopped, inside, passed, nothing_left)

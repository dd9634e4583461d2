-- The computed tests of a size are the layout's forms.
use Prim.Native.Nat.{ℕ, suc, ◌+◌, ◌-◌, ◌≤◌, ◌<◌}
use native.Mathlib.Omega.{arith}
use mathlib.Core.Path.{◌≡◌, refl, sym, subst}
use mathlib.Core.Bool.{Bool, true, false, ◌||◌, not}
use mathlib.Core.List.{List, [], ◌∷◌, ◌++◌}
use lib.ListN.{length, take}
use lib.Seq.{take_at, length-take-le}
use lib.Dec.{eqb, leb, ltb}
use borrow.Author.Tests.{ltb-true, ltb-false, lt-ltb, eqb-true, eqb-false, eq-eqb, ne_eqb, leb-true, le-leb}
use Rattle.tib_field.proofs.Choices.{both}
use Rattle.octets.specs.Number.{big_endian}
use Rattle.tib_rv_field.specs.Layout.{Size, one, two, four}
use Rattle.tib_rv_field.specs.Reading.{following, own, counted, count_allowed}

-- The three forms of a size, by its first octet.
pub data Form (m : ℕ) : Type 0 where
  short : m < 0x79 → Form m
  middle : m ≡ 0x79 → Form m
  long : m ≡ 0x7a → Form m

pub form : (m : ℕ) → m ≤ 0x7a → Form m
form m h = go (ltb m 0x79) refl (eqb m 0x79) refl
  where
    go : (t : Bool) → ltb m 0x79 ≡ t → (u : Bool) → eqb m 0x79 ≡ u → Form m
    go true e u f = short (ltb-true m 0x79 e)
    go false e true f = middle (eqb-true m 0x79 f)
    go false e false f = let a = ltb-false m 0x79 e in let b = eqb-false m 0x79 f in long (omega arith)

module _ (m : ℕ) (h : m < 0x79) where
  pub following_short : following m ≡ 0
  unfolding following
  following_short = rw (ne_eqb m 0x79 (λ e. omega arith), ne_eqb m 0x7a (λ e. omega arith))

  pub own_short : own m ≡ 1
  unfolding own
  own_short = rw (lt-ltb m 0x79 h)

  pub counted_short : (s : List ℕ) → counted m s ≡ m
  unfolding counted
  counted_short s = rw (lt-ltb m 0x79 h)

short_found : (m : ℕ) (s : List ℕ) → m < 0x79 → own m ≤ counted m s → Size (m ∷ take (following m) s) (counted m s - own m)
short_found m s l o =
    let a = following_short m l in
    let b = own_short m l in
    let c = counted_short m l s in
    let e : suc (m - 1) ≡ m = omega arith in
    rw (a, b, c) (subst (λ (x : ℕ). Size (x ∷ []) (m - 1)) e (one (m - 1) (omega arith)))

-- A size that was read is one of the forms.
pub size_found : (m : ℕ) (s : List ℕ) → m ≤ 0x7a → following m ≤ length s → own m ≤ counted m s
    → Size (m ∷ take (following m) s) (counted m s - own m)
unfolding following own counted
size_found m s h w o = go (form m h)
  where
    go : Form m → Size (m ∷ take (following m) s) (counted m s - own m)
    go (short l) = short_found m s l o
    go (middle e) =
        subst (λ (x : ℕ). following x ≤ length s → own x ≤ counted x s → Size (x ∷ take (following x) s) (counted x s - own x)) (sym e)
        (λ p q. two (take 2 s) (big_endian (take 2 s) - 2) (length-take-le 2 s p) (omega arith)) w o
    go (long e) =
        subst (λ (x : ℕ). following x ≤ length s → own x ≤ counted x s → Size (x ∷ take (following x) s) (counted x s - own x)) (sym e)
        (λ p q. four (take 4 s) (big_endian (take 4 s) - 4) (length-take-le 4 s p) (omega arith)) w o

-- The octets of a size, and what is read of them where other octets follow.
pub record Announced (size : List ℕ) (n : ℕ) : Type 0 where
  pub marker : ℕ
  pub tail : List ℕ
  pub divides : size ≡ marker ∷ tail
  pub low : marker ≤ 0x7a
  pub width : length tail ≡ following marker
  pub count : (rest : List ℕ) → counted marker (tail ++ rest) ≡ own marker + n

one_announced : (n : ℕ) → suc n ≤ 0x78 → Announced (suc n ∷ []) n
one_announced n h =
    record {
      marker = suc n;
      tail = [];
      divides = refl;
      low = omega arith;
      width = sym (following_short (suc n) (omega arith));
      count = λ rest. rw (counted_short (suc n) (omega arith) rest, own_short (suc n) (omega arith)) (omega arith);
    }

pub announced : (size : List ℕ) (n : ℕ) → Size size n → Announced size n
unfolding following own counted
announced size k (one n h) = one_announced n h
announced size k (two s n l e) =
    record {
      marker = 0x79;
      tail = s;
      divides = refl;
      low = omega arith;
      width = l;
      count = λ rest. rw (take_at s rest 2 l) e;
    }
announced size k (four s n l e) =
    record {
      marker = 0x7a;
      tail = s;
      divides = refl;
      low = omega arith;
      width = l;
      count = λ rest. rw (take_at s rest 4 l) e;
    }

-- What a good count says.
pub record GoodCount (c m k : ℕ) : Type 0 where
  pub enough : own m ≤ k
  pub marked : c ≡ 1 → m ≡ 0x7a

implied : (a b : Bool) → (not a || b) ≡ true → a ≡ true → b ≡ true
implied true b e f = e
implied false b e f = let z : ◌≡◌ {A = ℕ} 0 1 = cc in absurd (omega arith)

pub good_count : (c m k : ℕ) → count_allowed c m k ≡ true → GoodCount c m k
unfolding count_allowed
good_count c m k e =
    let p = both (leb (own m) k) (not (eqb c 1) || eqb m 0x7a) e in
    record {
      enough = leb-true (own m) k p.0;
      marked = λ f. eqb-true m 0x7a (implied (eqb c 1) (eqb m 0x7a) p.1 (eq-eqb c 1 f));
    }

pub plain_count : (c m k : ℕ) → own m ≤ k → (c ≡ 1 → ⊥) → count_allowed c m k ≡ true
unfolding count_allowed
plain_count c m k h d = rw (le-leb (own m) k h, ne_eqb c 1 d)

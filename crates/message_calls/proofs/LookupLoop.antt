-- The loop invariants of the two lookups: the spans still to come, and the k-th or the last span so far.
use Prim.Native.Nat.{ℕ, zero, suc, ◌+◌, ◌-◌, ◌≤◌, ◌<◌}
use native.Mathlib.Omega.{arith}
use mathlib.Core.Path.{◌≡◌, refl, ap, ◌∙◌}
use mathlib.Core.List.{List, [], ◌∷◌}
use Rattle.std.specs.Prelude as std
use mathlib.Core.Option.{Option, none, some}
use lib.ListN.{length, drop, get_elem?, length-drop}
use borrow.Author.Tests.{eq-eqb, ne_eqb}
use Rattle.message_field.specs.internal.Heads.{head_at}
use Rattle.message_field.specs.internal.Heads.{Head}
use Rattle.message_field.specs.internal.Heads.{End, Fault, Field}
use Rattle.message_field.proofs.Heads.{head_span}
use Rattle.message_field.specs.internal.Heads.{Fieldless}
use Rattle.message_calls.specs.Lookup.{last_or}
use Rattle.message_calls.specs.internal.Spans.{after_head, spans_from, spans, optional_span, nth_span, last_span}
use Rattle.message_calls.specs.declared.outermost.Span.{Span}

module _ {A : Type 0} (x : A) (l : List A) where
  first_is : (k : ℕ) → k ≡ 0 → get_elem? (x ∷ l) k ≡ some x
  first_is k e = rw e

  later_is : (k : ℕ) → (k ≡ 0 → ⊥) → get_elem? (x ∷ l) k ≡ get_elem? l (k - 1)
  later_is zero z = absurd (z refl)
  later_is (suc k) z = let e : suc k - 1 ≡ k = omega arith in rw e

module _ (tag : ℕ) (s : List ℕ) where
  -- The place i is within the octets, and `fuel` is enough for the fields from there on.
  pub record Ahead (i : ℕ) : Type 0 where
    pub fuel : ℕ
    pub inside : i ≤ length s
    pub enough : length s < i + fuel

  -- The spans from i on.
  unfoldable pub rest : (i : ℕ) → Ahead i → List Span
  rest i a = spans_from tag s a.fuel i

  at_start : Ahead 0
  at_start = record { fuel = suc (length s); inside = omega arith; enough = omega arith }

  all_ahead : spans tag s ≡ rest 0 at_start
  unfolding spans rest at_start
  all_ahead = refl

  -- There is no field at i.
  none_ahead : (i : ℕ) (a : Ahead i) (h : Head) → head_at i (drop i s) ≡ h → Fieldless h → rest i a ≡ []
  unfolding rest spans_from after_head Fieldless
  none_ahead i a h e q = go a.fuel
    where
      nothing : (fuel : ℕ) (h : Head) → Fieldless h → after_head tag (spans_from tag s fuel) h ≡ []
      nothing fuel End q = refl
      nothing fuel (Fault k) q = refl
      nothing fuel (Field t start end) q = absurd q

      go : (fuel : ℕ) → spans_from tag s fuel i ≡ []
      go zero = refl
      go (suc fuel) = rw e (nothing fuel h q)

  -- The field at i is passed.
  module _ (i : ℕ) (a : Ahead i) (t start end : ℕ) (e : head_at i (drop i s) ≡ Field t start end) where
    pub record Onward : Type 0 where
      pub further : i < end
      pub end_inside : end ≤ length s
      pub ahead : Ahead end
      pub matched : t ≡ tag → rest i a ≡ record { start = start; end = end } ∷ rest end ahead
      pub other : (t ≡ tag → ⊥) → rest i a ≡ rest end ahead

    pub onward : Onward
    unfolding rest spans_from after_head
    onward = go a.fuel a.enough refl
      where
        go : (fuel : ℕ) → length s < i + fuel → a.fuel ≡ fuel → Onward
        go zero h f = let k = a.inside in absurd (omega arith)
        go (suc fuel) h f =
            let x = head_span i (drop i s) t start end e in
            let d = length-drop i s in
            let k = a.inside in
            record {
              further = omega arith;
              end_inside = omega arith;
              ahead = record { fuel = fuel; inside = omega arith; enough = omega arith };
              matched = λ m. rw (f, e, eq-eqb t tag m);
              other = λ m. rw (f, e, ne_eqb t tag m);
            }

  -- The k-th span is the `remaining`-th of those from i on.
  pub record Sought (k i remaining : ℕ) : Type 0 where
    pub ahead : Ahead i
    pub same : get_elem? (spans tag s) k ≡ get_elem? (rest i ahead) remaining

  pub nothing_sought : (k : ℕ) → Sought k 0 k
  nothing_sought k = record { ahead = at_start; same = ap (λ (l : List Span). get_elem? l k) all_ahead }

  pub not_there : (k i remaining : ℕ) → Sought k i remaining → (h : Head) → head_at i (drop i s) ≡ h → Fieldless h → std.None ≡ nth_span tag k s
  unfolding nth_span optional_span
  not_there k i remaining q h e f = rw (q.same, none_ahead i q.ahead h e f)

  module _ (k i remaining : ℕ) (q : Sought k i remaining) (t start end : ℕ) (e : head_at i (drop i s) ≡ Field t start end) where
    next : Onward i q.ahead t start end e
    next = onward i q.ahead t start end e

    pub other_passed : (t ≡ tag → ⊥) → Sought k end remaining
    other_passed m = record { ahead = next.ahead; same = q.same ∙ ap (λ (l : List Span). get_elem? l remaining) (next.other m) }

    pub reached : t ≡ tag → remaining ≡ 0 → std.Some (record { start = start; end = end }) ≡ nth_span tag k s
    unfolding nth_span optional_span
    reached m z =
        let f : get_elem? (spans tag s) k ≡ some (record { start = start; end = end }) =
        q.same ∙ ap (λ (l : List Span). get_elem? l remaining) (next.matched m) ∙ first_is (record { start = start; end = end }) (rest end next.ahead) remaining z in
        rw f

    pub one_passed : t ≡ tag → (remaining ≡ 0 → ⊥) → Sought k end (remaining - 1)
    one_passed m z =
        record {
          ahead = next.ahead;
          same =
              q.same ∙ ap (λ (l : List Span). get_elem? l remaining) (next.matched m)
              ∙ later_is (record { start = start; end = end }) (rest end next.ahead) remaining z;
        }

  -- `best` is the last span before i, if there is one.
  pub record Latest (i : ℕ) (best : std.Option Span) : Type 0 where
    pub ahead : Ahead i
    pub latest : Option Span
    pub best_is : best ≡ optional_span latest
    pub same : last_or none (spans tag s) ≡ last_or latest (rest i ahead)

  pub none_yet : Latest 0 std.None
  unfolding optional_span
  none_yet = record { ahead = at_start; latest = none; best_is = refl; same = ap (last_or none) all_ahead }

  pub settled : (i : ℕ) (best : std.Option Span) → Latest i best → (h : Head) → head_at i (drop i s) ≡ h → Fieldless h → best ≡ last_span tag s
  unfolding last_span last_or
  settled i best q h e f = rw (q.best_is, q.same, none_ahead i q.ahead h e f)

  module _ (i : ℕ) (best : std.Option Span) (q : Latest i best) (t start end : ℕ) (e : head_at i (drop i s) ≡ Field t start end) where
    after : Onward i q.ahead t start end e
    after = onward i q.ahead t start end e

    pub kept : (t ≡ tag → ⊥) → Latest end best
    kept m = record { ahead = after.ahead; latest = q.latest; best_is = q.best_is; same = q.same ∙ ap (last_or q.latest) (after.other m) }

    pub replaced : t ≡ tag → Latest end (std.Some (record { start = start; end = end }))
    unfolding last_or optional_span
    replaced m =
        record {
          ahead = after.ahead;
          latest = some (record { start = start; end = end });
          best_is = refl;
          same = q.same ∙ rw (after.matched m);
        }

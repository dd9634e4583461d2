-- The text of the output, case by case in the order of the tests.
use Prim.Native.Nat.{ℕ, suc, ◌+◌, ◌-◌, ◌≤◌, ◌<◌}
use native.Mathlib.Omega.{arith}
use mathlib.Core.Path.{◌≡◌, refl, sym, ap, ◌∙◌}
use mathlib.Core.Bool.{Bool, true, false, cond}
use mathlib.Core.List.{List, [], ◌∷◌}
use lib.ListN.{length, take, drop}
use lib.Dec.{ltb}
use borrow.Author.Tests.{ltb-false, lt-ltb, le-ltb, eq-eqb, ne_eqb}
use Rattle.reading.specs.Reading.{message_limit}
use Rattle.reading.specs.Refusals as refusals
use Rattle.octets.specs.Control.{following, coded}
use Rattle.table.specs.Load.{Loaded, load}
use Rattle.table.specs.declared.Table.{Table}
use Rattle.message_frame.specs.Frame.{frame_code, read_refused, read_accepted, announced, prefixed, front_read, frame_read, message_part}
use Rattle.message_frame.specs.declared.FrameRead.{FrameRead}
use Rattle.text_message.specs.Text.{refusal_text, message_text}
use Rattle.text_show.specs.Output.{second_text, table_text, first_text, output}

-- A frame that is accepted lies within the octets.
pub frame_inside : (s : List ℕ) (f : FrameRead) → f ≡ frame_read s → f.refusal ≡ 0 → (f.start ≤ f.end) × (f.end ≤ length s)
unfolding frame_read front_read prefixed announced
frame_inside s f e z =
    let g = long (ltb 65545 (length s)) (ap (λ (x : FrameRead). x.refusal) (sym e) ∙ z) in
    rw e g
  where
    Inside : FrameRead → Type 0
    Inside r = (r.start ≤ r.end) × (r.end ≤ length s)

    past : (n size rest : ℕ) (b : Bool) → ltb rest size ≡ b → n + rest ≤ length s
        → (cond b (read_refused 4) (read_accepted n (n + size))).refusal ≡ 0 → Inside (cond b (read_refused 4) (read_accepted n (n + size)))
    past n size rest true t h z = absurd (omega arith)
    past n size rest false t h z = let k = ltb-false rest size t in (omega arith, omega arith)

    large : (n size rest : ℕ) (b : Bool) → n + rest ≤ length s
        → (cond b (read_refused 1) (cond (ltb rest size) (read_refused 4) (read_accepted n (n + size)))).refusal ≡ 0
        → Inside (cond b (read_refused 1) (cond (ltb rest size) (read_refused 4) (read_accepted n (n + size))))
    large n size rest true h z = absurd (omega arith)
    large n size rest false h z = past n size rest (ltb rest size) refl h z

    cut : (x : ℕ) (r : List ℕ) (b : Bool) → ltb (length r) (following frame_code x) ≡ b → suc (length r) ≡ length s
        → (cond b (read_refused 3) (announced (1 + following frame_code x) (coded frame_code x (take (following frame_code x) r)) (length r - following frame_code x))).refusal ≡ 0
        → Inside (cond b (read_refused 3) (announced (1 + following frame_code x) (coded frame_code x (take (following frame_code x) r)) (length r - following frame_code x)))
    cut x r true t h z = absurd (omega arith)
    cut x r false t h z =
        let k = ltb-false (length r) (following frame_code x) t in
        large (1 + following frame_code x) (coded frame_code x (take (following frame_code x) r)) (length r - following frame_code x)
        (ltb message_limit (coded frame_code x (take (following frame_code x) r))) (omega arith) z

    empty : (r : List ℕ) → length r ≡ length s → (front_read r).refusal ≡ 0 → Inside (front_read r)
    empty [] h z = absurd (omega arith)
    empty (x ∷ r) h z = cut x r (ltb (length r) (following frame_code x)) refl h z

    long : (b : Bool) → (cond b (read_refused 1) (front_read s)).refusal ≡ 0 → Inside (cond b (read_refused 1) (front_read s))
    long true z = absurd (omega arith)
    long false z = empty s refl z

-- The second frame.
module _ (t : Table) (s : List ℕ) (f : FrameRead) (e : f ≡ frame_read s) where
  pub second_refused : (f.refusal ≡ 0 → ⊥) → refusal_text f.refusal f.place ≡ second_text t s (frame_read s)
  unfolding second_text
  second_refused ne = rw (← e, ne_eqb f.refusal 0 ne)

  pub second_followed : f.refusal ≡ 0 → (f.end ≡ length s → ⊥) → refusal_text refusals.size 0 ≡ second_text t s (frame_read s)
  unfolding second_text
  second_followed z ne = rw (← e, eq-eqb f.refusal 0 z, ne_eqb f.end (length s) ne)

  pub second_message : f.refusal ≡ 0 → f.end ≡ length s
      → message_text t (take (f.end - f.start) (drop f.start s)) ≡ second_text t s (frame_read s)
  unfolding second_text message_part
  second_message z h = rw (← e, eq-eqb f.refusal 0 z, eq-eqb f.end (length s) h)

-- The first frame.
module _ (s : List ℕ) (f : FrameRead) (e : f ≡ frame_read s) where
  pub first_refused : (f.refusal ≡ 0 → ⊥) → refusal_text f.refusal f.place ≡ first_text s (frame_read s)
  unfolding first_text
  first_refused ne = rw (← e, ne_eqb f.refusal 0 ne)

  module _ (z : f.refusal ≡ 0) (l : Loaded) (g : l ≡ load (take (f.end - f.start) (drop f.start s))) where
    pub table_refused : (l.refusal ≡ 0 → ⊥) → refusal_text l.refusal l.place ≡ first_text s (frame_read s)
    unfolding first_text table_text message_part
    table_refused ne = rw (← e, eq-eqb f.refusal 0 z, ← g, ne_eqb l.refusal 0 ne)

    pub table_loaded : l.refusal ≡ 0 → second_text l.table (drop f.end s) (frame_read (drop f.end s)) ≡ first_text s (frame_read s)
    unfolding first_text table_text message_part
    table_loaded y = rw (← e, eq-eqb f.refusal 0 z, ← g, eq-eqb l.refusal 0 y)

-- The whole input.
pub too_long_lem : (s : List ℕ) → message_limit < length s → refusal_text refusals.too_long 0 ≡ output s
unfolding output
too_long_lem s h = rw (lt-ltb message_limit (length s) h)

pub not_too_long : (s : List ℕ) → length s ≤ message_limit → first_text s (frame_read s) ≡ output s
unfolding output
not_too_long s h = rw (le-ltb message_limit (length s) h)

-- Which octets the frame reader accepts, and that no prefix of a size is shorter than the writer's.
use Prim.Native.Nat.{ℕ, ◌+◌, ◌-◌, ◌≤◌, ◌<◌}
use native.Mathlib.Omega.{arith}
use mathlib.Core.Path.{◌≡◌, refl, sym, ap, ap₂, ◌∙◌, subst}
use mathlib.Core.Bool.{Bool, true, false, cond}
use mathlib.Core.List.{List, [], ◌∷◌, ◌++◌}
use mathlib.Core.Logic.{◌↔◌}
use lib.ListN.{length, take, drop, length-append, length-drop, take-append-drop}
use lib.Seq.{take_at, length-take-le}
use lib.Dec.{ltb}
use borrow.Author.Tests.{ltb-false}
use Rattle.octets.specs.Number.{Octets}
use Rattle.octets.specs.Control.{following, coded}
use Rattle.octets.proofs.Number.{octets_before}
use Rattle.octets.specs.ControlPart.{Form}
use Rattle.octets.proofs.Codes.{form_following, form_coded, form_of, least_code_least}
use Rattle.octets.specs.NoShorter.{NoShorter}
use Rattle.message_frame.specs.declared.FrameRead.{FrameRead}
use Rattle.message_frame.specs.Frame.{frame_code, read_refused, read_accepted, announced, prefixed, front_read, frame_read, shortest_prefix}
use Rattle.message_frame.proofs.Prefixes.{frame_rising}
use Rattle.message_frame.proofs.FrameReadAnswers.{read_whole}
use Rattle.message_frame.specs.WholeFrame.{WholeFrame}

-- A prefix of any form is read.
pub read_form : (x size : ℕ) (t r : List ℕ) → Form frame_code size x t → size ≤ 65536 → size ≤ length r → 1 + length t + length r ≤ 65545
    → frame_read (x ∷ t ++ r) ≡ read_accepted (1 + length t) (1 + length t + size)
read_form x size t r f a b c =
    let l = length-append t r in
    let k : take (1 + length t - 1) (t ++ r) ≡ t = take_at t r (1 + length t - 1) (omega arith) in
    sym
    (read_whole (x ∷ t ++ r) (length t) (omega arith) (omega arith) (sym (form_following frame_code size x t f)) size (omega arith)
    (rw k (sym (form_coded frame_code size x t f))) a (omega arith))

-- Octets of a whole frame are accepted.
pub whole_accepted : (s : List ℕ) (from to : ℕ) → WholeFrame s from to → frame_read s ≡ read_accepted from to
whole_accepted s from to w =
    let l : length s ≡ 1 + length w.sized + length w.rest = ap length w.is ∙ simp length-append (omega arith) in
    let b = w.buffer_limit in
    ap frame_read w.is
    ∙ read_form w.octet w.size w.sized w.rest w.form w.message_limit w.inside (omega arith)
    ∙ rw (w.end_is, w.start_is)

-- A refusal is no acceptance.
refused_not : {A : Type 0} (n from to : ℕ) → 0 < n → read_refused n ≡ read_accepted from to → A
refused_not n from to h e = let z : n ≡ 0 = ap (λ (r : FrameRead). r.refusal) e in absurd (omega arith)

-- Octets that are accepted are a whole frame.
pub accepted_whole : (s : List ℕ) (from to : ℕ) → Octets s → frame_read s ≡ read_accepted from to → WholeFrame s from to
unfolding frame_read front_read prefixed announced Octets
accepted_whole [] from to o e = refused_not 3 from to (omega arith) e
accepted_whole (x ∷ s) from to o e = long (ltb 65545 (length (x ∷ s))) refl e
  where
    n : ℕ
    n = following frame_code x

    size : ℕ
    size = coded frame_code x (take n s)

    past : (t : Bool) → ltb (length s - n) size ≡ t → length (x ∷ s) ≤ 65545 → n ≤ length s → size ≤ 65536
        → cond t (read_refused 4) (read_accepted (1 + n) (1 + n + size)) ≡ read_accepted from to → WholeFrame (x ∷ s) from to
    past true t a b c f = refused_not 4 from to (omega arith) f
    past false t a b c f =
        let h = ltb-false (length s - n) size t in
        let x-octet = o.0 in
        let l : length (take n s) ≡ n = length-take-le n s b in
        let d = length-drop n s in
        let p : 1 + n ≡ from = ap (λ (r : FrameRead). r.start) f in
        let q : 1 + n + size ≡ to = ap (λ (r : FrameRead). r.end) f in
        record {
          octet = x;
          sized = take n s;
          rest = drop n s;
          size = size;
          is = ap (λ (r : List ℕ). x ∷ r) (sym (take-append-drop n s));
          form = form_of frame_code x (take n s) (omega arith) l;
          start_is = omega arith;
          end_is = omega arith;
          inside = omega arith;
          message_limit = c;
          buffer_limit = a;
        }

    large : (t : Bool) → ltb 65536 size ≡ t → length (x ∷ s) ≤ 65545 → n ≤ length s
        → cond t (read_refused 1) (cond (ltb (length s - n) size) (read_refused 4) (read_accepted (1 + n) (1 + n + size))) ≡ read_accepted from to
        → WholeFrame (x ∷ s) from to
    large true t a b f = refused_not 1 from to (omega arith) f
    large false t a b f = past (ltb (length s - n) size) refl a b (ltb-false 65536 size t) f

    cut : (t : Bool) → ltb (length s) n ≡ t → length (x ∷ s) ≤ 65545
        → cond t (read_refused 3) (cond (ltb 65536 size) (read_refused 1) (cond (ltb (length s - n) size) (read_refused 4) (read_accepted (1 + n) (1 + n + size)))) ≡ read_accepted from to
        → WholeFrame (x ∷ s) from to
    cut true t a f = refused_not 3 from to (omega arith) f
    cut false t a f = large (ltb 65536 size) refl a (ltb-false (length s) n t) f

    long : (t : Bool) → ltb 65545 (length (x ∷ s)) ≡ t
        → cond t (read_refused 1) (cond (ltb (length s) n) (read_refused 3) (cond (ltb 65536 size) (read_refused 1) (cond (ltb (length s - n) size) (read_refused 4) (read_accepted (1 + n) (1 + n + size))))) ≡ read_accepted from to
        → WholeFrame (x ∷ s) from to
    long true t f = refused_not 1 from to (omega arith) f
    long false t f = cut (ltb (length s) n) refl (ltb-false 65545 (length (x ∷ s)) t) f

-- The reader accepts octets, with the message from one place to another, exactly where they are a whole frame with these places.
pub frame_accepted_exactly : (s : List ℕ) (from to : ℕ) → Octets s → (frame_read s ≡ read_accepted from to) ↔ WholeFrame s from to
frame_accepted_exactly s from to o = (accepted_whole s from to o, whole_accepted s from to)

-- A prefix of a size, in any form, is no shorter than the shortest prefix.
pub form_no_shorter : (size x : ℕ) (t : List ℕ) → Octets t → Form frame_code size x t → NoShorter (shortest_prefix size) (x ∷ t)
unfolding shortest_prefix
form_no_shorter size x t o f =
    let p = least_code_least frame_code size size x t frame_rising (omega arith) o f in
    let h = p.long in
    record {
      long = omega arith;
      same = λ e. let q = p.same (omega arith) refl in ap₂ (λ (y : ℕ) (r : List ℕ). y ∷ r) q.0 q.1;
    }

-- The prefix in accepted octets is no shorter than the shortest prefix of its size.
pub prefix_no_shorter : (s : List ℕ) (from to : ℕ) → Octets s → frame_read s ≡ read_accepted from to → NoShorter (shortest_prefix (to - from)) (take from s)
unfolding Octets
prefix_no_shorter s from to o e =
    let w = accepted_whole s from to o e in
    let p = w.start_is in
    let q = w.end_is in
    let b : Octets (w.octet ∷ w.sized ++ w.rest) = subst Octets w.is o in
    let k : to - from ≡ w.size = omega arith in
    let t : take from s ≡ w.octet ∷ w.sized = ap (take from) w.is ∙ take_at (w.octet ∷ w.sized) w.rest from (omega arith) in
    rw (k, t) (form_no_shorter w.size w.octet w.sized (octets_before w.sized w.rest b.1) w.form)

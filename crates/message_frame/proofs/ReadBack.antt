-- What the frame writer writes is read back.
use Prim.Native.Nat.{ℕ, ◌+◌, ◌-◌, ◌≤◌}
use native.Mathlib.Nat.{zero-add}
use native.Mathlib.Omega.{arith}
use mathlib.Core.Path.{◌≡◌, refl, sym, ap, ◌∙◌}
use mathlib.Core.Bool.{Bool, true, false, cond}
use mathlib.Core.List.{List, ◌∷◌, ◌++◌, append_assoc}
use lib.ListN.{length, drop, length-append, length-drop}
use lib.Seq.{take_at, drop_at}
use lib.Dec.{ltb}
use borrow.Author.Tests.{ltb-false, le-ltb}
use Rattle.reading.specs.Reading.{message_limit}
use Rattle.octets.specs.Control.{least_code}
use Rattle.octets_store.proofs.Stores.{stored_parts}
use Rattle.message_frame.specs.Frame.{frame_code, buffer_limit, read_accepted, frame_read, message_part, shortest_prefix, framed, write_refused, frame_written, frame_stored}
use Rattle.message_frame.proofs.Prefixes.{prefix_form}
use Rattle.message_frame.proofs.Accepted.{read_form}
use Rattle.message_frame.specs.ReadBack.{ReadBack}

-- A frame is read whichever octets follow it.
pub framed_read : (m r : List ℕ) → length m ≤ message_limit → length (framed m ++ r) ≤ buffer_limit
    → frame_read (framed m ++ r) ≡ read_accepted (length (shortest_prefix (length m))) (length (framed m))
unfolding framed shortest_prefix
framed_read m r h k =
    let p = least_code frame_code (length m) in
    let a : (p.0 ∷ p.1 ++ m) ++ r ≡ p.0 ∷ p.1 ++ (m ++ r) = append_assoc (p.0 ∷ p.1) m r in
    let l = length-append m r in
    let n = length-append p.1 m in
    let q = length-append (p.0 ∷ p.1 ++ m) r in
    let e : 1 + length p.1 + length m ≡ length (p.0 ∷ p.1 ++ m) = omega arith in
    let f : 1 + length p.1 ≡ length (p.0 ∷ p.1) = omega arith in
    ap frame_read a
    ∙ read_form p.0 (length m) p.1 (m ++ r) (prefix_form (length m) (omega arith)) h (omega arith) (omega arith)
    ∙ rw (e, f)

-- The message part of a frame is the message.
pub framed_message : (m r : List ℕ) → message_part (framed m ++ r) (read_accepted (length (shortest_prefix (length m))) (length (framed m))) ≡ m
unfolding message_part framed
framed_message m r =
    let p = shortest_prefix (length m) in
    let n : length (p ++ m) - length p ≡ length m = rw (length-append p m) (omega arith) in
    rw (n, append_assoc p m r, drop_at p (m ++ r) (length p) refl) (take_at m r (length m) refl)

-- The buffer after the writer is the frame and what stood beyond.
pub stored_frame : (m out : List ℕ) → length m ≤ message_limit → length (framed m) ≤ length out
    → frame_stored m out ≡ framed m ++ drop (length (framed m)) out
unfolding frame_stored
stored_frame m out h k =
    rw (le-ltb 65536 (length m) h) (stored_parts out 0 (framed m) (omega arith) ∙ rw (zero-add (length (framed m))))

-- Where the writer accepts, message and frame are within their limits.
pub record WrittenWhole (m : List ℕ) (room : ℕ) : Type 0 where
  pub message_limit : length m ≤ message_limit
  pub fits : length (framed m) ≤ room
  pub size_is : (frame_written m room).length ≡ length (framed m)

pub written_whole : (m : List ℕ) (room : ℕ) → (frame_written m room).refusal ≡ 0 → WrittenWhole m room
unfolding frame_written
written_whole m room e =
    let h = limits (ltb 65536 (length m)) (ltb room (length (framed m))) refl refl e in
    record {
      message_limit = h.0;
      fits = h.1;
      size_is = rw (le-ltb 65536 (length m) h.0, le-ltb room (length (framed m)) h.1);
    }
  where
    limits : (t u : Bool) → ltb 65536 (length m) ≡ t → ltb room (length (framed m)) ≡ u
        → (cond t (write_refused 1) (cond u (write_refused 9) (record { refusal = 0; place = 0; length = length (framed m) }))).refusal ≡ 0
        → (length m ≤ message_limit) × (length (framed m) ≤ room)
    limits true u f g e = absurd (omega arith)
    limits false true f g e = absurd (omega arith)
    limits false false f g e = (ltb-false 65536 (length m) f, ltb-false room (length (framed m)) g)

-- What is written is read back as the same message with the place after it, and what stood beyond is still there.
pub written_read_back : (m out : List ℕ) → (frame_written m (length out)).refusal ≡ 0 → length out ≤ buffer_limit → ReadBack m out (frame_stored m out)
written_read_back m out e k =
    let w = written_whole m (length out) e in
    let f = w.fits in
    let r = drop (length (framed m)) out in
    let l : length (framed m ++ r) ≡ length out = rw (length-append (framed m) r, length-drop (length (framed m)) out) (omega arith) in
    let b : frame_stored m out ≡ framed m ++ r = stored_frame m out w.message_limit f in
    let a : frame_read (framed m ++ r) ≡ read_accepted (length (shortest_prefix (length m))) (length (framed m)) =
    framed_read m r w.message_limit (omega arith) in
    rw b
    (record {
      accepted = rw a;
      message = rw a (framed_message m r);
      after = rw a (sym w.size_is);
      beyond = rw a (drop_at (framed m) r (length (framed m)) refl);
    })

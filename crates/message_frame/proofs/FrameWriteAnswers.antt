-- Laws for the frame writer, a law for each of its answers.
use Prim.Native.Nat.{ℕ, ◌+◌, ◌≤◌, ◌<◌}
use native.Mathlib.Omega.{arith}
use mathlib.Core.Path.{◌≡◌, refl, sym}
use mathlib.Core.Bool.{Bool, true, false, cond}
use mathlib.Core.List.{List}
use lib.ListN.{length, set}
use lib.Dec.{ltb}
use borrow.Author.Tests.{ltb-true, lt-ltb, le-ltb}
use Rattle.octets.specs.Number.{octets_of}
use Rattle.octets.proofs.Number.{length_octets_of}
use Rattle.octets_store.specs.Store.{stored}
use Rattle.octets_store.proofs.Stores.{stored_too_long, stored_three}
use Rattle.message_frame.specs.Frame.{write_refused, framed, frame_written, frame_stored}
use Rattle.message_frame.specs.internal.Lead.{LeastPrefix}
use Rattle.message_frame.specs.declared.FrameWritten.{FrameWritten}
use Rattle.message_frame.proofs.Prefixes.{prefix_parts, framed_length}

pub write-long : (m out : List ℕ) → 65536 < length m → (write_refused 1 ≡ frame_written m (length out)) × (out ≡ frame_stored m out)
unfolding frame_written frame_stored
write-long m out h = (rw (lt-ltb 65536 (length m) h), rw (lt-ltb 65536 (length m) h))

module _ (m out : List ℕ) (octet w : ℕ) (p : LeastPrefix (length m) octet w) (h : length m ≤ 65536) where
  pub write-no-room : length out < 1 + w + length m → (write_refused 9 ≡ frame_written m (length out)) × (out ≡ frame_stored m out)
  unfolding frame_written frame_stored
  write-no-room k =
      let l = framed_length m octet w p in (
        rw (le-ltb 65536 (length m) h, l, lt-ltb (length out) (1 + w + length m) k),
        rw (le-ltb 65536 (length m) h) (sym (stored_too_long out 0 (framed m) (omega arith))),
      )

  -- The three stores are one store of the frame.
  pub write_done : 1 + w + length m ≤ length out
      → (◌≡◌ {A = FrameWritten} (record { refusal = 0; place = 0; length = 1 + w + length m }) (frame_written m (length out)))
      × (stored (stored (set out 0 octet) 1 (octets_of w (length m))) (1 + w) m ≡ frame_stored m out)
  unfolding frame_written frame_stored framed
  write_done k =
      let l = framed_length m octet w p in (
        rw (le-ltb 65536 (length m) h, l, le-ltb (length out) (1 + w + length m) k),
        rw (le-ltb 65536 (length m) h, prefix_parts (length m) octet w p)
            (stored_three out 0 octet w (octets_of w (length m)) m (sym (length_octets_of w (length m))) (omega arith)),
      )

-- A refused call leaves the buffer as it was.
pub frame-refused-leaves : (m out : List ℕ) → ((frame_written m (length out)).refusal ≡ 0 → ⊥) → frame_stored m out ≡ out
unfolding frame_written frame_stored
frame-refused-leaves m out ne = go (ltb 65536 (length m)) (ltb (length out) (length (framed m))) refl ne
  where
    go : (t u : Bool) → ltb (length out) (length (framed m)) ≡ u
        → ((cond t (write_refused 1) (cond u (write_refused 9) (record { refusal = 0; place = 0; length = length (framed m) }))).refusal ≡ 0 → ⊥)
        → cond t out (stored out 0 (framed m)) ≡ out
    go true u p k = refl
    go false true p k = let h = ltb-true (length out) (length (framed m)) p in stored_too_long out 0 (framed m) (omega arith)
    go false false p k = absurd (k refl)

pub long-leaves : (m out : List ℕ) → 65536 < length m → out ≡ frame_stored m out
long-leaves m out h = (write-long m out h).1

pub no-room-leaves : (m out : List ℕ) (octet w : ℕ) → LeastPrefix (length m) octet w → length m ≤ 65536 → length out < 1 + w + length m → out ≡ frame_stored m out
no-room-leaves m out octet w p h k = (write-no-room m out octet w p h k).1

-- What `frame_write` answers, and the buffer afterwards.
pub ruleset answers = (write-long, write-no-room, write_done, long-leaves, no-room-leaves)

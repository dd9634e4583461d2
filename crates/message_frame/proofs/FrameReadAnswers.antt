-- Laws for the frame reader, a law for each of its answers.
use Prim.Native.Nat.{ℕ, ◌+◌, ◌-◌, ◌≤◌, ◌<◌}
use native.Mathlib.Omega.{arith}
use mathlib.Core.Path.{◌≡◌, sym, ◌∙◌}
use mathlib.Core.List.{List, [], ◌∷◌}
use lib.ListN.{length, get_or, take, drop, length-drop}
use borrow.Author.Tests.{lt-ltb, le-ltb}
use Rattle.octets.specs.internal.Bounded.{unsigned}
use Rattle.octets.specs.Control.{following, coded}
use Rattle.octets.proofs.Number.{unsigned_is}
use Rattle.message_frame.specs.Frame.{frame_code, read_refused, read_accepted, announced, prefixed, front_read, frame_read}

pub size-direct : (x : ℕ) (s : List ℕ) → x < 0xfc → x ≡ coded frame_code x s
unfolding coded
size-direct x s h = rw (lt-ltb x 0xfc h)

pub size-follows : (x v : ℕ) (s : List ℕ) → 0xfc ≤ x → length s ≤ 8 → v ≡ unsigned s → v ≡ coded frame_code x s
unfolding coded
size-follows x v s h k e = e ∙ rw (le-ltb x 0xfc h) (unsigned_is s k)

-- The last first octet of a prefix.
pub last-lead : (x : ℕ) → x < 0x100 → 0xfc ≤ x → (x ≡ 0xfc → ⊥) → (x ≡ 0xfd → ⊥) → (x ≡ 0xfe → ⊥) → x ≡ 0xff
last-lead x h a b c d = omega arith

pub read_long : (s : List ℕ) → 65545 < length s → read_refused 1 ≡ frame_read s
unfolding frame_read
read_long s h = rw (lt-ltb 65545 (length s) h)

read-front : (s : List ℕ) → length s ≤ 65545 → frame_read s ≡ front_read s
unfolding frame_read
read-front s h = rw (le-ltb 65545 (length s) h)

pub read-empty : (s : List ℕ) → length s ≤ 65545 → length s ≡ 0 → read_refused 3 ≡ frame_read s
unfolding front_read
read-empty [] h e = sym (read-front [] h)
read-empty (x ∷ s) h e = absurd (omega arith)

pub read-prefixed : (s : List ℕ) → length s ≤ 65545 → 0 < length s → frame_read s ≡ prefixed (get_or s 0 0) (drop 1 s)
unfolding front_read
read-prefixed [] h k = absurd (omega arith)
read-prefixed (x ∷ s) h k = read-front (x ∷ s) h

-- The first octet says that w octets of the size follow.
module _ (s : List ℕ) (w : ℕ) (short : length s ≤ 65545) (some : 0 < length s) (e : w ≡ following frame_code (get_or s 0 0)) where
  pub read_cut : length s < 1 + w → read_refused 3 ≡ frame_read s
  unfolding prefixed
  read_cut h =
      let l : length (drop 1 s) < w = rw (length-drop 1 s) (omega arith) in
      sym (read-prefixed s short some ∙ rw (← e, lt-ltb (length (drop 1 s)) w l))

  -- They are all there, and the prefix announces n.
  module _ (n : ℕ) (whole : 1 + w ≤ length s) (f : n ≡ coded frame_code (get_or s 0 0) (take (1 + w - 1) (drop 1 s))) where
    read-announced : frame_read s ≡ announced (1 + w) n (length s - (1 + w))
    unfolding prefixed
    read-announced =
        let l : w ≤ length (drop 1 s) = rw (length-drop 1 s) (omega arith) in
        let k : 1 + w - 1 ≡ w = omega arith in
        let r : length (drop 1 s) - w ≡ length s - (1 + w) = rw (length-drop 1 s) (omega arith) in
        read-prefixed s short some ∙ rw (← e, le-ltb (length (drop 1 s)) w l, r, rw k at f)

    pub read-too-large : 65536 < n → read_refused 1 ≡ frame_read s
    unfolding announced
    read-too-large h = sym (read-announced ∙ rw (lt-ltb 65536 n h))

    pub read_past : n ≤ 65536 → length s - (1 + w) < n → read_refused 4 ≡ frame_read s
    unfolding announced
    read_past h k = sym (read-announced ∙ rw (le-ltb 65536 n h, lt-ltb (length s - (1 + w)) n k))

    pub read_whole : n ≤ 65536 → n ≤ length s - (1 + w)
        → read_accepted (1 + w) (1 + w + n) ≡ frame_read s
    unfolding announced
    read_whole h k = sym (read-announced ∙ rw (le-ltb 65536 n h, le-ltb (length s - (1 + w)) n k))

-- What `size` returns.
pub ruleset sizes = (size-direct, size-follows)

-- What `frame_read` answers.
pub ruleset answers = (read_long, read-empty, read_cut, read-too-large, read_past, read_whole)

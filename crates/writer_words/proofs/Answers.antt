-- The answers of the calls with an array, from those with the state in it.
use Prim.Native.Nat.{ℕ}
use mathlib.Core.Path.{◌≡◌, refl, ◌∙◌}
use mathlib.Core.List.{List}
use lib.ListN.{length, replicate}
use borrow.Author.Tests.{eq-eqb, ne_eqb}
use Rattle.writer_state.specs.Call.{Call}
use Rattle.writer_state.specs.Calls.{finished}
use Rattle.writer_state.specs.ByOctets.{started_octets, answer_octets, buffer_octets}
use Rattle.writer_state.specs.declared.State.{State}
use Rattle.writer_state.specs.declared.Written.{Written}
use Rattle.writer_state.specs.Finished.{Finished}
use Rattle.writer_words.specs.Words.{state_of, words_after, array_after, start_words, call_words, call_buffer, finish_words}

module _ (octets : List ℕ) (revision number len : ℕ) (ws : List ℕ) where
  pub start_other : (length ws ≡ 34 → ⊥) → {after : List ℕ} → after ≡ replicate (length ws) 0
      → start_words octets revision number len ws ≡ record { refusal = 10; place = 0; array = after }
  unfolding start_words
  start_other ne e = rw (ne_eqb (length ws) 34 ne, e) refl

  pub start_stored : length ws ≡ 34 → {w : Written} {after : List ℕ} → w ≡ started_octets octets revision number len → after ≡ words_after ws w.state
      → start_words octets revision number len ws ≡ record { refusal = w.refusal; place = w.place; array = after }
  unfolding start_words words_after
  start_stored e p q = rw (q, p, eq-eqb (length ws) 34 e) refl

module _ (octets ws d : List ℕ) (c : Call) {s : State} (e : s ≡ state_of ws) where
  pub called : {w : Written} {r p : ℕ} {after : List ℕ} → w ≡ answer_octets octets s d c → r ≡ w.refusal → p ≡ w.place → after ≡ array_after ws w
      → call_words octets ws d c ≡ record { refusal = r; place = p; array = after }
  unfolding call_words
  called q x y z = rw (x, y, z, q, e) refl

  pub called_buffer : {after : List ℕ} → after ≡ buffer_octets octets s d c → after ≡ call_buffer octets ws d c
  unfolding call_buffer
  called_buffer p = p ∙ rw e refl

pub ended : (ws : List ℕ) {s : State} {f : Finished} → s ≡ state_of ws → f ≡ finished s
    → finish_words ws ≡ record { refusal = f.refusal; place = f.place; start = f.start }
unfolding finish_words
ended ws e p = rw (p, e) refl

-- The answer of a put after its tag is looked up, and the buffer after it, case by case.
use Prim.Native.Nat.{ℕ, ◌+◌, ◌-◌, ◌<◌}
use native.Mathlib.Omega.{arith}
use mathlib.Core.Path.{◌≡◌, refl, sym}
use mathlib.Core.Bool.{Bool, true, false, cond}
use mathlib.Core.List.{List}
use lib.ListN.{length}
use lib.Dec.{leb}
use lib.Seq.{set_out}
use Rattle.octets.specs.Control.{least_control}
use Rattle.message.specs.Shortest.{field}
use Rattle.octets_store.specs.Store.{stored}
use Rattle.writer_state.specs.Calls.{or_refuse, back, masked}
use Rattle.writer_state.specs.declared.State.{State}
use Rattle.writer_state.specs.declared.Written.{Written}
use Rattle.writer_state.proofs.CallResults.{refused_result, accepted_result, refused_buffer, accepted_buffer}
use Rattle.message.proofs.Fields.{field_length}
use Rattle.writer_put.specs.internal.Found.{later_refusal, put_known, buffer_known}
use Rattle.writer_put.specs.internal.Stores.{Before}

-- Where more fields are open than there are levels, there is no mask to change.
pub masked_beyond : (s : State) (m : ℕ) → length s.masks ≡ 8 → 7 < s.opened → s ≡ masked s m
unfolding masked
masked_beyond s m e h = rw (set_out s.masks s.opened m (omega arith)) refl

-- A state with another start.
abbrev pub moved : State → ℕ → State
moved s at =
    record {
      length = s.length;
      start = at;
      opened = s.opened;
      revision = s.revision;
      numbers = s.numbers;
      masks = s.masks;
      marks = s.marks;
      tags = s.tags;
    }

module _ (s : State) (mask tag : ℕ) (reads : Bool) (xs d : List ℕ) where
  abbrev later : ℕ
  later = later_refusal s reads (length (field tag xs))

  -- What the contracts of `put_least` and `put_plain` say of the answer r and of the buffer after the put.
  pub record PutDone (r : Written) (after : List ℕ) : Type 0 where
    pub value : r ≡ put_known s mask tag reads xs
    pub out_after : after ≡ buffer_known s tag reads xs d

  -- The put is refused.
  later_refused : (got : ℕ) → got ≡ later → (got ≡ 0 → ⊥) → PutDone (record { refusal = got; place = 0; state = s }) d
  unfolding put_known buffer_known
  later_refused got e ne =
      let size = length (field tag xs) in
      record {
        value = refused_result got later s (masked (back s size) mask) s e ne refl;
        out_after = refused_buffer got later d (stored d (s.start - size) (field tag xs)) e ne;
      }

  pub not_text : reads ≡ false → PutDone (record { refusal = 7; place = 0; state = s }) d
  unfolding later_refusal or_refuse
  not_text f = later_refused 7 (rw f refl) (λ z. omega arith)

  module _ (f : reads ≡ true) (n : ℕ) (en : n ≡ length xs) where
    -- The room decides.
    room_decides : (b : Bool) → b ≡ leb (length (least_control tag n) + n) s.start → later ≡ cond b 0 9
    unfolding later_refusal or_refuse
    room_decides b e = rw (f, field_length tag xs, ← en, ← e) refl

    pub too_long : false ≡ leb (length (least_control tag n) + n) s.start → PutDone (record { refusal = 9; place = 0; state = s }) d
    too_long e = later_refused 9 (sym (room_decides false e)) (λ z. omega arith)

    pub accepted : true ≡ leb (length (least_control tag n) + n) s.start → (at : ℕ) (noting : State) (after : List ℕ) → noting ≡ masked s mask
        → Before d s.start (field tag xs) at after → PutDone (record { refusal = 0; place = 0; state = moved noting at }) after
    unfolding put_known buffer_known back masked
    accepted e at noting after es b =
        let size = length (field tag xs) in
        let y : later ≡ 0 = room_decides true e in
        record {
          value = accepted_result later s (masked (back s size) mask) (moved noting at) y (rw (es, b.place) refl);
          out_after = accepted_buffer later d (stored d (s.start - size) (field tag xs)) after y b.buffer;
        }

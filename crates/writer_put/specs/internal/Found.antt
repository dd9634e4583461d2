-- The answer of a put from the result of looking up its tag, and the buffer after it.
use Rattle.std.specs.Prelude.{ℕ, ◌-◌, ◌≤◌, ◌<◌, Bool, cond, List, length, eqb, leb}
use Rattle.reading.specs.Refusals as refusals
use Rattle.message.specs.Shortest.{field}
use Rattle.octets_store.specs.Store.{stored}
use Rattle.writer_state.specs.ByOctets.{refused_at}
use Rattle.writer_state.specs.Calls.{or_refuse, call_result, buffer_after, back, masked}
use Rattle.writer_state.specs.internal.Found.{FoundAnswer}
use Rattle.writer_state.specs.declared.State.{State}
use Rattle.writer_state.specs.declared.Written.{Written}

-- The refusals after those of the tag.
unfoldable pub later_refusal : State → Bool → ℕ → ℕ
later_refusal s reads size = or_refuse reads refusals.text (or_refuse (leb size s.start) refusals.no_room 0)

-- A put whose tag is not refused, with the mask that notes it.
unfoldable pub put_known : State → ℕ → ℕ → Bool → List ℕ → Written
put_known s mask tag reads contents =
    let size = length (field tag contents) in
    call_result (later_refusal s reads size) s (masked (back s size) mask)

unfoldable pub buffer_known : State → ℕ → Bool → List ℕ → List ℕ → List ℕ
buffer_known s tag reads contents d =
    let octets = field tag contents in
    buffer_after (later_refusal s reads (length octets)) d (stored d (s.start - length octets) octets)

unfoldable pub put_found : FoundAnswer → State → ℕ → Bool → List ℕ → Written
put_found k s tag reads contents =
    cond (eqb k.tagged.refusal 0) (put_known s k.tagged.mask tag reads contents) (refused_at s k.tagged.refusal k.place)

unfoldable pub buffer_found : FoundAnswer → State → ℕ → Bool → List ℕ → List ℕ → List ℕ
buffer_found k s tag reads contents d = cond (eqb k.tagged.refusal 0) (buffer_known s tag reads contents d) d

-- What holds where the tag is not refused: it has 16 bits, at most seven fields are open, and the octets stored so far lie in the buffer.
pub record Puttable (s : State) (tag len : ℕ) : Type 0 where
  pub narrow : tag < 65536
  pub few : s.opened ≤ 7
  pub within : s.start ≤ len

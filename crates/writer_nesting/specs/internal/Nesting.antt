-- The answer of an open from the result of looking up its tag, and of a close after the tests of state and table.
use Rattle.std.specs.Prelude.{ℕ, ◌-◌, cond, List, length, eqb, leb}
use Rattle.reading.specs.Refusals as refusals
use Rattle.octets_store.specs.Store.{stored}
use Rattle.writer_state.specs.ByOctets.{refused_at}
use Rattle.writer_state.specs.Calls.{or_refuse, call_result, buffer_after, back, masked, deeper, closing_part, outer}
use Rattle.writer_state.specs.internal.Found.{FoundAnswer}
use Rattle.writer_state.specs.declared.State.{State}
use Rattle.writer_state.specs.declared.Written.{Written}

-- An open whose tag is not refused, with the mask that notes it and the message number of the contents.
unfoldable pub open_known : State → ℕ → ℕ → ℕ → Written
open_known s mask tag inner = call_result (or_refuse (leb s.opened 6) refusals.too_deep 0) s (deeper (masked s mask) tag inner)

unfoldable pub open_found : FoundAnswer → State → ℕ → Written
open_found k s tag = cond (eqb k.tagged.refusal 0) (open_known s k.tagged.mask tag k.tagged.inner) (refused_at s k.tagged.refusal k.place)

-- The refusals of a close that come after those of the state and of the table.
unfoldable pub close_rest : State → ℕ
close_rest s = or_refuse (leb 1 s.opened) refusals.nothing_open (or_refuse (leb (length (closing_part s)) s.start) refusals.no_room 0)

unfoldable pub closed : State → Written
closed s = call_result (close_rest s) s (outer (back s (length (closing_part s))))

unfoldable pub closed_buffer : State → List ℕ → List ℕ
closed_buffer s d =
    let octets = closing_part s in
    buffer_after (close_rest s) d (stored d (s.start - length octets) octets)

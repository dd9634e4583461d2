-- What the step finds: how many octets the field has, 0 at the end of the message, or a refusal.
use Rattle.std.specs.Prelude.{ℕ, ◌+◌, ◌*◌, cond, List, [], ◌∷◌, length, get_or, eqb, ltb}
use Rattle.reading.specs.Refusals as refusals
use Rattle.tib_field.specs.Steps.{Step, Fault, Over}
use Rattle.tib_qform_field.specs.Layout.{flagged, fid}

-- The octets of a field, or its refusal, by half its octets, as its cell has them, and the octets that remain.
unfoldable pub by_half : ℕ → ℕ → Step ℕ
by_half half remaining =
    cond (eqb half 0) (Fault refusals.not_in_dictionary) (cond (ltb remaining (half * 2)) (Fault refusals.past_the_end) (Over (half * 2)))

-- The same, by the cells of a dictionary.
unfoldable pub octets_by : List ℕ → List ℕ → Step ℕ
octets_by cells [] = Over 0
octets_by cells (high ∷ []) = Fault refusals.cut
octets_by cells (high ∷ low ∷ s) =
    cond (flagged high) (by_half (get_or cells (fid high low) 0) (2 + length s)) (Fault refusals.type_size_or_hint)

-- Least forms as numbers: how many octets they have, and the value of these octets.
use Rattle.std.specs.Prelude.{ℕ, ◌+◌, ◌*◌, ◌-◌, ◌^◌, Bool, false, cond, ◌&&◌, leb, ℤ, length, get_or}
use Rattle.octets.specs.declared.Least.{Least}
use Rattle.octets.specs.Number.{width}
use Rattle.octets.specs.Signed.{signed_bits, signed_width}
use Rattle.octets.specs.ControlPart.{Code, tag_code, length_code}
use Rattle.octets.specs.declared.LeastControl.{LeastControl}
use Rattle.octets.specs.Control.{least_code}
use Rattle.octets.specs.declared.Control.{Control}
use Rattle.octets.specs.declared.Control.TheVariants.{Absent, Partial, Whole}

-- The least octets of a uint: how many, and their value.
unfoldable pub uint_width_bits : ℕ → Least
uint_width_bits v = record { width = width v; bits = v }

-- The least octets of an int: how many, and their value as an unsigned number.
unfoldable pub int_width_bits : ℤ → Least
int_width_bits z = record { width = signed_width z; bits = signed_bits (signed_width z) z }

-- The least control part: the control octet, and how many octets of the tag and of the length follow it.
unfoldable pub control_widths : ℕ → ℕ → LeastControl
control_widths tag len =
    let t = least_code tag_code tag in
    let l = least_code length_code len in
    record { octet = t.0 * 16 + l.0; tag_width = length t.1; length_width = length l.1 }

-- The least number that has a lead in its least form: the lead itself where it is direct; the first number that is not direct; or the first
-- that does not fit in the octets of the lead before.
unfoldable pub least_of_lead : Code → ℕ → ℕ
least_of_lead code lead = cond (leb lead code.direct) lead (256 ^ get_or code.widths (lead - code.direct - 1) 0)

-- Whether the two leads of a control part that was read are those of its least form.
unfoldable pub least_leads : ℕ → ℕ → Control → Bool
least_leads t l Absent = false
least_leads t l Partial = false
least_leads t l (Whole tag len size) = leb (least_of_lead tag_code t) tag && leb (least_of_lead length_code l) len

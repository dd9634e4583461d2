-- The samples hold: each side of each equation computes to the same.
use mathlib.Core.Path.{refl}
use Rattle.octets.specs.Number.{big_endian}
use Rattle.reading.specs.Reading.{on_accepted}
use Rattle.reading.specs.Checks.{refusal, counts}
use Rattle.tib_field.specs.Mark.{begins}
use Rattle.tib_field.specs.Header as headers
use Rattle.tib_field.specs.Fields.{placed}
use Rattle.tib_field.specs.Kth.{field_or_absent, field_of}
use Rattle.tib_field.specs.Steps as steps
use Rattle.tib_dictionary.specs.Entry as entries
use Rattle.tib_dictionary.specs.Load as loads
use Rattle.tib_qform_field.specs.Layout as layouts
use Rattle.tib_qform_field.specs.Reading as readings
use Rattle.tib_qform.specs.CheckAndField as calls
use Rattle.tib_qform.specs.Samples as samples

-- The definitions that the answers are made of. A proof that unfolds this computes them.
unfoldable computes : Type 0
unfolding samples.line samples.odd samples.two samples.message samples.both
    calls.under_dictionary calls.after_loading loads.loading loads.load_from loads.formed loads.entry_of loads.continues
    entries.in_range entries.has entries.find big_endian on_accepted
    headers.reading_of headers.after_header headers.header_fault headers.header_octets begins
    readings.reading steps.fields_by steps.after_step readings.next_field readings.from_data readings.data_octets readings.total readings.parts_at
    layouts.flagged layouts.fid
computes = Unit {0}

pub samples_hold : samples.Hold samples.samples
unfolding computes samples.Hold samples.samples samples.accepts samples.refuses calls.check_octets calls.check steps.flat_depth counts refusal
samples_hold = (refl, (refl, (refl, (refl, (refl, (refl, (refl, (refl, (refl, (refl, (refl, (refl, (refl, (refl, (refl, (refl, (refl, (refl, (refl, (refl, (refl, (refl, (refl, (refl, (refl, (refl, (refl, (refl, (refl, (refl, tt))))))))))))))))))))))))))))))

pub field_samples_hold : samples.FieldsHold samples.field_samples
unfolding computes samples.FieldsHold samples.field_samples samples.answers samples.rejects calls.field_octets calls.field calls.shown calls.shown_by calls.places
    field_of field_or_absent placed entries.entry_with entries.or_zeros layouts.octets layouts.fid_of
field_samples_hold = (refl, (refl, (refl, (refl, (refl, (refl, tt))))))

-- Worked samples of what is printed: each side of each equation computes to the same.
use mathlib.Core.Path.{◌≡◌, refl}
use mathlib.Core.List.{[], ◌∷◌, ◌++◌}
use Rattle.octets.specs.Number as octets
use Rattle.octets.specs.Signed as signs
use Rattle.octets.specs.Control as controls
use Rattle.octets.specs.Utf8.{grammar}
use Rattle.octets.specs.Text as texts
use Rattle.table.specs.Entry as entries
use Rattle.table.specs.Schema as schemas
use Rattle.table.specs.Load as loads
use Rattle.table.specs.Repeat as repeats
use Rattle.table.specs.Valid as valids
use Rattle.message.specs.Single as again
use Rattle.message.specs.Single.{among}
use Rattle.message.specs.Tree as trees
use Rattle.message.specs.Items.{items}
use Rattle.reading.specs.Reading.{on_accepted, in_order}
use Rattle.message.specs.Reading as readings
use Rattle.reading.specs.Checks as answers
use Rattle.message_calls.specs.Check as checks
use Rattle.message_frame.specs.Frame as frames
use Rattle.text_window.specs.Ascii.{ascii}
use Rattle.text_window.specs.Digits as digits
use Rattle.text_message.specs.Text as prints
use Rattle.text_show.specs.Output as shows
use Rattle.text_show.specs.Output.{output}
use Rattle.text_show.specs.Samples.{input, repeated_input}

pub samples_hold :
    (output input
    ≡ ascii "depth tag kind value\n"
    ++ ascii "1 0001 uint 42\n"
    ++ ascii "1 0002 int -11\n"
    ++ ascii "1 0023 message 2\n"
    ++ ascii "2 0000 text 4b57\n"
    ++ ascii "2 0001 uint 500\n"
    ++ ascii "1 0003 raw -\n"
    ++ ascii "fields 6 octets 13\n")
    × (output (0x00 ∷ 0x00 ∷ []) ≡ ascii "depth tag kind value\nfields 0 octets 0\n")
    × (output [] ≡ ascii "refused 3 at 0\n")
    × (output (0x00 ∷ []) ≡ ascii "refused 3 at 0\n")
    × (output (0x01 ∷ 0x02 ∷ 0xff ∷ []) ≡ ascii "refused 2 at 0\n")
    × (output (0x00 ∷ 0x01 ∷ 0xc3 ∷ 0x00 ∷ []) ≡ ascii "refused 14 at 0\n")
    × (output (0x00 ∷ 0x02 ∷ 0xc3 ∷ []) ≡ ascii "refused 4 at 0\n")
    × (output (0x00 ∷ 0x02 ∷ 0xc0 ∷ 0xf1 ∷ []) ≡ ascii "refused 3 at 1\n")
    × (output repeated_input ≡ ascii "refused 20 at 1\n")
unfolding input repeated_input output shows.first_text shows.table_text shows.second_text prints.message_text prints.read_text prints.refusal_text prints.shown prints.page prints.lines prints.direct items
    prints.line prints.line_start prints.value_text prints.kind_name digits.glyph digits.decimal_within digits.decimal digits.signed_decimal digits.four_digits digits.hex
    digits.hex_or_dash ascii frames.frame_read frames.front_read frames.prefixed frames.announced frames.message_part
    checks.check checks.check_under checks.tree_counts answers.counts answers.refusal readings.reading readings.message_from readings.fields_from readings.after_step on_accepted in_order
    readings.step readings.step_from readings.step_by_kind readings.too_deep among again.repeats trees.tree readings.tag_at readings.tag_of entries.inner_of trees.value trees.fields trees.depth
    schemas.is_revision schemas.schema schemas.schema_of entries.find entries.marked_single entries.kind_number entries.meaning entries.entries entries.entry loads.load loads.load_from loads.accepted loads.refused loads.table_of loads.faulty
    loads.seen loads.pair loads.words_before loads.well_formed loads.announced loads.record_size loads.place_at loads.word_of loads.word_at loads.record_at loads.in_range valids.valid valids.all_in_range valids.all_zero
    repeats.distinct texts.text texts.text_after texts.after texts.within grammar octets.big_endian signs.integer signs.with_sign signs.lowest
    controls.control controls.control_of controls.following controls.coded
samples_hold = (refl, refl, refl, refl, refl, refl, refl, refl, refl)

-- The definitions that the contracts of the entries are made of. A proof that unfolds `hproto`, `writer` or `tib` computes answers: of the
-- readers of hproto messages, of the backward writer, or of the Tib readers and tib_real.
use Rattle.octets.specs.Number as octets
use Rattle.octets.specs.Signed as signs
use Rattle.octets.specs.Utf8.{grammar}
use Rattle.octets.specs.Text as texts
use Rattle.octets.specs.Control as controls
use Rattle.octets.specs.Short.{same}
use Rattle.reading.specs.Reading.{on_accepted, in_order}
use Rattle.reading.specs.Checks as answers
use Rattle.table.specs.Entry as entries
use Rattle.table.specs.Mask as masks
use Rattle.table.specs.Schema as schemas
use Rattle.table.specs.Load as loads
use Rattle.table.specs.Valid as valids
use Rattle.table.specs.Repeat.{distinct}
use Rattle.message.specs.Single.{among, repeats}
use Rattle.message.specs.Cut as cuts
use Rattle.message.specs.Tree as trees
use Rattle.message.specs.Items as items
use Rattle.message.specs.Reading as readings
use Rattle.message.specs.Shortest as shortests
use Rattle.message_calls.specs.Check as checks
use Rattle.message_calls.specs.Lookup as lookups
use Rattle.message_calls.specs.Written.{shortest_of_reading}
use Rattle.message_calls.specs.Shorten as shortens
use Rattle.message_calls.specs.Short as shorts
use Rattle.octets_store.specs.Store.{stored}
use Rattle.message_frame.specs.Frame as frames
use Rattle.message_calls.specs.Calls.{check_octets, short_octets, shorten_octets, shorten_buffer, lookup_octets, lookup_last_octets, with_table}
use Rattle.text_window.specs.Ascii.{ascii}
use Rattle.text_window.specs.Digits as digits
use Rattle.text_message.specs.Text as prints
use Rattle.text_window.specs.Window.{window}
use Rattle.text_show.specs.Output as shows
use Rattle.writer_state.specs.Sound as sounds
use Rattle.writer_state.specs.Calls as calls
use Rattle.writer_state.specs.Answer as writes
use Rattle.tib_real.specs.Parts as parts
use Rattle.tib_real.specs.Widened as wide
use Rattle.tib_real.specs.FromOctets as fromOctets
use Rattle.tib_real.specs.InFractions as in_fractions
use Rattle.tib_real.specs.WholeNumber as wholeNumber
use Rattle.tib_decimals.specs.Nearest as nearests
use Rattle.tib_decimals.specs.InDecimals as in_decimals
use Rattle.tib_field.specs.Mark as marks
use Rattle.tib_field.specs.Header as headers
use Rattle.tib_field.specs.Steps as steps
use Rattle.tib_field.specs.Name as names
use Rattle.tib_field.specs.Fields as fields
use Rattle.tib_field.specs.Kth as kths
use Rattle.tib_msg_field.specs.Layout as msgLayout
use Rattle.tib_msg_field.specs.Reading as msgReading
use Rattle.tib_msg.specs.CheckAndField as msg
use Rattle.tib_rv_field.specs.Layout as rvLayout
use Rattle.tib_rv_field.specs.Reading as rvReading
use Rattle.tib_rv.specs.CheckAndField as rv
use Rattle.tib_dictionary.specs.Entry as dictionaries
use Rattle.tib_dictionary.specs.Load as dictionaryLoads
use Rattle.tib_qform_field.specs.Layout as qformLayout
use Rattle.tib_qform_field.specs.Reading as qformReading
use Rattle.tib_qform.specs.CheckAndField as qforms
use Rattle.wrong_programs.specs.Kinds as kinds
use Rattle.wrong_programs.specs.Load as load
use Rattle.wrong_programs.specs.Check as check
use Rattle.wrong_programs.specs.Lookup as lookup
use Rattle.wrong_programs.specs.Shorten as shorten
use Rattle.wrong_programs.specs.FrameRead as frame_read
use Rattle.wrong_programs.specs.FrameWrite as frame_write
use Rattle.wrong_programs.specs.Show as show
use Rattle.wrong_programs.specs.Valid as valid
use Rattle.wrong_programs.specs.Writer as writing
use Rattle.wrong_programs.specs.Tib as tibs
use Rattle.wrong_programs.specs.Qform as qformCalls
use Rattle.wrong_programs.specs.Reals as reals

unfoldable pub hproto : Type 0
unfolding kinds.always kinds.below kinds.array kinds.octets kinds.word kinds.words kinds.table load.load check.fits check.check check.short
    lookup.fits lookup.lookup lookup.lookup_last shorten.fits shorten.shorten frame_read.frame_read frame_write.fits frame_write.frame_write show.fits
    show.show valid.valid loads.load loads.load_from loads.accepted loads.refused loads.table_of loads.words_before loads.faulty loads.well_formed
    loads.announced loads.record_size loads.place_at loads.record_at loads.word_of loads.word_at loads.in_range loads.seen loads.pair schemas.is_revision
    schemas.schema schemas.schema_of entries.entry entries.entries entries.marked_single entries.find entries.meaning entries.inner_of entries.kind_number
    valids.valid valids.all_in_range valids.all_zero distinct octets.big_endian octets.octets_of octets.width octets.width_within octets.least_uint
    signs.integer signs.with_sign signs.lowest controls.control controls.control_of controls.following controls.coded controls.least_control
    controls.least_code controls.first_fit same on_accepted in_order readings.reading readings.message_from readings.fields_from readings.after_step
    readings.step readings.step_from readings.step_by_kind readings.too_deep among repeats texts.text texts.text_after texts.after texts.within grammar
    cuts.joined trees.tree readings.tag_of readings.tag_at trees.value trees.depth trees.fields shortests.shortest shortests.field
    shortests.least_contents answers.counts answers.refusal checks.check checks.check_under checks.tree_counts lookups.outermost items.item_tag
    items.with_tag lookups.last_or lookups.chosen items.item_kind items.kind_of items.uint_of items.int_of lookups.refusal lookups.found lookups.found_in
    lookups.answer lookups.lookup lookups.lookup_last shortest_of_reading shortens.refusal shortens.shortest_under shortens.shortest_by_table shortens.roomy
    shortens.shorten_result shortens.result_buffer shortens.answer shortens.buffer shorts.short with_table check_octets short_octets lookup_octets
    lookup_last_octets shorten_octets shorten_buffer stored frames.announced frames.prefixed frames.front_read frames.frame_read frames.message_part
    frames.shortest_prefix frames.framed frames.frame_written frames.frame_stored ascii digits.glyph digits.decimal_within digits.decimal
    digits.four_digits prints.kind_name prints.value_text prints.line_start prints.line prints.lines prints.page prints.shown prints.refusal_text
    prints.read_text prints.message_text window shows.second_text shows.table_text shows.first_text shows.output
hproto = Unit {0}

unfoldable pub writer : Type 0
unfolding hproto writing.state_fits writing.start_fits writing.int_fits writing.Value writing.value_fits writing.put_fits writing.open_fits
    writing.close_fits writing.start writing.call_of writing.put writing.open_field writing.close_field writing.finish writing.sound_state writes.answer
    writes.buffer calls.or_refuse calls.call_result calls.buffer_after calls.level calls.meant calls.single calls.mask calls.noted calls.mask_with
    calls.back calls.masked masks.order masks.has_bit masks.with_bit calls.start_refusal calls.begun calls.started calls.put_refusal calls.put
    calls.put_buffer calls.of_octets calls.readable calls.open_refusal calls.deeper calls.opening calls.closing_part calls.close_early calls.close_refusal
    calls.outer calls.closing calls.close_buffer calls.finish_refusal calls.finished sounds.falling sounds.small sounds.sound signs.least_int
    signs.signed_width signs.signed_bits
writer = Unit {0}

unfoldable pub tib : Type 0
unfolding kinds.always kinds.below kinds.octets kinds.word tibs.check tibs.field_fits tibs.field reals.real_fits reals.real reals.hinted_fits
    reals.fractions reals.decimals on_accepted in_order octets.big_endian answers.counts answers.refusal marks.begins headers.header_octets headers.header_fault
    headers.after_header headers.reading_of names.name_step names.named names.closes
    names.after_name fields.placed kths.field_of kths.field_or_absent msgLayout.kind msgLayout.hinted msgLayout.size_width msgLayout.is_width
    msgLayout.size_allowed msgLayout.octets msgReading.type_allowed msgReading.hint_at msgReading.read_hint msgReading.value_hint msgReading.with_hint
    msgReading.from_data msgReading.from_size msgReading.from_type msgReading.next_field msgReading.total msgReading.parts_at steps.after_step steps.fields_by msgReading.reading msg.check steps.flat_depth msg.field msg.places msg.shown msg.hint_value msg.real_shown rvLayout.depth
    rvLayout.octets rvReading.following rvReading.own rvReading.counted rvReading.count_allowed rvReading.found rvReading.from_count
    rvReading.from_size rvReading.from_type rvReading.next_field rvReading.lead rvReading.total rvReading.parts_at rvReading.nested_of
    rvReading.after_step rvReading.fields_from rvReading.header_fault rvReading.message_from rvReading.reading rv.check rv.count rv.field rv.places
    rv.shown rv.outermost fromOctets.with_bits fromOctets.real_of in_fractions.scaled in_fractions.countable wholeNumber.hint_within wholeNumber.signed wholeNumber.refused
    wholeNumber.accepted in_decimals.scaled in_decimals.rounded in_decimals.in_range in_decimals.answer in_decimals.in_decimals in_decimals.decimals_of nearests.nearest in_fractions.in_fractions in_fractions.fractions_of parts.negative parts.exponent parts.fraction parts.finite parts.significand
    parts.units wide.packed wide.widened
tib = Unit {0}

unfoldable pub qform : Type 0
unfolding kinds.always kinds.below kinds.octets kinds.word qformCalls.load qformCalls.check_fits qformCalls.check qformCalls.field_fits
    qformCalls.field on_accepted octets.big_endian answers.counts answers.refusal marks.begins headers.header_octets headers.header_fault
    headers.after_header headers.reading_of fields.placed kths.field_of kths.field_or_absent dictionaries.in_range dictionaries.has dictionaries.find
    dictionaries.or_zeros dictionaries.entry_with dictionaries.word_of dictionaryLoads.formed dictionaryLoads.entry_of dictionaryLoads.continues
    dictionaryLoads.load_from dictionaryLoads.loading dictionaryLoads.dictionary_of dictionaryLoads.accepted dictionaryLoads.refused
    dictionaryLoads.result dictionaryLoads.load qformLayout.flagged qformLayout.fid qformLayout.octets qformLayout.fid_of qformReading.data_octets
    qformReading.from_data qformReading.next_field qformReading.total qformReading.parts_at steps.after_step steps.fields_by
    qformReading.reading steps.flat_depth qforms.check qforms.shown_by qforms.shown qforms.places qforms.field qforms.after_loading qforms.under_dictionary
    qforms.check_octets qforms.field_octets
qform = Unit {0}

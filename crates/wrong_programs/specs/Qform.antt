-- The arguments of the calls of the QForm reader and of the loader of dictionaries, and the answers that their contracts fix.
use Rattle.std.specs.Prelude.{ℕ, Bool, ◌&&◌, List}
use Rattle.reading.specs.declared.Checked.{Checked}
use Rattle.tib_dictionary.specs.Load as loads
use Rattle.tib_dictionary.specs.declared.Dictionary.{Dictionary}
use Rattle.tib_dictionary.specs.Load.{Loaded}
use Rattle.tib_qform.specs.CheckAndField as qform
use Rattle.tib_qform.specs.declared.types.FieldAnswer.{FieldAnswer}
use Rattle.wrong_programs.specs.Kinds.{Given, array, octets, word}

abbrev pub LoadCall : Type 0
LoadCall = Given octets

-- The contract of tib_dictionary_index::load.
unfoldable pub load : LoadCall → Loaded
load x = loads.load x.value

pub record CheckInput : Type 0 where
  pub dictionary : List ℕ
  pub message : List ℕ

unfoldable pub check_fits : CheckInput → Bool
check_fits x = octets x.dictionary && octets x.message

abbrev pub CheckCall : Type 0
CheckCall = Given check_fits

-- The contract of crudvim_qform_check.
unfoldable pub check : CheckCall → Checked
check x = qform.check_octets x.value.dictionary x.value.message

pub record FieldInput : Type 0 where
  pub of : CheckInput
  pub k : ℕ

unfoldable pub field_fits : FieldInput → Bool
field_fits x = check_fits x.of && word x.k

abbrev pub FieldCall : Type 0
FieldCall = Given field_fits

-- The contract of tib_qform::field, whose answer crudvim_qform_field spreads over numbers.
unfoldable pub field : FieldCall → FieldAnswer
field x = qform.field_octets x.value.of.dictionary x.value.of.message x.value.k

-- The same under a dictionary value: 512 words of 64 bits.
pub record ValueInput : Type 0 where
  pub dictionary : Dictionary
  pub message : List ℕ

unfoldable pub value_fits : ValueInput → Bool
value_fits x = word x.dictionary.count && array 512 0x10000000000000000 x.dictionary.words && octets x.message

abbrev pub ValueCall : Type 0
ValueCall = Given value_fits

-- The contracts of tib_qform::check_loaded, and of tib_qform::field_loaded for each k.
unfoldable pub check_loaded : ValueCall → Checked
check_loaded x = qform.check_loaded x.value.dictionary x.value.message

unfoldable pub field_loaded : ℕ → ValueCall → FieldAnswer
field_loaded k x = qform.field_loaded x.value.dictionary x.value.message k

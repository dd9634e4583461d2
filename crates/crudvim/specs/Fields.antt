-- The fields of Tib messages as the numbers that the C functions store.
use Rattle.std.specs.Prelude.{ℕ, Bool, true, false, not, eqb}
use Rattle.tib_field.specs.declared.FieldAnswer.{FieldAnswer}

-- A truth value is stored as 1 or 0; every number but 0 counts as true.
unfoldable pub flag : Bool → ℕ
flag true = 1
flag false = 0

unfoldable pub flagged : ℕ → Bool
flagged n = not (eqb n 0)

-- The name, type and data of a field.
pub record Parts : Type 0 where
  pub refusal : ℕ
  pub place : ℕ
  pub name_start : ℕ
  pub name_length : ℕ
  pub kind : ℕ
  pub data_start : ℕ
  pub data_length : ℕ

unfoldable pub parts : FieldAnswer → Parts
parts f =
    record {
      refusal = f.refusal;
      place = f.place;
      name_start = f.name_place;
      name_length = f.name_length;
      kind = f.kind;
      data_start = f.data_place;
      data_length = f.data_length;
    }

-- The hint of a field, and the bits of its real.
pub record Hint : Type 0 where
  pub hinted : ℕ
  pub kind : ℕ
  pub value : ℕ
  pub bits : ℕ

unfoldable pub hint : FieldAnswer → Hint
hint f = record { hinted = flag f.hinted; kind = f.hint_kind; value = f.hint; bits = f.real.bits }

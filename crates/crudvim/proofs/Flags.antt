-- A truth value as a number.
use mathlib.Core.Path.{◌≡◌, refl}
use mathlib.Core.Bool.{Bool, true, false}
use mir.Val.{bool_byte as from_bool}
use Rattle.crudvim.specs.Fields.{flag}

pub flag_is : (b : Bool) → from_bool b ≡ flag b
unfolding flag
flag_is true = refl
flag_is false = refl

-- Whether every control part and every number of a cut is in its shortest form. proofs/Short.antt shows that this is so exactly where the
-- message is the shortest form of its tree.
use Rattle.std.specs.Prelude.{ℕ, Bool, true, false, ◌&&◌, List}
use Rattle.octets.specs.Short.{short_uint, short_int, short_control}
use Rattle.table.specs.Entry.{inner_of}
use Rattle.table.specs.Schema.{Schema}
use Rattle.table.specs.declared.Meaning.{Meaning}
use Rattle.table.specs.declared.Meaning.TheVariants.{Raw, Uint, Int, String, Text, Message}
use Rattle.reading.specs.Reading.{Reading, accepted, refused}
use Rattle.message.specs.Cut.{Cut, end, leaf, nested}

-- Contents by their kind: only numbers have longer forms.
unfoldable pub short_contents : Meaning → List ℕ → Bool
short_contents Raw s = true
short_contents Uint s = short_uint s
short_contents Int s = short_int s
short_contents String s = true
short_contents Text s = true
short_contents (Message m) s = true

unfoldable pub short_cut : Schema → ℕ → Cut → Bool
short_cut sc n end = true
short_cut sc n (leaf tag part contents rest) = (short_control part && short_contents (sc.means n tag) contents) && short_cut sc n rest
short_cut sc n (nested tag part inside rest) = (short_control part && short_cut sc (inner_of (sc.means n tag)) inside) && short_cut sc n rest

-- The cut of a reading; a message that is refused is not short.
unfoldable pub short_reading : Schema → ℕ → Reading Cut → Bool
short_reading sc n (accepted cut) = short_cut sc n cut
short_reading sc n (refused reason place) = false

-- A field is its control part and its contents, and its value has the kind that its tag means.
use Prim.Native.Nat.{ℕ, ◌+◌}
use mathlib.Core.Path.{◌≡◌, refl}
use mathlib.Core.List.{List}
use lib.ListN.{length, length-append}
use Rattle.octets.specs.Control.{least_control}
use Rattle.table.specs.declared.Meaning.{Meaning}
use Rattle.table.specs.declared.Meaning.TheVariants.{Raw, Uint, Int, String, Text, Message}
use Rattle.message.specs.Cut.{Contents}
use Rattle.message.specs.Tree.{value}
use Rattle.message.specs.Items.{kind_of}
use Rattle.message.specs.Shortest.{field}

pub field_length : (tag : ℕ) (xs : List ℕ) → length (field tag xs) ≡ length (least_control tag (length xs)) + length xs
unfolding field
field_length tag xs = length-append (least_control tag (length xs)) xs

pub kind_is : (k : Meaning) (s : List ℕ) → Contents k s → kind_of (value k s) ≡ k
unfolding kind_of value Contents
kind_is Raw s h = refl
kind_is Uint s h = refl
kind_is Int s h = refl
kind_is String s h = refl
kind_is Text s h = refl
kind_is (Message m) s h = absurd h

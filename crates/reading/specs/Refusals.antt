-- The refusals of documents 01 and 02 by number. Definitions cite them by these names.
use Rattle.std.specs.Prelude.{ℕ, Result, Ok, Err}
use Rattle.reading.specs.declared.Refusal.{Refusal}
use Rattle.reading.specs.declared.Refusal.TheVariants.{TooLong, Table, Cut, PastTheEnd, TooDeep, NumberTooWide, Text, TagOrKind, NoRoom, State, NothingOpen, StillOpen, Magic, Size, Name, TypeSizeOrHint, NotInFractions, Absent, NotInDictionary, Repeated}

-- A message or a buffer over the length limit, or a frame that announces such a message.
abbrev pub too_long : ℕ
too_long = 1

-- A faulty field table or dictionary, a number that is no revision, or a message number over the last.
abbrev pub table : ℕ
table = 2

-- Octets that end inside a control part, header, name, size, hint or FID.
abbrev pub cut : ℕ
cut = 3

-- Contents, or the padding after them, that would end after the message around them.
abbrev pub past_the_end : ℕ
past_the_end = 4

-- Messages nested nine deep.
abbrev pub too_deep : ℕ
too_deep = 5

-- A number of more than eight octets.
abbrev pub number_too_wide : ℕ
number_too_wide = 6

-- Contents that are not text.
abbrev pub text : ℕ
text = 7

-- A field to write whose tag the table does not have in that message, or has with another kind.
abbrev pub tag_or_kind : ℕ
tag_or_kind = 8

-- More octets to write than are free.
abbrev pub no_room : ℕ
no_room = 9

-- A writer's state that is not sound, or another buffer.
abbrev pub state : ℕ
state = 10

-- A close with no field open.
abbrev pub nothing_open : ℕ
nothing_open = 11

-- A finish with a field open.
abbrev pub still_open : ℕ
still_open = 12

-- Another magic number or version of a message of a Tib format.
abbrev pub magic : ℕ
magic = 13

-- A size in a header of a Tib format that is not that of the buffer, or octets after the second frame.
abbrev pub size : ℕ
size = 14

-- A bad name.
abbrev pub name : ℕ
name = 15

-- A type, a size or a hint against the rules, or a FID without both flags.
abbrev pub type_size_or_hint : ℕ
type_size_or_hint = 16

-- A real that cannot be read in fractions, or in decimals.
abbrev pub not_in_fractions : ℕ
not_in_fractions = 17

-- No such field.
abbrev pub absent : ℕ
absent = 18

-- A field whose fid the dictionary does not have.
abbrev pub not_in_dictionary : ℕ
not_in_dictionary = 19

-- A field that repeats a single one.
abbrev pub repeated : ℕ
repeated = 20

-- The number of a refusal.
abbrev pub number : Refusal → ℕ
number TooLong = too_long
number Table = table
number Cut = cut
number PastTheEnd = past_the_end
number TooDeep = too_deep
number NumberTooWide = number_too_wide
number Text = text
number TagOrKind = tag_or_kind
number NoRoom = no_room
number State = state
number NothingOpen = nothing_open
number StillOpen = still_open
number Magic = magic
number Size = size
number Name = name
number TypeSizeOrHint = type_size_or_hint
number NotInFractions = not_in_fractions
number Absent = absent
number NotInDictionary = not_in_dictionary
number Repeated = repeated

-- The number of the refusal that a result has, 0 where it has none.
abbrev pub fault_number : {A : Type 0} → Result A Refusal → ℕ
fault_number (Ok x) = 0
fault_number (Err r) = number r

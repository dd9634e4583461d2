-- The reading of a message of any format: it is accepted and divided into fields, or refused.
use Rattle.std.specs.Prelude.{ℕ}

-- The limits of a message (document 01, Limits): its octets, and its depth, the outermost message being at depth 1.
abbrev pub message_limit : ℕ
message_limit = 65536

abbrev pub depth_limit : ℕ
depth_limit = 8

-- The largest message number.
abbrev pub last_number : ℕ
last_number = 15

-- A message that is accepted is divided into its fields; A is the type of the format's divisions. Any other message has a refusal's number and its place.
pub data Reading (A : Type 0) : Type 0 where
  accepted : A → Reading A
  refused : ℕ → ℕ → Reading A

-- A reading with a function applied to its division.
unfoldable pub on_accepted : {A B : Type 0} → (A → B) → Reading A → Reading B
on_accepted f (accepted x) = accepted (f x)
on_accepted f (refused reason place) = refused reason place

-- Two readings, one after the other: the first refusal decides.
unfoldable pub in_order : {A B C : Type 0} → (A → B → C) → Reading A → Reading B → Reading C
in_order f (accepted x) later = on_accepted (f x) later
in_order f (refused reason place) later = refused reason place

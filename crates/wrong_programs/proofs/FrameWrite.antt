-- Wrong programs in the place of crudvim_frame_write.
use Prim.Native.Nat.{ℕ, ◌+◌}
use mathlib.Core.Path.{◌≡◌, refl}
use mathlib.Core.List.{List, [], ◌∷◌}
use lib.ListN.{get_or, replicate}
use lib.ListN as lists
use lib.Dec.{T, ltb}
use borrow.Author.Tests.{eqb-false}
use Rattle.message_frame.specs.Frame.{write_refused}
use Rattle.message_frame.specs.declared.FrameWritten.{FrameWritten}
use Rattle.wrong_programs.specs.Kinds.{RuledOut, Rejects, Accepts, Invents, SeesOnly, always, due}
use Rattle.wrong_programs.specs.FrameWrite.{FrameWriteInput, FrameWriteCall, frame_write}
use Rattle.wrong_programs.proofs.RulingOut.{Sample, given, rejects, accepts, invents, sees_only}
use Rattle.wrong_programs.proofs.Computing.{hproto}

abbrev Answer : Type 0
Answer = FrameWritten × List ℕ

abbrev accepted : ℕ → List ℕ → Answer
accepted n buffer = (record { refusal = 0; place = 0; length = n }, buffer)

abbrev into : List ℕ → List ℕ → FrameWriteInput
into message out = record { message = message; out = out }

five : Sample frame_write
unfolding hproto
five = given (into (5 ∷ []) (9 ∷ 9 ∷ 9 ∷ [])) (accepted 2 (1 ∷ 5 ∷ 9 ∷ [])) tt refl

five_into_eights : Sample frame_write
unfolding hproto
five_into_eights = given (into (5 ∷ []) (8 ∷ 8 ∷ 8 ∷ [])) (accepted 2 (1 ∷ 5 ∷ 8 ∷ [])) tt refl

six : Sample frame_write
unfolding hproto
six = given (into (6 ∷ []) (9 ∷ 9 ∷ 9 ∷ [])) (accepted 2 (1 ∷ 6 ∷ 9 ∷ [])) tt refl

exact_room : Sample frame_write
unfolding hproto
exact_room = given (into [] (9 ∷ [])) (accepted 1 (0 ∷ [])) tt refl

no_room_lem : Sample frame_write
unfolding hproto
no_room_lem = given (into [] []) (write_refused 9, []) tt refl

of_252 : Sample frame_write
unfolding hproto
of_252 = given (into (replicate 252 0) (replicate 254 9)) (accepted 254 (0xfc ∷ 252 ∷ replicate 252 0)) tt refl

abbrev refusal : Answer → ℕ
refusal a = a.0.refusal

abbrev octet : ℕ → Answer → ℕ
octet i a = get_or a.1 i 0

-- The contract accepts the call.
abbrev accepts_it : FrameWriteCall → Type 0
accepts_it = due frame_write refusal 0

-- It rejects every call.
pub rejects_all : RuledOut (Rejects refusal always) frame_write
unfolding five
rejects_all = rejects refusal always five tt refl

-- It rejects a frame that fills the buffer.
abbrev fills : FrameWriteCall → Type 0
fills x = (frame_write x).0.length ≡ lists.length x.value.out

pub rejects_full_buffer : RuledOut (Rejects refusal fills) frame_write
unfolding exact_room
rejects_full_buffer = rejects refusal fills exact_room refl refl

-- It accepts every call, or at least a message for which there is no room.
pub accepts_all : RuledOut (Accepts refusal (due frame_write refusal 9)) frame_write
unfolding no_room_lem
accepts_all = accepts refusal (due frame_write refusal 9) no_room_lem refl (eqb-false 9 0 refl)

-- The length that it answers is that of the message.
abbrev size : FrameWriteCall → ℕ
size x = lists.length x.value.message

pub length_of_the_message : RuledOut (Invents (λ (a : Answer). a.0.length) size accepts_it) frame_write
unfolding five
length_of_the_message = invents (λ (a : Answer). a.0.length) size accepts_it five refl (eqb-false 2 1 refl)

-- The size in the prefix counts the prefix too. A message of 252 octets is the least whose size stands after the first octet.
abbrev prefix_of_two : FrameWriteCall → Type 0
prefix_of_two x = (size x ≡ 252) × accepts_it x

pub prefix_counted : RuledOut (Invents (octet 1) (λ (x : FrameWriteCall). size x + 2) prefix_of_two) frame_write
unfolding of_252
prefix_counted = invents (octet 1) (λ (x : FrameWriteCall). size x + 2) prefix_of_two of_252 (refl, refl) (eqb-false 252 254 refl)

-- It stores the message with no prefix.
abbrev has_octets : FrameWriteCall → Type 0
has_octets x = accepts_it x × T (ltb 0 (size x))

pub copies_its_input : RuledOut (Invents (octet 0) (λ (x : FrameWriteCall). get_or x.value.message 0 0) has_octets) frame_write
unfolding five
copies_its_input = invents (octet 0) (λ (x : FrameWriteCall). get_or x.value.message 0 0) has_octets five (refl, tt) (eqb-false 1 5 refl)

-- It stores nothing.
pub stores_nothing : RuledOut (Invents (octet 0) (λ (x : FrameWriteCall). get_or x.value.out 0 0) accepts_it) frame_write
unfolding five
stores_nothing = invents (octet 0) (λ (x : FrameWriteCall). get_or x.value.out 0 0) accepts_it five refl (eqb-false 1 9 refl)

-- It stores the same octets for each message of a size.
abbrev size_and_buffer : FrameWriteCall → ℕ × List ℕ
size_and_buffer x = (size x, x.value.out)

pub octets_by_length : RuledOut (SeesOnly size_and_buffer (octet 1) accepts_it) frame_write
unfolding five six
octets_by_length = sees_only size_and_buffer (octet 1) accepts_it five six refl refl refl (eqb-false 5 6 refl)

-- It does not leave the rest of the buffer: of what stands in that it sees only the length.
abbrev message_and_room : FrameWriteCall → List ℕ × ℕ
message_and_room x = (x.value.message, lists.length x.value.out)

pub rest_not_left : RuledOut (SeesOnly message_and_room (octet 2) accepts_it) frame_write
unfolding five five_into_eights
rest_not_left = sees_only message_and_room (octet 2) accepts_it five five_into_eights refl refl refl (eqb-false 9 8 refl)

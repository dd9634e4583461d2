-- Wrong programs in the place of text_show::show.
use Prim.Native.Nat.{ℕ, ◌+◌, ◌%◌}
use mathlib.Core.Path.{◌≡◌, refl}
use mathlib.Core.Bool.{◌&&◌}
use mathlib.Core.List.{List, [], ◌∷◌, ◌++◌}
use lib.ListN.{length, get_or}
use lib.Dec.{T, ltb}
use borrow.Author.Tests.{eqb-false}
use Rattle.wrong_programs.specs.Kinds.{RuledOut, Invents, SeesOnly, always, due}
use Rattle.wrong_programs.specs.Show.{ShowInput, ShowCall, show}
use Rattle.wrong_programs.proofs.RulingOut.{Sample, given, invents, sees_only}
use Rattle.wrong_programs.proofs.Computing.{hproto}
use Rattle.wrong_programs.proofs.Witnesses.{uints, only_marked}

abbrev Answer : Type 0
Answer = ℕ × List ℕ

-- A buffer of one octet that takes up the character of the text at a place.
abbrev shown : List ℕ → ℕ → ShowInput
shown input from = record { input = input; from = from; out = 0 ∷ [] }

-- The text of a message with no fields starts with "de".
letter_d : Sample show
unfolding hproto
letter_d = given (shown (0x00 ∷ 0x00 ∷ []) 0) (39, 0x64 ∷ []) tt refl

letter_e : Sample show
unfolding hproto
letter_e = given (shown (0x00 ∷ 0x00 ∷ []) 1) (39, 0x65 ∷ []) tt refl

-- "refused 3 at 0", and the 3 in it; "refused 4 at 0", and the 4 in it.
letter_r : Sample show
unfolding hproto
letter_r = given (shown [] 0) (15, 0x72 ∷ []) tt refl

three : Sample show
unfolding hproto
three = given (shown [] 8) (15, 0x33 ∷ []) tt refl

four : Sample show
unfolding hproto
four = given (shown (0x01 ∷ []) 8) (15, 0x34 ∷ []) tt refl

-- The fields "1 0001 uint 42" and "1 0001 uint 7".
abbrev uint : ℕ → List ℕ
uint v = (0x08 ∷ []) ++ uints ++ (0x02 ∷ 0x11 ∷ v ∷ [])

forty_two : Sample show
unfolding hproto
forty_two = given (shown (uint 0x2a) 0) (54, 0x64 ∷ []) tt refl

seven : Sample show
unfolding hproto
seven = given (shown (uint 0x07) 0) (53, 0x64 ∷ []) tt refl

-- The last digits of "42" and "43".
digit_2 : Sample show
unfolding hproto
digit_2 = given (shown (uint 0x2a) 34) (54, 0x32 ∷ []) tt refl

digit_3 : Sample show
unfolding hproto
digit_3 = given (shown (uint 0x2b) 34) (54, 0x33 ∷ []) tt refl

-- The first letter of "uint" before the 7.
letter_u : Sample show
unfolding hproto
letter_u = given (shown (uint 0x07) 28) (53, 0x75 ∷ []) tt refl

-- A message that is refused with 4 and one octet after it: "refused 14 at 0".
fourteen : Sample show
unfolding hproto
fourteen = given (shown (0x00 ∷ 0x01 ∷ 0xc3 ∷ 0x00 ∷ []) 8) (16, 0x31 ∷ []) tt refl

-- A message with a single field twice: "refused 20 at 1".
abbrev twice : List ℕ
twice = (0x09 ∷ []) ++ only_marked 1 1 ++ (0x02 ∷ 0x10 ∷ 0x10 ∷ [])

twenty : Sample show
unfolding hproto
twenty = given (shown twice 0) (16, 0x72 ∷ []) tt refl

abbrev text_length : Answer → ℕ
text_length a = a.0

-- The octet in the buffer afterwards.
abbrev octet : Answer → ℕ
octet a = get_or a.1 0 0

-- Calls for the first octet of the text.
abbrev from_0 : ShowCall → Type 0
from_0 x = (x.value.from ≡ 0) × (length x.value.out ≡ 1)

-- It prints a refusal for all input.
pub refuses_all : RuledOut (Invents octet (λ (x : ShowCall). 0x72) from_0) show
unfolding letter_d
refuses_all = invents octet (λ (x : ShowCall). 0x72) from_0 letter_d (refl, refl) (eqb-false 0x64 0x72 refl)

-- It prints a refusal where the table has no records.
abbrev no_records : ShowCall → Type 0
no_records x = from_0 x × (get_or x.value.input 0 0 ≡ 0)

pub refuses_empty_table : RuledOut (Invents octet (λ (x : ShowCall). 0x72) no_records) show
unfolding letter_d
refuses_empty_table = invents octet (λ (x : ShowCall). 0x72) no_records letter_d ((refl, refl), refl) (eqb-false 0x64 0x72 refl)

-- It prints a message for all input.
pub accepts_all : RuledOut (Invents octet (λ (x : ShowCall). 0x64) from_0) show
unfolding letter_r
accepts_all = invents octet (λ (x : ShowCall). 0x64) from_0 letter_r (refl, refl) (eqb-false 0x72 0x64 refl)

-- It prints the same for every message, or for every one in an input of a length.
abbrev prints_a_message : ShowCall → Type 0
prints_a_message x = from_0 x × due show octet 0x64 x

pub text_by_length : RuledOut (SeesOnly (λ (x : ShowCall). length x.value.input) text_length prints_a_message) show
unfolding forty_two seven
text_by_length =
    sees_only (λ (x : ShowCall). length x.value.input) text_length prints_a_message forty_two seven ((refl, refl), refl) ((refl, refl), refl) refl
    (eqb-false 54 53 refl)

abbrev all_but_the_octets : ShowCall → ℕ × ℕ × List ℕ
all_but_the_octets x = (length x.value.input, x.value.from, x.value.out)

pub octets_by_length : RuledOut (SeesOnly all_but_the_octets octet (due show text_length 54)) show
unfolding digit_2 digit_3
octets_by_length = sees_only all_but_the_octets octet (due show text_length 54) digit_2 digit_3 refl refl refl (eqb-false 0x32 0x33 refl)

-- It prints the same refusal each time.
abbrev from_and_buffer : ShowCall → ℕ × List ℕ
from_and_buffer x = (x.value.from, x.value.out)

pub same_refusal : RuledOut (SeesOnly from_and_buffer octet (due show text_length 15)) show
unfolding three four
same_refusal = sees_only from_and_buffer octet (due show text_length 15) three four refl refl refl (eqb-false 0x33 0x34 refl)

-- It always gives the text from its start.
abbrev all_but_from : ShowCall → List ℕ × List ℕ
all_but_from x = (x.value.input, x.value.out)

pub from_ignored : RuledOut (SeesOnly all_but_from octet always) show
unfolding letter_d letter_e
from_ignored = sees_only all_but_from octet always letter_d letter_e tt tt refl (eqb-false 0x64 0x65 refl)

-- It stores nothing.
pub stores_nothing : RuledOut (Invents octet (λ (x : ShowCall). get_or x.value.out 0 0) always) show
unfolding letter_d
stores_nothing = invents octet (λ (x : ShowCall). get_or x.value.out 0 0) always letter_d tt (eqb-false 0x64 0 refl)

-- It prints the value where the kind belongs.
abbrev digit_for_kind : ShowCall → Type 0
digit_for_kind x = (v : ℕ) × (x.value ≡ shown (uint v) 28)

pub value_for_kind : RuledOut (Invents octet (λ (x : ShowCall). 0x30 + get_or x.value.input 11 0) digit_for_kind) show
unfolding letter_u
value_for_kind = invents octet (λ (x : ShowCall). 0x30 + get_or x.value.input 11 0) digit_for_kind letter_u (0x07, refl) (eqb-false 0x75 0x37 refl)

-- It refuses the message before the octets after both frames.
abbrev message_and_more : ShowCall → Type 0
message_and_more x = (c b : ℕ) × (x.value ≡ shown (0x00 ∷ 0x01 ∷ c ∷ b ∷ []) 8) × T (ltb 0 (c % 16) && ltb (c % 16) 12)

pub fourteen_after_the_message : RuledOut (Invents octet (λ (x : ShowCall). 0x34) message_and_more) show
unfolding fourteen
fourteen_after_the_message = invents octet (λ (x : ShowCall). 0x34) message_and_more fourteen (0xc3, 0x00, refl, tt) (eqb-false 0x31 0x34 refl)

-- It reads under revision 1, and so prints a message that has a single field twice.
pub reads_under_1 : RuledOut (Invents octet (λ (x : ShowCall). 0x64) (λ (x : ShowCall). x.value ≡ shown twice 0)) show
unfolding twenty
reads_under_1 = invents octet (λ (x : ShowCall). 0x64) (λ (x : ShowCall). x.value ≡ shown twice 0) twenty refl (eqb-false 0x72 0x64 refl)

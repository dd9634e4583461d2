-- Wrong programs in the place of crudvim_frame_read.
use Prim.Native.Nat.{ℕ}
use mathlib.Core.Path.{◌≡◌, refl}
use mathlib.Core.List.{[], ◌∷◌}
use lib.ListN.{length, get_or}
use lib.Dec.{T, ltb}
use borrow.Author.Tests.{eqb-false}
use Rattle.message_frame.specs.Frame.{read_refused, read_accepted}
use Rattle.message_frame.specs.declared.FrameRead.{FrameRead}
use Rattle.wrong_programs.specs.Kinds.{RuledOut, Rejects, Accepts, Invents, SeesOnly, always, due}
use Rattle.wrong_programs.specs.FrameRead.{FrameReadCall, frame_read}
use Rattle.wrong_programs.proofs.RulingOut.{Sample, given, rejects, accepts, invents, sees_only}
use Rattle.wrong_programs.proofs.Computing.{hproto}

-- A message of one octet, one of none with an octet after it, and the same in a longer prefix.
one_octet : Sample frame_read
unfolding hproto
one_octet = given (0x01 ∷ 0x00 ∷ []) (read_accepted 1 2) tt refl

octet_after : Sample frame_read
unfolding hproto
octet_after = given (0x00 ∷ 0x00 ∷ []) (read_accepted 1 1) tt refl

longer_prefix : Sample frame_read
unfolding hproto
longer_prefix = given (0xfc ∷ 0x00 ∷ []) (read_accepted 2 2) tt refl

cut : Sample frame_read
unfolding hproto
cut = given (0xfc ∷ []) (read_refused 3) tt refl

-- A size of 65,537, which is past the end too.
too_long_lem : Sample frame_read
unfolding hproto
too_long_lem = given (0xfe ∷ 0x00 ∷ 0x01 ∷ 0x00 ∷ 0x01 ∷ []) (read_refused 1) tt refl

past_the_end_lem : Sample frame_read
unfolding hproto
past_the_end_lem = given (0x01 ∷ []) (read_refused 4) tt refl

abbrev refusal : FrameRead → ℕ
refusal r = r.refusal

abbrev start : FrameRead → ℕ
start r = r.start

abbrev end : FrameRead → ℕ
end r = r.end

abbrev size : FrameReadCall → ℕ
size x = length x.value

-- The contract accepts the call.
abbrev accepts_it : FrameReadCall → Type 0
accepts_it = due frame_read refusal 0

-- It rejects every call.
pub rejects_all : RuledOut (Rejects refusal always) frame_read
unfolding one_octet
rejects_all = rejects refusal always one_octet tt refl

-- It rejects a frame with octets after it.
abbrev octets_after : FrameReadCall → Type 0
octets_after x = T (ltb (frame_read x).end (size x))

pub rejects_octets_after : RuledOut (Rejects refusal octets_after) frame_read
unfolding octet_after
rejects_octets_after = rejects refusal octets_after octet_after tt refl

-- It rejects a prefix that is longer than needed.
abbrev size_0_after_fc : FrameReadCall → Type 0
size_0_after_fc x = (get_or x.value 0 0 ≡ 0xfc) × (get_or x.value 1 0 ≡ 0)

pub rejects_longer_prefix : RuledOut (Rejects refusal size_0_after_fc) frame_read
unfolding longer_prefix
rejects_longer_prefix = rejects refusal size_0_after_fc longer_prefix (refl, refl) refl

-- It accepts every call, or at least contents past the end.
pub accepts_all : RuledOut (Accepts refusal (due frame_read refusal 4)) frame_read
unfolding past_the_end_lem
accepts_all = accepts refusal (due frame_read refusal 4) past_the_end_lem refl (eqb-false 4 0 refl)

-- Another number for a cut prefix, and for a size over the limit, such as 4, since it is past the end too.
pub cut_prefix_renumbered : (n : ℕ) → (3 ≡ n → ⊥) → RuledOut (Invents refusal (λ (x : FrameReadCall). n) (due frame_read refusal 3)) frame_read
unfolding cut
cut_prefix_renumbered n other = invents refusal (λ (x : FrameReadCall). n) (due frame_read refusal 3) cut refl other

abbrev announces_too_much : FrameReadCall → Type 0
announces_too_much x = due frame_read refusal 1 x × T (ltb (size x) 0x10000)

pub size_over_the_limit_renumbered : (n : ℕ) → (1 ≡ n → ⊥) → RuledOut (Invents refusal (λ (x : FrameReadCall). n) announces_too_much) frame_read
unfolding too_long_lem
size_over_the_limit_renumbered n other = invents refusal (λ (x : FrameReadCall). n) announces_too_much too_long_lem (refl, tt) other

-- The size counts the prefix too: the message ends where the size says, counted from the prefix.
abbrev direct_prefix : FrameReadCall → Type 0
direct_prefix x = due frame_read start 1 x

pub prefix_counted : RuledOut (Invents end (λ (x : FrameReadCall). get_or x.value 0 0) direct_prefix) frame_read
unfolding one_octet
prefix_counted = invents end (λ (x : FrameReadCall). get_or x.value 0 0) direct_prefix one_octet refl (eqb-false 2 1 refl)

-- The message starts, or ends, at the same place each time, or at one that depends on the length of the buffer alone.
pub start_by_length : RuledOut (SeesOnly size start accepts_it) frame_read
unfolding one_octet longer_prefix
start_by_length = sees_only size start accepts_it one_octet longer_prefix refl refl refl (eqb-false 1 2 refl)

pub end_by_length : RuledOut (SeesOnly size end accepts_it) frame_read
unfolding one_octet octet_after
end_by_length = sees_only size end accepts_it one_octet octet_after refl refl refl (eqb-false 2 1 refl)

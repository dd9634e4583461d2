-- Laws for the least form of a control part.
use Prim.Native.Nat.{ℕ, ◌+◌, ◌*◌, ◌%◌, ◌^◌, ◌≤◌, ◌<◌}
use native.Mathlib.Nat.{mod-eq_of_lt}
use native.Mathlib.Omega.{arith}
use mathlib.Core.Path.{◌≡◌}
use borrow.Author.Tests.{lt-ltb, le-ltb}
use Rattle.octets.specs.Number.{octets_of}
use Rattle.octets.specs.ControlPart.{Code, tag_code, length_code}
use Rattle.octets.specs.Control.{first_fit, least_code}
use Rattle.octets.specs.internal.Least.{control_widths}
use Rattle.octets.specs.declared.LeastControl.{LeastControl}
use Rattle.octets.proofs.Number.{length_octets_of}
use Rattle.octets_least.specs.internal.Lead.{LeastLead}

-- A lead that is the number itself.
pub direct : (code : Code) (v : ℕ) → v < code.direct → code.direct ≤ 16 → LeastLead code v v 0
unfolding least_code
direct code v h b = record { led = rw (lt-ltb v code.direct h); wide = rw (lt-ltb v code.direct h); nybble = omega arith }

-- A lead that says in how many octets the number follows.
marked : (code : Code) (v lead w : ℕ) → lead < 16 → least_code code v ≡ (lead, octets_of w v) → LeastLead code v lead w
marked code v lead w b e = record { led = rw e; wide = rw (e, length_octets_of w v); nybble = b }

pub tag_one : (v : ℕ) → 14 ≤ v → v < 0x100 → LeastLead tag_code v 14 1
unfolding least_code first_fit
tag_one v a b = marked tag_code v 14 1 (omega arith) (rw (le-ltb v 14 a, lt-ltb v 0x100 b))

pub tag_two : (v : ℕ) → 0x100 ≤ v → v < 0x1_0000 → LeastLead tag_code v 15 2
unfolding least_code first_fit
tag_two v a b = marked tag_code v 15 2 (omega arith) (rw (le-ltb v 14 (omega arith), le-ltb v 0x100 a, lt-ltb v 0x1_0000 b))

pub length_one : (v : ℕ) → 12 ≤ v → v < 0x100 → LeastLead length_code v 12 1
unfolding least_code first_fit
length_one v a b = marked length_code v 12 1 (omega arith) (rw (le-ltb v 12 a, lt-ltb v 0x100 b))

pub length_two : (v : ℕ) → 0x100 ≤ v → v < 0x1_0000 → LeastLead length_code v 13 2
unfolding least_code first_fit
length_two v a b = marked length_code v 13 2 (omega arith) (rw (le-ltb v 12 (omega arith), le-ltb v 0x100 a, lt-ltb v 0x1_0000 b))

pub length_four : (v : ℕ) → 0x1_0000 ≤ v → v < 0x1_0000_0000 → LeastLead length_code v 14 4
unfolding least_code first_fit
length_four v a b =
    marked length_code v 14 4 (omega arith)
    (rw (le-ltb v 12 (omega arith), le-ltb v 0x100 (omega arith), le-ltb v 0x1_0000 a, lt-ltb v 0x1_0000_0000 b))

pub length_eight : (v : ℕ) → 0x1_0000_0000 ≤ v → v < 2 ^ 64 → LeastLead length_code v 15 8
unfolding least_code first_fit
length_eight v a b =
    marked length_code v 15 8 (omega arith)
    (rw (le-ltb v 12 (omega arith), le-ltb v 0x100 (omega arith), le-ltb v 0x1_0000 (omega arith), le-ltb v 0x1_0000_0000 a, lt-ltb v (2 ^ 64) b))

-- The two leads as one octet, by a shift and a sum.
pub control_is : (tag len t n l m : ℕ) → LeastLead tag_code tag t n → LeastLead length_code len l m
    → ◌≡◌ {A = LeastControl} (record { octet = t * 16 % 256 + l; tag_width = n; length_width = m }) (control_widths tag len)
unfolding control_widths
control_is tag len t n l m p q =
    let b = p.nybble in
    let e : t * 16 % 256 ≡ t * 16 = mod-eq_of_lt (omega arith) in
    rw (e, p.led, p.wide, q.led, q.wide)

-- The length of the output fits 64 bits.
use Prim.Native.Nat.{ℕ, suc, ◌+◌, ◌*◌, ◌^◌, ◌≤◌, ◌<◌}
use native.Mathlib.Omega.{arith}
use mathlib.Core.Path.{◌≡◌, refl, ap}
use mathlib.Core.List.{List, [], ◌∷◌}
use lib.ListN.{length, length-append}
use Rattle.message.specs.internal.Accepts.{Accepts}
use Rattle.message.proofs.Accepted.{accepts_good}
use Rattle.octets.specs.Number.{big_endian}
use Rattle.octets.specs.Signed.{integer}
use Rattle.table.specs.Entry.{inner_of}
use Rattle.table.specs.Schema.{Schema}
use Rattle.message.specs.Cut.{Cut, end, leaf, nested, joined, Allowed}
use Rattle.message.specs.Tree.{Value, raw, uint, int, string, text, tree, value}
use Rattle.table.specs.declared.Meaning.{Meaning}
use Rattle.table.specs.declared.Meaning.TheVariants.{Raw, Uint, Int, String, Text, Message}
use Rattle.octets.proofs.ControlPart.{part_size}
use Rattle.text_window.specs.Ascii.{ascii}
use Rattle.text_window.specs.Digits.{decimal, four_digits, hex, hex_or_dash}
use Rattle.text_message.specs.Text.{kind_name, value_text, line_start, line, direct, lines, page, refusal_text}
use Rattle.text_message.specs.internal.OfTree.{lines_of}
use Rattle.text_window.proofs.Numbers.{decimal_length, signed_length}
use Rattle.text_message.proofs.WriteLoop.{lines_is}

hex_length : (s : List ℕ) → length (hex s) ≡ 2 * length s
unfolding hex
hex_length [] = refl
hex_length (x ∷ s) = let h = hex_length s in omega arith

dash_length : (s : List ℕ) → length (hex_or_dash s) ≤ 1 + 2 * length s
unfolding hex_or_dash
dash_length [] = omega arith
dash_length (x ∷ s) = let h = hex_length (x ∷ s) in omega arith

value_length : (k : Meaning) (s : List ℕ) → length (value_text (value k s)) ≤ 21 + 2 * length s
unfolding value_text value
value_length Raw s = let h = dash_length s in omega arith
value_length Uint s = let h = decimal_length (big_endian s) in omega arith
value_length Int s = let h = signed_length (integer s) in omega arith
value_length String s = let h = dash_length s in omega arith
value_length Text s = let h = dash_length s in omega arith
value_length (Message m) s = let h = dash_length s in omega arith

name_length : (v : Value) → length (kind_name v) ≤ 7
unfolding kind_name ascii
name_length (raw s) = omega arith
name_length (uint n) = omega arith
name_length (int z) = omega arith
name_length (string s) = omega arith
name_length (text s) = omega arith

message_length : length (ascii "message") ≤ 7
unfolding ascii
message_length = omega arith

line_length : (depth tag : ℕ) (kind v : List ℕ) → length kind ≤ 7 → length (line depth tag kind v) ≤ 35 + length v
unfolding line line_start ascii four_digits
line_length depth tag kind v h = let d = decimal_length depth in simp length-append (omega arith)

-- A field has at least one octet, and its lines at most 60 times as many. The tree may be read under any message number.
lines_length : (sc : Schema) (cut : Cut) (n k depth : ℕ) → Allowed sc k cut → length (lines depth (tree sc n cut)) ≤ 60 * length (joined cut)
unfolding lines tree joined Allowed
lines_length sc end n k depth a = omega arith
lines_length sc (leaf tag c b rest) n k depth a =
    let z = part_size tag (length b) c a.0.whole in
    let m = sc.means n tag in
    let v = value_length m b in
    let l = line_length depth tag (kind_name (value m b)) (value_text (value m b)) (name_length (value m b)) in
    let h = lines_length sc rest n k depth a.1 in
    simp length-append (omega arith)
lines_length sc (nested tag c inside rest) n k depth a =
    let z = part_size tag (length (joined inside)) c a.0.1.whole in
    let m = inner_of (sc.means n tag) in
    let v = decimal_length (direct (tree sc m inside)) in
    let l = line_length depth tag (ascii "message") (decimal (direct (tree sc m inside))) message_length in
    let g = lines_length sc inside m a.0.0 (suc depth) a.0.2 in
    let h = lines_length sc rest n k depth a.1 in
    simp length-append (omega arith)

-- The text of a message within the length limit, and of a refusal, is shorter than 2 ^ 64 octets.
pub page_fits : (sc : Schema) (n : ℕ) (s : List ℕ) (count : ℕ) → length s ≤ 65536 → Accepts sc 8 n s → length (page (lines_of sc 8 n s) count (length s)) < 2 ^ 64
unfolding page ascii
page_fits sc n s count h a =
    let g = accepts_good sc 8 n s a in
    let e = ap length (lines_is sc 8 n s g.0 g.1) in
    let l = lines_length sc g.0 n n 1 g.1.allowed in
    let d = ap length g.1.divides in
    let x = decimal_length count in
    let y = decimal_length (length s) in
    simp length-append (omega arith)

pub refusal_fits : (refusal place : ℕ) → length (refusal_text refusal place) < 2 ^ 64
unfolding refusal_text ascii
refusal_fits refusal place =
    let x = decimal_length refusal in
    let y = decimal_length place in
    simp length-append (omega arith)

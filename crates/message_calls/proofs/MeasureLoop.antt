-- The loop invariant of `measure`: the count of octets of the shortest form of the fields so far.
use Prim.Native.Nat.{ℕ, suc, ◌+◌, ◌*◌, ◌%◌, ◌≤◌}
use native.Mathlib.Omega.{arith}
use mathlib.Core.Path.{◌≡◌, refl, sym, ap, ◌∙◌, subst}
use mathlib.Core.List.{List, [], ◌++◌}
use lib.ListN.{length, drop, length-append}
use lib.IntN.{ℤ, pos, negsuc}
use Rattle.reading.specs.Reading.{message_limit}
use Rattle.message.specs.internal.Accepts.{Accepts}
use Rattle.message.proofs.Accepted.{accepts_good}
use Rattle.octets.specs.Number.{Octets, big_endian}
use Rattle.octets.specs.Signed.{integer, signed_width}
use Rattle.octets.specs.Control.{least_control}
use Rattle.octets.specs.internal.Least.{control_widths}
use Rattle.octets.proofs.Number.{length_least_uint, width_bound}
use Rattle.octets.proofs.Integer.{length_least_int}
use Rattle.table.specs.Schema.{Schema}
use Rattle.table.specs.declared.Meaning.{Meaning}
use Rattle.table.specs.declared.Meaning.TheVariants.{Raw, Uint, Int, String, Text, Message}
use Rattle.message.specs.Cut.{Contents}
use Rattle.message.specs.Tree.{value}
use Rattle.message.specs.Shortest.{field, least_contents}
use Rattle.message.proofs.Next.{Plain}
use Rattle.message.proofs.Shortened.{shortest_no_longer}
use Rattle.message_field.specs.internal.Heads.{head_at}
use Rattle.message_field.specs.internal.Heads.{Head}
use Rattle.message_field.specs.internal.Heads.{Field}
use Rattle.message_field.specs.internal.Heads.{Fieldless}
use Rattle.message_field.proofs.FieldsByHead.{Ends, ends}
use Rattle.octets_put.proofs.Least.{least_control_size, least_control_widths}
use Rattle.message_calls.specs.internal.Stores.{shortest_within}
use Rattle.message_calls.proofs.ShortestPrefix.{Passed, nothing_passed, all_passed, passed_length, field_contents, tag_small, leaf_contents, leaf_passed, nested_passed, shortest_is}
use Rattle.message.proofs.Fields.{field_length}

signed_width_bound : (z : ℤ) → signed_width z ≤ 8
unfolding signed_width
signed_width_bound (pos v) = width_bound (2 * v)
signed_width_bound (negsuc k) = width_bound (2 * k + 1)

-- Least contents are few octets where the contents are.
pub least_few : (k : Meaning) (s : List ℕ) → length s ≤ message_limit → length (least_contents (value k s)) ≤ 65536
unfolding least_contents value
least_few Raw s h = h
least_few Uint s h = let e = length_least_uint (big_endian s) in let b = width_bound (big_endian s) in omega arith
least_few Int s h = let e = length_least_int (integer s) in let b = signed_width_bound (integer s) in omega arith
least_few String s h = h
least_few Text s h = h
least_few (Message m) s h = h

pub control_few : (tag len : ℕ) → length (least_control tag len) ≤ 11
control_few tag len =
    let s = least_control_size tag len (control_widths tag len) refl in
    let w = least_control_widths tag len (control_widths tag len) refl in
    let a = w.0 in
    let b = w.1 in
    omega arith

-- The shortest form of an accepted message is no longer than the message.
pub short_few : (sc : Schema) (levels n : ℕ) (s : List ℕ) → Octets s → Accepts sc levels n s → length (shortest_within sc levels n s) ≤ length s
short_few sc levels n s o a =
    let g = accepts_good sc levels n s a in
    rw (shortest_is sc levels n s g.0 g.1) (shortest_no_longer sc levels n s g.0 o g.1)

module _ (sc : Schema) (levels n : ℕ) (s : List ℕ) where
  -- After i octets, `size` counts what has been passed.
  pub record Counted (i size : ℕ) : Type 0 where
    pub written : List ℕ
    pub passed : Passed sc levels n s i written
    pub total : size ≡ length written

  pub counted_none : Accepts sc (suc levels) n s → Counted 0 0
  counted_none a = record { written = []; passed = nothing_passed sc levels n s a; total = refl }

  pub counted_all : (i size : ℕ) → Counted i size → (h : Head) → head_at i (drop i s) ≡ h → Fieldless h → size ≡ length (shortest_within sc (suc levels) n s)
  counted_all i size p h e q = p.total ∙ sym (ap length (all_passed sc levels n s i p.written p.passed h e q))

  pub counted_few : (i size : ℕ) → Counted i size → size ≤ length (shortest_within sc (suc levels) n s)
  counted_few i size p = let e = p.total in let k = passed_length sc levels n s i p.written p.passed in omega arith

  module _ (i size : ℕ) (p : Counted i size) (o : Octets s) (tag start stop : ℕ) (found : head_at i (drop i s) ≡ Field tag start stop) (k : Meaning) (means : k ≡ sc.means n tag) where
    abbrev contents : List ℕ
    contents = field_contents sc levels n s i p.written p.passed tag start stop found

    small : tag % 65536 ≡ tag
    small = tag_small sc levels n s i p.written p.passed tag start stop found o

    pub next_ends : Ends sc levels n s i p.passed.remaining tag start stop found
    next_ends = ends sc levels n s i p.passed.remaining tag start stop found

    pub next_contents : Plain k → Contents k contents
    next_contents q = leaf_contents sc levels n s i p.written p.passed tag start stop found k means q

    counted_next : (j : ℕ) (xs : List ℕ) → Passed sc levels n s j (p.written ++ xs) → Counted j (size + length xs)
    counted_next j xs q =
        let e = p.total in
        record { written = p.written ++ xs; passed = q; total = rw (length-append p.written xs) (omega arith) }

    pub leaf_counted : (r : ℕ) → Plain k → r ≡ length (field (tag % 65536) (least_contents (value k contents)))
        → Counted stop (size + r)
    leaf_counted r q e =
        subst (λ (x : ℕ). Counted stop (size + x)) (sym (e ∙ rw small))
        (counted_next stop (field tag (least_contents (value k contents)))
        (leaf_passed sc levels n s i p.written p.passed tag start stop found k means q))

    module _ (m : ℕ) (q : k ≡ Message m) where
      pub nested_accepts : (1 ≤ levels) × Accepts sc levels m contents
      nested_accepts =
          let h = nested_passed sc levels n s i p.written p.passed tag start stop found k means m q in
          (h.positive, h.accepts)

      pub nested_counted : (inner l : ℕ) → inner ≡ length (shortest_within sc levels m contents) → l ≡ length (least_control (tag % 65536) inner)
          → Counted stop (size + (l + inner))
      nested_counted inner l a b =
          let h = nested_passed sc levels n s i p.written p.passed tag start stop found k means m q in
          let xs = shortest_within sc levels m contents in
          let c : l ≡ length (least_control tag (length xs)) = b ∙ rw (small, a) in
          let e : length (field tag xs) ≡ l + inner = field_length tag xs ∙ rw (a, c) in
          subst (λ (x : ℕ). Counted stop (size + x)) e
          (counted_next stop (field tag xs) h.passed)

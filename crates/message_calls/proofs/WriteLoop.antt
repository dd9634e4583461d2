-- The loop invariant of `write`: the buffer has the shortest form of the fields so far.
use Prim.Native.Nat.{ℕ, suc, ◌+◌, ◌-◌, ◌%◌, ◌≤◌}
use native.Mathlib.Omega.{arith}
use mathlib.Core.Path.{◌≡◌, sym, ap, ◌∙◌, subst}
use mathlib.Core.List.{List, [], ◌++◌}
use lib.ListN.{length, drop, length-append}
use Rattle.message.specs.internal.Accepts.{Accepts}
use Rattle.octets.specs.Number.{Octets}
use Rattle.octets.specs.Control.{least_control}
use Rattle.table.specs.Schema.{Schema}
use Rattle.table.specs.declared.Meaning.{Meaning}
use Rattle.table.specs.declared.Meaning.TheVariants.{Message}
use Rattle.message.specs.Cut.{Contents}
use Rattle.message.specs.Tree.{value}
use Rattle.message.specs.Shortest.{field, least_contents}
use Rattle.message.proofs.Next.{Plain}
use Rattle.message_field.specs.internal.Heads.{head_at}
use Rattle.message_field.specs.internal.Heads.{Head}
use Rattle.message_field.specs.internal.Heads.{Field}
use Rattle.message_field.specs.internal.Heads.{Fieldless}
use Rattle.message_field.proofs.FieldsByHead.{Ends, ends}
use Rattle.octets_store.specs.Store.{stored}
use Rattle.octets_store.specs.internal.Moved.{moved}
use Rattle.octets_store.proofs.Stores.{stored_nothing, stored_after, length_stored}
use Rattle.message_calls.specs.internal.Stores.{shortest_within, Put}
use Rattle.message_calls.proofs.ShortestPrefix.{Passed, nothing_passed, all_passed, passed_length, field_contents, tag_small, leaf_contents, leaf_passed, nested_passed}
use Rattle.message.proofs.Fields.{field_length}
use Rattle.message_calls.proofs.FieldStores.{control_some}
use Rattle.message_calls.proofs.ControlBefore.{stored_behind}

module _ (sc : Schema) (levels n : ℕ) (s before : List ℕ) (to : ℕ) where
  -- After i octets the buffer has the shortest form of the fields so far, from `to` up to `end`.
  pub record Progress (i end : ℕ) (out : List ℕ) : Type 0 where
    pub written : List ℕ
    pub passed : Passed sc levels n s i written
    pub place : end ≡ to + length written
    pub buffer : out ≡ stored before to written

  pub begun : Accepts sc (suc levels) n s → Progress 0 to before
  begun a = record { written = []; passed = nothing_passed sc levels n s a; place = omega arith; buffer = sym (stored_nothing before to) }

  pub ended : (i end : ℕ) (out : List ℕ) → Progress i end out → (h : Head) → head_at i (drop i s) ≡ h → Fieldless h
      → Put before to (shortest_within sc (suc levels) n s) end out
  ended i end out p h f q =
      let e = all_passed sc levels n s i p.written p.passed h f q in
      record { place = rw e p.place; buffer = rw e p.buffer }

  pub same_length : (i end : ℕ) (out : List ℕ) → Progress i end out → length out ≡ length before
  same_length i end out p = ap length p.buffer ∙ length_stored before to p.written

  module _ (fits : to + length (shortest_within sc (suc levels) n s) ≤ length before) (i end : ℕ) (out : List ℕ) (p : Progress i end out) where
    -- One more part, stored where the buffer's part ends.
    stored_next : (j r : ℕ) (xs after : List ℕ) → Passed sc levels n s j (p.written ++ xs) → Put out end xs r after → Progress j r after
    stored_next j r xs after q put =
        let e = p.place in
        let k = passed_length sc levels n s j (p.written ++ xs) q in
        let l = length-append p.written xs in
        let x = put.place in
        record {
          written = p.written ++ xs;
          passed = q;
          place = rw l (omega arith);
          buffer =
              put.buffer ∙ rw (p.buffer, e) (stored_after before to p.written xs (omega arith));
        }

    -- One more part has room.
    next_fits : (j : ℕ) (xs : List ℕ) → Passed sc levels n s j (p.written ++ xs) → end + length xs ≤ length out
    next_fits j xs q =
        let e = p.place in
        let k = passed_length sc levels n s j (p.written ++ xs) q in
        let l = length-append p.written xs in
        let m = same_length i end out p in
        omega arith

    module _ (o : Octets s) (tag start stop : ℕ) (found : head_at i (drop i s) ≡ Field tag start stop) (k : Meaning) (means : k ≡ sc.means n tag) where
      abbrev pub contents : List ℕ
      contents = field_contents sc levels n s i p.written p.passed tag start stop found

      small : tag % 65536 ≡ tag
      small = tag_small sc levels n s i p.written p.passed tag start stop found o

      pub next_ends : Ends sc levels n s i p.passed.remaining tag start stop found
      next_ends = ends sc levels n s i p.passed.remaining tag start stop found

      pub next_contents : Plain k → Contents k contents
      next_contents q = leaf_contents sc levels n s i p.written p.passed tag start stop found k means q

      pub leaf_fits : Plain k → end + length (field (tag % 65536) (least_contents (value k contents))) ≤ length out
      leaf_fits q = rw small (next_fits stop (field tag (least_contents (value k contents))) (leaf_passed sc levels n s i p.written p.passed tag start stop found k means q))

      pub leaf_written : (r : ℕ) (after : List ℕ) → Plain k
          → Put out end (field (tag % 65536) (least_contents (value k contents))) r after → Progress stop r after
      leaf_written r after q put =
          stored_next stop r (field tag (least_contents (value k contents))) after
          (leaf_passed sc levels n s i p.written p.passed tag start stop found k means q)
          (subst (λ (t : ℕ). Put out end (field t (least_contents (value k contents))) r after) small put)

      module _ (m : ℕ) (q : k ≡ Message m) where
        pub nested_accepts : (1 ≤ levels) × Accepts sc levels m contents
        nested_accepts =
            let h = nested_passed sc levels n s i p.written p.passed tag start stop found k means m q in
            (h.positive, h.accepts)

        whole_fits : end + (length (least_control tag (length (shortest_within sc levels m contents))) + length (shortest_within sc levels m contents)) ≤ length out
        whole_fits =
            let h = nested_passed sc levels n s i p.written p.passed tag start stop found k means m q in
            subst (λ (l : ℕ). end + l ≤ length out) (field_length tag (shortest_within sc levels m contents))
            (next_fits stop (field tag (shortest_within sc levels m contents)) h.passed)

        pub nested_fits : end + 1 + length (shortest_within sc levels m contents) ≤ length out
        nested_fits = let h = whole_fits in let o = control_some tag (length (shortest_within sc levels m contents)) in omega arith

        module _ (x : ℕ) (between : List ℕ) (put : Put out (end + 1) (shortest_within sc levels m contents) x between) where
          inner_length : x - (end + 1) ≡ length (shortest_within sc levels m contents)
          inner_length = let h = put.place in omega arith

          pub inner_after : end + 1 ≤ x
          inner_after = let h = put.place in omega arith

          pub wrap_fits : end + length (least_control (tag % 65536) (x - (end + 1))) + (x - (end + 1)) ≤ length between
          wrap_fits =
              let h = whole_fits in
              let l = ap length put.buffer ∙ length_stored out (end + 1) (shortest_within sc levels m contents) in
              rw (small, inner_length) (omega arith)

          pub nested_written : (r : ℕ) (after : List ℕ) → r ≡ end + length (least_control (tag % 65536) (x - (end + 1))) + (x - (end + 1))
              → after
              ≡ stored (moved between (end + 1) (x - (end + 1)) (length (least_control (tag % 65536) (x - (end + 1))) - 1)) end (least_control (tag % 65536) (x - (end + 1)))
              → Progress stop r after
          unfolding field
          nested_written r after a b =
              let h = nested_passed sc levels n s i p.written p.passed tag start stop found k means m q in
              let xs = shortest_within sc levels m contents in
              let k = whole_fits in
              let fl = field_length tag xs in
              let o = control_some tag (length xs) in
              let a' : r ≡ end + length (least_control tag (length xs)) + length xs = rw (small, inner_length) at a in
              let b' : after ≡ stored (moved between (end + 1) (length xs) (length (least_control tag (length xs)) - 1)) end (least_control tag (length xs)) =
              rw (small, inner_length) at b in
              stored_next stop r (field tag xs) after h.passed
              (record {
                place = omega arith;
                buffer = b' ∙ rw put.buffer (stored_behind out end xs (least_control tag (length xs)) o (omega arith));
              })

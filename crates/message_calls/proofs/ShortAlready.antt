-- The check says that a message is short exactly where the shortener would give back the same octets. specs/ShortAlready.antt states it.
use Prim.Native.Nat.{ℕ, ◌≤◌}
use native.Mathlib.Omega.{arith}
use mathlib.Core.Path.{◌≡◌, refl, sym, ap, ◌∙◌}
use mathlib.Core.Bool.{Bool, true, false}
use mathlib.Core.List.{List, []}
use mathlib.Core.Logic.{◌↔◌}
use lib.ListN.{length, take}
use lib.Dec.{ltb, leb, eqb}
use borrow.Author.Tests.{ltb-true, ltb-false, leb-true, leb-false, eqb-true, eqb-false, eq-eqb}
use Rattle.octets.specs.Number.{Octets}
use Rattle.octets.specs.Short.{same}
use Rattle.octets.specs.Control.{control}
use Rattle.octets.proofs.Same.{same_exactly}
use Rattle.octets_store.specs.Store.{stored}
use Rattle.octets_store.proofs.Stores.{part_stored}
use Rattle.reading.specs.Reading.{message_limit, depth_limit, last_number}
use Rattle.reading.specs.Checks as answers
use Rattle.reading.specs.declared.Checked.{Checked}
use Rattle.table.specs.Load.{load}
use Rattle.table.specs.Schema.{is_revision, schema}
use Rattle.table.specs.declared.Table.{Table}
use Rattle.message.specs.Cut.{Cut, Good}
use Rattle.message.specs.Reading.{reading, message_from, fields_from, after_step, step, step_from}
use Rattle.message.specs.Shortest.{shortest}
use Rattle.message.specs.Tree.{tree}
use Rattle.message.proofs.Accepted.{accepted_exactly}
use Rattle.message_calls.specs.Check.{check, tree_counts}
use Rattle.message_calls.specs.Written.{shortest_of_reading}
use Rattle.message_calls.specs.Shorten as shortens
use Rattle.message_calls.specs.Shorten.{shortest_under, shortest_by_table, shorten_result, result_buffer, answer, buffer}
use Rattle.message_calls.specs.Short.{short}
use Rattle.message_calls.specs.Calls.{check_octets, short_octets, shorten_octets, shorten_buffer}
use Rattle.message_calls.specs.ShortAlready.{ShortAlready}
use Rattle.message_calls.specs.declared.Shortened.{Shortened}
use Rattle.message_calls.proofs.CheckAnswers.{read_through}
use Rattle.message_calls.proofs.ShortAnswers as shorts
use Rattle.message_calls.proofs.ShortenAnswers.{refused-first, no_room, shortened}
use Rattle.message_calls.proofs.CallsByOctets.{message_too_long, table_refused, not_refused, loaded_good, check_as_loaded, short_as_loaded, shorten_as_loaded, buffer_as_loaded}

-- Where the shortener refuses nothing, neither does the check, there is room, and the buffer afterwards begins with the shortest octets.
module _ (c : Checked) (xs out : List ℕ) (z : (shorten_result c xs out).refusal ≡ 0) where
  check_accepts : c.refusal ≡ 0
  check_accepts = go (eqb c.refusal 0) refl
    where
      go : (b : Bool) → eqb c.refusal 0 ≡ b → c.refusal ≡ 0
      go true e = eqb-true c.refusal 0 e
      go false e = ap (λ (r : Shortened). r.refusal) (refused-first c xs out c refl (eqb-false c.refusal 0 e)).result_is ∙ z

  room : length xs ≤ length out
  room = go (leb (length xs) (length out)) refl
    where
      go : (b : Bool) → leb (length xs) (length out) ≡ b → length xs ≤ length out
      go true e = leb-true (length xs) (length out) e
      go false e =
          let k = ap (λ (r : Shortened). r.refusal) (no_room c xs out check_accepts (leb-false (length xs) (length out) e)).result_is ∙ z in
          absurd (omega arith)

  front : take (shorten_result c xs out).length (result_buffer c xs out) ≡ xs
  front =
      let r = shortened c xs out check_accepts (length xs) (stored out 0 xs) room (omega arith) refl in
      let k = room in
      rw (← r.result_is, ← r.buffer-is) (part_stored out 0 xs (omega arith))

-- Under a table and a revision.
module _ (t : Table) (revision n : ℕ) where
  where_accepted : (s : List ℕ) → (check t revision n s).refusal ≡ 0 → short t revision n s ≡ same (shortest_by_table t revision n s) s
  unfolding short
  where_accepted s e = rw (eq-eqb (check t revision n s).refusal 0 e) refl

  exactly : (s out : List ℕ) → (answer t revision n s out).refusal ≡ 0 → (short t revision n s ≡ true) ↔ (take (answer t revision n s out).length (buffer t revision n s out) ≡ s)
  unfolding answer buffer
  exactly s out z =
      let c = check t revision n s in
      let xs = shortest_by_table t revision n s in
      rw (front c xs out z, where_accepted s (check_accepts c xs out z)) (same_exactly xs s)

  empty : (check t revision n []).refusal ≡ 0 → short t revision n [] ≡ true
  unfolding same shortest_by_table shortest_under shortest_of_reading shortest tree reading message_from fields_from after_step step step_from control
  empty e = where_accepted [] e

refused : (table : List ℕ) (revision n : ℕ) (s : List ℕ) → ((check_octets table revision n s).refusal ≡ 0 → ⊥) → short_octets table revision n s ≡ false
unfolding short_octets
refused table revision n s ne = long (ltb message_limit (length s)) refl
  where
    under : Table → Bool
    under t = short t revision n s

    none : ℕ → ℕ → Bool
    none reason place = false

    loaded : length s ≤ message_limit → (b : Bool) → eqb (load table).refusal 0 ≡ b → short_octets table revision n s ≡ false
    loaded h true e =
        let z = eqb-true (load table).refusal 0 e in
        short_as_loaded table s z h revision n
        ∙ sym (shorts.refused_not_short (load table).table revision n s (check (load table).table revision n s) refl (λ k. ne (ap (λ (c : Checked). c.refusal) (check_as_loaded table s z h revision n) ∙ k)))
    loaded h false e = sym (table_refused table s under none h (load table) refl (eqb-false (load table).refusal 0 e))

    long : (b : Bool) → ltb message_limit (length s) ≡ b → short_octets table revision n s ≡ false
    long true e = sym (message_too_long table s under none (ltb-true message_limit (length s) e))
    long false e = loaded (ltb-false message_limit (length s) e) (eqb (load table).refusal 0) refl

-- The shortener accepted, so the table loads and the message is within the limit; and the same where the check did.
shortener_reads : (table : List ℕ) (revision n : ℕ) (s out : List ℕ) → (shorten_octets table revision n s out).refusal ≡ 0 → (length s ≤ message_limit) × ((load table).refusal ≡ 0)
unfolding shorten_octets shortens.refusal
shortener_reads table revision n s out z =
    not_refused table s (λ (t : Table). answer t revision n s out) shortens.refusal (λ (r : Shortened). r.refusal) (λ (reason place : ℕ). refl) z

check_reads : (table : List ℕ) (revision n : ℕ) (s : List ℕ) → (check_octets table revision n s).refusal ≡ 0 → (length s ≤ message_limit) × ((load table).refusal ≡ 0)
unfolding check_octets answers.refusal
check_reads table revision n s z =
    not_refused table s (λ (t : Table). check t revision n s) answers.refusal (λ (r : Checked). r.refusal) (λ (reason place : ℕ). refl) z

-- A message with a good cut: the check accepts it, and its shortest octets are those of the cut's tree.
by_tree : (table : List ℕ) → Octets table → (load table).refusal ≡ 0 → (revision : ℕ) → is_revision revision ≡ true
    → (n : ℕ) → n ≤ last_number → (s : List ℕ) → length s ≤ message_limit → (cut : Cut) → Good (schema revision (load table).table) depth_limit n s cut
    → (short_octets table revision n s ≡ true) ↔ (shortest (tree (schema revision (load table).table) n cut) ≡ s)
unfolding tree_counts answers.counts shortest_by_table shortest_under shortest_of_reading
by_tree table o z revision known n k s h cut g =
    let t = (load table).table in
    let r = (accepted_exactly (schema revision t) n s cut).1 g in
    let c = ap (λ (a : Checked). a.refusal) (read_through t revision n s h (loaded_good table revision o z known) k) in
    rw (short_as_loaded table s z h revision n, where_accepted t revision n s (c ∙ rw r refl), r) (same_exactly (shortest (tree (schema revision t) n cut)) s)

pub short_already : ShortAlready check_octets short_octets shorten_octets shorten_buffer
short_already =
    record {
      refused_not_short = refused;
      short_exactly = λ table revision n s out z.
          let h = shortener_reads table revision n s out z in
          let a = shorten_as_loaded table s h.1 h.0 revision n out in
          rw (short_as_loaded table s h.1 h.0 revision n, a, buffer_as_loaded table s h.1 h.0 revision n out)
          (exactly (load table).table revision n s out (ap (λ (r : Shortened). r.refusal) (sym a) ∙ z));
      empty_short = λ table revision n z.
          let h = check_reads table revision n [] z in
          let c = ap (λ (r : Checked). r.refusal) (check_as_loaded table [] h.1 h.0 revision n) in
          short_as_loaded table [] h.1 h.0 revision n ∙ empty (load table).table revision n (sym c ∙ z);
      by_tree = by_tree;
    }

-- The result of looking up a tag gives the answer of an open.
use Prim.Native.Nat.{ℕ, ◌<◌}
use native.Mathlib.Omega.{arith}
use mathlib.Core.Path.{◌≡◌, refl, sym, ap, ◌∙◌}
use mathlib.Core.Bool.{Bool, true, false}
use mathlib.Core.List.{List, []}
use lib.Dec.{eqb}
use borrow.Author.Tests.{eqb-true, eqb-false, ne_eqb}
use Rattle.std.specs.Prelude.{Ok, Err}
use Rattle.reading.specs.declared.Fault.{Fault}
use Rattle.table.specs.Entry.{kind_number, inner_of}
use Rattle.table.specs.Load.{load}
use Rattle.table.specs.declared.Table.{Table}
use Rattle.writer_state.specs.Answer.{answer}
use Rattle.writer_state.specs.ByOctets.{by_octets, refused_at, usable, usable_for, answer_octets}
use Rattle.writer_state.specs.Call.{open_field}
use Rattle.writer_state.specs.Calls.{call_result, meant, opening}
use Rattle.writer_state.specs.Results.{written}
use Rattle.writer_state.specs.internal.Found.{FoundAnswer, found_answer, none_at, found_under, found_octets}
use Rattle.writer_state.specs.internal.Tags.{TagAnswer, fits, tag_kind}
use Rattle.writer_state.specs.declared.State.{State}
use Rattle.writer_state.specs.declared.Tagged.{Tagged}
use Rattle.writer_state.specs.declared.Written.{Written}
use Rattle.writer_state.proofs.ByOctets.{usable_same, by_map, by_accepted, by_loaded}
use Rattle.writer_state.proofs.CallResults.{number_over}
use Rattle.writer_state.proofs.TagKinds.{open_kept, open_rest, tag_read, tag_narrow}
use Rattle.writer_nesting.specs.internal.Nesting.{open_known, open_found}

-- ---- the two results

module _ (s : State) (tag : ℕ) where
  pub known_open : (k : Tagged) {r w : Written} → r ≡ open_known s k.mask tag (inner_of k.kind) → open_found (found_answer (Ok k)) s tag ≡ w → r ≡ w
  unfolding open_found
  known_open k p q = p ∙ q

  pub refused_open : (f : Fault) {w : Written} → open_found (found_answer (Err f)) s tag ≡ w → written s (Err f) ≡ w
  unfolding open_found refused_at
  refused_open f q = rw (number_over f.refusal) at q

-- ---- the answers

abbrev refusal_in : FoundAnswer → ℕ
refusal_in k = k.tagged.refusal

module _ (s : State) (tag : ℕ) where
  abbrev under : Table → FoundAnswer
  under t = found_under t s s.length tag 5

  abbrev answers : Table → Written
  answers t = answer t s [] (open_field tag)

  abbrev looked_up : Table → TagAnswer
  looked_up t = tag_kind t s s.length tag 5

  table_open : (t : Table) → open_found (under t) s tag ≡ answers t
  unfolding open_found open_known answer opening fits refused_at call_result found_under
  table_open t = go (eqb (looked_up t).refusal 0) refl
    where
      go : (b : Bool) → eqb (looked_up t).refusal 0 ≡ b → open_found (under t) s tag ≡ answers t
      go true q =
          let f = tag_read t s s.length tag 5 {r = looked_up t} refl in
          let z = eqb-true (looked_up t).refusal 0 q in
          rw (q, open_rest t s tag (eqb (kind_number (meant t s tag)) 5) (looked_up t).refusal f.refused z, f.mask z, f.inner z) refl
      go false q =
          let f = tag_read t s s.length tag 5 {r = looked_up t} refl in
          rw (q, ← open_kept t s tag (eqb (kind_number (meant t s tag)) 5) (looked_up t).refusal f.refused (eqb-false (looked_up t).refusal 0 q)) (rw q refl)

  module _ (t : Table) {k : FoundAnswer} (e : k ≡ found_under t s s.length tag 5) where
    pub loaded_open : open_found k s tag ≡ answer t s [] (open_field tag)
    loaded_open = ap (λ (x : FoundAnswer). open_found x s tag) e ∙ table_open t

    pub loaded_narrow : k.tagged.refusal ≡ 0 → tag < 65536
    unfolding found_under
    loaded_narrow z = tag_narrow t s s.length tag 5 (omega arith) refl (sym (ap refusal_in e) ∙ z)

  module _ (octets : List ℕ) {k : FoundAnswer} (e : k ≡ found_octets octets s s.length tag 5) where
    pub octets_open : open_found k s tag ≡ answer_octets octets s [] (open_field tag)
    unfolding answer_octets usable_for found_octets
    octets_open =
        ap (λ (x : FoundAnswer). open_found x s tag) e
        ∙ by_map (λ (x : FoundAnswer). open_found x s tag) (usable s s.length) 10 octets under none_at answers (refused_at s) (λ z. omega arith) table_open
        (λ n place ne. unfold open_found none_at in rw (ne_eqb n 0 ne) refl)
        ∙ ap (λ (b : Bool). by_octets b 10 octets answers (refused_at s)) (sym (usable_same s s.length refl))

    pub octets_narrow : k.tagged.refusal ≡ 0 → tag < 65536
    unfolding found_octets found_under
    octets_narrow z =
        let y = by_accepted refusal_in (usable s s.length) 10 octets under none_at (λ z. omega arith) (λ n place. unfold none_at in refl)
        (sym (ap refusal_in e) ∙ z) in
        let f = e ∙ by_loaded (usable s s.length) 10 octets under none_at y.0 y.1 in
        tag_narrow (load octets).table s s.length tag 5 (omega arith) refl (sym (ap refusal_in f) ∙ z)

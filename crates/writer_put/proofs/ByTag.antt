-- The result of looking up a tag gives the answer of a put.
use Prim.Native.Nat.{ℕ, ◌≤◌}
use native.Mathlib.Omega.{arith}
use mathlib.Core.Path.{◌≡◌, refl, sym, ap, ◌∙◌}
use mathlib.Core.Bool.{Bool, true, false}
use mathlib.Core.List.{List}
use lib.ListN.{length}
use lib.Dec.{eqb}
use borrow.Author.Tests.{eqb-true, eqb-false, ne_eqb}
use Rattle.std.specs.Prelude.{Ok, Err}
use Rattle.reading.specs.declared.Fault.{Fault}
use Rattle.table.specs.Entry.{kind_number}
use Rattle.table.specs.Load.{load}
use Rattle.table.specs.declared.Table.{Table}
use Rattle.message.specs.Shortest.{field}
use Rattle.writer_state.specs.ByOctets.{by_octets, refused_at, usable}
use Rattle.writer_state.specs.Calls.{call_result, buffer_after, meant, put, put_buffer}
use Rattle.writer_state.specs.Results.{written}
use Rattle.writer_state.specs.internal.Found.{FoundAnswer, found_answer, none_at, found_under, found_octets}
use Rattle.writer_state.specs.internal.Tags.{TagAnswer, fits, tag_kind}
use Rattle.writer_state.specs.declared.State.{State}
use Rattle.writer_state.specs.declared.Tagged.{Tagged}
use Rattle.writer_state.specs.declared.Written.{Written}
use Rattle.writer_state.proofs.ByOctets.{by_map, by_accepted, by_loaded}
use Rattle.writer_state.proofs.CallResults.{number_over}
use Rattle.writer_state.proofs.Conditions.{put_met}
use Rattle.writer_state.proofs.SoundStates.{sound_within, sound_few}
use Rattle.writer_state.proofs.TagKinds.{put_kept, put_rest, tag_read, tag_narrow}
use Rattle.writer_put.specs.internal.Found.{later_refusal, put_known, buffer_known, put_found, buffer_found, Puttable}

abbrev refusal_in : FoundAnswer → ℕ
refusal_in k = k.tagged.refusal

-- `reads` says of a kind whether the contents may be a value of it.
module _ (s : State) (tag wanted : ℕ) (reads : ℕ → Bool) (xs d : List ℕ) where
  abbrev agrees_in : Table → Bool
  agrees_in t = fits wanted (kind_number (meant t s tag))

  abbrev reads_in : Table → Bool
  reads_in t = reads (kind_number (meant t s tag))

  abbrev size : ℕ
  size = length (field tag xs)

  abbrev under : Table → FoundAnswer
  under t = found_under t s (length d) tag wanted

  abbrev putting : FoundAnswer → Written
  putting k = put_found k s tag (reads k.tagged.kind) xs

  abbrev buffering : FoundAnswer → List ℕ
  buffering k = buffer_found k s tag (reads k.tagged.kind) xs d

  -- ---- the two results

  pub known_put : (k : Tagged) {r w : Written} → r ≡ put_known s k.mask tag (reads (kind_number k.kind)) xs → putting (found_answer (Ok k)) ≡ w → r ≡ w
  unfolding put_found
  known_put k p q = p ∙ q

  pub known_buffer : (k : Tagged) {after e : List ℕ} → after ≡ buffer_known s tag (reads (kind_number k.kind)) xs d → buffering (found_answer (Ok k)) ≡ e → after ≡ e
  unfolding buffer_found
  known_buffer k p q = p ∙ q

  pub refused_put : (f : Fault) {w : Written} → putting (found_answer (Err f)) ≡ w → written s (Err f) ≡ w
  unfolding put_found refused_at
  refused_put f q = rw (number_over f.refusal) at q

  pub refused_buffer : (f : Fault) {e : List ℕ} → buffering (found_answer (Err f)) ≡ e → d ≡ e
  unfolding buffer_found
  refused_buffer f q = rw (number_over f.refusal) at q

  -- ---- under a loaded table

  module _ (t : Table) where
    abbrev r : TagAnswer
    r = tag_kind t s (length d) tag wanted

    table_answer : putting (under t) ≡ put t s tag (agrees_in t) (reads_in t) xs (length d)
    unfolding put_found put_known put later_refusal refused_at call_result found_under
    table_answer = go (eqb r.refusal 0) refl
      where
        go : (b : Bool) → eqb r.refusal 0 ≡ b → putting (under t) ≡ put t s tag (agrees_in t) (reads_in t) xs (length d)
        go true q =
            let f = tag_read t s (length d) tag wanted {r = r} refl in
            let z = eqb-true r.refusal 0 q in
            rw (q, put_rest t s tag (length d) (agrees_in t) r.refusal f.refused (reads_in t) size z, f.kind z, f.mask z) refl
        go false q =
            let f = tag_read t s (length d) tag wanted {r = r} refl in
            rw (q, ← put_kept t s tag (length d) (agrees_in t) r.refusal f.refused (reads_in t) size (eqb-false r.refusal 0 q)) (rw q refl)

    table_buffer : buffering (under t) ≡ put_buffer t s tag (agrees_in t) (reads_in t) xs d
    unfolding buffer_found buffer_known put_buffer later_refusal buffer_after found_under
    table_buffer = go (eqb r.refusal 0) refl
      where
        go : (b : Bool) → eqb r.refusal 0 ≡ b → buffering (under t) ≡ put_buffer t s tag (agrees_in t) (reads_in t) xs d
        go true q =
            let f = tag_read t s (length d) tag wanted {r = r} refl in
            let z = eqb-true r.refusal 0 q in
            rw (q, put_rest t s tag (length d) (agrees_in t) r.refusal f.refused (reads_in t) size z, f.kind z) refl
        go false q =
            let f = tag_read t s (length d) tag wanted {r = r} refl in
            rw (q, ← put_kept t s tag (length d) (agrees_in t) r.refusal f.refused (reads_in t) size (eqb-false r.refusal 0 q)) (rw q refl)

    pub table_put : {f : FoundAnswer} → f ≡ under t → putting f ≡ put t s tag (agrees_in t) (reads_in t) xs (length d)
    table_put e = ap putting e ∙ table_answer

    pub table_after : {f : FoundAnswer} → f ≡ under t → buffering f ≡ put_buffer t s tag (agrees_in t) (reads_in t) xs d
    table_after e = ap buffering e ∙ table_buffer

    table_puttable : 1 ≤ wanted → r.refusal ≡ 0 → Puttable s tag (length d)
    table_puttable low z =
        let f = tag_read t s (length d) tag wanted {r = r} refl in
        let m = put_met t s tag (length d) (agrees_in t) true 0 (sym f.refused ∙ z) in
        let l = sound_within s m.good in
        let same = m.same in
        record { narrow = tag_narrow t s (length d) tag wanted low refl z; few = sound_few s m.good; within = omega arith }

    pub table_may : {f : FoundAnswer} → f ≡ under t → 1 ≤ wanted → f.tagged.refusal ≡ 0 → Puttable s tag (length d)
    unfolding found_under
    table_may e low z = table_puttable low (sym (ap refusal_in e) ∙ z)

  -- ---- under the octets of a table

  module _ (octets : List ℕ) {k : FoundAnswer} (e : k ≡ found_octets octets s (length d) tag wanted) where
    pub octets_put : put_found k s tag (reads k.tagged.kind) xs
        ≡ by_octets (usable s (length d)) 10 octets (λ (t : Table). put t s tag (agrees_in t) (reads_in t) xs (length d)) (refused_at s)
    unfolding found_octets
    octets_put =
        ap putting e
        ∙ by_map putting (usable s (length d)) 10 octets under none_at (λ (t : Table). put t s tag (agrees_in t) (reads_in t) xs (length d)) (refused_at s)
        (λ z. omega arith) table_answer (λ n place ne. unfold put_found none_at in rw (ne_eqb n 0 ne) refl)

    pub octets_after : buffer_found k s tag (reads k.tagged.kind) xs d
        ≡ by_octets (usable s (length d)) 10 octets (λ (t : Table). put_buffer t s tag (agrees_in t) (reads_in t) xs d) (λ (reason place : ℕ). d)
    unfolding found_octets
    octets_after =
        ap buffering e
        ∙ by_map buffering (usable s (length d)) 10 octets under none_at (λ (t : Table). put_buffer t s tag (agrees_in t) (reads_in t) xs d)
        (λ (reason place : ℕ). d) (λ z. omega arith) table_buffer (λ n place ne. unfold buffer_found none_at in rw (ne_eqb n 0 ne) refl)

    pub octets_may : 1 ≤ wanted → k.tagged.refusal ≡ 0 → Puttable s tag (length d)
    unfolding found_octets found_under
    octets_may low z =
        let y = by_accepted refusal_in (usable s (length d)) 10 octets under none_at (λ z. omega arith) (λ n place. unfold none_at in refl)
        (sym (ap refusal_in e) ∙ z) in
        let f = e ∙ by_loaded (usable s (length d)) 10 octets under none_at y.0 y.1 in
        table_puttable (load octets).table low (sym (ap refusal_in f) ∙ z)

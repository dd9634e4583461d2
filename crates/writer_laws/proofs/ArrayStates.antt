-- The states that runs reach are those of their arrays.
use Prim.Native.Nat.{ℕ, zero, suc, ◌+◌, ◌≤◌}
use native.Mathlib.Omega.{arith}
use mathlib.Core.Path.{◌≡◌, refl, sym, ◌∙◌}
use mathlib.Core.Bool.{Bool, true, false, cond}
use mathlib.Core.List.{List, [], ◌∷◌}
use lib.ListN.{length, set, drop}
use Rattle.std.proofs.lemmas.List.{drop-set-lt}
use lib.Dec.{eqb, leb}
use borrow.Author.Tests.{eqb-true, eq-eqb, le-leb}
use Rattle.octets.proofs.Bools.{and_left, and_right, and_both}
use Rattle.table.specs.Entry.{kind_number, inner_of}
use Rattle.table.specs.declared.Table.{Table}
use Rattle.writer_state.specs.Answer.{answer, writer}
use Rattle.writer_state.specs.ByOctets.{usable, usable_for}
use Rattle.writer_state.specs.Call.{Call, put_uint, put_int, put_octets, open_field, close_field}
use Rattle.writer_state.specs.Calls.{call_result, begun, started, start_refusal, meant, mask_with, masked, back, put, deeper, opening, open_refusal, outer, closing, close_refusal, closing_part}
use Rattle.writer_state.specs.declared.State.{State}
use Rattle.writer_state.proofs.Conditions.{open_met}
use Rattle.writer_state.proofs.Tags.{narrow}
use Rattle.writer_words.specs.Words.{at_most, untagged, words_of, state_of, used_after}
use Rattle.writer_words.proofs.Arrays.{untagged_length, words_length, state_words_lem, used_words}
use Rattle.writer_laws.specs.Given.{Given}
use Rattle.writer_laws.specs.Run.{Run, start, next}
use Rattle.writer_laws.proofs.Accepted.{run_reached}
use Rattle.writer_laws.proofs.Reached.{Reached, reached_sound}

-- ---- every call can use a state that a run reaches

module _ (t : Table) (revision number : ℕ) (lent : List ℕ) (s : State) (d : List ℕ) (g : Given) (r : Reached t revision number lent s d g) where
  same_size : eqb (length d) s.length ≡ true
  same_size = eq-eqb (length d) s.length (r.filled.size ∙ sym r.size)

  pub reached_usable : (c : Call) → usable_for s d c ≡ true
  unfolding usable_for usable
  reached_usable (put_uint tag v) = rw (same_size, reached_sound t revision number lent s d g r) refl
  reached_usable (put_int tag z) = rw (same_size, reached_sound t revision number lent s d g r) refl
  reached_usable (put_octets tag xs) = rw (same_size, reached_sound t revision number lent s d g r) refl
  reached_usable (open_field tag) = reached_sound t revision number lent s d g r
  reached_usable close_field = rw (same_size, reached_sound t revision number lent s d g r) refl

-- ---- its tags are small, those that are not in use too

most_set : (limit : ℕ) (xs : List ℕ) (i x : ℕ) → x ≤ limit → at_most limit xs ≡ true → at_most limit (set xs i x) ≡ true
unfolding at_most
most_set limit [] i x h e = refl
most_set limit (y ∷ ys) zero x h e = and_both (leb x limit) (at_most limit ys) (le-leb x limit h) (and_right (leb y limit) (at_most limit ys) e)
most_set limit (y ∷ ys) (suc i) x h e =
    and_both (leb y limit) (at_most limit (set ys i x)) (and_left (leb y limit) (at_most limit ys) e)
    (most_set limit ys i x h (and_right (leb y limit) (at_most limit ys) e))

unfoldable small_tags : State → Bool
small_tags s = at_most 65535 s.tags

-- The state after a call is the one before it or the one that an accepted call makes.
either : (refusal : ℕ) (before after : State) → small_tags before ≡ true → (refusal ≡ 0 → small_tags after ≡ true)
    → small_tags (call_result refusal before after).state ≡ true
unfolding call_result
either refusal before after b a = go (eqb refusal 0) refl
  where
    go : (z : Bool) → eqb refusal 0 ≡ z → small_tags (cond z after before) ≡ true
    go true e = a (eqb-true refusal 0 e)
    go false e = b

none_small : (len revision number : ℕ) → small_tags (begun len revision number) ≡ true
unfolding small_tags begun at_most
none_small len revision number = refl

started_small : (t : Table) (revision number len : ℕ) → small_tags (started t revision number len).state ≡ true
unfolding started
started_small t revision number len =
    either (start_refusal t revision number len) (begun 0 0 0) (begun len revision number) (none_small 0 0 0) (λ z. none_small len revision number)

module _ (t : Table) (s : State) (d : List ℕ) (e : small_tags s ≡ true) where
  put_small : (tag : ℕ) (agrees reads : Bool) (contents : List ℕ) → small_tags (put t s tag agrees reads contents (length d)).state ≡ true
  unfolding put small_tags masked back
  put_small tag agrees reads contents = either _ s _ e (λ z. e)

  open_small : (tag : ℕ) → small_tags (opening t s tag).state ≡ true
  unfolding opening
  open_small tag =
      let m = meant t s tag in
      let agrees = eqb (kind_number m) 5 in
      either (open_refusal t s tag agrees) s (deeper (masked s (mask_with t s tag)) tag (inner_of m)) e
      (λ z.
      let five : kind_number m ≡ 5 = eqb-true (kind_number m) 5 (open_met t s tag agrees z).agreed in
      let h = narrow t s tag (λ k. omega arith) in
      unfold small_tags deeper masked in most_set 65535 s.tags s.opened tag (omega arith) e)

  call_small : (c : Call) → small_tags (answer t s d c).state ≡ true
  unfolding answer closing
  call_small (put_uint tag v) = put_small tag _ _ _
  call_small (put_int tag z) = put_small tag _ _ _
  call_small (put_octets tag xs) = put_small tag _ _ _
  call_small (open_field tag) = open_small tag
  call_small close_field =
      either (close_refusal t s (length d)) s (outer (back s (length (closing_part s)))) e (λ z. unfold small_tags outer back in e)

-- ---- a call changes no tag but one in use

unfoldable Unused : State → State → Type 0
Unused s s' = drop s'.opened s'.tags ≡ drop s'.opened s.tags

unused_either : (refusal : ℕ) (before after : State) → Unused before after → Unused before (call_result refusal before after).state
unfolding call_result
unused_either refusal before after e = go (eqb refusal 0)
  where
    go : (z : Bool) → Unused before (cond z after before)
    go true = e
    go false = unfold Unused in refl

module _ (t : Table) (s : State) (d : List ℕ) where
  unused_put : (tag : ℕ) (agrees reads : Bool) (contents : List ℕ) → Unused s (put t s tag agrees reads contents (length d)).state
  unfolding put
  unused_put tag agrees reads contents = unused_either _ s _ (unfold Unused masked back in refl)

  call_unused : (c : Call) → Unused s (answer t s d c).state
  unfolding answer opening closing
  call_unused (put_uint tag v) = unused_put tag _ _ _
  call_unused (put_int tag z) = unused_put tag _ _ _
  call_unused (put_octets tag xs) = unused_put tag _ _ _
  call_unused (open_field tag) =
      let m = meant t s tag in
      unused_either _ s (deeper (masked s (mask_with t s tag)) tag (inner_of m))
      (unfold Unused deeper masked in drop-set-lt (s.opened + 1) s.tags s.opened tag (omega arith))
  call_unused close_field = unused_either _ s (outer (back s (length (closing_part s)))) (unfold Unused outer back in refl)

-- ---- the array of such a state

run_small : (t : Table) (revision number : ℕ) (lent : List ℕ) (s : State) (d : List ℕ) (g : Given) → Run writer t revision number lent s d g → small_tags s ≡ true
run_small t revision number lent s d g (start e) = started_small t revision number (length lent)
run_small t revision number lent s d g (next before b f run c h e) =
    call_small t before b (run_small t revision number lent before b f run) c

-- It gives the state back.
pub record ArrayAgrees (s : State) : Type 0 where
  pub front : length (untagged s) ≡ 27
  pub long : length (words_of s) ≡ 34
  pub same : state_of (words_of s) ≡ s

pub run_state : (t : Table) (revision number : ℕ) (lent : List ℕ) (s : State) (d : List ℕ) (g : Given) → Run writer t revision number lent s d g
    → ArrayAgrees s
run_state t revision number lent s d g run =
    let r = run_reached t revision number lent s d g run in
    let l = r.slots in
    let few = r.few in
    let count = r.count in
    let opened : s.opened ≤ 7 = omega arith in
    let small : at_most 65535 s.tags ≡ true = unfold small_tags in run_small t revision number lent s d g run in
    record {
      front = untagged_length s l.number_slots l.mask_slots l.mark_slots;
      long = words_length s l.number_slots l.mask_slots l.mark_slots l.tag_slots opened small;
      same = state_words_lem s l.number_slots l.mask_slots l.mark_slots l.tag_slots opened small;
    }

-- The array after a call on the array of a state that a run reaches is that of the state after the call.
pub call_array : (t : Table) (revision number : ℕ) (lent : List ℕ) (s : State) (d : List ℕ) (g : Given) → Run writer t revision number lent s d g → (c : Call)
    → used_after (words_of s) (answer t s d c).state ≡ words_of (answer t s d c).state
call_array t revision number lent s d g run c =
    let a = run_state t revision number lent s d g run in
    used_words s (answer t s d c).state a.front a.long (unfold Unused in call_unused t s d c)

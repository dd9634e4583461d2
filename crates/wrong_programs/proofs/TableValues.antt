-- Programs in the place of the calls under a loaded table, `check_loaded` and its like of message_calls, that leave out the test of the
-- table value or of the revision, and in the place of table_index::valid, which is the test of a table value, that leave out a part of it.
use Prim.Native.Nat.{ℕ}
use mathlib.Core.Path.{◌≡◌, ap, fun_ext}
use mathlib.Core.Bool.{true, ◌&&◌, and-false}
use mathlib.Core.List.{List}
use lib.ListN.{length}
use Rattle.octets.proofs.Bools.{and_left, and_right}
use Rattle.reading.specs.declared.Checked.{Checked}
use Rattle.table.specs.Schema.{is_revision}
use Rattle.table.specs.Valid.{valid}
use Rattle.table.specs.declared.Table.{Table}
use Rattle.message_calls.specs.declared.Found.{Found}
use Rattle.message_calls.specs.declared.Shortened.{Shortened}
use Rattle.message_calls.specs.Calls.{with_table}
use Rattle.wrong_programs.specs.Kinds as kinds
use Rattle.wrong_programs.specs.Kinds.{refusal_of}
use Rattle.wrong_programs.specs.Valid as validity
use Rattle.wrong_programs.specs.Valid.{ValidCall}
use Rattle.wrong_programs.specs.TableValues.{ValueCall, fits, check, short, lookup, lookup_last, shorten}
use Rattle.wrong_programs.specs.Faults.{BadTableRuledOut, BadRevisionRuledOut}
use Rattle.wrong_programs.proofs.Faults.{equal, holds, bad_table_lem, bad_revision}
use Rattle.wrong_programs.proofs.BehindTheCheck.{check_tested, short_checked, lookup_checked, last_checked, shorten_checked}

words_64 : (x : ValueCall) → length x.value.table.words ≡ 64
unfolding fits kinds.table kinds.array
words_64 x = equal (length x.value.table.words) 64 (λ e. simp (e, and-false) at x.in_range)

abbrev table : ValueCall → Table
table x = x.value.table

abbrev revision : ValueCall → ℕ
revision x = x.value.revision

abbrev checked_refusal : Checked → ℕ
checked_refusal r = r.refusal

abbrev found_refusal : Found → ℕ
found_refusal r = r.refusal

abbrev shortened_refusal : Shortened → ℕ
shortened_refusal r = r.refusal

-- What they have in common: what they accept, the check accepts.
module _ {B : Type 0} {right : ValueCall → B} (refusal : B → ℕ) (only : (x : ValueCall) → refusal (right x) ≡ 0 → (check x).refusal ≡ 0) where
  tested : (x : ValueCall) → refusal (right x) ≡ 0 → valid (table x) && is_revision (revision x) ≡ true
  unfolding check
  tested x e = check_tested (table x) (revision x) x.value.number x.value.message (only x e)

  tables : BadTableRuledOut right refusal table
  tables = bad_table_lem refusal table words_64 (λ x e. and_left (valid (table x)) (is_revision (revision x)) (tested x e))

  revisions : BadRevisionRuledOut right refusal revision
  revisions = bad_revision refusal revision (λ x e. and_right (valid (table x)) (is_revision (revision x)) (tested x e))

short_only : (x : ValueCall) → refusal_of (short x) ≡ 0 → (check x).refusal ≡ 0
unfolding check short
short_only x e = short_checked (table x) (revision x) x.value.number x.value.message (holds (short x) e)

lookup_only : (x : ValueCall) → (lookup x).refusal ≡ 0 → (check x).refusal ≡ 0
unfolding check lookup
lookup_only x e = lookup_checked (table x) (revision x) x.value.number x.value.message x.value.tag x.value.k e

last_only : (x : ValueCall) → (lookup_last x).refusal ≡ 0 → (check x).refusal ≡ 0
unfolding check lookup_last
last_only x e = last_checked (table x) (revision x) x.value.number x.value.message x.value.tag e

shorten_only : (x : ValueCall) → (shorten x).refusal ≡ 0 → (check x).refusal ≡ 0
unfolding check shorten
shorten_only x e = shorten_checked (table x) (revision x) x.value.number x.value.message x.value.out e

-- It accepts a table value that the loader cannot give.
pub check_accepts_bad_table : BadTableRuledOut check checked_refusal table
check_accepts_bad_table = tables checked_refusal (λ x e. e)

pub short_accepts_bad_table : BadTableRuledOut short refusal_of table
short_accepts_bad_table = tables refusal_of short_only

pub lookup_accepts_bad_table : BadTableRuledOut lookup found_refusal table
lookup_accepts_bad_table = tables found_refusal lookup_only

pub lookup_last_accepts_bad_table : BadTableRuledOut lookup_last found_refusal table
lookup_last_accepts_bad_table = tables found_refusal last_only

pub shorten_accepts_bad_table : BadTableRuledOut shorten shortened_refusal table
shorten_accepts_bad_table = tables shortened_refusal shorten_only

pub valid_accepts_bad_table : BadTableRuledOut validity.valid refusal_of (λ (x : ValidCall). x.value)
unfolding validity.valid kinds.table kinds.array
valid_accepts_bad_table =
    bad_table_lem refusal_of (λ (x : ValidCall). x.value) (λ x. equal (length x.value.words) 64 (λ e. simp (e, and-false) at x.in_range))
    (λ x e. holds (valid x.value) e)

-- It accepts a number that is no revision.
pub check_accepts_other_revision : BadRevisionRuledOut check checked_refusal revision
check_accepts_other_revision = revisions checked_refusal (λ x e. e)

pub short_accepts_other_revision : BadRevisionRuledOut short refusal_of revision
short_accepts_other_revision = revisions refusal_of short_only

pub lookup_accepts_other_revision : BadRevisionRuledOut lookup found_refusal revision
lookup_accepts_other_revision = revisions found_refusal lookup_only

pub lookup_last_accepts_other_revision : BadRevisionRuledOut lookup_last found_refusal revision
lookup_last_accepts_other_revision = revisions found_refusal last_only

pub shorten_accepts_other_revision : BadRevisionRuledOut shorten shortened_refusal revision
shorten_accepts_other_revision = revisions shortened_refusal shorten_only

-- Behind the loader a program that meets one of these contracts meets that of the entry that is given the table's octets. So what is ruled
-- out for that entry is ruled out for these.
pub behind_the_loader : {A : Type 0} (program right : Table → A) (octets message : List ℕ) (refuse : ℕ → ℕ → A)
    → ((t : Table) → program t ≡ right t) → with_table octets message program refuse ≡ with_table octets message right refuse
behind_the_loader {A} program right octets message refuse meets = ap (λ (under : Table → A). with_table octets message under refuse) (fun_ext meets)

-- The calls of this crate as calls with the same prologue.
use Prim.Native.Nat.{ℕ}
use mathlib.Core.Bool.{false}
use mathlib.Core.List.{List}
use Rattle.reading.specs.Checks as answers
use Rattle.table.specs.Schema.{Schema}
use Rattle.table.specs.declared.Table.{Table}
use Rattle.message_calls.specs.Check.{check_under, check}
use Rattle.message_calls.specs.Short.{short_under, short}
use Rattle.message_calls.specs.Shorten as shortens
use Rattle.message_calls.specs.Shorten.{answer, buffer}
use Rattle.message_calls.specs.internal.ShortenUnder.{shorten_under, buffer_under}
use Rattle.message_calls.specs.Lookup as lookups
use Rattle.message_calls.specs.internal.LookupUnder.{look_under}
use Rattle.message_calls.specs.declared.outermost.Occurrence.{Occurrence}
use Rattle.message_calls.proofs.CheckAnswers as checks
use Rattle.message_calls.proofs.ShortAnswers as shorts
use Rattle.message_calls.proofs.ShortenAnswers as shortened
use Rattle.message_calls.proofs.LookupAnswers as looks
use Rattle.message_calls.proofs.Prologue.{Call}

module _ (revision n : ℕ) (s : List ℕ) where
  pub checking : Call s revision (λ (sc : Schema). check_under sc n s) (λ (t : Table). check t revision n s) answers.refusal
  checking =
      record {
        long = λ t h. checks.too_long t revision n s h;
        bad = λ t h v. checks.bad_table t revision n s h v;
        good = λ t h v sc e. checks.under-valid t revision n s h v sc e;
      }

  pub shortness : Call s revision (λ (sc : Schema). short_under sc n s) (λ (t : Table). short t revision n s) (λ reason place. false)
  shortness =
      record {
        long = λ t h. shorts.too-long-not-short t revision n s h;
        bad = λ t h v. shorts.bad-table-not-short t revision n s h v;
        good = λ t h v sc e. shorts.short-under t revision n s h v sc e;
      }

  pub shortening : (out : List ℕ)
      → Call s revision (λ (sc : Schema). shorten_under sc n s out) (λ (t : Table). answer t revision n s out) shortens.refusal
  shortening out =
      record {
        long = λ t h. (shortened.too-long-refused t revision n s out h).0;
        bad = λ t h v. (shortened.bad-table-refused t revision n s out h v).0;
        good = λ t h v sc e. shortened.answer-under t revision sc e n s out h v;
      }

  pub buffering : (out : List ℕ)
      → Call s revision (λ (sc : Schema). buffer_under sc n s out) (λ (t : Table). buffer t revision n s out) (λ reason place. out)
  buffering out =
      record {
        long = λ t h. (shortened.too-long-refused t revision n s out h).1;
        bad = λ t h v. (shortened.bad-table-refused t revision n s out h v).1;
        good = λ t h v sc e. shortened.buffer-under t revision sc e n s out h v;
      }

  pub looking : (tag : ℕ) (which : Occurrence)
      → Call s revision (λ (sc : Schema). look_under sc n s tag which) (λ (t : Table). lookups.answer t revision n s tag which) lookups.refusal
  looking tag which =
      record {
        long = λ t h. looks.too-long-refused t revision n s tag which h;
        bad = λ t h v. looks.bad-table-refused t revision n s tag which h v;
        good = λ t h v sc e. looks.answer-under t revision sc e n s h v tag which;
      }

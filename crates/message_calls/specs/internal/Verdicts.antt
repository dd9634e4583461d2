-- The verdict that the private function `traverse` returns: a reading's refusal, or the counts of its cut.
use Rattle.std.specs.Prelude.{ℕ, ◌+◌, Result, Ok, Err}
use Rattle.reading.specs.Refusals.{number}
use Rattle.reading.specs.declared.Fault.{Fault}
use Rattle.reading.specs.Reading.{Reading}
use Rattle.reading.specs.internal.Verdicts.{verdict_of}
use Rattle.reading.specs.internal.Verdicts.{Verdict}
use Rattle.reading.specs.internal.Verdicts.{Accepted, Refused}
use Rattle.message.specs.Cut.{Cut, end, leaf, nested, depth}
use Rattle.message_calls.specs.declared.Summary.{Summary}

-- The count of fields of a cut, at all depths.
unfoldable pub fields : Cut → ℕ
fields end = 0
fields (leaf tag part contents rest) = 1 + fields rest
fields (nested tag part inside rest) = 1 + fields inside + fields rest

abbrev pub verdict : Reading Cut → Verdict
verdict r = verdict_of fields depth r

-- The verdict by what `traverse` returns.
abbrev pub returned : Result Summary Fault → Verdict
returned (Ok c) = Accepted c.counts.fields c.counts.depth
returned (Err f) = Refused (number f.refusal) f.place

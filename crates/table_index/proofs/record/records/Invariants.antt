-- `records` stores the words in the order of the records, up to the first that is not well-formed.
use Rattle.table_index.proofs.LoadLaws.{RecordsLoop}
use Rattle.table_index.proofs.record.records.Given as goal

abbrev pub invariant-loop-n : goal.invariant-loop-n
invariant-loop-n l = RecordsLoop l.s l.n l.words l.at

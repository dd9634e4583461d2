-- The text by what the private functions of the program return.
use Rattle.std.specs.Prelude.{ℕ, List, Result, Ok, Err}
use Rattle.std.proofs.Common.{Bor}
use Rattle.reading.specs.Refusals.{number}
use Rattle.reading.specs.declared.Fault.{Fault}
use Rattle.table.specs.declared.Table.{Table}
use Rattle.message_frame.specs.Frame.{frame_read}
use Rattle.text_message.specs.Text.{refusal_text, message_text}
use Rattle.text_show.specs.Output.{second_text}

-- By the message of the second frame, under a table.
abbrev pub text_under : Table → Result (Bor (List ℕ)) Fault → List ℕ
text_under t (Ok message) = message_text t message.now
text_under t (Err f) = refusal_text (number f.refusal) f.place

-- By the table and the octets after the first frame.
abbrev pub text_after : Result (Table × Bor (List ℕ)) Fault → List ℕ
text_after (Ok (t, rest)) = second_text t rest.now (frame_read rest.now)
text_after (Err f) = refusal_text (number f.refusal) f.place

-- By the table and the message.
abbrev pub text_of : Result (Table × Bor (List ℕ)) Fault → List ℕ
text_of (Ok (t, message)) = message_text t message.now
text_of (Err f) = refusal_text (number f.refusal) f.place

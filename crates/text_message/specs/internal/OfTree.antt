-- What the private functions `depth_and_tag` and `write` print and what `direct` counts. `write` and `direct` expect an accepted message. `levels`
-- says how many messages deep it may be, itself included: its depth is 9 - levels, so the outermost message, with 8 levels, has depth 1.
use Rattle.std.specs.Prelude.{ℕ, ◌-◌, List, [], ◌++◌}
use Rattle.table.specs.Schema.{Schema}
use Rattle.message.specs.Cut.{Cut}
use Rattle.message.specs.Tree.{Tree, tree}
use Rattle.reading.specs.Reading.{Reading, accepted, refused, depth_limit}
use Rattle.message.specs.Reading.{message_from}
use Rattle.text_window.specs.Ascii.{ascii}
use Rattle.text_window.specs.Digits.{decimal, four_digits}
use Rattle.text_message.specs.Text.{direct, lines}

-- The start of a field's line, up to its kind: the depth of its message and its tag.
unfoldable pub depth_and_tag : ℕ → ℕ → List ℕ
depth_and_tag depth tag = decimal depth ++ ascii " " ++ four_digits tag ++ ascii " "

-- f of the tree of a message that is accepted, and `other` for one that is refused.
unfoldable pub of_tree : {A : Type 0} → (Tree → A) → A → Schema → ℕ → Reading Cut → A
of_tree f other sc n (accepted cut) = f (tree sc n cut)
of_tree f other sc n (refused refusal place) = other

-- The count of a message's direct fields.
unfoldable pub direct_of : Schema → ℕ → List ℕ → ℕ
direct_of sc n s = of_tree direct 0 sc n (message_from sc depth_limit n 0 0 s)

-- The lines of a message.
unfoldable pub lines_of : Schema → ℕ → ℕ → List ℕ → List ℕ
lines_of sc levels n s = of_tree (lines (9 - levels)) [] sc n (message_from sc levels n 0 0 s)

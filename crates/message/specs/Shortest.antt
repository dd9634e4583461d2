-- The shortest octets that read as a tree: every number, tag and length in its least form.
use Rattle.std.specs.Prelude.{ℕ, List, [], ◌++◌, length}
use Rattle.octets.specs.Number.{least_uint}
use Rattle.octets.specs.Signed.{least_int}
use Rattle.octets.specs.Control.{least_control}
use Rattle.message.specs.Tree.{Tree, end, leaf, nested, Value, raw, uint, int, string, text}

-- The least contents of a value.
unfoldable pub least_contents : Value → List ℕ
least_contents (raw s) = s
least_contents (uint v) = least_uint v
least_contents (int z) = least_int z
least_contents (string s) = s
least_contents (text s) = s

-- A field with its least control part, whose length counts the contents as they are written.
unfoldable pub field : ℕ → List ℕ → List ℕ
field tag contents = least_control tag (length contents) ++ contents

-- The shortest form of a tree.
unfoldable pub shortest : Tree → List ℕ
shortest end = []
shortest (leaf tag value rest) = field tag (least_contents value) ++ shortest rest
shortest (nested tag inside rest) = field tag (shortest inside) ++ shortest rest

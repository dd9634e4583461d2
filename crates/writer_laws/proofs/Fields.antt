-- What is given at each level reads back, and still does after one more field.
use Prim.Native.Nat.{ℕ, suc, ◌-◌, ◌≤◌, ◌<◌}
use native.Mathlib.Omega.{arith}
use mathlib.Core.Path.{◌≡◌, refl, ap, ◌∙◌}
use mathlib.Core.Bool.{false}
use mathlib.Core.List.{List, ◌++◌, append_assoc}
use Rattle.table.specs.Entry.{inner_of}
use Rattle.table.specs.Schema.{Schema}
use Rattle.table.specs.declared.Meaning.TheVariants.{Message}
use Rattle.message.specs.Single.{repeats}
use Rattle.message.specs.Tree.{Tree, end}
use Rattle.message.specs.Shortest.{shortest}
use Rattle.writer_laws.specs.Given.{Given, message, opened, on_fields, tags_of, tags_given, open_fields, innermost}
use Rattle.writer_laws.specs.Written.{written}
use Rattle.writer_laws.proofs.ReadsBack.{ReadsBack, reads_end}

-- One more field changes neither which fields are open nor the number of the innermost message.
pub same_open : (f : Tree → Tree) (g : Given) → open_fields (on_fields f g) ≡ open_fields g
unfolding open_fields on_fields
same_open f (message w) = refl
same_open f (opened tag w around) = refl

pub same_innermost : (sc : Schema) (number : ℕ) (f : Tree → Tree) (g : Given) → innermost sc number (on_fields f g) ≡ innermost sc number g
unfolding innermost on_fields
same_innermost sc number f (message w) = refl
same_innermost sc number f (opened tag w around) = refl

-- A field that is opened is a message of the number that the table gives.
pub opened_innermost : (sc : Schema) (number tag m : ℕ) (w : Tree) (g : Given) → sc.means (innermost sc number g) tag ≡ Message m
    → innermost sc number (opened tag w g) ≡ m
unfolding innermost inner_of
opened_innermost sc number tag m w g e = ap inner_of e

-- The octets of one more field stand before all that are written.
pub written_before : (xs : List ℕ) (f : Tree → Tree) → ((w : Tree) → shortest (f w) ≡ xs ++ shortest w) → (g : Given)
    → written (on_fields f g) ≡ xs ++ written g
unfolding written on_fields
written_before xs f h (message w) = h w
written_before xs f h (opened tag w around) = ap (λ (x : List ℕ). x ++ written around) (h w) ∙ append_assoc xs (shortest w) (written around)

module _ (sc : Schema) (number : ℕ) where
  -- What holds of a field that is open: its tag is that of a message and repeats none around it, and its fields so far read back as such a message.
  pub record OpenReads (tag : ℕ) (w : Tree) (around : Given) : Type 0 where
    pub narrow : tag < 65536
    pub kind : sc.means (innermost sc number around) tag ≡ Message (innermost sc number (opened tag w around))
    pub once : repeats sc (innermost sc number around) (tags_given around) tag ≡ false
    pub reads : ReadsBack sc (8 - open_fields (opened tag w around)) (innermost sc number (opened tag w around)) w

  -- The fields given at every level read back.
  unfoldable pub AllRead : Given → Type 0
  AllRead (message w) = ReadsBack sc 8 number w
  AllRead (opened tag w around) = OpenReads tag w around × AllRead around

  pub read_more : (f : Tree → Tree) (g : Given)
      → ((w : Tree) → tags_of w ≡ tags_given g → ReadsBack sc (8 - open_fields g) (innermost sc number g) w
      → ReadsBack sc (8 - open_fields g) (innermost sc number g) (f w))
      → AllRead g → AllRead (on_fields f g)
  unfolding AllRead on_fields tags_given open_fields innermost
  read_more f (message w) h r = h w refl r
  read_more f (opened tag w around) h r =
      (record { narrow = r.0.narrow; kind = r.0.kind; once = r.0.once; reads = h w refl r.0.reads }, r.1)

  -- A field that is opened has no fields yet.
  pub read_opened : (tag : ℕ) (g : Given) → tag < 65536 → (m : ℕ) → sc.means (innermost sc number g) tag ≡ Message m
      → repeats sc (innermost sc number g) (tags_given g) tag ≡ false → open_fields g ≤ 6 → AllRead g → AllRead (opened tag end g)
  unfolding AllRead open_fields innermost inner_of
  read_opened tag g h m e o k r = (
    record {
      narrow = h;
      kind = rw e refl;
      once = o;
      reads = reads_end sc (8 - suc (open_fields g)) (inner_of (sc.means (innermost sc number g) tag)) (omega arith);
    },
    r,
  )

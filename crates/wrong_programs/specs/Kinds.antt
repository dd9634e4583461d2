-- Kinds of wrong programs, for any public function: A is the type of its arguments, B that of its answer.
use Rattle.std.specs.Prelude.{ℕ, ◌≡◌, Bool, true, cond, ◌&&◌, List, [], ◌∷◌, length, T, eqb, ltb}
use Rattle.table.specs.declared.Table.{Table}

-- No program of a kind meets the contract that its answer is `right`.
unfoldable pub RuledOut : {A B : Type 0} → ((A → B) → Type 0) → (A → B) → Type 0
RuledOut {A} {B} Kind right = (program : A → B) → ((x : A) → program x ≡ right x) → Kind program → ⊥

-- In the kinds below `when` says for which calls a program goes wrong: for all of them, or for those that have a property.
unfoldable pub always : {A : Type 0} → A → Type 0
always x = Unit {0}

-- The calls whose answer under the contract has a part that is `a`: with refusal number 0, the calls that the contract accepts.
abbrev pub due : {A B C : Type 0} → (A → B) → (B → C) → C → A → Type 0
due right part a x = part (right x) ≡ a

-- The refusal of a function that returns only whether it accepts.
abbrev pub refusal_of : Bool → ℕ
refusal_of b = cond b 0 1

-- The calls that the contract rejects.
abbrev pub rejected_by : {A B : Type 0} → (A → B) → (B → ℕ) → A → Type 0
rejected_by right refusal x = refusal (right x) ≡ 0 → ⊥

-- The program rejects the call. `refusal` is the refusal number in an answer.
unfoldable pub Rejects : {A B : Type 0} → (B → ℕ) → (A → Type 0) → (A → B) → Type 0
Rejects {A} refusal when program = (x : A) → when x → refusal (program x) ≡ 0 → ⊥

-- The program accepts the call.
unfoldable pub Accepts : {A B : Type 0} → (B → ℕ) → (A → Type 0) → (A → B) → Type 0
Accepts {A} refusal when program = (x : A) → when x → refusal (program x) ≡ 0

-- The program accepts at least one call that has the property. Nothing is said of the others.
unfoldable pub AcceptsSome : {A B : Type 0} → (B → ℕ) → (A → Type 0) → (A → B) → Type 0
AcceptsSome {A} refusal when program = (x : A) × when x × (refusal (program x) ≡ 0)

-- A part of the answer is what `invented` says. Nothing is said of the other parts.
unfoldable pub Invents : {A B C : Type 0} → (B → C) → (A → C) → (A → Type 0) → (A → B) → Type 0
Invents {A} part invented when program = (x : A) → when x → part (program x) ≡ invented x

-- For some call, a part of the answer is not what it has to leave.
unfoldable pub Changes : {A B C : Type 0} → (B → C) → (A → C) → (A → Type 0) → (A → B) → Type 0
Changes {A} part kept when program = (x : A) × when x × (part (program x) ≡ kept x → ⊥)

-- A part of the answer depends only on what `seen` gives of the call.
unfoldable pub SeesOnly : {A B C D : Type 0} → (A → C) → (B → D) → (A → Type 0) → (A → B) → Type 0
SeesOnly {A} seen part when program = (x y : A) → when x → when y → seen x ≡ seen y → part (program x) ≡ part (program y)

-- A part of the answer depends only on another part of it.
unfoldable pub Follows : {A B C D : Type 0} → (B → C) → (B → D) → (A → Type 0) → (A → B) → Type 0
Follows {A} other part when program = (x y : A) → when x → when y → other (program x) ≡ other (program y) → part (program x) ≡ part (program y)

-- The values that a caller can pass: those for which the test `fits` holds.
pub record Given {A : Type 0} (fits : A → Bool) : Type 0 where
  pub value : A
  pub in_range : T (fits value)

-- Whether all numbers of a list are below a limit, and whether there are also n of them.
unfoldable pub below : ℕ → List ℕ → Bool
below limit [] = true
below limit (x ∷ s) = ltb x limit && below limit s

unfoldable pub array : ℕ → ℕ → List ℕ → Bool
array n limit s = eqb (length s) n && below limit s

unfoldable pub octets : List ℕ → Bool
octets s = below 256 s

-- A number of 64 bits, and such numbers.
unfoldable pub word : ℕ → Bool
word n = ltb n 0x10000000000000000

unfoldable pub words : List ℕ → Bool
words s = below 0x10000000000000000 s

-- A table value, as the code has it.
unfoldable pub table : Table → Bool
table t = word t.count && array 64 0x10000000000000000 t.words

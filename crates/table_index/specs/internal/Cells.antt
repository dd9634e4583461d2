-- The index of a field table: 128 cells of 32 bits. A cell holds an entry's key (20 bits), whether its tag is single (1 bit), its kind and inner
-- number as one number (5 bits) and its order in the table (6 bits). The first 64 cells are the heads of as many buckets; the cell 64 + i holds
-- what was the head of its bucket before the entry i. Contracts of calls speak of the schema of a table, not of the index; proofs/IndexLaws.antt
-- shows that an index has the schema of its table.
use Rattle.std.specs.Prelude.{ℕ, zero, suc, ◌+◌, ◌*◌, ◌-◌, ◌/◌, ◌%◌, ◌^◌, min, ◌≡◌, Bool, true, cond, ◌&&◌, List, length, take, drop, get_or, set, eqb, leb, ltb}
use Rattle.table.specs.Entry.{entry}
use Rattle.table.specs.Load.{in_range}
use Rattle.table.specs.Mask.{has_bit, with_bit}
use Rattle.table.specs.Schema.{Schema}
use Rattle.table.specs.Valid.{all_zero}
use Rattle.table.specs.declared.Meaning.{Meaning}
use Rattle.table.specs.declared.Meaning.TheVariants.{Raw, Uint, Int, String, Text, Message}

-- The key of a message number and a tag, and that of the entry in a word. No entry has a number from 16 on, so one key is enough for these.
unfoldable pub key_of : ℕ → ℕ → ℕ
key_of n t = min n 16 * 2 ^ 16 + t

unfoldable pub word_key : ℕ → ℕ
word_key w = key_of (entry w).number (entry w).tag

-- The bucket of a key. Among the factors below 64 that were counted, 45 keeps the chains short both in the bench's full table and in tables whose
-- messages have from 4 to 32 tags in a row.
unfoldable pub bucket_of : ℕ → ℕ
bucket_of key = (key / 2 ^ 16 * 45 + key) % 64

-- The cell of a word that is the i-th of its table. Only the kind 5 has an inner number that is not 0, so the sum tells both.
unfoldable pub cell_of : ℕ → ℕ → ℕ
cell_of w i = ((word_key w * 2 + (entry w).mark) * 32 + ((entry w).kind + (entry w).inner)) * 64 + i

-- A word under a revision. Under revision 1 the mark has no effect, so the word has the mark 0.
unfoldable pub word_under : ℕ → ℕ → ℕ
word_under revision w = cond (eqb revision 2) w (w / 2 ^ 8 * 2 ^ 8)

-- The code of a cell: its kind and inner number as one number. Then the kind for a code.
unfoldable pub code_in : ℕ → ℕ
code_in c = c / 64 % 32

unfoldable pub meaning_of : ℕ → Meaning
meaning_of code =
    cond (eqb code 0) Raw
    (cond (eqb code 1) Uint
    (cond (eqb code 2) Int
    (cond (eqb code 3) String
    (cond (eqb code 4) Text (Message (code - 5))))))

-- Whether the tag of a cell is single.
unfoldable pub single_in : ℕ → Bool
single_in c = eqb (c / 2 ^ 11 % 2) 1

-- The kind in a cell.
unfoldable pub meaning_in : ℕ → Meaning
meaning_in c = meaning_of (code_in c)

-- The order in the table of the entry in a cell.
unfoldable pub order_in : ℕ → ℕ
order_in c = c % 64

-- The next cell of a chain; 0 at its end, which is where the order does not fall.
unfoldable pub next_in : List ℕ → ℕ → ℕ
next_in cells c =
    let next = get_or cells (64 + c % 64) 0 in
    cond (ltb (next % 64) (c % 64)) next 0

-- The cell with a key in the chain that begins with a cell; 0 if there is none. Along a chain the order falls, so a fuel of 64 is enough.
unfoldable pub chase : ℕ → List ℕ → ℕ → ℕ → ℕ
chase zero cells key c = 0
chase (suc fuel) cells key c =
    let next = get_or cells (64 + c % 64) 0 in
    cond (eqb (c / 2 ^ 12) key) c (cond (ltb (next % 64) (c % 64)) (chase fuel cells key next) 0)

unfoldable pub search : List ℕ → ℕ → ℕ
search cells key = chase 64 cells key (get_or cells (bucket_of key) 0)

-- Whether a word can be inserted: no cell has its key.
unfoldable pub insertable : ℕ → List ℕ → Bool
insertable w cells = eqb (search cells (word_key w)) 0

-- The cells with a word linked as the i-th: it becomes the head of its bucket and points to the old head.
unfoldable pub linked : ℕ → ℕ → List ℕ → List ℕ
linked w i cells =
    let bucket = bucket_of (word_key w) in
    set (set cells (64 + i) (get_or cells bucket 0)) bucket (cell_of w i)

-- The cells after an attempt to insert a word as the i-th. A word that is not insertable changes nothing.
unfoldable pub inserted : ℕ → ℕ → List ℕ → List ℕ
inserted w i cells = cond (insertable w cells) (linked w i cells) cells

-- The cells after inserting the first n words, each given by its index.
unfoldable pub inserted_before : (ℕ → ℕ) → List ℕ → ℕ → List ℕ
inserted_before word cells zero = cells
inserted_before word cells (suc n) = inserted (word n) n (inserted_before word cells n)

-- Whether the word at i is good and insertable after those before it.
unfoldable pub insertable_at : (ℕ → Bool) → (ℕ → ℕ) → List ℕ → ℕ → Bool
insertable_at good word cells i = good i && insertable (word i) (inserted_before word cells i)

-- The end of the accepted prefix: the index of the first word from i on that is not insertable, at most i + `remaining`.
unfoldable pub prefix_end : (ℕ → Bool) → (ℕ → ℕ) → List ℕ → ℕ → ℕ → ℕ
prefix_end good word cells i zero = i
prefix_end good word cells i (suc remaining) = cond (insertable_at good word cells i) (prefix_end good word cells (suc i) remaining) i

-- The length of the accepted prefix (words in range that are insertable, at most 64), and the cells after inserting it, each word as it is under
-- a revision.
unfoldable pub prefix_length : ℕ → List ℕ → List ℕ → ℕ
prefix_length revision ws cells =
    prefix_end (λ i. in_range (entry (get_or ws i 0))) (λ i. word_under revision (get_or ws i 0)) cells 0 (min 64 (length ws))

unfoldable pub inserted_words : ℕ → List ℕ → List ℕ → List ℕ
inserted_words revision ws cells = inserted_before (λ i. word_under revision (get_or ws i 0)) cells (prefix_length revision ws cells)

-- Whether a table value has at most 64 words, all are inserted, and the unused words are 0.
unfoldable pub all_inserted : ℕ → List ℕ → ℕ → List ℕ → Bool
all_inserted revision words count cells =
    let used = take count words in
    leb count 64 && eqb (prefix_length revision used cells) (length used) && all_zero (drop count words)

-- The cell of a message number and a tag; 0 where there is none. A tag over 65,535 is in no table.
unfoldable pub cell_for : List ℕ → ℕ → ℕ → ℕ
cell_for cells n t = cond (ltb t 65536) (search cells (key_of n t)) 0

-- The schema of an index.
unfoldable pub indexed : List ℕ → Schema
indexed cells = record { means = λ n t. meaning_in (cell_for cells n t); single = λ n t. single_in (cell_for cells n t) }

-- No two single tags of a message number have cells of the same order.
unfoldable pub OneOrder : List ℕ → Type 0
OneOrder cells =
    (n t u : ℕ) → single_in (cell_for cells n t) ≡ true → single_in (cell_for cells n u) ≡ true
    → order_in (cell_for cells n t) ≡ order_in (cell_for cells n u) → t ≡ u

-- Whether the tag of a cell is noted in a mask already, and the mask after noting it.
unfoldable pub noted_in : ℕ → ℕ → Bool
noted_in mask c = single_in c && has_bit mask (order_in c)

unfoldable pub note_in : ℕ → ℕ → ℕ
note_in mask c = cond (single_in c) (with_bit mask (order_in c)) mask

-- Fields that pass by a look at the first octets of their contents.
use Prim.Native.Nat.{ℕ, ◌+◌, ◌-◌, ◌≤◌, ◌<◌}
use native.Mathlib.Nat.{add-zero}
use native.Mathlib.Omega.{arith}
use mathlib.Core.Path.{◌≡◌, ap, ◌∙◌}
use mathlib.Core.Bool.{true}
use mathlib.Core.List.{List}
use lib.Bits.{bit_and}
use lib.ListN.{length, get_or, take, drop}
use lib.Seq.{get_or-drop, get_or-take}
use Rattle.octets.specs.Number.{Octets}
use Rattle.octets.proofs.Number.{octets_part}
use Rattle.octets.proofs.Text.{up_to}
use Rattle.octets.proofs.Short.{uint_by_first, int_by_second}
use Rattle.table_index.specs.internal.Cells.{meaning_of}
use Rattle.message.specs.internal.Short.{short_contents}
use Rattle.message_field.specs.internal.Nexts.{Passes}
use Rattle.message_field.proofs.Nexts.{contents_uint, contents_int, none_short, first_short, short_no_number, plain_passes, contents_length}

module _ (code : ℕ) (s : List ℕ) (a e : ℕ) (h : (a ≤ e) × (e ≤ length s)) (k : code < 4) where
  abbrev contents : List ℕ
  contents = take (e - a) (drop a s)

  -- A field that is no number.
  pub no_number_passes : (code ≡ 1 → ⊥) → (code ≡ 2 → ⊥) → Passes code a e s
  no_number_passes x y = plain_passes code s a e h k (λ l. x) (λ l. y) (short_no_number code contents k x y)

  -- A number of at most eight octets passes where they are its shortest form.
  number_passes : e - a ≤ 8 → (1 ≤ code → code ≤ 2 → short_contents (meaning_of code) contents ≡ true) → Passes code a e s
  number_passes few short =
      up_to code 0 (λ z. no_number_passes (λ x. omega arith) (λ x. omega arith))
      (λ z. up_to code 2 (λ w. plain_passes code s a e h k (λ l x. omega arith) (λ l x. omega arith) (short (omega arith) (omega arith)))
      (λ w. no_number_passes (λ x. omega arith) (λ x. omega arith)))

  pub none_passes : e - a ≡ 0 → Passes code a e s
  none_passes z = number_passes (omega arith) (λ x y. none_short code contents x y (contents_length code s a e h ∙ z))

  module _ (o : Octets s) (some : 0 < e - a) (few : e - a ≤ 8) where
    octets : Octets contents
    octets = octets_part (e - a) a s o

    size : length contents ≡ e - a
    size = contents_length code s a e h

    first_is : get_or contents 0 0 ≡ get_or s a 0
    first_is = get_or-take (e - a) (drop a s) 0 0 some ∙ get_or-drop a s 0 0 ∙ ap (λ (j : ℕ). get_or s j 0) (add-zero a)

    second_is : 2 ≤ e - a → get_or contents 1 0 ≡ get_or s (a + 1) 0
    second_is t = get_or-take (e - a) (drop a s) 1 0 (omega arith) ∙ get_or-drop a s 1 0

    -- The first octet has a bit of the magnitude.
    pub first_passes : (bit_and (get_or s a 0) 127 ≡ 0 → ⊥) → Passes code a e s
    first_passes f =
        let l = size in
        number_passes few (λ x y. first_short code contents x y octets (omega arith) (omega arith) (rw first_is f))

    pub uint_passes : code ≡ 1 → 1 ≤ get_or s a 0 → Passes code a e s
    uint_passes x f =
        let l = size in
        number_passes few (λ y z. contents_uint code contents x ∙ uint_by_first contents octets (omega arith) (omega arith) (rw first_is f))

    pub int_passes : code ≡ 2 → 2 ≤ e - a → 129 ≤ get_or s (a + 1) 0 → Passes code a e s
    int_passes x t f =
        let l = size in
        number_passes few (λ y z. contents_int code contents x ∙ int_by_second contents octets (omega arith) (omega arith) (rw (second_is t) f))

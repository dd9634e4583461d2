-- The loop invariant of writing the lines of an accepted message.
use Prim.Native.Nat.{ℕ, suc, ◌-◌, ◌≤◌}
use native.Mathlib.Omega.{arith}
use mathlib.Core.Path.{◌≡◌, refl, sym, ap, ◌∙◌, subst}
use mathlib.Core.List.{List, [], ◌++◌, append_assoc, append-nil}
use lib.ListN.{drop}
use Rattle.message.specs.internal.Accepts.{Accepts}
use Rattle.message.proofs.Accepted.{accepts_good, accepts_levels, good_accepts}
use Rattle.table.specs.Schema.{Schema}
use Rattle.table.specs.declared.Meaning.{Meaning}
use Rattle.table.specs.declared.Meaning.TheVariants.{Raw, Uint, Int, String, Text, Message}
use Rattle.message.specs.Cut.{Cut, Contents, Good}
use Rattle.message.specs.Tree.{Tree, value, tree}
use Rattle.message.proofs.Next.{Plain}
use Rattle.message_field.specs.internal.Heads.{Field, Fieldless, head_at}
use Rattle.text_window.specs.Ascii.{ascii}
use Rattle.text_window.specs.Digits.{decimal}
use Rattle.text_window.specs.Window.{Prints}
use Rattle.text_window.specs.declared.Window.{Window}
use Rattle.text_message.specs.Text.{kind_name, value_text, line, lines}
use Rattle.text_message.specs.internal.OfTree.{lines_of, direct_of}
use Rattle.text_window.proofs.Prints.{nothing, and_then, same}
use Rattle.message_field.proofs.FieldsByHead.{Remaining, all_remaining, none_remaining, field_contents, Ends, ends, leaf_next, nested_next, good_deeper}
use Rattle.text_message.proofs.CountLoop.{tree_is, direct_is}

-- The kinds other than message.
pub plain_kind : (k : Meaning) → ((m : ℕ) → k ≡ Message m → ⊥) → Plain k
unfolding Plain
plain_kind Raw o = tt
plain_kind Uint o = tt
plain_kind Int o = tt
plain_kind String o = tt
plain_kind Text o = tt
plain_kind (Message m) o = o m refl

pub lines_is : (sc : Schema) (levels n : ℕ) (s : List ℕ) (cut : Cut) → Good sc levels n s cut → lines_of sc levels n s ≡ lines (9 - levels) (tree sc n cut)
unfolding lines_of
lines_is sc levels n s cut g = tree_is (lines (9 - levels)) [] sc levels n s cut g

module _ (sc : Schema) (levels n : ℕ) (s : List ℕ) (before : Window) where
  abbrev pub whole : List ℕ
  whole = lines_of sc levels n s

  abbrev depth : ℕ
  depth = 9 - levels

  -- The loop invariant: after i octets the lines of the fields before are printed.
  pub record Progress (i : ℕ) (now : Window) : Type 0 where
    pub remaining : Remaining sc (levels - 1) n s i
    pub written : List ℕ
    pub printed : Prints before written now
    pub whole_is : whole ≡ written ++ lines depth (tree sc n remaining.rest)

  pub begun : Accepts sc levels n s → Progress 0 before
  begun a =
      let g = accepts_good sc levels n s a in
      let r = accepts_levels sc levels n s a in
      record {
        remaining = all_remaining sc (levels - 1) n s g.0 (subst (λ (r : ℕ). Good sc r n s g.0) (sym r) g.1);
        written = [];
        printed = nothing before;
        whole_is = lines_is sc levels n s g.0 g.1;
      }

  pub ended : (i : ℕ) (now : Window) → Progress i now → Fieldless (head_at i (drop i s)) → Prints before whole now
  unfolding tree lines
  ended i now p q =
      same whole
      (sym (p.whole_is ∙ ap (λ (c : Cut). p.written ++ lines depth (tree sc n c)) (none_remaining sc (levels - 1) n s i p.remaining _ refl q) ∙ append-nil p.written))
      p.printed

  module _ (i : ℕ) (now : Window) (p : Progress i now) (tag start stop : ℕ) (found : head_at i (drop i s) ≡ Field tag start stop) where
    abbrev pub contents : List ℕ
    contents = field_contents sc (levels - 1) n s i p.remaining tag start stop found

    pub next_ends : Ends sc (levels - 1) n s i p.remaining tag start stop found
    next_ends = ends sc (levels - 1) n s i p.remaining tag start stop found

    module _ (k : Meaning) (means : k ≡ sc.means n tag) (q : Plain k) where
      abbrev leaf_text : List ℕ
      leaf_text = line depth tag (kind_name (value k contents)) (value_text (value k contents))

      leaf_whole : whole ≡ p.written ++ leaf_text ++ lines depth (tree sc n (leaf_next sc (levels - 1) n s i p.remaining tag start stop found k means q).remaining.rest)
      unfolding lines
      leaf_whole =
          let x = leaf_next sc (levels - 1) n s i p.remaining tag start stop found k means q in
          p.whole_is ∙ ap (λ (t : Tree). p.written ++ lines depth t) x.tree_is
          ∙ sym (append_assoc p.written leaf_text (lines depth (tree sc n x.remaining.rest)))

      pub leaf_contents : Contents k contents
      leaf_contents = (leaf_next sc (levels - 1) n s i p.remaining tag start stop found k means q).contents

      pub leaf_written : (after : Window) → Prints now leaf_text after → Progress stop after
      leaf_written after put =
          record {
            remaining = (leaf_next sc (levels - 1) n s i p.remaining tag start stop found k means q).remaining;
            written = p.written ++ leaf_text;
            printed = and_then p.printed put;
            whole_is = leaf_whole;
          }

    module _ (k : Meaning) (means : k ≡ sc.means n tag) (few : levels ≤ 8) (m : ℕ) (q : k ≡ Message m) where
      abbrev message_text : List ℕ
      message_text = line depth tag (ascii "message") (decimal (direct_of sc m contents))

      abbrev inner_text : List ℕ
      inner_text = lines_of sc (levels - 1) m contents

      pub nested_accepts : (1 ≤ levels - 1) × Accepts sc (levels - 1) m contents × Accepts sc 8 m contents
      nested_accepts =
          let x = nested_next sc (levels - 1) n s i p.remaining tag start stop found k means m q in
          let g = good_deeper sc (levels - 1) 8 m contents x.inner (omega arith) x.good_inner in
          (x.positive, good_accepts sc (levels - 1) m contents x.inner x.good_inner, good_accepts sc 8 m contents x.inner g)

      nested_whole : whole ≡ p.written ++ message_text ++ inner_text ++ lines depth (tree sc n (nested_next sc (levels - 1) n s i p.remaining tag start stop found k means m q).remaining.rest)
      unfolding lines
      nested_whole =
          let x = nested_next sc (levels - 1) n s i p.remaining tag start stop found k means m q in
          let g = good_deeper sc (levels - 1) 8 m contents x.inner (omega arith) x.good_inner in
          let h = x.positive in
          let e : 9 - (levels - 1) ≡ suc depth = omega arith in
          let a = direct_is sc m contents x.inner g in
          let b = lines_is sc (levels - 1) m contents x.inner x.good_inner ∙ ap (λ (d : ℕ). lines d (tree sc m x.inner)) e in
          let rest = lines depth (tree sc n x.remaining.rest) in
          p.whole_is ∙ ap (λ (t : Tree). p.written ++ lines depth t) x.tree_is
          ∙ rw (← a, ← b) (sym (ap (λ (l : List ℕ). l ++ rest) (append_assoc p.written message_text inner_text) ∙ append_assoc p.written (message_text ++ inner_text) rest))

      pub nested_written : (between after : Window) → Prints now message_text between → Prints between inner_text after → Progress stop after
      nested_written between after put more-put =
          record {
            remaining = (nested_next sc (levels - 1) n s i p.remaining tag start stop found k means m q).remaining;
            written = p.written ++ message_text ++ inner_text;
            printed = and_then (and_then p.printed put) more-put;
            whole_is = nested_whole;
          }

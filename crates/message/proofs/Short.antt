-- Every control part and every number of a message is in its shortest form exactly where the message is the shortest form of its tree.
use Prim.Native.Nat.{ℕ, ◌+◌}
use native.Mathlib.Omega.{arith}
use mathlib.Core.Path.{◌≡◌, refl, sym, ap, ◌∙◌, subst}
use mathlib.Core.Bool.{Bool, ◌&&◌}
use mathlib.Core.List.{List, ◌++◌}
use lib.ListN.{length, length-append}
use lib.Seq.{take_all}
use Rattle.octets.specs.Number.{Octets}
use Rattle.octets.specs.Control.{least_control}
use Rattle.octets.specs.ControlPart.{ControlPart}
use Rattle.octets.specs.NoShorter.{NoShorter}
use Rattle.octets.specs.Short.{same, short_uint, short_int, short_part, short_control}
use Rattle.octets.proofs.Bools.{and_left, and_right, same_test}
use Rattle.octets.proofs.ControlPart.{control_exactly, least_control_least}
use Rattle.octets.proofs.Number.{octets_before, octets_after}
use Rattle.octets.proofs.Same.{same_self, same_true}
use Rattle.table.specs.Entry.{inner_of}
use Rattle.table.specs.Schema.{Schema}
use Rattle.table.specs.declared.Meaning.{Meaning}
use Rattle.table.specs.declared.Meaning.TheVariants.{Raw, Uint, Int, String, Text, Message}
use Rattle.message.specs.Cut.{Cut, end, leaf, nested, joined, WholeField, Contents, Allowed, Good}
use Rattle.message.specs.Tree.{value, tree}
use Rattle.message.specs.Shortest.{least_contents, field, shortest}
use Rattle.message.specs.internal.Short.{short_contents, short_cut}
use Rattle.message.proofs.Shortened.{lessened, short}

-- A control part is short exactly where it is the least one of its tag and length.
pub short_part_lem : (tag len : ℕ) (part : List ℕ) → ControlPart tag len part → short_control part ≡ same (least_control tag len) part
unfolding short_control short_part
short_part_lem tag len part p = rw ((control_exactly part tag len).1 p, take_all (length part) part (omega arith))

-- The contents of a field that is no message are short exactly where they are the least ones of their value.
contents_short : (k : Meaning) (b : List ℕ) → Contents k b → short_contents k b ≡ same (least_contents (value k b)) b
unfolding short_contents short_uint short_int least_contents value Contents
contents_short Raw b h = sym (same_self b)
contents_short Uint b h = refl
contents_short Int b h = refl
contents_short String b h = sym (same_self b)
contents_short Text b h = sym (same_self b)
contents_short (Message m) b h = absurd h

-- One field whose least contents are r, and the fields after it, whose shortest form is x. No part of the shortest form is longer than
-- what it stands for, so where all is the same, each part is.
field_short : (tag : ℕ) (c b r x y : List ℕ) (inner after : Bool) → WholeField tag c b → Octets c → NoShorter r b → NoShorter x y
    → inner ≡ same r b → after ≡ same x y → (short_control c && inner) && after ≡ same (field tag r ++ x) (c ++ b ++ y)
unfolding field
field_short tag c b r x y inner after w o n later is-inner is-after =
    let l = least_control tag (length b) in
    rw (short_part_lem tag (length b) c w, is-inner, is-after)
    (same_test ((same l c && same r b) && same x y) (same (field tag r ++ x) (c ++ b ++ y))
    (λ e.
    let f = and_left (same l c && same r b) (same x y) e in
    let p = same_true l c (and_left (same l c) (same r b) f) in
    let q = same_true r b (and_right (same l c) (same r b) f) in
    rw (q, p, same_true x y (and_right (same l c && same r b) (same x y) e)) (same_self (c ++ b ++ y)))
    (λ e.
    let f = ap length (same_true (field tag r ++ x) (c ++ b ++ y) e) in
    let g : length (least_control tag (length r)) + length r + length x ≡ length c + length b + length y = simp length-append at f in
    let least = least_control_least c tag (length b) (length r) o w n.long in
    let h = least.0 in
    let i = n.long in
    let j = later.long in
    let q = n.same (omega arith) in
    let p = least.1 (omega arith) (ap length q) in
    rw (← q, p, later.same (omega arith), same_self c, same_self r, same_self y) refl))

pub short_cut_lem : (sc : Schema) (cut : Cut) (n : ℕ) → Allowed sc n cut → Octets (joined cut) → short_cut sc n cut ≡ same (shortest (tree sc n cut)) (joined cut)
unfolding short_cut Allowed joined tree shortest inner_of
short_cut_lem sc end n a o = sym (same_self (joined end))
short_cut_lem sc (leaf tag c b rest) n a o =
    let f = a.0 in
    let k = sc.means n tag in
    let h = octets_before (c ++ b) (joined rest) o in
    let i = octets_after (c ++ b) (joined rest) o in
    field_short tag c b (least_contents (value k b)) (shortest (tree sc n rest)) (joined rest) (short_contents k b) (short_cut sc n rest) f.whole
    (octets_before c b h) (lessened k b (octets_after c b h) f.allowed).no_shorter (short sc rest n a.1 i).no_shorter
    (contents_short k b f.allowed) (short_cut_lem sc rest n a.1 i)
short_cut_lem sc (nested tag c inside rest) n a o =
    let m = a.0.0 in
    let f = a.0.1 in
    let b = joined inside in
    let h = octets_before (c ++ b) (joined rest) o in
    let i = octets_after (c ++ b) (joined rest) o in
    let j = octets_after c b h in
    rw f.allowed
    (field_short tag c b (shortest (tree sc m inside)) (shortest (tree sc n rest)) (joined rest) (short_cut sc m inside) (short_cut sc n rest) f.whole
    (octets_before c b h) (short sc inside m a.0.2 j).no_shorter (short sc rest n a.1 i).no_shorter
    (short_cut_lem sc inside m a.0.2 j) (short_cut_lem sc rest n a.1 i))

-- The same for a message with a good cut.
pub short_good : (sc : Schema) (levels n : ℕ) (s : List ℕ) (cut : Cut) → Octets s → Good sc levels n s cut
    → short_cut sc n cut ≡ same (shortest (tree sc n cut)) s
short_good sc levels n s cut o g =
    short_cut_lem sc cut n g.allowed (subst Octets (sym g.divides) o) ∙ ap (same (shortest (tree sc n cut))) g.divides

-- The loop invariant of `traverse`: the two invariants of the fields so far, with the tags of these fields and the mask that notes the single
-- ones.
use Prim.Native.Nat.{ℕ, ◌+◌, ◌-◌, ◌≤◌, ◌<◌, max}
use mathlib.Core.Path.{◌≡◌, sym, subst}
use mathlib.Core.Bool.{Bool, true, false, ◌&&◌}
use mathlib.Core.List.{List, [], ◌∷◌}
use lib.ListN.{length, take, drop}
use Rattle.reading.specs.internal.Verdicts.{Verdict}
use Rattle.reading.specs.internal.Verdicts.{Accepted, Refused}
use Rattle.table_index.specs.internal.Cells.{cell_for, indexed, OneOrder, note_in}
use Rattle.message.specs.Reading.{Inner, tag_at}
use Rattle.message.specs.internal.Short.{short_reading}
use Rattle.message_field.specs.internal.Nexts.{next_of, Notes}
use Rattle.message_field.specs.internal.Nexts.{Next}
use Rattle.message_field.specs.internal.Nexts.{Done, Fault, Over, Into}
use Rattle.message_field.proofs.Notes.{notes_none, notes_more}
use Rattle.message_calls.specs.internal.Verdicts.{verdict}
use Rattle.message_calls.proofs.CheckLoop as fields
use Rattle.message_calls.proofs.ShortLoop as shorts

module _ (cells : List ℕ) (levels : ℕ) (inner : Inner) (n at : ℕ) (s : List ℕ) where
  -- After i octets, with f fields so far of depth d, where t says whether they are in their shortest form.
  pub record Progress (mask i f d : ℕ) (t : Bool) : Type 0 where
    pub before : List ℕ
    pub notes : Notes cells n before mask
    pub state : fields.State cells levels inner n at s before i f d
    pub so_far : shorts.ShortSoFar cells levels inner n at s before i t

  pub started : Progress 0 0 0 1 true
  started =
      record {
        before = [];
        notes = notes_none cells n;
        state = fields.start cells levels inner n at s;
        so_far = shorts.short_start cells levels inner n at s;
      }

  -- The verdict on the message, and whether it is in its shortest form.
  pub record Answers (v : Verdict) (x : Bool) : Type 0 where
    pub verdict_is : v ≡ fields.whole cells levels inner n at s
    pub short_is : x ≡ shorts.whole_short cells levels inner n at s

  module _ (mask i f d : ℕ) (t : Bool) (now : Progress mask i f d t) where
    -- What the code finds after i octets.
    abbrev pub here : Next
    here = next_of cells levels n now.before mask s i

    pub ended : here ≡ Done → Answers (Accepted f d) t
    ended e =
        record {
          verdict_is = fields.at_end cells levels inner n at s now.before mask i f d now.state e;
          short_is = shorts.short_at_end cells levels inner n at s now.before mask i t now.so_far now.state.inside e;
        }

    pub faulted : (k : ℕ) → here ≡ Fault k → Answers (Refused k (at + i)) false
    faulted k e =
        record {
          verdict_is = fields.at_fault cells levels inner n at s now.before mask i f d now.state k e;
          short_is = shorts.short_at_fault cells levels inner n at s now.before mask i t now.so_far now.state.inside k e;
        }

    -- After a field its tag is noted.
    noted_more : OneOrder cells → (p : ℕ) → p ≡ note_in mask (cell_for cells n (tag_at (drop i s))) → Notes cells n (tag_at (drop i s) ∷ now.before) p
    noted_more one p e =
        subst (Notes cells n (tag_at (drop i s) ∷ now.before)) (sym e) (notes_more cells n now.before mask now.notes (tag_at (drop i s)) one)

    -- A field that is no message, by its end.
    module _ (e : ℕ) (b : Bool) (p : ℕ) (h : here ≡ Over e b p) where
      pub over_ends : (i < e) × (e ≤ length s)
      over_ends = fields.leaf_ends cells levels inner n at s now.before mask i f d now.state e b p h

      pub passed : OneOrder cells → Progress p e (f + 1) d (t && b)
      passed one =
          record {
            before = tag_at (drop i s) ∷ now.before;
            notes = noted_more one p (fields.found_leaf cells levels n now.before mask s i e b p h).noted_is;
            state = fields.over_leaf cells levels inner n at s now.before mask i f d now.state e b p h;
            so_far = shorts.short_leaf cells levels inner n at s now.before mask i t now.so_far now.state.inside e b p h;
          }

    -- A field that is a message, by its number and the span of its contents.
    module _ (m a e : ℕ) (b : Bool) (p : ℕ) (h : here ≡ Into m a e b p) where
      pub into_ends : (i < a) × (a ≤ e) × (e ≤ length s)
      into_ends = fields.nested_ends cells levels inner n at s now.before mask i f d now.state m a e b p h

      pub may_nest : 1 ≤ levels
      may_nest = fields.may_nest cells levels n now.before mask s i m a e b p h

      -- The verdict that the code returns for the contents.
      module _ (v : Verdict) (is : v ≡ verdict (inner m (at + i) (at + a) (take (e - a) (drop a s)))) where
        pub entered : OneOrder cells → (x : Bool) → x ≡ short_reading (indexed cells) m (inner m (at + i) (at + a) (take (e - a) (drop a s)))
            → (g y c : ℕ) → v ≡ Accepted g y → g ≤ e - a → c ≡ max d (y + 1) → Progress p e (f + (1 + g)) c (t && (b && x))
        entered one x q g y c u few k =
            record {
              before = tag_at (drop i s) ∷ now.before;
              notes = noted_more one p (fields.found_nested cells levels n now.before mask s i m a e b p h).noted_is;
              state = fields.nested_turn cells levels inner n at s now.before mask i f d now.state m a e b p h v is g y c u few k;
              so_far = shorts.short_nested cells levels inner n at s now.before mask i t now.so_far now.state.inside m a e b p h v is x q g y u;
            }

        pub inner_refused : (reason place : ℕ) → v ≡ Refused reason place → Answers (Refused reason place) false
        inner_refused reason place u =
            record {
              verdict_is = fields.nested_refusal cells levels inner n at s now.before mask i f d now.state m a e b p h v is reason place u;
              short_is = shorts.short_nested_refused cells levels inner n at s now.before mask i t now.so_far now.state.inside m a e b p h v is reason place u;
            }

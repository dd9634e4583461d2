-- Entries of which none has the fid of an earlier one: the same as that none has the fid of a later one.
use Prim.Native.Nat.{ℕ, ◌+◌, ◌≤◌}
use native.Mathlib.Omega.{arith}
use mathlib.Core.Path.{◌≡◌, refl, sym, ◌∙◌}
use mathlib.Core.Bool.{Bool, true, false, not, ◌&&◌, ◌||◌, and-true, or-false, or_assoc}
use mathlib.Core.List.{List, [], ◌∷◌, ◌++◌}
use lib.ListN.{length, length-append}
use lib.Dec.{eqb}
use borrow.Author.Tests.{not-true}
use Rattle.octets.proofs.Bools.{and_left, and_right, eqb_swap, neither_moves}
use Rattle.tib_field.specs.Fields.{EachAfter}
use Rattle.tib_dictionary.specs.Entry.{in_range, has}
use Rattle.tib_dictionary.specs.Valid.{all_good}
use Rattle.tib_dictionary.specs.Records.{Continues}
use Rattle.tib_dictionary.specs.declared.Entry.{Entry}

-- Whether each entry is in range and has a fid that none before it has.
unfoldable pub good_after : List Entry → List Entry → Bool
good_after before [] = true
good_after before (e ∷ es) = in_range e && not (has before e.fid) && good_after (before ++ (e ∷ [])) es

-- Whether none of the entries has a fid of those before.
unfoldable apart : List Entry → List Entry → Bool
apart before [] = true
apart before (e ∷ es) = not (has before e.fid) && apart before es

has_snoc : (es : List Entry) (e : Entry) (fid : ℕ) → has (es ++ (e ∷ [])) fid ≡ has es fid || eqb e.fid fid
unfolding has
has_snoc [] e fid = or-false (eqb e.fid fid)
has_snoc (x ∷ es) e fid = rw (has_snoc es e fid) (sym (or_assoc (eqb x.fid fid) (has es fid) (eqb e.fid fid)))

apart_snoc : (before : List Entry) (e : Entry) (es : List Entry) → apart (before ++ (e ∷ [])) es ≡ apart before es && not (has es e.fid)
unfolding apart has
apart_snoc before e [] = refl
apart_snoc before e (x ∷ es) =
    rw (has_snoc before e x.fid, apart_snoc before e es, eqb_swap e.fid x.fid)
    (neither_moves (has before x.fid) (eqb x.fid e.fid) (apart before es) (has es e.fid))

good_split : (before es : List Entry) → good_after before es ≡ all_good es && apart before es
unfolding good_after all_good apart
good_split before [] = refl
good_split before (e ∷ es) =
    rw (good_split (before ++ (e ∷ [])) es, apart_snoc before e es) (go (in_range e) (has before e.fid) (all_good es) (apart before es) (has es e.fid))
  where
    go : (a b c d f : Bool) → a && not b && (c && (d && not f)) ≡ a && not f && c && (not b && d)
    go false b c d f = refl
    go true true true d true = refl
    go true true true d false = refl
    go true true false d true = refl
    go true true false d false = refl
    go true false true true true = refl
    go true false true true false = refl
    go true false true false true = refl
    go true false true false false = refl
    go true false false d true = refl
    go true false false d false = refl

pub good_all : (es : List Entry) → good_after [] es ≡ all_good es
unfolding apart has
good_all es = good_split [] es ∙ rw (none es) (and-true (all_good es))
  where
    none : (fs : List Entry) → apart [] fs ≡ true
    none [] = refl
    none (f ∷ fs) = none fs

-- ---- entries that are allowed one after the other

pub good_each : (before es : List Entry) → good_after before es ≡ true → length before + length es ≤ 512 → EachAfter Continues before es
unfolding good_after EachAfter
good_each before [] g few = tt
good_each before (e ∷ es) g few =
    let here = and_left (in_range e && not (has before e.fid)) (good_after (before ++ (e ∷ [])) es) g in (
      record {
        in_range = and_left (in_range e) (not (has before e.fid)) here;
        new = not-true (has before e.fid) (and_right (in_range e) (not (has before e.fid)) here);
        few = omega arith;
      },
      good_each (before ++ (e ∷ [])) es (and_right (in_range e && not (has before e.fid)) (good_after (before ++ (e ∷ [])) es) g) (omega (arith, length-append before (e ∷ []))),
    )

pub each_good : (before es : List Entry) → EachAfter Continues before es → good_after before es ≡ true
unfolding good_after EachAfter
each_good before [] a = refl
each_good before (e ∷ es) a = rw (a.0.in_range, a.0.new, each_good (before ++ (e ∷ [])) es a.1) refl

pub each_few : (before es : List Entry) → EachAfter Continues before es → length before ≤ 512 → length before + length es ≤ 512
unfolding EachAfter
each_few before [] a h = omega arith
each_few before (e ∷ es) a h =
    let l = length-append before (e ∷ []) in
    let m = a.0.few in
    let k = each_few (before ++ (e ∷ [])) es a.1 (omega arith) in
    omega arith

use Prim.Native.Nat.{ℕ}
use native.Mathlib.Omega.{arith}
use mathlib.Core.Path.{◌≡◌, refl}
use mathlib.Core.List.{List}
use lib.ListN.{drop}
use Rattle.message_field.specs.internal.Heads.{head_at}
use Rattle.message_field.specs.internal.Heads.{Field}
use Rattle.message_calls.proofs.LookupLoop.{Onward, onward, Latest, none_yet, settled, kept, replaced}
use Rattle.message_calls.proofs.outermost.last.Goals as goal
use Rattle.message_calls.proofs.outermost.last.Goals.{In-Some}

-- A field was found.
module _ (c : In-Some) where
  abbrev s : List ℕ
  s = c.args.s.now

  abbrev tag : ℕ
  tag = c.args.tag

  abbrev i : ℕ
  i = c.loop-seen.i

  abbrev t : ℕ
  t = c.in-Some.field-0.tag

  abbrev start : ℕ
  start = c.in-Some.field-0.start

  abbrev end : ℕ
  end = c.in-Some.field-0.end

  is : head_at i (drop i s) ≡ Field t start end
  is = c.in-Some.ensures

  passed : Onward tag s i c.loop-seen.invariant.ahead t start end is
  passed = onward tag s i c.loop-seen.invariant.ahead t start end is

  abbrev state : Latest tag s i c.loop-seen.best
  state = c.loop-seen.invariant

pub loop-seen-init : goal.loop-seen-init
loop-seen-init c = none_yet c.args.tag c.args.s.now

pub loop-seen-smaller-then-seen-tag : goal.loop-seen-smaller-then-seen-tag
loop-seen-smaller-then-seen-tag c = let h = passed (goal.at.loop-seen-smaller-then-seen-tag c).In-Some in omega arith

pub loop-seen-preserved-then-seen-tag : goal.loop-seen-preserved-then-seen-tag
loop-seen-preserved-then-seen-tag c =
    let f = (goal.at.loop-seen-preserved-then-seen-tag c).In-Some in
    replaced (tag f) (s f) (i f) f.loop-seen.best (state f) (t f) (start f) (end f) (is f) c.if-seen-tag.true

pub loop-seen-smaller : goal.loop-seen-smaller
loop-seen-smaller c = let h = passed (goal.at.loop-seen-smaller c).In-Some in omega arith

pub loop-seen-preserved : goal.loop-seen-preserved
loop-seen-preserved c =
    let f = (goal.at.loop-seen-preserved c).In-Some in
    kept (tag f) (s f) (i f) f.loop-seen.best (state f) (t f) (start f) (end f) (is f) c.if-seen-tag.false

pub returns : goal.returns
returns c =
    let a = c.args in
    settled a.tag a.s.now c.loop-seen.i c.loop-seen.best c.loop-seen.invariant (head_at c.loop-seen.i (drop c.loop-seen.i a.s.now)) refl c.in_default.ensures

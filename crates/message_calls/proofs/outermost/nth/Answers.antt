use Prim.Native.Nat.{ℕ}
use native.Mathlib.Omega.{arith}
use mathlib.Core.Path.{◌≡◌, refl}
use mathlib.Core.List.{List}
use lib.ListN.{drop}
use Rattle.message_field.specs.internal.Heads.{head_at}
use Rattle.message_field.specs.internal.Heads.{Field}
use Rattle.message_calls.proofs.LookupLoop.{Onward, onward, Sought, nothing_sought, not_there, other_passed, reached, one_passed}
use Rattle.message_calls.proofs.outermost.nth.Goals as goal
use Rattle.message_calls.proofs.outermost.nth.Goals.{In-Some}

-- A field was found.
module _ (c : In-Some) where
  abbrev s : List ℕ
  s = c.args.s.now

  abbrev tag : ℕ
  tag = c.args.tag

  abbrev i : ℕ
  i = c.loop-t.i

  abbrev t : ℕ
  t = c.in-Some.field-0.tag

  abbrev start : ℕ
  start = c.in-Some.field-0.start

  abbrev end : ℕ
  end = c.in-Some.field-0.end

  is : head_at i (drop i s) ≡ Field t start end
  is = c.in-Some.ensures

  passed : Onward tag s i c.loop-t.invariant.ahead t start end is
  passed = onward tag s i c.loop-t.invariant.ahead t start end is

  abbrev k : ℕ
  k = c.args.k

  abbrev remaining : ℕ
  remaining = c.loop-t.remaining

  abbrev state : Sought tag s k i remaining
  state = c.loop-t.invariant

pub loop-t-init : goal.loop-t-init
loop-t-init c = nothing_sought c.args.tag c.args.s.now c.args.k

pub returns-then-remaining-eq0 : goal.returns-then-remaining-eq0
returns-then-remaining-eq0 c =
    let f = (goal.at.returns-then-remaining-eq0 c).In-Some in
    reached (tag f) (s f) (k f) (i f) (remaining f) (state f) (t f) (start f) (end f) (is f) c.if-t-tag.true c.if-remaining-eq0.true

pub loop-t-smaller-then-t-tag : goal.loop-t-smaller-then-t-tag
loop-t-smaller-then-t-tag c = let h = passed (goal.at.loop-t-smaller-then-t-tag c).In-Some in omega arith

pub loop-t-preserved-then-t-tag : goal.loop-t-preserved-then-t-tag
loop-t-preserved-then-t-tag c =
    let f = (goal.at.loop-t-preserved-then-t-tag c).In-Some in
    one_passed (tag f) (s f) (k f) (i f) (remaining f) (state f) (t f) (start f) (end f) (is f) c.if-t-tag.true c.if-remaining-eq0.false

pub loop-t-smaller : goal.loop-t-smaller
loop-t-smaller c = let h = passed (goal.at.loop-t-smaller c).In-Some in omega arith

pub loop-t-preserved : goal.loop-t-preserved
loop-t-preserved c =
    let f = (goal.at.loop-t-preserved c).In-Some in
    other_passed (tag f) (s f) (k f) (i f) (remaining f) (state f) (t f) (start f) (end f) (is f) c.if-t-tag.false

pub returns : goal.returns
returns c =
    let a = c.args in
    not_there a.tag a.s.now a.k c.loop-t.i c.loop-t.remaining c.loop-t.invariant (head_at c.loop-t.i (drop c.loop-t.i a.s.now)) refl c.in_default.ensures

-- What rules out each kind of wrong programs: one call, or two, and the answers that the contract fixes.
use Prim.Native.Nat.{ℕ}
use mathlib.Core.Path.{◌≡◌, sym, ◌∙◌, ap}
use mathlib.Core.Bool.{Bool, false}
use mathlib.Core.List.{List}
use lib.ListN.{get_or}
use lib.IntN.{pos, negsuc}
use lib.Dec.{T, eqb}
use borrow.Author.Tests.{eqb-false}
use Rattle.wrong_programs.specs.Kinds.{RuledOut, Rejects, Accepts, AcceptsSome, Invents, Changes, SeesOnly, Follows, Given, due}

-- A call and the answer that the contract fixes for it. The laws that follow are over such samples.
pub record Sample {A B : Type 0} (right : A → B) : Type 0 where
  pub call : A
  pub answer : B
  pub fixed : right call ≡ answer

abbrev pub given : {A B : Type 0} {fits : A → Bool} {right : Given fits → B} (value : A) (answer : B) (in_range : T (fits value))
    → right (record { value = value; in_range = in_range }) ≡ answer → Sample right
given value answer in_range fixed = record { call = record { value = value; in_range = in_range }; answer = answer; fixed = fixed }

-- The contract fixes each part of a sample's answer for its call. Where the refusal number is 0, it accepts the call.
pub fixes : {A B C : Type 0} {right : A → B} (part : B → C) (x : Sample right) → due right part (part x.answer) x.call
fixes part x = ap part x.fixed

pub rejects : {A B : Type 0} {right : A → B} (refusal : B → ℕ) (when : A → Type 0) (x : Sample right)
    → when x.call → refusal x.answer ≡ 0 → RuledOut (Rejects refusal when) right
unfolding RuledOut Rejects
rejects refusal when x w e program meets wrong = wrong x.call w (ap refusal (meets x.call ∙ x.fixed) ∙ e)

pub accepts : {A B : Type 0} {right : A → B} (refusal : B → ℕ) (when : A → Type 0) (x : Sample right)
    → when x.call → (refusal x.answer ≡ 0 → ⊥) → RuledOut (Accepts refusal when) right
unfolding RuledOut Accepts
accepts refusal when x w d program meets wrong = d (sym (ap refusal (meets x.call ∙ x.fixed)) ∙ wrong x.call w)

-- This one needs no sample: it is over all calls with the property.
pub accepts_some : {A B : Type 0} {right : A → B} (refusal : B → ℕ) (when : A → Type 0)
    → ((x : A) → when x → refusal (right x) ≡ 0 → ⊥) → RuledOut (AcceptsSome refusal when) right
unfolding RuledOut AcceptsSome
accepts_some refusal when d program meets wrong = d wrong.0 wrong.1 (sym (ap refusal (meets wrong.0)) ∙ wrong.2)

pub invents : {A B C : Type 0} {right : A → B} (part : B → C) (invented : A → C) (when : A → Type 0) (x : Sample right)
    → when x.call → (part x.answer ≡ invented x.call → ⊥) → RuledOut (Invents part invented when) right
unfolding RuledOut Invents
invents part invented when x w d program meets wrong = d (sym (ap part (meets x.call ∙ x.fixed)) ∙ wrong x.call w)

-- Nor does this one.
pub changes : {A B C : Type 0} {right : A → B} (part : B → C) (kept : A → C) (when : A → Type 0)
    → ((x : A) → when x → part (right x) ≡ kept x) → RuledOut (Changes part kept when) right
unfolding RuledOut Changes
changes part kept when leaves program meets wrong = wrong.2 (ap part (meets wrong.0) ∙ leaves wrong.0 wrong.1)

pub sees_only : {A B C D : Type 0} {right : A → B} (seen : A → C) (part : B → D) (when : A → Type 0) (x y : Sample right)
    → when x.call → when y.call → seen x.call ≡ seen y.call → (part x.answer ≡ part y.answer → ⊥)
    → RuledOut (SeesOnly seen part when) right
unfolding RuledOut SeesOnly
sees_only seen part when x y w v e d program meets wrong =
    let a = meets x.call ∙ x.fixed in
    let b = meets y.call ∙ y.fixed in
    d (sym (ap part a) ∙ wrong x.call y.call w v e ∙ ap part b)

pub follows : {A B C D : Type 0} {right : A → B} (other : B → C) (part : B → D) (when : A → Type 0) (x y : Sample right)
    → when x.call → when y.call → other x.answer ≡ other y.answer → (part x.answer ≡ part y.answer → ⊥)
    → RuledOut (Follows other part when) right
unfolding RuledOut Follows
follows other part when x y w v e d program meets wrong =
    let a = meets x.call ∙ x.fixed in
    let b = meets y.call ∙ y.fixed in
    d (sym (ap part a) ∙ wrong x.call y.call w v (ap other a ∙ e ∙ sym (ap other b)) ∙ ap part b)

-- Parts of answers that are not numbers differ: lists at a place, and integers. Numbers differ by the library's `eqb-false`.
pub differ_at : {a b : List ℕ} (i : ℕ) → eqb (get_or a i 0) (get_or b i 0) ≡ false → a ≡ b → ⊥
differ_at {a} {b} i d e = eqb-false (get_or a i 0) (get_or b i 0) d (ap (λ (s : List ℕ). get_or s i 0) e)

pub pos_differ : (m n : ℕ) → eqb m n ≡ false → pos m ≡ pos n → ⊥
pos_differ m n d e = eqb-false m n d cc

pub neg_differ : (m n : ℕ) → eqb m n ≡ false → negsuc m ≡ negsuc n → ⊥
neg_differ m n d e = eqb-false m n d cc

-- The size that a nested message announces is what gave its octets, so it is their count.
use Prim.Native.Nat.{ℕ}
use mathlib.Core.Path.{◌≡◌, sym, ap₂, ◌∙◌, subst}
use mathlib.Core.List.{List}
use lib.ListN.{length, take}
use Rattle.octets.specs.Number.{big_endian}
use Rattle.tib_rv_field.specs.declared.Sizes.{Sizes}
use Rattle.tib_rv_field.specs.Layout.{Parts, holder}
use Rattle.tib_rv_field.specs.Reading.{Into, next_field, parts_at}
use Rattle.tib_rv_field.proofs.Steps.{Counted, step_holder, parts_of_field}

module _ (s : List ℕ) (z : Sizes) (e : next_field s ≡ Into z) where
  -- Four octets or more are held, and the first four count all of them.
  pub inner_counted : Counted (parts_at s z).contents
  inner_counted =
      let h = step_holder s z e in
      let f = holder h.name h.octets_held in
      let p : parts_at s z ≡ f = ap₂ parts_at h.divides (sym h.sized) ∙ parts_of_field f h.rest in
      subst (λ (x : Parts). Counted x.contents) (sym p) h.measured

  -- A nested message announces exactly the octets that it has.
  pub inner_size : big_endian (take 4 (parts_at s z).contents) ≡ length (parts_at s z).contents
  inner_size = inner_counted.same
